use Rattle.std.proofs.Common.{◌≡◌, length, replicate, ap, ◌∙◌, arith, rules}
use Rattle.std.proofs.lemmas.Result.{err_from_is_err_and}
use Rattle.plans.proofs.reading.read_guarded.Goals as goal

pub read_kind-requires : goal.read_kind-requires
read_kind-requires c =
    let zero : c.fill.new.self ≡ replicate (length c.args.memory.now) 0 = search rules in
    (c.requires.0, (zero ∙ ap (λ n. replicate n 0) c.requires.1.0, c.clear.ensures ∙ ap (λ n. replicate n 0) c.requires.1.1))

pub returns-in_err-plan-clause-said : goal.returns-in_err-plan-clause-said
returns-in_err-plan-clause-said c =
    let p = err_from_is_err_and c.from_residual.result c.from_residual.ensures.1 in
    let long : length c.read_kind.new.memory ≡ 10240 = omega arith in
    rw (p.1, p.2) (c.in_err-plan.ensures.said, c.drop-guard.ensures ∙ ap (λ n. replicate n 0) long)
