use Rattle.std.proofs.Common.{◌≡◌, ◌-◌, length, take, ap, ◌∙◌, subst, arith, rules}
use Rattle.classes.specs.Letters.{turned}
use Rattle.classes.specs.Reduced.{EndsIn}
use Rattle.classes.proofs.Ends.{shortened, lengthened}
use Rattle.classes.proofs.naming.join.Goals as goal

pub returns-then-cancels : goal.returns-then-cancels
returns-then-cancels c =
    let v = c.args.word.now in
    let e : v.len - 1 ≡ length v.items - 1 = omega arith in
    let h = subst (λ w. EndsIn w (turned c.args.more)) c.deref.ensures.value c.if-cancels.ensures in
    record {
      items = c.pop.ensures.rest ∙ ap (λ n. take n v.items) e ∙ shortened v.items c.args.more c.requires.reduced h;
      bound = search rules;
      capacity = search rules;
    }

pub returns-else-cancels : goal.returns-else-cancels
returns-else-cancels c =
    let h = subst (λ w. EndsIn w (turned c.args.more) → ⊥) c.deref.ensures.value c.if-cancels.ensures in
    record {
      items = c.push_reserved.ensures.items ∙ lengthened c.args.word.now.items c.args.more c.requires.reduced h;
      bound = search rules;
      capacity = search rules;
    }
