use Rattle.std.proofs.Common.{vec_items, vec_len, vec_capacity, sym, ap, ◌∙◌, arith}
use Rattle.std.proofs.lemmas.List.{take_all}
use Rattle.kinds.specs.declared.crossing.Crossing.TheVariants as cross
use Rattle.classes.specs.Words.{word}
use Rattle.classes.proofs.Joins.{names_word}
use Rattle.classes.proofs.Spelled.{word_letter, word_none}
use Rattle.classes.proofs.naming.name.Goals as goal
use Rattle.classes.proofs.naming.name.Goals.{in-Some, in_default}

pub loop-crossing-preserved : goal.loop-crossing-preserved
loop-crossing-preserved c =
    let xs = c.args.crossings.now in
    let i = c.loop-crossing.crossing-index in
    let w = vec_items c.loop-crossing.word in
    let v = vec_items c.match-of.word in
    elim c.match-of.branch [
      | in-Some u ↦
          let len = ap (λ a. vec_len a) u.word-is in
          let cap = ap (λ a. vec_capacity a) u.word-is in (
            word_letter xs i cross.None w v (omega arith) c.loop-crossing.invariant.0 u.in-Some.more (sym c.of.ensures ∙ u.in-Some.is) (ap (λ a. vec_items a) u.word-is ∙ u.join.ensures.items),
            omega (arith, len, u.join.ensures.bound, c.loop-crossing.invariant.1),
            omega (arith, cap, u.join.ensures.capacity, c.loop-crossing.invariant.2),
          )
      | in_default u ↦
          let len = ap (λ a. vec_len a) u.word-is in
          let cap = ap (λ a. vec_capacity a) u.word-is in (
            word_none xs i cross.None w v (omega arith) c.loop-crossing.invariant.0 (sym c.of.ensures ∙ u.in_default.is) (ap (λ a. vec_items a) u.word-is),
            omega (arith, len, c.loop-crossing.invariant.1),
            omega (arith, cap, c.loop-crossing.invariant.2),
          )
    ]

pub returns : goal.returns
returns c = names_word c.args.crossings.now (vec_items c.loop-crossing.word) (c.loop-crossing.invariant.0 ∙ ap word (take_all c.loop-crossing.crossing-index c.args.crossings.now (omega arith)))
