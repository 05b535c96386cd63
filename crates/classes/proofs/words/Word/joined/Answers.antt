use Rattle.std.proofs.Common.{◌∙◌, subst, arith, length-set}
use Rattle.classes.specs.Letters.{turned}
use Rattle.classes.specs.Reduced.{EndsIn}
use Rattle.classes.proofs.Stored.{cancelled, stored, too_long, reduced_as}
use Rattle.classes.proofs.words.Word.joined.Goals as goal

pub invariant_of-result : goal.invariant_of-result
invariant_of-result c =
    let s = c.args.self.now in
    let e = cancelled s c.args.more (subst (λ w. EndsIn w (turned c.args.more)) c.as_slice.ensures c.if-cancels.ensures) in
    record { room = s.room; short = omega (arith, s.short); reduced = reduced_as s c.args.more _ e }

pub returns-then-cancels : goal.returns-then-cancels
returns-then-cancels c =
    cancelled c.args.self.now c.args.more (subst (λ w. EndsIn w (turned c.args.more)) c.as_slice.ensures c.if-cancels.ensures)

pub returns-then-is_full : goal.returns-then-is_full
returns-then-is_full c =
    too_long c.args.self.now c.args.more c.if-is_full.ensures
    (subst (λ w. EndsIn w (turned c.args.more) → ⊥) c.as_slice.ensures c.if-cancels.ensures)

pub invariant_of-result-2 : goal.invariant_of-result-2
invariant_of-result-2 c =
    let s = c.args.self.now in
    let e = stored s c.args.more c.from.result c.from.ensures c.if-is_full.ensures (subst (λ w. EndsIn w (turned c.args.more) → ⊥) c.as_slice.ensures c.if-cancels.ensures) in
    record { room = length-set s.letters c.from.result c.args.more ∙ s.room; short = omega (arith, c.if-is_full.ensures); reduced = reduced_as s c.args.more _ e }

pub returns : goal.returns
returns c =
    stored c.args.self.now c.args.more c.from.result c.from.ensures c.if-is_full.ensures
    (subst (λ w. EndsIn w (turned c.args.more) → ⊥) c.as_slice.ensures c.if-cancels.ensures)
