use Rattle.std.proofs.Common.{take, sym, ◌∙◌, subst, arith}
use Rattle.classes.specs.Reduced.{Reduced, known, word_same}
use Rattle.classes.specs.Words.{inverse}
use Rattle.classes.proofs.Inverses.{front_turned}
use Rattle.classes.proofs.words.WordClass.inverse.Goals as goal

pub invariant_of-result : goal.invariant_of-result
invariant_of-result c =
    let s = c.args.self.now in
    let h = front_turned s.letters c.turn_round.new.word s.len c.from.result c.from.ensures (omega (arith, s.room, s.short)) c.turn_round.ensures in
    record { room = h.0 ∙ s.room; short = s.short; reduced = ∣ subst Reduced (sym h.1) (inverse (known (take s.len s.letters) s.reduced)).1 ∣₁ }

pub returns : goal.returns
returns c =
    let s = c.args.self.now in
    word_same _ _ (front_turned s.letters c.turn_round.new.word s.len c.from.result c.from.ensures (omega (arith, s.room, s.short)) c.turn_round.ensures).1
