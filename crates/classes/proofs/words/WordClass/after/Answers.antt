use Rattle.std.proofs.Common.{take, sym}
use Rattle.classes.proofs.Stored.{after_letter, after_none}
use Rattle.classes.proofs.words.WordClass.after.Goals as goal

pub returns-in-Some : goal.returns-in-Some
returns-in-Some c =
    let s = c.args.self.now in
    after_letter c.joined.result (take s.len s.letters) s.reduced c.args.crossing c.in-Some.more (sym c.in-Some.ensures) c.joined.ensures

pub returns-in-None : goal.returns-in-None
returns-in-None c =
    let s = c.args.self.now in
    after_none (take s.len s.letters) s.reduced c.args.crossing (sym c.in-None.ensures)
