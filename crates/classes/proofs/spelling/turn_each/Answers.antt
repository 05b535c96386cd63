use Rattle.std.proofs.Common.{arith}
use Rattle.classes.proofs.Inverses.{turned_more}
use Rattle.classes.proofs.spelling.turn_each.Goals as goal

pub loop-letter-preserved : goal.loop-letter-preserved
loop-letter-preserved c =
    turned_more c.args.word.now c.loop-letter.word c.loop-letter.letter-index c.opposite.result (omega arith) (omega arith) c.loop-letter.invariant.0 c.loop-letter.invariant.1 c.opposite.ensures
