use Rattle.std.proofs.Common.{◌≡◌, drop, map, take}
use Rattle.classes.specs.Letters.{turned}
use Rattle.classes.proofs.spelling.turn_each.Given as goal

-- the letters so far are turned, and the others are as they were
abbrev pub invariant-loop-letter : goal.invariant-loop-letter
invariant-loop-letter l =
    (take l.letter-index l.word ≡ map turned (take l.letter-index l.fn.word))
    × (drop l.letter-index l.word ≡ drop l.letter-index l.fn.word)
