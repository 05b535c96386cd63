use Rattle.std.proofs.Common.{◌≡◌, ◌≤◌, length, take, vec_items, vec_len, vec_capacity}
use Rattle.classes.specs.Words.{word}
use Rattle.classes.proofs.naming.name.Given as goal

-- the word of the crossings so far, with room for one letter for each crossing that is left
abbrev pub invariant-loop-crossing : goal.invariant-loop-crossing
invariant-loop-crossing l =
    (vec_items l.word ≡ word (take l.crossing-index l.crossings))
    × (vec_len l.word ≤ l.crossing-index)
    × (length l.crossings ≤ vec_capacity l.word)
