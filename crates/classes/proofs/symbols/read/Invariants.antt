use Rattle.std.proofs.Common.{◌≡◌, ◌≤◌, map, length, take, vec_items, vec_len, vec_capacity}
use Rattle.kinds.specs.Symbols.{symbol_of}
use Rattle.classes.proofs.symbols.read.Given as goal

-- the crossings of the characters so far, with room for those that are left
abbrev pub invariant-loop-place : goal.invariant-loop-place
invariant-loop-place l =
    (map symbol_of (vec_items l.crossings) ≡ take l.place-counter l.symbols)
    × (vec_len l.crossings ≡ l.place-counter)
    × (length l.symbols ≤ vec_capacity l.crossings)
