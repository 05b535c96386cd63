-- How a list of characters is read as crossings. Assumes nothing.
--     ReadAll cs room xs r     reading cs answers r and leaves the crossings xs, where there was room for so many:
--                              all of them, or those before the first character that stands for none, or none for want of memory
use Rattle.std.specs.Prelude.{◌≡◌, ℕ, ◌<◌, List, [], map, length, take, Ok, Err, Result, ◌≢◌, slice_index}
use Rattle.kinds.specs.declared.crossing.Crossing.{Crossing}
use Rattle.classes.specs.declared.symbols.Unread.{Unread}
use Rattle.classes.specs.declared.symbols.Unread.TheVariants.{Symbol, Memory}
use Rattle.kinds.specs.Symbols.{symbol_of}

abbrev pub ReadAll : List ℕ → ℕ → List Crossing → Result (Unit {0}) Unread → Type 0
ReadAll cs room xs (Ok u) = map symbol_of xs ≡ cs
ReadAll cs room xs (Err (Symbol place symbol)) =
    (place < length cs) × (slice_index cs place ≡ symbol) × (map symbol_of xs ≡ take place cs) × ((x : Crossing) → symbol_of x ≢ symbol)
ReadAll cs room xs (Err Memory) = (xs ≡ []) × (room < length cs)
