-- Linear probing over slots, where 0 is vacant and k + 1 names the place k. Assumes nothing.
--     KeyKind             what keys mean, and the hash of each meaning
--     way_at n h j        the slot at step j of the way of the hash h, over n slots
--     on_way slots h j    the entry of that slot
--     Met slots h i j     the slot i is at step j of the way of the hash h, and no slot before it is vacant
use Rattle.std.specs.Prelude.{◌≡◌, ℕ, ◌+◌, ◌%◌, ◌<◌, List, length, ◌≢◌, slice_index}

pub record KeyKind : Type 1 where
  pub Meaning : Type 0
  pub hash : Meaning → ℕ

abbrev pub way_at : ℕ → ℕ → ℕ → ℕ
way_at n h j = (h + j) % n

abbrev pub on_way : List ℕ → ℕ → ℕ → ℕ
on_way slots h j = slice_index slots (way_at (length slots) h j)

pub record Met (slots : List ℕ) (h i j : ℕ) : Type 0 where
  pub within : j < length slots
  pub here : i ≡ way_at (length slots) h j
  pub before : (m : ℕ) → m < j → on_way slots h m ≢ 0
