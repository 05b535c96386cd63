-- The pairs of places as keys of the index. Assumes nothing.
--     pair_hash p d     the hash of a point p and the hash d of a class
--     pair_keys b       pairs as keys: a key means its point and the element of its class
--     pairing b p g     the point p together with the class g
--     pair_of b x       what the pair x means
--     pair_at b xs i    what the pair at the place i of xs means; none past the end
use Rattle.std.specs.Prelude.{ℕ, ◌+◌, ◌*◌, ◌/◌, ◌%◌, ◌^◌, List, Some, None, Option}
use Rattle.std.specs.List.{slice_get}
use Rattle.kinds.specs.declared.class.Class.{Ghosts as Classes}
use Rattle.tables.specs.Probes.{KeyKind}
use Rattle.charts.specs.declared.chart.Pair.{Pair}

abbrev pub pair_hash : ℕ → ℕ → ℕ
pair_hash p d = ((((d * 4099) % 2 ^ 32 + p) % 2 ^ 32) * 2654435761) % 2 ^ 32 / 65536

module _ {C : Type 0} (b : Classes C) where
  abbrev pub pair_keys : KeyKind
  pair_keys = record { Meaning = ℕ × b.kind.Element; hash = λ m. pair_hash m.0 (b.digested m.1) }

  abbrev pub pairing : ℕ → b.kind.Element → ℕ × b.kind.Element
  pairing p g = (p, g)

  abbrev pub pair_of : {K : Type 0} → Pair C K → ℕ × b.kind.Element
  pair_of x = pairing x.point (b.element x.class)

  abbrev pub meant : {K : Type 0} → Option (Pair C K) → Option (ℕ × b.kind.Element)
  meant None = None
  meant (Some x) = Some (pair_of x)

  abbrev pub pair_at : {K : Type 0} → List (Pair C K) → ℕ → Option (ℕ × b.kind.Element)
  pair_at xs i = meant (slice_get xs i)
