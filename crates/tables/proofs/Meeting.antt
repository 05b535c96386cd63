-- Slots that are met on a way, and stay so while no taken slot becomes vacant.
use Rattle.std.proofs.Common.{◌≡◌, ℕ, ◌+◌, ◌<◌, List, length, get_or, sym, ap, ◌∙◌, inl, inr, arith}
use Rattle.std.proofs.lemmas.List.{get_or_past}
use Rattle.std.proofs.lemmas.Bool.{cases_lt}
use Rattle.tables.specs.Probes.{Met, way_at}
use Rattle.tables.specs.Indexes.{Names}
use Rattle.tables.proofs.Ways.{way_within}

-- a slot that is met is one of the slots
pub met_within : (slots : List ℕ) (h i j : ℕ) → Met slots h i j → i < length slots
met_within slots h i j met =
    let p : 0 < length slots = omega (arith, met.within) in
    let e : i ≡ way_at (length slots) h j = met.here in
    omega (arith, way_within (length slots) h j p)

-- what was met is met in slots where those that were taken are taken
pub met_kept : (from to : List ℕ) (h i j : ℕ) → length to ≡ length from →
    ((q : ℕ) → (get_or from q 0 ≡ 0 → ⊥) → get_or to q 0 ≡ 0 → ⊥) → Met from h i j → Met to h i j
met_kept from to h i j e taken met = record {
  within = omega (arith, met.within);
  here = met.here ∙ ap (λ n. way_at n h j) (sym e);
  before = λ q lt vacant. taken (way_at (length from) h q) (met.before q lt) (ap (λ n. get_or to (way_at n h q) 0) (sym e) ∙ vacant);
}

-- a slot that names a place is one of the slots
pub names_within : (slots : List ℕ) (i k : ℕ) → Names slots i k → i < length slots
names_within slots i k names =
    elim (cases_lt i (length slots)) [
      | inl lt ↦ lt
      | inr ge ↦ let e : k + 1 ≡ 0 = sym names ∙ get_or_past slots i 0 ge in absurd (omega arith)
    ]
