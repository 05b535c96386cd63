-- What the key of a place is.
use Rattle.std.proofs.Common.{◌≡◌, ℕ, ◌<◌, ◌≤◌, Bool, false, List, length, Some, None, Option, Bor, Decides, MatchOption, sym, ap, ◌∙◌, inl, inr}
use Rattle.std.specs.List.{HoldsAt}
use Rattle.std.proofs.lemmas.Option.{slice_get-get_or, slice_get_past, none-some, same_Some}
use Rattle.std.proofs.lemmas.Bool.{cases_lt, false≢true}
use Rattle.kinds.specs.declared.class.Class.{Ghosts as Classes}
use Rattle.charts.specs.declared.chart.Pair.{Pair}
use Rattle.charts.specs.Charts.{Stands}
use Rattle.charts.specs.Finding.{is_pair}
use Rattle.charts.proofs.Stands.{stands_some}
use Rattle.charts.proofs.Searches.{pair_passes, passes_pair}
use Rattle.steps.specs.Keys.{pairing, pair_of, meant, pair_at}

module _ {C K : Type 0} (b : Classes C) (xs : List (Pair C K)) (i : ℕ) where
  pub pair_at-stands : (x : Pair C K) → i < length xs → Stands xs i x → pair_at b xs i ≡ Some (pair_of b x)
  pair_at-stands x lt at = ap (meant b) (slice_get-get_or xs i x lt ∙ ap Some (at x))

  pub pair_past : length xs ≤ i → pair_at b xs i ≡ None
  pair_past le = ap (meant b) (slice_get_past xs i le)

  pub at_pair : (p : ℕ) (g : b.kind.Element) → pair_at b xs i ≡ Some (pairing b p g) →
      (x : Pair C K) × (i < length xs) × Stands xs i x × (x.point ≡ p) × (b.element x.class ≡ g)
  at_pair p g e =
      elim (cases_lt i (length xs)) [
        | inl lt ↦
            let (x, at) = stands_some xs i lt in
            let pair : pair_of b x ≡ sought = same_Some (pair_of b x) sought (sym (pair_at-stands x lt at) ∙ e) in
            (x, lt, at, ap (λ m. m.0) pair, ap (λ m. m.1) pair)
        | inr le ↦ absurd (none-some sought (sym (pair_past le) ∙ e))
      ]
    where
      sought : ℕ × b.kind.Element
      sought = (p, g)

  -- whether the place holds a pair, from the test of what `get` gave
  pub item_decides : (p : ℕ) (g : b.kind.Element) (o : Option (Bor (Pair C K))) (r : Bool) → MatchOption o (length xs ≤ i) (λ x. (i < length xs) × HoldsAt (λ y. x.now ≡ y) xs i) →
      MatchOption o (r ≡ false) (λ x. r ≡ is_pair b p g x.now) → Decides r (pair_at b xs i ≡ Some (pairing b p g))
  item_decides p g None r le off = (λ t. absurd (false≢true (sym off ∙ t)), λ e. absurd (none-some (pairing b p g) (sym (pair_past le) ∙ e)))
  item_decides p g (Some x) r (lt, at) test = (
    λ t. let (e, f) = pair_passes b p g x.now (sym test ∙ t) in is ∙ λ j. Some (e j, f j),
    λ e.
        let same : pair_of b x.now ≡ pairing b p g = same_Some (pair_of b x.now) (pairing b p g) (sym is ∙ e) in
        test ∙ passes_pair b p g x.now (ap (λ m. m.0) same, ap (λ m. m.1) same),
  )
    where
      is : pair_at b xs i ≡ Some (pair_of b x.now)
      is = pair_at-stands x.now lt (λ d. sym (at d))
