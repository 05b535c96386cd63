-- Where a run has come to, one lane on.
use Rattle.std.proofs.Common.{◌≡◌, ℕ, ◌+◌, ◌<◌, List, [], ◌∷◌, ◌++◌, length, get_or, take, Some, None, Ok, Err, Result, MatchResult, IsErrAnd, sym, ap, ◌∙◌, subst, inl, inr, arith}
use lib.Seq.{take-append-le}
use Rattle.std.proofs.lemmas.List.{take_all, take_more, length_push, get_or_default}
use Rattle.std.proofs.lemmas.Bool.{cases_lt}
use Rattle.kinds.specs.declared.lane.Lane.{Lane}
use Rattle.kinds.specs.declared.map.Map.{Ghosts as Maps}
use Rattle.kinds.specs.declared.class.Class.{Ghosts as Classes}
use Rattle.kinds.specs.declared.cost.Cost.{Ghosts as Costs}
use Rattle.kinds.specs.declared.pricing.Along.{Along}
use Rattle.kinds.specs.declared.pricing.Halt.{Halt}
use Rattle.kinds.specs.declared.pricing.Halt.TheVariants.{NoLane, NotHeld}
use Rattle.kinds.specs.declared.pricing.Unpriced.{Unpriced}
use Rattle.kinds.specs.declared.pricing.Unpriced.TheVariants.{LaneMissing, ClassNotHeld}
use Rattle.kinds.specs.Maps.{LawfulLanes}
use Rattle.kinds.specs.Classes.{ClassKind, crossed}
use Rattle.kinds.specs.Runs.{Run, class_of}
use Rattle.kinds.specs.Pricing.{HeldAlong, halted_at, Stepped, At, Prices}
use Rattle.kinds.proofs.Runs.{run_push, class_push, cost_push}

module _ (G : ClassKind) where
  pub held_none : HeldAlong G []
  held_none i p = subst (λ ls. G.Held (class_of G ls)) (sym (take_all i [] (omega arith))) G.unit_held

  pub held_push : (ls : List Lane) (l : Lane) → HeldAlong G ls → G.Held (class_of G (ls ++ (l ∷ []))) → HeldAlong G (ls ++ (l ∷ []))
  held_push ls l h k i p =
      elim (cases_lt (length ls) i) [
        | inl q ↦ subst (λ ks. G.Held (class_of G ks)) (sym (take_all i (ls ++ (l ∷ [])) (omega (arith, length_push ls l)))) k
        | inr q ↦ subst (λ ks. G.Held (class_of G ks)) (sym (take-append-le i ls (l ∷ []) q)) (h i q)
      ]

module _ {M C K : Type 0} (a : Maps M) (b : Classes C) (c : Costs K) (m : M) (w : LawfulLanes (a.site m)) (held : (x : C) → b.kind.Held (b.element x))
    (p : ℕ) (ns : List ℕ) (i d : ℕ) (q : i < length ns) (ls : List Lane) (from : Along C K) (h : At a b c m p (take i ns) ls from) where
  -- the lanes so far, and one more
  more : (l : Lane) → (a.site m).lane from.end (get_or ns i d) ≡ Some l → Run (a.site m) p (take (i + 1) ns) (ls ++ (l ∷ [])) l.to
  more l e =
      subst (λ xs. Run (a.site m) p xs (ls ++ (l ∷ [])) l.to) (sym (take_more ns i d q))
      (run_push (a.site m) w p (take i ns) ls from.end (get_or ns i d) l h.0 e)

  joined : (l : Lane) → class_of b.kind (ls ++ (l ∷ [])) ≡ b.kind.mul (b.element from.class) (crossed b.kind l.crossing)
  joined l = class_push b.kind ls l ∙ ap (λ g. b.kind.mul g (crossed b.kind l.crossing)) (sym h.2)

  pub at_more : (to : Along C K) → Stepped a b c m from (get_or ns i d) (Ok to) → (ks : List Lane) × At a b c m p (take (i + 1) ns) ks to
  at_more to (l, e, f, g, k) =
      let class = g ∙ sym (joined l) in (
        ls ++ (l ∷ []),
        (
          subst (λ x. Run (a.site m) p (take (i + 1) ns) (ls ++ (l ∷ [])) x) (sym f) (more l e),
          held_push b.kind ls l h.1 (subst b.kind.Held class (held to.class)),
          class,
          k ∙ ap (λ x. c.costs.plus x (c.costs.of l.length l.risk)) h.3 ∙ sym (cost_push c.costs ls l),
        ),
      )

  pub missing_lane : Stepped a b c m from (get_or ns i d) (Err NoLane) → Prices a b c m p ns (Err (LaneMissing i))
  missing_lane e = (q, (ls, from.end, h.0, h.1, λ x. subst (λ n. (a.site m).lane from.end n ≡ None) (get_or_default ns i d x q) e))

  pub class_not_held : Stepped a b c m from (get_or ns i d) (Err NotHeld) → Prices a b c m p ns (Err (ClassNotHeld (i + 1)))
  class_not_held (l, e, f) = (omega arith, (ls, l, l.to, more l e, h.1, λ k. f (subst b.kind.Held (joined l) k)))

  halted : (h : Halt) → Stepped a b c m from (get_or ns i d) (Err h) → Prices a b c m p ns (Err (halted_at h i))
  halted NoLane e = missing_lane e
  halted NotHeld e = class_not_held e

  -- what a step says of the run so far, or of the run as a whole
  pub stepped_on : (r : Result (Along C K) Halt) (s : Result (Along C K) Unpriced) (Q : Halt → Unpriced → Type 0) → Stepped a b c m from (get_or ns i d) r →
      MatchResult r (λ to. s ≡ Ok to) (λ h. IsErrAnd s (Q h)) → ((h : Halt) (e : Unpriced) → Q h e → e ≡ halted_at h i) →
      MatchResult s (λ to. (ks : List Lane) × At a b c m p (take (i + 1) ns) ks to) (λ e. Prices a b c m p ns (Err e))
  stepped_on (Ok x) (Ok y) Q t e k = subst (λ z. (ks : List Lane) × At a b c m p (take (i + 1) ns) ks z) (cc e) (at_more x t)
  stepped_on (Ok x) (Err f) Q t e k = absurd (cc e)
  stepped_on (Err h) (Ok y) Q t e k = absurd e
  stepped_on (Err h) (Err f) Q t e k = subst (λ z. Prices a b c m p ns (Err z)) (sym (k h f e)) (halted h t)
