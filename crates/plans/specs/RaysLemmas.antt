-- Crossings, and what a lane crosses, post by post.
use Rattle.std.specs.Prelude.{◌≡◌, ℕ, suc, ◌+◌, ◌<◌, ◌≤◌, Bool, true, false, cond, not, List, [], ◌∷◌, length, take, drop, Some, None, Option, nat_lt, slice_index_or, refl}
use Rattle.std.specs.List.{position, position_or_len}
use Rattle.std.proofs.Common.{ap, sym, ◌∙◌, inl, inr, arith}
use Rattle.std.proofs.lemmas.List.{at_drop_more, at_drop_all, get_or-take, get_or_past, length-take}
use Rattle.std.proofs.lemmas.Bool.{cond-true, cond-false, lt-ltb, le-ltb, cases_lt}
use Rattle.kinds.specs.declared.crossing.Crossing.{Crossing}
use Rattle.kinds.specs.declared.crossing.Crossing.TheVariants as cross
use Rattle.kinds.specs.Crossings.{other_way}
use Rattle.plans.specs.declared.plan.Post.{Post}
use Rattle.plans.specs.Rays.{crossings, ahead}
use Rattle.plans.specs.Grids.{over, eastward}

pub other_way-other_way : (x : Crossing) → other_way (other_way x) ≡ x
other_way-other_way cross.None = refl
other_way-other_way (cross.Forwards r) = refl
other_way-other_way (cross.Backwards r) = refl

-- a lane crosses the first ray that it meets
first : (b : Bool) (k m l : ℕ) (x : Crossing) → x ≡ cond (nat_lt m l) (ahead (k + 1 + m)) cross.None
    → cond b (ahead k) x ≡ cond (nat_lt (cond (not b) (1 + m) 0) (suc l)) (ahead (k + cond (not b) (1 + m) 0)) cross.None
first true k m l x e =
    let z : k ≡ k + 0 = omega arith in
    ap ahead z ∙ sym (cond-true (nat_lt 0 (suc l)) (ahead (k + 0)) cross.None (lt-ltb 0 (suc l) (omega arith)))
first false k m l x e =
    let z : k + 1 + m ≡ k + (1 + m) = omega arith in
    let same : nat_lt m l ≡ nat_lt (1 + m) (suc l) = elim (cases_lt m l) [
      | inl h ↦ lt-ltb m l h ∙ sym (lt-ltb (1 + m) (suc l) (omega arith))
      | inr h ↦ le-ltb m l h ∙ sym (le-ltb (1 + m) (suc l) (omega arith))
    ] in
    e ∙ (λ i. cond (same i) (ahead (z i)) cross.None)

first_of : (k : ℕ) (ps : List Post) (c y : ℕ)
    → eastward k ps c y ≡ cond (nat_lt (position_or_len (λ p. over p c y) ps) (length ps)) (ahead (k + position_or_len (λ p. over p c y) ps)) cross.None
first_of k [] c y = refl
first_of k (p ∷ ps) c y = first (over p c y) k (position_or_len (λ p. over p c y) ps) (length ps) (eastward (k + 1) ps c y) (first_of (k + 1) ps c y)

-- the ray at a place among rays numbered from k on
abbrev pub ray_at : ℕ → Option ℕ → Crossing
ray_at k (Some i) = ahead (k + i)
ray_at k None = cross.None

pub eastward_first : (k : ℕ) (ps : List Post) (c y : ℕ) → eastward k ps c y ≡ ray_at k (position (λ p. over p c y) ps)
eastward_first k ps c y =
    let n = position_or_len (λ p. over p c y) ps in
    let same : (b : Bool) → cond b (ahead (k + n)) cross.None ≡ ray_at k (cond b (Some n) None) = elim [ true ↦ refl | false ↦ refl ] in
    first_of k ps c y ∙ same (nat_lt n (length ps))

-- past seven there are no rays
pub ahead_past : (k : ℕ) → 8 ≤ k → ahead k ≡ cross.None
ahead_past k h = get_or_past crossings k cross.None h

pub eastward_past : (k : ℕ) (ps : List Post) (c y : ℕ) → 8 ≤ k → eastward k ps c y ≡ cross.None
eastward_past k [] c y h = refl
eastward_past k (p ∷ ps) c y h =
    let a = ahead_past k h in
    let b = eastward_past (k + 1) ps c y (omega arith) in
    same (over p c y) a b
  where
    same : (b : Bool) {x y : _} → x ≡ cross.None → y ≡ cross.None → cond b x y ≡ cross.None
    same true e f = e
    same false e f = f

module _ (n : ℕ) (ps : List Post) (i c y : ℕ) (d : Post) where
  -- the first of the posts that are left
  step : i < n → i < length ps → eastward (i + 1) (drop i (take n ps)) c y ≡ cond (over (slice_index_or ps i d) c y) (ahead (i + 1)) (eastward (i + 1 + 1) (drop (i + 1) (take n ps)) c y)
  step l m =
      at_drop_more (λ qs. eastward (i + 1) qs c y) (take n ps) i d (simp length-take (omega arith))
      ∙ ap (λ (q : Post). cond (over q c y) (ahead (i + 1)) (eastward (i + 1 + 1) (drop (i + 1) (take n ps)) c y)) (get_or-take n ps i d l)

  pub eastward_here : i < n → i < length ps → over (slice_index_or ps i d) c y ≡ true → eastward (i + 1) (drop i (take n ps)) c y ≡ ahead (i + 1)
  eastward_here l m e = step l m ∙ cond-true (over (slice_index_or ps i d) c y) (ahead (i + 1)) (eastward (i + 1 + 1) (drop (i + 1) (take n ps)) c y) e

  pub eastward_more : i < n → i < length ps → over (slice_index_or ps i d) c y ≡ false → eastward (i + 1) (drop i (take n ps)) c y ≡ eastward (i + 1 + 1) (drop (i + 1) (take n ps)) c y
  eastward_more l m e = step l m ∙ cond-false (over (slice_index_or ps i d) c y) (ahead (i + 1)) (eastward (i + 1 + 1) (drop (i + 1) (take n ps)) c y) e

  -- after the last post
  pub eastward_none : (k : ℕ) → n ≤ i → eastward k (drop i (take n ps)) c y ≡ cross.None
  eastward_none k l = at_drop_all (λ qs. eastward k qs c y) (take n ps) i (simp length-take (omega arith))
