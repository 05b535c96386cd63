-- Total orders made from others. Assumes nothing.
--     numbers          by size
--     bits             false before true
--     pairs o q        by the first part, then by the second
--     lists o          by the first place that differs; a list stands before those that it begins
--     keyed f t o      by a key f that tells elements apart, as t shows
use Rattle.std.specs.Prelude.{◌≡◌, ℕ, ◌<◌, Bool, true, false, ◌⊎◌, List, [], ◌∷◌, refl}
use Rattle.std.specs.declared.cmp.Ordering.TheVariants.{Less, Equal, Greater}
use Rattle.std.specs.declared.cmp.Ordering.{Ordering}
use Rattle.std.proofs.Common.{sym, ap, subst, ◌∙◌, true≢false, inl, inr}
use Rattle.std.specs.Ordering.{ordering_reverse, ordering_then, is_lt, is_eq, MatchOrdering, nat_cmp, bool_cmp}
use Rattle.std.specs.Cmp.{ranks, tied_itself, nat_cmp_total, bool_cmp_total}
use Rattle.kinds.specs.Orders.{Ordered}

-- the three answers differ
pub less≢equal : Less ≡ Equal → ⊥
less≢equal e = true≢false (ap is_lt e)

pub less≢greater : Less ≡ Greater → ⊥
less≢greater e = true≢false (ap is_lt e)

pub equal≢greater : Equal ≡ Greater → ⊥
equal≢greater e = true≢false (ap is_eq e)

-- numbers
pub number_same : (m n : ℕ) → nat_cmp m n ≡ Equal → m ≡ n
number_same m n e = subst (λ r. MatchOrdering r (m < n) (m ≡ n) (n < m)) e (ranks m n)

pub number_itself : (n : ℕ) → nat_cmp n n ≡ Equal
number_itself n = tied_itself nat_cmp_total n

abbrev pub numbers : Ordered ℕ
numbers = record { cmp = nat_cmp; same = number_same; itself = number_itself; flip = nat_cmp_total.antisymm; trans = nat_cmp_total.trans }

-- bits
pub bit_same : (a b : Bool) → bool_cmp a b ≡ Equal → a ≡ b
bit_same false false e = refl
bit_same false true e = absurd (less≢equal e)
bit_same true false e = absurd (equal≢greater (sym e))
bit_same true true e = refl

pub bit_itself : (a : Bool) → bool_cmp a a ≡ Equal
bit_itself false = refl
bit_itself true = refl

abbrev pub bits : Ordered Bool
bits = record { cmp = bool_cmp; same = bit_same; itself = bit_itself; flip = bool_cmp_total.antisymm; trans = bool_cmp_total.trans }

-- a comparison in two parts
pub then_equal : (r s : Ordering) → ordering_then r s ≡ Equal → (r ≡ Equal) × (s ≡ Equal)
then_equal Less s h = absurd (less≢equal h)
then_equal Equal s h = (refl, h)
then_equal Greater s h = absurd (equal≢greater (sym h))

pub then_less : (r s : Ordering) → ordering_then r s ≡ Less → (r ≡ Less) ⊎ ((r ≡ Equal) × (s ≡ Less))
then_less Less s h = inl refl
then_less Equal s h = inr (refl, h)
then_less Greater s h = absurd (less≢greater (sym h))

pub then_reversed : (r s : Ordering) → ordering_then (ordering_reverse r) (ordering_reverse s) ≡ ordering_reverse (ordering_then r s)
then_reversed Less s = refl
then_reversed Equal s = refl
then_reversed Greater s = refl

module _ {X : Type 0} (o : Ordered X) where
  pub then_itself : (x : X) (s : Ordering) → ordering_then (o.cmp x x) s ≡ s
  then_itself x s = ap (λ r. ordering_then r s) (o.itself x)

  pub then_flip : (x y : X) (s t : Ordering) → s ≡ ordering_reverse t → ordering_then (o.cmp x y) s ≡ ordering_reverse (ordering_then (o.cmp y x) t)
  then_flip x y s t e = (λ i. ordering_then (o.flip x y i) (e i)) ∙ then_reversed (o.cmp y x) t

  pub then_trans : (x y z : X) (s t u : Ordering) → (s ≡ Less → t ≡ Less → u ≡ Less) → ordering_then (o.cmp x y) s ≡ Less → ordering_then (o.cmp y z) t ≡ Less → ordering_then (o.cmp x z) u ≡ Less
  then_trans x y z s t u f h k = go (then_less (o.cmp x y) s h) (then_less (o.cmp y z) t k)
    where
      first : o.cmp x z ≡ Less → ordering_then (o.cmp x z) u ≡ Less
      first e = ap (λ r. ordering_then r u) e

      go : (o.cmp x y ≡ Less) ⊎ ((o.cmp x y ≡ Equal) × (s ≡ Less)) → (o.cmp y z ≡ Less) ⊎ ((o.cmp y z ≡ Equal) × (t ≡ Less)) → ordering_then (o.cmp x z) u ≡ Less
      go (inl a) (inl b) = first (o.trans x y z a b)
      go (inl a) (inr b) = first (subst (λ w. o.cmp x w ≡ Less) (o.same y z b.0) a)
      go (inr a) (inl b) = first (subst (λ w. o.cmp w z ≡ Less) (sym (o.same x y a.0)) b)
      go (inr a) (inr b) = ap (λ w. ordering_then (o.cmp x w) u) (sym (o.same x y a.0 ∙ o.same y z b.0)) ∙ then_itself x u ∙ f a.1 b.1

-- pairs
module _ {X Y : Type 0} (o : Ordered X) (q : Ordered Y) where
  abbrev pub by_pair : X × Y → X × Y → Ordering
  by_pair x y = ordering_then (o.cmp x.0 y.0) (q.cmp x.1 y.1)

  pub pair_same : (x y : X × Y) → by_pair x y ≡ Equal → x ≡ y
  pair_same x y h =
      let s = then_equal (o.cmp x.0 y.0) (q.cmp x.1 y.1) h in
      λ i. (o.same x.0 y.0 s.0 i, q.same x.1 y.1 s.1 i)

  pub pair_itself : (x : X × Y) → by_pair x x ≡ Equal
  pair_itself x = then_itself o x.0 (q.cmp x.1 x.1) ∙ q.itself x.1

  pub pair_flip : (x y : X × Y) → by_pair x y ≡ ordering_reverse (by_pair y x)
  pair_flip x y = then_flip o x.0 y.0 (q.cmp x.1 y.1) (q.cmp y.1 x.1) (q.flip x.1 y.1)

  pub pair_trans : (x y z : X × Y) → by_pair x y ≡ Less → by_pair y z ≡ Less → by_pair x z ≡ Less
  pair_trans x y z = then_trans o x.0 y.0 z.0 (q.cmp x.1 y.1) (q.cmp y.1 z.1) (q.cmp x.1 z.1) (q.trans x.1 y.1 z.1)

  abbrev pub pairs : Ordered (X × Y)
  pairs = record { cmp = by_pair; same = pair_same; itself = pair_itself; flip = pair_flip; trans = pair_trans }

-- lists
module _ {X : Type 0} (o : Ordered X) where
  abbrev pub by_list : List X → List X → Ordering
  by_list [] [] = Equal
  by_list [] (y ∷ ys) = Less
  by_list (x ∷ xs) [] = Greater
  by_list (x ∷ xs) (y ∷ ys) = ordering_then (o.cmp x y) (by_list xs ys)

  pub list_same : (xs ys : List X) → by_list xs ys ≡ Equal → xs ≡ ys
  list_same [] [] h = refl
  list_same [] (y ∷ ys) h = absurd (less≢equal h)
  list_same (x ∷ xs) [] h = absurd (equal≢greater (sym h))
  list_same (x ∷ xs) (y ∷ ys) h =
      let s = then_equal (o.cmp x y) (by_list xs ys) h in
      λ i. o.same x y s.0 i ∷ list_same xs ys s.1 i

  pub list_itself : (xs : List X) → by_list xs xs ≡ Equal
  list_itself [] = refl
  list_itself (x ∷ xs) = then_itself o x (by_list xs xs) ∙ list_itself xs

  pub list_flip : (xs ys : List X) → by_list xs ys ≡ ordering_reverse (by_list ys xs)
  list_flip [] [] = refl
  list_flip [] (y ∷ ys) = refl
  list_flip (x ∷ xs) [] = refl
  list_flip (x ∷ xs) (y ∷ ys) = then_flip o x y (by_list xs ys) (by_list ys xs) (list_flip xs ys)

  pub list_trans : (xs ys zs : List X) → by_list xs ys ≡ Less → by_list ys zs ≡ Less → by_list xs zs ≡ Less
  list_trans [] [] zs h k = absurd (less≢equal (sym h))
  list_trans [] (y ∷ ys) [] h k = absurd (less≢greater (sym k))
  list_trans [] (y ∷ ys) (z ∷ zs) h k = refl
  list_trans (x ∷ xs) [] zs h k = absurd (less≢greater (sym h))
  list_trans (x ∷ xs) (y ∷ ys) [] h k = absurd (less≢greater (sym k))
  list_trans (x ∷ xs) (y ∷ ys) (z ∷ zs) h k =
      then_trans o x y z (by_list xs ys) (by_list ys zs) (by_list xs zs) (list_trans xs ys zs) h k

  abbrev pub lists : Ordered (List X)
  lists = record { cmp = by_list; same = list_same; itself = list_itself; flip = list_flip; trans = list_trans }

-- keys
abbrev pub keyed : {X Y : Type 0} (f : X → Y) → ((x y : X) → f x ≡ f y → x ≡ y) → Ordered Y → Ordered X
keyed f t o = record {
  cmp = λ x y. o.cmp (f x) (f y);
  same = λ x y e. t x y (o.same (f x) (f y) e);
  itself = λ x. o.itself (f x);
  flip = λ x y. o.flip (f x) (f y);
  trans = λ x y z. o.trans (f x) (f y) (f z);
}
