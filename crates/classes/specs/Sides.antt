-- The class kind of sides: for each ray, whether it was crossed an odd number of times. Assumes nothing.
--     Parities         for each ray, odd or not
--     sides            the class kind: parities, all held; the first differing ray decides, even first
--     crossings r xs   how many of the crossings xs cross the ray r, either way
--     odd n            whether n is odd
--     stored xs        the parities that a list of seven bits means
--     Tells xs f       f has for each ray whether xs crosses it an odd number of times
--     bit_of b         1 for true, 0 for false
--     digest_of f      the hash of parities: their bits as a number, ray 1 the lowest
use Rattle.std.specs.Prelude.{◌≡◌, ℕ, ◌+◌, ◌-◌, ◌*◌, ◌%◌, Bool, true, false, cond, not, List, [], ◌∷◌, map, get_or, ◌==◌, slice_index_or, refl}
use Rattle.std.proofs.Common.{ap}
use Rattle.kinds.specs.declared.crossing.Ray.{Ray}
use Rattle.kinds.specs.declared.crossing.Ray.TheVariants.{One, Two, Three, Four, Five, Six, Seven}
use Rattle.kinds.specs.declared.crossing.Crossing.{Crossing}
use Rattle.kinds.specs.declared.crossing.Crossing.TheVariants as cross
use Rattle.kinds.specs.Crossings.{numbered}
use Rattle.kinds.specs.Comparisons.{bits, lists, keyed}
use Rattle.kinds.specs.Classes.{ClassKind}

abbrev pub Parities : Type 0
Parities = Ray → Bool

abbrev pub xor : Bool → Bool → Bool
xor true b = not b
xor false b = b

-- r and s are one ray
abbrev pub same : Ray → Ray → Bool
same r s = numbered r == numbered s

abbrev pub rays : List Ray
rays = One ∷ Two ∷ Three ∷ Four ∷ Five ∷ Six ∷ Seven ∷ []

pub xor_assoc : (a b c : Bool) → xor (xor a b) c ≡ xor a (xor b c)
xor_assoc true true true = refl
xor_assoc true true false = refl
xor_assoc true false c = refl
xor_assoc false b c = refl

pub xor_false : (a : Bool) → xor a false ≡ a
xor_false true = refl
xor_false false = refl

pub xor_self : (a : Bool) → xor a a ≡ false
xor_self true = refl
xor_self false = refl

-- parities with the same bits are the same
pub parities_same : (f g : Parities) → map f rays ≡ map g rays → f ≡ g
parities_same f g e = λ i r. at r i
  where
    at : (r : Ray) → f r ≡ g r
    at One = ap (λ xs. get_or xs 0 false) e
    at Two = ap (λ xs. get_or xs 1 false) e
    at Three = ap (λ xs. get_or xs 2 false) e
    at Four = ap (λ xs. get_or xs 3 false) e
    at Five = ap (λ xs. get_or xs 4 false) e
    at Six = ap (λ xs. get_or xs 5 false) e
    at Seven = ap (λ xs. get_or xs 6 false) e

abbrev pub sides : ClassKind
sides = record {
  Element = Parities;
  unit = λ r. false;
  mul = λ f g r. xor (f r) (g r);
  inv = λ f. f;
  ray = λ s r. same r s;
  Held = λ f. Unit {0};
  order = keyed (λ f. map f rays) parities_same (lists bits);
  assoc = λ f g h i r. xor_assoc (f r) (g r) (h r) i;
  left = λ f. refl;
  right = λ f i r. xor_false (f r) i;
  inv_left = λ f i r. xor_self (f r) i;
  inv_right = λ f i r. xor_self (f r) i;
  unit_held = tt;
  inv_held = λ f h. tt;
  held_inv = λ f h. tt;
}

abbrev pub bit_of : Bool → ℕ
bit_of b = cond b 1 0

abbrev pub crossings : Ray → List Crossing → ℕ
crossings r [] = 0
crossings r (cross.None ∷ xs) = crossings r xs
crossings r (cross.Forwards s ∷ xs) = bit_of (same r s) + crossings r xs
crossings r (cross.Backwards s ∷ xs) = bit_of (same r s) + crossings r xs

abbrev pub odd : ℕ → Bool
odd n = n % 2 == 1

abbrev pub Tells : List Crossing → Parities → Type 0
Tells xs f = (r : Ray) → f r ≡ odd (crossings r xs)

abbrev pub stored : List Bool → Parities
stored xs = λ r. slice_index_or xs (numbered r - 1) false

abbrev pub digest_of : Parities → ℕ
digest_of f = bit_of (f One) + 2 * bit_of (f Two) + 4 * bit_of (f Three) + 8 * bit_of (f Four) + 16 * bit_of (f Five) + 32 * bit_of (f Six) + 64 * bit_of (f Seven)
