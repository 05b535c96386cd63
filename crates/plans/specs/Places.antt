-- The points of a grid, and the column and the row of each.
use Rattle.std.specs.Prelude.{◌≡◌, ℕ, ◌*◌, ◌/◌, ◌%◌, ◌<◌, ◌≤◌, true}
use Rattle.std.proofs.Common.{inl, inr, mul_comm, arith}
use Rattle.std.proofs.lemmas.Nat.{div_below, mod_below, mul-add-lt, mul-le}
use Rattle.std.proofs.lemmas.Bool.{cases_Bool, cond-true, cond-false}
use Rattle.std.proofs.lemmas.Bool.Decides.{nat_tests}
use Rattle.plans.specs.Grids.{sized, points_of, place, Inside}

pub record Sized (w h s : ℕ) : Type 0 where
  pub wide : 2 ≤ w
  pub narrow : w ≤ 64
  pub high : 2 ≤ h
  pub low : h ≤ 64
  pub long : 1 ≤ s
  pub short : s ≤ 1000

pub sized_parts : (w h s : ℕ) → sized w h s ≡ true → Sized w h s
sized_parts w h s e = record {
  wide = grind (arith, nat_tests);
  narrow = grind (arith, nat_tests);
  high = grind (arith, nat_tests);
  low = grind (arith, nat_tests);
  long = grind (arith, nat_tests);
  short = grind (arith, nat_tests);
}

pub points_sized : (w h s : ℕ) → sized w h s ≡ true → points_of w h s ≡ w * h
points_sized w h s e = cond-true (sized w h s) (w * h) 0 e

-- a point is on a grid whose sizes are in range
pub sized_from_point : (w h s p : ℕ) → p < points_of w h s → sized w h s ≡ true
sized_from_point w h s p l =
    elim (cases_Bool (sized w h s)) [
      | inl e ↦ e
      | inr e ↦ absurd (omega (arith, cond-false (sized w h s) (w * h) 0 e))
    ]

-- where a point lies
pub inside : (w h s p : ℕ) → p < points_of w h s → Inside w h (p % w) (p / w)
inside w h s p l =
    let e = sized_from_point w h s p l in
    let z = sized_parts w h s e in
    let in-grid : p < h * w = omega (arith, points_sized w h s e, mul_comm w h) in
    let wide : 0 < w = omega (arith, z.wide) in
    record { narrow = z.narrow; low = z.low; column = mod_below p w wide; row = div_below p w h wide in-grid }

-- a column and a row of the grid make a point of it
pub place_below : (w h s c r : ℕ) → sized w h s ≡ true → c < w → r < h → place w c r < points_of w h s
place_below w h s c r e l m = omega (arith, points_sized w h s e, mul-add-lt r w c h m l)

-- there are at most 4096
pub few_points : (w h s : ℕ) → points_of w h s ≤ 4096
few_points w h s =
    elim (cases_Bool (sized w h s)) [
      | inl e ↦ let z = sized_parts w h s e in omega (arith, points_sized w h s e, mul-le w h 64 64 z.narrow z.low)
      | inr e ↦ omega (arith, cond-false (sized w h s) (w * h) 0 e)
    ]
