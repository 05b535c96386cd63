-- Worked examples of the definitions that the contracts use. Assumes nothing.
--     a, b, c, A, B        crossings: rays 1 to 3 forwards, rays 1 and 2 backwards
--     east_plot            the bytes of a plan: a grid of three by three points, a metre apart, with a post and a blocked point in its middle
--     east_site            the map of that plan
--     Prices ns q w        on that map the lane numbers ns name a run from point 0 to q, with the word w, that is 400 cm long
--     Examples             what some lists of crossings name, what some costs sum to, and what two runs on a plan have
use Rattle.std.specs.Prelude.{◌≡◌, ℕ, true, false, List, [], ◌∷◌, ◌++◌, map, replicate}
use Rattle.kinds.specs.declared.crossing.Ray.TheVariants.{One, Two, Three}
use Rattle.kinds.specs.declared.crossing.Crossing.{Crossing}
use Rattle.kinds.specs.declared.crossing.Crossing.TheVariants as cross
use Rattle.kinds.specs.declared.lane.Lane.{Lane}
use Rattle.kinds.specs.Classes.{product, crossed}
use Rattle.kinds.specs.Maps.{Site}
use Rattle.kinds.specs.Runs.{Run, class_of, cost_of}
use Rattle.classes.specs.declared.letters.Letter.TheVariants.{LowerA, UpperA, LowerB, LowerC}
use Rattle.classes.specs.declared.letters.Letter.{Letter}
use Rattle.classes.specs.Words.{word, words}
use Rattle.classes.specs.Sides.{sides, rays}
use Rattle.costs.specs.Lengths.{lengths, stopped}
use Rattle.costs.specs.Slopes.{slopes, steep}
use Rattle.plans.specs.Plans.{grid, Command, post, block, Reads, accepted}
use Rattle.plans.specs.Meanings.{site_of}

abbrev a : Crossing
a = cross.Forwards One

abbrev b : Crossing
b = cross.Forwards Two

abbrev c : Crossing
c = cross.Forwards Three

abbrev A : Crossing
A = cross.Backwards One

abbrev B : Crossing
B = cross.Backwards Two

abbrev east_plot : List ℕ
east_plot = 71 ∷ 3 ∷ 3 ∷ 0 ∷ 100 ∷ 82 ∷ 1 ∷ 1 ∷ 66 ∷ 1 ∷ 1 ∷ 69 ∷ []

abbrev east_commands : List Command
east_commands = post 1 1 ∷ block 1 1 ∷ []

abbrev east_site : Site
east_site = site_of (grid 3 3 100) east_commands

abbrev Prices : List ℕ → ℕ → List Letter → Type 0
Prices ns q w = (ls : List Lane) × Run east_site 0 ns ls q × ((class_of words ls).0 ≡ w) × (cost_of lengths ls ≡ stopped 400)

pub record Examples : Type 0 where
  -- a and then A give the unit
  pub opposites : product words (a ∷ A ∷ []) ≡ words.unit
  -- b, a, A, B, c give c
  pub inner : word (b ∷ a ∷ A ∷ B ∷ c ∷ []) ≡ LowerC ∷ []
  -- a, b, A stays three letters
  pub conjugate : word (a ∷ b ∷ A ∷ []) ≡ LowerA ∷ LowerB ∷ UpperA ∷ []
  -- the sides of a, b, A are 0100000
  pub parities : map (product sides (a ∷ b ∷ A ∷ [])) rays ≡ false ∷ true ∷ false ∷ false ∷ false ∷ false ∷ false ∷ []
  -- the slopes 3 and 9 sum to 9
  pub slope : slopes.plus (steep 3) (steep 9) ≡ steep 9
  -- 32 times a is held
  pub longest : words.Held (product words (replicate 32 a))
  -- a 33rd is not
  pub too_long : words.Held (words.mul (product words (replicate 32 a)) (crossed words a)) → ⊥
  -- A after 32 gives 31
  pub back : word (replicate 32 a ++ (A ∷ [])) ≡ replicate 31 LowerA
  -- the east plot is an accepted plan with these commands
  pub east : Reads east_plot (accepted (grid 3 3 100) east_commands)
  -- the run 0, 3, 6, 7, 8 has class a, the run 0, 1, 2, 5, 8 the unit, and each costs 400
  pub north_about : Prices (2 ∷ 2 ∷ 0 ∷ 0 ∷ []) 8 (LowerA ∷ [])
  pub south_about : Prices (0 ∷ 0 ∷ 2 ∷ 2 ∷ []) 8 []
