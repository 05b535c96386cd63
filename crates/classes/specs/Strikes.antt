-- When two lists of crossings can be turned into each other. Assumes nothing.
--     Strike xs ys     ys is xs with one none struck out, or one crossing with the opposite one right behind it
--     Joined xs ys     striking out and putting in, any number of times, turns xs into ys
--     Names xs w       w is the word of xs, and exactly the lists that are joined to xs have it
use Rattle.std.specs.Prelude.{◌≡◌, List, ◌∷◌}
use Rattle.kinds.specs.declared.crossing.Crossing.{Crossing}
use Rattle.kinds.specs.declared.crossing.Crossing.TheVariants as cross
use Rattle.kinds.specs.Crossings.{other_way}
use Rattle.classes.specs.declared.letters.Letter.{Letter}
use Rattle.classes.specs.Words.{word}

pub data Strike : List Crossing → List Crossing → Type 0 where
  none : {xs : List Crossing} → Strike (cross.None ∷ xs) xs
  pair : (x : Crossing) {xs : List Crossing} → Strike (x ∷ (other_way x ∷ xs)) xs
  later : (x : Crossing) {xs ys : List Crossing} → Strike xs ys → Strike (x ∷ xs) (x ∷ ys)

pub data Joined : List Crossing → List Crossing → Type 0 where
  done : {xs : List Crossing} → Joined xs xs
  strike : {xs ys zs : List Crossing} → Strike xs ys → Joined ys zs → Joined xs zs
  insert : {xs ys zs : List Crossing} → Strike ys xs → Joined ys zs → Joined xs zs

pub record Names (xs : List Crossing) (w : List Letter) : Type 0 where
  pub is : w ≡ word xs
  pub joins : (ys : List Crossing) → (w ≡ word ys → Joined xs ys) × (Joined xs ys → w ≡ word ys)
