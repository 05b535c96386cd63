-- The fourteen letters. Assumes nothing.
--     rank_of a         its place in the order a, A, b, B, up to G, from 0
--     turned a          the same ray the other way
--     forwards_of r     the letter of the ray r forwards
--     letter_of x       the letter of the crossing x, or none if it crosses no ray
--     crossing_of a     the crossing that the letter a stands for
--     letters           the order of letters
--     alike a b         whether a and b are one letter
use Rattle.std.specs.Prelude.{◌≡◌, ℕ, Bool, true, false, List, [], ◌∷◌, get_or, Some, None, Option, ◌==◌, ◌≢◌, slice_index_or, refl}
use Rattle.std.proofs.Common.{sym, ap, ◌∙◌, eqb-true, eq-eqb, ne_eqb}
use Rattle.std.proofs.lemmas.Bool.{eqb-false}
use Rattle.kinds.specs.declared.crossing.Ray.{Ray}
use Rattle.kinds.specs.declared.crossing.Ray.TheVariants.{One, Two, Three, Four, Five, Six, Seven}
use Rattle.kinds.specs.declared.crossing.Crossing.{Crossing}
use Rattle.kinds.specs.declared.crossing.Crossing.TheVariants as cross
use Rattle.kinds.specs.Orders.{Ordered}
use Rattle.kinds.specs.Comparisons.{numbers, keyed}
use Rattle.classes.specs.declared.letters.Letter.{Letter}
use Rattle.classes.specs.declared.letters.Letter.TheVariants.{LowerA, UpperA, LowerB, UpperB, LowerC, UpperC, LowerD, UpperD, LowerE, UpperE, LowerF, UpperF, LowerG, UpperG}

abbrev pub rank_of : Letter → ℕ
rank_of LowerA = 0
rank_of UpperA = 1
rank_of LowerB = 2
rank_of UpperB = 3
rank_of LowerC = 4
rank_of UpperC = 5
rank_of LowerD = 6
rank_of UpperD = 7
rank_of LowerE = 8
rank_of UpperE = 9
rank_of LowerF = 10
rank_of UpperF = 11
rank_of LowerG = 12
rank_of UpperG = 13

abbrev pub turned : Letter → Letter
turned LowerA = UpperA
turned UpperA = LowerA
turned LowerB = UpperB
turned UpperB = LowerB
turned LowerC = UpperC
turned UpperC = LowerC
turned LowerD = UpperD
turned UpperD = LowerD
turned LowerE = UpperE
turned UpperE = LowerE
turned LowerF = UpperF
turned UpperF = LowerF
turned LowerG = UpperG
turned UpperG = LowerG

abbrev pub forwards_of : Ray → Letter
forwards_of One = LowerA
forwards_of Two = LowerB
forwards_of Three = LowerC
forwards_of Four = LowerD
forwards_of Five = LowerE
forwards_of Six = LowerF
forwards_of Seven = LowerG

abbrev pub letter_of : Crossing → Option Letter
letter_of cross.None = None
letter_of (cross.Forwards r) = Some (forwards_of r)
letter_of (cross.Backwards r) = Some (turned (forwards_of r))

abbrev pub crossing_of : Letter → Crossing
crossing_of LowerA = cross.Forwards One
crossing_of UpperA = cross.Backwards One
crossing_of LowerB = cross.Forwards Two
crossing_of UpperB = cross.Backwards Two
crossing_of LowerC = cross.Forwards Three
crossing_of UpperC = cross.Backwards Three
crossing_of LowerD = cross.Forwards Four
crossing_of UpperD = cross.Backwards Four
crossing_of LowerE = cross.Forwards Five
crossing_of UpperE = cross.Backwards Five
crossing_of LowerF = cross.Forwards Six
crossing_of UpperF = cross.Backwards Six
crossing_of LowerG = cross.Forwards Seven
crossing_of UpperG = cross.Backwards Seven

-- every letter, at its rank
abbrev pub alphabet : List Letter
alphabet = LowerA ∷ UpperA ∷ LowerB ∷ UpperB ∷ LowerC ∷ UpperC ∷ LowerD ∷ UpperD ∷ LowerE ∷ UpperE ∷ LowerF ∷ UpperF ∷ LowerG ∷ UpperG ∷ []

pub get_or_rank : (a : Letter) → slice_index_or alphabet (rank_of a) LowerA ≡ a
get_or_rank LowerA = refl
get_or_rank UpperA = refl
get_or_rank LowerB = refl
get_or_rank UpperB = refl
get_or_rank LowerC = refl
get_or_rank UpperC = refl
get_or_rank LowerD = refl
get_or_rank UpperD = refl
get_or_rank LowerE = refl
get_or_rank UpperE = refl
get_or_rank LowerF = refl
get_or_rank UpperF = refl
get_or_rank LowerG = refl
get_or_rank UpperG = refl

pub rank_same : (a b : Letter) → rank_of a ≡ rank_of b → a ≡ b
rank_same a b e = sym (get_or_rank a) ∙ ap (λ n. get_or alphabet n LowerA) e ∙ get_or_rank b

pub turned-turned : (a : Letter) → turned (turned a) ≡ a
turned-turned LowerA = refl
turned-turned UpperA = refl
turned-turned LowerB = refl
turned-turned UpperB = refl
turned-turned LowerC = refl
turned-turned UpperC = refl
turned-turned LowerD = refl
turned-turned UpperD = refl
turned-turned LowerE = refl
turned-turned UpperE = refl
turned-turned LowerF = refl
turned-turned UpperF = refl
turned-turned LowerG = refl
turned-turned UpperG = refl

abbrev pub letters : Ordered Letter
letters = keyed rank_of rank_same numbers

abbrev pub alike : Letter → Letter → Bool
alike a b = rank_of a == rank_of b

pub same_from_alike : (a b : Letter) → alike a b ≡ true → a ≡ b
same_from_alike a b e = rank_same a b (eqb-true (rank_of a) (rank_of b) e)

pub apart_from_alike : (a b : Letter) → alike a b ≡ false → a ≢ b
apart_from_alike a b e p = eqb-false (rank_of a) (rank_of b) e (ap rank_of p)

pub alike_same : (a b : Letter) → a ≡ b → alike a b ≡ true
alike_same a b p = eq-eqb (rank_of a) (rank_of b) (ap rank_of p)

pub alike_apart : (a b : Letter) → (a ≢ b) → alike a b ≡ false
alike_apart a b h = ne_eqb (rank_of a) (rank_of b) (λ e. h (rank_same a b e))
