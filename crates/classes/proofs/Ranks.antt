-- The derived order of letters goes by rank.
use Rattle.std.proofs.Common.{◌≡◌, ◌<◌, Bool, true, List, Ordering, Less, Equal, Greater, length, refl, subst, arith}
use Rattle.std.specs.Cmp.Lexicographic.{slice_cmp}
use Rattle.std.specs.List.{list_all}
use Rattle.std.specs.Ordering.{is_lt, is_eq, is_gt}
use Rattle.std.proofs.lemmas.List.Sums.{AllPass-from_list_all}
use Rattle.kinds.specs.Comparisons.{lists}
use Rattle.kinds.proofs.Lexes.{list_from_lex}
use Rattle.classes.specs.declared.letters.Letter.{Letter}
use Rattle.classes.specs.declared.letters.Letter.TheVariants.{LowerA}
use Rattle.classes.specs.contracts.letters.LetterOrd.TheImpl.{ghosts}
use Rattle.classes.specs.Letters.{alphabet, letters, rank_of, get_or_rank}

rank_below : (x : Letter) → rank_of x < length alphabet
rank_below x = grind arith

-- a test that every letter passes
every : (p : Letter → Bool) → list_all p alphabet ≡ true → (x : Letter) → p x ≡ true
every p h x = subst (λ z. p z ≡ true) (get_or_rank x) (AllPass-from_list_all p alphabet h (rank_of x) LowerA (rank_below x))

abbrev same : Ordering → Ordering → Bool
same Less s = is_lt s
same Equal s = is_eq s
same Greater s = is_gt s

same_is : (r s : Ordering) → same r s ≡ true → r ≡ s
same_is Less Less e = refl
same_is Less Equal e = cc
same_is Less Greater e = cc
same_is Equal Less e = cc
same_is Equal Equal e = refl
same_is Equal Greater e = cc
same_is Greater Less e = cc
same_is Greater Equal e = cc
same_is Greater Greater e = refl

-- the order that is derived is the order by rank: computed at every pair of letters
pub derived_by_rank : (x y : Letter) → ghosts.cmp x y ≡ letters.cmp x y
derived_by_rank x y =
    same_is _ _ (every (λ y. same (ghosts.cmp x y) (letters.cmp x y)) (every (λ x. list_all (λ y. same (ghosts.cmp x y) (letters.cmp x y)) alphabet) refl x) y)

pub letters_by_rank : (xs ys : List Letter) (r : Ordering) → r ≡ slice_cmp ghosts.cmp xs ys → r ≡ (lists letters).cmp xs ys
letters_by_rank xs ys r = list_from_lex letters ghosts.cmp derived_by_rank xs ys r
