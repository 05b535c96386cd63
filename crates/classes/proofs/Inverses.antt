-- The inverse of a word, letter by letter.
use Rattle.std.proofs.Common.{◌≡◌, ℕ, ◌+◌, ◌<◌, ◌≤◌, List, [], ◌∷◌, ◌++◌, length, get_or, map, take, drop, set, sym, refl, ap, ◌∙◌, arith, length-append, length-drop}
use Rattle.std.proofs.Math.Seq.{take-append_seam}
use Rattle.std.proofs.lemmas.List.{take_more, take_more_set, drop_more, drop-set-lt, map_push, length-take-le, reverse-append}
use mathlib.Core.List.{reverse}
use Rattle.classes.specs.declared.letters.Letter.{Letter}
use Rattle.classes.specs.declared.letters.Letter.TheVariants.{LowerA}
use Rattle.classes.specs.Letters.{turned}
use Rattle.classes.specs.Reduced.{mirror, length-mirror}

-- one more letter turned
pub turned_more : (rs ws : List Letter) (i : ℕ) (a : Letter) → i < length ws → length ws ≡ length rs → take i ws ≡ map turned (take i rs) → drop i ws ≡ drop i rs → a ≡ turned (get_or ws i LowerA) →
    (take (i + 1) (set ws i a) ≡ map turned (take (i + 1) rs)) × (drop (i + 1) (set ws i a) ≡ drop (i + 1) rs)
turned_more rs ws i a p e h k t =
    let q : i < length rs = omega arith in
    let u = drop_more ws i LowerA p in
    let v = drop_more rs i LowerA q in
    let same : a ≡ turned (get_or rs i LowerA) = cc in (
      take_more_set ws i a p
          ∙ (λ j. h j ++ (same j ∷ []))
          ∙ sym (map_push turned (take i rs) (get_or rs i LowerA))
          ∙ ap (map turned) (sym (take_more rs i LowerA q)),
      drop-set-lt (i + 1) ws i a (omega arith) ∙ cc,
    )

pub turned_reverse : (w : List Letter) → map turned (reverse w) ≡ mirror w
turned_reverse [] = refl
turned_reverse (a ∷ w) = ap (map turned) (reverse-append (a ∷ []) w) ∙ map_push turned (reverse w) a ∙ ap (λ v. v ++ (turned a ∷ [])) (turned_reverse w)

-- the first letters of a list, turned round where they stand
pub front_turned : (ls ms : List Letter) (n i : ℕ) → i ≡ n → n ≤ length ls → ms ≡ mirror (take i ls) →
    (length (ms ++ drop i ls) ≡ length ls) × (take n (ms ++ drop i ls) ≡ mirror (take n ls))
front_turned ls ms n i q p e =
    let l : length ms ≡ i = ap length e ∙ length-mirror (take i ls) ∙ length-take-le i ls (omega arith) in (
      omega (arith, length-append ms (drop i ls), length-drop i ls),
      ap (λ k. take k (ms ++ drop i ls)) (sym (l ∙ q)) ∙ take-append_seam ms (drop i ls) ∙ e ∙ ap (λ k. mirror (take k ls)) q,
    )
