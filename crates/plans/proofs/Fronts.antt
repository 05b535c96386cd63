-- A list taken apart by a slice pattern.
use Rattle.std.proofs.Common.{◌≡◌, ℕ, zero, suc, ◌+◌, ◌-◌, ◌<◌, ◌≤◌, List, [], ◌∷◌, ◌++◌, length, get_or, take, drop, sym, ap, ◌∙◌, arith, drop-cons}
use Rattle.std.proofs.lemmas.List.{take_rest, length-drop}

-- what `rest @ ..` binds after k places
abbrev pub rest : ℕ → List ℕ → List ℕ
rest k xs = take (length xs - k) (drop k xs)

-- k elements from place i on
abbrev firsts : ℕ → ℕ → List ℕ → List ℕ
firsts i zero xs = []
firsts i (suc k) xs = get_or xs i 0 ∷ firsts (suc i) k xs

-- from place i on, k elements stand before the rest
firsts_from : (i k : ℕ) (xs : List ℕ) → i + k ≤ length xs → drop i xs ≡ firsts i k xs ++ drop (i + k) xs
firsts_from i zero xs l = let e : i ≡ i + 0 = omega arith in ap (λ j. drop j xs) e
firsts_from i (suc k) xs l =
    let e : suc i + k ≡ i + suc k = omega arith in
    drop-cons xs i 0 (omega arith)
    ∙ ap (λ ys. get_or xs i 0 ∷ ys) (firsts_from (suc i) k xs (omega arith) ∙ ap (λ j. firsts (suc i) k xs ++ drop j xs) e)

-- what a pattern of k places and a rest says of the list
pub front : (k : ℕ) (xs : List ℕ) → k ≤ length xs → xs ≡ firsts 0 k xs ++ rest k xs
front k xs l =
    let e : 0 + k ≡ k = omega arith in
    firsts_from 0 k xs (omega arith) ∙ ap (λ ys. firsts 0 k xs ++ ys) (ap (λ j. drop j xs) e ∙ sym (take_rest xs k))

pub length_rest : (k : ℕ) (xs : List ℕ) → length (rest k xs) ≡ length xs - k
length_rest k xs = ap length (take_rest xs k) ∙ length-drop k xs

-- a pattern of a letter and operands, where the letter is b
pub front_letter : (xs : List ℕ) (b : ℕ) → 1 ≤ length xs → get_or xs 0 0 ≡ b → xs ≡ b ∷ rest 1 xs
front_letter xs b l e = front 1 xs l ∙ ap (λ a. a ∷ rest 1 xs) e

-- what is left after k operands is shorter than the letter with what follows it
pub rest_shorter : (k : ℕ) (xs : List ℕ) → length (rest k xs) < suc (length xs)
rest_shorter k xs = omega (arith, length_rest k xs)
