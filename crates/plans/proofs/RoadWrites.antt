-- Bytes written over the zeros that pad a list.
use Rattle.std.proofs.Common.{◌≡◌, ℕ, suc, ◌+◌, ◌-◌, ◌≤◌, List, [], ◌∷◌, ◌++◌, length, take, drop, replicate, sym, refl, ap, ◌∙◌, append_assoc, arith}
use Rattle.std.proofs.lemmas.List.{length-append, take_at, take-append-le, drop_at, drop-drop, drop-append-le, drop-replicate, length-replicate}
use Rattle.plans.specs.RoadPlans.{padded}
use Rattle.plans.specs.RoadSteps.{put}

-- a write into the front of two lists, and into the second
pub put_front : (xs zs : List ℕ) (i : ℕ) (ys : List ℕ) → i + length ys ≤ length xs → put (xs ++ zs) i ys ≡ put xs i ys ++ zs
put_front xs zs i ys l =
    ap (λ a. a ++ (ys ++ drop (i + length ys) (xs ++ zs))) (take-append-le i xs zs (omega arith))
    ∙ ap (λ a. take i xs ++ (ys ++ a)) (drop-append-le (i + length ys) xs zs l)
    ∙ sym (append_assoc (take i xs) (ys ++ drop (i + length ys) xs) zs ∙ ap (λ a. take i xs ++ a) (append_assoc ys (drop (i + length ys) xs) zs))

pub put_back : (xs zs : List ℕ) (i : ℕ) (ys : List ℕ) → put (xs ++ zs) (length xs + i) ys ≡ xs ++ put zs i ys
put_back xs zs i ys =
    let front : take (length xs + i) (xs ++ zs) ≡ xs ++ take i zs = take_past xs zs i in
    let e : length xs + i + length ys ≡ length xs + (i + length ys) = omega arith in
    let back : drop (length xs + i + length ys) (xs ++ zs) ≡ drop (i + length ys) zs =
    ap (λ k. drop k (xs ++ zs)) e ∙ sym (drop-drop (i + length ys) (length xs) (xs ++ zs)) ∙ ap (λ r. drop (i + length ys) r) (drop_at xs zs (length xs) refl) in
    ap (λ a. a ++ (ys ++ drop (length xs + i + length ys) (xs ++ zs))) front
    ∙ ap (λ a. (xs ++ take i zs) ++ (ys ++ a)) back
    ∙ append_assoc xs (take i zs) (ys ++ drop (i + length ys) zs)
  where
    take_past : (xs zs : List ℕ) (i : ℕ) → take (length xs + i) (xs ++ zs) ≡ xs ++ take i zs
    take_past [] zs i = let e : 0 + i ≡ i = omega arith in ap (λ k. take k zs) e
    take_past (x ∷ xs) zs i =
        let e : length (x ∷ xs) + i ≡ suc (length xs + i) = omega arith in
        ap (λ k. take k (x ∷ (xs ++ zs))) e ∙ ap (λ r. x ∷ r) (take_past xs zs i)

less_sum : (n a b c : ℕ) → c ≡ a + b → n - a - b ≡ n - c
less_sum n a b c e = omega arith

-- a write right behind what is there
drop-padded : (n : ℕ) (xs ys : List ℕ) → drop (length xs + length ys) (padded n xs) ≡ replicate (n - length (xs ++ ys)) 0
drop-padded n xs ys =
    sym (drop-drop (length ys) (length xs) (padded n xs))
    ∙ ap (λ r. drop (length ys) r) (drop_at xs (replicate (n - length xs) 0) (length xs) refl)
    ∙ drop-replicate (length ys) (n - length xs) 0
    ∙ ap (λ j. replicate j 0) (less_sum n (length xs) (length ys) (length (xs ++ ys)) (length-append xs ys))

pub put-padded : (n : ℕ) (xs ys : List ℕ) → put (padded n xs) (length xs) ys ≡ padded n (xs ++ ys)
put-padded n xs ys =
    ap (λ a. a ++ (ys ++ drop (length xs + length ys) (padded n xs))) (take_at xs (replicate (n - length xs) 0) (length xs) refl)
    ∙ ap (λ a. xs ++ (ys ++ a)) (drop-padded n xs ys)
    ∙ sym (append_assoc xs ys (replicate (n - length (xs ++ ys)) 0))

pub length-padded : (n : ℕ) (xs : List ℕ) → length xs ≤ n → length (padded n xs) ≡ n
length-padded n xs l = length-append xs (replicate (n - length xs) 0) ∙ omega (arith, length-replicate {A = ℕ} (n - length xs) 0)
