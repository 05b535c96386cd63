-- The memory's image: what is read from it, and what one more command writes.
use Rattle.std.proofs.Common.{◌≡◌, ℕ, zero, suc, ◌+◌, ◌-◌, ◌*◌, ◌/◌, ◌%◌, ◌<◌, ◌≤◌, List, [], ◌∷◌, ◌++◌, length, get_or, replicate, sym, ap, ◌∙◌, inl, inr, arith}
use Rattle.std.proofs.lemmas.List.{length-append, get_or_append_left, get_or-append_right, append-nil, replicate-append-replicate}
use Rattle.std.proofs.lemmas.Bool.{cases_lt, lt-ltb, le-ltb, le-leb}
use Rattle.plans.specs.Plans.{Command, point, join, four, joins}
use Rattle.plans.specs.Surveys.{number_at, survey_place, survey_at}
use Rattle.plans.specs.Meanings.{surveys_of, index_of}
use Rattle.plans.specs.RoadPlans.{lane_bytes, lanes_in, fours, padded, image}
use Rattle.plans.specs.Holdings.{blank}
use Rattle.plans.specs.RoadSteps.{put, listed, EndsKnown}
use Rattle.plans.proofs.RoadWrites.{put_front, put_back, put-padded, length-padded}
use Rattle.plans.proofs.RoadSurveys.{surveys_append, length-fours, fours_append, length-lanes_in, lanes_in_append, lanes_in_more}

pub image_none : blank ≡ image []
image_none = sym (replicate-append-replicate 8192 2048 0)

-- a byte of a number among four-byte numbers
get_or-fours : (ns : List ℕ) (k j : ℕ) → k < length ns → j < 4 → get_or (fours ns) (4 * k + j) 0 ≡ get_or (four (get_or ns k 0)) j 0
get_or-fours [] k j l m = absurd (omega arith)
get_or-fours (n ∷ ns) zero j l m =
    let e : 4 * 0 + j ≡ j = omega arith in
    ap (λ i. get_or (four n ++ fours ns) i 0) e ∙ get_or_append_left (four n) (fours ns) 0 j m
get_or-fours (n ∷ ns) (suc k) j l m =
    let e : 4 * suc k + j ≡ suc (suc (suc (suc (4 * k + j)))) = omega arith in
    ap (λ i. get_or (four n ++ fours ns) i 0) e ∙ get_or-fours ns k j (omega arith) m

module _ (xs : List ℕ) (ns : List ℕ) (front : length xs ≡ 8192) (few : length ns ≤ 512) where
  -- a byte of a survey number, and the number
  pub get_or-image : (k j : ℕ) → k < length ns → j < 4 → get_or (xs ++ padded 2048 (fours ns)) (survey_place k + j) 0 ≡ get_or (four (get_or ns k 0)) j 0
  get_or-image k j l m =
      let e : 8192 + 4 * k + j - 8192 ≡ 4 * k + j = omega arith in
      get_or-append_right xs (padded 2048 (fours ns)) 8192 (survey_place k + j) 0 front (omega arith)
      ∙ ap (λ i. get_or (padded 2048 (fours ns)) i 0) e
      ∙ get_or_append_left (fours ns) (replicate (2048 - length (fours ns)) 0) 0 (4 * k + j) (omega (arith, length-fours ns))
      ∙ get_or-fours ns k j l m

  pub number_at-image : (k : ℕ) → k < length ns → number_at (xs ++ padded 2048 (fours ns)) (survey_place k) ≡ get_or ns k 0
  number_at-image k l =
      let n = get_or ns k 0 in
      let z : survey_place k ≡ survey_place k + 0 = omega arith in
      let a : get_or (xs ++ padded 2048 (fours ns)) (survey_place k) 0 ≡ n / 65536 / 256 = ap (λ i. get_or (xs ++ padded 2048 (fours ns)) i 0) z ∙ get_or-image k 0 l (omega arith) in
      let b : get_or (xs ++ padded 2048 (fours ns)) (survey_place k + 1) 0 ≡ n / 65536 % 256 = get_or-image k 1 l (omega arith) in
      let c : get_or (xs ++ padded 2048 (fours ns)) (survey_place k + 2) 0 ≡ n % 65536 / 256 = get_or-image k 2 l (omega arith) in
      let d : get_or (xs ++ padded 2048 (fours ns)) (survey_place k + 3) 0 ≡ n % 65536 % 256 = get_or-image k 3 l (omega arith) in
      omega arith

  -- the survey numbers that the index reads there
  pub survey_at-listed : (k : ℕ) → survey_at (xs ++ padded 2048 (fours ns)) (length ns) k ≡ listed ns k
  survey_at-listed k =
      elim (cases_lt k (length ns)) [
        | inl l ↦
            let all : length (xs ++ padded 2048 (fours ns)) ≡ 10240 =
            length-append xs (padded 2048 (fours ns)) ∙ omega (arith, length-padded 2048 (fours ns) (omega (arith, length-fours ns))) in
            let s = lt-ltb k (length ns) l in
            let t = le-leb (survey_place k + 4) (length (xs ++ padded 2048 (fours ns))) (omega arith) in
            let e = number_at-image k l in
            simp (s, t, e)
        | inr g ↦ let s = le-ltb k (length ns) g in simp s
      ]

-- a point more is four bytes behind the survey numbers
pub image_point : (cs : List Command) (n : ℕ) → EndsKnown (surveys_of cs) cs → length (surveys_of cs) < 512 → joins cs ≤ 1024
    → put (image cs) (survey_place (length (surveys_of cs))) (four n) ≡ image (cs ++ (point n ∷ []))
image_point cs n known few lanes =
    let ns : List ℕ = surveys_of cs in
    let xs : List ℕ = padded 8192 (lanes_in ns cs) in
    let long : length xs ≡ 8192 = length-padded 8192 (lanes_in ns cs) (omega (arith, length-lanes_in ns cs)) in
    let at : survey_place (length ns) ≡ length xs + length (fours ns) = omega (arith, length-fours ns) in
    let more : surveys_of (cs ++ (point n ∷ [])) ≡ ns ++ (n ∷ []) = surveys_append cs (point n ∷ []) in
    let same : lanes_in (ns ++ (n ∷ [])) (cs ++ (point n ∷ [])) ≡ lanes_in ns cs =
    lanes_in_append (ns ++ (n ∷ [])) cs (point n ∷ []) ∙ append-nil (lanes_in (ns ++ (n ∷ [])) cs) ∙ lanes_in_more ns (n ∷ []) cs known in
    ap (λ i. put (image cs) i (four n)) at
    ∙ put_back xs (padded 2048 (fours ns)) (length (fours ns)) (four n)
    ∙ ap (λ zs. xs ++ zs) (put-padded 2048 (fours ns) (four n) ∙ ap (λ zs. padded 2048 zs) (sym (fours_append ns (n ∷ []))))
    ∙ ap (λ ls. padded 8192 ls ++ padded 2048 (fours (ns ++ (n ∷ [])))) (sym same)
    ∙ ap (λ ms. padded 8192 (lanes_in ms (cs ++ (point n ∷ []))) ++ padded 2048 (fours ms)) (sym more)

-- a lane more is eight bytes behind the lanes
pub image_join : (cs : List Command) (s t l k x : ℕ) → joins cs < 1024
    → put (image cs) (8 * joins cs) (lane_bytes (index_of (surveys_of cs) s) (index_of (surveys_of cs) t) l k x) ≡ image (cs ++ (join s t l k x ∷ []))
image_join cs s t l k x lanes =
    let ns : List ℕ = surveys_of cs in
    let ys : List ℕ = lane_bytes (index_of ns s) (index_of ns t) l k x in
    let ls : List ℕ = lanes_in ns cs in
    let at : 8 * joins cs ≡ length ls = sym (length-lanes_in ns cs) in
    let long : length (padded 8192 ls) ≡ 8192 = length-padded 8192 ls (omega (arith, length-lanes_in ns cs)) in
    let same : surveys_of (cs ++ (join s t l k x ∷ [])) ≡ ns = surveys_append cs (join s t l k x ∷ []) ∙ append-nil ns in
    ap (λ i. put (image cs) i ys) at
    ∙ put_front (padded 8192 ls) (padded 2048 (fours ns)) (length ls) ys (omega (arith, long, length-lanes_in ns cs))
    ∙ ap (λ zs. zs ++ padded 2048 (fours ns)) (put-padded 8192 ls ys ∙ ap (λ zs. padded 8192 zs) (sym (lanes_in_append ns cs (join s t l k x ∷ []))))
    ∙ ap (λ ms. padded 8192 (lanes_in ms (cs ++ (join s t l k x ∷ []))) ++ padded 2048 (fours ms)) (sym same)
