-- What the memory of an accepted roadmap holds, byte by byte.
use Rattle.std.proofs.Common.{◌≡◌, ℕ, zero, suc, ◌+◌, ◌-◌, ◌*◌, ◌<◌, ◌≤◌, List, [], ◌∷◌, length, get_or, replicate, refl, ap, ◌∙◌, inl, inr, arith}
use Rattle.std.proofs.lemmas.List.{length-append, length-replicate, get_or_append_left, get_or-append_right, get_or-replicate, get_or_past}
use Rattle.std.proofs.lemmas.Bool.{cases_lt}
use Rattle.plans.specs.declared.plan.Road.{Road}
use Rattle.plans.specs.Plans.{Command, post, block, weigh, point, join, four, points, joins}
use Rattle.plans.specs.Surveys.{survey_place}
use Rattle.plans.specs.Meanings.{surveys_of, links_in, links_of, no_link}
use Rattle.plans.specs.RoadPlans.{lane_of, lanes_in, fours, padded, Tells}
use Rattle.plans.specs.Holdings.{laid, RoadTells}
use Rattle.plans.proofs.RoadWrites.{length-padded}
use Rattle.plans.proofs.RoadSurveys.{length_surveys, length-fours, length-lanes_in}
use Rattle.plans.proofs.RoadImages.{get_or-image}

-- a byte of the record of a lane
get_or-lanes_in : (ns : List ℕ) (cs : List Command) (a j : ℕ) → a < joins cs → j < 8 → get_or (lanes_in ns cs) (8 * a + j) 0 ≡ get_or (laid (get_or (links_in ns cs) a no_link)) j 0
get_or-lanes_in ns [] a j h lt = absurd (omega arith)
get_or-lanes_in ns (post c r ∷ cs) a j h lt = get_or-lanes_in ns cs a j h lt
get_or-lanes_in ns (block c r ∷ cs) a j h lt = get_or-lanes_in ns cs a j h lt
get_or-lanes_in ns (weigh c r k ∷ cs) a j h lt = get_or-lanes_in ns cs a j h lt
get_or-lanes_in ns (point s ∷ cs) a j h lt = get_or-lanes_in ns cs a j h lt
get_or-lanes_in ns (join s t l k x ∷ cs) zero j h lt =
    let e : 8 * 0 + j ≡ j = omega arith in
    ap (λ i. get_or (lanes_in ns (join s t l k x ∷ cs)) i 0) e ∙ get_or_append_left (lane_of ns (join s t l k x)) (lanes_in ns cs) 0 j lt
get_or-lanes_in ns (join s t l k x ∷ cs) (suc a) j h lt =
    let e : 8 * suc a + j ≡ suc (suc (suc (suc (suc (suc (suc (suc (8 * a + j)))))))) = omega arith in
    ap (λ i. get_or (lanes_in ns (join s t l k x ∷ cs)) i 0) e ∙ get_or-lanes_in ns cs a j (omega arith) lt

-- past its list, a padded list holds zeros
get_or-padded : (n : ℕ) (xs : List ℕ) (i : ℕ) → length xs ≤ i → get_or (padded n xs) i 0 ≡ 0
get_or-padded n xs i l =
    let z : get_or (padded n xs) i 0 ≡ get_or (replicate (n - length xs) 0) (i - length xs) 0 = get_or-append_right xs (replicate (n - length xs) 0) (length xs) i 0 refl l in
    elim (cases_lt (i - length xs) (n - length xs)) [
      | inl lt ↦ z ∙ get_or-replicate (n - length xs) (i - length xs) 0 0 lt
      | inr ge ↦ z ∙ get_or_past (replicate (n - length xs) 0) (i - length xs) 0 (omega (arith, length-replicate {A = ℕ} (n - length xs) 0))
    ]

module _ (cs : List Command) (p : Road) (m : List ℕ) (tells : Tells cs p m) where
  length_front : length (padded 8192 (lanes_in (surveys_of cs) cs)) ≡ 8192
  length_front = length-padded 8192 (lanes_in (surveys_of cs) cs) (omega (arith, length-lanes_in (surveys_of cs) cs, tells.few_lanes))

  few : length (surveys_of cs) ≤ 512
  few = omega (arith, length_surveys cs, tells.few_points)

  length_told : length m ≡ 10240
  length_told =
      ap length tells.laid
      ∙ length-append (padded 8192 (lanes_in (surveys_of cs) cs)) (padded 2048 (fours (surveys_of cs)))
      ∙ omega (arith, length_front, length-padded 2048 (fours (surveys_of cs)) (omega (arith, length-fours (surveys_of cs), few)))

  -- each byte of the survey number of a point
  survey_told : (k j : ℕ) → k < points cs → j < 4 → get_or m (survey_place k + j) 0 ≡ get_or (four (get_or (surveys_of cs) k 0)) j 0
  survey_told k j l lt =
      ap (λ ys. get_or ys (survey_place k + j) 0) tells.laid
      ∙ get_or-image (padded 8192 (lanes_in (surveys_of cs) cs)) (surveys_of cs) length_front few k j (omega (arith, length_surveys cs)) lt

  -- each of the eight bytes of a lane
  lane_told : (a j : ℕ) → a < joins cs → j < 8 → get_or m (8 * a + j) 0 ≡ get_or (laid (get_or (links_of cs) a no_link)) j 0
  lane_told a j w lt =
      let ls : List ℕ = lanes_in (surveys_of cs) cs in
      ap (λ ys. get_or ys (8 * a + j) 0) tells.laid
      ∙ get_or_append_left (padded 8192 ls) (padded 2048 (fours (surveys_of cs))) 0 (8 * a + j) (omega (arith, length_front, tells.few_lanes))
      ∙ get_or_append_left ls (replicate (8192 - length ls) 0) 0 (8 * a + j) (omega (arith, length-lanes_in (surveys_of cs) cs))
      ∙ get_or-lanes_in (surveys_of cs) cs a j w lt

  -- zeros behind the lanes, and behind the survey numbers
  lanes_end : (i : ℕ) → 8 * joins cs ≤ i → i < 8192 → get_or m i 0 ≡ 0
  lanes_end i l lt =
      ap (λ ys. get_or ys i 0) tells.laid
      ∙ get_or_append_left (padded 8192 (lanes_in (surveys_of cs) cs)) (padded 2048 (fours (surveys_of cs))) 0 i (omega (arith, length_front))
      ∙ get_or-padded 8192 (lanes_in (surveys_of cs) cs) i (omega (arith, length-lanes_in (surveys_of cs) cs))

  surveys_end : (i : ℕ) → survey_place (points cs) ≤ i → get_or m i 0 ≡ 0
  surveys_end i l =
      ap (λ ys. get_or ys i 0) tells.laid
      ∙ get_or-append_right (padded 8192 (lanes_in (surveys_of cs) cs)) (padded 2048 (fours (surveys_of cs))) 8192 i 0 length_front (omega arith)
      ∙ get_or-padded 2048 (fours (surveys_of cs)) (i - 8192) (omega (arith, length-fours (surveys_of cs), length_surveys cs))

  -- the record and the memory hold what the commands say, byte by byte
  pub road_told : RoadTells cs p m
  road_told = record {
    pointed = tells.counted;
    joined = tells.joined;
    long = length_told;
    lanes = lane_told;
    beyond = lanes_end;
    surveys = survey_told;
    after = surveys_end;
  }
