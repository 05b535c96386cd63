-- The record, the memory and the index together: at the start, a number looked up, and one command more.
use Rattle.std.proofs.Common.{◌≡◌, ℕ, ◌+◌, ◌*◌, ◌<◌, ◌≤◌, true, false, List, [], ◌∷◌, ◌++◌, length, replicate, is_some, Some, None, Ok, Err, Option, Result, sym, refl, ap, ◌∙◌, subst, inl, inr, arith, length-set}
use Rattle.std.proofs.lemmas.List.{append-nil, length-replicate, length_push}
use Rattle.std.proofs.lemmas.Bool.{true≢false, false≢true}
use Rattle.tables.specs.declared.index.NotEntered.{NotEntered}
use Rattle.tables.specs.declared.index.NotEntered.TheVariants.{Full, NoEntry}
use Rattle.tables.specs.Indexes.{Indexed, Covers, Inserts, Keeps}
use Rattle.tables.proofs.Clearing.{indexed_vacant}
use Rattle.tables.proofs.Covering.{covers_none}
use Rattle.plans.specs.declared.plan.Road.{Road}
use Rattle.plans.specs.Plans.{Command, point, join, four, joins, Surveyed}
use Rattle.plans.specs.Surveys.{numbers, survey_place, survey_at}
use Rattle.plans.specs.Meanings.{surveys_of, index_of}
use Rattle.plans.specs.RoadPlans.{lane_bytes, lanes_in, padded, image}
use Rattle.plans.specs.Holdings.{blank}
use Rattle.plans.specs.RoadSteps.{put, listed, Finds, NoEnds, BothEnds, Enters, Known, EndsKnown, Holds}
use Rattle.plans.proofs.RoadWrites.{length-padded}
use Rattle.plans.proofs.RoadSurveys.{surveys_append, joins_append, length-lanes_in, known_from_surveyed, surveyed_from_known, ends_known_more, ends_known_append}
use Rattle.plans.proofs.RoadImages.{image_none, image_point, image_join, survey_at-listed}
use Rattle.plans.proofs.RoadIndexes.{indexed_same, known_found, place_in_found, unknown_absent, indexed_more, covers_more}

pub holds_none : (m slots : List ℕ) → m ≡ blank → slots ≡ replicate 1024 0 → Holds [] (record { points = 0; lanes = 0 }) m slots
holds_none m slots e f = record {
  counted = refl;
  joined = refl;
  few_points = omega arith;
  few_lanes = omega arith;
  laid = e ∙ image_none;
  known = tt;
  many = ap length f ∙ length-replicate {A = ℕ} 1024 0;
  indexed = subst (λ (s : List ℕ). Indexed numbers (listed []) s) (sym f) (indexed_vacant numbers (listed []) 1024);
  covers = covers_none slots;
}

length_inserts : (n k : ℕ) (from to : List ℕ) (r : Result ℕ NotEntered) → Inserts n k from to r → length to ≡ length from
length_inserts n k from to (Ok i) (_, _, e) = ap length e ∙ length-set from i (k + 1)
length_inserts n k from to (Err Full) (_, _, e) = ap length e
length_inserts n k from to (Err NoEntry) (_, e) = ap length e

-- what a look-up answered, by the test on it
pub some_found : (at : ℕ → Option ℕ) (slots : List ℕ) (n : ℕ) (r : Option ℕ) → Finds at slots n r → is_some r ≡ true → (k : ℕ) × (at k ≡ Some n)
some_found at slots n (Some k) e t = (k, e)
some_found at slots n None e t = absurd (false≢true t)

pub none_found : (at : ℕ → Option ℕ) (slots : List ℕ) (n : ℕ) (r : Option ℕ) → Finds at slots n r → is_some r ≡ false → Finds at slots n None
none_found at slots n (Some k) e t = absurd (true≢false t)
none_found at slots n None e t = e

module _ (cs : List Command) (p : Road) (m slots : List ℕ) (h : Holds cs p m slots) where
  -- what the index reads in the memory are the survey numbers of the commands
  survey_at_held : (k : ℕ) → survey_at m p.points k ≡ listed (surveys_of cs) k
  survey_at_held k =
      let xs : List ℕ = padded 8192 (lanes_in (surveys_of cs) cs) in
      let long : length xs ≡ 8192 = length-padded 8192 (lanes_in (surveys_of cs) cs) (omega (arith, length-lanes_in (surveys_of cs) cs, h.few_lanes)) in
      ap (λ n. survey_at m n k) h.counted
      ∙ ap (λ ys. survey_at ys (length (surveys_of cs)) k) h.laid
      ∙ survey_at-listed xs (surveys_of cs) long h.few_points k

  pub surveyed_found : (k n : ℕ) → survey_at m p.points k ≡ Some n → Surveyed cs n
  surveyed_found k n e =
      surveyed_from_known cs n (known_found (surveys_of cs) slots h.indexed h.covers k n (sym (survey_at_held k) ∙ e))

  pub unsurveyed_absent : (n : ℕ) → Finds (survey_at m p.points) slots n None → Surveyed cs n → ⊥
  unsurveyed_absent n none s =
      let ix = indexed_same (listed (surveys_of cs)) (survey_at m p.points) slots (λ k. sym (survey_at_held k)) h.indexed in
      unknown_absent (surveys_of cs) slots h.indexed h.covers n
      (λ i (k, names, has). none ix i (k, names, survey_at_held k ∙ has)) (known_from_surveyed cs n s)

  -- the ends of a lane, by their points
  pub ended_found : (s t i j : ℕ) → BothEnds (survey_at m p.points) s t i j → Surveyed cs s × Surveyed cs t × (s ≡ t → ⊥)
  ended_found s t i j (ne, first, second) = (surveyed_found i s first, surveyed_found j t second, ne)

  pub unended_absent : (s t : ℕ) → NoEnds (survey_at m p.points) slots s t → Surveyed cs s × Surveyed cs t × (s ≡ t → ⊥) → ⊥
  unended_absent s t (inl e) (_, _, ne) = ne e
  unended_absent s t (inr (inl none)) (first, _, _) = unsurveyed_absent s none first
  unended_absent s t (inr (inr none)) (_, second, _) = unsurveyed_absent t none second

  pub holds_point : (n : ℕ) (m' to : List ℕ) → m' ≡ put m (survey_place p.points) (four n) → (Surveyed cs n → ⊥) → p.points < 512 → Enters n p.points slots to → Keeps numbers n p.points slots to
      → Holds (cs ++ (point n ∷ [])) (record { points = p.points + 1; lanes = p.lanes }) m' to
  holds_point n m' to wrote fresh few (r, enters) keeps =
      let ns : List ℕ = surveys_of cs in
      let new : Known ns n → ⊥ = λ k. fresh (surveyed_from_known cs n k) in
      let more : ns ++ (n ∷ []) ≡ surveys_of (cs ++ (point n ∷ [])) = sym (surveys_append cs (point n ∷ [])) in
      let count : length (surveys_of (cs ++ (point n ∷ []))) ≡ length ns + 1 = sym (ap length more) ∙ length_push ns n in
      let same : joins (cs ++ (point n ∷ [])) ≡ joins cs = joins_append cs (point n ∷ []) ∙ omega arith in
      let room : length ns < 512 = omega (arith, h.counted) in
      let placed : Inserts n (length ns) slots to r = subst (λ k. Inserts n k slots to r) h.counted enters in
      let kept : Keeps numbers n (length ns) slots to = subst (λ k. Keeps numbers n k slots to) h.counted keeps in
      let index = indexed_more ns slots h.indexed h.covers n new to kept in
      let all = covers_more ns slots h.indexed h.covers n new to (omega (arith, h.many)) (omega arith) r placed in
      record {
        counted = omega (arith, h.counted, count);
        joined = h.joined ∙ sym same;
        few_points = omega (arith, count);
        few_lanes = omega (arith, same, h.few_lanes);
        laid = wrote
            ∙ ap (λ ys. put ys (survey_place p.points) (four n)) h.laid
            ∙ ap (λ k. put (image cs) (survey_place k) (four n)) h.counted
            ∙ image_point cs n h.known room h.few_lanes;
        known = subst (λ (ms : List ℕ). EndsKnown ms (cs ++ (point n ∷ []))) more
            (ends_known_append (ns ++ (n ∷ [])) cs (point n ∷ []) (ends_known_more ns (n ∷ []) cs h.known) tt);
        many = length_inserts n (length ns) slots to r placed ∙ h.many;
        indexed = subst (λ (ms : List ℕ). Indexed numbers (listed ms) to) more index;
        covers = subst (λ k. Covers to k) (sym count) all;
      }

  pub holds_join : (s t l k x i j : ℕ) (m' : List ℕ) → m' ≡ put m (8 * p.lanes) (lane_bytes i j l k x) → survey_at m p.points i ≡ Some s → survey_at m p.points j ≡ Some t → p.lanes < 1024
      → Holds (cs ++ (join s t l k x ∷ [])) (record { points = p.points; lanes = p.lanes + 1 }) m' slots
  holds_join s t l k x i j m' wrote first second few =
      let ns : List ℕ = surveys_of cs in
      let at_first : listed ns i ≡ Some s = sym (survey_at_held i) ∙ first in
      let at_second : listed ns j ≡ Some t = sym (survey_at_held j) ∙ second in
      let ends : Known ns s × Known ns t × Unit {0} =
      (known_found ns slots h.indexed h.covers i s at_first, known_found ns slots h.indexed h.covers j t at_second, tt) in
      let same : ns ≡ surveys_of (cs ++ (join s t l k x ∷ [])) = sym (surveys_append cs (join s t l k x ∷ []) ∙ append-nil ns) in
      let count : joins (cs ++ (join s t l k x ∷ [])) ≡ joins cs + 1 = joins_append cs (join s t l k x ∷ []) in
      record {
        counted = h.counted ∙ ap length same;
        joined = omega (arith, h.joined, count);
        few_points = subst (λ (ms : List ℕ). length ms ≤ 512) same h.few_points;
        few_lanes = omega (arith, h.joined, count);
        laid = wrote
            ∙ ap (λ ys. put ys (8 * p.lanes) (lane_bytes i j l k x)) h.laid
            ∙ ap (λ a. put (image cs) (8 * a) (lane_bytes i j l k x)) h.joined
            ∙ ap (λ a. put (image cs) (8 * joins cs) (lane_bytes a j l k x)) (sym (place_in_found ns slots h.indexed h.covers i s at_first))
            ∙ ap (λ a. put (image cs) (8 * joins cs) (lane_bytes (index_of ns s) a l k x)) (sym (place_in_found ns slots h.indexed h.covers j t at_second))
            ∙ image_join cs s t l k x (omega (arith, h.joined));
        known = subst (λ (ms : List ℕ). EndsKnown ms (cs ++ (join s t l k x ∷ []))) same (ends_known_append ns cs (join s t l k x ∷ []) h.known ends);
        many = h.many;
        indexed = subst (λ (ms : List ℕ). Indexed numbers (listed ms) slots) same h.indexed;
        covers = subst (λ (ms : List ℕ). Covers slots (length ms)) same h.covers;
      }
