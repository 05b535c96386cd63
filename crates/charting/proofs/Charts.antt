-- What charting answers, case by case.
use Rattle.std.proofs.Common.{◌≡◌, ℕ, ◌<◌, ◌≤◌, List, length, take, Ok, Err, Option, Result, sym, refl, subst, inl, inr, arith}
use Rattle.std.specs.Result.{IfOk, IfErr, MatchResult}
use Rattle.std.proofs.lemmas.Bool.{cases_lt}
use Rattle.kinds.specs.declared.refusal.Refusal.{Refusal}
use Rattle.kinds.specs.declared.refusal.Refusal.TheVariants.{MemorySize}
use Rattle.kinds.specs.Maps.{Site}
use Rattle.kinds.specs.declared.class.Class.{Ghosts as Classes}
use Rattle.kinds.specs.declared.cost.Cost.{Ghosts as Costs}
use Rattle.charts.specs.declared.chart.Pair.{Pair}
use Rattle.charts.specs.declared.chart.Chart.{Chart}
use Rattle.charts.specs.Charts.{Finished}
use Rattle.steps.specs.declared.asked.Asked.{Asked}
use Rattle.steps.specs.declared.open.Open.{Open}
use Rattle.charting.specs.Charts.{Fits, Pointless, Judged, VacantFrom, VacantQueue, VacantSlots, kept_by, head_of, TooLarge, Answers, Charts}
use Rattle.charting.specs.Searches.{Complete, TooMany}

module _ (m : Site) (q : Asked) where
  -- nothing is wrong
  pub judged_lawful : (r : Result (Unit {0}) Refusal) → Judged m q r → IfOk r (λ _. (Pointless m q → ⊥) × (q.cable ≤ 1000000))
  judged_lawful r (Judged.pointless p) = tt
  judged_lawful r (Judged.long np l) = tt
  judged_lawful r (Judged.lawful np l) = (np, l)

  pub reel_here : (Pointless m q → ⊥) → q.reel < m.points
  reel_here np = elim (cases_lt q.reel m.points) [ inl lt ↦ lt | inr le ↦ absurd (np (inl le)) ]

module _ {C K : Type 0} (m : Site) (b : Classes C) (c : Costs K) (q : Asked) where
  -- something is
  pub judged_wrong : (n : ℕ) (xs : List (Pair C K)) (r : Result (Unit {0}) Refusal) → Judged m q r → IfErr r (λ e. Answers m b c q n xs (Err e))
  judged_wrong n xs r (Judged.pointless p) = Answers.no_point p
  judged_wrong n xs r (Judged.long np l) = Answers.too_long np l
  judged_wrong n xs r (Judged.lawful np l) = tt

  -- the answer stands if the places of the chart stay, whatever is written to the others
  pub answers_kept : (n : ℕ) (xs ys : List (Pair C K)) (r : Result ℕ Refusal) → Answers m b c q n xs r → length ys ≡ length xs → ((k : ℕ) → r ≡ Ok k → take k ys ≡ take k xs) → Answers m b c q n ys r
  answers_kept n xs ys r (Answers.no_point p) long same = Answers.no_point p
  answers_kept n xs ys r (Answers.too_long np l) long same = Answers.too_long np l
  answers_kept n xs ys r (Answers.too_large np l t) long same = Answers.too_large np l t
  answers_kept n xs ys r (Answers.charted {k} np l exact (room, finished)) long same =
      Answers.charted np l exact (
        omega arith,
        subst (Finished m b.kind b.element c.costs q.reel q.aim q.cable) (sym (same k refl)) finished,
      )

  -- what the search comes to, over places that end as xs
  pub search_answers : (n : ℕ) (xs : List (Pair C K)) (r : Result ℕ Refusal) → (Pointless m q → ⊥) → q.cable ≤ 1000000 → length xs ≡ n → MatchResult r (Complete m b c q xs) (TooMany m b c q n) → Answers m b c q n xs r
  search_answers n xs (Err e) np le long (is, large) = subst (λ (e : Refusal). Answers m b c q n xs (Err e)) (sym is) (Answers.too_large np le large)
  search_answers n xs (Ok k) np le long h = Answers.charted np le (λ t. h.exact (subst (TooLarge m b c q) (sym long) t)) (h.room, h.finished)

  -- the places that are kept are among all
  pub kept_within : (n : ℕ) (xs : List (Pair C K)) (r : Result ℕ Refusal) → Answers m b c q n xs r → kept_by r ≤ length xs
  kept_within n xs (Ok k) (Answers.charted np l exact (room, finished)) = room
  kept_within n xs (Err e) answers = omega arith

  -- memory of a wrong size is left as it is
  pub size_refused : (head : Option Chart) (places : List (Pair C K)) (queue : List (Open K)) (slots : List ℕ) → (Fits places queue slots → ⊥) → Charts m b c q head places queue slots head places queue slots (Err MemorySize)
  size_refused head places queue slots not = Charts.wrong_size not (refl, refl, refl, refl)

  -- the memory as it is left: the places that are kept stay, and the rest is vacant
  pub charts_so : (head : Option Chart) (places : List (Pair C K)) (queue : List (Open K)) (slots : List ℕ) (mid places' : List (Pair C K)) (queue' : List (Open K)) (slots' : List ℕ) (r : Result ℕ Refusal) →
      Fits places queue slots → Answers m b c q (length places) mid r → length places' ≡ length mid → take (kept_by r) places' ≡ take (kept_by r) mid →
      VacantFrom b c places' (kept_by r) → VacantQueue c queue' → VacantSlots slots' → Charts m b c q head places queue slots (head_of m q r) places' queue' slots' r
  charts_so head places queue slots mid places' queue' slots' (Ok n) fits a long same v vq vs =
      Charts.charted fits (answers_kept (length places) mid places' (Ok n) a long (λ k e. subst (λ i. take i places' ≡ take i mid) (same_ok n k e) same)) (refl, v, vq, vs)
    where
      same_ok : (n k : ℕ) → ◌≡◌ {A = Result ℕ Refusal} (Ok n) (Ok k) → n ≡ k
      same_ok n k e = cc
  charts_so head places queue slots mid places' queue' slots' (Err e) fits a long same v vq vs =
      Charts.refused fits (answers_kept (length places) mid places' (Err e) a long (λ k f. absurd (never e k f))) (refl, v, vq, vs)
    where
      never : (r : Refusal) (k : ℕ) → ◌≡◌ {A = Result ℕ Refusal} (Err r) (Ok k) → ⊥
      never r k e = let z : ◌≡◌ {A = ℕ} 0 1 = cc in omega arith
