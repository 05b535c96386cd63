-- The survey numbers and the lanes of a list of commands: counted, found, and one command more.
use Rattle.std.proofs.Common.{◌≡◌, ℕ, ◌+◌, ◌*◌, List, [], ◌∷◌, ◌++◌, length, sym, refl, ap, ◌∙◌, inl, inr, append_assoc, arith}
use Rattle.plans.specs.Plans.{Command, post, block, weigh, point, join, four, points, joins, Surveyed}
use Rattle.plans.specs.Meanings.{surveys_of, index_of}
use Rattle.plans.specs.RoadPlans.{lane_bytes, lane_of, lanes_in, fours}
use Rattle.plans.specs.RoadSteps.{Known, EndsKnown}
use Rattle.plans.proofs.RoadPlaces.{known_here, known_later, known_cases, known_append, place_in_append}

pub length_surveys : (cs : List Command) → length (surveys_of cs) ≡ points cs
length_surveys [] = refl
length_surveys (post c r ∷ cs) = length_surveys cs
length_surveys (block c r ∷ cs) = length_surveys cs
length_surveys (weigh c r k ∷ cs) = length_surveys cs
length_surveys (point s ∷ cs) = omega (arith, length_surveys cs)
length_surveys (join s t l k x ∷ cs) = length_surveys cs

pub surveys_append : (cs ds : List Command) → surveys_of (cs ++ ds) ≡ surveys_of cs ++ surveys_of ds
surveys_append [] ds = refl
surveys_append (post c r ∷ cs) ds = surveys_append cs ds
surveys_append (block c r ∷ cs) ds = surveys_append cs ds
surveys_append (weigh c r k ∷ cs) ds = surveys_append cs ds
surveys_append (point s ∷ cs) ds = ap (λ ns. s ∷ ns) (surveys_append cs ds)
surveys_append (join s t l k x ∷ cs) ds = surveys_append cs ds

pub joins_append : (cs ds : List Command) → joins (cs ++ ds) ≡ joins cs + joins ds
joins_append [] ds = omega arith
joins_append (post c r ∷ cs) ds = joins_append cs ds
joins_append (block c r ∷ cs) ds = joins_append cs ds
joins_append (weigh c r k ∷ cs) ds = joins_append cs ds
joins_append (point s ∷ cs) ds = joins_append cs ds
joins_append (join s t l k x ∷ cs) ds = omega (arith, joins_append cs ds)

-- surveyed is to be known among the survey numbers
pub known_from_surveyed : (cs : List Command) (n : ℕ) → Surveyed cs n → Known (surveys_of cs) n
known_from_surveyed [] n h = absurd h
known_from_surveyed (post c r ∷ cs) n h = known_from_surveyed cs n h
known_from_surveyed (block c r ∷ cs) n h = known_from_surveyed cs n h
known_from_surveyed (weigh c r k ∷ cs) n h = known_from_surveyed cs n h
known_from_surveyed (point s ∷ cs) n (inl e) = known_here s (surveys_of cs) n e
known_from_surveyed (point s ∷ cs) n (inr h) = known_later s (surveys_of cs) n (known_from_surveyed cs n h)
known_from_surveyed (join s t l k x ∷ cs) n h = known_from_surveyed cs n h

pub surveyed_from_known : (cs : List Command) (n : ℕ) → Known (surveys_of cs) n → Surveyed cs n
surveyed_from_known [] n h = absurd (omega arith)
surveyed_from_known (post c r ∷ cs) n h = surveyed_from_known cs n h
surveyed_from_known (block c r ∷ cs) n h = surveyed_from_known cs n h
surveyed_from_known (weigh c r k ∷ cs) n h = surveyed_from_known cs n h
surveyed_from_known (point s ∷ cs) n h = elim (known_cases s (surveys_of cs) n h) [ inl e ↦ inl e | inr k ↦ inr (surveyed_from_known cs n k) ]
surveyed_from_known (join s t l k x ∷ cs) n h = surveyed_from_known cs n h

-- the bytes of numbers and of lanes
pub length-fours : (ns : List ℕ) → length (fours ns) ≡ 4 * length ns
length-fours [] = refl
length-fours (n ∷ ns) = omega (arith, length-fours ns)

pub fours_append : (ns ms : List ℕ) → fours (ns ++ ms) ≡ fours ns ++ fours ms
fours_append [] ms = refl
fours_append (n ∷ ns) ms = ap (λ xs. four n ++ xs) (fours_append ns ms)

pub length-lanes_in : (ns : List ℕ) (cs : List Command) → length (lanes_in ns cs) ≡ 8 * joins cs
length-lanes_in ns [] = refl
length-lanes_in ns (post c r ∷ cs) = length-lanes_in ns cs
length-lanes_in ns (block c r ∷ cs) = length-lanes_in ns cs
length-lanes_in ns (weigh c r k ∷ cs) = length-lanes_in ns cs
length-lanes_in ns (point s ∷ cs) = length-lanes_in ns cs
length-lanes_in ns (join s t l k x ∷ cs) = omega (arith, length-lanes_in ns cs)

pub lanes_in_append : (ns : List ℕ) (cs ds : List Command) → lanes_in ns (cs ++ ds) ≡ lanes_in ns cs ++ lanes_in ns ds
lanes_in_append ns [] ds = refl
lanes_in_append ns (c ∷ cs) ds =
    ap (λ xs. lane_of ns c ++ xs) (lanes_in_append ns cs ds) ∙ sym (append_assoc (lane_of ns c) (lanes_in ns cs) (lanes_in ns ds))

-- points that come later leave the lanes as they are
pub lanes_in_more : (ns ms : List ℕ) (cs : List Command) → EndsKnown ns cs → lanes_in (ns ++ ms) cs ≡ lanes_in ns cs
lanes_in_more ns ms [] h = refl
lanes_in_more ns ms (post c r ∷ cs) h = lanes_in_more ns ms cs h
lanes_in_more ns ms (block c r ∷ cs) h = lanes_in_more ns ms cs h
lanes_in_more ns ms (weigh c r k ∷ cs) h = lanes_in_more ns ms cs h
lanes_in_more ns ms (point s ∷ cs) h = lanes_in_more ns ms cs h
lanes_in_more ns ms (join s t l k x ∷ cs) h =
    ap (λ i. lane_bytes i (index_of (ns ++ ms) t) l k x ++ lanes_in (ns ++ ms) cs) (place_in_append ns ms s h.0)
    ∙ ap (λ j. lane_bytes (index_of ns s) j l k x ++ lanes_in (ns ++ ms) cs) (place_in_append ns ms t h.1)
    ∙ ap (λ xs. lane_bytes (index_of ns s) (index_of ns t) l k x ++ xs) (lanes_in_more ns ms cs h.2)

pub ends_known_more : (ns ms : List ℕ) (cs : List Command) → EndsKnown ns cs → EndsKnown (ns ++ ms) cs
ends_known_more ns ms [] h = tt
ends_known_more ns ms (post c r ∷ cs) h = ends_known_more ns ms cs h
ends_known_more ns ms (block c r ∷ cs) h = ends_known_more ns ms cs h
ends_known_more ns ms (weigh c r k ∷ cs) h = ends_known_more ns ms cs h
ends_known_more ns ms (point s ∷ cs) h = ends_known_more ns ms cs h
ends_known_more ns ms (join s t l k x ∷ cs) h = (known_append ns ms s h.0, known_append ns ms t h.1, ends_known_more ns ms cs h.2)

pub ends_known_append : (ns : List ℕ) (cs ds : List Command) → EndsKnown ns cs → EndsKnown ns ds → EndsKnown ns (cs ++ ds)
ends_known_append ns [] ds h g = g
ends_known_append ns (post c r ∷ cs) ds h g = ends_known_append ns cs ds h g
ends_known_append ns (block c r ∷ cs) ds h g = ends_known_append ns cs ds h g
ends_known_append ns (weigh c r k ∷ cs) ds h g = ends_known_append ns cs ds h g
ends_known_append ns (point s ∷ cs) ds h g = ends_known_append ns cs ds h g
ends_known_append ns (join s t l k x ∷ cs) ds h g = (h.0, h.1, ends_known_append ns cs ds h.2 g)
