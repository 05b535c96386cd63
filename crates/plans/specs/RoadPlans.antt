-- How a roadmap lies in plan memory, by its commands. Assumes nothing.
--     lane_bytes i j l k x   the record of a lane between the points i and j: both, the length, the risk, the crossing byte
--     lane_of ns c           the record of a lane command, its ends by the places of their numbers among ns; nothing for another command
--     lanes_in ns cs         the records of the lanes, in their order
--     fours ns               the numbers, each as four bytes
--     padded n xs            xs, and zeros up to the length n
--     image cs               the memory: the lanes, zeros up to 8192, the survey numbers, zeros up to 10240
--     Tells cs p m           the record p has the counts of the commands, which keep the limits, and the memory m is their image
--     Accepts bytes p m      the bytes are an accepted plan of a roadmap, and the record and the memory tell its commands
use Rattle.std.specs.Prelude.{◌≡◌, ℕ, ◌-◌, ◌≤◌, List, [], ◌∷◌, ◌++◌, length, replicate}
use Rattle.plans.specs.declared.plan.Road.{Road}
use Rattle.plans.specs.Meanings.{surveys_of, index_of}
use Rattle.plans.specs.Plans.{road, Command, post, block, weigh, point, join, two, four, points, joins, Reads, accepted}

abbrev pub lane_bytes : ℕ → ℕ → ℕ → ℕ → ℕ → List ℕ
lane_bytes i j l k x = two i ++ (two j ++ (two l ++ (k ∷ x ∷ [])))

abbrev pub lane_of : List ℕ → Command → List ℕ
lane_of ns (post c r) = []
lane_of ns (block c r) = []
lane_of ns (weigh c r k) = []
lane_of ns (point s) = []
lane_of ns (join s t l k x) = lane_bytes (index_of ns s) (index_of ns t) l k x

abbrev pub lanes_in : List ℕ → List Command → List ℕ
lanes_in ns [] = []
lanes_in ns (c ∷ cs) = lane_of ns c ++ lanes_in ns cs

abbrev pub fours : List ℕ → List ℕ
fours [] = []
fours (n ∷ ns) = four n ++ fours ns

abbrev pub padded : ℕ → List ℕ → List ℕ
padded n xs = xs ++ replicate (n - length xs) 0

abbrev pub image : List Command → List ℕ
image cs = padded 8192 (lanes_in (surveys_of cs) cs) ++ padded 2048 (fours (surveys_of cs))

pub record Tells (cs : List Command) (p : Road) (m : List ℕ) : Type 0 where
  pub counted : p.points ≡ points cs
  pub joined : p.lanes ≡ joins cs
  pub few_points : points cs ≤ 512
  pub few_lanes : joins cs ≤ 1024
  pub laid : m ≡ image cs

pub record Accepts (bytes : List ℕ) (p : Road) (m : List ℕ) : Type 0 where
  pub commands : List Command
  pub reads : Reads bytes (accepted road commands)
  pub tells : Tells commands p m
