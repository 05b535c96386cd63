use Rattle.std.proofs.Common.{◌≡◌, ℕ, ◌<◌, Some, None, true, false, sym, refl, ◌∙◌, inl, inr, arith}
use Rattle.std.proofs.lemmas.Result.{err_from_is_err_and}
use Rattle.plans.proofs.RoadHoldings.{ended_found, unended_absent, holds_join}
use Rattle.plans.proofs.road_plan.RoadReader.add_lane.Goals as goal

pub returns-in_err-first-clause-said : goal.returns-in_err-first-clause-said
returns-in_err-first-clause-said c cs h =
    let a = c.args.join in
    let range = c.is_in_range.ensures.0 c.if-not-is_in_range.false in
    let is : c.ends_of.result ≡ None = grind arith in
    let p = err_from_is_err_and c.from_residual.result c.from_residual.ensures.1 in
    let v = rw is at c.in_err-first.ensures.value in
    let absent = unended_absent cs c.args.self.now.road c.args.self.now.memory.now c.args.self.now.slots.now h a.first a.second (rw is at c.ends_of.ensures) in
    rw (p.1, p.2) (inr (inr (inl (range, tt, absent, cc))))

pub returns-then-not-has_lane_room-clause-said : goal.returns-then-not-has_lane_room-clause-said
returns-then-not-has_lane_room-clause-said c cs h =
    let a = c.args.join in
    let counts = c.args.self.now.road in
    let range = c.is_in_range.ensures.0 c.if-not-is_in_range.false in
    let is : c.ends_of.result ≡ Some (c.in_ok-first.first, c.in_ok-first.second) = grind arith in
    let ends = ended_found cs counts c.args.self.now.memory.now c.args.self.now.slots.now h a.first a.second c.in_ok-first.first c.in_ok-first.second (rw is at c.ends_of.ensures) in
    inr (inr (inr (
      range,
      tt,
      ends,
      (λ room.
          let few : counts.lanes < 1024 = omega (arith, h.joined) in
          let z : false ≡ true = sym c.if-not-has_lane_room.true ∙ c.has_lane_room.ensures.1 few in
          let y : ◌≡◌ {A = ℕ} 0 1 = cc in omega arith),
      refl,
    )))

pub returns-clause-said : goal.returns-clause-said
returns-clause-said c cs h =
    let a = c.args.join in
    let m = c.args.self.now.memory.now in
    let slots = c.args.self.now.slots.now in
    let counts = c.args.self.now.road in
    let range = c.is_in_range.ensures.0 c.if-not-is_in_range.false in
    let is : c.ends_of.result ≡ Some (c.in_ok-first.first, c.in_ok-first.second) = grind arith in
    let found = rw is at c.ends_of.ensures in
    let ends = ended_found cs counts m slots h a.first a.second c.in_ok-first.first c.in_ok-first.second found in
    let few : counts.lanes < 1024 = c.has_lane_room.ensures.0 c.if-not-has_lane_room.false in (
      (tt, range, tt, ends, omega (arith, h.joined)),
      holds_join cs counts m slots h a.first a.second a.length a.risk a.crossing c.in_ok-first.first c.in_ok-first.second
          c.write_lane.new.memory c.write_lane.ensures found.1 found.2 few,
    )
