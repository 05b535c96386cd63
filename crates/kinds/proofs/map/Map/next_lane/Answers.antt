use Rattle.std.proofs.Common.{◌≡◌, true, false, is_some, rules}
use Rattle.std.proofs.lemmas.Iterator.{first_from_Range}
use Rattle.kinds.proofs.Maps.{next_from_first}
use Rattle.kinds.proofs.map.Map.next_lane.Goals as goal

pub returns : goal.returns
returns g c =
    let site = g.Self.Map.site c.args.self.now in
    next_from_first site (g.met.Self.Map.lanes c.args.self.now) c.args.point c.args.from c.limit.result c.find.result c.limit.ensures
    (first_from_Range _ _ _ c.find.result (λ n. true ≡ is_some (site.lane c.args.point n)) (λ n. false ≡ is_some (site.lane c.args.point n)) c.find.ensures.ran
    (λ x q k. search rules) (λ x q k. search rules))
