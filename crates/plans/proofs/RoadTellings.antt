-- A roadmap's view answers as the commands say.
use Rattle.std.proofs.Common.{◌≡◌, ℕ, ◌+◌, ◌*◌, ◌/◌, ◌%◌, ◌<◌, Bool, true, false, cond, ◌&&◌, ltb, List, get_or, None, sym, refl, ap, ◌∙◌, add-zero, add_assoc, arith}
use Rattle.std.proofs.lemmas.Bool.{ltb-true}
use Rattle.plans.specs.declared.plan.Road.{Road}
use Rattle.plans.specs.declared.road.Link.{Link}
use Rattle.plans.specs.Plans.{Command, points, joins}
use Rattle.plans.specs.Roads.{few, sound, leg, road_site, two_at, link_at, net_in}
use Rattle.plans.specs.Meanings.{links_of, no_link, told_road}
use Rattle.plans.specs.Holdings.{laid, RoadTells}

-- two bytes, high byte first, make the number that they are of
two_at-bytes : (m : List ℕ) (i n : ℕ) → get_or m i 0 ≡ n / 256 → get_or m (i + 1) 0 ≡ n % 256 → two_at m i ≡ n
two_at-bytes m i n e f = omega (arith, e, f)

-- eight bytes make the lane command that they are laid out from
pub link_laid : (m : List ℕ) (a : ℕ) (k : Link) → ((j : ℕ) → j < 8 → get_or m (8 * a + j) 0 ≡ get_or (laid k) j 0) → link_at m a ≡ k
link_laid m a k f =
    let first : two_at m (8 * a) ≡ k.first =
    two_at-bytes m (8 * a) k.first (ap (λ i. get_or m i 0) (sym (add-zero (8 * a))) ∙ f 0 (omega arith)) (f 1 (omega arith)) in
    let second : two_at m (8 * a + 2) ≡ k.second =
    two_at-bytes m (8 * a + 2) k.second (f 2 (omega arith)) (ap (λ i. get_or m i 0) (add_assoc (8 * a) 2 1) ∙ f 3 (omega arith)) in
    let length : two_at m (8 * a + 4) ≡ k.length =
    two_at-bytes m (8 * a + 4) k.length (f 4 (omega arith)) (ap (λ i. get_or m i 0) (add_assoc (8 * a) 4 1) ∙ f 5 (omega arith)) in
    λ i. record { first = first i; second = second i; length = length i; risk = f 6 (omega arith) i; crossing = f 7 (omega arith) i }

-- what is past the last lane command does not matter
leg_same : (n p s : ℕ) (b c : Bool) (k l : Link) → (c ≡ true → k ≡ l) → cond (b && (c && sound n k)) (leg k p s) None ≡ cond (b && (c && sound n l)) (leg l p s) None
leg_same n p s b true k l f = ap (λ x. cond (b && sound n x) (leg x p s) None) (f refl)
leg_same n p s true false k l f = refl
leg_same n p s false false k l f = refl

-- two roadmaps that differ at most past their last lane command have the same map
pub road_same : (points lanes : ℕ) (f g : ℕ → Link) → ((a : ℕ) → a < lanes → f a ≡ g a)
    → road_site (record { points = points; lanes = lanes; link = f }) ≡ road_site (record { points = points; lanes = lanes; link = g })
road_same points lanes f g same = λ i. record {
  points = few points;
  limit = 2048;
  lane = λ p n. leg_same (few points) p (n % 2) (ltb n 2048) (ltb (n / 2) lanes) (f (n / 2)) (g (n / 2)) (λ e. same (n / 2) (ltb-true (n / 2) lanes e)) i;
  estimate = λ p a. 0;
}

-- the view of a roadmap answers as the commands say
pub road_tells : (cs : List Command) (r : Road) (m : List ℕ) → RoadTells cs r m → road_site (net_in r m) ≡ road_site (told_road cs)
road_tells cs r m t =
    (λ i. road_site (record { points = t.pointed i; lanes = t.joined i; link = link_at m }))
    ∙ road_same (points cs) (joins cs) (link_at m) (λ a. get_or (links_of cs) a no_link) (λ a h. link_laid m a (get_or (links_of cs) a no_link) (λ j l. t.lanes a j h l))
