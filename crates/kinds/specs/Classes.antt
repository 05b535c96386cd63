-- What a class kind is. Assumes nothing.
--     ClassKind        a group, the element that each ray forwards stands for, the elements that are held, and a total order of the elements
--     crossed G x      what the crossing x is in the group: the unit, a ray's element or its inverse
--     product G xs     what the crossings xs, from first to last, are together
--     After G g x o    o is a value of the class g followed by the crossing x, or none exactly if that element is not held
use Rattle.std.specs.Prelude.{◌≡◌, List, [], ◌∷◌, Option, MatchOption}
use Rattle.kinds.specs.declared.crossing.Ray.{Ray}
use Rattle.kinds.specs.declared.crossing.Crossing.{Crossing}
use Rattle.kinds.specs.declared.crossing.Crossing.TheVariants as cross
use Rattle.kinds.specs.Orders.{Ordered}

pub record ClassKind : Type 1 where
  pub Element : Type 0
  pub unit : Element
  pub mul : Element → Element → Element
  pub inv : Element → Element
  pub ray : Ray → Element
  pub Held : Element → Type 0
  pub order : Ordered Element
  pub assoc : (x y z : Element) → mul (mul x y) z ≡ mul x (mul y z)
  pub left : (x : Element) → mul unit x ≡ x
  pub right : (x : Element) → mul x unit ≡ x
  pub inv_left : (x : Element) → mul (inv x) x ≡ unit
  pub inv_right : (x : Element) → mul x (inv x) ≡ unit
  pub unit_held : Held unit
  pub inv_held : (x : Element) → Held x → Held (inv x)
  pub held_inv : (x : Element) → Held (inv x) → Held x

abbrev pub crossed : (G : ClassKind) → Crossing → G.Element
crossed G cross.None = G.unit
crossed G (cross.Forwards r) = G.ray r
crossed G (cross.Backwards r) = G.inv (G.ray r)

abbrev pub product : (G : ClassKind) → List Crossing → G.Element
product G [] = G.unit
product G (x ∷ xs) = G.mul (crossed G x) (product G xs)

abbrev pub After : {C : Type 0} (G : ClassKind) → (C → G.Element) → G.Element → Crossing → Option C → Type 0
After G element g x o = MatchOption o (G.Held (G.mul g (crossed G x)) → ⊥) (λ c. element c ≡ G.mul g (crossed G x))
