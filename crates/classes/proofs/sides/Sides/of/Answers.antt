use Rattle.std.proofs.Common.{◌≡◌, sym, refl, ap, ◌∙◌, rules}
use Rattle.std.proofs.lemmas.Fn.{fronts, fold_over}
use Rattle.std.proofs.lemmas.Iterator.{YieldsList-from_slice}
use Rattle.kinds.specs.Classes.{crossed, product}
use Rattle.kinds.proofs.Products.{product-push}
use Rattle.classes.specs.Sides.{sides, stored}
use Rattle.classes.proofs.Parities.{product_tells}
use Rattle.classes.proofs.sides.Sides.of.Goals as goal

pub returns : goal.returns
returns c =
    let xs = c.args.crossings.now in
    let e : stored c.fold.result.odd ≡ product sides xs =
    fold_over fronts (λ y. y.now) _ (λ ys a. stored a.odd ≡ product sides ys) _
    (λ ys a x b f h k.
    let s : stored b.odd ≡ sides.mul (stored a.odd) (crossed sides x.now) = search rules in
    (s ∙ ap (λ g. sides.mul g (crossed sides x.now)) h ∙ sym (product-push sides ys x.now), refl))
    c.iter.result xs c.unit.result c.fold.result (YieldsList-from_slice {s = c.iter.result} xs cc).runs c.unit.ensures c.fold.ensures.ran in
    record { product = e; tells = λ r. ap (λ f. f r) e ∙ product_tells xs r }
