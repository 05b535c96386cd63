-- An answer that a test lets through.
use Rattle.std.specs.Prelude.{◌≡◌, Bool, true, false, cond, is_some, Some, None, Option, ◌≢◌, refl}
use Rattle.std.proofs.Common.{sym, ap, true≢false}

pub none≢some : {X : Type 0} (x : X) → None ≢ Some x
none≢some x e = true≢false (sym (ap is_some e))

pub passed : {X : Type 0} (b : Bool) (o : Option X) (x : X) → cond b o None ≡ Some x → (b ≡ true) × (o ≡ Some x)
passed true o x e = (refl, e)
passed false o x e = absurd (none≢some x e)
