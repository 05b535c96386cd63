-- What an option is, from the test whether it holds something.
use Rattle.std.proofs.Common.{◌≡◌, true, false, is_some, Some, None, Option, sym, refl, true≢false}

pub some_from_test : {X : Type 0} (o : Option X) → true ≡ is_some o → (x : X) × (o ≡ Some x)
some_from_test None e = absurd (true≢false e)
some_from_test (Some x) e = (x, refl)

pub none_from_test : {X : Type 0} (o : Option X) → false ≡ is_some o → o ≡ None
none_from_test None e = refl
none_from_test (Some x) e = absurd (true≢false (sym e))

-- what holds nothing that is lawful holds nothing
pub none_from_absurd : {X : Type 0} (o : Option X) → ((x : X) → o ≡ Some x → ⊥) → o ≡ None
none_from_absurd None f = refl
none_from_absurd (Some x) f = absurd (f x refl)
