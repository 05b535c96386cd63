-- What a call of map_err says of each variant that it answers.
use Rattle.std.proofs.Common.{◌≡◌, Ok, Err, Result, refl, subst}
use Rattle.std.specs.Result.{MatchResult, IsErrAnd}
use Rattle.std.proofs.lemmas.Result.{err_from_is_err_and}

module _ {T E D : Type 0} (P : E → D → Type 0) (s : Result T D) where
  -- an error was made of an error, as S says of each that the closure makes
  pub mapped_err : (S : E → D → Type 0) (says : (e : E) (d : D) → P e d → S e d) (r : Result T E) (y : D)
      → MatchResult r (λ x. s ≡ Ok x) (λ e. IsErrAnd s (P e)) → s ≡ Err y → (e : E) × (r ≡ Err e) × S e y
  mapped_err S says (Ok x) y h e = absurd (cc)
  mapped_err S says (Err d) y h e =
      let p = err_from_is_err_and s h in
      let was : s ≡ Err p.0 = p.1 in
      let same : p.0 ≡ y = cc in
      (d, refl, says d y (subst (λ (x : D). P d x) same p.2))

  -- a value is as it was
  pub mapped_ok : (r : Result T E) (y : T) → MatchResult r (λ x. s ≡ Ok x) (λ e. IsErrAnd s (P e)) → s ≡ Ok y → r ≡ Ok y
  mapped_ok (Ok x) y h e = let same : x ≡ y = cc in cc
  mapped_ok (Err d) y h e =
      let p = err_from_is_err_and s h in
      let was : s ≡ Err p.0 = p.1 in
      absurd (cc)
