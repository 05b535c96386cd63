-- What tests say.
use Rattle.std.proofs.Common.{◌≡◌, ℕ, ◌<◌, ◌≤◌, Bool, false, Decides, sym, ◌∙◌, inl, inr, true≢false}
use Rattle.std.proofs.lemmas.Bool.{cases_lt}

-- what a failed test for room says
pub room_from_test : (r : Bool) (a b : ℕ) → Decides r (a < b) → r ≡ false → b ≤ a
room_from_test r a b d e = elim (cases_lt a b) [ inl lt ↦ absurd (true≢false (sym (d.1 lt) ∙ e)) | inr le ↦ le ]
