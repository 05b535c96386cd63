-- A command, and an opening command, can be told from the bytes that begin with its spelling.
use Rattle.std.proofs.Common.{◌≡◌, ℕ, ◌+◌, ◌*◌, ◌/◌, ◌%◌, cond, eqb, List, ◌++◌, get_or, sym, refl, ap, ◌∙◌, arith}
use Rattle.std.proofs.lemmas.List.{append_cancel_left}
use Rattle.plans.specs.Plans.{Head, grid, road, Command, post, block, weigh, point, join, spell, spell_head}

-- the numbers that two and four bytes spell
abbrev from_two : ℕ → ℕ → ℕ
from_two a b = a * 256 + b

abbrev from_four : ℕ → ℕ → ℕ → ℕ → ℕ
from_four a b c d = from_two a b * 65536 + from_two c d

from_two_of : (n : ℕ) → from_two (n / 256) (n % 256) ≡ n
from_two_of n = omega arith

from_four_of : (n : ℕ) → from_four (n / 65536 / 256) (n / 65536 % 256) (n % 65536 / 256) (n % 65536 % 256) ≡ n
from_four_of n = omega arith

-- the command that bytes begin with, if they begin with one
abbrev decode : List ℕ → Command
decode xs =
    cond (eqb (get_or xs 0 0) 82) (post (get_or xs 1 0) (get_or xs 2 0))
    (cond (eqb (get_or xs 0 0) 66) (block (get_or xs 1 0) (get_or xs 2 0))
    (cond (eqb (get_or xs 0 0) 87) (weigh (get_or xs 1 0) (get_or xs 2 0) (get_or xs 3 0))
    (cond (eqb (get_or xs 0 0) 80) (point (from_four (get_or xs 1 0) (get_or xs 2 0) (get_or xs 3 0) (get_or xs 4 0)))
    (join (from_four (get_or xs 1 0) (get_or xs 2 0) (get_or xs 3 0) (get_or xs 4 0)) (from_four (get_or xs 5 0) (get_or xs 6 0) (get_or xs 7 0) (get_or xs 8 0))
    (from_two (get_or xs 9 0) (get_or xs 10 0)) (get_or xs 11 0) (get_or xs 12 0)))))

decode_spell : (c : Command) (ys : List ℕ) → decode (spell c ++ ys) ≡ c
decode_spell (post c r) ys = refl
decode_spell (block c r) ys = refl
decode_spell (weigh c r k) ys = refl
decode_spell (point s) ys = ap (λ n. point n) (from_four_of s)
decode_spell (join s t l k x) ys =
    let a = from_four_of s in
    let b = from_four_of t in
    let d = from_two_of l in
    cc

-- bytes begin with one command only
pub same_command : (c d : Command) (ys zs : List ℕ) → spell c ++ ys ≡ spell d ++ zs → c ≡ d
same_command c d ys zs e = sym (decode_spell c ys) ∙ (ap decode e ∙ decode_spell d zs)

-- what is left after the command is the same too
pub same_left : (c d : Command) (ys zs : List ℕ) → spell c ++ ys ≡ spell d ++ zs → ys ≡ zs
same_left c d ys zs e =
    append_cancel_left (spell d) ys zs (ap (λ x. spell x ++ ys) (sym (same_command c d ys zs e)) ∙ e)

-- the opening command that bytes begin with, if they begin with one
abbrev decode_head : List ℕ → Head
decode_head xs = cond (eqb (get_or xs 0 0) 71) (grid (get_or xs 1 0) (get_or xs 2 0) (from_two (get_or xs 3 0) (get_or xs 4 0))) road

decode_spell_head : (h : Head) (ys : List ℕ) → decode_head (spell_head h ++ ys) ≡ h
decode_spell_head (grid w h s) ys = ap (λ n. grid w h n) (from_two_of s)
decode_spell_head road ys = refl

-- bytes begin with one opening command only
pub same_head : (h k : Head) (ys zs : List ℕ) → spell_head h ++ ys ≡ spell_head k ++ zs → h ≡ k
same_head h k ys zs e = sym (decode_spell_head h ys) ∙ (ap decode_head e ∙ decode_spell_head k zs)

-- what is left after the opening command is the same too
pub same_after_head : (h k : Head) (ys zs : List ℕ) → spell_head h ++ ys ≡ spell_head k ++ zs → ys ≡ zs
same_after_head h k ys zs e =
    append_cancel_left (spell_head k) ys zs (ap (λ x. spell_head x ++ ys) (sym (same_head h k ys zs e)) ∙ e)
