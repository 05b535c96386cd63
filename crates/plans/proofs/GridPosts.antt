-- The posts of a list of commands, counted, found by column, and one more.
use Rattle.std.proofs.Common.{◌≡◌, ℕ, zero, suc, ◌+◌, ◌-◌, ◌<◌, List, [], ◌∷◌, ◌++◌, length, get_or, set, replicate, sym, refl, ap, ◌∙◌, inl, inr, append_assoc, arith}
use Rattle.std.proofs.lemmas.List.{set_at, get_or_append_left, append-nil}
use Rattle.plans.specs.declared.plan.Grid.{Grid}
use Rattle.plans.specs.declared.plan.Post.{Post}
use Rattle.plans.specs.Plans.{Command, post, block, weigh, point, join, Posted, posts}
use Rattle.plans.specs.GridPlans.{post_at}
use Rattle.plans.specs.Holdings.{nowhere, Placed}
use Rattle.plans.specs.Meanings.{posts_of}
use Rattle.plans.specs.GridSteps.{Taken}

length-posts_of : (cs : List Command) → length (posts_of cs) ≡ posts cs
length-posts_of [] = refl
length-posts_of (post c r ∷ cs) = omega (arith, length-posts_of cs)
length-posts_of (block c r ∷ cs) = length-posts_of cs
length-posts_of (weigh c r k ∷ cs) = length-posts_of cs
length-posts_of (point s ∷ cs) = length-posts_of cs
length-posts_of (join a b l k x ∷ cs) = length-posts_of cs

posts_append : (cs ds : List Command) → posts (cs ++ ds) ≡ posts cs + posts ds
posts_append [] ds = omega arith
posts_append (post c r ∷ cs) ds = omega (arith, posts_append cs ds)
posts_append (block c r ∷ cs) ds = posts_append cs ds
posts_append (weigh c r k ∷ cs) ds = posts_append cs ds
posts_append (point s ∷ cs) ds = posts_append cs ds
posts_append (join a b l k x ∷ cs) ds = posts_append cs ds

posts_of_append : (cs ds : List Command) → posts_of (cs ++ ds) ≡ posts_of cs ++ posts_of ds
posts_of_append [] ds = refl
posts_of_append (post c r ∷ cs) ds = ap (λ ps. post_at c r ∷ ps) (posts_of_append cs ds)
posts_of_append (block c r ∷ cs) ds = posts_of_append cs ds
posts_of_append (weigh c r k ∷ cs) ds = posts_of_append cs ds
posts_of_append (point s ∷ cs) ds = posts_of_append cs ds
posts_of_append (join a b l k x ∷ cs) ds = posts_of_append cs ds

-- a post at some place is posted
posted_from_at : (cs : List Command) (k c : ℕ) → k < posts cs → (get_or (posts_of cs) k nowhere).column ≡ c → Posted cs c
posted_from_at [] k c h e = absurd (omega arith)
posted_from_at (post d r ∷ cs) zero c h e = inl e
posted_from_at (post d r ∷ cs) (suc k) c h e = inr (posted_from_at cs k c (omega arith) e)
posted_from_at (block d r ∷ cs) k c h e = posted_from_at cs k c h e
posted_from_at (weigh d r x ∷ cs) k c h e = posted_from_at cs k c h e
posted_from_at (point s ∷ cs) k c h e = posted_from_at cs k c h e
posted_from_at (join a b l x y ∷ cs) k c h e = posted_from_at cs k c h e

-- some post stands in the column
abbrev At : List Command → ℕ → Type 0
At cs c = (k : ℕ) × (k < posts cs) × ((get_or (posts_of cs) k nowhere).column ≡ c)

at_from_posted : (cs : List Command) (c : ℕ) → Posted cs c → At cs c
at_from_posted [] c h = absurd h
at_from_posted (post d r ∷ cs) c (inl e) = (0, omega arith, e)
at_from_posted (post d r ∷ cs) c (inr h) = let p = at_from_posted cs c h in (suc p.0, omega (arith, p.1), p.2)
at_from_posted (block d r ∷ cs) c h = at_from_posted cs c h
at_from_posted (weigh d r x ∷ cs) c h = at_from_posted cs c h
at_from_posted (point s ∷ cs) c h = at_from_posted cs c h
at_from_posted (join a b l x y ∷ cs) c h = at_from_posted cs c h

-- a post that the record holds is one of the commands'
get_or_placed : (cs : List Command) (g : Grid) (k : ℕ) → Placed cs g → k < posts cs → get_or g.posts k nowhere ≡ get_or (posts_of cs) k nowhere
get_or_placed cs g k h l =
    let short : k < length (posts_of cs) = omega (arith, length-posts_of cs) in
    ap (λ ps. get_or ps k nowhere) h.placed ∙ get_or_append_left (posts_of cs) (replicate (7 - posts cs) nowhere) nowhere k short

-- a column that the record has taken was given by a command
pub posted_from_taken : (cs : List Command) (g : Grid) (c : ℕ) → Placed cs g → Taken g c → Posted cs c
posted_from_taken cs g c h (k, l, e) =
    let m : k < posts cs = omega (arith, h.counted) in
    posted_from_at cs k c m (sym (ap (λ (q : Post). q.column) (get_or_placed cs g k h m)) ∙ e)

-- a column that the record has free was given by none
pub fresh_from_free : (cs : List Command) (g : Grid) (c : ℕ) → Placed cs g → (Taken g c → ⊥) → Posted cs c → ⊥
fresh_from_free cs g c h none q =
    let a = at_from_posted cs c q in
    let l : a.0 < posts cs = a.1 in
    none (a.0, omega (arith, h.counted), ap (λ (q : Post). q.column) (get_or_placed cs g a.0 h l) ∙ a.2)

replicate_less : (n : ℕ) → n < 7 → replicate (7 - n) nowhere ≡ nowhere ∷ replicate (7 - (n + 1)) nowhere
replicate_less n l = let e : 7 - n ≡ suc (7 - (n + 1)) = omega arith in ap (λ k. replicate k nowhere) e

-- the next free place is filled: the record holds one post more
pub placed_push : (cs : List Command) (g : Grid) (c r : ℕ) (new : Post) → new ≡ post_at c r → Placed cs g → posts cs < 7
    → Placed (cs ++ (post c r ∷ [])) (record { width = g.width; height = g.height; spacing = g.spacing; posts = set g.posts g.count new; count = g.count + 1 })
placed_push cs g c r new is h l =
    let n = posts cs in
    let more : posts (cs ++ (post c r ∷ [])) ≡ n + 1 = posts_append cs (post c r ∷ []) in
    let back = replicate (7 - (n + 1)) nowhere in
    let a : set g.posts g.count new ≡ set (posts_of cs ++ (nowhere ∷ back)) n (post_at c r) =
    ap (λ ps. set ps g.count new) (h.placed ∙ ap (λ xs. posts_of cs ++ xs) (replicate_less n l))
    ∙ (ap (λ k. set (posts_of cs ++ (nowhere ∷ back)) k new) h.counted ∙ ap (λ p. set (posts_of cs ++ (nowhere ∷ back)) n p) is) in
    let b : set (posts_of cs ++ (nowhere ∷ back)) n (post_at c r) ≡ posts_of cs ++ (post_at c r ∷ back) = set_at (posts_of cs) nowhere back (post_at c r) n (length-posts_of cs) in
    let d : posts_of cs ++ (post_at c r ∷ back) ≡ (posts_of cs ++ (post_at c r ∷ [])) ++ back = sym (append_assoc (posts_of cs) (post_at c r ∷ []) back) in
    let e : (posts_of cs ++ (post_at c r ∷ [])) ++ back ≡ posts_of (cs ++ (post c r ∷ [])) ++ replicate (7 - posts (cs ++ (post c r ∷ []))) nowhere =
    ap (λ xs. xs ++ back) (sym (posts_of_append cs (post c r ∷ []))) ∙ ap (λ k. posts_of (cs ++ (post c r ∷ [])) ++ replicate (7 - k) nowhere) (sym more) in
    record { counted = omega (arith, h.counted, more); few = omega (arith, more); placed = a ∙ (b ∙ (d ∙ e)) }

-- a command that is no post leaves them as they are
pub placed_same : (cs : List Command) (x : Command) (g : Grid) → posts (x ∷ []) ≡ 0 → posts_of (x ∷ []) ≡ [] → Placed cs g → Placed (cs ++ (x ∷ [])) g
placed_same cs x g none empty h =
    let n : posts cs ≡ posts (cs ++ (x ∷ [])) = omega (arith, posts_append cs (x ∷ [])) in
    let q : posts_of cs ≡ posts_of (cs ++ (x ∷ [])) = sym (posts_of_append cs (x ∷ []) ∙ (ap (λ ys. posts_of cs ++ ys) empty ∙ append-nil (posts_of cs))) in
    record { counted = h.counted ∙ n; few = omega (arith, h.few); placed = h.placed ∙ (ap (λ xs. xs ++ replicate (7 - posts cs) nowhere) q ∙ ap (λ k. posts_of (cs ++ (x ∷ [])) ++ replicate (7 - k) nowhere) n) }
