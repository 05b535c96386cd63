-- What the bytes of a plan say, by the commands that they spell. Assumes nothing.
--     Head, Command      the opening command, and those after it, by their operands
--     spell              the bytes of a command; spell_all, of a list of them
--     Belongs            the command belongs to the kind of plan
--     InRange            its operands are in range
--     Fresh              nothing before gave its column or survey number
--     Ended              its ends are known and differ
--     Room               it is not one too many
--     Reads              the plan is accepted with these commands, or refused with this number at this offset
use Rattle.std.specs.Prelude.{◌≡◌, ℕ, ◌+◌, ◌/◌, ◌%◌, ◌<◌, ◌≤◌, ◌⊎◌, List, [], ◌∷◌, ◌++◌, length, ◌≢◌}

pub data Head : Type 0 where
  grid : ℕ → ℕ → ℕ → Head  -- width, height, spacing
  road : Head

pub data Command : Type 0 where
  post : ℕ → ℕ → Command  -- column, row
  block : ℕ → ℕ → Command  -- column, row
  weigh : ℕ → ℕ → ℕ → Command  -- column, row, risk
  point : ℕ → Command  -- survey number
  join : ℕ → ℕ → ℕ → ℕ → ℕ → Command  -- both survey numbers, length, risk, crossing byte

-- n as two and as four bytes, high byte first
abbrev pub two : ℕ → List ℕ
two n = n / 256 ∷ n % 256 ∷ []

abbrev pub four : ℕ → List ℕ
four n = two (n / 65536) ++ two (n % 65536)

abbrev pub spell_head : Head → List ℕ
spell_head (grid w h s) = 71 ∷ w ∷ h ∷ two s
spell_head road = 77 ∷ []

abbrev pub spell : Command → List ℕ
spell (post c r) = 82 ∷ c ∷ r ∷ []
spell (block c r) = 66 ∷ c ∷ r ∷ []
spell (weigh c r k) = 87 ∷ c ∷ r ∷ k ∷ []
spell (point s) = 80 ∷ four s
spell (join s t l k x) = 65 ∷ (four s ++ (four t ++ (two l ++ (k ∷ x ∷ []))))

abbrev pub spell_all : List Command → List ℕ
spell_all [] = []
spell_all (c ∷ cs) = spell c ++ spell_all cs

-- the command bytes of each kind of plan, with how many operand bytes follow
abbrev pub Letter : Head → ℕ → ℕ → Type 0
Letter (grid w h s) b n = ((b ≡ 82) × (n ≡ 2)) ⊎ (((b ≡ 66) × (n ≡ 2)) ⊎ ((b ≡ 87) × (n ≡ 3)))
Letter road b n = ((b ≡ 80) × (n ≡ 4)) ⊎ ((b ≡ 65) × (n ≡ 12))

abbrev pub Belongs : Head → Command → Type 0
Belongs (grid w h s) (post c r) = Unit {0}
Belongs (grid w h s) (block c r) = Unit {0}
Belongs (grid w h s) (weigh c r k) = Unit {0}
Belongs (grid w h s) (point n) = ⊥
Belongs (grid w h s) (join a b l k x) = ⊥
Belongs road (post c r) = ⊥
Belongs road (block c r) = ⊥
Belongs road (weigh c r k) = ⊥
Belongs road (point n) = Unit {0}
Belongs road (join a b l k x) = Unit {0}

-- no crossing, a ray forwards, a ray backwards
abbrev pub CrossingByte : ℕ → Type 0
CrossingByte x = (x ≤ 7) ⊎ ((129 ≤ x) × (x ≤ 135))

abbrev pub HeadInRange : Head → Type 0
HeadInRange (grid w h s) = (2 ≤ w) × (w ≤ 64) × (2 ≤ h) × (h ≤ 64) × (1 ≤ s) × (s ≤ 1000)
HeadInRange road = Unit {0}

abbrev pub InRange : Head → Command → Type 0
InRange (grid w h s) (post c r) = (c + 2 ≤ w) × (r + 2 ≤ h)
InRange (grid w h s) (block c r) = (c < w) × (r < h)
InRange (grid w h s) (weigh c r k) = (c < w) × (r < h)
InRange (grid w h s) (point n) = ⊥
InRange (grid w h s) (join a b l k x) = ⊥
InRange road (post c r) = ⊥
InRange road (block c r) = ⊥
InRange road (weigh c r k) = ⊥
InRange road (point n) = Unit {0}
InRange road (join a b l k x) = (1 ≤ l) × CrossingByte x

abbrev pub Posted : List Command → ℕ → Type 0
Posted [] c = ⊥
Posted (post d r ∷ cs) c = (d ≡ c) ⊎ Posted cs c
Posted (block d r ∷ cs) c = Posted cs c
Posted (weigh d r k ∷ cs) c = Posted cs c
Posted (point s ∷ cs) c = Posted cs c
Posted (join a b l k x ∷ cs) c = Posted cs c

abbrev pub Surveyed : List Command → ℕ → Type 0
Surveyed [] n = ⊥
Surveyed (post d r ∷ cs) n = Surveyed cs n
Surveyed (block d r ∷ cs) n = Surveyed cs n
Surveyed (weigh d r k ∷ cs) n = Surveyed cs n
Surveyed (point s ∷ cs) n = (s ≡ n) ⊎ Surveyed cs n
Surveyed (join a b l k x ∷ cs) n = Surveyed cs n

abbrev pub Fresh : List Command → Command → Type 0
Fresh cs (post c r) = Posted cs c → ⊥
Fresh cs (block c r) = Unit {0}
Fresh cs (weigh c r k) = Unit {0}
Fresh cs (point s) = Surveyed cs s → ⊥
Fresh cs (join a b l k x) = Unit {0}

abbrev pub Ended : List Command → Command → Type 0
Ended cs (post c r) = Unit {0}
Ended cs (block c r) = Unit {0}
Ended cs (weigh c r k) = Unit {0}
Ended cs (point s) = Unit {0}
Ended cs (join a b l k x) = Surveyed cs a × Surveyed cs b × (a ≢ b)

abbrev pub posts : List Command → ℕ
posts [] = 0
posts (post c r ∷ cs) = 1 + posts cs
posts (block c r ∷ cs) = posts cs
posts (weigh c r k ∷ cs) = posts cs
posts (point s ∷ cs) = posts cs
posts (join a b l k x ∷ cs) = posts cs

abbrev pub points : List Command → ℕ
points [] = 0
points (post c r ∷ cs) = points cs
points (block c r ∷ cs) = points cs
points (weigh c r k ∷ cs) = points cs
points (point s ∷ cs) = 1 + points cs
points (join a b l k x ∷ cs) = points cs

abbrev pub joins : List Command → ℕ
joins [] = 0
joins (post c r ∷ cs) = joins cs
joins (block c r ∷ cs) = joins cs
joins (weigh c r k ∷ cs) = joins cs
joins (point s ∷ cs) = joins cs
joins (join a b l k x ∷ cs) = 1 + joins cs

abbrev pub Room : List Command → Command → Type 0
Room cs (post c r) = posts cs < 7
Room cs (block c r) = Unit {0}
Room cs (weigh c r k) = Unit {0}
Room cs (point s) = points cs < 512
Room cs (join a b l k x) = joins cs < 1024

-- the command may come after those before it
abbrev pub Good : Head → List Command → Command → Type 0
Good h before c = Belongs h c × InRange h c × Fresh before c × Ended before c × Room before c

abbrev pub AllGood : Head → List Command → List Command → Type 0
AllGood h before [] = Unit {0}
AllGood h before (c ∷ cs) = Good h before c × AllGood h (before ++ (c ∷ [])) cs

-- after good commands, what stands next is faulty: number n, at offset i from there
abbrev pub Fault : Head → List Command → List ℕ → ℕ → ℕ → Type 0
Fault h cs rest n i =
    ((rest ≡ []) × (n ≡ 5) × (i ≡ 0))
    ⊎ (((b : ℕ) × (xs : List ℕ) × (rest ≡ 69 ∷ (b ∷ xs)) × (n ≡ 10) × (i ≡ 1))
    ⊎ (((b : ℕ) × (xs : List ℕ) × (rest ≡ b ∷ xs) × (b ≢ 69) × ((w : ℕ) → Letter h b w → ⊥) × (n ≡ 4) × (i ≡ 0))
    ⊎ (((b : ℕ) × (xs : List ℕ) × (w : ℕ) × (rest ≡ b ∷ xs) × Letter h b w × (length xs < w) × (n ≡ 5) × (i ≡ 0))
    ⊎ ((c : Command) × (xs : List ℕ) × (rest ≡ spell c ++ xs) × Belongs h c × (i ≡ 0)
    × (((InRange h c → ⊥) × (n ≡ 6))
    ⊎ ((InRange h c × (Fresh cs c → ⊥) × (n ≡ 7))
    ⊎ ((InRange h c × Fresh cs c × (Ended cs c → ⊥) × (n ≡ 8))
    ⊎ (InRange h c × Fresh cs c × Ended cs c × (Room cs c → ⊥) × (n ≡ 9)))))))))

pub data Outcome : Type 0 where
  accepted : Head → List Command → Outcome
  refused : ℕ → ℕ → Outcome  -- number, offset

abbrev pub Reads : List ℕ → Outcome → Type 0
Reads bytes (accepted h cs) = (bytes ≡ spell_head h ++ (spell_all cs ++ (69 ∷ []))) × HeadInRange h × AllGood h [] cs
Reads bytes (refused n o) =
    ((bytes ≡ []) × (n ≡ 3) × (o ≡ 0))
    ⊎ (((b : ℕ) × (xs : List ℕ) × (bytes ≡ b ∷ xs) × (b ≢ 71) × (b ≢ 77) × (n ≡ 3) × (o ≡ 0))
    ⊎ (((xs : List ℕ) × (bytes ≡ 71 ∷ xs) × (length xs < 4) × (n ≡ 5) × (o ≡ 0))
    ⊎ (((h : Head) × (xs : List ℕ) × (bytes ≡ spell_head h ++ xs) × (HeadInRange h → ⊥) × (n ≡ 6) × (o ≡ 0))
    ⊎ ((h : Head) × (cs : List Command) × (rest : List ℕ) × (i : ℕ)
    × (bytes ≡ spell_head h ++ (spell_all cs ++ rest)) × HeadInRange h × AllGood h [] cs
    × Fault h cs rest n i × (o ≡ length (spell_head h) + (length (spell_all cs) + i))))))
