-- The connections of a wire, and what its calls do to them.
use Rattle.std.specs.Prelude.{◌≡◌, ◌<◌, ◌≤◌, ◌+◌, ℕ, Bool, true, false, List, [], ◌∷◌, ◌++◌, length, not, nat_eq}
use Rattle.std.specs.List.{list_any, filter}
use Rattle.std.proofs.Common.{arith}
use Rattle.tc_io.specs.declared.wire.Ev.{Ev}
use Rattle.tc_io.specs.declared.wire.Ev.TheVariants.{Opened, Read, Ended, Quiet, Shut}
use Rattle.tc_io.specs.declared.wire.Sent.{Sent}
use Rattle.tc_io.specs.declared.wire.Sent.TheVariants.{Took, NotYet, Gone}
use Rattle.tc_io.specs.declared.wire.Dialled.{Dialled}
use Rattle.tc_io.specs.declared.wire.Dialled.TheVariants.{Conn, NotNow}

abbrev pub has : List ℕ → ℕ → Bool
has xs c = list_any (nat_eq c) xs

abbrev pub without : ℕ → List ℕ → List ℕ
without c xs = filter (λ d. not (nat_eq d c)) xs

-- an event that may come where these are open and ended, and the numbers below given were given
abbrev pub MayCome : List ℕ → List ℕ → ℕ → List ℕ → Bool → Ev → Type 0
MayCome conns ended given paused busy (Opened c) = (given ≤ c) × (has conns c ≡ false)
MayCome conns ended given paused busy (Read c n) = (0 < n) × (n ≤ 4096) × (has conns c ≡ true) × (has ended c ≡ false) × (has paused c ≡ false)
MayCome conns ended given paused busy (Ended c) = (has conns c ≡ true) × (has ended c ≡ false)
MayCome conns ended given paused busy Quiet = Unit {0}
MayCome conns ended given paused busy Shut = busy ≡ false

-- the open connections after an event
abbrev pub open_after : List ℕ → Ev → List ℕ
open_after conns (Opened c) = conns ++ c ∷ []
open_after conns (Read c n) = conns
open_after conns (Ended c) = conns
open_after conns Quiet = conns
open_after conns Shut = conns

-- those of which no more input comes
abbrev pub ended_after : List ℕ → Ev → List ℕ
ended_after ended (Opened c) = ended
ended_after ended (Read c n) = ended
ended_after ended (Ended c) = c ∷ ended
ended_after ended Quiet = ended
ended_after ended Shut = ended

abbrev pub given_after : ℕ → Ev → ℕ
given_after given (Opened c) = c + 1
given_after given (Read c n) = given
given_after given (Ended c) = given
given_after given Quiet = given
given_after given Shut = given

-- and after the answer of a dial
abbrev pub open_dialled : List ℕ → Dialled → List ℕ
open_dialled conns (Conn c) = conns ++ c ∷ []
open_dialled conns NotNow = conns

abbrev pub given_dialled : ℕ → Dialled → ℕ
given_dialled given (Conn c) = c + 1
given_dialled given NotNow = given

-- these are open, of these no more input comes, and the numbers below this one were given
pub record Becomes (cs es : List ℕ) (n : ℕ) (cs' es' : List ℕ) (n' : ℕ) : Type 0 where
  pub conns : cs' ≡ cs
  pub ended : es' ≡ es
  pub given : n' ≡ n

-- ---- by what a wire says of its connections, before a call and after it

-- all stays
abbrev pub Stay : {W : Type 0} → (W → List ℕ) → (W → List ℕ) → (W → ℕ) → W → W → Type 0
Stay conns ended given old new = Becomes (conns old) (ended old) (given old) (conns new) (ended new) (given new)

-- an event came
abbrev pub Hears : {W : Type 0} → (W → List ℕ) → (W → List ℕ) → (W → ℕ) → W → W → Ev → Type 0
Hears conns ended given old new ev = Becomes (open_after (conns old) ev) (ended_after (ended old) ev) (given_after (given old) ev) (conns new) (ended new) (given new)

-- a dial was answered
abbrev pub Dials : {W : Type 0} → (W → List ℕ) → (W → List ℕ) → (W → ℕ) → W → W → Dialled → Type 0
Dials conns ended given old new answer = Becomes (open_dialled (conns old) answer) (ended old) (given_dialled (given old) answer) (conns new) (ended new) (given new)

-- a connection was closed
abbrev pub Closes : {W : Type 0} → (W → List ℕ) → (W → List ℕ) → (W → ℕ) → W → W → ℕ → Type 0
Closes conns ended given old new c = Becomes (without c (conns old)) (without c (ended old)) (given old) (conns new) (ended new) (given new)

-- ---- what a wire may answer

-- an answer of a dial that may come
abbrev pub MayDial : ℕ → Dialled → Type 0
MayDial given (Conn c) = given ≤ c
MayDial given NotNow = Unit {0}

-- the number of one that opened is none of those that are open
abbrev pub IsUnopened : List ℕ → Dialled → Type 0
IsUnopened conns (Conn c) = has conns c ≡ false
IsUnopened conns NotNow = Unit {0}

-- what a send may take of what it was offered
abbrev pub CanTake : List ℕ → Sent → Type 0
CanTake offered (Took n) = (0 < n) × (n ≤ length offered)
CanTake offered NotYet = Unit {0}
CanTake offered Gone = Unit {0}

-- no number falls behind one that was given, so each new one is above all that were given before
pub given_rises : (conns ended : List ℕ) (given : ℕ) (paused : List ℕ) (busy : Bool) (ev : Ev) → MayCome conns ended given paused busy ev → given ≤ given_after given ev
given_rises conns ended given paused busy (Opened c) may = omega (arith, may.0)
given_rises conns ended given paused busy (Read c n) may = omega arith
given_rises conns ended given paused busy (Ended c) may = omega arith
given_rises conns ended given paused busy Quiet may = omega arith
given_rises conns ended given paused busy Shut may = omega arith

pub dialled_rises : (given : ℕ) (answer : Dialled) → MayDial given answer → given ≤ given_dialled given answer
dialled_rises given (Conn c) may = omega (arith, may)
dialled_rises given NotNow may = omega arith
