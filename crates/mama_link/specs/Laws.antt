-- believed: what a link does to any list of messages, whatever a cut leaves of one.
use Rattle.std.specs.Prelude.{◌≡◌, ◌≢◌, ◌⊎◌, ℕ, ◌*◌, ◌≤◌, Bool, true, false, not, List, [], None, Some, count_by, filter}
use Rattle.std.specs.List.{AllByRecursion, AllZip, flat_map}
use Rattle.std.specs.List.Sorted.{IsPermutation}
use Rattle.mama_link.specs.declared.faults.Fault.{Fault}
use Rattle.mama_link.specs.declared.faults.Fault.TheVariants.{Lose, Dup, Hold, Cut}
use Rattle.mama_link.specs.declared.faults.FaultRow.{FaultRow}
use Rattle.mama_link.specs.Faults.{fault_at, first_fault}
use Rattle.mama_link.specs.Link.{numbered, shared, through}

-- without rows, what goes in comes out, in order
abbrev pub PassesAll : Type 0 → Type 0
PassesAll T = (cut : ℕ → T → T) (x : List T) → through cut [] x ≡ x

-- with rows that are not bad, what comes out is, in some order, each message as often as its fault says
abbrev pub SharesOut : Type 0 → Type 0
SharesOut T = (cut : ℕ → T → T) (rows : List FaultRow) (x : List T) → first_fault rows ≡ None → IsPermutation (flat_map (shared cut rows) (numbered x)) (through cut rows x)

-- no row loses a message
abbrev pub LosesNone : List FaultRow → Type 0
LosesNone rows = (i : ℕ) → fault_at rows i ≢ Some Lose

-- no cut changes whether a message passes a test
abbrev pub IsUncut : {T : Type 0} → (ℕ → T → T) → (T → Bool) → Type 0
IsUncut {T} cut test = (keep : ℕ) (message : T) → test (cut keep message) ≡ test message

-- so where no row loses one, what passes such a test comes out at least as often as it went in
abbrev pub LosesNothing : Type 0 → Type 0
LosesNothing T = (cut : ℕ → T → T) (rows : List FaultRow) (x : List T) → first_fault rows ≡ None → LosesNone rows
    → (test : T → Bool) → IsUncut cut test → count_by test x ≤ count_by test (through cut rows x)

-- and with any rows, at most twice as often
abbrev pub AtMostTwice : Type 0 → Type 0
AtMostTwice T = (cut : ℕ → T → T) (rows : List FaultRow) (x : List T) → first_fault rows ≡ None
    → (test : T → Bool) → IsUncut cut test → count_by test (through cut rows x) ≤ 2 * count_by test x

-- CUTS

abbrev pub is_cut : Fault → Bool
is_cut Lose = false
is_cut Dup = false
is_cut (Hold by) = false
is_cut (Cut keep) = true

-- the rows without those that cut
abbrev pub uncut : List FaultRow → List FaultRow
uncut rows = filter (λ row. not (is_cut row.fault)) rows

-- a message, or what a cut leaves of it
abbrev pub IsWholeOrCut : {T : Type 0} → (ℕ → T → T) → T → T → Type 0
IsWholeOrCut cut message out = (out ≡ message) ⊎ ((keep : ℕ) × (out ≡ cut keep message))

-- By a cut nothing is lost, repeated or moved: what comes out is, one by one, what comes out without the cuts, each whole or cut.
abbrev pub CutsKeepAll : Type 0 → Type 0
CutsKeepAll T = (cut : ℕ → T → T) (rows : List FaultRow) (x : List T) → first_fault rows ≡ None
    → AllZip (IsWholeOrCut cut) (through cut (uncut rows) x) (through cut rows x)

-- no cut changes the message that it befalls
abbrev pub CutsNothing : {T : Type 0} → (ℕ → T → T) → List FaultRow → ℕ × T → Type 0
CutsNothing {T} cut rows entry = (keep : ℕ) → fault_at rows entry.0 ≡ Some (Cut keep) → cut keep entry.1 ≡ entry.1

-- A cut that changes nothing of its message is none: so it is where it keeps at least as many bytes as that message has.
abbrev pub LongCutsAreNone : Type 0 → Type 0
LongCutsAreNone T = (cut : ℕ → T → T) (rows : List FaultRow) (x : List T) → first_fault rows ≡ None
    → AllByRecursion (CutsNothing cut rows) (numbered x) → through cut rows x ≡ through cut (uncut rows) x
