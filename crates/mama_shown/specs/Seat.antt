-- believed: What a seat with its queue's board keeps, and what a turn of it is.
use Rattle.std.specs.Prelude.{◌≡◌, ℕ, ◌+◌, false, true, List, [], ◌∷◌, length, Option, Some, None, is_some, IfSome, ⊤}
use mathlib.Core.List.{IsPrefix}
use Rattle.mama_edge.specs.declared.gate.GateActor.{GateActor}
use Rattle.mama_edge.specs.declared.gate.GateActor.TheVariants as gate
use Rattle.mama_script.specs.Script.{ScriptData}
use Rattle.mama_rules_rounds.specs.Client.{Planned}
use Rattle.mama_crew.specs.Hall.{HallValue}
use Rattle.mama_crew.specs.Seat.{journal_in}
use Rattle.mama_grouped.specs.Seat as grouped
use Rattle.mama_grouped.specs.declared.seat.GroupedSeat.{GroupedSeat}
use Rattle.mama_board.specs.Values.{ToldValue}
use Rattle.mama_shown.specs.declared.showing.Showing.{Showing}
use Rattle.mama_shown.specs.declared.seat.ShownSeat.{ShownSeat}
use Rattle.mama_shown.specs.Images.{all_sets, AreShown}

-- whose seat it is
abbrev pub actor_of : {L H R : Type 0} → ShownSeat L H R → GateActor
actor_of s = grouped.actor_of s.seat

-- the number of a queue, if the actor is one
abbrev pub queue_in : GateActor → List ℕ
queue_in (gate.Client c) = []
queue_in (gate.Publisher p) = []
queue_in gate.Bridge = []
queue_in gate.Timers = []
queue_in (gate.Queue q) = q ∷ []

-- The seal told this: all sets of the board, which is sealed, and of which none waits. All entries are shown, and the queue has ended.
pub record HasTold {L H R : Type 0} (seat : GroupedSeat L H) (s : Showing R) (told : ToldValue) : Type 0 where
  pub told_is : told ≡ record { queue = s.board.queue; sets = s.board.sets; last = true }
  pub sealed : s.board.sealed ≡ true
  pub none_waits : s.board.waiting ≡ []
  pub all_shown : s.shown ≡ length (journal_in seat.seat)
  pub ended : grouped.HasEnded seat

-- The board of a queue's seat: it shows the seat's journal, and is not sealed before it has told so.
pub record IsShowing {L H R : Type 0} (objects : List Planned) (seat : GroupedSeat L H) (s : Showing R) : Type 0 where
  pub queue_is : queue_in (grouped.actor_of seat) ≡ s.board.queue ∷ []
  pub shows : AreShown objects (journal_in seat.seat) s.shown (all_sets s.board)
  pub unsealed : s.told ≡ None → s.board.sealed ≡ false
  pub told : IfSome s.told (λ told. HasTold seat s told)

-- a queue's seat has its board, and no other has one
abbrev pub Shows : {L H R : Type 0} → List Planned → GroupedSeat L H → Option (Showing R) → Type 0
Shows objects seat None = queue_in (grouped.actor_of seat) ≡ []
Shows objects seat (Some s) = IsShowing objects seat s

-- a seat of an actor of this script in this hall, with its board if it is a queue's
pub record IsSeatOf {L H R : Type 0} (script : ScriptData) (hall : HallValue) (s : ShownSeat L H R) : Type 0 where
  pub sits : grouped.IsSeatOf script hall s.seat
  pub shows : Shows hall.objects s.seat s.showing

-- the board told all sets, if there is one, which a queue's seat has (`Shows`)
abbrev pub HasSealed : {R : Type 0} → Option (Showing R) → Type 0
HasSealed None = ⊤
HasSealed (Some s) = is_some s.told ≡ true

-- all is done, told and shown, and the board is sealed
pub record HasEnded {L H R : Type 0} (s : ShownSeat L H R) : Type 0 where
  pub seat : grouped.HasEnded s.seat
  pub sealed : HasSealed s.showing

-- each entry of the journal is shown, if there is a board, which a queue's seat has (`Shows`)
abbrev pub AllIsShown : {L H R : Type 0} → GroupedSeat L H → Option (Showing R) → Type 0
AllIsShown seat None = ⊤
AllIsShown seat (Some s) = length (journal_in seat.seat) ≡ s.shown

-- the sets that readers can see stay, and maybe more follow, if there is a board
abbrev pub GoesOn : {R : Type 0} → Option (Showing R) → Option (Showing R) → Type 0
GoesOn None None = ⊤
GoesOn (Some old) (Some new) = IsPrefix old.board.sets new.board.sets
GoesOn _ _ = ⊥

-- there is nothing to do, to tell and to show, and all was taken that the seat knows to be put
pub record IsIdle {L H R : Type 0} (s : ShownSeat L H R) : Type 0 where
  pub seat : grouped.IsIdle s.seat
  pub shown : AllIsShown s.seat s.showing

-- A step: one of the seat with its groups, before and after which all is shown; or one entry more was shown; or, where the seat
-- had ended, the board was sealed.
pub data MadeStep {L H R : Type 0} (script : ScriptData) (moment : ℕ) (old new : ShownSeat L H R) : Type 0 where
  stepped : AllIsShown old.seat old.showing → grouped.MadeStep script moment old.seat new.seat → AllIsShown new.seat new.showing → MadeStep script moment old new
  showed : (before after : Showing R) → old.showing ≡ Some before → new.showing ≡ Some after → new.seat ≡ old.seat → after.shown ≡ before.shown + 1 → MadeStep script moment old new
  sealed : grouped.HasEnded old.seat → new.seat ≡ old.seat → HasEnded new → MadeStep script moment old new
