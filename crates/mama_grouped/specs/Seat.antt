-- believed: A seat with the groups of its queue: whose it is, what it keeps, and what a turn of it is.
use Rattle.std.specs.Prelude.{◌≡◌, ℕ, ◌+◌, ◌≤◌, List, [], length, map, take, Option, None, Some, IfSome}
use Rattle.std.specs.List.{All}
use Rattle.mama_edge.specs.declared.gate.GateActor.{GateActor}
use Rattle.mama_event.specs.declared.ids.SubId.{SubId}
use Rattle.mama_event.specs.declared.ids.ObjectId.{ObjectId}
use Rattle.mama_event.specs.declared.ids.ObjectId.TheVariants as object
use Rattle.mama_event.specs.declared.group.GroupNote.{GroupNote}
use Rattle.mama_event.specs.declared.to_queue.QueueNote.{QueueNote}
use Rattle.mama_event.specs.declared.to_queue.QueueNote.TheVariants as q
use Rattle.mama_event.specs.Listener.{reached}
use Rattle.mama_script.specs.Script.{ScriptData}
use Rattle.mama_rules_queue.specs.Group.{group_notes}
use Rattle.mama_rules_rounds.specs.Sections.{setting_of}
use Rattle.mama_plans.specs.Orders.{orders_in}
use Rattle.mama_plans.specs.Lists.{groups_on}
use Rattle.mama_group.specs.Listener.{GroupListenerData, told}
use Rattle.mama_group.specs.Table.{GroupData}
use Rattle.mama_crew.specs.Hall.{HallValue}
use Rattle.mama_crew.specs.Seat as crew
use Rattle.mama_crew.specs.Seat.{journal_in}
use Rattle.mama_crew.specs.declared.seat.Seat.{Seat}
use Rattle.mama_crew.specs.declared.seat.Seat.TheVariants.{Client, Publisher, Bridge, Timers, Queue}
use Rattle.mama_grouped.specs.declared.hearing.Hearing.{Hearing}
use Rattle.mama_grouped.specs.declared.seat.GroupedSeat.{GroupedSeat}

-- the subscription that an entry calls back, if it may
abbrev pub sub_of_object : ObjectId → Option SubId
sub_of_object (object.Sub s) = Some s
sub_of_object (object.Timer t) = None
sub_of_object (object.Inbox i) = None

abbrev pub sub_in : QueueNote → Option SubId
sub_in (q.Create slot object make tag) = sub_of_object object
sub_in (q.Deliver slot sub msg) = Some sub
sub_in (q.Bad slot sub kind sender seq bytes) = Some sub
sub_in (q.Gone slot object) = sub_of_object object
sub_in (q.Tick slot timer moment) = None
sub_in (q.Reply slot inbox body) = None
sub_in (q.BadReply slot inbox bytes) = None
sub_in q.Fin = None

-- the groups on the queue of a seat, each with its number
abbrev pub own_groups : {L : Type 0} → ScriptData → Seat L → List (ℕ × List SubId)
own_groups script (Queue n post) = map (λ g. (g.0, g.1.members)) (groups_on (setting_of script).groups n)
own_groups script (Client c seat) = []
own_groups script (Publisher p post) = []
own_groups script (Bridge post) = []
own_groups script (Timers post) = []

-- A listener of a group that heard these notes: it has the group's number as its tag and counted the notes, and what it heard,
-- where it tells that, is they.
pub record HasHeard (number : ℕ) (notes : List GroupNote) (listener : GroupListenerData) : Type 0 where
  pub tag : listener.tag ≡ number
  pub calls : listener.calls ≡ reached 0 (length notes)
  pub heard : IfSome listener.heard (λ heard. heard ≡ notes)

-- The groups of a queue's seat, which were told so many entries of its journal: all but at most the last. Each has heard what its
-- rules say of these, and so has its listener.
pub record IsHearing {L : Type 0} (script : ScriptData) (hall : HallValue) (seat : Seat L) (groups : List GroupData) (told : ℕ) : Type 0 where
  pub within : told ≤ length (journal_in seat)
  pub most : length (journal_in seat) ≤ told + 1
  pub rows : map (λ (g : GroupData). (g.number, g.members)) groups ≡ own_groups script seat
  pub notes : map (λ (g : GroupData). g.notes) groups ≡ map (λ (g : GroupData). group_notes (orders_in hall.objects) g.members (take told (journal_in seat))) groups
  pub listeners : All (λ (g : GroupData). HasHeard g.number g.notes g.listener) groups

-- a seat of a crew, and if it is a queue's, its groups hear it
abbrev pub Hears : {L H : Type 0} → ScriptData → HallValue → Seat L → Option (Hearing H) → Type 0
Hears script hall seat None = IsUnheard seat
  where
    IsUnheard : {L : Type 0} → Seat L → Type 0
    IsUnheard (Queue n post) = ⊥
    IsUnheard _ = Unit {0}
Hears script hall seat (Some hearing) = IsHearing script hall seat hearing.groups hearing.told

pub record IsSeatOf {L H : Type 0} (script : ScriptData) (hall : HallValue) (seat : GroupedSeat L H) : Type 0 where
  pub sits : crew.IsSeatOf script hall seat.seat
  pub hears : Hears script hall seat.seat seat.hearing

abbrev pub actor_of : {L H : Type 0} → GroupedSeat L H → GateActor
actor_of seat = crew.actor_of seat.seat

-- all is done, and all was told
pub record HasEnded {L H : Type 0} (seat : GroupedSeat L H) : Type 0 where
  pub seat_ended : crew.HasEnded seat.seat
  pub told : IfSome seat.hearing (λ hearing. length (journal_in seat.seat) ≡ hearing.told)

-- there is nothing to do, and nothing to tell
pub record IsIdle {L H : Type 0} (seat : GroupedSeat L H) : Type 0 where
  pub idle : crew.IsIdle seat.seat
  pub told : IfSome seat.hearing (λ hearing. length (journal_in seat.seat) ≡ hearing.told)

-- the groups of a queue were told one entry more
abbrev pub HeardOne : {H : Type 0} → Option (Hearing H) → Option (Hearing H) → Type 0
HeardOne (Some old) (Some new) = new.told ≡ old.told + 1
HeardOne _ _ = ⊥

-- A step: the groups were told an entry that was still to be told; or the seat made one, and then all was told.
pub data MadeStep {L H : Type 0} (script : ScriptData) (moment : ℕ) (old new : GroupedSeat L H) : Type 0 where
  heard : new.seat ≡ old.seat → HeardOne old.hearing new.hearing → MadeStep script moment old new
  stepped : crew.MadeStep script moment old.seat new.seat → IfSome new.hearing (λ hearing. length (journal_in new.seat) ≡ hearing.told) → MadeStep script moment old new
