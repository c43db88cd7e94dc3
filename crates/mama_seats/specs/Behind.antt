-- inner: What a turn of a queue leaves to be told of the subscription that its event is for.
use Rattle.std.specs.Prelude.{ℕ, Option, Some, None}
use Rattle.std.specs.Option.{option_map}
use Rattle.mama_event.specs.declared.ids.SubId.{SubId}
use Rattle.mama_event.specs.declared.ids.ObjectId.{ObjectId}
use Rattle.mama_event.specs.declared.ids.ObjectId.TheVariants.{Sub, Timer, Inbox}
use Rattle.mama_event.specs.declared.to_queue.QueueNote.{QueueNote}
use Rattle.mama_event.specs.declared.to_queue.QueueNote.TheVariants as q
use Rattle.mama_dispatch.specs.declared.turn.Turn.{Turn}
use Rattle.mama_dispatch.specs.declared.turn.Turn.TheVariants as turn

-- an object that is a subscription
abbrev pub sub_of : ObjectId → Option SubId
sub_of (Sub sub) = Some sub
sub_of (Timer timer) = None
sub_of (Inbox inbox) = None

-- the subscription that an event is for, if it is for one
abbrev pub sub_in : QueueNote → Option SubId
sub_in (q.Create slot object make tag) = sub_of object
sub_in (q.Deliver slot sub msg) = Some sub
sub_in (q.Reply slot inbox body) = None
sub_in (q.Bad slot sub kind sender seq bytes) = Some sub
sub_in (q.BadReply slot inbox bytes) = None
sub_in (q.Tick slot timer moment) = None
sub_in (q.Gone slot object) = sub_of object
sub_in q.Fin = None

-- how many callbacks a turn made of its event's object
abbrev pub called_in : {L : Type 0} → Turn L → ℕ
called_in (turn.Called count) = count
called_in (turn.Muted object) = 0
called_in (turn.Ended object listener) = 1
called_in turn.Running = 0
called_in turn.Finished = 0

-- what the groups are still to be told after a turn with an event that was answered so
abbrev pub untold_of : {L : Type 0} → QueueNote → Turn L → Option (SubId × ℕ)
untold_of note answer = option_map (λ (s : SubId). (s, called_in answer)) (sub_in note)
