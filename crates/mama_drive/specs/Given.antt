-- inner: The callbacks that the queues give up, and how they are taken out object by object.
use Rattle.std.specs.Prelude.{◌≡◌, List, [], ◌∷◌, map, slice_index_or, slice_set}
use Rattle.mama_event.specs.declared.ids.ObjectId.{ObjectId}
use Rattle.mama_event.specs.declared.callback.CallNote.{CallNote}
use Rattle.mama_rules_queue.specs.Queue.{deeds, calls_of}
use Rattle.mama_dispatch.specs.Callbacks.{calls_to, without}
use Rattle.mama_record.specs.RunData.{ObjectCalls}
use Rattle.mama_rules_rounds.specs.Client.{Planned}
use Rattle.mama_rules_rounds.specs.Told.{noted}
use Rattle.mama_plans.specs.Orders.{orders_in}
use Rattle.mama_seats.specs.Server.{Server}

-- each object of a queue with its callbacks
abbrev pub Lists : Type 0
Lists = List (ObjectId × List CallNote)

-- a queue gave these callbacks up
abbrev pub HasGiven : Server → Lists → Type 0
HasGiven s given = (o : ObjectId) → calls_to o given ≡ map noted (calls_of o (deeds (orders_in s.objects) s.journal))

-- each queue gave its callbacks up
abbrev pub HaveGiven : List Server → List Lists → Type 0
HaveGiven [] [] = Unit {0}
HaveGiven [] (g ∷ gs) = ⊥
HaveGiven (s ∷ ss) [] = ⊥
HaveGiven (s ∷ ss) (g ∷ gs) = HasGiven s g × HaveGiven ss gs

-- the callbacks of an object among those that its queue gave up
abbrev pub calls_given : List Lists → Planned → ObjectCalls
calls_given given p = record { object = p.object; calls = calls_to p.object (slice_index_or given p.queue []) }

-- what is left when an object's callbacks are taken out
abbrev pub less : Planned → List Lists → List Lists
less p given = slice_set given p.queue (without p.object (slice_index_or given p.queue []))
