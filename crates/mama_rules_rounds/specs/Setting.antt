-- believed: what does not change in a run, and whose part of what the bridge puts is whose.
use Rattle.std.specs.Prelude.{ℕ, Bool, ◌==◌, List, [], ◌∷◌, map, filter, if◌then◌else◌, Option, None, Some}
use Rattle.mama_journal.specs.Journal.{first_said}
use Rattle.mama_event.specs.declared.ids.ObjectId.{ObjectId}
use Rattle.mama_event.specs.declared.shape.Shape.{Shape}
use Rattle.mama_event.specs.declared.order.PlanRow.{PlanRow}
use Rattle.mama_event.specs.declared.to_publisher.PublisherNote.{PublisherNote}
use Rattle.mama_event.specs.declared.to_timers.TimersNote.{TimersNote}
use Rattle.mama_event.specs.declared.to_queue.QueueNote.{QueueNote}
use Rattle.mama_rules_services.specs.Bridge.{BridgePut, to_publisher, to_queue}
use Rattle.mama_rules_services.specs.Bridge as bridge
use Rattle.mama_event.specs.Object.{same_object}
use Rattle.mama_event.specs.declared.order.Order.{Order}
use Rattle.mama_event.specs.Plan.{planned}
use Rattle.mama_event.specs.declared.ids.SubId.{SubId}
use Rattle.mama_event.specs.declared.watch.WatchRow.{WatchRow}
use Rattle.mama_rules_queue.specs.Queue.{QueuePut}
use Rattle.mama_rules_queue.specs.Watch.{watched_puts_at}
use Rattle.mama_event.specs.Publisher.{PublisherScript}
use Rattle.mama_rules_rounds.specs.Client.{Planned}

-- a group of a script, with its number, the queue of its members, and the members
pub record Grouped : Type 0 where
  pub number : ℕ
  pub queue : ℕ
  pub members : List SubId

-- a watch of a script, with its number and the queue of its timer
pub record Watched : Type 0 where
  pub number : ℕ
  pub queue : ℕ
  pub row : WatchRow

-- What does not change in a run: how many actors there are, what the publishers send, the objects with their plans, and the
-- groups and the watches.
pub record Setting : Type 0 where
  pub shape : Shape
  pub publishers : List PublisherScript
  pub objects : List Planned
  pub groups : List Grouped
  pub watches : List Watched

abbrev pub no_section : PublisherScript
no_section = record { number = 0; base = []; lines = [] }

abbrev pub plan_in : ObjectId → Planned → Option (List PlanRow)
plan_in o p = if same_object p.object o then Some p.plan else None

abbrev pub rows_of : Option (List PlanRow) → List PlanRow
rows_of None = []
rows_of (Some rows) = rows

-- the plan of an object
abbrev pub plan_of : Setting → ObjectId → List PlanRow
plan_of setting o = rows_of (first_said (plan_in o) setting.objects)

-- what the listener of an object orders in its callback of this number
abbrev pub orders_by : Setting → ObjectId → ℕ → List Order
orders_by setting o call = planned (plan_of setting o) call

-- the watches of a queue
abbrev pub is_on : ℕ → Watched → Bool
is_on q w = w.queue == q

abbrev pub rows_on : ℕ → List Watched → List WatchRow
rows_on q watches = map (λ w. w.row) (filter (is_on q) watches)

-- what a queue puts at an entry, given its journal before it: what it puts by serving, and what its watches wish for
abbrev pub puts_on : Setting → ℕ → List (ℕ × QueueNote) → ℕ × QueueNote → List QueuePut
puts_on setting q before e = watched_puts_at (orders_by setting) (rows_on q setting.watches) before e

-- the part of the bridge's puts for one publisher, for one queue, and for the timers
abbrev pub publisher_part : ℕ → BridgePut → List PublisherNote
publisher_part p (to_publisher r note) = if r == p then note ∷ [] else []
publisher_part p (to_queue q note) = []
publisher_part p (bridge.to_timers note) = []

abbrev pub queue_part : ℕ → BridgePut → List QueueNote
queue_part q (to_publisher p note) = []
queue_part q (to_queue r note) = if r == q then note ∷ [] else []
queue_part q (bridge.to_timers note) = []

abbrev pub timer_part : BridgePut → List TimersNote
timer_part (to_publisher p note) = []
timer_part (to_queue q note) = []
timer_part (bridge.to_timers note) = note ∷ []
