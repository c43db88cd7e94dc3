-- believed: a client's rules: what its lines put, step by step.
use Rattle.std.specs.Prelude.{ℕ, suc, ◌+◌, ◌%◌, Bool, true, false, List, [], ◌∷◌, ◌++◌, replicate}
use Rattle.mama_journal.specs.Journal.{count_of}
use Rattle.mama_event.specs.declared.ids.ObjectId.{ObjectId}
use Rattle.mama_event.specs.declared.ids.ObjectId.TheVariants.{Sub, Timer, Inbox}
use Rattle.mama_event.specs.declared.order.PlanRow.{PlanRow}
use Rattle.mama_event.specs.declared.to_bridge.BridgeNote.{BridgeNote}
use Rattle.mama_event.specs.declared.to_bridge.BridgeNote.TheVariants as b
use Rattle.mama_event.specs.declared.to_timers.TimersNote.{TimersNote}
use Rattle.mama_event.specs.declared.to_timers.TimersNote.TheVariants as t
use Rattle.mama_script.specs.declared.client.ClientLine.{ClientLine}
use Rattle.mama_script.specs.declared.client.ClientLine.TheVariants as line
use Rattle.mama_script.specs.declared.client.QueueWord.{QueueWord}
use Rattle.mama_script.specs.declared.client.QueueWord.TheVariants.{Number, Any}
use Rattle.mama_rules_queue.specs.Queue.{QueuePut, to_bridge, to_timers, order_put}

-- Where a client stands before a line: how many objects of each kind it has named, how many times it has taken the
-- next queue in turn, and the moments that its clock has still to tell.
pub record Standing : Type 0 where
  pub subs : ℕ
  pub timers : ℕ
  pub inboxes : ℕ
  pub turns : ℕ
  pub moments : List ℕ

abbrev pub at_first : List ℕ → Standing
at_first moments = record { subs = 0; timers = 0; inboxes = 0; turns = 0; moments = moments }

-- the queue that a word names: its number, or the next in turn
abbrev pub queue_named : ℕ → Standing → QueueWord → ℕ
queue_named queues s (Number q) = q
queue_named queues s Any = s.turns % queues

abbrev pub after_word : Standing → QueueWord → Standing
after_word s (Number q) = s
after_word s Any = record s { turns = suc s.turns }

-- the next moment that the clock tells
abbrev pub first_moment : List ℕ → ℕ
first_moment [] = 0
first_moment (m ∷ ms) = m

abbrev pub later_moments : List ℕ → List ℕ
later_moments [] = []
later_moments (m ∷ ms) = ms

-- the standing after a line
abbrev pub after_line : Standing → ClientLine → Standing
after_line s (line.Sub topic kind queue cache recaps faults plan) = record (after_word s queue) { subs = suc s.subs }
after_line s (line.Timer queue interval plan) = record (after_word s queue) { timers = suc s.timers }
after_line s (line.Inbox queue faults plan) = record (after_word s queue) { inboxes = suc s.inboxes }
after_line s (line.Order o) = s
after_line s (line.Now m) = s
after_line s line.NowClock = record s { moments = later_moments s.moments }
after_line s (line.Pause n) = s

-- What a line puts, step by step. A pause takes as many steps as it says, in which nothing is put.
abbrev pub line_steps : ℕ → ℕ → Standing → ClientLine → List (List QueuePut)
line_steps queues c s (line.Sub topic kind queue cache recaps faults plan) =
    (to_bridge (b.Join (record { client = c; number = s.subs })
    (record { topic = topic; kind = kind; queue = queue_named queues s queue; cache = cache; recaps = recaps; faults = faults })
    (Sub (record { client = c; number = s.subs }))) ∷ []) ∷ []
line_steps queues c s (line.Timer queue interval plan) =
    (to_timers (t.Arm (record { client = c; number = s.timers }) (queue_named queues s queue) interval
    (Timer (record { client = c; number = s.timers }))) ∷ []) ∷ []
line_steps queues c s (line.Inbox queue faults plan) =
    (to_bridge (b.OpenInbox (record { client = c; number = s.inboxes })
    (record { queue = queue_named queues s queue; faults = faults })
    (Inbox (record { client = c; number = s.inboxes }))) ∷ []) ∷ []
line_steps queues c s (line.Order o) = (order_put o ∷ []) ∷ []
line_steps queues c s (line.Now m) = (to_timers (t.Now m) ∷ []) ∷ []
line_steps queues c s line.NowClock = (to_timers (t.Now (first_moment s.moments)) ∷ []) ∷ []
line_steps queues c s (line.Pause n) = replicate n []

-- a line reads the clock
abbrev pub reads_clock : ClientLine → Bool
reads_clock line.NowClock = true
reads_clock _ = false

-- how many moments the lines of a client read
abbrev pub clock_lines : List ClientLine → ℕ
clock_lines lines = count_of reads_clock lines

-- what a client puts, step by step: its lines in order, and then that it is done
abbrev pub steps_from : ℕ → ℕ → Standing → List ClientLine → List (List QueuePut)
steps_from queues c s [] = (to_timers t.ClientDone ∷ to_bridge b.ClientDone ∷ []) ∷ []
steps_from queues c s (l ∷ ls) = line_steps queues c s l ++ steps_from queues c (after_line s l) ls

-- the steps of a client with these lines, whose clock tells these moments
abbrev pub client_steps : ℕ → ℕ → List ℕ → List ClientLine → List (List QueuePut)
client_steps queues c moments lines = steps_from queues c (at_first moments) lines

-- the part of some puts that goes to the bridge, and to the timers
abbrev pub bridge_part : QueuePut → List BridgeNote
bridge_part (to_bridge note) = note ∷ []
bridge_part (to_timers note) = []

abbrev pub timers_part : QueuePut → List TimersNote
timers_part (to_bridge note) = []
timers_part (to_timers note) = note ∷ []

-- an object of a script, with its queue and its plan
pub record Planned : Type 0 where
  pub object : ObjectId
  pub queue : ℕ
  pub plan : List PlanRow

abbrev pub line_object : ℕ → ℕ → Standing → ClientLine → List Planned
line_object queues c s (line.Sub topic kind queue cache recaps faults plan) =
    record { object = Sub (record { client = c; number = s.subs }); queue = queue_named queues s queue; plan = plan } ∷ []
line_object queues c s (line.Timer queue interval plan) =
    record { object = Timer (record { client = c; number = s.timers }); queue = queue_named queues s queue; plan = plan } ∷ []
line_object queues c s (line.Inbox queue faults plan) =
    record { object = Inbox (record { client = c; number = s.inboxes }); queue = queue_named queues s queue; plan = plan } ∷ []
line_object queues c s (line.Order o) = []
line_object queues c s (line.Now m) = []
line_object queues c s line.NowClock = []
line_object queues c s (line.Pause n) = []

abbrev pub objects_from : ℕ → ℕ → Standing → List ClientLine → List Planned
objects_from queues c s [] = []
objects_from queues c s (l ∷ ls) = line_object queues c s l ++ objects_from queues c (after_line s l) ls

-- the objects of one client's lines, in the order of the lines
abbrev pub client_objects : ℕ → ℕ → List ClientLine → List Planned
client_objects queues c lines = objects_from queues c (at_first []) lines
