-- believed: what the sections of a script say: its publishers, its clients' steps, its objects, groups and watches.
use Rattle.std.specs.Prelude.{ℕ, suc, ◌+◌, Bool, true, false, List, [], ◌∷◌, ◌++◌, filter, slice_index_or, if◌then◌else◌, Option, None, Some}
use Rattle.std.specs.List.{flat_map}
use Rattle.mama_journal.specs.Journal.{first_said}
use Rattle.mama_event.specs.declared.ids.ObjectId.{ObjectId}
use Rattle.mama_event.specs.Ports.{queues_of}
use Rattle.mama_event.specs.Object.{same_object}
use Rattle.mama_event.specs.declared.ids.SubId.{SubId}
use Rattle.mama_event.specs.declared.watch.WatchRow.{WatchRow}
use Rattle.mama_rules_queue.specs.Queue.{QueuePut}
use Rattle.mama_event.specs.Publisher.{PublisherScript, SendLine}
use Rattle.mama_rules_rounds.specs.Client.{Planned, client_steps, client_objects}
use Rattle.mama_event.specs.declared.ids.ObjectId.TheVariants.{Sub, Timer, Inbox}
use Rattle.mama_event.specs.declared.group.GroupRow.{GroupRow}
use Rattle.mama_script.specs.declared.client.ClientLine.{ClientLine}
use Rattle.mama_script.specs.declared.publisher.PublisherLine.{PublisherLine}
use Rattle.mama_script.specs.declared.publisher.PublisherLine.TheVariants as line
use Rattle.mama_event.specs.Publisher as send
use Rattle.mama_script.specs.declared.publisher.PublisherPart.{PublisherPart}
use Rattle.mama_script.specs.Script.{ScriptData}
use Rattle.mama_rules_rounds.specs.Setting.{Grouped, Watched, Setting}

-- what a line sends
abbrev pub sends_in : PublisherLine → List SendLine
sends_in (line.Update u) = send.Update u ∷ []
sends_in line.Recap = send.Recap ∷ []
sends_in (line.Pause n) = []

-- the publishers of some sections, which are numbered in order
abbrev pub publishers_from : ℕ → List PublisherPart → List PublisherScript
publishers_from n [] = []
publishers_from n (s ∷ rest) = record { number = n; base = s.base; lines = flat_map sends_in s.lines } ∷ publishers_from (suc n) rest

-- the clients' steps, where each client's clock tells the moments of its number
abbrev pub all_client_steps : ℕ → ℕ → List (List ℕ) → List (List ClientLine) → List (List (List QueuePut))
all_client_steps queues c moments [] = []
all_client_steps queues c moments (lines ∷ rest) =
    client_steps queues c (slice_index_or moments c []) lines ∷ all_client_steps queues (suc c) moments rest

abbrev pub objects_of : ℕ → ℕ → List (List ClientLine) → List Planned
objects_of queues c [] = []
objects_of queues c (lines ∷ rest) = client_objects queues c lines ++ objects_of queues (suc c) rest

-- the objects of a script in the order of its record: subscriptions, timers, inboxes, each by client and number
abbrev pub is_sub : Planned → Bool
is_sub p = sub_id p.object
  where
    sub_id : ObjectId → Bool
    sub_id (Sub s) = true
    sub_id _ = false

abbrev pub is_timer : Planned → Bool
is_timer p = timer_id p.object
  where
    timer_id : ObjectId → Bool
    timer_id (Timer t) = true
    timer_id _ = false

abbrev pub is_inbox : Planned → Bool
is_inbox p = inbox_id p.object
  where
    inbox_id : ObjectId → Bool
    inbox_id (Inbox i) = true
    inbox_id _ = false

abbrev pub by_kind : List Planned → List Planned
by_kind objects = filter is_sub objects ++ filter is_timer objects ++ filter is_inbox objects

-- the queue of an object among these
abbrev pub queue_in : ObjectId → Planned → Option ℕ
queue_in o p = if same_object p.object o then Some p.queue else None

abbrev pub queue_of : List Planned → ObjectId → ℕ
queue_of objects o = queue_or_first (first_said (queue_in o) objects)
  where
    queue_or_first : Option ℕ → ℕ
    queue_or_first None = 0
    queue_or_first (Some queue) = queue

-- the queue of a group: that of its first member
abbrev pub queue_of_members : List Planned → List SubId → ℕ
queue_of_members objects [] = 0
queue_of_members objects (s ∷ subs) = queue_of objects (Sub s)

-- the groups and the watches, which are numbered in order
abbrev pub groups_from : List Planned → ℕ → List GroupRow → List Grouped
groups_from objects n [] = []
groups_from objects n (row ∷ rows) = record { number = n; queue = queue_of_members objects row.members; members = row.members } ∷ groups_from objects (suc n) rows

abbrev pub watches_from : List Planned → ℕ → List WatchRow → List Watched
watches_from objects n [] = []
watches_from objects n (row ∷ rows) = record { number = n; queue = queue_of objects (Timer row.timer); row = row } ∷ watches_from objects (suc n) rows

-- the objects of a script with their plans
abbrev pub planned_in : ScriptData → List Planned
planned_in script = by_kind (objects_of (queues_of script.shape) 0 script.clients)

abbrev pub setting_of : ScriptData → Setting
setting_of script = record {
  shape = script.shape;
  publishers = publishers_from 0 script.publishers;
  objects = planned_in script;
  groups = groups_from (planned_in script) 0 script.groups;
  watches = watches_from (planned_in script) 0 script.watches;
}
