-- believed: What a script declares, as far as a log may name it.
use Rattle.std.specs.Prelude.{◌≡◌, ℕ, ◌^◌, ◌<◌, ◌+◌, ◌%◌, true, List, [], ◌∷◌, ◌++◌, map, Option, option_map, option_and_then, is_some, slice_get}
use Rattle.mama_event.specs.declared.ids.SubId.{SubId}
use Rattle.mama_event.specs.declared.ids.TimerId.{TimerId}
use Rattle.mama_event.specs.declared.ids.InboxId.{InboxId}
use Rattle.mama_event.specs.declared.ids.ObjectId.{ObjectId}
use Rattle.mama_event.specs.declared.ids.ObjectId.TheVariants.{Sub, Timer, Inbox}
use Rattle.mama_event.specs.declared.shape.Shape.{Shape}
use Rattle.mama_event.specs.declared.to_bridge.SubTerms.{SubTerms}
use Rattle.mama_event.specs.declared.to_bridge.InboxTerms.{InboxTerms}
use Rattle.mama_event.specs.declared.to_queue.Make.{Make}
use Rattle.mama_event.specs.declared.shape.Strategy.{Strategy}
use Rattle.mama_event.specs.declared.to_queue.Make.TheVariants as makes
use Rattle.mama_words.specs.declared.nums.Nums.{Nums}
use Rattle.mama_words.specs.Value.{nums_of}
use Rattle.mama_script.specs.Script.{ScriptData}
use Rattle.mama_script.specs.declared.client.QueueWord.{QueueWord}
use Rattle.mama_script.specs.declared.client.QueueWord.TheVariants.{Number, Any}
use Rattle.mama_script.specs.declared.client.ClientLine.{ClientLine}
use Rattle.mama_script.specs.declared.client.ClientLine.TheVariants as line
use Rattle.mama_log_line.specs.declared.names.TimerTerms.{TimerTerms}

-- the terms of a client's subscriptions, timers and inboxes, each kind by number
pub record ClientData : Type 0 where
  pub subs : List SubTerms
  pub timers : List TimerTerms
  pub inboxes : List InboxTerms

-- the counts of a script, whether its text knows lists of numbers, and what each of its clients declares
pub record NamesData : Type 0 where
  pub nums : Nums
  pub shape : Shape
  pub clients : List ClientData

-- the queue that a word names, where so many words before it took the next queue in turn
abbrev pub queue_at : ℕ → ℕ → QueueWord → ℕ
queue_at queues turns (Number q) = q
queue_at queues turns Any = turns % queues

abbrev pub turns_with : ℕ → QueueWord → ℕ
turns_with turns (Number q) = turns
turns_with turns Any = turns + 1

-- how many words took the next queue in turn, with a line more
abbrev pub turns_after : ℕ → ClientLine → ℕ
turns_after turns (line.Sub topic kind queue cache recaps faults plan) = turns_with turns queue
turns_after turns (line.Timer queue interval plan) = turns_with turns queue
turns_after turns (line.Inbox queue faults plan) = turns_with turns queue
turns_after turns _ = turns

-- what is declared, with a line more
abbrev pub data_with : ℕ → ℕ → ClientData → ClientLine → ClientData
data_with queues turns d (line.Sub topic kind queue cache recaps faults plan) =
    record d { subs = d.subs ++ record { topic = topic; kind = kind; queue = queue_at queues turns queue; cache = cache; recaps = recaps; faults = faults } ∷ [] }
data_with queues turns d (line.Timer queue interval plan) =
    record d { timers = d.timers ++ record { queue = queue_at queues turns queue; interval = interval } ∷ [] }
data_with queues turns d (line.Inbox queue faults plan) =
    record d { inboxes = d.inboxes ++ record { queue = queue_at queues turns queue; faults = faults } ∷ [] }
data_with queues turns d _ = d

-- what is declared after some lines more
abbrev pub data_after : ℕ → ℕ → ClientData → List ClientLine → ClientData
data_after queues turns d [] = d
data_after queues turns d (l ∷ ls) = data_after queues (turns_after turns l) (data_with queues turns d l) ls

abbrev pub no_data : ClientData
no_data = record { subs = []; timers = []; inboxes = [] }

-- what the lines of a client declare
abbrev pub data_of : ℕ → List ClientLine → ClientData
data_of queues lines = data_after queues 0 no_data lines

abbrev pub names_of : ScriptData → NamesData
names_of script = record { nums = nums_of script.version; shape = script.shape; clients = map (data_of script.shape.bounds.queues) script.clients }

-- the terms of the script's line with an id
abbrev pub terms_of : NamesData → SubId → Option SubTerms
terms_of names id = option_and_then (λ c. slice_get c.subs id.number) (slice_get names.clients id.client)

abbrev pub timer_terms_of : NamesData → TimerId → Option TimerTerms
timer_terms_of names id = option_and_then (λ c. slice_get c.timers id.number) (slice_get names.clients id.client)

abbrev pub inbox_terms_of : NamesData → InboxId → Option InboxTerms
inbox_terms_of names id = option_and_then (λ c. slice_get c.inboxes id.number) (slice_get names.clients id.client)

-- what a subscription with these terms is made as
abbrev pub made_by : Strategy → SubTerms → Make
made_by strategy terms = makes.Sub terms.kind terms.cache strategy

-- what the script's object with an id is made as
abbrev pub make_of : NamesData → ObjectId → Option Make
make_of names (Sub id) = option_map (made_by names.shape.strategy) (terms_of names id)
make_of names (Timer id) = option_map (λ t. makes.Timer) (timer_terms_of names id)
make_of names (Inbox id) = option_map (λ t. makes.Inbox) (inbox_terms_of names id)

-- an object that the script declares, with an id as its type has it
pub record IsSub (names : NamesData) (id : SubId) : Type 0 where
  pub client : id.client < 2 ^ 32
  pub number : id.number < 2 ^ 32
  pub declared : is_some (terms_of names id) ≡ true

pub record IsTimer (names : NamesData) (id : TimerId) : Type 0 where
  pub client : id.client < 2 ^ 32
  pub number : id.number < 2 ^ 32
  pub declared : is_some (timer_terms_of names id) ≡ true

pub record IsInbox (names : NamesData) (id : InboxId) : Type 0 where
  pub client : id.client < 2 ^ 32
  pub number : id.number < 2 ^ 32
  pub declared : is_some (inbox_terms_of names id) ≡ true

-- a topic that the script declares
pub record IsTopic (names : NamesData) (topic : ℕ) : Type 0 where
  pub number : topic < 2 ^ 64
  pub declared : topic < names.shape.bounds.topics
