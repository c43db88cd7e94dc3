-- believed: Which groups and watches a script may have, and which line is the first that has one it may not have.
use Rattle.std.specs.Prelude.{ℕ, suc, ◌+◌, ◌%◌, Bool, true, false, not, ◌&&◌, ◌==◌, List, [], ◌∷◌, ◌++◌, Option, Some, None, option_and_then, slice_get, if◌then◌else◌}
use Rattle.std.specs.List.{list_any}
use Rattle.mama_event.specs.declared.market.SubKind.{SubKind}
use Rattle.mama_event.specs.declared.market.SubKind.TheVariants as kind
use Rattle.mama_words.specs.declared.id.IdWord.{IdWord}
use Rattle.mama_words.specs.declared.order.OrderWord.TheVariants as orders
use Rattle.mama_script.specs.declared.line.QueueName.{QueueName}
use Rattle.mama_script.specs.declared.line.QueueName.TheVariants.{Number, Any}
use Rattle.mama_script.specs.declared.line.Line.{Line}
use Rattle.mama_script.specs.declared.line.Line.TheVariants as lines

-- two ids name one object, or would
abbrev pub same_id : IdWord → IdWord → Bool
same_id a b = a.client == b.client && a.number == b.number

abbrev pub has_id : IdWord → List IdWord → Bool
has_id id ids = list_any (same_id id) ids

-- an id more, if it is not there
abbrev pub with_id : IdWord → List IdWord → List IdWord
with_id id ids = if has_id id ids then ids else ids ++ id ∷ []

-- WHAT THE LINES MAKE

-- of a client: the kind and the queue of each subscription, the queue of each timer, and how many queues were taken in turn
pub record Roster : Type 0 where
  pub subs : List (SubKind × ℕ)
  pub timers : List ℕ
  pub turns : ℕ

-- of a script: how many queues there are, each client's objects, and the subscriptions that are stopped by a plan
pub record Cast : Type 0 where
  pub queues : ℕ
  pub clients : List Roster
  pub stops : List IdWord

abbrev pub no_roster : Roster
no_roster = record { subs = []; timers = []; turns = 0 }

abbrev pub no_cast : Cast
no_cast = record { queues = 0; clients = []; stops = [] }

-- the queue that a word names: its number, or the next in turn
abbrev pub queue_named : ℕ → ℕ → QueueName → ℕ
queue_named queues turns (Number q) = q
queue_named queues turns Any = if queues == 0 then 0 else turns % queues

abbrev pub turns_with : ℕ → QueueName → ℕ
turns_with turns (Number q) = turns
turns_with turns Any = turns + 1

abbrev pub with_sub : ℕ → SubKind → QueueName → Roster → Roster
with_sub queues kind queue r = record r { subs = r.subs ++ (kind, queue_named queues r.turns queue) ∷ []; turns = turns_with r.turns queue }

abbrev pub with_timer : ℕ → QueueName → Roster → Roster
with_timer queues queue r = record r { timers = r.timers ++ queue_named queues r.turns queue ∷ []; turns = turns_with r.turns queue }

abbrev pub with_inbox : QueueName → Roster → Roster
with_inbox queue r = record r { turns = turns_with r.turns queue }

-- a change of the last client
abbrev pub at_last : (Roster → Roster) → List Roster → List Roster
at_last f [] = []
at_last f (r ∷ []) = f r ∷ []
at_last f (r ∷ s ∷ rs) = r ∷ at_last f (s ∷ rs)

-- what the lines make, with one more
abbrev pub cast_with : Cast → Line → Cast
cast_with c (lines.Queues n) = record c { queues = n }
cast_with c lines.Client = record c { clients = c.clients ++ no_roster ∷ [] }
cast_with c (lines.Sub topic kind queue cache recaps) = record c { clients = at_last (with_sub c.queues kind queue) c.clients }
cast_with c (lines.Timer queue interval) = record c { clients = at_last (with_timer c.queues queue) c.clients }
cast_with c (lines.Inbox queue) = record c { clients = at_last (with_inbox queue) c.clients }
cast_with c (lines.At call (orders.Stop id)) = record c { stops = with_id id c.stops }
cast_with c _ = c

abbrev pub cast_after : Cast → List Line → Cast
cast_after c [] = c
cast_after c (l ∷ ls) = cast_after (cast_with c l) ls

abbrev pub cast_of : List Line → Cast
cast_of ls = cast_after no_cast ls

-- WHAT GROUPS AND WATCHES MAY NAME

-- the kind and the queue of a subscription, and the queue of a timer
abbrev pub sub_in : Cast → IdWord → Option (SubKind × ℕ)
sub_in c id = option_and_then (λ (r : Roster). slice_get r.subs id.number) (slice_get c.clients id.client)

abbrev pub timer_in : Cast → IdWord → Option ℕ
timer_in c id = option_and_then (λ (r : Roster). slice_get r.timers id.number) (slice_get c.clients id.client)

abbrev pub is_market : SubKind → Bool
is_market kind.Market = true
is_market _ = false

abbrev pub is_basic : SubKind → Bool
is_basic kind.Basic = true
is_basic _ = false

-- a market subscription of this queue
abbrev pub is_market_on : ℕ → Option (SubKind × ℕ) → Bool
is_market_on queue None = false
is_market_on queue (Some s) = is_market s.0 && s.1 == queue

-- a subscription that is not basic, on the queue of this timer
abbrev pub are_beside : Option (SubKind × ℕ) → Option ℕ → Bool
are_beside None timer = false
are_beside (Some s) None = false
are_beside (Some s) (Some queue) = not (is_basic s.0) && s.1 == queue

-- the queue of a group: that of its first member
abbrev pub queue_or_none : Option (SubKind × ℕ) → ℕ
queue_or_none None = 0
queue_or_none (Some s) = s.1

abbrev pub group_queue : Cast → List IdWord → ℕ
group_queue c [] = 0
group_queue c (id ∷ ids) = queue_or_none (sub_in c id)

-- A member of a group is a market subscription on the group's queue, is in no group yet, and no plan stops it.
abbrev pub may_join : Cast → ℕ → List IdWord → IdWord → Bool
may_join c queue grouped id = is_market_on queue (sub_in c id) && not (has_id id grouped) && not (has_id id c.stops)

abbrev pub may_group : Cast → ℕ → List IdWord → List IdWord → Bool
may_group c queue grouped [] = true
may_group c queue grouped (id ∷ ids) = may_join c queue grouped id && may_group c queue (grouped ++ id ∷ []) ids

-- the members of all groups, and the subscriptions and the timers of all watches so far
pub record Placed : Type 0 where
  pub grouped : List IdWord
  pub subs : List IdWord
  pub timers : List IdWord

abbrev pub none_placed : Placed
none_placed = record { grouped = []; subs = []; timers = [] }

-- A watch has a subscription that is not basic and a timer of its queue, which are in no watch yet.
abbrev pub may_watch : Cast → Placed → IdWord → IdWord → Bool
may_watch c p sub timer = are_beside (sub_in c sub) (timer_in c timer) && not (has_id sub p.subs) && not (has_id timer p.timers)

abbrev pub fault_unless : Bool → ℕ → Option ℕ
fault_unless test fault = if test then None else Some fault

-- the fault of a line whose group or watch may not be
abbrev pub misplaced : Cast → Placed → Line → Option ℕ
misplaced c p (lines.Group ids) = fault_unless (may_group c (group_queue c ids) p.grouped ids) 13
misplaced c p (lines.Watch sub timer retries) = fault_unless (may_watch c p sub timer) 14
misplaced c p _ = None

abbrev pub placed_with : Placed → Line → Placed
placed_with p (lines.Group ids) = record p { grouped = p.grouped ++ ids }
placed_with p (lines.Watch sub timer retries) = record p { subs = p.subs ++ sub ∷ []; timers = p.timers ++ timer ∷ [] }
placed_with p _ = p

-- a fault of the line of this number, or else what else there is
abbrev pub fault_at : ℕ → Option ℕ → Option (ℕ × ℕ) → Option (ℕ × ℕ)
fault_at k None rest = rest
fault_at k (Some fault) rest = Some (k, fault)

-- the number of the first line, counted from k, whose group or watch may not be, and its fault
abbrev pub misplaced_from : Cast → Placed → ℕ → List Line → Option (ℕ × ℕ)
misplaced_from c p k [] = None
misplaced_from c p k (l ∷ ls) = fault_at k (misplaced c p l) (misplaced_from c (placed_with p l) (suc k) ls)
