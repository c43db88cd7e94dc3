-- believed: A queue's rules, as functions of its journal and of the orders that listeners give: which callbacks are made, what
-- mutes an object, and what each entry puts. orders o k is what the listener of o orders in its k-th callback.
use Rattle.std.specs.Prelude.{ℕ, ◌+◌, Bool, true, false, not, ◌&&◌, ◌||◌, ◌==◌, List, [], ◌∷◌, ◌++◌, length, map, Option, None, Some, if◌then◌else◌}
use Rattle.std.specs.List.{list_any, flat_map}
use Rattle.mama_journal.specs.Journal.{all_puts, first_said, count_of}
use Rattle.mama_event.specs.declared.ids.SubId.{SubId}
use Rattle.mama_event.specs.declared.ids.ObjectId.{ObjectId}
use Rattle.mama_event.specs.declared.ids.ObjectId.TheVariants.{Sub, Timer, Inbox}
use Rattle.mama_event.specs.declared.market.MarketMsg.{MarketMsg}
use Rattle.mama_event.specs.declared.market.SubKind.{SubKind}
use Rattle.mama_event.specs.declared.market.SubKind.TheVariants.{Basic}
use Rattle.mama_event.specs.declared.shape.Strategy.TheVariants as strategy
use Rattle.mama_event.specs.declared.callback.Callback.{Callback}
use Rattle.mama_event.specs.declared.callback.Callback.TheVariants as on
use Rattle.mama_event.specs.declared.order.Order.{Order}
use Rattle.mama_event.specs.declared.order.Order.TheVariants as order
use Rattle.mama_event.specs.declared.to_queue.Make.{Make}
use Rattle.mama_event.specs.declared.to_queue.Make.TheVariants as make
use Rattle.mama_event.specs.declared.to_queue.QueueNote.{QueueNote}
use Rattle.mama_event.specs.declared.to_queue.QueueNote.TheVariants as q
use Rattle.mama_event.specs.declared.to_bridge.BridgeNote.{BridgeNote}
use Rattle.mama_event.specs.declared.to_bridge.BridgeNote.TheVariants as b
use Rattle.mama_event.specs.declared.to_timers.TimersNote.{TimersNote}
use Rattle.mama_event.specs.declared.to_timers.TimersNote.TheVariants as t
use Rattle.mama_event.specs.Object.{same_sub, same_timer, same_inbox, same_object}
use Rattle.mama_event.specs.Arrival.{code_of}
use Rattle.mama_dq.specs.Context.{ContextData}
use Rattle.mama_dq.specs.Strategy.{callbacks_of, fold}

-- WHAT A QUEUE DOES, one deed after another: a message handled by a subscription's context, or a callback made

pub data Deed : Type 0 where
  handled : SubId → MarketMsg → Deed
  called : ObjectId → Callback → List Order → Deed

-- the object that an order ends
abbrev pub ends : ObjectId → Order → Bool
ends (Sub a) (order.Stop c) = same_sub a c
ends (Timer a) (order.Disarm c) = same_timer a c
ends (Inbox a) (order.Close c) = same_inbox a c
ends _ _ = false

abbrev pub is_create : Callback → Bool
is_create on.Create = true
is_create _ = false

abbrev pub is_destroy : Callback → Bool
is_destroy on.Destroy = true
is_destroy _ = false

-- the callbacks of an object among some deeds, with their orders
abbrev pub calls_in : ObjectId → Deed → List (Callback × List Order)
calls_in o (called object call orders) = if same_object object o then (call, orders) ∷ [] else []
calls_in o (handled sub msg) = []

abbrev pub calls_of : ObjectId → List Deed → List (Callback × List Order)
calls_of o deeds = flat_map (calls_in o) deeds

-- the messages that a subscription's context has handled
abbrev pub messages_in : SubId → Deed → List MarketMsg
messages_in s (handled sub msg) = if same_sub sub s then msg ∷ [] else []
messages_in s (called object call orders) = []

abbrev pub messages_of : SubId → List Deed → List MarketMsg
messages_of s deeds = flat_map (messages_in s) deeds

-- an object is live on this queue from its on_create to its on_destroy, both included
abbrev pub begins_in : ObjectId → Deed → Bool
begins_in o (called object call orders) = same_object object o && is_create call
begins_in o (handled sub msg) = false

abbrev pub stops_in : ObjectId → Deed → Bool
stops_in o (called object call orders) = same_object object o && is_destroy call
stops_in o (handled sub msg) = false

-- whether an object is live after some deeds, if it was live before them or not: after on_destroy it is not
abbrev pub is_live_after : ObjectId → Bool → List Deed → Bool
is_live_after o live [] = live
is_live_after o live (d ∷ ds) = is_live_after o ((live || begins_in o d) && not (stops_in o d)) ds

abbrev pub is_live : List Deed → ObjectId → Bool
is_live ds o = is_live_after o false ds

abbrev pub orders_end_of : ObjectId → Deed → Bool
orders_end_of o (called object call orders) = list_any (ends o) orders
orders_end_of o (handled sub msg) = false

-- An object is muted from the first order, in a callback made on this queue, that ends it while it is live here.
-- live tells whether it is live before the deeds.
abbrev pub is_muted_after : ObjectId → Bool → List Deed → Bool
is_muted_after o live [] = false
is_muted_after o live (d ∷ ds) =
    ((live || begins_in o d) && orders_end_of o d)
    || is_muted_after o ((live || begins_in o d) && not (stops_in o d)) ds

abbrev pub is_muted : ObjectId → List Deed → Bool
is_muted o deeds = is_muted_after o false deeds

-- Callbacks of one object made one by one: a muted object gets none but on_destroy. In each the listener gives the
-- orders for its number, which counts from 1 with on_create.
abbrev pub made : (ObjectId → ℕ → List Order) → ObjectId → List Deed → List Callback → List Deed
made orders o sofar [] = []
made orders o sofar (c ∷ cs) =
    if is_muted o sofar && not (is_destroy c) then made orders o sofar cs
    else (let deed = called o c (orders o (length (calls_of o sofar) + 1)) in deed ∷ made orders o (sofar ++ deed ∷ []) cs)

-- how a Create makes an object
abbrev pub make_in : ObjectId → QueueNote → Option Make
make_in o (q.Create slot object make tag) = if same_object object o then Some make else None
make_in o _ = None

-- the context of a subscription: what its strategy, its kind and its cache make of the messages that it has handled
abbrev pub context_of : Option Make → List MarketMsg → ContextData
context_of (Some (make.Sub kind cache strategy)) messages = fold strategy kind cache messages
context_of _ messages = fold strategy.One Basic 0 messages

-- What an entry does: its candidates, of which those are made that are not muted. Bytes that spell no message change no context: of them the
-- listener is told the code of the first fault.
abbrev pub served : (ObjectId → ℕ → List Order) → List (ℕ × QueueNote) → List Deed → QueueNote → List Deed
served orders before sofar (q.Create slot object make tag) = made orders object sofar (on.Create ∷ [])
served orders before sofar (q.Deliver slot sub msg) =
    if is_muted (Sub sub) sofar then []
    else handled sub msg ∷ made orders (Sub sub) (sofar ++ handled sub msg ∷ [])
    (callbacks_of (context_of (first_said (λ e. make_in (Sub sub) e.1) before) (messages_of sub sofar)) msg)
served orders before sofar (q.Reply slot inbox body) = made orders (Inbox inbox) sofar (on.Reply body ∷ [])
served orders before sofar (q.Bad slot sub kind sender seq bytes) = made orders (Sub sub) sofar (on.Error (code_of bytes) ∷ [])
served orders before sofar (q.BadReply slot inbox bytes) = made orders (Inbox inbox) sofar (on.Error (code_of bytes) ∷ [])
served orders before sofar (q.Tick slot timer moment) = made orders (Timer timer) sofar (on.Tick moment ∷ [])
served orders before sofar (q.Gone slot object) = made orders object sofar (on.Destroy ∷ [])
served orders before sofar q.Fin = []

-- the deeds of a whole journal
abbrev pub deeds : (ObjectId → ℕ → List Order) → List (ℕ × QueueNote) → List Deed
deeds orders journal = all_puts (λ before sofar e. served orders before sofar e.1) journal

-- the deeds of one entry, given the journal before it
abbrev pub deeds_at : (ObjectId → ℕ → List Order) → List (ℕ × QueueNote) → ℕ × QueueNote → List Deed
deeds_at orders before e = served orders before (deeds orders before) e.1

-- WHAT A QUEUE PUTS

pub data QueuePut : Type 0 where
  to_bridge : BridgeNote → QueuePut
  to_timers : TimersNote → QueuePut

abbrev pub order_put : Order → QueuePut
order_put (order.Stop sub) = to_bridge (b.Leave sub)
order_put (order.Disarm timer) = to_timers (t.Disarm timer)
order_put (order.Close inbox) = to_bridge (b.CloseInbox inbox)
order_put (order.Ask inbox topic fids) = to_bridge (b.Ask inbox topic fids)

-- a callback that asks for a recap puts the wish
abbrev pub wish_put : ObjectId → Callback → List QueuePut
wish_put (Sub sub) (on.RecapRequest sender) = to_bridge (b.RecapWish sub sender) ∷ []
wish_put _ _ = []

-- after each callback its wish, and then its orders
abbrev pub puts_of : Deed → List QueuePut
puts_of (called object call orders) = wish_put object call ++ map order_put orders
puts_of (handled sub msg) = []

abbrev pub is_fin : ℕ × QueueNote → Bool
is_fin e = is_fin_note e.1
  where
    is_fin_note : QueueNote → Bool
    is_fin_note q.Fin = true
    is_fin_note _ = false

-- the second Fin says Bye to the bridge, and then to the timers
abbrev pub bye_put : List (ℕ × QueueNote) → ℕ × QueueNote → List QueuePut
bye_put before e = if is_fin e && count_of is_fin before == 1 then to_bridge b.Bye ∷ to_timers t.Bye ∷ [] else []

-- what a queue puts at an entry, given its journal before it
abbrev pub queue_puts_at : (ObjectId → ℕ → List Order) → List (ℕ × QueueNote) → ℕ × QueueNote → List QueuePut
queue_puts_at orders before e = flat_map puts_of (deeds_at orders before e) ++ bye_put before e
