-- What the timer service and the queues put carries no message.
use Rattle.std.specs.Prelude.{◌&&◌, nat_lt}
use Rattle.std.specs.List.{AllByRecursion, list_any, flat_map}
use Rattle.std.proofs.Common.{ℕ, ◌==◌, List, [], ◌∷◌, ◌++◌, map, Option, None, Some}
use Rattle.mama_journal.specs.Journal.{count_of, turns, numbers_below, puts}
use Rattle.mama_msg.specs.Field.{FieldData}
use Rattle.mama_event.specs.Ports.{queues_of}
use Rattle.mama_event.specs.declared.ids.TimerId.{TimerId}
use Rattle.mama_event.specs.declared.ids.ObjectId.{ObjectId}
use Rattle.mama_event.specs.declared.ids.ObjectId.TheVariants.{Sub, Timer}
use Rattle.mama_event.specs.declared.shape.Shape.{Shape}
use Rattle.mama_event.specs.declared.market.MarketMsg.{MarketMsg}
use Rattle.mama_event.specs.declared.callback.Callback.{Callback}
use Rattle.mama_event.specs.declared.callback.Callback.TheVariants as on
use Rattle.mama_event.specs.declared.order.Order.{Order}
use Rattle.mama_event.specs.declared.order.Order.TheVariants as order
use Rattle.mama_event.specs.declared.to_bridge.BridgeNote.TheVariants as b
use Rattle.mama_event.specs.declared.to_timers.TimersNote.{TimersNote}
use Rattle.mama_event.specs.declared.to_timers.TimersNote.TheVariants as t
use Rattle.mama_event.specs.declared.to_queue.QueueNote.{QueueNote}
use Rattle.mama_event.specs.declared.to_queue.QueueNote.TheVariants as q
use Rattle.mama_event.specs.declared.to_queue.Make.TheVariants as make
use Rattle.mama_event.specs.declared.watch.WatchRow.{WatchRow}
use Rattle.mama_event.specs.declared.watch.WatchNote.{WatchNote}
use Rattle.mama_event.specs.declared.watch.WatchNote.TheVariants.{Retry, Timeout}
use Rattle.mama_rules_services.specs.Timers.{TimersEvent, arms, disarms, now, heard, clock, is_live, live_timers, firing, has_ending, place_of, to_place, arms_timer, free_slot, gone, answer, ending_comes, timers_reaction, timers_puts}
use Rattle.mama_rules_queue.specs.Queue.{to_bridge, to_timers, Deed, handled, called, order_put, wish_put, puts_of, is_fin, bye_put, deeds_at, queue_puts_at}
use Rattle.mama_rules_queue.specs.Watch.{watch_notes_at, wish_in, wishes_at, watched_puts_at}
use Rattle.mama_laws_genuine.specs.Sent.{Delivers}
use Rattle.mama_laws_genuine.proofs.Elements.{all_append, all_if, all_flat, all_mapped, all_any, all_weaker, all_puts_after, all_puts_so_far}
use Rattle.mama_laws_genuine.proofs.Carried.{InQueuePut}

-- ---- the timer service

-- the note brings nothing that came out of a link
abbrev pub FromTimers : QueueNote → Type 0
FromTimers (q.Create slot object make tag) = Unit {0}
FromTimers (q.Deliver slot sub msg) = ⊥
FromTimers (q.Reply slot inbox body) = ⊥
FromTimers (q.Bad slot sub kind sender seq bytes) = ⊥
FromTimers (q.BadReply slot inbox bytes) = ⊥
FromTimers (q.Tick slot timer moment) = Unit {0}
FromTimers (q.Gone slot object) = Unit {0}
FromTimers q.Fin = Unit {0}

abbrev pub Told : ℕ × QueueNote → Type 0
Told e = FromTimers e.1

placed : (place : Option (ℕ × ℕ)) (event : ℕ → QueueNote) → ((slot : ℕ) → FromTimers (event slot)) → AllByRecursion Told (to_place place event)
placed None event h = tt
placed (Some place) event h = (h place.1, tt)

all_gone : (sofar : List (ℕ × QueueNote)) (timer : TimerId) → AllByRecursion Told (gone sofar timer)
all_gone sofar timer = placed (place_of timer sofar) (λ slot. q.Gone slot (Timer timer)) (λ slot. tt)

all_ticks : (shape : Shape) (before : List TimersEvent) (sofar : List (ℕ × QueueNote)) (moment : ℕ)
    → AllByRecursion Told (flat_map (λ (timer : TimerId). to_place (place_of timer sofar) (λ slot. q.Tick slot timer moment)) (firing shape before moment))
all_ticks shape before sofar moment =
    all_flat Told (λ (timer : TimerId). to_place (place_of timer sofar) (λ slot. q.Tick slot timer moment))
    (λ timer. placed (place_of timer sofar) (λ slot. q.Tick slot timer moment) (λ slot. tt)) (firing shape before moment)

all_answered : (shape : Shape) (before : List TimersEvent) (sofar : List (ℕ × QueueNote)) (e : TimersEvent) → AllByRecursion Told (answer shape before sofar e)
all_answered shape before sofar (arms timer queue interval tag) =
    all_if Told (list_any (arms_timer timer) before) [] ((queue, q.Create (free_slot shape before sofar queue) (Timer timer) make.Timer tag) ∷ []) tt (tt, tt)
all_answered shape before sofar (disarms timer) = all_if Told (is_live shape timer before) (gone sofar timer) [] (all_gone sofar timer) tt
all_answered shape before sofar (now moment) = all_ticks shape before sofar (clock (before ++ now moment ∷ []))
all_answered shape before sofar _ = tt

all_ending : (shape : Shape) (before : List TimersEvent) (sofar : List (ℕ × QueueNote)) (e : TimersEvent) → AllByRecursion Told (ending_comes shape before sofar e)
all_ending shape before sofar e =
    let fins : List (ℕ × QueueNote) = map (λ (k : ℕ). (k, q.Fin)) (numbers_below (queues_of shape)) in
    let lives : List (ℕ × QueueNote) = flat_map (gone sofar) (live_timers shape before) in
    all_if Told (turns (has_ending shape) before e) (lives ++ fins) []
    (all_append Told lives fins (all_flat Told (gone sofar) (all_gone sofar) (live_timers shape before))
    (all_mapped Told (λ (k : ℕ). (k, q.Fin)) (λ k. tt) (numbers_below (queues_of shape))))
    tt

pub only_timers : (shape : Shape) (journal : List (ℕ × TimersNote)) → AllByRecursion Told (timers_puts shape journal)
only_timers shape journal =
    all_puts_so_far (λ (e : TimersEvent). Unit {0}) Told (timers_reaction shape)
    (λ before sofar e all so h. all_append Told (answer shape before sofar e) (ending_comes shape before sofar e) (all_answered shape before sofar e) (all_ending shape before sofar e))
    [] [] (heard shape journal) tt tt (all_any (λ (e : TimersEvent). Unit {0}) (λ e. tt) (heard shape journal))

module _ (G : MarketMsg → Type 0) (R : List FieldData → Type 0) where
  timely : (note : QueueNote) → FromTimers note → Delivers G R note
  timely (q.Create slot object make tag) h = tt
  timely (q.Deliver slot sub msg) h = absurd h
  timely (q.Reply slot inbox body) h = absurd h
  timely (q.Bad slot sub kind sender seq bytes) h = absurd h
  timely (q.BadReply slot inbox bytes) h = absurd h
  timely (q.Tick slot timer moment) h = tt
  timely (q.Gone slot object) h = tt
  timely q.Fin h = tt

  pub all_timers_puts : (shape : Shape) (journal : List (ℕ × TimersNote)) → AllByRecursion (λ (e : ℕ × QueueNote). Delivers G R e.1) (timers_puts shape journal)
  all_timers_puts shape journal = all_weaker Told (λ (e : ℕ × QueueNote). Delivers G R e.1) (λ e h. timely e.1 h) (timers_puts shape journal) (only_timers shape journal)

  -- ---- a queue

  pub ordered : (o : Order) → InQueuePut G R (order_put o)
  ordered (order.Stop sub) = tt
  ordered (order.Disarm timer) = tt
  ordered (order.Close inbox) = tt
  ordered (order.Ask inbox topic fids) = tt

  all_wished : (o : ObjectId) (call : Callback) → AllByRecursion (InQueuePut G R) (wish_put o call)
  all_wished (Sub sub) (on.RecapRequest sender) = (tt, tt)
  all_wished _ _ = tt

  all_put : (d : Deed) → AllByRecursion (InQueuePut G R) (puts_of d)
  all_put (handled sub msg) = tt
  all_put (called object call orders) =
      all_append (InQueuePut G R) (wish_put object call) (map order_put orders) (all_wished object call) (all_mapped (InQueuePut G R) order_put ordered orders)

  all_put_at : (orders : ObjectId → ℕ → List Order) (journal : List (ℕ × QueueNote)) (e : ℕ × QueueNote) → AllByRecursion (InQueuePut G R) (queue_puts_at orders journal e)
  all_put_at orders journal e =
      all_append (InQueuePut G R) (flat_map puts_of (deeds_at orders journal e)) (bye_put journal e)
      (all_flat (InQueuePut G R) puts_of all_put (deeds_at orders journal e))
      (all_if (InQueuePut G R) (is_fin e && count_of is_fin journal == 1) (to_bridge b.Bye ∷ to_timers t.Bye ∷ []) [] (tt, (tt, tt)) tt)

  row_wished : (row : WatchRow) (n : WatchNote) → AllByRecursion (InQueuePut G R) (wish_in row n)
  row_wished row (Retry count moment) = all_if (InQueuePut G R) (nat_lt 0 row.sender) (to_bridge (b.RecapWish row.sub row.sender) ∷ []) [] (tt, tt) tt
  row_wished row (Timeout moment) = tt

  watch_wished : (orders : ObjectId → ℕ → List Order) (journal : List (ℕ × QueueNote)) (e : ℕ × QueueNote) (row : WatchRow)
      → AllByRecursion (InQueuePut G R) (flat_map (wish_in row) (watch_notes_at orders row journal e))
  watch_wished orders journal e row = all_flat (InQueuePut G R) (wish_in row) (row_wished row) (watch_notes_at orders row journal e)

  all_watched_at : (orders : ObjectId → ℕ → List Order) (rows : List WatchRow) (journal : List (ℕ × QueueNote)) (e : ℕ × QueueNote)
      → AllByRecursion (InQueuePut G R) (watched_puts_at orders rows journal e)
  all_watched_at orders rows journal e =
      all_append (InQueuePut G R) (queue_puts_at orders journal e) (wishes_at orders rows journal e) (all_put_at orders journal e)
      (all_flat (InQueuePut G R) (λ (row : WatchRow). flat_map (wish_in row) (watch_notes_at orders row journal e)) (watch_wished orders journal e) rows)

  pub all_queue_puts : (orders : ObjectId → ℕ → List Order) (rows : List WatchRow) (journal : List (ℕ × QueueNote))
      → AllByRecursion (InQueuePut G R) (puts (watched_puts_at orders rows) journal)
  all_queue_puts orders rows journal =
      all_puts_after (λ (e : ℕ × QueueNote). Unit {0}) (InQueuePut G R) (watched_puts_at orders rows) (λ before e h. all_watched_at orders rows before e)
      [] journal (all_any (λ (e : ℕ × QueueNote). Unit {0}) (λ e. tt) journal)
