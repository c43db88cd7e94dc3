-- What a queue does, and puts by serving, is such as a log may have, where what it takes is.
use Rattle.std.specs.Prelude.{◌&&◌, not, if◌then◌else◌, slice_index_or, Option, Some, None}
use Rattle.std.specs.List.{AllByRecursion, flat_map}
use Rattle.std.proofs.Common.{◌≡◌, ℕ, ◌+◌, ◌≤◌, ◌==◌, true, false, List, [], ◌∷◌, ◌++◌, length, map, refl, subst}
use Rattle.mama_journal.specs.Journal.{first_said, count_of}
use Rattle.mama_event.specs.Object.{same_sub, same_object}
use Rattle.mama_event.specs.EqualityLaws.{same_object-Decides}
use Rattle.mama_event.specs.declared.ids.SubId.{SubId}
use Rattle.mama_event.specs.declared.ids.ObjectId.{ObjectId}
use Rattle.mama_event.specs.declared.ids.ObjectId.TheVariants.{Sub, Timer, Inbox}
use Rattle.mama_event.specs.declared.market.MarketMsg.{MarketMsg}
use Rattle.mama_event.specs.declared.market.SubKind.TheVariants.{Basic}
use Rattle.mama_event.specs.declared.callback.Callback.{Callback}
use Rattle.mama_event.specs.declared.callback.Callback.TheVariants as on
use Rattle.mama_event.specs.declared.callback.CallNote.{CallNote}
use Rattle.mama_event.specs.declared.order.Order.{Order}
use Rattle.mama_event.specs.declared.order.Order.TheVariants as order
use Rattle.mama_event.specs.declared.order.PlanRow.{PlanRow}
use Rattle.mama_event.specs.declared.to_bridge.BridgeNote.TheVariants as b
use Rattle.mama_event.specs.declared.to_timers.TimersNote.TheVariants as t
use Rattle.mama_event.specs.declared.to_queue.Make.{Make}
use Rattle.mama_event.specs.declared.to_queue.Make.TheVariants as make
use Rattle.mama_event.specs.declared.to_queue.QueueNote.{QueueNote}
use Rattle.mama_event.specs.Arrival.{code_of}
use Rattle.mama_event.specs.declared.to_queue.QueueNote.TheVariants as q
use Rattle.mama_event.specs.declared.shape.Strategy.TheVariants.{One}
use Rattle.mama_dq.specs.Strategy.{callbacks_of}
use Rattle.mama_rules_queue.specs.Queue.{Deed, handled, called, to_bridge, to_timers, calls_in, calls_of, messages_in, messages_of, is_muted, is_destroy, made, make_in, context_of, served, deeds, deeds_at, order_put, wish_put, puts_of, is_fin, bye_put, queue_puts_at}
use Rattle.mama_rules_rounds.specs.Client.{Planned}
use Rattle.mama_rules_rounds.specs.Setting.{Setting, orders_by}
use Rattle.mama_rules_rounds.specs.Told.{noted, image_in, last_image}
use Rattle.mama_words.specs.declared.nums.Nums.{Nums}
use Rattle.mama_log_line.specs.Names.{NamesData, IsSub}
use Rattle.mama_log_line.specs.Entering.{SubHears, MayHear, MayOrder, IsLastImage}
use Rattle.mama_laws_genuine.proofs.Elements.{all_append, all_if, all_at, all_flat_map, all_map, all_puts_so_far}
use Rattle.mama_laws_logged.proofs.Fits.{IsSound, IsObject, Takes, IsCall, DeedFits, QueuePutFits, OrderPut}
use Rattle.mama_laws_logged.proofs.Fronts.{code_fits}
use Rattle.mama_laws_logged.proofs.StrategyFits.{calls_sound, image_sound}

-- ---- what any object hears

hears_create : (nums : Nums) (o : ObjectId) → MayHear nums o on.Create
hears_create nums (Sub s) = tt
hears_create nums (Timer t) = tt
hears_create nums (Inbox i) = tt

hears_destroy : (nums : Nums) (o : ObjectId) → MayHear nums o on.Destroy
hears_destroy nums (Sub s) = tt
hears_destroy nums (Timer t) = tt
hears_destroy nums (Inbox i) = tt

-- ---- what an order puts

order_fits : (names : NamesData) (o : Order) → MayOrder names o → QueuePutFits names (order_put o)
order_fits names (order.Stop sub) may = may
order_fits names (order.Disarm timer) may = may
order_fits names (order.Close inbox) may = may
order_fits names (order.Ask inbox topic fids) may = may

ordered_fits : (names : NamesData) (o : Order) → MayOrder names o → OrderPut names (order_put o)
ordered_fits names (order.Stop sub) may = may
ordered_fits names (order.Disarm timer) may = may
ordered_fits names (order.Close inbox) may = may
ordered_fits names (order.Ask inbox topic fids) may = may

-- a wish is a subscription's
wish_fits : (names : NamesData) (o : ObjectId) (call : Callback) → IsObject names o → MayHear names.nums o call → AllByRecursion (QueuePutFits names) (wish_put o call)
wish_fits names (Sub sub) (on.RecapRequest sender) is may = ((is, may), tt)
wish_fits names _ _ is may = tt

wished_fits : (names : NamesData) (o : ObjectId) (call : Callback) → AllByRecursion (OrderPut names) (wish_put o call)
wished_fits names (Sub sub) (on.RecapRequest sender) = (tt, tt)
wished_fits names _ _ = tt

put_fits : (names : NamesData) (d : Deed) → DeedFits names d → AllByRecursion (QueuePutFits names) (puts_of d)
put_fits names (handled sub msg) h = tt
put_fits names (called object call given) h =
    all_append (QueuePutFits names) (wish_put object call) (map order_put given) (wish_fits names object call h.object h.call)
    (all_map (MayOrder names) (QueuePutFits names) order_put (order_fits names) given h.orders)

-- ---- deeds by the orders alone

-- the orders of a callback are such as a listener may give
abbrev IsOrdered : NamesData → Deed → Type 0
IsOrdered names (handled sub msg) = Unit {0}
IsOrdered names (called object call given) = AllByRecursion (MayOrder names) given

ordered_put : (names : NamesData) (d : Deed) → IsOrdered names d → AllByRecursion (OrderPut names) (puts_of d)
ordered_put names (handled sub msg) h = tt
ordered_put names (called object call given) h =
    all_append (OrderPut names) (wish_put object call) (map order_put given) (wished_fits names object call)
    (all_map (MayOrder names) (OrderPut names) order_put (ordered_fits names) given h)

-- ---- what a context handled

handled_sound : (names : NamesData) (s : SubId) (d : Deed) → DeedFits names d → AllByRecursion (IsSound names.nums) (messages_in s d)
handled_sound names s (handled sub msg) h = all_if (IsSound names.nums) (same_sub sub s) (msg ∷ []) [] (h, tt) tt
handled_sound names s (called object call given) h = tt

messages_sound : (names : NamesData) (s : SubId) (sofar : List Deed) → AllByRecursion (DeedFits names) sofar → AllByRecursion (IsSound names.nums) (messages_of s sofar)
messages_sound names s sofar all = all_flat_map (DeedFits names) (IsSound names.nums) (messages_in s) (handled_sound names s) sofar all

-- a callback is that of the object of its deed
call_fits : (names : NamesData) (o : ObjectId) (d : Deed) → DeedFits names d → AllByRecursion (λ (c : Callback × List Order). IsCall names o c.0 c.1) (calls_in o d)
call_fits names o (handled sub msg) h = tt
call_fits names o (called object call given) h =
    (elim (same_object object o) as (λ x. same_object object o ≡ x
    → AllByRecursion (λ (c : Callback × List Order). IsCall names o c.0 c.1) (if x then (call, given) ∷ [] else [])) [
      | true ↦ λ same. (subst (λ (a : ObjectId). IsCall names a call given) ((same_object-Decides object o).0 same) h, tt)
      | false ↦ λ other. tt
    ]) refl

-- what a context calls, however it was made
context_calls : (nums : Nums) (how : Option Make) (messages : List MarketMsg) (msg : MarketMsg) → AllByRecursion (IsSound nums) messages → IsSound nums msg
    → AllByRecursion (SubHears nums) (callbacks_of (context_of how messages) msg)
context_calls nums (Some (make.Sub kind cache strategy)) messages msg all h = calls_sound nums strategy kind cache messages msg all h
context_calls nums (Some make.Timer) messages msg all h = calls_sound nums One Basic 0 messages msg all h
context_calls nums (Some make.Inbox) messages msg all h = calls_sound nums One Basic 0 messages msg all h
context_calls nums None messages msg all h = calls_sound nums One Basic 0 messages msg all h

context_image : (names : NamesData) (s : SubId) → IsSub names s → (how : Option Make) (messages : List MarketMsg) → AllByRecursion (IsSound names.nums) messages
    → AllByRecursion (IsLastImage names) (image_in s (context_of how messages))
context_image names s is (Some (make.Sub kind cache strategy)) messages all = image_sound names s is strategy kind cache messages all
context_image names s is (Some make.Timer) messages all = image_sound names s is One Basic 0 messages all
context_image names s is (Some make.Inbox) messages all = image_sound names s is One Basic 0 messages all
context_image names s is None messages all = image_sound names s is One Basic 0 messages all

module _ (names : NamesData) (orders : ObjectId → ℕ → List Order)
    (fit : (o : ObjectId) (call : ℕ) → AllByRecursion (MayOrder names) (orders o call) × (length (orders o call) ≤ 8)) where
  -- ---- deeds

  made_fit : (o : ObjectId) (sofar : List Deed) (calls : List Callback) → IsObject names o → AllByRecursion (MayHear names.nums o) calls
      → AllByRecursion (DeedFits names) (made orders o sofar calls)
  made_fit o sofar [] is all = tt
  made_fit o sofar (c ∷ cs) is all =
      let n : ℕ = length (calls_of o sofar) + 1 in
      let deed : Deed = called o c (orders o n) in
      all_if (DeedFits names) (is_muted o sofar && not (is_destroy c)) (made orders o sofar cs) (deed ∷ made orders o (sofar ++ deed ∷ []) cs)
      (made_fit o sofar cs is all.1)
      (record { object = is; call = all.0; orders = (fit o n).0; few = (fit o n).1 }, made_fit o (sofar ++ deed ∷ []) cs is all.1)

  served_fit : (before : List (ℕ × QueueNote)) (sofar : List Deed) (note : QueueNote) → AllByRecursion (DeedFits names) sofar → Takes names note
      → AllByRecursion (DeedFits names) (served orders before sofar note)
  served_fit before sofar (q.Create slot object make tag) so h = made_fit object sofar (on.Create ∷ []) h (hears_create names.nums object, tt)
  served_fit before sofar (q.Deliver slot sub msg) so h =
      let how : Option Make = first_said (λ (e : ℕ × QueueNote). make_in (Sub sub) e.1) before in
      let calls : List Callback = callbacks_of (context_of how (messages_of sub sofar)) msg in
      all_if (DeedFits names) (is_muted (Sub sub) sofar) [] (handled sub msg ∷ made orders (Sub sub) (sofar ++ handled sub msg ∷ []) calls)
      tt
      (h.1, made_fit (Sub sub) (sofar ++ handled sub msg ∷ []) calls h.0 (context_calls names.nums how (messages_of sub sofar) msg (messages_sound names sub sofar so) h.1))
  served_fit before sofar (q.Reply slot inbox body) so h = made_fit (Inbox inbox) sofar (on.Reply body ∷ []) h.0 (h.1, tt)
  served_fit before sofar (q.Bad slot sub kind sender seq bytes) so h = made_fit (Sub sub) sofar (on.Error (code_of bytes) ∷ []) h (code_fits bytes, tt)
  served_fit before sofar (q.BadReply slot inbox bytes) so h = made_fit (Inbox inbox) sofar (on.Error (code_of bytes) ∷ []) h (code_fits bytes, tt)
  served_fit before sofar (q.Tick slot timer moment) so h = made_fit (Timer timer) sofar (on.Tick moment ∷ []) h.0 (h.1, tt)
  served_fit before sofar (q.Gone slot object) so h = made_fit object sofar (on.Destroy ∷ []) h (hears_destroy names.nums object, tt)
  served_fit before sofar q.Fin so h = tt

  pub deeds_fit : (journal : List (ℕ × QueueNote)) → AllByRecursion (λ (e : ℕ × QueueNote). Takes names e.1) journal → AllByRecursion (DeedFits names) (deeds orders journal)
  deeds_fit journal all =
      all_puts_so_far (λ (e : ℕ × QueueNote). Takes names e.1) (DeedFits names) (λ before sofar (e : ℕ × QueueNote). served orders before sofar e.1)
      (λ before sofar e taken so h. served_fit before sofar e.1 so h) [] [] journal tt tt all

  pub deeds_at_fit : (before : List (ℕ × QueueNote)) (e : ℕ × QueueNote) → AllByRecursion (λ (e : ℕ × QueueNote). Takes names e.1) before → Takes names e.1
      → AllByRecursion (DeedFits names) (deeds_at orders before e)
  deeds_at_fit before e all h = served_fit before (deeds orders before) e.1 (deeds_fit before all) h

  -- the callbacks of an object by a journal
  pub calls_fit : (o : ObjectId) (journal : List (ℕ × QueueNote)) → AllByRecursion (λ (e : ℕ × QueueNote). Takes names e.1) journal
      → AllByRecursion (λ (n : CallNote). IsCall names o n.call n.orders) (map noted (calls_of o (deeds orders journal)))
  calls_fit o journal all =
      all_map (λ (c : Callback × List Order). IsCall names o c.0 c.1) (λ (n : CallNote). IsCall names o n.call n.orders) noted (λ c is. is)
      (calls_of o (deeds orders journal))
      (all_flat_map (DeedFits names) (λ (c : Callback × List Order). IsCall names o c.0 c.1) (calls_in o) (call_fits names o) (deeds orders journal) (deeds_fit journal all))

  -- ---- puts

  -- what a queue puts by serving
  pub put_at_fits : (before : List (ℕ × QueueNote)) (e : ℕ × QueueNote) → AllByRecursion (λ (e : ℕ × QueueNote). Takes names e.1) before → Takes names e.1
      → AllByRecursion (QueuePutFits names) (queue_puts_at orders before e)
  put_at_fits before e all h =
      all_append (QueuePutFits names) (flat_map puts_of (deeds_at orders before e)) (bye_put before e)
      (all_flat_map (DeedFits names) (QueuePutFits names) puts_of (put_fits names) (deeds_at orders before e) (deeds_at_fit before e all h))
      (all_if (QueuePutFits names) (is_fin e && count_of is_fin before == 1) (to_bridge b.Bye ∷ to_timers t.Bye ∷ []) [] (tt, (tt, tt)) tt)

  -- ---- puts by any journal

  made_ordered : (o : ObjectId) (sofar : List Deed) (calls : List Callback) → AllByRecursion (IsOrdered names) (made orders o sofar calls)
  made_ordered o sofar [] = tt
  made_ordered o sofar (c ∷ cs) =
      let n : ℕ = length (calls_of o sofar) + 1 in
      let deed : Deed = called o c (orders o n) in
      all_if (IsOrdered names) (is_muted o sofar && not (is_destroy c)) (made orders o sofar cs) (deed ∷ made orders o (sofar ++ deed ∷ []) cs)
      (made_ordered o sofar cs) ((fit o n).0, made_ordered o (sofar ++ deed ∷ []) cs)

  served_ordered : (before : List (ℕ × QueueNote)) (sofar : List Deed) (note : QueueNote) → AllByRecursion (IsOrdered names) (served orders before sofar note)
  served_ordered before sofar (q.Create slot object make tag) = made_ordered object sofar (on.Create ∷ [])
  served_ordered before sofar (q.Deliver slot sub msg) =
      let how : Option Make = first_said (λ (e : ℕ × QueueNote). make_in (Sub sub) e.1) before in
      let calls : List Callback = callbacks_of (context_of how (messages_of sub sofar)) msg in
      all_if (IsOrdered names) (is_muted (Sub sub) sofar) [] (handled sub msg ∷ made orders (Sub sub) (sofar ++ handled sub msg ∷ []) calls)
      tt (tt, made_ordered (Sub sub) (sofar ++ handled sub msg ∷ []) calls)
  served_ordered before sofar (q.Reply slot inbox body) = made_ordered (Inbox inbox) sofar (on.Reply body ∷ [])
  served_ordered before sofar (q.Bad slot sub kind sender seq bytes) = made_ordered (Sub sub) sofar (on.Error (code_of bytes) ∷ [])
  served_ordered before sofar (q.BadReply slot inbox bytes) = made_ordered (Inbox inbox) sofar (on.Error (code_of bytes) ∷ [])
  served_ordered before sofar (q.Tick slot timer moment) = made_ordered (Timer timer) sofar (on.Tick moment ∷ [])
  served_ordered before sofar (q.Gone slot object) = made_ordered object sofar (on.Destroy ∷ [])
  served_ordered before sofar q.Fin = tt

  pub ordered_at : (before : List (ℕ × QueueNote)) (e : ℕ × QueueNote) → AllByRecursion (OrderPut names) (queue_puts_at orders before e)
  ordered_at before e =
      all_append (OrderPut names) (flat_map puts_of (deeds_at orders before e)) (bye_put before e)
      (all_flat_map (IsOrdered names) (OrderPut names) puts_of (ordered_put names) (deeds_at orders before e) (served_ordered before (deeds orders before) e.1))
      (all_if (OrderPut names) (is_fin e && count_of is_fin before == 1) (to_bridge b.Bye ∷ to_timers t.Bye ∷ []) [] (tt, (tt, tt)) tt)

-- ---- images

module _ (names : NamesData) (setting : Setting)
    (fit : (o : ObjectId) (call : ℕ) → AllByRecursion (MayOrder names) (orders_by setting o call) × (length (orders_by setting o call) ≤ 8)) where
  journal_image : (s : SubId) → IsSub names s → (journal : List (ℕ × QueueNote)) → AllByRecursion (λ (e : ℕ × QueueNote). Takes names e.1) journal
      → AllByRecursion (IsLastImage names) (image_in s (context_of (first_said (λ (e : ℕ × QueueNote). make_in (Sub s) e.1) journal) (messages_of s (deeds (orders_by setting) journal))))
  journal_image s is journal all =
      context_image names s is (first_said (λ (e : ℕ × QueueNote). make_in (Sub s) e.1) journal) (messages_of s (deeds (orders_by setting) journal))
      (messages_sound names s (deeds (orders_by setting) journal) (deeds_fit names (orders_by setting) fit journal all))

  object_image : (queues : List (List (ℕ × QueueNote))) → AllByRecursion (AllByRecursion (λ (e : ℕ × QueueNote). Takes names e.1)) queues
      → (o : ObjectId) (queue : ℕ) (plan : List PlanRow) → IsObject names o
      → AllByRecursion (IsLastImage names) (last_image setting queues (record { object = o; queue = queue; plan = plan }))
  object_image queues all (Sub s) queue plan is = journal_image s is (slice_index_or queues queue []) (all_at (λ (e : ℕ × QueueNote). Takes names e.1) queues queue all)
  object_image queues all (Timer t) queue plan is = tt
  object_image queues all (Inbox i) queue plan is = tt

  -- the last image of an object
  pub images_fit : (queues : List (List (ℕ × QueueNote))) → AllByRecursion (AllByRecursion (λ (e : ℕ × QueueNote). Takes names e.1)) queues
      → (p : Planned) → IsObject names p.object → AllByRecursion (IsLastImage names) (last_image setting queues p)
  images_fit queues all p is = object_image queues all p.object p.queue p.plan is
