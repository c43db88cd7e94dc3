-- The messages that a queue's contexts have handled are those of its journal.
use Rattle.std.specs.Prelude.{◌&&◌, not}
use Rattle.std.specs.List.{AllByRecursion}
use Rattle.std.proofs.Common.{ℕ, ◌+◌, List, [], ◌∷◌, ◌++◌, length}
use Rattle.mama_journal.specs.Journal.{first_said}
use Rattle.std.specs.Prelude.{Option, Some, None}
use Rattle.mama_msg.specs.Field.{FieldData}
use Rattle.mama_event.specs.Arrival.{code_of}
use Rattle.mama_event.specs.Object.{same_sub, same_object}
use Rattle.mama_event.specs.declared.market.SubKind.TheVariants.{Basic}
use Rattle.mama_event.specs.declared.to_queue.Make.{Make}
use Rattle.mama_event.specs.declared.to_queue.Make.TheVariants as make
use Rattle.mama_event.specs.declared.ids.SubId.{SubId}
use Rattle.mama_event.specs.declared.ids.ObjectId.{ObjectId}
use Rattle.mama_event.specs.declared.ids.ObjectId.TheVariants.{Sub, Timer, Inbox}
use Rattle.mama_event.specs.declared.market.MarketMsg.{MarketMsg}
use Rattle.mama_event.specs.declared.callback.Callback.{Callback}
use Rattle.mama_event.specs.declared.callback.Callback.TheVariants as on
use Rattle.mama_event.specs.declared.order.Order.{Order}
use Rattle.mama_event.specs.declared.to_queue.QueueNote.{QueueNote}
use Rattle.mama_event.specs.declared.to_queue.QueueNote.TheVariants as q
use Rattle.mama_event.specs.declared.shape.Strategy.TheVariants.{One}
use Rattle.mama_dq.specs.Strategy.{callbacks_of}
use Rattle.mama_rules_queue.specs.Queue.{Deed, handled, called, calls_of, calls_in, messages_in, messages_of, is_muted, is_destroy, made, make_in, context_of, served, deeds}
use Rattle.mama_laws_genuine.specs.Sent.{Delivers, Gives}
use Rattle.mama_laws_genuine.proofs.Elements.{all_if, all_flat_map, all_puts_so_far}
use Rattle.mama_laws_genuine.proofs.Given.{all_given}
use Rattle.mama_laws_genuine.proofs.Carried.{InDeed}

module _ (G : MarketMsg → Type 0) (R : List FieldData → Type 0) (orders : ObjectId → ℕ → List Order) where
  all_made : (o : ObjectId) (sofar : List Deed) (calls : List Callback) → AllByRecursion (Gives G R) calls → AllByRecursion (InDeed G R) (made orders o sofar calls)
  all_made o sofar [] all = tt
  all_made o sofar (c ∷ cs) all =
      let deed : Deed = called o c (orders o (length (calls_of o sofar) + 1)) in
      all_if (InDeed G R) (is_muted o sofar && not (is_destroy c)) (made orders o sofar cs) (deed ∷ made orders o (sofar ++ deed ∷ []) cs)
      (all_made o sofar cs all.1) (all.0, all_made o (sofar ++ deed ∷ []) cs all.1)

  all_in : (s : SubId) (d : Deed) → InDeed G R d → AllByRecursion G (messages_in s d)
  all_in s (handled sub msg) h = all_if G (same_sub sub s) (msg ∷ []) [] (h, tt) tt
  all_in s (called object call orders) h = tt

  all_handled : (s : SubId) (sofar : List Deed) → AllByRecursion (InDeed G R) sofar → AllByRecursion G (messages_of s sofar)
  all_handled s sofar all = all_flat_map (InDeed G R) G (messages_in s) (all_in s) sofar all

  given : (how : Option Make) (messages : List MarketMsg) (msg : MarketMsg) → AllByRecursion G messages → G msg
      → AllByRecursion (Gives G R) (callbacks_of (context_of how messages) msg)
  given (Some (make.Sub kind cache strategy)) messages msg all h = all_given G R strategy kind cache messages msg all h
  given (Some make.Timer) messages msg all h = all_given G R One Basic 0 messages msg all h
  given (Some make.Inbox) messages msg all h = all_given G R One Basic 0 messages msg all h
  given None messages msg all h = all_given G R One Basic 0 messages msg all h

  all_served : (before : List (ℕ × QueueNote)) (sofar : List Deed) (note : QueueNote) → AllByRecursion (InDeed G R) sofar → Delivers G R note
      → AllByRecursion (InDeed G R) (served orders before sofar note)
  all_served before sofar (q.Create slot object make tag) so h = all_made object sofar (on.Create ∷ []) (tt, tt)
  all_served before sofar (q.Deliver slot sub msg) so h =
      let how : Option Make = first_said (λ (e : ℕ × QueueNote). make_in (Sub sub) e.1) before in
      let calls : List Callback = callbacks_of (context_of how (messages_of sub sofar)) msg in
      all_if (InDeed G R) (is_muted (Sub sub) sofar) [] (handled sub msg ∷ made orders (Sub sub) (sofar ++ handled sub msg ∷ []) calls)
      tt (h, all_made (Sub sub) (sofar ++ handled sub msg ∷ []) calls (given how (messages_of sub sofar) msg (all_handled sub sofar so) h))
  all_served before sofar (q.Reply slot inbox body) so h = all_made (Inbox inbox) sofar (on.Reply body ∷ []) (h, tt)
  all_served before sofar (q.Bad slot sub kind sender seq bytes) so h = all_made (Sub sub) sofar (on.Error (code_of bytes) ∷ []) (tt, tt)
  all_served before sofar (q.BadReply slot inbox bytes) so h = all_made (Inbox inbox) sofar (on.Error (code_of bytes) ∷ []) (tt, tt)
  all_served before sofar (q.Tick slot timer moment) so h = all_made (Timer timer) sofar (on.Tick moment ∷ []) (tt, tt)
  all_served before sofar (q.Gone slot object) so h = all_made object sofar (on.Destroy ∷ []) (tt, tt)
  all_served before sofar q.Fin so h = tt

  all_deeds : (journal : List (ℕ × QueueNote)) → AllByRecursion (λ (e : ℕ × QueueNote). Delivers G R e.1) journal → AllByRecursion (InDeed G R) (deeds orders journal)
  all_deeds journal all =
      all_puts_so_far (λ (e : ℕ × QueueNote). Delivers G R e.1) (InDeed G R) (λ before sofar (e : ℕ × QueueNote). served orders before sofar e.1)
      (λ before sofar e taken so h. all_served before sofar e.1 so h) [] [] journal tt tt all

  -- the messages that a subscription handled
  pub all_messages : (s : SubId) (journal : List (ℕ × QueueNote)) → AllByRecursion (λ (e : ℕ × QueueNote). Delivers G R e.1) journal
      → AllByRecursion G (messages_of s (deeds orders journal))
  all_messages s journal all = all_handled s (deeds orders journal) (all_deeds journal all)

  call_in : (o : ObjectId) (d : Deed) → InDeed G R d → AllByRecursion (λ (c : Callback × List Order). Gives G R c.0) (calls_in o d)
  call_in o (handled sub msg) h = tt
  call_in o (called object call given) h = all_if (λ (c : Callback × List Order). Gives G R c.0) (same_object object o) ((call, given) ∷ []) [] (h, tt) tt

  -- the callbacks of an object
  pub all_calls : (o : ObjectId) (journal : List (ℕ × QueueNote)) → AllByRecursion (λ (e : ℕ × QueueNote). Delivers G R e.1) journal
      → AllByRecursion (λ (c : Callback × List Order). Gives G R c.0) (calls_of o (deeds orders journal))
  all_calls o journal all =
      all_flat_map (InDeed G R) (λ (c : Callback × List Order). Gives G R c.0) (calls_in o) (call_in o) (deeds orders journal) (all_deeds journal all)
