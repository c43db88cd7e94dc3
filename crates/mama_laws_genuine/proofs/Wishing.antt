-- A queue wishes recaps for a subscription of the sender alone that all its updates are of, where the watches of the subscription
-- name that sender.
use Rattle.std.specs.Prelude.{◌&&◌, not, nat_lt, if◌then◌else◌, Option, Some, None}
use Rattle.std.specs.List.{AllByRecursion, flat_map}
use Rattle.std.proofs.Common.{◌≡◌, ℕ, ◌+◌, ◌==◌, true, false, List, [], ◌∷◌, ◌++◌, map, length, refl, sym, subst}
use Rattle.mama_journal.specs.Journal.{count_of, first_said, puts}
use Rattle.mama_event.specs.Arrival.{code_of}
use Rattle.mama_event.specs.Object.{same_sub, same_object}
use Rattle.mama_event.specs.declared.ids.SubId.{SubId}
use Rattle.mama_event.specs.declared.ids.ObjectId.{ObjectId}
use Rattle.mama_event.specs.declared.ids.ObjectId.TheVariants.{Sub, Timer, Inbox}
use Rattle.mama_event.specs.declared.market.MarketMsg.{MarketMsg}
use Rattle.mama_event.specs.declared.market.SubKind.TheVariants.{Basic}
use Rattle.mama_event.specs.declared.callback.Callback.{Callback}
use Rattle.mama_event.specs.declared.callback.Callback.TheVariants as on
use Rattle.mama_event.specs.declared.order.Order.{Order}
use Rattle.mama_event.specs.declared.order.Order.TheVariants as order
use Rattle.mama_event.specs.declared.to_bridge.BridgeNote.{BridgeNote}
use Rattle.mama_event.specs.declared.to_bridge.BridgeNote.TheVariants as b
use Rattle.mama_event.specs.declared.to_timers.TimersNote.TheVariants as t
use Rattle.mama_event.specs.declared.to_queue.Make.{Make}
use Rattle.mama_event.specs.declared.to_queue.Make.TheVariants as make
use Rattle.mama_event.specs.declared.to_queue.QueueNote.{QueueNote}
use Rattle.mama_event.specs.declared.to_queue.QueueNote.TheVariants as q
use Rattle.mama_event.specs.declared.watch.WatchRow.{WatchRow}
use Rattle.mama_event.specs.declared.watch.WatchNote.{WatchNote}
use Rattle.mama_event.specs.declared.watch.WatchNote.TheVariants.{Retry, Timeout}
use Rattle.mama_event.specs.declared.shape.Strategy.TheVariants.{One}
use Rattle.mama_dq.specs.Strategy.{callbacks_of}
use Rattle.mama_rules_queue.specs.Queue.{Deed, handled, called, calls_of, messages_in, messages_of, is_muted, is_destroy, made, make_in, context_of, served, deeds, deeds_at, QueuePut, to_bridge, to_timers, order_put, wish_put, puts_of, is_fin, bye_put, queue_puts_at}
use Rattle.mama_rules_queue.specs.Watch.{watch_notes_at, wish_in, wishes_at, watched_puts_at}
use Rattle.mama_laws_legal.proofs.Lives.{same_sub-is}
use Rattle.mama_laws_genuine.proofs.Elements.{all_append, all_if, all_flat, all_flat_map, all_mapped, all_puts_known, all_puts_so_far}
use Rattle.mama_laws_genuine.proofs.Asking.{Asks, OwnUpdate, all_ask}

-- the note brings the subscription no other message than such
abbrev pub Brings : SubId → (MarketMsg → Type 0) → QueueNote → Type 0
Brings s Such (q.Create slot object make tag) = Unit {0}
Brings s Such (q.Deliver slot sub msg) = same_sub sub s ≡ true → Such msg
Brings s Such (q.Reply slot inbox body) = Unit {0}
Brings s Such (q.Bad slot sub kind sender seq bytes) = Unit {0}
Brings s Such (q.BadReply slot inbox bytes) = Unit {0}
Brings s Such (q.Tick slot timer moment) = Unit {0}
Brings s Such (q.Gone slot object) = Unit {0}
Brings s Such q.Fin = Unit {0}

module _ (s : SubId) (own : ℕ) where
  abbrev Mine : MarketMsg → Type 0
  Mine = OwnUpdate own

  -- the note wishes the subscription no recap of another sender
  abbrev pub Wishes : BridgeNote → Type 0
  Wishes (b.RecapWish sub sender) = same_sub sub s ≡ true → sender ≡ own
  Wishes _ = Unit {0}

  abbrev pub WishPut : QueuePut → Type 0
  WishPut (to_bridge note) = Wishes note
  WishPut (to_timers note) = Unit {0}

  -- a watch of the subscription names this sender
  abbrev pub OwnRow : WatchRow → Type 0
  OwnRow row = same_sub row.sub s ≡ true → row.sender ≡ own

  abbrev InDeed : Deed → Type 0
  InDeed (handled sub msg) = same_sub sub s ≡ true → Mine msg
  InDeed (called object call given) = same_object object (Sub s) ≡ true → Asks own call

  -- ---- what a queue does

  module _ (orders : ObjectId → ℕ → List Order) where
    all_made : (o : ObjectId) (sofar : List Deed) (calls : List Callback) → (same_object o (Sub s) ≡ true → AllByRecursion (Asks own) calls)
        → AllByRecursion InDeed (made orders o sofar calls)
    all_made o sofar [] each = tt
    all_made o sofar (c ∷ cs) each =
        let deed : Deed = called o c (orders o (length (calls_of o sofar) + 1)) in
        all_if InDeed (is_muted o sofar && not (is_destroy c)) (made orders o sofar cs) (deed ∷ made orders o (sofar ++ deed ∷ []) cs)
        (all_made o sofar cs (λ same. (each same).1))
        (λ same. (each same).0, all_made o (sofar ++ deed ∷ []) cs (λ same. (each same).1))

    all_in : (d : Deed) → InDeed d → AllByRecursion Mine (messages_in s d)
    all_in (handled sub msg) h =
        (elim (same_sub sub s) as (λ c. same_sub sub s ≡ c → AllByRecursion Mine (if c then msg ∷ [] else [])) [
          | true ↦ λ same. (h same, tt)
          | false ↦ λ other. tt
        ]) refl
    all_in (called object call given) h = tt

    asked : (how : Option Make) (messages : List MarketMsg) (msg : MarketMsg) → AllByRecursion Mine messages → Mine msg
        → AllByRecursion (Asks own) (callbacks_of (context_of how messages) msg)
    asked (Some (make.Sub kind cache strategy)) messages msg all is = all_ask own strategy kind cache messages msg all is
    asked (Some make.Timer) messages msg all is = all_ask own One Basic 0 messages msg all is
    asked (Some make.Inbox) messages msg all is = all_ask own One Basic 0 messages msg all is
    asked None messages msg all is = all_ask own One Basic 0 messages msg all is

    module _ (before : List (ℕ × QueueNote)) (sofar : List Deed) (so : AllByRecursion InDeed sofar) where
      abbrev calls_for : SubId → MarketMsg → List Callback
      calls_for sub msg = callbacks_of (context_of (first_said (λ (e : ℕ × QueueNote). make_in (Sub sub) e.1) before) (messages_of sub sofar)) msg

      delivered : (sub : SubId) (msg : MarketMsg) → (same_sub sub s ≡ true → Mine msg) → same_sub sub s ≡ true → AllByRecursion (Asks own) (calls_for sub msg)
      delivered sub msg h same =
          subst (λ (r : SubId). AllByRecursion (Asks own) (calls_for r msg)) (sym (same_sub-is sub s same))
          (asked (first_said (λ (e : ℕ × QueueNote). make_in (Sub s) e.1) before) (messages_of s sofar) msg (all_flat_map InDeed (Mine) (messages_in s) all_in sofar so) (h same))

      all_served : (note : QueueNote) → Brings s Mine note → AllByRecursion InDeed (served orders before sofar note)
      all_served (q.Create slot object make tag) h = all_made object sofar (on.Create ∷ []) (λ same. (tt, tt))
      all_served (q.Deliver slot sub msg) h =
          all_if InDeed (is_muted (Sub sub) sofar) [] (handled sub msg ∷ made orders (Sub sub) (sofar ++ handled sub msg ∷ []) (calls_for sub msg))
          tt (h, all_made (Sub sub) (sofar ++ handled sub msg ∷ []) (calls_for sub msg) (delivered sub msg h))
      all_served (q.Reply slot inbox body) h = all_made (Inbox inbox) sofar (on.Reply body ∷ []) (λ same. (tt, tt))
      all_served (q.Bad slot sub kind sender seq bytes) h = all_made (Sub sub) sofar (on.Error (code_of bytes) ∷ []) (λ same. (tt, tt))
      all_served (q.BadReply slot inbox bytes) h = all_made (Inbox inbox) sofar (on.Error (code_of bytes) ∷ []) (λ same. (tt, tt))
      all_served (q.Tick slot timer moment) h = all_made (Timer timer) sofar (on.Tick moment ∷ []) (λ same. (tt, tt))
      all_served (q.Gone slot object) h = all_made object sofar (on.Destroy ∷ []) (λ same. (tt, tt))
      all_served q.Fin h = tt

    abbrev Taken : ℕ × QueueNote → Type 0
    Taken e = Brings s Mine e.1

    all_deeds : (journal : List (ℕ × QueueNote)) → AllByRecursion Taken journal → AllByRecursion InDeed (deeds orders journal)
    all_deeds journal all =
        all_puts_so_far Taken InDeed (λ before sofar (e : ℕ × QueueNote). served orders before sofar e.1)
        (λ before sofar e taken so h. all_served before sofar so e.1 h) [] [] journal tt tt all

    -- ---- what a queue puts

    ordered : (o : Order) → WishPut (order_put o)
    ordered (order.Stop sub) = tt
    ordered (order.Disarm timer) = tt
    ordered (order.Close inbox) = tt
    ordered (order.Ask inbox topic fids) = tt

    wished : (o : ObjectId) (call : Callback) → (same_object o (Sub s) ≡ true → Asks own call) → AllByRecursion WishPut (wish_put o call)
    wished (Sub sub) (on.RecapRequest sender) h = (h, tt)
    wished _ _ h = tt

    all_put : (d : Deed) → InDeed d → AllByRecursion WishPut (puts_of d)
    all_put (handled sub msg) h = tt
    all_put (called object call given) h = all_append WishPut (wish_put object call) (map order_put given) (wished object call h) (all_mapped WishPut order_put ordered given)

    all_put_at : (before : List (ℕ × QueueNote)) (e : ℕ × QueueNote) → AllByRecursion Taken before → Taken e → AllByRecursion WishPut (queue_puts_at orders before e)
    all_put_at before e all h =
        all_append WishPut (flat_map puts_of (deeds_at orders before e)) (bye_put before e)
        (all_flat_map InDeed WishPut puts_of all_put (deeds_at orders before e) (all_served before (deeds orders before) (all_deeds before all) e.1 h))
        (all_if WishPut (is_fin e && count_of is_fin before == 1) (to_bridge b.Bye ∷ to_timers t.Bye ∷ []) [] (tt, (tt, tt)) tt)

    row_wished : (row : WatchRow) → OwnRow row → (n : WatchNote) → AllByRecursion WishPut (wish_in row n)
    row_wished row is (Retry count moment) = all_if WishPut (nat_lt 0 row.sender) (to_bridge (b.RecapWish row.sub row.sender) ∷ []) [] (is, tt) tt
    row_wished row is (Timeout moment) = tt

    watch_wished : (before : List (ℕ × QueueNote)) (e : ℕ × QueueNote) (row : WatchRow) → OwnRow row → AllByRecursion WishPut (flat_map (wish_in row) (watch_notes_at orders row before e))
    watch_wished before e row is = all_flat WishPut (wish_in row) (row_wished row is) (watch_notes_at orders row before e)

    module _ (rows : List WatchRow) (named : AllByRecursion OwnRow rows) where
      all_watched_at : (before : List (ℕ × QueueNote)) (e : ℕ × QueueNote) → AllByRecursion Taken before → Taken e → AllByRecursion WishPut (watched_puts_at orders rows before e)
      all_watched_at before e all h =
          all_append WishPut (queue_puts_at orders before e) (wishes_at orders rows before e) (all_put_at before e all h)
          (all_flat_map OwnRow WishPut (λ (row : WatchRow). flat_map (wish_in row) (watch_notes_at orders row before e)) (watch_wished before e) rows named)

      pub all_wished : (journal : List (ℕ × QueueNote)) → AllByRecursion Taken journal → AllByRecursion WishPut (puts (watched_puts_at orders rows) journal)
      all_wished journal all = all_puts_known Taken WishPut (watched_puts_at orders rows) all_watched_at [] journal tt all
