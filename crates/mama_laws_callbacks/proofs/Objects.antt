-- Each object of a script is told what is meant for it.
use Rattle.std.specs.Prelude.{slice_index_or, Some}
use Rattle.std.specs.List.{AllByRecursion, AllZip}
use Rattle.std.proofs.Common.{◌≡◌, ℕ, ◌+◌, ◌<◌, List, [], ◌∷◌, map, length, refl, sym, ◌∙◌, ap, subst, arith}
use Rattle.mama_journal.specs.Journal.{first_said}
use Rattle.mama_link.specs.Link.{through}
use Rattle.mama_msg.specs.Field.{FieldData}
use Rattle.mama_event.specs.Arrival.{arriving, answering, cut_arrival, cut_reply}
use Rattle.mama_event.specs.declared.ids.SubId.{SubId}
use Rattle.mama_event.specs.declared.ids.TimerId.{TimerId}
use Rattle.mama_event.specs.declared.ids.InboxId.{InboxId}
use Rattle.mama_event.specs.declared.ids.ObjectId.{ObjectId}
use Rattle.mama_event.specs.declared.ids.ObjectId.TheVariants.{Sub, Timer, Inbox}
use Rattle.mama_event.specs.declared.market.MarketMsg.{MarketMsg}
use Rattle.mama_event.specs.declared.callback.Callback.{Callback}
use Rattle.mama_event.specs.declared.order.Order.{Order}
use Rattle.mama_event.specs.declared.to_bridge.SubTerms.{SubTerms}
use Rattle.mama_event.specs.declared.to_bridge.InboxTerms.{InboxTerms}
use Rattle.mama_event.specs.declared.to_queue.QueueNote.{QueueNote}
use Rattle.mama_event.specs.Ports.{queues_of, clients_of}
use Rattle.mama_rules_services.specs.Bridge.{heard, window, reply_window}
use Rattle.mama_rules_services.specs.Timers as timing
use Rattle.mama_rules_queue.specs.Queue.{QueuePut, calls_of}
use Rattle.mama_record.specs.RunData.{RunData, ObjectCalls}
use Rattle.mama_script.specs.Script.{ScriptData}
use Rattle.mama_rules_rounds.specs.Client.{Planned}
use Rattle.mama_rules_rounds.specs.Setting.{orders_by}
use Rattle.mama_rules_rounds.specs.Sections.{setting_of, all_client_steps}
use Rattle.mama_rules_rounds.specs.Told.{object_calls, noted}
use Rattle.mama_rules_legal.specs.Edges.{client_puts}
use Rattle.mama_rules_legal.specs.Streams.{terms_of, terms_put, inbox_terms_of, inbox_terms_put, IsSubJournal, IsInboxJournal}
use Rattle.mama_rules_legal.specs.Ticks.{arming_of, arming_put, ticks, IsTimerJournal}
use Rattle.mama_rules_legal.specs.HaveStreams.{HaveStreams}
use Rattle.mama_rules_legal.specs.Legal.{IsLegal}
use Rattle.mama_laws_legal.specs.Laws.{IsOrderly}
use Rattle.mama_laws_legal.proofs.LegalRounds.{have_streams}
use Rattle.mama_laws_callbacks.specs.Told.{call_in, call_of, tells, ticks_told, replies_told, deeds_on, IsTold, IsToldLink, IsToldTicks, IsToldReplies, IsToldObject, Of}
use Rattle.mama_laws_callbacks.specs.Laws.{LegalRecordsTellAll}
use Rattle.mama_laws_callbacks.proofs.Telling.{sub_told, sub_at_once, timer_told, timer_at_once, inbox_told, inbox_at_once}
use Rattle.mama_laws_callbacks.proofs.Joining.{OfClient, PlannedOf, queue_in, timer_queue_in, inbox_queue_in, all_planned}

calls_noted : (calls : List (Callback × List Order)) → map call_of (map noted calls) ≡ map call_in calls
calls_noted [] = refl
calls_noted (c ∷ calls) = ap (λ (cs : List Callback). c.0 ∷ cs) (calls_noted calls)

-- what holds of each element with a property and of what f makes of it
all_zipped : {X Y : Type 0} (P : X → Type 0) (R : X → Y → Type 0) (f : X → Y) → ((x : X) → P x → R x (f x)) → (xs : List X) → AllByRecursion P xs → AllZip R xs (map f xs)
all_zipped P R f each [] all = tt
all_zipped P R f each (x ∷ xs) all = (each x all.0, all_zipped P R f each xs all.1)

module _ (script : ScriptData) (run : RunData) (orderly : IsOrderly script) (legal : IsLegal script run) where
  had : HaveStreams script run
  had = have_streams script run orderly legal

  abbrev steps : List (List (List QueuePut))
  steps = all_client_steps (queues_of script.shape) 0 run.clients script.clients

  abbrev journal : ℕ → List (ℕ × QueueNote)
  journal queue = slice_index_or run.queues queue []

  abbrev notes_of : ℕ → ObjectId → List (Callback × List Order)
  notes_of queue o = calls_of o (deeds_on script run queue)

  abbrev window_of : SubId → List MarketMsg
  window_of s = window script.shape s (heard script.shape run.bridge)

  abbrev replies_of : InboxId → List (List FieldData)
  replies_of i = reply_window script.shape i (heard script.shape run.bridge)

  abbrev ticks_of : TimerId → List ℕ
  ticks_of t = ticks script.shape t (timing.heard script.shape run.timers)

  -- the client that makes it is one of the script's
  inside : (owner place : ℕ) → owner ≡ 0 + place → place < length script.clients → owner < clients_of script.shape
  inside owner place is small = omega (arith, is, small, orderly.shaped.clients)

  told_sub : (queue : ℕ) (s : SubId) → OfClient queue_in (terms_put s) 0 (length script.clients) s.client steps queue → IsToldLink script run queue s (map noted (notes_of queue (Sub s)))
  told_sub queue s of =
      let terms : SubTerms = of.made.terms in
      let said : terms_of script run s ≡ Some terms = ap (λ (c : ℕ). first_said (terms_put s) (client_puts script run.clients c)) (of.client ∙ omega arith) ∙ of.made.is in
      let stream : IsSubJournal script.shape.strategy s terms (window_of s) (journal queue) =
      subst (λ (k : ℕ). IsSubJournal script.shape.strategy s terms (window_of s) (journal k)) of.made.there (had.subs.each s terms (inside s.client of.place of.client of.within) said) in
      record {
        terms = terms;
        joined = said;
        there = of.made.there;
        told = subst (IsTold (Sub s) (tells script.shape.strategy terms.kind terms.cache (through cut_arrival terms.faults (arriving (window_of s)))) (deeds_on script run queue)) (sym (calls_noted (notes_of queue (Sub s))))
            (sub_told (orders_by (setting_of script)) s script.shape.strategy terms.kind terms.cache stream.slot stream.tag (through cut_arrival terms.faults (arriving (window_of s))) (journal queue) stream.whole);
        at_once = sub_at_once (orders_by (setting_of script)) s script.shape.strategy terms.kind terms.cache (journal queue);
      }

  told_timer : (queue : ℕ) (t : TimerId) → OfClient timer_queue_in (arming_put t) 0 (length script.clients) t.client steps queue → IsToldTicks script run queue t (map noted (notes_of queue (Timer t)))
  told_timer queue t of =
      let arming : ℕ × ℕ = of.made.terms in
      let said : arming_of script run t ≡ Some arming = ap (λ (c : ℕ). first_said (arming_put t) (client_puts script run.clients c)) (of.client ∙ omega arith) ∙ of.made.is in
      let stream : IsTimerJournal t (ticks_of t) (journal queue) =
      subst (λ (k : ℕ). IsTimerJournal t (ticks_of t) (journal k)) of.made.there (had.timers.each t arming (inside t.client of.place of.client of.within) said) in
      record {
        arming = arming;
        armed = said;
        there = of.made.there;
        told = subst (IsTold (Timer t) (ticks_told (ticks_of t)) (deeds_on script run queue)) (sym (calls_noted (notes_of queue (Timer t))))
            (timer_told (orders_by (setting_of script)) t stream.slot stream.tag (ticks_of t) (journal queue) stream.whole);
        at_once = timer_at_once (orders_by (setting_of script)) t (journal queue);
      }

  told_inbox : (queue : ℕ) (i : InboxId) → OfClient inbox_queue_in (inbox_terms_put i) 0 (length script.clients) i.client steps queue
      → IsToldReplies script run queue i (map noted (notes_of queue (Inbox i)))
  told_inbox queue i of =
      let terms : InboxTerms = of.made.terms in
      let said : inbox_terms_of script run i ≡ Some terms = ap (λ (c : ℕ). first_said (inbox_terms_put i) (client_puts script run.clients c)) (of.client ∙ omega arith) ∙ of.made.is in
      let stream : IsInboxJournal i terms (replies_of i) (journal queue) =
      subst (λ (k : ℕ). IsInboxJournal i terms (replies_of i) (journal k)) of.made.there (had.inboxes.each i terms (inside i.client of.place of.client of.within) said) in
      record {
        terms = terms;
        opened = said;
        there = of.made.there;
        told = subst (IsTold (Inbox i) (replies_told (through cut_reply terms.faults (answering (replies_of i)))) (deeds_on script run queue)) (sym (calls_noted (notes_of queue (Inbox i))))
            (inbox_told (orders_by (setting_of script)) i stream.slot stream.tag (through cut_reply terms.faults (answering (replies_of i))) (journal queue) stream.whole);
        at_once = inbox_at_once (orders_by (setting_of script)) i (journal queue);
      }

  told_object : (p : Planned) → PlannedOf (queues_of script.shape) run.clients 0 script.clients p.queue p.object → IsToldObject script run p (object_calls (setting_of script) run.queues p)
  told_object p of = record { object = refl; told = at p.object of }
    where
      at : (o : ObjectId) → PlannedOf (queues_of script.shape) run.clients 0 script.clients p.queue o
          → Of (λ s. IsToldLink script run p.queue s (map noted (notes_of p.queue o))) (λ t. IsToldTicks script run p.queue t (map noted (notes_of p.queue o)))
          (λ i. IsToldReplies script run p.queue i (map noted (notes_of p.queue o))) o
      at (Sub s) h = told_sub p.queue s h
      at (Timer t) h = told_timer p.queue t h
      at (Inbox i) h = told_inbox p.queue i h

  all_told : AllZip (IsToldObject script run) (setting_of script).objects (map (object_calls (setting_of script) run.queues) (setting_of script).objects)
  all_told = all_zipped (λ (p : Planned). PlannedOf (queues_of script.shape) run.clients 0 script.clients p.queue p.object) (IsToldObject script run)
      (object_calls (setting_of script) run.queues) told_object (setting_of script).objects (all_planned (queues_of script.shape) run.clients script.clients)

pub legal_records_tell : LegalRecordsTellAll
legal_records_tell script run orderly legal =
    subst (λ (told : List ObjectCalls). AllZip (IsToldObject script run) (setting_of script).objects told) (sym legal.calls.calls) (all_told script run orderly legal)
