-- In a legal record a market subscription with a plain link, on a topic with one publisher, is given all updates.
use Rattle.std.specs.Prelude.{slice_index_or, if◌then◌else◌}
use Rattle.std.specs.List.{AllByRecursion, AllZip, flat_map}
use Rattle.std.proofs.Common.{◌≡◌, ℕ, ◌+◌, Bool, true, false, List, [], ◌∷◌, ◌++◌, map, refl, sym, ◌∙◌, ap, subst}
use Rattle.std.proofs.lemmas.List.Elements.{filter-append}
use Rattle.mama_link.specs.Link.{through}
use Rattle.mama_link.specs.declared.faults.FaultRow.{FaultRow}
use Rattle.mama_link.proofs.LawLemmas.{passes_all}
use Rattle.mama_event.specs.Arrival.{Arrival, arriving, cut_arrival}
use Rattle.mama_event.specs.Noted.{delivered_note}
use Rattle.mama_event.specs.declared.ids.SubId.{SubId}
use Rattle.mama_event.specs.declared.ids.ObjectId.{ObjectId}
use Rattle.mama_event.specs.declared.ids.ObjectId.TheVariants.{Sub, Timer, Inbox}
use Rattle.mama_event.specs.declared.market.MarketMsg.{MarketMsg}
use Rattle.mama_event.specs.declared.market.SubKind.{SubKind}
use Rattle.mama_event.specs.declared.market.SubKind.TheVariants.{Market}
use Rattle.mama_event.specs.declared.callback.Callback.{Callback}
use Rattle.mama_event.specs.declared.order.Order.{Order}
use Rattle.mama_event.specs.declared.to_bridge.SubTerms.{SubTerms}
use Rattle.mama_event.specs.declared.to_queue.Make.TheVariants as make
use Rattle.mama_event.specs.declared.to_queue.QueueNote.{QueueNote}
use Rattle.mama_event.specs.declared.to_queue.QueueNote.TheVariants as q
use Rattle.mama_dq.specs.Table.{is_update}
use Rattle.mama_dq.specs.Orderly.{AreInOrder, from_first_image}
use Rattle.mama_dq.proofs.OrderlyLaw.{orderly_law}
use Rattle.mama_rules_services.specs.Bridge.{heard, window}
use Rattle.mama_rules_queue.specs.Queue.{Deed, calls_of, messages_of, deeds}
use Rattle.mama_script.specs.Script.{ScriptData}
use Rattle.mama_record.specs.RunData.{RunData}
use Rattle.mama_rules_rounds.specs.Client.{Planned}
use Rattle.mama_rules_rounds.specs.Setting.{orders_by}
use Rattle.mama_rules_rounds.specs.Sections.{setting_of}
use Rattle.mama_rules_rounds.specs.Told.{object_calls, noted}
use Rattle.mama_laws_legal.specs.Laws.{IsOrderly}
use Rattle.mama_rules_legal.specs.Streams.{is_of, events_of, IsSubJournal}
use Rattle.mama_laws_legal.proofs.Lives.{same_sub-itself}
use Rattle.mama_rules_legal.specs.Legal.{IsLegal}
use Rattle.mama_laws_legal.proofs.LegalRounds.{have_streams}
use Rattle.mama_laws_genuine.specs.CalmLinks.{HasPlainLink, joined_terms}
use Rattle.mama_laws_genuine.specs.GivenAll.{given_in, given, updates_among, IsGivenAll, was_muted, AreGivenFor, HasAllGiven}
use Rattle.mama_laws_genuine.specs.Laws.{LegalUpdatesAreGiven}
use Rattle.mama_laws_genuine.proofs.Calm.{not_of}
use Rattle.mama_laws_genuine.proofs.CalmLinks.{IsPlain, plain, calls_on}
use Rattle.mama_laws_genuine.proofs.Elements.{all_each}
use Rattle.mama_laws_genuine.proofs.Giving.{Continued, continued, all_deeds_give, calls_give}
use Rattle.mama_laws_genuine.proofs.Handled.{delivers, Part, part}
use Rattle.mama_laws_genuine.proofs.Ordered.{windows_are_in_order, order_first}
use Rattle.mama_laws_genuine.proofs.Queued.{Stands, on_its_queue}

-- what holds of each element that has Q and of what f makes of it
all_zipped_with : {X Y : Type 0} (Q : X → Type 0) (R : X → Y → Type 0) (f : X → Y) → ((x : X) → Q x → R x (f x)) → (xs : List X) → AllByRecursion Q xs → AllZip R xs (map f xs)
all_zipped_with Q R f each [] all = tt
all_zipped_with Q R f each (x ∷ xs) all = (each x all.0, all_zipped_with Q R f each xs all.1)

-- ---- updates

-- the first image is no update
image_first : (messages : List MarketMsg) (first : MarketMsg) (rest : List MarketMsg) → from_first_image messages ≡ first ∷ rest → updates_among (first ∷ rest) ≡ updates_among rest
image_first [] first rest is = absurd cc
image_first (m ∷ messages) first rest is = by_case (is_update m.kind) refl is (image_first messages first rest)
  where
    by_case : (b : Bool) → is_update m.kind ≡ b → (if b then from_first_image messages else m ∷ messages) ≡ first ∷ rest
        → (from_first_image messages ≡ first ∷ rest → updates_among (first ∷ rest) ≡ updates_among rest) → updates_among (first ∷ rest) ≡ updates_among rest
    by_case true update is later = later is
    by_case false image is later =
        let same : m ≡ first = cc in
        ap (λ (b : Bool). if b then first ∷ updates_among rest else updates_among rest) (ap (λ (x : MarketMsg). is_update x.kind) (sym same) ∙ image)

-- ---- the messages of a stream

module _ (s : SubId) where
  delivered_events : (journal : List (ℕ × QueueNote)) → flat_map (λ (e : ℕ × QueueNote). delivers s e.1) journal ≡ flat_map (delivers s) (events_of (Sub s) journal)
  delivered_events [] = refl
  delivered_events (e ∷ journal) = by_case (is_of (Sub s) e.1) refl (delivered_events journal)
    where
      by_case : (b : Bool) → is_of (Sub s) e.1 ≡ b → flat_map (λ (f : ℕ × QueueNote). delivers s f.1) journal ≡ flat_map (delivers s) (events_of (Sub s) journal)
          → delivers s e.1 ++ flat_map (λ (f : ℕ × QueueNote). delivers s f.1) journal ≡ flat_map (delivers s) (if b then e.1 ∷ events_of (Sub s) journal else events_of (Sub s) journal)
      by_case true own ih = ap (λ (ms : List MarketMsg). delivers s e.1 ++ ms) ih
      by_case false other ih = ap (λ (ms : List MarketMsg). ms ++ flat_map (λ (f : ℕ × QueueNote). delivers s f.1) journal) (not_of s 0 e.1 other) ∙ ih

  stream_delivers : (slot : ℕ) (messages : List MarketMsg) → flat_map (delivers s) (map (λ (a : Arrival). delivered_note slot s a) (arriving messages) ++ q.Gone slot (Sub s) ∷ []) ≡ messages
  stream_delivers slot [] = refl
  stream_delivers slot (m ∷ messages) =
      ap (λ (b : Bool). (if b then m ∷ [] else []) ++ flat_map (delivers s) (map (λ (a : Arrival). delivered_note slot s a) (arriving messages) ++ q.Gone slot (Sub s) ∷ [])) (same_sub-itself s)
      ∙ ap (λ (ms : List MarketMsg). m ∷ ms) (stream_delivers slot messages)

given_noted : (calls : List (Callback × List Order)) → given (map noted calls) ≡ flat_map (λ (c : Callback × List Order). given_in c.0) calls
given_noted [] = refl
given_noted (c ∷ calls) = ap (λ (ms : List MarketMsg). given_in c.0 ++ ms) (given_noted calls)

-- ---- the run

module _ (script : ScriptData) (run : RunData) (orderly : IsOrderly script) (is : IsLegal script run) where
  abbrev taken : SubId → List MarketMsg
  taken s = window script.shape s (heard script.shape run.bridge)

  abbrev orders : ObjectId → ℕ → List Order
  orders = orders_by (setting_of script)

  module _ (s : SubId) (link : HasPlainLink script s) (market : link.terms.kind ≡ Market) where
    abbrev terms : SubTerms
    terms = link.terms

    abbrev journal : List (ℕ × QueueNote)
    journal = slice_index_or run.queues terms.queue []

    abbrev done : List Deed
    done = deeds orders journal

    given_sub : IsGivenAll (taken s) (was_muted (setting_of script) run.queues (Sub s) terms.queue) (calls_on script run orderly is (Sub s) terms.queue)
    given_sub =
        let it : IsPlain script run orderly is s terms = plain script run orderly is s link in
        let on : IsSubJournal script.shape.strategy s terms (taken s) journal = (have_streams script run orderly is).subs.each s terms it.client it.said in
        let ordered = windows_are_in_order script run is.shaped is.edges s terms it.place it.came.joined it.publisher it.fed in
        let all : Part orders s [] done journal = part orders s [] [] journal in
        let tail : List QueueNote = map (λ (a : Arrival). delivered_note on.slot s a) (arriving (taken s)) ++ q.Gone on.slot (Sub s) ∷ [] in
        let all_pass : through cut_arrival terms.faults (arriving (taken s)) ≡ arriving (taken s) =
        ap (λ (rows : List FaultRow). through cut_arrival rows (arriving (taken s))) link.faultless ∙ passes_all cut_arrival (arriving (taken s)) in
        let events : events_of (Sub s) journal ≡ q.Create on.slot (Sub s) (make.Sub terms.kind terms.cache script.shape.strategy) on.tag ∷ tail =
        on.whole ∙ ap (λ (arrivals : List Arrival). q.Create on.slot (Sub s) (make.Sub terms.kind terms.cache script.shape.strategy) on.tag
        ∷ (map (λ (a : Arrival). delivered_note on.slot s a) arrivals ++ q.Gone on.slot (Sub s) ∷ [])) all_pass in
        let brought : flat_map (λ (e : ℕ × QueueNote). delivers s e.1) journal ≡ taken s =
        delivered_events s journal ∙ ap (λ (notes : List QueueNote). flat_map (delivers s) notes) events ∙ stream_delivers s on.slot (taken s) in
        let cut : taken s ≡ messages_of s done ++ all.left = sym brought ∙ all.whole ∙ ap (λ (ms : List MarketMsg). ms ++ all.left) (sym all.handled) in
        let order : AreInOrder (it.place + 1) ordered.0 (messages_of s done) =
        order_first (it.place + 1) ordered.0 (messages_of s done) all.left (subst (AreInOrder (it.place + 1) ordered.0) cut ordered.1) in
        let created : events_of (Sub s) journal ≡ q.Create on.slot (Sub s) (make.Sub Market terms.cache script.shape.strategy) on.tag ∷ tail =
        events ∙ ap (λ (kind : SubKind). q.Create on.slot (Sub s) (make.Sub kind terms.cache script.shape.strategy) on.tag ∷ tail) market in
        let told : given (calls_on script run orderly is (Sub s) terms.queue) ≡ from_first_image (messages_of s done) =
        given_noted (calls_of (Sub s) done) ∙ calls_give orders s done
        ∙ all_deeds_give orders s script.shape.strategy terms.cache (it.place + 1) ordered.0 on.slot on.tag tail journal created order in
        let more : Continued (messages_of s done) all.left = continued (messages_of s done) all.left in
        let whole : from_first_image (taken s) ≡ given (calls_on script run orderly is (Sub s) terms.queue) ++ more.rest =
        ap from_first_image cut ∙ more.whole ∙ ap (λ (ms : List MarketMsg). ms ++ more.rest) (sym told) in
        record {
          left = more.rest;
          messages = whole;
          updates = λ first rest begins. (orderly_law script.shape.strategy terms.cache (it.place + 1) ordered.0 (taken s) ordered.1).updates first rest begins
              ∙ sym (image_first (taken s) first rest begins) ∙ ap updates_among (sym begins ∙ whole)
              ∙ filter-append (λ (m : MarketMsg). is_update m.kind) (given (calls_on script run orderly is (Sub s) terms.queue)) more.rest;
          all = λ live. more.none (all.all live);
        }

  abbrev OnQueue : Planned → Type 0
  OnQueue p = (s : SubId) → Stands s (joined_terms script s) p

  given_object : (o : ObjectId) (queue : ℕ) → OnQueue (record { object = o; queue = queue; plan = [] }) → AreGivenFor script run o queue (calls_on script run orderly is o queue)
  given_object (Sub s) queue on = λ link market.
      subst (λ (k : ℕ). IsGivenAll (taken s) (was_muted (setting_of script) run.queues (Sub s) k) (calls_on script run orderly is (Sub s) k)) (sym (on s link.terms refl link.joined)) (given_sub s link market)
  given_object (Timer t) queue on = tt
  given_object (Inbox i) queue on = tt

  has_given : (p : Planned) → OnQueue p → HasAllGiven script run p (object_calls (setting_of script) run.queues p)
  has_given p on = record { object = refl; given = given_object p.object p.queue on }

pub legal_updates_are_given : LegalUpdatesAreGiven
legal_updates_are_given script run orderly is =
    subst (λ told. AllZip (HasAllGiven script run) (setting_of script).objects told) (sym is.calls.calls)
    (all_zipped_with (OnQueue script run orderly is) (HasAllGiven script run) (object_calls (setting_of script) run.queues) (has_given script run orderly is) (setting_of script).objects
    (all_each SubId (λ s. Stands s (joined_terms script s)) (setting_of script).objects (λ s. on_its_queue s script)))
