-- A subscription over a link without faults, which one publisher alone feeds, is told no gap, no change of quality and no error.
use Rattle.std.specs.Prelude.{slice_index_or, Option, if◌then◌else◌}
use Rattle.std.specs.List.{AllByRecursion, flat_map}
use Rattle.std.proofs.Common.{◌≡◌, ℕ, ◌+◌, ◌<◌, ◌==◌, Bool, true, false, List, [], ◌∷◌, ◌++◌, map, refl, sym, ◌∙◌, ap, subst, ⊎_elim, append-nil}
use Rattle.std.proofs.lemmas.List.Concat.{flat_map-append}
use Rattle.std.proofs.lemmas.List.Elements.{All-from_recursion, All-contains}
use Rattle.std.proofs.lemmas.Bool.{both_ways}
use Rattle.std.proofs.lemmas.Bool.Decides.{Decides-eqb}
use Rattle.mama_journal.specs.Journal.{first_said}
use Rattle.mama_journal.specs.Lane.{by_port}
use Rattle.mama_msg.specs.Field.{FieldData}
use Rattle.mama_link.specs.Link.{through}
use Rattle.mama_link.proofs.LawLemmas.{passes_all}
use Rattle.mama_event.specs.Arrival.{Arrival, arriving, cut_arrival}
use Rattle.mama_event.specs.Noted.{delivered_note}
use Rattle.mama_event.specs.Object.{same_sub}
use Rattle.mama_event.specs.Ports.{queues_of, queue_port_of_bridge, queue_port_of_timers}
use Rattle.mama_event.specs.declared.ids.SubId.{SubId}
use Rattle.mama_event.specs.declared.ids.ObjectId.{ObjectId}
use Rattle.mama_event.specs.declared.ids.ObjectId.TheVariants.{Sub}
use Rattle.mama_event.specs.declared.market.MarketMsg.{MarketMsg}
use Rattle.mama_event.specs.declared.market.SubKind.{SubKind}
use Rattle.mama_event.specs.declared.market.SubKind.TheVariants.{Market, Snapshot, Basic}
use Rattle.mama_event.specs.declared.callback.Callback.{Callback}
use Rattle.mama_event.specs.declared.callback.Callback.TheVariants as on
use Rattle.mama_event.specs.declared.callback.CallNote.{CallNote}
use Rattle.mama_event.specs.declared.market.Quality.TheVariants as quality
use Rattle.mama_event.specs.declared.order.Order.{Order}
use Rattle.mama_event.specs.declared.to_queue.Make.{Make}
use Rattle.mama_event.specs.declared.to_queue.Make.TheVariants as make
use Rattle.mama_event.specs.declared.to_queue.QueueNote.{QueueNote}
use Rattle.mama_event.specs.declared.to_queue.QueueNote.TheVariants as q
use Rattle.mama_dq.specs.declared.table.Phase.{Phase}
use Rattle.mama_dq.specs.declared.table.Phase.TheVariants.{Await, LiveOk, LiveStale, LiveKept}
use Rattle.mama_dq.specs.Table.{is_update}
use Rattle.mama_dq.specs.Context.{ContextData, new_context}
use Rattle.mama_dq.specs.Strategy.{step_by, snapshot_acted, callbacks_of, after, after_all, fold, calls_after}
use Rattle.mama_dq.specs.Orderly.{AreInOrder, as_ok, from_first_image}
use Rattle.mama_dq.proofs.OrderlyLaw.{orderly_law}
use Rattle.mama_dq.proofs.SameKind.{after_all_kind}
use Rattle.mama_rules_services.specs.Ports.{ByTimers, ByBridge, ByNobody}
use Rattle.mama_rules_services.specs.Bridge.{BridgePut, to_publisher, to_queue, to_timers, bridge_puts, heard, window}
use Rattle.mama_rules_services.specs.Timers.{timers_puts}
use Rattle.mama_rules_queue.specs.Queue.{deeds, messages_of, calls_of, make_in}
use Rattle.mama_link.specs.declared.faults.FaultRow.{FaultRow}
use Rattle.mama_event.specs.declared.to_bridge.SubTerms.{SubTerms}
use Rattle.mama_event.specs.declared.shape.Strategy.{Strategy}
use Rattle.mama_script.specs.Script.{ScriptData}
use Rattle.mama_record.specs.RunData.{RunData}
use Rattle.mama_rules_rounds.specs.Setting.{orders_by, queue_part}
use Rattle.mama_rules_rounds.specs.Sections.{setting_of}
use Rattle.mama_rules_rounds.specs.Told.{noted}
use Rattle.mama_rules_legal.specs.Edges.{put_on_queue, AreEdges}
use Rattle.mama_rules_legal.specs.Streams.{is_of, put_for, stream_of, IsSubStream}
use Rattle.mama_laws_legal.proofs.SubStreams.{subs_streams}
use Rattle.mama_laws_legal.proofs.Lives.{same_sub-itself}
use Rattle.mama_laws_genuine.specs.Sent.{Delivers}
use Rattle.mama_laws_genuine.specs.Told.{strategy_of, kind_of, size_of, IsMadeBy}
use Rattle.mama_laws_genuine.specs.Faultless.{IsCalm, FaultlessLinksAreCalm}
use Rattle.mama_laws_genuine.proofs.Elements.{all_append, all_if, all_map, all_mapped, all_by_port, all_from_ports, all_weaker, first_came, rest_came, all_left, all_right}
use Rattle.mama_laws_genuine.proofs.Timing.{FromTimers, only_timers, all_timers_puts}
use Rattle.mama_laws_genuine.proofs.Handled.{delivers, handled_first}
use Rattle.mama_laws_genuine.proofs.Telling.{Breaks, TellsOr, calls_tell_or}
use Rattle.mama_laws_genuine.proofs.Ordered.{windows_are_in_order, order_first}

-- ---- a context that takes messages in order makes calm callbacks

one_step : (P : Callback → Type 0) (c : ContextData) (before : List MarketMsg) (m : MarketMsg) (later : List MarketMsg)
    → AllByRecursion P (flat_map (λ (calls : List Callback). calls) (calls_after c (before ++ m ∷ later))) → AllByRecursion P (callbacks_of (after_all c before) m)
one_step P c [] m later all = all_left P (callbacks_of c m) (flat_map (λ (calls : List Callback). calls) (calls_after (after c m) later)) all
one_step P c (x ∷ before) m later all =
    one_step P (after c x) before m later (all_right P (callbacks_of c x) (flat_map (λ (calls : List Callback). calls) (calls_after (after c x) (before ++ m ∷ later))) all)

snapshot_calm : (phase : Phase) (update : Bool) (c : ContextData) (m : MarketMsg) → AllByRecursion IsCalm (snapshot_acted phase update c m).calls
snapshot_calm Await false c m = (tt, tt)
snapshot_calm Await true c m = tt
snapshot_calm LiveOk update c m = tt
snapshot_calm LiveStale update c m = tt
snapshot_calm LiveKept update c m = tt

calm_calls : (strategy : Strategy) (kind : SubKind) (size sender n : ℕ) (messages before : List MarketMsg) (m : MarketMsg) (later : List MarketMsg) → messages ≡ before ++ m ∷ later
    → AreInOrder sender n messages → AllByRecursion IsCalm (callbacks_of (fold strategy kind size before) m)
calm_calls strategy Market size sender n messages before m later cut order =
    one_step IsCalm (new_context strategy Market size) before m later
    (subst (λ (ms : List MarketMsg). AllByRecursion IsCalm (flat_map (λ (calls : List Callback). calls) (calls_after (new_context strategy Market size) ms))) cut
    (subst (AllByRecursion IsCalm) (sym (orderly_law strategy size sender n messages order).calls)
    (all_mapped IsCalm as_ok (λ x. tt) (from_first_image messages))))
calm_calls strategy Snapshot size sender n messages before m later cut order =
    subst (λ (k : SubKind). AllByRecursion IsCalm (step_by k (fold strategy Snapshot size before) m).calls) (sym (after_all_kind before (new_context strategy Snapshot size)))
    (snapshot_calm (fold strategy Snapshot size before).phase (is_update m.kind) (fold strategy Snapshot size before) m)
calm_calls strategy Basic size sender n messages before m later cut order =
    subst (λ (k : SubKind). AllByRecursion IsCalm (step_by k (fold strategy Basic size before) m).calls) (sym (after_all_kind before (new_context strategy Basic size))) (tt, tt)

module _ (how : Option Make) (sender n : ℕ) (messages : List MarketMsg) (order : AreInOrder sender n messages) where
  made_calm : (call : Callback) → IsMadeBy (strategy_of how) (kind_of how) (size_of how) messages call → IsCalm call
  made_calm call by =
      All-contains IsCalm (callbacks_of (fold (strategy_of how) (kind_of how) (size_of how) by.before) by.message) call
      (All-from_recursion IsCalm (callbacks_of (fold (strategy_of how) (kind_of how) (size_of how) by.before) by.message) (calm_calls (strategy_of how) (kind_of how) (size_of how) sender n messages by.before by.message by.later by.cut order)) by.made

  told_calm : (call : Callback) → TellsOr ⊥ how messages call → IsCalm call
  told_calm (on.Gap first to) told = made_calm (on.Gap first to) told.by
  told_calm (on.Quality quality.Ok k) told = made_calm (on.Quality quality.Ok k) told
  told_calm (on.Quality quality.Stale k) told = made_calm (on.Quality quality.Stale k) told.by
  told_calm (on.RecapRequest s) told = made_calm (on.RecapRequest s) told
  told_calm on.Create told = tt
  told_calm (on.Msg m q) told = tt
  told_calm (on.Late a k) told = made_calm (on.Late a k) told
  told_calm (on.Error e) told = ⊎_elim (λ by. made_calm (on.Error e) by) (λ broken. absurd broken) told
  told_calm on.Destroy told = tt
  told_calm (on.Tick t) told = tt
  told_calm (on.Reply b) told = tt

-- ---- what a queue's journal delivers is what the bridge puts for the subscription

module _ (s : SubId) (k : ℕ) where
  abbrev on_queue : ℕ × QueueNote → List MarketMsg
  on_queue e = if e.0 == k then delivers s e.1 else []

  pub not_of : (note : QueueNote) → is_of (Sub s) note ≡ false → delivers s note ≡ []
  not_of (q.Create slot object make tag) other = refl
  not_of (q.Deliver slot sub msg) other = ap (λ (c : Bool). if c then msg ∷ [] else []) other
  not_of (q.Reply slot inbox body) other = refl
  not_of (q.Bad slot sub kind sender seq bytes) other = refl
  not_of (q.BadReply slot inbox bytes) other = refl
  not_of (q.Tick slot timer moment) other = refl
  not_of (q.Gone slot object) other = refl
  not_of q.Fin other = refl

  one_put : (put : BridgePut) → flat_map (delivers s) (queue_part k put) ≡ flat_map on_queue (put_for (Sub s) put)
  one_put (to_publisher p note) = refl
  one_put (to_timers note) = refl
  one_put (to_queue r note) = by_case (r == k) (is_of (Sub s) note) refl refl
    where
      by_case : (here of : Bool) → (r == k) ≡ here → is_of (Sub s) note ≡ of
          → flat_map (delivers s) (if here then note ∷ [] else []) ≡ flat_map on_queue (if of then (r, note) ∷ [] else [])
      by_case true true here of = ap (λ (c : Bool). (if c then delivers s note else []) ++ []) (sym here)
      by_case true false here of = ap (λ (ms : List MarketMsg). ms ++ []) (not_of note of)
      by_case false true here of = ap (λ (c : Bool). (if c then delivers s note else []) ++ []) (sym here)
      by_case false false here of = refl

  all_put : (puts : List BridgePut) → flat_map (delivers s) (flat_map (queue_part k) puts) ≡ flat_map on_queue (stream_of (Sub s) puts)
  all_put [] = refl
  all_put (put ∷ puts) =
      flat_map-append (delivers s) (queue_part k put) (flat_map (queue_part k) puts)
      ∙ ap (λ (ms : List MarketMsg). ms ++ flat_map (delivers s) (flat_map (queue_part k) puts)) (one_put put)
      ∙ ap (λ (ms : List MarketMsg). flat_map on_queue (put_for (Sub s) put) ++ ms) (all_put puts)
      ∙ sym (flat_map-append on_queue (put_for (Sub s) put) (stream_of (Sub s) puts))

  -- the messages of a stream on a queue: all of them, or none on another queue
  of_stream : (queue slot : ℕ) (msgs : List MarketMsg) → (queue == k) ≡ true → flat_map on_queue (map (λ (a : Arrival). (queue, delivered_note slot s a)) (arriving msgs)) ≡ msgs
  of_stream queue slot [] here = refl
  of_stream queue slot (m ∷ msgs) here =
      ap (λ (c : Bool). (if c then (if same_sub s s then m ∷ [] else []) else []) ++ flat_map on_queue (map (λ (a : Arrival). (queue, delivered_note slot s a)) (arriving msgs))) here
      ∙ ap (λ (c : Bool). (if c then m ∷ [] else []) ++ flat_map on_queue (map (λ (a : Arrival). (queue, delivered_note slot s a)) (arriving msgs))) (same_sub-itself s)
      ∙ ap (λ (ms : List MarketMsg). m ∷ ms) (of_stream queue slot msgs here)

  off_stream : (queue slot : ℕ) (msgs : List MarketMsg) → (queue == k) ≡ false → flat_map on_queue (map (λ (a : Arrival). (queue, delivered_note slot s a)) (arriving msgs)) ≡ []
  off_stream queue slot [] off = refl
  off_stream queue slot (m ∷ msgs) off =
      ap (λ (c : Bool). (if c then (if same_sub s s then m ∷ [] else []) else []) ++ flat_map on_queue (map (λ (a : Arrival). (queue, delivered_note slot s a)) (arriving msgs))) off
      ∙ off_stream queue slot msgs off

  -- no bytes are broken where none are in the stream
  not_broken : (note : QueueNote) → is_of (Sub s) note ≡ false → Breaks s ⊥ note
  not_broken (q.Create slot object make tag) other = tt
  not_broken (q.Deliver slot sub msg) other = tt
  not_broken (q.Reply slot inbox body) other = tt
  not_broken (q.Bad slot sub kind sender seq bytes) other = λ same. both_ways (same_sub sub s) other same
  not_broken (q.BadReply slot inbox bytes) other = tt
  not_broken (q.Tick slot timer moment) other = tt
  not_broken (q.Gone slot object) other = tt
  not_broken q.Fin other = tt

  one_whole : (put : BridgePut) → AllByRecursion (λ (e : ℕ × QueueNote). Breaks s ⊥ e.1) (put_for (Sub s) put) → AllByRecursion (Breaks s ⊥) (queue_part k put)
  one_whole (to_publisher p note) all = tt
  one_whole (to_timers note) all = tt
  one_whole (to_queue r note) all = all_if (Breaks s ⊥) (r == k) (note ∷ []) [] (by_case (is_of (Sub s) note) refl all, tt) tt
    where
      by_case : (of : Bool) → is_of (Sub s) note ≡ of → AllByRecursion (λ (e : ℕ × QueueNote). Breaks s ⊥ e.1) (if of then (r, note) ∷ [] else []) → Breaks s ⊥ note
      by_case true is here = here.0
      by_case false is none = not_broken note is

  all_whole : (puts : List BridgePut) → AllByRecursion (λ (e : ℕ × QueueNote). Breaks s ⊥ e.1) (stream_of (Sub s) puts) → AllByRecursion (Breaks s ⊥) (flat_map (queue_part k) puts)
  all_whole [] all = tt
  all_whole (put ∷ puts) all =
      all_append (Breaks s ⊥) (queue_part k put) (flat_map (queue_part k) puts)
      (one_whole put (all_left (λ (e : ℕ × QueueNote). Breaks s ⊥ e.1) (put_for (Sub s) put) (stream_of (Sub s) puts) all))
      (all_whole puts (all_right (λ (e : ℕ × QueueNote). Breaks s ⊥ e.1) (put_for (Sub s) put) (stream_of (Sub s) puts) all))

  silent : (b : Bool) → (let none : List MarketMsg = [] in if b then none else none) ≡ []
  silent true = refl
  silent false = refl

-- ---- only the bridge's port delivers

abbrev Never : MarketMsg → Type 0
Never m = ⊥

abbrev AnyBody : List FieldData → Type 0
AnyBody body = Unit {0}

never_delivers : (s : SubId) (note : QueueNote) → Delivers Never AnyBody note → delivers s note ≡ []
never_delivers s (q.Create slot object make tag) h = refl
never_delivers s (q.Deliver slot sub msg) h = absurd h
never_delivers s (q.Reply slot inbox body) h = refl
never_delivers s (q.Bad slot sub kind sender seq bytes) h = refl
never_delivers s (q.BadReply slot inbox bytes) h = refl
never_delivers s (q.Tick slot timer moment) h = refl
never_delivers s (q.Gone slot object) h = refl
never_delivers s q.Fin h = refl

other_putter : (script : ScriptData) (run : RunData) (k : ℕ) (bridge timers : Bool) → bridge ≡ false
    → AllByRecursion (Delivers Never AnyBody) (put_on_queue script.shape run.bridge run.timers k (if bridge then ByBridge else (if timers then ByTimers else ByNobody)))
other_putter script run k true timers other = absurd cc
other_putter script run k false true other = all_by_port (Delivers Never AnyBody) k (timers_puts script.shape run.timers) (all_timers_puts Never AnyBody script.shape run.timers)
other_putter script run k false false other = tt

only_bridge : (s : SubId) (journal : List (ℕ × QueueNote))
    → ((port : ℕ) → (port == queue_port_of_bridge) ≡ false → AllByRecursion (Delivers Never AnyBody) (by_port port journal))
    → flat_map (λ (e : ℕ × QueueNote). delivers s e.1) journal ≡ flat_map (delivers s) (by_port queue_port_of_bridge journal)
only_bridge s [] each = refl
only_bridge s (e ∷ journal) each =
    by_case (e.0 == queue_port_of_bridge) refl (only_bridge s journal (λ port other. rest_came (Delivers Never AnyBody) (e.0 == port) e.1 (by_port port journal) (each port other)))
  where
    by_case : (c : Bool) → (e.0 == queue_port_of_bridge) ≡ c
        → flat_map (λ (f : ℕ × QueueNote). delivers s f.1) journal ≡ flat_map (delivers s) (by_port queue_port_of_bridge journal)
        → delivers s e.1 ++ flat_map (λ (f : ℕ × QueueNote). delivers s f.1) journal
        ≡ flat_map (delivers s) (if c then e.1 ∷ by_port queue_port_of_bridge journal else by_port queue_port_of_bridge journal)
    by_case true here ih = ap (λ (ms : List MarketMsg). delivers s e.1 ++ ms) ih
    by_case false other ih =
        let never : Delivers Never AnyBody e.1 =
        first_came (Delivers Never AnyBody) (e.0 == e.0) e.1 (by_port e.0 journal) (by_port e.0 journal) ((Decides-eqb e.0 e.0).1 refl) (each e.0 other) in
        ap (λ (ms : List MarketMsg). ms ++ flat_map (λ (f : ℕ × QueueNote). delivers s f.1) journal) (never_delivers s e.1 never) ∙ ih

-- nor does the timers' port bring broken bytes
timers_whole : (s : SubId) (note : QueueNote) → FromTimers note → Breaks s ⊥ note
timers_whole s (q.Create slot object make tag) h = tt
timers_whole s (q.Deliver slot sub msg) h = tt
timers_whole s (q.Reply slot inbox body) h = tt
timers_whole s (q.Bad slot sub kind sender seq bytes) h = absurd h
timers_whole s (q.BadReply slot inbox bytes) h = tt
timers_whole s (q.Tick slot timer moment) h = tt
timers_whole s (q.Gone slot object) h = tt
timers_whole s q.Fin h = tt

port_whole : (script : ScriptData) (run : RunData) (s : SubId) (k : ℕ) → AllByRecursion (Breaks s ⊥) (flat_map (queue_part k) (bridge_puts script.shape run.bridge)) → (bridge timers : Bool)
    → AllByRecursion (Breaks s ⊥) (put_on_queue script.shape run.bridge run.timers k (if bridge then ByBridge else (if timers then ByTimers else ByNobody)))
port_whole script run s k own true timers = own
port_whole script run s k own false true =
    all_by_port (Breaks s ⊥) k (timers_puts script.shape run.timers)
    (all_weaker (λ (e : ℕ × QueueNote). FromTimers e.1) (λ (e : ℕ × QueueNote). Breaks s ⊥ e.1) (λ e h. timers_whole s e.1 h) (timers_puts script.shape run.timers) (only_timers script.shape run.timers))
port_whole script run s k own false false = tt

-- ---- the law

module _ (script : ScriptData) (run : RunData) (edges : AreEdges script run) (s : SubId) (k : ℕ) (small : k < queues_of script.shape) where
  abbrev journal : List (ℕ × QueueNote)
  journal = slice_index_or run.queues k []

  abbrev stream : List (ℕ × QueueNote)
  stream = stream_of (Sub s) (bridge_puts script.shape run.bridge)

  delivered_all : flat_map (λ (e : ℕ × QueueNote). delivers s e.1) journal ≡ flat_map (on_queue s k) stream
  delivered_all =
      only_bridge s journal
      (λ port other. subst (AllByRecursion (Delivers Never AnyBody)) (sym (edges.queues k small port))
      (other_putter script run k (port == queue_port_of_bridge) (port == queue_port_of_timers) other))
      ∙ ap (λ (notes : List QueueNote). flat_map (delivers s) notes) (edges.queues k small queue_port_of_bridge)
      ∙ all_put s k (bridge_puts script.shape run.bridge)

  -- the messages of the subscription's stream on this queue
  module _ (terms : SubTerms) (gone_in : List MarketMsg) (is : IsSubStream script.shape.strategy s terms gone_in stream)
      (all_pass : through cut_arrival terms.faults (arriving gone_in) ≡ arriving gone_in) where
    abbrev middle : List (ℕ × QueueNote)
    middle = map (λ (a : Arrival). (terms.queue, delivered_note is.slot s a)) (arriving gone_in)

    stream_is : stream ≡ (terms.queue, q.Create is.slot (Sub s) (make.Sub terms.kind terms.cache script.shape.strategy) is.tag) ∷ (middle ++ (terms.queue, q.Gone is.slot (Sub s)) ∷ [])
    stream_is =
        is.whole ∙ ap (λ (arrivals : List Arrival). (terms.queue, q.Create is.slot (Sub s) (make.Sub terms.kind terms.cache script.shape.strategy) is.tag)
        ∷ (map (λ (a : Arrival). (terms.queue, delivered_note is.slot s a)) arrivals ++ (terms.queue, q.Gone is.slot (Sub s)) ∷ [])) all_pass

    on_this : flat_map (on_queue s k) stream ≡ flat_map (on_queue s k) middle
    on_this =
        ap (λ (es : List (ℕ × QueueNote)). flat_map (on_queue s k) es) stream_is
        ∙ ap (λ (ms : List MarketMsg). ms ++ flat_map (on_queue s k) (middle ++ (terms.queue, q.Gone is.slot (Sub s)) ∷ [])) (silent s k (terms.queue == k))
        ∙ flat_map-append (on_queue s k) middle ((terms.queue, q.Gone is.slot (Sub s)) ∷ [])
        ∙ ap (λ (ms : List MarketMsg). flat_map (on_queue s k) middle ++ (ms ++ [])) (silent s k (terms.queue == k))
        ∙ append-nil (flat_map (on_queue s k) middle)

    in_order : (sender n : ℕ) → AreInOrder sender n gone_in → AreInOrder sender n (flat_map (λ (e : ℕ × QueueNote). delivers s e.1) journal)
    in_order sender n order =
        subst (AreInOrder sender n) (sym (delivered_all ∙ on_this)) (by_case (terms.queue == k) refl)
      where
        by_case : (c : Bool) → (terms.queue == k) ≡ c → AreInOrder sender n (flat_map (on_queue s k) middle)
        by_case true here = subst (AreInOrder sender n) (sym (of_stream s k terms.queue is.slot gone_in here)) order
        by_case false off = subst (AreInOrder sender n) (sym (off_stream s k terms.queue is.slot gone_in off)) tt

    -- no bytes that came for it were broken
    middle_whole : (msgs : List MarketMsg) → AllByRecursion (λ (e : ℕ × QueueNote). Breaks s ⊥ e.1) (map (λ (a : Arrival). (terms.queue, delivered_note is.slot s a)) (arriving msgs))
    middle_whole [] = tt
    middle_whole (m ∷ msgs) = (tt, middle_whole msgs)

    stream_whole : AllByRecursion (λ (e : ℕ × QueueNote). Breaks s ⊥ e.1) stream
    stream_whole =
        let gone : List (ℕ × QueueNote) = (terms.queue, q.Gone is.slot (Sub s)) ∷ [] in
        subst (λ (es : List (ℕ × QueueNote)). AllByRecursion (λ (e : ℕ × QueueNote). Breaks s ⊥ e.1) es) (sym stream_is)
        (tt, all_append (λ (e : ℕ × QueueNote). Breaks s ⊥ e.1) middle gone (middle_whole gone_in) (tt, tt))

    journal_whole : AllByRecursion (λ (e : ℕ × QueueNote). Breaks s ⊥ e.1) journal
    journal_whole =
        all_from_ports (Breaks s ⊥) journal
        (λ port. subst (AllByRecursion (Breaks s ⊥)) (sym (edges.queues k small port))
        (port_whole script run s k (all_whole s k (bridge_puts script.shape run.bridge) stream_whole) (port == queue_port_of_bridge) (port == queue_port_of_timers)))

    calm : (sender n : ℕ) → AreInOrder sender n gone_in
        → AllByRecursion (λ (c : Callback × List Order). IsCalm c.0) (calls_of (Sub s) (deeds (orders_by (setting_of script)) journal))
    calm sender n order =
        let orders : ObjectId → ℕ → List Order = orders_by (setting_of script) in
        let how : Option Make = first_said (λ (e : ℕ × QueueNote). make_in (Sub s) e.1) journal in
        let messages : List MarketMsg = messages_of s (deeds orders journal) in
        let first = handled_first orders s journal in
        let handled_order : AreInOrder sender n messages =
        order_first sender n messages first.0 (subst (AreInOrder sender n) first.1 (in_order sender n order)) in
        all_weaker (λ (c : Callback × List Order). TellsOr ⊥ how messages c.0) (λ (c : Callback × List Order). IsCalm c.0)
        (λ c told. told_calm how sender n messages handled_order c.0 told) (calls_of (Sub s) (deeds orders journal)) (calls_tell_or orders s journal ⊥ journal_whole)

pub faultless_is_calm : FaultlessLinksAreCalm
faultless_is_calm script run shaped edges s terms p said faultless within fed_by was gone_now o same small =
    let gone_in : List MarketMsg = window script.shape s (heard script.shape run.bridge) in
    let is : IsSubStream script.shape.strategy s terms gone_in (stream_of (Sub s) (bridge_puts script.shape run.bridge)) = subs_streams script.shape run.bridge s terms was gone_now said in
    let ordered = windows_are_in_order script run shaped edges s terms p said within fed_by in
    let all_pass : through cut_arrival terms.faults (arriving gone_in) ≡ arriving gone_in =
    ap (λ (rows : List FaultRow). through cut_arrival rows (arriving gone_in)) faultless ∙ passes_all cut_arrival (arriving gone_in) in
    let calls = calm script run edges s o.queue small terms gone_in is all_pass (p + 1) ordered.0 ordered.1 in
    subst (λ (object : ObjectId). AllByRecursion (λ (n : CallNote). IsCalm n.call) (map noted (calls_of object (deeds (orders_by (setting_of script)) (slice_index_or run.queues o.queue []))))) (sym same)
    (all_map (λ (c : Callback × List Order). IsCalm c.0) (λ (n : CallNote). IsCalm n.call) noted (λ c h. h)
    (calls_of (Sub s) (deeds (orders_by (setting_of script)) (slice_index_or run.queues o.queue []))) calls)
