-- What a new object changes: its slot, its row, and what is put out for it.
use Rattle.std.specs.Prelude.{position}
use Rattle.std.specs.List.{flat_map}
use Rattle.std.proofs.Common.{◌≡◌, ℕ, Bool, true, false, ◌==◌, cond, List, [], ◌∷◌, ◌++◌, map, Some, refl, sym, ◌∙◌, ap, append-nil, append_assoc}
use Rattle.std.proofs.lemmas.List.{map-append}
use Rattle.std.proofs.lemmas.List.Concat.{flat_map-append}
use Rattle.mama_journal.specs.Journal.{numbers_below}
use Rattle.mama_event.specs.declared.ids.ObjectId.{ObjectId}
use Rattle.mama_event.specs.declared.ids.SubId.{SubId}
use Rattle.mama_event.specs.declared.market.MsgKind.TheVariants.{Initial}
use Rattle.mama_event.specs.declared.market.SubKind.{SubKind}
use Rattle.mama_event.specs.declared.market.SubKind.TheVariants.{Market, Snapshot, Basic}
use Rattle.mama_event.specs.declared.shape.Shape.{Shape}
use Rattle.mama_event.specs.declared.to_queue.Make.{Make}
use Rattle.mama_event.specs.declared.to_queue.QueueNote.TheVariants as q
use Rattle.mama_event.specs.declared.to_queue.ToQueue.TheVariants as queued
use Rattle.mama_event.specs.declared.to_publisher.ToPublisher.TheVariants as asked
use Rattle.mama_event.specs.declared.to_publisher.PublisherNote.TheVariants as p
use Rattle.mama_event.specs.declared.to_timers.ToTimers.TheVariants as timed
use Rattle.mama_event.specs.declared.to_timers.TimersNote.TheVariants as t
use Rattle.mama_event.specs.Ports.{publishers_of, queues_of}
use Rattle.mama_rules_services.specs.Bridge.{BridgePut, to_publisher, to_queue, to_timers, slot_on, wants_image}
use Rattle.mama_laws_bridge.specs.Table.{InboxRow, Table, inbox_slots, is_ended_by, is_settling_by, kept, sub_ends, inbox_ends, settles_all, ends_all}
use Rattle.mama_bridge.specs.declared.out.BridgeOut.{BridgeOut}
use Rattle.mama_bridge.specs.declared.out.BridgeOut.TheVariants as out
use Rattle.mama_bridge.specs.declared.inboxes.InboxLink.{InboxLink}
use Rattle.mama_bridge.specs.Outs.{put_note, listeners, listener_in}
use Rattle.mama_bridge.specs.Desk.{Adds}
use Rattle.mama_bridge.specs.Links.{AreSpelled, AreRepliesSpelled, InboxView, inbox_seen, inbox_view, inbox_link_slots, first_outs, image_outs, end_outs, inbox_end_outs, settle_outs, fin_outs}
use Rattle.mama_bridge.proofs.Adding.{Says, says_none, says_append, says_map, says_ends, says_inbox_ends}
use Rattle.mama_bridge.proofs.Spellings.{Arrives}
use Rattle.mama_bridge.proofs.Wishing.{says_first}

heads : {V : Type 0} {v w : V} {vs ws : List V} → v ∷ vs ≡ w ∷ ws → v ≡ w
heads e = cc

tails : {V : Type 0} {v w : V} {vs ws : List V} → v ∷ vs ≡ w ∷ ws → vs ≡ ws
tails e = cc

pub inbox_slots_same : (queue : ℕ) (links : List InboxLink) (rows : List InboxRow) → map inbox_seen links ≡ map inbox_view rows → inbox_link_slots queue links ≡ inbox_slots queue rows
inbox_slots_same queue [] [] h = refl
inbox_slots_same queue [] (row ∷ rows) h = cc
inbox_slots_same queue (link ∷ links) [] h = cc
inbox_slots_same queue (link ∷ links) (row ∷ rows) h =
    ap (λ (v : InboxView). cond (v.queue == queue) (v.slot ∷ []) [] ++ inbox_link_slots queue links) (heads h)
    ∙ ap (λ xs. slot_on queue (Some (row.terms.queue, row.slot)) ++ xs) (inbox_slots_same queue links rows (tails h))

pub ended_same : (a b c a' b' c' : List Bool) → a ≡ a' → b ≡ b' → c ≡ c' → is_ended_by a b c ≡ is_ended_by a' b' c'
ended_same a b c a' b' c' x y z = ap (λ f. is_ended_by f b c) x ∙ ap (λ f. is_ended_by a' f c) y ∙ ap (λ f. is_ended_by a' b' f) z

pub settling_same : (a b a' b' : List Bool) → a ≡ a' → b ≡ b' → is_settling_by a b ≡ is_settling_by a' b'
settling_same a b a' b' x y = ap (λ f. is_settling_by f b) x ∙ ap (λ f. is_settling_by a' f) y

pub map_kept : {A B : Type 0} (f : A → B) (b : Bool) (xs : List A) → map f (kept b xs) ≡ kept b (map f xs)
map_kept f true xs = refl
map_kept f false xs = refl

-- one link more stands for one row more
pub seen_more : {R V : Type 0} (view : R → V) (seen old : List V) (rows : List R) (one : V) (row : R) (ended ended' : Bool)
    → seen ≡ old ++ kept ended (one ∷ []) → old ≡ map view rows → one ≡ view row → ended ≡ ended' → seen ≡ map view (rows ++ kept ended' (row ∷ []))
seen_more {R} {V} view seen old rows one row ended ended' h same is e =
    h ∙ ap (λ (vs : List V). vs ++ kept ended (one ∷ [])) same
    ∙ ap (λ (vs : List V). map view rows ++ vs) (ap (λ b. kept b (one ∷ [])) e ∙ ap (λ v. kept ended' (v ∷ [])) is ∙ sym (map_kept view ended' (row ∷ [])))
    ∙ sym (map-append view rows (kept ended' (row ∷ [])))

module _ {L : Type 0} (tagged : L → ObjectId) where
  -- an object with its listener, and what follows it
  pub adds_created : (o0 r o1 o2 : List (BridgeOut L)) (queue slot slot' : ℕ) (object : ObjectId) (made : Make) (listener : L) (outs : List (BridgeOut L)) (more : List BridgePut)
      → slot ≡ slot' → r ≡ o0 → o1 ≡ r ++ out.Queue queue (queued.Create slot object made listener) ∷ [] → o2 ≡ o1 ++ outs → Says tagged outs more
      → Adds tagged o0 o2 (to_queue queue (q.Create slot' object made (tagged listener)) ∷ more) (listener ∷ [])
  adds_created o0 r o1 o2 queue slot slot' object made listener outs more e before made_is k s =
      let h : o1 ≡ o0 ++ out.Queue queue (queued.Create slot object made listener) ∷ [] = made_is ∙ ap (λ (os : List (BridgeOut L)). os ++ out.Queue queue (queued.Create slot object made listener) ∷ []) before in
      record {
        puts = ap (map (put_note tagged)) (k ∙ ap (λ os. os ++ outs) h) ∙ map-append (put_note tagged) (o0 ++ out.Queue queue (queued.Create slot object made listener) ∷ []) outs
            ∙ ap (λ ps. ps ++ map (put_note tagged) outs) (map-append (put_note tagged) o0 (out.Queue queue (queued.Create slot object made listener) ∷ []))
            ∙ ap (λ ps. map (put_note tagged) o0 ++ to_queue queue (q.Create slot object made (tagged listener)) ∷ [] ++ ps) s.puts
            ∙ ap (λ n. map (put_note tagged) o0 ++ to_queue queue (q.Create n object made (tagged listener)) ∷ [] ++ more) e
            ∙ append_assoc (map (put_note tagged) o0) (to_queue queue (q.Create slot' object made (tagged listener)) ∷ []) more;
        listeners = ap listeners (k ∙ ap (λ os. os ++ outs) h) ∙ flat_map-append listener_in (o0 ++ out.Queue queue (queued.Create slot object made listener) ∷ []) outs
            ∙ ap (λ (ls : List L). ls ++ listeners outs) (flat_map-append listener_in o0 (out.Queue queue (queued.Create slot object made listener) ∷ []))
            ∙ ap (λ (ls : List L). listeners o0 ++ listener ∷ [] ++ ls) s.quiet ∙ append-nil (listeners o0 ++ listener ∷ []);
      }

  pub says_image : (shape : Shape) (s : SubId) (kind : SubKind) (topic : ℕ) → Says tagged (image_outs kind (first_outs (position (λ x. x == topic) shape.publisher_topics) (asked.Want s Initial))) (wants_image shape s kind topic)
  says_image shape s Basic topic = says_none tagged
  says_image shape s Market topic = says_first tagged (position (λ x. x == topic) shape.publisher_topics) (asked.Want s Initial)
  says_image shape s Snapshot topic = says_first tagged (position (λ x. x == topic) shape.publisher_topics) (asked.Want s Initial)

  pub says_settles : (shape : Shape) → Says tagged (settle_outs (publishers_of shape)) (settles_all shape)
  says_settles shape = says_map tagged (λ (r : ℕ). out.Publisher r asked.Settle) (λ (r : ℕ). to_publisher r p.Settle) (λ r. refl) (λ r. refl) (numbers_below (publishers_of shape))

  pub says_ending : Arrives → (shape : Shape) (table : Table) → AreSpelled table.subs → AreRepliesSpelled table.inboxes → Says tagged (flat_map end_outs table.subs ++ flat_map inbox_end_outs table.inboxes ++ fin_outs (publishers_of shape) (queues_of shape)) (ends_all shape table)
  says_ending laws shape table spelled replies =
      let rows = flat_map sub_ends table.subs ++ flat_map inbox_ends table.inboxes in
      let timers : List BridgePut = to_timers t.Fin ∷ [] in
      let queues : List BridgePut = map (λ (k : ℕ). to_queue k q.Fin) (numbers_below (queues_of shape)) in
      let publishers : List BridgePut = map (λ (r : ℕ). to_publisher r p.Fin) (numbers_below (publishers_of shape)) in
      let queue_outs : List (BridgeOut L) = map (λ (k : ℕ). out.Queue k queued.Fin) (numbers_below (queues_of shape)) in
      let publisher_outs : List (BridgeOut L) = map (λ (r : ℕ). out.Publisher r asked.Fin) (numbers_below (publishers_of shape)) in
      let links = says_append tagged (flat_map end_outs table.subs) (flat_map inbox_end_outs table.inboxes) (flat_map sub_ends table.subs) (flat_map inbox_ends table.inboxes) (says_ends tagged laws table.subs spelled) (says_inbox_ends tagged laws table.inboxes replies) in
      let says_timers : Says tagged (out.Timers timed.Fin ∷ []) timers = record { puts = refl; quiet = refl } in
      let says_queues = says_map tagged (λ (k : ℕ). out.Queue k queued.Fin) (λ (k : ℕ). to_queue k q.Fin) (λ k. refl) (λ k. refl) (numbers_below (queues_of shape)) in
      let says_publishers = says_map tagged (λ (r : ℕ). out.Publisher r asked.Fin) (λ (r : ℕ). to_publisher r p.Fin) (λ r. refl) (λ r. refl) (numbers_below (publishers_of shape)) in
      let fins = says_append tagged (out.Timers timed.Fin ∷ [] ++ queue_outs) publisher_outs (timers ++ queues) publishers (says_append tagged (out.Timers timed.Fin ∷ []) queue_outs timers queues says_timers says_queues) says_publishers in
      let all = says_append tagged (flat_map end_outs table.subs ++ flat_map inbox_end_outs table.inboxes) (out.Timers timed.Fin ∷ [] ++ queue_outs ++ publisher_outs) rows (timers ++ queues ++ publishers) links fins in
      record { puts = all.puts ∙ sym (append_assoc rows (timers ++ queues) publishers) ∙ ap (λ xs. xs ++ publishers) (sym (append_assoc rows timers queues)); quiet = all.quiet }
