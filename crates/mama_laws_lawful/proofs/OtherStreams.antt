-- What the bridge puts to each publisher and to the timers are streams that they may be given.
use Rattle.std.specs.List.{list_any, flat_map}
use Rattle.std.proofs.Common.{◌≡◌, ℕ, zero, suc, ◌≤◌, ◌==◌, Bool, true, false, not, cond, List, [], ◌∷◌, ◌++◌, map, refl, sym, ◌∙◌, ap, subst, arith, append-nil, append_assoc, eq-eqb, ne_eqb, inl, inr, ⊎_elim, ◌⊎◌}
use Rattle.std.proofs.lemmas.Bool.{and_from, and_left, or_from, cases_Bool, cases_eq, both_ways}
use Rattle.std.proofs.lemmas.List.{map-append}
use Rattle.std.proofs.lemmas.List.Concat.{flat_map-append}
use Rattle.mama_journal.specs.Journal.{all_puts, numbers_below}
use Rattle.mama_event.specs.declared.shape.Shape.{Shape}
use Rattle.mama_event.specs.declared.to_publisher.PublisherNote.{PublisherNote}
use Rattle.mama_event.specs.declared.to_publisher.PublisherNote.TheVariants as p
use Rattle.mama_event.specs.declared.to_timers.TimersNote.{TimersNote}
use Rattle.mama_event.specs.declared.to_timers.TimersNote.TheVariants as t
use Rattle.mama_event.specs.declared.to_queue.QueueNote.TheVariants as q
use Rattle.mama_event.specs.Lawful.{IsLawful}
use Rattle.mama_event.specs.LawfulLaws.{IsLawful-start, IsLawful-push}
use Rattle.mama_event.specs.Ports.{publishers_of, queues_of}
use Rattle.mama_event.specs.ToPublisher as publisher
use Rattle.mama_event.specs.ToTimers as timers
use Rattle.mama_rules_services.specs.Bridge.{BridgeEvent, joins, leaves, opens, closes, asks, publishes, images, replies, wishes, client_done, sends_done, settled, bye, no_event, BridgePut, to_publisher, to_queue, to_timers, bridge_reaction}
use Rattle.mama_laws_bridge.specs.Table.{Table, empty_table, table_next, table_of, ended_now, begins_settling, begins_ending, sub_ends, inbox_ends, settles_all, ends_all, closing, table_puts}
use Rattle.mama_laws_bridge.proofs.Lists.{Each, each_append}
use Rattle.mama_laws_bridge.proofs.Live.{list_any-push}
use Rattle.mama_laws_bridge.proofs.TableLaws.{flags_tell}
use Rattle.mama_laws_lawful.specs.Streams.{publisher_part, timers_part, IsTimely}
use Rattle.mama_laws_lawful.proofs.Ended.{ended_stays, ends_once, no_subs, no_inboxes, none_late}
use Rattle.mama_laws_lawful.proofs.QueueStreams.{along, timely_before}
use Rattle.mama_laws_lawful.proofs.Steady.{is_steady, Steady, steady_puts, steady_sub_ends, steady_inbox_ends, steady_settles}

-- the Fins to queues and to publishers
abbrev queue_fins : Shape → List BridgePut
queue_fins shape = map (λ (k : ℕ). to_queue k q.Fin) (numbers_below (queues_of shape))

abbrev publisher_fins : Shape → List BridgePut
publisher_fins shape = map (λ (r : ℕ). to_publisher r p.Fin) (numbers_below (publishers_of shape))

-- a lane on which the bridge puts nothing but what may stand anywhere, until at most one event at the ending
module _ {N : Type 0} (shape : Shape) (last : N → Bool) (fits : List N → N → Bool) (part : BridgePut → List N) where
  -- may stand anywhere, and is not last
  abbrev Harmless : N → Type 0
  Harmless n = (last n ≡ false) × ((before : List N) → fits before n ≡ true)

  -- what goes on this lane with the ending: nothing, or one event that may stand anywhere
  abbrev AtMostOne : List N → Type 0
  AtMostOne ns = (ns ≡ []) ⊎ ((n : N) × (ns ≡ n ∷ []) × ((before : List N) → fits before n ≡ true))

  harmless_more : (notes ns : List N) → Each Harmless ns → IsLawful last fits notes → list_any last notes ≡ false
      → IsLawful last fits (notes ++ ns) × (list_any last (notes ++ ns) ≡ false)
  harmless_more notes [] h lawful none = subst (λ (xs : List N). IsLawful last fits xs × (list_any last xs ≡ false)) (sym (append-nil notes)) (lawful, none)
  harmless_more notes (n ∷ ns) h lawful none =
      subst (λ (xs : List N). IsLawful last fits xs × (list_any last xs ≡ false)) (append_assoc notes (n ∷ []) ns)
      (harmless_more (notes ++ n ∷ []) ns h.1
      (IsLawful-push last fits notes n lawful (and_from (not (list_any last notes)) (fits notes n) (ap not none) (h.0.1 notes)))
      (list_any-push last notes n ∙ or_from (list_any last notes) (last n) none h.0.0))

  one_more : (notes ns : List N) → AtMostOne ns → IsLawful last fits notes → list_any last notes ≡ false → IsLawful last fits (notes ++ ns)
  one_more notes ns few lawful none = ⊎_elim
      (λ (nothing : ns ≡ []). subst (λ (xs : List N). IsLawful last fits (notes ++ xs)) (sym nothing) (subst (IsLawful last fits) (sym (append-nil notes)) lawful))
      (λ (one : (n : N) × (ns ≡ n ∷ []) × ((before : List N) → fits before n ≡ true)). subst (λ (xs : List N). IsLawful last fits (notes ++ xs)) (sym one.1)
      (IsLawful-push last fits notes one.0 lawful (and_from (not (list_any last notes)) (fits notes one.0) (ap not none) (one.2 notes))))
      few

  record Lane : Type 0 where
    steady : (x : BridgePut) → is_steady x ≡ true → Each Harmless (part x)
    few : AtMostOne ((part (to_timers t.Fin) ++ flat_map part (queue_fins shape)) ++ flat_map part (publisher_fins shape))

  record Streamed (table : Table) (notes : List N) : Type 0 where
    lawful : IsLawful last fits notes
    going : ended_now table ≡ false → list_any last notes ≡ false

  module _ (lane : Lane) where
    steady_part : (puts : List BridgePut) → Steady puts → Each Harmless (flat_map part puts)
    steady_part [] h = tt
    steady_part (x ∷ puts) h = each_append Harmless (part x) (flat_map part puts) (lane.steady x h.0) (steady_part puts h.1)

    -- what the ending puts on this lane
    ends_part : (table : Table) → flat_map part (ends_all shape table) ≡ flat_map part (flat_map sub_ends table.subs ++ flat_map inbox_ends table.inboxes)
        ++ ((part (to_timers t.Fin) ++ flat_map part (queue_fins shape)) ++ flat_map part (publisher_fins shape))
    ends_part table =
        let rows : List BridgePut = flat_map sub_ends table.subs ++ flat_map inbox_ends table.inboxes in
        let fin : List BridgePut = to_timers t.Fin ∷ [] in
        flat_map-append part ((rows ++ fin) ++ queue_fins shape) (publisher_fins shape)
        ∙ ap (λ (ns : List N). ns ++ flat_map part (publisher_fins shape)) (flat_map-append part (rows ++ fin) (queue_fins shape)
        ∙ ap (λ (ns : List N). ns ++ flat_map part (queue_fins shape)) (flat_map-append part rows fin ∙ ap (λ (ns : List N). flat_map part rows ++ ns) (append-nil (part (to_timers t.Fin))))
        ∙ append_assoc (flat_map part rows) (part (to_timers t.Fin)) (flat_map part (queue_fins shape)))
        ∙ append_assoc (flat_map part rows) (part (to_timers t.Fin) ++ flat_map part (queue_fins shape)) (flat_map part (publisher_fins shape))

    comes_to_end : (table : Table) (e : BridgeEvent) (notes : List N) → begins_ending table e ≡ true → IsLawful last fits notes → list_any last notes ≡ false
        → IsLawful last fits (notes ++ flat_map part (closing shape table e))
    comes_to_end table e notes h lawful none =
        let settles : List BridgePut = cond (begins_settling table e) (settles_all shape) [] in
        let rows : List BridgePut = flat_map sub_ends table.subs ++ flat_map inbox_ends table.inboxes in
        let fins : List N = (part (to_timers t.Fin) ++ flat_map part (queue_fins shape)) ++ flat_map part (publisher_fins shape) in
        let settled_too = harmless_more notes (flat_map part settles) (steady_part settles (steady_settles shape (begins_settling table e))) lawful none in
        let all_rows : Steady rows = each_append (λ (x : BridgePut). is_steady x ≡ true) (flat_map sub_ends table.subs) (flat_map inbox_ends table.inboxes) (steady_sub_ends table.subs) (steady_inbox_ends table.inboxes) in
        let rows_too = harmless_more (notes ++ flat_map part settles) (flat_map part rows) (steady_part rows all_rows) settled_too.0 settled_too.1 in
        let put : flat_map part (closing shape table e) ≡ flat_map part settles ++ (flat_map part rows ++ fins) =
        ap (λ (b : Bool). flat_map part (settles ++ cond b (ends_all shape table) [])) h ∙ flat_map-append part settles (ends_all shape table)
        ∙ ap (λ (ns : List N). flat_map part settles ++ ns) (ends_part table) in
        let sorted : ((notes ++ flat_map part settles) ++ flat_map part rows) ++ fins ≡ notes ++ flat_map part (closing shape table e) =
        append_assoc (notes ++ flat_map part settles) (flat_map part rows) fins ∙ append_assoc notes (flat_map part settles) (flat_map part rows ++ fins) ∙ ap (λ (ns : List N). notes ++ ns) (sym put) in
        subst (IsLawful last fits) sorted (one_more ((notes ++ flat_map part settles) ++ flat_map part rows) fins lane.few rows_too.0 rows_too.1)

    -- the ending comes with this event
    ending : (table : Table) (e : BridgeEvent) (notes : List N) → ended_now table ≡ false → ended_now (table_next shape table e) ≡ true → IsLawful last fits notes → list_any last notes ≡ false
        → IsLawful last fits (notes ++ flat_map part (table_puts shape table e))
    ending table (client_done c) notes yet now l none = comes_to_end table (client_done c) notes (and_from (ended_now (table_next shape table (client_done c))) (not (ended_now table)) now (ap not yet)) l none
    ending table (sends_done c) notes yet now l none = comes_to_end table (sends_done c) notes (and_from (ended_now (table_next shape table (sends_done c))) (not (ended_now table)) now (ap not yet)) l none
    ending table (settled c) notes yet now l none = comes_to_end table (settled c) notes (and_from (ended_now (table_next shape table (settled c))) (not (ended_now table)) now (ap not yet)) l none
    ending table (joins s terms tag) notes yet now l none = absurd (both_ways (ended_now table) yet now)
    ending table (leaves s) notes yet now l none = absurd (both_ways (ended_now table) yet now)
    ending table (opens i terms tag) notes yet now l none = absurd (both_ways (ended_now table) yet now)
    ending table (closes i) notes yet now l none = absurd (both_ways (ended_now table) yet now)
    ending table (asks i topic fids) notes yet now l none = absurd (both_ways (ended_now table) yet now)
    ending table (publishes r m) notes yet now l none = absurd (both_ways (ended_now table) yet now)
    ending table (images s m) notes yet now l none = absurd (both_ways (ended_now table) yet now)
    ending table (replies i body) notes yet now l none = absurd (both_ways (ended_now table) yet now)
    ending table (wishes s sender) notes yet now l none = absurd (both_ways (ended_now table) yet now)
    ending table (bye k) notes yet now l none = absurd (both_ways (ended_now table) yet now)
    ending table no_event notes yet now l none = absurd (both_ways (ended_now table) yet now)

    step : (table : Table) (e : BridgeEvent) (notes : List N) → (ended_now table ≡ true → flat_map part (table_puts shape table e) ≡ []) → Streamed table notes
        → Streamed (table_next shape table e) (notes ++ flat_map part (table_puts shape table e))
    step table e notes late before =
        let next : Table = table_next shape table e in
        let puts : List N = flat_map part (table_puts shape table e) in
        ⊎_elim
        (λ (ended : ended_now table ≡ true). subst (λ (ns : List N). Streamed next (notes ++ ns)) (sym (late ended)) (subst (Streamed next) (sym (append-nil notes)) (record {
          lawful = before.lawful;
          going = λ yet. absurd (both_ways (ended_now next) yet (ended_stays shape table e ended));
        })))
        (λ (yet : ended_now table ≡ false). ⊎_elim
        (λ (now : ended_now next ≡ true). record {
          lawful = ending table e notes yet now before.lawful (before.going yet);
          going = λ not_now. absurd (both_ways (ended_now next) not_now now);
        })
        (λ (still : ended_now next ≡ false).
        let more = harmless_more notes puts (steady_part (table_puts shape table e) (steady_puts shape table e (and_left (ended_now next) (not (ended_now table)) still))) before.lawful (before.going yet) in
        record { lawful = more.0; going = λ h. more.1 })
        (cases_Bool (ended_now next)))
        (cases_Bool (ended_now table))

    start : Streamed (empty_table shape) []
    start = record { lawful = IsLawful-start last fits; going = λ yet. refl }

-- ---- to a publisher

no_publishers : (r : ℕ) (ks : List ℕ) → flat_map (publisher_part r) (map (λ (k : ℕ). to_queue k q.Fin) ks) ≡ []
no_publishers r [] = refl
no_publishers r (k ∷ ks) = no_publishers r ks

-- the Fin that goes to one publisher
fins_to : (r n : ℕ) → (n ≤ r → flat_map (publisher_part r) (map (λ (k : ℕ). to_publisher k p.Fin) (numbers_below n)) ≡ [])
    × ((flat_map (publisher_part r) (map (λ (k : ℕ). to_publisher k p.Fin) (numbers_below n)) ≡ []) ⊎ (flat_map (publisher_part r) (map (λ (k : ℕ). to_publisher k p.Fin) (numbers_below n)) ≡ p.Fin ∷ []))
fins_to r zero = (λ h. refl, inl refl)
fins_to r (suc n) =
    let ih = fins_to r n in
    let below : List PublisherNote = flat_map (publisher_part r) (map (λ (k : ℕ). to_publisher k p.Fin) (numbers_below n)) in
    let split : flat_map (publisher_part r) (map (λ (k : ℕ). to_publisher k p.Fin) (numbers_below (suc n))) ≡ below ++ cond (n == r) (p.Fin ∷ []) [] =
    ap (flat_map (publisher_part r)) (map-append (λ (k : ℕ). to_publisher k p.Fin) (numbers_below n) (n ∷ []))
    ∙ flat_map-append (publisher_part r) (map (λ (k : ℕ). to_publisher k p.Fin) (numbers_below n)) (to_publisher n p.Fin ∷ [])
    ∙ ap (λ (ns : List PublisherNote). below ++ ns) (append-nil (cond (n == r) (p.Fin ∷ []) [])) in
    let add : List PublisherNote → List PublisherNote = λ xs. xs ++ cond (n == r) (p.Fin ∷ []) [] in
    let last : Bool → List PublisherNote = λ b. cond b (p.Fin ∷ []) [] in (
      λ less. split ∙ ap add (ih.0 (omega (arith, less))) ∙ ap last (ne_eqb n r (λ same. omega (arith, less, same))),
      ⊎_elim
          (λ (same : n ≡ r). inr (split ∙ ap add (ih.0 (omega (arith, same))) ∙ ap last (eq-eqb n r same)))
          (λ (apart : n ≡ r → ⊥). ⊎_elim
          (λ none. inl (split ∙ ap add none ∙ ap last (ne_eqb n r apart)))
          (λ one. inr (split ∙ ap add one ∙ ap (λ (b : Bool). p.Fin ∷ cond b (p.Fin ∷ []) []) (ne_eqb n r apart))) ih.1)
          (cases_eq n r),
    )

harmless_if : (b : Bool) (note : PublisherNote) → publisher.is_last note ≡ false → Each (λ (n : PublisherNote). (publisher.is_last n ≡ false) × ((before : List PublisherNote) → publisher.fits before n ≡ true)) (cond b (note ∷ []) [])
harmless_if true note h = ((h, λ before. refl), tt)
harmless_if false note h = tt

module _ (shape : Shape) (r : ℕ) where
  to_one : (x : BridgePut) → is_steady x ≡ true → Each (λ (n : PublisherNote). (publisher.is_last n ≡ false) × ((before : List PublisherNote) → publisher.fits before n ≡ true)) (publisher_part r x)
  to_one (to_publisher k (p.Want sub kind)) h = harmless_if (k == r) (p.Want sub kind) refl
  to_one (to_publisher k (p.Ask inbox fids)) h = harmless_if (k == r) (p.Ask inbox fids) refl
  to_one (to_publisher k p.Settle) h = harmless_if (k == r) p.Settle refl
  to_one (to_publisher k p.Fin) h = cc
  to_one (to_queue k note) h = tt
  to_one (to_timers note) h = tt

  publisher_lane : Lane shape publisher.is_last publisher.fits (publisher_part r)
  publisher_lane = record {
    steady = to_one;
    few =
        let mine : List PublisherNote = flat_map (publisher_part r) (publisher_fins shape) in
        let is : flat_map (publisher_part r) (queue_fins shape) ++ mine ≡ mine = ap (λ (ns : List PublisherNote). ns ++ mine) (no_publishers r (numbers_below (queues_of shape))) in
        ⊎_elim (λ none. inl (is ∙ none)) (λ one. inr (p.Fin, is ∙ one, λ before. refl)) (fins_to r (publishers_of shape)).1;
  }

  pub publisher_lawful : (es : List BridgeEvent) → IsTimely shape es → IsLawful publisher.is_last publisher.fits (flat_map (publisher_part r) (all_puts (bridge_reaction shape) es))
  publisher_lawful es timely = (along shape (publisher_part r) (IsTimely shape) (Streamed shape publisher.is_last publisher.fits (publisher_part r)) (timely_before shape)
      (start shape publisher.is_last publisher.fits (publisher_part r) publisher_lane)
      (λ xs e notes premise before. step shape publisher.is_last publisher.fits (publisher_part r) publisher_lane (table_of shape xs) e notes
      (λ ended. ap (flat_map (publisher_part r)) (none_late shape (table_of shape xs) e (no_subs shape xs ended) (no_inboxes shape xs ended) ended (premise.each xs e [] refl ((flags_tell shape xs).ended ∙ ended))))
      before)
      es timely).lawful

-- ---- to the timers

no_timers_of_queues : (ks : List ℕ) → flat_map timers_part (map (λ (k : ℕ). to_queue k q.Fin) ks) ≡ []
no_timers_of_queues [] = refl
no_timers_of_queues (k ∷ ks) = no_timers_of_queues ks

no_timers_of_publishers : (rs : List ℕ) → flat_map timers_part (map (λ (r : ℕ). to_publisher r p.Fin) rs) ≡ []
no_timers_of_publishers [] = refl
no_timers_of_publishers (r ∷ rs) = no_timers_of_publishers rs

no_timers : (x : BridgePut) → is_steady x ≡ true → timers_part x ≡ []
no_timers (to_publisher k note) h = refl
no_timers (to_queue k note) h = refl
no_timers (to_timers note) h = cc

no_timers_part : (puts : List BridgePut) → Steady puts → flat_map timers_part puts ≡ []
no_timers_part [] h = refl
no_timers_part (x ∷ puts) h = ap (λ (ns : List TimersNote). ns ++ flat_map timers_part puts) (no_timers x h.0) ∙ no_timers_part puts h.1

module _ (shape : Shape) where
  timers_lane : Lane shape timers.is_last (timers.fits shape.bounds) timers_part
  timers_lane = record {
    steady = λ x h. subst (Each (λ (n : TimersNote). (timers.is_last n ≡ false) × ((before : List TimersNote) → timers.fits shape.bounds before n ≡ true))) (sym (no_timers x h)) tt;
    few = inr (
      t.Fin,
      ap (λ (ns : List TimersNote). (t.Fin ∷ ns) ++ flat_map timers_part (publisher_fins shape)) (no_timers_of_queues (numbers_below (queues_of shape)))
          ∙ ap (λ (ns : List TimersNote). t.Fin ∷ ns) (no_timers_of_publishers (numbers_below (publishers_of shape))),
      λ before. refl,
    );
  }

  pub timers_lawful : (es : List BridgeEvent) → IsLawful timers.is_last (timers.fits shape.bounds) (flat_map timers_part (all_puts (bridge_reaction shape) es))
  timers_lawful es = (along shape timers_part (λ xs. Unit {0}) (Streamed shape timers.is_last (timers.fits shape.bounds) timers_part) (λ xs e h. tt)
      (start shape timers.is_last (timers.fits shape.bounds) timers_part timers_lane)
      (λ xs e notes premise before. step shape timers.is_last (timers.fits shape.bounds) timers_part timers_lane (table_of shape xs) e notes
      (λ ended. no_timers_part (table_puts shape (table_of shape xs) e) (steady_puts shape (table_of shape xs) e (ends_once (table_of shape xs) e ended))) before)
      es tt).lawful
