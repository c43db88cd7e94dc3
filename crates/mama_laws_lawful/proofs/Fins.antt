-- On each lane the last event was put exactly where the ending has come.
use Rattle.std.specs.List.{list_any, flat_map}
use Rattle.std.proofs.Common.{◌≡◌, ℕ, zero, suc, ◌<◌, ◌==◌, Bool, true, false, not, ◌||◌, cond, List, [], ◌∷◌, ◌++◌, map, refl, sym, ◌∙◌, ap, subst, arith, append_assoc, eq-eqb, ⊎_elim}
use Rattle.std.proofs.lemmas.Bool.{and_from, and_left, or_left, or_right, or_from, cases_Bool, cases_eq, both_ways}
use Rattle.std.proofs.lemmas.List.{map-append}
use Rattle.std.proofs.lemmas.List.Folds.{list_any-append}
use Rattle.mama_journal.specs.Journal.{all_puts, numbers_below}
use Rattle.mama_event.specs.declared.shape.Shape.{Shape}
use Rattle.mama_event.specs.declared.to_publisher.PublisherNote.TheVariants as p
use Rattle.mama_event.specs.declared.to_timers.TimersNote.TheVariants as t
use Rattle.mama_event.specs.declared.to_queue.QueueNote.TheVariants as q
use Rattle.mama_event.specs.Ports.{publishers_of, queues_of}
use Rattle.mama_event.specs.ToQueue as queue
use Rattle.mama_event.specs.ToPublisher as publisher
use Rattle.mama_event.specs.ToTimers as timers
use Rattle.mama_rules_services.specs.Bridge.{BridgeEvent, joins, leaves, opens, closes, asks, publishes, images, replies, wishes, client_done, sends_done, settled, bye, no_event, BridgePut, to_publisher, to_queue, to_timers, has_ending, heard, bridge_reaction}
use Rattle.mama_laws_bridge.specs.Table.{Table, table_next, table_of, ended_now, begins_settling, begins_ending, sub_ends, inbox_ends, settles_all, ends_all, closing, table_puts}
use Rattle.mama_laws_bridge.proofs.TableLaws.{flags_tell}
use Rattle.mama_laws_lawful.specs.Streams.{queue_part, publisher_part, timers_part}
use Rattle.mama_laws_lawful.specs.Laws.{FinsTellTheEnding}
use Rattle.mama_laws_lawful.proofs.Ended.{ended_stays}
use Rattle.mama_laws_lawful.proofs.QueueStreams.{along}
use Rattle.mama_laws_lawful.proofs.Steady.{is_steady, Steady, steady_puts}

-- among puts to many there is the one to each
any_number : (test : BridgePut → Bool) (f : ℕ → BridgePut) (k n : ℕ) → k < n → test (f k) ≡ true → list_any test (map f (numbers_below n)) ≡ true
any_number test f k zero small h = absurd (omega (arith, small))
any_number test f k (suc n) small h =
    ap (list_any test) (map-append f (numbers_below n) (n ∷ [])) ∙ list_any-append test (map f (numbers_below n)) (f n ∷ []) ∙ ⊎_elim
    (λ (same : k ≡ n). or_right (list_any test (map f (numbers_below n))) (test (f n) || false) (or_left (test (f n)) false (ap (λ (m : ℕ). test (f m)) (sym same) ∙ h)))
    (λ (apart : k ≡ n → ⊥). or_left (list_any test (map f (numbers_below n))) (test (f n) || false) (any_number test f k n (omega (arith, small, apart)) h))
    (cases_eq k n)

any_part : {N : Type 0} (last : N → Bool) (part : BridgePut → List N) (puts : List BridgePut) → list_any last (flat_map part puts) ≡ list_any (λ x. list_any last (part x)) puts
any_part last part [] = refl
any_part last part (x ∷ puts) = list_any-append last (part x) (flat_map part puts) ∙ ap (λ b. list_any last (part x) || b) (any_part last part puts)

module _ (shape : Shape) where
  abbrev fins : List BridgePut
  fins = (to_timers t.Fin ∷ [] ++ map (λ (k : ℕ). to_queue k q.Fin) (numbers_below (queues_of shape))) ++ map (λ (r : ℕ). to_publisher r p.Fin) (numbers_below (publishers_of shape))

  -- a test of puts that only the ending meets
  record Tells (test : BridgePut → Bool) : Type 0 where
    steady : (x : BridgePut) → is_steady x ≡ true → test x ≡ false
    fin : list_any test fins ≡ true

  -- the ending has come exactly where a put met it
  abbrev Told : (BridgePut → Bool) → Table → List BridgePut → Type 0
  Told test table puts = list_any test puts ≡ ended_now table

  module _ (test : BridgePut → Bool) (tells : Tells test) where
    none_steady : (puts : List BridgePut) → Steady puts → list_any test puts ≡ false
    none_steady [] h = refl
    none_steady (x ∷ puts) h = or_from (test x) (list_any test puts) (tells.steady x h.0) (none_steady puts h.1)

    at_end : (table : Table) → list_any test (ends_all shape table) ≡ true
    at_end table =
        let rows : List BridgePut = flat_map sub_ends table.subs ++ flat_map inbox_ends table.inboxes in
        let service : List BridgePut = to_timers t.Fin ∷ [] in
        let queues : List BridgePut = map (λ (k : ℕ). to_queue k q.Fin) (numbers_below (queues_of shape)) in
        let publishers : List BridgePut = map (λ (r : ℕ). to_publisher r p.Fin) (numbers_below (publishers_of shape)) in
        let sorted : ((rows ++ service) ++ queues) ++ publishers ≡ rows ++ ((service ++ queues) ++ publishers) =
        ap (λ (xs : List BridgePut). xs ++ publishers) (append_assoc rows service queues) ∙ append_assoc rows (service ++ queues) publishers in
        ap (list_any test) sorted ∙ list_any-append test rows fins ∙ or_right (list_any test rows) (list_any test fins) tells.fin

    closes_with : (table : Table) (e : BridgeEvent) → begins_ending table e ≡ true → list_any test (closing shape table e) ≡ true
    closes_with table e h =
        let settles : List BridgePut = cond (begins_settling table e) (settles_all shape) [] in
        ap (λ (b : Bool). list_any test (settles ++ cond b (ends_all shape table) [])) h ∙ list_any-append test settles (ends_all shape table)
        ∙ or_right (list_any test settles) (list_any test (ends_all shape table)) (at_end table)

    -- the ending comes with this event
    ending : (table : Table) (e : BridgeEvent) → ended_now table ≡ false → ended_now (table_next shape table e) ≡ true → list_any test (table_puts shape table e) ≡ true
    ending table (client_done c) yet now = closes_with table (client_done c) (and_from (ended_now (table_next shape table (client_done c))) (not (ended_now table)) now (ap not yet))
    ending table (sends_done c) yet now = closes_with table (sends_done c) (and_from (ended_now (table_next shape table (sends_done c))) (not (ended_now table)) now (ap not yet))
    ending table (settled c) yet now = closes_with table (settled c) (and_from (ended_now (table_next shape table (settled c))) (not (ended_now table)) now (ap not yet))
    ending table (joins s terms tag) yet now = absurd (both_ways (ended_now table) yet now)
    ending table (leaves s) yet now = absurd (both_ways (ended_now table) yet now)
    ending table (opens i terms tag) yet now = absurd (both_ways (ended_now table) yet now)
    ending table (closes i) yet now = absurd (both_ways (ended_now table) yet now)
    ending table (asks i topic fids) yet now = absurd (both_ways (ended_now table) yet now)
    ending table (publishes r m) yet now = absurd (both_ways (ended_now table) yet now)
    ending table (images s m) yet now = absurd (both_ways (ended_now table) yet now)
    ending table (replies i body) yet now = absurd (both_ways (ended_now table) yet now)
    ending table (wishes s sender) yet now = absurd (both_ways (ended_now table) yet now)
    ending table (bye k) yet now = absurd (both_ways (ended_now table) yet now)
    ending table no_event yet now = absurd (both_ways (ended_now table) yet now)

    step : (table : Table) (e : BridgeEvent) (puts : List BridgePut) → Told test table puts → Told test (table_next shape table e) (puts ++ table_puts shape table e)
    step table e puts told =
        let next : Table = table_next shape table e in
        let more : List BridgePut = table_puts shape table e in
        list_any-append test puts more ∙ ⊎_elim
        (λ (ended : ended_now table ≡ true). or_left (list_any test puts) (list_any test more) (told ∙ ended) ∙ sym (ended_stays shape table e ended))
        (λ (yet : ended_now table ≡ false). ⊎_elim
        (λ (now : ended_now next ≡ true). or_right (list_any test puts) (list_any test more) (ending table e yet now) ∙ sym now)
        (λ (still : ended_now next ≡ false).
        or_from (list_any test puts) (list_any test more) (told ∙ yet) (none_steady more (steady_puts shape table e (and_left (ended_now next) (not (ended_now table)) still))) ∙ sym still)
        (cases_Bool (ended_now next)))
        (cases_Bool (ended_now table))

    all_as_put : (puts : List BridgePut) → flat_map (λ (x : BridgePut). x ∷ []) puts ≡ puts
    all_as_put [] = refl
    all_as_put (x ∷ puts) = ap (λ (xs : List BridgePut). x ∷ xs) (all_as_put puts)

    told_of : (es : List BridgeEvent) → has_ending shape [] ≡ false → list_any test (all_puts (bridge_reaction shape) es) ≡ has_ending shape es
    told_of es none =
        let one : BridgePut → List BridgePut = λ x. x ∷ [] in
        ap (list_any test) (sym (all_as_put (all_puts (bridge_reaction shape) es)))
        ∙ along shape one (λ xs. Unit {0}) (Told test) (λ xs e h. tt) (sym (sym (flags_tell shape []).ended ∙ none))
        (λ xs e puts premise told. subst (λ (ps : List BridgePut). Told test (table_next shape (table_of shape xs) e) (puts ++ ps)) (sym (all_as_put (table_puts shape (table_of shape xs) e))) (step (table_of shape xs) e puts told))
        es tt
        ∙ sym (flags_tell shape es).ended

  -- ---- the lanes

  if_last : {N : Type 0} (last : N → Bool) (b : Bool) (note : N) → last note ≡ false → list_any last (cond b (note ∷ []) []) ≡ false
  if_last last true note h = or_from (last note) false h refl
  if_last last false note h = refl

  if_here : {N : Type 0} (last : N → Bool) (b : Bool) (note : N) → b ≡ true → last note ≡ true → list_any last (cond b (note ∷ []) []) ≡ true
  if_here last true note h is = or_left (last note) false is
  if_here last false note h is = cc

  queue_tells : (k : ℕ) → k < queues_of shape → Tells (λ x. list_any queue.is_last (queue_part k x))
  queue_tells k small = record { steady = quiet; fin = here }
    where
      quiet : (x : BridgePut) → is_steady x ≡ true → list_any queue.is_last (queue_part k x) ≡ false
      quiet (to_publisher r note) h = refl
      quiet (to_timers note) h = refl
      quiet (to_queue j (q.Create slot object make tag)) h = if_last queue.is_last (j == k) (q.Create slot object make tag) refl
      quiet (to_queue j (q.Deliver slot sub msg)) h = if_last queue.is_last (j == k) (q.Deliver slot sub msg) refl
      quiet (to_queue j (q.Reply slot inbox body)) h = if_last queue.is_last (j == k) (q.Reply slot inbox body) refl
      quiet (to_queue j (q.Bad slot sub kind sender seq bytes)) h = if_last queue.is_last (j == k) (q.Bad slot sub kind sender seq bytes) refl
      quiet (to_queue j (q.BadReply slot inbox bytes)) h = if_last queue.is_last (j == k) (q.BadReply slot inbox bytes) refl
      quiet (to_queue j (q.Tick slot timer moment)) h = if_last queue.is_last (j == k) (q.Tick slot timer moment) refl
      quiet (to_queue j (q.Gone slot object)) h = if_last queue.is_last (j == k) (q.Gone slot object) refl
      quiet (to_queue j q.Fin) h = cc

      here : list_any (λ x. list_any queue.is_last (queue_part k x)) fins ≡ true
      here =
          let any : BridgePut → Bool = λ x. list_any queue.is_last (queue_part k x) in
          let queues : List BridgePut = map (λ (j : ℕ). to_queue j q.Fin) (numbers_below (queues_of shape)) in
          let publishers : List BridgePut = map (λ (r : ℕ). to_publisher r p.Fin) (numbers_below (publishers_of shape)) in
          list_any-append any (to_timers t.Fin ∷ queues) publishers
          ∙ or_left (list_any any (to_timers t.Fin ∷ queues)) (list_any any publishers)
          (any_number any (λ (j : ℕ). to_queue j q.Fin) k (queues_of shape) small (if_here queue.is_last (k == k) q.Fin (eq-eqb k k refl) refl))

  publisher_tells : (r : ℕ) → r < publishers_of shape → Tells (λ x. list_any publisher.is_last (publisher_part r x))
  publisher_tells r small = record { steady = quiet; fin = here }
    where
      quiet : (x : BridgePut) → is_steady x ≡ true → list_any publisher.is_last (publisher_part r x) ≡ false
      quiet (to_publisher k (p.Want sub kind)) h = if_last publisher.is_last (k == r) (p.Want sub kind) refl
      quiet (to_publisher k (p.Ask inbox fids)) h = if_last publisher.is_last (k == r) (p.Ask inbox fids) refl
      quiet (to_publisher k p.Settle) h = if_last publisher.is_last (k == r) p.Settle refl
      quiet (to_publisher k p.Fin) h = cc
      quiet (to_queue j note) h = refl
      quiet (to_timers note) h = refl

      here : list_any (λ x. list_any publisher.is_last (publisher_part r x)) fins ≡ true
      here =
          let any : BridgePut → Bool = λ x. list_any publisher.is_last (publisher_part r x) in
          let queues : List BridgePut = map (λ (j : ℕ). to_queue j q.Fin) (numbers_below (queues_of shape)) in
          let publishers : List BridgePut = map (λ (k : ℕ). to_publisher k p.Fin) (numbers_below (publishers_of shape)) in
          list_any-append any (to_timers t.Fin ∷ queues) publishers
          ∙ or_right (list_any any (to_timers t.Fin ∷ queues)) (list_any any publishers)
          (any_number any (λ (k : ℕ). to_publisher k p.Fin) r (publishers_of shape) small (if_here publisher.is_last (r == r) p.Fin (eq-eqb r r refl) refl))

  timers_tell : Tells (λ x. list_any timers.is_last (timers_part x))
  timers_tell = record { steady = quiet; fin = refl }
    where
      quiet : (x : BridgePut) → is_steady x ≡ true → list_any timers.is_last (timers_part x) ≡ false
      quiet (to_publisher k note) h = refl
      quiet (to_queue j note) h = refl
      quiet (to_timers note) h = cc

pub fins_tell : FinsTellTheEnding
fins_tell shape journal none =
    let es : List BridgeEvent = heard shape journal in
    let put : List BridgePut = all_puts (bridge_reaction shape) es in
    record {
      to_queues = λ k small. any_part queue.is_last (queue_part k) put ∙ told_of shape (λ x. list_any queue.is_last (queue_part k x)) (queue_tells shape k small) es none;
      to_publishers = λ r small. any_part publisher.is_last (publisher_part r) put ∙ told_of shape (λ x. list_any publisher.is_last (publisher_part r x)) (publisher_tells shape r small) es none;
      to_timers = any_part timers.is_last timers_part put ∙ told_of shape (λ x. list_any timers.is_last (timers_part x)) (timers_tell shape) es none;
    }
