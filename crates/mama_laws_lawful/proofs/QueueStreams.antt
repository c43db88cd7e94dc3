-- What the bridge puts to each queue is a stream that the queue may be given.
use Rattle.std.specs.List.{flat_map}
use Rattle.std.proofs.Common.{◌≡◌, ℕ, true, false, not, List, [], ◌∷◌, ◌++◌, refl, sym, ◌∙◌, ap, subst, append-nil, append_assoc, ⊎_elim}
use Rattle.std.proofs.lemmas.Bool.{and_from, and_left, cases_Bool, both_ways}
use Rattle.std.proofs.lemmas.List.Concat.{flat_map-append}
use Rattle.mama_journal.specs.Journal.{all_puts}
use Rattle.mama_event.specs.declared.shape.Shape.{Shape}
use Rattle.mama_event.specs.declared.to_queue.QueueNote.{QueueNote}
use Rattle.mama_event.specs.Lawful.{each_fits, IsLawful}
use Rattle.mama_event.specs.LawfulLaws.{IsLawful-start}
use Rattle.mama_event.specs.ToQueue.{is_last, fits, open_blocks}
use Rattle.mama_rules_services.specs.Bridge.{BridgeEvent, joins, leaves, opens, closes, asks, publishes, images, replies, wishes, client_done, sends_done, settled, bye, no_event, BridgePut, bridge_reaction}
use Rattle.mama_laws_bridge.specs.Table.{Table, empty_table, table_next, table_of, ended_now, table_puts}
use Rattle.mama_journal.specs.EntryLaws.{by_entries, all_puts-push}
use Rattle.mama_laws_bridge.proofs.Next.{tied, table_of-push}
use Rattle.mama_laws_bridge.proofs.Reaction.{reaction}
use Rattle.mama_laws_bridge.proofs.TableLaws.{rows_are_live, flags_tell}
use Rattle.mama_laws_lawful.specs.Streams.{queue_part, IsTimely, takes_least}
use Rattle.mama_laws_lawful.proofs.Going.{going_start}
use Rattle.mama_laws_lawful.proofs.Steps.{Ended, known, part, Goes, goes_on, comes_to_end}
use Rattle.mama_laws_lawful.proofs.Ended.{ended_stays, no_subs, no_inboxes, none_late}

-- ---- along what was heard

pub timely_before : (shape : Shape) (es : List BridgeEvent) (e : BridgeEvent) → IsTimely shape (es ++ e ∷ []) → IsTimely shape es
timely_before shape es e timely = record { each = λ before x after is ended. timely.each before x (after ++ e ∷ []) (ap (λ (xs : List BridgeEvent). xs ++ e ∷ []) is ∙ append_assoc before (x ∷ after) (e ∷ [])) ended }

-- an event more, by the table: what goes on one lane
pub along : {N : Type 0} (shape : Shape) (part : BridgePut → List N) (Premise : List BridgeEvent → Type 0) (Holds : Table → List N → Type 0)
    → ((es : List BridgeEvent) (e : BridgeEvent) → Premise (es ++ e ∷ []) → Premise es) → Holds (empty_table shape) []
    → ((es : List BridgeEvent) (e : BridgeEvent) (notes : List N) → Premise (es ++ e ∷ []) → Holds (table_of shape es) notes → Holds (table_next shape (table_of shape es) e) (notes ++ flat_map part (table_puts shape (table_of shape es) e)))
    → (es : List BridgeEvent) → Premise es → Holds (table_of shape es) (flat_map part (all_puts (bridge_reaction shape) es))
along {N} shape part Premise Holds before start step es =
    let put : List BridgeEvent → List BridgePut = λ xs. all_puts (bridge_reaction shape) xs in
    by_entries (λ (xs : List BridgeEvent). Premise xs → Holds (table_of shape xs) (flat_map part (put xs))) (λ premise. start)
    (λ xs e ih premise.
    let more : flat_map part (put (xs ++ e ∷ [])) ≡ flat_map part (put xs) ++ flat_map part (table_puts shape (table_of shape xs) e) =
    ap (flat_map part) (all_puts-push (bridge_reaction shape) xs e ∙ ap (λ (ps : List BridgePut). put xs ++ ps) (reaction shape xs (put xs) (table_of shape xs) (tied shape xs) e))
    ∙ flat_map-append part (put xs) (table_puts shape (table_of shape xs) e) in
    subst (λ (table : Table). Holds table (flat_map part (put (xs ++ e ∷ [])))) (sym (table_of-push shape xs e))
    (subst (Holds (table_next shape (table_of shape xs) e)) (sym more) (step xs e (flat_map part (put xs)) premise (ih (before xs e premise))))) es

module _ (queue : ℕ) (shape : Shape) where
  -- a stream by the table: it goes on until the ending, and then all blocks are finished
  pub record Streamed (table : Table) (notes : List QueueNote) : Type 0 where
    pub lawful : IsLawful is_last (fits 0) notes
    pub least : each_fits takes_least [] notes ≡ true
    pub going : ended_now table ≡ false → Goes queue shape table notes
    pub finished : ended_now table ≡ true → open_blocks notes ≡ []

  -- the ending comes with this event
  ending : (table : Table) (e : BridgeEvent) (notes : List QueueNote) → ended_now table ≡ false → ended_now (table_next shape table e) ≡ true → Goes queue shape table notes
      → Ended (notes ++ part queue shape (table_puts shape table e))
  ending table (client_done c) notes yet now g = comes_to_end queue shape table notes g (client_done c) (and_from (ended_now (table_next shape table (client_done c))) (not (ended_now table)) now (ap not yet))
  ending table (sends_done c) notes yet now g = comes_to_end queue shape table notes g (sends_done c) (and_from (ended_now (table_next shape table (sends_done c))) (not (ended_now table)) now (ap not yet))
  ending table (settled c) notes yet now g = comes_to_end queue shape table notes g (settled c) (and_from (ended_now (table_next shape table (settled c))) (not (ended_now table)) now (ap not yet))
  ending table (joins s terms tag) notes yet now g = absurd (both_ways (ended_now table) yet now)
  ending table (leaves s) notes yet now g = absurd (both_ways (ended_now table) yet now)
  ending table (opens i terms tag) notes yet now g = absurd (both_ways (ended_now table) yet now)
  ending table (closes i) notes yet now g = absurd (both_ways (ended_now table) yet now)
  ending table (asks i topic fids) notes yet now g = absurd (both_ways (ended_now table) yet now)
  ending table (publishes r m) notes yet now g = absurd (both_ways (ended_now table) yet now)
  ending table (images s m) notes yet now g = absurd (both_ways (ended_now table) yet now)
  ending table (replies i body) notes yet now g = absurd (both_ways (ended_now table) yet now)
  ending table (wishes s sender) notes yet now g = absurd (both_ways (ended_now table) yet now)
  ending table (bye k) notes yet now g = absurd (both_ways (ended_now table) yet now)
  ending table no_event notes yet now g = absurd (both_ways (ended_now table) yet now)

  step : (es : List BridgeEvent) (e : BridgeEvent) (notes : List QueueNote) → IsTimely shape (es ++ e ∷ []) → Streamed (table_of shape es) notes
      → Streamed (table_next shape (table_of shape es) e) (notes ++ part queue shape (table_puts shape (table_of shape es) e))
  step es e notes timely before =
      let table : Table = table_of shape es in
      let next : Table = table_next shape table e in
      let live = rows_are_live shape es in
      ⊎_elim
      (λ (ended : ended_now table ≡ true).
      let quiet : table_puts shape table e ≡ [] = none_late shape table e (no_subs shape es ended) (no_inboxes shape es ended) ended (timely.each es e [] refl ((flags_tell shape es).ended ∙ ended)) in
      subst (λ (ps : List BridgePut). Streamed next (notes ++ part queue shape ps)) (sym quiet)
      (subst (Streamed next) (sym (append-nil notes)) (record {
        lawful = before.lawful;
        least = before.least;
        going = λ yet. absurd (both_ways (ended_now next) yet (ended_stays shape table e ended));
        finished = λ now. before.finished ended;
      })))
      (λ (yet : ended_now table ≡ false). ⊎_elim
      (λ (now : ended_now next ≡ true).
      let all = ending table e notes yet now (before.going yet) in
      record {
        lawful = all.lawful;
        least = all.least;
        going = λ not_now. absurd (both_ways (ended_now next) not_now now);
        finished = λ h. all.finished;
      })
      (λ (still : ended_now next ≡ false).
      let g = goes_on queue shape table notes (before.going yet) e live.subs_once live.inboxes_once yet (and_left (ended_now next) (not (ended_now table)) still) in
      record {
        lawful = g.lawful;
        least = g.least;
        going = λ h. g;
        finished = λ now. absurd (both_ways (ended_now next) still now);
      })
      (cases_Bool (ended_now next)))
      (cases_Bool (ended_now table))

  start : Streamed (empty_table shape) []
  start = record {
    lawful = IsLawful-start is_last (fits 0);
    least = refl;
    going = λ yet. going_start (known [] []);
    finished = λ now. refl;
  }

  pub streamed : (es : List BridgeEvent) → IsTimely shape es → Streamed (table_of shape es) (part queue shape (all_puts (bridge_reaction shape) es))
  streamed es timely = along shape (queue_part queue) (IsTimely shape) Streamed (timely_before shape) start step es timely
