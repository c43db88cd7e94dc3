-- A publisher that stops in time has sent all its lines in the end.
use Rattle.std.specs.Prelude.{slice_index_or, not}
use Rattle.std.specs.List.{list_any}
use Rattle.std.proofs.Common.{◌≡◌, ℕ, ◌<◌, Bool, true, false, List, [], ◌∷◌, ◌++◌, refl, sym, ◌∙◌, ap, subst}
use Rattle.std.proofs.lemmas.Bool.{and_parts, or_parts, both_ways}
use Rattle.mama_journal.specs.Journal.{all_below}
use Rattle.mama_event.specs.Lawful.{each_fits}
use Rattle.mama_event.specs.Ports.{publishers_of}
use Rattle.mama_event.specs.declared.to_publisher.PublisherNote.{PublisherNote}
use Rattle.mama_event.specs.declared.to_publisher.PublisherNote.TheVariants.{Want, Ask, Settle, Fin}
use Rattle.mama_event.specs.declared.publisher_entry.PublisherEntry.{PublisherEntry}
use Rattle.mama_event.specs.declared.publisher_entry.PublisherEntry.TheVariants.{Send, Done, Took}
use Rattle.mama_rules_services.specs.Bridge.{BridgeEvent, heard, is_settling, has_ending, settles}
use Rattle.mama_rules_legal.specs.Edges.{taken_by}
use Rattle.mama_rules_legal.specs.Lines.{is_done, takes_settle}
use Rattle.mama_laws_legal.proofs.Endings.{is_ending, tail}
use Rattle.mama_laws_legal.proofs.Heard.{first_of, rest_of}
use Rattle.mama_laws_legal.proofs.Entries as entries
use Rattle.mama_laws_legal.proofs.Entries.{in_order, sent_out}
use Rattle.mama_laws_legal.proofs.AllSent.{count_publishers, told_end}
use Rattle.mama_laws_allowed.specs.Allowed.{comes_in_time, own_by, StoppedPublishersSentOut}
use Rattle.mama_laws_allowed.proofs.Following.{none_after}

same_own : (es : List PublisherEntry) → entries.own_by es ≡ own_by es
same_own [] = refl
same_own (Send ∷ es) = ap (λ (xs : List PublisherEntry). Send ∷ xs) (same_own es)
same_own (Done ∷ es) = ap (λ (xs : List PublisherEntry). Done ∷ xs) (same_own es)
same_own (Took n ∷ es) = same_own es

-- what is no ending is not the first of what the bridge tells at the end, and what is one is not before it
not_first : (n : PublisherNote) (rest xs : List PublisherNote) → is_ending n ≡ false → n ∷ rest ≡ xs ++ (Settle ∷ Fin ∷ []) → (ys : List PublisherNote) × (rest ≡ ys ++ (Settle ∷ Fin ∷ [])) × (xs ≡ n ∷ ys)
not_first n rest [] calm same = absurd (both_ways (is_ending n) calm (ap is_ending (ap (first_of n) same)))
not_first n rest (x ∷ xs) calm same = (xs, ap rest_of same, ap (λ (y : PublisherNote). y ∷ xs) (sym (ap (first_of n) same)))

-- neither Settle nor Fin is taken before Done
order : (before es : List PublisherEntry) → list_any is_done before ≡ false → each_fits comes_in_time before es ≡ true
    → (xs : List PublisherNote) → taken_by es ≡ xs ++ (Settle ∷ Fin ∷ []) → list_any is_ending xs ≡ false → in_order es ≡ true
order before [] none h xs taken calm = refl
order before (Done ∷ es) none h xs taken calm = refl
order before (Send ∷ es) none h xs taken calm =
    let parts = and_parts (comes_in_time before Send) (each_fits comes_in_time (before ++ Send ∷ []) es) h in
    order (before ++ Send ∷ []) es (none_after is_done is_done before Send none refl) parts.1 xs taken calm
order before (Took (Want sub kind) ∷ es) none h xs taken calm =
    let parts = and_parts (comes_in_time before (Took (Want sub kind))) (each_fits comes_in_time (before ++ Took (Want sub kind) ∷ []) es) h in
    let later = not_first (Want sub kind) (taken_by es) xs refl taken in
    order (before ++ Took (Want sub kind) ∷ []) es (none_after is_done is_done before (Took (Want sub kind)) none refl) parts.1 later.0 later.1
    (or_parts (is_ending (Want sub kind)) (list_any is_ending later.0) (sym (ap (list_any is_ending) later.2) ∙ calm)).1
order before (Took (Ask inbox fids) ∷ es) none h xs taken calm =
    let parts = and_parts (comes_in_time before (Took (Ask inbox fids))) (each_fits comes_in_time (before ++ Took (Ask inbox fids) ∷ []) es) h in
    let later = not_first (Ask inbox fids) (taken_by es) xs refl taken in
    order (before ++ Took (Ask inbox fids) ∷ []) es (none_after is_done is_done before (Took (Ask inbox fids)) none refl) parts.1 later.0 later.1
    (or_parts (is_ending (Ask inbox fids)) (list_any is_ending later.0) (sym (ap (list_any is_ending) later.2) ∙ calm)).1
order before (Took Settle ∷ es) none h xs taken calm =
    let parts = and_parts (comes_in_time before (Took Settle)) (each_fits comes_in_time (before ++ Took Settle ∷ []) es) h in
    absurd (both_ways (list_any is_done before) none (and_parts (list_any is_done before) (not (list_any takes_settle before)) parts.0).0)
order before (Took Fin ∷ es) none h [] taken calm = absurd (both_ways false refl (sym (ap goes_on (ap (first_of Fin) taken))))
  where
    goes_on : PublisherNote → Bool
    goes_on Settle = false
    goes_on _ = true
order before (Took Fin ∷ es) none h (x ∷ xs) taken calm =
    absurd (both_ways (is_ending x) (or_parts (is_ending x) (list_any is_ending xs) calm).0 (sym (ap is_ending (ap (first_of Fin) taken))))

pub stopped_sent_out : StoppedPublishersSentOut
stopped_sent_out script run shaped edges ending p small lines own stops =
    let es : List BridgeEvent = heard script.shape run.bridge in
    let journal : List PublisherEntry = slice_index_or run.publishers p [] in
    let told = told_end script run shaped edges p (subst (λ (n : ℕ). p < n) (sym (count_publishers script shaped)) small) in
    let settling : is_settling script.shape es ≡ true =
    (and_parts (is_settling script.shape es) (all_below (publishers_of script.shape) (λ r. list_any (settles r) es)) ending).0 in
    let taken : taken_by journal ≡ told.front ++ (Settle ∷ Fin ∷ []) =
    edges.publishers p small ∙ told.whole ∙ ap (λ (b : Bool). told.front ++ tail b (has_ending script.shape es)) settling ∙ ap (λ (b : Bool). told.front ++ tail true b) ending in
    sent_out lines journal told.front (same_own journal ∙ own) (order [] journal refl stops.each told.front taken told.calm) taken told.calm
