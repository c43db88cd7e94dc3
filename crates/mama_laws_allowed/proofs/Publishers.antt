-- What a publisher puts: calm events, and Settled once at the end.
use Rattle.std.specs.Prelude.{not, slice_get, Option, Some, None}
use Rattle.std.specs.List.{list_any, list_all}
use Rattle.std.proofs.Common.{◌≡◌, ℕ, Bool, true, false, ◌||◌, List, [], ◌∷◌, ◌++◌, refl, sym, ◌∙◌, ap}
use Rattle.std.proofs.lemmas.Bool.{and_parts, not-true, or_right}
use Rattle.std.proofs.lemmas.List.Folds.{list_any-append}
use Rattle.mama_journal.specs.Journal.{puts_after, count_of}
use Rattle.mama_msg.specs.Field.{FieldData}
use Rattle.mama_event.specs.Lawful.{each_fits}
use Rattle.mama_event.specs.Publisher.{SendLine, Update, Recap, PublisherScript, is_send, updates_sent, record_at, sent_of, publisher_puts_at}
use Rattle.mama_event.specs.ToBridge as bridge
use Rattle.mama_event.specs.declared.shape.Bounds.{Bounds}
use Rattle.mama_event.specs.declared.to_bridge.BridgeNote.{BridgeNote}
use Rattle.mama_event.specs.declared.to_bridge.BridgeNote.TheVariants as b
use Rattle.mama_event.specs.declared.to_publisher.PublisherNote.TheVariants.{Want, Ask, Settle, Fin}
use Rattle.mama_event.specs.declared.publisher_entry.PublisherEntry.{PublisherEntry}
use Rattle.mama_event.specs.declared.publisher_entry.PublisherEntry.TheVariants.{Send, Done, Took}
use Rattle.mama_rules_legal.specs.Lines.{is_done, takes_settle}
use Rattle.mama_laws_allowed.specs.Allowed.{comes_in_time, PublisherPutsAreLawful}
use Rattle.mama_laws_allowed.proofs.Following.{ruled, is_calm, comes, calm_first}

or_false : (b : Bool) → (b || false) ≡ b
or_false true = refl
or_false false = refl

sent_calm : (bounds : Bounds) (number : ℕ) (held : List FieldData) (seq : ℕ) (o : Option SendLine) → list_all (is_calm bridge.is_last (bridge.is_within bounds)) (sent_of number held seq o) ≡ true
sent_calm bounds number held seq (Some (Update body)) = refl
sent_calm bounds number held seq (Some Recap) = refl
sent_calm bounds number held seq None = refl

module _ (script : PublisherScript) (bounds : Bounds) where
  abbrev put_after : List PublisherEntry → List PublisherEntry → List BridgeNote
  put_after before es = puts_after (publisher_puts_at script) before es

  abbrev follows : List BridgeNote → List BridgeNote → Bool
  follows = ruled bridge.is_last (bridge.is_within bounds)

  -- an entry that takes no Settle, while none was taken
  unsettled : (before : List PublisherEntry) (e : PublisherEntry) → takes_settle e ≡ false → list_any takes_settle (before ++ e ∷ []) ≡ list_any takes_settle before
  unsettled before e calm = list_any-append takes_settle before (e ∷ []) ∙ ap (λ (b : Bool). list_any takes_settle before || (b || false)) calm ∙ or_false (list_any takes_settle before)

  calmly : (before : List PublisherEntry) (e : PublisherEntry) (es : List PublisherEntry) (sofar : List BridgeNote) → takes_settle e ≡ false
      → list_all (is_calm bridge.is_last (bridge.is_within bounds)) (publisher_puts_at script before e) ≡ true
      → not (list_any takes_settle before) ≡ true → list_any bridge.is_last sofar ≡ list_any takes_settle before
      → ((front : List BridgeNote) → list_any bridge.is_last front ≡ list_any takes_settle (before ++ e ∷ []) → follows front (put_after (before ++ e ∷ []) es) ≡ true)
      → follows sofar (put_after before (e ∷ es)) ≡ true
  calmly before e es sofar takes calm quiet said more =
      let none : list_any takes_settle before ≡ false = not-true (list_any takes_settle before) quiet in
      calm_first bridge.is_last (bridge.is_within bounds) sofar (publisher_puts_at script before e) (put_after (before ++ e ∷ []) es) (said ∙ none) calm
      (λ front none_yet. more front (none_yet ∙ sym (unsettled before e takes ∙ none)))

  all_follow : (before es : List PublisherEntry) → each_fits comes_in_time before es ≡ true
      → (sofar : List BridgeNote) → list_any bridge.is_last sofar ≡ list_any takes_settle before → follows sofar (put_after before es) ≡ true
  all_follow before [] h sofar said = refl
  all_follow before (Send ∷ es) h sofar said =
      let parts = and_parts (comes_in_time before Send) (each_fits comes_in_time (before ++ Send ∷ []) es) h in
      calmly before Send es sofar refl
      (sent_calm bounds script.number (record_at script (before ++ Send ∷ [])) (updates_sent script (before ++ Send ∷ [])) (slice_get script.lines (count_of is_send before)))
      parts.0 said (all_follow (before ++ Send ∷ []) es parts.1)
  all_follow before (Done ∷ es) h sofar said =
      let parts = and_parts (comes_in_time before Done) (each_fits comes_in_time (before ++ Done ∷ []) es) h in
      calmly before Done es sofar refl refl parts.0 said (all_follow (before ++ Done ∷ []) es parts.1)
  all_follow before (Took (Want sub kind) ∷ es) h sofar said =
      let parts = and_parts (comes_in_time before (Took (Want sub kind))) (each_fits comes_in_time (before ++ Took (Want sub kind) ∷ []) es) h in
      calmly before (Took (Want sub kind)) es sofar refl refl parts.0 said (all_follow (before ++ Took (Want sub kind) ∷ []) es parts.1)
  all_follow before (Took (Ask inbox fids) ∷ es) h sofar said =
      let parts = and_parts (comes_in_time before (Took (Ask inbox fids))) (each_fits comes_in_time (before ++ Took (Ask inbox fids) ∷ []) es) h in
      calmly before (Took (Ask inbox fids)) es sofar refl refl parts.0 said (all_follow (before ++ Took (Ask inbox fids) ∷ []) es parts.1)
  all_follow before (Took Settle ∷ es) h sofar said =
      let parts = and_parts (comes_in_time before (Took Settle)) (each_fits comes_in_time (before ++ Took Settle ∷ []) es) h in
      let quiet = and_parts (list_any is_done before) (not (list_any takes_settle before)) parts.0 in
      comes bridge.is_last (bridge.is_within bounds) sofar b.Settled (put_after (before ++ Took Settle ∷ []) es)
      (said ∙ not-true (list_any takes_settle before) quiet.1) refl
      (all_follow (before ++ Took Settle ∷ []) es parts.1 (sofar ++ b.Settled ∷ [])
      (list_any-append bridge.is_last sofar (b.Settled ∷ []) ∙ or_right (list_any bridge.is_last sofar) true refl
      ∙ sym (list_any-append takes_settle before (Took Settle ∷ []) ∙ or_right (list_any takes_settle before) true refl)))
  all_follow before (Took Fin ∷ es) h sofar said =
      let parts = and_parts (comes_in_time before (Took Fin)) (each_fits comes_in_time (before ++ Took Fin ∷ []) es) h in
      all_follow (before ++ Took Fin ∷ []) es parts.1 sofar (said ∙ sym (unsettled before (Took Fin) refl))

pub publishers_lawful : PublisherPutsAreLawful
publishers_lawful script bounds journal stops = record { each = all_follow script bounds [] journal stops.each [] refl }
