-- What one entry more changes of the sends of a journal, and of the record that it says.
use Rattle.std.specs.Prelude.{map, slice_get, slice_index_or, Option, Some}
use Rattle.std.proofs.Common.{◌≡◌, ℕ, zero, suc, ◌+◌, false, List, [], ◌∷◌, ◌++◌, length, take, refl, ap, sym, ◌∙◌, append-nil, add-one}
use Rattle.std.proofs.lemmas.List.{map-append}
use Rattle.mama_journal.specs.Journal.{count_of}
use Rattle.mama_msg.specs.Field.{FieldData}
use Rattle.mama_msg.specs.Message.{apply}
use Rattle.mama_event.specs.Record.{record_after}
use Rattle.mama_event.specs.Publisher.{SendLine, PublisherScript, is_send, updates_of, updates_sent, record_at, message_of, answer_of, sent_of}
use Rattle.mama_event.specs.ToBridge.{note_of as bridge_note_of}
use Rattle.mama_event.specs.ToPublisher.{note_of}
use Rattle.mama_event.specs.declared.ids.ObjectId.{ObjectId}
use Rattle.mama_event.specs.declared.market.MsgKind.TheVariants as kind
use Rattle.mama_event.specs.declared.to_publisher.PublisherNote.{PublisherNote}
use Rattle.mama_event.specs.declared.to_bridge.ToBridge.{ToBridge}
use Rattle.mama_event.specs.declared.to_bridge.BridgeNote.{BridgeNote}
use Rattle.mama_event.specs.declared.to_bridge.BridgeNote.TheVariants as put
use Rattle.mama_publisher.specs.Standing.{Standing, Answered}
use Rattle.mama_publisher.specs.Laws.{StandsAt, SendingUpdates, SendingRecaps, TakingEvents, TellingTheEnd}
use Rattle.mama_event.specs.declared.publisher_entry.PublisherEntry.{PublisherEntry}
use Rattle.mama_event.specs.declared.publisher_entry.PublisherEntry.TheVariants as entry

-- a send is counted
pub count_of-send : (es : List PublisherEntry) → count_of is_send (es ++ entry.Send ∷ []) ≡ suc (count_of is_send es)
count_of-send [] = refl
count_of-send (entry.Send ∷ es) = ap suc (count_of-send es)
count_of-send (entry.Done ∷ es) = count_of-send es
count_of-send (entry.Took n ∷ es) = count_of-send es

-- nothing else is
pub count_of-other : (es : List PublisherEntry) (e : PublisherEntry) → is_send e ≡ false → count_of is_send (es ++ e ∷ []) ≡ count_of is_send es
count_of-other [] entry.Send h = cc
count_of-other [] entry.Done h = refl
count_of-other [] (entry.Took n) h = refl
count_of-other (entry.Send ∷ es) e h = ap suc (count_of-other es e h)
count_of-other (entry.Done ∷ es) e h = count_of-other es e h
count_of-other (entry.Took n ∷ es) e h = count_of-other es e h

-- where the next line is an update, one update more was sent
pub updates-next : (lines : List SendLine) (k : ℕ) (body : List FieldData) → slice_get lines k ≡ Some (SendLine.Update body)
    → length (updates_of (take (suc k) lines)) ≡ suc (length (updates_of (take k lines)))
updates-next [] k body h = cc
updates-next (SendLine.Update b ∷ lines) zero body h = refl
updates-next (SendLine.Recap ∷ lines) zero body h = cc
updates-next (SendLine.Update b ∷ lines) (suc k) body h = ap suc (updates-next lines k body h)
updates-next (SendLine.Recap ∷ lines) (suc k) body h = updates-next lines k body h

-- and it is the update of that number
pub updates-at : (lines : List SendLine) (k : ℕ) (body : List FieldData) → slice_get lines k ≡ Some (SendLine.Update body)
    → slice_index_or (updates_of lines) (length (updates_of (take k lines))) [] ≡ body
updates-at [] k body h = cc
updates-at (SendLine.Update b ∷ lines) zero body h = cc
updates-at (SendLine.Recap ∷ lines) zero body h = cc
updates-at (SendLine.Update b ∷ lines) (suc k) body h = updates-at lines k body h
updates-at (SendLine.Recap ∷ lines) (suc k) body h = updates-at lines k body h

-- where the next line is a recap, no update was sent
pub updates-recap : (lines : List SendLine) (k : ℕ) → slice_get lines k ≡ Some SendLine.Recap
    → updates_of (take (suc k) lines) ≡ updates_of (take k lines)
updates-recap [] k h = cc
updates-recap (SendLine.Update b ∷ lines) zero h = cc
updates-recap (SendLine.Recap ∷ lines) zero h = refl
updates-recap (SendLine.Update b ∷ lines) (suc k) h = ap (λ (us : List (List FieldData)). b ∷ us) (updates-recap lines k h)
updates-recap (SendLine.Recap ∷ lines) (suc k) h = updates-recap lines k h

-- the count of updates after an update was sent
pub updates_sent-update : (script : PublisherScript) (journal : List PublisherEntry) (body : List FieldData)
    → slice_get script.lines (count_of is_send journal) ≡ Some (SendLine.Update body)
    → updates_sent script (journal ++ entry.Send ∷ []) ≡ suc (updates_sent script journal)
updates_sent-update script journal body next =
    ap (λ (k : ℕ). length (updates_of (take k script.lines))) (count_of-send journal)
    ∙ updates-next script.lines (count_of is_send journal) body next

-- the record after an update was sent
pub record_at-update : (script : PublisherScript) (journal : List PublisherEntry) (body : List FieldData)
    → slice_get script.lines (count_of is_send journal) ≡ Some (SendLine.Update body)
    → record_at script (journal ++ entry.Send ∷ []) ≡ apply (record_at script journal) body
record_at-update script journal body next =
    ap (λ (n : ℕ). record_after script.base (updates_of script.lines) n) (updates_sent-update script journal body next)
    ∙ ap (λ (u : List FieldData). apply (record_at script journal) u) (updates-at script.lines (count_of is_send journal) body next)

-- after a recap, as many updates were sent as before
pub updates_sent-recap : (script : PublisherScript) (journal : List PublisherEntry)
    → slice_get script.lines (count_of is_send journal) ≡ Some SendLine.Recap
    → updates_sent script (journal ++ entry.Send ∷ []) ≡ updates_sent script journal
updates_sent-recap script journal next =
    ap (λ (k : ℕ). length (updates_of (take k script.lines))) (count_of-send journal)
    ∙ ap (λ (us : List (List FieldData)). length us) (updates-recap script.lines (count_of is_send journal) next)

-- after an entry that is no send, as many updates were sent as before
pub updates_sent-other : (script : PublisherScript) (journal : List PublisherEntry) (e : PublisherEntry) → is_send e ≡ false
    → updates_sent script (journal ++ e ∷ []) ≡ updates_sent script journal
updates_sent-other script journal e other =
    ap (λ (k : ℕ). length (updates_of (take k script.lines))) (count_of-other journal e other)

-- the record goes by the count of updates
pub record_at-same : (script : PublisherScript) (before after : List PublisherEntry) → updates_sent script after ≡ updates_sent script before
    → record_at script after ≡ record_at script before
record_at-same script before after same = ap (λ (n : ℕ). record_after script.base (updates_of script.lines) n) same

-- sending the next line, an update
pub sends_update : SendingUpdates
sends_update script journal p body at next =
    let after : List PublisherEntry = journal ++ entry.Send ∷ [] in
    let seq : p.seq + 1 ≡ updates_sent script after =
    ap (λ (n : ℕ). n + 1) at.seq ∙ add-one (updates_sent script journal) ∙ sym (updates_sent-update script journal body next) in
    record {
      puts =
          ap (λ (line : Option SendLine). sent_of script.number (record_at script after) (updates_sent script after) line) next
          ∙ ap (λ (n : ℕ). put.Publish (message_of n kind.Update (updates_sent script after) body) ∷ []) (sym at.number)
          ∙ ap (λ (k : ℕ). put.Publish (message_of p.number kind.Update k body) ∷ []) (sym seq);
      stands = record {
        number = at.number;
        held = ap (λ (r : List FieldData). apply r body) at.held ∙ sym (record_at-update script journal body next);
        seq = seq;
      };
    }

-- sending the next line, a recap
pub sends_recap : SendingRecaps
sends_recap script journal p at next =
    let after : List PublisherEntry = journal ++ entry.Send ∷ [] in
    let same : updates_sent script after ≡ updates_sent script journal = updates_sent-recap script journal next in
    let seq : p.seq ≡ updates_sent script after = at.seq ∙ sym same in
    let held : p.held ≡ record_at script after = at.held ∙ sym (record_at-same script journal after same) in
    record {
      puts =
          ap (λ (line : Option SendLine). sent_of script.number (record_at script after) (updates_sent script after) line) next
          ∙ ap (λ (n : ℕ). put.Publish (message_of n kind.Recap (updates_sent script after) (record_at script after)) ∷ []) (sym at.number)
          ∙ ap (λ (k : ℕ). put.Publish (message_of p.number kind.Recap k (record_at script after)) ∷ []) (sym seq)
          ∙ ap (λ (r : List FieldData). put.Publish (message_of p.number kind.Recap p.seq r) ∷ []) (sym held);
      stands = record { number = at.number; held = held; seq = seq };
    }

-- an entry that is no send leaves a publisher where it stands
pub stands_still : (script : PublisherScript) (journal : List PublisherEntry) (p : Standing) (e : PublisherEntry) → is_send e ≡ false
    → StandsAt script journal p → StandsAt script (journal ++ e ∷ []) p
stands_still script journal p e other at =
    let same : updates_sent script (journal ++ e ∷ []) ≡ updates_sent script journal = updates_sent-other script journal e other in
    record {
      number = at.number;
      held = at.held ∙ sym (record_at-same script journal (journal ++ e ∷ []) same);
      seq = at.seq ∙ sym same;
    }

-- taking an event
pub takes : TakingEvents
takes script journal p event at = record {
  puts =
      ap (λ (n : ℕ). answer_of n (record_at script journal) (updates_sent script journal) (note_of event)) (sym at.number)
      ∙ ap (λ (r : List FieldData). answer_of p.number r (updates_sent script journal) (note_of event)) (sym at.held)
      ∙ ap (λ (k : ℕ). answer_of p.number p.held k (note_of event)) (sym at.seq);
  stands = stands_still script journal p (entry.Took (note_of event)) refl at;
}

-- telling that all lines were sent
pub tells_end : TellingTheEnd
tells_end script journal p at = record { puts = refl; stands = stands_still script journal p entry.Done refl at }

-- one event, whose note is the answer
pub answered_by : {L : Type 0} (tagged : L → ObjectId) (p : Standing) (note : PublisherNote) (old new : List (ToBridge L)) (event : ToBridge L)
    → new ≡ old ++ event ∷ [] → bridge_note_of tagged event ∷ [] ≡ answer_of p.number p.held p.seq note → Answered tagged p note old new
answered_by tagged p note old new event put notes = record { more = event ∷ []; put = put; notes = notes }

-- no event, where there is no answer
pub answered_none : {L : Type 0} (tagged : L → ObjectId) (p : Standing) (note : PublisherNote) (old : List (ToBridge L))
    → [] ≡ answer_of p.number p.held p.seq note → Answered tagged p note old old
answered_none tagged p note old notes = record { more = []; put = sym (append-nil old); notes = notes }

-- what answers an event, by its notes
pub answered_notes : {L : Type 0} (tagged : L → ObjectId) (p : Standing) (note : PublisherNote) (old new : List (ToBridge L)) → Answered tagged p note old new
    → map (bridge_note_of tagged) new ≡ map (bridge_note_of tagged) old ++ answer_of p.number p.held p.seq note
answered_notes tagged p note old new answered =
    ap (map (bridge_note_of tagged)) answered.put ∙ map-append (bridge_note_of tagged) old answered.more
    ∙ ap (λ (ns : List BridgeNote). map (bridge_note_of tagged) old ++ ns) answered.notes
