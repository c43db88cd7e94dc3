-- What a publisher puts is genuine: its updates are those of its lines, by their numbers, and its images are its
-- record at their numbers.
use Rattle.std.specs.Prelude.{slice_get, Option, Some, None}
use Rattle.std.specs.List.{AllByRecursion}
use Rattle.std.proofs.Common.{◌≡◌, ℕ, zero, suc, ◌+◌, ◌<◌, ◌≤◌, List, [], ◌∷◌, ◌++◌, length, take, refl, sym, arith}
use Rattle.mama_journal.specs.Journal.{count_of}
use Rattle.mama_msg.specs.Field.{FieldData}
use Rattle.mama_event.specs.Record.{record_after}
use Rattle.mama_event.specs.Genuine.{IsGenuineBody}
use Rattle.mama_event.specs.Publisher.{asked_fields, SendLine, PublisherScript, is_send, updates_of, updates_sent, record_at, answer_of, sent_of, publisher_puts_at, publisher_puts}
use Rattle.mama_event.specs.declared.market.MarketMsg.{MarketMsg}
use Rattle.mama_event.specs.declared.market.MsgKind.{MsgKind}
use Rattle.mama_event.specs.declared.market.MsgKind.TheVariants as kind
use Rattle.mama_event.specs.declared.to_publisher.PublisherNote.{PublisherNote}
use Rattle.mama_event.specs.declared.to_publisher.PublisherNote.TheVariants as note
use Rattle.mama_event.specs.declared.publisher_entry.PublisherEntry.{PublisherEntry}
use Rattle.mama_event.specs.declared.publisher_entry.PublisherEntry.TheVariants as entry
use Rattle.mama_publisher.proofs.Sending.{updates-at, updates_sent-update}
use Rattle.mama_laws_genuine.proofs.Elements.{all_puts_after}
use Rattle.mama_laws_genuine.proofs.Carried.{InBridgeNote, IsImageKind, AsksImage, IsPlainEntry}

-- the first lines have at most as many updates as all, and fewer where an update comes next

updates-within : (lines : List SendLine) (k : ℕ) → length (updates_of (take k lines)) ≤ length (updates_of lines)
updates-within lines zero = omega arith
updates-within [] (suc k) = omega arith
updates-within (SendLine.Update body ∷ lines) (suc k) = let ih = updates-within lines k in omega arith
updates-within (SendLine.Recap ∷ lines) (suc k) = updates-within lines k

updates-fewer : (lines : List SendLine) (k : ℕ) (body : List FieldData) → slice_get lines k ≡ Some (SendLine.Update body)
    → length (updates_of (take k lines)) < length (updates_of lines)
updates-fewer [] k body h = absurd cc
updates-fewer (SendLine.Update b ∷ lines) zero body h = omega arith
updates-fewer (SendLine.Recap ∷ lines) zero body h = absurd cc
updates-fewer (SendLine.Update b ∷ lines) (suc k) body h = let ih = updates-fewer lines k body h in omega arith
updates-fewer (SendLine.Recap ∷ lines) (suc k) body h = updates-fewer lines k body h

-- a message has the publisher's number and 1 more as its sender, and a genuine body
pub record IsOf (publisher : PublisherScript) (m : MarketMsg) : Type 0 where
  pub sender : m.sender ≡ publisher.number + 1
  pub body : IsGenuineBody publisher.base (updates_of publisher.lines) m.kind m.seq m.body

-- a reply has the asked fields of the publisher's record at some number
pub record IsReplyOf (publisher : PublisherScript) (body : List FieldData) : Type 0 where
  pub number : ℕ
  pub within : number ≤ length (updates_of publisher.lines)
  pub fids : List ℕ
  pub fields : body ≡ asked_fields fids (record_after publisher.base (updates_of publisher.lines) number)

module _ (publisher : PublisherScript) (before : List PublisherEntry) where
  image_body : (k : MsgKind) → IsImageKind k → IsGenuineBody publisher.base (updates_of publisher.lines) k (updates_sent publisher before) (record_at publisher before)
  image_body kind.Initial h = (updates-within publisher.lines (count_of is_send before), refl)
  image_body kind.Recap h = (updates-within publisher.lines (count_of is_send before), refl)
  image_body kind.Update h = absurd h

  all_answered : (n : PublisherNote) → AsksImage n
      → AllByRecursion (InBridgeNote (IsOf publisher) (IsReplyOf publisher)) (answer_of publisher.number (record_at publisher before) (updates_sent publisher before) n)
  all_answered (note.Want sub k) h = (record { sender = refl; body = image_body k h }, tt)
  all_answered (note.Ask inbox fids) h =
      (record { number = updates_sent publisher before; within = updates-within publisher.lines (count_of is_send before); fids = fids; fields = refl }, tt)
  all_answered note.Settle h = (tt, tt)
  all_answered note.Fin h = tt

  update_body : (body : List FieldData) → slice_get publisher.lines (count_of is_send before) ≡ Some (SendLine.Update body)
      → IsGenuineBody publisher.base (updates_of publisher.lines) kind.Update (updates_sent publisher (before ++ entry.Send ∷ [])) body
  update_body body next = (
    updates_sent publisher before,
    updates_sent-update publisher before body next,
    updates-fewer publisher.lines (count_of is_send before) body next,
    sym (updates-at publisher.lines (count_of is_send before) body next),
  )

  all_sent : (line : Option SendLine) → slice_get publisher.lines (count_of is_send before) ≡ line
      → AllByRecursion (InBridgeNote (IsOf publisher) (IsReplyOf publisher))
      (sent_of publisher.number (record_at publisher (before ++ entry.Send ∷ [])) (updates_sent publisher (before ++ entry.Send ∷ [])) line)
  all_sent (Some (SendLine.Update body)) next = (record { sender = refl; body = update_body body next }, tt)
  all_sent (Some SendLine.Recap) next =
      (record { sender = refl; body = (updates-within publisher.lines (count_of is_send (before ++ entry.Send ∷ [])), refl) }, tt)
  all_sent None next = tt

  all_publisher_puts : (e : PublisherEntry) → IsPlainEntry e → AllByRecursion (InBridgeNote (IsOf publisher) (IsReplyOf publisher)) (publisher_puts_at publisher before e)
  all_publisher_puts entry.Send h = all_sent (slice_get publisher.lines (count_of is_send before)) refl
  all_publisher_puts entry.Done h = (tt, tt)
  all_publisher_puts (entry.Took n) h = all_answered n h

-- all that a publisher puts by its journal
pub all_publisher_lane : (publisher : PublisherScript) (journal : List PublisherEntry) → AllByRecursion IsPlainEntry journal
    → AllByRecursion (InBridgeNote (IsOf publisher) (IsReplyOf publisher)) (publisher_puts publisher journal)
all_publisher_lane publisher journal all =
    all_puts_after IsPlainEntry (InBridgeNote (IsOf publisher) (IsReplyOf publisher)) (publisher_puts_at publisher) (all_publisher_puts publisher) [] journal all
