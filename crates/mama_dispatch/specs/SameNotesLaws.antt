-- inner: The test of notes decides whether they are the same data, so it is an equivalence.
use Rattle.std.specs.Prelude.{◌≡◌, ℕ, Bool, ◌&&◌, List}
use Rattle.std.specs.Bool.{Decides}
use Rattle.std.specs.Cmp.{IsEquivalence, decided, on_equiv}
use Rattle.std.specs.Cmp.Lexicographic.{pointwise_decides}
use Rattle.std.proofs.Common.{ap}
use Rattle.std.proofs.lemmas.Bool.{and_parts, and_from}
use Rattle.std.proofs.lemmas.Bool.Decides.{Decides-eqb}
use Rattle.mama_msg.specs.Field.{FieldData}
use Rattle.mama_msg.specs.EqualityLaws.{same_message-Decides}
use Rattle.mama_event.specs.declared.ids.SubId.{SubId}
use Rattle.mama_event.specs.declared.ids.ObjectId.{ObjectId}
use Rattle.mama_event.specs.declared.market.ImageHead.{ImageHead}
use Rattle.mama_event.specs.declared.callback.CallNote.{CallNote}
use Rattle.mama_event.specs.declared.to_queue.QueueNote.{QueueNote}
use Rattle.mama_event.specs.EqualityLaws.{same_sub-Decides, same_object-Decides, same_quality-Decides, same_queue_note-Decides, same_call_note-Decides}
use Rattle.mama_dispatch.specs.SameNotes.{NotesData, notes_data, same_taken, same_calls, same_image, same_data, same_notes, NotesCompareExactly}

-- two tests decide two facts
both_decide : {a b : Bool} {P Q : Type 0} → Decides a P → Decides b Q → Decides (a && b) (P × Q)
both_decide {a} {b} d e = (
  λ h. let parts = and_parts a b h in (d.0 parts.0, e.0 parts.1),
  λ p. and_from a b (d.1 p.0) (e.1 p.1),
)

-- a test decides what its fact is the same as
decides_as : {b : Bool} {P Q : Type 0} → Decides b P → (P → Q) → (Q → P) → Decides b Q
decides_as d there back = (λ h. there (d.0 h), λ q. d.1 (back q))

taken_decides : (a b : ℕ × QueueNote) → Decides (same_taken a b) (a ≡ b)
taken_decides a b =
    decides_as (both_decide (Decides-eqb a.0 b.0) (same_queue_note-Decides a.1 b.1)) (λ p. λ i. (p.0 i, p.1 i))
    (λ e. (ap (λ (x : ℕ × QueueNote). x.0) e, ap (λ (x : ℕ × QueueNote). x.1) e))

calls_decide : (a b : ObjectId × List CallNote) → Decides (same_calls a b) (a ≡ b)
calls_decide a b =
    decides_as (both_decide (same_object-Decides a.0 b.0) (pointwise_decides same_call_note-Decides a.1 b.1)) (λ p. λ i. (p.0 i, p.1 i))
    (λ e. (ap (λ (x : ObjectId × List CallNote). x.0) e, ap (λ (x : ObjectId × List CallNote). x.1) e))

image_decides : (a b : SubId × ImageHead × List FieldData) → Decides (same_image a b) (a ≡ b)
image_decides a b =
    decides_as
    (both_decide (both_decide (both_decide (both_decide (same_sub-Decides a.0 b.0) (Decides-eqb a.1.sender b.1.sender)) (Decides-eqb a.1.last b.1.last)) (same_quality-Decides a.1.quality b.1.quality)) (same_message-Decides a.2 b.2))
    (λ p. λ i. (p.0.0.0.0 i, record { sender = p.0.0.0.1 i; last = p.0.0.1 i; quality = p.0.1 i }, p.1 i))
    (λ e. (
      (((ap (λ (x : SubId × ImageHead × List FieldData). x.0) e, ap (λ (x : SubId × ImageHead × List FieldData). x.1.sender) e), ap (λ (x : SubId × ImageHead × List FieldData). x.1.last) e), ap (λ (x : SubId × ImageHead × List FieldData). x.1.quality) e),
      ap (λ (x : SubId × ImageHead × List FieldData). x.2) e,
    ))

pub notes_compare_exactly : NotesCompareExactly
notes_compare_exactly a b =
    decides_as
    (both_decide (both_decide (pointwise_decides taken_decides a.taken b.taken) (pointwise_decides calls_decide a.calls b.calls)) (pointwise_decides image_decides a.images b.images))
    (λ p. λ i. record { taken = p.0.0 i; calls = p.0.1 i; images = p.1 i })
    (λ e. ((ap (λ (x : NotesData). x.taken) e, ap (λ (x : NotesData). x.calls) e), ap (λ (x : NotesData). x.images) e))

pub same_notes_equivalence : IsEquivalence same_notes
same_notes_equivalence = on_equiv notes_data (decided same_data notes_compare_exactly)
