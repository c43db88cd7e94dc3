-- inner: The tests of records decide whether both sides are one, so they are equivalences.
use Rattle.std.specs.Prelude.{◌≡◌, ℕ, Bool, ◌&&◌, List, refl}
use Rattle.std.specs.Bool.{Decides}
use Rattle.std.specs.Cmp.{IsEquivalence, decided}
use Rattle.std.specs.Cmp.Lexicographic.{pointwise_decides}
use Rattle.std.proofs.Common.{ap, sym, true≢false}
use Rattle.std.proofs.lemmas.Bool.{and_parts, and_from}
use Rattle.std.proofs.lemmas.Bool.Decides.{Decides-eqb}
use Rattle.std.proofs.lemmas.Slice.Eq.{bytes_eq-Decides}
use Rattle.mama_msg.specs.EqualityLaws.{same_message-Decides}
use Rattle.mama_event.specs.Equality.{same_queue_note, same_bridge_note}
use Rattle.mama_event.specs.EqualityLaws.{same_sub-Decides, same_timer-Decides, same_object-Decides, same_quality-Decides, same_call_note-Decides, same_publisher_entry-Decides, same_queue_note-Decides, same_bridge_note-Decides, same_group_note-Decides, same_watch_note-Decides}
use Rattle.mama_event.specs.declared.market.ImageHead.{ImageHead}
use Rattle.mama_event.specs.declared.publisher_entry.PublisherEntry.{PublisherEntry}
use Rattle.mama_event.specs.declared.to_bridge.BridgeNote.{BridgeNote}
use Rattle.mama_event.specs.declared.to_queue.QueueNote.{QueueNote}
use Rattle.mama_event.specs.declared.to_timers.TimersNote.{TimersNote}
use Rattle.mama_event.specs.declared.to_timers.TimersNote.TheVariants as timed
use Rattle.mama_record.specs.RunData.{RunData, ObjectCalls, LastImage, GroupNotes, WatchNotes}
use Rattle.mama_record.specs.Equality.{same_timers_note, same_entry, same_bridge_journal, same_timers_journal, same_queue_journal, same_publisher_journal, same_head, same_image, same_calls, same_run, same_group, same_watch}

-- two tests decide two facts
and-Decides : {a b : Bool} {P Q : Type 0} → Decides a P → Decides b Q → Decides (a && b) (P × Q)
and-Decides {a} {b} d e = (
  λ h. let parts = and_parts a b h in (d.0 parts.0, e.0 parts.1),
  λ p. and_from a b (d.1 p.0) (e.1 p.1),
)

-- a test decides what its fact is the same as
via : {b : Bool} {P Q : Type 0} → Decides b P → (P → Q) → (Q → P) → Decides b Q
via d there back = (λ h. there (d.0 h), λ q. d.1 (back q))

pub same_timers_note-Decides : (a b : TimersNote) → Decides (same_timers_note a b) (a ≡ b)
same_timers_note-Decides (timed.Arm timer queue interval tag) (timed.Arm timer' queue' interval' tag') =
    via (and-Decides (and-Decides (and-Decides (same_timer-Decides timer timer') (Decides-eqb queue queue')) (Decides-eqb interval interval')) (same_object-Decides tag tag'))
    (λ p. λ i. timed.Arm (p.0.0.0 i) (p.0.0.1 i) (p.0.1 i) (p.1 i)) (λ e. ((((cc), (cc)), (cc)), (cc)))
same_timers_note-Decides (timed.Disarm timer) (timed.Disarm timer') = via (same_timer-Decides timer timer') (λ p. λ i. timed.Disarm (p i)) (λ e. (cc))
same_timers_note-Decides (timed.Now moment) (timed.Now moment') = via (Decides-eqb moment moment') (λ p. λ i. timed.Now (p i)) (λ e. (cc))
same_timers_note-Decides timed.ClientDone timed.ClientDone = (λ h. refl, λ e. refl)
same_timers_note-Decides timed.Bye timed.Bye = (λ h. refl, λ e. refl)
same_timers_note-Decides timed.Fin timed.Fin = (λ h. refl, λ e. refl)
same_timers_note-Decides _ _ = (λ h. absurd (true≢false (sym h)), λ e. cc)

entries-Decide : {N : Type 0} (same : N → N → Bool) → ((x y : N) → Decides (same x y) (x ≡ y)) → (a b : ℕ × N) → Decides (same_entry same a b) (a ≡ b)
entries-Decide {N} same d a b =
    via (and-Decides (Decides-eqb a.0 b.0) (d a.1 b.1)) (λ p. λ i. (p.0 i, p.1 i)) (λ e. (ap (λ (x : ℕ × N). x.0) e, ap (λ (x : ℕ × N). x.1) e))

pub same_bridge_journal-Decides : (a b : List (ℕ × BridgeNote)) → Decides (same_bridge_journal a b) (a ≡ b)
same_bridge_journal-Decides a b = pointwise_decides (entries-Decide same_bridge_note same_bridge_note-Decides) a b

pub same_timers_journal-Decides : (a b : List (ℕ × TimersNote)) → Decides (same_timers_journal a b) (a ≡ b)
same_timers_journal-Decides a b = pointwise_decides (entries-Decide same_timers_note same_timers_note-Decides) a b

pub same_queue_journal-Decides : (a b : List (ℕ × QueueNote)) → Decides (same_queue_journal a b) (a ≡ b)
same_queue_journal-Decides a b = pointwise_decides (entries-Decide same_queue_note same_queue_note-Decides) a b

pub same_publisher_journal-Decides : (a b : List PublisherEntry) → Decides (same_publisher_journal a b) (a ≡ b)
same_publisher_journal-Decides a b = pointwise_decides same_publisher_entry-Decides a b

pub same_head-Decides : (a b : ImageHead) → Decides (same_head a b) (a ≡ b)
same_head-Decides a b =
    via (and-Decides (and-Decides (Decides-eqb a.sender b.sender) (Decides-eqb a.last b.last)) (same_quality-Decides a.quality b.quality))
    (λ p. λ i. record { sender = p.0.0 i; last = p.0.1 i; quality = p.1 i })
    (λ e. ((ap (λ (x : ImageHead). x.sender) e, ap (λ (x : ImageHead). x.last) e), ap (λ (x : ImageHead). x.quality) e))

pub same_image-Decides : (a b : LastImage) → Decides (same_image a b) (a ≡ b)
same_image-Decides a b =
    via (and-Decides (and-Decides (same_sub-Decides a.sub b.sub) (same_head-Decides a.head b.head)) (same_message-Decides a.body b.body))
    (λ p. λ i. record { sub = p.0.0 i; head = p.0.1 i; body = p.1 i })
    (λ e. ((ap (λ (x : LastImage). x.sub) e, ap (λ (x : LastImage). x.head) e), ap (λ (x : LastImage). x.body) e))

pub same_calls-Decides : (a b : ObjectCalls) → Decides (same_calls a b) (a ≡ b)
same_calls-Decides a b =
    via (and-Decides (same_object-Decides a.object b.object) (pointwise_decides same_call_note-Decides a.calls b.calls))
    (λ p. λ i. record { object = p.0 i; calls = p.1 i })
    (λ e. (ap (λ (x : ObjectCalls). x.object) e, ap (λ (x : ObjectCalls). x.calls) e))

pub same_group-Decides : (a b : GroupNotes) → Decides (same_group a b) (a ≡ b)
same_group-Decides a b =
    via (and-Decides (Decides-eqb a.group b.group) (pointwise_decides same_group_note-Decides a.notes b.notes))
    (λ p. λ i. record { group = p.0 i; notes = p.1 i })
    (λ e. (ap (λ (x : GroupNotes). x.group) e, ap (λ (x : GroupNotes). x.notes) e))

pub same_watch-Decides : (a b : WatchNotes) → Decides (same_watch a b) (a ≡ b)
same_watch-Decides a b =
    via (and-Decides (Decides-eqb a.watch b.watch) (pointwise_decides same_watch_note-Decides a.notes b.notes))
    (λ p. λ i. record { watch = p.0 i; notes = p.1 i })
    (λ e. (ap (λ (x : WatchNotes). x.watch) e, ap (λ (x : WatchNotes). x.notes) e))

pub same_run-Decides : (a b : RunData) → Decides (same_run a b) (a ≡ b)
same_run-Decides a b =
    via
    (and-Decides (and-Decides (and-Decides (and-Decides (and-Decides (and-Decides (and-Decides (and-Decides
    (pointwise_decides bytes_eq-Decides a.clients b.clients)
    (pointwise_decides same_publisher_journal-Decides a.publishers b.publishers))
    (same_bridge_journal-Decides a.bridge b.bridge))
    (same_timers_journal-Decides a.timers b.timers))
    (pointwise_decides same_queue_journal-Decides a.queues b.queues))
    (pointwise_decides same_calls-Decides a.calls b.calls))
    (pointwise_decides same_image-Decides a.images b.images))
    (pointwise_decides same_group-Decides a.groups b.groups))
    (pointwise_decides same_watch-Decides a.watches b.watches))
    (λ p. λ i. record { clients = p.0.0.0.0.0.0.0.0 i; publishers = p.0.0.0.0.0.0.0.1 i; bridge = p.0.0.0.0.0.0.1 i; timers = p.0.0.0.0.0.1 i; queues = p.0.0.0.0.1 i; calls = p.0.0.0.1 i; images = p.0.0.1 i; groups = p.0.1 i; watches = p.1 i })
    (λ e. ((((((((ap (λ (x : RunData). x.clients) e, ap (λ (x : RunData). x.publishers) e), ap (λ (x : RunData). x.bridge) e), ap (λ (x : RunData). x.timers) e), ap (λ (x : RunData). x.queues) e), ap (λ (x : RunData). x.calls) e), ap (λ (x : RunData). x.images) e), ap (λ (x : RunData). x.groups) e), ap (λ (x : RunData). x.watches) e))

-- so they are equivalences
pub same_run_equivalence : IsEquivalence same_run
same_run_equivalence = decided same_run same_run-Decides
