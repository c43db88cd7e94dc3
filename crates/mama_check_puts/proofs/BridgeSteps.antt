-- A bridge that takes a journal again, and what it puts, event by event.
use Rattle.std.proofs.Common.{◌≡◌, ℕ, ◌+◌, ◌<◌, take, List, [], ◌∷◌, ◌++◌, length, get_or, ap, sym, ◌∙◌, refl, append_assoc, arith}
use Rattle.std.specs.List.{flat_map}
use Rattle.std.proofs.lemmas.List.{append-nil, length-take-le}
use Rattle.mama_event.specs.declared.shape.Shape.{Shape}
use Rattle.mama_event.specs.declared.to_bridge.BridgeNote.{BridgeNote}
use Rattle.mama_event.specs.declared.to_timers.TimersNote.{TimersNote}
use Rattle.mama_event.specs.declared.to_publisher.PublisherNote.{PublisherNote}
use Rattle.mama_event.specs.declared.to_queue.QueueNote.{QueueNote}
use Rattle.mama_check_order.specs.Numbered.{from_entry}
use Rattle.mama_check_order.proofs.Numbered.{parted_push}
use Rattle.mama_rules_services.specs.Bridge.{BridgePut, bridge_puts_at, to_publisher, to_queue, to_timers}
use Rattle.mama_rules_rounds.specs.Setting.{publisher_part, queue_part, timer_part}
use Rattle.mama_bridge.specs.Routing.{Routing}
use Rattle.mama_check_puts.specs.declared.bridge.BridgePuts.{BridgePuts}
use Rattle.mama_check_puts.specs.Puts.{bridge_put_to_timers, one_for, publishers_in, queues_in}
use Rattle.mama_check_puts.specs.Dealing.{Grow}
use Rattle.mama_check_puts.specs.Bridge.{GrowByOne, GrowByAll}
use Rattle.mama_check_puts.proofs.Lists.{AreDealt, shares, none_yet, dealt_more, all_dealt, entry_append, so_far}

-- ---- one event

still : {V : Type 0} (lists : List (List V)) → Grow lists lists (λ n. [])
still lists = record { count = refl; each = λ n h. sym (append-nil _) }

pub to_publisher_dealt : (old new : BridgePuts) (entry number : ℕ) (note : PublisherNote) → Grow (publishers_in old) (publishers_in new) (λ p. from_entry entry (one_for number note p))
    → new.to_queues ≡ old.to_queues → new.to_timers ≡ old.to_timers → GrowByOne old new entry (to_publisher number note)
to_publisher_dealt old new entry number note grow queues timers = record {
  publishers = grow;
  queues = rw queues (still (queues_in old));
  timers = rw timers (sym (append-nil old.to_timers.items));
}

pub to_queue_dealt : (old new : BridgePuts) (entry number : ℕ) (note : QueueNote) → Grow (queues_in old) (queues_in new) (λ q. from_entry entry (one_for number note q))
    → new.to_publishers ≡ old.to_publishers → new.to_timers ≡ old.to_timers → GrowByOne old new entry (to_queue number note)
to_queue_dealt old new entry number note grow publishers timers = record {
  publishers = rw publishers (still (publishers_in old));
  queues = grow;
  timers = rw timers (sym (append-nil old.to_timers.items));
}

pub to_timers_dealt : (old new : BridgePuts) (entry : ℕ) (note : TimersNote) → new.to_timers.items ≡ old.to_timers.items ++ (entry, note) ∷ []
    → new.to_publishers ≡ old.to_publishers → new.to_queues ≡ old.to_queues → GrowByOne old new entry (to_timers note)
to_timers_dealt old new entry note grow publishers queues = record {
  publishers = rw publishers (still (publishers_in old));
  queues = rw queues (still (queues_in old));
  timers = grow;
}

-- ---- the events of one entry

-- Lists to which some is still to be dealt.
pub record AreAllDealt (old now : BridgePuts) (entry : ℕ) (rest all : List BridgePut) : Type 0 where
  pub publishers : AreDealt (publishers_in old) (publishers_in now) (shares publisher_part entry rest) (shares publisher_part entry all)
  pub queues : AreDealt (queues_in old) (queues_in now) (shares queue_part entry rest) (shares queue_part entry all)
  pub timers : now.to_timers.items ++ from_entry entry (flat_map timer_part rest) ≡ old.to_timers.items ++ from_entry entry (flat_map timer_part all)

pub bridge_none_yet : (puts : BridgePuts) (entry : ℕ) (all : List BridgePut) → AreAllDealt puts puts entry all all
bridge_none_yet puts entry all = record { publishers = none_yet _ _; queues = none_yet _ _; timers = refl }

pub bridge_one_more : (old now new : BridgePuts) (entry : ℕ) (puts rest : List BridgePut) (p : BridgePut) (all : List BridgePut)
    → AreAllDealt old now entry puts all → puts ≡ p ∷ rest → GrowByOne now new entry p → AreAllDealt old new entry rest all
bridge_one_more old now new entry puts rest p all dealt first grow = record {
  publishers = dealt_more publisher_part entry (publishers_in old) (publishers_in now) (publishers_in new) puts rest p _ dealt.publishers first grow.publishers;
  queues = dealt_more queue_part entry (queues_in old) (queues_in now) (queues_in new) puts rest p _ dealt.queues first grow.queues;
  timers =
      ap (λ (xs : List (ℕ × TimersNote)). xs ++ from_entry entry (flat_map timer_part rest)) grow.timers
      ∙ append_assoc now.to_timers.items (from_entry entry (timer_part p)) (from_entry entry (flat_map timer_part rest))
      ∙ ap (λ (xs : List (ℕ × TimersNote)). now.to_timers.items ++ xs) (sym (entry_append entry (timer_part p) (flat_map timer_part rest)))
      ∙ ap (λ (ps : List BridgePut). now.to_timers.items ++ from_entry entry (flat_map timer_part ps)) (sym first)
      ∙ dealt.timers;
}

pub bridge_all_dealt : (old now : BridgePuts) (entry : ℕ) (puts all : List BridgePut) → AreAllDealt old now entry puts all → puts ≡ [] → GrowByAll old now entry all
bridge_all_dealt old now entry puts all dealt none = record {
  publishers = all_dealt publisher_part entry (publishers_in old) (publishers_in now) puts _ dealt.publishers none;
  queues = all_dealt queue_part entry (queues_in old) (queues_in now) puts _ dealt.queues none;
  timers =
      sym (append-nil now.to_timers.items)
      ∙ ap (λ (ps : List BridgePut). now.to_timers.items ++ from_entry entry (flat_map timer_part ps)) (sym none)
      ∙ dealt.timers;
}

-- ---- over a journal

-- it took one entry more
pub bridge_next : (shape : Shape) (journal : List (ℕ × BridgeNote)) (i : ℕ) (e : ℕ × BridgeNote) (old new : Routing) → i < length journal → e ≡ get_or journal i e
    → old ≡ record { shape = shape; journal = take i journal } → new ≡ record { shape = old.shape; journal = old.journal ++ e ∷ [] }
    → new ≡ record { shape = shape; journal = take (i + 1) journal }
bridge_next shape journal i e old new within is was took =
    took ∙ ap (λ (s : Routing). record { shape = s.shape; journal = s.journal ++ e ∷ [] }) was
    ∙ ap (λ (x : ℕ × BridgeNote). record { shape = shape; journal = take i journal ++ x ∷ [] }) is
    ∙ ap (λ (es : List (ℕ × BridgeNote)). record { shape = shape; journal = es }) (sym (so_far journal i e within))

-- and put what its journal puts there
pub bridge_puts_are : (shape : Shape) (journal : List (ℕ × BridgeNote)) (i : ℕ) (e : ℕ × BridgeNote) (old : Routing) (puts : List BridgePut) → e ≡ get_or journal i e
    → old ≡ record { shape = shape; journal = take i journal } → puts ≡ bridge_puts_at old.shape old.journal e → puts ≡ bridge_puts_at shape (take i journal) (get_or journal i e)
bridge_puts_are shape journal i e old puts is was put =
    put ∙ ap (λ (s : Routing). bridge_puts_at s.shape s.journal e) was ∙ ap (λ (x : ℕ × BridgeNote). bridge_puts_at shape (take i journal) x) is

-- what went to the timer service
pub timers_next : (shape : Shape) (journal : List (ℕ × BridgeNote)) (i : ℕ) (d : ℕ × BridgeNote) (old new : List (ℕ × TimersNote)) (puts : List BridgePut) → i < length journal
    → puts ≡ bridge_puts_at shape (take i journal) (get_or journal i d) → old ≡ bridge_put_to_timers shape (take i journal) → new ≡ old ++ from_entry i (flat_map timer_part puts)
    → new ≡ bridge_put_to_timers shape (take (i + 1) journal)
timers_next shape journal i d old new puts within whose so grow =
    let place : i ≡ length (take i journal) = sym (length-take-le i journal (omega arith)) in
    grow ∙ ap (λ (xs : List (ℕ × TimersNote)). xs ++ from_entry i (flat_map timer_part puts)) so
    ∙ ap (λ (m : ℕ). bridge_put_to_timers shape (take i journal) ++ from_entry m (flat_map timer_part puts)) place
    ∙ ap (λ (ps : List BridgePut). bridge_put_to_timers shape (take i journal) ++ from_entry (length (take i journal)) (flat_map timer_part ps)) whose
    ∙ sym (parted_push timer_part (bridge_puts_at shape) (take i journal) (get_or journal i d))
    ∙ ap (λ (es : List (ℕ × BridgeNote)). bridge_put_to_timers shape es) (sym (so_far journal i d within))
