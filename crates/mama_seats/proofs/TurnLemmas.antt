-- A turn of a queue's seat, by what its calls promise.
use Rattle.std.specs.Prelude.{◌≡◌, ℕ, List, [], ◌∷◌, ◌++◌, map, Option}
use Rattle.std.proofs.Common.{ap, sym, subst, ◌∙◌}
use Rattle.mama_event.specs.declared.ids.ObjectId.{ObjectId}
use Rattle.mama_event.specs.declared.ids.SubId.{SubId}
use Rattle.mama_event.specs.declared.ids.TimerId.{TimerId}
use Rattle.mama_event.specs.declared.order.Order.{Order}
use Rattle.mama_event.specs.declared.to_queue.QueueNote.{QueueNote}
use Rattle.mama_event.specs.declared.watch.WatchRow.{WatchRow}
use Rattle.mama_event.specs.Listener.{ListenerData}
use Rattle.mama_rules_queue.specs.Queue.{QueuePut, deeds}
use Rattle.mama_rules_queue.specs.Watch.{wishes_at}
use Rattle.mama_rules_rounds.specs.Client.{Planned}
use Rattle.mama_dispatch.specs.declared.turn.Turn.{Turn}
use Rattle.mama_dispatch.specs.Answering.{AnswersTo}
use Rattle.mama_dispatch.specs.Seats.{SeatData}
use Rattle.mama_group.specs.Table.{GroupData}
use Rattle.mama_timeout.specs.Table.{WatchData}
use Rattle.mama_timeout.specs.Turns.{AreWatched, TurnsAreWatched, tick_in, watches_after, wishes_after, missed_by}
use Rattle.mama_plans.specs.Orders.{orders_in}
use Rattle.mama_seats.specs.Behind.{untold_of}
use Rattle.mama_seats.specs.Heard.{AreKept, heard_of, watch_in}
use Rattle.mama_seats.proofs.KeptLemmas.{HearsMember, HearsNoOther, kept_turn, rows_watched, watches_turned, wishes_turned}

-- What is before a turn: the objects as they are lent and as they are kept, the seats, the journal, what was untold, the
-- groups, and the watches as they were and with room for a note.
pub record Before : Type 0 where
  pub lent : List Planned
  pub kept : List Planned
  pub seats : List SeatData
  pub journal : List (ℕ × QueueNote)
  pub untold : Option (SubId × ℕ)
  pub groups : List GroupData
  pub watches : List WatchData
  pub ready : List WatchData

-- what is known of it
pub record IsBefore (b : Before) : Type 0 where
  pub same : b.lent ≡ b.kept
  pub are_kept : AreKept (orders_in b.kept) b.journal b.untold b.groups b.watches
  pub told : heard_of b.untold b.journal ≡ b.journal
  pub prepared : b.ready ≡ b.watches

-- What is behind it: its entry, its answer, and the journal, what is untold, the watches, and what they wish for then.
pub record After (L : Type 0) : Type 0 where
  pub entry : ℕ × QueueNote
  pub answer : Turn L
  pub journal : List (ℕ × QueueNote)
  pub untold : Option (SubId × ℕ)
  pub tick : Option (TimerId × ℕ)
  pub watches : List WatchData
  pub wishes : List QueuePut

pub record IsAfter {L : Type 0} (view : L → ListenerData) (b : Before) (a : After L) : Type 0 where
  pub answers : AnswersTo view (orders_in b.lent) b.seats b.journal (deeds (orders_in b.lent) b.journal) a.entry.1 a.answer
  pub journal : a.journal ≡ b.journal ++ a.entry ∷ []
  pub untold : a.untold ≡ untold_of a.entry.1 a.answer
  pub tick : a.tick ≡ tick_in a.entry.1
  pub watches : a.watches ≡ watches_after a.tick a.answer (missed_by (orders_in b.lent) a.journal) b.ready
  pub wishes : a.wishes ≡ wishes_after a.tick a.answer (missed_by (orders_in b.lent) a.journal) b.ready

-- what follows: all is kept, each watch is the one that it was, and the wishes are those of the rules
pub record IsTurned {L : Type 0} (b : Before) (a : After L) : Type 0 where
  pub kept : AreKept (orders_in b.kept) a.journal a.untold b.groups a.watches
  pub rows : map watch_in a.watches ≡ map watch_in b.watches
  pub wishes : a.wishes ≡ wishes_at (orders_in b.kept) (map (λ (w : ℕ × WatchRow). w.1) (map watch_in b.watches)) b.journal a.entry

pub turned : {L : Type 0} (view : L → ListenerData) (b : Before) (a : After L) → ((orders : ObjectId → ℕ → List Order) → HearsMember orders) → ((orders : ObjectId → ℕ → List Order) → HearsNoOther orders) → TurnsAreWatched L
    → IsBefore b → IsAfter view b a → IsTurned b a
turned {L} view b a hears no_other law old new =
    let orders : ObjectId → ℕ → List Order = orders_in b.lent in
    let now : List (ℕ × QueueNote) = b.journal ++ a.entry ∷ [] in
    let kept : AreKept orders b.journal b.untold b.groups b.watches =
    subst (λ (o : List Planned). AreKept (orders_in o) b.journal b.untold b.groups b.watches) (sym old.same) old.are_kept in
    let watched : AreWatched orders (map watch_in b.watches) b.journal a.entry a.answer = law view orders b.seats (map watch_in b.watches) b.journal a.entry a.answer new.answers in
    let behind : a.watches ≡ watches_after (tick_in a.entry.1) a.answer (missed_by orders now) b.watches =
    new.watches
    ∙ ap (watches_after a.tick a.answer (missed_by orders a.journal)) old.prepared
    ∙ ap (λ (t : Option (TimerId × ℕ)). watches_after t a.answer (missed_by orders a.journal) b.watches) new.tick
    ∙ ap (λ (j : List (ℕ × QueueNote)). watches_after (tick_in a.entry.1) a.answer (missed_by orders j) b.watches) new.journal in
    let wished : a.wishes ≡ wishes_after (tick_in a.entry.1) a.answer (missed_by orders now) b.watches =
    new.wishes
    ∙ ap (wishes_after a.tick a.answer (missed_by orders a.journal)) old.prepared
    ∙ ap (λ (t : Option (TimerId × ℕ)). wishes_after t a.answer (missed_by orders a.journal) b.watches) new.tick
    ∙ ap (λ (j : List (ℕ × QueueNote)). wishes_after (tick_in a.entry.1) a.answer (missed_by orders j) b.watches) new.journal in
    let all : AreKept orders now (untold_of a.entry.1 a.answer) b.groups a.watches =
    kept_turn view orders b.seats b.journal a.entry a.answer b.untold b.groups b.watches a.watches (hears orders) (no_other orders) new.answers kept old.told watched behind in
    record {
      kept = subst (λ (o : List Planned). AreKept (orders_in o) a.journal a.untold b.groups a.watches) old.same
          (subst (λ (j : List (ℕ × QueueNote)). AreKept orders j a.untold b.groups a.watches) (sym new.journal)
          (subst (λ (u : Option (SubId × ℕ)). AreKept orders now u b.groups a.watches) (sym new.untold) all));
      rows = ap (map watch_in) (watches_turned orders b.journal a.entry a.answer b.watches a.watches kept.watches_noted watched behind) ∙ rows_watched orders now (map watch_in b.watches);
      wishes = wished
          ∙ wishes_turned orders b.journal a.entry a.answer b.watches kept.watches_noted watched
          ∙ ap (λ (o : List Planned). wishes_at (orders_in o) (map (λ (w : ℕ × WatchRow). w.1) (map watch_in b.watches)) b.journal a.entry) old.same;
    }
