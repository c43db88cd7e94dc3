-- How a seat and its board keep what they promise at each step.
use Rattle.std.specs.Prelude.{IfSome, is_some}
use mathlib.Core.List.{IsPrefix}
use Rattle.std.proofs.Common.{◌≡◌, ◌↔◌, ℕ, Bool, true, false, List, [], ◌∷◌, ◌++◌, length, Option, None, Some, refl, sym, ◌∙◌, ap, subst}
use Rattle.mama_event.specs.declared.to_queue.QueueNote.{QueueNote}
use Rattle.mama_script.specs.Script.{ScriptData}
use Rattle.mama_rules_rounds.specs.Client.{Planned}
use Rattle.mama_crew.specs.Hall.{HallValue}
use Rattle.mama_crew.specs.Seat.{Grows, journal_in}
use Rattle.mama_crew.specs.declared.seat.Seat.{Seat}
use Rattle.mama_crew.specs.declared.seat.Seat.TheVariants.{Client, Publisher, Bridge, Timers, Queue}
use Rattle.mama_crew.specs.New as crew
use Rattle.mama_board.specs.Values.{BoardValue, ToldValue, new_board, after_sealing, told_by}
use Rattle.mama_grouped.specs.Seat as grouped
use Rattle.mama_grouped.specs.Crew as begun
use Rattle.mama_grouped.specs.declared.seat.GroupedSeat.{GroupedSeat}
use Rattle.mama_shown.specs.declared.showing.Showing.{Showing}
use Rattle.mama_shown.specs.declared.seat.ShownSeat.{ShownSeat}
use Rattle.mama_shown.specs.Images.{all_sets, AreShown}
use Rattle.mama_shown.specs.Seat.{queue_in, HasTold, IsShowing, Shows, IsSeatOf, HasSealed, HasEnded, AllIsShown, GoesOn, IsIdle, MadeStep}
use Rattle.mama_shown.specs.Crew.{HasShownNothing}
use Rattle.mama_shown.specs.New.{IsNewSeatOf}
use Rattle.mama_shown.specs.Turn.{Steps}
use Rattle.mama_shown.proofs.Shown.{nothing_shown, shown_grown, all_sealed}

pub none_of : {A : Type 0} (o : Option A) → is_some o ≡ false → o ≡ None
none_of None is = refl
none_of (Some x) is = absurd (cc is)

pub some_of : {A : Type 0} (o : Option A) → is_some o ≡ true → (x : A) × (o ≡ Some x)
some_of None is = absurd (cc is)
some_of (Some x) is = (x, refl)

-- a seat's journal grows with the seat
journal_grows : {L : Type 0} (old new : Seat L) → Grows old new → IsPrefix (journal_in old) (journal_in new)
journal_grows (Queue n old) (Queue m new) grows = grows
journal_grows (Queue n old) (Client c new) grows = absurd grows
journal_grows (Queue n old) (Publisher p new) grows = absurd grows
journal_grows (Queue n old) (Bridge new) grows = absurd grows
journal_grows (Queue n old) (Timers new) grows = absurd grows
journal_grows (Client c old) new grows = (journal_in new, refl)
journal_grows (Publisher p old) new grows = (journal_in new, refl)
journal_grows (Bridge old) new grows = (journal_in new, refl)
journal_grows (Timers old) new grows = (journal_in new, refl)

-- a told that is not there says nothing
abbrev ToldBy : {L H R : Type 0} → GroupedSeat L H → Showing R → Option ToldValue → Type 0
ToldBy seat s told = IfSome told (λ t. HasTold seat s t)

not_told : {L H R : Type 0} (seat : GroupedSeat L H) (s : Showing R) (told : Option ToldValue) → told ≡ None → ToldBy seat s told
not_told seat s told none = subst (ToldBy seat s) (sym none) tt

-- the seat made a turn, and the board is as it was
pub still_showing : {L H R : Type 0} (objects : List Planned) (old new : GroupedSeat L H) (s : Showing R) → Grows old.seat new.seat → grouped.actor_of new ≡ grouped.actor_of old → s.told ≡ None → IsShowing objects old s
    → IsShowing objects new s
still_showing objects old new s grows who none h =
    let more = journal_grows old.seat new.seat grows in
    record {
      queue_is = ap queue_in who ∙ h.queue_is;
      shows = subst (λ (es : List (ℕ × QueueNote)). AreShown objects es s.shown (all_sets s.board)) more.1 (shown_grown objects (journal_in old.seat) more.0 s.shown (all_sets s.board) h.shows);
      unsealed = h.unsealed;
      told = not_told new s s.told none;
    }

-- the board shows more, or just as much
pub shown_on : {L H R : Type 0} (objects : List Planned) (seat : GroupedSeat L H) (old new : Showing R) → IsShowing objects seat old → old.told ≡ None → new.told ≡ old.told → new.board.queue ≡ old.board.queue
    → new.board.sealed ≡ false → AreShown objects (journal_in seat.seat) new.shown (all_sets new.board) → IsShowing objects seat new
shown_on objects seat old new h none same queue unsealed shows = record {
  queue_is = h.queue_is ∙ ap (λ (q : ℕ). q ∷ []) (sym queue);
  shows = shows;
  unsealed = λ _. unsealed;
  told = not_told seat new new.told (same ∙ none);
}

-- the board of a queue that has ended was sealed
pub sealed_on : {L H R : Type 0} (objects : List Planned) (seat : GroupedSeat L H) (old new : Showing R) → IsShowing objects seat old → grouped.HasEnded seat → length (journal_in seat.seat) ≡ old.shown → new.shown ≡ old.shown
    → new.board ≡ after_sealing old.board → new.told ≡ Some (told_by new.board) → IsShowing objects seat new
sealed_on objects seat old new h ended all same board told =
    let sets : all_sets new.board ≡ all_sets old.board = ap all_sets board ∙ all_sealed old.board in
    record {
      queue_is = h.queue_is ∙ ap (λ (b : BoardValue). b.queue ∷ []) (sym board);
      shows = subst (λ (n : ℕ). AreShown objects (journal_in seat.seat) n (all_sets new.board)) (sym same) (subst (AreShown objects (journal_in seat.seat) old.shown) (sym sets) h.shows);
      unsealed = λ none. let both : Some (told_by new.board) ≡ None = sym told ∙ none in absurd (cc both);
      told = subst (ToldBy seat new) (sym told)
          (record {
            told_is = ap (λ (last : Bool). record { queue = new.board.queue; sets = new.board.sets; last = last }) (ap (λ (b : BoardValue). b.sealed) board);
            sealed = ap (λ (b : BoardValue). b.sealed) board;
            none_waits = ap (λ (b : BoardValue). b.waiting) board;
            all_shown = same ∙ sym all;
            ended = ended;
          });
    }

-- a board that has told is of a queue that has ended
ended_of : {L H R : Type 0} (objects : List Planned) (seat : GroupedSeat L H) (s : Showing R) → IsShowing objects seat s → is_some s.told ≡ true → grouped.HasEnded seat
ended_of objects seat s h told =
    let t = some_of s.told told in
    (subst (ToldBy seat s) t.1 h.told).ended

-- ---- a seat with its board

same_parts : {L H R : Type 0} (old new : ShownSeat L H R) → new.seat ≡ old.seat → new.showing ≡ old.showing → new ≡ old
same_parts {L} {H} {R} old new seat showing = ap (λ (o : Option (Showing R)). record new { showing = o }) showing ∙ ap (λ (x : GroupedSeat L H). record old { seat = x }) seat

module _ {L H R : Type 0} (script : ScriptData) (hall : HallValue) (old new : ShownSeat L H R) (s w : Showing R) (is : old.showing ≡ Some s) (now : new.showing ≡ Some w) where
  pub shows_before : IsSeatOf script hall old → IsShowing hall.objects old.seat s
  shows_before h = subst (λ (o : Option (Showing R)). Shows hall.objects old.seat o) is h.shows

  pub sits_after : grouped.IsSeatOf script hall new.seat → IsShowing hall.objects new.seat w → IsSeatOf script hall new
  sits_after sits shows = record { sits = sits; shows = subst (λ (o : Option (Showing R)). Shows hall.objects new.seat o) (sym now) shows }

  pub same_after : new.seat ≡ old.seat → w ≡ s → new ≡ old
  same_after seat board = same_parts old new seat (now ∙ ap (λ (x : Showing R). Some x) board ∙ sym is)

  pub board_onward : IsPrefix s.board.sets w.board.sets → GoesOn old.showing new.showing
  board_onward more =
      subst (λ (o : Option (Showing R)). GoesOn old.showing o) (sym now) (subst (λ (o : Option (Showing R)). GoesOn o (Some w)) (sym is) more)

  pub idle_before : grouped.IsIdle old.seat → length (journal_in old.seat.seat) ≡ s.shown → IsIdle old
  idle_before idle all = record { seat = idle; shown = subst (λ (o : Option (Showing R)). AllIsShown old.seat o) (sym is) all }

  pub ended_before : IsSeatOf script hall old → (is_some s.told ≡ true) ↔ HasEnded old
  ended_before h = (
    (λ told. record { seat = ended_of hall.objects old.seat s (shows_before h) told; sealed = subst (λ (o : Option (Showing R)). HasSealed o) (sym is) told }),
    (λ e. subst (λ (o : Option (Showing R)). HasSealed o) is e.sealed),
  )

  pub step_made : (moment : ℕ) → Steps script moment old.seat s new.seat w → MadeStep script moment old new
  step_made moment (Steps.step all made shown) =
      MadeStep.stepped (subst (λ (o : Option (Showing R)). AllIsShown old.seat o) (sym is) all) made (subst (λ (o : Option (Showing R)). AllIsShown new.seat o) (sym now) shown)
  step_made moment (Steps.show same more) = MadeStep.showed s w is now same more
  step_made moment (Steps.seal ended same told) =
      MadeStep.sealed ended same (record { seat = subst (λ (x : GroupedSeat L H). grouped.HasEnded x) (sym same) ended; sealed = subst (λ (o : Option (Showing R)). HasSealed o) (sym now) told })

-- a seat without a board
module _ {L H R : Type 0} (script : ScriptData) (hall : HallValue) (old new : ShownSeat L H R) (is : old.showing ≡ None) (now : new.showing ≡ None) where
  pub sits_alone : grouped.actor_of new.seat ≡ grouped.actor_of old.seat → grouped.IsSeatOf script hall new.seat → IsSeatOf script hall old → IsSeatOf script hall new
  sits_alone who sits h = record {
    sits = sits;
    shows = subst (λ (o : Option (Showing R)). Shows hall.objects new.seat o) (sym now) (ap queue_in who ∙ subst (λ (o : Option (Showing R)). Shows hall.objects old.seat o) is h.shows);
  }

  pub same_alone : new.seat ≡ old.seat → new ≡ old
  same_alone seat = same_parts old new seat (now ∙ sym is)

  pub onward_alone : GoesOn old.showing new.showing
  onward_alone = subst (λ (o : Option (Showing R)). GoesOn old.showing o) (sym now) (subst (λ (o : Option (Showing R)). GoesOn o None) (sym is) tt)

  pub idle_alone : grouped.IsIdle old.seat → IsIdle old
  idle_alone idle = record { seat = idle; shown = subst (λ (o : Option (Showing R)). AllIsShown old.seat o) (sym is) tt }

  pub stepped_alone : (moment : ℕ) → grouped.MadeStep script moment old.seat new.seat → MadeStep script moment old new
  stepped_alone moment made = MadeStep.stepped (subst (λ (o : Option (Showing R)). AllIsShown old.seat o) (sym is) tt) made (subst (λ (o : Option (Showing R)). AllIsShown new.seat o) (sym now) tt)

  pub ended_alone : grouped.HasEnded old.seat ↔ HasEnded old
  ended_alone = ((λ e. record { seat = e; sealed = subst (λ (o : Option (Showing R)). HasSealed o) (sym is) tt }), (λ e. e.seat))

-- ---- opening

-- a queue's board, on which nothing was set, shows what its seat has not done yet
first_showing : {L H R : Type 0} (objects : List Planned) (seat : GroupedSeat L H) (s : Showing R) → queue_in (grouped.actor_of seat) ≡ s.board.queue ∷ [] → journal_in seat.seat ≡ [] → all_sets s.board ≡ [] → s.board.sealed ≡ false
    → s.shown ≡ 0 → s.told ≡ None → AreShown objects [] 0 [] → IsShowing objects seat s
first_showing objects seat s queue journal sets unsealed zero none shows = record {
  queue_is = queue;
  shows = subst (λ (es : List (ℕ × QueueNote)). AreShown objects es s.shown (all_sets s.board)) (sym journal)
      (subst (λ (n : ℕ). AreShown objects [] n (all_sets s.board)) (sym zero) (subst (AreShown objects [] 0) (sym sets) shows));
  unsealed = λ _. unsealed;
  told = not_told seat s s.told none;
}

journal_none : {L : Type 0} (seat : Seat L) → crew.HasDoneNothing seat → journal_in seat ≡ []
journal_none (Client c seat) new = refl
journal_none (Publisher p post) new = refl
journal_none (Bridge post) new = refl
journal_none (Timers post) new = refl
journal_none (Queue q post) new = new.journal

module _ {L H R : Type 0} (script : ScriptData) (hall : HallValue) (r : ShownSeat L H R) (sits : grouped.IsSeatOf script hall r.seat) (new : begun.HasDoneNothing r.seat) where
  pub opened : (s : Showing R) (number : ℕ) → r.showing ≡ Some s → number ∷ [] ≡ queue_in (grouped.actor_of r.seat) → s.board ≡ new_board number → s.shown ≡ 0 → s.told ≡ None → IsNewSeatOf script hall r
  opened s number is queue board zero none =
      let same : s.board.queue ≡ number = ap (λ (b : BoardValue). b.queue) board in
      let shows : IsShowing hall.objects r.seat s = first_showing hall.objects r.seat s (sym queue ∙ ap (λ (n : ℕ). n ∷ []) (sym same)) (journal_none r.seat.seat new.new) (ap all_sets board) (ap (λ (b : BoardValue). b.sealed) board)
      zero none (nothing_shown hall.objects) in
      record {
        sits = record { sits = sits; shows = subst (λ (o : Option (Showing R)). Shows hall.objects r.seat o) (sym is) shows };
        new = record { seat = new; showing = subst (λ (o : Option (Showing R)). HasShownNothing o) (sym is) (board ∙ ap new_board (sym same), zero, none) };
      }

  pub opened_alone : r.showing ≡ None → [] ≡ queue_in (grouped.actor_of r.seat) → IsNewSeatOf script hall r
  opened_alone is other = record {
    sits = record { sits = sits; shows = subst (λ (o : Option (Showing R)). Shows hall.objects r.seat o) (sym is) (sym other) };
    new = record { seat = new; showing = subst (λ (o : Option (Showing R)). HasShownNothing o) (sym is) tt };
  }
