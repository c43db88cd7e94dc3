-- What the groups of a queue were told stands while its seat makes a turn: they are then one entry behind at most.
use mathlib.Core.List.{IsPrefix}
use Rattle.std.proofs.Common.{◌≡◌, ℕ, ◌+◌, ◌≤◌, Bool, true, false, List, [], ◌++◌, length, map, take, Option, Some, None, Result, Ok, Err, inl, inr, refl, sym, ap, subst, ◌∙◌, append-nil, length-append, arith}
use Rattle.std.specs.Prelude.{◌⊎◌, OnErr}
use Rattle.std.specs.Result.{IsErr}
use Rattle.std.proofs.Math.Seq.{take-append_seam}
use Rattle.std.proofs.lemmas.List.{take_all}
use Rattle.mama_edge.specs.declared.gate.GateActor.{GateActor}
use Rattle.mama_edge.specs.declared.gate.GateActor.TheVariants as gate
use Rattle.mama_event.specs.declared.ids.SubId.{SubId}
use Rattle.mama_event.specs.declared.to_queue.QueueNote.{QueueNote}
use Rattle.mama_script.specs.Script.{ScriptData}
use Rattle.mama_rules_queue.specs.Group.{group_notes}
use Rattle.mama_rules_rounds.specs.Sections.{setting_of}
use Rattle.mama_plans.specs.Orders.{orders_in}
use Rattle.mama_plans.specs.Lists.{groups_on}
use Rattle.mama_group.specs.Table.{GroupData}
use Rattle.mama_crew.specs.Hall.{HallValue}
use Rattle.mama_crew.specs.Informed.{informed}
use Rattle.mama_crew.specs.Seat as crew
use Rattle.mama_crew.specs.Seat.{actor_of, journal_in, Grows}
use Rattle.mama_crew.specs.declared.seat.Seat.{Seat}
use Rattle.mama_crew.specs.declared.seat.Seat.TheVariants.{Client, Publisher, Bridge, Timers, Queue}
use Rattle.mama_grouped.specs.declared.hearing.Hearing.{Hearing}
use Rattle.mama_grouped.specs.declared.seat.GroupedSeat.{GroupedSeat}
use Rattle.mama_grouped.specs.Seat.{own_groups, IsHearing, Hears, HeardOne, MadeStep, heard, stepped}

-- ---- the groups of a seat are those of its actor

abbrev groups_by : ScriptData → GateActor → List (ℕ × List SubId)
groups_by script (gate.Queue n) = map (λ g. (g.0, g.1.members)) (groups_on (setting_of script).groups n)
groups_by script (gate.Client c) = []
groups_by script (gate.Publisher p) = []
groups_by script gate.Bridge = []
groups_by script gate.Timers = []

own_by : {L : Type 0} (script : ScriptData) (seat : Seat L) → own_groups script seat ≡ groups_by script (actor_of seat)
own_by script (Queue n post) = refl
own_by script (Client c seat) = refl
own_by script (Publisher p post) = refl
own_by script (Bridge post) = refl
own_by script (Timers post) = refl

own_stay : {L : Type 0} (script : ScriptData) (old new : Seat L) → actor_of new ≡ actor_of old → own_groups script old ≡ own_groups script new
own_stay script old new same = own_by script old ∙ ap (groups_by script) (sym same) ∙ sym (own_by script new)

-- ---- its journal

grown : {L : Type 0} (old new : Seat L) → Grows old new → IsPrefix (journal_in old) (journal_in new)
grown (Queue n old) (Queue m new) grows = grows
grown (Queue n old) (Client c new) grows = absurd grows
grown (Queue n old) (Publisher p new) grows = absurd grows
grown (Queue n old) (Bridge new) grows = absurd grows
grown (Queue n old) (Timers new) grows = absurd grows
grown (Client c old) new grows = (journal_in new, refl)
grown (Publisher p old) new grows = (journal_in new, refl)
grown (Bridge old) new grows = (journal_in new, refl)
grown (Timers old) new grows = (journal_in new, refl)

-- ---- so they are behind by what the turn took

pub hears_turned : {L : Type 0} (script : ScriptData) (hall : HallValue) (old new : Seat L) (gs : List GroupData) (told : ℕ)
    → actor_of new ≡ actor_of old → Grows old new → length (journal_in new) ≤ length (journal_in old) + 1 → length (journal_in old) ≡ told
    → IsHearing script hall old gs told → IsHearing script hall new gs told
hears_turned script hall old new gs told same grows few all h =
    let prefix = grown old new grows in
    let long : length (journal_in new) ≡ length (journal_in old) + length prefix.0 = ap (λ (es : List (ℕ × QueueNote)). length es) (sym prefix.1) ∙ length-append (journal_in old) prefix.0 in
    let front : take told (journal_in old) ≡ take told (journal_in new) =
    take_all told (journal_in old) (omega (arith, all))
    ∙ sym (ap (λ (es : List (ℕ × QueueNote)). take told es) (sym prefix.1) ∙ ap (λ (n : ℕ). take n (journal_in old ++ prefix.0)) (sym all) ∙ take-append_seam (journal_in old) prefix.0) in
    record {
      within = omega (arith, long, all);
      most = omega (arith, few, all);
      rows = h.rows ∙ own_stay script old new same;
      notes = subst (λ (es : List (ℕ × QueueNote)). map (λ (g : GroupData). g.notes) gs ≡ map (λ (g : GroupData). group_notes (orders_in hall.objects) g.members es) gs) front h.notes;
      listeners = h.listeners;
    }

-- ---- a turn that only tells

pub grows_not : {L : Type 0} (seat : Seat L) → Grows seat seat
grows_not (Queue n post) = ([], append-nil post.served.journal)
grows_not (Client c seat) = ([], append-nil seat.post.walk.read)
grows_not (Publisher p post) = ([], append-nil post.progress.journal)
grows_not (Bridge post) = ([], append-nil post.service.journal)
grows_not (Timers post) = ([], append-nil post.service.journal)

-- where all was told there is nothing to tell
pub all_told : {X E : Type 0} (result : Result Bool E) (b : Bool) (old new : X) (told after long : ℕ) → result ≡ Ok b → (result ≡ Ok true → after ≡ told + 1) → (result ≡ Ok false → (new ≡ old) × (long ≡ told)) → after ≤ long → long ≡ told → new ≡ old
all_told result true old new told after long is next all within none = let more = next is in absurd (omega (arith, more, within, none))
all_told result false old new told after long is next all within none = (all is).0

-- ---- a seat that makes no turn is no queue's

pub still_unheard : {L : Type 0} (H : Type 0) (script : ScriptData) (hall : HallValue) (old new : Seat L) → actor_of new ≡ actor_of old → Hears {L = L} {H = H} script hall old None
    → Hears {L = L} {H = H} script hall new None
still_unheard H script hall (Queue n old) new same h = absurd h
still_unheard H script hall (Client c old) (Queue n new) same h = absurd cc
still_unheard H script hall (Client c old) (Client d new) same h = tt
still_unheard H script hall (Client c old) (Publisher p new) same h = tt
still_unheard H script hall (Client c old) (Bridge new) same h = tt
still_unheard H script hall (Client c old) (Timers new) same h = tt
still_unheard H script hall (Publisher p old) (Queue n new) same h = absurd cc
still_unheard H script hall (Publisher p old) (Client d new) same h = tt
still_unheard H script hall (Publisher p old) (Publisher r new) same h = tt
still_unheard H script hall (Publisher p old) (Bridge new) same h = tt
still_unheard H script hall (Publisher p old) (Timers new) same h = tt
still_unheard H script hall (Bridge old) (Queue n new) same h = absurd cc
still_unheard H script hall (Bridge old) (Client d new) same h = tt
still_unheard H script hall (Bridge old) (Publisher r new) same h = tt
still_unheard H script hall (Bridge old) (Bridge new) same h = tt
still_unheard H script hall (Bridge old) (Timers new) same h = tt
still_unheard H script hall (Timers old) (Queue n new) same h = absurd cc
still_unheard H script hall (Timers old) (Client d new) same h = tt
still_unheard H script hall (Timers old) (Publisher r new) same h = tt
still_unheard H script hall (Timers old) (Bridge new) same h = tt
still_unheard H script hall (Timers old) (Timers new) same h = tt

-- ---- the parts of a seat

pub seat_as : {L H : Type 0} (s : GroupedSeat L H) (seat : Seat L) (was now : Hearing H) → s.hearing ≡ Some was → seat ≡ s.seat → now ≡ was → (record { seat = seat; hearing = Some now }) ≡ s
seat_as s seat was now is same told = ap (λ x. record { seat = x; hearing = Some now }) same ∙ ap (λ o. record { seat = s.seat; hearing = o }) (ap Some told ∙ sym is)

-- a step of a queue's seat with its groups
pub step_made : {L H : Type 0} (script : ScriptData) (moment : ℕ) (old : GroupedSeat L H) (seat : Seat L) (was now : Hearing H) → old.hearing ≡ Some was
    → ((seat ≡ old.seat) × (now.told ≡ was.told + 1)) ⊎ (crew.MadeStep script moment old.seat seat × (length (journal_in seat) ≡ now.told)) → MadeStep script moment old (record { seat = seat; hearing = Some now })
step_made script moment old seat was now is (inl told) = heard told.0 (subst (λ o. HeardOne o (Some now)) (sym is) told.1)
step_made script moment old seat was now is (inr made) = stepped made.0 made.1

-- a turn took one entry at most, and that was told then
pub none_left : {E H : Type 0} (result : Result Bool E) (b : Bool) (old new : Hearing H) (was long : ℕ) → result ≡ Ok b → (result ≡ Ok true → new.told ≡ old.told + 1) → (result ≡ Ok false → (new ≡ old) × (long ≡ old.told))
    → new.told ≤ long → long ≤ was + 1 → was ≡ old.told → long ≡ new.told
none_left result true old new was long is next all within few at = let more = next is in omega (arith, more, within, few, at)
none_left result false old new was long is next all within few at = let none = all is in none.1 ∙ sym (ap (λ h. h.told) none.0)

-- ---- a seat that learns

hearing_as : {L : Type 0} (script : ScriptData) (hall : HallValue) (old new : Seat L) (gs : List GroupData) (told : ℕ) → journal_in old ≡ journal_in new → own_groups script old ≡ own_groups script new
    → IsHearing script hall old gs told → IsHearing script hall new gs told
hearing_as script hall old new gs told same own h = record {
  within = subst (λ (es : List (ℕ × QueueNote)). told ≤ length es) same h.within;
  most = subst (λ (es : List (ℕ × QueueNote)). length es ≤ told + 1) same h.most;
  rows = h.rows ∙ own;
  notes = subst (λ (es : List (ℕ × QueueNote)). map (λ (g : GroupData). g.notes) gs ≡ map (λ (g : GroupData). group_notes (orders_in hall.objects) g.members (take told es)) gs) same h.notes;
  listeners = h.listeners;
}

-- what it learns is not in its journal
pub hears_informed : {L : Type 0} (H : Type 0) (script : ScriptData) (hall : HallValue) (teller seat : Seat L) (hearing : Option (Hearing H)) → Hears script hall seat hearing → Hears script hall (informed teller seat) hearing
hears_informed H script hall teller (Client c seat) None h = h
hears_informed H script hall teller (Publisher p post) None h = tt
hears_informed H script hall teller (Bridge post) None h = tt
hears_informed H script hall teller (Timers post) None h = tt
hears_informed H script hall teller (Queue q post) None h = absurd h
hears_informed H script hall teller (Client c seat) (Some hearing) h = h
hears_informed H script hall teller (Publisher p post) (Some hearing) h = hearing_as script hall (Publisher p post) (informed teller (Publisher p post)) hearing.groups hearing.told refl refl h
hears_informed H script hall teller (Bridge post) (Some hearing) h = hearing_as script hall (Bridge post) (informed teller (Bridge post)) hearing.groups hearing.told refl refl h
hears_informed H script hall teller (Timers post) (Some hearing) h = hearing_as script hall (Timers post) (informed teller (Timers post)) hearing.groups hearing.told refl refl h
hears_informed H script hall teller (Queue q post) (Some hearing) h = hearing_as script hall (Queue q post) (informed teller (Queue q post)) hearing.groups hearing.told refl refl h

-- ---- what is answered where memory was wanted

pub on_err : {T E P : Type 0} (r : Result T E) → P → OnErr r P
on_err (Ok v) p = tt
on_err (Err e) p = p

pub no_answer : {T E : Type 0} (r : Result T E) (v : T) → IsErr r → r ≡ Ok v → ⊥
no_answer (Ok x) v bad is = let no : false ≡ true = bad in absurd cc
no_answer (Err e) v bad is = absurd cc
