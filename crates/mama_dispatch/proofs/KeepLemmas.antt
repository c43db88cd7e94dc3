-- What callbacks keep of the seats: no two of one object, what the listeners have heard and given, and the orders of their plans.
use Rattle.std.specs.Prelude.{map, Option, Some, None, Result, Ok, Err, IfOk, OnOk, if◌then◌else◌}
use Rattle.std.specs.Option.{option_and_then}
use Rattle.std.proofs.Common.{◌≡◌, ℕ, zero, suc, ◌+◌, ◌<◌, ◌≤◌, Bool, true, false, List, [], ◌∷◌, ◌++◌, length, refl, ap, sym, ◌∙◌, subst, append-nil, append_assoc, length-append, arith}
use Rattle.std.proofs.lemmas.List.{map-append}
use Rattle.std.proofs.lemmas.Bool.{lt-ltb}
use Rattle.mama_event.specs.declared.ids.ObjectId.{ObjectId}
use Rattle.mama_event.specs.declared.callback.CallNote.{CallNote}
use Rattle.mama_event.specs.declared.callback.Callback.{Callback}
use Rattle.mama_event.specs.declared.callback.Callback.TheVariants as on
use Rattle.mama_event.specs.declared.market.MarketMsg.{MarketMsg}
use Rattle.mama_event.specs.declared.order.Order.{Order}
use Rattle.mama_event.specs.declared.order.PlanRow.{PlanRow}
use Rattle.mama_event.specs.declared.to_queue.Make.{Make}
use Rattle.mama_event.specs.Object.{same_object}
use Rattle.mama_rules_queue.specs.Queue.{QueuePut}
use Rattle.mama_event.specs.Listener.{ListenerData, most_calls, risen, reached, HeardNext, GivenNext, Heard, IsPlanned}
use Rattle.mama_event.specs.Plan.{planned}
use Rattle.mama_dispatch.specs.Seats.{SeatData, has_seat, AreApart, seat_of, listener_in, at, HeardIn, called_with, muted_by_all, with_room, stepped, with_listener, new_seat, AreOrders, Fits}
use Rattle.mama_dispatch.specs.Seating.{CalledOnce}
use Rattle.mama_dispatch.specs.declared.turn.Turn.{Turn}
use Rattle.mama_dispatch.specs.Making.{Created, Ended, WasTold}
use Rattle.mama_dispatch.specs.Keeping.{AreFew, Kept, KeptWith}
use Rattle.mama_dispatch.specs.Hearing.{AllSeats, AtSeat, HeardOn, GivenOn, HasHeard, HeardSince, HeardAt, PlanGives, ListensAs, IsPlannedSeat, PlannedAt, ArePlanned, ComesWith, ComesPlanned}
use Rattle.mama_dispatch.proofs.DeedLemmas.{same_object-true, same_object-refl}
use Rattle.mama_dispatch.proofs.AllLemmas.{all_map, all_change, all_more}
use Rattle.mama_dispatch.proofs.PlaceLemmas.{none_changed, apart_kept, at_object, apart_more}

-- A SEAT OF AN OBJECT

-- what holds of each seat of an object holds of the one that is found
pub seat_at : (P : SeatData → Type 0) (o : ObjectId) (ss : List SeatData) (s : SeatData) → AtSeat P o ss → seat_of o ss ≡ Some s → P s
seat_at P o [] s all is = cc
seat_at P o (t ∷ ss) s all is =
    elim (same_object o t.object) as (λ v. same_object o t.object ≡ v → (if v then Some t else seat_of o ss) ≡ Some s → P s) [
      | true ↦ λ here is. let this : t ≡ s = cc in subst P this (all.0 here)
      | false ↦ λ there is. seat_at P o ss s all.1 is
    ] refl is

-- a change of one seat that keeps a property
pub at_change : (P : SeatData → Type 0) (x o : ObjectId) (f : SeatData → SeatData) → ((s : SeatData) → (f s).object ≡ s.object) → ((s : SeatData) → P s → P (f s)) → (ss : List SeatData) → AtSeat P x ss → AtSeat P x (map (at o f) ss)
at_change P x o f keeps step ss all =
    all_change (λ s. same_object x s.object ≡ true → P s) o f (λ s p this. step s (p (sym (ap (same_object x) (keeps s)) ∙ this))) ss all

-- a listener that just came has heard nothing since
pub heard_nothing : (came l : ListenerData) → came ≡ l → HasHeard [] came l
heard_nothing came l is = subst (HasHeard [] came) is (record { tag = refl; plan = refl; count = refl; heard = none came.heard; given = none_given came.given })
  where
    none : (h : Option (List Callback)) → HeardOn [] h h
    none None = tt
    none (Some cs) = sym (append-nil cs)

    none_given : (h : Option (List (List Order))) → GivenOn [] h h
    none_given None = tt
    none_given (Some os) = sym (append-nil os)

-- ONE CALLBACK

-- A property that muting keeps, and a callback of the seat's listener, holds of all seats after a callback.
pub all_called : (P : SeatData → Type 0) (o : ObjectId) (c : Callback) (os : List Order) (l : ListenerData)
    → ((s : SeatData) → P s → P (muted_by_all os s))
    → ((s : SeatData) (was : ListenerData) → s.listener ≡ Some was → Heard c was l os → P s → P (muted_by_all os (called_with c os (Some l) s)))
    → (ss : List SeatData) → AreApart ss → HeardIn c (listener_in o ss) (Some l) os
    → AllSeats P ss → AllSeats P (map (muted_by_all os) (map (at o (called_with c os (Some l))) ss))
all_called P o c os l mute call [] apart heard p = tt
all_called P o c os l mute call (s ∷ ss) apart heard p =
    let f : SeatData → SeatData = called_with c os (Some l) in
    elim (same_object o s.object) as
    (λ t. same_object o s.object ≡ t → HeardIn c (option_and_then (λ (x : SeatData). x.listener) (if t then Some s else seat_of o ss)) (Some l) os
    → AllSeats P (map (muted_by_all os) ((if t then f s else s) ∷ map (at o f) ss))) [
      | true ↦ λ same heard.
          let alone : has_seat o ss ≡ false = ap (λ (x : ObjectId). has_seat x ss) (same_object-true o s.object same) ∙ apart.0 in (
            there s.listener refl heard,
            subst (λ (ts : List SeatData). AllSeats P (map (muted_by_all os) ts)) (sym (none_changed o f ss alone)) (all_map P P (muted_by_all os) mute ss p.1),
          )
      | false ↦ λ other heard. (mute s p.0, all_called P o c os l mute call ss apart.1 heard p.1)
    ] refl heard
  where
    there : (x : Option ListenerData) → s.listener ≡ x → HeardIn c x (Some l) os → P (muted_by_all os (called_with c os (Some l) s))
    there None is heard = absurd heard
    there (Some was) is heard = call s was is heard p.0

-- orders of one callback more
pub orders_add : (f : ℕ → List Order) (k : ℕ) (ns : List CallNote) (n : CallNote) → AreOrders f k ns → n.orders ≡ f (k + length ns + 1) → AreOrders f k (ns ++ n ∷ [])
orders_add f k [] n all last = (last ∙ ap f (omega arith), tt)
orders_add f k (m ∷ ns) n all last = (all.0, orders_add f (k + 1) ns n all.1 (last ∙ ap f (omega arith)))

-- the orders of a listener whose plan is told are those of the plan
given_as : (f : ℕ → List Order) (plan : Option (List PlanRow)) (call : ℕ) (os : List Order) → PlanGives f plan → IsPlanned plan call os → os ≡ f call
given_as f None call os gives is = absurd gives
given_as f (Some rows) call os gives is = is ∙ gives call

-- a listener that has heard some callbacks, and then one more, has heard those
pub heard_more : (ns : List CallNote) (c : Callback) (os : List Order) (came was l : ListenerData) → HasHeard ns came was → Heard c was l os → HasHeard (ns ++ record { call = c; orders = os } ∷ []) came l
heard_more ns c os came was l before heard =
    let n : CallNote = record { call = c; orders = os } in
    let more : suc (length ns) ≡ length (ns ++ n ∷ []) = omega (arith, length-append ns (n ∷ [])) in
    record {
      tag = heard.tag ∙ before.tag;
      plan = heard.plan ∙ before.plan;
      count = heard.calls ∙ ap risen before.count ∙ ap (reached came.calls) more;
      heard =
          subst (λ (cs : List Callback). HeardOn cs came.heard l.heard) (sym (map-append (λ (m : CallNote). m.call) ns (n ∷ [])))
          (heard_on (map (λ (m : CallNote). m.call) ns) came.heard was.heard l.heard before.heard heard.heard);
      given =
          subst (λ (gs : List (List Order)). GivenOn gs came.given l.given) (sym (map-append (λ (m : CallNote). m.orders) ns (n ∷ [])))
          (given_on (map (λ (m : CallNote). m.orders) ns) came.given was.given l.given before.given heard.given);
    }
  where
    heard_on : (cs : List Callback) (a b d : Option (List Callback)) → HeardOn cs a b → HeardNext c b d → HeardOn (cs ++ c ∷ []) a d
    heard_on cs a b None first next = tt
    heard_on cs a None (Some d) first next = absurd next
    heard_on cs None (Some b) (Some d) first next = absurd first
    heard_on cs (Some a) (Some b) (Some d) first next = next ∙ ap (λ (xs : List Callback). xs ++ c ∷ []) first ∙ append_assoc a cs (c ∷ [])

    given_on : (gs : List (List Order)) (a b d : Option (List (List Order))) → GivenOn gs a b → GivenNext os b d → GivenOn (gs ++ os ∷ []) a d
    given_on gs a b None first next = tt
    given_on gs a None (Some d) first next = absurd next
    given_on gs None (Some b) (Some d) first next = absurd first
    given_on gs (Some a) (Some b) (Some d) first next = next ∙ ap (λ (xs : List (List Order)). xs ++ os ∷ []) first ∙ append_assoc a gs (os ∷ [])

heard_once : (came : ListenerData) (c : Callback) (os : List Order) (l : ListenerData) (s : SeatData) (was : ListenerData) → s.listener ≡ Some was → Heard c was l os
    → HeardSince s.calls came s.listener → HasHeard (s.calls ++ record { call = c; orders = os } ∷ []) came l
heard_once came c os l s was is heard since = heard_more s.calls c os came was l (subst (HeardSince s.calls came) is since) heard

planned_once : (f : ℕ → List Order) (count : ℕ) (c : Callback) (os : List Order) (l : ListenerData) (s : SeatData) (was : ListenerData) → s.listener ≡ Some was → Heard c was l os
    → IsPlannedSeat f count s → IsPlannedSeat f count (called_with c os (Some l) s)
planned_once f count c os l s was is heard planned =
    let n : CallNote = record { call = c; orders = os } in
    let before : PlanGives f was.plan × (was.calls ≡ reached count (length s.calls)) = subst (ListensAs f (reached count (length s.calls))) is planned.listener in
    let more : suc (length s.calls) ≡ length (s.calls ++ n ∷ []) = omega (arith, length-append s.calls (n ∷ [])) in
    let place : suc (length s.calls) ≡ 0 + length s.calls + 1 = omega arith in
    let now : l.calls ≡ reached count (suc (length s.calls)) = heard.calls ∙ ap risen before.1 in
    record {
      listener = (subst (PlanGives f) (sym heard.plan) before.0, now ∙ ap (reached count) more);
      orders = orders_add (λ k. f (reached count k)) 0 s.calls n planned.orders (given_as f was.plan l.calls os before.0 heard.orders ∙ ap f (now ∙ ap (reached count) place));
    }

-- WHAT IS KEPT

pub kept_same : (ss : List SeatData) → Kept ss ss
kept_same ss = record { apart = λ apart. apart; heard = λ x came apart heard. heard; planned = λ x f count apart planned. planned }

pub kept_then : (a b c : List SeatData) → Kept a b → Kept b c → Kept a c
kept_then a b c first next = record {
  apart = λ apart. next.apart (first.apart apart);
  heard = λ x came apart heard. next.heard x came (first.apart apart) (first.heard x came apart heard);
  planned = λ x f count apart planned. next.planned x f count (first.apart apart) (first.planned x f count apart planned);
}

pub kept_once : (o : ObjectId) (c : Callback) (before after : List SeatData) (pb pa : List QueuePut) → CalledOnce o c before after pb pa → Kept before after
kept_once o c before after pb pa once =
    let os : List Order = once.orders in
    let l : ListenerData = once.listener in
    let f : SeatData → SeatData = called_with c os (Some l) in
    record {
      apart = λ apart. subst AreApart (sym once.seats) (apart_kept (muted_by_all os) (map (at o f) before) (λ s. refl) (apart_kept (at o f) before (at_object o f (λ s. refl)) apart));
      heard = λ x came apart heard.
          subst (HeardAt x came) (sym once.seats)
          (all_called (λ s. same_object x s.object ≡ true → HeardSince s.calls came s.listener) o c os l (λ s p. p)
          (λ s was is heard p this. heard_once came c os l s was is heard (p this)) before apart once.heard heard);
      planned = λ x g count apart planned.
          subst (PlannedAt x g count) (sym once.seats)
          (all_called (λ s. same_object x s.object ≡ true → IsPlannedSeat g count s) o c os l
          (λ s p this. let one = p this in record { listener = one.listener; orders = one.orders })
          (λ s was is heard p this. let one = planned_once g count c os l s was is heard (p this) in record { listener = one.listener; orders = one.orders })
          before apart once.heard planned);
    }

-- a change of one seat that leaves its object, its callbacks and its listener
kept_change : (o : ObjectId) (f : SeatData → SeatData) (ss : List SeatData) → ((s : SeatData) → (f s).object ≡ s.object)
    → ((s : SeatData) (came : ListenerData) → HeardSince s.calls came s.listener → HeardSince (f s).calls came (f s).listener)
    → ((s : SeatData) (g : ℕ → List Order) (count : ℕ) → IsPlannedSeat g count s → IsPlannedSeat g count (f s)) → Kept ss (map (at o f) ss)
kept_change o f ss keeps heard planned = record {
  apart = apart_kept (at o f) ss (at_object o f keeps);
  heard = λ x came apart all. at_change (λ s. HeardSince s.calls came s.listener) x o f keeps (λ s p. heard s came p) ss all;
  planned = λ x g count apart all. at_change (IsPlannedSeat g count) x o f keeps (λ s p. planned s g count p) ss all;
}

pub kept_room : (o : ObjectId) (n : ℕ) (ss : List SeatData) → Kept ss (map (at o (with_room n)) ss)
kept_room o n ss = kept_change o (with_room n) ss (λ s. refl) (λ s came p. p) (λ s g count p. record { listener = p.listener; orders = p.orders })

pub kept_stepped : (o : ObjectId) (m : MarketMsg) (ss : List SeatData) → Kept ss (map (at o (stepped m)) ss)
kept_stepped o m ss = kept_change o (stepped m) ss (λ s. refl) (λ s came p. p) (λ s g count p. record { listener = p.listener; orders = p.orders })

pub kept_emptied : (o : ObjectId) (ss : List SeatData) → Kept ss (map (at o (with_listener None)) ss)
kept_emptied o ss = kept_change o (with_listener None) ss (λ s. refl) (λ s came p. tt) (λ s g count p. record { listener = tt; orders = p.orders })

-- the same seats by another name
pub kept_from : (a b c : List SeatData) → b ≡ a → Kept b c → Kept a c
kept_from a b c same kept = subst (λ (x : List SeatData). Kept x c) same kept

pub kept_to : (a b c : List SeatData) → c ≡ b → Kept a b → Kept a c
kept_to a b c same kept = subst (Kept a) (sym same) kept

pub kept_ended : (o : ObjectId) (l : ListenerData) (before after : List SeatData) (pb pa : List QueuePut) → Ended o l before after pb pa → Kept before after
kept_ended o l before after pb pa ended =
    kept_then before (map (at o (with_room ended.room)) before) after (kept_room o ended.room before)
    (kept_then (map (at o (with_room ended.room)) before) ended.middle after
    (kept_once o on.Destroy (map (at o (with_room ended.room)) before) ended.middle pb pa ended.once)
    (kept_to ended.middle (map (at o (with_listener None)) ended.middle) after ended.seats (kept_emptied o ended.middle)))

-- what may be told of an object
kept_told : {L : Type 0} (o : ObjectId) (c : Callback) (before after : List SeatData) (pb pa : List QueuePut) (answer : Turn L) → WasTold o c before after pb pa answer → Kept before after
kept_told o c before after pb pa answer (WasTold.called unmuted calls is) = calls.kept
kept_told o c before after pb pa answer (WasTold.muted quiet same none is) = kept_to before before after same (kept_same before)

-- WHAT AN EVENT KEEPS

pub kept_with : (before after : List SeatData) → Kept before after → KeptWith None before after
kept_with before after kept = record { heard = λ x came apart comes heard. kept.heard x came apart heard; planned = λ x f count apart comes planned. kept.planned x f count apart planned }

pub kept_each_told : {L E : Type 0} (r : Result (Turn L) E) (o : ObjectId) (c : Callback) (before after : List SeatData) (pb pa : List QueuePut)
    → IfOk r (λ answer. WasTold o c before after pb pa answer) → OnOk r (KeptWith None before after)
kept_each_told (Ok answer) o c before after pb pa was = kept_with before after (kept_told o c before after pb pa answer was)
kept_each_told (Err e) o c before after pb pa was = tt

pub kept_created : (o : ObjectId) (make : Make) (l : ListenerData) (before after : List SeatData) (pb pa : List QueuePut)
    → Created o make l before after pb pa → has_seat o before ≡ false → KeptWith (Some (o, l)) before after
kept_created o make l before after pb pa created none =
    let new : SeatData = new_seat o make l created.room in
    let kept = kept_once o on.Create (before ++ new ∷ []) after pb pa created.once in
    record {
      heard = λ x came apart comes heard.
          kept.heard x came (apart_more before new apart none)
          (all_more (λ s. same_object x s.object ≡ true → HeardSince s.calls came s.listener) before new heard (λ this. heard_nothing came l (comes this)));
      planned = λ x f count apart comes planned.
          kept.planned x f count (apart_more before new apart none)
          (all_more (λ s. same_object x s.object ≡ true → IsPlannedSeat f count s) before new planned (λ this. record { listener = comes this; orders = tt }));
    }

-- PLANS AND WHAT FITS

-- a count that can rise does
risen_below : (n : ℕ) → n < most_calls → risen n ≡ n + 1
risen_below n below = ap (λ (b : Bool). if b then n + 1 else n) (lt-ltb n most_calls below)

-- as far as it is counted, a count rises by the number of the callbacks
pub reached_is : (count calls : ℕ) → count + calls ≤ most_calls → reached count calls ≡ count + calls
reached_is count zero few = omega arith
reached_is count (suc calls) few =
    let before : reached count calls ≡ count + calls = reached_is count calls (omega (arith, few)) in
    ap risen before ∙ risen_below (count + calls) (omega (arith, few)) ∙ omega arith

orders_few : (f : ℕ → List Order) (k : ℕ) (ns : List CallNote) → k + length ns ≤ most_calls → AreOrders (λ j. f (reached 0 j)) k ns → AreOrders f k ns
orders_few f k [] few all = tt
orders_few f k (n ∷ ns) few all =
    let count : reached 0 (k + 1) ≡ k + 1 = reached_is 0 (k + 1) (omega (arith, few)) ∙ omega arith in
    (all.0 ∙ ap f count, orders_few f (k + 1) ns (omega (arith, few)) all.1)

-- what was planned fits
pub planned_fits : (orders : ObjectId → ℕ → List Order) (ss : List SeatData) → AreFew ss → ArePlanned orders ss → Fits orders ss
planned_fits orders [] few planned = tt
planned_fits orders (s ∷ ss) few planned = (
  orders_few (orders s.object) 0 s.calls (omega (arith, few.0)) ((planned s.object).0 (same_object-refl s.object)).orders,
  planned_fits orders ss few.1 (λ x. (planned x).1),
)

-- what comes with a plan for its object's orders comes so for each object
pub comes_at : (orders : ObjectId → ℕ → List Order) (comes : Option (ObjectId × ListenerData)) → ComesPlanned orders comes → (x : ObjectId) → ComesWith x (orders x) 0 comes
comes_at orders None planned x = tt
comes_at orders (Some b) planned x = λ this. subst (λ (y : ObjectId). ListensAs (orders y) 0 (Some b.1)) (sym (same_object-true x b.0 this)) planned
