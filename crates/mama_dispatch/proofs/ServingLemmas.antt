-- What the seats say of a journal, and what serving an entry makes of both.
use Rattle.std.specs.Prelude.{not, map, Option, Some, None, is_some, Ok, Err, if◌then◌else◌, ◌-◌, ◌==◌}
use Rattle.std.specs.List.{list_any}
use Rattle.std.specs.Option.{option_and_then, option_map_or}
use Rattle.std.proofs.Common.{◌≡◌, ℕ, suc, ◌+◌, ◌<◌, ◌≤◌, get_or, Bool, true, false, ◌&&◌, ◌||◌, List, [], ◌∷◌, ◌++◌, length, refl, ap, sym, ◌∙◌, subst, append-nil, arith}
use Rattle.std.proofs.lemmas.Bool.{or_parts}
use Rattle.mama_journal.specs.Journal.{first_said, count_of}
use Rattle.mama_event.specs.declared.ids.SubId.{SubId}
use Rattle.mama_event.specs.declared.ids.InboxId.{InboxId}
use Rattle.mama_event.specs.declared.ids.ObjectId.{ObjectId}
use Rattle.mama_event.specs.declared.ids.ObjectId.TheVariants.{Sub, Timer, Inbox}
use Rattle.mama_event.specs.declared.callback.CallNote.{CallNote}
use Rattle.mama_event.specs.declared.callback.Callback.TheVariants as on
use Rattle.mama_event.specs.declared.market.MarketMsg.{MarketMsg}
use Rattle.mama_event.specs.declared.market.Quality.TheVariants as quality
use Rattle.mama_event.specs.declared.market.SubKind.TheVariants.{Basic}
use Rattle.mama_event.specs.declared.order.Order.{Order}
use Rattle.mama_event.specs.declared.to_bridge.BridgeNote.TheVariants as bridge_note
use Rattle.mama_event.specs.declared.to_timers.TimersNote.TheVariants as timers_note
use Rattle.mama_event.specs.declared.to_queue.Make.{Make}
use Rattle.mama_event.specs.declared.to_queue.QueueNote.{QueueNote}
use Rattle.mama_event.specs.declared.to_queue.QueueNote.TheVariants as q
use Rattle.mama_event.specs.declared.to_queue.ToQueue.{ToQueue}
use Rattle.mama_event.specs.declared.to_queue.ToQueue.TheVariants as event
use Rattle.mama_event.specs.ToQueue.{note_of}
use Rattle.mama_event.specs.Noted.{delivered_note, replied_note}
use Rattle.mama_event.specs.Wire.{arrival_of, reply_of}
use Rattle.mama_event.specs.Arrival.{Arrival, ReplyArrival}
use Rattle.mama_event.specs.Object.{same_object}
use Rattle.mama_dq.specs.Context.{quality_in, ContextData, new_context}
use Rattle.mama_event.specs.Listener.{ListenerData}
use Rattle.mama_rules_queue.specs.Queue.{Deed, QueuePut, to_bridge, to_timers, make_in, context_of, messages_of, deeds, is_fin, bye_put, queue_puts_at, is_live, is_muted}
use Rattle.mama_dispatch.specs.Journals.{Born, born, is_born, is_live_here, may_come, noted, notes_of, context_after, image_in}
use Rattle.mama_dispatch.specs.Seats.{SeatData, has_seat, AreApart, seat_of, listener_in, is_muted_in, context_in, with_room, AreOrders, Fits}
use Rattle.mama_dispatch.specs.Seating.{Seated}
use Rattle.mama_dispatch.specs.State.{object_state}
use Rattle.mama_dispatch.specs.Standing.{Stands, Serves, MayServe, is_making}
use Rattle.mama_dispatch.specs.Keeping.{AreFew, KeptWith}
use Rattle.mama_dispatch.specs.Hearing.{AtSeat, HeardSince, HeardAt, IsPlannedSeat, PlannedAt, ArePlanned, brought}
use Rattle.mama_dispatch.specs.declared.turn.Turn.{Turn}
use Rattle.mama_dispatch.specs.Answering.{AnswersTo}
use Rattle.std.specs.Prelude.{IfSome}
use Rattle.std.specs.List.{AllByRecursion}
use Rattle.mama_msg.specs.Field.{FieldData}
use Rattle.mama_event.specs.Genuine.{IsGenuine}
use Rattle.mama_event.specs.declared.market.ImageHead.{ImageHead}
use Rattle.mama_event.specs.declared.to_queue.Make.TheVariants as make
use Rattle.mama_event.specs.declared.shape.Strategy.TheVariants.{One}
use Rattle.mama_dq.specs.declared.table.Phase.{Phase}
use Rattle.mama_dq.specs.declared.table.Phase.TheVariants.{Await, LiveOk, LiveStale, LiveKept}
use Rattle.mama_dq.specs.Image.{IsSendersRecord}
use Rattle.mama_dq.proofs.ImageLaw.{image_law}
use Rattle.mama_dispatch.specs.Images.{image_at, IsRecord}
use Rattle.mama_dispatch.specs.Served.{told_seats, IsServed, calls_at}
use Rattle.mama_dispatch.proofs.DeedLemmas.{same_object-true, same_object-refl}
use Rattle.mama_dispatch.proofs.PlaceLemmas.{none_seated}
use Rattle.mama_dispatch.proofs.SeatLemmas.{seated_map, make_among, found}
use Rattle.mama_dispatch.proofs.ArmLemmas.{first_make}
use Rattle.mama_dispatch.proofs.BirthLemmas.{seated_has, unbegun}
use Rattle.mama_dispatch.proofs.ServeLemmas.{serves_fin}
use Rattle.mama_dispatch.proofs.JournalLaws.{standing, stands_at_first}
use Rattle.mama_dispatch.proofs.AllLemmas.{all_map, all_back}
use Rattle.mama_dispatch.proofs.KeepLemmas.{planned_fits}

-- FINS

-- there are no more Fins than entries
pub fins_few : (es : List (ℕ × QueueNote)) → count_of is_fin es ≤ length es
fins_few [] = omega arith
fins_few (e ∷ es) =
    let rest : count_of is_fin es ≤ length es = fins_few es in
    elim (is_fin e) as (λ b. (if b then suc (count_of is_fin es) else count_of is_fin es) ≤ suc (length es)) [ true ↦ omega arith | false ↦ omega arith ]

-- what arrives is no Fin
delivered_on : (port slot : ℕ) (sub : SubId) (a : Arrival) → is_fin (port, delivered_note slot sub a) ≡ false
delivered_on port slot sub (Ok msg) = refl
delivered_on port slot sub (Err piece) = refl

replied_on : (port slot : ℕ) (inbox : InboxId) (a : ReplyArrival) → is_fin (port, replied_note slot inbox a) ≡ false
replied_on port slot inbox (Ok body) = refl
replied_on port slot inbox (Err bytes) = refl

-- the note of an event that is no Fin is none
pub not_fin : {L : Type 0} (tagged : L → ObjectId) (e : ToQueue L) (port : ℕ) → (e ≡ event.Fin → ⊥) → is_fin (port, note_of tagged e) ≡ false
not_fin tagged (event.Create slot object make l) port other = refl
not_fin tagged (event.Deliver slot sub msg) port other = delivered_on port slot sub (arrival_of msg)
not_fin tagged (event.Reply slot inbox body) port other = replied_on port slot inbox (reply_of body)
not_fin tagged (event.Tick slot timer moment) port other = refl
not_fin tagged (event.Gone slot object) port other = refl
not_fin tagged event.Fin port other = absurd (other refl)

-- no event but a Create makes an object, and none brings a listener
delivered_unmaking : (slot : ℕ) (sub : SubId) (a : Arrival) → is_making (delivered_note slot sub a) ≡ false
delivered_unmaking slot sub (Ok msg) = refl
delivered_unmaking slot sub (Err piece) = refl

replied_unmaking : (slot : ℕ) (inbox : InboxId) (a : ReplyArrival) → is_making (replied_note slot inbox a) ≡ false
replied_unmaking slot inbox (Ok body) = refl
replied_unmaking slot inbox (Err bytes) = refl

pub makes_none : {L : Type 0} (tagged : L → ObjectId) (e : ToQueue L) → ((slot : ℕ) (object : ObjectId) (make : Make) (l : L) → e ≡ event.Create slot object make l → ⊥) → is_making (note_of tagged e) ≡ false
makes_none tagged (event.Create slot object make l) other = absurd (other slot object make l refl)
makes_none tagged (event.Deliver slot sub msg) other = delivered_unmaking slot sub (arrival_of msg)
makes_none tagged (event.Reply slot inbox body) other = replied_unmaking slot inbox (reply_of body)
makes_none tagged (event.Tick slot timer moment) other = refl
makes_none tagged (event.Gone slot object) other = refl
makes_none tagged event.Fin other = refl

pub brings_none : {L : Type 0} (view : L → ListenerData) (e : ToQueue L) → ((slot : ℕ) (object : ObjectId) (make : Make) (l : L) → e ≡ event.Create slot object make l → ⊥) → brought view e ≡ None
brings_none view (event.Create slot object make l) other = absurd (other slot object make l refl)
brings_none view (event.Deliver slot sub msg) other = refl
brings_none view (event.Reply slot inbox body) other = refl
brings_none view (event.Tick slot timer moment) other = refl
brings_none view (event.Gone slot object) other = refl
brings_none view event.Fin other = refl

-- SEATS WITHOUT THEIR ROOM

pub fits_told : (orders : ObjectId → ℕ → List Order) (ss : List SeatData) → Fits orders ss → Fits orders (told_seats ss)
fits_told orders [] fits = tt
fits_told orders (s ∷ ss) fits = (fits.0, fits_told orders ss fits.1)

pub fits_untold : (orders : ObjectId → ℕ → List Order) (ss : List SeatData) → Fits orders (told_seats ss) → Fits orders ss
fits_untold orders [] fits = tt
fits_untold orders (s ∷ ss) fits = (fits.0, fits_untold orders ss fits.1)

-- what is said of an object's seat is said of the seat without its room
at_told : (P : SeatData → Type 0) (x : ObjectId) → ((s : SeatData) → P s → P (with_room 0 s)) → (ss : List SeatData) → AtSeat P x ss → AtSeat P x (told_seats ss)
at_told P x step ss all = all_map (λ s. same_object x s.object ≡ true → P s) (λ s. same_object x s.object ≡ true → P s) (with_room 0) (λ s p this. step s (p this)) ss all

at_untold : (P : SeatData → Type 0) (x : ObjectId) → ((s : SeatData) → P (with_room 0 s) → P s) → (ss : List SeatData) → AtSeat P x (told_seats ss) → AtSeat P x ss
at_untold P x step ss all = all_back (λ s. same_object x s.object ≡ true → P s) (λ s. same_object x s.object ≡ true → P s) (with_room 0) (λ s p this. step s (p this)) ss all

pub heard_told : (x : ObjectId) (came : ListenerData) (ss : List SeatData) → HeardAt x came ss → HeardAt x came (told_seats ss)
heard_told x came ss heard = at_told (λ s. HeardSince s.calls came s.listener) x (λ s p. p) ss heard

pub heard_untold : (x : ObjectId) (came : ListenerData) (ss : List SeatData) → HeardAt x came (told_seats ss) → HeardAt x came ss
heard_untold x came ss heard = at_untold (λ s. HeardSince s.calls came s.listener) x (λ s p. p) ss heard

pub planned_told : (x : ObjectId) (f : ℕ → List Order) (count : ℕ) (ss : List SeatData) → PlannedAt x f count ss → PlannedAt x f count (told_seats ss)
planned_told x f count ss planned = at_told (IsPlannedSeat f count) x (λ s p. record { listener = p.listener; orders = p.orders }) ss planned

pub planned_untold : (x : ObjectId) (f : ℕ → List Order) (count : ℕ) (ss : List SeatData) → PlannedAt x f count (told_seats ss) → PlannedAt x f count ss
planned_untold x f count ss planned = at_untold (IsPlannedSeat f count) x (λ s p. record { listener = p.listener; orders = p.orders }) ss planned

-- seats of few callbacks whose orders are planned
pub planned_fits_told : (orders : ObjectId → ℕ → List Order) (ss : List SeatData) → AreFew ss → ArePlanned orders (told_seats ss) → Fits orders (told_seats ss)
planned_fits_told orders ss few planned = fits_told orders ss (planned_fits orders ss few (λ x. planned_untold x (orders x) 0 ss (planned x)))

pub seated_told : (h : ObjectId → Bool) (ds : List Deed) (bs : List Born) (ss : List SeatData) → Seated h ds bs ss → Seated h ds bs (told_seats ss)
seated_told h ds bs ss seated =
    seated_map h h ds ds (with_room 0) (λ b s at. record { object = at.object; listener = at.listener; muted = at.muted; context = at.context; calls = at.calls }) bs ss seated

pub seated_untold : (h : ObjectId → Bool) (ds : List Deed) (bs : List Born) (ss : List SeatData) → Seated h ds bs (told_seats ss) → Seated h ds bs ss
seated_untold h ds [] [] seated = tt
seated_untold h ds [] (s ∷ ss) seated = absurd seated
seated_untold h ds (b ∷ bs) [] seated = absurd seated
seated_untold h ds (b ∷ bs) (s ∷ ss) seated = (
  record { object = seated.0.object; listener = seated.0.listener; muted = seated.0.muted; context = seated.0.context; calls = seated.0.calls },
  seated_untold h ds bs ss seated.1,
)

served_told : (journal : List (ℕ × QueueNote)) (fins : ℕ) (ss : List SeatData) → IsServed journal fins ss → IsServed journal fins (told_seats ss)
served_told journal fins ss served = record {
  fins = served.fins;
  stands = λ orders fits.
      let stands = served.stands orders (fits_untold orders ss fits) in
      record { seated = seated_told (is_live (deeds orders journal)) (deeds orders journal) (born journal) ss stands.seated; live = stands.live; quiet = stands.quiet; silent = stands.silent };
}

served_untold : (journal : List (ℕ × QueueNote)) (fins : ℕ) (ss : List SeatData) → IsServed journal fins (told_seats ss) → IsServed journal fins ss
served_untold journal fins ss served = record {
  fins = served.fins;
  stands = λ orders fits.
      let stands = served.stands orders (fits_told orders ss fits) in
      record { seated = seated_untold (is_live (deeds orders journal)) (deeds orders journal) (born journal) ss stands.seated; live = stands.live; quiet = stands.quiet; silent = stands.silent };
}

-- only the room changed
pub served_roomy : (journal : List (ℕ × QueueNote)) (fins : ℕ) (before after : List SeatData) → told_seats after ≡ told_seats before → IsServed journal fins before → IsServed journal fins after
served_roomy journal fins before after same served =
    served_untold journal fins after (subst (IsServed journal fins) (sym same) (served_told journal fins before served))

-- ORDERS THAT FIT

pub no_note : CallNote
no_note = record { call = on.Create; orders = [] }

-- the orders that were given in an object's callbacks
pub given_at : ObjectId → List SeatData → ℕ → List Order
given_at o ss call = (get_or (calls_at o ss) (call - 1) no_note).orders

are_orders : (f : ℕ → List Order) (k : ℕ) (ns : List CallNote) → ((i : ℕ) → i < length ns → f (k + i + 1) ≡ (get_or ns i no_note).orders) → AreOrders f k ns
are_orders f k [] each = tt
are_orders f k (n ∷ ns) each = (
  sym (each 0 (omega arith)) ∙ ap f (omega arith),
  are_orders f (k + 1) ns (λ i below. ap f (omega arith) ∙ each (suc i) (omega (arith, below))),
)

fits_each : (f : ObjectId → ℕ → List Order) (ss : List SeatData) → AreApart ss
    → ((o : ObjectId) (s : SeatData) → seat_of o ss ≡ Some s → (call : ℕ) → f o call ≡ (get_or s.calls (call - 1) no_note).orders) → Fits f ss
fits_each f [] apart each = tt
fits_each f (s ∷ ss) apart each =
    let here : seat_of s.object (s ∷ ss) ≡ Some s = ap (λ (b : Bool). if b then Some s else seat_of s.object ss) (same_object-refl s.object) in (
      are_orders (f s.object) 0 s.calls (λ i below. each s.object s here (0 + i + 1) ∙ ap (λ (n : ℕ). (get_or s.calls n no_note).orders) (omega arith)),
      fits_each f ss apart.1 (λ o x is. each o x (later o x is)),
    )
  where
    later : (o : ObjectId) (x : SeatData) → seat_of o ss ≡ Some x → seat_of o (s ∷ ss) ≡ Some x
    later o x is =
        elim (same_object o s.object) as (λ t. same_object o s.object ≡ t → (if t then Some s else seat_of o ss) ≡ Some x) [
          | true ↦ λ same.
              let none : seat_of o ss ≡ None = none_seated o ss (ap (λ (y : ObjectId). has_seat y ss) (same_object-true o s.object same) ∙ apart.0) in
              cc (none, is)
          | false ↦ λ other. is
        ] refl

-- the orders that were given fit
pub given_fits : (ss : List SeatData) → AreApart ss → Fits (λ o. given_at o ss) ss
unfolding given_at
given_fits ss apart =
    fits_each (λ o. given_at o ss) ss apart
    (λ o s is call. ap (λ (x : Option SeatData). (get_or (option_map_or (λ (y : SeatData). y.calls) x []) (call - 1) no_note).orders) is)

-- WHAT SEATS SAY OF A JOURNAL

seat_none : (o : ObjectId) (ss : List SeatData) → seat_of o ss ≡ None → has_seat o ss ≡ false
seat_none o [] none = refl
seat_none o (s ∷ ss) none =
    elim (same_object o s.object) as (λ t. (if t then Some s else seat_of o ss) ≡ None → (t || has_seat o ss) ≡ false) [
      | true ↦ λ none. cc
      | false ↦ λ none. seat_none o ss none
    ] none

unborn : (journal : List (ℕ × QueueNote)) (ds : List Deed) (ss : List SeatData) (o : ObjectId) → Stands journal ds ss → seat_of o ss ≡ None → is_born o journal ≡ false
unborn journal ds ss o stands none = sym (seated_has (is_live ds) ds o (born journal) ss stands.seated) ∙ seat_none o ss none

pub live_there : (journal : List (ℕ × QueueNote)) (ds : List Deed) (ss : List SeatData) (o : ObjectId) → Stands journal ds ss → is_some (listener_in o ss) ≡ is_live_here o journal
live_there journal ds ss o stands = go (seat_of o ss) refl
  where
    go : (x : Option SeatData) → seat_of o ss ≡ x → is_some (option_and_then (λ (s : SeatData). s.listener) (seat_of o ss)) ≡ is_live_here o journal
    go None is =
        ap (λ (y : Option SeatData). is_some (option_and_then (λ (s : SeatData). s.listener) y)) is
        ∙ sym (unbegun o ds (stands.quiet o (unborn journal ds ss o stands is))).0 ∙ stands.live o
    go (Some s) is =
        ap (λ (y : Option SeatData). is_some (option_and_then (λ (z : SeatData). z.listener) y)) is
        ∙ (found (is_live ds) ds (born journal) ss o s stands.seated is).listener ∙ stands.live o

muted_there : (journal : List (ℕ × QueueNote)) (ds : List Deed) (ss : List SeatData) (o : ObjectId) (s : SeatData) → Stands journal ds ss → seat_of o ss ≡ Some s → is_muted_in o ss ≡ is_muted o ds
muted_there journal ds ss o s stands is =
    ap (λ (y : Option SeatData). option_map_or (λ (z : SeatData). z.muted) y false) is ∙ (found (is_live ds) ds (born journal) ss o s stands.seated is).muted

no_state : (muted other : Bool) → object_state false muted ≡ object_state false other
no_state muted other = refl

-- whether an object is there, and whether it is muted, is told by its seat
pub state_there : (journal : List (ℕ × QueueNote)) (ds : List Deed) (ss : List SeatData) (o : ObjectId) → Stands journal ds ss
    → object_state (is_some (listener_in o ss)) (is_muted_in o ss) ≡ object_state (is_live_here o journal) (is_muted o ds)
state_there journal ds ss o stands = go (seat_of o ss) refl
  where
    go : (x : Option SeatData) → seat_of o ss ≡ x → object_state (is_some (listener_in o ss)) (is_muted_in o ss) ≡ object_state (is_live_here o journal) (is_muted o ds)
    go None is =
        let gone : is_some (listener_in o ss) ≡ false = ap (λ (y : Option SeatData). is_some (option_and_then (λ (s : SeatData). s.listener) y)) is in
        ap (λ (b : Bool). object_state b (is_muted_in o ss)) gone ∙ no_state (is_muted_in o ss) (is_muted o ds)
        ∙ ap (λ (b : Bool). object_state b (is_muted o ds)) (sym gone ∙ live_there journal ds ss o stands)
    go (Some s) is =
        ap (λ (b : Bool). object_state b (is_muted_in o ss)) (live_there journal ds ss o stands) ∙ ap (object_state (is_live_here o journal)) (muted_there journal ds ss o s stands is)

pub calls_there : (journal : List (ℕ × QueueNote)) (ds : List Deed) (ss : List SeatData) (o : ObjectId) → Stands journal ds ss → calls_at o ss ≡ notes_of o ds
calls_there journal ds ss o stands = go (seat_of o ss) refl
  where
    go : (x : Option SeatData) → seat_of o ss ≡ x → option_map_or (λ (s : SeatData). s.calls) (seat_of o ss) [] ≡ notes_of o ds
    go None is =
        ap (λ (y : Option SeatData). option_map_or (λ (s : SeatData). s.calls) y []) is
        ∙ sym (ap (map noted) (stands.quiet o (unborn journal ds ss o stands is)))
    go (Some s) is =
        ap (λ (y : Option SeatData). option_map_or (λ (z : SeatData). z.calls) y []) is
        ∙ (found (is_live ds) ds (born journal) ss o s stands.seated is).calls

never : (o : ObjectId) (bs : List Born) → list_any (λ (b : Born). same_object o b.object) bs ≡ false → make_among o bs ≡ None
never o [] none = refl
never o (b ∷ bs) none =
    let parts = or_parts (same_object o b.object) (list_any (λ (c : Born). same_object o c.object) bs) none in
    ap (λ (t : Bool). if t then Some b.make else make_among o bs) parts.0 ∙ never o bs parts.1

context_unborn : (make : Option Make) → make ≡ None → context_of make [] ≡ new_context One Basic 0
context_unborn None none = refl
context_unborn (Some k) none = cc

pub context_there : (orders : ObjectId → ℕ → List Order) (journal : List (ℕ × QueueNote)) (ss : List SeatData) (o : SubId)
    → Stands journal (deeds orders journal) ss → context_in (Sub o) ss ≡ context_after orders journal o
context_there orders journal ss o stands = go (seat_of (Sub o) ss) refl
  where
    ds : List Deed
    ds = deeds orders journal

    go : (x : Option SeatData) → seat_of (Sub o) ss ≡ x
        → option_map_or (λ (s : SeatData). s.context) (seat_of (Sub o) ss) (new_context One Basic 0)
        ≡ context_of (first_said (λ (e : ℕ × QueueNote). make_in (Sub o) e.1) journal) (messages_of o ds)
    go None is =
        let gone : is_born (Sub o) journal ≡ false = unborn journal ds ss (Sub o) stands is in
        ap (λ (y : Option SeatData). option_map_or (λ (s : SeatData). s.context) y (new_context One Basic 0)) is
        ∙ sym (context_unborn (first_said (λ (e : ℕ × QueueNote). make_in (Sub o) e.1) journal) (first_make (Sub o) journal ∙ never (Sub o) (born journal) gone))
        ∙ ap (context_of (first_said (λ (e : ℕ × QueueNote). make_in (Sub o) e.1) journal)) (sym (stands.silent (Sub o) gone))
    go (Some s) is =
        let f = found (is_live ds) ds (born journal) ss (Sub o) s stands.seated is in
        ap (λ (y : Option SeatData). option_map_or (λ (z : SeatData). z.context) y (new_context One Basic 0)) is
        ∙ f.context ∙ sym (ap (λ (k : Option Make). context_of k (messages_of o ds)) (first_make (Sub o) journal ∙ f.made))

-- AN ENTRY THAT MAY COME

pub born_there : (journal : List (ℕ × QueueNote)) (fins : ℕ) (ss : List SeatData) (o : ObjectId) → IsServed journal fins ss → AreApart ss → has_seat o ss ≡ is_born o journal
born_there journal fins ss o served apart =
    let stands = served.stands (λ x. given_at x ss) (given_fits ss apart) in
    let ds : List Deed = deeds (λ x. given_at x ss) journal in
    seated_has (is_live ds) ds o (born journal) ss stands.seated

pub here_there : (journal : List (ℕ × QueueNote)) (fins : ℕ) (ss : List SeatData) (o : ObjectId) → IsServed journal fins ss → AreApart ss → is_some (listener_in o ss) ≡ is_live_here o journal
here_there journal fins ss o served apart =
    live_there journal (deeds (λ x. given_at x ss) journal) ss o (served.stands (λ x. given_at x ss) (given_fits ss apart))

not_true : (b : Bool) → not b ≡ true → b ≡ false
not_true true h = cc
not_true false h = refl

pub may_serve : (journal : List (ℕ × QueueNote)) (fins : ℕ) (ss : List SeatData) (note : QueueNote) → IsServed journal fins ss → AreApart ss → may_come journal note ≡ true → MayServe note ss
may_serve journal fins ss (q.Create slot object make tag) served apart may = born_there journal fins ss object served apart ∙ not_true (is_born object journal) may
may_serve journal fins ss (q.Deliver slot sub msg) served apart may = here_there journal fins ss (Sub sub) served apart ∙ may
may_serve journal fins ss (q.Reply slot inbox body) served apart may = here_there journal fins ss (Inbox inbox) served apart ∙ may
may_serve journal fins ss (q.Bad slot sub kind sender seq bytes) served apart may = here_there journal fins ss (Sub sub) served apart ∙ may
may_serve journal fins ss (q.BadReply slot inbox bytes) served apart may = here_there journal fins ss (Inbox inbox) served apart ∙ may
may_serve journal fins ss (q.Tick slot timer moment) served apart may = here_there journal fins ss (Timer timer) served apart ∙ may
may_serve journal fins ss (q.Gone slot object) served apart may = here_there journal fins ss object served apart ∙ may
may_serve journal fins ss q.Fin served apart may = tt

-- what arrives for an object may come where the object is live
pub delivered_may : (journal : List (ℕ × QueueNote)) (slot : ℕ) (sub : SubId) (a : Arrival) → may_come journal (delivered_note slot sub a) ≡ is_live_here (Sub sub) journal
delivered_may journal slot sub (Ok msg) = refl
delivered_may journal slot sub (Err piece) = refl

pub replied_may : (journal : List (ℕ × QueueNote)) (slot : ℕ) (inbox : InboxId) (a : ReplyArrival) → may_come journal (replied_note slot inbox a) ≡ is_live_here (Inbox inbox) journal
replied_may journal slot inbox (Ok body) = refl
replied_may journal slot inbox (Err bytes) = refl

-- AN ENTRY THAT CAME

pub count_more : {E : Type 0} (test : E → Bool) (es : List E) (e : E) → count_of test (es ++ e ∷ []) ≡ (if test e then suc (count_of test es) else count_of test es)
count_more test [] e = refl
count_more test (x ∷ es) e =
    ap (λ (n : ℕ). if test x then suc n else n) (count_more test es e)
    ∙ elim (test x) as (λ t. (if t then suc (if test e then suc (count_of test es) else count_of test es) else (if test e then suc (count_of test es) else count_of test es)) ≡ (if test e then suc (if t then suc (count_of test es) else count_of test es) else (if t then suc (count_of test es) else count_of test es))) [
      | true ↦ elim (test e) as (λ u. suc (if u then suc (count_of test es) else count_of test es) ≡ (if u then suc (suc (count_of test es)) else suc (count_of test es))) [ true ↦ refl | false ↦ refl ]
      | false ↦ refl
    ]

pub no_journal : IsServed [] 0 []
no_journal = record { fins = refl; stands = λ orders fits. stands_at_first }

pub served_next : (journal : List (ℕ × QueueNote)) (fins : ℕ) (comes : Option (ObjectId × ListenerData)) (port : ℕ) (note : QueueNote) (before after : List SeatData) (pb pa : List QueuePut)
    → IsServed journal fins before → AreApart before → is_fin (port, note) ≡ false → Serves note before after pb pa → KeptWith comes before after
    → IsServed (journal ++ (port, note) ∷ []) fins after
served_next journal fins comes port note before after pb pa served apart middle serves kept = record {
  fins = served.fins ∙ sym (count_more is_fin journal (port, note) ∙ ap (λ (b : Bool). if b then suc (count_of is_fin journal) else count_of is_fin journal) middle);
  stands = λ orders fits. (standing orders journal port note before after pb pa serves fits (served.stands orders (serves.fits orders fits))).stands;
}

pub served_as : (journal : List (ℕ × QueueNote)) (fins : ℕ) (comes : Option (ObjectId × ListenerData)) (port : ℕ) (note of : QueueNote) (before after : List SeatData) (pb pa : List QueuePut)
    → note ≡ of → IsServed journal fins before → AreApart before → is_fin (port, note) ≡ false → Serves of before after pb pa → KeptWith comes before after
    → IsServed (journal ++ (port, note) ∷ []) fins after
served_as journal fins comes port note of before after pb pa noted served apart middle serves kept =
    subst (λ (n : QueueNote). IsServed (journal ++ (port, n) ∷ []) fins after) (sym noted)
    (served_next journal fins comes port of before after pb pa served apart (ap (λ (n : QueueNote). is_fin (port, n)) (sym noted) ∙ middle) serves kept)

pub puts_next : (journal : List (ℕ × QueueNote)) (fins : ℕ) (port : ℕ) (note : QueueNote) (before after : List SeatData) (pb pa : List QueuePut)
    → IsServed journal fins before → is_fin (port, note) ≡ false → Serves note before after pb pa
    → (orders : ObjectId → ℕ → List Order) → Fits orders after → pa ≡ pb ++ queue_puts_at orders journal (port, note)
puts_next journal fins port note before after pb pa served middle serves orders fits =
    let none : bye_put journal (port, note) ≡ [] =
    ap (λ (b : Bool). if b && count_of is_fin journal == 1 then to_bridge bridge_note.Bye ∷ to_timers timers_note.Bye ∷ [] else []) middle in
    sym (append-nil pa) ∙ ap (λ (ps : List QueuePut). pa ++ ps) (sym none)
    ∙ (standing orders journal port note before after pb pa serves fits (served.stands orders (serves.fits orders fits))).puts

-- a Fin
pub served_fin : (journal : List (ℕ × QueueNote)) (fins : ℕ) (port : ℕ) (ss : List SeatData) → IsServed journal fins ss → IsServed (journal ++ (port, q.Fin) ∷ []) (suc fins) ss
served_fin journal fins port ss served =
    let serves = serves_fin ss [] in
    record {
      fins = ap suc served.fins ∙ sym (count_more is_fin journal (port, q.Fin));
      stands = λ orders fits. (standing orders journal port q.Fin ss ss [] [] serves fits (served.stands orders fits)).stands;
    }

-- ANSWERS

-- an answer says nothing of the room of seats
pub answers_told : {L : Type 0} (view : L → ListenerData) (orders : ObjectId → ℕ → List Order) (ss : List SeatData) (journal : List (ℕ × QueueNote)) (ds : List Deed) (note : QueueNote) (answer : Turn L)
    → AnswersTo view orders ss journal ds note answer → AnswersTo view orders (told_seats ss) journal ds note answer
answers_told view orders ss journal ds (q.Create slot object make tag) answer is = is
answers_told view orders ss journal ds (q.Deliver slot sub msg) answer is = is
answers_told view orders ss journal ds (q.Reply slot inbox body) answer is = is
answers_told view orders ss journal ds (q.Bad slot sub kind sender seq bytes) answer is = is
answers_told view orders ss journal ds (q.BadReply slot inbox bytes) answer is = is
answers_told view orders ss journal ds (q.Tick slot timer moment) answer is = is
answers_told view orders ss journal ds (q.Gone slot object) answer is = record { listener = is.listener; is = is.is; heard = λ came heard. is.heard came (heard_untold object came ss heard) }
answers_told view orders ss journal ds q.Fin answer is = is

-- the callbacks of seats whose room is not told
pub calls_told : (o : ObjectId) (ss : List SeatData) → calls_at o (told_seats ss) ≡ calls_at o ss
calls_told o [] = refl
calls_told o (s ∷ ss) =
    elim (same_object o s.object) as (λ t. option_map_or (λ (x : SeatData). x.calls) (if t then Some (with_room 0 s) else seat_of o (told_seats ss)) [] ≡ option_map_or (λ (x : SeatData). x.calls) (if t then Some s else seat_of o ss) []) [
      | true ↦ refl
      | false ↦ calls_told o ss
    ]

-- the callbacks of a queue's objects are those of its journal's deeds
pub calls_served : (journal : List (ℕ × QueueNote)) (fins : ℕ) (ss : List SeatData) → IsServed journal fins ss
    → (orders : ObjectId → ℕ → List Order) → Fits orders (told_seats ss) → (o : ObjectId) → calls_at o (told_seats ss) ≡ notes_of o (deeds orders journal)
calls_served journal fins ss served orders fits o =
    calls_told o ss ∙ calls_there journal (deeds orders journal) ss o (served.stands orders (fits_untold orders ss fits))

-- IMAGES

seat_image : (x : Option SeatData) → option_and_then image_at x ≡ (if is_some (option_and_then (λ (s : SeatData). s.listener) x) then image_in (option_map_or (λ (s : SeatData). s.context) x (new_context One Basic 0)) else None)
seat_image None = refl
seat_image (Some s) = refl

-- the image of a live subscription is that of its context after the journal
pub row_there : (orders : ObjectId → ℕ → List Order) (journal : List (ℕ × QueueNote)) (ss : List SeatData) (o : SubId) → Stands journal (deeds orders journal) ss
    → option_and_then image_at (seat_of (Sub o) ss) ≡ (if is_live_here (Sub o) journal then image_in (context_after orders journal o) else None)
row_there orders journal ss o stands =
    seat_image (seat_of (Sub o) ss)
    ∙ ap (λ (t : Bool). if t then image_in (context_in (Sub o) ss) else None) (live_there journal (deeds orders journal) ss (Sub o) stands)
    ∙ ap (λ (c : ContextData). if is_live_here (Sub o) journal then image_in c else None) (context_there orders journal ss o stands)

-- an image that is ok is its sender's record, where its context is so
record_of : (bases : ℕ → List FieldData) (updates : ℕ → List (List FieldData)) (c : ContextData) → (quality_in c.phase ≡ quality.Ok → IsSendersRecord bases updates c)
    → (live : Bool) → IfSome (if live then image_in c else None) (λ image. IsRecord bases updates image)
record_of bases updates c law false = tt
record_of bases updates c law true = go c.phase refl
  where
    go : (p : Phase) → c.phase ≡ p → IfSome (image_in c) (λ image. IsRecord bases updates image)
    go Await is = subst (λ (x : Option (ImageHead × List FieldData)). IfSome x (λ image. IsRecord bases updates image)) (sym (ap (λ (p : Phase). image_in (record c { phase = p })) is)) tt
    go LiveOk is = subst (λ (x : Option (ImageHead × List FieldData)). IfSome x (λ image. IsRecord bases updates image)) (sym (ap (λ (p : Phase). image_in (record c { phase = p })) is)) (λ ok. law (ap quality_in is))
    go LiveKept is = subst (λ (x : Option (ImageHead × List FieldData)). IfSome x (λ image. IsRecord bases updates image)) (sym (ap (λ (p : Phase). image_in (record c { phase = p })) is)) (λ ok. law (ap quality_in is))
    go LiveStale is = subst (λ (x : Option (ImageHead × List FieldData)). IfSome x (λ image. IsRecord bases updates image)) (sym (ap (λ (p : Phase). image_in (record c { phase = p })) is)) (λ ok. cc ok)

context_law : (bases : ℕ → List FieldData) (updates : ℕ → List (List FieldData)) (made : Option Make) (ms : List MarketMsg) → AllByRecursion (IsGenuine bases updates) ms
    → quality_in (context_of made ms).phase ≡ quality.Ok → IsSendersRecord bases updates (context_of made ms)
context_law bases updates (Some (make.Sub kind cache strategy)) ms genuine = image_law bases updates strategy kind cache ms genuine
context_law bases updates (Some make.Timer) ms genuine = image_law bases updates One Basic 0 ms genuine
context_law bases updates (Some make.Inbox) ms genuine = image_law bases updates One Basic 0 ms genuine
context_law bases updates None ms genuine = image_law bases updates One Basic 0 ms genuine

pub row_record : (orders : ObjectId → ℕ → List Order) (journal : List (ℕ × QueueNote)) (o : SubId) (bases : ℕ → List FieldData) (updates : ℕ → List (List FieldData))
    → AllByRecursion (IsGenuine bases updates) (messages_of o (deeds orders journal))
    → IfSome (if is_live_here (Sub o) journal then image_in (context_after orders journal o) else None) (λ image. IsRecord bases updates image)
row_record orders journal o bases updates genuine =
    record_of bases updates (context_after orders journal o)
    (context_law bases updates (first_said (λ (e : ℕ × QueueNote). make_in (Sub o) e.1) journal) (messages_of o (deeds orders journal)) genuine) (is_live_here (Sub o) journal)
