-- What the calls on seats are of the entries that they serve.
use Rattle.std.specs.Prelude.{not, map, Option, Some, None, is_some, Result, Ok, Err, OnErr, OnOk, IfOk, if◌then◌else◌}
use Rattle.std.specs.List.{flat_map}
use Rattle.std.specs.Option.{option_map_or, option_and_then}
use Rattle.std.proofs.Common.{◌≡◌, ℕ, ◌+◌, Bool, true, false, ◌&&◌, List, [], ◌∷◌, ◌++◌, length, refl, ap, sym, ◌∙◌, subst, append-nil, append_assoc}
use Rattle.std.proofs.lemmas.Bool.{and_from, and_parts}
use Rattle.mama_journal.specs.Journal.{first_said}
use Rattle.mama_event.specs.declared.ids.SubId.{SubId}
use Rattle.mama_event.specs.declared.ids.ObjectId.{ObjectId}
use Rattle.mama_event.specs.declared.ids.TimerId.{TimerId}
use Rattle.mama_event.specs.declared.ids.InboxId.{InboxId}
use Rattle.mama_event.specs.declared.ids.ObjectId.TheVariants.{Sub, Timer, Inbox}
use Rattle.mama_event.specs.declared.market.MsgKind.{MsgKind}
use Rattle.mama_msg.specs.Field.{FieldData}
use Rattle.mama_event.specs.Arrival.{code_of}
use Rattle.mama_event.specs.declared.market.MarketMsg.{MarketMsg}
use Rattle.mama_event.specs.declared.callback.CallNote.{CallNote}
use Rattle.mama_event.specs.declared.callback.Callback.{Callback}
use Rattle.mama_event.specs.declared.callback.Callback.TheVariants as on
use Rattle.mama_event.specs.declared.order.Order.{Order}
use Rattle.mama_event.specs.declared.to_queue.Make.{Make}
use Rattle.mama_event.specs.declared.to_queue.QueueNote.{QueueNote}
use Rattle.mama_event.specs.declared.to_queue.QueueNote.TheVariants as q
use Rattle.mama_event.specs.Object.{same_object}
use Rattle.mama_dq.specs.Context.{ContextData, new_context}
use Rattle.mama_dq.specs.Strategy.{callbacks_of}
use Rattle.mama_event.specs.declared.market.SubKind.TheVariants.{Basic}
use Rattle.mama_event.specs.Listener.{ListenerData}
use Rattle.mama_event.specs.declared.shape.Strategy.TheVariants.{One}
use Rattle.mama_rules_queue.specs.Queue.{Deed, QueuePut, handled, called, is_create, is_destroy, calls_of, is_muted, make_in, context_of, messages_of, made, served, puts_of, is_live}
use Rattle.mama_dispatch.specs.Journals.{Born, born}
use Rattle.mama_dispatch.specs.Seats.{SeatData, seat_of, has_seat, listener_in, is_muted_in, context_in, room_in, stepped, at, with_room, with_listener, new_seat, AreOrders, Fits}
use Rattle.mama_dispatch.specs.Seating.{is_plain, SeatAt, Seated, CallsMade}
use Rattle.mama_dispatch.specs.Standing.{Stands, Serves}
use Rattle.mama_dispatch.specs.declared.turn.Turn.{Turn}
use Rattle.mama_dispatch.specs.Making.{Created, Ended, WasTold, Delivered}
use Rattle.mama_dispatch.proofs.SeatLemmas.{seated_map, seated_here, seat_stepped, found}
use Rattle.mama_dispatch.proofs.CallLemmas.{seat_from, once_fits}
use Rattle.mama_dispatch.proofs.CallBound.{calls_plain}
use Rattle.mama_dispatch.proofs.ArmLemmas.{IsMiddle, leads_none, leads_handled, middle_deliver, stands_middle, seat_born, arm_called, arm_gone, first_make}
use Rattle.mama_dispatch.proofs.BirthLemmas.{seated_has, seat_last, arm_created}
use Rattle.mama_dispatch.proofs.DeedLemmas.{same_object-refl, live_handled}

-- a change that leaves the objects and the callbacks leaves what fits
pub fits_change : (orders : ObjectId → ℕ → List Order) (o : ObjectId) (f : SeatData → SeatData) (ss : List SeatData)
    → ((s : SeatData) → (f s).object ≡ s.object) → ((s : SeatData) → (f s).calls ≡ s.calls)
    → Fits orders (map (at o f) ss) → Fits orders ss
fits_change orders o f [] objects calls fits = tt
fits_change orders o f (s ∷ ss) objects calls fits = (
  elim (same_object o s.object) as (λ t. AreOrders (orders (if t then f s else s).object) 0 (if t then f s else s).calls → AreOrders (orders s.object) 0 s.calls) [
    | true ↦ λ all. subst (λ (x : ObjectId). AreOrders (orders x) 0 s.calls) (objects s) (subst (λ (ns : List CallNote). AreOrders (orders (f s).object) 0 ns) (calls s) all)
    | false ↦ λ all. all
  ] fits.0,
  fits_change orders o f ss objects calls fits.1,
)

fits_front : (orders : ObjectId → ℕ → List Order) (ss : List SeatData) (s : SeatData) → Fits orders (ss ++ s ∷ []) → Fits orders ss
fits_front orders [] s fits = tt
fits_front orders (t ∷ ss) s fits = (fits.0, fits_front orders ss s fits.1)

-- room bears on nothing
seat_room : (h : ObjectId → Bool) (ds : List Deed) (o : ObjectId) (n : ℕ) (b : Born) (s : SeatData) → SeatAt h ds b s → SeatAt h ds b (at o (with_room n) s)
seat_room h ds o n b s seat = elim (same_object o s.object) as (λ t. SeatAt h ds b (if t then with_room n s else s)) [
  | true ↦ record { object = seat.object; listener = seat.listener; muted = seat.muted; context = seat.context; calls = seat.calls }
  | false ↦ seat
]

pub seated_room : (h : ObjectId → Bool) (ds : List Deed) (o : ObjectId) (n : ℕ) (bs : List Born) (ss : List SeatData) → Seated h ds bs ss → Seated h ds bs (map (at o (with_room n)) ss)
seated_room h ds o n bs ss seated = seated_map h h ds ds (at o (with_room n)) (seat_room h ds o n) bs ss seated

pub seated_stepped : (ds : List Deed) (o : SubId) (m : MarketMsg) (bs : List Born) (ss : List SeatData) → Seated (is_live ds) ds bs ss
    → Seated (is_live (ds ++ handled o m ∷ [])) (ds ++ handled o m ∷ []) bs (map (at (Sub o) (stepped m)) ss)
seated_stepped ds o m bs ss seated =
    seated_here (is_live ds) (is_live (ds ++ handled o m ∷ [])) (ds ++ handled o m ∷ []) (λ x. sym (live_handled x ds o m)) bs (map (at (Sub o) (stepped m)) ss)
    (seated_map (is_live ds) (is_live ds) ds (ds ++ handled o m ∷ []) (at (Sub o) (stepped m)) (seat_stepped (is_live ds) ds o m) bs ss seated)

pub stands_room : (journal : List (ℕ × QueueNote)) (ds : List Deed) (o : ObjectId) (n : ℕ) (ss : List SeatData) → Stands journal ds ss → Stands journal ds (map (at o (with_room n)) ss)
stands_room journal ds o n ss stands = record {
  seated = seated_map (is_live ds) (is_live ds) ds ds (at o (with_room n)) (seat_room (is_live ds) ds o n) (born journal) ss stands.seated;
  live = stands.live;
  quiet = stands.quiet;
  silent = stands.silent;
}

-- what a change of an object's seat leaves of it
pub kept : {X : Type 0} (o : ObjectId) (f : SeatData → SeatData) (F : Option SeatData → X) → ((s : SeatData) → (f s).object ≡ s.object) → ((s : SeatData) → F (Some (f s)) ≡ F (Some s))
    → (ss : List SeatData) → F (seat_of o (map (at o f) ss)) ≡ F (seat_of o ss)
kept o f F objects same [] = refl
kept o f F objects same (s ∷ ss) =
    elim (same_object o s.object) as
    (λ t. same_object o s.object ≡ t → F (seat_of o ((if t then f s else s) ∷ map (at o f) ss)) ≡ F (if t then Some s else seat_of o ss)) [
      | true ↦ λ this. ap (λ (b : Bool). F (if b then Some (f s) else seat_of o (map (at o f) ss))) (ap (same_object o) (objects s) ∙ this) ∙ same s
      | false ↦ λ other. ap (λ (b : Bool). F (if b then Some s else seat_of o (map (at o f) ss))) other ∙ kept o f F objects same ss
    ] refl

pub listener_room : (o : ObjectId) (n : ℕ) (ss : List SeatData) → listener_in o (map (at o (with_room n)) ss) ≡ listener_in o ss
listener_room o n ss = kept o (with_room n) (λ (s : Option SeatData). option_and_then (λ (x : SeatData). x.listener) s) (λ s. refl) (λ s. refl) ss

pub muted_room : (o : ObjectId) (n : ℕ) (ss : List SeatData) → is_muted_in o (map (at o (with_room n)) ss) ≡ is_muted_in o ss
muted_room o n ss = kept o (with_room n) (λ (s : Option SeatData). option_map_or (λ (x : SeatData). x.muted) s false) (λ s. refl) (λ s. refl) ss

pub context_room : (o : ObjectId) (n : ℕ) (ss : List SeatData) → context_in o (map (at o (with_room n)) ss) ≡ context_in o ss
context_room o n ss = kept o (with_room n) (λ (s : Option SeatData). option_map_or (λ (x : SeatData). x.context) s (new_context One Basic 0)) (λ s. refl) (λ s. refl) ss

pub listener_stepped : (o : ObjectId) (m : MarketMsg) (ss : List SeatData) → listener_in o (map (at o (stepped m)) ss) ≡ listener_in o ss
listener_stepped o m ss = kept o (stepped m) (λ (s : Option SeatData). option_and_then (λ (x : SeatData). x.listener) s) (λ s. refl) (λ s. refl) ss

pub room_stepped : (o : ObjectId) (m : MarketMsg) (ss : List SeatData) → room_in o (map (at o (stepped m)) ss) ≡ room_in o ss
room_stepped o m ss = kept o (stepped m) (λ (s : Option SeatData). option_map_or (λ (x : SeatData). x.room) s 0) (λ s. refl) (λ s. refl) ss

-- all but the room is the same
pub same_room : (o : ObjectId) (n : ℕ) (ss : List SeatData) → map (with_room 0) (map (at o (with_room n)) ss) ≡ map (with_room 0) ss
same_room o n [] = refl
same_room o n (s ∷ ss) =
    ap (λ (t : SeatData). t ∷ map (with_room 0) (map (at o (with_room n)) ss)) (elim (same_object o s.object) as (λ b. with_room 0 (if b then with_room n s else s) ≡ with_room 0 s) [ true ↦ refl | false ↦ refl ])
    ∙ ap (λ (ts : List SeatData). with_room 0 s ∷ ts) (same_room o n ss)

-- what holds anyhow holds at an error
pub on_err : {T E P : Type 0} (r : Result T E) → P → OnErr r P
on_err (Ok x) p = tt
on_err (Err e) p = p

-- the seat of an object that was just made
pub seat_new : (o : ObjectId) (ss : List SeatData) (s : SeatData) → has_seat o ss ≡ false → s.object ≡ o → seat_of o (ss ++ s ∷ []) ≡ Some s
seat_new o ss s none same = seat_last o ss s none (ap (same_object o) same ∙ same_object-refl o)

-- a Create
pub serves_created : (slot : ℕ) (o : ObjectId) (make : Make) (tag : ObjectId) (l : ListenerData) (before after : List SeatData) (pb pa : List QueuePut)
    → Created o make l before after pb pa → has_seat o before ≡ false → Serves (q.Create slot o make tag) before after pb pa
serves_created slot o make tag l before after pb pa made none = record {
  fits = λ orders fits. fits_front orders before (new_seat o make l made.room) (once_fits o on.Create (before ++ new_seat o make l made.room ∷ []) after pb pa made.once orders fits);
  serves = λ orders port journal ds fits stands.
      arm_created orders port journal ds slot o make tag l made.room before after pb pa made.once (sym (seated_has (is_live ds) ds o (born journal) before stands.seated) ∙ none) fits stands;
}

-- a Gone
pub serves_ended : (slot : ℕ) (o : ObjectId) (l : ListenerData) (before after : List SeatData) (pb pa : List QueuePut)
    → Ended o l before after pb pa → is_some (listener_in o before) ≡ true → Serves (q.Gone slot o) before after pb pa
serves_ended slot o l before after pb pa ended here =
    let roomy : List SeatData = map (at o (with_room ended.room)) before in
    let middle_fits : (orders : ObjectId → ℕ → List Order) → Fits orders after → Fits orders ended.middle = λ (orders : ObjectId → ℕ → List Order) (fits : Fits orders after).
    fits_change orders o (with_listener None) ended.middle (λ s. refl) (λ s. refl) (subst (Fits orders) ended.seats fits) in
    record {
      fits = λ orders fits. fits_change orders o (with_room ended.room) before (λ s. refl) (λ s. refl) (once_fits o on.Destroy roomy ended.middle pb pa ended.once orders (middle_fits orders fits));
      serves = λ orders port journal ds fits stands.
          arm_gone orders port journal ds slot o roomy ended.middle after pb pa ended.once ended.seats (ap is_some (listener_room o ended.room before) ∙ here) (middle_fits orders fits) (stands_room journal ds o ended.room before stands);
    }

-- the deeds of a message of a subscription that is not muted
pub served_delivered : (orders : ObjectId → ℕ → List Order) (journal : List (ℕ × QueueNote)) (ds : List Deed) (slot : ℕ) (s : SubId) (m : MarketMsg) (before : List SeatData)
    → is_some (listener_in (Sub s) before) ≡ true → is_muted_in (Sub s) before ≡ false → Stands journal ds before
    → served orders journal ds (q.Deliver slot s m) ≡ handled s m ∷ made orders (Sub s) (ds ++ handled s m ∷ []) (callbacks_of (context_in (Sub s) before) m)
served_delivered orders journal ds slot s m before here unmuted stands =
    let has = seat_from (Sub s) before here in
    let f = found (is_live ds) ds (born journal) before (Sub s) has.seat stands.seated has.is in
    let es : List Deed = ds ++ handled s m ∷ [] in
    let loud : is_muted (Sub s) ds ≡ false = sym f.muted ∙ sym (ap (λ (x : Option SeatData). option_map_or (λ (t : SeatData). t.muted) x false) has.is) ∙ unmuted in
    let context : context_of (first_said (λ (e : ℕ × QueueNote). make_in (Sub s) e.1) journal) (messages_of s ds) ≡ context_in (Sub s) before =
    ap (λ (k : Option Make). context_of k (messages_of s ds)) (first_make (Sub s) journal ∙ f.made)
    ∙ sym f.context ∙ sym (ap (λ (x : Option SeatData). option_map_or (λ (t : SeatData). t.context) x (new_context One Basic 0)) has.is) in
    ap (λ (t : Bool). if t then [] else handled s m ∷ made orders (Sub s) es (callbacks_of (context_of (first_said (λ (e : ℕ × QueueNote). make_in (Sub s) e.1) journal) (messages_of s ds)) m)) loud
    ∙ ap (λ (c : ContextData). handled s m ∷ made orders (Sub s) es (callbacks_of c m)) context

-- a message of a subscription that is not muted
pub serves_delivered : (slot : ℕ) (s : SubId) (m : MarketMsg) (before after : List SeatData) (pb pa : List QueuePut) (n : ℕ)
    → Delivered s m before after pb pa n → is_some (listener_in (Sub s) before) ≡ true → is_muted_in (Sub s) before ≡ false
    → Serves (q.Deliver slot s m) before after pb pa
serves_delivered slot s m before after pb pa n delivered here unmuted = record {
  fits = delivered.fits;
  serves = λ orders port journal ds fits stands.
      let es : List Deed = ds ++ handled s m ∷ [] in
      let cs : List Callback = callbacks_of (context_in (Sub s) before) m in
      let deeds : served orders journal ds (q.Deliver slot s m) ≡ handled s m ∷ made orders (Sub s) es cs = served_delivered orders journal ds slot s m before here unmuted stands in
      arm_called orders port journal ds es (q.Deliver slot s m) (Sub s) cs before after pb pa n (middle_deliver slot s m) (leads_handled s ds m)
      (ap (λ (xs : List Deed). ds ++ xs) deeds ∙ sym (append_assoc ds (handled s m ∷ []) (made orders (Sub s) es cs)))
      (ap (flat_map puts_of) deeds) stands (seat_born journal ds before (Sub s) stands.seated here) (calls_plain (context_in (Sub s) before) m)
      (delivered.made orders (born journal) ds fits stands.seated);
}

-- an entry that may only tell its object one thing
pub record IsTelling (note : QueueNote) (o : ObjectId) (c : Callback) : Type 0 where
  pub middle : IsMiddle note
  pub serves : (orders : ObjectId → ℕ → List Order) (journal : List (ℕ × QueueNote)) (ds : List Deed) → served orders journal ds note ≡ made orders o ds (c ∷ [])
  pub plain : is_plain c ≡ true

pub serves_told : (note : QueueNote) (o : ObjectId) (c : Callback) (before after : List SeatData) (pb pa : List QueuePut) (n : ℕ)
    → IsTelling note o c → is_some (listener_in o before) ≡ true
    → ((orders : ObjectId → ℕ → List Order) → Fits orders after → Fits orders before)
    → ((orders : ObjectId → ℕ → List Order) (bs : List Born) (ds : List Deed) → Fits orders after → Seated (is_live ds) ds bs before → CallsMade orders bs ds o (c ∷ []) after pb pa n)
    → Serves note before after pb pa
serves_told note o c before after pb pa n telling here fits calls = record {
  fits = fits;
  serves = λ orders port journal ds fit stands.
      arm_called orders port journal ds ds note o (c ∷ []) before after pb pa n telling.middle (leads_none o ds)
      (ap (λ (xs : List Deed). ds ++ xs) (telling.serves orders journal ds)) (ap (flat_map puts_of) (telling.serves orders journal ds))
      stands (seat_born journal ds before o stands.seated here) (and_from (is_plain c) true telling.plain refl) (calls orders (born journal) ds fit stands.seated);
}

-- an entry that does nothing
pub serves_nothing : (note : QueueNote) (ss : List SeatData) (puts : List QueuePut) → IsMiddle note
    → ((orders : ObjectId → ℕ → List Order) (journal : List (ℕ × QueueNote)) (ds : List Deed) → Stands journal ds ss → served orders journal ds note ≡ [])
    → Serves note ss ss puts puts
serves_nothing note ss puts middle silent = record {
  fits = λ orders fits. fits;
  serves = λ orders port journal ds fits stands.
      let none : served orders journal ds note ≡ [] = silent orders journal ds stands in
      record {
        stands = subst (λ (xs : List Deed). Stands (journal ++ (port, note) ∷ []) (ds ++ xs) ss) (sym none)
            (subst (λ (es : List Deed). Stands (journal ++ (port, note) ∷ []) es ss) (sym (append-nil ds))
            (stands_middle journal port note ds ds ss ss middle stands stands.seated (λ x. refl) (λ x h. refl) (λ x h. refl)));
        puts = sym (append-nil puts) ∙ sym (ap (λ (xs : List Deed). puts ++ flat_map puts_of xs) none);
      };
}

-- the object of a seat is muted where the seat is
pub muted_is : (journal : List (ℕ × QueueNote)) (ds : List Deed) (ss : List SeatData) (o : ObjectId) → Stands journal ds ss → is_some (listener_in o ss) ≡ true → is_muted o ds ≡ is_muted_in o ss
muted_is journal ds ss o stands here =
    let has = seat_from o ss here in
    let f = found (is_live ds) ds (born journal) ss o has.seat stands.seated has.is in
    sym f.muted ∙ sym (ap (λ (x : Option SeatData). option_map_or (λ (t : SeatData). t.muted) x false) has.is)

pub muted_says : (journal : List (ℕ × QueueNote)) (ds : List Deed) (ss : List SeatData) (o : ObjectId) → Stands journal ds ss → is_some (listener_in o ss) ≡ true → is_muted_in o ss ≡ true → is_muted o ds ≡ true
muted_says journal ds ss o stands here muted = muted_is journal ds ss o stands here ∙ muted

-- a message, or what is told, of a muted object
pub serves_undelivered : (slot : ℕ) (s : SubId) (m : MarketMsg) (ss : List SeatData) (puts : List QueuePut)
    → is_some (listener_in (Sub s) ss) ≡ true → is_muted_in (Sub s) ss ≡ true → Serves (q.Deliver slot s m) ss ss puts puts
serves_undelivered slot s m ss puts here muted =
    serves_nothing (q.Deliver slot s m) ss puts (middle_deliver slot s m)
    (λ orders journal ds stands. ap (λ (t : Bool). if t then [] else handled s m ∷ made orders (Sub s) (ds ++ handled s m ∷ []) (callbacks_of (context_of (first_said (λ (e : ℕ × QueueNote). make_in (Sub s) e.1) journal) (messages_of s ds)) m)) (muted_says journal ds ss (Sub s) stands here muted))

pub serves_untold : (note : QueueNote) (o : ObjectId) (c : Callback) (ss : List SeatData) (puts : List QueuePut) → IsTelling note o c
    → is_some (listener_in o ss) ≡ true → is_muted_in o ss ≡ true → Serves note ss ss puts puts
serves_untold note o c ss puts telling here muted =
    serves_nothing note ss puts telling.middle
    (λ orders journal ds stands.
    telling.serves orders journal ds
    ∙ ap (λ (t : Bool). if t && not (is_destroy c) then [] else called o c (orders o (length (calls_of o ds) + 1)) ∷ []) (muted_says journal ds ss o stands here muted)
    ∙ ap (λ (t : Bool). if t then [] else called o c (orders o (length (calls_of o ds) + 1)) ∷ []) (and_parts (not (is_create c)) (not (is_destroy c)) telling.plain).1)

-- THINGS THAT ARE TOLD

pub telling_reply : (slot : ℕ) (i : InboxId) (body copy : List FieldData) → copy ≡ body → IsTelling (q.Reply slot i body) (Inbox i) (on.Reply copy)
telling_reply slot i body copy same =
    subst (λ (fields : List FieldData). IsTelling (q.Reply slot i fields) (Inbox i) (on.Reply copy)) same
    (record { middle = record { none = refl; lives = λ x live. refl }; serves = λ orders journal ds. refl; plain = refl })

pub telling_tick : (slot : ℕ) (t : TimerId) (moment : ℕ) → IsTelling (q.Tick slot t moment) (Timer t) (on.Tick moment)
telling_tick slot t moment = record { middle = record { none = refl; lives = λ x live. refl }; serves = λ orders journal ds. refl; plain = refl }

-- the code of bytes that spell no message
pub telling_bad : (slot : ℕ) (s : SubId) (kind : MsgKind) (sender seq : ℕ) (bytes : List ℕ) (code : ℕ)
    → code ≡ code_of bytes → IsTelling (q.Bad slot s kind sender seq bytes) (Sub s) (on.Error code)
telling_bad slot s kind sender seq bytes code same =
    subst (λ (n : ℕ). IsTelling (q.Bad slot s kind sender seq bytes) (Sub s) (on.Error n)) (sym same)
    (record { middle = record { none = refl; lives = λ x live. refl }; serves = λ orders journal ds. refl; plain = refl })

pub telling_bad_reply : (slot : ℕ) (i : InboxId) (bytes : List ℕ) (code : ℕ) → code ≡ code_of bytes → IsTelling (q.BadReply slot i bytes) (Inbox i) (on.Error code)
telling_bad_reply slot i bytes code same =
    subst (λ (n : ℕ). IsTelling (q.BadReply slot i bytes) (Inbox i) (on.Error n)) (sym same)
    (record { middle = record { none = refl; lives = λ x live. refl }; serves = λ orders journal ds. refl; plain = refl })

-- an entry that may only tell its object one thing was served where that was told, or the object is muted
pub serves_what_was_told : {L : Type 0} (note : QueueNote) (o : ObjectId) (c : Callback) (before after : List SeatData) (pb pa : List QueuePut) (answer : Turn L)
    → IsTelling note o c → is_some (listener_in o before) ≡ true → WasTold o c before after pb pa answer → Serves note before after pb pa
serves_what_was_told note o c before after pb pa answer telling here (WasTold.called loud calls is) =
    serves_told note o c before after pb pa 1 telling here calls.fits calls.made
serves_what_was_told note o c before after pb pa answer telling here (WasTold.muted quiet same none is) =
    subst (λ (ss : List SeatData). Serves note before ss pb pa) (sym same)
    (subst (λ (ps : List QueuePut). Serves note before before pb ps) (sym none) (serves_untold note o c before pb telling here quiet))

-- and so on each answer that a call may give
pub serves_each_told : {L E : Type 0} (r : Result (Turn L) E) (note : QueueNote) (o : ObjectId) (c : Callback) (before after : List SeatData) (pb pa : List QueuePut)
    → IsTelling note o c → is_some (listener_in o before) ≡ true → IfOk r (λ answer. WasTold o c before after pb pa answer) → OnOk r (Serves note before after pb pa)
serves_each_told (Ok answer) note o c before after pb pa telling here was = serves_what_was_told note o c before after pb pa answer telling here was
serves_each_told (Err e) note o c before after pb pa telling here was = tt

-- a Fin
pub serves_fin : (ss : List SeatData) (puts : List QueuePut) → Serves q.Fin ss ss puts puts
serves_fin ss puts = serves_nothing q.Fin ss puts (record { none = refl; lives = λ x live. refl }) (λ orders journal ds stands. refl)
