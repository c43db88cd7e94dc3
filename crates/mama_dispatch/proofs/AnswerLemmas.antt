-- What the entries that are served answer.
use Rattle.std.specs.Prelude.{not, map, Option, Some, None, is_some, if◌then◌else◌}
use Rattle.std.specs.Option.{option_and_then}
use Rattle.std.proofs.Common.{◌≡◌, ℕ, suc, ◌+◌, Bool, true, false, ◌&&◌, List, [], ◌∷◌, ◌++◌, length, refl, ap, sym, ◌∙◌, subst}
use Rattle.mama_event.specs.declared.ids.SubId.{SubId}
use Rattle.mama_event.specs.declared.ids.ObjectId.{ObjectId}
use Rattle.mama_event.specs.declared.ids.ObjectId.TheVariants.{Sub}
use Rattle.mama_event.specs.declared.market.MarketMsg.{MarketMsg}
use Rattle.mama_event.specs.declared.callback.CallNote.{CallNote}
use Rattle.mama_event.specs.declared.callback.Callback.{Callback}
use Rattle.mama_event.specs.declared.callback.Callback.TheVariants as on
use Rattle.mama_event.specs.declared.order.Order.{Order}
use Rattle.mama_event.specs.declared.to_queue.Make.{Make}
use Rattle.mama_event.specs.declared.to_queue.QueueNote.{QueueNote}
use Rattle.mama_event.specs.declared.to_queue.QueueNote.TheVariants as q
use Rattle.mama_dq.specs.Strategy.{callbacks_of}
use Rattle.mama_event.specs.Listener.{ListenerData}
use Rattle.mama_rules_queue.specs.Queue.{Deed, QueuePut, handled, called, is_destroy, calls_of, is_muted, made, served, is_live}
use Rattle.mama_dispatch.specs.declared.turn.Turn.{Turn}
use Rattle.mama_dispatch.specs.declared.turn.Turn.TheVariants as turn
use Rattle.mama_dispatch.specs.Journals.{born, is_born, notes_of}
use Rattle.mama_dispatch.specs.Seats.{SeatData, has_seat, listener_in, is_muted_in, context_in, at, with_room, with_listener, Fits}
use Rattle.mama_dispatch.specs.Standing.{Stands}
use Rattle.mama_dispatch.specs.Making.{Ended, WasTold, Delivered}
use Rattle.mama_dispatch.specs.Hearing.{HasHeard, HeardSince, HeardAt}
use Rattle.mama_dispatch.specs.Answering.{told_or_muted, Answers}
use Rattle.mama_dispatch.proofs.DeedLemmas.{same_object-refl}
use Rattle.mama_dispatch.proofs.SeatLemmas.{found}
use Rattle.mama_dispatch.proofs.PlaceLemmas.{apart_kept, at_object}
use Rattle.mama_dispatch.proofs.CallLemmas.{seat_from}
use Rattle.mama_dispatch.proofs.ArmLemmas.{gone_deed, gone_seated}
use Rattle.mama_dispatch.proofs.BirthLemmas.{unbegun, seated_has}
use Rattle.mama_dispatch.proofs.ServeLemmas.{IsTelling, fits_change, stands_room, listener_room, served_delivered, muted_is}
use Rattle.mama_dispatch.proofs.KeepLemmas.{kept_room, kept_once, seat_at}

-- HOW MANY CALLBACKS

-- the callbacks of an object that the rules make are all its own
pub made_all : (orders : ObjectId → ℕ → List Order) (o : ObjectId) (ds : List Deed) (cs : List Callback)
    → length (calls_of o (made orders o ds cs)) ≡ length (made orders o ds cs)
made_all orders o ds [] = refl
made_all orders o ds (c ∷ cs) =
    let os : List Order = orders o (length (calls_of o ds) + 1) in
    let d : Deed = called o c os in
    elim (is_muted o ds && not (is_destroy c)) as
    (λ t. length (calls_of o (if t then made orders o ds cs else d ∷ made orders o (ds ++ d ∷ []) cs)) ≡ length (if t then made orders o ds cs else d ∷ made orders o (ds ++ d ∷ []) cs)) [
      | true ↦ made_all orders o ds cs
      | false ↦
          ap (λ (t : Bool). length ((if t then (c, os) ∷ [] else []) ++ calls_of o (made orders o (ds ++ d ∷ []) cs))) (same_object-refl o)
          ∙ ap suc (made_all orders o (ds ++ d ∷ []) cs)
    ]

-- one callback of an object that is not muted
one_call : (orders : ObjectId → ℕ → List Order) (o : ObjectId) (ds : List Deed) (c : Callback) → is_muted o ds ≡ false → length (calls_of o (made orders o ds (c ∷ []))) ≡ 1
one_call orders o ds c loud =
    made_all orders o ds (c ∷ [])
    ∙ ap (λ (t : Bool). length (if t && not (is_destroy c) then [] else called o c (orders o (length (calls_of o ds) + 1)) ∷ [])) loud

-- ANSWERS

told_so : {L : Type 0} (o : ObjectId) (muted : Bool) (n k : ℕ) → muted ≡ false → n ≡ k → told_or_muted {L = L} o false n ≡ told_or_muted o muted k
told_so {L} o muted n k loud same = ap (λ (m : ℕ). told_or_muted {L = L} o false m) same ∙ sym (ap (λ (t : Bool). told_or_muted {L = L} o t k) loud)

muted_so : {L : Type 0} (o : ObjectId) (muted : Bool) (k : ℕ) → muted ≡ true → told_or_muted {L = L} o true k ≡ told_or_muted o muted k
muted_so {L} o muted k quiet = sym (ap (λ (t : Bool). told_or_muted {L = L} o t k) quiet)

pub answers_created : {L : Type 0} (view : L → ListenerData) (slot : ℕ) (o : ObjectId) (make : Make) (tag : ObjectId) (before after : List SeatData)
    → has_seat o before ≡ false → Answers view (q.Create slot o make tag) before after (turn.Called 1)
answers_created {L} view slot o make tag before after none = λ orders journal ds middle apart fits stands.
    let unborn : is_born o journal ≡ false = sym (seated_has (is_live ds) ds o (born journal) before stands.seated) ∙ none in
    ap (λ (n : ℕ). told_or_muted {L = L} o false n) (sym (one_call orders o ds on.Create (unbegun o ds (stands.quiet o unborn)).1))

pub answers_delivered : {L : Type 0} (view : L → ListenerData) (slot : ℕ) (s : SubId) (m : MarketMsg) (before after : List SeatData) (pb pa : List QueuePut) (n : ℕ)
    → Delivered s m before after pb pa n → is_some (listener_in (Sub s) before) ≡ true → is_muted_in (Sub s) before ≡ false
    → Answers view (q.Deliver slot s m) before after (turn.Called n)
answers_delivered {L} view slot s m before after pb pa n delivered here unmuted = λ orders journal ds middle apart fits stands.
    let es : List Deed = ds ++ handled s m ∷ [] in
    let cs : List Callback = callbacks_of (context_in (Sub s) before) m in
    told_so {L = L} (Sub s) (is_muted (Sub s) ds) n (length (calls_of (Sub s) (served orders journal ds (q.Deliver slot s m)))) (muted_is journal ds before (Sub s) stands here ∙ unmuted)
    ((delivered.made orders (born journal) ds fits stands.seated).count
    ∙ sym (ap (λ (xs : List Deed). length (calls_of (Sub s) xs)) (served_delivered orders journal ds slot s m before here unmuted stands) ∙ made_all orders (Sub s) es cs))

-- what may only tell its object one thing is answered by whether that was told
pub answers_what_was_told : {L : Type 0} (note : QueueNote) (o : ObjectId) (c : Callback) (before after : List SeatData) (pb pa : List QueuePut) (answer : Turn L)
    → IsTelling note o c → is_some (listener_in o before) ≡ true → WasTold o c before after pb pa answer
    → (orders : ObjectId → ℕ → List Order) (journal : List (ℕ × QueueNote)) (ds : List Deed) → Stands journal ds before
    → answer ≡ told_or_muted o (is_muted o ds) (length (calls_of o (served orders journal ds note)))
answers_what_was_told {L} note o c before after pb pa answer telling here (WasTold.called unmuted calls is) = λ orders journal ds stands.
    let loud : is_muted o ds ≡ false = muted_is journal ds before o stands here ∙ unmuted in
    is ∙ told_so {L = L} o (is_muted o ds) 1 (length (calls_of o (served orders journal ds note))) loud
    (sym (ap (λ (xs : List Deed). length (calls_of o xs)) (telling.serves orders journal ds) ∙ one_call orders o ds c loud))
answers_what_was_told {L} note o c before after pb pa answer telling here (WasTold.muted quiet same none is) = λ orders journal ds stands.
    is ∙ muted_so {L = L} o (is_muted o ds) (length (calls_of o (served orders journal ds note))) (muted_is journal ds before o stands here ∙ quiet)

pub mutes_delivered : {L : Type 0} (view : L → ListenerData) (slot : ℕ) (s : SubId) (m : MarketMsg) (ss : List SeatData)
    → is_some (listener_in (Sub s) ss) ≡ true → is_muted_in (Sub s) ss ≡ true → Answers view (q.Deliver slot s m) ss ss (turn.Muted (Sub s))
mutes_delivered {L} view slot s m ss here muted = λ orders journal ds middle apart fits stands.
    muted_so {L = L} (Sub s) (is_muted (Sub s) ds) (length (calls_of (Sub s) (served orders journal ds (q.Deliver slot s m)))) (muted_is journal ds ss (Sub s) stands here ∙ muted)

-- THE LISTENER THAT IS HANDED BACK

pub answers_ended : {L : Type 0} (view : L → ListenerData) (slot : ℕ) (o : ObjectId) (l : L) (before after : List SeatData) (pb pa : List QueuePut)
    → Ended o (view l) before after pb pa → is_some (listener_in o before) ≡ true → Answers view (q.Gone slot o) before after (turn.Ended o l)
answers_ended {L} view slot o l before after pb pa ended here = λ orders journal ds last apart fits stands.
    let roomy : List SeatData = map (at o (with_room ended.room)) before in
    let roomy_here : is_some (listener_in o roomy) ≡ true = ap is_some (listener_room o ended.room before) ∙ here in
    let roomy_stands : Stands journal ds roomy = stands_room journal ds o ended.room before stands in
    let middle_fits : Fits orders ended.middle = fits_change orders o (with_listener None) ended.middle (λ s. refl) (λ s. refl) (subst (Fits orders) ended.seats fits) in
    let es : List Deed = ds ++ called o on.Destroy ended.once.orders ∷ [] in
    let one : served orders journal ds (q.Gone slot o) ≡ called o on.Destroy ended.once.orders ∷ [] = gone_deed orders journal ds slot o roomy ended.middle pb pa ended.once roomy_here middle_fits roomy_stands in
    let has = seat_from o ended.middle (ap is_some ended.left) in
    let f = found (is_live ds) es (born journal) ended.middle o has.seat (gone_seated orders journal ds o roomy ended.middle pb pa ended.once roomy_here roomy_stands) has.is in
    let there : has.seat.listener ≡ Some (view l) = sym (ap (λ (x : Option SeatData). option_and_then (λ (s : SeatData). s.listener) x) has.is) ∙ ended.left in
    let calls : has.seat.calls ≡ notes_of o (ds ++ served orders journal ds (q.Gone slot o)) = f.calls ∙ ap (λ (xs : List Deed). notes_of o (ds ++ xs)) (sym one) in
    record {
      listener = l;
      is = refl;
      heard = λ came heard.
          let roomy_heard : HeardAt o came roomy = (kept_room o ended.room before).heard o came apart heard in
          let all : HeardAt o came ended.middle =
          (kept_once o on.Destroy roomy ended.middle pb pa ended.once).heard o came (apart_kept (at o (with_room ended.room)) before (at_object o (with_room ended.room) (λ s. refl)) apart) roomy_heard in
          let since : HasHeard has.seat.calls came (view l) =
          subst (HeardSince has.seat.calls came) there (seat_at (λ s. HeardSince s.calls came s.listener) o ended.middle has.seat all has.is) in
          subst (λ (ns : List CallNote). HasHeard ns came (view l)) calls since;
    }
