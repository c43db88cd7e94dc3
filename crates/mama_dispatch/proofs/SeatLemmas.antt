-- What one deed more changes of the seats.
use Rattle.std.specs.Prelude.{not, map, Option, Some, None, is_some, if◌then◌else◌}
use Rattle.std.specs.List.{list_any, flat_map}
use Rattle.std.specs.Option.{option_map_or}
use Rattle.std.proofs.Common.{◌≡◌, ℕ, ◌+◌, Bool, true, false, ◌&&◌, ◌||◌, List, [], ◌∷◌, ◌++◌, length, refl, ap, sym, ◌∙◌, subst, append-nil, append_assoc, arith}
use Rattle.std.proofs.lemmas.List.{length-map}
use Rattle.mama_event.specs.declared.ids.SubId.{SubId}
use Rattle.mama_event.specs.declared.ids.ObjectId.{ObjectId}
use Rattle.mama_event.specs.declared.ids.ObjectId.TheVariants.{Sub}
use Rattle.mama_event.specs.declared.market.MarketMsg.{MarketMsg}
use Rattle.mama_event.specs.declared.callback.CallNote.{CallNote}
use Rattle.mama_event.specs.declared.callback.Callback.{Callback}
use Rattle.mama_event.specs.declared.order.Order.{Order}
use Rattle.mama_event.specs.declared.to_queue.Make.{Make}
use Rattle.mama_event.specs.Object.{same_object}
use Rattle.mama_dq.specs.Context.{ContextData}
use Rattle.mama_dq.specs.Strategy.{after}
use Rattle.mama_event.specs.Listener.{ListenerData}
use Rattle.mama_rules_queue.specs.Queue.{Deed, QueuePut, handled, called, is_create, is_destroy, calls_of, begins_in, is_muted, made, context_of, ends, puts_of, wish_put, order_put, is_live}
use Rattle.mama_dispatch.specs.Journals.{Born, messages_at, noted, notes_of}
use Rattle.mama_dispatch.specs.Seats.{SeatData, seat_of, is_muted_in, at, muted_by_all, called_with, with_listener, stepped, AreOrders, Fits}
use Rattle.mama_dispatch.specs.Seating.{SeatAt, Seated, CallsMade}
use Rattle.mama_dispatch.proofs.DeedLemmas.{same_object-true, muted_more, begins_plain, live_plain, muted_handled, notes_called, notes_other, notes_handled, messages_called, messages_handled, messages_other, context_more}

-- a change of each seat that keeps it what the deeds say
pub seated_map : (h k : ObjectId → Bool) (ds es : List Deed) (f : SeatData → SeatData)
    → ((b : Born) (s : SeatData) → SeatAt h ds b s → SeatAt k es b (f s))
    → (bs : List Born) (ss : List SeatData) → Seated h ds bs ss → Seated k es bs (map f ss)
seated_map h k ds es f step [] [] seated = tt
seated_map h k ds es f step [] (s ∷ ss) seated = absurd seated
seated_map h k ds es f step (b ∷ bs) [] seated = absurd seated
seated_map h k ds es f step (b ∷ bs) (s ∷ ss) seated = (step b s seated.0, seated_map h k ds es f step bs ss seated.1)

-- the same test of life by another name
pub seated_here : (h k : ObjectId → Bool) (ds : List Deed) → ((x : ObjectId) → h x ≡ k x)
    → (bs : List Born) (ss : List SeatData) → Seated h ds bs ss → Seated k ds bs ss
seated_here h k ds same [] [] seated = tt
seated_here h k ds same [] (s ∷ ss) seated = absurd seated
seated_here h k ds same (b ∷ bs) [] seated = absurd seated
seated_here h k ds same (b ∷ bs) (s ∷ ss) seated = (
  record { object = seated.0.object; listener = seated.0.listener ∙ same b.object; muted = seated.0.muted; context = seated.0.context; calls = seated.0.calls },
  seated_here h k ds same bs ss seated.1,
)

-- a callback at one seat
pub seat_called : (h : ObjectId → Bool) (ds : List Deed) (o : ObjectId) (c : Callback) (os : List Order) (l : ListenerData)
    → h o ≡ true → ((x : ObjectId) → h x ≡ (is_live ds x || begins_in x (called o c os)))
    → (b : Born) (s : SeatData) → SeatAt h ds b s → SeatAt h (ds ++ called o c os ∷ []) b (muted_by_all os (at o (called_with c os (Some l)) s))
seat_called h ds o c os l alive live b s seat =
    let d : Deed = called o c os in
    let any : ObjectId → Bool = λ (x : ObjectId). list_any (ends x) os in
    let muted_there : (is_muted b.object ds || (h b.object && any b.object)) ≡ is_muted b.object (ds ++ d ∷ []) =
    ap (λ (t : Bool). is_muted b.object ds || (t && any b.object)) (live b.object) ∙ sym (muted_more b.object false ds d) in
    let context : s.context ≡ context_of (Some b.make) (messages_at b.object (ds ++ d ∷ [])) =
    seat.context ∙ ap (context_of (Some b.make)) (sym (messages_called b.object o ds c os)) in
    elim (same_object o s.object) as (λ t. same_object o s.object ≡ t → SeatAt h (ds ++ d ∷ []) b (muted_by_all os (if t then called_with c os (Some l) s else s))) [
      | true ↦ λ same.
          let object : o ≡ b.object = same_object-true o s.object same ∙ seat.object in
          let there : true ≡ h b.object = sym alive ∙ ap h object in
          record {
            object = seat.object;
            listener = there;
            muted =
                ap (λ (m : Bool). m || (true && any s.object)) seat.muted
                ∙ ap (λ (x : ObjectId). is_muted b.object ds || (true && any x)) seat.object
                ∙ ap (λ (t : Bool). is_muted b.object ds || (t && any b.object)) there
                ∙ muted_there;
            context = context;
            calls =
                ap (λ (ns : List CallNote). ns ++ record { call = c; orders = os } ∷ []) seat.calls
                ∙ sym (notes_called b.object o ds c os (ap (same_object o) (sym seat.object) ∙ same));
          }
      | false ↦ λ other.
          record {
            object = seat.object;
            listener = seat.listener;
            muted =
                ap (λ (m : Bool). m || (is_some s.listener && any s.object)) seat.muted
                ∙ ap (λ (x : ObjectId). is_muted b.object ds || (is_some s.listener && any x)) seat.object
                ∙ ap (λ (t : Bool). is_muted b.object ds || (t && any b.object)) seat.listener
                ∙ muted_there;
            context = context;
            calls = seat.calls ∙ sym (notes_other b.object o ds c os (ap (same_object o) (sym seat.object) ∙ other));
          }
    ] refl

-- a message at one seat
pub seat_stepped : (h : ObjectId → Bool) (ds : List Deed) (o : SubId) (m : MarketMsg)
    → (b : Born) (s : SeatData) → SeatAt h ds b s → SeatAt h (ds ++ handled o m ∷ []) b (at (Sub o) (stepped m) s)
seat_stepped h ds o m b s seat =
    let d : Deed = handled o m in
    let muted : s.muted ≡ is_muted b.object (ds ++ d ∷ []) = seat.muted ∙ sym (muted_handled b.object ds o m) in
    let calls : s.calls ≡ notes_of b.object (ds ++ d ∷ []) = seat.calls ∙ sym (notes_handled b.object ds o m) in
    elim (same_object (Sub o) s.object) as (λ t. same_object (Sub o) s.object ≡ t → SeatAt h (ds ++ d ∷ []) b (if t then stepped m s else s)) [
      | true ↦ λ same.
          let object : Sub o ≡ b.object = same_object-true (Sub o) s.object same ∙ seat.object in
          let messages : messages_at b.object (ds ++ d ∷ []) ≡ messages_at b.object ds ++ m ∷ [] =
          subst (λ (x : ObjectId). messages_at x (ds ++ d ∷ []) ≡ messages_at x ds ++ m ∷ []) object (messages_handled o ds m) in
          record {
            object = seat.object;
            listener = seat.listener;
            muted = muted;
            context =
                ap (λ (c : ContextData). after c m) seat.context
                ∙ sym (ap (context_of (Some b.make)) messages ∙ context_more b.make (messages_at b.object ds) m);
            calls = calls;
          }
      | false ↦ λ other.
          record {
            object = seat.object;
            listener = seat.listener;
            muted = muted;
            context = seat.context ∙ ap (context_of (Some b.make)) (sym (messages_other b.object o ds m (ap (same_object (Sub o)) (sym seat.object) ∙ other)));
            calls = calls;
          }
    ] refl

-- a seat's listener that is taken out
pub seat_emptied : (h k : ObjectId → Bool) (ds : List Deed) (o : ObjectId)
    → k o ≡ false → ((x : ObjectId) → same_object o x ≡ false → k x ≡ h x)
    → (b : Born) (s : SeatData) → SeatAt h ds b s → SeatAt k ds b (at o (with_listener None) s)
seat_emptied h k ds o gone others b s seat =
    elim (same_object o s.object) as (λ t. same_object o s.object ≡ t → SeatAt k ds b (if t then with_listener None s else s)) [
      | true ↦ λ same. record { object = seat.object; listener = sym gone ∙ ap k (same_object-true o s.object same ∙ seat.object); muted = seat.muted; context = seat.context; calls = seat.calls }
      | false ↦ λ other. record { object = seat.object; listener = seat.listener ∙ sym (others b.object (ap (same_object o) (sym seat.object) ∙ other)); muted = seat.muted; context = seat.context; calls = seat.calls }
    ] refl

-- WHAT A SEAT SAYS OF ITS OBJECT

-- how the first of some objects that is this one was made
abbrev pub make_among : ObjectId → List Born → Option Make
make_among o [] = None
make_among o (b ∷ bs) = if same_object o b.object then Some b.make else make_among o bs

-- what the seat of an object says
pub record Found (h : ObjectId → Bool) (ds : List Deed) (bs : List Born) (o : ObjectId) (s : SeatData) : Type 0 where
  pub make : Make
  pub made : make_among o bs ≡ Some make
  pub object : s.object ≡ o
  pub listener : is_some s.listener ≡ h o
  pub muted : s.muted ≡ is_muted o ds
  pub context : s.context ≡ context_of (Some make) (messages_at o ds)
  pub calls : s.calls ≡ notes_of o ds

pub found : (h : ObjectId → Bool) (ds : List Deed) (bs : List Born) (ss : List SeatData) (o : ObjectId) (s : SeatData)
    → Seated h ds bs ss → seat_of o ss ≡ Some s → Found h ds bs o s
found h ds [] [] o s seated is = cc
found h ds [] (t ∷ ts) o s seated is = absurd seated
found h ds (b ∷ bs) [] o s seated is = absurd seated
found h ds (b ∷ bs) (t ∷ ts) o s seated is =
    let seat = seated.0 in
    elim (same_object o t.object) as (λ v. same_object o t.object ≡ v → (if v then Some t else seat_of o ts) ≡ Some s → Found h ds (b ∷ bs) o s) [
      | true ↦ λ same is.
          let this : t ≡ s = cc in
          let object : o ≡ b.object = same_object-true o t.object same ∙ seat.object in
          subst (λ (x : SeatData). Found h ds (b ∷ bs) o x) this
          (record {
            make = b.make;
            made = ap (λ (v : Bool). if v then Some b.make else make_among o bs) (ap (same_object o) (sym seat.object) ∙ same);
            object = seat.object ∙ sym object;
            listener = seat.listener ∙ ap h (sym object);
            muted = seat.muted ∙ ap (λ (x : ObjectId). is_muted x ds) (sym object);
            context = seat.context ∙ ap (λ (x : ObjectId). context_of (Some b.make) (messages_at x ds)) (sym object);
            calls = seat.calls ∙ ap (λ (x : ObjectId). notes_of x ds) (sym object);
          })
      | false ↦ λ other is.
          let rest = found h ds bs ts o s seated.1 is in
          record {
            make = rest.make;
            made = ap (λ (v : Bool). if v then Some b.make else make_among o bs) (ap (same_object o) (sym seat.object) ∙ other) ∙ rest.made;
            object = rest.object;
            listener = rest.listener;
            muted = rest.muted;
            context = rest.context;
            calls = rest.calls;
          }
    ] refl is

-- ORDERS

-- the orders of one callback more
pub orders_more : (f : ℕ → List Order) (k : ℕ) (ns : List CallNote) (n : CallNote) → AreOrders f k (ns ++ n ∷ [])
    → AreOrders f k ns × (n.orders ≡ f (k + length ns + 1))
orders_more f k [] n all = (tt, all.0 ∙ ap f (omega arith))
orders_more f k (m ∷ ns) n all =
    let rest = orders_more f (k + 1) ns n all.1 in
    ((all.0, rest.0), rest.1 ∙ ap f (omega arith))

-- orders that fit after a callback fitted before it
pub fits_before : (orders : ObjectId → ℕ → List Order) (o : ObjectId) (c : Callback) (os : List Order) (l : Option ListenerData) (ss : List SeatData)
    → Fits orders (map (muted_by_all os) (map (at o (called_with c os l)) ss)) → Fits orders ss
fits_before orders o c os l [] fits = tt
fits_before orders o c os l (s ∷ ss) fits = (
  elim (same_object o s.object) as
      (λ t. AreOrders (orders (muted_by_all os (if t then called_with c os l s else s)).object) 0 (muted_by_all os (if t then called_with c os l s else s)).calls → AreOrders (orders s.object) 0 s.calls) [
        | true ↦ λ all. (orders_more (orders s.object) 0 s.calls (record { call = c; orders = os }) all).0
        | false ↦ λ all. all
      ] fits.0,
  fits_before orders o c os l ss fits.1,
)

-- and the callback's orders are those for its number
pub fits_given : (orders : ObjectId → ℕ → List Order) (o : ObjectId) (c : Callback) (os : List Order) (l : Option ListenerData) (ss : List SeatData) (s : SeatData)
    → seat_of o ss ≡ Some s → Fits orders (map (muted_by_all os) (map (at o (called_with c os l)) ss))
    → os ≡ orders o (length s.calls + 1)
fits_given orders o c os l [] s is fits = cc
fits_given orders o c os l (t ∷ ss) s is fits =
    elim (same_object o t.object) as
    (λ v. same_object o t.object ≡ v → (if v then Some t else seat_of o ss) ≡ Some s
    → AreOrders (orders (muted_by_all os (if v then called_with c os l t else t)).object) 0 (muted_by_all os (if v then called_with c os l t else t)).calls
    → os ≡ orders o (length s.calls + 1)) [
      | true ↦ λ same is all.
          let this : t ≡ s = cc in
          (orders_more (orders t.object) 0 t.calls (record { call = c; orders = os }) all).1
          ∙ ap (λ (x : ObjectId). orders x (0 + length t.calls + 1)) (sym (same_object-true o t.object same))
          ∙ ap (λ (x : SeatData). orders o (0 + length x.calls + 1)) this
          ∙ ap (orders o) (omega arith)
      | false ↦ λ other is all. fits_given orders o c os l ss s is fits.1
    ] refl is fits.0

-- ONE CALLBACK THAT IS NEITHER THE FIRST NOR THE LAST

-- what is known of an object's seat
pub record HasSeat (o : ObjectId) (ss : List SeatData) : Type 0 where
  pub seat : SeatData
  pub is : seat_of o ss ≡ Some seat
  pub here : is_some seat.listener ≡ true

pub one_made : (orders : ObjectId → ℕ → List Order) (bs : List Born) (ds : List Deed) (o : ObjectId) (c : Callback) (os : List Order) (l : ListenerData) (ss : List SeatData) (put_before put_after : List QueuePut)
    → HasSeat o ss → is_create c ≡ false → is_destroy c ≡ false → is_muted_in o ss ≡ false
    → Fits orders (map (muted_by_all os) (map (at o (called_with c os (Some l))) ss))
    → Seated (is_live ds) ds bs ss
    → put_after ≡ put_before ++ wish_put o c ++ map order_put os
    → CallsMade orders bs ds o (c ∷ []) (map (muted_by_all os) (map (at o (called_with c os (Some l))) ss)) put_before put_after 1
one_made orders bs ds o c os l ss put_before put_after has first last unmuted fits seated puts =
    let ss' : List SeatData = map (muted_by_all os) (map (at o (called_with c os (Some l))) ss) in
    let f = found (is_live ds) ds bs ss o has.seat seated has.is in
    let alive : is_live ds o ≡ true = sym f.listener ∙ has.here in
    let number : length has.seat.calls ≡ length (calls_of o ds) = ap length f.calls ∙ length-map (calls_of o ds) noted in
    let given : os ≡ orders o (length (calls_of o ds) + 1) = fits_given orders o c os (Some l) ss has.seat has.is fits ∙ ap (λ (n : ℕ). orders o (n + 1)) number in
    let quiet : is_muted o ds ≡ false = sym f.muted ∙ sym (ap (λ (x : Option SeatData). option_map_or (λ (s : SeatData). s.muted) x false) has.is) ∙ unmuted in
    let d : Deed = called o c os in
    let one : made orders o ds (c ∷ []) ≡ d ∷ [] =
    ap (λ (t : Bool). if t && not (is_destroy c) then [] else called o c (orders o (length (calls_of o ds) + 1)) ∷ []) quiet
    ∙ ap (λ (gs : List Order). called o c gs ∷ []) (sym given) in
    let called_seats : Seated (is_live ds) (ds ++ d ∷ []) bs (map (λ (s : SeatData). muted_by_all os (at o (called_with c os (Some l)) s)) ss) =
    seated_map (is_live ds) (is_live ds) ds (ds ++ d ∷ []) (λ (s : SeatData). muted_by_all os (at o (called_with c os (Some l)) s))
    (seat_called (is_live ds) ds o c os l alive (λ x. sym (begins_plain x o c os (is_live ds x) first))) bs ss seated in
    let fused : map (λ (s : SeatData). muted_by_all os (at o (called_with c os (Some l)) s)) ss ≡ ss' = map_map (muted_by_all os) (at o (called_with c os (Some l))) ss in
    let living : Seated (is_live (ds ++ d ∷ [])) (ds ++ d ∷ []) bs ss' =
    seated_here (is_live ds) (is_live (ds ++ d ∷ [])) (ds ++ d ∷ []) (λ x. sym (live_plain x o ds c os first last)) bs ss' (subst (Seated (is_live ds) (ds ++ d ∷ []) bs) fused called_seats) in
    record {
      seated = subst (λ (es : List Deed). Seated (is_live (ds ++ es)) (ds ++ es) bs ss') (sym one) living;
      puts = puts ∙ append_assoc put_before (wish_put o c) (map order_put os) ∙ sym (ap (λ (es : List Deed). put_before ++ flat_map puts_of es) one ∙ ap (λ (ps : List QueuePut). put_before ++ ps) (append-nil (wish_put o c ++ map order_put os)));
      count = sym (ap length one);
    }
  where
    map_map : (f g : SeatData → SeatData) (xs : List SeatData) → map (λ (s : SeatData). f (g s)) xs ≡ map f (map g xs)
    map_map f g [] = refl
    map_map f g (x ∷ xs) = ap (λ (ys : List SeatData). f (g x) ∷ ys) (map_map f g xs)
