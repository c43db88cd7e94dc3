-- Callbacks of one object, one by one.
use Rattle.std.specs.Prelude.{not, map, Option, Some, None, is_some, if◌then◌else◌}
use Rattle.std.specs.List.{flat_map}
use Rattle.std.specs.Option.{option_and_then, option_map_or}
use Rattle.std.proofs.Common.{◌≡◌, ℕ, ◌+◌, ◌-◌, ◌<◌, get_or, take, drop, Bool, true, false, ◌&&◌, List, [], ◌∷◌, ◌++◌, length, refl, ap, sym, ◌∙◌, subst, append-nil, append_assoc, length-append, arith}
use Rattle.std.proofs.lemmas.Bool.{false≢true, and_parts, not-true}
use Rattle.std.proofs.lemmas.List.Concat.{flat_map-append}
use Rattle.std.proofs.lemmas.List.{take_more, drop_more, drop-drop}
use Rattle.mama_event.specs.declared.ids.ObjectId.{ObjectId}
use Rattle.mama_event.specs.declared.callback.Callback.{Callback}
use Rattle.mama_event.specs.declared.order.Order.{Order}
use Rattle.mama_event.specs.Object.{same_object}
use Rattle.mama_event.specs.Listener.{ListenerData}
use Rattle.mama_rules_queue.specs.Queue.{Deed, QueuePut, called, is_create, is_destroy, calls_of, is_muted, made, puts_of, is_live}
use Rattle.mama_dispatch.specs.Journals.{Born}
use Rattle.mama_dispatch.specs.Seats.{SeatData, seat_of, listener_in, is_muted_in, room_in, at, muted_by_all, called_with, Fits}
use Rattle.mama_dispatch.specs.Seating.{is_plain, Seated, CalledOnce, CallsMade}
use Rattle.mama_dispatch.proofs.DeedLemmas.{made_more}
use Rattle.mama_dispatch.proofs.SeatLemmas.{HasSeat, found, fits_before, one_made}

-- where a listener is there, so is a seat
pub seat_from : (o : ObjectId) (ss : List SeatData) → is_some (listener_in o ss) ≡ true → HasSeat o ss
seat_from o ss here = go (seat_of o ss) refl here
  where
    go : (s : Option SeatData) → seat_of o ss ≡ s → is_some (option_and_then (λ (x : SeatData). x.listener) s) ≡ true → HasSeat o ss
    go None is here = absurd (false≢true here)
    go (Some s) is here = record { seat = s; is = is; here = here }

-- what fits after a callback fitted before it
pub once_fits : (o : ObjectId) (c : Callback) (before after : List SeatData) (pb pa : List QueuePut) → CalledOnce o c before after pb pa
    → (orders : ObjectId → ℕ → List Order) → Fits orders after → Fits orders before
once_fits o c before after pb pa once orders fits = fits_before orders o c once.orders (Some once.listener) before (subst (Fits orders) once.seats fits)

-- a callback that was made is one that the rules make
pub once_made : (orders : ObjectId → ℕ → List Order) (bs : List Born) (ds : List Deed) (o : ObjectId) (c : Callback) (before after : List SeatData) (pb pa : List QueuePut)
    → CalledOnce o c before after pb pa → is_some (listener_in o before) ≡ true → is_plain c ≡ true → is_muted_in o before ≡ false
    → Fits orders after → Seated (is_live ds) ds bs before → CallsMade orders bs ds o (c ∷ []) after pb pa 1
once_made orders bs ds o c before after pb pa once here plain unmuted fits seated =
    let parts = and_parts (not (is_create c)) (not (is_destroy c)) plain in
    subst (λ (ss : List SeatData). CallsMade orders bs ds o (c ∷ []) ss pb pa 1) (sym once.seats)
    (one_made orders bs ds o c once.orders once.listener before pb pa (seat_from o before here) (not-true (is_create c) parts.0) (not-true (is_destroy c) parts.1) unmuted (subst (Fits orders) once.seats fits) seated once.puts)

-- a muted object gets none
pub none_made : (orders : ObjectId → ℕ → List Order) (bs : List Born) (ds : List Deed) (o : ObjectId) (c : Callback) (ss : List SeatData) (puts : List QueuePut)
    → is_some (listener_in o ss) ≡ true → is_plain c ≡ true → is_muted_in o ss ≡ true → Seated (is_live ds) ds bs ss → CallsMade orders bs ds o (c ∷ []) ss puts puts 0
none_made orders bs ds o c ss puts here plain muted seated =
    let has = seat_from o ss here in
    let f = found (is_live ds) ds bs ss o has.seat seated has.is in
    let silent : is_muted o ds ≡ true = sym f.muted ∙ sym (ap (λ (x : Option SeatData). option_map_or (λ (s : SeatData). s.muted) x false) has.is) ∙ muted in
    let parts = and_parts (not (is_create c)) (not (is_destroy c)) plain in
    let d : Deed = called o c (orders o (length (calls_of o ds) + 1)) in
    let none : made orders o ds (c ∷ []) ≡ [] =
    ap (λ (t : Bool). if t && not (is_destroy c) then [] else d ∷ []) silent ∙ ap (λ (t : Bool). if t then [] else d ∷ []) parts.1 in
    record {
      seated = subst (λ (es : List Deed). Seated (is_live (ds ++ es)) (ds ++ es) bs ss) (sym none) (subst (λ (es : List Deed). Seated (is_live es) es bs ss) (sym (append-nil ds)) seated);
      puts = sym (append-nil puts) ∙ sym (ap (λ (es : List Deed). puts ++ flat_map puts_of es) none);
      count = sym (ap length none);
    }

-- one callback more
pub calls_joined : (orders : ObjectId → ℕ → List Order) (bs : List Born) (ds : List Deed) (o : ObjectId) (cs : List Callback) (c : Callback) (mid after : List SeatData) (pb pm pa : List QueuePut) (n k : ℕ)
    → CallsMade orders bs ds o cs mid pb pm n → CallsMade orders bs (ds ++ made orders o ds cs) o (c ∷ []) after pm pa k
    → CallsMade orders bs ds o (cs ++ c ∷ []) after pb pa (n + k)
calls_joined orders bs ds o cs c mid after pb pm pa n k first next =
    let more = made_more orders o ds cs c in
    let xs : List Deed = made orders o ds cs in
    let ys : List Deed = made orders o (ds ++ xs) (c ∷ []) in
    let whole : (ds ++ xs) ++ ys ≡ ds ++ made orders o ds (cs ++ c ∷ []) = append_assoc ds xs ys ∙ ap (λ (es : List Deed). ds ++ es) (sym more) in
    record {
      seated = subst (λ (es : List Deed). Seated (is_live es) es bs after) whole next.seated;
      puts =
          next.puts ∙ ap (λ (ps : List QueuePut). ps ++ flat_map puts_of ys) first.puts
          ∙ append_assoc pb (flat_map puts_of xs) (flat_map puts_of ys)
          ∙ ap (λ (ps : List QueuePut). pb ++ ps) (sym (flat_map-append puts_of xs ys) ∙ ap (flat_map puts_of) (sym more));
      count = ap (λ (m : ℕ). m + k) first.count ∙ ap (λ (m : ℕ). length xs + m) next.count ∙ sym (length-append xs ys) ∙ ap length (sym more);
    }

-- no callback at all
pub nothing_made : (orders : ObjectId → ℕ → List Order) (bs : List Born) (ds : List Deed) (o : ObjectId) (ss : List SeatData) (puts : List QueuePut)
    → Seated (is_live ds) ds bs ss → CallsMade orders bs ds o [] ss puts puts 0
nothing_made orders bs ds o ss puts seated = record {
  seated = subst (λ (es : List Deed). Seated (is_live es) es bs ss) (sym (append-nil ds)) seated;
  puts = sym (append-nil puts);
  count = refl;
}

-- the room after a callback
pub room_after : (o : ObjectId) (c : Callback) (os : List Order) (l : Option ListenerData) (ss : List SeatData)
    → room_in o (map (muted_by_all os) (map (at o (called_with c os l)) ss)) ≡ room_in o ss - 1
room_after o c os l [] = refl
room_after o c os l (s ∷ ss) =
    elim (same_object o s.object) as
    (λ b. same_object o s.object ≡ b
    → option_map_or (λ (x : SeatData). x.room) (if same_object o (muted_by_all os (if b then called_with c os l s else s)).object then Some (muted_by_all os (if b then called_with c os l s else s)) else seat_of o (map (muted_by_all os) (map (at o (called_with c os l)) ss))) 0
    ≡ option_map_or (λ (x : SeatData). x.room) (if b then Some s else seat_of o ss) 0 - 1) [
      | true ↦ λ same. ap (λ (b : Bool). option_map_or (λ (x : SeatData). x.room) (if b then Some (muted_by_all os (called_with c os l s)) else seat_of o (map (muted_by_all os) (map (at o (called_with c os l)) ss))) 0) same
      | false ↦ λ other.
          ap (λ (b : Bool). option_map_or (λ (x : SeatData). x.room) (if b then Some (muted_by_all os s) else seat_of o (map (muted_by_all os) (map (at o (called_with c os l)) ss))) 0) other
          ∙ room_after o c os l ss
    ] refl

-- the callback at a place, and those up to it and from it on
pub next_of : (i : ℕ) (cs : List Callback) → i < length cs → (c : Callback) × (take (i + 1) cs ≡ take i cs ++ c ∷ []) × (drop i cs ≡ c ∷ drop (i + 1) cs)
next_of i [] within = absurd (omega (arith, within))
next_of i (c ∷ cs) within = (get_or (c ∷ cs) i c, take_more (c ∷ cs) i c within, drop_more (c ∷ cs) i c within)

pub drop_drop : (i : ℕ) (cs : List Callback) → drop 1 (drop i cs) ≡ drop (i + 1) cs
drop_drop i cs = drop-drop 1 i cs

-- the same callbacks by another name
pub calls_same : (orders : ObjectId → ℕ → List Order) (bs : List Born) (ds : List Deed) (o : ObjectId) (cs cs' : List Callback) (after : List SeatData) (pb pa : List QueuePut) (n : ℕ)
    → cs ≡ cs' → CallsMade orders bs ds o cs after pb pa n → CallsMade orders bs ds o cs' after pb pa n
calls_same orders bs ds o cs cs' after pb pa n same calls = subst (λ (xs : List Callback). CallsMade orders bs ds o xs after pb pa n) same calls

-- the same puts before
pub calls_after : (orders : ObjectId → ℕ → List Order) (bs : List Born) (ds : List Deed) (o : ObjectId) (cs : List Callback) (after : List SeatData) (pb pb' pa : List QueuePut) (n : ℕ)
    → pb ≡ pb' → CallsMade orders bs ds o cs after pb pa n → CallsMade orders bs ds o cs after pb' pa n
calls_after orders bs ds o cs after pb pb' pa n same calls = subst (λ (ps : List QueuePut). CallsMade orders bs ds o cs after ps pa n) same calls
