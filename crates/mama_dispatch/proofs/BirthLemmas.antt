-- The first callback of an object.
use Rattle.std.specs.Prelude.{not, map, Some, None, if◌then◌else◌}
use Rattle.std.specs.List.{list_any, flat_map}
use Rattle.std.proofs.Common.{◌≡◌, ℕ, ◌+◌, Bool, true, false, ◌&&◌, ◌||◌, List, [], ◌∷◌, ◌++◌, length, refl, ap, sym, ◌∙◌, subst, append-nil, append_assoc}
use Rattle.std.proofs.lemmas.Bool.{or_parts}
use Rattle.mama_event.specs.declared.ids.ObjectId.{ObjectId}
use Rattle.mama_event.specs.declared.callback.Callback.{Callback}
use Rattle.mama_event.specs.declared.callback.Callback.TheVariants as on
use Rattle.mama_event.specs.declared.order.Order.{Order}
use Rattle.mama_event.specs.declared.to_queue.Make.{Make}
use Rattle.mama_event.specs.declared.to_queue.QueueNote.{QueueNote}
use Rattle.mama_event.specs.declared.to_queue.QueueNote.TheVariants as q
use Rattle.mama_event.specs.Object.{same_object}
use Rattle.mama_event.specs.Listener.{ListenerData}
use Rattle.mama_rules_queue.specs.Queue.{Deed, QueuePut, handled, called, is_create, is_destroy, calls_of, begins_in, is_muted_after, is_muted, context_of, served, puts_of, wish_put, order_put, ends, is_live_after, is_live}
use Rattle.mama_dispatch.specs.Journals.{Born, born, is_born, noted}
use Rattle.mama_dispatch.specs.Seats.{SeatData, seat_of, has_seat, new_seat, Fits}
use Rattle.mama_dispatch.specs.Seating.{SeatAt, Seated, CalledOnce}
use Rattle.mama_dispatch.specs.Standing.{Stands, ServedAt}
use Rattle.mama_dispatch.proofs.DeedLemmas.{same_object-sym, same_object-refl, live_more, or_false, and_false, and_true, messages_called}
use Rattle.mama_dispatch.proofs.SeatLemmas.{seated_here, fits_given}
use Rattle.mama_dispatch.proofs.ArmLemmas.{born_more, lives_more, once_seated, other_calls}

unbegun_at : (t : Bool) (c : Callback) (os : List Order) (rest : List (Callback × List Order)) → (if t then (c, os) ∷ [] else []) ++ rest ≡ [] → (t ≡ false) × (rest ≡ [])
unbegun_at true c os rest h = cc
unbegun_at false c os rest h = (refl, h)

-- an object with no callbacks is not live, nor muted
pub unbegun : (o : ObjectId) (ds : List Deed) → calls_of o ds ≡ [] → (is_live ds o ≡ false) × (is_muted o ds ≡ false)
unbegun o [] none = (refl, refl)
unbegun o (handled s m ∷ ds) none = unbegun o ds none
unbegun o (called x c os ∷ ds) none =
    let parts = unbegun_at (same_object x o) c os (calls_of o ds) none in
    let rest = unbegun o ds parts.1 in (
      ap (λ (t : Bool). is_live_after o ((false || (t && is_create c)) && not (t && is_destroy c)) ds) parts.0 ∙ rest.0,
      ap (λ (t : Bool). ((false || (t && is_create c)) && list_any (ends o) os) || is_muted_after o ((false || (t && is_create c)) && not (t && is_destroy c)) ds) parts.0 ∙ rest.1,
    )

-- seats have the objects that were made
pub seated_has : (h : ObjectId → Bool) (ds : List Deed) (o : ObjectId) (bs : List Born) (ss : List SeatData) → Seated h ds bs ss
    → has_seat o ss ≡ list_any (λ (b : Born). same_object o b.object) bs
seated_has h ds o [] [] seated = refl
seated_has h ds o [] (s ∷ ss) seated = absurd seated
seated_has h ds o (b ∷ bs) [] seated = absurd seated
seated_has h ds o (b ∷ bs) (s ∷ ss) seated =
    ap (λ (x : ObjectId). same_object o x || has_seat o ss) seated.0.object ∙ ap (λ (t : Bool). same_object o b.object || t) (seated_has h ds o bs ss seated.1)

pub seat_last : (o : ObjectId) (ss : List SeatData) (s : SeatData) → has_seat o ss ≡ false → same_object o s.object ≡ true → seat_of o (ss ++ s ∷ []) ≡ Some s
seat_last o [] s none same = ap (λ (t : Bool). if t then Some s else None) same
seat_last o (t ∷ ss) s none same =
    let parts = or_parts (same_object o t.object) (has_seat o ss) none in
    ap (λ (b : Bool). if b then Some t else seat_of o (ss ++ s ∷ [])) parts.0 ∙ seat_last o ss s parts.1 same

-- a test of life that differs at an object that has no seat
seated_off : (h k : ObjectId → Bool) (ds : List Deed) (o : ObjectId) → ((x : ObjectId) → same_object o x ≡ false → h x ≡ k x)
    → (bs : List Born) (ss : List SeatData) → list_any (λ (b : Born). same_object o b.object) bs ≡ false → Seated h ds bs ss → Seated k ds bs ss
seated_off h k ds o agree [] [] none seated = tt
seated_off h k ds o agree [] (s ∷ ss) none seated = absurd seated
seated_off h k ds o agree (b ∷ bs) [] none seated = absurd seated
seated_off h k ds o agree (b ∷ bs) (s ∷ ss) none seated =
    let parts = or_parts (same_object o b.object) (list_any (λ (c : Born). same_object o c.object) bs) none in (
      record { object = seated.0.object; listener = seated.0.listener ∙ agree b.object parts.0; muted = seated.0.muted; context = seated.0.context; calls = seated.0.calls },
      seated_off h k ds o agree bs ss parts.1 seated.1,
    )

seated_more : (h : ObjectId → Bool) (ds : List Deed) (bs : List Born) (ss : List SeatData) (b : Born) (s : SeatData) → Seated h ds bs ss → SeatAt h ds b s → Seated h ds (bs ++ b ∷ []) (ss ++ s ∷ [])
seated_more h ds [] [] b s seated seat = (seat, tt)
seated_more h ds [] (t ∷ ss) b s seated seat = absurd seated
seated_more h ds (c ∷ bs) [] b s seated seat = absurd seated
seated_more h ds (c ∷ bs) (t ∷ ss) b s seated seat = (seated.0, seated_more h ds bs ss b s seated.1 seat)

or_right_true : (b : Bool) → (b || true) ≡ true
or_right_true true = refl
or_right_true false = refl

pub any_more : (p : Born → Bool) (bs : List Born) (b : Born) → list_any p (bs ++ b ∷ []) ≡ (list_any p bs || p b)
any_more p [] b = or_false (p b)
any_more p (c ∷ bs) b =
    ap (λ (t : Bool). p c || t) (any_more p bs b)
    ∙ elim (p c) as (λ t. (t || (list_any p bs || p b)) ≡ ((t || list_any p bs) || p b)) [ true ↦ refl | false ↦ refl ]

pub arm_created : (orders : ObjectId → ℕ → List Order) (port : ℕ) (journal : List (ℕ × QueueNote)) (ds : List Deed) (slot : ℕ) (o : ObjectId) (make : Make) (tag : ObjectId) (l : ListenerData) (room : ℕ) (before after : List SeatData) (pb pa : List QueuePut)
    → CalledOnce o on.Create (before ++ new_seat o make l room ∷ []) after pb pa → is_born o journal ≡ false
    → Fits orders after → Stands journal ds before → ServedAt orders port journal ds (q.Create slot o make tag) after pb pa
arm_created orders port journal ds slot o make tag l room before after pb pa once unborn fits stands =
    let note : QueueNote = q.Create slot o make tag in
    let s : SeatData = new_seat o make l room in
    let b : Born = record { object = o; make = make } in
    let os : List Order = once.orders in
    let d : Deed = called o on.Create os in
    let es : List Deed = ds ++ d ∷ [] in
    let quiet : calls_of o ds ≡ [] = stands.quiet o unborn in
    let still = unbegun o ds quiet in
    let empty : has_seat o before ≡ false = seated_has (is_live ds) ds o (born journal) before stands.seated ∙ unborn in
    let given : os ≡ orders o (length (calls_of o ds) + 1) =
    fits_given orders o on.Create os (Some once.listener) (before ++ s ∷ []) s (seat_last o before s empty (same_object-refl o)) (subst (Fits orders) once.seats fits)
    ∙ ap (λ (cs : List (Callback × List Order)). orders o (length cs + 1)) (sym quiet) in
    let one : served orders journal ds note ≡ d ∷ [] =
    ap (λ (t : Bool). if t && true then [] else called o on.Create (orders o (length (calls_of o ds) + 1)) ∷ []) still.1
    ∙ ap (λ (gs : List Order). called o on.Create gs ∷ []) (sym given) in
    let h : ObjectId → Bool = λ (x : ObjectId). is_live ds x || begins_in x d in
    let alive : h o ≡ true = ap (λ (t : Bool). is_live ds o || (t && true)) (same_object-refl o) ∙ or_right_true (is_live ds o) in
    let apart : (x : ObjectId) → same_object o x ≡ false → is_live ds x ≡ h x = λ (x : ObjectId) (other : same_object o x ≡ false).
    sym (ap (λ (t : Bool). is_live ds x || (t && true)) other ∙ or_false (is_live ds x)) in
    let seat : SeatAt h ds b s = record {
      object = refl;
      listener = sym alive;
      muted = sym still.1;
      context = ap (context_of (Some make)) (sym (stands.silent o unborn));
      calls = sym (ap (map noted) quiet);
    } in
    let all : Seated h ds (born journal ++ b ∷ []) (before ++ s ∷ []) =
    seated_more h ds (born journal) before b s (seated_off (is_live ds) h ds o apart (born journal) before unborn stands.seated) seat in
    let lived : (x : ObjectId) → is_live es x ≡ h x = λ (x : ObjectId).
    live_more x false ds d ∙ ap (λ (t : Bool). h x && not t) (and_false (same_object o x)) ∙ and_true (h x) in
    let seated : Seated (is_live es) es (born journal ++ b ∷ []) after =
    seated_here h (is_live es) es (λ x. sym (lived x)) (born journal ++ b ∷ []) after
    (once_seated orders h (born journal ++ b ∷ []) ds o on.Create (before ++ s ∷ []) after pb pa once alive (λ x. refl) all) in
    let births : born (journal ++ (port, note) ∷ []) ≡ born journal ++ b ∷ [] = born_more journal port note in
    let parts : (x : ObjectId) → is_born x (journal ++ (port, note) ∷ []) ≡ false → (is_born x journal ≡ false) × (same_object x o ≡ false) = λ (x : ObjectId) (gone : is_born x (journal ++ (port, note) ∷ []) ≡ false).
    or_parts (is_born x journal) (same_object x o) (sym (ap (list_any (λ (c : Born). same_object x c.object)) births ∙ any_more (λ (c : Born). same_object x c.object) (born journal) b) ∙ gone) in
    record {
      stands = subst (λ (xs : List Deed). Stands (journal ++ (port, note) ∷ []) (ds ++ xs) after) (sym one) (record {
        seated = subst (λ (bs : List Born). Seated (is_live es) es bs after) (sym births) seated;
        live = λ x. lived x ∙ ap (λ (t : Bool). is_live ds x || t) (and_true (same_object o x)) ∙ ap (λ (t : Bool). t || same_object o x) (stands.live x) ∙ sym (lives_more x journal port note);
        quiet = λ x gone. other_calls o x ds on.Create os (same_object-sym o x ∙ (parts x gone).1) ∙ stands.quiet x (parts x gone).0;
        silent = λ x gone. messages_called x o ds on.Create os ∙ stands.silent x (parts x gone).0;
      });
      puts =
          once.puts ∙ append_assoc pb (wish_put o on.Create) (map order_put os)
          ∙ sym (ap (λ (xs : List Deed). pb ++ flat_map puts_of xs) one ∙ ap (λ (ps : List QueuePut). pb ++ ps) (append-nil (wish_put o on.Create ++ map order_put os)));
    }
