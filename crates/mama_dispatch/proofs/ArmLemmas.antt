-- What each kind of entry does to the seats.
use Rattle.std.specs.Prelude.{not, map, fold, Some, None, is_some, if◌then◌else◌}
use Rattle.std.specs.List.{list_any, list_all, flat_map}
use Rattle.std.specs.Option.{option_or}
use Rattle.std.proofs.Common.{◌≡◌, ℕ, ◌+◌, Bool, true, false, ◌&&◌, ◌||◌, List, [], ◌∷◌, ◌++◌, length, refl, ap, sym, ◌∙◌, subst, append-nil, append_assoc}
use Rattle.std.proofs.lemmas.Bool.{true≢false, and_parts, not-true}
use Rattle.std.proofs.lemmas.List.{length-map}
use Rattle.std.proofs.lemmas.List.Concat.{flat_map-append}
use Rattle.mama_journal.specs.Journal.{first_said}
use Rattle.mama_event.specs.declared.ids.SubId.{SubId}
use Rattle.mama_event.specs.declared.ids.ObjectId.{ObjectId}
use Rattle.mama_event.specs.declared.ids.ObjectId.TheVariants.{Sub}
use Rattle.mama_event.specs.declared.market.MarketMsg.{MarketMsg}
use Rattle.mama_event.specs.declared.callback.Callback.{Callback}
use Rattle.mama_event.specs.declared.callback.Callback.TheVariants as on
use Rattle.mama_event.specs.declared.order.Order.{Order}
use Rattle.mama_event.specs.declared.to_queue.Make.{Make}
use Rattle.mama_event.specs.declared.to_queue.QueueNote.{QueueNote}
use Rattle.mama_event.specs.declared.to_queue.QueueNote.TheVariants as q
use Rattle.mama_event.specs.Object.{same_object}
use Rattle.mama_rules_queue.specs.Queue.{Deed, QueuePut, handled, called, is_create, is_destroy, calls_of, begins_in, is_muted, make_in, made, served, puts_of, wish_put, order_put, is_live}
use Rattle.mama_dispatch.specs.Journals.{Born, born_in, born, is_born, lives, is_live_here, messages_at, noted}
use Rattle.mama_dispatch.specs.Seats.{SeatData, listener_in, at, muted_by_all, called_with, with_listener, Fits}
use Rattle.mama_dispatch.specs.Seating.{is_plain, Seated, CalledOnce, CallsMade}
use Rattle.mama_dispatch.specs.Standing.{Stands, ServedAt}
use Rattle.mama_dispatch.proofs.DeedLemmas.{same_object-true, same_object-sym, same_object-refl, live_more, begins_plain, live_plain, live_handled, and_false, and_true, calls_more, messages_called, messages_other}
use Rattle.mama_dispatch.proofs.SeatLemmas.{seated_map, seat_called, seat_emptied, make_among, found, fits_given}
use Rattle.mama_dispatch.proofs.CallLemmas.{seat_from}

-- JOURNALS

pub born_more : (journal : List (ℕ × QueueNote)) (port : ℕ) (note : QueueNote) → born (journal ++ (port, note) ∷ []) ≡ born journal ++ born_in note
born_more journal port note =
    flat_map-append (λ (e : ℕ × QueueNote). born_in e.1) journal ((port, note) ∷ []) ∙ ap (λ (bs : List Born). born journal ++ bs) (append-nil (born_in note))

pub lives_more : (x : ObjectId) (journal : List (ℕ × QueueNote)) (port : ℕ) (note : QueueNote)
    → is_live_here x (journal ++ (port, note) ∷ []) ≡ lives x (is_live_here x journal) note
lives_more x journal port note = go journal false
  where
    go : (es : List (ℕ × QueueNote)) (live : Bool) → fold (λ (l : Bool) (e : ℕ × QueueNote). lives x l e.1) live (es ++ (port, note) ∷ []) ≡ lives x (fold (λ (l : Bool) (e : ℕ × QueueNote). lives x l e.1) live es) note
    go [] live = refl
    go (e ∷ es) live = go es (lives x live e.1)

among_born : (o : ObjectId) (bs : List Born) (k : Make) → make_among o bs ≡ Some k → list_any (λ (b : Born). same_object o b.object) bs ≡ true
among_born o [] k is = cc
among_born o (b ∷ bs) k is =
    elim (same_object o b.object) as (λ t. (if t then Some b.make else make_among o bs) ≡ Some k → (t || list_any (λ (c : Born). same_object o c.object) bs) ≡ true) [
      | true ↦ λ is. refl
      | false ↦ λ is. among_born o bs k is
    ] is

-- an object that was made here is none that was not
pub other_than : (o x : ObjectId) (journal : List (ℕ × QueueNote)) → is_born o journal ≡ true → is_born x journal ≡ false → same_object o x ≡ false
other_than o x journal there gone =
    elim (same_object o x) as (λ t. same_object o x ≡ t → t ≡ false) [
      | true ↦ λ same. absurd (true≢false (sym there ∙ ap (λ (y : ObjectId). is_born y journal) (same_object-true o x same) ∙ gone))
      | false ↦ λ other. refl
    ] refl

-- the first Create of an object says how it was made
make_said : (o : ObjectId) (note : QueueNote) (bs : List Born) → option_or (make_in o note) (make_among o bs) ≡ make_among o (born_in note ++ bs)
make_said o (q.Create slot object make tag) bs =
    ap (λ (t : Bool). option_or (if t then Some make else None) (make_among o bs)) (sym (same_sym o object))
    ∙ elim (same_object o object) as (λ t. option_or (if t then Some make else None) (make_among o bs) ≡ (if t then Some make else make_among o bs)) [ true ↦ refl | false ↦ refl ]
  where
    same_sym : (a b : ObjectId) → same_object a b ≡ same_object b a
    same_sym a b = same_object-sym a b
make_said o (q.Deliver slot sub msg) bs = refl
make_said o (q.Reply slot inbox body) bs = refl
make_said o (q.Bad slot sub kind sender seq bytes) bs = refl
make_said o (q.BadReply slot inbox bytes) bs = refl
make_said o (q.Tick slot timer moment) bs = refl
make_said o (q.Gone slot object) bs = refl
make_said o q.Fin bs = refl

pub first_make : (o : ObjectId) (journal : List (ℕ × QueueNote)) → first_said (λ (e : ℕ × QueueNote). make_in o e.1) journal ≡ make_among o (born journal)
first_make o [] = refl
first_make o (e ∷ es) = ap (option_or (make_in o e.1)) (first_make o es) ∙ make_said o e.1 (born es)

-- CALLBACKS THAT ARE NEITHER FIRST NOR LAST

pub made_live : (orders : ObjectId → ℕ → List Order) (o x : ObjectId) (ds : List Deed) (cs : List Callback) → list_all is_plain cs ≡ true
    → is_live (ds ++ made orders o ds cs) x ≡ is_live ds x
made_live orders o x ds [] plain = ap (λ (es : List Deed). is_live es x) (append-nil ds)
made_live orders o x ds (c ∷ cs) plain =
    let parts = and_parts (is_plain c) (list_all is_plain cs) plain in
    let kinds = and_parts (not (is_create c)) (not (is_destroy c)) parts.0 in
    let os : List Order = orders o (length (calls_of o ds) + 1) in
    let d : Deed = called o c os in
    elim (is_muted o ds && not (is_destroy c)) as (λ t. is_live (ds ++ (if t then made orders o ds cs else d ∷ made orders o (ds ++ d ∷ []) cs)) x ≡ is_live ds x) [
      | true ↦ made_live orders o x ds cs parts.1
      | false ↦
          ap (λ (es : List Deed). is_live es x) (sym (append_assoc ds (d ∷ []) (made orders o (ds ++ d ∷ []) cs)))
          ∙ made_live orders o x (ds ++ d ∷ []) cs parts.1
          ∙ live_plain x o ds c os (not-true (is_create c) kinds.0) (not-true (is_destroy c) kinds.1)
    ]

pub other_calls : (o x : ObjectId) (ds : List Deed) (c : Callback) (os : List Order) → same_object o x ≡ false → calls_of x (ds ++ called o c os ∷ []) ≡ calls_of x ds
other_calls o x ds c os other =
    calls_more x ds (called o c os) ∙ ap (λ (t : Bool). calls_of x ds ++ (if t then (c, os) ∷ [] else [])) other ∙ append-nil (calls_of x ds)

pub made_calls : (orders : ObjectId → ℕ → List Order) (o x : ObjectId) (ds : List Deed) (cs : List Callback) → same_object o x ≡ false
    → calls_of x (ds ++ made orders o ds cs) ≡ calls_of x ds
made_calls orders o x ds [] other = ap (calls_of x) (append-nil ds)
made_calls orders o x ds (c ∷ cs) other =
    let os : List Order = orders o (length (calls_of o ds) + 1) in
    let d : Deed = called o c os in
    elim (is_muted o ds && not (is_destroy c)) as (λ t. calls_of x (ds ++ (if t then made orders o ds cs else d ∷ made orders o (ds ++ d ∷ []) cs)) ≡ calls_of x ds) [
      | true ↦ made_calls orders o x ds cs other
      | false ↦
          ap (calls_of x) (sym (append_assoc ds (d ∷ []) (made orders o (ds ++ d ∷ []) cs)))
          ∙ made_calls orders o x (ds ++ d ∷ []) cs other
          ∙ other_calls o x ds c os other
    ]

pub made_messages : (orders : ObjectId → ℕ → List Order) (o x : ObjectId) (ds : List Deed) (cs : List Callback) → messages_at x (ds ++ made orders o ds cs) ≡ messages_at x ds
made_messages orders o x ds [] = ap (messages_at x) (append-nil ds)
made_messages orders o x ds (c ∷ cs) =
    let os : List Order = orders o (length (calls_of o ds) + 1) in
    let d : Deed = called o c os in
    elim (is_muted o ds && not (is_destroy c)) as (λ t. messages_at x (ds ++ (if t then made orders o ds cs else d ∷ made orders o (ds ++ d ∷ []) cs)) ≡ messages_at x ds) [
      | true ↦ made_messages orders o x ds cs
      | false ↦
          ap (messages_at x) (sym (append_assoc ds (d ∷ []) (made orders o (ds ++ d ∷ []) cs)))
          ∙ made_messages orders o x (ds ++ d ∷ []) cs
          ∙ messages_called x o ds c os
    ]

-- A MESSAGE, A REPLY, A TICK

-- deeds before the callbacks of an entry that bear on its object alone
pub record Leads (o : ObjectId) (ds es : List Deed) : Type 0 where
  pub live : (x : ObjectId) → is_live es x ≡ is_live ds x
  pub calls : (x : ObjectId) → calls_of x es ≡ calls_of x ds
  pub messages : (x : ObjectId) → same_object o x ≡ false → messages_at x es ≡ messages_at x ds

-- an entry that makes no object and ends none
pub record IsMiddle (note : QueueNote) : Type 0 where
  pub none : born_in note ≡ []
  pub lives : (x : ObjectId) (live : Bool) → lives x live note ≡ live

pub stands_middle : (journal : List (ℕ × QueueNote)) (port : ℕ) (note : QueueNote) (ds es : List Deed) (before after : List SeatData)
    → IsMiddle note → Stands journal ds before → Seated (is_live es) es (born journal) after
    → ((x : ObjectId) → is_live es x ≡ is_live ds x)
    → ((x : ObjectId) → is_born x journal ≡ false → calls_of x es ≡ calls_of x ds)
    → ((x : ObjectId) → is_born x journal ≡ false → messages_at x es ≡ messages_at x ds)
    → Stands (journal ++ (port, note) ∷ []) es after
stands_middle journal port note ds es before after middle stands seated live calls messages =
    let same : born (journal ++ (port, note) ∷ []) ≡ born journal = born_more journal port note ∙ ap (λ (bs : List Born). born journal ++ bs) middle.none ∙ append-nil (born journal) in
    let unborn : (x : ObjectId) → is_born x (journal ++ (port, note) ∷ []) ≡ false → is_born x journal ≡ false = λ (x : ObjectId) (h : is_born x (journal ++ (port, note) ∷ []) ≡ false). sym (ap (list_any (λ (b : Born). same_object x b.object)) same) ∙ h in
    record {
      seated = subst (λ (bs : List Born). Seated (is_live es) es bs after) (sym same) seated;
      live = λ x. live x ∙ stands.live x ∙ sym (lives_more x journal port note ∙ middle.lives x (is_live_here x journal));
      quiet = λ x h. calls x (unborn x h) ∙ stands.quiet x (unborn x h);
      silent = λ x h. messages x (unborn x h) ∙ stands.silent x (unborn x h);
    }

-- the object of a seat was made here
pub seat_born : (journal : List (ℕ × QueueNote)) (ds : List Deed) (ss : List SeatData) (o : ObjectId) → Seated (is_live ds) ds (born journal) ss → is_some (listener_in o ss) ≡ true → is_born o journal ≡ true
seat_born journal ds ss o seated here =
    let has = seat_from o ss here in
    let f = found (is_live ds) ds (born journal) ss o has.seat seated has.is in
    among_born o (born journal) f.make f.made

pub arm_called : (orders : ObjectId → ℕ → List Order) (port : ℕ) (journal : List (ℕ × QueueNote)) (ds es : List Deed) (note : QueueNote) (o : ObjectId) (cs : List Callback) (before after : List SeatData) (pb pa : List QueuePut) (n : ℕ)
    → IsMiddle note → Leads o ds es → ds ++ served orders journal ds note ≡ es ++ made orders o es cs
    → flat_map puts_of (served orders journal ds note) ≡ flat_map puts_of (made orders o es cs)
    → Stands journal ds before → is_born o journal ≡ true → list_all is_plain cs ≡ true
    → CallsMade orders (born journal) es o cs after pb pa n
    → ServedAt orders port journal ds note after pb pa
arm_called orders port journal ds es note o cs before after pb pa n middle leads deeds puts stands there plain calls = record {
  stands = subst (λ (xs : List Deed). Stands (journal ++ (port, note) ∷ []) xs after) (sym deeds)
      (stands_middle journal port note ds (es ++ made orders o es cs) before after middle stands calls.seated
      (λ x. made_live orders o x es cs plain ∙ leads.live x)
      (λ x h. made_calls orders o x es cs (other_than o x journal there h) ∙ leads.calls x)
      (λ x h. made_messages orders o x es cs ∙ leads.messages x (other_than o x journal there h)));
  puts = calls.puts ∙ ap (λ (ps : List QueuePut). pb ++ ps) (sym puts);
}

-- nothing leads
pub leads_none : (o : ObjectId) (ds : List Deed) → Leads o ds ds
leads_none o ds = record { live = λ x. refl; calls = λ x. refl; messages = λ x h. refl }

-- a message leads to its callbacks
pub leads_handled : (s : SubId) (ds : List Deed) (m : MarketMsg) → Leads (Sub s) ds (ds ++ handled s m ∷ [])
leads_handled s ds m = record {
  live = λ x. live_handled x ds s m;
  calls = λ x. calls_more x ds (handled s m) ∙ append-nil (calls_of x ds);
  messages = λ x other. messages_other x s ds m other;
}

pub middle_deliver : (slot : ℕ) (s : SubId) (m : MarketMsg) → IsMiddle (q.Deliver slot s m)
middle_deliver slot s m = record { none = refl; lives = λ x live. refl }

-- THE END OF AN OBJECT

-- a first callback is not the last
pub once_seated : (orders : ObjectId → ℕ → List Order) (h : ObjectId → Bool) (bs : List Born) (ds : List Deed) (o : ObjectId) (c : Callback) (before after : List SeatData) (pb pa : List QueuePut)
    → (once : CalledOnce o c before after pb pa) → h o ≡ true → ((x : ObjectId) → h x ≡ (is_live ds x || begins_in x (called o c once.orders)))
    → Seated h ds bs before → Seated h (ds ++ called o c once.orders ∷ []) bs after
once_seated orders h bs ds o c before after pb pa once alive live seated =
    let f : SeatData → SeatData = λ (s : SeatData). muted_by_all once.orders (at o (called_with c once.orders (Some once.listener)) s) in
    subst (Seated h (ds ++ called o c once.orders ∷ []) bs) (map_map (muted_by_all once.orders) (at o (called_with c once.orders (Some once.listener))) before ∙ sym once.seats)
    (seated_map h h ds (ds ++ called o c once.orders ∷ []) f (seat_called h ds o c once.orders once.listener alive live) bs before seated)
  where
    map_map : (f g : SeatData → SeatData) (xs : List SeatData) → map (λ (s : SeatData). f (g s)) xs ≡ map f (map g xs)
    map_map f g [] = refl
    map_map f g (x ∷ xs) = ap (λ (ys : List SeatData). f (g x) ∷ ys) (map_map f g xs)

or_right_true : (b : Bool) → (b || true) ≡ true
or_right_true true = refl
or_right_true false = refl

-- the one deed of a Gone
pub gone_deed : (orders : ObjectId → ℕ → List Order) (journal : List (ℕ × QueueNote)) (ds : List Deed) (slot : ℕ) (o : ObjectId) (before middle : List SeatData) (pb pa : List QueuePut)
    → (once : CalledOnce o on.Destroy before middle pb pa) → is_some (listener_in o before) ≡ true → Fits orders middle → Stands journal ds before
    → served orders journal ds (q.Gone slot o) ≡ called o on.Destroy once.orders ∷ []
gone_deed orders journal ds slot o before middle pb pa once here fits stands =
    let has = seat_from o before here in
    let f = found (is_live ds) ds (born journal) before o has.seat stands.seated has.is in
    let os : List Order = once.orders in
    let number : length has.seat.calls ≡ length (calls_of o ds) = ap length f.calls ∙ length-map (calls_of o ds) noted in
    let given : os ≡ orders o (length (calls_of o ds) + 1) =
    fits_given orders o on.Destroy os (Some once.listener) before has.seat has.is (subst (Fits orders) once.seats fits) ∙ ap (λ (n : ℕ). orders o (n + 1)) number in
    ap (λ (t : Bool). if t then [] else called o on.Destroy (orders o (length (calls_of o ds) + 1)) ∷ []) (and_false (is_muted o ds))
    ∙ ap (λ (gs : List Order). called o on.Destroy gs ∷ []) (sym given)

-- the seats after the last callback of an object, its listener still there
pub gone_seated : (orders : ObjectId → ℕ → List Order) (journal : List (ℕ × QueueNote)) (ds : List Deed) (o : ObjectId) (before middle : List SeatData) (pb pa : List QueuePut)
    → (once : CalledOnce o on.Destroy before middle pb pa) → is_some (listener_in o before) ≡ true → Stands journal ds before
    → Seated (is_live ds) (ds ++ called o on.Destroy once.orders ∷ []) (born journal) middle
gone_seated orders journal ds o before middle pb pa once here stands =
    let has = seat_from o before here in
    let f = found (is_live ds) ds (born journal) before o has.seat stands.seated has.is in
    once_seated orders (is_live ds) (born journal) ds o on.Destroy before middle pb pa once (sym f.listener ∙ has.here)
    (λ x. sym (begins_plain x o on.Destroy once.orders (is_live ds x) refl)) stands.seated

-- a last callback at all seats, and then the listener out
pub arm_gone : (orders : ObjectId → ℕ → List Order) (port : ℕ) (journal : List (ℕ × QueueNote)) (ds : List Deed) (slot : ℕ) (o : ObjectId) (before middle after : List SeatData) (pb pa : List QueuePut)
    → CalledOnce o on.Destroy before middle pb pa → after ≡ map (at o (with_listener None)) middle → is_some (listener_in o before) ≡ true
    → Fits orders middle → Stands journal ds before → ServedAt orders port journal ds (q.Gone slot o) after pb pa
arm_gone orders port journal ds slot o before middle after pb pa once left here fits stands =
    let os : List Order = once.orders in
    let d : Deed = called o on.Destroy os in
    let one : served orders journal ds (q.Gone slot o) ≡ d ∷ [] = gone_deed orders journal ds slot o before middle pb pa once here fits stands in
    let es : List Deed = ds ++ d ∷ [] in
    let begins : (x : ObjectId) → is_live ds x ≡ (is_live ds x || begins_in x d) = λ (x : ObjectId). sym (begins_plain x o on.Destroy os (is_live ds x) refl) in
    let lived : (x : ObjectId) → is_live es x ≡ (is_live ds x && not (same_object o x)) = λ (x : ObjectId).
    live_more x false ds d
    ∙ ap (λ (b : Bool). b && not (same_object o x && true)) (sym (begins x))
    ∙ ap (λ (b : Bool). is_live ds x && not b) (and_true (same_object o x)) in
    let ended : is_live es o ≡ false = lived o ∙ ap (λ (b : Bool). is_live ds o && not b) (same_object-refl o) ∙ and_false (is_live ds o) in
    let others : (x : ObjectId) → same_object o x ≡ false → is_live es x ≡ is_live ds x = λ (x : ObjectId) (other : same_object o x ≡ false).
    lived x ∙ ap (λ (b : Bool). is_live ds x && not b) other ∙ and_true (is_live ds x) in
    let called_seats : Seated (is_live ds) es (born journal) middle = gone_seated orders journal ds o before middle pb pa once here stands in
    let seated : Seated (is_live es) es (born journal) after =
    subst (Seated (is_live es) es (born journal)) (sym left) (seated_map (is_live ds) (is_live es) es es (at o (with_listener None)) (seat_emptied (is_live ds) (is_live es) es o ended others) (born journal) middle called_seats) in
    let there : is_born o journal ≡ true = seat_born journal ds before o stands.seated here in
    let same : born (journal ++ (port, q.Gone slot o) ∷ []) ≡ born journal = born_more journal port (q.Gone slot o) ∙ append-nil (born journal) in
    let unborn : (x : ObjectId) → is_born x (journal ++ (port, q.Gone slot o) ∷ []) ≡ false → is_born x journal ≡ false = λ (x : ObjectId) (h : is_born x (journal ++ (port, q.Gone slot o) ∷ []) ≡ false). sym (ap (list_any (λ (b : Born). same_object x b.object)) same) ∙ h in
    record {
      stands = subst (λ (xs : List Deed). Stands (journal ++ (port, q.Gone slot o) ∷ []) (ds ++ xs) after) (sym one) (record {
        seated = subst (λ (bs : List Born). Seated (is_live es) es bs after) (sym same) seated;
        live = λ x. lived x ∙ ap (λ (b : Bool). b && not (same_object o x)) (stands.live x) ∙ sym (lives_more x journal port (q.Gone slot o));
        quiet = λ x h. other_calls o x ds on.Destroy os (other_than o x journal there (unborn x h)) ∙ stands.quiet x (unborn x h);
        silent = λ x h. messages_called x o ds on.Destroy os ∙ stands.silent x (unborn x h);
      });
      puts =
          once.puts ∙ append_assoc pb (wish_put o on.Destroy) (map order_put os)
          ∙ sym (ap (λ (xs : List Deed). pb ++ flat_map puts_of xs) one ∙ ap (λ (ps : List QueuePut). pb ++ ps) (append-nil (wish_put o on.Destroy ++ map order_put os)));
    }
