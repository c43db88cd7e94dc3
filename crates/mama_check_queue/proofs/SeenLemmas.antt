-- What one deed more, and one entry more, makes of an object.
use Rattle.std.specs.Prelude.{not, map, Option, Some, None, if◌then◌else◌}
use Rattle.std.specs.List.{list_any}
use Rattle.std.specs.Option.{option_or}
use Rattle.std.proofs.Common.{◌≡◌, ℕ, Bool, true, false, ◌&&◌, ◌||◌, List, [], ◌∷◌, ◌++◌, refl, ap, sym, ◌∙◌, subst}
use Rattle.mama_journal.specs.Journal.{first_said}
use Rattle.mama_event.specs.declared.ids.SubId.{SubId}
use Rattle.mama_event.specs.declared.ids.ObjectId.{ObjectId}
use Rattle.mama_event.specs.declared.ids.ObjectId.TheVariants.{Sub}
use Rattle.mama_event.specs.declared.market.MarketMsg.{MarketMsg}
use Rattle.mama_event.specs.declared.callback.Callback.{Callback}
use Rattle.mama_event.specs.declared.callback.CallNote.{CallNote}
use Rattle.mama_event.specs.declared.order.Order.{Order}
use Rattle.mama_event.specs.declared.to_queue.Make.{Make}
use Rattle.mama_event.specs.declared.to_queue.Make.TheVariants as make
use Rattle.mama_event.specs.declared.to_queue.QueueNote.{QueueNote}
use Rattle.mama_event.specs.declared.to_queue.QueueNote.TheVariants as q
use Rattle.mama_event.specs.Object.{same_object}
use Rattle.mama_dq.specs.Context.{ContextData}
use Rattle.mama_dq.specs.Strategy.{after}
use Rattle.mama_rules_queue.specs.Queue.{Deed, handled, called, ends, is_create, is_destroy, is_muted, calls_of, make_in, context_of, is_live}
use Rattle.mama_rules_rounds.specs.Told.{noted}
use Rattle.mama_dispatch.specs.Journals.{messages_at}
use Rattle.mama_dispatch.proofs.DeedLemmas.{same_object-true, live_more, muted_more, live_handled, muted_handled, or_false, and_true, notes_called, notes_other, notes_handled, messages_called, messages_handled, messages_other, context_more}
use Rattle.mama_check_queue.specs.Seen.{SeenData, kept_until, seen_of, begun, muted_by, called_so, kept_more, handling, made_as, at, after_deed}
use Rattle.mama_check_queue.specs.Rows.{SeenObjects, seen_in, AreSeen}

-- ---- a deed more

abbrev seen_with : Option Make → Bool → Bool → List CallNote → ContextData → List MarketMsg → SeenData
seen_with make live muted calls context waiting = record { make = make; live = live; muted = muted; calls = calls; context = context; waiting = waiting }

-- objects of which all is the same are the same
same_seen : (m : Option Make) (l l2 u u2 : Bool) (cs cs2 : List CallNote) (c c2 : ContextData) (w w2 : List MarketMsg)
    → l ≡ l2 → u ≡ u2 → cs ≡ cs2 → c ≡ c2 → w ≡ w2 → seen_with m l u cs c w ≡ seen_with m l2 u2 cs2 c2 w2
same_seen m l l2 u u2 cs cs2 c c2 w w2 live muted calls context waiting =
    ap (λ (b : Bool). seen_with m b u cs c w) live
    ∙ ap (λ (b : Bool). seen_with m l2 b cs c w) muted
    ∙ ap (λ (ns : List CallNote). seen_with m l2 u2 ns c w) calls
    ∙ ap (λ (d : ContextData). seen_with m l2 u2 cs2 d w) context
    ∙ ap (λ (ms : List MarketMsg). seen_with m l2 u2 cs2 c2 ms) waiting

-- what was said of the making of an object
abbrev make_of : ObjectId → List (ℕ × QueueNote) → Option Make
make_of x journal = first_said (λ e. make_in x e.1) journal

called_this : (x o : ObjectId) (journal : List (ℕ × QueueNote)) (ds : List Deed) (c : Callback) (os : List Order) → same_object o x ≡ true
    → seen_of x journal (ds ++ called o c os ∷ []) ≡ called_so c os (muted_by x os (begun c (seen_of x journal ds)))
called_this x o journal ds c os is =
    let m : Option Make = make_of x journal in
    let live : Bool = is_live ds x in
    same_seen m _ _ _ _ _ _ _ _ _ _
    (live_more x false ds (called o c os) ∙ ap (λ (b : Bool). (live || (b && is_create c)) && not (b && is_destroy c)) is)
    (muted_more x false ds (called o c os) ∙ ap (λ (b : Bool). is_muted x ds || ((live || (b && is_create c)) && list_any (ends x) os)) is)
    (notes_called x o ds c os is)
    (ap (context_of m) (messages_called x o ds c os))
    (ap (kept_until m) (messages_called x o ds c os))

called_other : (x o : ObjectId) (journal : List (ℕ × QueueNote)) (ds : List Deed) (c : Callback) (os : List Order) → same_object o x ≡ false
    → seen_of x journal (ds ++ called o c os ∷ []) ≡ muted_by x os (seen_of x journal ds)
called_other x o journal ds c os is =
    let m : Option Make = make_of x journal in
    let live : Bool = is_live ds x in
    same_seen m _ _ _ _ _ _ _ _ _ _
    (live_more x false ds (called o c os) ∙ ap (λ (b : Bool). (live || (b && is_create c)) && not (b && is_destroy c)) is ∙ and_true (live || false) ∙ or_false live)
    (muted_more x false ds (called o c os) ∙ ap (λ (b : Bool). is_muted x ds || ((live || (b && is_create c)) && list_any (ends x) os)) is
    ∙ ap (λ (b : Bool). is_muted x ds || (b && list_any (ends x) os)) (or_false live))
    (notes_other x o ds c os is)
    (ap (context_of m) (messages_called x o ds c os))
    (ap (kept_until m) (messages_called x o ds c os))

called_more : (x o : ObjectId) (journal : List (ℕ × QueueNote)) (ds : List Deed) (c : Callback) (os : List Order) (b : Bool) → same_object o x ≡ b
    → seen_of x journal (ds ++ called o c os ∷ []) ≡ after_deed x (called o c os) (seen_of x journal ds)
called_more x o journal ds c os true is =
    let s : SeenData = seen_of x journal ds in
    called_this x o journal ds c os is
    ∙ sym (ap (λ (b : Bool). if b then called_so c os (muted_by x os (if b then begun c s else s)) else muted_by x os (if b then begun c s else s)) is)
called_more x o journal ds c os false is =
    let s : SeenData = seen_of x journal ds in
    called_other x o journal ds c os is
    ∙ sym (ap (λ (b : Bool). if b then called_so c os (muted_by x os (if b then begun c s else s)) else muted_by x os (if b then begun c s else s)) is)

-- the context and the messages that are kept, after a message more
context_next : (m : Option Make) (ms : List MarketMsg) (msg : MarketMsg) → context_of m (ms ++ msg ∷ []) ≡ after (context_of m ms) msg
context_next (Some k) ms msg = context_more k ms msg
context_next None ms msg = context_more make.Timer ms msg

kept_next : (m : Option Make) (ms : List MarketMsg) (msg : MarketMsg) → kept_until m (ms ++ msg ∷ []) ≡ kept_more m (kept_until m ms) msg
kept_next (Some k) ms msg = refl
kept_next None ms msg = refl

messages_this : (x : ObjectId) (s : SubId) (ds : List Deed) (msg : MarketMsg) → same_object (Sub s) x ≡ true → messages_at x (ds ++ handled s msg ∷ []) ≡ messages_at x ds ++ msg ∷ []
messages_this x s ds msg is =
    subst (λ (y : ObjectId). messages_at y (ds ++ handled s msg ∷ []) ≡ messages_at y ds ++ msg ∷ []) (same_object-true (Sub s) x is) (messages_handled s ds msg)

handled_more : (x : ObjectId) (s : SubId) (journal : List (ℕ × QueueNote)) (ds : List Deed) (msg : MarketMsg) (b : Bool) → same_object (Sub s) x ≡ b
    → seen_of x journal (ds ++ handled s msg ∷ []) ≡ after_deed x (handled s msg) (seen_of x journal ds)
handled_more x s journal ds msg true is =
    let m : Option Make = make_of x journal in
    let t : SeenData = seen_of x journal ds in
    same_seen m _ _ _ _ _ _ _ _ _ _ (live_handled x ds s msg) (muted_handled x ds s msg) (notes_handled x ds s msg)
    (ap (context_of m) (messages_this x s ds msg is) ∙ context_next m (messages_at x ds) msg)
    (ap (kept_until m) (messages_this x s ds msg is) ∙ kept_next m (messages_at x ds) msg)
    ∙ sym (ap (λ (b : Bool). if b then handling msg t else t) is)
handled_more x s journal ds msg false is =
    let m : Option Make = make_of x journal in
    let t : SeenData = seen_of x journal ds in
    same_seen m _ _ _ _ _ _ _ _ _ _ (live_handled x ds s msg) (muted_handled x ds s msg) (notes_handled x ds s msg)
    (ap (context_of m) (messages_other x s ds msg is))
    (ap (kept_until m) (messages_other x s ds msg is))
    ∙ sym (ap (λ (b : Bool). if b then handling msg t else t) is)

pub seen_more : (x : ObjectId) (journal : List (ℕ × QueueNote)) (ds : List Deed) (d : Deed) → seen_of x journal (ds ++ d ∷ []) ≡ after_deed x d (seen_of x journal ds)
seen_more x journal ds (called o c os) = called_more x o journal ds c os (same_object o x) refl
seen_more x journal ds (handled s msg) = handled_more x s journal ds msg (same_object (Sub s) x) refl

-- objects that changed by a deed are those after the deed
pub deed_more : (journal : List (ℕ × QueueNote)) (ds : List Deed) (d : Deed) (before later : SeenObjects) → AreSeen journal ds before
    → ((x : ObjectId) → seen_in later x ≡ after_deed x d (seen_in before x)) → AreSeen journal (ds ++ d ∷ []) later
deed_more journal ds d before later seen changed = record {
  each = λ x. changed x ∙ ap (after_deed x d) (seen.each x) ∙ sym (seen_more x journal ds d);
}

-- ---- an entry more

said_more : (x : ObjectId) (journal : List (ℕ × QueueNote)) (e : ℕ × QueueNote) → make_of x (journal ++ e ∷ []) ≡ option_or (make_of x journal) (make_in x e.1)
said_more x [] e = none_after (make_in x e.1)
  where
    none_after : (m : Option Make) → option_or m None ≡ m
    none_after None = refl
    none_after (Some k) = refl
said_more x (f ∷ fs) e =
    ap (option_or (make_in x f.1)) (said_more x fs e) ∙ or_after (make_in x f.1) (make_of x fs) (make_in x e.1)
  where
    or_after : (a b c : Option Make) → option_or a (option_or b c) ≡ option_or (option_or a b) c
    or_after None b c = refl
    or_after (Some k) b c = refl

abbrev seen_by : ObjectId → List Deed → Option Make → SeenData
seen_by x ds m = record { make = m; live = is_live ds x; muted = is_muted x ds; calls = map noted (calls_of x ds); context = context_of m (messages_at x ds); waiting = kept_until m (messages_at x ds) }

entry_silent : (x : ObjectId) (journal : List (ℕ × QueueNote)) (e : ℕ × QueueNote) (ds : List Deed) → make_in x e.1 ≡ None → seen_of x (journal ++ e ∷ []) ds ≡ seen_of x journal ds
entry_silent x journal e ds silent =
    ap (seen_by x ds) (said_more x journal e ∙ ap (option_or (make_of x journal)) silent ∙ or_none (make_of x journal))
  where
    or_none : (m : Option Make) → option_or m None ≡ m
    or_none None = refl
    or_none (Some k) = refl

entry_makes : (x : ObjectId) (journal : List (ℕ × QueueNote)) (e : ℕ × QueueNote) (ds : List Deed) (k : Make) → make_in x e.1 ≡ Some k
    → seen_of x (journal ++ e ∷ []) ds ≡ made_as k (seen_of x journal ds)
entry_makes x journal e ds k says =
    ap (seen_by x ds) (said_more x journal e ∙ ap (option_or (make_of x journal)) says) ∙ first (make_of x journal)
  where
    first : (m : Option Make) → seen_by x ds (option_or m (Some k)) ≡ made_as k (seen_by x ds m)
    first None = refl
    first (Some j) = refl

-- an entry that makes nothing changes no object by itself
pub entry_more : (journal : List (ℕ × QueueNote)) (e : ℕ × QueueNote) (ds : List Deed) (s : SeenObjects) → ((x : ObjectId) → make_in x e.1 ≡ None)
    → AreSeen journal ds s → AreSeen (journal ++ e ∷ []) ds s
entry_more journal e ds s silent seen = record { each = λ x. seen.each x ∙ sym (entry_silent x journal e ds (silent x)) }

create_at : (x o : ObjectId) (k : Make) (tag : ObjectId) (slot port : ℕ) (journal : List (ℕ × QueueNote)) (ds : List Deed) (b : Bool) → same_object o x ≡ b
    → at o x (made_as k) (seen_of x journal ds) ≡ seen_of x (journal ++ (port, q.Create slot o k tag) ∷ []) ds
create_at x o k tag slot port journal ds true is =
    let s : SeenData = seen_of x journal ds in
    ap (λ (b : Bool). if b then made_as k s else s) is
    ∙ sym (entry_makes x journal (port, q.Create slot o k tag) ds k (ap (λ (b : Bool). if b then Some k else None) is))
create_at x o k tag slot port journal ds false is =
    let s : SeenData = seen_of x journal ds in
    ap (λ (b : Bool). if b then made_as k s else s) is
    ∙ sym (entry_silent x journal (port, q.Create slot o k tag) ds (ap (λ (b : Bool). if b then Some k else None) is))

-- a Create makes its object
pub create_more : (o : ObjectId) (k : Make) (tag : ObjectId) (slot port : ℕ) (journal : List (ℕ × QueueNote)) (ds : List Deed) (before later : SeenObjects) → AreSeen journal ds before
    → ((x : ObjectId) → seen_in later x ≡ at o x (made_as k) (seen_in before x)) → AreSeen (journal ++ (port, q.Create slot o k tag) ∷ []) ds later
create_more o k tag slot port journal ds before later seen changed = record {
  each = λ x. changed x ∙ ap (at o x (made_as k)) (seen.each x) ∙ create_at x o k tag slot port journal ds (same_object o x) refl;
}
