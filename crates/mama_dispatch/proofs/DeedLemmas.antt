-- What one deed more changes.
use Rattle.std.specs.Prelude.{not, map, Some, if◌then◌else◌}
use Rattle.std.proofs.Common.{◌≡◌, ℕ, ◌+◌, Bool, true, false, ◌&&◌, ◌||◌, ◌==◌, List, [], ◌∷◌, ◌++◌, length, refl, ap, sym, ◌∙◌, append-nil, append_assoc, arith}
use Rattle.std.proofs.lemmas.Bool.{eqb-true, eq-eqb, and_parts, and_from}
use Rattle.std.proofs.lemmas.Bool.Decides.{nat_tests}
use Rattle.std.proofs.lemmas.List.{map-append}
use Rattle.std.proofs.lemmas.List.Concat.{flat_map-append}
use Rattle.mama_event.specs.declared.ids.SubId.{SubId}
use Rattle.mama_event.specs.declared.ids.TimerId.{TimerId}
use Rattle.mama_event.specs.declared.ids.InboxId.{InboxId}
use Rattle.mama_event.specs.declared.ids.ObjectId.{ObjectId}
use Rattle.mama_event.specs.declared.ids.ObjectId.TheVariants.{Sub, Timer, Inbox}
use Rattle.mama_event.specs.declared.market.MarketMsg.{MarketMsg}
use Rattle.mama_event.specs.declared.callback.Callback.{Callback}
use Rattle.mama_event.specs.declared.order.Order.{Order}
use Rattle.mama_event.specs.declared.to_queue.Make.{Make}
use Rattle.mama_event.specs.declared.to_queue.Make.TheVariants as make
use Rattle.mama_event.specs.Object.{same_sub, same_object}
use Rattle.mama_dq.specs.Context.{ContextData}
use Rattle.mama_dq.specs.Strategy.{after, after_all}
use Rattle.mama_rules_queue.specs.Queue.{Deed, handled, called, is_create, is_destroy, calls_in, calls_of, messages_in, messages_of, begins_in, stops_in, orders_end_of, is_muted_after, is_muted, made, context_of, is_live_after, is_live}
use Rattle.mama_dispatch.specs.Journals.{messages_at, noted, notes_of}

-- TESTS OF OBJECTS

pub same_sub-refl : (a : SubId) → same_sub a a ≡ true
same_sub-refl a = and_from (a.client == a.client) (a.number == a.number) (eq-eqb a.client a.client refl) (eq-eqb a.number a.number refl)

pub same_object-refl : (a : ObjectId) → same_object a a ≡ true
same_object-refl (Sub a) = same_sub-refl a
same_object-refl (Timer a) = and_from (a.client == a.client) (a.number == a.number) (eq-eqb a.client a.client refl) (eq-eqb a.number a.number refl)
same_object-refl (Inbox a) = and_from (a.client == a.client) (a.number == a.number) (eq-eqb a.client a.client refl) (eq-eqb a.number a.number refl)

same_sub-true : (a b : SubId) → same_sub a b ≡ true → a ≡ b
same_sub-true a b h =
    let parts = and_parts (a.client == b.client) (a.number == b.number) h in
    ap (λ (c : ℕ). record { client = c; number = a.number }) (eqb-true a.client b.client parts.0)
    ∙ ap (λ (n : ℕ). record { client = b.client; number = n }) (eqb-true a.number b.number parts.1)

same_timer-true : (a b : TimerId) → (a.client == b.client && a.number == b.number) ≡ true → a ≡ b
same_timer-true a b h =
    let parts = and_parts (a.client == b.client) (a.number == b.number) h in
    ap (λ (c : ℕ). record { client = c; number = a.number }) (eqb-true a.client b.client parts.0)
    ∙ ap (λ (n : ℕ). record { client = b.client; number = n }) (eqb-true a.number b.number parts.1)

same_inbox-true : (a b : InboxId) → (a.client == b.client && a.number == b.number) ≡ true → a ≡ b
same_inbox-true a b h =
    let parts = and_parts (a.client == b.client) (a.number == b.number) h in
    ap (λ (c : ℕ). record { client = c; number = a.number }) (eqb-true a.client b.client parts.0)
    ∙ ap (λ (n : ℕ). record { client = b.client; number = n }) (eqb-true a.number b.number parts.1)

-- one object is the same value
pub same_object-true : (a b : ObjectId) → same_object a b ≡ true → a ≡ b
same_object-true (Sub a) (Sub b) h = ap Sub (same_sub-true a b h)
same_object-true (Sub a) (Timer b) h = cc
same_object-true (Sub a) (Inbox b) h = cc
same_object-true (Timer a) (Sub b) h = cc
same_object-true (Timer a) (Timer b) h = ap Timer (same_timer-true a b h)
same_object-true (Timer a) (Inbox b) h = cc
same_object-true (Inbox a) (Sub b) h = cc
same_object-true (Inbox a) (Timer b) h = cc
same_object-true (Inbox a) (Inbox b) h = ap Inbox (same_inbox-true a b h)

pub eq_sym : (a b : ℕ) → (a == b) ≡ (b == a)
eq_sym a b = grind (arith, nat_tests)

both_sym : (a b c d : ℕ) → (a == b && c == d) ≡ (b == a && d == c)
both_sym a b c d = ap (λ (x : Bool). x && c == d) (eq_sym a b) ∙ ap (λ (x : Bool). b == a && x) (eq_sym c d)

pub same_object-sym : (a b : ObjectId) → same_object a b ≡ same_object b a
same_object-sym (Sub a) (Sub b) = both_sym a.client b.client a.number b.number
same_object-sym (Sub a) (Timer b) = refl
same_object-sym (Sub a) (Inbox b) = refl
same_object-sym (Timer a) (Sub b) = refl
same_object-sym (Timer a) (Timer b) = both_sym a.client b.client a.number b.number
same_object-sym (Timer a) (Inbox b) = refl
same_object-sym (Inbox a) (Sub b) = refl
same_object-sym (Inbox a) (Timer b) = refl
same_object-sym (Inbox a) (Inbox b) = both_sym a.client b.client a.number b.number

-- LIFE AND MUTING

pub live_more : (o : ObjectId) (live : Bool) (ds : List Deed) (d : Deed)
    → is_live_after o live (ds ++ d ∷ []) ≡ ((is_live_after o live ds || begins_in o d) && not (stops_in o d))
live_more o live [] d = refl
live_more o live (e ∷ ds) d = live_more o ((live || begins_in o e) && not (stops_in o e)) ds d

pub or_false : (b : Bool) → (b || false) ≡ b
or_false true = refl
or_false false = refl

pub and_false : (b : Bool) → (b && false) ≡ false
and_false true = refl
and_false false = refl

pub and_true : (b : Bool) → (b && true) ≡ b
and_true true = refl
and_true false = refl

or_assoc : (a b c : Bool) → (a || (b || c)) ≡ ((a || b) || c)
or_assoc true b c = refl
or_assoc false b c = refl

pub muted_more : (o : ObjectId) (live : Bool) (ds : List Deed) (d : Deed)
    → is_muted_after o live (ds ++ d ∷ []) ≡ (is_muted_after o live ds || ((is_live_after o live ds || begins_in o d) && orders_end_of o d))
muted_more o live [] d = or_false ((live || begins_in o d) && orders_end_of o d)
muted_more o live (e ∷ ds) d =
    let now : Bool = (live || begins_in o e) && orders_end_of o e in
    let next : Bool = (live || begins_in o e) && not (stops_in o e) in
    ap (λ (b : Bool). now || b) (muted_more o next ds d)
    ∙ or_assoc now (is_muted_after o next ds) ((is_live_after o next ds || begins_in o d) && orders_end_of o d)

-- a message that is handled changes neither
pub live_handled : (o : ObjectId) (ds : List Deed) (s : SubId) (m : MarketMsg) → is_live (ds ++ handled s m ∷ []) o ≡ is_live ds o
live_handled o ds s m = live_more o false ds (handled s m) ∙ and_true (is_live ds o || false) ∙ or_false (is_live ds o)

pub muted_handled : (o : ObjectId) (ds : List Deed) (s : SubId) (m : MarketMsg) → is_muted o (ds ++ handled s m ∷ []) ≡ is_muted o ds
muted_handled o ds s m =
    muted_more o false ds (handled s m)
    ∙ ap (λ (b : Bool). is_muted o ds || b) (and_false (is_live ds o || false))
    ∙ or_false (is_muted o ds)

-- a callback that is neither the first nor the last leaves its object alive
pub IsPlain : Callback → Type 0
IsPlain c = (is_create c ≡ false) × (is_destroy c ≡ false)

pub begins_plain : (x o : ObjectId) (c : Callback) (os : List Order) (live : Bool) → is_create c ≡ false → (live || begins_in x (called o c os)) ≡ live
begins_plain x o c os live plain =
    ap (λ (b : Bool). live || (same_object o x && b)) plain
    ∙ ap (λ (b : Bool). live || b) (and_false (same_object o x))
    ∙ or_false live

pub live_plain : (x o : ObjectId) (ds : List Deed) (c : Callback) (os : List Order) → is_create c ≡ false → is_destroy c ≡ false
    → is_live (ds ++ called o c os ∷ []) x ≡ is_live ds x
live_plain x o ds c os first last =
    live_more x false ds (called o c os)
    ∙ ap (λ (b : Bool). b && not (same_object o x && is_destroy c)) (begins_plain x o c os (is_live ds x) first)
    ∙ ap (λ (b : Bool). is_live ds x && not (same_object o x && b)) last
    ∙ ap (λ (b : Bool). is_live ds x && not b) (and_false (same_object o x))
    ∙ and_true (is_live ds x)

-- CALLBACKS AND MESSAGES

pub calls_more : (o : ObjectId) (ds : List Deed) (d : Deed) → calls_of o (ds ++ d ∷ []) ≡ calls_of o ds ++ calls_in o d
calls_more o ds d =
    flat_map-append (calls_in o) ds (d ∷ []) ∙ ap (λ (cs : List (Callback × List Order)). calls_of o ds ++ cs) (append-nil (calls_in o d))

pub notes_called : (x o : ObjectId) (ds : List Deed) (c : Callback) (os : List Order) → same_object o x ≡ true
    → notes_of x (ds ++ called o c os ∷ []) ≡ notes_of x ds ++ record { call = c; orders = os } ∷ []
notes_called x o ds c os same =
    ap (map noted) (calls_more x ds (called o c os) ∙ ap (λ (b : Bool). calls_of x ds ++ (if b then (c, os) ∷ [] else [])) same)
    ∙ map-append noted (calls_of x ds) ((c, os) ∷ [])

pub notes_other : (x o : ObjectId) (ds : List Deed) (c : Callback) (os : List Order) → same_object o x ≡ false
    → notes_of x (ds ++ called o c os ∷ []) ≡ notes_of x ds
notes_other x o ds c os other =
    ap (map noted) (calls_more x ds (called o c os) ∙ ap (λ (b : Bool). calls_of x ds ++ (if b then (c, os) ∷ [] else [])) other ∙ append-nil (calls_of x ds))

pub notes_handled : (x : ObjectId) (ds : List Deed) (s : SubId) (m : MarketMsg) → notes_of x (ds ++ handled s m ∷ []) ≡ notes_of x ds
notes_handled x ds s m = ap (map noted) (calls_more x ds (handled s m) ∙ append-nil (calls_of x ds))

messages_more : (s : SubId) (ds : List Deed) (d : Deed) → messages_of s (ds ++ d ∷ []) ≡ messages_of s ds ++ messages_in s d
messages_more s ds d =
    flat_map-append (messages_in s) ds (d ∷ []) ∙ ap (λ (ms : List MarketMsg). messages_of s ds ++ ms) (append-nil (messages_in s d))

pub messages_called : (x o : ObjectId) (ds : List Deed) (c : Callback) (os : List Order) → messages_at x (ds ++ called o c os ∷ []) ≡ messages_at x ds
messages_called (Sub s) o ds c os = messages_more s ds (called o c os) ∙ append-nil (messages_of s ds)
messages_called (Timer t) o ds c os = refl
messages_called (Inbox i) o ds c os = refl

pub messages_handled : (s : SubId) (ds : List Deed) (m : MarketMsg) → messages_of s (ds ++ handled s m ∷ []) ≡ messages_of s ds ++ m ∷ []
messages_handled s ds m =
    messages_more s ds (handled s m) ∙ ap (λ (b : Bool). messages_of s ds ++ (if b then m ∷ [] else [])) (same_sub-refl s)

pub messages_other : (x : ObjectId) (s : SubId) (ds : List Deed) (m : MarketMsg) → same_object (Sub s) x ≡ false
    → messages_at x (ds ++ handled s m ∷ []) ≡ messages_at x ds
messages_other (Sub x) s ds m other =
    messages_more x ds (handled s m) ∙ ap (λ (b : Bool). messages_of x ds ++ (if b then m ∷ [] else [])) other ∙ append-nil (messages_of x ds)
messages_other (Timer t) s ds m other = refl
messages_other (Inbox i) s ds m other = refl

-- one message more in a context
after_all-more : (c : ContextData) (ms : List MarketMsg) (m : MarketMsg) → after_all c (ms ++ m ∷ []) ≡ after (after_all c ms) m
after_all-more c [] m = refl
after_all-more c (n ∷ ms) m = after_all-more (after c n) ms m

pub context_more : (k : Make) (ms : List MarketMsg) (m : MarketMsg) → context_of (Some k) (ms ++ m ∷ []) ≡ after (context_of (Some k) ms) m
context_more (make.Sub kind cache strategy) ms m = after_all-more _ ms m
context_more make.Timer ms m = after_all-more _ ms m
context_more make.Inbox ms m = after_all-more _ ms m

-- CALLBACKS MADE ONE BY ONE

pub made_more : (orders : ObjectId → ℕ → List Order) (o : ObjectId) (ds : List Deed) (cs : List Callback) (c : Callback)
    → made orders o ds (cs ++ c ∷ []) ≡ made orders o ds cs ++ made orders o (ds ++ made orders o ds cs) (c ∷ [])
made_more orders o ds [] c = ap (λ (es : List Deed). made orders o es (c ∷ [])) (sym (append-nil ds))
made_more orders o ds (b ∷ cs) c =
    let d : Deed = called o b (orders o (length (calls_of o ds) + 1)) in
    elim (is_muted o ds && not (is_destroy b)) as
    (λ t. (if t then made orders o ds (cs ++ c ∷ []) else d ∷ made orders o (ds ++ d ∷ []) (cs ++ c ∷ []))
    ≡ (if t then made orders o ds cs else d ∷ made orders o (ds ++ d ∷ []) cs)
    ++ made orders o (ds ++ (if t then made orders o ds cs else d ∷ made orders o (ds ++ d ∷ []) cs)) (c ∷ [])) [
      | true ↦ made_more orders o ds cs c
      | false ↦
          ap (λ (es : List Deed). d ∷ es) (made_more orders o (ds ++ d ∷ []) cs c)
          ∙ ap (λ (es : List Deed). d ∷ (made orders o (ds ++ d ∷ []) cs ++ made orders o es (c ∷ []))) (append_assoc ds (d ∷ []) (made orders o (ds ++ d ∷ []) cs))
    ]
