-- What a group was told of a member is what the queue did to it, entry by entry.
use Rattle.std.proofs.Common.{◌≡◌, ℕ, Bool, true, false, cond, List, [], ◌∷◌, ◌++◌, map, refl, sym, ap, subst, ◌∙◌, append_assoc, append-nil}
use Rattle.std.specs.Prelude.{◌||◌}
use Rattle.std.specs.List.{flat_map, list_any, AllByRecursion}
use Rattle.std.proofs.lemmas.Bool.{or_left, or_right}
use Rattle.std.proofs.lemmas.List.{map-append}
use Rattle.std.proofs.lemmas.List.Concat.{flat_map-append}
use Rattle.std.proofs.lemmas.List.Folds.{list_any-append}
use Rattle.mama_journal.specs.Journal.{puts_after, puts_so_far}
use Rattle.mama_event.specs.declared.ids.SubId.{SubId}
use Rattle.mama_event.specs.declared.ids.ObjectId.{ObjectId}
use Rattle.mama_event.specs.declared.ids.ObjectId.TheVariants.{Sub, Timer, Inbox}
use Rattle.mama_event.specs.declared.callback.Callback.{Callback}
use Rattle.mama_event.specs.declared.order.Order.{Order}
use Rattle.mama_event.specs.declared.to_queue.QueueNote.{QueueNote}
use Rattle.mama_event.specs.declared.group.GroupState.{GroupState}
use Rattle.mama_event.specs.declared.group.GroupNote.{GroupNote}
use Rattle.mama_event.specs.declared.group.GroupNote.TheVariants as note
use Rattle.mama_event.specs.Object.{same_sub}
use Rattle.mama_event.specs.GroupStates.{same_group_state}
use Rattle.mama_event.specs.EqualityLaws.{same_sub-Decides, same_group_state-Decides}
use Rattle.mama_rules_queue.specs.Queue.{Deed, handled, called, served, calls_in, calls_of, deeds, deeds_at}
use Rattle.mama_rules_queue.specs.Group.{Member, member_by, state_of, member_in, group_state, heard_of, state_told, group_notes_at, group_notes}
use Rattle.mama_rules_queue.specs.GroupTurns.{told_of, state_after, calls_heard, turn_notes}
use Rattle.mama_group.specs.Table.{has_member, IsOnly}

abbrev first : Callback × List Order → Callback
first c = c.0

-- ---- what is told of one member

test_is : {A : Type 0} (b : Bool) (x : A) → b ≡ true → cond b (x ∷ []) [] ≡ x ∷ []
test_is true x e = refl
test_is false x e = absurd cc

told_skips : (m : SubId) (s : SubId) (call : Callback) (member : Bool) → same_sub s m ≡ false → flat_map (told_of m) (cond member (note.Call s call ∷ []) []) ≡ []
told_skips m s call true other = rw other refl
told_skips m s call false other = refl

told_call : (members : List SubId) (m s : SubId) (call : Callback) (orders : List Order) (same : Bool) → same_sub s m ≡ same → has_member m members ≡ true
    → flat_map (told_of m) (cond (list_any (same_sub s) members) (note.Call s call ∷ []) []) ≡ map first (cond same ((call, orders) ∷ []) [])
told_call members m s call orders true e is =
    let at : s ≡ m = (same_sub-Decides s m).0 e in
    let there : list_any (same_sub s) members ≡ true = ap (λ (x : SubId). list_any (same_sub x) members) at ∙ is in
    rw there (rw e refl)
told_call members m s call orders false e is = told_skips m s call (list_any (same_sub s) members) e

told_deed : (members : List SubId) (m : SubId) (d : Deed) → has_member m members ≡ true → flat_map (told_of m) (heard_of members d) ≡ map first (calls_in (Sub m) d)
told_deed members m (handled sub msg) is = refl
told_deed members m (called (Sub s) call orders) is = told_call members m s call orders (same_sub s m) refl is
told_deed members m (called (Timer t) call orders) is = refl
told_deed members m (called (Inbox i) call orders) is = refl

told_deeds : (members : List SubId) (m : SubId) (ds : List Deed) → has_member m members ≡ true → flat_map (told_of m) (flat_map (heard_of members) ds) ≡ map first (calls_of (Sub m) ds)
told_deeds members m [] is = refl
told_deeds members m (d ∷ ds) is =
    flat_map-append (told_of m) (heard_of members d) (flat_map (heard_of members) ds)
    ∙ ap (λ (x : List Callback). x ++ flat_map (told_of m) (flat_map (heard_of members) ds)) (told_deed members m d is)
    ∙ ap (λ (x : List Callback). map first (calls_in (Sub m) d) ++ x) (told_deeds members m ds is)
    ∙ sym (map-append first (calls_in (Sub m) d) (calls_of (Sub m) ds))

told_test : (m : SubId) (same : Bool) (after : GroupState) → flat_map (told_of m) (cond same [] (note.State after ∷ [])) ≡ []
told_test m true after = refl
told_test m false after = refl

-- a state tells nothing of a member
pub told_state : (m : SubId) (before after : GroupState) → flat_map (told_of m) (state_told before after) ≡ []
told_state m before after = told_test m (same_group_state before after) after

told_at : (orders : ObjectId → ℕ → List Order) (members : List SubId) (m : SubId) (before : List (ℕ × QueueNote)) (e : ℕ × QueueNote) → has_member m members ≡ true
    → flat_map (told_of m) (group_notes_at orders members before e) ≡ map first (calls_of (Sub m) (deeds_at orders before e))
told_at orders members m before e is =
    let ds = deeds_at orders before e in
    let a = group_state members (deeds orders before) in
    let b = group_state members (deeds orders (before ++ e ∷ [])) in
    flat_map-append (told_of m) (flat_map (heard_of members) ds) (state_told a b)
    ∙ ap (λ (x : List Callback). flat_map (told_of m) (flat_map (heard_of members) ds) ++ x) (told_state m a b)
    ∙ append-nil (flat_map (told_of m) (flat_map (heard_of members) ds))
    ∙ told_deeds members m ds is

-- ---- and of a whole journal

so_far_more : {E P : Type 0} (at : List E → List P → E → List P) (es before : List E) (sofar : List P) (e : E)
    → puts_so_far at before sofar (es ++ e ∷ []) ≡ puts_so_far at before sofar es ++ at (before ++ es) (puts_so_far at before sofar es) e
so_far_more {E} {P} at [] before sofar e = ap (λ (xs : List E). sofar ++ at xs sofar e) (sym (append-nil before))
so_far_more {E} {P} at (x ∷ es) before sofar e =
    so_far_more at es (before ++ x ∷ []) (sofar ++ at before sofar x) e
    ∙ ap (λ (xs : List E). puts_so_far at (before ++ x ∷ []) (sofar ++ at before sofar x) es ++ at xs (puts_so_far at (before ++ x ∷ []) (sofar ++ at before sofar x) es) e) (append_assoc before (x ∷ []) es)

pub deeds_more : (orders : ObjectId → ℕ → List Order) (journal : List (ℕ × QueueNote)) (e : ℕ × QueueNote) → deeds orders (journal ++ e ∷ []) ≡ deeds orders journal ++ deeds_at orders journal e
deeds_more orders journal e = so_far_more (λ (before : List (ℕ × QueueNote)) (sofar : List Deed) (x : ℕ × QueueNote). served orders before sofar x.1) journal [] [] e

-- the callbacks of a subscription
abbrev calls : SubId → List Deed → List Callback
calls s ds = map first (calls_of (Sub s) ds)

calls_more : (s : SubId) (ds es : List Deed) → calls s (ds ++ es) ≡ calls s ds ++ calls s es
calls_more s ds es = ap (map first) (flat_map-append (calls_in (Sub s)) ds es) ∙ map-append first (calls_of (Sub s) ds) (calls_of (Sub s) es)

told_from : (orders : ObjectId → ℕ → List Order) (members : List SubId) (m : SubId) (before es : List (ℕ × QueueNote)) → has_member m members ≡ true
    → calls m (deeds orders before) ++ flat_map (told_of m) (puts_after (group_notes_at orders members) before es) ≡ calls m (deeds orders (before ++ es))
told_from orders members m before [] is = append-nil (calls m (deeds orders before)) ∙ ap (λ (xs : List (ℕ × QueueNote)). calls m (deeds orders xs)) (sym (append-nil before))
told_from orders members m before (e ∷ es) is =
    let here = group_notes_at orders members before e in
    let rest = puts_after (group_notes_at orders members) (before ++ e ∷ []) es in
    ap (λ (x : List Callback). calls m (deeds orders before) ++ x) (flat_map-append (told_of m) here rest ∙ ap (λ (x : List Callback). x ++ flat_map (told_of m) rest) (told_at orders members m before e is))
    ∙ sym (append_assoc (calls m (deeds orders before)) (calls m (deeds_at orders before e)) (flat_map (told_of m) rest))
    ∙ ap (λ (x : List Callback). x ++ flat_map (told_of m) rest) (sym (calls_more m (deeds orders before) (deeds_at orders before e)) ∙ ap (calls m) (sym (deeds_more orders before e)))
    ∙ told_from orders members m (before ++ e ∷ []) es is
    ∙ ap (λ (xs : List (ℕ × QueueNote)). calls m (deeds orders xs)) (append_assoc before (e ∷ []) es)

pub told_of_all : (orders : ObjectId → ℕ → List Order) (members : List SubId) (m : SubId) (journal : List (ℕ × QueueNote)) → has_member m members ≡ true → flat_map (told_of m) (group_notes orders members journal) ≡ calls m (deeds orders journal)
told_of_all orders members m journal is = told_from orders members m [] journal is

-- ---- each member of a list is in it

same_self : (s : SubId) → same_sub s s ≡ true
same_self s = (same_sub-Decides s s).1 refl

abbrev AreIn : List SubId → List SubId → Type 0
AreIn members ms = AllByRecursion (λ (m : SubId). has_member m members ≡ true) ms

own_here : (front ms : List SubId) (m : SubId) → has_member m (front ++ m ∷ ms) ≡ true
own_here front ms m =
    list_any-append (same_sub m) front (m ∷ ms)
    ∙ or_right (list_any (same_sub m) front) (same_sub m m || list_any (same_sub m) ms) (or_left (same_sub m m) (list_any (same_sub m) ms) (same_self m))

own_from : (front ms : List SubId) → AreIn (front ++ ms) ms
own_from front [] = tt
own_from front (m ∷ ms) = (own_here front ms m, subst (λ (xs : List SubId). AreIn xs ms) (append_assoc front (m ∷ []) ms) (own_from (front ++ m ∷ []) ms))

own : (members : List SubId) → AreIn members members
own members = own_from [] members

-- ---- the state

states_of : (orders : ObjectId → ℕ → List Order) (members ms : List SubId) (journal : List (ℕ × QueueNote)) → AreIn members ms
    → map (λ s. member_by (flat_map (told_of s) (group_notes orders members journal))) ms ≡ map (member_in (deeds orders journal)) ms
states_of orders members [] journal h = refl
states_of orders members (m ∷ ms) journal h =
    let rest = map (λ s. member_by (flat_map (told_of s) (group_notes orders members journal))) ms in
    ap (λ (x : List Callback). member_by x ∷ rest) (told_of_all orders members m journal h.0) ∙ ap (λ (x : List Member). member_in (deeds orders journal) m ∷ x) (states_of orders members ms journal h.1)

pub state_told_so : (orders : ObjectId → ℕ → List Order) (members : List SubId) (journal : List (ℕ × QueueNote)) → state_after members (group_notes orders members journal) ≡ group_state members (deeds orders journal)
state_told_so orders members journal = ap state_of (states_of orders members members journal (own members))

-- what ends in a state leaves each member as it was
pub without_state : (members ms : List SubId) (notes : List GroupNote) (a b : GroupState)
    → map (λ s. member_by (flat_map (told_of s) (notes ++ state_told a b))) ms ≡ map (λ s. member_by (flat_map (told_of s) notes)) ms
without_state members [] notes a b = refl
without_state members (m ∷ ms) notes a b =
    let rest = map (λ s. member_by (flat_map (told_of s) (notes ++ state_told a b))) ms in
    ap (λ (x : List Callback). member_by x ∷ rest)
    (flat_map-append (told_of m) notes (state_told a b) ∙ ap (λ (x : List Callback). flat_map (told_of m) notes ++ x) (told_state m a b) ∙ append-nil (flat_map (told_of m) notes))
    ∙ ap (λ (x : List Member). member_by (flat_map (told_of m) notes) ∷ x) (without_state members ms notes a b)

after_more : {E P : Type 0} (at : List E → E → List P) (es before : List E) (e : E) → puts_after at before (es ++ e ∷ []) ≡ puts_after at before es ++ at (before ++ es) e
after_more {E} {P} at [] before e = append-nil (at before e) ∙ ap (λ (xs : List E). at xs e) (sym (append-nil before))
after_more {E} {P} at (x ∷ es) before e =
    ap (λ (ps : List P). at before x ++ ps) (after_more at es (before ++ x ∷ []) e)
    ∙ sym (append_assoc (at before x) (puts_after at (before ++ x ∷ []) es) (at ((before ++ x ∷ []) ++ es) e))
    ∙ ap (λ (xs : List E). (at before x ++ puts_after at (before ++ x ∷ []) es) ++ at xs e) (append_assoc before (x ∷ []) es)

pub notes_more : (orders : ObjectId → ℕ → List Order) (members : List SubId) (before : List (ℕ × QueueNote)) (e : ℕ × QueueNote) → group_notes orders members (before ++ e ∷ []) ≡ group_notes orders members before ++ group_notes_at orders members before e
notes_more orders members before e = after_more (group_notes_at orders members) before [] e

-- the state after the callbacks of an entry is that after the entry
state_behind : (orders : ObjectId → ℕ → List Order) (members : List SubId) (before : List (ℕ × QueueNote)) (e : ℕ × QueueNote)
    → state_after members (group_notes orders members before ++ flat_map (heard_of members) (deeds_at orders before e)) ≡ group_state members (deeds orders (before ++ e ∷ []))
state_behind orders members before e =
    let notes = group_notes orders members before in
    let heard = flat_map (heard_of members) (deeds_at orders before e) in
    let a = group_state members (deeds orders before) in
    let b = group_state members (deeds orders (before ++ e ∷ [])) in
    ap state_of
    (sym (without_state members members (notes ++ heard) a b)
    ∙ ap (λ (x : List GroupNote). map (λ s. member_by (flat_map (told_of s) x)) members) (append_assoc notes heard (state_told a b) ∙ sym (notes_more orders members before e)))
    ∙ state_told_so orders members (before ++ e ∷ [])

-- ---- an entry that calls back one subscription alone

split_nil : {A : Type 0} (xs ys : List A) → xs ++ ys ≡ [] → (xs ≡ []) × (ys ≡ [])
split_nil [] ys e = (refl, e)
split_nil (x ∷ xs) ys e = absurd cc

only_rest : (s : SubId) (d : Deed) (ds : List Deed) → IsOnly s (d ∷ ds) → IsOnly s ds
only_rest s d ds h = λ t other. (split_nil (calls_in (Sub t) d) (calls_of (Sub t) ds) (h t other)).1

-- a callback that is there is of the one
only_here : (s t : SubId) (call : Callback) (orders : List Order) (ds : List Deed) (same : Bool) → same_sub t s ≡ same → IsOnly s (called (Sub t) call orders ∷ ds) → t ≡ s
only_here s t call orders ds true e h = (same_sub-Decides t s).0 e
only_here s t call orders ds false e h =
    let none = (split_nil (calls_in (Sub t) (called (Sub t) call orders)) (calls_of (Sub t) ds) (h t e)).0 in
    let some : calls_in (Sub t) (called (Sub t) call orders) ≡ (call, orders) ∷ [] = test_is (same_sub t t) (call, orders) (same_self t) in
    absurd (never none some)
  where
    never : {A : Type 0} {xs : List A} {x : A} → xs ≡ [] → xs ≡ x ∷ [] → ⊥
    never a b = cc

heard_call : (members : List SubId) (s t : SubId) (call : Callback) (orders : List Order) → t ≡ s → has_member s members ≡ true → heard_of members (called (Sub t) call orders) ≡ calls_heard s (map first (calls_in (Sub s) (called (Sub t) call orders)))
heard_call members s t call orders at is =
    subst (λ (x : SubId). heard_of members (called (Sub x) call orders) ≡ calls_heard s (map first (calls_in (Sub s) (called (Sub x) call orders)))) (sym at)
    (rw (is, same_self s) refl)

heard_only : (members : List SubId) (s : SubId) (ds : List Deed) → has_member s members ≡ true → IsOnly s ds → flat_map (heard_of members) ds ≡ calls_heard s (map first (calls_of (Sub s) ds))
heard_only members s [] is only = refl
heard_only members s (handled sub msg ∷ ds) is only = heard_only members s ds is (only_rest s (handled sub msg) ds only)
heard_only members s (called (Timer t) call orders ∷ ds) is only = heard_only members s ds is (only_rest s (called (Timer t) call orders) ds only)
heard_only members s (called (Inbox i) call orders ∷ ds) is only = heard_only members s ds is (only_rest s (called (Inbox i) call orders) ds only)
heard_only members s (called (Sub t) call orders ∷ ds) is only =
    let d = called (Sub t) call orders in
    let here = heard_call members s t call orders (only_here s t call orders ds (same_sub t s) refl only) is in
    ap (λ (x : List GroupNote). x ++ flat_map (heard_of members) ds) here
    ∙ ap (λ (x : List GroupNote). calls_heard s (map first (calls_in (Sub s) d)) ++ x) (heard_only members s ds is (only_rest s d ds only))
    ∙ sym (map-append (λ call. note.Call s call) (map first (calls_in (Sub s) d)) (map first (calls_of (Sub s) ds)))
    ∙ ap (calls_heard s) (sym (map-append first (calls_in (Sub s) d) (calls_of (Sub s) ds)))

pub heard_turn : (orders : ObjectId → ℕ → List Order) (members : List SubId) (before : List (ℕ × QueueNote)) (e : ℕ × QueueNote) (s : SubId) → IsOnly s (deeds_at orders before e) → has_member s members ≡ true
    → group_notes_at orders members before e ≡ turn_notes members (group_notes orders members before) s (map first (calls_of (Sub s) (deeds_at orders before e)))
heard_turn orders members before e s only is =
    let ds = deeds_at orders before e in
    let notes = group_notes orders members before in
    let heard = heard_only members s ds is only in
    ap (λ (x : List GroupNote). x ++ state_told (group_state members (deeds orders before)) (group_state members (deeds orders (before ++ e ∷ [])))) heard
    ∙ ap (λ (x : GroupState). calls_heard s (calls s ds) ++ state_told x (group_state members (deeds orders (before ++ e ∷ [])))) (sym (state_told_so orders members before))
    ∙ ap (λ (x : GroupState). calls_heard s (calls s ds) ++ state_told (state_after members notes) x)
    (sym (state_behind orders members before e) ∙ ap (λ (x : List GroupNote). state_after members (notes ++ x)) heard)

-- ---- a subscription that is in no group of these members

other_member : (members : List SubId) (s m : SubId) → has_member s members ≡ false → has_member m members ≡ true → same_sub m s ≡ false
other_member members s m out is = test (same_sub m s) refl
  where
    test : (b : Bool) → same_sub m s ≡ b → b ≡ false
    test true e = let at : m ≡ s = (same_sub-Decides m s).0 e in let bad : true ≡ false = sym is ∙ ap (λ (x : SubId). has_member x members) at ∙ out in absurd cc
    test false e = refl

unheard_deeds : (members : List SubId) (s : SubId) (ds : List Deed) → has_member s members ≡ false → IsOnly s ds → flat_map (heard_of members) ds ≡ []
unheard_deeds members s [] out only = refl
unheard_deeds members s (handled sub msg ∷ ds) out only = unheard_deeds members s ds out (only_rest s (handled sub msg) ds only)
unheard_deeds members s (called (Timer t) call orders ∷ ds) out only = unheard_deeds members s ds out (only_rest s (called (Timer t) call orders) ds only)
unheard_deeds members s (called (Inbox i) call orders ∷ ds) out only = unheard_deeds members s ds out (only_rest s (called (Inbox i) call orders) ds only)
unheard_deeds members s (called (Sub t) call orders ∷ ds) out only =
    let at = only_here s t call orders ds (same_sub t s) refl only in
    let none : list_any (same_sub t) members ≡ false = ap (λ (x : SubId). has_member x members) at ∙ out in
    rw none (unheard_deeds members s ds out (only_rest s (called (Sub t) call orders) ds only))

same_members : (orders : ObjectId → ℕ → List Order) (members ms : List SubId) (before : List (ℕ × QueueNote)) (e : ℕ × QueueNote) (s : SubId) → IsOnly s (deeds_at orders before e) → has_member s members ≡ false → AreIn members ms
    → map (member_in (deeds orders (before ++ e ∷ []))) ms ≡ map (member_in (deeds orders before)) ms
same_members orders members [] before e s only out h = refl
same_members orders members (m ∷ ms) before e s only out h =
    let ds = deeds orders before in
    let es = deeds_at orders before e in
    let none : calls m es ≡ [] = ap (map first) (only m (other_member members s m out h.0)) in
    ap (λ (x : List Callback). member_by x ∷ map (member_in (deeds orders (before ++ e ∷ []))) ms)
    (ap (calls m) (deeds_more orders before e) ∙ calls_more m ds es ∙ ap (λ (x : List Callback). calls m ds ++ x) none ∙ append-nil (calls m ds))
    ∙ ap (λ (x : List Member). member_in ds m ∷ x) (same_members orders members ms before e s only out h.1)

untold : (a b : GroupState) → a ≡ b → state_told a b ≡ []
untold a b e = let same = (same_group_state-Decides a b).1 e in rw same refl

pub unheard_turn : (orders : ObjectId → ℕ → List Order) (members : List SubId) (before : List (ℕ × QueueNote)) (e : ℕ × QueueNote) (s : SubId) → IsOnly s (deeds_at orders before e) → has_member s members ≡ false → group_notes_at orders members before e ≡ []
unheard_turn orders members before e s only out =
    let a = group_state members (deeds orders before) in
    let b = group_state members (deeds orders (before ++ e ∷ [])) in
    ap (λ (x : List GroupNote). x ++ state_told a b) (unheard_deeds members s (deeds_at orders before e) out only)
    ∙ untold a b (sym (ap state_of (same_members orders members members before e s only out (own members))))

-- ---- an entry that calls back no subscription

nothing_told : (members : List SubId) (notes : List GroupNote) (s : SubId) (calls : List Callback) → calls ≡ [] → turn_notes members notes s calls ≡ []
nothing_told members notes s calls none =
    ap (turn_notes members notes s) none ∙ untold (state_after members notes) (state_after members (notes ++ [])) (ap (state_after members) (sym (append-nil notes)))

pub silent_turn : (orders : ObjectId → ℕ → List Order) (members : List SubId) (before : List (ℕ × QueueNote)) (e : ℕ × QueueNote) (s : SubId)
    → ((t : SubId) → calls_of (Sub t) (deeds_at orders before e) ≡ []) → group_notes_at orders members before e ≡ []
silent_turn orders members before e s none = by (has_member s members) refl
  where
    by : (b : Bool) → has_member s members ≡ b → group_notes_at orders members before e ≡ []
    by true is =
        heard_turn orders members before e s (λ t other. none t) is
        ∙ nothing_told members (group_notes orders members before) s (map first (calls_of (Sub s) (deeds_at orders before e))) (ap (map first) (none s))
    by false out = unheard_turn orders members before e s (λ t other. none t) out
