-- The lines of an object's callbacks and orders.
use Rattle.std.proofs.Common.{◌≡◌, ℕ, zero, suc, ◌-◌, ◌<◌, ◌≤◌, List, [], ◌∷◌, ◌++◌, length, map, refl, sym, ap, subst, ◌∙◌, append_assoc, arith, inl, inr}
use Rattle.std.specs.Prelude.{◌⊎◌}
use Rattle.std.specs.List.{flat_map, AllByRecursion}
use Rattle.std.proofs.lemmas.List.Elements.{recursion_from_All}
use Rattle.mama_event.specs.declared.ids.ObjectId.{ObjectId}
use Rattle.mama_event.specs.declared.order.Order.{Order}
use Rattle.mama_event.specs.declared.callback.Callback.{Callback}
use Rattle.mama_event.specs.declared.callback.CallNote.{CallNote}
use Rattle.mama_record.specs.LogText.{callback_text, call_texts, given_text}
use Rattle.mama_log_line.specs.Names.{NamesData}
use Rattle.mama_log_line.specs.Entering.{MayHear, MayOrder}
use Rattle.mama_log_read.specs.Logged.{MayCall}
use Rattle.mama_log_read.specs.Reading.{room}
use Rattle.mama_log_read.proofs.Spelled.{same_call, same_order}
use Rattle.mama_log_read.proofs.NoHead.{call_no_order}
use Rattle.mama_log_read.proofs.Alike.{Overlap, overlap, each_map, same_map, beyond_map, head_or, tail_of}

abbrev pub IsCallLine : NamesData → ObjectId → List ℕ → Type 0
IsCallLine names object l = (c : Callback) × MayHear names.nums object c × (l ≡ callback_text c)

abbrev pub IsOrderLine : NamesData → List ℕ → Type 0
IsOrderLine names l = (o : Order) × MayOrder names o × (l ≡ given_text o)

-- lines of callbacks and orders, where so many orders may stand before the next callback
abbrev Orderly : NamesData → ObjectId → ℕ → List (List ℕ) → Type 0
Orderly names object k [] = Unit {0}
Orderly names object k (l ∷ ls) = (IsCallLine names object l × Orderly names object 8 ls) ⊎ ((j : ℕ) × (k ≡ suc j) × IsOrderLine names l × Orderly names object j ls)

orders_orderly : (names : NamesData) (object : ObjectId) (os : List Order) (k : ℕ) (rest : List (List ℕ)) → AllByRecursion (MayOrder names) os → length os ≤ k → ((j : ℕ) → Orderly names object j rest) → Orderly names object k (map given_text os ++ rest)
orders_orderly names object [] k rest h few more = more k
orders_orderly names object (o ∷ os) zero rest h few more = absurd (omega arith)
orders_orderly names object (o ∷ os) (suc k) rest h few more = inr (k, refl, (o, h.0, refl), orders_orderly names object os k rest h.1 (omega (arith, few)) more)

calls_orderly : (names : NamesData) (object : ObjectId) (calls : List CallNote) → AllByRecursion (MayCall names object) calls → (k : ℕ) → Orderly names object k (flat_map call_texts calls)
calls_orderly names object [] h k = tt
calls_orderly names object (c ∷ calls) h k =
    inl ((c.call, h.0.call, refl), orders_orderly names object c.orders 8 (flat_map call_texts calls) (recursion_from_All (MayOrder names) c.orders h.0.orders) h.0.few (calls_orderly names object calls h.1))

after_orders : (names : NamesData) (object : ObjectId) (os : List Order) (k : ℕ) (more : List (List ℕ)) → Orderly names object k (map given_text os ++ more) → Orderly names object (k - length os) more
after_orders names object [] k more h = let e : k ≡ k - 0 = omega arith in let P : ℕ → Type 0 = λ n. Orderly names object n more in subst P e h
after_orders names object (o ∷ os) k more (inl h) = absurd (call_no_order h.0.0 o (sym h.0.2))
after_orders names object (o ∷ os) k more (inr h) =
    let e : h.0 - length os ≡ k - suc (length os) = omega (arith, h.1) in
    let P : ℕ → Type 0 = λ n. Orderly names object n more in
    subst P e (after_orders names object os h.0 more h.3)

after_call : (names : NamesData) (object : ObjectId) (c : CallNote) (k : ℕ) (more : List (List ℕ)) → Orderly names object k (call_texts c ++ more) → Orderly names object (8 - length c.orders) more
after_call names object c k more (inl h) = after_orders names object c.orders 8 more h.1
after_call names object c k more (inr h) = absurd (call_no_order c.call h.2.0 h.2.2)

after_calls : (names : NamesData) (object : ObjectId) (c : CallNote) (calls : List CallNote) (k : ℕ) (more : List (List ℕ)) → Orderly names object k (flat_map call_texts (c ∷ calls) ++ more) → Orderly names object (room (c ∷ calls)) more
after_calls names object c [] k more h =
    let P : List (List ℕ) → Type 0 = λ ls. Orderly names object k ls in
    after_call names object c k more (subst P (append_assoc (call_texts c) [] more) h)
after_calls names object c (d ∷ calls) k more h =
    let P : List (List ℕ) → Type 0 = λ ls. Orderly names object k ls in
    after_calls names object d calls (8 - length c.orders) more (after_call names object c k (flat_map call_texts (d ∷ calls) ++ more) (subst P (append_assoc (call_texts c) (flat_map call_texts (d ∷ calls)) more) h))

-- a line that callbacks may go on with
abbrev pub CallsGoOn : NamesData → ObjectId → List CallNote → List ℕ → Type 0
CallsGoOn names object calls l = IsCallLine names object l ⊎ ((0 < room calls) × IsOrderLine names l)

goes_on : (names : NamesData) (object : ObjectId) (calls : List CallNote) (l : List ℕ) (ls : List (List ℕ)) → Orderly names object (room calls) (l ∷ ls) → CallsGoOn names object calls l
goes_on names object calls l ls (inl h) = inl h.0
goes_on names object calls l ls (inr h) = inr (omega (arith, h.1), h.2)

pub beyond_calls : (names : NamesData) (object : ObjectId) (calls others : List CallNote) (l : List ℕ) (ls : List (List ℕ)) → AllByRecursion (MayCall names object) others → flat_map call_texts others ≡ flat_map call_texts calls ++ l ∷ ls
    → CallsGoOn names object calls l
beyond_calls names object [] others l ls h e =
    let P : List (List ℕ) → Type 0 = λ x. Orderly names object 0 x in
    goes_on names object [] l ls (subst P e (calls_orderly names object others h 0))
beyond_calls names object (c ∷ calls) others l ls h e =
    let P : List (List ℕ) → Type 0 = λ x. Orderly names object 0 x in
    goes_on names object (c ∷ calls) l ls (after_calls names object c calls 0 (l ∷ ls) (subst P e (calls_orderly names object others h 0)))

no_order_first : (o : Order) (z : List ℕ) (zs : List (List ℕ)) (calls : List CallNote) → z ≡ given_text o → z ∷ zs ≡ flat_map call_texts calls → ⊥
no_order_first o z zs [] e h = absurd cc
no_order_first o z zs (c ∷ calls) e h = call_no_order c.call o (sym (ap (head_or []) h) ∙ e)

same_orders : (names : NamesData) (os ps : List Order) (calls others : List CallNote) → AllByRecursion (MayOrder names) os → AllByRecursion (MayOrder names) ps → map given_text os ++ flat_map call_texts calls ≡ map given_text ps ++ flat_map call_texts others
    → (os ≡ ps) × (flat_map call_texts calls ≡ flat_map call_texts others)
same_orders names os ps calls others h k e = by (overlap (map given_text os) (flat_map call_texts calls) (map given_text ps) (flat_map call_texts others) e)
  where
    by : Overlap (map given_text os) (flat_map call_texts calls) (map given_text ps) (flat_map call_texts others) → (os ≡ ps) × (flat_map call_texts calls ≡ flat_map call_texts others)
    by (inl p) = (same_map (MayOrder names) given_text (same_order names) os ps h k p.0, p.1)
    by (inr (inl p)) = let b = beyond_map (MayOrder names) given_text (same_order names) ps os p.0 p.1.0 k h p.1.1 in absurd (no_order_first b.entry p.0 (p.1.0 ++ flat_map call_texts calls) others b.spelled p.1.2)
    by (inr (inr p)) = let b = beyond_map (MayOrder names) given_text (same_order names) os ps p.0 p.1.0 h k p.1.1 in absurd (no_order_first b.entry p.0 (p.1.0 ++ flat_map call_texts others) calls b.spelled p.1.2)

call_is : (c d : CallNote) → c.call ≡ d.call → c.orders ≡ d.orders → c ≡ d
call_is c d e f =
    ap (λ (x : Callback). let r : CallNote = record { call = x; orders = c.orders } in r) e ∙ ap (λ (x : List Order). let r : CallNote = record { call = d.call; orders = x } in r) f

pub same_calls : (names : NamesData) (object : ObjectId) (calls others : List CallNote) → AllByRecursion (MayCall names object) calls → AllByRecursion (MayCall names object) others → flat_map call_texts calls ≡ flat_map call_texts others → calls ≡ others
same_calls names object [] [] h k e = refl
same_calls names object [] (d ∷ others) h k e = absurd cc
same_calls names object (c ∷ calls) [] h k e = absurd cc
same_calls names object (c ∷ calls) (d ∷ others) h k e =
    let one = same_call names.nums object c.call d.call h.0.call k.0.call (ap (head_or []) e) in
    let rest = same_orders names c.orders d.orders calls others (recursion_from_All (MayOrder names) c.orders h.0.orders) (recursion_from_All (MayOrder names) d.orders k.0.orders) (ap tail_of e) in
    ap (λ (x : CallNote). x ∷ calls) (call_is c d one rest.0) ∙ ap (λ (xs : List CallNote). d ∷ xs) (same_calls names object calls others h.1 k.1 rest.1)

-- what holds of each line of a callback and of an order
pub each_call : (names : NamesData) (object : ObjectId) (P : List ℕ → Type 0) → ((c : Callback) → MayHear names.nums object c → P (callback_text c)) → ((o : Order) → MayOrder names o → P (given_text o))
    → (calls : List CallNote) → AllByRecursion (MayCall names object) calls → AllByRecursion P (flat_map call_texts calls)
each_call names object P of_call of_order [] h = tt
each_call names object P of_call of_order (c ∷ calls) h =
    (of_call c.call h.0.call, both (map given_text c.orders) (flat_map call_texts calls) (each_map (MayOrder names) P given_text of_order c.orders (recursion_from_All (MayOrder names) c.orders h.0.orders)) (each_call names object P of_call of_order calls h.1))
  where
    both : (ls ms : List (List ℕ)) → AllByRecursion P ls → AllByRecursion P ms → AllByRecursion P (ls ++ ms)
    both [] ms h k = k
    both (l ∷ ls) ms h k = (h.0, both ls ms h.1 k)
