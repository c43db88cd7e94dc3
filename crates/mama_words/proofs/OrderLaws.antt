-- What is read as an order is so spelled, and what is so spelled is read.
use Rattle.std.proofs.Common.{◌≡◌, ℕ, ◌<◌, ◌≤◌, ◌^◌, Bool, true, false, cond, ltb, leb, List, [], ◌∷◌, length, map, Option, Some, None, Ok, refl, sym, ap, subst, ◌∙◌, arith}
use Rattle.std.specs.Prelude.{◌&&◌}
use Rattle.std.proofs.lemmas.Bool.{ltb-true, ltb-false, lt-ltb, le-ltb, leb-true, and_parts, and_from}
use Rattle.std.proofs.lemmas.List.{length-map}
use Rattle.mama_edge.specs.Decimal.{decimal}
use Rattle.mama_event.specs.FidList.{is_fid_list, is_ascending_above}
use Rattle.mama_words.specs.declared.id.IdWord.{IdWord}
use Rattle.mama_words.specs.declared.order.OrderKind.{OrderKind}
use Rattle.mama_words.specs.declared.order.OrderKind.TheVariants as kinds
use Rattle.mama_words.specs.declared.order.OrderWord.{OrderWord}
use Rattle.mama_words.specs.declared.order.OrderWord.TheVariants.{Stop, Disarm, Close, Ask}
use Rattle.mama_words.specs.Reading.{◌>>=◌, or_fault}
use Rattle.mama_words.specs.Number.{number_in, between_in, if_between}
use Rattle.mama_words.specs.Id.{id_text, id_in}
use Rattle.mama_words.specs.Order.{order_words, IsId, are_small, IsOrder, order_kind_in, cons_fid, fids_in, asked_or_fault, asked_in, ask_in, order_of, order_in}
use Rattle.mama_words.specs.OrderKindText.{order_kind_text}
use Rattle.mama_words.proofs.Choices.{some_is, ok_is, chosen_other, guard_ok, guard_step, bind_ok, step_ok, and_then_some}
use Rattle.mama_words.proofs.Numbers.{number_in_again, number_in_found}
use Rattle.mama_words.proofs.IdLaws.{id_again, id_found}
use Rattle.mama_words.proofs.KindLaws.{order_kind_again, order_kind_found}

between_again : (n : ℕ) → 0 < n → n < 2 ^ 16 → between_in 1 65535 (decimal n) ≡ Some n
between_again n low high = rw (number_in_again n (omega (arith, high)), le-ltb n 1 (omega (arith, low)), le-ltb 65535 n (omega (arith, high))) refl

if_between_some : (o : Option ℕ) (n : ℕ) → if_between 1 65535 o ≡ Some n → (0 < n) × (n < 2 ^ 16) × (o ≡ Some n)
if_between_some None n e = absurd cc
if_between_some (Some k) n e =
    let p = chosen_other (ltb k 1) (cond (ltb 65535 k) None (Some k)) n e in
    let q = chosen_other (ltb 65535 k) (Some k) n p.1 in
    let same : k ≡ n = some_is k n q.1 in
    let low = ltb-false k 1 p.0 in
    let high = ltb-false 65535 k q.0 in
    (omega arith, omega arith, q.1)

between_found : (text : List ℕ) (n : ℕ) → between_in 1 65535 text ≡ Some n → (0 < n) × (n < 2 ^ 16) × (text ≡ decimal n)
between_found text n e =
    let p = if_between_some (number_in text) n e in
    (p.0, p.1, (number_in_found text n p.2).1)

above_zero : (bound : ℕ) (fids : List ℕ) → is_ascending_above bound fids ≡ true → is_ascending_above 0 fids ≡ true
above_zero bound [] h = refl
above_zero bound (f ∷ fs) h =
    let p = and_parts (ltb bound f) (is_ascending_above f fs) h in
    let lt = ltb-true bound f p.0 in
    and_from (ltb 0 f) (is_ascending_above f fs) (lt-ltb 0 f (omega (arith, lt))) p.1

fids_again : (fids : List ℕ) → is_ascending_above 0 fids ≡ true → are_small fids ≡ true → fids_in (map decimal fids) ≡ Some fids
fids_again [] up small = refl
fids_again (f ∷ fs) up small =
    let p = and_parts (ltb 0 f) (is_ascending_above f fs) up in
    let q = and_parts (ltb f (2 ^ 16)) (are_small fs) small in
    rw (between_again f (ltb-true 0 f p.0) (ltb-true f (2 ^ 16) q.0), fids_again fs (above_zero f fs p.1) q.1) refl

cons_is : (f : ℕ) (o : Option (List ℕ)) (fs : List ℕ) → cons_fid f o ≡ Some fs → (rest : List ℕ) × (o ≡ Some rest) × (f ∷ rest ≡ fs)
cons_is f None fs e = absurd cc
cons_is f (Some rest) fs e = (rest, refl, some_is (f ∷ rest) fs e)

fids_found : (ws : List (List ℕ)) (fids : List ℕ) → fids_in ws ≡ Some fids → (are_small fids ≡ true) × (ws ≡ map decimal fids)
fids_found [] fids e = subst (λ (x : List ℕ). (are_small x ≡ true) × ([] ≡ map decimal x)) (some_is [] fids e) (refl, refl)
fids_found (w ∷ ws) fids e =
    let p = and_then_some (λ f. cons_fid f (fids_in ws)) (between_in 1 65535 w) fids e in
    let q = cons_is p.0 (fids_in ws) fids p.2 in
    let f = between_found w p.0 p.1 in
    let more = fids_found ws q.0 q.1 in
    subst (λ (x : List ℕ). (are_small x ≡ true) × (w ∷ ws ≡ map decimal x)) q.2
    (and_from (ltb p.0 (2 ^ 16)) (are_small q.0) (lt-ltb p.0 (2 ^ 16) f.1) more.0, ap (λ (x : List ℕ). x ∷ ws) f.2 ∙ ap (λ (x : List (List ℕ)). decimal p.0 ∷ x) more.1)

fid_list_parts : (fids : List ℕ) → is_fid_list fids ≡ true → (1 ≤ length fids) × (length fids ≤ 8) × (is_ascending_above 0 fids ≡ true)
fid_list_parts fids h =
    let p = and_parts (leb 1 (length fids) && leb (length fids) 8) (is_ascending_above 0 fids) h in
    let q = and_parts (leb 1 (length fids)) (leb (length fids) 8) p.0 in
    (leb-true 1 (length fids) q.0, leb-true (length fids) 8 q.1, p.1)

asked_again : (fids : List ℕ) → is_fid_list fids ≡ true → are_small fids ≡ true → asked_in (map decimal fids) ≡ Ok fids
unfolding asked_in
asked_again fids list small = let p = fid_list_parts fids list in rw (fids_again fids p.2 small, list) refl

asked_found : (ws : List (List ℕ)) (fids : List ℕ) → asked_in ws ≡ Ok fids → (is_fid_list fids ≡ true) × (are_small fids ≡ true) × (ws ≡ map decimal fids)
unfolding asked_in
asked_found ws fids e =
    let p = step_ok 5 (fids_in ws) asked_or_fault fids e in
    let q = guard_ok (is_fid_list p.0) 8 p.0 fids p.2 in
    let r = fids_found ws p.0 p.1 in
    subst (λ (x : List ℕ). (is_fid_list x ≡ true) × (are_small x ≡ true) × (ws ≡ map decimal x)) q.1 (q.0, r.0, r.1)

ask_again : (id : IdWord) (topic : ℕ) (fids : List ℕ) → IsId id → topic < 2 ^ 64 → is_fid_list fids ≡ true → are_small fids ≡ true → ask_in (id_text 105 id) (decimal topic) (map decimal fids) ≡ Ok (Ask id topic fids)
unfolding ask_in
ask_again id topic fids id_fits topic_fits list small = rw (id_again 105 id id_fits, number_in_again topic topic_fits, asked_again fids list small) refl

ask_found : (inbox topic : List ℕ) (ws : List (List ℕ)) (o : OrderWord) → ask_in inbox topic ws ≡ Ok o → IsOrder o × (kind_word : List ℕ) × (order_words o ≡ kind_word ∷ inbox ∷ topic ∷ ws) × (kind_word ≡ order_kind_text kinds.Ask)
unfolding ask_in
ask_found inbox topic ws o e =
    let a = step_ok 5 (id_in 105 inbox) _ o e in
    let b = step_ok 5 (number_in topic) _ o a.2 in
    let c = bind_ok (asked_in ws) _ o b.2 in
    let i = id_found 105 inbox a.0 a.1 in
    let t = number_in_found topic b.0 b.1 in
    let f = asked_found ws c.0 c.1 in
    let head = order_kind_text kinds.Ask in
    let same : order_words (Ask a.0 b.0 c.0) ≡ head ∷ inbox ∷ topic ∷ ws =
    ap (λ (x : List ℕ). head ∷ x ∷ decimal b.0 ∷ map decimal c.0) (sym i.1) ∙ ap (λ (x : List ℕ). head ∷ inbox ∷ x ∷ map decimal c.0) (sym t.1) ∙ ap (λ (x : List (List ℕ)). head ∷ inbox ∷ topic ∷ x) (sym f.2) in
    subst (λ (x : OrderWord). IsOrder x × (kind_word : List ℕ) × (order_words x ≡ kind_word ∷ inbox ∷ topic ∷ ws) × (kind_word ≡ order_kind_text kinds.Ask)) (ok_is (Ask a.0 b.0 c.0) o c.2)
    ((i.0, t.0, f.0, f.1), order_kind_text kinds.Ask, same, refl)

ask_of : (inbox topic fid : List ℕ) (fids : List (List ℕ)) → length fids < 8 → order_of kinds.Ask (inbox ∷ topic ∷ fid ∷ fids) ≡ ask_in inbox topic (fid ∷ fids)
unfolding order_of
ask_of inbox topic fid fids lt = rw (lt-ltb (length fids) 8 lt) refl

ask_order_again : (id : IdWord) (topic : ℕ) (fids : List ℕ) → IsOrder (Ask id topic fids) → order_of kinds.Ask (id_text 105 id ∷ decimal topic ∷ map decimal fids) ≡ Ok (Ask id topic fids)
ask_order_again id topic [] h = absurd cc
ask_order_again id topic (f ∷ fs) h =
    let p = fid_list_parts (f ∷ fs) h.2 in
    let short : length (map decimal fs) < 8 = rw length-map (omega (arith, p.1)) in
    ask_of (id_text 105 id) (decimal topic) (decimal f) (map decimal fs) short ∙ ask_again id topic (f ∷ fs) h.0 h.1 h.2 h.3

order_of_again : (o : OrderWord) → IsOrder o → order_in (order_words o) ≡ Ok o
unfolding order_in
order_of_again (Stop id) h = rw (order_kind_again kinds.Stop) (unfold order_of in rw (id_again 115 id h) refl)
order_of_again (Disarm id) h = rw (order_kind_again kinds.Disarm) (unfold order_of in rw (id_again 116 id h) refl)
order_of_again (Close id) h = rw (order_kind_again kinds.Close) (unfold order_of in rw (id_again 105 id h) refl)
order_of_again (Ask id topic fids) h = rw (order_kind_again kinds.Ask) (ask_order_again id topic fids h)

pub order_again : (o : OrderWord) → IsOrder o → order_in (order_words o) ≡ Ok o
order_again o h = order_of_again o h

-- the words that an order has behind its kind
abbrev Bears : OrderKind → List (List ℕ) → OrderWord → Type 0
Bears kind ws o = IsOrder o × (order_words o ≡ order_kind_text kind ∷ ws)

one_id : (kind : OrderKind) (letter : ℕ) (make : IdWord → OrderWord) (word : List ℕ) (o : OrderWord) → ((id : IdWord) → IsId id → IsOrder (make id)) → ((id : IdWord) → order_words (make id) ≡ order_kind_text kind ∷ id_text letter id ∷ [])
    → (or_fault 5 (id_in letter word) >>= λ id. Ok (make id)) ≡ Ok o → Bears kind (word ∷ []) o
one_id kind letter make word o fits spelled e =
    let p = step_ok 5 (id_in letter word) (λ id. Ok (make id)) o e in
    let i = id_found letter word p.0 p.1 in
    subst (λ (x : OrderWord). Bears kind (word ∷ []) x) (ok_is (make p.0) o p.2) (fits p.0 i.0, spelled p.0 ∙ ap (λ (w : List ℕ). order_kind_text kind ∷ w ∷ []) (sym i.1))

order_of_found : (kind : OrderKind) (ws : List (List ℕ)) (o : OrderWord) → order_of kind ws ≡ Ok o → Bears kind ws o
unfolding order_of
order_of_found kinds.Stop [] o e = absurd cc
order_of_found kinds.Stop (id ∷ []) o e = one_id kinds.Stop 115 (λ id. Stop id) id o (λ id h. h) (λ id. refl) e
order_of_found kinds.Stop (a ∷ b ∷ ws) o e = absurd cc
order_of_found kinds.Disarm [] o e = absurd cc
order_of_found kinds.Disarm (id ∷ []) o e = one_id kinds.Disarm 116 (λ id. Disarm id) id o (λ id h. h) (λ id. refl) e
order_of_found kinds.Disarm (a ∷ b ∷ ws) o e = absurd cc
order_of_found kinds.Close [] o e = absurd cc
order_of_found kinds.Close (id ∷ []) o e = one_id kinds.Close 105 (λ id. Close id) id o (λ id h. h) (λ id. refl) e
order_of_found kinds.Close (a ∷ b ∷ ws) o e = absurd cc
order_of_found kinds.Ask [] o e = absurd cc
order_of_found kinds.Ask (a ∷ []) o e = absurd cc
order_of_found kinds.Ask (a ∷ b ∷ []) o e = absurd cc
order_of_found kinds.Ask (inbox ∷ topic ∷ fid ∷ fids) o e =
    let p = guard_step (ltb (length fids) 8) 4 (ask_in inbox topic (fid ∷ fids)) o e in
    let q = ask_found inbox topic (fid ∷ fids) o p.1 in
    (q.0, q.2 ∙ ap (λ (w : List ℕ). w ∷ inbox ∷ topic ∷ fid ∷ fids) q.3)

pub order_found : (ws : List (List ℕ)) (o : OrderWord) → order_in ws ≡ Ok o → IsOrder o × (ws ≡ order_words o)
unfolding order_in
order_found [] o e = absurd cc
order_found (head ∷ ws) o e =
    let p = step_ok 4 (order_kind_in head) (λ kind. order_of kind ws) o e in
    let q = order_of_found p.0 ws o p.2 in
    (q.0, ap (λ (w : List ℕ). w ∷ ws) (order_kind_found head p.0 p.1) ∙ sym q.1)
