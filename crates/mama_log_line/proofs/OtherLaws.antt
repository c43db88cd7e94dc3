-- Orders, moments of a clock and images: what is read is so spelled, and what is so spelled is read.
use Rattle.std.proofs.Common.{◌≡◌, ℕ, ◌<◌, ◌^◌, true, false, List, [], ◌∷◌, ◌++◌, map, Some, None, Ok, refl, sym, ap, subst, ◌∙◌, arith, eq-eqb}
use Rattle.std.specs.Prelude.{codes}
use Rattle.std.proofs.lemmas.Bool.{lt-ltb}
use Rattle.mama_edge.specs.Decimal.{decimal}
use Rattle.mama_event.specs.declared.market.ImageHead.{ImageHead}
use Rattle.mama_event.specs.declared.order.Order.{Order}
use Rattle.mama_event.specs.declared.order.Order.TheVariants as orders
use Rattle.mama_words.specs.declared.order.OrderWord.{OrderWord}
use Rattle.mama_words.specs.declared.order.OrderWord.TheVariants as words
use Rattle.mama_words.specs.Number.{number_in}
use Rattle.mama_words.specs.Id.{inbox_word, sub_text}
use Rattle.mama_words.specs.Kind.{quality_text}
use Rattle.mama_words.specs.KindIn.{quality_in}
use Rattle.mama_words.specs.Field.{field_text, fields_text, message_in}
use Rattle.mama_words.specs.Order.{spaced_number, order_in, order_words, order_text, word_of, IsOrder}
use Rattle.mama_words.specs.Sentence.{sentence}
use Rattle.mama_words.specs.WordForm.{AreWords}
use Rattle.mama_words.proofs.Choices.{ok_is, bind_ok, step_ok, or_fault_ok}
use Rattle.mama_words.proofs.Numbers.{number_in_again, number_in_found}
use Rattle.mama_words.proofs.KindLaws.{quality_again, quality_found}
use Rattle.mama_words.proofs.FieldLaws.{message_again, message_found}
use Rattle.mama_words.proofs.OrderLaws.{order_again, order_found}
use Rattle.mama_words.proofs.Spellings.{decimal_word, quality_word, field_words, fields_row, order_word, order_sentence}
use Rattle.mama_record.specs.RunData.{LastImage}
use Rattle.mama_record.specs.LogText.{line, order_line, clock_line, image_head_text, image_line}
use Rattle.mama_log_line.specs.declared.head.Head.{Head}
use Rattle.mama_log_line.specs.declared.head.Head.TheVariants as heads
use Rattle.mama_log_line.specs.Head.{head_text, head_in}
use Rattle.mama_log_line.specs.Names.{NamesData, IsTopic}
use Rattle.mama_log_line.specs.Word.{known_sub, known_timer, known_inbox, known_topic, sub_in, small_in}
use Rattle.mama_log_line.specs.Entering.{MayOrder, IsLastImage}
use Rattle.mama_log_line.specs.Calls.{begins_as_order, known_order, order_body_in, order_words_in, order_line_in, clock_moment_in, clock_body_in, clock_words_in, clock_line_in, image_words_in, image_line_in}
use Rattle.mama_log_line.proofs.Heads.{head_again, head_found}
use Rattle.mama_log_line.proofs.WordLaws.{known_sub_again, known_sub_found, sub_fits, sub_again, sub_found, known_timer_again, known_timer_found, timer_fits, known_inbox_again, known_inbox_found, inbox_fits, known_topic_found, small_again, small_found}
use Rattle.mama_log_line.proofs.LineLaws.{head_word, five, last_word, small_word, sub_is_word, line_found, line_again}

-- ---- orders

behind_head : (o : OrderWord) → codes "order " ++ sentence (order_words o) ≡ sentence (codes "order" ∷ order_words o)
behind_head (words.Stop id) = refl
behind_head (words.Disarm id) = refl
behind_head (words.Close id) = refl
behind_head (words.Ask id topic fids) = refl

order_row : (o : Order) → codes "order " ++ order_text (word_of o) ≡ sentence (codes "order" ∷ order_words (word_of o))
order_row o = ap (λ (t : List ℕ). codes "order " ++ t) (order_sentence (word_of o)) ∙ behind_head (word_of o)

is_order : (names : NamesData) (o : Order) → MayOrder names o → IsOrder (word_of o)
is_order names (orders.Stop id) h = sub_fits names id h
is_order names (orders.Disarm id) h = timer_fits names id h
is_order names (orders.Close id) h = inbox_fits names id h
is_order names (orders.Ask inbox topic fids) h = (inbox_fits names inbox h.0, h.1.number, h.2.list, h.2.small)

known_again : (names : NamesData) (o : Order) → MayOrder names o → known_order names (word_of o) ≡ Ok o
unfolding known_order
known_again names (orders.Stop id) h = rw (known_sub_again names id h) refl
known_again names (orders.Disarm id) h = rw (known_timer_again names id h) refl
known_again names (orders.Close id) h = rw (known_inbox_again names id h) refl
known_again names (orders.Ask inbox topic fids) h = rw (known_inbox_again names inbox h.0, lt-ltb topic names.shape.bounds.topics h.1.declared) refl

order_words_again : (names : NamesData) (o : Order) → MayOrder names o → order_words_in names (codes "order" ∷ order_words (word_of o)) ≡ Ok o
unfolding order_words_in
order_words_again names o h = rw (head_again heads.Order) (rw (order_again (word_of o) (is_order names o h)) (known_again names o h))

pub order_line_again : (names : NamesData) (text : List ℕ) (o : Order) → MayOrder names o → text ++ 10 ∷ [] ≡ order_line o → order_line_in names text ≡ Ok o
unfolding order_line_in
order_line_again names text o may same =
    line_again (order_words_in names) (codes "order") (order_words (word_of o)) (codes "order " ++ order_text (word_of o)) text o
    (head_word heads.Order, order_word (word_of o) (is_order names o may)) (order_row o) (order_words_again names o may) same

known_found : (names : NamesData) (word : OrderWord) (o : Order) → IsOrder word → known_order names word ≡ Ok o → MayOrder names o × (word ≡ word_of o)
unfolding known_order
known_found names (words.Stop id) o is h =
    let p = step_ok 10 (known_sub names id) _ o h in
    let k = known_sub_found names id p.0 p.1 in
    subst (λ (x : Order). MayOrder names x × (words.Stop id ≡ word_of x)) (ok_is (orders.Stop p.0) o p.2) (k.0, ap words.Stop k.1)
known_found names (words.Disarm id) o is h =
    let p = step_ok 10 (known_timer names id) _ o h in
    let k = known_timer_found names id p.0 p.1 in
    subst (λ (x : Order). MayOrder names x × (words.Disarm id ≡ word_of x)) (ok_is (orders.Disarm p.0) o p.2) (k.0, ap words.Disarm k.1)
known_found names (words.Close id) o is h =
    let p = step_ok 10 (known_inbox names id) _ o h in
    let k = known_inbox_found names id p.0 p.1 in
    subst (λ (x : Order). MayOrder names x × (words.Close id ≡ word_of x)) (ok_is (orders.Close p.0) o p.2) (k.0, ap words.Close k.1)
known_found names (words.Ask inbox topic fids) o is h =
    let i = step_ok 10 (known_inbox names inbox) _ o h in
    let t = step_ok 9 (known_topic names topic) _ o i.2 in
    let k = known_inbox_found names inbox i.0 i.1 in
    let n = known_topic_found names topic t.0 t.1 in
    let there : IsTopic names t.0 = subst (λ (x : ℕ). IsTopic names x) n.1 (record { number = is.1; declared = n.0 }) in
    subst (λ (x : Order). MayOrder names x × (words.Ask inbox topic fids ≡ word_of x)) (ok_is (orders.Ask i.0 t.0 fids) o t.2)
    ((k.0, there, record { list = is.2; small = is.3 }), ap (λ x. words.Ask x topic fids) k.1 ∙ ap (λ x. words.Ask (inbox_word i.0) x fids) n.1)

order_body_found : (names : NamesData) (head : Head) (ws : List (List ℕ)) (o : Order) → order_body_in names head ws ≡ Ok o → MayOrder names o × (head_text head ∷ ws ≡ codes "order" ∷ order_words (word_of o))
order_body_found names heads.Order ws o h =
    let p = bind_ok (order_in ws) (known_order names) o h in
    let w = order_found ws p.0 p.1 in
    let k = known_found names p.0 o w.0 p.2 in
    (k.0, ap (λ (r : List (List ℕ)). codes "order" ∷ r) (w.1 ∙ ap order_words k.1))
order_body_found names _ ws o h = absurd cc

order_words_found : (names : NamesData) (ws : List (List ℕ)) (o : Order) → order_words_in names ws ≡ Ok o → MayOrder names o × (ws ≡ codes "order" ∷ order_words (word_of o))
unfolding order_words_in
order_words_found names [] o h = absurd cc
order_words_found names (head ∷ ws) o h =
    let p = step_ok 3 (head_in head) (λ head. order_body_in names head ws) o h in
    let q = order_body_found names p.0 ws o p.2 in
    (q.0, ap (λ (w : List ℕ). w ∷ ws) (head_found head p.0 p.1) ∙ q.1)

pub order_line_found : (names : NamesData) (text : List ℕ) (o : Order) → order_line_in names text ≡ Ok o → MayOrder names o × (text ++ 10 ∷ [] ≡ order_line o)
unfolding order_line_in
order_line_found names text o h =
    let p = line_found (order_words_in names) text o h in
    let q = order_words_found names p.0 o p.2 in
    (q.0, ap line (p.1 ∙ ap sentence q.1 ∙ sym (order_row o)))

-- ---- moments

clock_row : (moment : ℕ) → codes "clock " ++ decimal moment ≡ sentence (codes "clock" ∷ decimal moment ∷ [])
clock_row moment = ap (λ (t : List ℕ). codes "clock " ++ t) (last_word (decimal moment))

clock_words_again : (moment : ℕ) → moment < 2 ^ 64 → clock_words_in (codes "clock" ∷ decimal moment ∷ []) ≡ Ok moment
unfolding clock_words_in clock_moment_in
clock_words_again moment h = rw (head_again heads.Clock) (rw (number_in_again moment h) refl)

pub clock_again : (text : List ℕ) (moment : ℕ) → moment < 2 ^ 64 → text ++ 10 ∷ [] ≡ clock_line moment → clock_line_in text ≡ Ok moment
unfolding clock_line_in
clock_again text moment small same =
    line_again clock_words_in (codes "clock") (decimal moment ∷ []) (codes "clock " ++ decimal moment) text moment
    (head_word heads.Clock, (decimal_word moment small, tt)) (clock_row moment) (clock_words_again moment small) same

moment_found : (ws : List (List ℕ)) (moment : ℕ) → clock_moment_in ws ≡ Ok moment → (moment < 2 ^ 64) × (ws ≡ decimal moment ∷ [])
unfolding clock_moment_in
moment_found [] moment h = absurd cc
moment_found (w ∷ []) moment h = let n = number_in_found w moment (or_fault_ok 5 (number_in w) moment h) in (n.0, ap (λ (x : List ℕ). x ∷ []) n.1)
moment_found (a ∷ b ∷ ws) moment h = absurd cc

clock_body_found : (head : Head) (ws : List (List ℕ)) (moment : ℕ) → clock_body_in head ws ≡ Ok moment → (moment < 2 ^ 64) × (head_text head ∷ ws ≡ codes "clock" ∷ decimal moment ∷ [])
clock_body_found heads.Clock ws moment h = let p = moment_found ws moment h in (p.0, ap (λ (r : List (List ℕ)). codes "clock" ∷ r) p.1)
clock_body_found _ ws moment h = absurd cc

clock_words_found : (ws : List (List ℕ)) (moment : ℕ) → clock_words_in ws ≡ Ok moment → (moment < 2 ^ 64) × (ws ≡ codes "clock" ∷ decimal moment ∷ [])
unfolding clock_words_in
clock_words_found [] moment h = absurd cc
clock_words_found (head ∷ ws) moment h =
    let p = step_ok 3 (head_in head) (λ head. clock_body_in head ws) moment h in
    let q = clock_body_found p.0 ws moment p.2 in
    (q.0, ap (λ (w : List ℕ). w ∷ ws) (head_found head p.0 p.1) ∙ q.1)

pub clock_found : (text : List ℕ) (moment : ℕ) → clock_line_in text ≡ Ok moment → (moment < 2 ^ 64) × (text ++ 10 ∷ [] ≡ clock_line moment)
unfolding clock_line_in
clock_found text moment h =
    let p = line_found clock_words_in text moment h in
    let q = clock_words_found p.0 moment p.2 in
    (q.0, ap line (p.1 ∙ ap sentence q.1 ∙ sym (clock_row moment)))

-- ---- images

abbrev rest_of : LastImage → List (List ℕ)
rest_of i = quality_text i.head.quality ∷ decimal i.head.sender ∷ decimal i.head.last ∷ map field_text i.body

image_row : (i : LastImage) → image_head_text i.sub i.head ++ fields_text i.body ≡ sentence (sub_text i.sub ∷ rest_of i)
image_row i =
    five (sub_text i.sub) (32 ∷ quality_text i.head.quality) (spaced_number i.head.sender) (spaced_number i.head.last) (fields_text i.body)
    ∙ ap (λ (t : List ℕ). sub_text i.sub ++ (32 ∷ quality_text i.head.quality ++ (spaced_number i.head.sender ++ (spaced_number i.head.last ++ t)))) (fields_row i.body)

image_are_words : (names : NamesData) (i : LastImage) → IsLastImage names i → AreWords (sub_text i.sub ∷ rest_of i)
image_are_words names i h = (sub_is_word names i.sub h.sub, (quality_word i.head.quality, (small_word i.head.sender h.sender, (small_word i.head.last h.last, field_words names.nums i.body h.body.fields))))

image_words_again : (names : NamesData) (i : LastImage) → IsLastImage names i → image_words_in names (sub_text i.sub ∷ rest_of i) ≡ Ok i
unfolding image_words_in
image_words_again names i h = rw (sub_again names i.sub h.sub, quality_again i.head.quality, small_again i.head.sender h.sender, small_again i.head.last h.last, message_again names.nums i.body h.body) refl

pub image_again : (names : NamesData) (text : List ℕ) (i : LastImage) → IsLastImage names i → text ++ 10 ∷ [] ≡ image_line i → image_line_in names text ≡ Ok i
unfolding image_line_in
image_again names text i may same =
    line_again (image_words_in names) (sub_text i.sub) (rest_of i) (image_head_text i.sub i.head ++ fields_text i.body) text i
    (image_are_words names i may) (image_row i) (image_words_again names i may) same

same_image : (a b c d e f g k : List ℕ) (x y : List (List ℕ)) → a ≡ b → c ≡ d → e ≡ f → g ≡ k → x ≡ y → a ∷ c ∷ e ∷ g ∷ x ≡ b ∷ d ∷ f ∷ k ∷ y
same_image a b c d e f g k x y p q r s t = cc

image_words_found : (names : NamesData) (ws : List (List ℕ)) (i : LastImage) → image_words_in names ws ≡ Ok i → IsLastImage names i × (ws ≡ sub_text i.sub ∷ rest_of i)
unfolding image_words_in
image_words_found names [] i h = absurd cc
image_words_found names (a ∷ []) i h = absurd cc
image_words_found names (a ∷ b ∷ []) i h = absurd cc
image_words_found names (a ∷ b ∷ c ∷ []) i h = absurd cc
image_words_found names (sub ∷ quality ∷ sender ∷ last ∷ fields) i h =
    let s = bind_ok (sub_in names sub) _ i h in
    let q = step_ok 4 (quality_in quality) _ i s.2 in
    let n = bind_ok (small_in sender) _ i q.2 in
    let l = bind_ok (small_in last) _ i n.2 in
    let m = bind_ok (message_in names.nums fields) _ i l.2 in
    let sub_is = sub_found names sub s.0 s.1 in
    let sender_is = small_found sender n.0 n.1 in
    let last_is = small_found last l.0 l.1 in
    let body_is = message_found names.nums fields m.0 m.1 in
    let head : ImageHead = record { sender = n.0; last = l.0; quality = q.0 } in
    let made : LastImage = record { sub = s.0; head = head; body = m.0 } in
    subst (λ (x : LastImage). IsLastImage names x × (sub ∷ quality ∷ sender ∷ last ∷ fields ≡ sub_text x.sub ∷ rest_of x)) (ok_is made i m.2) (
      record { sub = sub_is.0; sender = sender_is.0; last = last_is.0; body = body_is.0 },
      same_image sub (sub_text s.0) quality (quality_text q.0) sender (decimal n.0) last (decimal l.0) fields (map field_text m.0) sub_is.1 (quality_found quality q.0 q.1) sender_is.1 last_is.1 body_is.1,
    )

pub image_found : (names : NamesData) (text : List ℕ) (i : LastImage) → image_line_in names text ≡ Ok i → IsLastImage names i × (text ++ 10 ∷ [] ≡ image_line i)
unfolding image_line_in
image_found names text i h =
    let p = line_found (image_words_in names) text i h in
    let q = image_words_found names p.0 i p.2 in
    (q.0, ap line (p.1 ∙ ap sentence q.1 ∙ sym (image_row i)))

first_is : (a b : ℕ) (xs ys : List ℕ) → a ∷ xs ≡ b ∷ ys → a ≡ b
first_is a b xs ys e = cc

-- the line of an order begins with the first byte of its word
pub order_begins : (bs : List ℕ) (o : Order) → bs ++ 10 ∷ [] ≡ order_line o → begins_as_order bs ≡ true
order_begins [] o e = let h : 10 ≡ 111 = first_is 10 111 [] _ e in absurd (omega (arith, h))
order_begins (b ∷ bs) o e = eq-eqb b 111 (first_is b 111 (bs ++ 10 ∷ []) _ e)

pub no_order : (bs : List ℕ) (o : Order) → begins_as_order bs ≡ false → bs ++ 10 ∷ [] ≡ order_line o → None ≡ Some o
no_order bs o no_begin e = let h : true ≡ false = sym (order_begins bs o e) ∙ no_begin in absurd cc
