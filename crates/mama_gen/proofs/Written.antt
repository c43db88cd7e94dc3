-- The text of each line, as its parts are written.
use Rattle.std.proofs.Common.{◌≡◌, ℕ, List, [], ◌∷◌, ◌++◌, map, codes, ◌≤◌, ◌==◌, ne_eqb, refl, sym, ap, ◌∙◌, append_assoc, append-nil, arith}
use Rattle.std.proofs.lemmas.Bool.{cond-false}
use Rattle.std.specs.List.{flat_map}
use Rattle.std.specs.Fmt.{digits}
use Rattle.std.proofs.lemmas.List.Concat.{flat_map-append}
use Rattle.std.proofs.lemmas.List.Folds.{flat_map-map}
use Rattle.mama_edge.specs.Decimal.{decimal}
use Rattle.mama_edge.specs.Quoted.{quoted}
use Rattle.mama_event.specs.declared.market.SubKind.TheVariants.{Market}
use Rattle.mama_link.specs.declared.faults.Fault.TheVariants.{Hold}
use Rattle.mama_msg.specs.Field.{FieldData}
use Rattle.mama_words.specs.Field.{spaced_field}
use Rattle.mama_words.specs.Sentence.{spaced}
use Rattle.mama_script.specs.declared.line.Line.{Line}
use Rattle.mama_script.specs.declared.line.Line.TheVariants as lines
use Rattle.mama_script.specs.declared.line.QueueName.TheVariants.{Any}
use Rattle.mama_script.specs.Line.{ended}
use Rattle.mama_script.specs.Reading.{spelling}
use Rattle.mama_script.specs.Tree.{fault_line, step_lines}
use Rattle.mama_gen.specs.Generated.{bid, ask, size, field, row, subscription}

-- the numbers that stand in every script
decimal_1 : decimal 1 ≡ 49 ∷ []
unfolding digits
decimal_1 = refl

decimal_2 : decimal 2 ≡ 50 ∷ []
unfolding digits
decimal_2 = refl

decimal_3 : decimal 3 ≡ 51 ∷ []
unfolding digits
decimal_3 = refl

decimal_4 : decimal 4 ≡ 52 ∷ []
unfolding digits
decimal_4 = refl

decimal_10 : decimal 10 ≡ codes "10"
unfolding digits
decimal_10 = refl

decimal_1000 : decimal 1000 ≡ codes "1000"
unfolding digits
decimal_1000 = refl

-- the fields
typed : List ℕ → List ℕ → ℕ → List ℕ
typed fid name v = 32 ∷ (fid ++ 58 ∷ (name ++ 58 ∷ (codes "u32" ++ 58 ∷ decimal v)))

pub bid_text : (number v : ℕ) → number ≡ 0 → codes " 1:bid:u32:" ++ decimal v ≡ spaced_field (field number v)
unfolding typed
bid_text number v e = ap (λ (t : List ℕ). typed t (codes "bid") v) (sym decimal_1) ∙ ap (λ (k : ℕ). spaced_field (field k v)) (sym e)

pub ask_text : (number v : ℕ) → number ≡ 1 → codes " 2:ask:u32:" ++ decimal v ≡ spaced_field (field number v)
unfolding typed
ask_text number v e = ap (λ (t : List ℕ). typed t (codes "ask") v) (sym decimal_2) ∙ ap (λ (k : ℕ). spaced_field (field k v)) (sym e)

pub size_text : (number v : ℕ) → 2 ≤ number → codes " 3:size:u32:" ++ decimal v ≡ spaced_field (field number v)
unfolding typed
size_text number v le =
    ap (λ (t : List ℕ). typed t (codes "size") v) (sym decimal_3)
    ∙ ap spaced_field (sym (cond-false (number == 0) (bid v) _ (ne_eqb number 0 (λ e. omega (arith, e, le))) ∙ cond-false (number == 1) (ask v) (size v) (ne_eqb number 1 (λ e. omega (arith, e, le)))))

-- what was appended piece by piece, before the line's end
shape_1 : (out a b end : List ℕ) → ((out ++ a) ++ b) ++ end ≡ out ++ ((a ++ (b ++ [])) ++ end)
shape_1 out a b end = simp (append_assoc, append-nil)

shape_2 : (out a b c end : List ℕ) → (((out ++ a) ++ b) ++ c) ++ end ≡ out ++ ((a ++ (b ++ (c ++ []))) ++ end)
shape_2 out a b c end = simp (append_assoc, append-nil)

shape_4 : (out a b c d e end : List ℕ) → (((((out ++ a) ++ b) ++ c) ++ d) ++ e) ++ end ≡ out ++ ((a ++ (b ++ (c ++ (d ++ (e ++ []))))) ++ end)
shape_4 out a b c d e end = simp (append_assoc, append-nil)

topic_shape : (out a b end : List ℕ) → ((out ++ (a ++ 32 ∷ [])) ++ b) ++ end ≡ out ++ ((a ++ ((32 ∷ b) ++ [])) ++ end)
topic_shape out a b end = simp (append_assoc, append-nil)

pub topic_text : (out name : List ℕ) → ((out ++ codes "topic ") ++ quoted name) ++ 10 ∷ [] ≡ out ++ ended (lines.Topic name)
topic_text out name = topic_shape out (codes "topic") (quoted name) (10 ∷ [])

pub update_text : (out : List ℕ) (f : FieldData) → ((out ++ codes "update") ++ spaced_field f) ++ 10 ∷ [] ≡ out ++ ended (lines.Update (f ∷ []))
update_text out f = shape_1 out (codes "update") (spaced_field f) (10 ∷ [])

pub base_text : (out : List ℕ) (topic : ℕ) (f g h : FieldData)
    → (((((out ++ codes "publisher") ++ spaced (decimal topic)) ++ spaced_field f) ++ spaced_field g) ++ spaced_field h) ++ 10 ∷ [] ≡ out ++ ended (lines.Publisher topic (f ∷ g ∷ h ∷ []))
base_text out topic f g h = shape_4 out (codes "publisher") (spaced (decimal topic)) (spaced_field f) (spaced_field g) (spaced_field h) (10 ∷ [])

pub hold_text : (out : List ℕ) (index by : ℕ) → (((out ++ codes "fault hold") ++ spaced (decimal index)) ++ spaced (decimal by)) ++ 10 ∷ [] ≡ out ++ ended (lines.Fault (record { index = index; fault = Hold by }))
hold_text out index by = shape_2 out (codes "fault hold") (spaced (decimal index)) (spaced (decimal by)) (10 ∷ [])

sub_shape : (out a b c end : List ℕ) → ((out ++ a) ++ b) ++ (c ++ end) ≡ out ++ ((a ++ (b ++ c)) ++ end)
sub_shape out a b c end = simp append_assoc

rows_shape : (out a b c d : List ℕ) → (((out ++ a) ++ b) ++ c) ++ d ≡ out ++ (a ++ (b ++ (c ++ (d ++ []))))
rows_shape out a b c d = simp (append_assoc, append-nil)

pub terms_text : (out : List ℕ) (topic : ℕ) → ((out ++ codes "sub") ++ spaced (decimal topic)) ++ codes " market any 10 1000\n" ≡ out ++ ended (lines.Sub topic Market Any 10 1000)
terms_text out topic =
    sub_shape out (codes "sub") (spaced (decimal topic)) (codes " market any 10 1000") (10 ∷ [])
    ∙ ap (λ (t : List ℕ). out ++ ((codes "sub" ++ (spaced (decimal topic) ++ (codes " market any " ++ (t ++ codes " 1000")))) ++ 10 ∷ [])) (sym decimal_10)
    ∙ ap (λ (t : List ℕ). out ++ ((codes "sub" ++ (spaced (decimal topic) ++ (codes " market any " ++ (decimal 10 ++ 32 ∷ t)))) ++ 10 ∷ [])) (sym decimal_1000)
    ∙ ap (λ (t : List ℕ). out ++ ((codes "sub" ++ (spaced (decimal topic) ++ (codes " market any " ++ (decimal 10 ++ 32 ∷ t)))) ++ 10 ∷ [])) (sym (append-nil (decimal 1000)))

-- a subscription, written as its faults are drawn
pub subscription_text : (topic d s1 s2 : ℕ) (out head one two three : List ℕ)
    → head ≡ out ++ ended (lines.Sub topic Market Any 10 1000)
    → one ≡ head ++ ended (fault_line (row 2 80 d).0) → s1 ≡ (row 2 80 d).1
    → two ≡ one ++ ended (fault_line (row 100 80 s1).0) → s2 ≡ (row 100 80 s1).1
    → three ≡ two ++ ended (fault_line (row 200 50 s2).0)
    → three ≡ out ++ flat_map ended (step_lines (subscription topic d).0)
subscription_text topic d s1 s2 out head one two three at_head at_one at_s1 at_two at_s2 at_three =
    let d1 = (row 2 80 d).1 in
    let d2 = (row 100 80 d1).1 in
    let a = ended (lines.Sub topic Market Any 10 1000) in
    let b = ended (fault_line (row 2 80 d).0) in
    let last : s2 ≡ d2 = at_s2 ∙ ap (λ (s : ℕ). (row 100 80 s).1) at_s1 in
    at_three ∙ ap (λ (s : ℕ). two ++ ended (fault_line (row 200 50 s).0)) last
    ∙ ap (λ (t : List ℕ). t ++ ended (fault_line (row 200 50 d2).0)) (at_two ∙ ap (λ (s : ℕ). one ++ ended (fault_line (row 100 80 s).0)) at_s1)
    ∙ ap (λ (t : List ℕ). (t ++ ended (fault_line (row 100 80 d1).0)) ++ ended (fault_line (row 200 50 d2).0)) (at_one ∙ ap (λ (t : List ℕ). t ++ b) at_head)
    ∙ rows_shape out a b (ended (fault_line (row 100 80 d1).0)) (ended (fault_line (row 200 50 d2).0))

whole_shape : (a b c d : List ℕ) → ((a ++ b) ++ c) ++ d ≡ a ++ (b ++ (c ++ d))
whole_shape a b c d = simp append_assoc

-- the lists behind the clients are empty
pub whole_text : (topics publishers clients : List Line)
    → ((codes "mama script 1\nqueues 4\n" ++ flat_map ended topics) ++ flat_map ended publishers) ++ flat_map ended clients ≡ spelling (lines.Queues 4 ∷ (topics ++ (publishers ++ (clients ++ []))))
whole_text topics publishers clients =
    whole_shape (codes "mama script 1\nqueues 4\n") (flat_map ended topics) (flat_map ended publishers) (flat_map ended clients)
    ∙ ap (λ (t : List ℕ). codes "mama script 1\nqueues 4\n" ++ (flat_map ended topics ++ t)) (sym (flat_map-append ended publishers clients))
    ∙ ap (λ (t : List ℕ). codes "mama script 1\nqueues 4\n" ++ t) (sym (flat_map-append ended topics (publishers ++ clients)))
    ∙ ap (λ (t : List ℕ). codes "mama script 1\nqueues " ++ ((t ++ 10 ∷ []) ++ flat_map ended (topics ++ (publishers ++ clients)))) (sym decimal_4)
    ∙ ap (λ (t : List ℕ). codes "mama script 1\nqueues " ++ ((t ++ 10 ∷ []) ++ flat_map ended (topics ++ (publishers ++ clients)))) (sym (append-nil (decimal 4)))
    ∙ ap (λ (ls : List Line). spelling (lines.Queues 4 ∷ (topics ++ (publishers ++ ls)))) (sym (append-nil clients))

-- the lines of each thing, one thing behind the other
pub lines_text : {X : Type 0} (g : X → List Line) (xs : List X) → flat_map ended (flat_map g xs) ≡ flat_map (λ x. flat_map ended (g x)) xs
lines_text g [] = refl
lines_text g (x ∷ xs) = flat_map-append ended (g x) (flat_map g xs) ∙ ap (λ (t : List ℕ). flat_map ended (g x) ++ t) (lines_text g xs)

pub line_text : {X : Type 0} (g : X → Line) (xs : List X) → flat_map ended (map g xs) ≡ flat_map (λ x. ended (g x)) xs
line_text g xs = flat_map-map ended g xs
