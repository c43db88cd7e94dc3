-- Lines of groups and of watches: what is read is so spelled, and what is so spelled is read.
use Rattle.std.proofs.Common.{◌≡◌, ℕ, Bool, true, false, List, [], ◌∷◌, ◌++◌, Some, None, Ok, refl, sym, ap, subst, ◌∙◌, inl, inr}
use Rattle.std.specs.Prelude.{codes}
use Rattle.std.specs.Str.{bytes_eq}
use Rattle.mama_edge.specs.Decimal.{decimal}
use Rattle.mama_event.specs.declared.ids.SubId.{SubId}
use Rattle.mama_event.specs.declared.ids.ObjectId.TheVariants.{Sub}
use Rattle.mama_event.specs.declared.group.GroupNote.{GroupNote}
use Rattle.mama_event.specs.declared.group.GroupNote.TheVariants.{Call, State}
use Rattle.mama_event.specs.declared.watch.WatchNote.{WatchNote}
use Rattle.mama_event.specs.declared.watch.WatchNote.TheVariants.{Retry, Timeout}
use Rattle.mama_words.specs.Number.{number_in}
use Rattle.mama_words.specs.Id.{id_in, sub_word, sub_text}
use Rattle.mama_words.specs.Kind.{group_state_text, group_state_in}
use Rattle.mama_words.specs.Sentence.{sentence}
use Rattle.mama_words.specs.WordForm.{AreWords}
use Rattle.mama_words.proofs.Choices.{ok_is, chosen, bind_ok, step_ok, same_text}
use Rattle.mama_words.proofs.Numbers.{number_in_again, number_in_found}
use Rattle.mama_words.proofs.IdLaws.{id_again}
use Rattle.mama_words.proofs.KindLaws.{group_state_again, group_state_found}
use Rattle.mama_words.proofs.Spellings.{decimal_word, group_state_word}
use Rattle.mama_record.specs.LogText.{line, group_note_text, watch_note_text, group_note_line, watch_note_line}
use Rattle.mama_log_line.specs.declared.head.Head.{Head}
use Rattle.mama_log_line.specs.declared.head.Head.TheVariants as heads
use Rattle.mama_log_line.specs.Head.{head_text, head_in}
use Rattle.mama_log_line.specs.Names.{NamesData, IsSub}
use Rattle.mama_log_line.specs.Word.{sub_in, small_in}
use Rattle.mama_log_line.specs.Calls.{call_words_in}
use Rattle.mama_log_line.specs.Entering.{MayHearGroup, MayNote}
use Rattle.mama_log_line.specs.Lists.{state_in, member_in, group_words_in, group_line_in, retry_in, timeout_in, watch_by, watch_words_in, watch_line_in}
use Rattle.mama_log_line.proofs.Heads.{head_again, head_found}
use Rattle.mama_log_line.proofs.WordLaws.{sub_again, sub_found, sub_fits, small_again, small_found}
use Rattle.mama_log_line.proofs.LineLaws.{fixed, head_word, last_word, small_word, sub_is_word, line_found, line_again}
use Rattle.mama_log_line.proofs.CallLaws.{words_of, row, are_words, words_again, words_found}

-- ---- groups

abbrev group_words : GroupNote → List (List ℕ)
group_words (Call sub call) = sub_text sub ∷ words_of call
group_words (State state) = codes "state" ∷ group_state_text state ∷ []

group_row : (n : GroupNote) → group_note_text n ≡ sentence (group_words n)
group_row (Call sub call) = ap (λ (t : List ℕ). sub_text sub ++ 32 ∷ t) (row call)
group_row (State state) = ap (λ (t : List ℕ). codes "state " ++ t) (last_word (group_state_text state))

not_true : (b : Bool) → (b ≡ true → ⊥) → b ≡ false
not_true true h = absurd (h refl)
not_true false h = refl

-- no id is spelled like the word of a state
not_state : (names : NamesData) (id : SubId) → IsSub names id → bytes_eq (sub_text id) (codes "state") ≡ false
not_state names id h =
    not_true (bytes_eq (sub_text id) (codes "state")) (λ same.
    let e : Some (sub_word id) ≡ None = sym (id_again 115 (sub_word id) (sub_fits names id h)) ∙ ap (id_in 115) (same_text (sub_text id) (codes "state") same) in cc)

group_words_again : (names : NamesData) (n : GroupNote) → MayHearGroup names n → group_words_in names (group_words n) ≡ Ok n
unfolding group_words_in member_in state_in
group_words_again names (Call sub call) h = rw (not_state names sub h.0, sub_again names sub h.0, words_again names.nums (Sub sub) call h.1) refl
group_words_again names (State state) h = rw (group_state_again state) refl

abbrev first_of : GroupNote → List ℕ
first_of (Call sub call) = sub_text sub
first_of (State _) = codes "state"

abbrev others_of : GroupNote → List (List ℕ)
others_of (Call sub call) = words_of call
others_of (State state) = group_state_text state ∷ []

group_are_words : (names : NamesData) (n : GroupNote) → MayHearGroup names n → AreWords (first_of n ∷ others_of n)
group_are_words names (Call sub call) h = (sub_is_word names sub h.0, are_words names.nums (Sub sub) call h.1)
group_are_words names (State state) h = (fixed (codes "state") refl refl, (group_state_word state, tt))

group_begins : (n : GroupNote) → group_words n ≡ first_of n ∷ others_of n
group_begins (Call sub call) = refl
group_begins (State _) = refl

pub group_again : (names : NamesData) (text : List ℕ) (n : GroupNote) → MayHearGroup names n → text ++ 10 ∷ [] ≡ group_note_line n → group_line_in names text ≡ Ok n
unfolding group_line_in
group_again names text n may same =
    line_again (group_words_in names) (first_of n) (others_of n) (group_note_text n) text n (group_are_words names n may) (group_row n ∙ ap sentence (group_begins n))
    (ap (group_words_in names) (sym (group_begins n)) ∙ group_words_again names n may) same

abbrev GroupSpelled : NamesData → List (List ℕ) → GroupNote → Type 0
GroupSpelled names ws n = MayHearGroup names n × (ws ≡ group_words n)

state_found : (names : NamesData) (first : List ℕ) (ws : List (List ℕ)) (n : GroupNote) → first ≡ codes "state" → state_in ws ≡ Ok n → GroupSpelled names (first ∷ ws) n
unfolding state_in
state_found names first [] n is h = absurd cc
state_found names first (w ∷ []) n is h =
    let p = step_ok 4 (group_state_in w) _ n h in
    subst (λ (x : GroupNote). GroupSpelled names (first ∷ w ∷ []) x) (ok_is (State p.0) n p.2)
    (tt, ap (λ (t : List ℕ). t ∷ w ∷ []) is ∙ ap (λ (t : List ℕ). codes "state" ∷ t ∷ []) (group_state_found w p.0 p.1))
state_found names first (a ∷ b ∷ ws) n is h = absurd cc

member_found : (names : NamesData) (first : List ℕ) (ws : List (List ℕ)) (n : GroupNote) → member_in names first ws ≡ Ok n → GroupSpelled names (first ∷ ws) n
unfolding member_in
member_found names first ws n h =
    let s = bind_ok (sub_in names first) _ n h in
    let c = bind_ok (call_words_in names.nums (Sub s.0) ws) _ n s.2 in
    let sub_is = sub_found names first s.0 s.1 in
    let call_is = words_found names.nums (Sub s.0) ws c.0 c.1 in
    subst (λ (x : GroupNote). GroupSpelled names (first ∷ ws) x) (ok_is (Call s.0 c.0) n c.2)
    ((sub_is.0, call_is.0), ap (λ (t : List ℕ). t ∷ ws) sub_is.1 ∙ ap (λ (t : List (List ℕ)). sub_text s.0 ∷ t) call_is.1)

group_words_found : (names : NamesData) (ws : List (List ℕ)) (n : GroupNote) → group_words_in names ws ≡ Ok n → GroupSpelled names ws n
unfolding group_words_in
group_words_found names [] n h = absurd cc
group_words_found names (first ∷ ws) n h =
    elim (chosen (bytes_eq first (codes "state")) (state_in ws) (member_in names first ws) (Ok n) h) [
      | inl p ↦ state_found names first ws n (same_text first (codes "state") p.0) p.1
      | inr p ↦ member_found names first ws n p.1
    ]

pub group_found : (names : NamesData) (text : List ℕ) (n : GroupNote) → group_line_in names text ≡ Ok n → MayHearGroup names n × (text ++ 10 ∷ [] ≡ group_note_line n)
unfolding group_line_in
group_found names text n h =
    let p = line_found (group_words_in names) text n h in
    let q = group_words_found names p.0 n p.2 in
    (q.0, ap line (p.1 ∙ ap sentence q.1 ∙ sym (group_row n)))

-- ---- watches

abbrev head_of : WatchNote → Head
head_of (Retry count moment) = heads.Retry
head_of (Timeout moment) = heads.Timeout

abbrev rest_of : WatchNote → List (List ℕ)
rest_of (Retry count moment) = decimal count ∷ decimal moment ∷ []
rest_of (Timeout moment) = decimal moment ∷ []

watch_row : (n : WatchNote) → watch_note_text n ≡ sentence (head_text (head_of n) ∷ rest_of n)
watch_row (Retry count moment) = ap (λ (t : List ℕ). codes "retry " ++ (decimal count ++ 32 ∷ t)) (last_word (decimal moment))
watch_row (Timeout moment) = ap (λ (t : List ℕ). codes "timeout " ++ t) (last_word (decimal moment))

watch_are_words : (n : WatchNote) → MayNote n → AreWords (head_text (head_of n) ∷ rest_of n)
watch_are_words (Retry count moment) h = (head_word heads.Retry, (small_word count h.0, (decimal_word moment h.1, tt)))
watch_are_words (Timeout moment) h = (head_word heads.Timeout, (decimal_word moment h, tt))

watch_by_again : (n : WatchNote) → MayNote n → watch_by (head_of n) (rest_of n) ≡ Ok n
watch_by_again (Retry count moment) h = unfold retry_in in rw (small_again count h.0, number_in_again moment h.1) refl
watch_by_again (Timeout moment) h = unfold timeout_in in rw (number_in_again moment h) refl

watch_words_again : (n : WatchNote) → MayNote n → watch_words_in (head_text (head_of n) ∷ rest_of n) ≡ Ok n
unfolding watch_words_in
watch_words_again n h = rw (head_again (head_of n)) (watch_by_again n h)

pub watch_again : (text : List ℕ) (n : WatchNote) → MayNote n → text ++ 10 ∷ [] ≡ watch_note_line n → watch_line_in text ≡ Ok n
unfolding watch_line_in
watch_again text n may same = line_again watch_words_in (head_text (head_of n)) (rest_of n) (watch_note_text n) text n (watch_are_words n may) (watch_row n) (watch_words_again n may) same

abbrev WatchSpelled : Head → List (List ℕ) → WatchNote → Type 0
WatchSpelled head ws n = MayNote n × (head_text head ∷ ws ≡ head_text (head_of n) ∷ rest_of n)

same_pair : (h a c d e : List ℕ) → a ≡ c → d ≡ e → h ∷ a ∷ d ∷ [] ≡ h ∷ c ∷ e ∷ []
same_pair h a c d e p q = cc

retry_found : (ws : List (List ℕ)) (n : WatchNote) → retry_in ws ≡ Ok n → WatchSpelled heads.Retry ws n
unfolding retry_in
retry_found [] n h = absurd cc
retry_found (a ∷ []) n h = absurd cc
retry_found (count ∷ moment ∷ []) n h =
    let c = bind_ok (small_in count) _ n h in
    let m = step_ok 5 (number_in moment) _ n c.2 in
    let count_is = small_found count c.0 c.1 in
    let moment_is = number_in_found moment m.0 m.1 in
    subst (λ (x : WatchNote). WatchSpelled heads.Retry (count ∷ moment ∷ []) x) (ok_is (Retry c.0 m.0) n m.2)
    ((count_is.0, moment_is.0), same_pair (codes "retry") count (decimal c.0) moment (decimal m.0) count_is.1 moment_is.1)
retry_found (a ∷ b ∷ c ∷ ws) n h = absurd cc

timeout_found : (ws : List (List ℕ)) (n : WatchNote) → timeout_in ws ≡ Ok n → WatchSpelled heads.Timeout ws n
unfolding timeout_in
timeout_found [] n h = absurd cc
timeout_found (moment ∷ []) n h =
    let m = step_ok 5 (number_in moment) _ n h in
    let moment_is = number_in_found moment m.0 m.1 in
    subst (λ (x : WatchNote). WatchSpelled heads.Timeout (moment ∷ []) x) (ok_is (Timeout m.0) n m.2) (moment_is.0, ap (λ (t : List ℕ). codes "timeout" ∷ t ∷ []) moment_is.1)
timeout_found (a ∷ b ∷ ws) n h = absurd cc

watch_by_found : (head : Head) (ws : List (List ℕ)) (n : WatchNote) → watch_by head ws ≡ Ok n → WatchSpelled head ws n
watch_by_found heads.Retry ws n h = retry_found ws n h
watch_by_found heads.Timeout ws n h = timeout_found ws n h
watch_by_found _ ws n h = absurd cc

words_found_so : (ws : List (List ℕ)) (n : WatchNote) → watch_words_in ws ≡ Ok n → MayNote n × (ws ≡ head_text (head_of n) ∷ rest_of n)
unfolding watch_words_in
words_found_so [] n h = absurd cc
words_found_so (head ∷ ws) n h =
    let p = step_ok 3 (head_in head) (λ head. watch_by head ws) n h in
    let q = watch_by_found p.0 ws n p.2 in
    (q.0, ap (λ (w : List ℕ). w ∷ ws) (head_found head p.0 p.1) ∙ q.1)

pub watch_found : (text : List ℕ) (n : WatchNote) → watch_line_in text ≡ Ok n → MayNote n × (text ++ 10 ∷ [] ≡ watch_note_line n)
unfolding watch_line_in
watch_found text n h =
    let p = line_found watch_words_in text n h in
    let q = words_found_so p.0 n p.2 in
    (q.0, ap line (p.1 ∙ ap sentence q.1 ∙ sym (watch_row n)))
