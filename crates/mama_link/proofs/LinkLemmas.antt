-- A link that stands for a list stands for the list with one message more once it passed that message, and puts out what that place emits.
use Rattle.std.proofs.Common.{◌≡◌, ℕ, ◌+◌, ◌<◌, ◌≤◌, ◌==◌, nat_lt, Bool, true, false, not, ◌&&◌, cond, List, [], ◌∷◌, ◌++◌, length, filter, Option, None, Some, refl, sym, ◌∙◌, ap, arith, append-nil, length-append, subst, eq-eqb}
use Rattle.std.proofs.lemmas.Bool.Decides.{nat_tests}
use Rattle.std.proofs.lemmas.List.Elements.{filter-append}
use Rattle.std.specs.List.{enumerate_from, flat_map}
use Rattle.mama_link.specs.declared.faults.Fault.{Fault}
use Rattle.mama_link.specs.declared.faults.Fault.TheVariants.{Lose, Dup, Hold, Cut}
use Rattle.mama_link.specs.declared.faults.FaultRow.{FaultRow}
use Rattle.mama_link.specs.Faults.{fault_at}
use Rattle.mama_link.specs.Link.{is_held_until, is_held_after, is_due, is_held, own, copies, numbered, emit, held}
use Rattle.mama_link.specs.Standing.{Standing, standing_after, StandsFor, coming}
use Rattle.mama_link.specs.Steps.{held_back, at_place, standing_next}

-- ---- lists

sub-cons : {X : Type 0} (a b : Bool) (q : X → Bool) (e : X) (fs gs : List X) → q e ≡ b → (b ≡ true → a ≡ true) → filter q fs ≡ gs → filter q (cond a (e ∷ fs) fs) ≡ cond b (e ∷ gs) gs
sub-cons true true q e fs gs qe sub ih = rw (qe, ih) refl
sub-cons true false q e fs gs qe sub ih = rw (qe, ih) refl
sub-cons false true q e fs gs qe sub ih = cc (sub refl)
sub-cons false false q e fs gs qe sub ih = ih

-- where q passes only what p passes, p takes nothing from q
filter-filter : {X : Type 0} (p q : X → Bool) → ((e : X) → q e ≡ true → p e ≡ true) → (es : List X) → filter q (filter p es) ≡ filter q es
filter-filter p q sub [] = refl
filter-filter p q sub (e ∷ es) = sub-cons (p e) (q e) q e (filter p es) (filter q es) refl (sub e) (filter-filter p q sub es)

both-cons : {X : Type 0} (a b : Bool) (q : X → Bool) (e : X) (fs gs : List X) → q e ≡ b → filter q fs ≡ gs → cond (a && b) (e ∷ gs) gs ≡ filter q (cond a (e ∷ fs) fs)
both-cons true true q e fs gs qe ih = rw (qe, ih) refl
both-cons true false q e fs gs qe ih = rw (qe, ih) refl
both-cons false b q e fs gs qe ih = sym ih

-- what passes both
filter-both : {X : Type 0} (p q r : X → Bool) → ((e : X) → r e ≡ (p e && q e)) → (es : List X) → filter r es ≡ filter q (filter p es)
filter-both p q r same [] = refl
filter-both p q r same (e ∷ es) = rw (same e) (both-cons (p e) (q e) q e (filter p es) (filter r es) refl (sym (filter-both p q r same es)))

-- the number of one message more
numbered-push : {T : Type 0} (n : ℕ) (x : List T) (message : T) → enumerate_from n (x ++ message ∷ []) ≡ enumerate_from n x ++ (n + length x, message) ∷ []
numbered-push n [] message = grind arith
numbered-push n (m ∷ x) message = grind (arith, numbered-push (n + 1) x message)

below_is_other : (n place : ℕ) → n < place → (n == place) ≡ false
below_is_other n place h = grind (arith, nat_tests)

-- no message before has the number
numbered-below : {T : Type 0} (n place : ℕ) (x : List T) → n + length x ≤ place → filter (λ (entry : ℕ × T). entry.0 == place) (enumerate_from n x) ≡ []
numbered-below n place [] h = refl
numbered-below n place (m ∷ x) h =
    let other : (n == place) ≡ false = below_is_other n place (omega (arith, h)) in
    rw other (numbered-below (n + 1) place x (omega (arith, h)))

-- ---- one fault

-- what is due at the next place was held
due_is_held : (n i : ℕ) (fault : Option Fault) → is_held_until (n + 1) i fault ≡ true → is_held_after n i fault ≡ true
due_is_held n i None h = h
due_is_held n i (Some Lose) h = h
due_is_held n i (Some Dup) h = h
due_is_held n i (Some (Hold by)) h = grind (arith, nat_tests)
due_is_held n i (Some (Cut keep)) h = h

-- what is held after the next place was held and is not due there
held_after_next : (n i : ℕ) (fault : Option Fault) → is_held_after (n + 1) i fault ≡ (is_held_after n i fault && not (is_held_until (n + 1) i fault))
held_after_next n i None = refl
held_after_next n i (Some Lose) = refl
held_after_next n i (Some Dup) = refl
held_after_next n i (Some (Hold by)) = grind (arith, nat_tests)
held_after_next n i (Some (Cut keep)) = refl

later_is_other : (place by : ℕ) → 0 < by → (place + by == place) ≡ false
later_is_other place by h = grind (arith, nat_tests)

later_is_after : (place by : ℕ) → 0 < by → nat_lt place (place + by) ≡ true
later_is_after place by h = grind (arith, nat_tests)

-- what is held until a place is not due at its own place
own_is_not_due : (rows : List FaultRow) (place : ℕ) → ((by : ℕ) → fault_at rows place ≡ Some (Hold by) → 0 < by) → is_held_until place place (fault_at rows place) ≡ false
own_is_not_due rows place holds = by_fault (fault_at rows place) holds
  where
    by_fault : (fault : Option Fault) → ((by : ℕ) → fault ≡ Some (Hold by) → 0 < by) → is_held_until place place fault ≡ false
    by_fault None h = refl
    by_fault (Some Lose) h = refl
    by_fault (Some Dup) h = refl
    by_fault (Some (Hold by)) h = later_is_other place by (h by refl)
    by_fault (Some (Cut keep)) h = refl

-- of a message more, what is held is what its fault holds back
own_is_held : {T : Type 0} (place : ℕ) (fault : Option Fault) (message : T) → ((by : ℕ) → fault ≡ Some (Hold by) → 0 < by) →
    cond (is_held_after place place fault) ((place, message) ∷ []) [] ≡ at_place place (held_back fault message)
own_is_held place None message h = refl
own_is_held place (Some Lose) message h = refl
own_is_held place (Some Dup) message h = refl
own_is_held place (Some (Hold by)) message h = rw (later_is_after place by (h by refl)) refl
own_is_held place (Some (Cut keep)) message h = refl

-- ---- one message more

-- no row holds by nothing
abbrev pub HoldsByMore : List FaultRow → Type 0
HoldsByMore rows = (i by : ℕ) → fault_at rows i ≡ Some (Hold by) → 0 < by

pub numbered-more : {T : Type 0} (x : List T) (message : T) → numbered (x ++ message ∷ []) ≡ numbered x ++ (length x + 1, message) ∷ []
numbered-more {T} x message =
    let same : 1 + length x ≡ length x + 1 = omega arith in
    numbered-push 1 x message ∙ ap (λ (n : ℕ). numbered x ++ (n, message) ∷ []) same

own-next : {T : Type 0} (cut : ℕ → T → T) (rows : List FaultRow) (x : List T) (message : T) →
    flat_map (own cut rows) (filter (λ (entry : ℕ × T). entry.0 == length x + 1) (numbered (x ++ message ∷ []))) ≡ copies cut (fault_at rows (length x + 1)) message
own-next {T} cut rows x message =
    let at : ℕ × T → Bool = λ (entry : ℕ × T). entry.0 == length x + 1 in
    let none : filter at (numbered x) ≡ [] = numbered-below 1 (length x + 1) x (omega arith) in
    let it : (length x + 1 == length x + 1) ≡ true = eq-eqb (length x + 1) (length x + 1) refl in
    let one : filter at (numbered (x ++ message ∷ [])) ≡ (length x + 1, message) ∷ [] =
    ap (filter at) (numbered-more x message) ∙ filter-append at (numbered x) ((length x + 1, message) ∷ []) ∙ rw (none, it) refl in
    ap (flat_map (own cut rows)) one ∙ append-nil (copies cut (fault_at rows (length x + 1)) message)

due-next : {T : Type 0} (rows : List FaultRow) (x : List T) (message : T) → HoldsByMore rows →
    filter (is_due rows (length x + 1)) (numbered (x ++ message ∷ [])) ≡ filter (is_due rows (length x + 1)) (held rows x)
due-next {T} rows x message holds =
    let due : ℕ × T → Bool = is_due rows (length x + 1) in
    let no : is_due rows (length x + 1) (length x + 1, message) ≡ false = own_is_not_due rows (length x + 1) (holds (length x + 1)) in
    ap (filter due) (numbered-more x message) ∙ filter-append due (numbered x) ((length x + 1, message) ∷ [])
    ∙ rw no (append-nil (filter due (numbered x)))
    ∙ sym (filter-filter (is_held rows (length x)) due (λ e h. due_is_held (length x) e.0 (fault_at rows e.0) h) (numbered x))

-- what the next place emits is what a link that stands for the messages puts out
pub emit-next : {T : Type 0} (cut : ℕ → T → T) (rows : List FaultRow) (x : List T) (message : T) → HoldsByMore rows →
    emit cut rows (x ++ message ∷ []) (length x + 1) ≡ coming cut (standing_after rows x) message
emit-next cut rows x message holds =
    rw (own-next cut rows x message, due-next rows x message holds) refl

-- what is held after the next place
pub held-next : {T : Type 0} (rows : List FaultRow) (x : List T) (message : T) → HoldsByMore rows →
    held rows (x ++ message ∷ []) ≡ (standing_next (standing_after rows x) message).held
held-next {T} rows x message holds =
    let place = length x + 1 in
    let long : length (x ++ message ∷ []) ≡ length x + 1 = length-append x (message ∷ []) in
    let is : ℕ × T → Bool = is_held rows (length x + 1) in
    ap (λ (n : ℕ). filter (is_held rows n) (numbered (x ++ message ∷ []))) long
    ∙ ap (filter is) (numbered-more x message) ∙ filter-append is (numbered x) ((length x + 1, message) ∷ [])
    ∙ rw (filter-both (is_held rows (length x)) (λ (e : ℕ × T). not (is_due rows (length x + 1) e)) is (λ e. held_after_next (length x) e.0 (fault_at rows e.0)) (numbered x))
    (ap (λ (es : List (ℕ × T)). filter (λ (e : ℕ × T). not (is_due rows (length x + 1) e)) (held rows x) ++ es) (own_is_held (length x + 1) (fault_at rows (length x + 1)) message (holds (length x + 1))))

standing-next : {T : Type 0} (rows : List FaultRow) (x : List T) (message : T) → HoldsByMore rows → StandsFor (x ++ message ∷ []) (standing_next (standing_after rows x) message)
standing-next {T} rows x message holds =
    let long : length x + 1 ≡ length (x ++ message ∷ []) = sym (length-append x (message ∷ [])) in
    let next : List (ℕ × T) = (standing_next (standing_after rows x) message).held in
    let by_length : ℕ → Standing T = λ n. record { rows = rows; passed = n; held = next } in
    let by_held : List (ℕ × T) → Standing T = λ es. record { rows = rows; passed = length (x ++ message ∷ []); held = es } in
    ap by_length long ∙ ap by_held (sym (held-next rows x message holds))

-- so a link that stands for the messages stands for one more once it passed it
pub stands-next : {T : Type 0} (link : Standing T) (x : List T) (message : T) → HoldsByMore link.rows → StandsFor x link → StandsFor (x ++ message ∷ []) (standing_next link message)
stands-next {T} link x message holds stands =
    let Stands : Standing T → Type 0 = λ l. StandsFor (x ++ message ∷ []) (standing_next l message) in
    subst Stands (sym stands) (standing-next link.rows x message holds)

-- and puts out what that place emits
pub coming-is-emit : {T : Type 0} (cut : ℕ → T → T) (link : Standing T) (x : List T) (message : T) → HoldsByMore link.rows → StandsFor x link → coming cut link message ≡ emit cut link.rows (x ++ message ∷ []) (length x + 1)
coming-is-emit {T} cut link x message holds stands =
    ap (λ (l : Standing T). coming cut l message) stands ∙ sym (emit-next cut link.rows x message holds)
