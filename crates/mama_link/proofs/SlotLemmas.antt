-- What the slots hold, and what emptying the slots that are due at a place takes and leaves.
use Rattle.std.proofs.Common.{◌≡◌, ℕ, ◌+◌, ◌<◌, ◌≤◌, Bool, true, false, not, List, [], ◌∷◌, ◌++◌, length, filter, Option, None, Some, refl, sym, ◌∙◌, ap, arith, append-nil, append_assoc, length-append, get_or, set, if◌then◌else◌, suc}
use Rattle.std.specs.Prelude.{option_to_list}
use Rattle.std.specs.List.{flat_map, AllByRecursion}
use Rattle.std.proofs.Math.Seq.{get_or-append_seam, set-append_seam}
use Rattle.std.proofs.Math.ListN.{get_or-eq_default}
use Rattle.std.proofs.lemmas.List.{map-append, set_past}
use Rattle.std.proofs.lemmas.List.Elements.{filter-append}
use Rattle.mama_link.specs.declared.faults.Fault.{Fault}
use Rattle.mama_link.specs.declared.faults.Fault.TheVariants.{Lose, Dup, Hold, Cut}
use Rattle.mama_link.specs.declared.faults.FaultRow.{FaultRow}
use Rattle.mama_link.specs.Faults.{fault_at}
use Rattle.mama_link.specs.Table.{holds_until, slots_due}
use Rattle.mama_link.specs.Link.{is_held_until, is_due, messages}
use Rattle.mama_link.specs.Steps.{at_place}
use Rattle.mama_link.specs.Slots.{no_entry, held_in, due_in, without_due, found_at, taken_at, emptied_at}

-- ---- one slot more

-- no slots hold nothing
pub held_in-none : {T : Type 0} (entries : List (ℕ × Fault)) → held_in {T = T} entries [] ≡ []
held_in-none [] = refl
held_in-none (e ∷ es) = refl

-- no more is held than there are slots
pub length-held_in : {T : Type 0} (entries : List (ℕ × Fault)) (slots : List (Option T)) → length (held_in entries slots) ≤ length slots
length-held_in [] slots = omega arith
length-held_in (e ∷ es) [] = omega arith
length-held_in (e ∷ es) (None ∷ slots) = omega (arith, length-held_in es slots)
length-held_in (e ∷ es) (Some message ∷ slots) = omega (arith, length-held_in es slots)

-- a slot more holds its message under the index of its entry
pub held_in-push : {T : Type 0} (entries : List (ℕ × Fault)) (slots : List (Option T)) (slot : Option T) → length slots < length entries →
    held_in entries (slots ++ slot ∷ []) ≡ held_in entries slots ++ at_place (get_or entries (length slots) no_entry).0 slot
held_in-push [] slots slot h = absurd (omega (arith, h))
held_in-push (e ∷ []) [] slot h = append-nil (at_place e.0 slot)
held_in-push (e ∷ e' ∷ es) [] slot h = append-nil (at_place e.0 slot)
held_in-push (e ∷ es) (s ∷ slots) slot h =
    let less : length slots < length es = omega (arith, h) in
    ap (λ (rest : _). at_place e.0 s ++ rest) (held_in-push es slots slot less)
    ∙ sym (append_assoc (at_place e.0 s) (held_in es slots) (at_place (get_or es (length slots) no_entry).0 slot))

-- ---- what is due

-- a row's fault holds until a place as its entry says
is_held_until-some : (place i : ℕ) (fault : Fault) → is_held_until place i (Some fault) ≡ holds_until place i fault
is_held_until-some place i Lose = refl
is_held_until-some place i Dup = refl
is_held_until-some place i (Hold by) = refl
is_held_until-some place i (Cut keep) = refl

-- each entry is what the rows tell for its index
abbrev pub AreTold : List FaultRow → List (ℕ × Fault) → Type 0
AreTold rows entries = AllByRecursion (λ (e : ℕ × Fault). fault_at rows e.0 ≡ Some e.1) entries

due-one : {T : Type 0} (test : ℕ × T → Bool) (i : ℕ) (b : Bool) → ((message : T) → test (i, message) ≡ b) → (slot : Option T) →
    messages (filter test (at_place i slot)) ≡ (if b then option_to_list slot else [])
due-one test i true h None = refl
due-one test i false h None = refl
due-one test i true h (Some message) = rw (h message) refl
due-one test i false h (Some message) = rw (h message) refl

kept-one : {T : Type 0} (test : ℕ × T → Bool) (i : ℕ) (b : Bool) → ((message : T) → test (i, message) ≡ b) → (slot : Option T) →
    filter (λ (entry : ℕ × T). not (test entry)) (at_place i slot) ≡ at_place i (if b then None else slot)
kept-one test i true h None = refl
kept-one test i false h None = refl
kept-one test i true h (Some message) = rw (h message) refl
kept-one test i false h (Some message) = rw (h message) refl

due-entry : {T : Type 0} (rows : List FaultRow) (place : ℕ) (e : ℕ × Fault) → fault_at rows e.0 ≡ Some e.1 → (message : T) → is_due rows place (e.0, message) ≡ holds_until place e.0 e.1
due-entry rows place e told message = ap (is_held_until place e.0) told ∙ is_held_until-some place e.0 e.1

-- of the messages held, those that are due are those in the slots of entries that hold until there
pub due-held_in : {T : Type 0} (rows : List FaultRow) (place : ℕ) (entries : List (ℕ × Fault)) (slots : List (Option T)) → AreTold rows entries →
    messages (filter (is_due rows place) (held_in entries slots)) ≡ due_in place entries slots
due-held_in rows place [] slots told = refl
due-held_in rows place (e ∷ es) [] told = refl
due-held_in {T} rows place (e ∷ es) (slot ∷ slots) told =
    let due : ℕ × T → Bool = is_due rows place in
    ap messages (filter-append due (at_place e.0 slot) (held_in es slots))
    ∙ map-append (λ (entry : ℕ × T). entry.1) (filter due (at_place e.0 slot)) (filter due (held_in es slots))
    ∙ rw (due-one due e.0 (holds_until place e.0 e.1) (due-entry rows place e told.0) slot, due-held_in rows place es slots told.1) refl

-- and the others stay in the slots without those
pub kept-held_in : {T : Type 0} (rows : List FaultRow) (place : ℕ) (entries : List (ℕ × Fault)) (slots : List (Option T)) → AreTold rows entries →
    filter (λ (entry : ℕ × T). not (is_due rows place entry)) (held_in entries slots) ≡ held_in entries (without_due place entries slots)
kept-held_in rows place [] slots told = refl
kept-held_in rows place (e ∷ es) [] told = refl
kept-held_in {T} rows place (e ∷ es) (slot ∷ slots) told =
    let due : ℕ × T → Bool = is_due rows place in
    let kept : ℕ × T → Bool = λ (entry : ℕ × T). not (is_due rows place entry) in
    filter-append kept (at_place e.0 slot) (held_in es slots)
    ∙ rw (kept-one due e.0 (holds_until place e.0 e.1) (due-entry rows place e told.0) slot, kept-held_in rows place es slots told.1) refl

-- as many slots stay
pub length-without_due : {T : Type 0} (place : ℕ) (entries : List (ℕ × Fault)) (slots : List (Option T)) → length slots ≤ length entries → length (without_due place entries slots) ≡ length slots
length-without_due place [] slots h = refl
length-without_due place (e ∷ es) [] h = refl
length-without_due place (e ∷ es) (slot ∷ slots) h = ap (λ (n : ℕ). suc n) (length-without_due place es slots (omega (arith, h)))

-- ---- the slots of the numbers that are due, where some slots stand before those of the entries

push-seam : {T : Type 0} (front : List (Option T)) (slot : Option T) (slots : List (Option T)) → front ++ slot ∷ slots ≡ (front ++ slot ∷ []) ++ slots
push-seam front slot slots = sym (append_assoc front (slot ∷ []) slots)

length-push : {T : Type 0} (front : List (Option T)) (slot : Option T) (n : ℕ) → length front ≡ n → length (front ++ slot ∷ []) ≡ n + 1
length-push front slot n h = length-append front (slot ∷ []) ∙ ap (λ (m : ℕ). m + 1) h

seam-slot : {T : Type 0} (front : List (Option T)) (n : ℕ) → length front ≡ n → (slot : Option T) (slots : List (Option T)) → get_or (front ++ slot ∷ slots) n None ≡ slot
seam-slot front n h slot slots = ap (λ (k : ℕ). get_or (front ++ slot ∷ slots) k None) (sym h) ∙ get_or-append_seam front slot slots None

seam-set : {T : Type 0} (front : List (Option T)) (n : ℕ) → length front ≡ n → (slot : Option T) (slots : List (Option T)) → set (front ++ slot ∷ slots) n None ≡ (front ++ None ∷ []) ++ slots
seam-set front n h slot slots = ap (λ (k : ℕ). set (front ++ slot ∷ slots) k None) (sym h) ∙ set-append_seam front slot slots None ∙ push-seam front None slots

found_at-past : {T : Type 0} (place n : ℕ) (entries : List (ℕ × Fault)) (slots : List (Option T)) → length slots ≤ n → found_at (slots_due place n entries) slots ≡ []
found_at-past place n [] slots h = refl
found_at-past place n (e ∷ es) slots h =
    let past : get_or slots n None ≡ None = get_or-eq_default slots None h in
    let ih : found_at (slots_due place (n + 1) es) slots ≡ [] = found_at-past place (n + 1) es slots (omega (arith, h)) in
    elim (holds_until place e.0 e.1) as (λ (b : Bool). found_at (if b then n ∷ slots_due place (n + 1) es else slots_due place (n + 1) es) slots ≡ [])
    [ true ↦ rw past ih | false ↦ ih ]

-- the messages found at the numbers that are due are those due
pub found_at-due : {T : Type 0} (place n : ℕ) (entries : List (ℕ × Fault)) (front slots : List (Option T)) → length front ≡ n →
    found_at (slots_due place n entries) (front ++ slots) ≡ due_in place entries slots
found_at-due place n [] front slots h = refl
found_at-due {T} place n (e ∷ es) front [] h =
    let none : List (Option T) = [] in
    found_at-past place n (e ∷ es) (front ++ none) (omega (arith, h, length-append front none))
found_at-due {T} place n (e ∷ es) front (slot ∷ slots) h =
    let all : List (Option T) = front ++ slot ∷ slots in
    let at : get_or all n None ≡ slot = seam-slot front n h slot slots in
    let ih : found_at (slots_due place (n + 1) es) all ≡ due_in place es slots =
    ap (found_at (slots_due place (n + 1) es)) (push-seam front slot slots) ∙ found_at-due place (n + 1) es (front ++ slot ∷ []) slots (length-push front slot n h) in
    elim (holds_until place e.0 e.1) as (λ (b : Bool). found_at (if b then n ∷ slots_due place (n + 1) es else slots_due place (n + 1) es) all ≡ (if b then option_to_list slot else []) ++ due_in place es slots)
    [ true ↦ rw (at, ih) refl | false ↦ ih ]

taken_at-past : {T : Type 0} (place n : ℕ) (entries : List (ℕ × Fault)) (slots : List (Option T)) → length slots ≤ n → taken_at (slots_due place n entries) slots ≡ []
taken_at-past place n [] slots h = refl
taken_at-past place n (e ∷ es) slots h =
    let past : get_or slots n None ≡ None = get_or-eq_default slots None h in
    let same : set slots n None ≡ slots = set_past slots n None h in
    let ih : taken_at (slots_due place (n + 1) es) slots ≡ [] = taken_at-past place (n + 1) es slots (omega (arith, h)) in
    elim (holds_until place e.0 e.1) as (λ (b : Bool). taken_at (if b then n ∷ slots_due place (n + 1) es else slots_due place (n + 1) es) slots ≡ [])
    [ true ↦ rw (past, same) ih | false ↦ ih ]

-- emptying the slots of the numbers that are due takes what is due
pub taken_at-due : {T : Type 0} (place n : ℕ) (entries : List (ℕ × Fault)) (front slots : List (Option T)) → length front ≡ n →
    taken_at (slots_due place n entries) (front ++ slots) ≡ due_in place entries slots
taken_at-due place n [] front slots h = refl
taken_at-due {T} place n (e ∷ es) front [] h =
    let none : List (Option T) = [] in
    taken_at-past place n (e ∷ es) (front ++ none) (omega (arith, h, length-append front none))
taken_at-due {T} place n (e ∷ es) front (slot ∷ slots) h =
    let all : List (Option T) = front ++ slot ∷ slots in
    let at : get_or all n None ≡ slot = seam-slot front n h slot slots in
    let emptied : set all n None ≡ (front ++ None ∷ []) ++ slots = seam-set front n h slot slots in
    let left : taken_at (slots_due place (n + 1) es) all ≡ due_in place es slots =
    ap (taken_at (slots_due place (n + 1) es)) (push-seam front slot slots) ∙ taken_at-due place (n + 1) es (front ++ slot ∷ []) slots (length-push front slot n h) in
    let rest : taken_at (slots_due place (n + 1) es) (set all n None) ≡ due_in place es slots =
    ap (taken_at (slots_due place (n + 1) es)) emptied ∙ taken_at-due place (n + 1) es (front ++ None ∷ []) slots (length-push front None n h) in
    elim (holds_until place e.0 e.1) as (λ (b : Bool). taken_at (if b then n ∷ slots_due place (n + 1) es else slots_due place (n + 1) es) all ≡ (if b then option_to_list slot else []) ++ due_in place es slots)
    [ true ↦ rw (at, rest) refl | false ↦ left ]

emptied_at-past : {T : Type 0} (place n : ℕ) (entries : List (ℕ × Fault)) (slots : List (Option T)) → length slots ≤ n → emptied_at (slots_due place n entries) slots ≡ slots
emptied_at-past place n [] slots h = refl
emptied_at-past place n (e ∷ es) slots h =
    let same : set slots n None ≡ slots = set_past slots n None h in
    let ih : emptied_at (slots_due place (n + 1) es) slots ≡ slots = emptied_at-past place (n + 1) es slots (omega (arith, h)) in
    elim (holds_until place e.0 e.1) as (λ (b : Bool). emptied_at (if b then n ∷ slots_due place (n + 1) es else slots_due place (n + 1) es) slots ≡ slots)
    [ true ↦ ap (emptied_at (slots_due place (n + 1) es)) same ∙ ih | false ↦ ih ]

-- and leaves the others
pub emptied_at-due : {T : Type 0} (place n : ℕ) (entries : List (ℕ × Fault)) (front slots : List (Option T)) → length front ≡ n →
    emptied_at (slots_due place n entries) (front ++ slots) ≡ front ++ without_due place entries slots
emptied_at-due place n [] front slots h = refl
emptied_at-due {T} place n (e ∷ es) front [] h =
    let none : List (Option T) = [] in
    emptied_at-past place n (e ∷ es) (front ++ none) (omega (arith, h, length-append front none))
emptied_at-due {T} place n (e ∷ es) front (slot ∷ slots) h =
    let all : List (Option T) = front ++ slot ∷ slots in
    let due : List ℕ = slots_due place (n + 1) es in
    let left : emptied_at due all ≡ front ++ slot ∷ without_due place es slots =
    ap (emptied_at due) (push-seam front slot slots) ∙ emptied_at-due place (n + 1) es (front ++ slot ∷ []) slots (length-push front slot n h)
    ∙ sym (push-seam front slot (without_due place es slots)) in
    let rest : emptied_at due (set all n None) ≡ front ++ None ∷ without_due place es slots =
    ap (emptied_at due) (seam-set front n h slot slots) ∙ emptied_at-due place (n + 1) es (front ++ None ∷ []) slots (length-push front None n h)
    ∙ sym (push-seam front None (without_due place es slots)) in
    elim (holds_until place e.0 e.1) as (λ (b : Bool). emptied_at (if b then n ∷ due else due) all ≡ front ++ (if b then None else slot) ∷ without_due place es slots)
    [ true ↦ rest | false ↦ left ]

-- ---- the link's end

-- all messages in slots, in the order of their entries
pub messages-held_in : {T : Type 0} (entries : List (ℕ × Fault)) (slots : List (Option T)) → length slots ≤ length entries →
    messages (held_in entries slots) ≡ flat_map option_to_list slots
messages-held_in [] [] h = refl
messages-held_in [] (slot ∷ slots) h = absurd (omega (arith, h))
messages-held_in (e ∷ es) [] h = refl
messages-held_in {T} (e ∷ es) (slot ∷ slots) h =
    map-append (λ (entry : ℕ × T). entry.1) (at_place e.0 slot) (held_in es slots)
    ∙ rw (messages-at_place e.0 slot, messages-held_in es slots (omega (arith, h))) refl
  where
    messages-at_place : (i : ℕ) (one : Option T) → messages (at_place i one) ≡ option_to_list one
    messages-at_place i None = refl
    messages-at_place i (Some message) = refl
