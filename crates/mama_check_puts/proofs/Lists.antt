-- Lists that grow entry by entry.
use Rattle.std.proofs.Common.{◌≡◌, ℕ, suc, ◌+◌, ◌<◌, ◌≤◌, inl, inr, take, List, [], ◌∷◌, ◌++◌, length, map, get_or, refl, ap, sym, subst, ◌∙◌, append_assoc, arith, zero, add-one, below_more}
use Rattle.std.specs.Prelude.{◌==◌, slice_index_or, slice_set}
use Rattle.std.specs.Prelude.{Result, Ok, Err, OnOk}
use Rattle.std.specs.List.{flat_map}
use Rattle.std.proofs.lemmas.Bool.{cond-true, cond-false, eq-eqb, ne_eqb, cases_eq}
use Rattle.std.proofs.lemmas.List.{append-nil, length-set, length-take-le, get_or-set_same, get_or-set_other, get_or-map, map-append, map-set, length-map, length-append}
use Rattle.std.proofs.Math.Seq.{take-suc}
use Rattle.std.proofs.Math.ListN.{get_or-eq_default}
use Rattle.mama_check_order.specs.Numbered.{from_entry, numbered, parted}
use Rattle.mama_check_order.proofs.Numbered.{parted_push}
use Rattle.mama_check_puts.specs.Puts.{AreLists, one_for}
use Rattle.mama_check_puts.specs.Dealing.{Grow}

-- what a call promises where it succeeds may be said in other words
pub on_ok : {T E P Q : Type 0} (r : Result T E) → (P → Q) → OnOk r P → OnOk r Q
on_ok (Ok x) f h = f h
on_ok (Err e) f h = h

-- what one entry put, in two parts
pub entry_append : {P : Type 0} (n : ℕ) (ps qs : List P) → from_entry n (ps ++ qs) ≡ from_entry n ps ++ from_entry n qs
entry_append n [] qs = refl
entry_append n (p ∷ ps) qs = ap (λ (xs : List _). (n, p) ∷ xs) (entry_append n ps qs)

-- an event for the list of its own number
here : {V : Type 0} (entry number n : ℕ) (v : V) → number ≡ n → from_entry entry (one_for number v n) ≡ (entry, v) ∷ []
here entry number n v e = ap (λ (vs : List _). from_entry entry vs) (cond-true (number == n) (v ∷ []) [] (eq-eqb number n e))

-- and for that of another
elsewhere : {V : Type 0} (entry number n : ℕ) (v : V) → (number ≡ n → ⊥) → from_entry entry (one_for number v n) ≡ []
elsewhere entry number n v apart = ap (λ (vs : List _). from_entry entry vs) (cond-false (number == n) (v ∷ []) [] (ne_eqb number n apart))

-- an event is put last in its list
pub one_dealt : {V : Type 0} (lists : List (List (ℕ × V))) (entry number : ℕ) (v : V) → number < length lists
    → Grow lists (slice_set lists number (slice_index_or lists number [] ++ (entry, v) ∷ [])) (λ n. from_entry entry (one_for number v n))
one_dealt {V} lists entry number v inside = record {
  count = length-set lists number (slice_index_or lists number [] ++ (entry, v) ∷ []);
  each = λ n h. elim (cases_eq number n) [
    | inl e ↦
        let P : ℕ → Type 0 = λ m. slice_index_or (slice_set lists number (slice_index_or lists number [] ++ (entry, v) ∷ [])) m [] ≡ slice_index_or lists m [] ++ from_entry entry (one_for number v m) in
        subst P e (get_or-set_same lists number (slice_index_or lists number [] ++ (entry, v) ∷ []) [] inside
        ∙ ap (λ (vs : List (ℕ × V)). slice_index_or lists number [] ++ vs) (sym (here entry number number v refl)))
    | inr apart ↦
        get_or-set_other lists number n (slice_index_or lists number [] ++ (entry, v) ∷ []) [] (λ e. apart (sym e))
        ∙ sym (append-nil (slice_index_or lists n []))
        ∙ ap (λ (vs : List (ℕ × V)). slice_index_or lists n [] ++ vs) (sym (elsewhere entry number n v apart))
  ];
}

-- the same where the lists are of vectors
pub put_last : {A V : Type 0} (f : A → List (ℕ × V)) (all : List A) (entry number : ℕ) (v : V) (old new : A)
    → number < length all → old ≡ get_or all number old → f new ≡ f old ++ (entry, v) ∷ []
    → Grow (map f all) (map f (slice_set all number new)) (λ n. from_entry entry (one_for number v n))
put_last {A} {V} f all entry number v old new within is pushed =
    let found : f old ≡ slice_index_or (map f all) number [] = ap f is ∙ sym (get_or-map f all number old [] within) in
    let inside : number < length (map f all) = subst (λ (m : ℕ). number < m) (sym (length-map all f)) within in
    let same : map f (slice_set all number new) ≡ slice_set (map f all) number (slice_index_or (map f all) number [] ++ (entry, v) ∷ []) =
    map-set f all number new ∙ ap (λ (vs : List (ℕ × V)). slice_set (map f all) number vs) (pushed ∙ ap (λ (vs : List (ℕ × V)). vs ++ (entry, v) ∷ []) found) in
    subst (λ (new : List (List (ℕ × V))). Grow (map f all) new (λ n. from_entry entry (one_for number v n))) (sym same)
    (one_dealt (map f all) entry number v inside)

-- an event for a list that is not there
pub none_dealt : {V : Type 0} (lists : List (List (ℕ × V))) (entry number : ℕ) (v : V) → length lists ≤ number
    → Grow lists lists (λ n. from_entry entry (one_for number v n))
none_dealt {V} lists entry number v past = record {
  count = refl;
  each = λ n h.
      let apart : number ≡ n → ⊥ = λ e. omega arith in
      sym (append-nil (slice_index_or lists n [])) ∙ ap (λ (vs : List (ℕ × V)). slice_index_or lists n [] ++ vs) (sym (elsewhere entry number n v apart));
}

-- Lists to which some is still to be dealt: what each has now, and then gets, is what it had, and then all of it.
pub record AreDealt {V : Type 0} (old now : List (List V)) (rest all : ℕ → List V) : Type 0 where
  pub count : length now ≡ length old
  pub each : (n : ℕ) → n < length old → slice_index_or now n [] ++ rest n ≡ slice_index_or old n [] ++ all n

-- what of some puts of an entry goes to each number
abbrev pub shares : {P V : Type 0} → (ℕ → P → List V) → ℕ → List P → ℕ → List (ℕ × V)
shares part entry puts n = from_entry entry (flat_map (part n) puts)

pub none_yet : {V : Type 0} (lists : List (List V)) (all : ℕ → List V) → AreDealt lists lists all all
none_yet lists all = record { count = refl; each = λ n h. refl }

pub dealt_more : {P V : Type 0} (part : ℕ → P → List V) (entry : ℕ) (old now new : List (List (ℕ × V))) (puts rest : List P) (p : P) (all : ℕ → List (ℕ × V))
    → AreDealt old now (shares part entry puts) all → puts ≡ p ∷ rest → Grow now new (λ n. from_entry entry (part n p)) → AreDealt old new (shares part entry rest) all
dealt_more {P} {V} part entry old now new puts rest p all dealt first grow = record {
  count = grow.count ∙ dealt.count;
  each = λ n h.
      let within : n < length now = omega (arith, dealt.count) in
      ap (λ (vs : List (ℕ × V)). vs ++ shares part entry rest n) (grow.each n within)
      ∙ append_assoc (slice_index_or now n []) (from_entry entry (part n p)) (shares part entry rest n)
      ∙ ap (λ (vs : List (ℕ × V)). slice_index_or now n [] ++ vs) (sym (entry_append entry (part n p) (flat_map (part n) rest)))
      ∙ ap (λ (ps : List P). slice_index_or now n [] ++ shares part entry ps n) (sym first)
      ∙ dealt.each n h;
}

pub all_dealt : {P V : Type 0} (part : ℕ → P → List V) (entry : ℕ) (old now : List (List (ℕ × V))) (puts : List P) (all : ℕ → List (ℕ × V))
    → AreDealt old now (shares part entry puts) all → puts ≡ [] → Grow old now all
all_dealt {P} {V} part entry old now puts all dealt none = record {
  count = dealt.count;
  each = λ n h.
      sym (append-nil (slice_index_or now n []))
      ∙ ap (λ (ps : List P). slice_index_or now n [] ++ shares part entry ps n) (sym none)
      ∙ dealt.each n h;
}

-- ---- over a journal

-- what of the puts of a journal goes to each number
abbrev pub shares_of : {E P V : Type 0} → (ℕ → P → List V) → (List E → E → List P) → List E → ℕ → List (ℕ × V)
shares_of part at journal n = parted (part n) (numbered at journal)

-- an entry more
pub entry_dealt : {E P V : Type 0} (part : ℕ → P → List V) (at : List E → E → List P) (es : List E) (e : E) (entry count : ℕ) (lists new : List (List (ℕ × V))) (puts : List P)
    → entry ≡ length es → puts ≡ at es e → AreLists lists count (shares_of part at es) → Grow lists new (shares part entry puts) → AreLists new count (shares_of part at (es ++ e ∷ []))
entry_dealt {E} {P} {V} part at es e entry count lists new puts place whose are grow = record {
  as_many = grow.count ∙ are.as_many;
  each = λ n h.
      let within : n < length lists = omega (arith, are.as_many) in
      grow.each n within
      ∙ ap (λ (vs : List (ℕ × V)). vs ++ shares part entry puts n) (are.each n h)
      ∙ ap (λ (m : ℕ). shares_of part at es n ++ shares part m puts n) place
      ∙ ap (λ (ps : List P). shares_of part at es n ++ shares part (length es) ps n) whose
      ∙ sym (parted_push (part n) at es e);
}

-- the journal so far, and the next entry
pub so_far : {E : Type 0} (journal : List E) (i : ℕ) (d : E) → i < length journal → take (i + 1) journal ≡ take i journal ++ get_or journal i d ∷ []
so_far {E} journal i d within = ap (λ (k : ℕ). take k journal) (add-one i) ∙ take-suc journal i d within

-- the same over a journal that is gone through
pub next_dealt : {E P V : Type 0} (part : ℕ → P → List V) (at : List E → E → List P) (journal : List E) (i : ℕ) (d : E) (count : ℕ) (lists new : List (List (ℕ × V))) (puts : List P)
    → i < length journal → puts ≡ at (take i journal) (get_or journal i d) → AreLists lists count (shares_of part at (take i journal)) → Grow lists new (shares part i puts)
    → AreLists new count (shares_of part at (take (i + 1) journal))
next_dealt {E} {P} {V} part at journal i d count lists new puts within whose are grow =
    subst (λ (es : List E). AreLists new count (shares_of part at es)) (sym (so_far journal i d within))
    (entry_dealt part at (take i journal) (get_or journal i d) i count lists new puts (sym (length-take-le i journal (omega arith))) whose are grow)

-- ---- lists with nothing in them

-- one more empty list is read as none is
still_empty : {V : Type 0} (lists : List (List V)) (n : ℕ) → get_or (lists ++ [] ∷ []) n [] ≡ get_or lists n []
still_empty [] zero = refl
still_empty [] (suc n) = refl
still_empty (l ∷ ls) zero = refl
still_empty (l ∷ ls) (suc n) = still_empty ls n

pub one_empty : {A V : Type 0} (f : A → List V) (all new : List A) (k : ℕ) (x : A) → AreLists (map f all) k (λ n. []) → new ≡ all ++ x ∷ [] → f x ≡ [] → AreLists (map f new) (k + 1) (λ n. [])
one_empty {A} {V} f all new k x are grown empty =
    let lists : List (List V) = map f all in
    let same : map f new ≡ lists ++ [] ∷ [] = ap (map f) grown ∙ map-append f all (x ∷ []) ∙ ap (λ (l : List V). lists ++ l ∷ []) empty in
    subst (λ (ls : List (List V)). AreLists ls (k + 1) (λ n. [])) (sym same) (record {
      as_many = length-append lists ([] ∷ []) ∙ ap (λ m. m + 1) are.as_many;
      each = below_more (λ n. get_or (lists ++ [] ∷ []) n [] ≡ []) k (λ n h. still_empty lists n ∙ are.each n h)
          (still_empty lists k ∙ get_or-eq_default lists [] (omega (arith, are.as_many)));
    })
