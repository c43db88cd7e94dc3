-- One walk over a taker's journal, with what is left of what each port put.
use Rattle.std.proofs.Common.{◌≡◌, ◌≢◌, ℕ, zero, suc, ◌+◌, ◌<◌, inl, inr, take, List, [], ◌∷◌, ◌++◌, length, map, drop, set, get_or, refl, ap, sym, subst, ◌∙◌, append_assoc, get_or-set_same, get_or-set_other}
use Rattle.std.specs.Prelude.{◌==◌, ◌↔◌, slice_get, slice_index_or, Option, Some, option_map}
use Rattle.std.proofs.lemmas.Bool.{cond-true, cond-false, eq-eqb, ne_eqb, cases_eq, cases_Bool}
use Rattle.std.proofs.lemmas.List.{append-nil, take_more, drop_more}
use Rattle.mama_journal.specs.Journal.{puts_after}
use Rattle.mama_journal.specs.Lane.{by_port}
use Rattle.mama_check_order.specs.declared.order.Need.{Need}
use Rattle.mama_check_order.specs.Taken.{put_by, AreWhole, entry_of, need_at, needs_of}

pub length_last : {V : Type 0} (xs : List V) (v : V) → length (xs ++ v ∷ []) ≡ suc (length xs)
length_last [] v = refl
length_last (x ∷ xs) v = ap suc (length_last xs v)

-- what came by a port, of two parts of a journal
by_port-append : {V : Type 0} (port : ℕ) (xs ys : List (ℕ × V)) → by_port port (xs ++ ys) ≡ by_port port xs ++ by_port port ys
by_port-append port [] ys = refl
by_port-append port (x ∷ xs) ys =
    let here = by_port-append port xs ys in
    elim (cases_Bool (x.0 == port)) [
      | inl came ↦
          cond-true (x.0 == port) (x.1 ∷ by_port port (xs ++ ys)) (by_port port (xs ++ ys)) came
          ∙ ap (λ (vs : List _). x.1 ∷ vs) here
          ∙ ap (λ (vs : List _). vs ++ by_port port ys) (sym (cond-true (x.0 == port) (x.1 ∷ by_port port xs) (by_port port xs) came))
      | inr apart ↦
          cond-false (x.0 == port) (x.1 ∷ by_port port (xs ++ ys)) (by_port port (xs ++ ys)) apart
          ∙ here
          ∙ ap (λ (vs : List _). vs ++ by_port port ys) (sym (cond-false (x.0 == port) (x.1 ∷ by_port port xs) (by_port port xs) apart))
    ]

same_port : {V : Type 0} (k port : ℕ) (v : V) (rest : List (ℕ × V)) → k ≡ port → by_port port ((k, v) ∷ rest) ≡ v ∷ by_port port rest
same_port k port v rest e = cond-true (k == port) (v ∷ by_port port rest) (by_port port rest) (eq-eqb k port e)

other_port : {V : Type 0} (k port : ℕ) (v : V) (rest : List (ℕ × V)) → (k ≡ port → ⊥) → by_port port ((k, v) ∷ rest) ≡ by_port port rest
other_port k port v rest apart = cond-false (k == port) (v ∷ by_port port rest) (by_port port rest) (ne_eqb k port apart)

-- the first of what is left of a list, and what is left after it
pub first_left : {X : Type 0} (xs : List X) (n : ℕ) (y : X) (ys : List X) → drop n xs ≡ y ∷ ys → slice_get xs n ≡ Some y
first_left [] zero y ys e = cc
first_left [] (suc n) y ys e = cc
first_left (x ∷ xs) zero y ys e = cc
first_left (x ∷ xs) (suc n) y ys e = first_left xs n y ys e

pub rest_left : {X : Type 0} (xs : List X) (n : ℕ) (y : X) (ys : List X) → drop n xs ≡ y ∷ ys → drop (suc n) xs ≡ ys
rest_left [] zero y ys e = cc
rest_left [] (suc n) y ys e = cc
rest_left (x ∷ xs) zero y ys e = cc
rest_left (x ∷ xs) (suc n) y ys e = rest_left xs n y ys e

-- where a walk stands: what came, what is to come, what is left of what each port put, and what is needed so far
pub record IsWalked {N : Type 0} (actors : List ℕ) (lists : List (List (ℕ × N))) (journal before rest : List (ℕ × N)) (left : List (List (ℕ × N))) (needs : List (Option Need)) : Type 0 where
  pub whole : AreWhole lists journal ↔ AreWhole left rest
  pub drops : (port : ℕ) → drop (length (by_port port before)) (slice_index_or lists port []) ≡ slice_index_or left port []
  pub needed : needs ++ puts_after (need_at actors lists) before rest ≡ needs_of actors lists journal

pub begun : {N : Type 0} (actors : List ℕ) (lists : List (List (ℕ × N))) (journal : List (ℕ × N)) → IsWalked actors lists journal [] journal lists []
begun actors lists journal = record { whole = (λ h. h, λ h. h); drops = λ port. refl; needed = refl }

module _ {N : Type 0} (lists : List (List (ℕ × N))) (port k : ℕ) (note : N) (tail : List (ℕ × N)) (rest : List (ℕ × N)) (inside : port < length lists) (next : slice_index_or lists port [] ≡ (k, note) ∷ tail) where
  put_now : put_by lists port ≡ note ∷ put_by (set lists port tail) port
  put_now = ap (λ (xs : List (ℕ × N)). map (λ (x : ℕ × N). x.1) xs) next ∙ ap (λ (xs : List (ℕ × N)). note ∷ map (λ (x : ℕ × N). x.1) xs) (sym (get_or-set_same lists port tail [] inside))

  put_else : (q : ℕ) → (port ≡ q → ⊥) → put_by (set lists port tail) q ≡ put_by lists q
  put_else q apart = ap (λ (xs : List (ℕ × N)). map (λ (x : ℕ × N). x.1) xs) (get_or-set_other lists port q tail [] (λ e. apart (sym e)))

  -- an edge is whole where it is whole without what was taken first
  whole_on : AreWhole lists ((port, note) ∷ rest) → AreWhole (set lists port tail) rest
  whole_on h q =
      elim (cases_eq port q) [
        | inl e ↦
            let now : put_by lists q ≡ note ∷ put_by (set lists port tail) q = subst (λ (p : ℕ). put_by lists p ≡ note ∷ put_by (set lists port tail) p) e put_now in
            let both : note ∷ by_port q rest ≡ note ∷ put_by (set lists port tail) q = sym (same_port port q note rest e) ∙ h q ∙ now in
            cc
        | inr apart ↦ sym (other_port port q note rest apart) ∙ h q ∙ sym (put_else q apart)
      ]

  whole_back : AreWhole (set lists port tail) rest → AreWhole lists ((port, note) ∷ rest)
  whole_back h q =
      elim (cases_eq port q) [
        | inl e ↦
            let now : put_by lists q ≡ note ∷ put_by (set lists port tail) q = subst (λ (p : ℕ). put_by lists p ≡ note ∷ put_by (set lists port tail) p) e put_now in
            same_port port q note rest e ∙ ap (λ (vs : List N). note ∷ vs) (h q) ∙ sym now
        | inr apart ↦ other_port port q note rest apart ∙ h q ∙ put_else q apart
      ]

-- a list of pairs of which the second parts begin with this one
pub none_first : {N : Type 0} (xs : List (ℕ × N)) (note : N) (notes : List N) → ((k : ℕ) (tail : List (ℕ × N)) → xs ≢ (k, note) ∷ tail) → map (λ (x : ℕ × N). x.1) xs ≡ note ∷ notes → ⊥
none_first [] note notes none e = cc
none_first (x ∷ xs) note notes none e =
    let first : x.1 ≡ note = cc in
    none x.0 xs (ap (λ (v : _). (x.0, v) ∷ xs) first)

-- nothing is among no notes
pub nothing : {N : Type 0} (xs : List (ℕ × N)) → map (λ (x : ℕ × N). x.1) xs ≡ [] → xs ≡ []
nothing [] e = refl
nothing (x ∷ xs) e = cc

-- a port has put one more
longer : {N : Type 0} (port : ℕ) (note : N) (before : List (ℕ × N)) → length (by_port port (before ++ (port, note) ∷ [])) ≡ suc (length (by_port port before))
longer port note before =
    ap length (by_port-append port before ((port, note) ∷ []) ∙ ap (λ (vs : List _). by_port port before ++ vs) (same_port port port note [] refl))
    ∙ length_last (by_port port before) note

-- one entry more
pub walked : {N : Type 0} (actors : List ℕ) (lists : List (List (ℕ × N))) (journal before : List (ℕ × N)) (port : ℕ) (note : N) (rest : List (ℕ × N)) (left : List (List (ℕ × N))) (needs : List (Option Need)) (k : ℕ) (tail : List (ℕ × N))
    → IsWalked actors lists journal before ((port, note) ∷ rest) left needs → port < length left → slice_index_or left port [] ≡ (k, note) ∷ tail
    → IsWalked actors lists journal (before ++ (port, note) ∷ []) rest (set left port tail) (needs ++ Some (record { actor = slice_index_or actors port 0; entry = k }) ∷ [])
walked {N} actors lists journal before port note rest left needs k tail h inside next =
    let need : Need = record { actor = slice_index_or actors port 0; entry = k } in
    let later : List (Option Need) = puts_after (need_at actors lists) (before ++ (port, note) ∷ []) rest in
    record {
      whole = (λ w. whole_on left port k note tail rest inside next (h.whole.0 w), λ w. h.whole.1 (whole_back left port k note tail rest inside next w));
      drops = λ q. elim (cases_eq port q) [
        | inl e ↦ subst (λ (p : ℕ). drop (length (by_port p (before ++ (port, note) ∷ []))) (slice_index_or lists p []) ≡ slice_index_or (set left port tail) p []) e
            (ap (λ (n : ℕ). drop n (slice_index_or lists port [])) (longer port note before)
            ∙ rest_left (slice_index_or lists port []) (length (by_port port before)) (k, note) tail (h.drops port ∙ next)
            ∙ sym (get_or-set_same left port tail [] inside))
        | inr apart ↦
            ap (λ (vs : List N). drop (length vs) (slice_index_or lists q [])) (by_port-append q before ((port, note) ∷ []) ∙ ap (λ (vs : List N). by_port q before ++ vs) (other_port port q note [] apart) ∙ append-nil (by_port q before))
            ∙ h.drops q
            ∙ sym (get_or-set_other left port q tail [] (λ e. apart (sym e)))
      ];
      needed =
          append_assoc needs (Some need ∷ []) later
          ∙ ap (λ (o : Option (ℕ × N)). needs ++ (option_map (entry_of (slice_index_or actors port 0)) o ∷ later)) (sym (first_left (slice_index_or lists port []) (length (by_port port before)) (k, note) tail (h.drops port ∙ next)))
          ∙ h.needed;
    }

-- an entry that is not the next of what its port put
pub stuck : {N : Type 0} (actors : List ℕ) (lists : List (List (ℕ × N))) (journal before : List (ℕ × N)) (port : ℕ) (note : N) (rest : List (ℕ × N)) (left : List (List (ℕ × N))) (needs : List (Option Need))
    → IsWalked actors lists journal before ((port, note) ∷ rest) left needs → ((k : ℕ) (tail : List (ℕ × N)) → slice_index_or left port [] ≢ (k, note) ∷ tail) → AreWhole lists journal → ⊥
stuck {N} actors lists journal before port note rest left needs h none w =
    none_first (slice_index_or left port []) note (by_port port rest) none (sym (h.whole.0 w port) ∙ same_port port port note rest refl)

-- nothing is to come
pub ended : {N : Type 0} (actors : List ℕ) (lists : List (List (ℕ × N))) (journal before : List (ℕ × N)) (left : List (List (ℕ × N))) (needs : List (Option Need))
    → IsWalked actors lists journal before [] left needs → (AreWhole lists journal ↔ ((port : ℕ) → slice_index_or left port [] ≡ [])) × (needs ≡ needs_of actors lists journal)
ended actors lists journal before left needs h = (
  (λ w port. nothing (slice_index_or left port []) (sym (h.whole.0 w port)), λ e. h.whole.1 (λ port. sym (ap (λ (xs : List (ℕ × _)). map (λ (x : ℕ × _). x.1) xs) (e port)))),
  sym (append-nil needs) ∙ h.needed,
)

-- the next entry of a journal
pub next_entry : {X : Type 0} (xs : List X) (i : ℕ) (x : X) → i < length xs → x ≡ get_or xs i x → drop i xs ≡ x ∷ drop (i + 1) xs
next_entry xs i x lt is = drop_more xs i x lt ∙ ap (λ (y : _). y ∷ drop (i + 1) xs) (sym is)

pub taken_more : {X : Type 0} (xs : List X) (i : ℕ) (x : X) → i < length xs → x ≡ get_or xs i x → take (i + 1) xs ≡ take i xs ++ x ∷ []
taken_more xs i x lt is = take_more xs i x lt ∙ ap (λ (y : _). take i xs ++ y ∷ []) (sym is)

-- the same of the entry at a place
pub walked_at : {N : Type 0} (actors : List ℕ) (lists : List (List (ℕ × N))) (journal : List (ℕ × N)) (i : ℕ) (x : ℕ × N) (left : List (List (ℕ × N))) (needs : List (Option Need)) (k : ℕ) (tail : List (ℕ × N))
    → i < length journal → x ≡ get_or journal i x → IsWalked actors lists journal (take i journal) (drop i journal) left needs → x.0 < length left → slice_index_or left x.0 [] ≡ (k, x.1) ∷ tail
    → IsWalked actors lists journal (take (i + 1) journal) (drop (i + 1) journal) (set left x.0 tail) (needs ++ Some (record { actor = slice_index_or actors x.0 0; entry = k }) ∷ [])
walked_at {N} actors lists journal i x left needs k tail lt is h inside next =
    subst (λ (before : List (ℕ × N)). IsWalked actors lists journal before (drop (i + 1) journal) (set left x.0 tail) (needs ++ Some (record { actor = slice_index_or actors x.0 0; entry = k }) ∷ []))
    (sym (taken_more journal i x lt is))
    (walked actors lists journal (take i journal) x.0 x.1 (drop (i + 1) journal) left needs k tail
    (subst (λ (rest : List (ℕ × N)). IsWalked actors lists journal (take i journal) rest left needs) (next_entry journal i x lt is) h) inside next)

pub stuck_at : {N : Type 0} (actors : List ℕ) (lists : List (List (ℕ × N))) (journal : List (ℕ × N)) (i : ℕ) (x : ℕ × N) (left : List (List (ℕ × N))) (needs : List (Option Need))
    → i < length journal → x ≡ get_or journal i x → IsWalked actors lists journal (take i journal) (drop i journal) left needs → ((k : ℕ) (tail : List (ℕ × N)) → slice_index_or left x.0 [] ≢ (k, x.1) ∷ tail)
    → AreWhole lists journal → ⊥
stuck_at {N} actors lists journal i x left needs lt is h none w =
    stuck actors lists journal (take i journal) x.0 x.1 (drop (i + 1) journal) left needs
    (subst (λ (rest : List (ℕ × N)). IsWalked actors lists journal (take i journal) rest left needs) (next_entry journal i x lt is) h) none w
