-- The fields of a record that are asked for, one by one.
use Rattle.std.specs.Prelude.{Option, Some, None, filter_map, map, if◌then◌else◌}
use Rattle.std.specs.List.{list_any, cons_option}
use Rattle.std.proofs.Common.{◌≡◌, ℕ, ◌+◌, ◌<◌, Bool, true, false, cond, ◌||◌, ◌&&◌, ◌==◌, nat_le, List, [], ◌∷◌, ◌++◌, length, take, get_or, refl, ap, sym, ◌∙◌, append-nil, arith}
use Rattle.std.proofs.lemmas.List.{take_more}
use Rattle.std.proofs.lemmas.List.Elements.{filter_map-append}
use Rattle.std.proofs.lemmas.Bool.{eqb-true, ne_eqb, and_parts}
use Rattle.mama_msg.specs.declared.field.Key.{Key}
use Rattle.mama_msg.specs.declared.field.Key.TheVariants.{Numbered, Named}
use Rattle.mama_msg.specs.Field.{FieldData, key_of, same_key}
use Rattle.mama_msg.specs.Message.{has_key, with_fid, with_name, asked_for, updated}
use Rattle.mama_event.specs.FidList.{is_ascending_above, is_fid_list}
use Rattle.mama_event.specs.Publisher.{asked_fields}
use Rattle.mama_event.proofs.FidLemmas.{ascending_at, ascending_fresh, ascending_above_none}

-- the field that is found has the fid
pub with_fid-fid : (fid : ℕ) (held : List FieldData) (f : FieldData) → with_fid fid held ≡ Some f → f.fid ≡ fid
with_fid-fid fid [] f h = cc
with_fid-fid fid (g ∷ gs) f h = elim (g.fid == fid) as (λ b. (g.fid == fid) ≡ b → cond b (Some g) (with_fid fid gs) ≡ Some f → f.fid ≡ fid) [
  | true ↦ λ same found. let e : f ≡ g = cc in ap (λ (x : FieldData). x.fid) e ∙ eqb-true g.fid fid same
  | false ↦ λ other found. with_fid-fid fid gs f found
] refl h

-- where one of two is true, both are not false
or_parts : (a b : Bool) → (a || b) ≡ false → (a ≡ false) × (b ≡ false)
or_parts true b h = absurd (true_false h)
  where
    true_false : true ≡ false → ⊥
    true_false h = cc
or_parts false b h = (refl, h)

-- a field with a fid has it as its key
key_of-fid : (f : FieldData) (fid : ℕ) → f.fid ≡ fid → (fid == 0) ≡ false → key_of f ≡ Numbered fid
key_of-fid f fid same positive =
    let mine : (f.fid == 0) ≡ false = ap (λ (n : ℕ). n == 0) same ∙ positive in
    ap (λ (b : Bool). if b then Named f.name else Numbered f.fid) mine ∙ ap Numbered same

-- a fid that was not asked is not the key of a field that was
asked_fields-other : (held : List FieldData) (fids : List ℕ) (fid : ℕ)
    → list_any (λ n. n == fid) fids ≡ false → list_any (λ n. n == 0) fids ≡ false
    → has_key (Numbered fid) (asked_fields fids held) ≡ false
asked_fields-other held [] fid other positive = refl
asked_fields-other held (n ∷ ns) fid other positive =
    let others = or_parts (n == fid) (list_any (λ m. m == fid) ns) other in
    let positives = or_parts (n == 0) (list_any (λ m. m == 0) ns) positive in
    let rest : has_key (Numbered fid) (asked_fields ns held) ≡ false = asked_fields-other held ns fid others.1 positives.1 in
    elim (with_fid n held) as (λ o. with_fid n held ≡ o → has_key (Numbered fid) (cons_option o (asked_fields ns held)) ≡ false) [
      | None ↦ λ missing. rest
      | Some f ↦ λ found.
          ap (λ (k : Key). same_key k (Numbered fid) || has_key (Numbered fid) (asked_fields ns held)) (key_of-fid f n (with_fid-fid n held f found) positives.0)
          ∙ ap (λ (b : Bool). b || has_key (Numbered fid) (asked_fields ns held)) others.0
          ∙ rest
    ] refl

-- what is asked with one fid more
asked_fields-take : (held : List FieldData) (fids : List ℕ) (i : ℕ) → i < length fids
    → asked_fields (take (i + 1) fids) held ≡ asked_fields (take i fids) held ++ cons_option (with_fid (get_or fids i 0) held) []
asked_fields-take held fids i within =
    ap (λ (ns : List ℕ). asked_fields ns held) (take_more fids i 0 within)
    ∙ filter_map-append (λ (fid : ℕ). with_fid fid held) (take i fids) (get_or fids i 0 ∷ [])

-- a fid that is there adds its field
pub asked_fields-some : (held : List FieldData) (fids : List ℕ) (i : ℕ) (f : FieldData)
    → is_ascending_above 0 fids ≡ true → i < length fids → with_fid (get_or fids i 0) held ≡ Some f
    → updated (asked_fields (take i fids) held) f ≡ asked_fields (take (i + 1) fids) held
asked_fields-some held fids i f ascending within found =
    let fid : ℕ = get_or fids i 0 in
    let so_far : List FieldData = asked_fields (take i fids) held in
    let above : 0 < fid = ascending_at 0 fids i ascending within in
    let positive : (fid == 0) ≡ false = ne_eqb fid 0 (λ same. omega arith) in
    let key : key_of f ≡ Numbered fid = key_of-fid f fid (with_fid-fid fid held f found) positive in
    let fresh : has_key (key_of f) so_far ≡ false =
    ap (λ (k : Key). has_key k so_far) key
    ∙ asked_fields-other held (take i fids) fid (ascending_fresh 0 fids i ascending within) (ascending_above_none 0 fids i ascending) in
    ap (λ (b : Bool). if b then map (λ (g : FieldData). if same_key (key_of g) (key_of f) then f else g) so_far else so_far ++ f ∷ []) fresh
    ∙ sym (asked_fields-take held fids i within ∙ ap (λ (o : Option FieldData). so_far ++ cons_option o []) found)

-- a fid that is not there adds nothing
pub asked_fields-none : (held : List FieldData) (fids : List ℕ) (i : ℕ)
    → i < length fids → with_fid (get_or fids i 0) held ≡ None
    → asked_fields (take i fids) held ≡ asked_fields (take (i + 1) fids) held
asked_fields-none held fids i within missing =
    sym (asked_fields-take held fids i within
    ∙ ap (λ (o : Option FieldData). asked_fields (take i fids) held ++ cons_option o []) missing
    ∙ append-nil (asked_fields (take i fids) held))

-- what a fid above 0 asks for
asked_for-above : (name : List ℕ) (fid : ℕ) (held : List FieldData) → 0 < fid → asked_for name fid held ≡ with_fid fid held
asked_for-above name fid held above =
    let positive : (fid == 0) ≡ false = ne_eqb fid 0 (λ same. omega arith) in
    ap (λ (b : Bool). if b then with_name name held else with_fid fid held) positive

-- one step of answering, where the field is there
pub asked-found : (held : List FieldData) (fids : List ℕ) (i fid : ℕ) (name : List ℕ) (f copy : FieldData) (reply longer : List FieldData)
    → is_fid_list fids ≡ true → i < length fids → fid ≡ get_or fids i 0 → Some f ≡ asked_for name fid held → copy ≡ f
    → reply ≡ asked_fields (take i fids) held → longer ≡ updated reply copy → longer ≡ asked_fields (take (i + 1) fids) held
asked-found held fids i fid name f copy reply longer form within is found same so_far grown =
    let ascending : is_ascending_above 0 fids ≡ true = (and_parts (nat_le 1 (length fids) && nat_le (length fids) 8) (is_ascending_above 0 fids) form).1 in
    let above : 0 < get_or fids i 0 = ascending_at 0 fids i ascending within in
    let there : with_fid (get_or fids i 0) held ≡ Some f =
    sym (asked_for-above name (get_or fids i 0) held above) ∙ ap (λ (n : ℕ). asked_for name n held) (sym is) ∙ sym found in
    grown ∙ ap (λ (m : List FieldData). updated m copy) so_far ∙ ap (λ (g : FieldData). updated (asked_fields (take i fids) held) g) same
    ∙ asked_fields-some held fids i f ascending within there

-- one step of answering, where it is not
pub asked-missing : (held : List FieldData) (fids : List ℕ) (i fid : ℕ) (name : List ℕ) (reply same : List FieldData)
    → is_fid_list fids ≡ true → i < length fids → fid ≡ get_or fids i 0 → None ≡ asked_for name fid held
    → reply ≡ asked_fields (take i fids) held → same ≡ reply → same ≡ asked_fields (take (i + 1) fids) held
asked-missing held fids i fid name reply same form within is missing so_far kept =
    let ascending : is_ascending_above 0 fids ≡ true = (and_parts (nat_le 1 (length fids) && nat_le (length fids) 8) (is_ascending_above 0 fids) form).1 in
    let above : 0 < get_or fids i 0 = ascending_at 0 fids i ascending within in
    let absent : with_fid (get_or fids i 0) held ≡ None =
    sym (asked_for-above name (get_or fids i 0) held above) ∙ ap (λ (n : ℕ). asked_for name n held) (sym is) ∙ sym missing in
    kept ∙ so_far ∙ asked_fields-none held fids i within absent
