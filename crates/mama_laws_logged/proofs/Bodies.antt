-- Messages stay messages under what publishers do: an update is applied, and some fields are asked for.
use Rattle.std.specs.Prelude.{Option, Some, None, find, filter, unwrap_or, nat_le, not, ◌&&◌, ◌==◌}
use Rattle.std.specs.List.{AllByRecursion, cons_option}
use Rattle.std.proofs.Common.{◌≡◌, ℕ, zero, suc, ◌+◌, ◌≤◌, Bool, true, false, cond, List, [], ◌∷◌, length, map, take, get_or, refl, subst, arith}
use Rattle.std.proofs.lemmas.Bool.{and_parts, and_from, not-true, not_from_false, leb-true}
use Rattle.std.proofs.lemmas.List.{take_all}
use Rattle.mama_msg.specs.Field.{FieldData, key_of}
use Rattle.mama_msg.specs.Message.{AreDistinct, has_key, with_key, with_fid, apply}
use Rattle.mama_msg.proofs.Applying.{AreDistinct-apply}
use Rattle.mama_msg.proofs.DistinctKeys.{AreDistinct-updated}
use Rattle.mama_event.specs.FidList.{is_ascending_above}
use Rattle.mama_event.specs.Publisher.{asked_fields}
use Rattle.mama_words.specs.declared.nums.Nums.{Nums}
use Rattle.mama_words.specs.Field.{IsField, are_distinct, IsMessage}
use Rattle.mama_publisher.proofs.Asking.{asked_fields-some, asked_fields-none}
use Rattle.mama_log_line.specs.Entering.{AreFids, IsBody}
use Rattle.mama_laws_genuine.proofs.Elements.{all_append, all_map, all_filter}

-- the two ways to say that keys are distinct

pub distinct_apart : (fs : List FieldData) → are_distinct fs ≡ true → AreDistinct fs
distinct_apart [] same = tt
distinct_apart (f ∷ fs) same =
    let parts = and_parts (not (has_key (key_of f) fs)) (are_distinct fs) same in
    (not-true (has_key (key_of f) fs) parts.0, distinct_apart fs parts.1)

distinct_again : (fs : List FieldData) → AreDistinct fs → are_distinct fs ≡ true
distinct_again [] d = refl
distinct_again (f ∷ fs) d =
    and_from (not (has_key (key_of f) fs)) (are_distinct fs) (not_from_false (has_key (key_of f) fs) d.0) (distinct_again fs d.1)

-- what holds of each element holds of the one that is found

found_or : {X : Type 0} (P : X → Type 0) (test : X → Bool) (xs : List X) (x : X) → AllByRecursion P xs → P x → P (unwrap_or (find test xs) x)
found_or P test [] x all here = here
found_or P test (y ∷ ys) x all here = elim (test y) as (λ b. P (unwrap_or (cond b (Some y) (find test ys)) x)) [
  | true ↦ all.0
  | false ↦ found_or P test ys x all.1 here
]

found_first : {X : Type 0} (P : X → Type 0) (test : X → Bool) (xs rest : List X) → AllByRecursion P xs → AllByRecursion P rest
    → AllByRecursion P (cons_option (find test xs) rest)
found_first P test [] rest all more = more
found_first P test (y ∷ ys) rest all more = elim (test y) as (λ b. AllByRecursion P (cons_option (cond b (Some y) (find test ys)) rest)) [
  | true ↦ (all.0, more)
  | false ↦ found_first P test ys rest all.1 more
]

-- ---- an update is applied

pub applied_message : (nums : Nums) (m u : List FieldData) → IsMessage nums m → IsMessage nums u → IsMessage nums (apply m u)
applied_message nums m u one two = record {
  fields =
      all_append (IsField nums) (map (λ f. unwrap_or (with_key (key_of f) u) f) m) (filter (λ f. not (has_key (key_of f) m)) u)
      (all_map (IsField nums) (IsField nums) (λ f. unwrap_or (with_key (key_of f) u) f) (λ f is. found_or (IsField nums) _ u f two.fields is) m one.fields)
      (all_filter (IsField nums) (λ f. not (has_key (key_of f) m)) u two.fields);
  distinct = distinct_again (apply m u) (AreDistinct-apply m u (distinct_apart m one.distinct) (distinct_apart u two.distinct));
}

-- ---- fields are asked for

asked_all : (nums : Nums) (fids : List ℕ) (held : List FieldData) → AllByRecursion (IsField nums) held → AllByRecursion (IsField nums) (asked_fields fids held)
asked_all nums [] held all = tt
asked_all nums (fid ∷ fids) held all = found_first (IsField nums) (λ f. f.fid == fid) held (asked_fields fids held) all (asked_all nums fids held all)

-- no more than the fids
length-cons_option : (o : Option FieldData) (rest : List FieldData) → length (cons_option o rest) ≤ suc (length rest)
length-cons_option None rest = omega arith
length-cons_option (Some f) rest = omega arith

asked_few : (fids : List ℕ) (held : List FieldData) → length (asked_fields fids held) ≤ length fids
asked_few [] held = omega arith
asked_few (fid ∷ fids) held =
    let later : length (asked_fields fids held) ≤ length fids = asked_few fids held in
    let one : length (cons_option (with_fid fid held) (asked_fields fids held)) ≤ suc (length (asked_fields fids held)) =
    length-cons_option (with_fid fid held) (asked_fields fids held) in
    omega arith

-- the fids ascend, so each field that they ask for has a key of its own
asked_apart : (fids : List ℕ) (held : List FieldData) → is_ascending_above 0 fids ≡ true → (i : ℕ) → i ≤ length fids
    → AreDistinct (asked_fields (take i fids) held)
asked_apart fids held ascending zero within = tt
asked_apart fids held ascending (suc i) within =
    let before : AreDistinct (asked_fields (take i fids) held) = asked_apart fids held ascending i (omega arith) in
    let next : i + 1 ≡ suc i = omega arith in
    subst (λ (n : ℕ). AreDistinct (asked_fields (take n fids) held)) next
    (elim (with_fid (get_or fids i 0) held) as (λ o. with_fid (get_or fids i 0) held ≡ o → AreDistinct (asked_fields (take (i + 1) fids) held)) [
      | None ↦ λ missing. subst AreDistinct (asked_fields-none held fids i (omega arith) missing) before
      | Some f ↦ λ found.
          subst AreDistinct (asked_fields-some held fids i f ascending (omega arith) found)
          (AreDistinct-updated (asked_fields (take i fids) held) f before)
    ] refl)

pub asked_body : (nums : Nums) (fids : List ℕ) (held : List FieldData) → AreFids fids → IsMessage nums held → IsBody nums (asked_fields fids held)
asked_body nums fids held are is =
    let parts = and_parts (nat_le 1 (length fids) && nat_le (length fids) 8) (is_ascending_above 0 fids) are.list in
    let most : length fids ≤ 8 = leb-true (length fids) 8 (and_parts (nat_le 1 (length fids)) (nat_le (length fids) 8) parts.0).1 in
    let whole : take (length fids) fids ≡ fids = take_all (length fids) fids (omega arith) in
    let few : length (asked_fields fids held) ≤ length fids = asked_few fids held in
    record {
      message = record {
        fields = asked_all nums fids held is.fields;
        distinct =
            distinct_again (asked_fields fids held)
            (subst (λ (ns : List ℕ). AreDistinct (asked_fields ns held)) whole (asked_apart fids held parts.1 (length fids) (omega arith)));
      };
      few = omega arith;
    }
