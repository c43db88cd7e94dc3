-- What is read as a field or a message is so spelled, and what is so spelled is read.
use Rattle.std.proofs.Common.{◌≡◌, ℕ, ◌^◌, Bool, true, false, eqb, leb, List, [], ◌∷◌, ◌++◌, length, map, Some, Ok, refl, sym, ap, subst, ◌∙◌, arith}
use Rattle.std.specs.Prelude.{◌&&◌, ◌==◌}
use Rattle.std.specs.List.{list_all, AllByRecursion}
use Rattle.std.proofs.lemmas.Bool.{le-leb, leb-true, and_parts, and_from, eq-eqb, eqb-true}
use Rattle.std.proofs.lemmas.List.{nil_from_length}
use Rattle.mama_edge.specs.Decimal.{decimal}
use Rattle.mama_msg.specs.Name.{is_name_byte, IsNameText}
use Rattle.mama_msg.specs.Field.{FieldData, IsKeyed}
use Rattle.mama_msg.specs.declared.value.Value.{Value}
use Rattle.mama_words.specs.declared.nums.Nums.{Nums}
use Rattle.mama_words.specs.declared.nums.Nums.TheVariants.{Unknown, Known}
use Rattle.mama_words.specs.declared.value_type.ValueType.{ValueType}
use Rattle.mama_words.specs.declared.value_type.ValueType.TheVariants as types
use Rattle.mama_words.specs.Reading.{both}
use Rattle.mama_words.specs.Parting.{cut_at}
use Rattle.mama_words.specs.Number.{below_in}
use Rattle.mama_words.specs.Value.{type_of, type_text, value_text, is_known, type_in, value_in}
use Rattle.mama_words.specs.Field.{field_text, IsField, name_in, keyed_or_fault, field_in, fields_in, are_distinct, distinct_or_fault, message_in, IsMessage}
use Rattle.mama_words.proofs.Choices.{ok_is, chosen_some, guard_ok, guard_bad, bind_ok, step_ok, both_ok}
use Rattle.mama_words.proofs.Numbers.{below_in_again, below_in_found}
use Rattle.mama_words.proofs.Cutting.{lacks, all_lack, cut_at_again, cut_at_split, decimal_lacks}
use Rattle.mama_words.proofs.KindLaws.{type_again, type_found}
use Rattle.mama_words.proofs.ValueLaws.{value_again, value_found}

name_again : (name : List ℕ) → IsNameText name → name_in name ≡ Some name
name_again name is = rw (le-leb (length name) 32 is.short, is.letters) refl

name_found : (text name : List ℕ) → name_in text ≡ Some name → IsNameText name × (text ≡ name)
name_found text name e =
    let p = chosen_some (leb (length text) 32 && list_all is_name_byte text) text name e in
    let q = and_parts (leb (length text) 32) (list_all is_name_byte text) p.0 in
    subst (λ (x : List ℕ). IsNameText x × (text ≡ x)) p.1 (record { short = leb-true (length text) 32 q.0; letters = q.1 }, refl)

keyed_test : (f : FieldData) (zero_fid empty : Bool) → (f.fid == 0) ≡ zero_fid → (length f.name == 0) ≡ empty → IsKeyed f.fid f.name → (f.fid == 0 && length f.name == 0) ≡ false
keyed_test f true true p q k = absurd (k.named (eqb-true f.fid 0 p) (nil_from_length f.name (eqb-true (length f.name) 0 q)))
keyed_test f true false p q k = rw (p, q) refl
keyed_test f false empty p q k = rw p refl

keyed_again : (f : FieldData) → IsKeyed f.fid f.name → keyed_or_fault f ≡ Ok f
keyed_again f k = rw (keyed_test f (f.fid == 0) (length f.name == 0) refl refl k) refl

keyed_found : (f g : FieldData) → keyed_or_fault f ≡ Ok g → IsKeyed f.fid f.name × (f ≡ g)
keyed_found f g e =
    let p = guard_bad (f.fid == 0 && length f.name == 0) 8 f g e in
    (record { named = λ zero_fid empty. let h : (f.fid == 0 && length f.name == 0) ≡ true = and_from (f.fid == 0) (length f.name == 0) (eq-eqb f.fid 0 zero_fid) (eq-eqb (length f.name) 0 (ap length empty)) in let bad : true ≡ false = sym h ∙ p.0 in absurd cc }, p.1)

type_lacks : (t : ValueType) → lacks 58 (type_text t) ≡ false
type_lacks types.Bool = refl
type_lacks types.Char = refl
type_lacks types.I8 = refl
type_lacks types.I16 = refl
type_lacks types.I32 = refl
type_lacks types.I64 = refl
type_lacks types.U8 = refl
type_lacks types.U16 = refl
type_lacks types.U32 = refl
type_lacks types.U64 = refl
type_lacks types.Text = refl
type_lacks types.Bytes = refl
type_lacks types.Price = refl
type_lacks types.Moment = refl
type_lacks types.Numbers = refl

pub field_again : (nums : Nums) (f : FieldData) → IsField nums f → field_in nums (field_text f) ≡ Ok f
unfolding field_in
field_again nums f is =
    let behind_name = type_text (type_of f.value) ++ 58 ∷ value_text f.value in
    let a : cut_at 58 (field_text f) ≡ Some (decimal f.fid, f.name ++ 58 ∷ behind_name) = cut_at_again 58 (decimal f.fid) (f.name ++ 58 ∷ behind_name) (decimal_lacks 58 f.fid refl (omega (arith, is.fid))) in
    let b : cut_at 58 (f.name ++ 58 ∷ behind_name) ≡ Some (f.name, behind_name) = cut_at_again 58 f.name behind_name (all_lack is_name_byte 58 f.name refl is.name.letters) in
    let c : cut_at 58 behind_name ≡ Some (type_text (type_of f.value), value_text f.value) = cut_at_again 58 (type_text (type_of f.value)) (value_text f.value) (type_lacks (type_of f.value)) in
    rw (a, b, c, name_again f.name is.name, below_in_again (2 ^ 16) f.fid is.fid (omega (arith, is.fid)), type_again nums (type_of f.value) is.known, value_again f.value is.value) (keyed_again f is.keyed)

pub field_found : (nums : Nums) (word : List ℕ) (f : FieldData) → field_in nums word ≡ Ok f → IsField nums f × (word ≡ field_text f)
unfolding field_in
field_found nums word f e =
    let a = step_ok 6 (cut_at 58 word) _ f e in
    let b = step_ok 6 (cut_at 58 a.0.1) _ f a.2 in
    let c = step_ok 6 (cut_at 58 b.0.1) _ f b.2 in
    let n = step_ok 6 (name_in b.0.0) _ f c.2 in
    let i = step_ok 7 (below_in (2 ^ 16) a.0.0) _ f n.2 in
    let t = step_ok 7 (type_in nums c.0.0) _ f i.2 in
    let v = step_ok 7 (value_in t.0 c.0.1) _ f t.2 in
    let made : FieldData = record { fid = i.0; name = n.0; value = v.0 } in
    let k = keyed_found made f v.2 in
    let name = name_found b.0.0 n.0 n.1 in
    let fid = below_in_found (2 ^ 16) a.0.0 i.0 i.1 in
    let type_is = type_found nums c.0.0 t.0 t.1 in
    let value = value_found t.0 c.0.1 v.0 v.1 in
    let type_word : c.0.0 ≡ type_text (type_of v.0) = type_is.1 ∙ ap type_text (sym value.type_is) in
    let tail : c.0.0 ++ 58 ∷ c.0.1 ≡ type_text (type_of v.0) ++ 58 ∷ value_text v.0 = ap (λ (x : List ℕ). x ++ 58 ∷ c.0.1) type_word ∙ ap (λ (x : List ℕ). type_text (type_of v.0) ++ 58 ∷ x) value.text_is in
    let middle : b.0.0 ++ 58 ∷ b.0.1 ≡ n.0 ++ 58 ∷ (type_text (type_of v.0) ++ 58 ∷ value_text v.0) = ap (λ (x : List ℕ). x ++ 58 ∷ b.0.1) name.1 ∙ ap (λ (x : List ℕ). n.0 ++ 58 ∷ x) (cut_at_split 58 b.0.1 c.0 c.1 ∙ tail) in
    let whole : word ≡ field_text made = cut_at_split 58 word a.0 a.1 ∙ ap (λ (x : List ℕ). x ++ 58 ∷ a.0.1) fid.1 ∙ ap (λ (x : List ℕ). decimal i.0 ++ 58 ∷ x) (cut_at_split 58 a.0.1 b.0 b.1 ∙ middle) in
    subst (λ (x : FieldData). IsField nums x × (word ≡ field_text x)) k.1 (record { fid = fid.0; name = name.0; keyed = k.0; known = ap (is_known nums) value.type_is ∙ type_is.0; value = value.fits }, whole)

pub fields_again : (nums : Nums) (fs : List FieldData) → AllByRecursion (IsField nums) fs → fields_in nums (map field_text fs) ≡ Ok fs
fields_again nums [] all = refl
fields_again nums (f ∷ fs) all = rw (field_again nums f all.0, fields_again nums fs all.1) refl

pub fields_found : (nums : Nums) (ws : List (List ℕ)) (fs : List FieldData) → fields_in nums ws ≡ Ok fs → AllByRecursion (IsField nums) fs × (ws ≡ map field_text fs)
fields_found nums [] fs e = subst (λ (x : List FieldData). AllByRecursion (IsField nums) x × ([] ≡ map field_text x)) (ok_is [] fs e) (tt, refl)
fields_found nums (w ∷ ws) fs e =
    let p = bind_ok (both (field_in nums w) (fields_in nums ws)) (λ x. Ok (x.0 ∷ x.1)) fs e in
    let q = both_ok (field_in nums w) (fields_in nums ws) p.0 p.1 in
    let f = field_found nums w p.0.0 q.0 in
    let more = fields_found nums ws p.0.1 q.1 in
    subst (λ (x : List FieldData). AllByRecursion (IsField nums) x × (w ∷ ws ≡ map field_text x)) (ok_is (p.0.0 ∷ p.0.1) fs p.2)
    ((f.0, more.0), ap (λ (x : List ℕ). x ∷ ws) f.1 ∙ ap (λ (x : List (List ℕ)). field_text p.0.0 ∷ x) more.1)

pub message_again : (nums : Nums) (fs : List FieldData) → IsMessage nums fs → message_in nums (map field_text fs) ≡ Ok fs
message_again nums fs is = rw (fields_again nums fs is.fields, is.distinct) refl

pub message_found : (nums : Nums) (ws : List (List ℕ)) (fs : List FieldData) → message_in nums ws ≡ Ok fs → IsMessage nums fs × (ws ≡ map field_text fs)
message_found nums ws fs e =
    let p = bind_ok (fields_in nums ws) distinct_or_fault fs e in
    let q = guard_ok (are_distinct p.0) 8 p.0 fs p.2 in
    let r = fields_found nums ws p.0 p.1 in
    subst (λ (x : List FieldData). IsMessage nums x × (ws ≡ map field_text x)) q.1 (record { fields = r.0; distinct = q.0 }, r.1)

-- what some text knows, a text knows that knows lists of numbers
pub message_known : (nums : Nums) (fs : List FieldData) → IsMessage nums fs → IsMessage Known fs
message_known nums fs h = record { fields = all fs h.fields; distinct = h.distinct }
  where
    all : (fs : List FieldData) → AllByRecursion (IsField nums) fs → AllByRecursion (IsField Known) fs
    all [] k = tt
    all (f ∷ fs) k = (record { fid = k.0.fid; name = k.0.name; keyed = k.0.keyed; known = refl; value = k.0.value }, all fs k.1)

pub message_any : (nums : Nums) (fs : List FieldData) → IsMessage Unknown fs → IsMessage nums fs
message_any Unknown fs h = h
message_any Known fs h = message_known Unknown fs h
