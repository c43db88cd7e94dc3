-- What is read as a script is so spelled, and what is so spelled is read.
use Rattle.std.proofs.Common.{◌≡◌, ℕ, suc, ◌<◌, Bool, true, false, cond, eqb, List, [], ◌∷◌, ◌++◌, length, Option, Some, None, Result, Ok, Err, refl, sym, ap, subst, ◌∙◌, append_assoc, arith}
use Rattle.std.specs.Prelude.{◌==◌, ◌&&◌, not, nat_le}
use Rattle.std.specs.List.{flat_map, list_all, list_any}
use Rattle.std.proofs.lemmas.Bool.{and_parts, eqb-true}
use Rattle.std.proofs.lemmas.List.{nil_from_length}
use Rattle.mama_words.specs.Parting.{onto_first, pieces, is_plain, is_parted, is_outside, place_after, is_empty_word, words}
use Rattle.mama_words.specs.declared.parting.Place.TheVariants.{Outside}
use Rattle.mama_words.proofs.Choices.{chosen_some}
use Rattle.mama_words.proofs.Named.{named_found}
use Rattle.mama_words.specs.declared.version.Version.{Version}
use Rattle.mama_words.specs.declared.version.Version.TheVariants as version
use Rattle.mama_words.specs.declared.order.OrderWord.TheVariants as orders
use Rattle.mama_words.proofs.Cuts.{pieces_at_some}
use Rattle.mama_words.proofs.Cutting.{lacks, all_lack, cut_at_again}
use Rattle.mama_script.specs.declared.fault.Flaw.{Flaw}
use Rattle.mama_script.specs.declared.fault.ScriptFault.{ScriptFault}
use Rattle.mama_script.specs.declared.fault.ScriptFault.TheVariants.{Bad}
use Rattle.mama_script.specs.declared.line.Line.{Line}
use Rattle.mama_script.specs.declared.line.Line.TheVariants as lines
use Rattle.mama_script.specs.Head.{allows, may_end}
use Rattle.mama_script.specs.Line.{head_of, IsLine, line_text, line_words, ended}
use Rattle.mama_script.specs.Form.{form_in}
use Rattle.mama_script.specs.Before.{Before, opening, start, after, flaw}
use Rattle.mama_script.specs.Names.{made_by, unnamed_from}
use Rattle.mama_script.specs.Placing.{cast_of, none_placed, misplaced_from}
use Rattle.mama_script.specs.Reading.{and_then, unless_flawed, judged, line_in, end_fault, unless_faulty, end_in, line_first, read_from, first_line, version_in, read_version, version_of, lines_in, unless_wrong, earlier, second_fault, named_or_fault, script_in, spelling, Fits, FitFrom, AreAccepted}
use Rattle.mama_script.proofs.FormFound.{form_found}
use Rattle.mama_script.proofs.FormAgain.{form_again, line_parted}

-- ---- pieces of a text

-- the text that the pieces make
abbrev pub joined : List (List ℕ) → List ℕ
joined [] = []
joined (p ∷ []) = p
joined (p ∷ q ∷ ps) = p ++ 10 ∷ joined (q ∷ ps)

onto_first_some : (b : ℕ) (ws : List (List ℕ)) → 0 < length (onto_first b ws)
onto_first_some b [] = omega arith
onto_first_some b (w ∷ ws) = omega arith

pieces_some_step : (c b : ℕ) (bs : List ℕ) (here : Bool) → eqb b c ≡ here → 0 < length (pieces c (b ∷ bs))
pieces_some_step c b bs true e = rw e (omega arith)
pieces_some_step c b bs false e = rw e (onto_first_some b (pieces c bs))

pub pieces_some : (c : ℕ) (bs : List ℕ) → 0 < length (pieces c bs)
pieces_some c [] = omega arith
pieces_some c (b ∷ bs) = pieces_some_step c b bs (eqb b c) refl

joined_onto_first : (b : ℕ) (ws : List (List ℕ)) → joined (onto_first b ws) ≡ b ∷ joined ws
joined_onto_first b [] = refl
joined_onto_first b (w ∷ []) = refl
joined_onto_first b (w ∷ v ∷ ws) = refl

joined_behind : (p : List ℕ) (ws : List (List ℕ)) → 0 < length ws → joined (p ∷ ws) ≡ p ++ 10 ∷ joined ws
joined_behind p [] h = absurd (omega arith)
joined_behind p (w ∷ ws) h = refl

joined_step : (b : ℕ) (bs : List ℕ) (here : Bool) → eqb b 10 ≡ here → joined (pieces 10 bs) ≡ bs → joined (pieces 10 (b ∷ bs)) ≡ b ∷ bs
joined_step b bs true e more = rw e (joined_behind [] (pieces 10 bs) (pieces_some 10 bs) ∙ ap (λ (t : List ℕ). 10 ∷ t) more ∙ ap (λ (x : ℕ). x ∷ bs) (sym (eqb-true b 10 e)))
joined_step b bs false e more = rw e (joined_onto_first b (pieces 10 bs) ∙ ap (λ (t : List ℕ). b ∷ t) more)

pub pieces_joined : (bs : List ℕ) → joined (pieces 10 bs) ≡ bs
pieces_joined [] = refl
pieces_joined (b ∷ bs) = joined_step b bs (eqb b 10) refl (pieces_joined bs)

-- ---- steps of reading

abbrev done : {A : Type 0} → A → Result A ScriptFault
done x = Ok x

pub done_is : {A : Type 0} (x y : A) → done x ≡ done y → x ≡ y
done_is x y e = cc

pub and_then_ok : {A B : Type 0} (r : Result A ScriptFault) (f : A → Result B ScriptFault) (y : B) → and_then r f ≡ Ok y → (x : A) × (r ≡ Ok x) × (f x ≡ Ok y)
and_then_ok (Ok x) f y e = (x, refl, e)
and_then_ok (Err n) f y e = absurd cc

pub read_from_line : (b : Before) (k : ℕ) (text : List ℕ) (ps : List (List ℕ)) → 0 < length ps
    → read_from b k (text ∷ ps) ≡ and_then (line_in b k text) (λ line. and_then (read_from (after b line) (suc k) ps) (line_first line))
read_from_line b k text [] h = absurd (omega arith)
read_from_line b k text (p ∷ ps) h = refl

unless_ok : (b : Before) (k : ℕ) (m l : Line) (o : Option Flaw) → flaw b m ≡ o → unless_flawed k m o ≡ Ok l → (m ≡ l) × (flaw b l ≡ None)
unless_ok b k m l None h e = let same = done_is m l e in (same, subst (λ (x : Line). flaw b x ≡ None) same h)
unless_ok b k m l (Some f) h e = absurd cc

judged_ok : (b : Before) (k : ℕ) (r : Result Line ℕ) (l : Line) → judged b k r ≡ Ok l → (r ≡ Ok l) × (flaw b l ≡ None)
judged_ok b k (Err n) l e = absurd cc
judged_ok b k (Ok m) l e = let p = unless_ok b k m l (flaw b m) refl e in (ap (λ (x : Line). Ok x) p.0, p.1)

pub line_found : (b : Before) (k : ℕ) (text : List ℕ) (l : Line) → line_in b k text ≡ Ok l → Fits b l × (text ≡ line_text l)
line_found b k text l e =
    let p = judged_ok b k (form_in b.version b.place text) l e in
    let f = form_found b.version b.place text l p.0 in
    (record { form = f.fits; place = f.stands; sound = p.1 }, f.text_is)

line_again : (b : Before) (k : ℕ) (l : Line) → Fits b l → line_in b k (line_text l) ≡ Ok l
line_again b k l fits = ap (judged b k) (form_again b.version b.place l fits.form fits.place) ∙ ap (unless_flawed k l) fits.sound

end_tests : (empty may : Bool) (k : ℕ) → cond empty (cond may None (Some (Bad k 3))) (Some (Bad k 2)) ≡ None → (empty ≡ true) × (may ≡ true)
end_tests true true k e = (refl, refl)
end_tests true false k e = absurd cc
end_tests false may k e = absurd cc

unless_faulty_ok : (o : Option ScriptFault) (ls : List Line) → unless_faulty o ≡ Ok ls → (o ≡ None) × ([] ≡ ls)
unless_faulty_ok None ls e = (refl, done_is [] ls e)
unless_faulty_ok (Some f) ls e = absurd cc

end_found : (b : Before) (k : ℕ) (rest : List ℕ) (ls : List Line) → end_in b k rest ≡ Ok ls → FitFrom b ls × (rest ≡ flat_map ended ls)
end_found b k rest ls e =
    let p = unless_faulty_ok (end_fault b.place k rest) ls e in
    let q = end_tests (length rest == 0) (may_end b.place) k p.0 in
    subst (λ (x : List Line). FitFrom b x × (rest ≡ flat_map ended x)) p.1 (q.1, nil_from_length rest (eqb-true (length rest) 0 q.0))

-- the text of a line, its end and what follows
ended_then : (l : Line) (rest : List ℕ) → ended l ++ rest ≡ line_text l ++ 10 ∷ rest
ended_then l rest = append_assoc (line_text l) (10 ∷ []) rest

whole_found : (b : Before) (k : ℕ) (ps : List (List ℕ)) (ls : List Line) → read_from b k ps ≡ Ok ls → FitFrom b ls × (joined ps ≡ flat_map ended ls)
whole_found b k [] ls e = absurd cc
whole_found b k (rest ∷ []) ls e = end_found b k rest ls e
whole_found b k (text ∷ next ∷ more) ls e =
    let l = and_then_ok (line_in b k text) _ ls e in
    let r = and_then_ok (read_from (after b l.0) (suc k) (next ∷ more)) (line_first l.0) ls l.2 in
    let f = line_found b k text l.0 l.1 in
    let w = whole_found (after b l.0) (suc k) (next ∷ more) r.0 r.1 in
    let same : text ++ 10 ∷ joined (next ∷ more) ≡ flat_map ended (l.0 ∷ r.0) =
    ap (λ (t : List ℕ). t ++ 10 ∷ joined (next ∷ more)) f.1 ∙ ap (λ (t : List ℕ). line_text l.0 ++ 10 ∷ t) w.1 ∙ sym (ended_then l.0 (flat_map ended r.0)) in
    subst (λ (x : List Line). FitFrom b x × (text ++ 10 ∷ joined (next ∷ more) ≡ flat_map ended x)) (done_is (l.0 ∷ r.0) ls r.2) ((f.0, w.0), same)

-- no line has an end in it
line_lacks : (v : Version) (l : Line) → IsLine v l → lacks 10 (line_text l) ≡ false
line_lacks v l h =
    let p = chosen_some (is_parted (line_text l)) (words (line_text l)) (line_words l) (line_parted v l h) in
    let q = and_parts (list_all is_plain (line_text l) && is_outside (place_after Outside (line_text l))) (not (list_any is_empty_word (words (line_text l)))) p.0 in
    let r = and_parts (list_all is_plain (line_text l)) (is_outside (place_after Outside (line_text l))) q.0 in
    all_lack is_plain 10 (line_text l) refl r.0

line_cut : (v : Version) (l : Line) (rest : List ℕ) → IsLine v l → pieces 10 (ended l ++ rest) ≡ line_text l ∷ pieces 10 rest
line_cut v l rest h = ap (pieces 10) (ended_then l rest) ∙ pieces_at_some 10 (line_text l ++ 10 ∷ rest) (line_text l) rest (cut_at_again 10 (line_text l) rest (line_lacks v l h))

whole_again : (b : Before) (k : ℕ) (ls : List Line) → FitFrom b ls → read_from b k (pieces 10 (flat_map ended ls)) ≡ Ok ls
whole_again b k [] h = rw h refl
whole_again b k (l ∷ ls) h =
    let rest = flat_map ended ls in
    ap (read_from b k) (line_cut b.version l rest h.0.form) ∙ read_from_line b k (line_text l) (pieces 10 rest) (pieces_some 10 rest)
    ∙ ap (λ (r : Result Line ScriptFault). and_then r (λ line. and_then (read_from (after b line) (suc k) (pieces 10 rest)) (line_first line))) (line_again b k l h.0)
    ∙ ap (λ (r : Result (List Line) ScriptFault). and_then r (line_first l)) (whole_again (after b l) (suc k) ls h.1)

-- ---- the whole text

pub version_again : (v : Version) → version_in (first_line v) ≡ Some v
version_again version.One = refl
version_again version.Two = refl

pub version_found : (text : List ℕ) (v : Version) → version_in text ≡ Some v → text ≡ first_line v
version_found text v = named_found first_line text (version.One ∷ version.Two ∷ []) v

-- what may stand behind the first line tells the version
opened_by : (v : Version) (l : Line) (ls : List Line) → allows (opening v) (head_of l) ≡ true → version_of (l ∷ ls) ≡ v
opened_by version.One (lines.Strategy s) ls h = absurd cc
opened_by version.One _ ls h = refl
opened_by version.Two (lines.Strategy s) ls h = refl
opened_by version.Two (lines.Order (orders.Stop id)) ls h = absurd cc
opened_by version.Two (lines.Order (orders.Disarm id)) ls h = absurd cc
opened_by version.Two (lines.Order (orders.Close id)) ls h = absurd cc
opened_by version.Two (lines.Order (orders.Ask id topic fids)) ls h = absurd cc
opened_by version.Two _ ls h = absurd cc

no_end : (v : Version) → may_end (opening v) ≡ false
no_end version.One = refl
no_end version.Two = refl

pub version_fits : (v : Version) (ls : List Line) → FitFrom (start v) ls → version_of ls ≡ v
version_fits v [] h = let bad : true ≡ false = sym h ∙ no_end v in absurd cc
version_fits v (l ∷ ls) h = opened_by v l ls h.0.place

version_ok : (o : Option Version) (ps : List (List ℕ)) (ls : List Line) → read_version o ps ≡ Ok ls → (v : Version) × (o ≡ Some v) × (read_from (start v) 2 ps ≡ Ok ls)
version_ok None ps ls e = absurd cc
version_ok (Some v) ps ls e = (v, refl, e)

pub lines_found : (ps : List (List ℕ)) (ls : List Line) → lines_in ps ≡ Ok ls → FitFrom (start (version_of ls)) ls × (joined ps ≡ spelling ls)
lines_found [] ls e = absurd cc
lines_found (rest ∷ []) ls e = absurd cc
lines_found (first ∷ next ∷ more) ls e =
    let p = version_ok (version_in first) (next ∷ more) ls e in
    let w = whole_found (start p.0) 2 (next ∷ more) ls p.2 in
    let same : p.0 ≡ version_of ls = sym (version_fits p.0 ls w.0) in (
      subst (λ (v : Version). FitFrom (start v) ls) same w.0,
      ap (λ (t : List ℕ). t ++ 10 ∷ joined (next ∷ more)) (version_found first p.0 p.1 ∙ ap first_line same) ∙ ap (λ (t : List ℕ). first_line (version_of ls) ++ 10 ∷ t) w.1
          ∙ sym (append_assoc (first_line (version_of ls)) (10 ∷ []) (flat_map ended ls)),
    )

both_none : (k : ℕ) (found : ℕ × ℕ) (b : Bool) → cond b (Some (Bad k 10)) (Some (Bad found.0 found.1)) ≡ None → ⊥
both_none k found true e = cc
both_none k found false e = cc

-- where neither finds a line
pub earlier_none : (o : Option ℕ) (p : Option (ℕ × ℕ)) → earlier o p ≡ None → (o ≡ None) × (p ≡ None)
earlier_none None None e = (refl, refl)
earlier_none (Some k) None e = absurd cc
earlier_none None (Some found) e = absurd cc
earlier_none (Some k) (Some found) e = absurd (both_none k found (nat_le k found.0) e)

unless_wrong_ok : (ms ls : List Line) (o : Option ScriptFault) → second_fault ms ≡ o → unless_wrong ms o ≡ Ok ls → (ms ≡ ls) × (second_fault ls ≡ None)
unless_wrong_ok ms ls None h e = let same = done_is ms ls e in (same, subst (λ (x : List Line). second_fault x ≡ None) same h)
unless_wrong_ok ms ls (Some fault) h e = absurd cc

pub script_found : (text : List ℕ) (ls : List Line) → script_in text ≡ Ok ls → AreAccepted ls × (text ≡ spelling ls)
script_found text ls e =
    let a = and_then_ok (lines_in (pieces 10 text)) named_or_fault ls e in
    let n = unless_wrong_ok a.0 ls (second_fault a.0) refl a.2 in
    let none = earlier_none (unnamed_from (made_by ls) 2 ls) (misplaced_from (cast_of ls) none_placed 2 ls) n.1 in
    let f = lines_found (pieces 10 text) a.0 a.1 in
    let fits = subst (λ (x : List Line). FitFrom (start (version_of x)) x) n.0 f.0 in
    (record { fit = fits; named = none.0; placed = none.1 }, sym (pieces_joined text) ∙ f.1 ∙ ap spelling n.0)

lines_again : (v : Version) (ps : List (List ℕ)) (ls : List Line) → read_from (start v) 2 ps ≡ Ok ls → lines_in (first_line v ∷ ps) ≡ Ok ls
lines_again v [] ls e = absurd cc
lines_again v (p ∷ ps) ls e = ap (λ (o : Option Version). read_version o (p ∷ ps)) (version_again v) ∙ e

-- no first line has an end in it
first_cut : (v : Version) (rest : List ℕ) → pieces 10 ((first_line v ++ 10 ∷ []) ++ rest) ≡ first_line v ∷ pieces 10 rest
first_cut version.One rest = refl
first_cut version.Two rest = refl

pub script_again : (ls : List Line) → AreAccepted ls → script_in (spelling ls) ≡ Ok ls
script_again ls h =
    let v = version_of ls in
    let read : lines_in (pieces 10 (spelling ls)) ≡ Ok ls = ap lines_in (first_cut v (flat_map ended ls)) ∙ lines_again v (pieces 10 (flat_map ended ls)) ls (whole_again (start v) 2 ls h.fit) in
    let placed = misplaced_from (cast_of ls) none_placed 2 ls in
    let nothing : earlier (unnamed_from (made_by ls) 2 ls) placed ≡ None = ap (λ (o : Option ℕ). earlier o placed) h.named ∙ ap (λ (p : Option (ℕ × ℕ)). earlier None p) h.placed in
    ap (λ (r : Result (List Line) ScriptFault). and_then r named_or_fault) read ∙ ap (unless_wrong ls) nothing

-- all lines are of the version of the first
pub version_kept : (b : Before) (l : Line) → (after b l).version ≡ b.version
version_kept b (lines.Strategy s) = refl
version_kept b (lines.Queues n) = refl
version_kept b (lines.Topic name) = refl
version_kept b (lines.Publisher topic base) = refl
version_kept b (lines.Update update) = refl
version_kept b lines.Recap = refl
version_kept b (lines.Pause rounds) = refl
version_kept b lines.Client = refl
version_kept b (lines.Sub topic kind queue cache recaps) = refl
version_kept b (lines.Timer queue interval) = refl
version_kept b (lines.Inbox queue) = refl
version_kept b (lines.Fault row) = refl
version_kept b (lines.At call order) = refl
version_kept b (lines.Order order) = refl
version_kept b (lines.Now moment) = refl
version_kept b lines.NowClock = refl
version_kept b (lines.Group ids) = refl
version_kept b (lines.Watch sub timer retries) = refl
