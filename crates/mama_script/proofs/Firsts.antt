-- The line that reading tells is the first that is wrong.
use Rattle.std.proofs.Common.{◌≡◌, ◌≢◌, ℕ, suc, ◌+◌, ◌<◌, Bool, true, false, cond, leb, List, [], ◌∷◌, ◌++◌, length, map, Option, Some, None, Result, Ok, Err, refl, sym, ap, subst, ◌∙◌, inl, inr, arith}
use Rattle.std.specs.Prelude.{◌⊎◌, ◌==◌}
use Rattle.std.proofs.lemmas.Bool.{leb-true, leb-false}
use Rattle.mama_words.specs.Parting.{pieces}
use Rattle.mama_words.specs.declared.version.Version.{Version}
use Rattle.mama_script.specs.declared.fault.Flaw.{Flaw}
use Rattle.mama_script.specs.declared.fault.Flaw.TheVariants.{Fault, Limit}
use Rattle.mama_script.specs.declared.fault.ScriptFault.{ScriptFault}
use Rattle.mama_script.specs.declared.fault.ScriptFault.TheVariants.{Bad}
use Rattle.mama_script.specs.declared.line.Line.{Line}
use Rattle.mama_script.specs.Head.{may_end}
use Rattle.mama_script.specs.Line.{line_text}
use Rattle.mama_script.specs.Form.{form_in}
use Rattle.mama_script.specs.Before.{Before, start, after, flaw}
use Rattle.mama_script.specs.Names.{made_by, unnamed_from}
use Rattle.mama_script.specs.Placing.{cast_of, none_placed, misplaced_from}
use Rattle.mama_script.specs.Reading.{and_then, at_line, unless_flawed, judged, line_in, unless_faulty, line_first, read_from, first_line, version_in, read_version, version_of, lines_in, unless_wrong, earlier, named_or_fault, script_in, spelling, FitFrom}
use Rattle.mama_script.specs.First.{behind, EachFits, flaw_of, HasFlaw, IsHeadless, IsFirstFlaw, IsNoneBefore, IsNoneUpTo, IsFirstUnnamed, IsFirstMisplaced, IsFirst}
use Rattle.mama_script.proofs.Whole.{line_found, version_again, version_found, lines_found, pieces_joined}

-- what reading tells of the pieces from the line k on
record FirstFrom (b : Before) (k : ℕ) (ps : List (List ℕ)) (e : ScriptFault) : Type 0 where
  lines : List Line
  rest : List (List ℕ)
  found : Flaw
  number : e ≡ at_line (length lines + k) found
  begins : ps ≡ map line_text lines ++ rest
  fit : EachFits b lines
  has : HasFlaw (behind b lines) rest found

abbrev failed : {A : Type 0} → ScriptFault → Result A ScriptFault
failed e = Err e

failed_is : {A : Type 0} (d e : ScriptFault) → failed {A = A} d ≡ failed e → d ≡ e
failed_is d e h = cc

-- a step that failed, or the one after it
or_then : {A B : Type 0} (r : Result A ScriptFault) (f : A → Result B ScriptFault) (e : ScriptFault) → and_then r f ≡ Err e → (r ≡ Err e) ⊎ ((x : A) × (r ≡ Ok x) × (f x ≡ Err e))
or_then (Ok x) f e h = inr (x, refl, h)
or_then {A} {B} (Err d) f e h = inl (ap (λ (x : ScriptFault). failed x) (failed_is {A = B} d e h))

-- the flaw of a line that was told
record Told (b : Before) (k : ℕ) (text : List ℕ) (e : ScriptFault) : Type 0 where
  found : Flaw
  number : e ≡ at_line k found
  has : flaw_of b (form_in b.version b.place text) ≡ Some found

judged_flaw : (b : Before) (k : ℕ) (l : Line) (o : Option Flaw) (e : ScriptFault) → flaw b l ≡ o → unless_flawed k l o ≡ Err e → (found : Flaw) × (e ≡ at_line k found) × (flaw b l ≡ Some found)
judged_flaw b k l None e h u = absurd cc
judged_flaw b k l (Some f) e h u = (f, sym (failed_is {A = Line} (at_line k f) e u), h)

judged_told : (b : Before) (k : ℕ) (r : Result Line ℕ) (e : ScriptFault) → judged b k r ≡ Err e → (found : Flaw) × (e ≡ at_line k found) × (flaw_of b r ≡ Some found)
judged_told b k (Err n) e h = (Fault n, sym (failed_is {A = Line} (Bad k n) e h), refl)
judged_told b k (Ok l) e h = judged_flaw b k l (flaw b l) e refl h

end_told : (b : Before) (k : ℕ) (rest : List ℕ) (empty may : Bool) (e : ScriptFault) → unless_faulty (cond empty (cond may None (Some (Bad k 3))) (Some (Bad k 2))) ≡ Err e
    → (found : Flaw) × (e ≡ at_line k found) × (cond empty (cond may None (Some (Fault 3))) (Some (Fault 2)) ≡ Some found)
end_told b k rest true true e h = absurd cc
end_told b k rest true false e h = (Fault 3, sym (failed_is {A = List Line} (Bad k 3) e h), refl)
end_told b k rest false may e h = (Fault 2, sym (failed_is {A = List Line} (Bad k 2) e h), refl)

first_here : (b : Before) (k : ℕ) (text next : List ℕ) (more : List (List ℕ)) (e : ScriptFault) → ((found : Flaw) × (e ≡ at_line k found) × (flaw_of b (form_in b.version b.place text) ≡ Some found)) → FirstFrom b k (text ∷ next ∷ more) e
first_here b k text next more e t = record { lines = []; rest = text ∷ next ∷ more; found = t.0; number = t.1 ∙ ap (λ (n : ℕ). at_line n t.0) (omega arith); begins = refl; fit = tt; has = t.2 }

first_later : (b : Before) (k : ℕ) (text next : List ℕ) (more : List (List ℕ)) (e : ScriptFault) (l : Line) → line_in b k text ≡ Ok l → FirstFrom (after b l) (suc k) (next ∷ more) e → FirstFrom b k (text ∷ next ∷ more) e
first_later b k text next more e l read later =
    let f = line_found b k text l read in
    record {
      lines = l ∷ later.lines;
      rest = later.rest;
      found = later.found;
      number = later.number ∙ ap (λ (n : ℕ). at_line n later.found) (omega arith);
      begins = ap (λ (t : List ℕ). t ∷ next ∷ more) f.1 ∙ ap (λ (t : List (List ℕ)). line_text l ∷ t) later.begins;
      fit = (f.0, later.fit);
      has = later.has;
    }

behind_failed : (l : Line) (r : Result (List Line) ScriptFault) (e : ScriptFault) → and_then r (line_first l) ≡ Err e → r ≡ Err e
behind_failed l (Ok ls) e h = absurd cc
behind_failed l (Err d) e h = h

first_from : (b : Before) (k : ℕ) (ps : List (List ℕ)) (e : ScriptFault) → 0 < length ps → read_from b k ps ≡ Err e → FirstFrom b k ps e
first_from b k [] e some h = absurd (omega arith)
first_from b k (rest ∷ []) e some h =
    let t = end_told b k rest (length rest == 0) (may_end b.place) e h in
    record { lines = []; rest = rest ∷ []; found = t.0; number = t.1 ∙ ap (λ (n : ℕ). at_line n t.0) (omega arith); begins = refl; fit = tt; has = t.2 }
first_from b k (text ∷ next ∷ more) e some h =
    elim (or_then (line_in b k text) (λ line. and_then (read_from (after b line) (suc k) (next ∷ more)) (line_first line)) e h) [
      | inl p ↦ first_here b k text next more e (judged_told b k (form_in b.version b.place text) e p)
      | inr p ↦ first_later b k text next more e p.0 p.1 (first_from (after b p.0) (suc k) (next ∷ more) e (omega arith) (behind_failed p.0 (read_from (after b p.0) (suc k) (next ∷ more)) e p.2))
    ]

-- numbers of lines and flaws are told apart
same_at : (m n : ℕ) (f g : Flaw) → at_line m f ≡ at_line n g → (m ≡ n) × (f ≡ g)
same_at m n (Fault a) (Fault b) e = (cc, cc)
same_at m n (Fault a) (Limit b) e = absurd cc
same_at m n (Limit a) (Fault b) e = absurd cc
same_at m n (Limit a) (Limit b) e = (cc, cc)

headless : (line : ℕ) (found : Flaw) (ps : List (List ℕ)) → IsHeadless ps → failed {A = List Line} (Bad 1 1) ≡ failed (at_line line found) → (line ≡ 1) × (found ≡ Fault 1) × IsHeadless ps
headless line found ps h e =
    let same = same_at 1 line (Fault 1) found (failed_is {A = List Line} (Bad 1 1) (at_line line found) e) in
    (sym same.0, sym same.1, h)

never_said : (first : List ℕ) → version_in first ≡ None → (v : Version) → first ≢ first_line v
never_said first none v e = let t : None ≡ Some v = sym none ∙ ap version_in e ∙ version_again v in cc

first_behind : (text first next : List ℕ) (more : List (List ℕ)) (line : ℕ) (found : Flaw) (said : Option Version) → version_in first ≡ said → pieces 10 text ≡ first ∷ next ∷ more
    → read_version said (next ∷ more) ≡ Err (at_line line found) → ((line ≡ 1) × (found ≡ Fault 1) × IsHeadless (first ∷ next ∷ more)) ⊎ IsFirstFlaw text line found
first_behind text first next more line found (Some v) said cut e =
    let f = first_from (start v) 2 (next ∷ more) (at_line line found) (omega arith) e in
    let n = same_at line (length f.lines + 2) found f.found f.number in
    inr (record {
      version = v;
      lines = f.lines;
      rest = f.rest;
      text_is = cut ∙ ap (λ (t : List ℕ). t ∷ next ∷ more) (version_found first v said) ∙ ap (λ (t : List (List ℕ)). first_line v ∷ t) f.begins;
      fit = f.fit;
      number = n.0;
      has = subst (λ (g : Flaw). HasFlaw (behind (start v) f.lines) f.rest g) (sym n.1) f.has;
    })
first_behind text first next more line found None said cut e = inl (headless line found (first ∷ next ∷ more) (never_said first said) e)

first_in_lines : (text : List ℕ) (ps : List (List ℕ)) (line : ℕ) (found : Flaw) → pieces 10 text ≡ ps → lines_in ps ≡ Err (at_line line found)
    → ((line ≡ 1) × (found ≡ Fault 1) × IsHeadless ps) ⊎ IsFirstFlaw text line found
first_in_lines text [] line found cut e = inl (headless line found [] tt e)
first_in_lines text (rest ∷ []) line found cut e = inl (headless line found (rest ∷ []) tt e)
first_in_lines text (first ∷ next ∷ more) line found cut e = first_behind text first next more line found (version_in first) refl cut e

-- what the second look told
abbrev IsSecond : List ℕ → ℕ → Flaw → Type 0
IsSecond text line found = ((found ≡ Fault 10) × IsFirstUnnamed text line) ⊎ ((fault : ℕ) × (found ≡ Fault fault) × IsFirstMisplaced text line fault)

unnamed_told : (text : List ℕ) (ls : List Line) (k line : ℕ) (found : Flaw) → text ≡ spelling ls → FitFrom (start (version_of ls)) ls → unnamed_from (made_by ls) 2 ls ≡ Some k
    → IsNoneBefore k (misplaced_from (cast_of ls) none_placed 2 ls) → failed {A = List Line} (Bad k 10) ≡ failed (at_line line found) → IsSecond text line found
unnamed_told text ls k line found spelled fit o first e =
    let same = same_at k line (Fault 10) found (failed_is {A = List Line} (Bad k 10) (at_line line found) e) in
    inl (
      sym same.1,
      record {
        lines = ls;
        text_is = spelled;
        fit = fit;
        unnamed = subst (λ (n : ℕ). unnamed_from (made_by ls) 2 ls ≡ Some n) same.0 o;
        first = subst (λ (n : ℕ). IsNoneBefore n (misplaced_from (cast_of ls) none_placed 2 ls)) same.0 first;
      },
    )

misplaced_told : (text : List ℕ) (ls : List Line) (at : ℕ × ℕ) (line : ℕ) (found : Flaw) → text ≡ spelling ls → FitFrom (start (version_of ls)) ls → misplaced_from (cast_of ls) none_placed 2 ls ≡ Some at
    → IsNoneUpTo at.0 (unnamed_from (made_by ls) 2 ls) → failed {A = List Line} (Bad at.0 at.1) ≡ failed (at_line line found) → IsSecond text line found
misplaced_told text ls at line found spelled fit p first e =
    let same = same_at at.0 line (Fault at.1) found (failed_is {A = List Line} (Bad at.0 at.1) (at_line line found) e) in
    inr (
      at.1,
      sym same.1,
      record {
        lines = ls;
        text_is = spelled;
        fit = fit;
        misplaced = subst (λ (n : ℕ). misplaced_from (cast_of ls) none_placed 2 ls ≡ Some (n, at.1)) same.0 p;
        first = subst (λ (n : ℕ). IsNoneUpTo n (unnamed_from (made_by ls) 2 ls)) same.0 first;
      },
    )

-- of two lines the first, and of one line its object
which_told : (text : List ℕ) (ls : List Line) (k : ℕ) (at : ℕ × ℕ) (line : ℕ) (found : Flaw) (up : Bool) → leb k at.0 ≡ up → text ≡ spelling ls → FitFrom (start (version_of ls)) ls
    → unnamed_from (made_by ls) 2 ls ≡ Some k → misplaced_from (cast_of ls) none_placed 2 ls ≡ Some at → unless_wrong ls (cond up (Some (Bad k 10)) (Some (Bad at.0 at.1))) ≡ Err (at_line line found) → IsSecond text line found
which_told text ls k at line found true up spelled fit o p e =
    unnamed_told text ls k line found spelled fit o (subst (λ (x : Option (ℕ × ℕ)). IsNoneBefore k x) (sym p) (leb-true k at.0 up)) e
which_told text ls k at line found false up spelled fit o p e =
    misplaced_told text ls at line found spelled fit p (subst (λ (x : Option ℕ). IsNoneUpTo at.0 x) (sym o) (leb-false k at.0 up)) e

second_told : (text : List ℕ) (ls : List Line) (o : Option ℕ) (p : Option (ℕ × ℕ)) (line : ℕ) (found : Flaw) → text ≡ spelling ls → FitFrom (start (version_of ls)) ls
    → unnamed_from (made_by ls) 2 ls ≡ o → misplaced_from (cast_of ls) none_placed 2 ls ≡ p → unless_wrong ls (earlier o p) ≡ Err (at_line line found) → IsSecond text line found
second_told text ls None None line found spelled fit o p e = absurd cc
second_told text ls (Some k) None line found spelled fit o p e =
    unnamed_told text ls k line found spelled fit o (subst (λ (x : Option (ℕ × ℕ)). IsNoneBefore k x) (sym p) tt) e
second_told text ls None (Some at) line found spelled fit o p e =
    misplaced_told text ls at line found spelled fit p (subst (λ (x : Option ℕ). IsNoneUpTo at.0 x) (sym o) tt) e
second_told text ls (Some k) (Some at) line found spelled fit o p e = which_told text ls k at line found (leb k at.0) refl spelled fit o p e

widened : (text : List ℕ) (line : ℕ) (found : Flaw) → (((line ≡ 1) × (found ≡ Fault 1) × IsHeadless (pieces 10 text)) ⊎ IsFirstFlaw text line found) → IsFirst text line found
widened text line found h = elim h [ inl p ↦ inl p | inr p ↦ inr (inl p) ]

pub script_first : (text : List ℕ) (line : ℕ) (found : Flaw) → script_in text ≡ Err (at_line line found) → IsFirst text line found
script_first text line found e =
    elim (or_then (lines_in (pieces 10 text)) named_or_fault (at_line line found) e) [
      | inl p ↦ widened text line found (first_in_lines text (pieces 10 text) line found refl p)
      | inr p ↦
          let f = lines_found (pieces 10 text) p.0 p.1 in
          inr (inr (second_told text p.0 (unnamed_from (made_by p.0) 2 p.0) (misplaced_from (cast_of p.0) none_placed 2 p.0) line found (sym (pieces_joined text) ∙ f.1) f.0 refl refl p.2))
    ]
