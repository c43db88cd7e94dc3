-- What may follow behind parts that were read.
use Rattle.std.proofs.Common.{◌≡◌, ℕ, true, false, List, [], ◌∷◌, ◌++◌, map, refl, sym, ap, subst, ◌∙◌, append_assoc, inl, inr}
use Rattle.std.specs.Prelude.{◌⊎◌}
use Rattle.std.specs.List.{flat_map, AllByRecursion}
use Rattle.mama_event.specs.declared.ids.ObjectId.{ObjectId}
use Rattle.mama_event.specs.declared.shape.Shape.{Shape}
use Rattle.mama_words.specs.declared.version.Version.{Version}
use Rattle.mama_log_line.specs.Names.{NamesData}
use Rattle.mama_log_read.specs.Part.{Part, Bare, Filled, Fits, bodies}
use Rattle.mama_log_read.specs.Reading.{Begins, GoesOn, last_part}
use Rattle.mama_log_read.specs.declared.section.Section.{Section}
use Rattle.mama_log_read.proofs.Lines.{ArePlain, plain-append}
use Rattle.mama_log_read.proofs.NoHead.{is_head, begins_head}
use Rattle.mama_log_read.proofs.Alike.{Overlap, overlap, head_or, tail_of}
use Rattle.mama_log_read.proofs.Parts.{IsNoHead, part_plain, part_no_head, part_same, part_beyond}
use Rattle.mama_log_read.proofs.Whole.{AllFit, named}

-- a part behind its first line, whatever number that tells
abbrev pub Headed : Type 0
Headed = List ℕ × Filled

abbrev pub own_lines : Shape → Headed → List (List ℕ)
own_lines shape x = x.0 ∷ bodies shape x.1.1

abbrev pub headed_lines : Shape → List Headed → List (List ℕ)
headed_lines shape xs = flat_map (own_lines shape) xs

abbrev pub filled : List Headed → List Filled
filled xs = map (λ x. x.1) xs

-- each first line begins its section
abbrev pub AreBegun : Version → List Headed → Type 0
AreBegun v xs = AllByRecursion (λ (x : Headed). Begins v x.1.0 x.0) xs

-- the line begins the first of these sections
abbrev pub BeginsFirst : Version → List Section → List ℕ → Type 0
BeginsFirst v [] l = ⊥
BeginsFirst v (h ∷ left) l = Begins v h l

-- the lines may follow behind this part, with these sections to come: none, or an entry more or the next section
abbrev pub Follows : Version → NamesData → List ObjectId → Part → List Section → List (List ℕ) → Type 0
Follows v names objects part left [] = left ≡ []
Follows v names objects part left (l ∷ ls) = GoesOn names objects part l ⊎ BeginsFirst v left l

abbrev pub section_or : Section → List Section → Section
section_or d [] = d
section_or d (x ∷ xs) = x

abbrev pub sections_tail : List Section → List Section
sections_tail [] = []
sections_tail (x ∷ xs) = xs

nothing_first : (v : Version) (names : NamesData) (objects : List ObjectId) (ws : List Headed) (left : List Section) (more : List (List ℕ)) → AreBegun v ws → named (filled ws) ≡ left → headed_lines names.shape ws ≡ more → Follows v names objects Bare left more
nothing_first v names objects [] left more b e h =
    let P : List (List ℕ) → Type 0 = λ x. Follows v names objects Bare left x in
    subst P h (sym e)
nothing_first v names objects (w ∷ ws) left more b e h =
    let P : List (List ℕ) → Type 0 = λ x. Follows v names objects Bare left x in
    let Q : List Section → Type 0 = λ x. BeginsFirst v x w.0 in
    subst P h (inr (subst Q e b.0))

widen : (v : Version) (names : NamesData) (objects : List ObjectId) (part : Part) (left : List Section) (more : List (List ℕ)) → Follows v names objects Bare left more → Follows v names objects part left more
widen v names objects part left [] h = h
widen v names objects part left (l ∷ ls) (inl h) = absurd h
widen v names objects part left (l ∷ ls) (inr h) = inr h

-- a line in the middle of such lines is one of them
mid_line : (P : List ℕ → Type 0) (xs : List (List ℕ)) (z : List ℕ) (zs ls : List (List ℕ)) → AllByRecursion P ls → ls ≡ xs ++ z ∷ zs → P z
mid_line P xs z zs ls h e = let Q : List (List ℕ) → Type 0 = λ t. AllByRecursion P t in at xs (subst Q e h)
  where
    at : (xs : List (List ℕ)) → AllByRecursion P (xs ++ z ∷ zs) → P z
    at [] k = k.0
    at (x ∷ xs) k = at xs k.1

-- a line of an entry does not stand at the head of sections
no_head_there : (v : Version) (names : NamesData) (z : List ℕ) (zs : List (List ℕ)) (fs : List Headed) → AreBegun v fs → IsNoHead z → z ∷ zs ≡ headed_lines names.shape fs → ⊥
no_head_there v names z zs [] b h e = absurd cc
no_head_there v names z zs (f ∷ fs) b h e = let k : false ≡ true = sym h ∙ ap is_head (ap (head_or []) e) ∙ begins_head v f.1.0 f.0 b.0 in cc

step : (names : NamesData) (f w : Headed) (fs ws : List Headed) (more : List (List ℕ)) → headed_lines names.shape (w ∷ ws) ≡ headed_lines names.shape (f ∷ fs) ++ more
    → bodies names.shape w.1.1 ++ headed_lines names.shape ws ≡ bodies names.shape f.1.1 ++ (headed_lines names.shape fs ++ more)
step names f w fs ws more e = ap tail_of e ∙ append_assoc (bodies names.shape f.1.1) (headed_lines names.shape fs) more

fits_here : (names : NamesData) (objects : List ObjectId) (f w : Filled) → f.0 ≡ w.0 → Fits names objects w.0 w.1 → Fits names objects f.0 w.1
fits_here names objects f w e h = let P : Section → Type 0 = λ x. Fits names objects x w.1 in subst P (sym e) h

-- behind parts that fit, the lines of a log that begins with them go on so
pub follows : (v : Version) (names : NamesData) (objects : List ObjectId) (fs ws : List Headed) (left : List Section) (more : List (List ℕ)) → AllFit names objects (filled fs) → AllFit names objects (filled ws) → AreBegun v fs → AreBegun v ws
    → named (filled ws) ≡ named (filled fs) ++ left → headed_lines names.shape ws ≡ headed_lines names.shape fs ++ more → Follows v names objects (last_part (filled fs)) left more
follows v names objects [] ws left more h k bf bw e lines = nothing_first v names objects ws left more bw e lines
follows v names objects (f ∷ fs) [] left more h k bf bw e lines = absurd cc
follows v names objects (f ∷ []) (w ∷ ws) left more h k bf bw e lines =
    by (overlap (bodies names.shape w.1.1) (headed_lines names.shape ws) (bodies names.shape f.1.1) more (step names f w [] ws more lines))
  where
    section : f.1.0 ≡ w.1.0
    section = sym (ap (section_or f.1.0) e)

    by : Overlap (bodies names.shape w.1.1) (headed_lines names.shape ws) (bodies names.shape f.1.1) more → Follows v names objects f.1.1 left more
    by (inl p) = widen v names objects f.1.1 left more (nothing_first v names objects ws left more bw.1 (ap sections_tail e) p.1)
    by (inr (inl p)) =
        let P : List (List ℕ) → Type 0 = λ x. Follows v names objects f.1.1 left x in
        subst P p.1.2 (inl (part_beyond names objects f.1.0 f.1.1 w.1.1 p.0 p.1.0 h.0 (fits_here names objects f.1 w.1 section k.0) p.1.1))
    by (inr (inr p)) = absurd (no_head_there v names p.0 (p.1.0 ++ more) ws bw.1 (mid_line IsNoHead (bodies names.shape w.1.1) p.0 p.1.0 (bodies names.shape f.1.1) (part_no_head names objects f.1.0 f.1.1 h.0) p.1.1) p.1.2)
follows v names objects (f ∷ g ∷ fs) (w ∷ ws) left more h k bf bw e lines =
    by (λ rest. follows v names objects (g ∷ fs) ws left more h.1 k.1 bf.1 bw.1 (ap sections_tail e) rest)
    (overlap (bodies names.shape w.1.1) (headed_lines names.shape ws) (bodies names.shape f.1.1) (headed_lines names.shape (g ∷ fs) ++ more) (step names f w (g ∷ fs) ws more lines))
  where
    by : (headed_lines names.shape ws ≡ headed_lines names.shape (g ∷ fs) ++ more → Follows v names objects (last_part (filled (g ∷ fs))) left more)
        → Overlap (bodies names.shape w.1.1) (headed_lines names.shape ws) (bodies names.shape f.1.1) (headed_lines names.shape (g ∷ fs) ++ more) → Follows v names objects (last_part (filled (g ∷ fs))) left more
    by later (inl p) = later p.1
    by later (inr (inl p)) =
        let plainly : IsNoHead p.0 = mid_line IsNoHead (bodies names.shape f.1.1) p.0 p.1.0 (bodies names.shape w.1.1) (part_no_head names objects w.1.0 w.1.1 k.0) p.1.1 in
        let bad : false ≡ true = sym plainly ∙ ap is_head (ap (head_or []) p.1.2) ∙ begins_head v g.1.0 g.0 bf.1.0 in
        absurd cc
    by later (inr (inr p)) =
        absurd (no_head_there v names p.0 (p.1.0 ++ (headed_lines names.shape (g ∷ fs) ++ more)) ws bw.1 (mid_line IsNoHead (bodies names.shape w.1.1) p.0 p.1.0 (bodies names.shape f.1.1) (part_no_head names objects f.1.0 f.1.1 h.0) p.1.1) p.1.2)

filled_same : (f w : Filled) → f.0 ≡ w.0 → f.1 ≡ w.1 → f ≡ w
filled_same f w e d = ap (λ (x : Section). let g : Filled = (x, f.1) in g) e ∙ ap (λ (x : Part). let g : Filled = (w.0, x) in g) d

-- parts that fit the same sections and have the same lines are the same
pub same_parts : (v : Version) (names : NamesData) (objects : List ObjectId) (fs ws : List Headed) → AllFit names objects (filled fs) → AllFit names objects (filled ws) → AreBegun v fs → AreBegun v ws → named (filled fs) ≡ named (filled ws)
    → headed_lines names.shape fs ≡ headed_lines names.shape ws → filled fs ≡ filled ws
same_parts v names objects [] [] h k bf bw e lines = refl
same_parts v names objects [] (w ∷ ws) h k bf bw e lines = absurd cc
same_parts v names objects (f ∷ fs) [] h k bf bw e lines = absurd cc
same_parts v names objects (f ∷ fs) (w ∷ ws) h k bf bw e lines =
    by (λ rest. same_parts v names objects fs ws h.1 k.1 bf.1 bw.1 (ap sections_tail e) rest)
    (overlap (bodies names.shape w.1.1) (headed_lines names.shape ws) (bodies names.shape f.1.1) (headed_lines names.shape fs) (sym (ap tail_of lines)))
  where
    section : f.1.0 ≡ w.1.0
    section = ap (section_or f.1.0) e

    by : (headed_lines names.shape fs ≡ headed_lines names.shape ws → filled fs ≡ filled ws) → Overlap (bodies names.shape w.1.1) (headed_lines names.shape ws) (bodies names.shape f.1.1) (headed_lines names.shape fs) → filled (f ∷ fs) ≡ filled (w ∷ ws)
    by later (inl p) =
        let one = filled_same f.1 w.1 section (part_same names objects f.1.0 f.1.1 w.1.1 h.0 (fits_here names objects f.1 w.1 section k.0) (sym p.0)) in
        ap (λ (x : Filled). x ∷ filled fs) one ∙ ap (λ (xs : List Filled). w.1 ∷ xs) (later (sym p.1))
    by later (inr (inl p)) = absurd (no_head_there v names p.0 (p.1.0 ++ headed_lines names.shape ws) fs bf.1 (mid_line IsNoHead (bodies names.shape f.1.1) p.0 p.1.0 (bodies names.shape w.1.1) (part_no_head names objects w.1.0 w.1.1 k.0) p.1.1) p.1.2)
    by later (inr (inr p)) = absurd (no_head_there v names p.0 (p.1.0 ++ headed_lines names.shape fs) ws bw.1 (mid_line IsNoHead (bodies names.shape w.1.1) p.0 p.1.0 (bodies names.shape f.1.1) (part_no_head names objects f.1.0 f.1.1 h.0) p.1.1) p.1.2)

-- the lines of parts that fit are lines, where their first lines are
pub parts_plain : (names : NamesData) (objects : List ObjectId) (fs : List Headed) → AllFit names objects (filled fs) → ArePlain (map (λ (x : Headed). x.0) fs) → ArePlain (headed_lines names.shape fs)
parts_plain names objects [] h k = tt
parts_plain names objects (f ∷ fs) h k = (k.0, plain-append (bodies names.shape f.1.1) (headed_lines names.shape fs) (part_plain names objects f.1.0 f.1.1 h.0) (parts_plain names objects fs h.1 k.1))
