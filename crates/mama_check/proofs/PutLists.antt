-- Lists of what actors put, one after another.
use Rattle.std.proofs.Common.{◌≡◌, ℕ, zero, suc, ◌+◌, ◌<◌, inl, inr, List, [], ◌∷◌, ◌++◌, length, map, get_or, refl, ap, sym, subst, ◌∙◌, arith}
use Rattle.std.specs.Prelude.{slice_index_or}
use Rattle.std.specs.List.{flat_map}
use Rattle.std.proofs.lemmas.Bool.{cases_lt}
use Rattle.std.proofs.lemmas.Grind.{flat_map-append}
use Rattle.std.proofs.lemmas.List.{map-append, get_or_append_left, get_or_push}
use Rattle.mama_rules_queue.specs.Queue.{QueuePut}
use Rattle.mama_script.specs.declared.client.ClientLine.{ClientLine}
use Rattle.mama_script.specs.declared.publisher.PublisherPart.{PublisherPart}
use Rattle.mama_rules_rounds.specs.Client.{Standing, line_steps, after_line, steps_from}
use Rattle.mama_rules_rounds.specs.Setting.{no_section}
use Rattle.mama_rules_rounds.specs.Sections.{publishers_from}
use Rattle.mama_check_order.proofs.LaneWalk.{length_last}
use Rattle.mama_check_puts.specs.Puts.{AreLists, script_of}
use Rattle.mama_check_puts.specs.Client.{lines_from}

pub lists_none : {A V : Type 0} (g : A → List V) (all : List A) (f : ℕ → List V) → all ≡ [] → AreLists (map g all) 0 f
lists_none g all f e = record { as_many = ap (λ (xs : List _). length (map g xs)) e; each = λ n h. absurd (omega (arith, h)) }

-- the list of one actor more
pub lists_push : {A V : Type 0} (g : A → List V) (all new : List A) (x : A) (n : ℕ) (f : ℕ → List V)
    → AreLists (map g all) n f → new ≡ all ++ x ∷ [] → g x ≡ f n → AreLists (map g new) (n + 1) f
lists_push {A} {V} g all new x n f so_far is last =
    let many : length (map g all) ≡ n = so_far.as_many in
    let whole : map g new ≡ map g all ++ g x ∷ [] = ap (λ (xs : List A). map g xs) is ∙ map-append g all (x ∷ []) in
    let more : length (map g all ++ g x ∷ []) ≡ suc (length (map g all)) = length_last (map g all) (g x) in
    let total : suc (length (map g all)) ≡ n + 1 = omega arith in
    record {
      as_many = ap length whole ∙ more ∙ total;
      each = λ k h. elim (cases_lt k n) [
        | inl below ↦
            let inside : k < length (map g all) = omega arith in
            ap (λ (ls : List (List V)). slice_index_or ls k []) whole ∙ get_or_append_left (map g all) (g x ∷ []) [] k inside ∙ so_far.each k below
        | inr not_below ↦
            let at : n ≡ k = omega arith in
            ap (λ (ls : List (List V)). slice_index_or ls k []) whole ∙ get_or_push (map g all) (g x) [] k (many ∙ at) ∙ last ∙ ap f at
      ];
    }

-- all actors were asked
pub lists_all : {V : Type 0} (lists : List (List V)) (n m : ℕ) (f : ℕ → List V) → n ≡ m → AreLists lists n f → AreLists lists m f
lists_all lists n m f is so_far = subst (λ (k : ℕ). AreLists lists k f) is so_far

-- the publisher of a section
pub section_at : (n : ℕ) (parts : List PublisherPart) (p : ℕ) (x : PublisherPart) → p < length parts
    → slice_index_or (publishers_from n parts) p no_section ≡ script_of (n + p) (get_or parts p x).base (get_or parts p x).lines
section_at n [] p x h = absurd (omega (arith, h))
section_at n (s ∷ rest) zero x h = let same : n ≡ n + 0 = omega arith in ap (λ (m : ℕ). script_of m s.base s.lines) same
section_at n (s ∷ rest) (suc p) x h =
    let later : p < length rest = omega arith in
    let place : suc n + p ≡ n + suc p = omega arith in
    section_at (suc n) rest p x later ∙ ap (λ (m : ℕ). script_of m (get_or rest p x).base (get_or rest p x).lines) place

pub script_at : (parts script : List PublisherPart) (number p : ℕ) (x : PublisherPart) → number ≡ p → parts ≡ script → p < length script → x ≡ get_or parts p x
    → script_of number x.base x.lines ≡ slice_index_or (publishers_from 0 script) p no_section
script_at parts script number p x numbered are within is =
    let same : number ≡ 0 + p = omega arith in
    ap (λ (m : ℕ). script_of m x.base x.lines) same
    ∙ ap (λ (y : PublisherPart). script_of (0 + p) y.base y.lines) (is ∙ ap (λ (ps : List PublisherPart). get_or ps p x) are)
    ∙ sym (section_at 0 script p x within)

-- what four values give, at equal ones
pub at_four : {A B C D E : Type 0} (f : A → B → C → D → E) (a a' : A) (b b' : B) (c c' : C) (d d' : D) → a ≡ a' → b ≡ b' → c ≡ c' → d ≡ d' → f a b c d ≡ f a' b' c' d'
at_four f a a' b b' c c' d d' e g h i =
    ap (λ (x : _). f x b c d) e ∙ ap (λ (x : _). f a' x c d) g ∙ ap (λ (x : _). f a' b' x d) h ∙ ap (λ (x : _). f a' b' c' x) i

-- what a client put by its lines is what it put by its steps
pub lines_are_steps : (queues c : ℕ) (s : Standing) (lines : List ClientLine)
    → flat_map (λ (line : List QueuePut). line) (lines_from queues c s lines) ≡ flat_map (λ (step : List QueuePut). step) (steps_from queues c s lines)
lines_are_steps queues c s [] = refl
lines_are_steps queues c s (l ∷ ls) =
    ap (λ (xs : List QueuePut). flat_map (λ (step : List QueuePut). step) (line_steps queues c s l) ++ xs) (lines_are_steps queues c (after_line s l) ls)
    ∙ sym (flat_map-append (λ (step : List QueuePut). step) (line_steps queues c s l) (steps_from queues c (after_line s l) ls))
