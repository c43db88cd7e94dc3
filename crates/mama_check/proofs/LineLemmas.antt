-- Where a walk over clients or publishers stands.
use Rattle.std.proofs.Common.{◌≡◌, ℕ, zero, suc, ◌<◌, List, [], ◌∷◌, length, map, get_or, refl, ap, sym, subst, ◌∙◌, arith}
use Rattle.std.specs.Prelude.{slice_index_or}
use Rattle.std.specs.List.{flat_map}
use Rattle.std.specs.Global.{Vec}
use Rattle.std.proofs.lemmas.List.{get_or-map, length-map}
use Rattle.mama_script.specs.declared.publisher.PublisherPart.{PublisherPart}
use Rattle.mama_check_puts.specs.Puts.{AreLists}
use Rattle.mama_rules_rounds.specs.Setting.{no_section}
use Rattle.mama_rules_rounds.specs.Sections.{sends_in, publishers_from}

-- an item that is there does not depend on what stands for one that is not
pub any_default : {X : Type 0} (xs : List X) (i : ℕ) (d e : X) → i < length xs → get_or xs i d ≡ get_or xs i e
any_default [] i d e h = absurd (omega (arith, h))
any_default (x ∷ xs) zero d e h = refl
any_default (x ∷ xs) (suc i) d e h = let later : i < length xs = omega arith in any_default xs i d e later

-- the lines that a publisher sends
pub lines_at : (n : ℕ) (parts : List PublisherPart) (p : ℕ) (x : PublisherPart) → p < length parts
    → (slice_index_or (publishers_from n parts) p no_section).lines ≡ flat_map sends_in (get_or parts p x).lines
lines_at n [] p x h = absurd (omega (arith, h))
lines_at n (s ∷ rest) zero x h = refl
lines_at n (s ∷ rest) (suc p) x h = let later : p < length rest = omega arith in lines_at (suc n) rest p x later

pub sends_at : (parts script : List PublisherPart) (p : ℕ) (x : PublisherPart) → parts ≡ script → p < length script → x ≡ get_or parts p x
    → length (flat_map sends_in x.lines) ≡ length (slice_index_or (publishers_from 0 script) p no_section).lines
sends_at parts script p x are within is =
    ap (λ (y : PublisherPart). length (flat_map sends_in y.lines)) (is ∙ ap (λ (ps : List PublisherPart). get_or ps p x) are) ∙ ap length (sym (lines_at 0 script p x within))

-- the list behind a vector of a list of vectors that is known
pub items_at : {X : Type 0} (vs : List (Vec X)) (lists : List (List X)) (i : ℕ) (v : Vec X) → map (λ (w : Vec X). w.items) vs ≡ lists → i < length lists → v ≡ get_or vs i v
    → v.items ≡ slice_index_or lists i []
items_at {X} vs lists i v are within is =
    let inside : i < length vs = subst (λ (n : ℕ). i < n) (ap length (sym are) ∙ length-map vs (λ (w : Vec X). w.items)) within in
    ap (λ (w : Vec X). w.items) is ∙ sym (get_or-map (λ (w : Vec X). w.items) vs i v [] inside) ∙ ap (λ (ls : List (List X)). slice_index_or ls i []) are

-- one of many lists, where they are known
pub list_known : {X : Type 0} (vs : List (Vec X)) (lists : List (List X)) (k : ℕ) (list : List X) → map (λ (v : Vec X). v.items) vs ≡ lists
    → list ≡ slice_index_or (map (λ (v : Vec X). v.items) vs) k [] → list ≡ slice_index_or lists k []
list_known {X} vs lists k list are is = is ∙ ap (λ (ls : List (List X)). slice_index_or ls k []) are

pub list_is : {X : Type 0} (vs known : List (Vec X)) (f : ℕ → List X) (n k : ℕ) (list : List X) → vs ≡ known → AreLists (map (λ (v : Vec X). v.items) known) n f → k < n
    → list ≡ slice_index_or (map (λ (v : Vec X). v.items) vs) k [] → list ≡ f k
list_is {X} vs known f n k list same are within is =
    is ∙ ap (λ (ws : List (Vec X)). slice_index_or (map (λ (v : Vec X). v.items) ws) k []) same ∙ are.each k within

-- a fact of two values, at equal ones
pub carried : {A B : Type 0} (P : A → B → Type 0) (a a' : A) (b b' : B) → a ≡ a' → b ≡ b' → P a b → P a' b'
carried P a a' b b' e f h = subst (λ (x : _). P x b') e (subst (λ (y : _). P a y) f h)
