-- The table of the first publisher of each topic, with one publisher more.
use Rattle.std.proofs.Common.{◌≡◌, ℕ, zero, suc, ◌+◌, ◌<◌, Bool, true, false, eqb, cond, List, [], ◌∷◌, ◌++◌, length, map, set, take, get_or, replicate, refl, sym, ap, subst, ◌∙◌, length-append, arith}
use Rattle.std.specs.List.{AllByRecursion}
use Rattle.std.proofs.lemmas.Bool.{eqb-true, eqb-false, ne_eqb, eq-eqb}
use Rattle.std.proofs.lemmas.List.{length-map, length-set, map-append, get_or-map, get_or_append_left, get_or_push, get_or-set_same, get_or-set_other, length-replicate, get_or-replicate, same_lists, take_more}
use Rattle.mama_journal.specs.Journal.{numbers_below}
use Rattle.mama_script.specs.declared.publisher.PublisherPart.{PublisherPart}
use Rattle.mama_script.specs.Tree.{topic_of_part, first_sender}
use Rattle.mama_script.specs.Taken.{with_sender}

-- ---- the first sender of a topic, with one publisher more

more_step : (here : Bool) (n f g v : ℕ) → 0 < n → g ≡ cond (eqb f 0) v f → cond here n g ≡ cond (eqb (cond here n f) 0) v (cond here n f)
more_step true n f g v pos e = let some : eqb n 0 ≡ false = ne_eqb n 0 (λ z. omega (arith, z, pos)) in rw some refl
more_step false n f g v pos e = e

first_more : (t n m : ℕ) (ts : List ℕ) (x : ℕ) → 0 < n → m ≡ n + length ts → first_sender t n (ts ++ x ∷ []) ≡ cond (eqb (first_sender t n ts) 0) (cond (eqb x t) m 0) (first_sender t n ts)
first_more t n m [] x pos e = let same : n ≡ m = omega (arith, e) in ap (λ (k : ℕ). cond (eqb x t) k 0) same
first_more t n m (y ∷ ts) x pos e =
    let rest = first_more t (suc n) m ts x (omega arith) (omega (arith, e)) in
    more_step (eqb y t) n (first_sender t (suc n) ts) (first_sender t (suc n) (ts ++ x ∷ [])) (cond (eqb x t) m 0) pos rest

-- ---- the table

abbrev firsts : ℕ → List ℕ → List ℕ
firsts n ts = map (λ t. first_sender t 1 ts) (numbers_below n)

numbers_len : (n : ℕ) → length (numbers_below n) ≡ n
numbers_len zero = refl
numbers_len (suc n) = let more = length-append (numbers_below n) (n ∷ []) in let less = numbers_len n in omega (arith, more, less)

last_number : (n k d : ℕ) (same : Bool) → eqb k n ≡ same → k < suc n → (k < n → get_or (numbers_below n) k d ≡ k) → get_or (numbers_below n ++ n ∷ []) k d ≡ k
last_number n k d true e small below =
    let is : k ≡ n = eqb-true k n e in
    let len = numbers_len n in
    get_or_push (numbers_below n) n d k (omega (arith, len, is)) ∙ sym is
last_number n k d false e small below =
    let apart : k ≡ n → ⊥ = eqb-false k n e in
    let len = numbers_len n in
    let less : k < n = omega (arith, small, apart) in
    get_or_append_left (numbers_below n) (n ∷ []) d k (omega (arith, len, less)) ∙ below less

numbers_at : (n k d : ℕ) → k < n → get_or (numbers_below n) k d ≡ k
numbers_at zero k d small = absurd (omega arith)
numbers_at (suc n) k d small = last_number n k d (eqb k n) refl small (λ less. numbers_at n k d less)

at : (f : ℕ → ℕ) (n k d : ℕ) → k < n → get_or (map f (numbers_below n)) k d ≡ f k
at f n k d small = let len = numbers_len n in get_or-map f (numbers_below n) k 0 d (omega (arith, len, small)) ∙ ap f (numbers_at n k 0 small)

mapped_len : (f : ℕ → ℕ) (n : ℕ) → length (map f (numbers_below n)) ≡ n
mapped_len f n = length-map (numbers_below n) f ∙ numbers_len n

-- the topic had none
set_at : (f g : ℕ → ℕ) (n x m : ℕ) → f x ≡ m → ((t : ℕ) → (t ≡ x → ⊥) → f t ≡ g t) → x < n → set (map g (numbers_below n)) x m ≡ map f (numbers_below n)
set_at f g n x m here other small =
    same_lists (set old x m) (map f (numbers_below n)) lens each
  where
    old : List ℕ
    old = map g (numbers_below n)

    lens : length (set old x m) ≡ length (map f (numbers_below n))
    lens = length-set old x m ∙ mapped_len g n ∙ sym (mapped_len f n)

    by : (k d : ℕ) (same : Bool) → eqb k x ≡ same → k < n → get_or (set old x m) k d ≡ get_or (map f (numbers_below n)) k d
    by k d true e lt =
        let is : k ≡ x = eqb-true k x e in
        let len = mapped_len g n in
        ap (λ (i : ℕ). get_or (set old x m) i d) is ∙ get_or-set_same old x m d (omega (arith, len, small)) ∙ sym here ∙ ap f (sym is) ∙ sym (at f n k d lt)
    by k d false e lt =
        let apart : k ≡ x → ⊥ = eqb-false k x e in
        get_or-set_other old x k m d apart ∙ at g n k d lt ∙ sym (other k apart) ∙ sym (at f n k d lt)

    each : (k d : ℕ) → k < length (set old x m) → get_or (set old x m) k d ≡ get_or (map f (numbers_below n)) k d
    each k d lt = let len = length-set old x m in let many = mapped_len g n in by k d (eqb k x) refl (omega (arith, len, many, lt))

map_same : (f g : ℕ → ℕ) (xs : List ℕ) → ((x : ℕ) → f x ≡ g x) → map f xs ≡ map g xs
map_same f g [] same = refl
map_same f g (x ∷ xs) same = ap (λ (y : ℕ). y ∷ map f xs) (same x) ∙ ap (λ (ys : List ℕ). g x ∷ ys) (map_same f g xs same)

kept_by : (f : ℕ) (none : Bool) → eqb f 0 ≡ none → cond none 0 f ≡ f
kept_by f true e = sym (eqb-true f 0 e)
kept_by f false e = refl

keep_cond : (f : ℕ) → cond (eqb f 0) 0 f ≡ f
keep_cond f = kept_by f (eqb f 0) refl

-- a topic that is another, or has a sender, keeps its own
kept_other : (t m : ℕ) (ts : List ℕ) (x : ℕ) → m ≡ 1 + length ts → (t ≡ x → ⊥) → first_sender t 1 (ts ++ x ∷ []) ≡ first_sender t 1 ts
kept_other t m ts x e apart =
    let other : eqb x t ≡ false = ne_eqb x t (λ z. apart (sym z)) in
    first_more t 1 m ts x (omega arith) e ∙ ap (λ (b : Bool). cond (eqb (first_sender t 1 ts) 0) (cond b m 0) (first_sender t 1 ts)) other ∙ keep_cond (first_sender t 1 ts)

table_step : (n m : ℕ) (ts : List ℕ) (x : ℕ) (none : Bool) → x < n → m ≡ 1 + length ts → eqb (first_sender x 1 ts) 0 ≡ none
    → cond none (set (firsts n ts) x m) (firsts n ts) ≡ firsts n (ts ++ x ∷ [])
table_step n m ts x true small e none =
    let own : eqb x x ≡ true = eq-eqb x x refl in
    let here : first_sender x 1 (ts ++ x ∷ []) ≡ m =
    first_more x 1 m ts x (omega arith) e ∙ ap (λ (b : Bool). cond b (cond (eqb x x) m 0) (first_sender x 1 ts)) none ∙ ap (λ (b : Bool). cond b m 0) own in
    set_at (λ t. first_sender t 1 (ts ++ x ∷ [])) (λ t. first_sender t 1 ts) n x m here (λ t apart. kept_other t m ts x e apart) small
table_step n m ts x false small e some = map_same (λ t. first_sender t 1 ts) (λ t. first_sender t 1 (ts ++ x ∷ [])) (numbers_below n) (λ t. sym (by t (eqb t x) refl))
  where
    by : (t : ℕ) (same : Bool) → eqb t x ≡ same → first_sender t 1 (ts ++ x ∷ []) ≡ first_sender t 1 ts
    by t true q =
        let is : t ≡ x = eqb-true t x q in
        let has : eqb (first_sender t 1 ts) 0 ≡ false = ap (λ (k : ℕ). eqb (first_sender k 1 ts) 0) is ∙ some in
        first_more t 1 m ts x (omega arith) e ∙ ap (λ (b : Bool). cond b (cond (eqb x t) m 0) (first_sender t 1 ts)) has
    by t false q = kept_other t m ts x e (eqb-false t x q)

table_more : (n m : ℕ) (ts : List ℕ) (x : ℕ) → x < n → m ≡ 1 + length ts → with_sender x m (firsts n ts) ≡ firsts n (ts ++ x ∷ [])
table_more n m ts x small e =
    let is : get_or (firsts n ts) x 0 ≡ first_sender x 1 ts = at (λ t. first_sender t 1 ts) n x 0 small in
    ap (λ (k : ℕ). cond (eqb k 0) (set (firsts n ts) x m) (firsts n ts)) is ∙ table_step n m ts x (eqb (first_sender x 1 ts) 0) small e refl

-- the publisher of this number was noted
pub sender_noted : (n i m topic : ℕ) (ps : List PublisherPart) (p : PublisherPart) (old new : List ℕ) → i < length ps → p ≡ get_or ps i p → topic ≡ p.topic → topic < n → m ≡ i + 1
    → old ≡ map (λ t. first_sender t 1 (map topic_of_part (take i ps))) (numbers_below n) → new ≡ with_sender topic m old
    → new ≡ map (λ t. first_sender t 1 (map topic_of_part (take (i + 1) ps))) (numbers_below n)
sender_noted n i m topic ps p old new lt is of small number so_far noted =
    let front = take i ps in
    let more : take (i + 1) ps ≡ front ++ p ∷ [] = take_more ps i p lt ∙ ap (λ (x : PublisherPart). front ++ x ∷ []) (sym is) in
    let topics : map topic_of_part (take (i + 1) ps) ≡ map topic_of_part front ++ topic ∷ [] =
    ap (map topic_of_part) more ∙ map-append topic_of_part front (p ∷ []) ∙ ap (λ (x : ℕ). map topic_of_part front ++ x ∷ []) (sym of) in
    let len : length (map topic_of_part front) ≡ i = length-map front topic_of_part ∙ front_len ps i lt in
    noted ∙ ap (with_sender topic m) so_far ∙ table_more n m (map topic_of_part front) topic small (omega (arith, number, len)) ∙ ap (firsts n) (sym topics)
  where
    front_len : {A : Type 0} (xs : List A) (i : ℕ) → i < length xs → length (take i xs) ≡ i
    front_len [] i lt = absurd (omega arith)
    front_len (x ∷ xs) zero lt = refl
    front_len (x ∷ xs) (suc i) lt = ap (λ (k : ℕ). suc k) (front_len xs i (omega arith))

-- a publisher's topic is one of those that there are
pub part_small : (n i : ℕ) (ps : List PublisherPart) (p : PublisherPart) → i < length ps → p ≡ get_or ps i p → AllByRecursion (λ (part : PublisherPart). part.topic < n) ps → p.topic < n
part_small n i [] p lt is h = absurd (omega arith)
part_small n zero (x ∷ ps) p lt is h = subst (λ (q : PublisherPart). q.topic < n) (sym is) h.0
part_small n (suc i) (x ∷ ps) p lt is h = part_small n i ps p (omega arith) is h.1

-- before the first publisher
no_firsts : (n : ℕ) (first : List ℕ) → length first ≡ n → ((k d : ℕ) → k < n → get_or first k d ≡ 0) → first ≡ map (λ t. first_sender t 1 []) (numbers_below n)
no_firsts n first len zeros =
    same_lists first (map (λ t. first_sender t 1 []) (numbers_below n)) (len ∙ sym (mapped_len (λ t. first_sender t 1 []) n))
    (λ k d lt. let small : k < n = omega (arith, len, lt) in zeros k d small ∙ sym (at (λ t. first_sender t 1 []) n k d small))

pub no_first : (n : ℕ) (first : List ℕ) → first ≡ replicate n 0 → first ≡ map (λ t. first_sender t 1 []) (numbers_below n)
no_first n first is =
    let len : length first ≡ n = ap (λ (xs : List ℕ). length xs) is ∙ length-replicate n 0 in
    no_firsts n first len (λ k d small. ap (λ (xs : List ℕ). get_or xs k d) is ∙ get_or-replicate n k 0 d small)

pub firsts_len : (n : ℕ) (ts first : List ℕ) → first ≡ map (λ t. first_sender t 1 ts) (numbers_below n) → length first ≡ n
firsts_len n ts first is = ap (λ (xs : List ℕ). length xs) is ∙ mapped_len (λ t. first_sender t 1 ts) n
