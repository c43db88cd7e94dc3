-- Lists that come queue by queue, each put in the place of its number, are all lists in the order of their numbers.
use Rattle.std.specs.List.{AllByRecursion, flat_map, list_any}
use Rattle.std.proofs.Common.{◌≡◌, ◌⊎◌, inl, inr, ℕ, zero, suc, ◌+◌, ◌<◌, ◌≤◌, ◌==◌, Bool, true, false, ◌||◌, cond, List, [], ◌∷◌, ◌++◌, map, filter, length, get_or, refl, sym, ◌∙◌, ap, subst, arith, append-nil}
use Rattle.std.proofs.lemmas.Bool.{cases_lt}
use Rattle.std.proofs.lemmas.Grind.{common_steps}
use Rattle.std.proofs.lemmas.List.{map-append, length-map}
use Rattle.std.proofs.lemmas.List.Concat.{flat_map-append}
use Rattle.std.proofs.lemmas.List.Folds.{list_any-append}
use Rattle.mama_journal.specs.Journal.{numbers_below}
use Rattle.mama_rules_rounds.specs.Client.{Planned}
use Rattle.mama_rules_rounds.specs.Setting.{Grouped, Watched}
use Rattle.mama_rules_rounds.specs.Sections.{groups_from, watches_from}
use Rattle.mama_event.specs.declared.group.GroupRow.{GroupRow}
use Rattle.mama_event.specs.declared.watch.WatchRow.{WatchRow}
use Rattle.mama_plans.specs.Numbered.{list_put, lists_put}
use Rattle.mama_plans.proofs.EachLemmas.{numbers_len, map_numbers}

same_number : (a b : ℕ) → a ≡ b → (a == b) ≡ true
same_number a b h = grind (arith, common_steps)

other_number : (a b : ℕ) → a < b → (a == b) ≡ false
other_number a b h = grind (arith, common_steps)

is_number : (a b : ℕ) → (a == b) ≡ true → a ≡ b
is_number a b h = grind (arith, common_steps)

next_number : (a b : ℕ) → (suc a == suc b) ≡ (a == b)
next_number a b = grind (arith, common_steps)

first_number : (b : ℕ) → (suc b == 0) ≡ false
first_number b = grind (arith, common_steps)

no_number : (b : ℕ) → (0 == suc b) ≡ false
no_number b = grind (arith, common_steps)

-- ---- numbers below a count

flat_below : {X S : Type 0} (f : S → List X) (at : ℕ → S) (g : ℕ → List X) (n : ℕ) → ((k : ℕ) → k < n → f (at k) ≡ g k) → flat_map f (map at (numbers_below n)) ≡ flat_map g (numbers_below n)
flat_below f at g zero same = refl
flat_below f at g (suc n) same =
    ap (flat_map f) (map-append at (numbers_below n) (n ∷ []))
    ∙ flat_map-append f (map at (numbers_below n)) (at n ∷ [])
    ∙ ap (λ l. l ++ (f (at n) ++ [])) (flat_below f at g n (λ k small. same k (omega (arith, small))))
    ∙ ap (λ l. flat_map g (numbers_below n) ++ (l ++ [])) (same n (omega arith))
    ∙ sym (flat_map-append g (numbers_below n) (n ∷ []))

-- a list by its places, from the end
first_of : {X : Type 0} (d : X) (x : X) (xs : List X) (n : ℕ) → map (λ k. get_or (x ∷ xs) k d) (numbers_below (suc n)) ≡ x ∷ map (λ k. get_or xs k d) (numbers_below n)
first_of d x xs zero = refl
first_of d x xs (suc n) =
    map-append (λ k. get_or (x ∷ xs) k d) (numbers_below (suc n)) (suc n ∷ [])
    ∙ ap (λ l. l ++ get_or xs n d ∷ []) (first_of d x xs n)
    ∙ ap (λ l. x ∷ l) (sym (map-append (λ k. get_or xs k d) (numbers_below n) (n ∷ [])))

by_places : {X : Type 0} (d : X) (xs : List X) → map (λ k. get_or xs k d) (numbers_below (length xs)) ≡ xs
by_places d [] = refl
by_places d (x ∷ xs) = first_of d x xs (length xs) ∙ ap (λ l. x ∷ l) (by_places d xs)

-- what holds at each place
all_at : {X : Type 0} (P : X → Type 0) (d : X) (xs : List X) → ((i : ℕ) → i < length xs → P (get_or xs i d)) → AllByRecursion P xs
all_at P d [] h = tt
all_at P d (x ∷ xs) h = (h 0 (omega arith), all_at P d xs (λ i small. h (suc i) (omega (arith, small))))

any_at : {X : Type 0} (test : X → Bool) (d : X) (xs : List X) (i : ℕ) → i < length xs → test (get_or xs i d) ≡ true → list_any test xs ≡ true
any_at test d [] i small h = absurd (omega (arith, small))
any_at test d (x ∷ xs) zero small h = ap (λ b. b || list_any test xs) h
any_at test d (x ∷ xs) (suc i) small h = later (test x) (list_any test xs) (any_at test d xs i (omega (arith, small)) h)
  where
    later : (a b : Bool) → b ≡ true → (a || b) ≡ true
    later true b h = refl
    later false b h = h

-- ---- what is put in a place

-- a place with no list yet
abbrev pub no_list : {A : Type 0} → ℕ → ℕ × List A
no_list n = (n, [])

-- lists put after others
pub put_more : {A : Type 0} (xs ys lists : List (ℕ × List A)) → lists_put (xs ++ ys) lists ≡ lists_put ys (lists_put xs lists)
put_more [] ys lists = refl
put_more (x ∷ xs) ys lists = put_more xs ys (list_put x.0 x.1 lists)

-- the list that lies in a place after others were put, where this one lay there
abbrev pub put_in : {A : Type 0} → ℕ → List (ℕ × List A) → List A → List A
put_in k [] d = d
put_in k (e ∷ es) d = put_in k es (cond (e.0 == k) e.1 d)

put_last : {A : Type 0} (p : ℕ) (l : List A) (xs : List (ℕ × List A)) (n : ℕ) (v : List A)
    → list_put p l (xs ++ (n, v) ∷ []) ≡ list_put p l xs ++ (n, cond (p == length xs) l v) ∷ []
put_last zero l [] n v = refl
put_last (suc p) l [] n v = ap (λ b. (n, cond b l v) ∷ []) (sym (first_number p))
put_last zero l (x ∷ xs) n v = ap (λ b. (x.0, l) ∷ (xs ++ (n, cond b l v) ∷ [])) (sym (no_number (length xs)))
put_last (suc p) l (x ∷ xs) n v =
    ap (λ ys. x ∷ ys) (put_last p l xs n v) ∙ ap (λ b. x ∷ (list_put p l xs ++ (n, cond b l v) ∷ [])) (sym (next_number p (length xs)))

put_below : {A : Type 0} (p : ℕ) (l : List A) (f : ℕ → List A) (n : ℕ)
    → list_put p l (map (λ k. (k, f k)) (numbers_below n)) ≡ map (λ k. (k, cond (p == k) l (f k))) (numbers_below n)
put_below p l f zero = refl
put_below p l f (suc n) =
    ap (list_put p l) (map-append (λ k. (k, f k)) (numbers_below n) (n ∷ []))
    ∙ put_last p l (map (λ k. (k, f k)) (numbers_below n)) n (f n)
    ∙ ap (λ m. list_put p l (map (λ k. (k, f k)) (numbers_below n)) ++ (n, cond (p == m) l (f n)) ∷ [])
    (length-map (numbers_below n) (λ k. (k, f k)) ∙ numbers_len n)
    ∙ ap (λ xs. xs ++ (n, cond (p == n) l (f n)) ∷ []) (put_below p l f n)
    ∙ sym (map-append (λ k. (k, cond (p == k) l (f k))) (numbers_below n) (n ∷ []))

all_put : {A : Type 0} (es : List (ℕ × List A)) (f : ℕ → List A) (n : ℕ)
    → lists_put es (map (λ k. (k, f k)) (numbers_below n)) ≡ map (λ k. (k, put_in k es (f k))) (numbers_below n)
all_put [] f n = refl
all_put (e ∷ es) f n = ap (lists_put es) (put_below e.0 e.1 f n) ∙ all_put es (λ k. cond (e.0 == k) e.1 (f k)) n

-- where all lists of a number are one, that one lies there, if there is any
put_same : {A : Type 0} (k : ℕ) (v : List A) (es : List (ℕ × List A)) → AllByRecursion (λ (e : ℕ × List A). (e.0 == k) ≡ true → e.1 ≡ v) es → put_in k es v ≡ v
put_same k v [] h = refl
put_same k v (e ∷ es) h = go (e.0 == k) h.0 (put_same k v es h.1)
  where
    go : (b : Bool) → (b ≡ true → e.1 ≡ v) → put_in k es v ≡ v → put_in k es (cond b e.1 v) ≡ v
    go true same rest = ap (put_in k es) (same refl) ∙ rest
    go false same rest = rest

put_some : {A : Type 0} (k : ℕ) (v d : List A) (es : List (ℕ × List A)) → AllByRecursion (λ (e : ℕ × List A). (e.0 == k) ≡ true → e.1 ≡ v) es
    → list_any (λ (e : ℕ × List A). e.0 == k) es ≡ true → put_in k es d ≡ v
put_some k v d [] h some = cc
put_some {A} k v d (e ∷ es) h some = go (e.0 == k) h.0 some (λ any. put_some k v d es h.1 any)
  where
    go : (b : Bool) → (b ≡ true → e.1 ≡ v) → (b || list_any (λ (f : ℕ × List A). f.0 == k) es) ≡ true → (list_any (λ (f : ℕ × List A). f.0 == k) es ≡ true → put_in k es d ≡ v)
        → put_in k es (cond b e.1 d) ≡ v
    go true same any rest = ap (put_in k es) (same refl) ∙ put_same k v es h.1
    go false same any rest = rest any

-- ---- lists that come queue by queue

all_append : {X : Type 0} (P : X → Type 0) (xs ys : List X) → AllByRecursion P xs → AllByRecursion P ys → AllByRecursion P (xs ++ ys)
all_append P [] ys h k = k
all_append P (x ∷ xs) ys h k = (h.0, all_append P xs ys h.1 k)

all_flat : {X Y : Type 0} (P : Y → Type 0) (f : X → List Y) → ((x : X) → AllByRecursion P (f x)) → (xs : List X) → AllByRecursion P (flat_map f xs)
all_flat P f h [] = tt
all_flat P f h (x ∷ xs) = all_append P (f x) (flat_map f xs) (h x) (all_flat P f h xs)

all_of : {X Y : Type 0} (P : Y → Type 0) (f : X → Y) (test : X → Bool) (xs : List X) → AllByRecursion (λ x. P (f x)) xs → AllByRecursion P (map f (filter test xs))
all_of P f test [] h = tt
all_of P f test (x ∷ xs) h = go (test x) (all_of P f test xs h.1)
  where
    go : (b : Bool) → AllByRecursion P (map f (filter test xs)) → AllByRecursion P (map f (cond b (x ∷ filter test xs) (filter test xs)))
    go true rest = (h.0, rest)
    go false rest = rest

any_of : {X Y : Type 0} (is : Y → Bool) (f : X → Y) (test : X → Bool) (d : X) (xs : List X) (i : ℕ) → i < length xs → test (get_or xs i d) ≡ true → is (f (get_or xs i d)) ≡ true
    → list_any is (map f (filter test xs)) ≡ true
any_of is f test d [] i small on here = absurd (omega (arith, small))
any_of is f test d (x ∷ xs) zero small on here =
    ap (λ b. list_any is (map f (cond b (x ∷ filter test xs) (filter test xs)))) on ∙ ap (λ b. b || list_any is (map f (filter test xs))) here
any_of is f test d (x ∷ xs) (suc i) small on here = go (test x) (any_of is f test d xs i (omega (arith, small)) on here)
  where
    go : (b : Bool) → list_any is (map f (filter test xs)) ≡ true → list_any is (map f (cond b (x ∷ filter test xs) (filter test xs))) ≡ true
    go true rest = later (is (f x)) (list_any is (map f (filter test xs))) rest
      where
        later : (a b : Bool) → b ≡ true → (a || b) ≡ true
        later true b h = refl
        later false b h = h
    go false rest = rest

any_flat : {Y : Type 0} (is : Y → Bool) (f : ℕ → List Y) (n q : ℕ) → q < n → list_any is (f q) ≡ true → list_any is (flat_map f (numbers_below n)) ≡ true
any_flat is f zero q small h = absurd (omega (arith, small))
any_flat is f (suc n) q small h =
    ap (list_any is) (flat_map-append f (numbers_below n) (n ∷ []) ∙ ap (λ ys. flat_map f (numbers_below n) ++ ys) (append-nil (f n)))
    ∙ list_any-append is (flat_map f (numbers_below n)) (f n)
    ∙ go (cases_lt q n) (λ less. any_flat is f n q less h)
  where
    right : (a b : Bool) → b ≡ true → (a || b) ≡ true
    right true b k = refl
    right false b k = k

    go : ((q < n) ⊎ (n ≤ q)) → (q < n → list_any is (flat_map f (numbers_below n)) ≡ true) → (list_any is (flat_map f (numbers_below n)) || list_any is (f n)) ≡ true
    go (inl less) before = ap (λ b. b || list_any is (f n)) (before less)
    go (inr more) before =
        right (list_any is (flat_map f (numbers_below n))) (list_any is (f n)) (subst (λ k. list_any is (f k) ≡ true) (let same : q ≡ n = omega (arith, small, more) in same) h)

-- Things of so many queues, each with its number in the order of their numbers, and what is told of each. Those of no queue of
-- them have nothing to tell.
module _ {G A : Type 0} (number queue : G → ℕ) (told : G → List A) (none : G) (queues : ℕ) (gs : List G)
    (numbered : (i : ℕ) → i < length gs → number (get_or gs i none) ≡ i)
    (elsewhere : (g : G) → queues ≤ queue g → told g ≡ []) where
  abbrev pub entry : G → ℕ × List A
  entry g = (number g, told g)

  abbrev pub told_on : ℕ → List (ℕ × List A)
  told_on q = map entry (filter (λ g. queue g == q) gs)

  abbrev whole : List (ℕ × List A)
  whole = flat_map told_on (numbers_below queues)

  alike : (k : ℕ) → k < length gs → AllByRecursion (λ (e : ℕ × List A). (e.0 == k) ≡ true → e.1 ≡ told (get_or gs k none)) whole
  alike k small =
      all_flat (λ (e : ℕ × List A). (e.0 == k) ≡ true → e.1 ≡ told (get_or gs k none)) told_on
      (λ q. all_of (λ (e : ℕ × List A). (e.0 == k) ≡ true → e.1 ≡ told (get_or gs k none)) entry (λ g. queue g == q) gs
      (all_at (λ g. (number g == k) ≡ true → told g ≡ told (get_or gs k none)) none gs
      (λ i within here. ap (λ j. told (get_or gs j none)) (sym (numbered i within) ∙ is_number (number (get_or gs i none)) k here)))) (numbers_below queues)

  in_place : (k : ℕ) → k < length gs → put_in k whole [] ≡ told (get_or gs k none)
  in_place k small = go (cases_lt (queue (get_or gs k none)) queues)
    where
      go : ((queue (get_or gs k none) < queues) ⊎ (queues ≤ queue (get_or gs k none))) → put_in k whole [] ≡ told (get_or gs k none)
      go (inl there) =
          put_some k (told (get_or gs k none)) [] whole (alike k small)
          (any_flat (λ (e : ℕ × List A). e.0 == k) told_on queues (queue (get_or gs k none)) there
          (any_of (λ (e : ℕ × List A). e.0 == k) entry (λ g. queue g == queue (get_or gs k none)) none gs k small
          (same_number (queue (get_or gs k none)) (queue (get_or gs k none)) refl) (same_number (number (get_or gs k none)) k (numbered k small))))
      go (inr past) =
          let nothing : told (get_or gs k none) ≡ [] = elsewhere (get_or gs k none) past in
          ap (put_in k whole) (sym nothing) ∙ put_same k (told (get_or gs k none)) whole (alike k small)

  abbrev in_its_place : ℕ → ℕ × List A
  in_its_place k = (k, put_in k whole [])

  abbrev of_place : ℕ → ℕ × List A
  of_place k = entry (get_or gs k none)

  placed : (k : ℕ) → k < length gs → in_its_place k ≡ of_place k
  placed k small =
      ap (λ (l : List A). let e : ℕ × List A = (k, l) in e) (in_place k small) ∙ ap (λ (j : ℕ). let e : ℕ × List A = (j, told (get_or gs k none)) in e) (sym (numbered k small))

  over : (ks : List ℕ) → map of_place ks ≡ map entry (map (λ k. get_or gs k none) ks)
  over [] = refl
  over (k ∷ ks) = ap (λ l. of_place k ∷ l) (over ks)

  -- put in the places of their numbers they are all, in order
  pub put_by_number : lists_put whole (map no_list (numbers_below (length gs))) ≡ map entry gs
  put_by_number =
      all_put whole (λ n. []) (length gs)
      ∙ map_numbers in_its_place of_place (length gs) placed
      ∙ over (numbers_below (length gs))
      ∙ ap (map entry) (by_places none gs)

  -- those of one queue, by their rows
  pub told_by_rows : {R : Type 0} (row : G → R) (f : R → ℕ × List A) (q : ℕ) → ((g : G) → queue g ≡ q → f (row g) ≡ entry g)
      → map f (map row (filter (λ g. queue g == q) gs)) ≡ told_on q
  told_by_rows row f q same = each gs
    where
      each : (hs : List G) → map f (map row (filter (λ g. queue g == q) hs)) ≡ map entry (filter (λ g. queue g == q) hs)
      each [] = refl
      each (h ∷ hs) = go (queue h == q) (is_number (queue h) q) (each hs)
        where
          go : (b : Bool) → (b ≡ true → queue h ≡ q) → map f (map row (filter (λ g. queue g == q) hs)) ≡ map entry (filter (λ g. queue g == q) hs)
              → map f (map row (cond b (h ∷ filter (λ g. queue g == q) hs) (filter (λ g. queue g == q) hs))) ≡ map entry (cond b (h ∷ filter (λ g. queue g == q) hs) (filter (λ g. queue g == q) hs))
          go true on rest = ap (λ x. x ∷ map f (map row (filter (λ g. queue g == q) hs))) (same h (on refl)) ∙ ap (λ l. entry h ∷ l) rest
          go false on rest = rest

  -- those of all queues, where each queue has its own
  pub told_by_queues : {S : Type 0} (f : S → List (ℕ × List A)) (d : S) (ss : List S) → length ss ≡ queues → ((q : ℕ) → q < length ss → f (get_or ss q d) ≡ told_on q)
      → lists_put (flat_map f ss) (map no_list (numbers_below (length gs))) ≡ map entry gs
  told_by_queues f d ss count same =
      ap (λ l. lists_put l (map no_list (numbers_below (length gs))))
      (ap (flat_map f) (sym (by_places d ss)) ∙ flat_below f (λ k. get_or ss k d) told_on (length ss) same ∙ ap (λ n. flat_map told_on (numbers_below n)) count)
      ∙ put_by_number

-- ---- the groups and the watches of a script have their numbers

abbrev pub no_group : Grouped
no_group = record { number = 0; queue = 0; members = [] }

groups_counted : (objects : List Planned) (n : ℕ) (rows : List GroupRow) (i : ℕ) → i < length (groups_from objects n rows) → (get_or (groups_from objects n rows) i no_group).number ≡ n + i
groups_counted objects n [] i small = absurd (omega (arith, small))
groups_counted objects n (row ∷ rows) zero small = omega arith
groups_counted objects n (row ∷ rows) (suc i) small = let h = groups_counted objects (suc n) rows i (omega (arith, small)) in omega (arith, h)

pub groups_numbered : (objects : List Planned) (rows : List GroupRow) (i : ℕ) → i < length (groups_from objects 0 rows) → (get_or (groups_from objects 0 rows) i no_group).number ≡ i
groups_numbered objects rows i small = let h = groups_counted objects 0 rows i small in omega (arith, h)

pub groups_count : (objects : List Planned) (n : ℕ) (rows : List GroupRow) → length (groups_from objects n rows) ≡ length rows
groups_count objects n [] = refl
groups_count objects n (row ∷ rows) = ap suc (groups_count objects (suc n) rows)

abbrev pub no_watch : Watched
no_watch = record { number = 0; queue = 0; row = record { sub = record { client = 0; number = 0 }; timer = record { client = 0; number = 0 }; retries = 0; sender = 0 } }

watches_counted : (objects : List Planned) (n : ℕ) (rows : List WatchRow) (i : ℕ) → i < length (watches_from objects n rows)
    → (get_or (watches_from objects n rows) i no_watch).number ≡ n + i
watches_counted objects n [] i small = absurd (omega (arith, small))
watches_counted objects n (row ∷ rows) zero small = omega arith
watches_counted objects n (row ∷ rows) (suc i) small = let h = watches_counted objects (suc n) rows i (omega (arith, small)) in omega (arith, h)

pub watches_numbered : (objects : List Planned) (rows : List WatchRow) (i : ℕ) → i < length (watches_from objects 0 rows)
    → (get_or (watches_from objects 0 rows) i no_watch).number ≡ i
watches_numbered objects rows i small = let h = watches_counted objects 0 rows i small in omega (arith, h)

pub watches_count : (objects : List Planned) (n : ℕ) (rows : List WatchRow) → length (watches_from objects n rows) ≡ length rows
watches_count objects n [] = refl
watches_count objects n (row ∷ rows) = ap suc (watches_count objects (suc n) rows)
