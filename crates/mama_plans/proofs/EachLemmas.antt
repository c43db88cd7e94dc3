-- The groups and the watches of each of some queues, one of all of them after another.
use Rattle.std.specs.Prelude.{if◌then◌else◌}
use Rattle.std.proofs.Common.{◌≡◌, ◌≢◌, ◌⊎◌, ⊎_elim, ℕ, zero, suc, ◌+◌, ◌<◌, ◌≤◌, Bool, true, false, ◌==◌, List, [], ◌∷◌, ◌++◌, map, filter, length, get_or, set, take, refl, ap, sym, ◌∙◌, arith, add-one, eq-eqb, ne_eqb, eq-or-lt_of_le}
use Rattle.std.specs.Global.{Vec}
use Rattle.std.proofs.lemmas.Bool.{cases_lt}
use Rattle.std.proofs.lemmas.List.{append-nil, length-map, length_push, length-take-le, map-append, map_push, map-set, set_at, set-append_left, set_past, take_more, get_or-map, get_or_append_left, get_or_at}
use Rattle.std.proofs.lemmas.List.Elements.{filter-append}
use Rattle.mama_journal.specs.Journal.{numbers_below}
use Rattle.mama_event.specs.declared.group.GroupRow.{GroupRow}
use Rattle.mama_event.specs.declared.watch.WatchRow.{WatchRow}
use Rattle.mama_event.specs.declared.ids.ObjectId.TheVariants.{Timer}
use Rattle.mama_rules_rounds.specs.Client.{Planned}
use Rattle.mama_rules_rounds.specs.Setting.{Grouped, Watched}
use Rattle.mama_rules_rounds.specs.Sections.{queue_of, queue_of_members, groups_from, watches_from}
use Rattle.mama_plans.specs.Numbered.{numbered, list_put}

-- NUMBERS IN ORDER

last_or_below : (q n : ℕ) → q < suc n → (q ≡ n) ⊎ (q < n)
last_or_below q n within = eq-or-lt_of_le (omega (arith, within))

pub numbers_len : (n : ℕ) → length (numbers_below n) ≡ n
numbers_len zero = refl
numbers_len (suc n) = length_push (numbers_below n) n ∙ omega (arith, numbers_len n)

pub number_at : (n q d : ℕ) → q < n → get_or (numbers_below n) q d ≡ q
number_at zero q d within = absurd (omega (arith, within))
number_at (suc n) q d within =
    ⊎_elim
    (λ (same : q ≡ n). ap (λ (k : ℕ). get_or (numbers_below n ++ n ∷ []) k d) same ∙ get_or_at (numbers_below n) n [] d n (numbers_len n) ∙ sym same)
    (λ (below : q < n). get_or_append_left (numbers_below n) (n ∷ []) d q (omega (arith, below, numbers_len n)) ∙ number_at n q d below)
    (last_or_below q n within)

-- two functions that agree below a number
pub map_numbers : {Y : Type 0} (f g : ℕ → Y) (n : ℕ) → ((k : ℕ) → k < n → f k ≡ g k) → map f (numbers_below n) ≡ map g (numbers_below n)
map_numbers f g zero same = refl
map_numbers f g (suc n) same =
    map-append f (numbers_below n) (n ∷ [])
    ∙ ap (λ ys. ys ++ f n ∷ []) (map_numbers f g n (λ k below. same k (omega (arith, below))))
    ∙ ap (λ y. map g (numbers_below n) ++ y ∷ []) (same n (omega arith))
    ∙ sym (map-append g (numbers_below n) (n ∷ []))

-- two functions that agree below a number but at one place
pub set_numbers : {Y : Type 0} (f g : ℕ → Y) (n q : ℕ) (y : Y) → q < n → y ≡ g q → ((k : ℕ) → k ≢ q → f k ≡ g k) → set (map f (numbers_below n)) q y ≡ map g (numbers_below n)
set_numbers f g zero q y within here others = absurd (omega (arith, within))
set_numbers {Y} f g (suc n) q y within here others =
    let fs : List Y = map f (numbers_below n) in
    let gs : List Y = map g (numbers_below n) in
    let len : length fs ≡ n = length-map (numbers_below n) f ∙ numbers_len n in
    ap (λ ys. set ys q y) (map-append f (numbers_below n) (n ∷ []))
    ∙ ⊎_elim
    (λ (same : q ≡ n).
    ap (λ (k : ℕ). set (fs ++ f n ∷ []) k y) same
    ∙ set_at fs (f n) [] y n len
    ∙ ap (λ ys. ys ++ y ∷ []) (map_numbers f g n (λ k below. others k (λ e. omega (arith, e, below, same))))
    ∙ ap (λ z. gs ++ z ∷ []) (here ∙ ap g same))
    (λ (below : q < n).
    set-append_left fs (f n ∷ []) q y (omega (arith, below, len))
    ∙ ap (λ ys. ys ++ f n ∷ []) (set_numbers f g n q y below here others)
    ∙ ap (λ z. gs ++ z ∷ []) (others n (λ e. omega (arith, e, below))))
    (last_or_below q n within)
    ∙ sym (map-append g (numbers_below n) (n ∷ []))

-- WHAT EACH QUEUE HAS

abbrev pub on : {G R : Type 0} → (G → ℕ) → (G → R) → List G → ℕ → List R
on queue row gs k = map row (filter (λ g. queue g == k) gs)

abbrev pub on_each : {G R : Type 0} → (G → ℕ) → (G → R) → List G → ℕ → List (List R)
on_each queue row gs n = map (on queue row gs) (numbers_below n)

on_push : {G R : Type 0} (queue : G → ℕ) (row : G → R) (gs : List G) (g : G) (k : ℕ) → on queue row (gs ++ g ∷ []) k ≡ on queue row gs k ++ map row (if queue g == k then g ∷ [] else [])
on_push queue row gs g k =
    ap (map row) (filter-append (λ x. queue x == k) gs (g ∷ [])) ∙ map-append row (filter (λ x. queue x == k) gs) (if queue g == k then g ∷ [] else [])

on_same : {G R : Type 0} (queue : G → ℕ) (row : G → R) (gs : List G) (g : G) (k : ℕ) → (queue g == k) ≡ true → on queue row (gs ++ g ∷ []) k ≡ on queue row gs k ++ row g ∷ []
on_same {G} queue row gs g k same = on_push queue row gs g k ∙ ap (λ (b : Bool). on queue row gs k ++ map row (if b then g ∷ [] else [])) same

on_other : {G R : Type 0} (queue : G → ℕ) (row : G → R) (gs : List G) (g : G) (k : ℕ) → (queue g == k) ≡ false → on queue row (gs ++ g ∷ []) k ≡ on queue row gs k
on_other queue row gs g k other =
    on_push queue row gs g k ∙ ap (λ (b : Bool). on queue row gs k ++ map row (if b then g ∷ [] else [])) other ∙ append-nil (on queue row gs k)

-- one more on a queue that is there
pub each_more : {G R : Type 0} (queue : G → ℕ) (row : G → R) (gs : List G) (g : G) (n : ℕ) → queue g < n
    → set (on_each queue row gs n) (queue g) (on queue row gs (queue g) ++ row g ∷ []) ≡ on_each queue row (gs ++ g ∷ []) n
each_more queue row gs g n within =
    set_numbers (on queue row gs) (on queue row (gs ++ g ∷ [])) n (queue g) (on queue row gs (queue g) ++ row g ∷ []) within
    (sym (on_same queue row gs g (queue g) (eq-eqb (queue g) (queue g) refl)))
    (λ k other. sym (on_other queue row gs g k (ne_eqb (queue g) k (λ e. other (sym e)))))

-- one more on a queue that is not there
pub each_same : {G R : Type 0} (queue : G → ℕ) (row : G → R) (gs : List G) (g : G) (n : ℕ) → n ≤ queue g → on_each queue row gs n ≡ on_each queue row (gs ++ g ∷ []) n
each_same queue row gs g n past =
    map_numbers (on queue row gs) (on queue row (gs ++ g ∷ [])) n (λ k below. sym (on_other queue row gs g k (ne_eqb (queue g) k (λ e. omega (arith, e, past, below)))))

-- one more at the end of the list of its queue, wherever that is
pub each_added : {G R : Type 0} (queue : G → ℕ) (row : G → R) (gs : List G) (g : G) (n q : ℕ) → q ≡ queue g
    → set (on_each queue row gs n) q (get_or (on_each queue row gs n) q [] ++ row g ∷ []) ≡ on_each queue row (gs ++ g ∷ []) n
each_added {G} {R} queue row gs g n q is =
    let lists : List (List R) = on_each queue row gs n in
    let len : length lists ≡ n = length-map (numbers_below n) (on queue row gs) ∙ numbers_len n in
    let k : ℕ = queue g in
    ap (λ (m : ℕ). set lists m (get_or lists m [] ++ row g ∷ [])) is
    ∙ ⊎_elim
    (λ (below : k < n).
    ap (λ (l : List R). set lists k (l ++ row g ∷ []))
    (get_or-map (on queue row gs) (numbers_below n) k k [] (omega (arith, below, numbers_len n)) ∙ ap (on queue row gs) (number_at n k k below))
    ∙ each_more queue row gs g n below)
    (λ (past : n ≤ k). set_past lists k (get_or lists k [] ++ row g ∷ []) (omega (arith, past, len)) ∙ each_same queue row gs g n past)
    (cases_lt k n)

pub added_there : {R : Type 0} (vs : List (Vec R)) (q : ℕ) (v w : Vec R) (x : R) → q < length vs → v ≡ get_or vs q v → w.items ≡ v.items ++ x ∷ []
    → map (λ (l : Vec R). l.items) (set vs q w) ≡ set (map (λ (l : Vec R). l.items) vs) q (get_or (map (λ (l : Vec R). l.items) vs) q [] ++ x ∷ [])
added_there {R} vs q v w x within here pushed =
    let items : Vec R → List R = λ l. l.items in
    map-set items vs q w
    ∙ ap (set (map items vs) q) (pushed ∙ ap (λ (l : List R). l ++ x ∷ []) (ap items here ∙ sym (get_or-map items vs q v [] within)))

pub added_past : {R : Type 0} (vs : List (Vec R)) (q : ℕ) (x : R) → length vs ≤ q
    → map (λ (l : Vec R). l.items) vs ≡ set (map (λ (l : Vec R). l.items) vs) q (get_or (map (λ (l : Vec R). l.items) vs) q [] ++ x ∷ [])
added_past {R} vs q x past =
    let lists : List (List R) = map (λ (l : Vec R). l.items) vs in
    sym (set_past lists q (get_or lists q [] ++ x ∷ []) (omega (arith, past, length-map vs (λ (l : Vec R). l.items))))

-- THE GROUPS AND THE WATCHES OF A SCRIPT, up to one

abbrev pub grouped : List Planned → ℕ → GroupRow → Grouped
grouped objects n row = record { number = n; queue = queue_of_members objects row.members; members = row.members }

abbrev pub watched : List Planned → ℕ → WatchRow → Watched
watched objects n row = record { number = n; queue = queue_of objects (Timer row.timer); row = row }

groups_push : (objects : List Planned) (n k : ℕ) (rows : List GroupRow) (row : GroupRow) → n + length rows ≡ k
    → groups_from objects n (rows ++ row ∷ []) ≡ groups_from objects n rows ++ grouped objects k row ∷ []
groups_push objects n k [] row is = ap (λ (m : ℕ). grouped objects m row ∷ []) (omega (arith, is))
groups_push objects n k (r ∷ rows) row is = ap (λ (gs : List Grouped). grouped objects n r ∷ gs) (groups_push objects (suc n) k rows row (omega (arith, is)))

watches_push : (objects : List Planned) (n k : ℕ) (rows : List WatchRow) (row : WatchRow) → n + length rows ≡ k
    → watches_from objects n (rows ++ row ∷ []) ≡ watches_from objects n rows ++ watched objects k row ∷ []
watches_push objects n k [] row is = ap (λ (m : ℕ). watched objects m row ∷ []) (omega (arith, is))
watches_push objects n k (r ∷ rows) row is = ap (λ (ws : List Watched). watched objects n r ∷ ws) (watches_push objects (suc n) k rows row (omega (arith, is)))

pub groups_more : (objects : List Planned) (rows : List GroupRow) (k : ℕ) (row : GroupRow) → k < length rows → row ≡ get_or rows k row
    → groups_from objects 0 (take (k + 1) rows) ≡ groups_from objects 0 (take k rows) ++ grouped objects k row ∷ []
groups_more objects rows k row within is =
    let taken : length (take k rows) ≡ k = length-take-le k rows (omega (arith, within)) in
    ap (groups_from objects 0) (take_more rows k row within ∙ ap (λ (r : GroupRow). take k rows ++ r ∷ []) (sym is))
    ∙ groups_push objects 0 k (take k rows) row (omega (arith, taken))

pub watches_more : (objects : List Planned) (rows : List WatchRow) (k : ℕ) (row : WatchRow) → k < length rows → row ≡ get_or rows k row
    → watches_from objects 0 (take (k + 1) rows) ≡ watches_from objects 0 (take k rows) ++ watched objects k row ∷ []
watches_more objects rows k row within is =
    let taken : length (take k rows) ≡ k = length-take-le k rows (omega (arith, within)) in
    ap (watches_from objects 0) (take_more rows k row within ∙ ap (λ (r : WatchRow). take k rows ++ r ∷ []) (sym is))
    ∙ watches_push objects 0 k (take k rows) row (omega (arith, taken))

-- LISTS WITH NUMBERS

pub numbered_more : {A : Type 0} (lists : List (ℕ × Vec A)) (e : ℕ × Vec A) (n : ℕ) → numbered lists ≡ map (λ k. (k, [])) (numbers_below n) → e.0 ≡ n → e.1.items ≡ []
    → numbered (lists ++ e ∷ []) ≡ map (λ k. (k, [])) (numbers_below (n + 1))
numbered_more {A} lists e n are number empty =
    map_push (λ (x : ℕ × Vec A). (x.0, x.1.items)) lists e
    ∙ ap (λ (ls : List (ℕ × List A)). ls ++ (e.0, e.1.items) ∷ []) are
    ∙ ap (λ (k : ℕ). map (λ m. (m, [])) (numbers_below n) ++ (k, e.1.items) ∷ []) number
    ∙ ap (λ (l : List A). map (λ m. (m, [])) (numbers_below n) ++ (n, l) ∷ []) empty
    ∙ sym (ap (λ (k : ℕ). map (λ m. (m, [])) (numbers_below k)) (add-one n) ∙ map_push (λ (m : ℕ). (m, [])) (numbers_below n) n)

pub put_there : {A : Type 0} (lists : List (ℕ × Vec A)) (k : ℕ) (e : ℕ × Vec A) (list : Vec A) → k < length lists → e ≡ get_or lists k e
    → numbered (set lists k (e.0, list)) ≡ list_put k list.items (numbered lists)
put_there [] k e list within is = absurd (omega (arith, within))
put_there {A} (x ∷ lists) zero e list within is = ap (λ (y : ℕ × Vec A). (y.0, list.items) ∷ numbered lists) is
put_there {A} (x ∷ lists) (suc k) e list within is = ap (λ (ls : List (ℕ × List A)). (x.0, x.1.items) ∷ ls) (put_there lists k e list (omega (arith, within)) is)

pub put_nowhere : {A : Type 0} (lists : List (ℕ × Vec A)) (k : ℕ) (list : List A) → length lists ≤ k → numbered lists ≡ list_put k list (numbered lists)
put_nowhere [] k list past = refl
put_nowhere (x ∷ lists) zero list past = absurd (omega (arith, past))
put_nowhere {A} (x ∷ lists) (suc k) list past = ap (λ (ls : List (ℕ × List A)). (x.0, x.1.items) ∷ ls) (put_nowhere lists k list (omega (arith, past)))
