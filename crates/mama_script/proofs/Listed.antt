-- A script of version 1 has neither groups nor watches, and no script has more of them than it has subscriptions.
use Rattle.std.proofs.Common.{◌≡◌, ℕ, zero, suc, ◌+◌, ◌<◌, ◌≤◌, Bool, true, false, eqb, ltb, cond, List, [], ◌∷◌, ◌++◌, length, map, None, refl, sym, ap, subst, ◌∙◌, append_assoc, append-nil, length-append, arith}
use Rattle.std.specs.Prelude.{◌&&◌, ◌||◌, ◌==◌, not, slice_get}
use Rattle.std.specs.List.{flat_map, list_any, AllByRecursion}
use Rattle.std.proofs.lemmas.Bool.{and_parts, and_from, eqb-true, eq-eqb, ltb-true, or_parts, or_left, or_right}
use Rattle.std.proofs.lemmas.List.{length-map}
use Rattle.std.proofs.lemmas.List.Folds.{list_any-append}
use Rattle.mama_event.specs.declared.group.GroupRow.{GroupRow}
use Rattle.mama_event.specs.declared.watch.WatchRow.{WatchRow}
use Rattle.mama_words.specs.declared.id.IdWord.{IdWord}
use Rattle.mama_words.specs.Id.{sub_word, timer_word}
use Rattle.mama_event.specs.declared.order.PlanRow.{PlanRow}
use Rattle.mama_event.specs.declared.shape.Strategy.{Strategy}
use Rattle.mama_link.specs.declared.faults.FaultRow.{FaultRow}
use Rattle.mama_script.specs.declared.publisher.PublisherLine.{PublisherLine}
use Rattle.mama_script.specs.declared.publisher.PublisherLine.TheVariants as sends
use Rattle.mama_script.specs.declared.publisher.PublisherPart.{PublisherPart}
use Rattle.mama_words.specs.declared.version.Version.{Version}
use Rattle.mama_words.specs.declared.version.Version.TheVariants as version
use Rattle.mama_script.specs.declared.client.ClientLine.{ClientLine}
use Rattle.mama_script.specs.declared.client.ClientLine.TheVariants as steps
use Rattle.mama_script.specs.declared.line.Line.{Line}
use Rattle.mama_script.specs.declared.line.Line.TheVariants as lines
use Rattle.mama_script.specs.declared.names.Made.{Made}
use Rattle.mama_script.specs.Line.{IsLine}
use Rattle.mama_script.specs.Names as names
use Rattle.mama_script.specs.Names.{makes, made_by}
use Rattle.mama_script.specs.Before.{Before, start, after}
use Rattle.mama_script.specs.Reading.{version_of, FitFrom}
use Rattle.mama_script.specs.Placing.{Cast, Placed, same_id, has_id, none_placed, cast_of, group_queue, may_join, may_group, may_watch, is_market_on, are_beside, sub_in, timer_in, misplaced, placed_with, misplaced_from}
use Rattle.mama_script.specs.Script.{ScriptData}
use Rattle.mama_script.specs.Tree.{plan_line, fault_line, object_lines, publisher_line, step_lines, group_line, watch_line, last_lines, topic_line, publisher_lines, client_lines, strategy_lines, body_lines, lines_of, IsScript}
use Rattle.mama_script.specs.Within.{AreIdsApart, HasMember, all_grouped, watched_subs, watched_timers, subs_of, subs_in, all_subs, made_with_step, made_with_steps, made_of}
use Rattle.mama_script.proofs.Whole.{version_kept}
use Rattle.mama_script.proofs.Texts.{version_told}
use Rattle.mama_script.proofs.Naming.{made_lines}
use Rattle.mama_script.proofs.Casting.{IsSub, IsPlacedLine, unless_none, fault_at_none, all_placed}

-- ---- version 1

forms : (b : Before) (ls : List Line) → FitFrom b ls → AllByRecursion (IsLine b.version) ls
forms b [] h = tt
forms b (l ∷ ls) h = (h.0.form, subst (λ (v : Version). AllByRecursion (IsLine v) ls) (version_kept b l) (forms (after b l) ls h.1))

all_back : {A : Type 0} (P : A → Type 0) (xs ys : List A) → AllByRecursion P (xs ++ ys) → AllByRecursion P ys
all_back P [] ys h = h
all_back P (x ∷ xs) ys h = all_back P xs ys h.1

-- the lines behind the sections
last_of : (P : Line → Type 0) (s : ScriptData) → AllByRecursion P (lines_of s) → AllByRecursion P (last_lines s.groups s.watches)
last_of P s h =
    let last = last_lines s.groups s.watches in
    let clients = flat_map client_lines s.clients in
    let publishers = flat_map publisher_lines s.publishers in
    let body = all_back P (strategy_lines s.version s.shape.strategy) (body_lines s) h in
    all_back P clients last (all_back P publishers (clients ++ last) (all_back P (map topic_line s.topics) (publishers ++ (clients ++ last)) body.1))

no_last : (groups : List GroupRow) (watches : List WatchRow) → AllByRecursion (IsLine version.One) (last_lines groups watches) → (groups ≡ []) × (watches ≡ [])
no_last [] [] h = (refl, refl)
no_last [] (w ∷ ws) h = absurd (let bad : version.One ≡ version.Two = h.0.0 in cc)
no_last (g ∷ gs) ws h = absurd (let bad : version.One ≡ version.Two = h.0.0 in cc)

-- the lines of a script are of its version
own_forms : (s : ScriptData) → IsScript s → AllByRecursion (IsLine s.version) (lines_of s)
own_forms s is =
    let told : version_of (lines_of s) ≡ s.version = version_told s.version s.shape.strategy s.shape.bounds.queues _ in
    subst (λ (v : Version). AllByRecursion (IsLine v) (lines_of s)) told (forms (start (version_of (lines_of s))) (lines_of s) is.accepted.fit)

pub unlisted : (s : ScriptData) → IsScript s → s.version ≡ version.One → (s.groups ≡ []) × (s.watches ≡ [])
unlisted s is e = no_last s.groups s.watches (last_of (IsLine version.One) s (subst (λ (v : Version). AllByRecursion (IsLine v) (lines_of s)) e (own_forms s is)))

-- ---- ids that are all different

flip_eqb : (a b : ℕ) → eqb a b ≡ true → eqb b a ≡ true
flip_eqb a b e = eq-eqb b a (sym (eqb-true a b e))

flip_true : (a b : IdWord) → same_id a b ≡ true → same_id b a ≡ true
flip_true a b e =
    let p = and_parts (a.client == b.client) (a.number == b.number) e in
    and_from (b.client == a.client) (b.number == a.number) (flip_eqb a.client b.client p.0) (flip_eqb a.number b.number p.1)

flip_false : (a b : IdWord) (here : Bool) → same_id b a ≡ here → same_id a b ≡ false → same_id b a ≡ false
flip_false a b true e h = let t = flip_true b a e in let bad : true ≡ false = sym t ∙ h in absurd cc
flip_false a b false e h = e

none_of : (b : Bool) → b ≡ false → (b || false) ≡ false
none_of true e = e
none_of false e = refl

distinct_push : (xs : List IdWord) (x : IdWord) → AreIdsApart xs → has_id x xs ≡ false → AreIdsApart (xs ++ x ∷ [])
distinct_push [] x h none = (refl, tt)
distinct_push (y ∷ ys) x h none =
    let p = or_parts (same_id x y) (has_id x ys) none in
    let other : same_id y x ≡ false = flip_false x y (same_id y x) refl p.0 in
    let more : has_id y (ys ++ x ∷ []) ≡ false = list_any-append (same_id y) ys (x ∷ []) ∙ ap (λ (b : Bool). b || has_id y (x ∷ [])) h.0 ∙ none_of (same_id y x) other in
    (more, distinct_push ys x h.1 p.1)

-- ---- so many different ones are no more than all

abbrev without : IdWord → List IdWord → List IdWord
without x [] = []
without x (y ∷ ys) = cond (same_id x y) ys (y ∷ without x ys)

without_step : (x y : IdWord) (ys : List IdWord) (here : Bool) → same_id x y ≡ here → has_id x (y ∷ ys) ≡ true → (has_id x ys ≡ true → length ys ≡ suc (length (without x ys))) → suc (length ys) ≡ suc (length (cond here ys (y ∷ without x ys)))
without_step x y ys true e h more = refl
without_step x y ys false e h more = ap suc (more (sym (ap (λ (b : Bool). b || has_id x ys) e) ∙ h))

without_one : (x : IdWord) (ys : List IdWord) → has_id x ys ≡ true → length ys ≡ suc (length (without x ys))
without_one x [] h = absurd cc
without_one x (y ∷ ys) h = without_step x y ys (same_id x y) refl h (without_one x ys)

-- two ids that are one with a third are one
same_both : (x y z : IdWord) → same_id x y ≡ true → same_id z y ≡ true → same_id z x ≡ true
same_both x y z h k =
    let p = and_parts (x.client == y.client) (x.number == y.number) h in
    let q = and_parts (z.client == y.client) (z.number == y.number) k in
    and_from (z.client == x.client) (z.number == x.number)
    (eq-eqb z.client x.client (eqb-true z.client y.client q.0 ∙ sym (eqb-true x.client y.client p.0)))
    (eq-eqb z.number x.number (eqb-true z.number y.number q.1 ∙ sym (eqb-true x.number y.number p.1)))

kept_step : (x z y : IdWord) (ys : List IdWord) (here there : Bool) → same_id x y ≡ here → same_id z y ≡ there → same_id z x ≡ false → has_id z (y ∷ ys) ≡ true → (has_id z ys ≡ true → has_id z (without x ys) ≡ true) → has_id z (cond here ys (y ∷ without x ys)) ≡ true
kept_step x z y ys true true p q other h more = let same = same_both x y z p q in let bad : true ≡ false = sym same ∙ other in absurd cc
kept_step x z y ys true false p q other h more = sym (ap (λ (b : Bool). b || has_id z ys) q) ∙ h
kept_step x z y ys false true p q other h more = or_left (same_id z y) (has_id z (without x ys)) q
kept_step x z y ys false false p q other h more = or_right (same_id z y) (has_id z (without x ys)) (more (sym (ap (λ (b : Bool). b || has_id z ys) q) ∙ h))

kept : (x z : IdWord) (ys : List IdWord) → same_id z x ≡ false → has_id z ys ≡ true → has_id z (without x ys) ≡ true
kept x z [] other h = absurd cc
kept x z (y ∷ ys) other h = kept_step x z y ys (same_id x y) (same_id z y) refl refl other h (kept x z ys other)

abbrev AreIn : List IdWord → List IdWord → Type 0
AreIn all xs = AllByRecursion (λ (x : IdWord). has_id x all ≡ true) xs

kept_all : (x : IdWord) (xs all : List IdWord) → has_id x xs ≡ false → AreIn all xs → AreIn (without x all) xs
kept_all x [] all none h = tt
kept_all x (z ∷ zs) all none h =
    let p = or_parts (same_id x z) (has_id x zs) none in
    (kept x z all (flip_false x z (same_id z x) refl p.0) h.0, kept_all x zs all p.1 h.1)

pigeon : (xs all : List IdWord) → AreIdsApart xs → AreIn all xs → length xs ≤ length all
pigeon [] all h k = omega arith
pigeon (x ∷ xs) all h k =
    let one = without_one x all k.0 in
    let more = pigeon xs (without x all) h.1 (kept_all x xs all h.0 k.1) in
    omega (arith, one, more)

-- ---- all subscriptions

abbrev ids_below : ℕ → ℕ → List IdWord
ids_below client zero = []
ids_below client (suc n) = record { client = client; number = n } ∷ ids_below client n

abbrev all_ids : ℕ → List Made → List IdWord
all_ids client [] = []
all_ids client (m ∷ ms) = ids_below client m.subs ++ all_ids (suc client) ms

abbrev sum_subs : List Made → ℕ
sum_subs [] = 0
sum_subs (m ∷ ms) = m.subs + sum_subs ms

below_len : (client n : ℕ) → length (ids_below client n) ≡ n
below_len client zero = refl
below_len client (suc n) = ap suc (below_len client n)

all_len : (client : ℕ) (ms : List Made) → length (all_ids client ms) ≡ sum_subs ms
all_len client [] = refl
all_len client (m ∷ ms) =
    let joined = length-append (ids_below client m.subs) (all_ids (suc client) ms) in
    let here = below_len client m.subs in
    let rest = all_len (suc client) ms in
    omega (arith, joined, here, rest)

below_step : (id : IdWord) (n : ℕ) (here : Bool) → eqb id.number n ≡ here → id.number < suc n → (id.number < n → has_id id (ids_below id.client n) ≡ true) → has_id id (ids_below id.client (suc n)) ≡ true
below_step id n true e h more = or_left (same_id id (record { client = id.client; number = n })) (has_id id (ids_below id.client n)) (and_from (id.client == id.client) (id.number == n) (eq-eqb id.client id.client refl) e)
below_step id n false e h more =
    let apart : id.number ≡ n → ⊥ = λ s. (let t = eq-eqb id.number n s in let bad : true ≡ false = sym t ∙ e in cc) in
    or_right (same_id id (record { client = id.client; number = n })) (has_id id (ids_below id.client n)) (more (omega (arith, h, apart)))

below_has : (id : IdWord) (n : ℕ) → id.number < n → has_id id (ids_below id.client n) ≡ true
below_has id zero h = absurd (omega (arith, h))
below_has id (suc n) h = below_step id n (eqb id.number n) refl h (below_has id n)

all_has : (from k : ℕ) (ms : List Made) (id : IdWord) → id.client ≡ from + k → makes (λ m. m.subs) (slice_get ms k) id.number ≡ true → has_id id (all_ids from ms) ≡ true
all_has from k [] id e h = absurd cc
all_has from zero (m ∷ ms) id e h =
    let at : id.client ≡ from = omega (arith, e) in
    let here : has_id id (ids_below from m.subs) ≡ true = ap (λ (c : ℕ). has_id id (ids_below c m.subs)) (sym at) ∙ below_has id m.subs (ltb-true id.number m.subs h) in
    list_any-append (same_id id) (ids_below from m.subs) (all_ids (suc from) ms) ∙ or_left (has_id id (ids_below from m.subs)) (has_id id (all_ids (suc from) ms)) here
all_has from (suc k) (m ∷ ms) id e h =
    list_any-append (same_id id) (ids_below from m.subs) (all_ids (suc from) ms)
    ∙ or_right (has_id id (ids_below from m.subs)) (has_id id (all_ids (suc from) ms)) (all_has (suc from) k ms id (omega (arith, e)) h)

subs_in_all : (made : List Made) (xs : List IdWord) → AllByRecursion (IsSub made) xs → AreIn (all_ids 0 made) xs
subs_in_all made [] h = tt
subs_in_all made (x ∷ xs) h = (all_has 0 x.client made x (omega arith) h.0, subs_in_all made xs h.1)

few_subs : (made : List Made) (xs : List IdWord) → AreIdsApart xs → AllByRecursion (IsSub made) xs → length xs ≤ sum_subs made
few_subs made xs h k = let p = pigeon xs (all_ids 0 made) h (subs_in_all made xs k) in let len = all_len 0 made in omega (arith, p, len)

-- how many subscriptions the clients make
steps_sum : (m : Made) (ss : List ClientLine) → (made_with_steps m ss).subs ≡ m.subs + subs_in ss
steps_sum m [] = omega arith
steps_sum m (s ∷ ss) = let more = steps_sum (made_with_step m s) ss in let one = step_sum m s in omega (arith, more, one)
  where
    step_sum : (m : Made) (s : ClientLine) → (made_with_step m s).subs ≡ m.subs + subs_of s
    step_sum m (steps.Sub topic kind queue cache recaps faults plan) = refl
    step_sum m (steps.Timer queue interval plan) = omega arith
    step_sum m (steps.Inbox queue faults plan) = omega arith
    step_sum m (steps.Order order) = omega arith
    step_sum m (steps.Now moment) = omega arith
    step_sum m steps.NowClock = omega arith
    step_sum m (steps.Pause rounds) = omega arith

clients_sum : (cs : List (List ClientLine)) → sum_subs (map made_of cs) ≡ all_subs cs
clients_sum [] = refl
clients_sum (c ∷ cs) = let here = steps_sum names.nothing_made c in let rest = clients_sum cs in omega (arith, here, rest)

-- ---- what the groups and the watches name

abbrev placed_after : Placed → List Line → Placed
placed_after p [] = p
placed_after p (l ∷ ls) = placed_after (placed_with p l) ls

not_false : (b : Bool) → not b ≡ true → b ≡ false
not_false true e = absurd cc
not_false false e = refl

group_distinct : (c : Cast) (queue : ℕ) (grouped ids : List IdWord) → AreIdsApart grouped → may_group c queue grouped ids ≡ true → AreIdsApart (grouped ++ ids)
group_distinct c queue grouped [] h may = subst AreIdsApart (sym (append-nil grouped)) h
group_distinct c queue grouped (id ∷ ids) h may =
    let p = and_parts (may_join c queue grouped id) (may_group c queue (grouped ++ id ∷ []) ids) may in
    let j = and_parts (is_market_on queue (sub_in c id) && not (has_id id grouped)) (not (has_id id c.stops)) p.0 in
    let m = and_parts (is_market_on queue (sub_in c id)) (not (has_id id grouped)) j.0 in
    let here = distinct_push grouped id h (not_false (has_id id grouped) m.1) in
    subst AreIdsApart (append_assoc grouped (id ∷ []) ids) (group_distinct c queue (grouped ++ id ∷ []) ids here p.1)

record Walked (p : Placed) : Type 0 where
  grouped : AreIdsApart p.grouped
  subs : AreIdsApart p.subs
  timers : AreIdsApart p.timers

walk_line : (c : Cast) (p : Placed) (l : Line) → Walked p → misplaced c p l ≡ None → Walked (placed_with p l)
walk_line c p (lines.Group ids) w e = record { grouped = group_distinct c (group_queue c ids) p.grouped ids w.grouped (unless_none (may_group c (group_queue c ids) p.grouped ids) 13 e); subs = w.subs; timers = w.timers }
walk_line c p (lines.Watch sub timer retries) w e =
    let m = and_parts (are_beside (sub_in c sub) (timer_in c timer) && not (has_id sub p.subs)) (not (has_id timer p.timers)) (unless_none (may_watch c p sub timer) 14 e) in
    let b = and_parts (are_beside (sub_in c sub) (timer_in c timer)) (not (has_id sub p.subs)) m.0 in
    record {
      grouped = w.grouped;
      subs = distinct_push p.subs sub w.subs (not_false (has_id sub p.subs) b.1);
      timers = distinct_push p.timers timer w.timers (not_false (has_id timer p.timers) m.1);
    }
walk_line c p _ w e = w

walk : (c : Cast) (p : Placed) (k : ℕ) (ls : List Line) → Walked p → misplaced_from c p k ls ≡ None → Walked (placed_after p ls)
walk c p k [] w e = w
walk c p k (l ∷ ls) w e =
    let f = fault_at_none k (misplaced c p l) (misplaced_from c (placed_with p l) (suc k) ls) e in
    walk c (placed_with p l) (suc k) ls (walk_line c p l w f.0) f.1

all_joined : {A : Type 0} (P : A → Type 0) (xs ys : List A) → AllByRecursion P xs → AllByRecursion P ys → AllByRecursion P (xs ++ ys)
all_joined P [] ys h k = k
all_joined P (x ∷ xs) ys h k = (h.0, all_joined P xs ys h.1 k)

record AreSubs (made : List Made) (p : Placed) : Type 0 where
  grouped : AllByRecursion (IsSub made) p.grouped
  subs : AllByRecursion (IsSub made) p.subs

subs_line : (made : List Made) (p : Placed) (l : Line) → AreSubs made p → IsPlacedLine made l → AreSubs made (placed_with p l)
subs_line made p (lines.Group ids) a h = record { grouped = all_joined (IsSub made) p.grouped ids a.grouped h; subs = a.subs }
subs_line made p (lines.Watch sub timer retries) a h = record { grouped = a.grouped; subs = all_joined (IsSub made) p.subs (sub ∷ []) a.subs (h.0, tt) }
subs_line made p _ a h = a

subs_all : (made : List Made) (p : Placed) (ls : List Line) → AreSubs made p → AllByRecursion (IsPlacedLine made) ls → AreSubs made (placed_after p ls)
subs_all made p [] a h = a
subs_all made p (l ∷ ls) a h = subs_all made (placed_with p l) ls (subs_line made p l a h.0) h.1

-- each group names a subscription more, and so does each watch
record Grows (g w : ℕ) (p q : Placed) : Type 0 where
  grouped : length p.grouped + g ≤ length q.grouped
  subs : length p.subs + w ≤ length q.subs

grow_line : (v : Version) (p : Placed) (l : Line) → IsLine v l → Grows 0 0 p (placed_with p l)
grow_line v p (lines.Group ids) h = let joined = length-append p.grouped ids in record { grouped = omega (arith, joined); subs = omega arith }
grow_line v p (lines.Watch sub timer retries) h = let joined = length-append p.subs (sub ∷ []) in record { grouped = omega arith; subs = omega (arith, joined) }
grow_line v p _ h = record { grouped = omega arith; subs = omega arith }

grow_all : (v : Version) (p : Placed) (ls : List Line) → AllByRecursion (IsLine v) ls → Grows 0 0 p (placed_after p ls)
grow_all v p [] h = record { grouped = omega arith; subs = omega arith }
grow_all v p (l ∷ ls) h =
    let one = grow_line v p l h.0 in
    let more = grow_all v (placed_with p l) ls h.1 in
    record { grouped = omega (arith, one.grouped, more.grouped); subs = omega (arith, one.subs, more.subs) }

some_ids : (ids : List IdWord) → (length ids == 0) ≡ false → 1 ≤ length ids
some_ids [] h = absurd cc
some_ids (id ∷ ids) h = omega arith

grow_watches : (v : Version) (p : Placed) (rows : List WatchRow) → Grows 0 (length rows) p (placed_after p (map watch_line rows))
grow_watches v p [] = record { grouped = omega arith; subs = omega arith }
grow_watches v p (r ∷ rows) =
    let more = grow_watches v (placed_with p (watch_line r)) rows in
    let one = length-append p.subs (sub_of (watch_line r)) in
    record { grouped = omega (arith, more.grouped); subs = omega (arith, more.subs, one) }
  where
    sub_of : Line → List IdWord
    sub_of (lines.Watch sub timer retries) = sub ∷ []
    sub_of _ = []

grow_last : (v : Version) (p : Placed) (groups : List GroupRow) (watches : List WatchRow) → AllByRecursion (IsLine v) (last_lines groups watches) → Grows (length groups) (length watches) p (placed_after p (last_lines groups watches))
grow_last v p [] watches h = grow_watches v p watches
grow_last v p (g ∷ groups) watches h =
    let ids = ids_of (group_line g) in
    let more = grow_last v (placed_with p (group_line g)) groups watches h.1 in
    let joined = length-append p.grouped ids in
    let some = some_ids ids h.0.1 in
    record { grouped = omega (arith, more.grouped, joined, some); subs = omega (arith, more.subs) }
  where
    ids_of : Line → List IdWord
    ids_of (lines.Group ids) = ids
    ids_of _ = []

after-append : (p : Placed) (xs ys : List Line) → placed_after p (xs ++ ys) ≡ placed_after (placed_after p xs) ys
after-append p [] ys = refl
after-append p (x ∷ xs) ys = after-append (placed_with p x) xs ys

grow_behind : (v : Version) (p : Placed) (front : List Line) (groups : List GroupRow) (watches : List WatchRow) → AllByRecursion (IsLine v) (front ++ last_lines groups watches) → Grows (length groups) (length watches) p (placed_after p (front ++ last_lines groups watches))
grow_behind v p [] groups watches h = grow_last v p groups watches h
grow_behind v p (l ∷ front) groups watches h =
    let one = grow_line v p l h.0 in
    let more = grow_behind v (placed_with p l) front groups watches h.1 in
    record { grouped = omega (arith, one.grouped, more.grouped); subs = omega (arith, one.subs, more.subs) }

-- the lines in front of the groups and the watches
front_is : (a b c d last : List Line) (l : Line) → a ++ l ∷ (b ++ (c ++ (d ++ last))) ≡ (a ++ l ∷ (b ++ (c ++ d))) ++ last
front_is a b c d last l = simp append_assoc

pub record AreFewLists (s : ScriptData) : Type 0 where
  pub groups : length s.groups ≤ all_subs s.clients
  pub watches : length s.watches ≤ all_subs s.clients

pub few_lists : (s : ScriptData) → IsScript s → AreFewLists s
few_lists s is =
    let ls = lines_of s in
    let last = last_lines s.groups s.watches in
    let front = strategy_lines s.version s.shape.strategy ++ lines.Queues s.shape.bounds.queues ∷ (map topic_line s.topics ++ (flat_map publisher_lines s.publishers ++ flat_map client_lines s.clients)) in
    let same : ls ≡ front ++ last = front_is (strategy_lines s.version s.shape.strategy) (map topic_line s.topics) (flat_map publisher_lines s.publishers) (flat_map client_lines s.clients) last (lines.Queues s.shape.bounds.queues) in
    let made = made_by ls in
    let q = placed_after none_placed ls in
    let w = walk (cast_of ls) none_placed 2 ls (record { grouped = tt; subs = tt; timers = tt }) is.accepted.placed in
    let a = subs_all made none_placed ls (record { grouped = tt; subs = tt }) (all_placed ls is.accepted.placed) in
    let P : List Line → Type 0 = λ x. AllByRecursion (IsLine s.version) x in
    let g = grow_behind s.version none_placed front s.groups s.watches (subst P same (own_forms s is)) in
    let G : List Line → Type 0 = λ x. Grows (length s.groups) (length s.watches) none_placed (placed_after none_placed x) in
    let grown = subst G (sym same) g in
    let total : sum_subs made ≡ all_subs s.clients = ap sum_subs (made_lines s) ∙ clients_sum s.clients in
    record { groups = omega (arith, grown.grouped, few_subs made q.grouped w.grouped a.grouped, total); watches = omega (arith, grown.subs, few_subs made q.subs w.subs a.subs, total) }

-- ---- each group and each watch is placed in order

placed_faults : (p : Placed) (rows : List FaultRow) → placed_after p (map fault_line rows) ≡ p
placed_faults p [] = refl
placed_faults p (r ∷ rows) = placed_faults p rows

placed_plan : (p : Placed) (rows : List PlanRow) → placed_after p (map plan_line rows) ≡ p
placed_plan p [] = refl
placed_plan p (r ∷ rows) = placed_plan p rows

placed_object : (p : Placed) (faults : List FaultRow) (plan : List PlanRow) → placed_after p (object_lines faults plan) ≡ p
placed_object p faults plan = after-append p (map fault_line faults) (map plan_line plan) ∙ ap (λ (q : Placed). placed_after q (map plan_line plan)) (placed_faults p faults) ∙ placed_plan p plan

placed_step : (p : Placed) (s : ClientLine) → placed_after p (step_lines s) ≡ p
placed_step p (steps.Sub topic kind queue cache recaps faults plan) = placed_object p faults plan
placed_step p (steps.Timer queue interval plan) = placed_object p [] plan
placed_step p (steps.Inbox queue faults plan) = placed_object p faults plan
placed_step p (steps.Order order) = refl
placed_step p (steps.Now moment) = refl
placed_step p steps.NowClock = refl
placed_step p (steps.Pause rounds) = refl

placed_steps : (p : Placed) (ss : List ClientLine) → placed_after p (flat_map step_lines ss) ≡ p
placed_steps p [] = refl
placed_steps p (s ∷ ss) = after-append p (step_lines s) (flat_map step_lines ss) ∙ ap (λ (q : Placed). placed_after q (flat_map step_lines ss)) (placed_step p s) ∙ placed_steps p ss

placed_clients : (p : Placed) (cs : List (List ClientLine)) → placed_after p (flat_map client_lines cs) ≡ p
placed_clients p [] = refl
placed_clients p (c ∷ cs) = after-append p (flat_map step_lines c) (flat_map client_lines cs) ∙ ap (λ (q : Placed). placed_after q (flat_map client_lines cs)) (placed_steps p c) ∙ placed_clients p cs

placed_send : (p : Placed) (l : PublisherLine) → placed_with p (publisher_line l) ≡ p
placed_send p (sends.Update update) = refl
placed_send p sends.Recap = refl
placed_send p (sends.Pause rounds) = refl

placed_sends : (p : Placed) (ls : List PublisherLine) → placed_after p (map publisher_line ls) ≡ p
placed_sends p [] = refl
placed_sends p (l ∷ ls) = ap (λ (q : Placed). placed_after q (map publisher_line ls)) (placed_send p l) ∙ placed_sends p ls

placed_publishers : (p : Placed) (ps : List PublisherPart) → placed_after p (flat_map publisher_lines ps) ≡ p
placed_publishers p [] = refl
placed_publishers p (x ∷ xs) =
    after-append p (map publisher_line x.lines) (flat_map publisher_lines xs) ∙ ap (λ (q : Placed). placed_after q (flat_map publisher_lines xs)) (placed_sends p x.lines) ∙ placed_publishers p xs

placed_topics : (p : Placed) (names : List (List ℕ)) → placed_after p (map topic_line names) ≡ p
placed_topics p [] = refl
placed_topics p (name ∷ names) = placed_topics p names

placed_opened : (p : Placed) (v : Version) (told : Strategy) → placed_after p (strategy_lines v told) ≡ p
placed_opened p version.One told = refl
placed_opened p version.Two told = refl

abbrev placed_all : List IdWord → List IdWord → List IdWord → Placed
placed_all g s t = record { grouped = g; subs = s; timers = t }

placed_groups : (g s t : List IdWord) (rows : List GroupRow) → placed_after (placed_all g s t) (map group_line rows) ≡ placed_all (g ++ all_grouped rows) s t
placed_groups g s t [] = ap (λ (x : List IdWord). placed_all x s t) (sym (append-nil g))
placed_groups g s t (r ∷ rows) = placed_groups (g ++ map sub_word r.members) s t rows ∙ ap (λ (x : List IdWord). placed_all x s t) (append_assoc g (map sub_word r.members) (all_grouped rows))

placed_watches : (g s t : List IdWord) (rows : List WatchRow) → placed_after (placed_all g s t) (map watch_line rows) ≡ placed_all g (s ++ watched_subs rows) (t ++ watched_timers rows)
placed_watches g s t [] = ap (λ (x : List IdWord). placed_all g x t) (sym (append-nil s)) ∙ ap (λ (x : List IdWord). placed_all g (s ++ []) x) (sym (append-nil t))
placed_watches g s t (r ∷ rows) =
    placed_watches g (s ++ sub_word r.sub ∷ []) (t ++ timer_word r.timer ∷ []) rows
    ∙ ap (λ (x : List IdWord). placed_all g x ((t ++ timer_word r.timer ∷ []) ++ watched_timers rows)) (append_assoc s (sub_word r.sub ∷ []) (watched_subs rows))
    ∙ ap (λ (x : List IdWord). placed_all g (s ++ watched_subs (r ∷ rows)) x) (append_assoc t (timer_word r.timer ∷ []) (watched_timers rows))

placed_lines_of : (s : ScriptData) → placed_after none_placed (lines_of s) ≡ placed_all (all_grouped s.groups) (watched_subs s.watches) (watched_timers s.watches)
placed_lines_of s =
    let last = last_lines s.groups s.watches in
    let clients = flat_map client_lines s.clients in
    let publishers = flat_map publisher_lines s.publishers in
    let topics = map topic_line s.topics in
    after-append none_placed (strategy_lines s.version s.shape.strategy) (body_lines s)
    ∙ ap (λ (q : Placed). placed_after q (body_lines s)) (placed_opened none_placed s.version s.shape.strategy)
    ∙ after-append none_placed topics (publishers ++ (clients ++ last))
    ∙ ap (λ (q : Placed). placed_after q (publishers ++ (clients ++ last))) (placed_topics none_placed s.topics)
    ∙ after-append none_placed publishers (clients ++ last)
    ∙ ap (λ (q : Placed). placed_after q (clients ++ last)) (placed_publishers none_placed s.publishers)
    ∙ after-append none_placed clients last
    ∙ ap (λ (q : Placed). placed_after q last) (placed_clients none_placed s.clients)
    ∙ after-append none_placed (map group_line s.groups) (map watch_line s.watches)
    ∙ ap (λ (q : Placed). placed_after q (map watch_line s.watches)) (placed_groups [] [] [] s.groups)
    ∙ placed_watches (all_grouped s.groups) [] [] s.watches

some_members : (v : Version) (groups : List GroupRow) (watches : List WatchRow) → AllByRecursion (IsLine v) (last_lines groups watches) → AllByRecursion HasMember groups
some_members v [] watches h = tt
some_members v (g ∷ groups) watches h =
    let some = some_ids (map sub_word g.members) h.0.1 in
    let many = length-map g.members sub_word in
    (omega (arith, some, many), some_members v groups watches h.1)

pub record AreApart (s : ScriptData) : Type 0 where
  pub members : AllByRecursion HasMember s.groups
  pub grouped : AreIdsApart (all_grouped s.groups)
  pub subs : AreIdsApart (watched_subs s.watches)
  pub timers : AreIdsApart (watched_timers s.watches)

pub lists_apart : (s : ScriptData) → IsScript s → AreApart s
lists_apart s is =
    let ls = lines_of s in
    let w = walk (cast_of ls) none_placed 2 ls (record { grouped = tt; subs = tt; timers = tt }) is.accepted.placed in
    let at = placed_lines_of s in
    record {
      members = some_members s.version s.groups s.watches (last_of (IsLine s.version) s (own_forms s is));
      grouped = subst (λ (p : Placed). AreIdsApart p.grouped) at w.grouped;
      subs = subst (λ (p : Placed). AreIdsApart p.subs) at w.subs;
      timers = subst (λ (p : Placed). AreIdsApart p.timers) at w.timers;
    }
