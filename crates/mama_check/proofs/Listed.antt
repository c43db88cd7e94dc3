-- The groups and the watches of each queue of a script are such as a queue can have.
use Rattle.std.specs.Prelude.{filter, slice_index_or, if◌then◌else◌}
use Rattle.std.specs.List.{AllByRecursion, list_any}
use Rattle.std.proofs.Common.{◌≡◌, ℕ, suc, ◌<◌, ◌==◌, Bool, true, false, ◌&&◌, ◌||◌, List, [], ◌∷◌, ◌++◌, length, map, refl, ap, sym, subst, ◌∙◌, arith, ⊎_elim}
use Rattle.std.proofs.lemmas.Bool.{or_parts, ne_eqb, cases_lt}
use Rattle.std.proofs.lemmas.Bool.Decides.{nat_tests}
use Rattle.std.proofs.lemmas.List.{length-map}
use Rattle.std.proofs.lemmas.List.Folds.{list_any-append}
use Rattle.mama_journal.specs.Journal.{numbers_below}
use Rattle.mama_event.specs.Object.{same_sub, same_timer}
use Rattle.mama_event.specs.declared.ids.SubId.{SubId}
use Rattle.mama_event.specs.declared.ids.TimerId.{TimerId}
use Rattle.mama_event.specs.declared.ids.ObjectId.TheVariants.{Timer}
use Rattle.mama_event.specs.declared.group.GroupRow.{GroupRow}
use Rattle.mama_event.specs.declared.watch.WatchRow.{WatchRow}
use Rattle.mama_event.specs.Ports.{queues_of}
use Rattle.mama_words.specs.Id.{sub_word, timer_word}
use Rattle.mama_words.specs.declared.id.IdWord.{IdWord}
use Rattle.mama_script.specs.Script.{ScriptData}
use Rattle.mama_script.specs.Placing.{same_id, has_id}
use Rattle.mama_script.specs.Within.{IsWithin, AreIdsApart, HasMember, all_grouped, watched_subs, watched_timers}
use Rattle.mama_rules_rounds.specs.Client.{Planned}
use Rattle.mama_rules_rounds.specs.Setting.{Grouped, Watched, is_on}
use Rattle.mama_rules_rounds.specs.Sections.{groups_from, watches_from, planned_in, setting_of, queue_of, queue_of_members}
use Rattle.mama_plans.specs.Lists.{group_row, watch_row, groups_on, watches_on, groups_on_each, watches_on_each}
use Rattle.mama_group.specs.Table.{AreApart, HaveMembers, has_member, are_distinct, all_members}
use Rattle.mama_timeout.specs.Table as watched
use Rattle.mama_check_queue.specs.Listed.{AreListed, AreAllListed}
use Rattle.mama_check.proofs.NumberLemmas.{numbers_len, on_at, on_past}

-- ---- tests of ids

eq_sym : (a b : ℕ) → (a == b) ≡ (b == a)
eq_sym a b = grind (arith, nat_tests)

both_sym : (a b c d : ℕ) → (a == b && c == d) ≡ (b == a && d == c)
both_sym a b c d = ap (λ (x : Bool). x && c == d) (eq_sym a b) ∙ ap (λ (x : Bool). b == a && x) (eq_sym c d)

sub_sym : (s t : SubId) → same_sub s t ≡ same_sub t s
sub_sym s t = both_sym s.client t.client s.number t.number

timer_sym : (s t : TimerId) → same_timer s t ≡ same_timer t s
timer_sym s t = both_sym s.client t.client s.number t.number

-- what holds of all that a filter leaves
keep : {A B : Type 0} (P : B → Type 0) (f : A → B) (b : Bool) (x : A) (xs : List A) → P (f x) → AllByRecursion P (map f xs) → AllByRecursion P (map f (if b then x ∷ xs else xs))
keep P f true x xs here all = (here, all)
keep P f false x xs here all = all

-- ---- watches

abbrev IsOther : ℕ × WatchRow → ℕ × WatchRow → Type 0
IsOther w v = ((v.0 == w.0) ≡ false) × (same_sub v.1.sub w.1.sub ≡ false) × (same_timer v.1.timer w.1.timer ≡ false)

module _ (objects : List Planned) (p : Watched → Bool) where
  abbrev some_watches : ℕ → List WatchRow → List (ℕ × WatchRow)
  some_watches n rows = map watch_row (filter p (watches_from objects n rows))

  others : (n m : ℕ) → n < m → (row : WatchRow) (rows : List WatchRow) → has_id (sub_word row.sub) (watched_subs rows) ≡ false → has_id (timer_word row.timer) (watched_timers rows) ≡ false
      → AllByRecursion (IsOther (n, row)) (some_watches m rows)
  others n m low row [] subs timers = tt
  others n m low row (r ∷ rows) subs timers =
      let s = or_parts (same_id (sub_word row.sub) (sub_word r.sub)) (has_id (sub_word row.sub) (watched_subs rows)) subs in
      let t = or_parts (same_id (timer_word row.timer) (timer_word r.timer)) (has_id (timer_word row.timer) (watched_timers rows)) timers in
      let head : Watched = record { number = m; queue = queue_of objects (Timer r.timer); row = r } in
      keep (IsOther (n, row)) watch_row (p head) head (filter p (watches_from objects (suc m) rows))
      (ne_eqb m n (λ same. omega (arith, low, same)), sub_sym r.sub row.sub ∙ s.0, timer_sym r.timer row.timer ∙ t.0)
      (others n (suc m) (omega (arith, low)) row rows s.1 t.1)

  watches_apart : (n : ℕ) (rows : List WatchRow) → AreIdsApart (watched_subs rows) → AreIdsApart (watched_timers rows) → watched.AreApart (some_watches n rows)
  watches_apart n [] subs timers = tt
  watches_apart n (r ∷ rows) subs timers =
      let head : Watched = record { number = n; queue = queue_of objects (Timer r.timer); row = r } in
      either (p head) head (filter p (watches_from objects (suc n) rows)) (others n (suc n) (omega arith) r rows subs.0 timers.0) (watches_apart (suc n) rows subs.1 timers.1)
    where
      either : (b : Bool) (x : Watched) (xs : List Watched) → AllByRecursion (IsOther (watch_row x)) (map watch_row xs) → watched.AreApart (map watch_row xs)
          → watched.AreApart (map watch_row (if b then x ∷ xs else xs))
      either true x xs apart rest = (apart, rest)
      either false x xs apart rest = rest

-- ---- subscriptions that stand once

abbrev AllApart : List SubId → Type 0
AllApart [] = Unit {0}
AllApart (s ∷ ss) = (has_member s ss ≡ false) × AllApart ss

abbrev IsNotIn : List SubId → SubId → Type 0
IsNotIn ss s = has_member s ss ≡ false

word_any : (x : SubId) (ss : List SubId) → has_id (sub_word x) (map sub_word ss) ≡ has_member x ss
word_any x [] = refl
word_any x (s ∷ ss) = ap (λ (b : Bool). same_sub x s || b) (word_any x ss)

-- the members of a group, and those behind it
apart_left : (ss : List SubId) (ids : List IdWord) → AreIdsApart (map sub_word ss ++ ids) → AllApart ss
apart_left [] ids apart = tt
apart_left (s ∷ ss) ids apart =
    let none = or_parts (has_id (sub_word s) (map sub_word ss)) (has_id (sub_word s) ids) (sym (list_any-append (same_id (sub_word s)) (map sub_word ss) ids) ∙ apart.0) in
    (sym (word_any s ss) ∙ none.0, apart_left ss ids apart.1)

apart_right : (ss : List SubId) (ids : List IdWord) → AreIdsApart (map sub_word ss ++ ids) → AreIdsApart ids
apart_right [] ids apart = apart
apart_right (s ∷ ss) ids apart = apart_right ss ids apart.1

apart_across : (ss : List SubId) (ids : List IdWord) → AreIdsApart (map sub_word ss ++ ids) → AllByRecursion (λ (s : SubId). has_id (sub_word s) ids ≡ false) ss
apart_across [] ids apart = tt
apart_across (s ∷ ss) ids apart =
    let none = or_parts (has_id (sub_word s) (map sub_word ss)) (has_id (sub_word s) ids) (sym (list_any-append (same_id (sub_word s)) (map sub_word ss) ids) ∙ apart.0) in
    (none.1, apart_across ss ids apart.1)

-- two lists that stand apart
both_apart : (ss ts : List SubId) → AllApart ss → AllApart ts → AllByRecursion (IsNotIn ts) ss → AllApart (ss ++ ts)
both_apart [] ts one two across = two
both_apart (s ∷ ss) ts one two across =
    (list_any-append (same_sub s) ss ts ∙ ap (λ (b : Bool). b || has_member s ts) one.0 ∙ across.0, both_apart ss ts one.1 two across.1)

distinct_from : (before ss : List SubId) → AllApart ss → AllByRecursion (IsNotIn before) ss → are_distinct before ss ≡ true
distinct_from before [] apart none = refl
distinct_from before (s ∷ ss) apart none =
    ap (λ (b : Bool). if b then false else are_distinct (before ++ s ∷ []) ss) none.0 ∙ distinct_from (before ++ s ∷ []) ss apart.1 (more ss apart.0 none.1)
  where
    more : (ts : List SubId) → has_member s ts ≡ false → AllByRecursion (IsNotIn before) ts → AllByRecursion (IsNotIn (before ++ s ∷ [])) ts
    more [] other all = tt
    more (t ∷ ts) other all =
        let parts = or_parts (same_sub s t) (has_member s ts) other in
        (list_any-append (same_sub t) before (s ∷ []) ∙ ap (λ (b : Bool). b || (same_sub t s || false)) all.0 ∙ ap (λ (b : Bool). b || false) (sub_sym t s ∙ parts.0), more ts parts.1 all.1)

nothing_before : (ss : List SubId) → AllByRecursion (IsNotIn []) ss
nothing_before [] = tt
nothing_before (s ∷ ss) = (refl, nothing_before ss)

-- ---- groups

module _ (objects : List Planned) (p : Grouped → Bool) where
  abbrev some_groups : ℕ → List GroupRow → List (ℕ × GroupRow)
  some_groups n rows = map group_row (filter p (groups_from objects n rows))

  abbrev head_of : ℕ → GroupRow → Grouped
  head_of n row = record { number = n; queue = queue_of_members objects row.members; members = row.members }

  later : (n m : ℕ) → n < m → (rows : List GroupRow) → AllByRecursion (λ (h : ℕ × GroupRow). (h.0 == n) ≡ false) (some_groups m rows)
  later n m low [] = tt
  later n m low (r ∷ rows) =
      keep (λ (h : ℕ × GroupRow). (h.0 == n) ≡ false) group_row (p (head_of m r)) (head_of m r) (filter p (groups_from objects (suc m) rows))
      (ne_eqb m n (λ same. omega (arith, low, same))) (later n (suc m) (omega (arith, low)) rows)

  groups_apart : (n : ℕ) (rows : List GroupRow) → AreApart (some_groups n rows)
  groups_apart n [] = tt
  groups_apart n (r ∷ rows) = either (p (head_of n r)) (head_of n r) (filter p (groups_from objects (suc n) rows)) (later n (suc n) (omega arith) rows) (groups_apart (suc n) rows)
    where
      either : (b : Bool) (x : Grouped) (xs : List Grouped) → AllByRecursion (λ (h : ℕ × GroupRow). (h.0 == x.number) ≡ false) (map group_row xs) → AreApart (map group_row xs)
          → AreApart (map group_row (if b then x ∷ xs else xs))
      either true x xs apart rest = (apart, rest)
      either false x xs apart rest = rest

  groups_some : (n : ℕ) (rows : List GroupRow) → AllByRecursion HasMember rows → HaveMembers (some_groups n rows)
  groups_some n [] some = tt
  groups_some n (r ∷ rows) some =
      keep (λ (g : ℕ × GroupRow). 0 < length g.1.members) group_row (p (head_of n r)) (head_of n r) (filter p (groups_from objects (suc n) rows)) some.0 (groups_some (suc n) rows some.1)

  -- a subscription that is in none of the groups is in none of those that are left
  not_left : (s : SubId) (n : ℕ) (rows : List GroupRow) → has_id (sub_word s) (all_grouped rows) ≡ false → has_member s (all_members (some_groups n rows)) ≡ false
  not_left s n [] none = refl
  not_left s n (r ∷ rows) none =
      let parts = or_parts (has_id (sub_word s) (map sub_word r.members)) (has_id (sub_word s) (all_grouped rows)) (sym (list_any-append (same_id (sub_word s)) (map sub_word r.members) (all_grouped rows)) ∙ none) in
      either (p (head_of n r)) (sym (word_any s r.members) ∙ parts.0) (not_left s (suc n) rows parts.1)
    where
      either : (b : Bool) → has_member s r.members ≡ false → has_member s (all_members (some_groups (suc n) rows)) ≡ false
          → has_member s (all_members (map group_row (if b then head_of n r ∷ filter p (groups_from objects (suc n) rows) else filter p (groups_from objects (suc n) rows)))) ≡ false
      either true own rest = list_any-append (same_sub s) r.members (all_members (some_groups (suc n) rows)) ∙ ap (λ (b : Bool). b || has_member s (all_members (some_groups (suc n) rows))) own ∙ rest
      either false own rest = rest

  all_not_left : (ss : List SubId) (n : ℕ) (rows : List GroupRow) → AllByRecursion (λ (s : SubId). has_id (sub_word s) (all_grouped rows) ≡ false) ss
      → AllByRecursion (IsNotIn (all_members (some_groups n rows))) ss
  all_not_left [] n rows all = tt
  all_not_left (s ∷ ss) n rows all = (not_left s n rows all.0, all_not_left ss n rows all.1)

  members_apart : (n : ℕ) (rows : List GroupRow) → AreIdsApart (all_grouped rows) → AllApart (all_members (some_groups n rows))
  members_apart n [] apart = tt
  members_apart n (r ∷ rows) apart =
      either (p (head_of n r)) (apart_left r.members (all_grouped rows) apart) (members_apart (suc n) rows (apart_right r.members (all_grouped rows) apart))
      (all_not_left r.members (suc n) rows (apart_across r.members (all_grouped rows) apart))
    where
      either : (b : Bool) → AllApart r.members → AllApart (all_members (some_groups (suc n) rows)) → AllByRecursion (IsNotIn (all_members (some_groups (suc n) rows))) r.members
          → AllApart (all_members (map group_row (if b then head_of n r ∷ filter p (groups_from objects (suc n) rows) else filter p (groups_from objects (suc n) rows))))
      either true own rest across = both_apart r.members (all_members (some_groups (suc n) rows)) own rest across
      either false own rest across = rest

-- ---- each queue

none_listed : AreListed [] []
none_listed = record { groups = tt; members = tt; distinct = refl; watches = tt }

listed_on : (script : ScriptData) → IsWithin script → (q : ℕ) → AreListed (groups_on (setting_of script).groups q) (watches_on (setting_of script).watches q)
listed_on script within q =
    let on_queue : Grouped → Bool = λ g. g.queue == q in
    record {
      groups = groups_apart (planned_in script) on_queue 0 script.groups;
      members = groups_some (planned_in script) on_queue 0 script.groups within.members;
      distinct = distinct_from [] (all_members (groups_on (setting_of script).groups q)) (members_apart (planned_in script) on_queue 0 script.groups within.grouped)
          (nothing_before (all_members (groups_on (setting_of script).groups q)));
      watches = watches_apart (planned_in script) (is_on q) 0 script.watches within.watched within.timed;
    }

-- those of each queue that is there, and none of others
pub all_listed : (script : ScriptData) → IsWithin script → AreAllListed (groups_on_each (queues_of script.shape) (setting_of script).groups) (watches_on_each (queues_of script.shape) (setting_of script).watches)
all_listed script within q =
    let n : ℕ = queues_of script.shape in
    let gs : ℕ → List (ℕ × GroupRow) = groups_on (setting_of script).groups in
    let ws : ℕ → List (ℕ × WatchRow) = watches_on (setting_of script).watches in
    ⊎_elim
    (λ inside.
    subst (λ (g : List (ℕ × GroupRow)). AreListed g (slice_index_or (map ws (numbers_below n)) q [])) (sym (on_at gs n q inside))
    (subst (λ (w : List (ℕ × WatchRow)). AreListed (gs q) w) (sym (on_at ws n q inside)) (listed_on script within q)))
    (λ past.
    subst (λ (g : List (ℕ × GroupRow)). AreListed g (slice_index_or (map ws (numbers_below n)) q [])) (sym (on_past gs n q past))
    (subst (λ (w : List (ℕ × WatchRow)). AreListed [] w) (sym (on_past ws n q past)) none_listed))
    (cases_lt q n)

-- as many lists as queues
pub lists_many : {V X : Type 0} (items : V → List X) (lists : List V) (f : ℕ → List X) (n : ℕ) → map items lists ≡ map f (numbers_below n) → length lists ≡ n
lists_many items lists f n are = sym (length-map lists items) ∙ ap length are ∙ length-map (numbers_below n) f ∙ numbers_len n
