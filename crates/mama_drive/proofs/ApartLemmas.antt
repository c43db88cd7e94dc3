-- The groups and the watches of each queue of a script are apart.
use Rattle.std.specs.List.{AllByRecursion, list_any}
use Rattle.std.specs.Global.{Vec}
use Rattle.std.proofs.Common.{◌≡◌, ℕ, suc, ◌+◌, ◌<◌, ◌==◌, Bool, true, false, ◌||◌, ◌&&◌, cond, List, [], ◌∷◌, ◌++◌, map, filter, refl, sym, ◌∙◌, ap, subst, arith}
use Rattle.std.proofs.lemmas.Grind.{common_steps}
use Rattle.std.proofs.lemmas.List.Folds.{list_any-append}
use Rattle.mama_event.specs.declared.ids.SubId.{SubId}
use Rattle.mama_event.specs.declared.ids.ObjectId.TheVariants.{Timer}
use Rattle.mama_event.specs.declared.group.GroupRow.{GroupRow}
use Rattle.mama_event.specs.declared.watch.WatchRow.{WatchRow}
use Rattle.mama_event.specs.Object.{same_sub, same_timer}
use Rattle.mama_words.specs.declared.id.IdWord.{IdWord}
use Rattle.mama_words.specs.Id.{sub_word, timer_word}
use Rattle.mama_script.specs.Placing.{has_id}
use Rattle.mama_script.specs.Script.{ScriptData}
use Rattle.mama_script.specs.Within.{IsWithin, AreIdsApart, HasMember, all_grouped, watched_subs, watched_timers}
use Rattle.mama_rules_rounds.specs.Client.{Planned}
use Rattle.mama_rules_rounds.specs.Setting.{Grouped, Watched}
use Rattle.mama_rules_rounds.specs.Sections.{queue_of, queue_of_members, groups_from, watches_from}
use Rattle.mama_plans.specs.Lists.{group_row, watch_row, groups_on, watches_on}
use Rattle.mama_group.specs.Table as group
use Rattle.mama_group.specs.Table.{HaveMembers, has_member, are_distinct, all_members}
use Rattle.mama_timeout.specs.Table as watch
use Rattle.mama_seats.specs.Heard.{IsGroupList}

other_number : (a b : ℕ) → a < b → (b == a) ≡ false
other_number a b h = grind (arith, common_steps)

same_swapped : (a b : ℕ) → (a == b) ≡ (b == a)
same_swapped a b = grind (arith, common_steps)

neither : (a b : Bool) → (a || b) ≡ false → (a ≡ false) × (b ≡ false)
neither true b h = cc
neither false b h = (refl, h)

ids_swapped : (a b : SubId) → same_sub a b ≡ same_sub b a
ids_swapped a b = ap (λ x. x && (a.number == b.number)) (same_swapped a.client b.client) ∙ ap (λ x. (b.client == a.client) && x) (same_swapped a.number b.number)

abbrev grouped_as : List Planned → ℕ → GroupRow → Grouped
grouped_as objects n row = record { number = n; queue = queue_of_members objects row.members; members = row.members }

abbrev watched_as : List Planned → ℕ → WatchRow → Watched
watched_as objects n row = record { number = n; queue = queue_of objects (Timer row.timer); row = row }

-- ---- numbers

groups_later : (objects : List Planned) (test : Grouped → Bool) (k n : ℕ) (rows : List GroupRow) → k < n → AllByRecursion (λ (h : ℕ × GroupRow). (h.0 == k) ≡ false) (map group_row (filter test (groups_from objects n rows)))
groups_later objects test k n [] later = tt
groups_later objects test k n (row ∷ rows) later = go (test (grouped_as objects n row)) (groups_later objects test k (suc n) rows (omega (arith, later)))
  where
    go : (b : Bool) → AllByRecursion (λ (h : ℕ × GroupRow). (h.0 == k) ≡ false) (map group_row (filter test (groups_from objects (suc n) rows)))
        → AllByRecursion (λ (h : ℕ × GroupRow). (h.0 == k) ≡ false) (map group_row (cond b (grouped_as objects n row ∷ filter test (groups_from objects (suc n) rows)) (filter test (groups_from objects (suc n) rows))))
    go true rest = (other_number k n later, rest)
    go false rest = rest

groups_apart : (objects : List Planned) (test : Grouped → Bool) (n : ℕ) (rows : List GroupRow) → group.AreApart (map group_row (filter test (groups_from objects n rows)))
groups_apart objects test n [] = tt
groups_apart objects test n (row ∷ rows) = go (test (grouped_as objects n row)) (groups_apart objects test (suc n) rows)
  where
    go : (b : Bool) → group.AreApart (map group_row (filter test (groups_from objects (suc n) rows)))
        → group.AreApart (map group_row (cond b (grouped_as objects n row ∷ filter test (groups_from objects (suc n) rows)) (filter test (groups_from objects (suc n) rows))))
    go true rest = (groups_later objects test n (suc n) rows (omega arith), rest)
    go false rest = rest

-- ---- members

groups_have : (objects : List Planned) (test : Grouped → Bool) (n : ℕ) (rows : List GroupRow) → AllByRecursion HasMember rows → HaveMembers (map group_row (filter test (groups_from objects n rows)))
groups_have objects test n [] h = tt
groups_have objects test n (row ∷ rows) h = go (test (grouped_as objects n row)) (groups_have objects test (suc n) rows h.1)
  where
    go : (b : Bool) → HaveMembers (map group_row (filter test (groups_from objects (suc n) rows)))
        → HaveMembers (map group_row (cond b (grouped_as objects n row ∷ filter test (groups_from objects (suc n) rows)) (filter test (groups_from objects (suc n) rows))))
    go true rest = (h.0, rest)
    go false rest = rest

-- the members of the groups on a queue, as words
abbrev kept : (objects : List Planned) (test : Grouped → Bool) (n : ℕ) (rows : List GroupRow) → List SubId
kept objects test n rows = all_members (map group_row (filter test (groups_from objects n rows)))

-- no word stands in both
abbrev AreOthers : List IdWord → List IdWord → Type 0
AreOthers xs ys = AllByRecursion (λ (x : IdWord). has_id x ys ≡ false) xs

has_append : (x : IdWord) (ys zs : List IdWord) → has_id x (ys ++ zs) ≡ (has_id x ys || has_id x zs)
has_append x ys zs = list_any-append _ ys zs

none_in : (x : IdWord) (ys zs : List IdWord) → has_id x (ys ++ zs) ≡ false → (has_id x ys ≡ false) × (has_id x zs ≡ false)
none_in x ys zs h = neither (has_id x ys) (has_id x zs) (sym (has_append x ys zs) ∙ h)

none_of : (x : IdWord) (ys zs : List IdWord) → has_id x ys ≡ false → has_id x zs ≡ false → has_id x (ys ++ zs) ≡ false
none_of x ys zs h k = has_append x ys zs ∙ ap (λ b. b || has_id x zs) h ∙ k

first_apart : (xs ys : List IdWord) → AreIdsApart (xs ++ ys) → AreIdsApart xs
first_apart [] ys h = tt
first_apart (x ∷ xs) ys h = ((none_in x xs ys h.0).0, first_apart xs ys h.1)

rest_apart : (xs ys : List IdWord) → AreIdsApart (xs ++ ys) → AreIdsApart ys
rest_apart [] ys h = h
rest_apart (x ∷ xs) ys h = rest_apart xs ys h.1

others : (xs ys : List IdWord) → AreIdsApart (xs ++ ys) → AreOthers xs ys
others [] ys h = tt
others (x ∷ xs) ys h = ((none_in x xs ys h.0).1, others xs ys h.1)

joined : (xs ys : List IdWord) → AreIdsApart xs → AreIdsApart ys → AreOthers xs ys → AreIdsApart (xs ++ ys)
joined [] ys h k o = k
joined (x ∷ xs) ys h k o = (none_of x xs ys h.0 o.0, joined xs ys h.1 k o.1)

words_append : (xs ys : List SubId) → map sub_word (xs ++ ys) ≡ map sub_word xs ++ map sub_word ys
words_append [] ys = refl
words_append (x ∷ xs) ys = ap (λ l. sub_word x ∷ l) (words_append xs ys)

kept_none : (objects : List Planned) (test : Grouped → Bool) (x : IdWord) (n : ℕ) (rows : List GroupRow) → has_id x (all_grouped rows) ≡ false → has_id x (map sub_word (kept objects test n rows)) ≡ false
kept_none objects test x n [] h = refl
kept_none objects test x n (row ∷ rows) h =
    let parts = none_in x (map sub_word row.members) (all_grouped rows) h in
    go (test (grouped_as objects n row)) parts.0 (kept_none objects test x (suc n) rows parts.1)
  where
    go : (b : Bool) → has_id x (map sub_word row.members) ≡ false → has_id x (map sub_word (kept objects test (suc n) rows)) ≡ false
        → has_id x (map sub_word (all_members (map group_row (cond b (grouped_as objects n row ∷ filter test (groups_from objects (suc n) rows)) (filter test (groups_from objects (suc n) rows)))))) ≡ false
    go true here rest =
        ap (has_id x) (words_append row.members (kept objects test (suc n) rows)) ∙ none_of x (map sub_word row.members) (map sub_word (kept objects test (suc n) rows)) here rest
    go false here rest = rest

kept_others : (objects : List Planned) (test : Grouped → Bool) (xs : List IdWord) (n : ℕ) (rows : List GroupRow) → AreOthers xs (all_grouped rows) → AreOthers xs (map sub_word (kept objects test n rows))
kept_others objects test [] n rows h = tt
kept_others objects test (x ∷ xs) n rows h = (kept_none objects test x n rows h.0, kept_others objects test xs n rows h.1)

kept_apart : (objects : List Planned) (test : Grouped → Bool) (n : ℕ) (rows : List GroupRow) → AreIdsApart (all_grouped rows) → AreIdsApart (map sub_word (kept objects test n rows))
kept_apart objects test n [] h = tt
kept_apart objects test n (row ∷ rows) h = go (test (grouped_as objects n row)) (kept_apart objects test (suc n) rows (rest_apart (map sub_word row.members) (all_grouped rows) h))
  where
    go : (b : Bool) → AreIdsApart (map sub_word (kept objects test (suc n) rows))
        → AreIdsApart (map sub_word (all_members (map group_row (cond b (grouped_as objects n row ∷ filter test (groups_from objects (suc n) rows)) (filter test (groups_from objects (suc n) rows))))))
    go true rest =
        subst AreIdsApart (sym (words_append row.members (kept objects test (suc n) rows)))
        (joined (map sub_word row.members) (map sub_word (kept objects test (suc n) rows)) (first_apart (map sub_word row.members) (all_grouped rows) h) rest
        (kept_others objects test (map sub_word row.members) (suc n) rows (others (map sub_word row.members) (all_grouped rows) h)))
    go false rest = rest

-- subscriptions that are apart as words are apart
abbrev AreOut : List SubId → List SubId → Type 0
AreOut before subs = AllByRecursion (λ (s : SubId). has_member s before ≡ false) subs

out_more : (before subs : List SubId) (s : SubId) → AreOut before subs → has_id (sub_word s) (map sub_word subs) ≡ false → AreOut (before ++ s ∷ []) subs
out_more before [] s h none = tt
out_more before (t ∷ subs) s h none =
    let k = neither (same_sub s t) (has_id (sub_word s) (map sub_word subs)) none in
    (list_any-append (same_sub t) before (s ∷ []) ∙ ap (λ b. b || (same_sub t s || false)) h.0 ∙ ap (λ b. b || false) (ids_swapped t s ∙ k.0), out_more before subs s h.1 k.1)

distinct : (before subs : List SubId) → AreOut before subs → AreIdsApart (map sub_word subs) → are_distinct before subs ≡ true
distinct before [] out apart = refl
distinct before (s ∷ subs) out apart =
    ap (λ b. cond b false (are_distinct (before ++ s ∷ []) subs)) out.0 ∙ distinct (before ++ s ∷ []) subs (out_more before subs s out.1 apart.0) apart.1

all_out : (subs : List SubId) → AreOut [] subs
all_out [] = tt
all_out (s ∷ subs) = (refl, all_out subs)

-- ---- watches

watches_later : (objects : List Planned) (test : Watched → Bool) (k n : ℕ) (w : WatchRow) (rows : List WatchRow) → k < n → has_id (sub_word w.sub) (watched_subs rows) ≡ false
    → has_id (timer_word w.timer) (watched_timers rows) ≡ false
    → AllByRecursion (λ (v : ℕ × WatchRow). ((v.0 == k) ≡ false) × (same_sub v.1.sub w.sub ≡ false) × (same_timer v.1.timer w.timer ≡ false)) (map watch_row (filter test (watches_from objects n rows)))
watches_later objects test k n w [] later subs timers = tt
watches_later objects test k n w (row ∷ rows) later subs timers =
    let s = neither (same_sub w.sub row.sub) (has_id (sub_word w.sub) (watched_subs rows)) subs in
    let t = neither (same_timer w.timer row.timer) (has_id (timer_word w.timer) (watched_timers rows)) timers in
    let timer : same_timer row.timer w.timer ≡ false =
    ap (λ x. x && (row.timer.number == w.timer.number)) (same_swapped row.timer.client w.timer.client) ∙ ap (λ x. (w.timer.client == row.timer.client) && x) (same_swapped row.timer.number w.timer.number) ∙ t.0 in
    go (test (watched_as objects n row)) (other_number k n later, ids_swapped row.sub w.sub ∙ s.0, timer) (watches_later objects test k (suc n) w rows (omega (arith, later)) s.1 t.1)
  where
    go : (b : Bool) → ((n == k) ≡ false) × (same_sub row.sub w.sub ≡ false) × (same_timer row.timer w.timer ≡ false)
        → AllByRecursion (λ (v : ℕ × WatchRow). ((v.0 == k) ≡ false) × (same_sub v.1.sub w.sub ≡ false) × (same_timer v.1.timer w.timer ≡ false)) (map watch_row (filter test (watches_from objects (suc n) rows)))
        → AllByRecursion (λ (v : ℕ × WatchRow). ((v.0 == k) ≡ false) × (same_sub v.1.sub w.sub ≡ false) × (same_timer v.1.timer w.timer ≡ false))
        (map watch_row (cond b (watched_as objects n row ∷ filter test (watches_from objects (suc n) rows)) (filter test (watches_from objects (suc n) rows))))
    go true this rest = (this, rest)
    go false this rest = rest

watches_apart : (objects : List Planned) (test : Watched → Bool) (n : ℕ) (rows : List WatchRow) → AreIdsApart (watched_subs rows) → AreIdsApart (watched_timers rows)
    → watch.AreApart (map watch_row (filter test (watches_from objects n rows)))
watches_apart objects test n [] subs timers = tt
watches_apart objects test n (row ∷ rows) subs timers = go (test (watched_as objects n row)) (watches_apart objects test (suc n) rows subs.1 timers.1)
  where
    go : (b : Bool) → watch.AreApart (map watch_row (filter test (watches_from objects (suc n) rows)))
        → watch.AreApart (map watch_row (cond b (watched_as objects n row ∷ filter test (watches_from objects (suc n) rows)) (filter test (watches_from objects (suc n) rows))))
    go true rest = (watches_later objects test n (suc n) row rows (omega arith) subs.0 timers.0, rest)
    go false rest = rest

-- ---- of a script

pub groups_listed : (script : ScriptData) → IsWithin script → (objects : List Planned) (q : ℕ) → IsGroupList (groups_on (groups_from objects 0 script.groups) q)
groups_listed script within objects q = record {
  apart = groups_apart objects (λ (g : Grouped). g.queue == q) 0 script.groups;
  members = groups_have objects (λ (g : Grouped). g.queue == q) 0 script.groups within.members;
  distinct = distinct [] (kept objects (λ (g : Grouped). g.queue == q) 0 script.groups) (all_out (kept objects (λ (g : Grouped). g.queue == q) 0 script.groups))
      (kept_apart objects (λ (g : Grouped). g.queue == q) 0 script.groups within.grouped);
}

pub watches_listed : (script : ScriptData) → IsWithin script → (objects : List Planned) (q : ℕ) → watch.AreApart (watches_on (watches_from objects 0 script.watches) q)
watches_listed script within objects q = watches_apart objects (λ (w : Watched). w.queue == q) 0 script.watches within.watched within.timed

abbrev head_or : {X : Type 0} → List X → List (List X) → List X
head_or d [] = d
head_or d (x ∷ xs) = x

abbrev rest_of : {X : Type 0} → List (List X) → List (List X)
rest_of [] = []
rest_of (x ∷ xs) = xs

-- what each list of some is
pub all_items : {X : Type 0} (P : List X → Type 0) (f : ℕ → List X) → ((q : ℕ) → P (f q)) → (lists : List (Vec X)) (qs : List ℕ) → map (λ (l : Vec X). l.items) lists ≡ map f qs
    → AllByRecursion (λ (l : Vec X). P l.items) lists
all_items P f h [] qs is = tt
all_items P f h (l ∷ lists) [] is = cc
all_items P f h (l ∷ lists) (q ∷ qs) is = (subst P (sym (ap (head_or l.items) is)) (h q), all_items P f h lists qs (ap rest_of is))
