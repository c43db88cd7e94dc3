-- The objects of a script are all different: each subscription is named once.
use Rattle.std.specs.Prelude.{filter, slice_get, None, Some, if◌then◌else◌}
use Rattle.std.proofs.Common.{◌≡◌, ℕ, zero, suc, ◌+◌, ◌<◌, ◌≤◌, ◌==◌, ◌&&◌, Bool, true, false, List, [], ◌∷◌, ◌++◌, refl, sym, ◌∙◌, subst, arith, true≢false, ◌⊎◌, inl, inr, ⊎_elim}
use Rattle.std.proofs.lemmas.Bool.{eqb-true, eqb-false, and_parts}
use Rattle.mama_journal.specs.Journal.{count_of}
use Rattle.mama_event.specs.Object.{same_sub, same_object}
use Rattle.mama_event.specs.Ports.{queues_of}
use Rattle.mama_event.specs.declared.ids.SubId.{SubId}
use Rattle.mama_event.specs.declared.ids.ObjectId.TheVariants.{Sub, Timer, Inbox}
use Rattle.mama_script.specs.declared.client.ClientLine.{ClientLine}
use Rattle.mama_script.specs.declared.client.ClientLine.TheVariants as line
use Rattle.mama_script.specs.declared.client.QueueWord.{QueueWord}
use Rattle.mama_script.specs.declared.client.QueueWord.TheVariants.{Number, Any}
use Rattle.mama_script.specs.Script.{ScriptData}
use Rattle.mama_rules_rounds.specs.Client.{Planned, Standing, at_first, after_word, after_line, line_object, objects_from}
use Rattle.mama_rules_rounds.specs.Sections.{is_sub, is_timer, is_inbox, by_kind, setting_of, objects_of}

-- an object is this subscription
abbrev pub names : SubId → Planned → Bool
names s p = same_object p.object (Sub s)

-- how often a subscription is among some objects
abbrev pub times : SubId → List Planned → ℕ
times s ps = count_of (names s) ps

-- no subscription is among them twice
pub record AreAlone (ps : List Planned) : Type 0 where
  pub once : (s : SubId) → times s ps ≤ 1

-- ---- counts

step_less : (b : Bool) (n : ℕ) → n ≤ (if b then suc n else n)
step_less true n = omega arith
step_less false n = omega arith

step_zero : (b : Bool) (n : ℕ) → (if b then suc n else n) ≡ 0 → b ≡ false
step_zero true n h = absurd (omega (arith, h))
step_zero false n h = refl

step_one : (b : Bool) (n : ℕ) → b ≡ true → (if b then suc n else n) ≤ 1 → n ≡ 0
step_one true n h few = omega arith
step_one false n h few = absurd (true≢false (sym h))

step_false : (b : Bool) (n : ℕ) → b ≡ false → (if b then suc n else n) ≡ n
step_false true n h = absurd (true≢false h)
step_false false n h = refl

pub alone_rest : (p : Planned) (ps : List Planned) → AreAlone (p ∷ ps) → AreAlone ps
alone_rest p ps alone = record { once = λ s. let all : times s (p ∷ ps) ≤ 1 = alone.once s in let less : times s ps ≤ times s (p ∷ ps) = step_less (names s p) (times s ps) in omega arith }

pub alone_here : (s : SubId) (p : Planned) (ps : List Planned) → AreAlone (p ∷ ps) → names s p ≡ true → times s ps ≡ 0
alone_here s p ps alone named = step_one (names s p) (times s ps) named (alone.once s)

pub absent_here : (s : SubId) (p : Planned) (ps : List Planned) → times s (p ∷ ps) ≡ 0 → names s p ≡ false
absent_here s p ps none = step_zero (names s p) (times s ps) none

pub absent_rest : (s : SubId) (p : Planned) (ps : List Planned) → times s (p ∷ ps) ≡ 0 → times s ps ≡ 0
absent_rest s p ps none = let less : times s ps ≤ times s (p ∷ ps) = step_less (names s p) (times s ps) in omega (arith, none)

pub absent_at : (s : SubId) (ps : List Planned) (k : ℕ) (p : Planned) → times s ps ≡ 0 → slice_get ps k ≡ Some p → names s p ≡ false
absent_at s [] k p none is = let no : None ≡ Some p = is in absurd cc
absent_at s (q ∷ ps) zero p none is =
    let here : Some q ≡ Some p = is in
    let same : q ≡ p = cc in
    subst (λ (o : Planned). names s o ≡ false) same (absent_here s q ps none)
absent_at s (q ∷ ps) (suc k) p none is = absent_at s ps k p (absent_rest s q ps none) is

module _ (t : Planned → Bool) where
  count_append : (xs ys : List Planned) → count_of t (xs ++ ys) ≡ count_of t xs + count_of t ys
  count_append [] ys = omega arith
  count_append (x ∷ xs) ys = at (t x) (count_append xs ys)
    where
      at : (b : Bool) → count_of t (xs ++ ys) ≡ count_of t xs + count_of t ys
          → (if b then suc (count_of t (xs ++ ys)) else count_of t (xs ++ ys)) ≡ (if b then suc (count_of t xs) else count_of t xs) + count_of t ys
      at true h = omega (arith, h)
      at false h = h

  count_filter : (g : Planned → Bool) (xs : List Planned) → count_of t (filter g xs) ≤ count_of t xs
  count_filter g [] = omega arith
  count_filter g (x ∷ xs) = kept (g x) (count_filter g xs)
    where
      tested : (b : Bool) → count_of t (filter g xs) ≤ count_of t xs → (if b then suc (count_of t (filter g xs)) else count_of t (filter g xs)) ≤ (if b then suc (count_of t xs) else count_of t xs)
      tested true h = omega (arith, h)
      tested false h = h

      kept : (b : Bool) → count_of t (filter g xs) ≤ count_of t xs → count_of t (if b then x ∷ filter g xs else filter g xs) ≤ (if t x then suc (count_of t xs) else count_of t xs)
      kept true h = tested (t x) h
      kept false h = let more : count_of t xs ≤ (if t x then suc (count_of t xs) else count_of t xs) = step_less (t x) (count_of t xs) in omega (arith, h, more)

  count_none : (g : Planned → Bool) (xs : List Planned) → ((x : Planned) → g x ≡ true → t x ≡ false) → count_of t (filter g xs) ≡ 0
  count_none g [] other = refl
  count_none g (x ∷ xs) other = kept (count_none g xs other) (g x) refl
    where
      kept : count_of t (filter g xs) ≡ 0 → (b : Bool) → g x ≡ b → count_of t (if b then x ∷ filter g xs else filter g xs) ≡ 0
      kept none true is = step_false (t x) (count_of t (filter g xs)) (other x is) ∙ none
      kept none false is = none

-- ---- by kind

module _ (s : SubId) where
  not_timer : (p : Planned) → is_timer p ≡ true → names s p ≡ false
  not_timer p is = elim p.object as (λ o. is_timer (record p { object = o }) ≡ true → same_object o (Sub s) ≡ false)
      [ Sub a ↦ λ h. absurd (true≢false (sym h)) | Timer a ↦ λ h. refl | Inbox a ↦ λ h. refl ] is

  not_inbox : (p : Planned) → is_inbox p ≡ true → names s p ≡ false
  not_inbox p is = elim p.object as (λ o. is_inbox (record p { object = o }) ≡ true → same_object o (Sub s) ≡ false)
      [ Sub a ↦ λ h. absurd (true≢false (sym h)) | Timer a ↦ λ h. refl | Inbox a ↦ λ h. refl ] is

  sorted_times : (ps : List Planned) → times s (by_kind ps) ≤ times s ps
  sorted_times ps =
      let all : times s (by_kind ps) ≡ times s (filter is_sub ps ++ filter is_timer ps) + times s (filter is_inbox ps) = count_append (names s) (filter is_sub ps ++ filter is_timer ps) (filter is_inbox ps) in
      let first : times s (filter is_sub ps ++ filter is_timer ps) ≡ times s (filter is_sub ps) + times s (filter is_timer ps) = count_append (names s) (filter is_sub ps) (filter is_timer ps) in
      let timers : times s (filter is_timer ps) ≡ 0 = count_none (names s) is_timer ps not_timer in
      let inboxes : times s (filter is_inbox ps) ≡ 0 = count_none (names s) is_inbox ps not_inbox in
      let subs : times s (filter is_sub ps) ≤ times s ps = count_filter (names s) is_sub ps in
      omega arith

-- ---- by a client's lines

word_subs : (st : Standing) (word : QueueWord) → (after_word st word).subs ≡ st.subs
word_subs st (Number n) = refl
word_subs st Any = refl

module _ (queues c : ℕ) (s : SubId) where
  -- the client is another, or all later subscriptions have higher numbers
  abbrev IsPast : ℕ → Type 0
  IsPast n = c ≡ s.client → s.number < n

  and_false : (a b : Bool) → (a ≡ true → b ≡ true → ⊥) → (a && b) ≡ false
  and_false true true h = absurd (h refl refl)
  and_false true false h = refl
  and_false false b h = refl

  other_named : (n : ℕ) → IsPast n → same_sub (record { client = c; number = n }) s ≡ false
  other_named n past = and_false (c == s.client) (n == s.number)
      (λ one two. let own : c ≡ s.client = eqb-true c s.client one in let same : n ≡ s.number = eqb-true n s.number two in let low : s.number < n = past own in omega (arith, same, low))

  -- what a line adds, and how many subscriptions are named behind it
  line_subs : (st : Standing) (l : ClientLine) → st.subs ≤ (after_line st l).subs
  line_subs st (line.Sub topic kind queue cache recaps faults plan) = omega arith
  line_subs st (line.Timer queue interval plan) = let same = word_subs st queue in omega (arith, same)
  line_subs st (line.Inbox queue faults plan) = let same = word_subs st queue in omega (arith, same)
  line_subs st (line.Order o) = omega arith
  line_subs st (line.Now m) = omega arith
  line_subs st line.NowClock = omega arith
  line_subs st (line.Pause n) = omega arith

  line_past : (st : Standing) (l : ClientLine) → IsPast st.subs → times s (line_object queues c st l) ≡ 0
  line_past st (line.Sub topic kind queue cache recaps faults plan) past = step_false (same_sub (record { client = c; number = st.subs }) s) 0 (other_named st.subs past)
  line_past st (line.Timer queue interval plan) past = refl
  line_past st (line.Inbox queue faults plan) past = refl
  line_past st (line.Order o) past = refl
  line_past st (line.Now m) past = refl
  line_past st line.NowClock past = refl
  line_past st (line.Pause n) past = refl

  lines_past : (st : Standing) (ls : List ClientLine) → IsPast st.subs → times s (objects_from queues c st ls) ≡ 0
  lines_past st [] past = refl
  lines_past st (l ∷ ls) past =
      let parts : times s (objects_from queues c st (l ∷ ls)) ≡ times s (line_object queues c st l) + times s (objects_from queues c (after_line st l) ls) = count_append (names s) (line_object queues c st l) (objects_from queues c (after_line st l) ls) in
      let more : st.subs ≤ (after_line st l).subs = line_subs st l in
      let here : times s (line_object queues c st l) ≡ 0 = line_past st l past in
      let later : times s (objects_from queues c (after_line st l) ls) ≡ 0 = lines_past (after_line st l) ls (λ own. let low : s.number < st.subs = past own in omega (arith, low, more)) in
      omega (arith, parts, here, later)

  -- a line names the subscription at most once, and then no later one does
  line_once : (st : Standing) (l : ClientLine) → (times s (line_object queues c st l) ≡ 0) ⊎ ((times s (line_object queues c st l) ≡ 1) × IsPast (after_line st l).subs)
  line_once st (line.Sub topic kind queue cache recaps faults plan) = at (same_sub (record { client = c; number = st.subs }) s) refl
    where
      at : (b : Bool) → same_sub (record { client = c; number = st.subs }) s ≡ b → ((if b then suc zero else zero) ≡ zero) ⊎ (((if b then suc zero else zero) ≡ suc zero) × IsPast (suc st.subs))
      at true is = let same : st.subs ≡ s.number = eqb-true st.subs s.number (and_parts (c == s.client) (st.subs == s.number) is).1 in inr (refl, λ own. omega (arith, same))
      at false is = inl refl
  line_once st (line.Timer queue interval plan) = inl refl
  line_once st (line.Inbox queue faults plan) = inl refl
  line_once st (line.Order o) = inl refl
  line_once st (line.Now m) = inl refl
  line_once st line.NowClock = inl refl
  line_once st (line.Pause n) = inl refl

  lines_once : (st : Standing) (ls : List ClientLine) → times s (objects_from queues c st ls) ≤ 1
  lines_once st [] = omega arith
  lines_once st (l ∷ ls) =
      let parts : times s (objects_from queues c st (l ∷ ls)) ≡ times s (line_object queues c st l) + times s (objects_from queues c (after_line st l) ls) = count_append (names s) (line_object queues c st l) (objects_from queues c (after_line st l) ls) in
      ⊎_elim
      (λ none. let few : times s (objects_from queues c (after_line st l) ls) ≤ 1 = lines_once (after_line st l) ls in omega (arith, parts, none, few))
      (λ one. let none : times s (objects_from queues c (after_line st l) ls) ≡ 0 = lines_past (after_line st l) ls one.1 in omega (arith, parts, one.0, none))
      (line_once st l)

-- ---- by all clients

module _ (queues : ℕ) (s : SubId) where
  clients_past : (c : ℕ) (clients : List (List ClientLine)) → s.client < c → times s (objects_of queues c clients) ≡ 0
  clients_past c [] past = refl
  clients_past c (lines ∷ rest) past =
      let parts : times s (objects_of queues c (lines ∷ rest)) ≡ times s (objects_from queues c (at_first []) lines) + times s (objects_of queues (suc c) rest) = count_append (names s) (objects_from queues c (at_first []) lines) (objects_of queues (suc c) rest) in
      let here : times s (objects_from queues c (at_first []) lines) ≡ 0 = lines_past queues c s (at_first []) lines (λ own. absurd (omega (arith, own, past))) in
      let later : times s (objects_of queues (suc c) rest) ≡ 0 = clients_past (suc c) rest (omega (arith, past)) in
      omega (arith, parts, here, later)

  clients_once : (c : ℕ) (clients : List (List ClientLine)) → times s (objects_of queues c clients) ≤ 1
  clients_once c [] = omega arith
  clients_once c (lines ∷ rest) =
      let parts : times s (objects_of queues c (lines ∷ rest)) ≡ times s (objects_from queues c (at_first []) lines) + times s (objects_of queues (suc c) rest) = count_append (names s) (objects_from queues c (at_first []) lines) (objects_of queues (suc c) rest) in
      own_or_other parts (clients_once (suc c) rest) (c == s.client) refl
    where
      own_or_other : times s (objects_of queues c (lines ∷ rest)) ≡ times s (objects_from queues c (at_first []) lines) + times s (objects_of queues (suc c) rest)
          → times s (objects_of queues (suc c) rest) ≤ 1 → (b : Bool) → (c == s.client) ≡ b → times s (objects_of queues c (lines ∷ rest)) ≤ 1
      own_or_other parts later_few true is =
          let own : c ≡ s.client = eqb-true c s.client is in
          let here : times s (objects_from queues c (at_first []) lines) ≤ 1 = lines_once queues c s (at_first []) lines in
          let later : times s (objects_of queues (suc c) rest) ≡ 0 = clients_past (suc c) rest (omega (arith, own)) in
          omega (arith, parts, here, later)
      own_or_other parts later_few false is =
          let here : times s (objects_from queues c (at_first []) lines) ≡ 0 = lines_past queues c s (at_first []) lines (λ own. absurd (eqb-false c s.client is own)) in
          omega (arith, parts, here, later_few)

-- the objects of a script
pub objects_alone : (script : ScriptData) → AreAlone (setting_of script).objects
objects_alone script = record {
  once = λ s.
      let less : times s (by_kind (objects_of (queues_of script.shape) 0 script.clients)) ≤ times s (objects_of (queues_of script.shape) 0 script.clients) = sorted_times s (objects_of (queues_of script.shape) 0 script.clients) in
      let few : times s (objects_of (queues_of script.shape) 0 script.clients) ≤ 1 = clients_once (queues_of script.shape) s 0 script.clients in
      omega (arith, less, few);
}
