-- The passes halt: after some of them no actor can go on, and then each has made as many steps as in any order.
use Rattle.std.specs.Prelude.{slice_get, nat_lt}
use Rattle.std.specs.Option.{option_or}
use Rattle.std.proofs.Common.{◌≡◌, ℕ, zero, suc, ◌+◌, ◌<◌, ◌≤◌, Bool, true, false, cond, List, [], ◌∷◌, ◌++◌, length, map, get_or, set, Option, None, Some, refl, sym, ◌∙◌, ap, subst, arith, ◌⊎◌, inl, inr, ⊎_elim, get_or-set_same, get_or-set_other}
use Rattle.std.proofs.lemmas.Bool.{cases_eq, cases_lt, cases_Bool, eq-eqb, ne_eqb, true≢false, ltb-true, ltb-false, lt-ltb, le-ltb}
use Rattle.std.proofs.lemmas.List.{length-set, length-append, map-append, get_or_past}
use Rattle.mama_journal.specs.Journal.{numbers_below, first_said}
use Rattle.mama_check_order.specs.Search.{entries_of, IsReached, IsReady}
use Rattle.mama_check_order.specs.declared.order.Need.{Need}
use Rattle.mama_check_order.proofs.Orders.{Holds, within_limit, reached_more}
use Rattle.mama_check_order.proofs.Searches.{exists, left, left_less}
use Rattle.mama_script.specs.Script.{ScriptData}
use Rattle.mama_record.specs.RunData.{RunData}
use Rattle.mama_rules_rounds.specs.Stage.{Stage}
use Rattle.mama_rules_rounds.specs.Sections.{setting_of}
use Rattle.mama_check.specs.declared.verdict.Actor.{Actor}
use Rattle.mama_replay.specs.declared.step.Step.{Step}
use Rattle.mama_replay.specs.Followed.{after_steps}
use Rattle.mama_replay.specs.Passes.{next_step, steps_by, pass, passes, in_order, left_by}
use Rattle.mama_check_order.specs.Turns.{IsStop}
use Rattle.mama_replay.proofs.Counts.{may_come, is_ready, made_more, gone_on, within_at}
use Rattle.mama_replay.proofs.Following.{Stands, Moves, stands_same}
use Rattle.mama_replay.proofs.Passing.{after_more, first_empty, second_empty}
pub use Rattle.mama_replay.proofs.Actors.{count_of_numbers, first_part, later_part, mapped_number}

-- ---- actors one after another, each with its number

abbrev pub Each : (Actor → ℕ → Type 0) → ℕ → List Actor → Type 0
Each P a [] = Unit {0}
Each P a (who ∷ others) = P who a × Each P (suc a) others

pub each_append : (P : Actor → ℕ → Type 0) (a : ℕ) (xs ys : List Actor) → Each P a xs → Each P (a + length xs) ys → Each P a (xs ++ ys)
each_append P a [] ys first later = let same : a + 0 ≡ a = omega arith in subst (λ (n : ℕ). Each P n ys) same later
each_append P a (x ∷ xs) ys first later =
    let place : a + suc (length xs) ≡ suc a + length xs = omega arith in
    (first.0, each_append P (suc a) xs ys first.1 (subst (λ (n : ℕ). Each P n ys) place later))

pub each_number : (P : Actor → ℕ → Type 0) (a : ℕ) (f : ℕ → Actor) (n : ℕ) → ((k : ℕ) → k < n → P (f k) (a + k)) → Each P a (map f (numbers_below n))
each_number P a f zero each = tt
each_number P a f (suc n) each =
    subst (Each P a) (sym (map-append f (numbers_below n) (n ∷ [])))
    (each_append P a (map f (numbers_below n)) (f n ∷ []) (each_number P a f n (λ k low. each k (omega arith)))
    (subst (λ (k : ℕ). P (f n) (a + k)) (sym (count_of_numbers n f)) (each n (omega arith)), tt))

-- ---- how far each has come

abbrev pub made_of : List ℕ → ℕ → ℕ
made_of made b = get_or made b 0

-- An actor makes its next step where that may come, and none where it may not.
pub record IsMoving (script : ScriptData) (run : RunData) (needs : List (List (Option Need))) (who : Actor) (a : ℕ) : Type 0 where
  pub steps : ℕ → List Step
  pub one : (k : ℕ) → k < length (entries_of needs a) → length (steps k) ≡ 1
  pub moves : (made : ℕ → ℕ) (s : Stage) → Stands script run made s → Moves script run needs made s who a (steps (made a))

any_or_none : (xs : List Step) → (xs ≡ []) ⊎ (0 < length xs)
any_or_none [] = inl refl
any_or_none (x ∷ xs) = inr (omega arith)

past_end : {X : Type 0} (xs : List X) (k : ℕ) → slice_get xs k ≡ None → length xs ≤ k
past_end [] k none = omega arith
past_end (x ∷ xs) zero none = absurd cc
past_end (x ∷ xs) (suc k) none = let rest = past_end xs k none in omega arith

no_steps : (xs : List Step) → xs ≡ [] → length xs ≡ 0
no_steps xs none = ap (λ (ys : List Step). length ys) none

module _ (script : ScriptData) (run : RunData) (needs : List (List (Option Need))) where
  ready_parts : (made : List ℕ) (a : ℕ) → is_ready needs (made_of made) a ≡ true → (made_of made a < length (entries_of needs a)) × IsReady needs made a
  ready_parts made a ready = by_entry (slice_get (entries_of needs a) (made_of made a)) refl ready
    where
      by_entry : (o : Option (Option Need)) → slice_get (entries_of needs a) (made_of made a) ≡ o → may_come (made_of made) o ≡ true → (made_of made a < length (entries_of needs a)) × IsReady needs made a
      by_entry None at may = absurd (true≢false (sym may))
      by_entry (Some None) at may = (within_at (entries_of needs a) (made_of made a) None at, record { need = None; next = at; met = tt })
      by_entry (Some (Some need)) at may = (within_at (entries_of needs a) (made_of made a) (Some need) at, record { need = Some need; next = at; met = ltb-true need.entry (made_of made need.actor) may })

  -- an actor that went on has made one more
  same_made : (made : List ℕ) (a : ℕ) → a < length made → is_ready needs (made_of made) a ≡ true → (b : ℕ) → gone_on needs (made_of made) a b ≡ made_of (set made a (get_or made a 0 + 1)) b
  same_made made a inside ready b =
      ap (λ (t : Bool). cond t (made_more (made_of made) a b) (made_of made b)) ready
      ∙ ⊎_elim
      (λ (same : a ≡ b).
      let here : made_more (made_of made) a b ≡ suc (made_of made b) = ap (λ (t : Bool). cond t (suc (made_of made b)) (made_of made b)) (eq-eqb a b same) in
      let set_here : get_or (set made a (get_or made a 0 + 1)) b 0 ≡ get_or made a 0 + 1 = ap (λ (x : ℕ). get_or (set made a (get_or made a 0 + 1)) x 0) (sym same) ∙ get_or-set_same made a (get_or made a 0 + 1) 0 inside in
      let which : get_or made a 0 ≡ get_or made b 0 = ap (λ (x : ℕ). get_or made x 0) same in
      omega arith)
      (λ apart. ap (λ (t : Bool). cond t (suc (made_of made b)) (made_of made b)) (ne_eqb a b apart) ∙ sym (get_or-set_other made a b (get_or made a 0 + 1) 0 (λ e. apart (sym e))))
      (cases_eq a b)

  -- Where some actors have had their turn: how far each has come, and if no step was made, none of them could go on.
  pub record Swept (made : List ℕ) (a count : ℕ) (s : Stage) (steps : List Step) : Type 0 where
    pub now : List ℕ
    pub turns : List ℕ
    pub many : length now ≡ length needs
    pub reached : IsReached needs now turns
    pub stands : Stands script run (made_of now) (after_steps (setting_of script) s steps)
    pub fewer : left needs now + length steps ≡ left needs made
    pub still : steps ≡ [] → (i : ℕ) → i < count → is_ready needs (made_of made) (a + i) ≡ false

  pub sweep : (made turns : List ℕ) (a : ℕ) (s : Stage) (whos : List Actor) → Each (IsMoving script run needs) a whos → length made ≡ length needs → IsReached needs made turns → Stands script run (made_of made) s
      → Swept made a (length whos) s (steps_by (setting_of script) run s whos)
  sweep made turns a s [] all many reached stands = record {
    now = made;
    turns = turns;
    many = many;
    reached = reached;
    stands = stands;
    fewer = omega arith;
    still = λ none i low. absurd (omega arith);
  }
  sweep made turns a s (who ∷ others) all many reached stands = ⊎_elim
      (λ (ready : is_ready needs (made_of made) a ≡ true).
      let parts = ready_parts made a ready in
      let short = parts.0 in
      let there = exists needs a (made_of made a) parts.0 in
      let inside : a < length made = omega (arith, there, many) in
      let next : next_step run s who ≡ all.0.steps (made_of made a) = move.next ∙ ap (λ (t : Bool). cond t (all.0.steps (made_of made a)) []) ready in
      let one : length (next_step run s who) ≡ 1 = ap (λ (xs : List Step). length xs) next ∙ all.0.one (made_of made a) parts.0 in
      let rest = sweep (set made a (get_or made a 0 + 1)) (turns ++ a ∷ []) (suc a) (after_steps (setting_of script) s (next_step run s who)) others all.1
      (length-set made a (get_or made a 0 + 1) ∙ many) (reached_more needs made turns a inside reached parts.1)
      (stands_same script run (gone_on needs (made_of made) a) (made_of (set made a (get_or made a 0 + 1))) (after_steps (setting_of script) s (next_step run s who)) (same_made made a inside ready) move.stands) in
      let less = left_less needs made a inside parts.0 in
      let fewer = rest.fewer in
      record {
        now = rest.now;
        turns = rest.turns;
        many = rest.many;
        reached = rest.reached;
        stands = subst (Stands script run (made_of rest.now)) (sym (after_more (setting_of script) s (next_step run s who) (steps_by (setting_of script) run (after_steps (setting_of script) s (next_step run s who)) others))) rest.stands;
        fewer = omega (arith, less, fewer, one, added);
        still = λ none i low. let no_next = no_steps (next_step run s who) (first_empty (next_step run s who) _ none) in absurd (omega (arith, one, no_next));
      })
      (λ (unready : is_ready needs (made_of made) a ≡ false).
      let next : next_step run s who ≡ [] = move.next ∙ ap (λ (t : Bool). cond t (all.0.steps (made_of made a)) []) unready in
      let rest = sweep made turns (suc a) (after_steps (setting_of script) s (next_step run s who)) others all.1 many reached
      (stands_same script run (gone_on needs (made_of made) a) (made_of made) (after_steps (setting_of script) s (next_step run s who)) (λ b. ap (λ (t : Bool). cond t (made_more (made_of made) a b) (made_of made b)) unready) move.stands) in
      let no_next = no_steps (next_step run s who) next in
      let fewer = rest.fewer in
      record {
        now = rest.now;
        turns = rest.turns;
        many = rest.many;
        reached = rest.reached;
        stands = subst (Stands script run (made_of rest.now)) (sym (after_more (setting_of script) s (next_step run s who) (steps_by (setting_of script) run (after_steps (setting_of script) s (next_step run s who)) others))) rest.stands;
        fewer = omega (arith, fewer, no_next, added);
        still = λ none i low. at_place unready (rest.still (second_empty (next_step run s who) _ none)) i low;
      })
      (cases_Bool (is_ready needs (made_of made) a))
    where
      move : Moves script run needs (made_of made) s who a (all.0.steps (made_of made a))
      move = all.0.moves (made_of made) s stands

      added : length (steps_by (setting_of script) run s (who ∷ others)) ≡ length (next_step run s who) + length (steps_by (setting_of script) run (after_steps (setting_of script) s (next_step run s who)) others)
      added = length-append (next_step run s who) (steps_by (setting_of script) run (after_steps (setting_of script) s (next_step run s who)) others)

      at_place : is_ready needs (made_of made) a ≡ false → ((i : ℕ) → i < length others → is_ready needs (made_of made) (suc a + i) ≡ false) → (i : ℕ) → i < suc (length others) → is_ready needs (made_of made) (a + i) ≡ false
      at_place here later zero low = let same : a ≡ a + 0 = omega arith in subst (λ (n : ℕ). is_ready needs (made_of made) n ≡ false) same here
      at_place here later (suc i) low = let same : suc a + i ≡ a + suc i = omega arith in subst (λ (n : ℕ). is_ready needs (made_of made) n ≡ false) same (later i (omega arith))

  -- ---- until no one goes on

  -- So many passes were made, and after them no actor can go on.
  pub record IsHalted (s : Stage) : Type 0 where
    pub count : ℕ
    pub made : List ℕ
    pub turns : List ℕ
    pub reached : IsReached needs made turns
    pub stands : Stands script run (made_of made) (after_steps (setting_of script) s (passes (setting_of script) run count s))
    pub ended : pass (setting_of script) run (after_steps (setting_of script) s (passes (setting_of script) run count s)) ≡ []
    pub still : (b : ℕ) → is_ready needs (made_of made) b ≡ false

  module _ (moving : Each (IsMoving script run needs) 0 (in_order script.shape)) (all : length needs ≤ length (in_order script.shape)) where
    stopped : (made turns : List ℕ) (s : Stage) → IsReached needs made turns → Stands script run (made_of made) s → Swept made 0 (length (in_order script.shape)) s (pass (setting_of script) run s) → pass (setting_of script) run s ≡ [] → IsHalted s
    stopped made turns s reached stands swept none = record {
      count = 0;
      made = made;
      turns = turns;
      reached = reached;
      stands = stands;
      ended = none;
      still = λ b. ⊎_elim
          (λ low. let same : 0 + b ≡ b = omega arith in subst (λ (n : ℕ). is_ready needs (made_of made) n ≡ false) same (swept.still none b low))
          (λ past. no_entry b (get_or_past needs b [] (omega (arith, past, all))))
          (cases_lt b (length (in_order script.shape)));
    }
      where
        nothing : (k : ℕ) → may_come (made_of made) (slice_get {X = Option Need} [] k) ≡ false
        nothing zero = refl
        nothing (suc k) = refl

        no_entry : (b : ℕ) → entries_of needs b ≡ [] → is_ready needs (made_of made) b ≡ false
        no_entry b none = ap (λ (own : List (Option Need)). may_come (made_of made) (slice_get own (made_of made b))) none ∙ nothing (made_of made b)

    pub halts : (fuel : ℕ) (made turns : List ℕ) (s : Stage) → left needs made ≤ fuel → length made ≡ length needs → IsReached needs made turns → Stands script run (made_of made) s → IsHalted s
    halts zero made turns s enough many reached stands =
        let swept = sweep made turns 0 s (in_order script.shape) moving many reached stands in
        ⊎_elim
        (λ none. stopped made turns s reached stands swept none)
        (λ some. let fewer = swept.fewer in absurd (omega (arith, some, fewer, enough)))
        (any_or_none (pass (setting_of script) run s))
    halts (suc fuel) made turns s enough many reached stands =
        let swept = sweep made turns 0 s (in_order script.shape) moving many reached stands in
        ⊎_elim
        (λ none. stopped made turns s reached stands swept none)
        (λ some.
        let fewer = swept.fewer in
        let rest = halts fuel swept.now swept.turns (after_steps (setting_of script) s (pass (setting_of script) run s)) (omega (arith, some, fewer, enough)) swept.many swept.reached swept.stands in
        let there = sym (after_more (setting_of script) s (pass (setting_of script) run s) (passes (setting_of script) run rest.count (after_steps (setting_of script) s (pass (setting_of script) run s)))) in
        record {
          count = suc rest.count;
          made = rest.made;
          turns = rest.turns;
          reached = rest.reached;
          stands = subst (Stands script run (made_of rest.made)) there rest.stands;
          ended = subst (λ (t : Stage). pass (setting_of script) run t ≡ []) there rest.ended;
          still = rest.still;
        })
        (any_or_none (pass (setting_of script) run s))

  -- ---- how far each has come then

  pub holds_still : (made : List ℕ) → ((b : ℕ) → is_ready needs (made_of made) b ≡ false) → (a : ℕ) → Holds needs (made_of made) a
  holds_still made still a = by_entry (slice_get (entries_of needs a) (made_of made a)) refl (still a)
    where
      by_entry : (o : Option (Option Need)) → slice_get (entries_of needs a) (made_of made a) ≡ o → may_come (made_of made) o ≡ false → Holds needs (made_of made) a
      by_entry None at may = inl (past_end (entries_of needs a) (made_of made a) at)
      by_entry (Some None) at may = absurd (true≢false may)
      by_entry (Some (Some need)) at may = inr (need, at, ltb-false need.entry (made_of made need.actor) may)

  module _ (actor entry : ℕ) (stop : IsStop needs actor entry) (made turns : List ℕ) (reached : IsReached needs made turns) (still : (b : ℕ) → is_ready needs (made_of made) b ≡ false) where
    -- the actor that stops first has come to its entry
    pub made_here : made_of made actor ≡ entry
    made_here =
        let most = stop.most turns reached.follow in
        let is = reached.counts actor in
        let least = within_limit needs (made_of made) (holds_still made still) stop.turns stop.follow actor in
        let here = stop.here in
        omega (arith, most, is, least, here)

    -- and those before it to their end
    pub made_before : (a : ℕ) → a < actor → length (entries_of needs a) ≤ made_of made a
    made_before a low =
        let least = within_limit needs (made_of made) (holds_still made still) stop.turns stop.follow a in
        let all = stop.before a low in
        omega (arith, least, all)

  -- ---- the first that has an entry left

  -- who has an entry left, by how many steps it has made
  abbrev pub is_left : List ℕ → Actor → ℕ → Option (Actor × ℕ)
  is_left made who a = cond (nat_lt (made_of made a) (length (entries_of needs a))) (Some (who, suc (made_of made a))) None

  pub first_stuck : (s : Stage) (made : List ℕ) (a : ℕ) (whos : List Actor) → Each (λ who b. left_by run s who ≡ is_left made who b) a whos → (i : ℕ) (who : Actor) → slice_get whos i ≡ Some who
      → ((b : ℕ) → b < a + i → length (entries_of needs b) ≤ made_of made b) → made_of made (a + i) < length (entries_of needs (a + i)) → first_said (left_by run s) whos ≡ Some (who, suc (made_of made (a + i)))
  first_stuck s made a [] each zero who at before short = absurd cc
  first_stuck s made a [] each (suc i) who at before short = absurd cc
  first_stuck s made a (x ∷ xs) each zero who at before short =
      let same : x ≡ who = cc in
      let place : a + 0 ≡ a = omega arith in
      let here : made_of made a < length (entries_of needs a) = subst (λ (n : ℕ). made_of made n < length (entries_of needs n)) place short in
      let is : left_by run s x ≡ Some (x, suc (made_of made a)) = each.0 ∙ ap (λ (t : Bool). cond t (Some (x, suc (made_of made a))) None) (lt-ltb (made_of made a) (length (entries_of needs a)) here) in
      ap (λ (o : Option (Actor × ℕ)). option_or o (first_said (left_by run s) xs)) is
      ∙ ap (λ (w : Actor). Some (w, suc (made_of made a))) same
      ∙ ap (λ (n : ℕ). Some (who, suc (made_of made n))) (sym place)
  first_stuck s made a (x ∷ xs) each (suc i) who at before short =
      let place : a + suc i ≡ suc a + i = omega arith in
      let none : left_by run s x ≡ None = each.0 ∙ ap (λ (t : Bool). cond t (Some (x, suc (made_of made a))) None) (le-ltb (made_of made a) (length (entries_of needs a)) (before a (omega arith))) in
      ap (λ (o : Option (Actor × ℕ)). option_or o (first_said (left_by run s) xs)) none
      ∙ first_stuck s made (suc a) xs each.1 i who at (λ b low. before b (omega arith)) (subst (λ (n : ℕ). made_of made n < length (entries_of needs n)) place short)
      ∙ ap (λ (n : ℕ). Some (who, suc (made_of made n))) (sym place)
