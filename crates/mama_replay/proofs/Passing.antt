-- The passes make the steps that their ranks say, pass by pass.
use Rattle.std.specs.Prelude.{◌==◌, slice_get}
use Rattle.std.specs.List.{flat_map}
use Rattle.std.proofs.Common.{◌≡◌, ℕ, zero, suc, ◌+◌, ◌<◌, ◌≤◌, Bool, true, false, cond, List, [], ◌∷◌, ◌++◌, length, map, get_or, Option, None, Some, refl, sym, ◌∙◌, ap, subst, arith, ⊎_elim, append-nil, append_assoc}
use Rattle.std.proofs.lemmas.Bool.{cases_eq, cases_lt, eq-eqb, ne_eqb, false_from_ne_true}
use Rattle.std.proofs.lemmas.List.{map-append, length_push}
use Rattle.std.proofs.lemmas.List.Concat.{flat_map-append}
use Rattle.mama_journal.specs.Journal.{numbers_below}
use Rattle.mama_journal.specs.Lane.{by_port}
use Rattle.mama_laws_legal.proofs.Lists.{by_port-append}
use Rattle.mama_check_order.specs.Search.{entries_of}
use Rattle.mama_check_order.specs.declared.order.Need.{Need}
use Rattle.mama_event.specs.declared.publisher_entry.PublisherEntry.{PublisherEntry}
use Rattle.mama_script.specs.Script.{ScriptData}
use Rattle.mama_record.specs.RunData.{RunData}
use Rattle.mama_rules_rounds.specs.Setting.{Setting}
use Rattle.mama_rules_rounds.specs.Stage.{Stage}
use Rattle.mama_rules_rounds.specs.Sections.{setting_of}
use Rattle.mama_check.specs.declared.verdict.Actor.{Actor}
use Rattle.mama_check.specs.declared.verdict.Actor.TheVariants as actor
use Rattle.mama_replay.specs.declared.step.Step.{Step}
use Rattle.mama_replay.specs.Followed.{did, after_steps}
use Rattle.mama_replay.specs.Passes.{by_itself, by_port_of, next_step, steps_by, pass, passes, in_order}
use Rattle.mama_replay.specs.Ranks.{ranks_at, rank_at}
use Rattle.mama_replay.specs.Dealt.{client_dealt, publisher_dealt, taker_dealt, port_in, in_passes}
use Rattle.mama_replay.proofs.Counts.{is_ready, gone_on, IsRanking, IsCut, IsWithin, ready_rank, rank_ready, within_next, rising, of_pass, one_of_pass, at_within}
use Rattle.mama_replay.proofs.Following.{Stands, Moves, step_by}
use Rattle.mama_replay.proofs.FollowingOwn.{own_step}

-- ---- steps one after another

pub after_more : (setting : Setting) (s : Stage) (first later : List Step) → after_steps setting s (first ++ later) ≡ after_steps setting (after_steps setting s first) later
after_more setting s [] later = refl
after_more setting s (step ∷ steps) later = after_more setting (did setting s step.actor step.port) steps later

pub passes_more : (setting : Setting) (run : RunData) (n : ℕ) (s : Stage) → passes setting run (suc n) s ≡ passes setting run n s ++ pass setting run (after_steps setting s (passes setting run n s))
passes_more setting run zero s = append-nil (pass setting run s)
passes_more setting run (suc n) s =
    ap (λ (later : List Step). pass setting run s ++ later) (passes_more setting run n (after_steps setting s (pass setting run s)))
    ∙ sym (append_assoc (pass setting run s) (passes setting run n (after_steps setting s (pass setting run s))) _)
    ∙ ap (λ (t : Stage). (pass setting run s ++ passes setting run n (after_steps setting s (pass setting run s))) ++ pass setting run t)
    (sym (after_more setting s (pass setting run s) (passes setting run n (after_steps setting s (pass setting run s)))))

-- ---- the steps of one actor

-- The steps of an actor of this number, with the passes that they come in: a place for each, in order.
pub record AreOwn (ranks : List (List ℕ)) (needs : List (List (Option Need))) (a : ℕ) (dealt : List (ℕ × Step)) (steps : ℕ → List Step) : Type 0 where
  pub inside : (k : ℕ) → k < length (entries_of needs a) → k < length dealt
  pub at : (k : ℕ) (x : ℕ × Step) → slice_get dealt k ≡ Some x → (k < length (entries_of needs a)) × (x.0 ≡ rank_at ranks a k) × (steps k ≡ x.1 ∷ [])

none_past : {X : Type 0} (xs : List X) (k : ℕ) → length xs ≤ k → slice_get xs k ≡ None
none_past [] zero past = refl
none_past [] (suc k) past = refl
none_past (x ∷ xs) zero past = absurd (omega arith)
none_past (x ∷ xs) (suc k) past = none_past xs k (omega arith)

module _ (needs : List (List (Option Need))) (ranks : List (List ℕ)) (r : IsRanking needs ranks) (made : ℕ → ℕ) (m a : ℕ) (w : IsWithin needs ranks r made m a) (dealt : List (ℕ × Step)) (steps : ℕ → List Step) (own : AreOwn ranks needs a dealt steps) where
  cut : IsCut needs ranks made m a
  cut = w.others a (omega arith)

  -- of one actor, a pass has its next step, if that is ready
  pub step_of_pass : by_port m dealt ≡ cond (is_ready needs made a) (steps (made a)) []
  step_of_pass =
      one_of_pass m dealt (made a)
      (λ k x low at. let is = own.at k x at in let before = cut.before k low in omega (arith, is.1, before))
      (λ k x high at.
      let is = own.at k x at in
      let inside = is.0 in
      let least = cut.after (made a) (omega arith) (omega arith) in
      let up = rising needs ranks r a (made a) k high inside in
      omega (arith, is.1, least, up))
      ∙ by_next (slice_get dealt (made a)) refl
    where
      by_next : (o : Option (ℕ × Step)) → slice_get dealt (made a) ≡ o → of_pass m o ≡ cond (is_ready needs made a) (steps (made a)) []
      by_next None at = sym (ap (λ (t : Bool). cond t (steps (made a)) []) (false_from_ne_true (is_ready needs made a) unready))
        where
          unready : is_ready needs made a ≡ true → ⊥
          unready ready =
              let low = (ready_rank needs ranks r made m a w ready).0 in
              let inside = own.inside (made a) low in
              let some = at_within dealt (made a) inside in
              no_both (sym at ∙ some.is)
            where
              no_both : {x : ℕ × Step} → None ≡ Some x → ⊥
              no_both is = cc
      by_next (Some x) at = ⊎_elim
          (λ (same : x.0 ≡ m).
          let is = own.at (made a) x at in
          let ready = rank_ready needs ranks r made m a w is.0 (sym is.1 ∙ same) in
          ap (λ (t : Bool). cond t (x.1 ∷ []) []) (eq-eqb x.0 m same) ∙ sym is.2 ∙ sym (ap (λ (t : Bool). cond t (steps (made a)) []) ready))
          (λ apart.
          let is = own.at (made a) x at in
          let unready : is_ready needs made a ≡ false = false_from_ne_true (is_ready needs made a) (λ ready. apart (is.1 ∙ (ready_rank needs ranks r made m a w ready).1)) in
          ap (λ (t : Bool). cond t (x.1 ∷ []) []) (ne_eqb x.0 m apart) ∙ sym (ap (λ (t : Bool). cond t (steps (made a)) []) unready))
          (cases_eq x.0 m)

-- ---- the actors of a pass, one after another

-- An actor of this number: its steps with their passes, and that it makes them.
pub record IsGoing (script : ScriptData) (run : RunData) (needs : List (List (Option Need))) (ranks : List (List ℕ)) (dealt : Actor → List (ℕ × Step)) (who : Actor) (a : ℕ) : Type 0 where
  pub steps : ℕ → List Step
  pub own : AreOwn ranks needs a (dealt who) steps
  pub moves : (made : ℕ → ℕ) (s : Stage) → Stands script run made s → Moves script run needs made s who a (steps (made a))

abbrev pub AreGoing : ScriptData → RunData → List (List (Option Need)) → List (List ℕ) → (Actor → List (ℕ × Step)) → ℕ → List Actor → Type 0
AreGoing script run needs ranks dealt a [] = Unit {0}
AreGoing script run needs ranks dealt a (who ∷ others) = IsGoing script run needs ranks dealt who a × AreGoing script run needs ranks dealt (suc a) others

pub going_append : (script : ScriptData) (run : RunData) (needs : List (List (Option Need))) (ranks : List (List ℕ)) (dealt : Actor → List (ℕ × Step)) (a : ℕ) (xs ys : List Actor)
    → AreGoing script run needs ranks dealt a xs → AreGoing script run needs ranks dealt (a + length xs) ys → AreGoing script run needs ranks dealt a (xs ++ ys)
going_append script run needs ranks dealt a [] ys first later = let same : a + 0 ≡ a = omega arith in subst (λ (n : ℕ). AreGoing script run needs ranks dealt n ys) same later
going_append script run needs ranks dealt a (x ∷ xs) ys first later =
    let place : a + suc (length xs) ≡ suc a + length xs = omega arith in
    (first.0, going_append script run needs ranks dealt (suc a) xs ys first.1 (subst (λ (n : ℕ). AreGoing script run needs ranks dealt n ys) place later))

count_below : (n : ℕ) (f : ℕ → Actor) → length (map f (numbers_below n)) ≡ n
count_below zero f = refl
count_below (suc n) f = ap (λ (xs : List Actor). length xs) (map-append f (numbers_below n) (n ∷ [])) ∙ length_push (map f (numbers_below n)) (f n) ∙ (let ih = count_below n f in omega (arith, ih))

-- actors of a kind, by their numbers
pub going_numbers : (script : ScriptData) (run : RunData) (needs : List (List (Option Need))) (ranks : List (List ℕ)) (dealt : Actor → List (ℕ × Step)) (a : ℕ) (f : ℕ → Actor) (n : ℕ)
    → ((k : ℕ) → k < n → IsGoing script run needs ranks dealt (f k) (a + k)) → AreGoing script run needs ranks dealt a (map f (numbers_below n))
going_numbers script run needs ranks dealt a f zero each = tt
going_numbers script run needs ranks dealt a f (suc n) each =
    subst (AreGoing script run needs ranks dealt a) (sym (map-append f (numbers_below n) (n ∷ [])))
    (going_append script run needs ranks dealt a (map f (numbers_below n)) (f n ∷ []) (going_numbers script run needs ranks dealt a f n (λ k low. each k (omega arith)))
    (subst (λ (k : ℕ). IsGoing script run needs ranks dealt (f n) (a + k)) (sym (count_below n f)) (each n (omega arith)), tt))

-- where some actors have gone on within a pass
pub record HasGone (script : ScriptData) (run : RunData) (needs : List (List (Option Need))) (ranks : List (List ℕ)) (r : IsRanking needs ranks) (m a : ℕ) (s : Stage) : Type 0 where
  pub made : ℕ → ℕ
  pub within : IsWithin needs ranks r made m a
  pub stands : Stands script run made s

module _ (script : ScriptData) (run : RunData) (needs : List (List (Option Need))) (ranks : List (List ℕ)) (r : IsRanking needs ranks) (dealt : Actor → List (ℕ × Step)) where
  pub record IsPassed (m a : ℕ) (s : Stage) (whos : List Actor) (going : AreGoing script run needs ranks dealt a whos) : Type 0 where
    pub steps : steps_by (setting_of script) run s whos ≡ by_port m (flat_map dealt whos)
    pub gone : HasGone script run needs ranks r m (a + length whos) (after_steps (setting_of script) s (steps_by (setting_of script) run s whos))

  pub actors_pass : (m a : ℕ) (s : Stage) (whos : List Actor) (going : AreGoing script run needs ranks dealt a whos) → HasGone script run needs ranks r m a s → IsPassed m a s whos going
  actors_pass m a s [] going gone = record {
    steps = refl;
    gone = let same : a ≡ a + 0 = omega arith in subst (λ (n : ℕ). HasGone script run needs ranks r m n s) same gone;
  }
  actors_pass m a s (who ∷ others) going gone =
      let first = going.0 in
      let move = first.moves gone.made s gone.stands in
      let one : by_port m (dealt who) ≡ next_step run s who = step_of_pass needs ranks r gone.made m a gone.within (dealt who) first.steps first.own ∙ sym move.next in
      let next : Stage = after_steps (setting_of script) s (next_step run s who) in
      let rest = actors_pass m (suc a) (after_steps (setting_of script) s (next_step run s who)) others going.1 (record { made = gone_on needs gone.made a; within = within_next needs ranks r gone.made m a gone.within; stands = move.stands }) in
      let place : suc a + length others ≡ a + suc (length others) = omega arith in
      record {
        steps = ap (λ (steps : List Step). next_step run s who ++ steps) rest.steps
            ∙ ap (λ (steps : List Step). steps ++ by_port m (flat_map dealt others)) (sym one)
            ∙ sym (by_port-append m (dealt who) (flat_map dealt others));
        gone = subst (λ (n : ℕ). HasGone script run needs ranks r m n (after_steps (setting_of script) s (steps_by (setting_of script) run s (who ∷ others)))) place
            (subst (HasGone script run needs ranks r m (suc a + length others)) (sym (after_more (setting_of script) s (next_step run s who) (steps_by (setting_of script) run (after_steps (setting_of script) s (next_step run s who)) others))) rest.gone);
      }

  -- after all actors it is the next pass
  pub next_pass : (m n : ℕ) (s : Stage) → length needs ≤ n → HasGone script run needs ranks r m n s → HasGone script run needs ranks r (suc m) 0 s
  next_pass m n s all gone = record {
    made = gone.made;
    within = record {
      earlier = λ b low. absurd (omega arith);
      others = λ b high. ⊎_elim
          (λ low. gone.within.earlier b low)
          (λ past. let none : length (entries_of needs b) ≡ 0 = nothing needs b (omega arith) in
          let cut = gone.within.others b past in
          record { within = cut.within; before = λ k less. let few = cut.within in absurd (omega arith); after = λ k least inside. absurd (omega arith) })
          (cases_lt b n);
    };
    stands = gone.stands;
  }
    where
      nothing : (needs : List (List (Option Need))) (b : ℕ) → length needs ≤ b → length (entries_of needs b) ≡ 0
      nothing [] b past = refl
      nothing (own ∷ needs) zero past = absurd (omega arith)
      nothing (own ∷ needs) (suc b) past = nothing needs b (omega arith)

  module _ (start : Stage) (begun : HasGone script run needs ranks r 0 0 start) (going : AreGoing script run needs ranks dealt 0 (in_order script.shape)) (all : length needs ≤ length (in_order script.shape)) where
    abbrev all_of : List (ℕ × Step)
    all_of = flat_map dealt (in_order script.shape)

    -- so many passes make the steps of these passes, and then the run stands at the next
    pub record ArePasses (n : ℕ) : Type 0 where
      pub steps : passes (setting_of script) run n start ≡ in_passes n (flat_map dealt (in_order script.shape))
      pub gone : HasGone script run needs ranks r n 0 (after_steps (setting_of script) start (passes (setting_of script) run n start))

    pub are_passes : (n : ℕ) → ArePasses n
    are_passes zero = record { steps = refl; gone = begun }
    are_passes (suc n) =
        let before = are_passes n in
        let now : Stage = after_steps (setting_of script) start (passes (setting_of script) run n start) in
        let passed = actors_pass n 0 now (in_order script.shape) going before.gone in
        record {
          steps = passes_more (setting_of script) run n start
              ∙ ap (λ (steps : List Step). steps ++ pass (setting_of script) run now) before.steps
              ∙ ap (λ (steps : List Step). in_passes n all_of ++ steps) passed.steps
              ∙ sym (flat_map-append (λ m. by_port m all_of) (numbers_below n) (n ∷ []) ∙ ap (λ (steps : List Step). in_passes n all_of ++ steps) (append-nil (by_port n all_of)));
          gone = subst (HasGone script run needs ranks r (suc n) 0) (sym (ap (after_steps (setting_of script) start) (passes_more (setting_of script) run n start) ∙ after_more (setting_of script) start (passes (setting_of script) run n start) (pass (setting_of script) run now)))
              (next_pass n (0 + length (in_order script.shape)) (after_steps (setting_of script) now (pass (setting_of script) run now)) (omega (arith, all)) passed.gone);
        }

    -- where nothing comes in this pass, it makes no step
    pub no_pass : (n : ℕ) → by_port n (flat_map dealt (in_order script.shape)) ≡ [] → pass (setting_of script) run (after_steps (setting_of script) start (passes (setting_of script) run n start)) ≡ []
    no_pass n none =
        let before = are_passes n in
        let now : Stage = after_steps (setting_of script) start (passes (setting_of script) run n start) in
        (actors_pass n 0 now (in_order script.shape) going before.gone).steps ∙ none

-- ---- where nothing comes later, all was made

there_in : (xs : List (ℕ × Step)) (k : ℕ) (x : ℕ × Step) → slice_get xs k ≡ Some x → by_port x.0 xs ≡ [] → ⊥
there_in [] zero x at none = cc
there_in [] (suc k) x at none = cc
there_in (y ∷ xs) zero x at none =
    let same : y ≡ x = cc in
    let test : (y.0 == x.0) ≡ true = eq-eqb y.0 x.0 (ap (λ (z : ℕ × Step). z.0) same) in
    let is : y.1 ∷ by_port x.0 xs ≡ [] = sym (ap (λ (t : Bool). cond t (y.1 ∷ by_port x.0 xs) (by_port x.0 xs)) test) ∙ none in
    no_cons is
  where
    no_cons : {z : Step} {zs : List Step} → z ∷ zs ≡ [] → ⊥
    no_cons is = cc
there_in (y ∷ xs) (suc k) x at none = there_in xs k x at (rest (y.0 == x.0) none)
  where
    rest : (t : Bool) → cond t (y.1 ∷ by_port x.0 xs) (by_port x.0 xs) ≡ [] → by_port x.0 xs ≡ []
    rest true is = cc
    rest false is = is

pub first_empty : {X : Type 0} (xs ys : List X) → xs ++ ys ≡ [] → xs ≡ []
first_empty [] ys is = refl
first_empty (x ∷ xs) ys is = absurd cc

pub second_empty : {X : Type 0} (xs ys : List X) → xs ++ ys ≡ [] → ys ≡ []
second_empty [] ys is = is
second_empty (x ∷ xs) ys is = absurd cc

-- of one actor
pub all_made : (needs : List (List (Option Need))) (ranks : List (List ℕ)) (made : ℕ → ℕ) (count a : ℕ) (dealt : List (ℕ × Step)) (steps : ℕ → List Step) → AreOwn ranks needs a dealt steps → IsCut needs ranks made count a
    → ((m : ℕ) → count ≤ m → by_port m dealt ≡ []) → made a ≡ length (entries_of needs a)
all_made needs ranks made count a dealt steps own cut none = ⊎_elim
    (λ low.
    let some = at_within dealt (made a) (own.inside (made a) low) in
    let is = own.at (made a) some.item some.is in
    let least = cut.after (made a) (omega arith) low in
    absurd (there_in dealt (made a) some.item some.is (none some.item.0 (omega (arith, is.1, least)))))
    (λ high. let few = cut.within in omega arith)
    (cases_lt (made a) (length (entries_of needs a)))

-- ---- the steps of each kind of actor

pub client_own : (ranks : List (List ℕ)) (needs : List (List (Option Need))) (c : ℕ) → length (ranks_at ranks c) ≡ length (entries_of needs c) → AreOwn ranks needs c (client_dealt c (ranks_at ranks c)) (λ k. by_itself (actor.Client c) ∷ [])
client_own ranks needs c count = record {
  inside = λ k low. subst (λ (n : ℕ). k < n) (sym (as_many (ranks_at ranks c) ∙ count)) low;
  at = λ k x is. let found = at_place (ranks_at ranks c) k x is in (subst (λ (n : ℕ). k < n) count found.0, found.1, found.2);
}
  where
    as_many : (rs : List ℕ) → length (client_dealt c rs) ≡ length rs
    as_many [] = refl
    as_many (r ∷ rs) = ap suc (as_many rs)

    at_place : (rs : List ℕ) (k : ℕ) (x : ℕ × Step) → slice_get (client_dealt c rs) k ≡ Some x → (k < length rs) × (x.0 ≡ get_or rs k 0) × (by_itself (actor.Client c) ∷ [] ≡ x.1 ∷ [])
    at_place [] zero x is = absurd cc
    at_place [] (suc k) x is = absurd cc
    at_place (r ∷ rs) zero x is =
        let same : (r, by_itself (actor.Client c)) ≡ x = cc in
        (omega arith, sym (ap (λ (z : ℕ × Step). z.0) same), ap (λ (z : ℕ × Step). z.1 ∷ []) same)
    at_place (r ∷ rs) (suc k) x is = let rest = at_place rs k x is in (omega (arith, rest.0), rest.1, rest.2)

pub publisher_own : (ranks : List (List ℕ)) (needs : List (List (Option Need))) (p a : ℕ) (journal : List PublisherEntry) → length (ranks_at ranks a) ≡ length (entries_of needs a) → length (entries_of needs a) ≡ length journal
    → AreOwn ranks needs a (publisher_dealt p (ranks_at ranks a) journal) (λ k. own_step p (slice_get journal k))
publisher_own ranks needs p a journal count same = record {
  inside = λ k low. subst (λ (n : ℕ). k < n) (sym (as_many (ranks_at ranks a) journal (count ∙ same) ∙ count)) low;
  at = λ k x is. let found = at_place (ranks_at ranks a) journal k x is in (subst (λ (n : ℕ). k < n) count found.0, found.1, found.2);
}
  where
    as_many : (rs : List ℕ) (es : List PublisherEntry) → length rs ≡ length es → length (publisher_dealt p rs es) ≡ length rs
    as_many [] es is = refl
    as_many (r ∷ rs) [] is = absurd (omega (arith, is))
    as_many (r ∷ rs) (e ∷ es) is = ap suc (as_many rs es (omega (arith, is)))

    at_place : (rs : List ℕ) (es : List PublisherEntry) (k : ℕ) (x : ℕ × Step) → slice_get (publisher_dealt p rs es) k ≡ Some x → (k < length rs) × (x.0 ≡ get_or rs k 0) × (own_step p (slice_get es k) ≡ x.1 ∷ [])
    at_place [] es zero x is = absurd cc
    at_place [] es (suc k) x is = absurd cc
    at_place (r ∷ rs) [] zero x is = absurd cc
    at_place (r ∷ rs) [] (suc k) x is = absurd cc
    at_place (r ∷ rs) (e ∷ es) zero x is =
        let same : (r, record { actor = actor.Publisher p; port = port_in e }) ≡ x = cc in
        (omega arith, sym (ap (λ (z : ℕ × Step). z.0) same), ap (λ (z : ℕ × Step). z.1 ∷ []) same)
    at_place (r ∷ rs) (e ∷ es) (suc k) x is = let rest = at_place rs es k x is in (omega (arith, rest.0), rest.1, rest.2)

pub taker_own : {N : Type 0} (ranks : List (List ℕ)) (needs : List (List (Option Need))) (who : Actor) (a : ℕ) (journal : List (ℕ × N)) → length (ranks_at ranks a) ≡ length (entries_of needs a) → length (entries_of needs a) ≡ length journal
    → AreOwn ranks needs a (taker_dealt who (ranks_at ranks a) journal) (λ k. step_by who (slice_get journal k))
taker_own {N} ranks needs who a journal count same = record {
  inside = λ k low. subst (λ (n : ℕ). k < n) (sym (as_many (ranks_at ranks a) journal (count ∙ same) ∙ count)) low;
  at = λ k x is. let found = at_place (ranks_at ranks a) journal k x is in (subst (λ (n : ℕ). k < n) count found.0, found.1, found.2);
}
  where
    as_many : (rs : List ℕ) (es : List (ℕ × N)) → length rs ≡ length es → length (taker_dealt who rs es) ≡ length rs
    as_many [] es is = refl
    as_many (r ∷ rs) [] is = absurd (omega (arith, is))
    as_many (r ∷ rs) (e ∷ es) is = ap suc (as_many rs es (omega (arith, is)))

    at_place : (rs : List ℕ) (es : List (ℕ × N)) (k : ℕ) (x : ℕ × Step) → slice_get (taker_dealt who rs es) k ≡ Some x → (k < length rs) × (x.0 ≡ get_or rs k 0) × (step_by who (slice_get es k) ≡ x.1 ∷ [])
    at_place [] es zero x is = absurd cc
    at_place [] es (suc k) x is = absurd cc
    at_place (r ∷ rs) [] zero x is = absurd cc
    at_place (r ∷ rs) [] (suc k) x is = absurd cc
    at_place (r ∷ rs) (e ∷ es) zero x is =
        let same : (r, by_port_of who e.0) ≡ x = cc in
        (omega arith, sym (ap (λ (z : ℕ × Step). z.0) same), ap (λ (z : ℕ × Step). z.1 ∷ []) same)
    at_place (r ∷ rs) (e ∷ es) (suc k) x is = let rest = at_place rs es k x is in (omega (arith, rest.0), rest.1, rest.2)
