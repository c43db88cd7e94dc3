-- What clients hear of their clock, step after step and round after round.
use Rattle.std.proofs.Common.{◌≡◌, ℕ, zero, suc, ◌+◌, ◌-◌, ◌<◌, ◌≤◌, Bool, true, false, ◌||◌, List, [], ◌∷◌, ◌++◌, map, length, get_or, drop, refl, sym, ◌∙◌, ap, append_assoc, arith, subst, add-one}
use Rattle.std.specs.Prelude.{Option, Some, None, slice_index, nat_le}
use Rattle.std.specs.List.{All, list_all}
use Rattle.std.proofs.Math.ListN.{set}
use Rattle.std.proofs.lemmas.List.{get_or-drop, drop-drop, length-drop}
use Rattle.std.proofs.lemmas.List.Elements.{All-nil, All-cons}
use Rattle.mama_edge.specs.Told.{after_first}
use Rattle.mama_script.specs.declared.client.ClientLine.{ClientLine}
use Rattle.mama_event.specs.Ports.{queues_of}
use Rattle.mama_script.specs.Script.{ScriptData}
use Rattle.mama_record.specs.RunData.{RunData}
use Rattle.mama_rules_rounds.specs.Client.{Planned}
use Rattle.mama_seats.specs.Sender.{first_step, later_steps}
use Rattle.mama_seats.specs.Stand.{Stand, left_after, BeginsWith, IsReading, still_read}
use Rattle.mama_seats.specs.Moments.{answers, remaining, Answered, client_reads, all_reads, read_in_round, read_in_rounds, AreHeard}
use Rattle.mama_drive.specs.Scene.{Scene, Plays, IsPlayed, AreMoments, rested_stand}
use Rattle.mama_drive.specs.Start.{stands_from, started}
use Rattle.mama_drive.specs.Record.{read_in, recorded}
use Rattle.mama_drive.specs.Heard.{unread, Hears, StepRead, first_steps, after_steps, StepsRead, RoundsRead, HearsRounds, left_behind}
use Rattle.mama_drive.proofs.LaneLemmas.{append_nil}
use Rattle.mama_drive.proofs.StageLemmas.{moments_before, own_moments}
use Rattle.mama_drive.proofs.RecordLemmas.{own_reads}
use Rattle.mama_drive.proofs.RestLemmas.{upto, upto_more, upto_at, upto_all, drop-nil, drop_pause, first_pause, within_pause, first_of_both, second_of_both}

-- THE ANSWERS OF A CLOCK

-- calls, and then more calls
answers_then : (a b told : List ℕ) → a ≡ answers (length a) told → b ≡ answers (length b) (remaining (length a) told)
    → a ++ b ≡ answers (length (a ++ b)) told
answers_then [] b told h k = k
answers_then (x ∷ a) b told h k =
    let first : x ≡ slice_index told 0 = cc in
    let rest : a ≡ answers (length a) (after_first told) = cc in
    ap (λ y. y ∷ (a ++ b)) first ∙ ap (λ l. slice_index told 0 ∷ l) (answers_then a b (after_first told) rest k)

pub remaining_then : (a b told : List ℕ) → remaining (length (a ++ b)) told ≡ remaining (length b) (remaining (length a) told)
remaining_then [] b told = refl
remaining_then (x ∷ a) b told = remaining_then a b (after_first told)

pub answered_then : (o m n : Option (List ℕ)) (a b : List ℕ) → Answered o m a → Answered m n b → Answered o n (a ++ b)
answered_then None m n a b h k = tt
answered_then (Some told) m n a b h k =
    let later : Answered (Some (remaining (length a) told)) n b = subst (λ (s : Option (List ℕ)). Answered s n b) h.1 k in
    (answers_then a b told h.0 later.0, later.1 ∙ ap (λ (l : List ℕ). Some l) (sym (remaining_then a b told)))

pub answered_none : (o : Option (List ℕ)) → Answered o o []
answered_none None = tt
answered_none (Some told) = (refl, refl)

-- the first of some calls, and the others
first_answers : (a b told : List ℕ) → a ++ b ≡ answers (length (a ++ b)) told → a ≡ answers (length a) told
first_answers [] b told h = refl
first_answers (x ∷ a) b told h =
    let first : x ≡ slice_index told 0 = cc in
    let rest : a ++ b ≡ answers (length (a ++ b)) (after_first told) = cc in
    ap (λ y. y ∷ a) first ∙ ap (λ l. slice_index told 0 ∷ l) (first_answers a b (after_first told) rest)

later_answers : (a b told : List ℕ) → a ++ b ≡ answers (length (a ++ b)) told → b ≡ answers (length b) (remaining (length a) told)
later_answers [] b told h = h
later_answers (x ∷ a) b told h =
    let rest : a ++ b ≡ answers (length (a ++ b)) (after_first told) = cc in
    later_answers a b (after_first told) rest

-- WHAT IS LEFT BEHIND

pub left_none : (o : Option (List ℕ)) → o ≡ left_behind [] o
left_none None = refl
left_none (Some told) = refl

pub left_then : (a b : List ℕ) (o : Option (List ℕ)) → left_behind b (left_behind a o) ≡ left_behind (a ++ b) o
left_then a b None = refl
left_then a b (Some told) = ap (λ (l : List ℕ). Some l) (sym (remaining_then a b told))

pub answered_first : (a b : List ℕ) (o : Option (List ℕ)) → Answered o (left_behind (a ++ b) o) (a ++ b) → Answered o (left_behind a o) a
answered_first a b None h = tt
answered_first a b (Some told) h = (first_answers a b told h.0, refl)

pub answered_later : (a b : List ℕ) (o : Option (List ℕ)) → Answered o (left_behind (a ++ b) o) (a ++ b) → Answered (left_behind a o) (left_behind b (left_behind a o)) b
answered_later a b None h = tt
answered_later a b (Some told) h = (later_answers a b told h.0, refl)

-- the clock itself
pub answered_own : (told left : Option (List ℕ)) (heard : List ℕ) → Answered told left heard → Answered told (left_behind heard told) heard
answered_own None left heard h = tt
answered_own (Some told) left heard h = (h.0, refl)

pub heard_own : (clients : List (List ClientLine)) (moments : List (List ℕ)) (told left : Option (List ℕ)) (heard : List ℕ) → Answered told left heard
    → AreHeard told (left_behind heard told) clients moments → AreHeard told left clients moments
heard_own clients moments None left heard a h = record { rounds = h.rounds; whole = h.whole; answered = tt }
heard_own clients moments (Some told) left heard a h = subst (λ (l : Option (List ℕ)). AreHeard (Some told) l clients moments) (sym a.1) h

-- ONE AFTER ANOTHER

-- nothing was read
hears_none : (R : List (List (List ℕ)) → List (List (List ℕ)) → List ℕ → Type 0) (o : Option (List ℕ)) (s : List Stand)
    → ((ms : List (List ℕ)) → AreMoments ms s → R (unread ms s) (unread ms s) []) → Hears R o o s s
hears_none R o s f = record { heard = []; answered = answered_none o; reads = f }

hears_then : (R Q T : List (List (List ℕ)) → List (List (List ℕ)) → List ℕ → Type 0) (o m n : Option (List ℕ)) (a b c : List Stand)
    → ((x y z : List (List (List ℕ))) (h k : List ℕ) → R x y h → Q y z k → T x z (h ++ k))
    → ((ms : List (List ℕ)) → AreMoments ms c → AreMoments ms b)
    → Hears R o m a b → Hears Q m n b c → Hears T o n a c
hears_then R Q T o m n a b c f before h k = record {
  heard = h.heard ++ k.heard;
  answered = answered_then o m n h.heard k.heard h.answered k.answered;
  reads = λ ms own. f (unread ms a) (unread ms b) (unread ms c) h.heard k.heard (h.reads ms (before ms own)) (k.reads ms own);
}

-- STEPS

after_upto : (n : ℕ) (xs : List (List (List ℕ))) → after_steps n xs ≡ upto later_steps n xs
after_upto zero xs = refl
after_upto (suc n) xs = ap (λ l. set l n (later_steps (get_or l n []))) (after_upto n xs) ∙ upto_more later_steps n xs []

pub steps_heard_none : (o : Option (List ℕ)) (s : List Stand) → Hears (StepsRead 0) o o s s
steps_heard_none o s = hears_none (StepsRead 0) o s (λ ms h. (refl, refl))

step_more : (n : ℕ) (x y z : List (List (List ℕ))) (h k : List ℕ) → StepsRead n x y h → StepRead n y z k → StepsRead (suc n) x z (h ++ k)
step_more n x y z h k first more = (
  ap (λ l. l ++ k) first.0
      ∙ ap (λ l. first_steps n x ++ l) (more.0 ∙ ap first_step (ap (λ l. get_or l n []) (first.1 ∙ after_upto n x) ∙ upto_at later_steps n x [])),
  more.1 ∙ ap (λ l. set l n (later_steps (get_or l n []))) first.1,
)

pub steps_heard_more : (n : ℕ) (o m l : Option (List ℕ)) (a b c : List Stand) → ((ms : List (List ℕ)) → AreMoments ms c → AreMoments ms b)
    → Hears (StepsRead n) o m a b → Hears (StepRead n) m l b c → Hears (StepsRead (n + 1)) o l a c
steps_heard_more n o m l a b c before h k =
    subst (λ j. Hears (StepsRead j) o l a c) (sym (add-one n)) (hears_then (StepsRead n) (StepRead n) (StepsRead (suc n)) o m l a b c (step_more n) before h k)

-- A ROUND

first_steps_cons : (n : ℕ) (x : List (List ℕ)) (xs : List (List (List ℕ))) → first_steps (suc n) (x ∷ xs) ≡ first_step x ++ first_steps n xs
first_steps_cons zero x xs = sym (append_nil (first_step x))
first_steps_cons (suc n) x xs = ap (λ l. l ++ first_step (get_or xs n [])) (first_steps_cons n x xs) ∙ append_assoc (first_step x) (first_steps n xs) (first_step (get_or xs n []))

first_at : (x : List (List ℕ)) → first_step x ≡ get_or x 0 []
first_at [] = refl
first_at (s ∷ ss) = refl

later_drop : (x : List (List ℕ)) → later_steps x ≡ drop 1 x
later_drop [] = refl
later_drop (s ∷ ss) = refl

first_steps_all : (xs : List (List (List ℕ))) → first_steps (length xs) xs ≡ read_in_round 0 xs
first_steps_all [] = refl
first_steps_all (x ∷ xs) = first_steps_cons (length xs) x xs ∙ ap (λ l. l ++ first_steps (length xs) xs) (first_at x) ∙ ap (λ l. get_or x 0 [] ++ l) (first_steps_all xs)

laters_drop : (xs : List (List (List ℕ))) → map later_steps xs ≡ map (drop 1) xs
laters_drop [] = refl
laters_drop (x ∷ xs) = ap (λ y. y ∷ map later_steps xs) (later_drop x) ∙ ap (λ l. drop 1 x ∷ l) (laters_drop xs)

length_unread : (ms : List (List ℕ)) (cs : List Stand) → AreMoments ms cs → length (unread ms cs) ≡ length cs
length_unread [] [] h = refl
length_unread [] (c ∷ cs) h = absurd h
length_unread (m ∷ ms) [] h = absurd h
length_unread (m ∷ ms) (c ∷ cs) h = ap suc (length_unread ms cs h.1)

-- each client made a step
pub round_heard : (o l : Option (List ℕ)) (a b c : List Stand) → ((ms : List (List ℕ)) → AreMoments ms b → AreMoments ms a) → c ≡ b
    → Hears (StepsRead (length a)) o l a b → Hears (RoundsRead 1) o l a c
round_heard o l a b c before same h =
    subst (λ (s : List Stand). Hears (RoundsRead 1) o l a s) (sym same) (record {
      heard = h.heard;
      answered = h.answered;
      reads = λ ms own.
          let xs : List (List (List ℕ)) = unread ms a in
          let all : length a ≡ length xs = sym (length_unread ms a (before ms own)) in
          let made = h.reads ms own in (
            made.0 ∙ ap (λ k. first_steps k xs) all ∙ first_steps_all xs,
            made.1 ∙ after_upto (length a) xs ∙ ap (λ k. upto later_steps k xs) all ∙ upto_all later_steps xs ∙ laters_drop xs,
          );
    })

-- ROUNDS

dropped_at : (n k : ℕ) (xs : List (List (List ℕ))) → read_in_round k (map (drop n) xs) ≡ read_in_round (n + k) xs
dropped_at n k [] = refl
dropped_at n k (x ∷ xs) =
    ap (λ l. l ++ read_in_round k (map (drop n) xs)) (get_or-drop n x k []) ∙ ap (λ l. get_or x (n + k) [] ++ l) (dropped_at n k xs)

rounds_then : (n k : ℕ) (xs : List (List (List ℕ))) → read_in_rounds n xs ++ read_in_rounds k (map (drop n) xs) ≡ read_in_rounds (n + k) xs
rounds_then n zero xs =
    append_nil (read_in_rounds n xs) ∙ ap (λ j. read_in_rounds j xs) (let e : n ≡ n + 0 = omega arith in e)
rounds_then n (suc k) xs =
    sym (append_assoc (read_in_rounds n xs) (read_in_rounds k (map (drop n) xs)) (read_in_round k (map (drop n) xs)))
    ∙ ap (λ l. l ++ read_in_round k (map (drop n) xs)) (rounds_then n k xs)
    ∙ ap (λ l. read_in_rounds (n + k) xs ++ l) (dropped_at n k xs)
    ∙ ap (λ j. read_in_rounds j xs) (let e : suc (n + k) ≡ n + suc k = omega arith in e)

drops_then : (n k : ℕ) (xs : List (List (List ℕ))) → map (drop k) (map (drop n) xs) ≡ map (drop (n + k)) xs
drops_then n k [] = refl
drops_then n k (x ∷ xs) = ap (λ y. y ∷ map (drop k) (map (drop n) xs)) (drop-drop k n x) ∙ ap (λ l. drop (n + k) x ∷ l) (drops_then n k xs)

drop_none : (xs : List (List (List ℕ))) → map (drop 0) xs ≡ xs
drop_none [] = refl
drop_none (x ∷ xs) = ap (λ l. x ∷ l) (drop_none xs)

rounds_more : (n k : ℕ) (x y z : List (List (List ℕ))) (h g : List ℕ) → RoundsRead n x y h → RoundsRead k y z g → RoundsRead (n + k) x z (h ++ g)
rounds_more n k x y z h g first more = (
  ap (λ l. l ++ g) first.0 ∙ ap (λ l. read_in_rounds n x ++ l) (more.0 ∙ ap (read_in_rounds k) first.1) ∙ rounds_then n k x,
  more.1 ∙ ap (map (drop k)) first.1 ∙ drops_then n k x,
)

pub rounds_heard_none : (o : Option (List ℕ)) (s : List Stand) → HearsRounds o o s s
rounds_heard_none o s = record { count = 0; rounds = hears_none (RoundsRead 0) o s (λ ms h. (refl, sym (drop_none (unread ms s)))) }

pub rounds_heard_then : (o m l : Option (List ℕ)) (a b c : List Stand) → ((ms : List (List ℕ)) → AreMoments ms c → AreMoments ms b)
    → HearsRounds o m a b → HearsRounds m l b c → HearsRounds o l a c
rounds_heard_then o m l a b c before h k = record {
  count = h.count + k.count;
  rounds = hears_then (RoundsRead h.count) (RoundsRead k.count) (RoundsRead (h.count + k.count)) o m l a b c (rounds_more h.count k.count) before h.rounds k.rounds;
}

pub one_round_heard : (o l : Option (List ℕ)) (a b : List Stand) → Hears (RoundsRead 1) o l a b → HearsRounds o l a b
one_round_heard o l a b h = record { count = 1; rounds = h }

-- ROUNDS IN WHICH NOTHING IS READ

abbrev can_stand : ℕ → Stand → Bool
can_stand k c = c.over || nat_le k c.pause

stand_rests : (k : ℕ) (ms : List ℕ) (c : Stand) → (c.over || nat_le k c.pause) ≡ true → still_read ms (rested_stand k c) ≡ drop k (still_read ms c)
stand_rests k ms c h = by_test c.over h
  where
    by_test : (o : Bool) → (o || nat_le k c.pause) ≡ true
        → left_after o (c.pause - k) (client_reads (drop (length c.read) ms) c.lines) ≡ drop k (left_after o c.pause (client_reads (drop (length c.read) ms) c.lines))
    by_test true e = sym (drop-nil {A = List ℕ} k)
    by_test false e = sym (drop_pause k c.pause (client_reads (drop (length c.read) ms) c.lines) (within_pause k c.pause e))

stand_idle : (k : ℕ) (ms : List ℕ) (c : Stand) (j : ℕ) → (c.over || nat_le k c.pause) ≡ true → j < k → first_step (drop j (still_read ms c)) ≡ []
stand_idle k ms c j h below = by_test c.over h
  where
    by_test : (o : Bool) → (o || nat_le k c.pause) ≡ true → first_step (drop j (left_after o c.pause (client_reads (drop (length c.read) ms) c.lines))) ≡ []
    by_test true e = ap first_step (drop-nil {A = List ℕ} j)
    by_test false e =
        let fits : k ≤ c.pause = within_pause k c.pause e in
        first_pause j c.pause (client_reads (drop (length c.read) ms) c.lines) (omega arith)

first_dropped : (j : ℕ) (x : List (List ℕ)) → first_step (drop j x) ≡ get_or x j []
first_dropped zero [] = refl
first_dropped zero (s ∷ ss) = refl
first_dropped (suc j) [] = refl
first_dropped (suc j) (s ∷ ss) = first_dropped j ss

unread_rests : (k : ℕ) (ms : List (List ℕ)) (cs : List Stand) → list_all (can_stand k) cs ≡ true → unread ms (map (rested_stand k) cs) ≡ map (drop k) (unread ms cs)
unread_rests k [] cs h = refl
unread_rests k (m ∷ ms) [] h = refl
unread_rests k (m ∷ ms) (c ∷ cs) h =
    ap (λ x. x ∷ unread ms (map (rested_stand k) cs)) (stand_rests k m c (first_of_both (can_stand k c) (list_all (can_stand k) cs) h))
    ∙ ap (λ l. drop k (still_read m c) ∷ l) (unread_rests k ms cs (second_of_both (can_stand k c) (list_all (can_stand k) cs) h))

none_in_round : (k j : ℕ) (ms : List (List ℕ)) (cs : List Stand) → list_all (can_stand k) cs ≡ true → j < k → read_in_round j (unread ms cs) ≡ []
none_in_round k j [] cs h below = refl
none_in_round k j (m ∷ ms) [] h below = refl
none_in_round k j (m ∷ ms) (c ∷ cs) h below =
    ap (λ l. l ++ read_in_round j (unread ms cs)) (sym (first_dropped j (still_read m c)) ∙ stand_idle k m c j (first_of_both (can_stand k c) (list_all (can_stand k) cs) h) below)
    ∙ none_in_round k j ms cs (second_of_both (can_stand k c) (list_all (can_stand k) cs) h) below

none_in_rounds : (k j : ℕ) (ms : List (List ℕ)) (cs : List Stand) → list_all (can_stand k) cs ≡ true → j ≤ k → read_in_rounds j (unread ms cs) ≡ []
none_in_rounds k zero ms cs h below = refl
none_in_rounds k (suc j) ms cs h below =
    ap (λ l. l ++ read_in_round j (unread ms cs)) (none_in_rounds k j ms cs h (omega arith)) ∙ none_in_round k j ms cs h (omega arith)

pub rests_heard : (k : ℕ) (o : Option (List ℕ)) (a b : List Stand) → list_all (can_stand k) a ≡ true → b ≡ map (rested_stand k) a → HearsRounds o o a b
rests_heard k o a b can is = subst (HearsRounds o o a) (sym is) (record {
  count = k;
  rounds = record {
    heard = [];
    answered = answered_none o;
    reads = λ ms own. (sym (none_in_rounds k k ms a can (omega arith)), unread_rests k ms a can);
  };
})

-- A WHOLE RUN

-- of clients that are done nothing is left to read
none_unread : (n : ℕ) (ms : List (List ℕ)) (cs : List Stand) (xs : List (List (List ℕ))) → list_all (λ (c : Stand). c.over) cs ≡ true → AreMoments ms cs → unread ms cs ≡ map (drop n) xs
    → All (λ (steps : List (List ℕ)). length steps ≤ n) xs
none_unread n [] [] [] over h is = All-nil (λ (steps : List (List ℕ)). length steps ≤ n)
none_unread n [] [] (x ∷ xs) over h is = cc
none_unread n [] (c ∷ cs) xs over h is = absurd h
none_unread n (m ∷ ms) [] xs over h is = absurd h
none_unread n (m ∷ ms) (c ∷ cs) [] over h is = cc
none_unread n (m ∷ ms) (c ∷ cs) (x ∷ xs) over h is =
    let first : drop n x ≡ still_read m c = cc in
    let rest : unread ms cs ≡ map (drop n) xs = cc in
    let none : length (drop n x) ≡ 0 =
    ap length (first ∙ ap (λ o. left_after o c.pause (client_reads (drop (length c.read) m) c.lines)) (first_of_both c.over (list_all (λ (d : Stand). d.over) cs) over)) in
    let fewer : length (drop n x) ≡ length x - n = length-drop n x in
    All-cons (λ (steps : List (List ℕ)). length steps ≤ n) x xs (omega (arith, none, fewer))
    (none_unread n ms cs xs (second_of_both c.over (list_all (λ (d : Stand). d.over) cs) over) h.1 rest)

-- what was heard in a run from clients with these lines to clients that are done
pub are_heard : (clients : List (List ClientLine)) (o l : Option (List ℕ)) (a b : List Stand) → ((ms : List (List ℕ)) → AreMoments ms a → unread ms a ≡ all_reads ms clients)
    → ((ms : List (List ℕ)) → AreMoments ms b → AreMoments ms a) → list_all (λ (c : Stand). c.over) b ≡ true → AreMoments (map read_in b) b
    → HearsRounds o l a b → AreHeard o l clients (map read_in b)
are_heard clients o l a b starts before over own h =
    let ms : List (List ℕ) = map read_in b in
    let made = h.rounds.reads ms own in
    let at_first : unread ms a ≡ all_reads ms clients = starts ms (before ms own) in
    record {
      rounds = h.count;
      whole = subst (All (λ (steps : List (List ℕ)). length steps ≤ h.count)) at_first (none_unread h.count ms b (unread ms a) over own made.1);
      answered = subst (Answered o l) (made.0 ∙ ap (read_in_rounds h.count) at_first) h.rounds.answered;
    }

-- ONE CLIENT

-- what one client has still to read
unread_at : (ms : List (List ℕ)) (cs : List Stand) (c : ℕ) (d : Stand) → AreMoments ms cs → c < length cs
    → get_or (unread ms cs) c [] ≡ still_read (get_or ms c []) (get_or cs c d)
unread_at [] [] c d h within = absurd (omega arith)
unread_at [] (x ∷ cs) c d h within = absurd h
unread_at (m ∷ ms) [] c d h within = absurd h
unread_at (m ∷ ms) (x ∷ cs) zero d h within = refl
unread_at (m ∷ ms) (x ∷ cs) (suc c) d h within = unread_at ms cs c d h.1 (omega arith)

unread_set : (ms : List (List ℕ)) (cs : List Stand) (c : ℕ) (new : Stand) → AreMoments ms cs
    → unread ms (set cs c new) ≡ set (unread ms cs) c (still_read (get_or ms c []) new)
unread_set [] [] c new h = refl
unread_set [] (x ∷ cs) c new h = absurd h
unread_set (m ∷ ms) [] c new h = refl
unread_set (m ∷ ms) (x ∷ cs) zero new h = refl
unread_set (m ∷ ms) (x ∷ cs) (suc c) new h = ap (λ l. still_read m x ∷ l) (unread_set ms cs c new h.1)

-- a client's seat makes a step
pub step_heard : (o l : Option (List ℕ)) (cs : List Stand) (c : ℕ) (x new : Stand) → c < length cs → x ≡ get_or cs c x
    → BeginsWith x.read new.read → IsReading o l x new → Hears (StepRead c) o l cs (set cs c new)
step_heard o l cs c x new within is grows reading = record {
  heard = reading.heard;
  answered = reading.answered;
  reads = λ ms h.
      let before : AreMoments ms cs = moments_before ms cs c x new h (subst (λ (y : Stand). BeginsWith y.read new.read) is grows) in
      let own : BeginsWith new.read (get_or ms c []) = own_moments ms cs c new within h in
      let now : get_or (unread ms cs) c [] ≡ still_read (get_or ms c []) x = unread_at ms cs c x before within ∙ ap (still_read (get_or ms c [])) (sym is) in (
        reading.step (get_or ms c []) own ∙ ap first_step (sym now),
        unread_set ms cs c new before ∙ ap (set (unread ms cs) c) (reading.later (get_or ms c []) own)
            ∙ ap (λ k. set (unread ms cs) c (later_steps k)) (sym now),
      );
}

-- THE START

unread_first : (queues n : ℕ) (ms : List (List ℕ)) (cs : List (List ClientLine)) → unread ms (stands_from queues n cs) ≡ all_reads ms cs
unread_first queues n [] cs = refl
unread_first queues n (m ∷ ms) [] = refl
unread_first queues n (m ∷ ms) (c ∷ cs) = ap (λ l. client_reads m c ∷ l) (unread_first queues (suc n) ms cs)

-- the record of a played scene has what was heard
pub run_heard : (script : ScriptData) (objects : List Planned) (a b : Scene) (run : RunData) (o l : Option (List ℕ)) → a ≡ started objects script
    → Plays a b → HearsRounds o l a.clients b.clients → IsPlayed b → run ≡ recorded b → AreHeard o l script.clients run.clients
run_heard script objects a b run o l is plays heard played told =
    let clients : a.clients ≡ stands_from (queues_of script.shape) 0 script.clients = ap (λ (s : Scene). s.clients) is in
    let starts : (ms : List (List ℕ)) → AreMoments ms a.clients → unread ms a.clients ≡ all_reads ms script.clients =
    λ ms h. ap (unread ms) clients ∙ unread_first (queues_of script.shape) 0 ms script.clients in
    subst (λ (r : RunData). AreHeard o l script.clients r.clients) (sym told)
    (are_heard script.clients o l a.clients b.clients starts plays.rounds.moments played.clients (own_reads b.clients) heard)
