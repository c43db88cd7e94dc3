-- Rounds in which nothing happens.
use Rattle.std.proofs.Common.{◌≡◌, ℕ, zero, suc, ◌+◌, ◌-◌, ◌<◌, ◌≤◌, Bool, true, false, ◌&&◌, ◌||◌, List, [], ◌∷◌, ◌++◌, map, length, get_or, drop, refl, sym, ◌∙◌, ap, arith, subst, add-one}
use Rattle.std.specs.Prelude.{replicate, nat_le}
use Rattle.std.specs.List.{list_all}
use Rattle.std.proofs.Math.ListN.{set}
use Rattle.std.proofs.lemmas.List.{length-map, get_or-map}
use Rattle.std.proofs.lemmas.Grind.{common_steps}
use Rattle.mama_event.specs.Ports.{clients_of, publishers_of}
use Rattle.mama_event.specs.declared.publisher_entry.PublisherEntry.{PublisherEntry}
use Rattle.mama_rules_queue.specs.Queue.{QueuePut}
use Rattle.mama_rules_rounds.specs.Client.{steps_from}
use Rattle.mama_rules_rounds.specs.Setting.{Setting}
use Rattle.mama_rules_rounds.specs.World.{World, with_puts, IsQuiet}
use Rattle.mama_rules_rounds.specs.Round.{publisher_steps}
use Rattle.mama_rules_rounds.specs.Stage.{Stage, IsStageDrained, AreSteps, IsOneRound, AreRounds, client_step, publisher_step, entries_done}
use Rattle.mama_seats.specs.Sender.{Sender, first_step, later_steps, steps_in, steps_after}
use Rattle.mama_seats.specs.Stand.{Stand, client_left, left_after, standing_in, reading}
use Rattle.mama_drive.specs.Scene.{Scene, Advances, Rounds, Plays, ArePassed, CanRest, AreMoments, AllEnd, lefts, setting_in, world_in, stage_in, script_in, entries_in, lane_in, rested, rested_stand, rested_sender}
use Rattle.mama_drive.proofs.LaneLemmas.{append_nil}
use Rattle.mama_drive.proofs.StageLemmas.{stepped_by, sender_stepped_by, advances_then}

-- a function at the elements before a place
abbrev pub upto : {A : Type 0} → (A → A) → ℕ → List A → List A
upto f zero xs = xs
upto f (suc n) [] = []
upto f (suc n) (x ∷ xs) = f x ∷ upto f n xs

pub upto_more : {A : Type 0} → (f : A → A) (n : ℕ) (xs : List A) (d : A) → set (upto f n xs) n (f (get_or (upto f n xs) n d)) ≡ upto f (suc n) xs
upto_more f zero [] d = refl
upto_more f zero (x ∷ xs) d = refl
upto_more f (suc n) [] d = refl
upto_more f (suc n) (x ∷ xs) d = ap (λ l. f x ∷ l) (upto_more f n xs d)

pub upto_at : {A : Type 0} → (f : A → A) (n : ℕ) (xs : List A) (d : A) → get_or (upto f n xs) n d ≡ get_or xs n d
upto_at f zero xs d = refl
upto_at f (suc n) [] d = refl
upto_at f (suc n) (x ∷ xs) d = upto_at f n xs d

pub upto_all : {A : Type 0} → (f : A → A) (xs : List A) → upto f (length xs) xs ≡ map f xs
upto_all f [] = refl
upto_all f (x ∷ xs) = ap (λ l. f x ∷ l) (upto_all f xs)

map_same : {A B : Type 0} → (f : A → B) (g : A → A) → ((x : A) → f (g x) ≡ f x) → (xs : List A) → map f (map g xs) ≡ map f xs
map_same f g same [] = refl
map_same f g same (x ∷ xs) = ap (λ y. y ∷ map f (map g xs)) (same x) ∙ ap (λ l. f x ∷ l) (map_same f g same xs)

-- ONE ROUND

-- nothing is put
no_puts : (c t : ℕ) (w : World) → with_puts c t [] w ≡ w
no_puts c t w = ap (λ l. record w { to_bridge = l; to_timers = w.to_timers ++ [] }) (append_nil w.to_bridge) ∙ ap (λ l. record w { to_timers = l }) (append_nil w.to_timers)

drained_still : (setting : Setting) (s after : Stage) → s ≡ after → IsQuiet after.world → IsStageDrained setting s after
drained_still setting s after is quiet = record {
  clients = sym (ap (λ (t : Stage). t.clients) is);
  publishers = sym (ap (λ (t : Stage). t.publishers) is);
  world = record { count = 0; after = sym (ap (λ (t : Stage). t.world) is); quiet = quiet };
}

client_rests : (setting : Setting) (s : Stage) (xs : List (List (List QueuePut))) (n : ℕ) → first_step (get_or xs n []) ≡ []
    → client_step setting n (record s { clients = upto later_steps n xs }) ≡ record s { clients = upto later_steps (suc n) xs }
client_rests setting s xs n idle =
    let left : List (List QueuePut) = get_or (upto later_steps n xs) n [] in
    sym (stepped_by setting n (record s { clients = upto later_steps n xs }) left refl)
    ∙ ap (λ o. record s { clients = set (upto later_steps n xs) n (later_steps left); world = with_puts n n o s.world }) (ap first_step (upto_at later_steps n xs []) ∙ idle)
    ∙ ap (λ w. record s { clients = set (upto later_steps n xs) n (later_steps left); world = w }) (no_puts n n s.world)
    ∙ ap (λ l. record s { clients = l }) (upto_more later_steps n xs [])

clients_rest : (setting : Setting) (s : Stage) (n : ℕ) → IsQuiet s.world → ((c : ℕ) → first_step (get_or s.clients c []) ≡ [])
    → AreSteps setting (client_step setting) n s (record s { clients = upto later_steps n s.clients })
clients_rest setting s zero quiet idle = refl
clients_rest setting s (suc n) quiet idle = (
  record s { clients = upto later_steps n s.clients },
  clients_rest setting s n quiet idle,
  drained_still setting _ _ (client_rests setting s s.clients n (idle n)) quiet,
)

publisher_rests : (setting : Setting) (s : Stage) (xs : List (List (List PublisherEntry))) (n : ℕ) → first_step (get_or xs n []) ≡ []
    → publisher_step setting n (record s { publishers = upto later_steps n xs }) ≡ record s { publishers = upto later_steps (suc n) xs }
publisher_rests setting s xs n idle =
    let left : List (List PublisherEntry) = get_or (upto later_steps n xs) n [] in
    sym (sender_stepped_by setting n (record s { publishers = upto later_steps n xs }) left refl)
    ∙ ap (λ o. record s { publishers = set (upto later_steps n xs) n (later_steps left); world = entries_done setting n s.world o }) (ap first_step (upto_at later_steps n xs []) ∙ idle)
    ∙ ap (λ l. record s { publishers = l }) (upto_more later_steps n xs [])

publishers_rest : (setting : Setting) (s : Stage) (n : ℕ) → IsQuiet s.world → ((p : ℕ) → first_step (get_or s.publishers p []) ≡ [])
    → AreSteps setting (publisher_step setting) n s (record s { publishers = upto later_steps n s.publishers })
publishers_rest setting s zero quiet idle = refl
publishers_rest setting s (suc n) quiet idle = (
  record s { publishers = upto later_steps n s.publishers },
  publishers_rest setting s n quiet idle,
  drained_still setting _ _ (publisher_rests setting s s.publishers n (idle n)) quiet,
)

round_rests : (setting : Setting) (s : Stage) → IsQuiet s.world → length s.clients ≡ clients_of setting.shape → length s.publishers ≡ publishers_of setting.shape
    → ((c : ℕ) → first_step (get_or s.clients c []) ≡ []) → ((p : ℕ) → first_step (get_or s.publishers p []) ≡ [])
    → IsOneRound setting s (record s { clients = map later_steps s.clients; publishers = map later_steps s.publishers })
round_rests setting s quiet clients publishers idle still =
    let mid : Stage = record s { clients = map later_steps s.clients } in
    record {
      mid = mid;
      clients = subst (λ l. AreSteps setting (client_step setting) (clients_of setting.shape) s (record s { clients = l })) (upto_all later_steps s.clients)
          (subst (λ n. AreSteps setting (client_step setting) (clients_of setting.shape) s (record s { clients = upto later_steps n s.clients })) (sym clients)
          (clients_rest setting s (clients_of setting.shape) quiet idle));
      publishers = subst (λ l. AreSteps setting (publisher_step setting) (publishers_of setting.shape) mid (record mid { publishers = l })) (upto_all later_steps s.publishers)
          (subst (λ n. AreSteps setting (publisher_step setting) (publishers_of setting.shape) mid (record mid { publishers = upto later_steps n s.publishers })) (sym publishers)
          (publishers_rest setting mid (publishers_of setting.shape) quiet still));
    }

-- MANY ROUNDS

later-drop : {E : Type 0} → (n : ℕ) (x : List (List E)) → later_steps (drop n x) ≡ drop (suc n) x
later-drop zero [] = refl
later-drop zero (y ∷ ys) = refl
later-drop (suc n) [] = refl
later-drop (suc n) (y ∷ ys) = later-drop n ys

laters : {E : Type 0} → (n : ℕ) (xs : List (List (List E))) → map later_steps (map (drop n) xs) ≡ map (drop (suc n)) xs
laters n [] = refl
laters n (x ∷ xs) = ap (λ y. y ∷ map later_steps (map (drop n) xs)) (later-drop n x) ∙ ap (λ l. drop (suc n) x ∷ l) (laters n xs)

drop_none : {E : Type 0} → (xs : List (List (List E))) → map (drop 0) xs ≡ xs
drop_none [] = refl
drop_none (x ∷ xs) = ap (λ l. x ∷ l) (drop_none xs)

pub drop-nil : {A : Type 0} → (n : ℕ) → let none : List A = [] in drop n none ≡ none
drop-nil zero = refl
drop-nil (suc n) = refl

get_or-drops : {E : Type 0} → (n : ℕ) (xs : List (List (List E))) (c : ℕ) → get_or (map (drop n) xs) c [] ≡ drop n (get_or xs c [])
get_or-drops {E} n [] c = sym (drop-nil {A = List E} n)
get_or-drops n (x ∷ xs) zero = refl
get_or-drops n (x ∷ xs) (suc c) = get_or-drops n xs c

-- in so many steps nothing is done
abbrev Idle : {E : Type 0} → ℕ → List (List (List E)) → Type 0
Idle k xs = (c j : ℕ) → j < k → first_step (drop j (get_or xs c [])) ≡ []

rounds_rest : (setting : Setting) (s : Stage) (k : ℕ) → IsQuiet s.world → length s.clients ≡ clients_of setting.shape → length s.publishers ≡ publishers_of setting.shape
    → Idle k s.clients → Idle k s.publishers
    → AreRounds setting k s (record s { clients = map (drop k) s.clients; publishers = map (drop k) s.publishers })
rounds_rest setting s zero quiet clients publishers idle still =
    ap (λ l. record s { clients = l; publishers = map (drop 0) s.publishers }) (drop_none s.clients) ∙ ap (λ l. record s { publishers = l }) (drop_none s.publishers)
rounds_rest setting s (suc n) quiet clients publishers idle still =
    let mid : Stage = record s { clients = map (drop n) s.clients; publishers = map (drop n) s.publishers } in (
      mid,
      rounds_rest setting s n quiet clients publishers (λ c j h. idle c j (omega arith)) (λ c j h. still c j (omega arith)),
      subst (λ l. IsOneRound setting mid (record mid { clients = l; publishers = map (drop (suc n)) s.publishers })) (laters n s.clients)
          (subst (λ l. IsOneRound setting mid (record mid { clients = map later_steps mid.clients; publishers = l })) (laters n s.publishers)
          (round_rests setting mid quiet (length-map s.clients (drop n) ∙ clients) (length-map s.publishers (drop n) ∙ publishers)
          (λ c. ap first_step (get_or-drops n s.clients c) ∙ idle c n (omega arith))
          (λ p. ap first_step (get_or-drops n s.publishers p) ∙ still p n (omega arith)))),
    )

-- PAUSES

pub drop_pause : {E : Type 0} → (k p : ℕ) (steps : List (List E)) → k ≤ p → drop k (replicate p [] ++ steps) ≡ replicate (p - k) [] ++ steps
drop_pause zero p steps h = ap (λ n. replicate n [] ++ steps) (let e : p ≡ p - 0 = omega arith in e)
drop_pause (suc k) zero steps h = absurd (omega arith)
drop_pause (suc k) (suc p) steps h = drop_pause k p steps (omega arith) ∙ ap (λ n. replicate n [] ++ steps) (let e : p - k ≡ suc p - suc k = omega arith in e)

pub first_pause : {E : Type 0} → (j p : ℕ) (steps : List (List E)) → j < p → first_step (drop j (replicate p [] ++ steps)) ≡ []
first_pause j zero steps h = absurd (omega arith)
first_pause zero (suc p) steps h = refl
first_pause (suc j) (suc p) steps h = first_pause j p steps (omega arith)

pub within_pause : (k p : ℕ) → nat_le k p ≡ true → k ≤ p
within_pause k p h = grind (arith, common_steps)

-- a client
stand_rests : (k : ℕ) (ms : List ℕ) (c : Stand) → (c.over || nat_le k c.pause) ≡ true → client_left ms (rested_stand k c) ≡ drop k (client_left ms c)
stand_rests k ms c h = by_test c.over h
  where
    by_test : (o : Bool) → (o || nat_le k c.pause) ≡ true
        → left_after o (c.pause - k) (steps_from c.queues c.number (standing_in ms c) c.lines) ≡ drop k (left_after o c.pause (steps_from c.queues c.number (standing_in ms c) c.lines))
    by_test true e = sym (drop-nil {A = List QueuePut} k)
    by_test false e = sym (drop_pause k c.pause (steps_from c.queues c.number (standing_in ms c) c.lines) (within_pause k c.pause e))

stand_idle : (k : ℕ) (ms : List ℕ) (c : Stand) (j : ℕ) → (c.over || nat_le k c.pause) ≡ true → j < k → first_step (drop j (client_left ms c)) ≡ []
stand_idle k ms c j h below = by_test c.over h
  where
    by_test : (o : Bool) → (o || nat_le k c.pause) ≡ true → first_step (drop j (left_after o c.pause (steps_from c.queues c.number (standing_in ms c) c.lines))) ≡ []
    by_test true e = ap first_step (drop-nil {A = List QueuePut} j)
    by_test false e =
        let fits : k ≤ c.pause = within_pause k c.pause e in
        first_pause j c.pause (steps_from c.queues c.number (standing_in ms c) c.lines) (omega arith)

-- a publisher
sender_rests : (k : ℕ) (p : Sender) → (p.over || nat_le k p.pause) ≡ true → steps_in (rested_sender k p) ≡ drop k (steps_in p)
sender_rests k p h = by_test p.over h
  where
    by_test : (o : Bool) → (o || nat_le k p.pause) ≡ true → steps_after o (p.pause - k) p.lines ≡ drop k (steps_after o p.pause p.lines)
    by_test true e = sym (drop-nil {A = List PublisherEntry} k)
    by_test false e = sym (drop_pause k p.pause (publisher_steps p.lines) (within_pause k p.pause e))

sender_idle : (k : ℕ) (p : Sender) (j : ℕ) → (p.over || nat_le k p.pause) ≡ true → j < k → first_step (drop j (steps_in p)) ≡ []
sender_idle k p j h below = by_test p.over h
  where
    by_test : (o : Bool) → (o || nat_le k p.pause) ≡ true → first_step (drop j (steps_after o p.pause p.lines)) ≡ []
    by_test true e = ap first_step (drop-nil {A = List PublisherEntry} j)
    by_test false e =
        let fits : k ≤ p.pause = within_pause k p.pause e in
        first_pause j p.pause (publisher_steps p.lines) (omega arith)

pub first_of_both : (a b : Bool) → (a && b) ≡ true → a ≡ true
first_of_both true b h = refl
first_of_both false b h = h

pub second_of_both : (a b : Bool) → (a && b) ≡ true → b ≡ true
second_of_both true b h = h
second_of_both false b h = cc

abbrev can_stand : ℕ → Stand → Bool
can_stand k c = c.over || nat_le k c.pause

abbrev can_send : ℕ → Sender → Bool
can_send k p = p.over || nat_le k p.pause

lefts_rest : (k : ℕ) (ms : List (List ℕ)) (cs : List Stand) → list_all (can_stand k) cs ≡ true → lefts ms (map (rested_stand k) cs) ≡ map (drop k) (lefts ms cs)
lefts_rest k [] cs h = refl
lefts_rest k (m ∷ ms) [] h = refl
lefts_rest k (m ∷ ms) (c ∷ cs) h =
    ap (λ x. x ∷ lefts ms (map (rested_stand k) cs)) (stand_rests k m c (first_of_both (can_stand k c) (list_all (can_stand k) cs) h))
    ∙ ap (λ l. drop k (client_left m c) ∷ l) (lefts_rest k ms cs (second_of_both (can_stand k c) (list_all (can_stand k) cs) h))

lefts_idle : (k : ℕ) (ms : List (List ℕ)) (cs : List Stand) → list_all (can_stand k) cs ≡ true → Idle k (lefts ms cs)
lefts_idle k [] cs h c j below = ap first_step (drop-nil {A = List QueuePut} j)
lefts_idle k (m ∷ ms) [] h c j below = ap first_step (drop-nil {A = List QueuePut} j)
lefts_idle k (m ∷ ms) (x ∷ cs) h zero j below = stand_idle k m x j (first_of_both (can_stand k x) (list_all (can_stand k) cs) h) below
lefts_idle k (m ∷ ms) (x ∷ cs) h (suc c) j below = lefts_idle k ms cs (second_of_both (can_stand k x) (list_all (can_stand k) cs) h) c j below

sends_rest : (k : ℕ) (ps : List Sender) → list_all (can_send k) ps ≡ true → map steps_in (map (rested_sender k) ps) ≡ map (drop k) (map steps_in ps)
sends_rest k [] h = refl
sends_rest k (p ∷ ps) h =
    ap (λ x. x ∷ map steps_in (map (rested_sender k) ps)) (sender_rests k p (first_of_both (can_send k p) (list_all (can_send k) ps) h))
    ∙ ap (λ l. drop k (steps_in p) ∷ l) (sends_rest k ps (second_of_both (can_send k p) (list_all (can_send k) ps) h))

sends_idle : (k : ℕ) (ps : List Sender) → list_all (can_send k) ps ≡ true → Idle k (map steps_in ps)
sends_idle k [] h c j below = ap first_step (drop-nil {A = List PublisherEntry} j)
sends_idle k (p ∷ ps) h zero j below = sender_idle k p j (first_of_both (can_send k p) (list_all (can_send k) ps) h) below
sends_idle k (p ∷ ps) h (suc c) j below = sends_idle k ps (second_of_both (can_send k p) (list_all (can_send k) ps) h) c j below

-- what the clients have read stays
moments_rest : (k : ℕ) (ms : List (List ℕ)) (cs : List Stand) → AreMoments ms (map (rested_stand k) cs) → AreMoments ms cs
moments_rest k [] [] h = tt
moments_rest k [] (c ∷ cs) h = absurd h
moments_rest k (m ∷ ms) [] h = absurd h
moments_rest k (m ∷ ms) (c ∷ cs) h = (h.0, moments_rest k ms cs h.1)

ends_rest : (k : ℕ) (cs : List Stand) → AllEnd cs → AllEnd (map (rested_stand k) cs)
ends_rest k [] h = tt
ends_rest k (c ∷ cs) h = (h.0, ends_rest k cs h.1)

length_lefts : (ms : List (List ℕ)) (cs : List Stand) → AreMoments ms cs → length (lefts ms cs) ≡ length cs
length_lefts [] [] h = refl
length_lefts [] (c ∷ cs) h = absurd h
length_lefts (m ∷ ms) [] h = absurd h
length_lefts (m ∷ ms) (c ∷ cs) h = ap suc (length_lefts ms cs h.1)

world_rests : (k : ℕ) (s : Scene) → world_in (rested k s) ≡ world_in s
world_rests k s =
    ap (λ l. record (world_in s) { publishers = l; to_publishers = map lane_in (map (rested_sender k) s.senders) }) (map_same entries_in (rested_sender k) (λ p. refl) s.senders)
    ∙ ap (λ l. record (world_in s) { to_publishers = l }) (map_same lane_in (rested_sender k) (λ p. refl) s.senders)

-- a scene that rests makes so many rounds
pub rests : (k : ℕ) (s : Scene) → length s.clients ≡ clients_of s.shape → length s.senders ≡ publishers_of s.shape → CanRest k s → Advances (Rounds k) s (rested k s)
rests k s clients publishers can = record {
  setting = ap (λ l. record { shape = s.shape; publishers = l; objects = s.objects; groups = s.groups; watches = s.watches }) (map_same script_in (rested_sender k) (λ p. refl) s.senders);
  client_count = length-map s.clients (rested_stand k);
  sender_count = length-map s.senders (rested_sender k);
  moments = λ ms h. moments_rest k ms s.clients h;
  stages = λ ms h.
      let own : AreMoments ms s.clients = moments_rest k ms s.clients h in
      let st : Stage = stage_in ms s in
      let is : record st { clients = map (drop k) st.clients; publishers = map (drop k) st.publishers } ≡ stage_in ms (rested k s) =
      ap (λ l. record st { clients = l; publishers = map (drop k) (map steps_in s.senders) }) (sym (lefts_rest k ms s.clients can.clients))
      ∙ ap (λ l. record st { clients = lefts ms (map (rested_stand k) s.clients); publishers = l }) (sym (sends_rest k s.senders can.publishers))
      ∙ ap (λ w. record { clients = lefts ms (map (rested_stand k) s.clients); publishers = map steps_in (map (rested_sender k) s.senders); world = w }) (sym (world_rests k s)) in
      subst (λ (t : Stage). AreRounds (setting_in s) k st t) is
      (rounds_rest (setting_in s) st k can.quiet (length_lefts ms s.clients own ∙ clients) (length-map s.senders steps_in ∙ publishers)
      (lefts_idle k ms s.clients can.clients) (sends_idle k s.senders can.publishers));
  told = map_same reading (rested_stand k) (λ c. refl) s.clients;
  ends = λ h. ends_rest k s.clients h;
  heard = λ h. h;
}

-- rounds after rounds
rounds_after : (setting : Setting) (n k : ℕ) (s m t : Stage) → AreRounds setting n s m → AreRounds setting k m t → AreRounds setting (k + n) s t
rounds_after setting n zero s m t h is = subst (λ j. AreRounds setting j s t) (let e : n ≡ 0 + n = omega arith in e) (subst (λ (x : Stage). AreRounds setting n s x) (sym is) h)
rounds_after setting n (suc k) s m t h more =
    subst (λ j. AreRounds setting j s t) (let e : suc (k + n) ≡ suc k + n = omega arith in e) (more.0, rounds_after setting n k s m more.0 h more.1, more.2)

pub plays_then : (a b c : Scene) → Plays a b → Plays b c → Plays a c
plays_then a b c before more = record {
  count = more.count + before.count;
  rounds = advances_then (Rounds before.count) (Rounds more.count) (Rounds (more.count + before.count)) a b c
      (λ setting s m t h k. rounds_after setting before.count more.count s m t h k) before.rounds more.rounds;
}

-- IN A SYSTEM

pub upto_step : {A : Type 0} → (f : A → A) (n : ℕ) (xs ys : List A) (x y : A) → ys ≡ upto f n xs → x ≡ get_or ys n x → y ≡ f x → set ys n y ≡ upto f (n + 1) xs
upto_step f n xs ys x y so_far at changed =
    ap (set ys n) (changed ∙ ap f at)
    ∙ ap (λ l. set l n (f (get_or l n x))) so_far ∙ upto_more f n xs x ∙ ap (λ m. upto f m xs) (sym (add-one n))

pub upto_end : {A : Type 0} → (f : A → A) (n : ℕ) (xs ys : List A) → ys ≡ upto f n xs → n ≡ length xs → ys ≡ map f xs
upto_end f n xs ys so_far all = so_far ∙ ap (λ m. upto f m xs) all ∙ upto_all f xs

pub can_rest_by : (s old : Scene) (k : ℕ) → s ≡ old → IsQuiet (world_in old) → list_all (λ (c : Stand). c.over || nat_le k c.pause) s.clients ≡ true
    → list_all (λ (p : Sender). p.over || nat_le k p.pause) s.senders ≡ true → CanRest k old
can_rest_by s old k is quiet clients publishers = record {
  quiet = quiet;
  clients = ap (λ (o : Scene). list_all (λ (c : Stand). c.over || nat_le k c.pause) o.clients) (sym is) ∙ clients;
  publishers = ap (λ (o : Scene). list_all (λ (p : Sender). p.over || nat_le k p.pause) o.senders) (sym is) ∙ publishers;
}

pub rests_to : (s old : Scene) (k : ℕ) (clients : List Stand) (senders : List Sender) → s ≡ old → length s.clients ≡ clients_of s.shape → length s.senders ≡ publishers_of s.shape
    → CanRest k old → clients ≡ map (rested_stand k) s.clients → senders ≡ map (rested_sender k) s.senders
    → Advances (Rounds k) old (record s { clients = clients; senders = senders })
rests_to s old k clients senders is counted numbered can clients_are senders_are =
    let after : record s { clients = clients; senders = senders } ≡ rested k s =
    ap (λ l. record s { clients = l; senders = senders }) clients_are ∙ ap (λ l. record s { clients = map (rested_stand k) s.clients; senders = l }) senders_are in
    subst (λ (o : Scene). Advances (Rounds k) o (record s { clients = clients; senders = senders })) is
    (subst (λ (a : Scene). Advances (Rounds k) s a) (sym after)
    (rests k s counted numbered (subst (CanRest k) (sym is) can)))

pub lanes_rest : (k : ℕ) (ss : List Sender) → map lane_in (map (rested_sender k) ss) ≡ map lane_in ss
lanes_rest k ss = map_same lane_in (rested_sender k) (λ p. refl) ss

-- a scene that rests keeps its journals and lanes
pub journals_rest : (s old : Scene) (k : ℕ) (clients : List Stand) (senders : List Sender) → s ≡ old → senders ≡ map (rested_sender k) s.senders
    → world_in (record s { clients = clients; senders = senders }) ≡ world_in old
journals_rest s old k clients senders is senders_are =
    ap (λ (l : List Sender). world_in (record s { clients = clients; senders = l })) senders_are ∙ world_rests k s ∙ ap world_in is

-- PUBLISHERS THAT ARE PASSED OVER

-- one that is over has no step left
pub over_at : (ss : List Sender) (n : ℕ) (x : Sender) → n < length ss → x ≡ get_or ss n x → x.over ≡ true → get_or (map steps_in ss) n [] ≡ []
over_at ss n x within at over = get_or-map steps_in ss n x [] within ∙ ap steps_in (sym at) ∙ ap (λ o. steps_after o x.pause x.lines) over

-- none is passed over
pub passed_none : (from : ℕ) (s : Scene) → from ≤ publishers_of s.shape → ArePassed from from s
passed_none from s within = record {
  above = let h : from ≤ from = omega arith in h;
  within = within;
  quiet = λ more. absurd (omega (arith, more));
  over = λ n low high. absurd (omega (arith, low, high));
}

pub passed_by : (from next : ℕ) (s old : Scene) → s ≡ old → length s.senders ≡ publishers_of s.shape → IsQuiet (world_in old) → next ≤ length s.senders
    → (from ≤ length s.senders → from ≤ next) → ((n : ℕ) → n < next → from ≤ n → get_or (map steps_in s.senders) n [] ≡ []) → from ≤ publishers_of old.shape → ArePassed from next old
passed_by from next s old is counted quiet within above over begins =
    let count : length s.senders ≡ publishers_of old.shape = counted ∙ ap (λ (o : Scene). publishers_of o.shape) is in
    record {
      above = above (let h : from ≤ length s.senders = omega (arith, begins, count) in h);
      within = let h : next ≤ publishers_of old.shape = omega (arith, within, count) in h;
      quiet = λ more. quiet;
      over = λ n low high. ap (λ (o : Scene). get_or (map steps_in o.senders) n []) (sym is) ∙ over n low high;
    }
