-- A record is followed to its end: where the steps of all passes lead, and that it is the record again.
use Rattle.std.specs.Prelude.{slice_get, slice_index_or}
use Rattle.std.specs.List.{flat_map, list_all, list_any}
use Rattle.std.proofs.Common.{◌≡◌, ℕ, zero, suc, ◌+◌, ◌<◌, ◌≤◌, true, false, List, [], ◌∷◌, ◌++◌, length, map, get_or, replicate, Option, Some, refl, sym, ◌∙◌, ap, subst, arith, append-nil, append_assoc}
use Rattle.std.proofs.lemmas.Bool.{true≢false, false≢true}
use Rattle.std.proofs.lemmas.List.{length-map, length-append, ext_get_or}
use Rattle.std.proofs.lemmas.List.Concat.{flat_map-append}
use Rattle.mama_journal.specs.Journal.{count_of, numbers_below}
use Rattle.mama_journal.specs.Lane.{by_port}
use Rattle.mama_event.specs.declared.to_queue.QueueNote.{QueueNote}
use Rattle.mama_event.specs.declared.publisher_entry.PublisherEntry.{PublisherEntry}
use Rattle.mama_event.specs.declared.publisher_entry.PublisherEntry.TheVariants.{Send, Done, Took}
use Rattle.mama_event.specs.Ports.{clients_of, publishers_of, queues_of}
use Rattle.mama_event.specs.Publisher.{is_send}
use Rattle.mama_event.specs.Publisher as send
use Rattle.mama_check_order.specs.Search.{entries_of}
use Rattle.mama_check_order.specs.declared.order.Need.{Need}
use Rattle.mama_script.specs.declared.client.ClientLine.{ClientLine}
use Rattle.mama_script.specs.declared.publisher.PublisherLine.{PublisherLine}
use Rattle.mama_script.specs.declared.publisher.PublisherLine.TheVariants as line
use Rattle.mama_script.specs.declared.publisher.PublisherPart.{PublisherPart}
use Rattle.mama_script.specs.Script.{ScriptData}
use Rattle.mama_script.specs.Tree.{IsShaped}
use Rattle.mama_record.specs.RunData.{RunData, ObjectCalls, LastImage, GroupNotes, WatchNotes}
use Rattle.mama_rules_rounds.specs.Setting.{Setting, no_section}
use Rattle.mama_rules_rounds.specs.World.{World}
use Rattle.mama_rules_rounds.specs.Stage.{Stage}
use Rattle.mama_rules_rounds.specs.Sections.{sends_in, publishers_from, setting_of}
use Rattle.mama_rules_rounds.specs.Told.{object_calls, last_image, group_told, watch_told}
use Rattle.mama_rules_rounds.specs.Round.{publisher_line_steps, publisher_steps, no_journals, record_of}
use Rattle.mama_rules_legal.specs.Lines.{is_take, is_done, IsSentOut}
use Rattle.mama_rules_legal.specs.Edges.{client_puts}
use Rattle.mama_rules_legal.specs.Legal.{IsLegal}
use Rattle.mama_laws_legal.proofs.Lists.{by_port-append}
use Rattle.mama_rules_queue.specs.Queue.{QueuePut}
use Rattle.mama_laws_legal.proofs.Worlds.{Holds}
use Rattle.mama_laws_legal.proofs.Whole.{nothing_at, sections_len, resting_at_start}
use Rattle.mama_check_puts.specs.Puts.{bridge_put_to_publisher}
use Rattle.mama_check.specs.Causal.{publisher_actor, bridge_actor, timers_actor, queue_actor, of_each, client_needs, publisher_needs, bridge_needs, timers_needs, queue_needs, all_needs, actors_to_bridge, all_to_bridge, actors_to_timers, all_to_timers, actors_to_queue, all_to_queue}
use Rattle.mama_check.specs.declared.verdict.Actor.{Actor}
use Rattle.mama_check.specs.declared.verdict.Actor.TheVariants as actor
use Rattle.mama_check.proofs.Causes.{length_of_each}
use Rattle.mama_check.proofs.Lanes.{publishers_are}
use Rattle.mama_check.proofs.Numbers.{are_by_number}
use Rattle.mama_laws_causal.proofs.Numbers.{Begins}
use Rattle.mama_laws_causal.proofs.Needs.{needs_count, sender_count}
use Rattle.mama_replay.specs.declared.step.Step.{Step}
use Rattle.mama_replay.specs.Followed.{sending, at_start, after_steps, followed}
use Rattle.mama_replay.specs.Passes.{by_itself, in_order, pass, passes, ArePassSteps}
use Rattle.mama_replay.specs.Ranks.{ranks_at}
use Rattle.mama_replay.specs.Dealt.{client_dealt, publisher_dealt, taker_dealt, all_dealt, in_passes}
use Rattle.mama_replay.specs.Needs as steps
use Rattle.mama_replay.proofs.Counts.{IsRanking, IsCut}
use Rattle.mama_replay.proofs.Following.{Stands, own_in, plain_needs, bridge_moves, timers_moves, queue_moves, step_by}
use Rattle.mama_replay.proofs.FollowingOwn.{own_step, publisher_moves, client_moves}
use Rattle.mama_replay.proofs.Actors.{mapped_number, order_count}
use Rattle.mama_replay.proofs.Passing.{IsGoing, AreGoing, HasGone, going_append, going_numbers, ArePasses, are_passes, no_pass, client_own, publisher_own, taker_own, all_made, first_empty, second_empty}

-- ---- what a record tells by its journals

told_again : (setting : Setting) (run : RunData) → run.calls ≡ map (object_calls setting run.queues) setting.objects → run.images ≡ flat_map (last_image setting run.queues) setting.objects
    → run.groups ≡ map (group_told setting run.queues) setting.groups → run.watches ≡ map (watch_told setting run.queues) setting.watches
    → (w : World) → w.publishers ≡ run.publishers → w.bridge ≡ run.bridge → w.timers ≡ run.timers → w.queues ≡ run.queues → record_of setting run.clients w ≡ run
told_again setting run calls images groups watches w publishers bridge timers queues =
    ap (λ (ps : List (List PublisherEntry)). record_of setting run.clients (record w { publishers = ps })) publishers
    ∙ ap (λ (j : List _). record_of setting run.clients (record w { publishers = run.publishers; bridge = j })) bridge
    ∙ ap (λ (j : List _). record_of setting run.clients (record w { publishers = run.publishers; bridge = run.bridge; timers = j })) timers
    ∙ ap (λ (qs : List (List (ℕ × QueueNote))). record_of setting run.clients (record w { publishers = run.publishers; bridge = run.bridge; timers = run.timers; queues = qs })) queues
    ∙ ap (λ (cs : List ObjectCalls). record run { calls = cs; images = flat_map (last_image setting run.queues) setting.objects; groups = map (group_told setting run.queues) setting.groups; watches = map (watch_told setting run.queues) setting.watches }) (sym calls)
    ∙ ap (λ (is : List LastImage). record run { images = is; groups = map (group_told setting run.queues) setting.groups; watches = map (watch_told setting run.queues) setting.watches }) (sym images)
    ∙ ap (λ (gs : List GroupNotes). record run { groups = gs; watches = map (watch_told setting run.queues) setting.watches }) (sym groups)
    ∙ ap (λ (ws : List WatchNotes). record run { watches = ws }) (sym watches)

-- ---- how many actors there are

pub all_count : (script : ScriptData) (run : RunData) → length (all_needs script run) ≡ clients_of script.shape + publishers_of script.shape + 2 + queues_of script.shape
all_count script run =
    let cs : List (List (Option Need)) = of_each (clients_of script.shape) (client_needs script) in
    let ps : List (List (Option Need)) = of_each (publishers_of script.shape) (publisher_needs script run) in
    let middle : List (List (Option Need)) = bridge_needs script run ∷ timers_needs script run ∷ [] in
    let qs : List (List (Option Need)) = of_each (queues_of script.shape) (queue_needs script run) in
    let a : length (((cs ++ ps) ++ middle) ++ qs) ≡ length ((cs ++ ps) ++ middle) + length qs = length-append ((cs ++ ps) ++ middle) qs in
    let b : length ((cs ++ ps) ++ middle) ≡ length (cs ++ ps) + 2 = length-append (cs ++ ps) middle in
    let c : length (cs ++ ps) ≡ length cs + length ps = length-append cs ps in
    let d : length cs ≡ clients_of script.shape = length_of_each (client_needs script) (clients_of script.shape) in
    let e : length ps ≡ publishers_of script.shape = length_of_each (publisher_needs script run) (publishers_of script.shape) in
    let f : length qs ≡ queues_of script.shape = length_of_each (queue_needs script run) (queues_of script.shape) in
    omega arith

pub steps_count : (clients : List (List ClientLine)) (n : ℕ) (all : List (List (Option Need))) → length (steps.needs_from clients n all) ≡ length all
steps_count clients n [] = refl
steps_count clients n (own ∷ all) = ap suc (steps_count clients (suc n) all)

below_count : {X : Type 0} (f : ℕ → X) (n : ℕ) → length (map f (numbers_below n)) ≡ n
below_count f n = length_of_each f n

-- ---- before the first step

-- what a publisher does of its own accord, by its journal and by its lines
own_append : (xs ys : List PublisherEntry) → own_in (xs ++ ys) ≡ own_in xs ++ own_in ys
own_append [] ys = refl
own_append (Took note ∷ xs) ys = own_append xs ys
own_append (Send ∷ xs) ys = ap (λ (es : List (List PublisherEntry)). (Send ∷ []) ∷ es) (own_append xs ys)
own_append (Done ∷ xs) ys = ap (λ (es : List (List PublisherEntry)). (Done ∷ []) ∷ es) (own_append xs ys)

only_takes : (es : List PublisherEntry) → list_all is_take es ≡ true → own_in es ≡ []
only_takes [] h = refl
only_takes (Took note ∷ es) h = only_takes es h
only_takes (Send ∷ es) h = absurd (false≢true h)
only_takes (Done ∷ es) h = absurd (false≢true h)

only_sends : (es : List PublisherEntry) → list_any is_done es ≡ false → own_in es ≡ replicate (count_of is_send es) (Send ∷ [])
only_sends [] h = refl
only_sends (Took note ∷ es) h = only_sends es h
only_sends (Send ∷ es) h = ap (λ (xs : List (List PublisherEntry)). (Send ∷ []) ∷ xs) (only_sends es h)
only_sends (Done ∷ es) h = absurd (true≢false h)

line_sends : (lines : List PublisherLine) → flat_map publisher_line_steps (sending lines) ≡ replicate (length (flat_map sends_in lines)) (Send ∷ [])
line_sends [] = refl
line_sends (line.Update u ∷ lines) = ap (λ (xs : List (List PublisherEntry)). (Send ∷ []) ∷ xs) (line_sends lines)
line_sends (line.Recap ∷ lines) = ap (λ (xs : List (List PublisherEntry)). (Send ∷ []) ∷ xs) (line_sends lines)
line_sends (line.Pause n ∷ lines) = line_sends lines

own_steps : (lines : List PublisherLine) (journal : List PublisherEntry) → IsSentOut (length (flat_map sends_in lines)) journal → publisher_steps (sending lines) ≡ own_in journal
own_steps lines journal sent =
    ap (λ (xs : List (List PublisherEntry)). xs ++ (Done ∷ []) ∷ []) (line_sends lines ∙ ap (λ (n : ℕ). replicate n (Send ∷ [])) (sym sent.sends) ∙ sym (only_sends sent.before sent.first_done))
    ∙ ap (λ (xs : List (List PublisherEntry)). own_in sent.before ++ (Done ∷ []) ∷ xs) (sym (own_append sent.between _ ∙ ap (λ (xs : List (List PublisherEntry)). xs ++ []) (only_takes sent.between sent.takes)))
    ∙ sym (own_append sent.before _)
    ∙ ap own_in (sym sent.whole)

sections_at : (n : ℕ) (parts : List PublisherPart) (p : ℕ) → p < length parts → (x : PublisherPart) → (slice_index_or (publishers_from n parts) p no_section).lines ≡ flat_map sends_in (get_or parts p x).lines
sections_at n [] p low x = absurd (omega arith)
sections_at n (s ∷ parts) zero low x = refl
sections_at n (s ∷ parts) (suc p) low x = sections_at (suc n) parts p (omega arith) x

steps_of_part : (parts : List PublisherPart) (p : ℕ) → p < length parts → (x : PublisherPart) → slice_index_or (map (λ s. publisher_steps (sending s.lines)) parts) p [] ≡ publisher_steps (sending (get_or parts p x).lines)
steps_of_part [] p low x = absurd (omega arith)
steps_of_part (s ∷ parts) zero low x = refl
steps_of_part (s ∷ parts) (suc p) low x = steps_of_part parts p (omega arith) x

part_at : (parts : List PublisherPart) (p : ℕ) → p < length parts → PublisherPart
part_at [] p low = absurd (omega arith)
part_at (s ∷ parts) p low = s

nothing_begins : {X : Type 0} (so_far whole : List X) → so_far ≡ [] → Begins so_far whole
nothing_begins {X} so_far whole is = (whole, ap (λ (xs : List X). xs ++ whole) is)

pub stands_first : (script : ScriptData) (run : RunData) → IsShaped script → IsLegal script run → Stands script run (λ a. 0) (at_start script run.clients)
stands_first script run shaped legal = record {
  clients = λ c low. refl;
  entries = record {
    publishers = λ p low. nothing_begins (slice_index_or (no_journals script).publishers p []) (slice_index_or run.publishers p []) (nothing_at script.publishers p);
    publishers_made = λ p low. ap (λ (j : List PublisherEntry). length j) (nothing_at script.publishers p);
    bridge = nothing_begins [] run.bridge refl;
    bridge_made = refl;
    timers = nothing_begins [] run.timers refl;
    timers_made = refl;
    queues = λ q low. nothing_begins (slice_index_or (no_journals script).queues q []) (slice_index_or run.queues q []) (nothing_at (numbers_below (queues_of script.shape)) q);
    queues_made = λ q low. ap (λ (j : List (ℕ × QueueNote)). length j) (nothing_at (numbers_below (queues_of script.shape)) q);
  };
  own = λ p low.
      let inside : p < length script.publishers = omega (arith, publishers_are script shaped) in
      let x : PublisherPart = part_at script.publishers p inside in
      steps_of_part script.publishers p inside x
      ∙ own_steps (get_or script.publishers p x).lines (slice_index_or run.publishers p [])
      (subst (λ (n : ℕ). IsSentOut n (slice_index_or run.publishers p [])) (ap (λ (ls : List send.SendLine). length ls) (sections_at 0 script.publishers p inside x)) (legal.lines.publishers p inside));
  holds = subst (λ (done : ℕ → List QueuePut). Holds (setting_of script) done (no_journals script)) (λ i c. nothing_put c i) (resting_at_start script run.clients).running.world;
}
  where
    nothing_before : {X : Type 0} (xs ys : List X) → xs ++ ys ≡ ys → xs ≡ []
    nothing_before [] ys is = refl
    nothing_before {X} (x ∷ xs) ys is =
        let many : suc (length xs) + length ys ≡ length ys = sym (length-append (x ∷ xs) ys) ∙ ap (λ (zs : List X). length zs) is in
        absurd (omega (arith, many))

    nothing_put : (c : ℕ) → (resting_at_start script run.clients).running.done c ≡ []
    nothing_put c = nothing_before ((resting_at_start script run.clients).running.done c) (client_puts script run.clients c) ((resting_at_start script run.clients).running.steps c)

-- ---- lists in their order

sum_one : (a b : ℕ) → a ≡ b → 0 + a ≡ 0 + b
sum_one a b same = omega (arith, same)

sum_two : (c p : ℕ) (cs ps : List Actor) → length cs ≡ c → length ps ≡ p → c + p ≡ 0 + length (cs ++ ps)
sum_two c p cs ps many_c many_p = let both : length (cs ++ ps) ≡ length cs + length ps = length-append cs ps in omega (arith, both, many_c, many_p)

mapped_as : {Z : Type 0} (f : Actor → List Z) (g : ℕ → Actor) (h : ℕ → List Z) → ((x : ℕ) → f (g x) ≡ h x) → (xs : List ℕ) → flat_map f (map g xs) ≡ flat_map h xs
mapped_as f g h same [] = refl
mapped_as {Z} f g h same (x ∷ xs) = ap (λ (zs : List Z). zs ++ flat_map f (map g xs)) (same x) ∙ ap (λ (zs : List Z). h x ++ zs) (mapped_as f g h same xs)

in_parts : {Z : Type 0} (f : Actor → List Z) (cs ps qs : List Actor) (b t : Actor) → flat_map f ((cs ++ ps) ++ (b ∷ t ∷ qs)) ≡ (((flat_map f cs ++ flat_map f ps) ++ f b) ++ f t) ++ flat_map f qs
in_parts {Z} f cs ps qs b t =
    flat_map-append f (cs ++ ps) (b ∷ t ∷ qs)
    ∙ ap (λ (zs : List Z). zs ++ (f b ++ (f t ++ flat_map f qs))) (flat_map-append f cs ps)
    ∙ sym (append_assoc ((flat_map f cs ++ flat_map f ps) ++ f b) (f t) (flat_map f qs) ∙ append_assoc (flat_map f cs ++ flat_map f ps) (f b) (f t ++ flat_map f qs))

same_five : {Z : Type 0} {a a2 b b2 e e2 : List Z} → a ≡ a2 → b ≡ b2 → (c d : List Z) → e ≡ e2 → (((a ++ b) ++ c) ++ d) ++ e ≡ (((a2 ++ b2) ++ c) ++ d) ++ e2
same_five {Z} {a} {a2} {b} {b2} {e} {e2} first second c d last =
    ap (λ (zs : List Z). (((zs ++ b) ++ c) ++ d) ++ e) first
    ∙ ap (λ (zs : List Z). (((a2 ++ zs) ++ c) ++ d) ++ e) second
    ∙ ap (λ (zs : List Z). (((a2 ++ b2) ++ c) ++ d) ++ zs) last

-- ---- the actors in their order

module _ (script : ScriptData) (run : RunData) (shaped : IsShaped script) (legal : IsLegal script run) where
  count : length (all_needs script run) ≡ clients_of script.shape + publishers_of script.shape + 2 + queues_of script.shape
  count = all_count script run

  as_many : publishers_of script.shape ≡ length script.publishers
  as_many = publishers_are script shaped

  abbrev pub wants : List (List (Option Need))
  wants = steps.step_needs script.clients (all_needs script run)

  pub plain_count : (a : ℕ) (own : List (Option Need)) (n : ℕ) → clients_of script.shape ≤ a → a < length (all_needs script run) → slice_index_or (all_needs script run) a [] ≡ own → length own ≡ n
      → length (entries_of (steps.step_needs script.clients (all_needs script run)) a) ≡ n
  plain_count a own n past low is many =
      ap (λ (os : List (Option Need)). length os) (plain_needs script run shaped legal.edges (all_count script run) a own past low is) ∙ length-map own (steps.renumbered (steps.all_numbers script.clients)) ∙ many

  abbrev pub clients_in : List Actor
  clients_in = map (λ c. actor.Client c) (numbers_below (clients_of script.shape))

  abbrev pub publishers_in : List Actor
  publishers_in = map (λ p. actor.Publisher p) (numbers_below (publishers_of script.shape))

  abbrev pub others_in : List Actor
  others_in = actor.Bridge ∷ actor.Timers ∷ map (λ q. actor.Queue q) (numbers_below (queues_of script.shape))

  module _ (ranks : List (List ℕ)) (r : IsRanking (steps.step_needs script.clients (all_needs script run)) ranks) where
    -- the steps of an actor with their passes
    abbrev pub dealt_by : Actor → List (ℕ × Step)
    dealt_by (actor.Client c) = client_dealt c (ranks_at ranks c)
    dealt_by (actor.Publisher p) = publisher_dealt p (ranks_at ranks (publisher_actor script.shape p)) (slice_index_or run.publishers p [])
    dealt_by actor.Bridge = taker_dealt actor.Bridge (ranks_at ranks (bridge_actor script.shape)) run.bridge
    dealt_by actor.Timers = taker_dealt actor.Timers (ranks_at ranks (timers_actor script.shape)) run.timers
    dealt_by (actor.Queue q) = taker_dealt (actor.Queue q) (ranks_at ranks (queue_actor script.shape q)) (slice_index_or run.queues q [])
    dealt_by (actor.Object o) = []
    dealt_by (actor.Group g) = []
    dealt_by (actor.Watch g) = []

    abbrev pub Going : Actor → ℕ → Type 0
    Going who a = IsGoing script run (steps.step_needs script.clients (all_needs script run)) ranks dealt_by who a

    client_going : (c : ℕ) → c < clients_of script.shape → Going (actor.Client c) (0 + c)
    client_going c low =
        let place : c ≡ 0 + c = omega arith in
        subst (λ (n : ℕ). Going (actor.Client c) n) place (record {
          steps = λ k. by_itself (actor.Client c) ∷ [];
          own = client_own ranks (steps.step_needs script.clients (all_needs script run)) c (r.as_many c);
          moves = λ made s stands. client_moves script run shaped legal.edges (all_count script run) (publishers_are script shaped) made s stands c low;
        })

    publisher_going : (p : ℕ) → p < publishers_of script.shape → Going (actor.Publisher p) (0 + clients_of script.shape + p)
    publisher_going p low =
        let place : publisher_actor script.shape p ≡ 0 + clients_of script.shape + p = omega arith in
        subst (λ (n : ℕ). Going (actor.Publisher p) n) place (record {
          steps = λ k. own_step p (slice_get (slice_index_or run.publishers p []) k);
          own = publisher_own ranks (steps.step_needs script.clients (all_needs script run)) p (publisher_actor script.shape p) (slice_index_or run.publishers p []) (r.as_many (publisher_actor script.shape p))
              (plain_count (publisher_actor script.shape p) (publisher_needs script run p) (length (slice_index_or run.publishers p [])) (omega arith) (omega (arith, all_count script run)) ((are_by_number script run).publishers p low)
              (sender_count (bridge_actor script.shape) (bridge_put_to_publisher script.shape run.bridge p) (slice_index_or run.publishers p [])));
          moves = λ made s stands. publisher_moves script run shaped legal.edges (all_count script run) (publishers_are script shaped) made s stands p low;
        })

    bridge_going : Going actor.Bridge (bridge_actor script.shape)
    bridge_going = record {
      steps = λ k. step_by actor.Bridge (slice_get run.bridge k);
      own = taker_own ranks (steps.step_needs script.clients (all_needs script run)) actor.Bridge (bridge_actor script.shape) run.bridge (r.as_many (bridge_actor script.shape))
          (plain_count (bridge_actor script.shape) (bridge_needs script run) (length run.bridge) (omega arith) (omega (arith, all_count script run)) (are_by_number script run).bridge
          (needs_count (actors_to_bridge script.shape) (all_to_bridge script run) run.bridge));
      moves = λ made s stands. bridge_moves script run shaped legal.edges (all_count script run) made s stands;
    }

    timers_going : Going actor.Timers (suc (bridge_actor script.shape))
    timers_going =
        let place : timers_actor script.shape ≡ suc (bridge_actor script.shape) = omega arith in
        subst (λ (n : ℕ). Going actor.Timers n) place (record {
          steps = λ k. step_by actor.Timers (slice_get run.timers k);
          own = taker_own ranks (steps.step_needs script.clients (all_needs script run)) actor.Timers (timers_actor script.shape) run.timers (r.as_many (timers_actor script.shape))
              (plain_count (timers_actor script.shape) (timers_needs script run) (length run.timers) (omega arith) (omega (arith, all_count script run)) (are_by_number script run).timers
              (needs_count (actors_to_timers script.shape) (all_to_timers script run) run.timers));
          moves = λ made s stands. timers_moves script run shaped legal.edges (all_count script run) made s stands;
        })

    queue_going : (q : ℕ) → q < queues_of script.shape → Going (actor.Queue q) (suc (suc (bridge_actor script.shape)) + q)
    queue_going q low =
        let place : queue_actor script.shape q ≡ suc (suc (bridge_actor script.shape)) + q = omega arith in
        subst (λ (n : ℕ). Going (actor.Queue q) n) place (record {
          steps = λ k. step_by (actor.Queue q) (slice_get (slice_index_or run.queues q []) k);
          own = taker_own ranks (steps.step_needs script.clients (all_needs script run)) (actor.Queue q) (queue_actor script.shape q) (slice_index_or run.queues q []) (r.as_many (queue_actor script.shape q))
              (plain_count (queue_actor script.shape q) (queue_needs script run q) (length (slice_index_or run.queues q [])) (omega arith) (omega (arith, all_count script run)) ((are_by_number script run).queues q low)
              (needs_count (actors_to_queue script.shape) (all_to_queue script run q) (slice_index_or run.queues q [])));
          moves = λ made s stands. queue_moves script run shaped legal.edges (all_count script run) made s stands q low;
        })

    pub all_going : AreGoing script run (steps.step_needs script.clients (all_needs script run)) ranks dealt_by 0 (in_order script.shape)
    all_going =
        going_append script run (steps.step_needs script.clients (all_needs script run)) ranks dealt_by 0 (clients_in ++ publishers_in) others_in
        (going_append script run (steps.step_needs script.clients (all_needs script run)) ranks dealt_by 0 clients_in publishers_in
        (going_numbers script run (steps.step_needs script.clients (all_needs script run)) ranks dealt_by 0 (λ c. actor.Client c) (clients_of script.shape) client_going)
        (subst (λ (n : ℕ). AreGoing script run (steps.step_needs script.clients (all_needs script run)) ranks dealt_by n publishers_in) (sum_one (clients_of script.shape) (length clients_in) (sym (below_count (λ c. actor.Client c) (clients_of script.shape))))
        (going_numbers script run (steps.step_needs script.clients (all_needs script run)) ranks dealt_by (0 + clients_of script.shape) (λ p. actor.Publisher p) (publishers_of script.shape) publisher_going)))
        (subst (λ (n : ℕ). AreGoing script run (steps.step_needs script.clients (all_needs script run)) ranks dealt_by n others_in)
        (sum_two (clients_of script.shape) (publishers_of script.shape) clients_in publishers_in (below_count (λ c. actor.Client c) (clients_of script.shape)) (below_count (λ p. actor.Publisher p) (publishers_of script.shape)))
        (bridge_going, (timers_going, going_numbers script run (steps.step_needs script.clients (all_needs script run)) ranks dealt_by (suc (suc (bridge_actor script.shape))) (λ q. actor.Queue q) (queues_of script.shape) queue_going)))

    pub few : length (steps.step_needs script.clients (all_needs script run)) ≤ length (in_order script.shape)
    few = omega (arith, steps_count script.clients 0 (all_needs script run), all_count script run, order_count script.shape)

    pub begun : HasGone script run (steps.step_needs script.clients (all_needs script run)) ranks r 0 0 (at_start script run.clients)
    begun = record {
      made = λ a. 0;
      within = record {
        earlier = λ b low. absurd (omega arith);
        others = λ b high. record { within = omega arith; before = λ k low. absurd (omega arith); after = λ k least inside. omega arith };
      };
      stands = stands_first script run shaped legal;
    }

    pub at_pass : (n : ℕ) → ArePasses script run (steps.step_needs script.clients (all_needs script run)) ranks r dealt_by (at_start script run.clients) begun all_going few n
    at_pass n = are_passes script run (steps.step_needs script.clients (all_needs script run)) ranks r dealt_by (at_start script run.clients) begun all_going few n

    -- ---- the same list as the code's

    pub same_dealt : all_dealt (clients_of script.shape) run ranks ≡ flat_map dealt_by (in_order script.shape)
    same_dealt =
        ap (λ (n : ℕ). flat_map (λ c. client_dealt c (slice_index_or ranks c [])) (numbers_below (clients_of script.shape))
        ++ flat_map (λ p. publisher_dealt p (slice_index_or ranks (clients_of script.shape + p) []) (slice_index_or run.publishers p [])) (numbers_below n)
        ++ taker_dealt actor.Bridge (slice_index_or ranks (clients_of script.shape + n) []) run.bridge
        ++ taker_dealt actor.Timers (slice_index_or ranks (clients_of script.shape + n + 1) []) run.timers
        ++ flat_map (λ q. taker_dealt (actor.Queue q) (slice_index_or ranks (clients_of script.shape + n + 2 + q) []) (slice_index_or run.queues q [])) (numbers_below (length run.queues))) senders
        ∙ same_five
        (sym (mapped_as dealt_by (λ c. actor.Client c) (λ c. client_dealt c (slice_index_or ranks c [])) (λ c. refl) (numbers_below (clients_of script.shape))))
        (sym (mapped_as dealt_by (λ p. actor.Publisher p) (λ p. publisher_dealt p (slice_index_or ranks (clients_of script.shape + p) []) (slice_index_or run.publishers p [])) (λ p. refl) (numbers_below (publishers_of script.shape))))
        (taker_dealt actor.Bridge (slice_index_or ranks (clients_of script.shape + publishers_of script.shape) []) run.bridge)
        (taker_dealt actor.Timers (slice_index_or ranks (clients_of script.shape + publishers_of script.shape + 1) []) run.timers)
        (ap (λ (n : ℕ). flat_map (λ q. taker_dealt (actor.Queue q) (slice_index_or ranks (clients_of script.shape + publishers_of script.shape + 2 + q) []) (slice_index_or run.queues q [])) (numbers_below n)) legal.shaped.queues
        ∙ sym (mapped_as dealt_by (λ q. actor.Queue q) (λ q. taker_dealt (actor.Queue q) (slice_index_or ranks (clients_of script.shape + publishers_of script.shape + 2 + q) []) (slice_index_or run.queues q [])) (λ q. refl) (numbers_below (queues_of script.shape))))
        ∙ sym (in_parts dealt_by clients_in publishers_in (map (λ q. actor.Queue q) (numbers_below (queues_of script.shape))) actor.Bridge actor.Timers)
      where
        senders : length run.publishers ≡ publishers_of script.shape
        senders = legal.shaped.publishers ∙ sym (publishers_are script shaped)

    -- ---- the end

    whole_of : {X : Type 0} (so_far whole : List X) → Begins so_far whole → length so_far ≡ length whole → so_far ≡ whole
    whole_of {X} so_far whole begins same = by_rest begins.0 begins.1
      where
        by_rest : (rest : List X) → so_far ++ rest ≡ whole → so_far ≡ whole
        by_rest [] is = sym (append-nil so_far) ∙ is
        by_rest (x ∷ rest) is =
            let more : length so_far + suc (length rest) ≡ length whole = sym (length-append so_far (x ∷ rest)) ∙ ap (λ (xs : List X). length xs) is in
            absurd (omega arith)

    in_one : {X : Type 0} (f : X → List (ℕ × Step)) (m : ℕ) (xs : List X) → by_port m (flat_map f xs) ≡ [] → (k : ℕ) (x : X) → slice_get xs k ≡ Some x → by_port m (f x) ≡ []
    in_one f m [] none zero x at = absurd cc
    in_one f m [] none (suc k) x at = absurd cc
    in_one {X} f m (y ∷ xs) none zero x at =
        let same : y ≡ x = cc in
        ap (λ (z : X). by_port m (f z)) (sym same) ∙ first_empty (by_port m (f y)) (by_port m (flat_map f xs)) (sym (by_port-append m (f y) (flat_map f xs)) ∙ none)
    in_one f m (y ∷ xs) none (suc k) x at =
        in_one f m xs (second_empty (by_port m (f y)) (by_port m (flat_map f xs)) (sym (by_port-append m (f y) (flat_map f xs)) ∙ none)) k x at

    -- no step of one actor comes where none of all comes
    module _ (m : ℕ) (none : by_port m (flat_map dealt_by (in_order script.shape)) ≡ []) where
      split : (xs ys : List Actor) → by_port m (flat_map dealt_by (xs ++ ys)) ≡ [] → (by_port m (flat_map dealt_by xs) ≡ []) × (by_port m (flat_map dealt_by ys) ≡ [])
      split xs ys is =
          let parted = sym (ap (by_port m) (flat_map-append dealt_by xs ys) ∙ by_port-append m (flat_map dealt_by xs) (flat_map dealt_by ys)) ∙ is in
          (first_empty (by_port m (flat_map dealt_by xs)) (by_port m (flat_map dealt_by ys)) parted, second_empty (by_port m (flat_map dealt_by xs)) (by_port m (flat_map dealt_by ys)) parted)

      senders : by_port m (flat_map dealt_by (clients_in ++ publishers_in)) ≡ []
      senders = (split (clients_in ++ publishers_in) others_in none).0

      takers : by_port m (flat_map dealt_by others_in) ≡ []
      takers = (split (clients_in ++ publishers_in) others_in none).1

      pub none_publisher : (p : ℕ) → p < publishers_of script.shape → by_port m (dealt_by (actor.Publisher p)) ≡ []
      none_publisher p low = in_one dealt_by m publishers_in (split clients_in publishers_in senders).1 p (actor.Publisher p) (mapped_number (λ p. actor.Publisher p) (publishers_of script.shape) p low)

      pub none_bridge : by_port m (dealt_by actor.Bridge) ≡ []
      none_bridge = in_one dealt_by m others_in takers 0 actor.Bridge refl

      pub none_timers : by_port m (dealt_by actor.Timers) ≡ []
      none_timers = in_one dealt_by m others_in takers 1 actor.Timers refl

      pub none_queue : (q : ℕ) → q < queues_of script.shape → by_port m (dealt_by (actor.Queue q)) ≡ []
      none_queue q low = in_one dealt_by m others_in takers (suc (suc q)) (actor.Queue q) (mapped_number (λ q. actor.Queue q) (queues_of script.shape) q low)

    module _ (count : ℕ) (past : (m : ℕ) → count ≤ m → by_port m (flat_map dealt_by (in_order script.shape)) ≡ []) where
      abbrev last : Stage
      last = after_steps (setting_of script) (at_start script run.clients) (passes (setting_of script) run count (at_start script run.clients))

      gone : HasGone script run (steps.step_needs script.clients (all_needs script run)) ranks r count 0 (after_steps (setting_of script) (at_start script run.clients) (passes (setting_of script) run count (at_start script run.clients)))
      gone = (at_pass count).gone

      cut : (a : ℕ) → IsCut (steps.step_needs script.clients (all_needs script run)) ranks gone.made count a
      cut a = gone.within.others a (omega arith)

      publisher_whole : (p : ℕ) → p < publishers_of script.shape → slice_index_or last.world.publishers p [] ≡ slice_index_or run.publishers p []
      publisher_whole p low =
          let g = publisher_going p low in
          whole_of (slice_index_or last.world.publishers p []) (slice_index_or run.publishers p []) (gone.stands.entries.publishers p low)
          (gone.stands.entries.publishers_made p low
          ∙ all_made (steps.step_needs script.clients (all_needs script run)) ranks gone.made count (publisher_actor script.shape p) (dealt_by (actor.Publisher p)) (λ k. own_step p (slice_get (slice_index_or run.publishers p []) k))
          (publisher_own ranks (steps.step_needs script.clients (all_needs script run)) p (publisher_actor script.shape p) (slice_index_or run.publishers p []) (r.as_many (publisher_actor script.shape p)) (publisher_len p low)) (cut (publisher_actor script.shape p)) (λ m high. none_publisher m (past m high) p low)
          ∙ publisher_len p low)
        where
          publisher_len : (p : ℕ) → p < publishers_of script.shape → length (entries_of (steps.step_needs script.clients (all_needs script run)) (publisher_actor script.shape p)) ≡ length (slice_index_or run.publishers p [])
          publisher_len p low = plain_count (publisher_actor script.shape p) (publisher_needs script run p) (length (slice_index_or run.publishers p [])) (omega arith) (omega (arith, all_count script run)) ((are_by_number script run).publishers p low)
              (sender_count (bridge_actor script.shape) (bridge_put_to_publisher script.shape run.bridge p) (slice_index_or run.publishers p []))

      bridge_whole : last.world.bridge ≡ run.bridge
      bridge_whole =
          let many : length (entries_of (steps.step_needs script.clients (all_needs script run)) (bridge_actor script.shape)) ≡ length run.bridge = plain_count (bridge_actor script.shape) (bridge_needs script run) (length run.bridge) (omega arith) (omega (arith, all_count script run)) (are_by_number script run).bridge
          (needs_count (actors_to_bridge script.shape) (all_to_bridge script run) run.bridge) in
          whole_of last.world.bridge run.bridge gone.stands.entries.bridge
          (gone.stands.entries.bridge_made
          ∙ all_made (steps.step_needs script.clients (all_needs script run)) ranks gone.made count (bridge_actor script.shape) (dealt_by actor.Bridge) (λ k. step_by actor.Bridge (slice_get run.bridge k))
          (taker_own ranks (steps.step_needs script.clients (all_needs script run)) actor.Bridge (bridge_actor script.shape) run.bridge (r.as_many (bridge_actor script.shape)) many) (cut (bridge_actor script.shape)) (λ m high. none_bridge m (past m high))
          ∙ many)

      timers_whole : last.world.timers ≡ run.timers
      timers_whole =
          let many : length (entries_of (steps.step_needs script.clients (all_needs script run)) (timers_actor script.shape)) ≡ length run.timers = plain_count (timers_actor script.shape) (timers_needs script run) (length run.timers) (omega arith) (omega (arith, all_count script run)) (are_by_number script run).timers
          (needs_count (actors_to_timers script.shape) (all_to_timers script run) run.timers) in
          whole_of last.world.timers run.timers gone.stands.entries.timers
          (gone.stands.entries.timers_made
          ∙ all_made (steps.step_needs script.clients (all_needs script run)) ranks gone.made count (timers_actor script.shape) (dealt_by actor.Timers) (λ k. step_by actor.Timers (slice_get run.timers k))
          (taker_own ranks (steps.step_needs script.clients (all_needs script run)) actor.Timers (timers_actor script.shape) run.timers (r.as_many (timers_actor script.shape)) many) (cut (timers_actor script.shape)) (λ m high. none_timers m (past m high))
          ∙ many)

      queue_whole : (q : ℕ) → q < queues_of script.shape → slice_index_or last.world.queues q [] ≡ slice_index_or run.queues q []
      queue_whole q low =
          let many : length (entries_of (steps.step_needs script.clients (all_needs script run)) (queue_actor script.shape q)) ≡ length (slice_index_or run.queues q []) = plain_count (queue_actor script.shape q) (queue_needs script run q) (length (slice_index_or run.queues q [])) (omega arith) (omega (arith, all_count script run)) ((are_by_number script run).queues q low)
          (needs_count (actors_to_queue script.shape) (all_to_queue script run q) (slice_index_or run.queues q [])) in
          whole_of (slice_index_or last.world.queues q []) (slice_index_or run.queues q []) (gone.stands.entries.queues q low)
          (gone.stands.entries.queues_made q low
          ∙ all_made (steps.step_needs script.clients (all_needs script run)) ranks gone.made count (queue_actor script.shape q) (dealt_by (actor.Queue q)) (λ k. step_by (actor.Queue q) (slice_get (slice_index_or run.queues q []) k))
          (taker_own ranks (steps.step_needs script.clients (all_needs script run)) (actor.Queue q) (queue_actor script.shape q) (slice_index_or run.queues q []) (r.as_many (queue_actor script.shape q)) many) (cut (queue_actor script.shape q)) (λ m high. none_queue m (past m high) q low)
          ∙ many)

      publishers_whole : last.world.publishers ≡ run.publishers
      publishers_whole =
          let many : length last.world.publishers ≡ length script.publishers = gone.stands.holds.publishers_len ∙ sections_len 0 script.publishers in
          ext_get_or [] last.world.publishers run.publishers (many ∙ sym legal.shaped.publishers) (λ p low. publisher_whole p (omega (arith, many, publishers_are script shaped)))

      queues_whole : last.world.queues ≡ run.queues
      queues_whole = ext_get_or [] last.world.queues run.queues (gone.stands.holds.queues_len ∙ sym legal.shaped.queues) (λ q low. queue_whole q (omega (arith, gone.stands.holds.queues_len)))

      -- the steps of all passes lead to the record
      pub record_again : followed script run.clients (passes (setting_of script) run count (at_start script run.clients)) ≡ run
      record_again = told_again (setting_of script) run legal.calls.calls legal.calls.images legal.lists.groups legal.lists.watches last.world publishers_whole bridge_whole timers_whole queues_whole

      -- and they are the steps that the ranks say
      pub steps_are : (made : List Step) → made ≡ in_passes count (all_dealt (clients_of script.shape) run ranks) → ArePassSteps script run made
      steps_are made is =
          let same : made ≡ passes (setting_of script) run count (at_start script run.clients) = is ∙ ap (in_passes count) same_dealt ∙ sym (at_pass count).steps in
          record {
            count = count;
            made = same;
            ended = ap (λ (steps : List Step). pass (setting_of script) run (after_steps (setting_of script) (at_start script run.clients) steps)) same
                ∙ no_pass script run (steps.step_needs script.clients (all_needs script run)) ranks r dealt_by (at_start script run.clients) begun all_going few count (past count (omega arith));
          }

      pub followed_are : (made : List Step) → made ≡ in_passes count (all_dealt (clients_of script.shape) run ranks) → followed script run.clients made ≡ run
      followed_are made is = ap (followed script run.clients) (is ∙ ap (in_passes count) same_dealt ∙ sym (at_pass count).steps) ∙ record_again
