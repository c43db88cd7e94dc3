-- A publisher's and a client's next step, if it can be made, and where the run stands after it.
use Rattle.std.specs.Prelude.{slice_get, slice_index_or, slice_set, option_map}
use Rattle.std.specs.List.{flat_map}
use Rattle.std.proofs.Common.{◌≡◌, ℕ, zero, suc, ◌+◌, ◌<◌, Bool, true, cond, List, [], ◌∷◌, ◌++◌, length, map, take, drop, Option, None, Some, refl, sym, ◌∙◌, ap, subst, arith, ⊎_elim, append-nil, append_assoc}
use Rattle.std.proofs.lemmas.Bool.{cases_eq, lt-ltb}
use Rattle.std.proofs.lemmas.List.{length-map, length-append, get_or-map, get_or-set_same, get_or-set_other, length_push}
use Rattle.std.proofs.lemmas.List.Concat.{flat_map-append}
use Rattle.mama_event.specs.declared.publisher_entry.PublisherEntry.{PublisherEntry}
use Rattle.mama_event.specs.declared.publisher_entry.PublisherEntry.TheVariants.{Send, Done, Took}
use Rattle.mama_event.specs.declared.to_publisher.PublisherNote.{PublisherNote}
use Rattle.mama_event.specs.declared.shape.Shape.{Shape}
use Rattle.mama_event.specs.Ports.{clients_of, publishers_of, queues_of}
use Rattle.mama_check_order.specs.Search.{entries_of}
use Rattle.mama_check_order.specs.Numbered.{second}
use Rattle.mama_check_order.specs.Taken.{entry_of, sender_need}
use Rattle.mama_check_order.specs.Taken as edge
use Rattle.mama_check_order.specs.declared.order.Need.{Need}
use Rattle.mama_check_order.proofs.LaneWalk.{rest_left}
use Rattle.mama_rules_queue.specs.Queue.{QueuePut}
use Rattle.mama_script.specs.declared.client.ClientLine.{ClientLine}
use Rattle.mama_script.specs.declared.client.ClientLine.TheVariants as line
use Rattle.mama_script.specs.Script.{ScriptData}
use Rattle.mama_script.specs.Tree.{IsShaped}
use Rattle.mama_record.specs.RunData.{RunData}
use Rattle.mama_rules_rounds.specs.Client.{Standing, at_first, after_line, steps_from, client_steps}
use Rattle.mama_rules_rounds.specs.Setting.{Setting}
use Rattle.mama_rules_rounds.specs.World.{World, publisher_did, publisher_took, publisher_turn}
use Rattle.mama_rules_rounds.specs.Stage.{Stage, client_stepped, publisher_stepped}
use Rattle.mama_rules_rounds.specs.Sections.{setting_of}
use Rattle.mama_rules_legal.specs.Edges.{all_steps, taken_in, taken_by, put_to_publisher, AreEdges}
use Rattle.mama_laws_legal.proofs.Worlds.{Holds, client_keeps, own_keeps, publisher_turn_keeps}
use Rattle.mama_laws_legal.proofs.Lists.{within}
use Rattle.mama_laws_legal.proofs.Whole.{sections_len}
use Rattle.mama_check_puts.specs.Puts.{bridge_put_to_publisher}
use Rattle.mama_check.specs.Causal.{publisher_actor, bridge_actor, timers_actor, queue_actor, all_needs, publisher_needs}
use Rattle.mama_check.specs.declared.verdict.Actor.TheVariants as actor
use Rattle.mama_check.proofs.Lanes.{steps_at}
use Rattle.mama_check.proofs.Numbers.{are_by_number}
use Rattle.mama_laws_causal.proofs.Numbers.{Begins}
use Rattle.mama_laws_causal.proofs.Needs.{sender_count, sender_next}
use Rattle.mama_replay.specs.declared.step.Step.{Step}
use Rattle.mama_replay.specs.Followed.{moving}
use Rattle.mama_replay.specs.Passes.{by_itself, by_port_of, where_there, publisher_entry}
use Rattle.mama_replay.specs.Dealt.{port_in}
use Rattle.mama_replay.specs.Needs.{client_needs, all_numbers, renumbered, needs_at}
use Rattle.mama_replay.proofs.Counts.{is_met, may_come, is_ready, made_more, at_within}
use Rattle.mama_replay.proofs.Splits.{some_there, waits_made, waits_next}
use Rattle.mama_replay.proofs.Stands.{client_steps_of, done_by, entry_made, AreMade, next_after, none_after, get_mapped, on_publisher}
use Rattle.mama_replay.proofs.Totals.{publisher_total}
use Rattle.mama_replay.proofs.Following.{own_in, Stands, Moves, needs, needs_by_number, plain_needs, begins_more, more_here, more_else, still_holds, rests_move, goes_move}

-- the step of an entry of a publisher
abbrev pub own_step : ℕ → Option PublisherEntry → List Step
own_step p None = []
own_step p (Some e) = record { actor = actor.Publisher p; port = port_in e } ∷ []

-- what is left behind the first so many
left_behind : {X : Type 0} (xs ys : List X) (n : ℕ) → length xs ≡ n → drop n (xs ++ ys) ≡ ys
left_behind [] ys zero is = refl
left_behind [] ys (suc n) is = absurd (omega (arith, is))
left_behind (x ∷ xs) ys zero is = absurd (omega (arith, is))
left_behind (x ∷ xs) ys (suc n) is = left_behind xs ys n (omega (arith, is))

past_end : {X : Type 0} (os : List X) (n : ℕ) → length os ≡ n → slice_get os n ≡ None
past_end [] zero is = refl
past_end [] (suc n) is = absurd (omega (arith, is))
past_end (o ∷ os) zero is = absurd (omega (arith, is))
past_end (o ∷ os) (suc n) is = past_end os n (omega (arith, is))

same_taken : (journal : List PublisherEntry) → flat_map edge.taken_in journal ≡ taken_by journal
same_taken [] = refl
same_taken (Send ∷ es) = same_taken es
same_taken (Done ∷ es) = same_taken es
same_taken (Took note ∷ es) = ap (λ (ns : List PublisherNote). note ∷ ns) (same_taken es)

module _ (script : ScriptData) (run : RunData) (shaped : IsShaped script) (edges : AreEdges script run) (count : length (all_needs script run) ≡ clients_of script.shape + publishers_of script.shape + 2 + queues_of script.shape) (as_many : publishers_of script.shape ≡ length script.publishers) where
  abbrev setting : Setting
  setting = setting_of script

  abbrev shape : Shape
  shape = script.shape

  abbrev numbers : List (List ℕ)
  numbers = all_numbers script.clients

  abbrev all : List (List (Option Need))
  all = needs script run shaped edges count

  module _ (made : ℕ → ℕ) (s : Stage) (stands : Stands script run made s) where
    -- ---- a publisher

    module _ (p : ℕ) (inside : p < publishers_of script.shape) where
      abbrev so_far : List PublisherEntry
      so_far = slice_index_or s.world.publishers p []

      abbrev whole : List PublisherEntry
      whole = slice_index_or run.publishers p []

      abbrev Move : Type 0
      Move = Moves script run (needs script run shaped edges count) made s (actor.Publisher p) (publisher_actor script.shape p) (own_step p (slice_get (slice_index_or run.publishers p []) (made (publisher_actor script.shape p))))

      own_needs : entries_of (needs script run shaped edges count) (publisher_actor script.shape p) ≡ map (renumbered (all_numbers script.clients)) (publisher_needs script run p)
      own_needs = plain_needs script run shaped edges count (publisher_actor script.shape p) (publisher_needs script run p) (omega arith) (omega (arith, count)) ((are_by_number script run).publishers p inside)

      there : p < length (setting_of script).publishers
      there = omega (arith, as_many, sections_len 0 script.publishers)

      lies : p < length s.world.publishers
      lies = omega (arith, there, stands.holds.publishers_len)

      -- what its next entry needs
      ready_by : (e : PublisherEntry) (rest : List PublisherEntry) → so_far ++ e ∷ rest ≡ whole
          → is_ready (needs script run shaped edges count) made (publisher_actor script.shape p) ≡ is_met made (renumbered (all_numbers script.clients) (sender_need (bridge_actor script.shape) (bridge_put_to_publisher script.shape run.bridge p) (slice_index_or s.world.publishers p []) e))
      ready_by e rest is =
          ap (λ (own : List (Option Need)). may_come made (slice_get own (made (publisher_actor script.shape p)))) own_needs
          ∙ ap (λ (n : ℕ). may_come made (slice_get (map (renumbered numbers) (publisher_needs script run p)) n)) (sym (stands.entries.publishers_made p inside))
          ∙ ap (may_come made) (get_mapped (renumbered numbers) (publisher_needs script run p) (length so_far)
          ∙ ap (option_map (renumbered numbers)) (sender_next (bridge_actor shape) (bridge_put_to_publisher shape run.bridge p) whole so_far e (rest, append_assoc so_far (e ∷ []) rest ∙ is)))

      -- where it stands with one entry more
      grown : (e : PublisherEntry) (k : ℕ) → p ≡ k → slice_index_or (slice_set s.world.publishers p (so_far ++ e ∷ [])) k [] ≡ so_far ++ e ∷ []
      grown e k same = subst (λ (n : ℕ). slice_index_or (slice_set s.world.publishers p (so_far ++ e ∷ [])) n [] ≡ so_far ++ e ∷ []) same (get_or-set_same s.world.publishers p (so_far ++ e ∷ []) [] lies)

      others : (e : PublisherEntry) (k : ℕ) → (p ≡ k → ⊥) → slice_index_or (slice_set s.world.publishers p (so_far ++ e ∷ [])) k [] ≡ slice_index_or s.world.publishers k []
      others e k apart = get_or-set_other s.world.publishers p k (so_far ++ e ∷ []) [] (λ same. apart (sym same))

      one_more : (e : PublisherEntry) → length (so_far ++ e ∷ []) ≡ made_more made (publisher_actor script.shape p) (publisher_actor script.shape p)
      one_more e = length_push so_far e ∙ (let one : length so_far + 1 ≡ suc (length so_far) = omega arith in one) ∙ ap suc (stands.entries.publishers_made p inside) ∙ sym (more_here made (publisher_actor shape p))

      -- the journals of a world in which it made this entry
      entries_more : (e : PublisherEntry) (rest : List PublisherEntry) → so_far ++ e ∷ rest ≡ whole → (w : World) → w.publishers ≡ slice_set s.world.publishers p (so_far ++ e ∷ []) → w.bridge ≡ s.world.bridge → w.timers ≡ s.world.timers → w.queues ≡ s.world.queues
          → AreMade script run (made_more made (publisher_actor script.shape p)) w
      entries_more e rest is w ps bs ts qs = record {
        publishers = λ k low. ⊎_elim
            (λ (same : p ≡ k). subst (λ (j : List PublisherEntry). Begins j (slice_index_or run.publishers k [])) (sym (ap (λ (js : List (List PublisherEntry)). slice_index_or js k []) ps ∙ grown e k same))
            (subst (λ (n : ℕ). Begins (so_far ++ e ∷ []) (slice_index_or run.publishers n [])) same (begins_more so_far whole e rest is)))
            (λ apart. subst (λ (j : List PublisherEntry). Begins j (slice_index_or run.publishers k [])) (sym (ap (λ (js : List (List PublisherEntry)). slice_index_or js k []) ps ∙ others e k apart)) (stands.entries.publishers k low))
            (cases_eq p k);
        publishers_made = λ k low. ⊎_elim
            (λ (same : p ≡ k). ap (λ (js : List (List PublisherEntry)). length (slice_index_or js k [])) ps ∙ ap (λ (j : List PublisherEntry). length j) (grown e k same) ∙ one_more e ∙ ap (λ (n : ℕ). made_more made (publisher_actor shape p) (publisher_actor shape n)) same)
            (λ apart. ap (λ (js : List (List PublisherEntry)). length (slice_index_or js k [])) ps ∙ ap (λ (j : List PublisherEntry). length j) (others e k apart) ∙ stands.entries.publishers_made k low
            ∙ sym (more_else made (publisher_actor shape p) (publisher_actor shape k) (λ same. let is : p ≡ k = omega arith in apart is)))
            (cases_eq p k);
        bridge = subst (λ (j : List _). Begins j run.bridge) (sym bs) stands.entries.bridge;
        bridge_made = ap (λ (j : List _). length j) bs ∙ stands.entries.bridge_made ∙ sym (more_else made (publisher_actor shape p) (bridge_actor shape) (λ same. omega arith));
        timers = subst (λ (j : List _). Begins j run.timers) (sym ts) stands.entries.timers;
        timers_made = ap (λ (j : List _). length j) ts ∙ stands.entries.timers_made ∙ sym (more_else made (publisher_actor shape p) (timers_actor shape) (λ same. omega arith));
        queues = λ q low. subst (λ (js : List (List _)). Begins (slice_index_or js q []) (slice_index_or run.queues q [])) (sym qs) (stands.entries.queues q low);
        queues_made = λ q low. ap (λ (js : List (List _)). length (slice_index_or js q [])) qs ∙ stands.entries.queues_made q low ∙ sym (more_else made (publisher_actor shape p) (queue_actor shape q) (λ same. omega arith));
      }

      clients_more : (c : ℕ) → c < clients_of script.shape → slice_index_or s.clients c [] ≡ drop (made_more made (publisher_actor script.shape p) c) (client_steps_of script run c)
      clients_more c low = stands.clients c low ∙ ap (λ (n : ℕ). drop n (client_steps_of script run c)) (sym (more_else made (publisher_actor shape p) c (λ same. omega arith)))

      left : (e : PublisherEntry) (rest : List PublisherEntry) → so_far ++ e ∷ rest ≡ whole → drop (made (publisher_actor script.shape p)) whole ≡ e ∷ rest
      left e rest is = ap (drop (made (publisher_actor shape p))) (sym is) ∙ left_behind so_far (e ∷ rest) (made (publisher_actor shape p)) (stands.entries.publishers_made p inside)

      left_after : (e : PublisherEntry) (rest : List PublisherEntry) → so_far ++ e ∷ rest ≡ whole → drop (made_more made (publisher_actor script.shape p) (publisher_actor script.shape p)) whole ≡ rest
      left_after e rest is = ap (λ (n : ℕ). drop n whole) (more_here made (publisher_actor shape p)) ∙ rest_left whole (made (publisher_actor shape p)) e rest (left e rest is)

      -- an entry that it makes of its own accord
      own_goes : (e : PublisherEntry) (rest : List PublisherEntry) → so_far ++ e ∷ rest ≡ whole → taken_in e ≡ [] → port_in e ≡ None
          → is_met made (renumbered (all_numbers script.clients) (sender_need (bridge_actor script.shape) (bridge_put_to_publisher script.shape run.bridge p) (slice_index_or s.world.publishers p []) e)) ≡ true
          → publisher_entry p (slice_index_or s.world.to_publishers p []) (Some e) ≡ by_itself (actor.Publisher p) ∷ [] → own_in (e ∷ rest) ≡ (e ∷ []) ∷ own_in rest → Move
      own_goes e rest is none port met entry own =
          let next : slice_get whole (length so_far) ≡ Some e = next_after so_far whole e rest is in
          let here : slice_get whole (made (publisher_actor shape p)) ≡ Some e = ap (slice_get whole) (sym (stands.entries.publishers_made p inside)) ∙ next in
          let step : own_step p (slice_get whole (made (publisher_actor shape p))) ≡ by_itself (actor.Publisher p) ∷ [] = ap (own_step p) here ∙ ap (λ (o : Option ℕ). record { actor = actor.Publisher p; port = o } ∷ []) port in
          let steps : slice_index_or s.publishers p [] ≡ (e ∷ []) ∷ own_in rest = stands.own p inside ∙ ap own_in (left e rest is) ∙ own in
          let low : p < length s.publishers = within s.publishers p (e ∷ []) (own_in rest) steps in
          subst (Moves script run (needs script run shaped edges count) made s (actor.Publisher p) (publisher_actor shape p)) (sym step)
          (goes_move script run (needs script run shaped edges count) made s (actor.Publisher p) (publisher_actor shape p) (by_itself (actor.Publisher p) ∷ [])
          (ap (publisher_entry p (slice_index_or s.world.to_publishers p [])) next ∙ entry) (ready_by e rest is ∙ met)
          (subst (λ (left : List (List PublisherEntry)). Stands script run (made_more made (publisher_actor shape p)) (publisher_stepped setting p s left)) (sym steps) (record {
            clients = clients_more;
            entries = entries_more e rest is (publisher_did setting p s.world e) refl refl refl refl;
            own = λ k small. ⊎_elim
                (λ (same : p ≡ k). subst (λ (n : ℕ). slice_index_or (slice_set s.publishers p (own_in rest)) n [] ≡ own_in (drop (made_more made (publisher_actor shape p) (publisher_actor shape n)) (slice_index_or run.publishers n []))) same
                (get_or-set_same s.publishers p (own_in rest) [] low ∙ ap own_in (sym (left_after e rest is))))
                (λ apart. get_or-set_other s.publishers p k (own_in rest) [] (λ same. apart (sym same)) ∙ stands.own k small
                ∙ ap (λ (n : ℕ). own_in (drop n (slice_index_or run.publishers k []))) (sym (more_else made (publisher_actor shape p) (publisher_actor shape k) (λ same. let is : p ≡ k = omega arith in apart is))))
                (cases_eq p k);
            holds = still_holds script run shaped edges count made (publisher_actor shape p) (publisher_did setting p s.world e) (omega arith) (own_keeps setting (done_by script run made) p s.world e inside there none stands.holds);
          })))

      -- one that takes
      take_goes : (note : PublisherNote) (rest : List PublisherEntry) → so_far ++ Took note ∷ rest ≡ whole → Move
      take_goes note rest is = by_waiting (slice_index_or s.world.to_publishers p []) refl
        where
          list : List (ℕ × PublisherNote)
          list = bridge_put_to_publisher script.shape run.bridge p

          total : map second (bridge_put_to_publisher script.shape run.bridge p) ≡ taken_by (slice_index_or s.world.publishers p []) ++ note ∷ taken_by rest
          total = sym (publisher_total script run shaped edges p (omega (arith, as_many))) ∙ ap taken_by (sym is) ∙ flat_map-append taken_in (slice_index_or s.world.publishers p []) (Took note ∷ rest)

          placed : length (taken_by (slice_index_or s.world.publishers p [])) < length (bridge_put_to_publisher script.shape run.bridge p)
          placed =
              let many : length (map second (bridge_put_to_publisher script.shape run.bridge p)) ≡ length (bridge_put_to_publisher script.shape run.bridge p) = length-map (bridge_put_to_publisher script.shape run.bridge p) second in
              let so : length (map second (bridge_put_to_publisher script.shape run.bridge p)) ≡ length (taken_by (slice_index_or s.world.publishers p [])) + suc (length (taken_by rest)) =
              ap (λ (vs : List PublisherNote). length vs) total ∙ length-append (taken_by (slice_index_or s.world.publishers p [])) (note ∷ taken_by rest) in
              omega arith

          ready_is : (x : ℕ × PublisherNote) → slice_get (bridge_put_to_publisher script.shape run.bridge p) (length (taken_by (slice_index_or s.world.publishers p []))) ≡ Some x
              → is_ready (needs script run shaped edges count) made (publisher_actor script.shape p) ≡ entry_made (all_numbers script.clients) made (bridge_actor script.shape) x.0
          ready_is x at =
              ready_by (Took note) rest is
              ∙ ap (λ (n : ℕ). is_met made (renumbered numbers (option_map (entry_of (bridge_actor shape)) (slice_get (bridge_put_to_publisher shape run.bridge p) n)))) (ap (λ (ns : List PublisherNote). length ns) (same_taken (slice_index_or s.world.publishers p [])))
              ∙ ap (λ (found : Option (ℕ × PublisherNote)). is_met made (renumbered numbers (option_map (entry_of (bridge_actor shape)) found))) at

          waits_is : (waiting : List PublisherNote) → slice_index_or s.world.to_publishers p [] ≡ waiting → is_ready (needs script run shaped edges count) made (publisher_actor script.shape p) ≡ some_there waiting
          waits_is waiting lane =
              let at = at_within (bridge_put_to_publisher shape run.bridge p) (length (taken_by (slice_index_or s.world.publishers p []))) placed in
              ready_is at.item at.is
              ∙ sym (waits_made (entry_made numbers made (bridge_actor shape)) (bridge_put_to_publisher shape run.bridge p) (put_to_publisher shape s.world.bridge p) (on_publisher script run shaped made s.world stands.entries p)
              (taken_by (slice_index_or s.world.publishers p [])) (slice_index_or s.world.to_publishers p []) at.item (stands.holds.publishers p there) at.is)
              ∙ ap some_there lane

          by_waiting : (waiting : List PublisherNote) → slice_index_or s.world.to_publishers p [] ≡ waiting → Move
          by_waiting [] lane =
              rests_move script run (needs script run shaped edges count) made s (actor.Publisher p) (publisher_actor shape p) (own_step p (slice_get whole (made (publisher_actor shape p)))) stands
              (ap (publisher_entry p (slice_index_or s.world.to_publishers p [])) (next_after so_far whole (Took note) rest is) ∙ ap (λ (vs : List PublisherNote). where_there vs (by_port_of (actor.Publisher p) 0)) lane)
              (waits_is [] lane)
          by_waiting (v ∷ vs) lane =
              let next : slice_get whole (length so_far) ≡ Some (Took note) = next_after so_far whole (Took note) rest is in
              let here : slice_get whole (made (publisher_actor shape p)) ≡ Some (Took note) = ap (slice_get whole) (sym (stands.entries.publishers_made p inside)) ∙ next in
              let step : own_step p (slice_get whole (made (publisher_actor shape p))) ≡ by_port_of (actor.Publisher p) 0 ∷ [] = ap (own_step p) here in
              let same : v ≡ note = waits_next (entry_made numbers made (bridge_actor shape)) (bridge_put_to_publisher shape run.bridge p) (put_to_publisher shape s.world.bridge p) (on_publisher script run shaped made s.world stands.entries p)
              (taken_by (slice_index_or s.world.publishers p [])) (slice_index_or s.world.to_publishers p []) v note vs (taken_by rest) (stands.holds.publishers p there) lane total in
              let turned : publisher_turn setting p s.world ≡ publisher_took setting p s.world (note ∷ vs) = ap (publisher_took setting p s.world) (lane ∙ ap (λ (w : PublisherNote). w ∷ vs) same) in
              subst (Moves script run (needs script run shaped edges count) made s (actor.Publisher p) (publisher_actor shape p)) (sym step)
              (goes_move script run (needs script run shaped edges count) made s (actor.Publisher p) (publisher_actor shape p) (by_port_of (actor.Publisher p) 0 ∷ [])
              (ap (publisher_entry p (slice_index_or s.world.to_publishers p [])) next ∙ ap (λ (vs : List PublisherNote). where_there vs (by_port_of (actor.Publisher p) 0)) lane) (waits_is (v ∷ vs) lane)
              (subst (λ (w : World). Stands script run (made_more made (publisher_actor shape p)) (record s { world = w })) (sym turned) (record {
                clients = clients_more;
                entries = entries_more (Took note) rest is (publisher_took setting p s.world (note ∷ vs)) refl refl refl refl;
                own = λ k small. ⊎_elim
                    (λ (same : p ≡ k). subst (λ (n : ℕ). slice_index_or s.publishers n [] ≡ own_in (drop (made_more made (publisher_actor shape p) (publisher_actor shape n)) (slice_index_or run.publishers n []))) same
                    (stands.own p inside ∙ ap own_in (left (Took note) rest is) ∙ ap own_in (sym (left_after (Took note) rest is))))
                    (λ apart. stands.own k small
                    ∙ ap (λ (n : ℕ). own_in (drop n (slice_index_or run.publishers k []))) (sym (more_else made (publisher_actor shape p) (publisher_actor shape k) (λ same. let is : p ≡ k = omega arith in apart is))))
                    (cases_eq p k);
                holds = subst (Holds setting (done_by script run (made_more made (publisher_actor shape p)))) turned
                    (still_holds script run shaped edges count made (publisher_actor shape p) (publisher_turn setting p s.world) (omega arith) (publisher_turn_keeps setting (done_by script run made) p s.world inside stands.holds));
              })))

      pub publisher_moves : Moves script run (needs script run shaped edges count) made s (actor.Publisher p) (publisher_actor script.shape p) (own_step p (slice_get (slice_index_or run.publishers p []) (made (publisher_actor script.shape p))))
      publisher_moves = by_rest (stands.entries.publishers p inside).0 (stands.entries.publishers p inside).1
        where
          by_rest : (rest : List PublisherEntry) → so_far ++ rest ≡ whole → Move
          by_rest [] is =
              rests_move script run (needs script run shaped edges count) made s (actor.Publisher p) (publisher_actor shape p) (own_step p (slice_get whole (made (publisher_actor shape p)))) stands
              (ap (publisher_entry p (slice_index_or s.world.to_publishers p [])) (none_after so_far whole is))
              (ap (λ (own : List (Option Need)). may_come made (slice_get own (made (publisher_actor shape p)))) own_needs
              ∙ ap (may_come made) (get_mapped (renumbered numbers) (publisher_needs script run p) (made (publisher_actor shape p))
              ∙ ap (option_map (renumbered numbers)) (past_end (publisher_needs script run p) (made (publisher_actor shape p))
              (sender_count (bridge_actor shape) (bridge_put_to_publisher shape run.bridge p) whole ∙ ap (λ (es : List PublisherEntry). length es) (sym (sym (append-nil so_far) ∙ is)) ∙ stands.entries.publishers_made p inside))))
          by_rest (Send ∷ rest) is = own_goes Send rest is refl refl refl refl refl
          by_rest (Done ∷ rest) is = own_goes Done rest is refl refl refl refl refl
          by_rest (Took note ∷ rest) is = take_goes note rest is

    -- ---- a client

    -- it has a next step where it has one left
    client_ready : (queues c : ℕ) (st : Standing) (lines : List ClientLine) (n : ℕ) → may_come made (slice_get (client_needs lines) n) ≡ some_there (drop n (steps_from queues c st (moving lines)))
    client_ready queues c st [] zero = refl
    client_ready queues c st [] (suc zero) = refl
    client_ready queues c st [] (suc (suc n)) = refl
    client_ready queues c st (line.Sub topic kind queue cache recaps faults plan ∷ ls) zero = refl
    client_ready queues c st (line.Sub topic kind queue cache recaps faults plan ∷ ls) (suc n) = client_ready queues c (after_line st (line.Sub topic kind queue cache recaps faults plan)) ls n
    client_ready queues c st (line.Timer queue interval plan ∷ ls) zero = refl
    client_ready queues c st (line.Timer queue interval plan ∷ ls) (suc n) = client_ready queues c (after_line st (line.Timer queue interval plan)) ls n
    client_ready queues c st (line.Inbox queue faults plan ∷ ls) zero = refl
    client_ready queues c st (line.Inbox queue faults plan ∷ ls) (suc n) = client_ready queues c (after_line st (line.Inbox queue faults plan)) ls n
    client_ready queues c st (line.Order o ∷ ls) zero = refl
    client_ready queues c st (line.Order o ∷ ls) (suc n) = client_ready queues c (after_line st (line.Order o)) ls n
    client_ready queues c st (line.Now moment ∷ ls) zero = refl
    client_ready queues c st (line.Now moment ∷ ls) (suc n) = client_ready queues c (after_line st (line.Now moment)) ls n
    client_ready queues c st (line.NowClock ∷ ls) zero = refl
    client_ready queues c st (line.NowClock ∷ ls) (suc n) = client_ready queues c (after_line st line.NowClock) ls n
    client_ready queues c st (line.Pause k ∷ ls) n = client_ready queues c st ls n

    -- with one step more, what a client put
    put_more : (n : ℕ) (steps : List (List QueuePut)) (step : List QueuePut) (rest : List (List QueuePut)) → drop n steps ≡ step ∷ rest → all_steps (take (suc n) steps) ≡ all_steps (take n steps) ++ step
    put_more n [] step rest is = absurd (none n is)
      where
        none : (n : ℕ) → drop n [] ≡ step ∷ rest → ⊥
        none zero is = cc
        none (suc n) is = cc
    put_more zero (x ∷ xs) step rest is =
        let same : x ≡ step = cc in
        append-nil x ∙ same
    put_more (suc n) (x ∷ xs) step rest is = ap (λ (ps : List QueuePut). x ++ ps) (put_more n xs step rest is) ∙ sym (append_assoc x (all_steps (take n xs)) step)

    pub client_moves : (c : ℕ) → c < clients_of script.shape → Moves script run (needs script run shaped edges count) made s (actor.Client c) c (by_itself (actor.Client c) ∷ [])
    client_moves c inside = by_left (slice_index_or s.clients c []) refl
      where
        low : c < length script.clients
        low = omega (arith, shaped.clients)

        steps : client_steps_of script run c ≡ steps_from (queues_of script.shape) c (at_first (slice_index_or run.clients c [])) (moving (slice_index_or script.clients c []))
        steps =
            let place : 0 + c ≡ c = omega arith in
            steps_at (queues_of script.shape) 0 run.clients (map moving script.clients) c (omega (arith, low, length-map script.clients moving))
            ∙ ap (λ (n : ℕ). client_steps (queues_of script.shape) n (slice_index_or run.clients n []) (slice_index_or (map moving script.clients) c [])) place
            ∙ ap (client_steps (queues_of script.shape) c (slice_index_or run.clients c [])) (get_or-map moving script.clients c [] [] low)

        own : entries_of (needs script run shaped edges count) c ≡ client_needs (slice_index_or script.clients c [])
        own =
            let place : 0 + c ≡ c = omega arith in
            needs_by_number script.clients 0 (all_needs script run) c (omega (arith, count))
            ∙ ap (λ (n : ℕ). needs_at script.clients n (slice_index_or (all_needs script run) c [])) place
            ∙ ap (λ (t : Bool). cond t (client_needs (slice_index_or script.clients c [])) (map (renumbered (all_numbers script.clients)) (slice_index_or (all_needs script run) c []))) (lt-ltb c (length script.clients) low)

        ready_is : (left : List (List QueuePut)) → slice_index_or s.clients c [] ≡ left → is_ready (needs script run shaped edges count) made c ≡ some_there left
        ready_is left is =
            ap (λ (own : List (Option Need)). may_come made (slice_get own (made c))) own
            ∙ client_ready (queues_of script.shape) c (at_first (slice_index_or run.clients c [])) (slice_index_or script.clients c []) (made c)
            ∙ ap (λ (ss : List (List QueuePut)). some_there (drop (made c) ss)) (sym steps) ∙ ap some_there (sym (stands.clients c inside) ∙ is)

        by_left : (left : List (List QueuePut)) → slice_index_or s.clients c [] ≡ left → Moves script run (needs script run shaped edges count) made s (actor.Client c) c (by_itself (actor.Client c) ∷ [])
        by_left [] is =
            rests_move script run (needs script run shaped edges count) made s (actor.Client c) c (by_itself (actor.Client c) ∷ []) stands
            (ap (λ (left : List (List QueuePut)). where_there left (by_itself (actor.Client c))) is) (ready_is [] is)
        by_left (step ∷ rest) is =
            let there : c < length s.clients = within s.clients c step rest is in
            let next : drop (made c) (client_steps_of script run c) ≡ step ∷ rest = sym (stands.clients c inside) ∙ is in
            goes_move script run (needs script run shaped edges count) made s (actor.Client c) c (by_itself (actor.Client c) ∷ [])
            (ap (λ (left : List (List QueuePut)). where_there left (by_itself (actor.Client c))) is) (ready_is (step ∷ rest) is)
            (subst (λ (left : List (List QueuePut)). Stands script run (made_more made c) (client_stepped (setting_of script) c s left)) (sym is) (record {
              clients = λ d small. ⊎_elim
                  (λ (same : c ≡ d). subst (λ (n : ℕ). slice_index_or (slice_set s.clients c rest) n [] ≡ drop (made_more made c n) (client_steps_of script run n)) same
                  (get_or-set_same s.clients c rest [] there ∙ sym (rest_left (client_steps_of script run c) (made c) step rest next) ∙ ap (λ (n : ℕ). drop n (client_steps_of script run c)) (sym (more_here made c))))
                  (λ apart. get_or-set_other s.clients c d rest [] (λ same. apart (sym same)) ∙ stands.clients d small ∙ ap (λ (n : ℕ). drop n (client_steps_of script run d)) (sym (more_else made c d apart)))
                  (cases_eq c d);
              entries = record {
                publishers = stands.entries.publishers;
                publishers_made = λ p small. stands.entries.publishers_made p small ∙ sym (more_else made c (publisher_actor script.shape p) (λ same. omega arith));
                bridge = stands.entries.bridge;
                bridge_made = stands.entries.bridge_made ∙ sym (more_else made c (bridge_actor script.shape) (λ same. omega arith));
                timers = stands.entries.timers;
                timers_made = stands.entries.timers_made ∙ sym (more_else made c (timers_actor script.shape) (λ same. omega arith));
                queues = stands.entries.queues;
                queues_made = λ q small. stands.entries.queues_made q small ∙ sym (more_else made c (queue_actor script.shape q) (λ same. omega arith));
              };
              own = λ p small. stands.own p small ∙ ap (λ (n : ℕ). own_in (drop n (slice_index_or run.publishers p []))) (sym (more_else made c (publisher_actor script.shape p) (λ same. omega arith)));
              holds = client_keeps (setting_of script) (done_by script run made) (done_by script run (made_more made c)) c step s.world inside
                  (ap (λ (n : ℕ). all_steps (take n (client_steps_of script run c))) (more_here made c) ∙ put_more (made c) (client_steps_of script run c) step rest next)
                  (λ d apart. ap (λ (n : ℕ). all_steps (take n (client_steps_of script run d))) (more_else made c d apart)) stands.holds;
            }))
