-- How a step of one seat changes the stage.
use Rattle.std.proofs.Common.{◌≡◌, ℕ, zero, suc, ◌+◌, ◌<◌, List, [], ◌∷◌, ◌++◌, map, length, get_or, refl, sym, ◌∙◌, ap, append_assoc, arith, subst, add-one}
use Rattle.std.specs.Prelude.{Result, Ok, Err, IfOk, OnOk, OnErr}
use Rattle.std.proofs.Math.ListN.{set}
use Rattle.std.proofs.lemmas.List.{map-set, map-append, get_or-map, get_or-set_same, set-get_or, set-set, length-set, length-map}
use Rattle.std.proofs.Math.Seq.{map-set_same}
use Rattle.mama_journal.specs.Lane.{from_port}
use Rattle.mama_rules_queue.specs.Queue.{QueuePut}
use Rattle.mama_journal.specs.Journal.{puts_after}
use Rattle.mama_event.specs.Ports.{clients_of, publishers_of, bridge_port_of_publisher}
use Rattle.mama_event.specs.Publisher.{PublisherScript, publisher_puts_at}
use Rattle.mama_event.specs.declared.publisher_entry.PublisherEntry.{PublisherEntry}
use Rattle.mama_event.specs.declared.to_bridge.BridgeNote.{BridgeNote}
use Rattle.mama_rules_rounds.specs.Setting.{Setting, no_section}
use Rattle.mama_rules_rounds.specs.World.{World, with_puts, passes, publisher_did}
use Rattle.mama_rules_rounds.specs.Stage.{Stage, client_step, client_stepped, publisher_step, publisher_stepped, entries_done, IsOneRound}
use Rattle.mama_seats.specs.Sender.{Sender, first_step, later_steps, steps_in, IsSenderStep}
use Rattle.mama_seats.specs.Stand.{Stand, client_left, reading, Ends, BeginsWith, IsStep}
use Rattle.mama_drive.specs.Scene.{Scene, Moves, Drains, Advances, Stepped, SteppedOut, SteppedAll, Rounds, Plays, AreMoments, AllEnd, lefts, setting_in, world_in, stage_in, script_in, entries_in, lane_in}
use Rattle.mama_drive.proofs.LaneLemmas.{append_nil}

begins_then : (a b c : List ℕ) → BeginsWith a b → BeginsWith b c → BeginsWith a c
begins_then a b c h k = (h.0 ++ k.0, sym (append_assoc a h.0 k.0) ∙ ap (λ l. l ++ k.0) h.1 ∙ k.1)

-- the moments of one client begin with those that it has read
moments_at : (ms : List (List ℕ)) (cs : List Stand) (c : ℕ) (d : Stand) → AreMoments ms cs → c < length cs → BeginsWith (get_or cs c d).read (get_or ms c [])
moments_at [] [] c d h within = absurd (omega arith)
moments_at [] (x ∷ cs) c d h within = absurd h
moments_at (m ∷ ms) [] c d h within = absurd h
moments_at (m ∷ ms) (x ∷ cs) zero d h within = h.0
moments_at (m ∷ ms) (x ∷ cs) (suc c) d h within = moments_at ms cs c d h.1 (omega arith)

-- what begins with what a client has read later begins with what it had read
pub moments_before : (ms : List (List ℕ)) (cs : List Stand) (c : ℕ) (d new : Stand) → AreMoments ms (set cs c new) → BeginsWith (get_or cs c d).read new.read → AreMoments ms cs
moments_before [] [] c d new h grows = tt
moments_before [] (x ∷ cs) zero d new h grows = absurd h
moments_before [] (x ∷ cs) (suc c) d new h grows = absurd h
moments_before (m ∷ ms) [] c d new h grows = absurd h
moments_before (m ∷ ms) (x ∷ cs) zero d new h grows = (begins_then x.read new.read m grows h.0, h.1)
moments_before (m ∷ ms) (x ∷ cs) (suc c) d new h grows = (h.0, moments_before ms cs c d new h.1 grows)

-- the steps that one client has still to make
lefts_at : (ms : List (List ℕ)) (cs : List Stand) (c : ℕ) (d : Stand) → AreMoments ms cs → c < length cs
    → get_or (lefts ms cs) c [] ≡ client_left (get_or ms c []) (get_or cs c d)
lefts_at [] [] c d h within = absurd (omega arith)
lefts_at [] (x ∷ cs) c d h within = absurd h
lefts_at (m ∷ ms) [] c d h within = absurd h
lefts_at (m ∷ ms) (x ∷ cs) zero d h within = refl
lefts_at (m ∷ ms) (x ∷ cs) (suc c) d h within = lefts_at ms cs c d h.1 (omega arith)

lefts_set : (ms : List (List ℕ)) (cs : List Stand) (c : ℕ) (new : Stand) → AreMoments ms cs
    → lefts ms (set cs c new) ≡ set (lefts ms cs) c (client_left (get_or ms c []) new)
lefts_set [] [] c new h = refl
lefts_set [] (x ∷ cs) c new h = absurd h
lefts_set (m ∷ ms) [] c new h = refl
lefts_set (m ∷ ms) (x ∷ cs) zero new h = refl
lefts_set (m ∷ ms) (x ∷ cs) (suc c) new h = ap (λ l. client_left m x ∷ l) (lefts_set ms cs c new h.1)

-- a client's steps, one fewer
pub stepped_by : (setting : Setting) (c : ℕ) (st : Stage) (left : List (List QueuePut)) → get_or st.clients c [] ≡ left
    → record st { clients = set st.clients c (later_steps left); world = with_puts c c (first_step left) st.world } ≡ client_stepped setting c st left
stepped_by setting c st [] is =
    ap (λ l. record st { clients = l; world = with_puts c c [] st.world }) (ap (set st.clients c) (sym is) ∙ set-get_or st.clients c [])
    ∙ ap (λ t. record st { world = record st.world { to_bridge = t; to_timers = st.world.to_timers ++ [] } }) (append_nil st.world.to_bridge)
    ∙ ap (λ t. record st { world = record st.world { to_timers = t } }) (append_nil st.world.to_timers)
stepped_by setting c st (step ∷ rest) is = refl

ends_set : (cs : List Stand) (c : ℕ) (d new : Stand) → (Ends (get_or cs c d) → Ends new) → AllEnd cs → AllEnd (set cs c new)
ends_set [] c d new keeps h = tt
ends_set (x ∷ cs) zero d new keeps h = (keeps h.0, h.1)
ends_set (x ∷ cs) (suc c) d new keeps h = (h.0, ends_set cs c d new keeps h.1)

pub own_moments : (ms : List (List ℕ)) (cs : List Stand) (c : ℕ) (new : Stand) → c < length cs → AreMoments ms (set cs c new) → BeginsWith new.read (get_or ms c [])
own_moments [] [] c new within h = absurd (omega arith)
own_moments [] (x ∷ cs) zero new within h = absurd h
own_moments [] (x ∷ cs) (suc c) new within h = absurd h
own_moments (m ∷ ms) [] c new within h = absurd (omega arith)
own_moments (m ∷ ms) (x ∷ cs) zero new within h = h.0
own_moments (m ∷ ms) (x ∷ cs) (suc c) new within h = own_moments ms cs c new (omega arith) h.1

-- a client's seat makes a step, and what it puts goes on the lanes
client_stepped_on : (s : Scene) (c : ℕ) (x new : Stand) (puts : List QueuePut) (after : Scene) → c < length s.clients → x ≡ get_or s.clients c x
    → IsStep x new puts
    → Moves (record s { clients = set s.clients c new }) after (with_puts c c puts (world_in s))
    → Advances (Stepped client_step c) s after
client_stepped_on s c x new puts after within is step moves =
    let grows : BeginsWith (get_or s.clients c x).read new.read = subst (λ (y : Stand). BeginsWith y.read new.read) is step.read in
    let before : (ms : List (List ℕ)) → AreMoments ms after.clients → AreMoments ms s.clients =
    λ ms h. moments_before ms s.clients c x new (subst (AreMoments ms) moves.clients h) grows in
    let own : (ms : List (List ℕ)) → AreMoments ms after.clients → BeginsWith new.read (get_or ms c []) =
    λ ms h. own_moments ms s.clients c new within (subst (AreMoments ms) moves.clients h) in
    record {
      setting = moves.setting;
      client_count = ap length moves.clients ∙ length-set s.clients c new;
      sender_count = moves.sender_count;
      moments = before;
      stages = λ ms h.
          let left = client_left (get_or ms c []) x in
          let is_left : get_or (lefts ms s.clients) c [] ≡ client_left (get_or ms c []) x =
          lefts_at ms s.clients c x (before ms h) within ∙ ap (client_left (get_or ms c [])) (sym is) in
          ap (λ (cs : List Stand). record { clients = lefts ms cs; publishers = map steps_in after.senders; world = world_in after }) moves.clients
          ∙ ap (λ l. record { clients = l; publishers = map steps_in after.senders; world = world_in after }) (lefts_set ms s.clients c new (before ms h))
          ∙ ap (λ l. record { clients = set (lefts ms s.clients) c l; publishers = map steps_in after.senders; world = world_in after }) (step.left (get_or ms c []) (own ms h))
          ∙ ap (λ l. record { clients = set (lefts ms s.clients) c (later_steps left); publishers = l; world = world_in after }) moves.steps
          ∙ ap (λ w. record { clients = set (lefts ms s.clients) c (later_steps left); publishers = map steps_in s.senders; world = w }) moves.now
          ∙ ap (λ l. record { clients = set (lefts ms s.clients) c (later_steps left); publishers = map steps_in s.senders; world = with_puts c c l (world_in s) }) (sym (step.puts_are (get_or ms c []) (own ms h)))
          ∙ stepped_by (setting_in s) c (stage_in ms s) left is_left
          ∙ ap (client_stepped (setting_in s) c (stage_in ms s)) (sym is_left);
      told = ap (map reading) moves.clients ∙ map-set_same reading s.clients c new x (step.told ∙ ap reading is);
      ends = λ h. subst AllEnd (sym moves.clients) (ends_set s.clients c x new (subst (λ (y : Stand). Ends y → Ends new) is step.ends) h);
      heard = moves.heard;
    }

-- the same, told of what the calls say
pub client_stepped_to : (s old mid after : Scene) (c : ℕ) (x new : Stand) (puts : List QueuePut) → s ≡ old → c < length s.clients → x ≡ get_or s.clients c x
    → IsStep x new puts → mid ≡ record s { clients = set s.clients c new } → Moves mid after (with_puts c c puts (world_in mid))
    → Advances (Stepped client_step c) old after
client_stepped_to s old mid after c x new puts is within at step changed moves =
    subst (λ (o : Scene). Advances (Stepped client_step c) o after) is
    (client_stepped_on s c x new puts after within at step (subst (λ (m : Scene). Moves m after (with_puts c c puts (world_in m))) changed moves))

-- THE STEPS OF PUBLISHERS

-- entries that a publisher does one after another
entries_are : (setting : Setting) (p : ℕ) (w : World) (es : List PublisherEntry) → p < length w.publishers
    → record w {
      publishers = set w.publishers p (get_or w.publishers p [] ++ es);
      to_bridge = w.to_bridge ++ from_port (bridge_port_of_publisher setting.shape p) (puts_after (publisher_puts_at (get_or setting.publishers p no_section)) (get_or w.publishers p []) es);
    } ≡ entries_done setting p w es
entries_are setting p w [] within =
    ap (λ l. record w { publishers = set w.publishers p l; to_bridge = w.to_bridge ++ [] }) (append_nil (get_or w.publishers p []))
    ∙ ap (λ l. record w { publishers = l; to_bridge = w.to_bridge ++ [] }) (set-get_or w.publishers p [])
    ∙ ap (λ l. record w { to_bridge = l }) (append_nil w.to_bridge)
entries_are setting p w (e ∷ es) within =
    let script : PublisherScript = get_or setting.publishers p no_section in
    let port : ℕ = bridge_port_of_publisher setting.shape p in
    let j : List PublisherEntry = get_or w.publishers p [] in
    let w' : World = publisher_did setting p w e in
    let told : List BridgeNote = publisher_puts_at script j e in
    let rest : List PublisherEntry → List (ℕ × BridgeNote) = λ k. from_port port (puts_after (publisher_puts_at script) k es) in
    let now : get_or w'.publishers p [] ≡ j ++ e ∷ [] = get_or-set_same w.publishers p (j ++ e ∷ []) [] within in
    let journal : set w.publishers p (j ++ (e ∷ es)) ≡ set w'.publishers p (get_or w'.publishers p [] ++ es) =
    ap (set w.publishers p) (sym (append_assoc j (e ∷ []) es)) ∙ sym (set-set w.publishers p (j ++ e ∷ []) ((j ++ e ∷ []) ++ es)) ∙ ap (λ l. set w'.publishers p (l ++ es)) (sym now) in
    let lane : w.to_bridge ++ from_port port (told ++ puts_after (publisher_puts_at script) (j ++ e ∷ []) es) ≡ w'.to_bridge ++ rest (get_or w'.publishers p []) =
    ap (λ l. w.to_bridge ++ l) (map-append (λ v. (port, v)) told (puts_after (publisher_puts_at script) (j ++ e ∷ []) es))
    ∙ sym (append_assoc w.to_bridge (from_port port told) (rest (j ++ e ∷ [])))
    ∙ ap (λ k. w'.to_bridge ++ rest k) (sym now) in
    ap (λ l. record w { publishers = l; to_bridge = w.to_bridge ++ from_port port (told ++ puts_after (publisher_puts_at script) (j ++ e ∷ []) es) }) journal
    ∙ ap (λ l. record w { publishers = set w'.publishers p (get_or w'.publishers p [] ++ es); to_bridge = l }) lane
    ∙ entries_are setting p w' es (subst (λ n. p < n) (sym (length-set w.publishers p (j ++ e ∷ []))) within)

-- a publisher's steps, one fewer
pub sender_stepped_by : (setting : Setting) (p : ℕ) (st : Stage) (left : List (List PublisherEntry)) → get_or st.publishers p [] ≡ left
    → record st { publishers = set st.publishers p (later_steps left); world = entries_done setting p st.world (first_step left) } ≡ publisher_stepped setting p st left
sender_stepped_by setting p st [] is = ap (λ l. record st { publishers = l }) (ap (set st.publishers p) (sym is) ∙ set-get_or st.publishers p [])
sender_stepped_by setting p st (step ∷ rest) is = refl

-- the world after a publisher's step
sender_world : (s : Scene) (p : ℕ) (x new : Sender) (puts : List BridgeNote) → p < length s.senders → x ≡ get_or s.senders p x → IsSenderStep x new puts
    → world_in (record s { senders = set s.senders p new; to_bridge = s.to_bridge ++ from_port (bridge_port_of_publisher s.shape p) puts })
    ≡ entries_done (setting_in s) p (world_in s) (first_step (steps_in x))
sender_world s p x new puts within is step =
    let es : List PublisherEntry = first_step (steps_in x) in
    let port : ℕ = bridge_port_of_publisher s.shape p in
    let journals : List (List PublisherEntry) = map entries_in s.senders in
    let journal : x.journal ≡ get_or journals p [] = ap entries_in is ∙ sym (get_or-map entries_in s.senders p x [] within) in
    let script : x.script ≡ get_or (map script_in s.senders) p no_section = ap script_in is ∙ sym (get_or-map script_in s.senders p x no_section within) in
    let world : List (List PublisherEntry) → List BridgeNote → World = λ l b. record (world_in s) { publishers = l; to_bridge = s.to_bridge ++ from_port port b } in
    let inside : p < length (map entries_in s.senders) = simp length-map within in
    ap (λ l. record (world_in s) { publishers = map entries_in (set s.senders p new); to_publishers = l; to_bridge = s.to_bridge ++ from_port port puts })
    (map-set_same lane_in s.senders p new x (step.lane ∙ ap lane_in is))
    ∙ ap (λ l. world l puts) (map-set entries_in s.senders p new ∙ ap (set journals p) (step.journal ∙ ap (λ k. k ++ es) journal))
    ∙ ap (world (set journals p (get_or journals p [] ++ es))) (step.puts_are ∙ ap (λ t. puts_after (publisher_puts_at t) x.journal es) script
    ∙ ap (λ k. puts_after (publisher_puts_at (get_or (map script_in s.senders) p no_section)) k es) journal)
    ∙ entries_are (setting_in s) p (world_in s) es inside

-- a publisher's seat makes a step, and what it puts goes on the bridge's lane
sender_stepped_on : (s : Scene) (p : ℕ) (x new : Sender) (puts : List BridgeNote) → p < length s.senders → x ≡ get_or s.senders p x → IsSenderStep x new puts
    → Advances (Stepped publisher_step p) s (record s { senders = set s.senders p new; to_bridge = s.to_bridge ++ from_port (bridge_port_of_publisher s.shape p) puts })
sender_stepped_on s p x new puts within is step =
    let left : List (List PublisherEntry) = steps_in x in
    let is_left : get_or (map steps_in s.senders) p [] ≡ left = get_or-map steps_in s.senders p x [] within ∙ ap steps_in (sym is) in
    record {
      setting = ap (λ l. record { shape = s.shape; publishers = l; objects = s.objects; groups = s.groups; watches = s.watches }) (map-set_same script_in s.senders p new x (step.script ∙ ap script_in is));
      client_count = refl;
      sender_count = length-set s.senders p new;
      moments = λ ms h. h;
      stages = λ ms h.
          ap (λ l. record {
            clients = lefts ms s.clients;
            publishers = l;
            world = world_in (record s { senders = set s.senders p new; to_bridge = s.to_bridge ++ from_port (bridge_port_of_publisher s.shape p) puts });
          })
          (map-set steps_in s.senders p new ∙ ap (set (map steps_in s.senders) p) step.steps)
          ∙ ap (λ w. record { clients = lefts ms s.clients; publishers = set (map steps_in s.senders) p (later_steps left); world = w })
          (sender_world s p x new puts within is step)
          ∙ sender_stepped_by (setting_in s) p (stage_in ms s) left is_left
          ∙ ap (publisher_stepped (setting_in s) p (stage_in ms s)) (sym is_left);
      told = refl;
      ends = λ h. h;
      heard = λ h. h;
    }

pub sender_stepped_to : (s old after : Scene) (p port : ℕ) (x new : Sender) (puts : List BridgeNote) (lane : List (ℕ × BridgeNote)) → s ≡ old → p < length s.senders → x ≡ get_or s.senders p x
    → IsSenderStep x new puts → port ≡ bridge_port_of_publisher s.shape p → lane ≡ s.to_bridge ++ from_port port puts → after ≡ record s { senders = set s.senders p new; to_bridge = lane }
    → Advances (Stepped publisher_step p) old after
sender_stepped_to s old after p port x new puts lane is within at step from more changed =
    let whole : lane ≡ s.to_bridge ++ from_port (bridge_port_of_publisher s.shape p) puts = more ∙ ap (λ n. s.to_bridge ++ from_port n puts) from in
    subst (λ (o : Scene). Advances (Stepped publisher_step p) o after) is
    (subst (λ (a : Scene). Advances (Stepped publisher_step p) s a) (sym (changed ∙ ap (λ (l : List (ℕ × BridgeNote)). record s { senders = set s.senders p new; to_bridge = l }) whole))
    (sender_stepped_on s p x new puts within at step))

-- ONE AFTER ANOTHER

-- what holds where a call succeeds
pub on_ok : {T E : Type 0} {P Q : Type 0} → (r : Result T E) → (P → Q) → OnOk r P → OnOk r Q
on_ok (Ok v) f h = f h
on_ok (Err e) f h = h

-- and where it gives a value
pub if_ok : {T E : Type 0} {P Q : T → Type 0} → (r : Result T E) → ((v : T) → P v → Q v) → IfOk r P → IfOk r Q
if_ok (Ok v) f h = f v h
if_ok (Err e) f h = h

-- what holds anyway holds where a call fails
pub on_err : {T E : Type 0} {P : Type 0} → (r : Result T E) → P → OnErr r P
on_err (Ok v) p = tt
on_err (Err e) p = p

pub advances_none : (R : Setting → Stage → Stage → Type 0) (s : Scene) → ((ms : List (List ℕ)) → R (setting_in s) (stage_in ms s) (stage_in ms s)) → Advances R s s
advances_none R s f = record {
  setting = refl;
  client_count = refl;
  sender_count = refl;
  moments = λ ms h. h;
  stages = λ ms h. f ms;
  told = refl;
  ends = λ h. h;
  heard = λ h. h;
}

pub advances_then : (R Q T : Setting → Stage → Stage → Type 0) (a b c : Scene) → ((setting : Setting) (s m t : Stage) → R setting s m → Q setting m t → T setting s t)
    → Advances R a b → Advances Q b c → Advances T a c
advances_then R Q T a b c f m n = record {
  setting = n.setting ∙ m.setting;
  client_count = n.client_count ∙ m.client_count;
  sender_count = n.sender_count ∙ m.sender_count;
  moments = λ ms h. m.moments ms (n.moments ms h);
  stages = λ ms h. f (setting_in a) (stage_in ms a) (stage_in ms b) (stage_in ms c) (m.stages ms (n.moments ms h))
      (subst (λ (s : Setting). Q s (stage_in ms b) (stage_in ms c)) m.setting (n.stages ms h));
  told = n.told ∙ m.told;
  ends = λ h. n.ends (m.ends h);
  heard = λ h. n.heard (m.heard h);
}

-- a step, and then everything is drained
pub drained_on : (step : Setting → ℕ → Stage → Stage) (n : ℕ) (a b c : Scene) → Advances (Stepped step n) a b → Drains b c → Advances (SteppedOut step n) a c
drained_on step n a b c stepped drained =
    let m = drained.passes.moves in
    let before : (ms : List (List ℕ)) → AreMoments ms c.clients → AreMoments ms b.clients = λ ms h. subst (AreMoments ms) m.clients h in
    record {
      setting = m.setting ∙ stepped.setting;
      client_count = ap length m.clients ∙ stepped.client_count;
      sender_count = m.sender_count ∙ stepped.sender_count;
      moments = λ ms h. stepped.moments ms (before ms h);
      stages = λ ms h.
          let now = stepped.stages ms (before ms h) in
          record {
            clients = ap (lefts ms) m.clients ∙ ap (λ (t : Stage). t.clients) now;
            publishers = m.steps ∙ ap (λ (t : Stage). t.publishers) now;
            world = record {
              count = drained.passes.count;
              after = m.now ∙ ap (λ (s : Setting). passes s drained.passes.count (world_in b)) stepped.setting
                  ∙ ap (passes (setting_in a) drained.passes.count) (ap (λ (t : Stage). t.world) now);
              quiet = drained.quiet;
            };
          };
      told = ap (map reading) m.clients ∙ stepped.told;
      ends = λ h. subst AllEnd (sym m.clients) (stepped.ends h);
      heard = λ h. m.heard (stepped.heard h);
    }

-- one more step
pub steps_none : (step : Setting → ℕ → Stage → Stage) (s : Scene) → Advances (SteppedAll step 0) s s
steps_none step s = advances_none (SteppedAll step 0) s (λ ms. refl)

pub steps_more : (step : Setting → ℕ → Stage → Stage) (a b c : Scene) (n : ℕ) → Advances (SteppedAll step n) a b → Advances (SteppedOut step n) b c → Advances (SteppedAll step (n + 1)) a c
steps_more step a b c n before more =
    subst (λ k. Advances (SteppedAll step k) a c) (sym (add-one n))
    (advances_then (SteppedAll step n) (SteppedOut step n) (SteppedAll step (suc n)) a b c (λ setting s m t h k. (m, h, k)) before more)

-- a round
pub round_made : (a b c : Scene) → Advances (SteppedAll client_step (clients_of a.shape)) a b → Advances (SteppedAll publisher_step (publishers_of b.shape)) b c → Advances IsOneRound a c
round_made a b c first second =
    let whole : Advances (λ setting s t. SteppedAll client_step (clients_of setting.shape) setting s t) a b = record {
      setting = first.setting;
      client_count = first.client_count;
      sender_count = first.sender_count;
      moments = first.moments;
      stages = first.stages;
      told = first.told;
      ends = first.ends;
      heard = first.heard;
    } in
    let rest : Advances (λ setting s t. SteppedAll publisher_step (publishers_of setting.shape) setting s t) b c = record {
      setting = second.setting;
      client_count = second.client_count;
      sender_count = second.sender_count;
      moments = second.moments;
      stages = second.stages;
      told = second.told;
      ends = second.ends;
      heard = second.heard;
    } in
    advances_then (λ setting s t. SteppedAll client_step (clients_of setting.shape) setting s t) (λ setting s t. SteppedAll publisher_step (publishers_of setting.shape) setting s t) IsOneRound a b c
    (λ setting s m t h k. record { mid = m; clients = h; publishers = k }) whole rest

-- rounds
pub plays_none : (s : Scene) → Plays s s
plays_none s = record { count = 0; rounds = advances_none (Rounds 0) s (λ ms. refl) }

pub plays_more : (a b c : Scene) → Plays a b → Advances IsOneRound b c → Plays a c
plays_more a b c before more = record {
  count = suc before.count;
  rounds = advances_then (Rounds before.count) IsOneRound (Rounds (suc before.count)) a b c (λ setting s m t h k. (m, h, k)) before.rounds more;
}
