-- One place of a run after another: what of its rounds was done.
use Rattle.std.proofs.Common.{◌≡◌, ℕ, zero, suc, ◌+◌, ◌-◌, ◌<◌, ◌≤◌, Bool, true, List, [], ◌++◌, map, length, get_or, refl, sym, ◌∙◌, ap, arith, subst}
use Rattle.std.specs.Prelude.{Option, Some, None, IfSome, Result, Ok, Err, IfOk, OnOk, OnErr}
use Rattle.mama_event.specs.Ports.{clients_of, publishers_of}
use Rattle.mama_script.specs.Script.{ScriptData}
use Rattle.mama_record.specs.RunData.{RunData}
use Rattle.mama_rules_rounds.specs.Client.{Planned}
use Rattle.mama_rules_rounds.specs.Setting.{Setting}
use Rattle.mama_rules_rounds.specs.World.{IsQuiet}
use Rattle.mama_rules_rounds.specs.Stage.{Stage, client_step, publisher_step, publisher_stepped, IsOneRound}
use Rattle.mama_rules_rounds.specs.Sections.{setting_of}
use Rattle.mama_rules_rounds.specs.Round.{IsRound}
use Rattle.mama_seats.specs.Sender.{steps_in}
use Rattle.mama_seats.specs.Stand.{Stand}
use Rattle.mama_seats.specs.Moments.{AreHeard}
use Rattle.mama_drive.specs.declared.turn.Turn.{Turn}
use Rattle.mama_drive.specs.declared.turn.Turn.TheVariants as turn
use Rattle.mama_drive.specs.declared.place.Place.{Place}
use Rattle.mama_drive.specs.declared.recording.Parts.{Parts}
use Rattle.mama_drive.specs.declared.place.Place.TheVariants as place
use Rattle.mama_drive.specs.Scene.{Scene, Advances, Stepped, SteppedOut, SteppedAll, Plays, ArePassed, IsPlayed, AreMoments, setting_in, world_in, stage_in}
use Rattle.mama_drive.specs.Heard.{Hears, StepRead, StepsRead, HearsRounds, left_behind}
use Rattle.mama_drive.specs.Start.{started}
use Rattle.mama_drive.specs.Record.{recorded}
use Rattle.mama_drive.specs.Grown.{HasGrown}
use Rattle.mama_drive.specs.Turns.{GoesOn}
use Rattle.mama_drive.specs.Parts.{ArePartsOf}
use Rattle.mama_drive.specs.Place.{AreMade, StandsAt, GoesTo, GoesHearing, IsEnd}
use Rattle.mama_drive.specs.Course.{Course, IsUnderWay, IsGoneOn}
use Rattle.mama_drive.proofs.GrownLemmas.{grown_same, grown_then, grown_is, has_grown, client_step_grown, sender_step_grown}
use Rattle.mama_drive.proofs.TurnLemmas.{passes_none}
use Rattle.mama_drive.proofs.TurnsLemmas.{draining_none, drained}
use Rattle.mama_drive.proofs.StageLemmas.{advances_none, steps_none, steps_more, drained_on, round_made, plays_none, plays_more, if_ok}
use Rattle.mama_drive.proofs.RestLemmas.{plays_then}
use Rattle.mama_drive.proofs.ClockLemmas.{answered_none, answered_then, answered_first, answered_later, left_none, left_then, steps_heard_none, steps_heard_more, round_heard, rounds_heard_none, rounds_heard_then, one_round_heard, run_heard}
use Rattle.mama_drive.proofs.StartLemmas.{starts}
use Rattle.mama_drive.proofs.RecordLemmas.{is_round}

-- ONE AFTER ANOTHER

pub to_same : (o : Option (List ℕ)) (at : Place) (a b : Scene) → b ≡ a → GoesTo o o at a at b
to_same o at a b is = subst (λ (s : Scene). GoesTo o o at a at s) (sym is) (record { on = λ first from h. h; moments = λ ms h. h; grown = grown_same (world_in a) })

pub to_then : (o m l : Option (List ℕ)) (at mid next : Place) (a b c : Scene) → GoesTo o m at a mid b → GoesTo m l mid b next c → GoesTo o l at a next c
to_then o m l at mid next a b c h k = record {
  on = λ first from s. k.on first from (h.on first from s);
  moments = λ ms own. h.moments ms (k.moments ms own);
  grown = grown_then (world_in a) (world_in b) (world_in c) h.grown k.grown;
}

-- the same scene at another place
moved : (o : Option (List ℕ)) (at next : Place) (s : Scene) → ((first : Scene) (from : Option (List ℕ)) → StandsAt first from o at s → StandsAt first from o next s) → GoesTo o o at s next s
moved o at next s on = record { on = on; moments = λ ms h. h; grown = grown_same (world_in s) }

-- BETWEEN ROUNDS

pub round_begins : (o : Option (List ℕ)) (a b : Scene) → b ≡ a → GoesTo o o place.Rounds a (place.Client 0) b
round_begins o a b is = subst (λ (s : Scene). GoesTo o o place.Rounds a (place.Client 0) s) (sym is) (moved o place.Rounds (place.Client 0) a
    (λ first from made. record {
      round = a;
      then_left = o;
      made = made;
      did = record { within = let h : 0 ≤ clients_of a.shape = omega arith in h; steps = steps_none client_step a; heard = steps_heard_none o a.clients };
    }))

pub rounds_rest : (o : Option (List ℕ)) (a b : Scene) → Plays a b → HearsRounds o o a.clients b.clients → world_in b ≡ world_in a → GoesTo o o place.Rounds a place.Rounds b
rounds_rest o a b plays heard same = record {
  on = λ first from made. record {
    plays = plays_then first a b made.plays plays;
    heard = rounds_heard_then from o o first.clients a.clients b.clients plays.rounds.moments made.heard heard;
  };
  moments = plays.rounds.moments;
  grown = grown_is (world_in a) (world_in b) same;
}

-- CLIENTS

same_clients : (step : (Setting → Stage → Stage → Type 0)) (a b : Scene) → Advances step a b → clients_of b.shape ≡ clients_of a.shape
same_clients step a b advances = ap (λ (s : Setting). clients_of s.shape) advances.setting

same_publishers : (step : (Setting → Stage → Stage → Type 0)) (a b : Scene) → Advances step a b → publishers_of b.shape ≡ publishers_of a.shape
same_publishers step a b advances = ap (λ (s : Setting). publishers_of s.shape) advances.setting

pub client_steps : (n : ℕ) (o l : Option (List ℕ)) (a b : Scene) → n < clients_of a.shape → Advances (Stepped client_step n) a b → Hears (StepRead n) o l a.clients b.clients
    → GoesTo o l (place.Client n) a (place.AfterClient (n + 1) turn.Bridge) b
client_steps n o l a b within step heard = record {
  on = λ first from h.
      let count : clients_of a.shape ≡ clients_of h.round.shape = same_clients (SteppedAll client_step n) h.round a h.did.steps in
      record {
        round = h.round;
        then_left = h.then_left;
        made = h.made;
        did = record {
          number = n;
          is = refl;
          within = let k : n < clients_of h.round.shape = omega (arith, within, count) in k;
          before = a;
          stepped = b;
          steps = h.did.steps;
          step = step;
          drains = draining_none b;
          heard = steps_heard_more n h.then_left o l h.round.clients a.clients b.clients step.moments h.did.heard heard;
        };
      };
  moments = step.moments;
  grown = client_step_grown n a b step;
}

pub clients_end : (n count : ℕ) (o : Option (List ℕ)) (a : Scene) → count ≤ n → count ≡ length a.clients → count ≡ clients_of a.shape → GoesTo o o (place.Client n) a (place.Publisher 0) a
clients_end n count o a past number shape = moved o (place.Client n) (place.Publisher 0) a
    (λ first from h.
    let same : clients_of a.shape ≡ clients_of h.round.shape = same_clients (SteppedAll client_step n) h.round a h.did.steps in
    let counted : length a.clients ≡ length h.round.clients = h.did.steps.client_count in
    let all : n ≡ clients_of h.round.shape = omega (arith, past, shape, same, h.did.within) in
    let whole : n ≡ length h.round.clients = omega (arith, all, same, shape, number, counted) in
    record {
      round = h.round;
      then_left = h.then_left;
      made = h.made;
      did = record {
        mid = a;
        clients = record {
          steps = subst (λ k. Advances (SteppedAll client_step k) h.round a) all h.did.steps;
          heard = subst (λ k. Hears (StepsRead k) h.then_left o h.round.clients a.clients) whole h.did.heard;
        };
        did = record { within = let k : 0 ≤ publishers_of a.shape = omega arith in k; steps = steps_none publisher_step a; clients = refl };
      };
    })

pub client_drains : (n : ℕ) (t next : Turn) (o : Option (List ℕ)) (a b : Scene) → GoesOn t a next b → GoesTo o o (place.AfterClient n t) a (place.AfterClient n next) b
client_drains n t next o a b goes = record {
  on = λ first from h. record {
    round = h.round;
    then_left = h.then_left;
    made = h.made;
    did = record {
      number = h.did.number;
      is = h.did.is;
      within = h.did.within;
      before = h.did.before;
      stepped = h.did.stepped;
      steps = h.did.steps;
      step = h.did.step;
      drains = goes.on h.did.stepped h.did.drains;
      heard = subst (λ (cs : List Stand). Hears (StepsRead n) h.then_left o h.round.clients cs) (sym goes.clients) h.did.heard;
    };
  };
  moments = λ ms h. subst (AreMoments ms) goes.clients h;
  grown = goes.grown;
}

pub client_done : (n : ℕ) (t : Turn) (o : Option (List ℕ)) (a : Scene) → t ≡ turn.Bridge → IsQuiet (world_in a) → GoesTo o o (place.AfterClient n t) a (place.Client n) a
client_done n t o a whole quiet = subst (λ (u : Turn). GoesTo o o (place.AfterClient n u) a (place.Client n) a) (sym whole) (moved o (place.AfterClient n turn.Bridge) (place.Client n) a
    (λ first from h.
    let d = h.did in
    let out = drained_on client_step d.number d.before d.stepped a d.step (drained d.stepped a d.drains quiet) in
    record {
      round = h.round;
      then_left = h.then_left;
      made = h.made;
      did = record {
        within = let k : n ≤ clients_of h.round.shape = omega (arith, d.is, d.within) in k;
        steps = subst (λ k. Advances (SteppedAll client_step k) h.round a) (sym d.is) (steps_more client_step h.round d.before a d.number d.steps out);
        heard = d.heard;
      };
    }))

-- PUBLISHERS

pub sender_steps : (n : ℕ) (o : Option (List ℕ)) (a b : Scene) → n < publishers_of a.shape → Advances (Stepped publisher_step n) a b → b.clients ≡ a.clients
    → GoesTo o o (place.Publisher n) a (place.AfterPublisher (n + 1) turn.Bridge) b
sender_steps n o a b within step clients = record {
  on = λ first from h.
      let p = h.did.did in
      let count : publishers_of a.shape ≡ publishers_of h.did.mid.shape = same_publishers (SteppedAll publisher_step n) h.did.mid a p.steps in
      record {
        round = h.round;
        then_left = h.then_left;
        made = h.made;
        did = record {
          mid = h.did.mid;
          clients = h.did.clients;
          did = record {
            number = n;
            is = refl;
            within = let k : n < publishers_of h.did.mid.shape = omega (arith, within, count) in k;
            before = a;
            stepped = b;
            steps = p.steps;
            step = step;
            drains = draining_none b;
            clients = clients ∙ p.clients;
          };
        };
      };
  moments = λ ms h. subst (AreMoments ms) clients h;
  grown = sender_step_grown n a b step;
}

-- a publisher that has no step left does nothing
sender_passed : (n : ℕ) (a : Scene) → get_or (map steps_in a.senders) n [] ≡ [] → Advances (Stepped publisher_step n) a a
sender_passed n a none = advances_none (Stepped publisher_step n) a (λ ms. sym (ap (publisher_stepped (setting_in a) n (stage_in ms a)) none))

-- so many of them, where nothing waits
senders_still : (mid a : Scene) (n k : ℕ) → (0 < k → IsQuiet (world_in a)) → ((p : ℕ) → p < k + n → n ≤ p → get_or (map steps_in a.senders) p [] ≡ [])
    → Advances (SteppedAll publisher_step n) mid a → Advances (SteppedAll publisher_step (k + n)) mid a
senders_still mid a n zero quiet none steps =
    let none_more : n ≡ 0 + n = omega arith in
    subst (λ j. Advances (SteppedAll publisher_step j) mid a) none_more steps
senders_still mid a n (suc k) quiet none steps =
    let one_more : (k + n) + 1 ≡ suc k + n = omega arith in
    let waits : IsQuiet (world_in a) = quiet (omega arith) in
    let before : Advances (SteppedAll publisher_step (k + n)) mid a = senders_still mid a n k (λ more. waits) (λ p low high. none p (omega (arith, low)) high) steps in
    let step : Advances (SteppedOut publisher_step (k + n)) a a =
    drained_on publisher_step (k + n) a a a (sender_passed (k + n) a (none (k + n) (omega arith) (omega arith))) (record { passes = passes_none a; quiet = waits }) in
    subst (λ j. Advances (SteppedAll publisher_step j) mid a) one_more (steps_more publisher_step mid a a (k + n) before step)

pub senders_passed : (n m : ℕ) (o : Option (List ℕ)) (a : Scene) → (n ≤ publishers_of a.shape → ArePassed n m a) → GoesTo o o (place.Publisher n) a (place.Publisher m) a
senders_passed n m o a passed = moved o (place.Publisher n) (place.Publisher m) a
    (λ first from h.
    let p = h.did.did in
    let count : publishers_of a.shape ≡ publishers_of h.did.mid.shape = same_publishers (SteppedAll publisher_step n) h.did.mid a p.steps in
    let d : ArePassed n m a = passed (let k : n ≤ publishers_of a.shape = omega (arith, p.within, count) in k) in
    let whole : (m - n) + n ≡ m = omega (arith, d.above) in
    record {
      round = h.round;
      then_left = h.then_left;
      made = h.made;
      did = record {
        mid = h.did.mid;
        clients = h.did.clients;
        did = record {
          within = let k : m ≤ publishers_of h.did.mid.shape = omega (arith, d.within, count) in k;
          steps = subst (λ k. Advances (SteppedAll publisher_step k) h.did.mid a) whole
              (senders_still h.did.mid a n (m - n) (λ more. d.quiet (let k : n < m = omega (arith, more) in k)) (λ q low high. d.over q (subst (λ k. q < k) whole low) high) p.steps);
          clients = p.clients;
        };
      };
    })

pub round_ends : (n count : ℕ) (o : Option (List ℕ)) (a : Scene) → count ≤ n → count ≡ publishers_of a.shape → GoesTo o o (place.Publisher n) a place.Rounds a
round_ends n count o a past shape = moved o (place.Publisher n) place.Rounds a
    (λ first from h.
    let r : Scene = h.round in
    let mid : Scene = h.did.mid in
    let p = h.did.did in
    let cs = h.did.clients in
    let same : publishers_of a.shape ≡ publishers_of mid.shape = same_publishers (SteppedAll publisher_step n) mid a p.steps in
    let all : n ≡ publishers_of mid.shape = omega (arith, past, shape, same, p.within) in
    let round : Advances IsOneRound r a = round_made r mid a cs.steps (subst (λ k. Advances (SteppedAll publisher_step k) mid a) all p.steps) in
    record {
      plays = plays_more first r a h.made.plays round;
      heard = rounds_heard_then from h.then_left o first.clients r.clients a.clients round.moments h.made.heard
          (one_round_heard h.then_left o r.clients a.clients (round_heard h.then_left o r.clients mid.clients a.clients cs.steps.moments p.clients cs.heard));
    })

pub sender_drains : (n : ℕ) (t next : Turn) (o : Option (List ℕ)) (a b : Scene) → GoesOn t a next b → GoesTo o o (place.AfterPublisher n t) a (place.AfterPublisher n next) b
sender_drains n t next o a b goes = record {
  on = λ first from h.
      let p = h.did.did in
      record {
        round = h.round;
        then_left = h.then_left;
        made = h.made;
        did = record {
          mid = h.did.mid;
          clients = h.did.clients;
          did = record {
            number = p.number;
            is = p.is;
            within = p.within;
            before = p.before;
            stepped = p.stepped;
            steps = p.steps;
            step = p.step;
            drains = goes.on p.stepped p.drains;
            clients = goes.clients ∙ p.clients;
          };
        };
      };
  moments = λ ms h. subst (AreMoments ms) goes.clients h;
  grown = goes.grown;
}

pub sender_done : (n : ℕ) (t : Turn) (o : Option (List ℕ)) (a : Scene) → t ≡ turn.Bridge → IsQuiet (world_in a) → GoesTo o o (place.AfterPublisher n t) a (place.Publisher n) a
sender_done n t o a whole quiet = subst (λ (u : Turn). GoesTo o o (place.AfterPublisher n u) a (place.Publisher n) a) (sym whole) (moved o (place.AfterPublisher n turn.Bridge) (place.Publisher n) a
    (λ first from h.
    let p = h.did.did in
    let out = drained_on publisher_step p.number p.before p.stepped a p.step (drained p.stepped a p.drains quiet) in
    record {
      round = h.round;
      then_left = h.then_left;
      made = h.made;
      did = record {
        mid = h.did.mid;
        clients = h.did.clients;
        did = record {
          within = let k : n ≤ publishers_of h.did.mid.shape = omega (arith, p.is, p.within) in k;
          steps = subst (λ k. Advances (SteppedAll publisher_step k) h.did.mid a) (sym p.is) (steps_more publisher_step h.did.mid p.before a p.number p.steps out);
          clients = p.clients;
        };
      };
    }))

-- THE BEGINNING AND THE END

pub made_none : (o : Option (List ℕ)) (s : Scene) → AreMade s o o s
made_none o s = record { plays = plays_none s; heard = rounds_heard_none o s.clients }

pub ends_round : (script : ScriptData) (o l : Option (List ℕ)) (s : Scene) (run : RunData) → AreMade (started (setting_of script).objects script) o l s → IsPlayed s → run ≡ recorded s → IsRound script run
ends_round script o l s run made played told = is_round script (started (setting_of script).objects script) s run (starts script) made.plays played told

pub ends_heard : (script : ScriptData) (o l : Option (List ℕ)) (s : Scene) (run : RunData) → AreMade (started (setting_of script).objects script) o l s → IsPlayed s → run ≡ recorded s
    → AreHeard o l script.clients run.clients
ends_heard script o l s run made played told =
    run_heard script (setting_of script).objects (started (setting_of script).objects script) s run o l refl made.plays made.heard played told

-- WHAT WAS HEARD

-- nothing
pub hearing_none : (o : Option (List ℕ)) (at next : Place) (a b : Scene) → ((k : Option (List ℕ)) → GoesTo k k at a next b) → GoesHearing o o at a next b
hearing_none o at next a b goes = record {
  heard = [];
  answered = answered_none o;
  goes = λ k answered. subst (λ (l : Option (List ℕ)). GoesTo k l at a next b) (left_none k) (goes k);
}

pub hearing_then : (o m l : Option (List ℕ)) (at mid next : Place) (a b c : Scene) → GoesHearing o m at a mid b → GoesHearing m l mid b next c → GoesHearing o l at a next c
hearing_then o m l at mid next a b c h k = record {
  heard = h.heard ++ k.heard;
  answered = answered_then o m l h.heard k.heard h.answered k.answered;
  goes = λ p answered.
      to_then p (left_behind h.heard p) (left_behind (h.heard ++ k.heard) p) at mid next a b c (h.goes p (answered_first h.heard k.heard p answered))
      (subst (λ (x : Option (List ℕ)). GoesTo (left_behind h.heard p) x mid b next c) (left_then h.heard k.heard p)
      (k.goes (left_behind h.heard p) (answered_later h.heard k.heard p answered)));
}

-- a client's step
pub hearing_step : (n : ℕ) (o l : Option (List ℕ)) (a b : Scene) → n < clients_of a.shape → Advances (Stepped client_step n) a b → Hears (StepRead n) o l a.clients b.clients
    → GoesHearing o l (place.Client n) a (place.AfterClient (n + 1) turn.Bridge) b
hearing_step n o l a b within step h = record {
  heard = h.heard;
  answered = h.answered;
  goes = λ k answered. client_steps n k (left_behind h.heard k) a b within step (record { heard = h.heard; answered = answered; reads = h.reads });
}

-- a step or a turn that was refused
pub hearing_refused : (o m l : Option (List ℕ)) (at next : Place) (a b c : Scene) → GoesHearing o m at a next b → c ≡ b → l ≡ m → GoesHearing o l at a next c
hearing_refused o m l at next a b c h same left = subst (λ (k : Option (List ℕ)). GoesHearing o k at a next c) (sym left) (subst (λ (s : Scene). GoesHearing o m at a next s) (sym same) h)

-- THE MARK THAT A RECORD CAN BE MADE

plays_ready : (a b : Scene) → Plays a b → Plays a (record b { ready = true })
plays_ready a b plays =
    let rounds = plays.rounds in
    record {
      count = plays.count;
      rounds = record {
        setting = rounds.setting;
        client_count = rounds.client_count;
        sender_count = rounds.sender_count;
        moments = rounds.moments;
        stages = rounds.stages;
        told = rounds.told;
        ends = rounds.ends;
        heard = rounds.heard;
      };
    }

ready_goes : (o : Option (List ℕ)) (s : Scene) → GoesTo o o place.Rounds s place.Rounds (record s { ready = true })
ready_goes o s = record {
  on = λ first from made. record { plays = plays_ready first s made.plays; heard = made.heard };
  moments = λ ms h. h;
  grown = grown_same (world_in s);
}

-- the parts of the record were made, or not
pub hearing_parts : {T E : Type 0} → (r : Result T E) (o l : Option (List ℕ)) (at next : Place) (a b c : Scene) → GoesHearing o l at a next b → next ≡ place.Rounds
    → OnOk r (c ≡ record b { ready = true }) → OnErr r (c ≡ b) → GoesHearing o l at a next c
hearing_parts (Ok v) o l at next a b c h rounds ok err =
    subst (λ (p : Place). GoesHearing o l at a p c) (sym rounds)
    (hearing_then o l l at place.Rounds place.Rounds a b c (subst (λ (p : Place). GoesHearing o l at a p b) rounds h)
    (hearing_none l place.Rounds place.Rounds b c (λ k. subst (λ (s : Scene). GoesTo k k place.Rounds b place.Rounds s) (sym ok) (ready_goes k b))))
hearing_parts (Err e) o l at next a b c h rounds ok err = subst (λ (s : Scene). GoesHearing o l at a next s) (sym err) h

pub end_parts : {E : Type 0} → (r : Result Parts E) (at : Place) (b c : Scene) → at ≡ place.Rounds → IsPlayed b → OnOk r (c ≡ record b { ready = true }) → IfOk r (ArePartsOf c) → IfOk r (IsEnd c at)
end_parts (Ok parts) at b c rounds played ok are = record {
  rounds = rounds;
  played = subst IsPlayed (sym ok) (record { clients = played.clients; publishers = played.publishers });
  parts_are = are;
  ready = ap (λ (s : Scene). s.ready) ok;
}
end_parts (Err e) at b c rounds played ok are = tt

-- the place that comes next, by the place that it was
pub at_place : {E : Type 0} → (o l : Option (List ℕ)) (p q : Place) (r : Result Place E) (a b : Scene) → p ≡ q → IfOk r (λ next. GoesHearing o l q a next b) → IfOk r (λ next. GoesHearing o l p a next b)
at_place o l p q r a b is h = subst (λ (k : Place). IfOk r (λ next. GoesHearing o l k a next b)) (sym is) h

pub at_place_of : {E : Type 0} → (o : Option (List ℕ)) (p q : Place) (r : Result Place E) (a b : Scene) → p ≡ q → IfOk r (λ next. (k : Option (List ℕ)) → GoesTo k k q a next b)
    → IfOk r (λ next. GoesHearing o o p a next b)
at_place_of o p q r a b is h = at_place o o p q r a b is (if_ok r (λ next goes. hearing_none o q next a b goes) h)

-- THE WHOLE RUN

pub begins : (script : ScriptData) (objects : List Planned) (s : Scene) → objects ≡ (setting_of script).objects → s ≡ started objects script
    → (o : Option (List ℕ)) → AreMade (started (setting_of script).objects script) o o s
begins script objects s known is o =
    subst (λ (t : Scene). AreMade (started (setting_of script).objects script) o o t) (sym (is ∙ ap (λ (l : List Planned). started l script) known)) (made_none o (started (setting_of script).objects script))

module _ (script : ScriptData) (o l : Option (List ℕ)) (s : Scene) (at : Place) (over : Bool) (run : Course) (is : record { scene = s; at = at; over = over } ≡ run) where
  made_at_end : at ≡ place.Rounds → IsUnderWay script o l run → AreMade (started (setting_of script).objects script) o l s
  made_at_end rounds h =
      subst (λ (p : Place). StandsAt (started (setting_of script).objects script) o l p s) rounds (subst (λ (c : Course). IsUnderWay script o l c) (sym is) h)

  pub end_is_round : (answer : RunData) → at ≡ place.Rounds → IsPlayed s → answer ≡ recorded s → IsUnderWay script o l run → IsRound script answer
  end_is_round answer rounds played told h = ends_round script o l s answer (made_at_end rounds h) played told

  pub end_is_heard : (answer : RunData) → at ≡ place.Rounds → IsPlayed s → answer ≡ recorded s → IsUnderWay script o l run → AreHeard o l script.clients answer.clients
  end_is_heard answer rounds played told h = ends_heard script o l s answer (made_at_end rounds h) played told

-- a run that went on
pub gone_on : (m l : Option (List ℕ)) (s t : Scene) (at next : Place) (over after : Bool) (run : Course) → record { scene = s; at = at; over = over } ≡ run → GoesHearing m l at s next t
    → IsGoneOn m l run (record { scene = t; at = next; over = after })
gone_on m l s t at next over after run is h = record {
  heard = h.heard;
  answered = h.answered;
  under_way = λ script from o answered way.
      (h.goes o answered).on (started (setting_of script).objects script) from (subst (λ (c : Course). IsUnderWay script from o c) (sym is) way);
}

pub grown_on : (m l : Option (List ℕ)) (s t : Scene) (at next : Place) (over : Bool) (run : Course) → record { scene = s; at = at; over = over } ≡ run → GoesHearing m l at s next t
    → HasGrown run.scene t
grown_on m l s t at next over run is h =
    let goes : GoesTo None (left_behind h.heard None) at s next t = h.goes None tt in
    subst (λ (c : Course). HasGrown c.scene t) is (has_grown s t goes.moments goes.grown)

-- a run that is at its end already
pub stays_gone : (o : Option (List ℕ)) (run seen : Course) → run ≡ seen → IsGoneOn o o seen run
stays_gone o run seen is = gone_on o o run.scene run.scene run.at run.at run.over run.over seen is (hearing_none o run.at run.at run.scene run.scene (λ k. to_same k run.at run.scene run.scene refl))

pub stays_grown : (run seen : Course) → run ≡ seen → HasGrown seen.scene run.scene
stays_grown run seen is = subst (λ (c : Course). HasGrown c.scene run.scene) is (has_grown run.scene run.scene (λ ms h. h) (grown_same (world_in run.scene)))

pub end_of : (o : Option Parts) (parts : Parts) (s : Scene) (at : Place) → o ≡ Some parts → IfSome o (IsEnd s at) → IsEnd s at parts
end_of o parts s at is h = subst (λ (p : Option Parts). IfSome p (IsEnd s at)) is h
