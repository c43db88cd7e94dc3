-- How a client that does its lines again does one line more.
use Rattle.std.proofs.Common.{◌≡◌, ℕ, zero, suc, ◌+◌, ◌<◌, List, [], ◌∷◌, ◌++◌, length, drop, get_or, add-one, refl, sym, ◌∙◌, ap, append-nil, append_assoc}
use Rattle.std.specs.Prelude.{replicate}
use Rattle.std.specs.List.{flat_map}
use Rattle.std.proofs.Math.Seq.{drop-cons}
use Rattle.mama_event.specs.declared.to_bridge.BridgeNote.{BridgeNote}
use Rattle.mama_event.specs.declared.to_timers.TimersNote.{TimersNote}
use Rattle.mama_script.specs.declared.client.ClientLine.{ClientLine}
use Rattle.mama_script.specs.declared.client.ClientLine.TheVariants as line
use Rattle.mama_rules_queue.specs.Queue.{QueuePut}
use Rattle.mama_check_order.specs.Numbered.{from_entry, parted, steps_numbered, steps_numbered_from}
use Rattle.mama_check_order.proofs.Numbered.{parted_append}
use Rattle.mama_rules_rounds.specs.Client.{Standing, line_steps, after_line, bridge_part, timers_part}
use Rattle.mama_plans.specs.declared.names.Names.{Names}
use Rattle.mama_plans.specs.Names.{standing_of}
use Rattle.mama_check_puts.specs.declared.client.Teller.{Teller}
use Rattle.mama_check_puts.specs.Client.{lines_from, line_puts, Tells}

-- a pause puts nothing
rests : {P : Type 0} (n : ℕ) → flat_map (λ (step : List P). step) (replicate n []) ≡ []
rests zero = refl
rests (suc n) = rests n

-- a line that puts one event, or none, of what goes one way
one_told : {V : Type 0} (part : QueuePut → List V) (queues number place next : ℕ) (s after : Standing) (l : ClientLine) (puts : List QueuePut) (lines : List ClientLine) (old new : List (ℕ × V))
    → next ≡ place + 1 → flat_map (λ (step : List QueuePut). step) (line_steps queues number s l) ≡ puts → after_line s l ≡ after → new ≡ old ++ parted part (from_entry place puts)
    → new ++ parted part (steps_numbered_from next (lines_from queues number after lines)) ≡ old ++ parted part (steps_numbered_from place (lines_from queues number s (l ∷ lines)))
one_told {V} part queues number place next s after l puts lines old new counted put stands grow =
    let left = lines_from queues number after lines in
    let later : next ≡ suc place = counted ∙ add-one place in
    ap (λ (xs : List (ℕ × V)). xs ++ parted part (steps_numbered_from next left)) grow
    ∙ append_assoc old (parted part (from_entry place puts)) (parted part (steps_numbered_from next left))
    ∙ ap (λ (m : ℕ). old ++ (parted part (from_entry place puts) ++ parted part (steps_numbered_from m left))) later
    ∙ ap (λ (xs : List (ℕ × V)). old ++ xs) (sym (parted_append part (from_entry place puts) (steps_numbered_from (suc place) left)))
    ∙ ap (λ (x : Standing). old ++ parted part (steps_numbered_from place (puts ∷ lines_from queues number x lines))) (sym stands)
    ∙ ap (λ (ps : List QueuePut). old ++ parted part (steps_numbered_from place (ps ∷ lines_from queues number (after_line s l) lines))) (sym put)

-- it did a line of one step with one event
pub line_told : (old new : Teller) (l : ClientLine) (put : QueuePut) → new.number ≡ old.number → new.queues ≡ old.queues → new.place ≡ old.place + 1
    → line_steps old.queues old.number (standing_of old.names old.moments.now) l ≡ (put ∷ []) ∷ []
    → after_line (standing_of old.names old.moments.now) l ≡ standing_of new.names new.moments.now
    → new.puts.to_bridge.items ≡ old.puts.to_bridge.items ++ from_entry old.place (bridge_part put)
    → new.puts.to_timers.items ≡ old.puts.to_timers.items ++ from_entry old.place (timers_part put)
    → Tells old new l
line_told old new l put same_number same_queues counted steps stands bridge timers =
    let alone : flat_map (λ (step : List QueuePut). step) (line_steps old.queues old.number (standing_of old.names old.moments.now) l) ≡ put ∷ [] = ap (λ (ss : List (List QueuePut)). flat_map (λ (step : List QueuePut). step) ss) steps in
    record {
      place = counted;
      bridge = λ lines.
          rw (same_number, same_queues)
          (one_told bridge_part old.queues old.number old.place new.place (standing_of old.names old.moments.now) (standing_of new.names new.moments.now) l (put ∷ []) lines old.puts.to_bridge.items new.puts.to_bridge.items counted alone stands
          (bridge ∙ ap (λ (xs : List (ℕ × BridgeNote)). old.puts.to_bridge.items ++ xs) (sym (append-nil (from_entry old.place (bridge_part put))))));
      timers = λ lines.
          rw (same_number, same_queues)
          (one_told timers_part old.queues old.number old.place new.place (standing_of old.names old.moments.now) (standing_of new.names new.moments.now) l (put ∷ []) lines old.puts.to_timers.items new.puts.to_timers.items counted alone stands
          (timers ∙ ap (λ (xs : List (ℕ × TimersNote)). old.puts.to_timers.items ++ xs) (sym (append-nil (from_entry old.place (timers_part put))))));
    }

-- it paused
pub pause_told : (old : Teller) (n next : ℕ) → next ≡ old.place + 1 → Tells old (record old { place = next }) (line.Pause n)
pause_told old n next counted =
    let s : Standing = standing_of old.names old.moments.now in
    record {
      place = counted;
      bridge = λ lines. one_told bridge_part old.queues old.number old.place next s s (line.Pause n) [] lines old.puts.to_bridge.items old.puts.to_bridge.items counted (rests n) refl (sym (append-nil old.puts.to_bridge.items));
      timers = λ lines. one_told timers_part old.queues old.number old.place next s s (line.Pause n) [] lines old.puts.to_timers.items old.puts.to_timers.items counted (rests n) refl (sym (append-nil old.puts.to_timers.items));
    }

-- the lines that are left, from one on
pub next_line : (lines : List ClientLine) (i : ℕ) (l : ClientLine) → i < length lines → l ≡ get_or lines i l → drop i lines ≡ l ∷ drop (i + 1) lines
next_line lines i l within is =
    drop-cons lines i l within ∙ ap (λ (x : ClientLine). x ∷ drop (suc i) lines) (sym is) ∙ ap (λ (k : ℕ). l ∷ drop k lines) (sym (add-one i))

-- it did nothing yet
pub starts : {V : Type 0} (part : QueuePut → List V) (queues number : ℕ) (moments : List ℕ) (lines : List ClientLine) (names : Names) (put : List (ℕ × V))
    → put ≡ [] → names ≡ record { subs = 0; timers = 0; inboxes = 0; turns = 0 }
    → put ++ parted part (steps_numbered_from 0 (lines_from queues number (standing_of names moments) lines)) ≡ parted part (steps_numbered (line_puts queues number moments lines))
starts {V} part queues number moments lines names put none unnamed =
    ap (λ (xs : List (ℕ × V)). xs ++ parted part (steps_numbered_from 0 (lines_from queues number (standing_of names moments) lines))) none
    ∙ ap (λ (n : Names). parted part (steps_numbered_from 0 (lines_from queues number (standing_of n moments) lines))) unnamed
