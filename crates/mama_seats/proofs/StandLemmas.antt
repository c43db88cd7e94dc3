-- How a client's seat makes a step.
use Rattle.std.proofs.Common.{◌≡◌, ℕ, suc, ◌+◌, ◌-◌, ◌<◌, ◌≤◌, Bool, true, false, List, [], ◌∷◌, ◌++◌, length, drop, refl, sym, ◌∙◌, ap, append-nil, append_assoc, arith, subst, add-one, get_or}
use Rattle.std.proofs.lemmas.List.{length-append, drop_all}
use Rattle.std.proofs.Math.Seq.{drop-append_seam, drop-cons}
use Rattle.mama_script.specs.declared.client.ClientLine.{ClientLine}
use Rattle.mama_script.specs.declared.client.ClientLine.TheVariants as line
use Rattle.mama_event.specs.declared.to_bridge.BridgeNote.TheVariants as b
use Rattle.mama_event.specs.declared.to_timers.TimersNote.TheVariants as t
use Rattle.mama_rules_queue.specs.Queue.{QueuePut, to_bridge, to_timers}
use Rattle.mama_rules_rounds.specs.Client.{steps_from, reads_clock}
use Rattle.mama_plans.specs.declared.names.Names.{Names}
use Rattle.mama_plans.specs.Names.{DoesLine}
use Rattle.mama_seats.specs.Sender.{first_step, later_steps}
use Rattle.mama_seats.specs.Past.{past, is_empty_line}
use Rattle.mama_seats.specs.Stand.{Stand, standing_in, left_after, reads_first, reads_next, BeginsWith, IsStep}

apart : {b : Bool} → b ≡ false → b ≡ true → ⊥
apart untrue holds = cc

itself : (xs : List ℕ) → BeginsWith xs xs
itself xs = ([], append-nil xs)

-- no step is left
pub over_step : (s : Stand) → s.over ≡ true → IsStep s s []
over_step s over = record {
  number = refl;
  queues = refl;
  read = itself s.read;
  puts_are = λ ms h. ap (λ o. first_step (left_after o s.pause (steps_from s.queues s.number (standing_in ms s) s.lines))) over;
  left = λ ms h. ap (λ o. left_after o s.pause (steps_from s.queues s.number (standing_in ms s) s.lines)) over
      ∙ sym (ap (λ o. later_steps (left_after o s.pause (steps_from s.queues s.number (standing_in ms s) s.lines))) over);
  told = refl;
  ends = λ h. h;
}

-- a step of a pause
pub pause_step : (s : Stand) (k : ℕ) → s.over ≡ false → s.pause ≡ suc k → IsStep s (record s { pause = k }) []
pause_step s k over pause = record {
  number = refl;
  queues = refl;
  read = itself s.read;
  puts_are = λ ms h. rw (over, pause) refl;
  left = λ ms h. rw (over, pause) refl;
  told = refl;
  ends = λ h. h;
}

-- the first step of a pause
pub pause_begins : (s : Stand) (k : ℕ) (rest : List ClientLine) → s.over ≡ false → s.pause ≡ 0 → s.lines ≡ line.Pause (suc k) ∷ rest
    → IsStep s (record s { pause = k; lines = rest }) []
pause_begins s k rest over pause lines = record {
  number = refl;
  queues = refl;
  read = itself s.read;
  puts_are = λ ms h. rw (over, pause, lines) refl;
  left = λ ms h. rw (over, pause, lines) refl;
  told = rw lines refl;
  ends = λ h o. absurd (apart over o);
}

-- the last step
pub end_step : (s : Stand) → s.over ≡ false → s.pause ≡ 0 → s.lines ≡ []
    → IsStep s (record s { over = true }) (to_timers t.ClientDone ∷ to_bridge b.ClientDone ∷ [])
end_step s over pause lines = record {
  number = refl;
  queues = refl;
  read = itself s.read;
  puts_are = λ ms h. rw (over, pause, lines) refl;
  left = λ ms h. rw (over, pause, lines) refl;
  told = refl;
  ends = λ h o. lines;
}

-- a line that is no pause and no reading of the clock
pub line_step : (s : Stand) (l : ClientLine) (rest : List ClientLine) (names : Names) (put : QueuePut) → s.over ≡ false → s.pause ≡ 0 → s.lines ≡ l ∷ rest
    → DoesLine s.queues s.number s.names names l put
    → IsStep s (record s { names = names; lines = rest }) (put ∷ [])
line_step s l rest names put over pause lines does = record {
  number = refl;
  queues = refl;
  read = itself s.read;
  puts_are = λ ms h. rw (over, pause, lines, does.step (drop (length s.read) ms)) refl;
  left = λ ms h. rw (over, pause, lines, does.step (drop (length s.read) ms), does.after (drop (length s.read) ms)) refl;
  told = rw (lines, does.silent) refl;
  ends = λ h o. absurd (apart over o);
}

-- a reading of the clock
pub clock_step : (s : Stand) (m : ℕ) (rest : List ClientLine) → s.over ≡ false → s.pause ≡ 0 → s.lines ≡ line.NowClock ∷ rest
    → IsStep s (record s { lines = rest; read = s.read ++ m ∷ [] }) (to_timers (t.Now m) ∷ [])
clock_step s m rest over pause lines = record {
  number = refl;
  queues = refl;
  read = (m ∷ [], refl);
  puts_are = λ ms h. rw (over, pause, lines, ← h.1, append_assoc s.read (m ∷ []) h.0, drop-append_seam s.read (m ∷ h.0)) refl;
  left = λ ms h.
      rw (over, pause, lines, ← h.1, drop-append_seam (s.read ++ m ∷ []) h.0, append_assoc s.read (m ∷ []) h.0, drop-append_seam s.read (m ∷ h.0)) refl;
  told = rw (lines, length-append s.read (m ∷ [])) (omega arith);
  ends = λ h o. absurd (apart over o);
}

-- what is left of a list from a place on
pub next_line : {A : Type 0} → (xs : List A) (n : ℕ) (r x : A) → n < length xs → r ≡ get_or xs n r → r ≡ x → drop n xs ≡ x ∷ drop (n + 1) xs
next_line xs n r x within is same =
    drop-cons xs n r within ∙ ap (λ y. y ∷ drop (suc n) xs) (sym is ∙ same) ∙ ap (λ k. x ∷ drop k xs) (sym (add-one n))

-- THE SAME OF A SEAT THAT STANDS AT A PLACE IN ITS LINES

-- the last words
pub words_end : (s old : Stand) (whole : List ClientLine) (at : ℕ) → s ≡ old → s.over ≡ false → s.pause ≡ 0 → s.lines ≡ drop at whole → length whole ≤ at
    → IsStep old (record s { over = true }) (to_timers t.ClientDone ∷ to_bridge b.ClientDone ∷ [])
words_end s old whole at is over pause own past =
    subst (λ (o : Stand). IsStep o (record s { over = true }) (to_timers t.ClientDone ∷ to_bridge b.ClientDone ∷ [])) is
    (end_step s over pause (own ∙ drop_all at whole past))

-- a pause begins
pub pause_moves : (s old : Stand) (whole : List ClientLine) (at m n : ℕ) (r : ClientLine) → s ≡ old → s.over ≡ false → s.pause ≡ 0
    → s.lines ≡ drop at whole → at < length whole → r ≡ get_or whole at r → r ≡ line.Pause n → suc m ≡ n
    → IsStep old (record s { pause = m; lines = drop (at + 1) whole }) []
pause_moves s old whole at m n r is over pause own within read same counted =
    let lines : s.lines ≡ line.Pause (suc m) ∷ drop (at + 1) whole = own ∙ next_line whole at r (line.Pause (suc m)) within read (same ∙ ap line.Pause (sym counted)) in
    subst (λ (o : Stand). IsStep o (record s { pause = m; lines = drop (at + 1) whole }) []) is
    (pause_begins s m (drop (at + 1) whole) over pause lines)

-- a pause goes on
pub pause_moves_on : (s old : Stand) → s ≡ old → s.over ≡ false → 0 < s.pause → IsStep old (record s { pause = s.pause - 1 }) []
pause_moves_on s old is over pause =
    subst (λ (o : Stand). IsStep o (record s { pause = s.pause - 1 }) []) is (pause_step s (s.pause - 1) over (let e : s.pause ≡ suc (s.pause - 1) = omega arith in e))

-- a line is done
pub line_moves : (s old : Stand) (whole : List ClientLine) (at : ℕ) (r : ClientLine) (names : Names) (put : QueuePut) → s ≡ old → s.over ≡ false → s.pause ≡ 0
    → s.lines ≡ drop at whole → at < length whole → r ≡ get_or whole at r → DoesLine s.queues s.number s.names names r put
    → IsStep old (record s { names = names; lines = drop (at + 1) whole }) (put ∷ [])
line_moves s old whole at r names put is over pause own within read does =
    subst (λ (o : Stand). IsStep o (record s { names = names; lines = drop (at + 1) whole }) (put ∷ [])) is
    (line_step s r (drop (at + 1) whole) names put over pause (own ∙ next_line whole at r r within read refl) does)

-- the clock is read
pub clock_moves : (s old : Stand) (whole : List ClientLine) (at m : ℕ) (r : ClientLine) (read : List ℕ) → s ≡ old → s.over ≡ false → s.pause ≡ 0
    → s.lines ≡ drop at whole → at < length whole → r ≡ get_or whole at r → r ≡ line.NowClock → read ≡ s.read ++ m ∷ []
    → IsStep old (record s { lines = drop (at + 1) whole; read = read }) (to_timers (t.Now m) ∷ [])
clock_moves s old whole at m r read is over pause own within told same grown =
    subst (λ (o : Stand). IsStep o (record s { lines = drop (at + 1) whole; read = read }) (to_timers (t.Now m) ∷ [])) is
    (subst (λ (l : List ℕ). IsStep s (record s { lines = drop (at + 1) whole; read = l }) (to_timers (t.Now m) ∷ [])) (sym grown)
    (clock_step s m (drop (at + 1) whole) over pause (own ∙ next_line whole at r line.NowClock within told same)))

-- WHETHER THE NEXT STEP READS THE CLOCK

pub reads_over : (s old : Stand) → s ≡ old → s.over ≡ true → false ≡ reads_next old
reads_over s old is over = subst (λ (o : Stand). false ≡ reads_next o) is (rw over refl)

reads_paused_by : (s : Stand) (k : ℕ) → s.over ≡ false → s.pause ≡ suc k → false ≡ reads_next s
reads_paused_by s k over pause = rw (over, pause) refl

pub reads_paused : (s old : Stand) → s ≡ old → s.over ≡ false → 0 < s.pause → false ≡ reads_next old
reads_paused s old is over pause =
    subst (λ (o : Stand). false ≡ reads_next o) is (reads_paused_by s (s.pause - 1) over (let e : s.pause ≡ suc (s.pause - 1) = omega arith in e))

-- the first of the lines that take a step is what it does next
reads_so : (s : Stand) (next : List ClientLine) → s.over ≡ false → s.pause ≡ 0 → next ≡ past is_empty_line s.lines → reads_first next ≡ reads_next s
reads_so s next over pause is = ap reads_first is ∙ rw (over, pause) refl

pub reads_at_end : (s old : Stand) (whole : List ClientLine) (at : ℕ) → s ≡ old → s.over ≡ false → s.pause ≤ 0 → drop at whole ≡ past is_empty_line s.lines → length whole ≤ at → false ≡ reads_next old
reads_at_end s old whole at is over pause next end =
    subst (λ (o : Stand). false ≡ reads_next o) is
    (ap reads_first (sym (drop_all at whole end)) ∙ reads_so s (drop at whole) over (let e : s.pause ≡ 0 = omega arith in e) next)

pub reads_at_line : (s old : Stand) (whole : List ClientLine) (at : ℕ) (r : ClientLine) → s ≡ old → s.over ≡ false → s.pause ≤ 0 → drop at whole ≡ past is_empty_line s.lines → at < length whole → r ≡ get_or whole at r
    → reads_clock r ≡ reads_next old
reads_at_line s old whole at r is over pause next within read =
    subst (λ (o : Stand). reads_clock r ≡ reads_next o) is
    (ap reads_first (sym (next_line whole at r r within read refl)) ∙ reads_so s (drop at whole) over (let e : s.pause ≡ 0 = omega arith in e) next)
