-- How a client's seat reads its clock in a step.
use Rattle.std.proofs.Common.{◌≡◌, ℕ, zero, suc, ◌+◌, ◌-◌, ◌<◌, ◌≤◌, true, false, List, [], ◌∷◌, ◌++◌, length, drop, refl, sym, ◌∙◌, ap, append_assoc, arith, subst, get_or}
use Rattle.std.specs.Prelude.{Option, Some, None, IfSome, slice_index}
use Rattle.std.proofs.Math.Seq.{drop-append_seam}
use Rattle.std.proofs.lemmas.List.{drop_all}
use Rattle.mama_edge.specs.Told.{after_first}
use Rattle.mama_script.specs.declared.client.ClientLine.{ClientLine}
use Rattle.mama_script.specs.declared.client.ClientLine.TheVariants as line
use Rattle.mama_rules_queue.specs.Queue.{QueuePut}
use Rattle.mama_plans.specs.declared.names.Names.{Names}
use Rattle.mama_plans.specs.Names.{DoesLine}
use Rattle.mama_seats.specs.Moments.{Answered, line_reads, after_reading}
use Rattle.mama_seats.specs.Stand.{Stand, IsReading}
use Rattle.mama_seats.proofs.StandLemmas.{next_line}

answered_none : (o : Option (List ℕ)) → Answered o o []
answered_none None = tt
answered_none (Some told) = (refl, refl)

-- one call of the clock
pub answered_once : (o n : Option (List ℕ)) (m : ℕ) → IfSome o (λ told. m ≡ slice_index told 0) → IfSome o (λ told. n ≡ Some (after_first told)) → Answered o n (m ∷ [])
answered_once None n m first rest = tt
answered_once (Some told) n m first rest = (ap (λ x. x ∷ []) first, rest)

-- a step of a pause
pause_reads : (o : Option (List ℕ)) (s : Stand) (k : ℕ) → s.over ≡ false → s.pause ≡ suc k → IsReading o o s (record s { pause = k })
pause_reads o s k over pause = record {
  heard = [];
  answered = answered_none o;
  step = λ ms h. rw (over, pause) refl;
  later = λ ms h. rw (over, pause) refl;
}

-- the first step of a pause
pause_begins_reads : (o : Option (List ℕ)) (s : Stand) (k : ℕ) (rest : List ClientLine) → s.over ≡ false → s.pause ≡ 0 → s.lines ≡ line.Pause (suc k) ∷ rest
    → IsReading o o s (record s { pause = k; lines = rest })
pause_begins_reads o s k rest over pause lines = record {
  heard = [];
  answered = answered_none o;
  step = λ ms h. rw (over, pause, lines) refl;
  later = λ ms h. rw (over, pause, lines) refl;
}

-- a line that takes one step and reads no clock
silent_line : (queues number : ℕ) (old new : Names) (l : ClientLine) (put : QueuePut) → DoesLine queues number old new l put → (ms : List ℕ) → line_reads ms l ≡ [] ∷ []
silent_line queues number old new line.NowClock put does ms = let wrong : true ≡ false = does.silent in cc
silent_line queues number old new (line.Pause zero) put does ms = let wrong = does.step ms in cc
silent_line queues number old new (line.Pause (suc n)) put does ms = let wrong = does.step ms in cc
silent_line queues number old new _ put does ms = refl

silent_after : (queues number : ℕ) (old new : Names) (l : ClientLine) (put : QueuePut) → DoesLine queues number old new l put → (ms : List ℕ) → after_reading ms l ≡ ms
silent_after queues number old new line.NowClock put does ms = let wrong : true ≡ false = does.silent in cc
silent_after queues number old new _ put does ms = refl

line_reads_none : (o : Option (List ℕ)) (s : Stand) (l : ClientLine) (rest : List ClientLine) (names : Names) (put : QueuePut) → s.over ≡ false → s.pause ≡ 0 → s.lines ≡ l ∷ rest
    → DoesLine s.queues s.number s.names names l put
    → IsReading o o s (record s { names = names; lines = rest })
line_reads_none o s l rest names put over pause lines does =
    let silent : (ms : List ℕ) → line_reads ms l ≡ [] ∷ [] = silent_line s.queues s.number s.names names l put does in
    let after : (ms : List ℕ) → after_reading ms l ≡ ms = silent_after s.queues s.number s.names names l put does in
    record {
      heard = [];
      answered = answered_none o;
      step = λ ms h. rw (over, pause, lines, silent (drop (length s.read) ms)) refl;
      later = λ ms h. rw (over, pause, lines, silent (drop (length s.read) ms), after (drop (length s.read) ms)) refl;
    }

-- a reading of the clock
clock_reads : (o n : Option (List ℕ)) (s : Stand) (m : ℕ) (rest : List ClientLine) → s.over ≡ false → s.pause ≡ 0 → s.lines ≡ line.NowClock ∷ rest → Answered o n (m ∷ [])
    → IsReading o n s (record s { lines = rest; read = s.read ++ m ∷ [] })
clock_reads o n s m rest over pause lines answered = record {
  heard = m ∷ [];
  answered = answered;
  step = λ ms h. rw (over, pause, lines, ← h.1, append_assoc s.read (m ∷ []) h.0, drop-append_seam s.read (m ∷ h.0)) refl;
  later = λ ms h.
      rw (over, pause, lines, ← h.1, drop-append_seam (s.read ++ m ∷ []) h.0, append_assoc s.read (m ∷ []) h.0, drop-append_seam s.read (m ∷ h.0)) refl;
}

-- one that is over reads nothing
pub over_reads : (o : Option (List ℕ)) (s : Stand) → s.over ≡ true → IsReading o o s s
over_reads o s over = record {
  heard = [];
  answered = answered_none o;
  step = λ ms h. rw over refl;
  later = λ ms h. rw over refl;
}

-- the last words read nothing
words_read_nothing : (o : Option (List ℕ)) (s : Stand) → s.over ≡ false → s.pause ≡ 0 → s.lines ≡ [] → IsReading o o s (record s { over = true })
words_read_nothing o s over pause lines = record {
  heard = [];
  answered = answered_none o;
  step = λ ms h. rw (over, pause, lines) refl;
  later = λ ms h. rw (over, pause, lines) refl;
}

-- THE SAME OF A SEAT THAT STANDS AT A PLACE IN ITS LINES

pub words_read : (o : Option (List ℕ)) (s old : Stand) (whole : List ClientLine) (at : ℕ) → s ≡ old → s.over ≡ false → s.pause ≡ 0 → s.lines ≡ drop at whole → length whole ≤ at
    → IsReading o o old (record s { over = true })
words_read o s old whole at is over pause own past =
    subst (λ (x : Stand). IsReading o o x (record s { over = true })) is (words_read_nothing o s over pause (own ∙ drop_all at whole past))

-- a pause goes on
pub pause_reads_on : (o : Option (List ℕ)) (s old : Stand) → s ≡ old → s.over ≡ false → 0 < s.pause → IsReading o o old (record s { pause = s.pause - 1 })
pause_reads_on o s old is over pause =
    subst (λ (x : Stand). IsReading o o x (record s { pause = s.pause - 1 })) is (pause_reads o s (s.pause - 1) over (let e : s.pause ≡ suc (s.pause - 1) = omega arith in e))

-- a pause begins
pub pause_reads_at : (o : Option (List ℕ)) (s old : Stand) (whole : List ClientLine) (at m n : ℕ) (r : ClientLine) → s ≡ old → s.over ≡ false → s.pause ≡ 0
    → s.lines ≡ drop at whole → at < length whole → r ≡ get_or whole at r → r ≡ line.Pause n → suc m ≡ n
    → IsReading o o old (record s { pause = m; lines = drop (at + 1) whole })
pause_reads_at o s old whole at m n r is over pause own within read same counted =
    let lines : s.lines ≡ line.Pause (suc m) ∷ drop (at + 1) whole = own ∙ next_line whole at r (line.Pause (suc m)) within read (same ∙ ap line.Pause (sym counted)) in
    subst (λ (x : Stand). IsReading o o x (record s { pause = m; lines = drop (at + 1) whole })) is
    (pause_begins_reads o s m (drop (at + 1) whole) over pause lines)

-- a line is done
pub line_reads_at : (o : Option (List ℕ)) (s old : Stand) (whole : List ClientLine) (at : ℕ) (r : ClientLine) (names : Names) (put : QueuePut) → s ≡ old → s.over ≡ false → s.pause ≡ 0
    → s.lines ≡ drop at whole → at < length whole → r ≡ get_or whole at r → DoesLine s.queues s.number s.names names r put
    → IsReading o o old (record s { names = names; lines = drop (at + 1) whole })
line_reads_at o s old whole at r names put is over pause own within read does =
    subst (λ (x : Stand). IsReading o o x (record s { names = names; lines = drop (at + 1) whole })) is
    (line_reads_none o s r (drop (at + 1) whole) names put over pause (own ∙ next_line whole at r r within read refl) does)

-- the clock is read
pub clock_reads_at : (o n : Option (List ℕ)) (s old : Stand) (whole : List ClientLine) (at m : ℕ) (r : ClientLine) (read : List ℕ) → s ≡ old → s.over ≡ false → s.pause ≡ 0
    → s.lines ≡ drop at whole → at < length whole → r ≡ get_or whole at r → r ≡ line.NowClock → read ≡ s.read ++ m ∷ [] → Answered o n (m ∷ [])
    → IsReading o n old (record s { lines = drop (at + 1) whole; read = read })
clock_reads_at o n s old whole at m r read is over pause own within told same grown answered =
    subst (λ (x : Stand). IsReading o n x (record s { lines = drop (at + 1) whole; read = read })) is
    (subst (λ (l : List ℕ). IsReading o n s (record s { lines = drop (at + 1) whole; read = l })) (sym grown)
    (clock_reads o n s m (drop (at + 1) whole) over pause (own ∙ next_line whole at r line.NowClock within told same) answered))
