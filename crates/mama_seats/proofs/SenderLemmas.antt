-- How a publisher's seat makes a step.
use Rattle.std.proofs.Common.{◌≡◌, ℕ, zero, suc, ◌+◌, ◌-◌, ◌<◌, true, false, List, [], ◌∷◌, ◌++◌, length, drop, refl, sym, ◌∙◌, ap, append-nil, append_assoc, arith, Some, subst, get_or, ◌≤◌}
use Rattle.std.specs.Prelude.{replicate, slice_get}
use Rattle.std.specs.List.{flat_map}
use Rattle.std.proofs.lemmas.List.{drop_all}
use Rattle.mama_event.specs.declared.to_publisher.PublisherNote.{PublisherNote}
use Rattle.mama_journal.specs.Journal.{count_of, puts_after}
use Rattle.mama_msg.specs.Field.{FieldData}
use Rattle.mama_event.specs.Publisher.{PublisherScript, SendLine, is_send, publisher_puts_at, message_of}
use Rattle.mama_event.specs.Publisher as send
use Rattle.mama_event.specs.declared.market.MsgKind.TheVariants as kind
use Rattle.mama_event.specs.declared.to_bridge.BridgeNote.{BridgeNote}
use Rattle.mama_event.specs.declared.to_bridge.BridgeNote.TheVariants as put
use Rattle.mama_event.specs.declared.publisher_entry.PublisherEntry.{PublisherEntry}
use Rattle.mama_event.specs.declared.publisher_entry.PublisherEntry.TheVariants as entry
use Rattle.mama_script.specs.declared.publisher.PublisherLine.{PublisherLine}
use Rattle.mama_script.specs.declared.publisher.PublisherLine.TheVariants as line
use Rattle.mama_publisher.specs.Laws.{StandsAt, SendingUpdates, SendingRecaps, TakingEvents}
use Rattle.mama_event.specs.ToPublisher.{note_of}
use Rattle.mama_event.specs.declared.to_publisher.ToPublisher.{ToPublisher}
use Rattle.mama_publisher.specs.Standing.{Standing, advanced}
use Rattle.mama_rules_rounds.specs.Sections.{sends_in}
use Rattle.mama_rules_rounds.specs.Round.{publisher_line_steps}
use Rattle.mama_seats.specs.Sender.{Sender, first_step, later_steps, steps_after, IsSenderStep, IsSeated, script_of}
use Rattle.mama_event.specs.declared.market.MarketMsg.{MarketMsg}
use Rattle.mama_seats.proofs.StandLemmas.{next_line}

-- the head of what is left after a drop is the element at that place
pub head_at : {A : Type 0} → (xs : List A) (n : ℕ) (x : A) (rest : List A) → drop n xs ≡ x ∷ rest → slice_get xs n ≡ Some x
head_at [] zero x rest e = cc
head_at [] (suc n) x rest e = cc
head_at (y ∷ ys) zero x rest e = cc
head_at (y ∷ ys) (suc n) x rest e = head_at ys n x rest e

pub tail_at : {A : Type 0} → (xs : List A) (n : ℕ) (x : A) (rest : List A) → drop n xs ≡ x ∷ rest → drop (suc n) xs ≡ rest
tail_at [] zero x rest e = cc
tail_at [] (suc n) x rest e = cc
tail_at (y ∷ ys) zero x rest e = cc
tail_at (y ∷ ys) (suc n) x rest e = tail_at ys n x rest e

pub sends_more : (es : List PublisherEntry) → count_of is_send (es ++ entry.Send ∷ []) ≡ suc (count_of is_send es)
sends_more [] = refl
sends_more (entry.Send ∷ es) = ap suc (sends_more es)
sends_more (entry.Done ∷ es) = sends_more es
sends_more (entry.Took n ∷ es) = sends_more es

pub sends_same : (es : List PublisherEntry) (e : PublisherEntry) → is_send e ≡ false → count_of is_send (es ++ e ∷ []) ≡ count_of is_send es
sends_same [] e h = rw h refl
sends_same (entry.Send ∷ es) e h = ap suc (sends_same es e h)
sends_same (entry.Done ∷ es) e h = sends_same es e h
sends_same (entry.Took n ∷ es) e h = sends_same es e h

-- a seat after an entry that sends nothing of the lines
pub seated_still : (script : PublisherScript) (journal : List PublisherEntry) (p : Standing) (left : List PublisherLine) (e : PublisherEntry)
    → IsSeated script journal p left → is_send e ≡ false → StandsAt script (journal ++ e ∷ []) p → IsSeated script (journal ++ e ∷ []) p left
seated_still script journal p left e seated quiet stands = record {
  stands = stands;
  unsent = ap (λ n. drop n script.lines) (sends_same journal e quiet) ∙ seated.unsent;
}

-- a seat after a line that sends
pub seated_next : (script : PublisherScript) (journal : List PublisherEntry) (p next : Standing) (l : PublisherLine) (rest : List PublisherLine) (x : SendLine)
    → IsSeated script journal p (l ∷ rest) → sends_in l ≡ x ∷ [] → StandsAt script (journal ++ entry.Send ∷ []) next → IsSeated script (journal ++ entry.Send ∷ []) next rest
seated_next script journal p next l rest x seated sends stands =
    let head : drop (count_of is_send journal) script.lines ≡ x ∷ flat_map sends_in rest = seated.unsent ∙ ap (λ s. s ++ flat_map sends_in rest) sends in
    record {
      stands = stands;
      unsent = ap (λ n. drop n script.lines) (sends_more journal) ∙ tail_at script.lines (count_of is_send journal) x (flat_map sends_in rest) head;
    }

-- what the script sends next
pub sends_next : (script : PublisherScript) (journal : List PublisherEntry) (p : Standing) (l : PublisherLine) (rest : List PublisherLine) (x : SendLine)
    → IsSeated script journal p (l ∷ rest) → sends_in l ≡ x ∷ [] → slice_get script.lines (count_of is_send journal) ≡ Some x
sends_next script journal p l rest x seated sends =
    head_at script.lines (count_of is_send journal) x (flat_map sends_in rest) (seated.unsent ∙ ap (λ s. s ++ flat_map sends_in rest) sends)

-- a pause sends nothing
pub seated_past : (script : PublisherScript) (journal : List PublisherEntry) (p : Standing) (n : ℕ) (rest : List PublisherLine)
    → IsSeated script journal p (line.Pause n ∷ rest) → IsSeated script journal p rest
seated_past script journal p n rest seated = record { stands = seated.stands; unsent = seated.unsent }

-- no step is left
pub sender_over : (s : Sender) → s.over ≡ true → IsSenderStep s s []
sender_over s over = record {
  script = refl;
  lane = refl;
  journal = sym (ap (λ o. s.journal ++ first_step (steps_after o s.pause s.lines)) over ∙ append-nil s.journal);
  steps = ap (λ o. steps_after o s.pause s.lines) over ∙ sym (ap (λ o. later_steps (steps_after o s.pause s.lines)) over);
  puts_are = sym (ap (λ o. puts_after (publisher_puts_at s.script) s.journal (first_step (steps_after o s.pause s.lines))) over);
}

-- a step of a pause
pub sender_pauses : (s : Sender) (k : ℕ) → s.over ≡ false → s.pause ≡ suc k → IsSenderStep s (record s { pause = k }) []
sender_pauses s k over pause = record {
  script = refl;
  lane = refl;
  journal = rw (over, pause) (sym (append-nil s.journal));
  steps = rw (over, pause) refl;
  puts_are = rw (over, pause) refl;
}

pub sender_begins_pause : (s : Sender) (k : ℕ) (rest : List PublisherLine) → s.over ≡ false → s.pause ≡ 0 → s.lines ≡ line.Pause (suc k) ∷ rest
    → IsSenderStep s (record s { pause = k; lines = rest }) []
sender_begins_pause s k rest over pause lines = record {
  script = refl;
  lane = refl;
  journal = rw (over, pause, lines) (sym (append-nil s.journal));
  steps = rw (over, pause, lines) (sym (append_assoc (replicate k []) (flat_map publisher_line_steps rest) ((entry.Done ∷ []) ∷ [])));
  puts_are = rw (over, pause, lines) refl;
}

-- a line that sends, where this is what the entry puts
pub sender_sends : (s : Sender) (l : PublisherLine) (rest : List PublisherLine) (event : BridgeNote) → s.over ≡ false → s.pause ≡ 0 → s.lines ≡ l ∷ rest
    → publisher_line_steps l ≡ (entry.Send ∷ []) ∷ [] → publisher_puts_at s.script s.journal entry.Send ≡ event ∷ []
    → IsSenderStep s (record s { journal = s.journal ++ entry.Send ∷ []; lines = rest }) (event ∷ [])
sender_sends s l rest event over pause lines sends puts = record {
  script = refl;
  lane = refl;
  journal = rw (over, pause, lines, sends) refl;
  steps = rw (over, pause, lines, sends) refl;
  puts_are = rw (over, pause, lines, sends, puts) refl;
}

-- the last step
pub sender_ends : (s : Sender) → s.over ≡ false → s.pause ≡ 0 → s.lines ≡ []
    → IsSenderStep s (record s { journal = s.journal ++ entry.Done ∷ []; over = true }) (put.SendsDone ∷ [])
sender_ends s over pause lines = record {
  script = refl;
  lane = refl;
  journal = rw (over, pause, lines) refl;
  steps = rw (over, pause, lines) refl;
  puts_are = rw (over, pause, lines) refl;
}

-- a step, told of the seat by what it is
sender_at : (s old : Sender) (left : List PublisherLine) (after : List PublisherEntry) (puts : List BridgeNote) {event : BridgeNote} → s ≡ old → puts ≡ event ∷ [] → after ≡ s.journal ++ entry.Send ∷ []
    → IsSenderStep s (record s { journal = s.journal ++ entry.Send ∷ []; lines = left }) (event ∷ [])
    → IsSenderStep old (record s { journal = after; lines = left }) puts
sender_at s old left after puts {event} is puts_are more step =
    subst (λ (o : Sender). IsSenderStep o (record s { journal = after; lines = left }) puts) is
    (subst (λ (q : List BridgeNote). IsSenderStep s (record s { journal = after; lines = left }) q) (sym puts_are)
    (subst (λ (j : List PublisherEntry). IsSenderStep s (record s { journal = j; lines = left }) (event ∷ [])) (sym more) step))

-- THE SAME OF A SEAT THAT STANDS AT A PLACE IN ITS LINES

pub update_seats : SendingUpdates → (base : List FieldData) (lines : List PublisherLine) (journal after : List PublisherEntry) (p next : Standing) (at : ℕ) (r : PublisherLine) (body : List FieldData)
    → IsSeated (script_of p.number base lines) journal p (drop at lines) → at < length lines → r ≡ get_or lines at r → r ≡ line.Update body → next ≡ advanced p body → after ≡ journal ++ entry.Send ∷ []
    → IsSeated (script_of next.number base lines) after next (drop (at + 1) lines)
update_seats law base lines journal after p next at r body seated within read same sent more =
    let script : PublisherScript = script_of p.number base lines in
    let here : IsSeated script journal p (line.Update body ∷ drop (at + 1) lines) = subst (IsSeated script journal p) (next_line lines at r (line.Update body) within read same) seated in
    let stands : StandsAt script (journal ++ entry.Send ∷ []) (advanced p body) =
    (law script journal p body seated.stands (sends_next script journal p (line.Update body) (drop (at + 1) lines) (send.Update body) here refl)).stands in
    subst (λ (j : List PublisherEntry). IsSeated (script_of next.number base lines) j next (drop (at + 1) lines)) (sym more)
    (subst (λ (q : Standing). IsSeated (script_of q.number base lines) (journal ++ entry.Send ∷ []) q (drop (at + 1) lines)) (sym sent)
    (seated_next script journal p (advanced p body) (line.Update body) (drop (at + 1) lines) (send.Update body) here refl stands))

pub update_steps : SendingUpdates → (s old : Sender) (base : List FieldData) (lines : List PublisherLine) (p next : Standing) (at : ℕ) (r : PublisherLine) (body : List FieldData) (msg : MarketMsg) (after : List PublisherEntry) (puts : List BridgeNote)
    → s ≡ old → s.script ≡ script_of p.number base lines → s.over ≡ false → s.pause ≤ 0 → s.lines ≡ drop at lines → at < length lines → r ≡ get_or lines at r → r ≡ line.Update body
    → IsSeated s.script s.journal p s.lines → next ≡ advanced p body → msg ≡ message_of p.number kind.Update (p.seq + 1) body → after ≡ s.journal ++ entry.Send ∷ [] → puts ≡ put.Publish msg ∷ []
    → IsSenderStep old (record s { script = script_of next.number base lines; journal = after; lines = drop (at + 1) lines }) puts
update_steps law s old base lines p next at r body msg after puts is whose over pause own within read same seated sent told more puts_are =
    let no_pause : s.pause ≡ 0 = omega arith in
    let left : s.lines ≡ line.Update body ∷ drop (at + 1) lines = own ∙ next_line lines at r (line.Update body) within read same in
    let here : IsSeated s.script s.journal p (line.Update body ∷ drop (at + 1) lines) = subst (IsSeated s.script s.journal p) left seated in
    let sends : publisher_puts_at s.script s.journal entry.Send ≡ put.Publish (message_of p.number kind.Update (p.seq + 1) body) ∷ [] =
    (law s.script s.journal p body seated.stands (sends_next s.script s.journal p (line.Update body) (drop (at + 1) lines) (send.Update body) here refl)).puts in
    let keeps : s.script ≡ script_of next.number base lines = whose ∙ ap (λ (q : Standing). script_of q.number base lines) (sym sent) in
    subst (λ (c : PublisherScript). IsSenderStep old (record s { script = c; journal = after; lines = drop (at + 1) lines }) puts) keeps
    (sender_at s old (drop (at + 1) lines) after puts is (puts_are ∙ ap (λ m. put.Publish m ∷ []) told) more
    (sender_sends s (line.Update body) (drop (at + 1) lines) (put.Publish (message_of p.number kind.Update (p.seq + 1) body)) over no_pause left refl sends))

-- an event was taken
pub took_seats : TakingEvents → (base : List FieldData) (lines left : List PublisherLine) (journal after : List PublisherEntry) (p next : Standing) (event : ToPublisher)
    → IsSeated (script_of p.number base lines) journal p left → next ≡ p → after ≡ journal ++ entry.Took (note_of event) ∷ []
    → IsSeated (script_of next.number base lines) after next left
took_seats law base lines left journal after p next event seated same more =
    let stands : StandsAt (script_of p.number base lines) (journal ++ entry.Took (note_of event) ∷ []) p = (law (script_of p.number base lines) journal p event seated.stands).stands in
    subst (λ (j : List PublisherEntry). IsSeated (script_of next.number base lines) j next left) (sym more)
    (subst (λ (q : Standing). IsSeated (script_of q.number base lines) (journal ++ entry.Took (note_of event) ∷ []) q left) (sym same)
    (seated_still (script_of p.number base lines) journal p left (entry.Took (note_of event)) seated refl stands))

pub recap_seats : SendingRecaps → (script : PublisherScript) (journal after : List PublisherEntry) (p : Standing) (lines : List PublisherLine) (at : ℕ) (r : PublisherLine)
    → IsSeated script journal p (drop at lines) → at < length lines → r ≡ get_or lines at r → r ≡ line.Recap → after ≡ journal ++ entry.Send ∷ []
    → IsSeated script after p (drop (at + 1) lines)
recap_seats law script journal after p lines at r seated within read same more =
    let here : IsSeated script journal p (line.Recap ∷ drop (at + 1) lines) = subst (IsSeated script journal p) (next_line lines at r line.Recap within read same) seated in
    let stands : StandsAt script (journal ++ entry.Send ∷ []) p =
    (law script journal p seated.stands (sends_next script journal p line.Recap (drop (at + 1) lines) send.Recap here refl)).stands in
    subst (λ (j : List PublisherEntry). IsSeated script j p (drop (at + 1) lines)) (sym more)
    (seated_next script journal p p line.Recap (drop (at + 1) lines) send.Recap here refl stands)

pub recap_steps : SendingRecaps → (s old : Sender) (p : Standing) (lines : List PublisherLine) (at : ℕ) (r : PublisherLine) (msg : MarketMsg) (after : List PublisherEntry) (puts : List BridgeNote)
    → s ≡ old → s.over ≡ false → s.pause ≤ 0 → s.lines ≡ drop at lines → at < length lines → r ≡ get_or lines at r → r ≡ line.Recap
    → IsSeated s.script s.journal p s.lines → msg ≡ message_of p.number kind.Recap p.seq p.held → after ≡ s.journal ++ entry.Send ∷ [] → puts ≡ put.Publish msg ∷ []
    → IsSenderStep old (record s { journal = after; lines = drop (at + 1) lines }) puts
recap_steps law s old p lines at r msg after puts is over pause own within read same seated told more puts_are =
    let no_pause : s.pause ≡ 0 = omega arith in
    let left : s.lines ≡ line.Recap ∷ drop (at + 1) lines = own ∙ next_line lines at r line.Recap within read same in
    let here : IsSeated s.script s.journal p (line.Recap ∷ drop (at + 1) lines) = subst (IsSeated s.script s.journal p) left seated in
    let sends : publisher_puts_at s.script s.journal entry.Send ≡ put.Publish (message_of p.number kind.Recap p.seq p.held) ∷ [] =
    (law s.script s.journal p seated.stands (sends_next s.script s.journal p line.Recap (drop (at + 1) lines) send.Recap here refl)).puts in
    sender_at s old (drop (at + 1) lines) after puts is (puts_are ∙ ap (λ m. put.Publish m ∷ []) told) more
    (sender_sends s line.Recap (drop (at + 1) lines) (put.Publish (message_of p.number kind.Recap p.seq p.held)) over no_pause left refl sends)

pub sender_pause_moves : (s old : Sender) (lines : List PublisherLine) (at m n : ℕ) (r : PublisherLine) (after : List PublisherEntry) (puts : List BridgeNote)
    → s ≡ old → s.over ≡ false → s.pause ≤ 0 → s.lines ≡ drop at lines → at < length lines → r ≡ get_or lines at r → r ≡ line.Pause n → suc m ≡ n → after ≡ s.journal → puts ≡ []
    → IsSenderStep old (record s { journal = after; pause = m; lines = drop (at + 1) lines }) puts
sender_pause_moves s old lines at m n r after puts is over pause own within read same counted keeps none =
    let no_pause : s.pause ≡ 0 = omega arith in
    let left : s.lines ≡ line.Pause (suc m) ∷ drop (at + 1) lines = own ∙ next_line lines at r (line.Pause (suc m)) within read (same ∙ ap line.Pause (sym counted)) in
    subst (λ (o : Sender). IsSenderStep o (record s { journal = after; pause = m; lines = drop (at + 1) lines }) puts) is
    (subst (λ (q : List BridgeNote). IsSenderStep s (record s { journal = after; pause = m; lines = drop (at + 1) lines }) q) (sym none)
    (subst (λ (j : List PublisherEntry). IsSenderStep s (record s { journal = j; pause = m; lines = drop (at + 1) lines }) []) (sym keeps)
    (sender_begins_pause s m (drop (at + 1) lines) over no_pause left)))

-- the word that all lines were sent
pub sender_ends_at : (s old : Sender) (lines : List PublisherLine) (at : ℕ) (after : List PublisherEntry) → s ≡ old → s.over ≡ false → s.pause ≡ 0 → s.lines ≡ drop at lines → length lines ≤ at
    → after ≡ s.journal ++ entry.Done ∷ [] → IsSenderStep old (record s { journal = after; over = true }) (put.SendsDone ∷ [])
sender_ends_at s old lines at after is over pause own past more =
    subst (λ (o : Sender). IsSenderStep o (record s { journal = after; over = true }) (put.SendsDone ∷ [])) is
    (subst (λ (j : List PublisherEntry). IsSenderStep s (record s { journal = j; over = true }) (put.SendsDone ∷ [])) (sym more)
    (sender_ends s over pause (own ∙ drop_all at lines past)))

-- a pause goes on
pub sender_pauses_on : (s old : Sender) → s ≡ old → s.over ≡ false → 0 < s.pause → IsSenderStep old (record s { pause = s.pause - 1 }) []
sender_pauses_on s old is over pause =
    subst (λ (o : Sender). IsSenderStep o (record s { pause = s.pause - 1 }) []) is (sender_pauses s (s.pause - 1) over (let e : s.pause ≡ suc (s.pause - 1) = omega arith in e))

-- a seat after a pause
pub pause_seats : (script : PublisherScript) (journal after : List PublisherEntry) (p : Standing) (lines : List PublisherLine) (at n : ℕ) (r : PublisherLine)
    → IsSeated script journal p (drop at lines) → at < length lines → r ≡ get_or lines at r → r ≡ line.Pause n → after ≡ journal
    → IsSeated script after p (drop (at + 1) lines)
pause_seats script journal after p lines at n r seated within read same keeps =
    subst (λ (j : List PublisherEntry). IsSeated script j p (drop (at + 1) lines)) (sym keeps)
    (seated_past script journal p n (drop (at + 1) lines) (subst (IsSeated script journal p) (next_line lines at r (line.Pause n) within read same) seated))

-- the same step with other events on the lane
pub step_with_lane : (old new : Sender) (puts : List BridgeNote) (lane : List PublisherNote) → IsSenderStep old new puts → IsSenderStep (record old { lane = lane }) (record new { lane = lane }) puts
step_with_lane old new puts lane step = record {
  script = step.script;
  lane = refl;
  journal = step.journal;
  steps = step.steps;
  puts_are = step.puts_are;
}
