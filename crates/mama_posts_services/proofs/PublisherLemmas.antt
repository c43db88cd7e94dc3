-- How a publisher's seat keeps what it promises, at an event and at a line.
use Rattle.std.specs.Prelude.{not, replicate}
use Rattle.std.specs.List.{list_any, list_all, flat_map}
use Rattle.std.proofs.Common.{◌≡◌, ◌↔◌, ℕ, zero, suc, Bool, true, false, ◌||◌, List, [], ◌∷◌, ◌++◌, Result, Ok, Err, OnOk, refl, sym, ◌∙◌, ap, subst, append-nil, append_assoc}
use Rattle.std.proofs.lemmas.Bool.{and_parts, and_from, both_ways}
use Rattle.std.proofs.lemmas.List.{map-append}
use Rattle.std.proofs.lemmas.List.Concat.{flat_map-append}
use Rattle.std.proofs.lemmas.List.Folds.{list_any-append}
use Rattle.mama_journal.specs.Journal.{puts_after}
use Rattle.mama_journal.specs.EntryLaws.{puts-push}
use Rattle.mama_journal.specs.Lane.{by_port, from_port}
use Rattle.mama_event.specs.Lawful.{each_fits}
use Rattle.mama_event.specs.LawfulLaws.{each_fits-append}
use Rattle.mama_event.specs.ToPublisher.{is_last}
use Rattle.mama_event.specs.Publisher.{PublisherScript, publisher_puts, publisher_puts_at}
use Rattle.mama_event.specs.declared.to_bridge.BridgeNote.{BridgeNote}
use Rattle.mama_event.specs.declared.to_publisher.PublisherNote.{PublisherNote}
use Rattle.mama_event.specs.declared.to_publisher.PublisherNote.TheVariants.{Want, Ask, Settle, Fin}
use Rattle.mama_event.specs.declared.publisher_entry.PublisherEntry.{PublisherEntry}
use Rattle.mama_event.specs.declared.publisher_entry.PublisherEntry.TheVariants.{Send, Done, Took}
use Rattle.mama_script.specs.declared.publisher.PublisherLine.{PublisherLine}
use Rattle.mama_script.specs.declared.publisher.PublisherLine.TheVariants as line
use Rattle.mama_script.specs.declared.publisher.PublisherPart.{PublisherPart}
use Rattle.mama_rules_rounds.specs.Round.{publisher_steps, publisher_line_steps}
use Rattle.mama_rules_legal.specs.Edges.{all_steps, taken_by, taken_in}
use Rattle.mama_rules_legal.specs.Lines.{is_done, takes_settle}
use Rattle.mama_laws_allowed.specs.Allowed.{comes_in_time, own_by, own_in, StopsInTime}
use Rattle.mama_lane.specs.Values.{PortValue}
use Rattle.mama_ends.specs.Inlet.{InletValue}
use Rattle.mama_seats.specs.Sender.{Progress, IsSeatedAt, IsSenderStep, script_of, sender_of, steps_in, steps_after, first_step, later_steps}
use Rattle.mama_posts_services.specs.Publisher.{PublisherPostValue, IsPublisherOf, HasEnded, MadeStep, finished, took, did, holding}

-- ---- entries that take nothing

abbrev is_own : PublisherEntry → Bool
is_own Send = true
is_own Done = true
is_own (Took note) = false

own_takes : (es : List PublisherEntry) → list_all is_own es ≡ true → taken_by es ≡ []
own_takes [] h = refl
own_takes (Send ∷ es) h = own_takes es h
own_takes (Done ∷ es) h = own_takes es h
own_takes (Took note ∷ es) h = cc

own_is : (es : List PublisherEntry) → list_all is_own es ≡ true → own_by es ≡ es
own_is [] h = refl
own_is (Send ∷ es) h = ap (λ (xs : List PublisherEntry). Send ∷ xs) (own_is es h)
own_is (Done ∷ es) h = ap (λ (xs : List PublisherEntry). Done ∷ xs) (own_is es h)
own_is (Took note ∷ es) h = cc

own_unsettled : (es : List PublisherEntry) → list_all is_own es ≡ true → list_any takes_settle es ≡ false
own_unsettled [] h = refl
own_unsettled (Send ∷ es) h = own_unsettled es h
own_unsettled (Done ∷ es) h = own_unsettled es h
own_unsettled (Took note ∷ es) h = cc

-- a test of the entries and of some more that none of them passes
none_more : (test : PublisherEntry → Bool) (before es : List PublisherEntry) → list_any test es ≡ false → list_any test (before ++ es) ≡ list_any test before
none_more test before es none = list_any-append test before es ∙ ap (λ (b : Bool). list_any test before || b) none ∙ or_false (list_any test before)
  where
    or_false : (b : Bool) → (b || false) ≡ b
    or_false true = refl
    or_false false = refl

own_fits : (before es : List PublisherEntry) → list_all is_own es ≡ true → list_any takes_settle before ≡ false → each_fits comes_in_time before es ≡ true
own_fits before [] h none = refl
own_fits before (Send ∷ es) h none =
    and_from (not (list_any takes_settle before)) (each_fits comes_in_time (before ++ Send ∷ []) es) (ap not none)
    (own_fits (before ++ Send ∷ []) es h (none_more takes_settle before (Send ∷ []) refl ∙ none))
own_fits before (Done ∷ es) h none =
    and_from (not (list_any takes_settle before)) (each_fits comes_in_time (before ++ Done ∷ []) es) (ap not none)
    (own_fits (before ++ Done ∷ []) es h (none_more takes_settle before (Done ∷ []) refl ∙ none))
own_fits before (Took note ∷ es) h none = cc

later : (before : List PublisherEntry) (e : PublisherEntry) (es : List PublisherEntry) → each_fits comes_in_time before (e ∷ es) ≡ true → list_any is_done (before ++ (e ∷ es)) ≡ false
    → (each_fits comes_in_time (before ++ e ∷ []) es ≡ true) × (list_any is_done ((before ++ e ∷ []) ++ es) ≡ false)
later before e es fits none = (
  (and_parts (comes_in_time before e) (each_fits comes_in_time (before ++ e ∷ []) es) fits).1,
  ap (list_any is_done) (append_assoc before (e ∷ []) es) ∙ none,
)

-- no Settle was taken before Done
unsettled : (before es : List PublisherEntry) → each_fits comes_in_time before es ≡ true → list_any is_done (before ++ es) ≡ false → list_any takes_settle es ≡ false
unsettled before [] fits none = refl
unsettled before (Send ∷ es) fits none = let h = later before Send es fits none in unsettled (before ++ Send ∷ []) es h.0 h.1
unsettled before (Done ∷ es) fits none = let h = later before Done es fits none in unsettled (before ++ Done ∷ []) es h.0 h.1
unsettled before (Took (Want sub kind) ∷ es) fits none =
    let h = later before (Took (Want sub kind)) es fits none in unsettled (before ++ Took (Want sub kind) ∷ []) es h.0 h.1
unsettled before (Took (Ask inbox fids) ∷ es) fits none =
    let h = later before (Took (Ask inbox fids)) es fits none in unsettled (before ++ Took (Ask inbox fids) ∷ []) es h.0 h.1
unsettled before (Took Fin ∷ es) fits none = let h = later before (Took Fin) es fits none in unsettled (before ++ Took Fin ∷ []) es h.0 h.1
unsettled before (Took Settle ∷ es) fits none =
    let here = and_parts (comes_in_time before (Took Settle)) (each_fits comes_in_time (before ++ Took Settle ∷ []) es) fits in
    let done : list_any is_done before ≡ true = (and_parts (list_any is_done before) (not (list_any takes_settle before)) here.0).0 in
    let found : list_any is_done (before ++ (Took Settle ∷ es)) ≡ true =
    list_any-append is_done before (Took Settle ∷ es) ∙ ap (λ (b : Bool). b || list_any is_done (Took Settle ∷ es)) done in
    absurd (both_ways (list_any is_done (before ++ (Took Settle ∷ es))) none found)

puts_more : {E P : Type 0} (at : List E → E → List P) (before es more : List E) → puts_after at before (es ++ more) ≡ puts_after at before es ++ puts_after at (before ++ es) more
puts_more {E} {P} at before [] more = ap (λ (xs : List E). puts_after at xs more) (sym (append-nil before))
puts_more {E} {P} at before (e ∷ es) more =
    ap (λ (ps : List P). at before e ++ ps) (puts_more at (before ++ e ∷ []) es more
    ∙ ap (λ (xs : List E). puts_after at (before ++ e ∷ []) es ++ puts_after at xs more) (append_assoc before (e ∷ []) es))
    ∙ sym (append_assoc (at before e) (puts_after at (before ++ e ∷ []) es) (puts_after at (before ++ (e ∷ es)) more))

-- ---- the next step of a publisher

first_own : (pause : ℕ) (lines : List PublisherLine) → list_all is_own (first_step (steps_after false pause lines)) ≡ true
first_own (suc k) lines = refl
first_own zero [] = refl
first_own zero (line.Update body ∷ lines) = refl
first_own zero (line.Recap ∷ lines) = refl
first_own zero (line.Pause zero ∷ lines) = first_own zero lines
first_own zero (line.Pause (suc n) ∷ lines) = refl

no_end : {A : Type 0} (xs : List A) (x : A) → [] ≡ xs ++ x ∷ [] → ⊥
no_end [] x e = cc
no_end (y ∷ ys) x e = cc

-- where a step is left, it is not over
goes_on : (over : Bool) (pause : ℕ) (lines : List PublisherLine) (front : List (List PublisherEntry)) (last : List PublisherEntry)
    → steps_after over pause lines ≡ front ++ last ∷ [] → over ≡ false
goes_on true pause lines front last e = absurd (no_end front last e)
goes_on false pause lines front last e = refl

ends : (over : Bool) (pause : ℕ) (lines : List PublisherLine) → steps_after over pause lines ≡ [] → over ≡ true
ends true pause lines e = refl
ends false pause lines e =
    absurd (no_end (replicate pause [] ++ flat_map publisher_line_steps lines) (Done ∷ [])
    (sym e ∙ sym (append_assoc (replicate pause []) (flat_map publisher_line_steps lines) ((Done ∷ []) ∷ []))))

-- it is over exactly where the step was Done
over_at : (over : Bool) (after : ℕ) (rest : List PublisherLine) (pause : ℕ) (lines : List PublisherLine)
    → steps_after over after rest ≡ later_steps (steps_after false pause lines) → over ≡ list_any is_done (first_step (steps_after false pause lines))
over_at over after rest (suc k) lines e =
    goes_on over after rest (replicate k [] ++ flat_map publisher_line_steps lines) (Done ∷ [])
    (e ∙ sym (append_assoc (replicate k []) (flat_map publisher_line_steps lines) ((Done ∷ []) ∷ [])))
over_at over after rest zero [] e = ends over after rest e
over_at over after rest zero (line.Update body ∷ lines) e = goes_on over after rest (flat_map publisher_line_steps lines) (Done ∷ []) e
over_at over after rest zero (line.Recap ∷ lines) e = goes_on over after rest (flat_map publisher_line_steps lines) (Done ∷ []) e
over_at over after rest zero (line.Pause zero ∷ lines) e = over_at over after rest zero lines e
over_at over after rest zero (line.Pause (suc n) ∷ lines) e =
    goes_on over after rest (replicate n [] ++ flat_map publisher_line_steps lines) (Done ∷ []) e

-- ---- the seat after a line

module _ (part : PublisherPart) (number : ℕ) (old : PublisherPostValue) (progress : Progress) (puts : List BridgeNote)
    (seat : IsPublisherOf part number old) (going : old.progress.over ≡ false) (step : IsSenderStep (sender_of part old.progress) (sender_of part progress) puts) where
  abbrev es : List PublisherEntry
  es = first_step (steps_in (sender_of part old.progress))

  abbrev journal : List PublisherEntry
  journal = old.progress.journal

  es_own : list_all is_own es ≡ true
  es_own =
      subst (λ (b : Bool). list_all is_own (first_step (steps_after b old.progress.pause (sender_of part old.progress).lines)) ≡ true) (sym going)
      (first_own old.progress.pause (sender_of part old.progress).lines)

  pub line_number : progress.publisher.number ≡ number
  line_number = ap (λ (s : PublisherScript). s.number) step.script ∙ seat.number_is

  pub line_taken : taken_by progress.journal ≡ taken_by journal
  line_taken =
      ap taken_by step.journal ∙ flat_map-append taken_in journal es ∙ ap (λ (ns : List PublisherNote). taken_by journal ++ ns) (own_takes es es_own) ∙ append-nil (taken_by journal)

  pub line_puts : publisher_puts (script_of number part.base part.lines) journal ++ puts ≡ publisher_puts (script_of number part.base part.lines) progress.journal
  line_puts =
      let whose : script_of old.progress.publisher.number part.base part.lines ≡ script_of number part.base part.lines = ap (λ (n : ℕ). script_of n part.base part.lines) seat.number_is in
      ap (λ (ps : List BridgeNote). publisher_puts (script_of number part.base part.lines) journal ++ ps)
      (step.puts_are ∙ ap (λ (s : PublisherScript). puts_after (publisher_puts_at s) journal es) whose)
      ∙ sym (puts_more (publisher_puts_at (script_of number part.base part.lines)) [] journal es)
      ∙ ap (publisher_puts (script_of number part.base part.lines)) (sym step.journal)

  pub line_own : own_by progress.journal ++ all_steps (steps_in (sender_of part progress)) ≡ all_steps (publisher_steps part.lines)
  line_own =
      ap (λ (xs : List PublisherEntry). own_by xs ++ all_steps (steps_in (sender_of part progress))) step.journal
      ∙ ap (λ (ss : List (List PublisherEntry)). own_by (journal ++ es) ++ all_steps ss) step.steps
      ∙ ap (λ (xs : List PublisherEntry). xs ++ all_steps (later_steps (steps_in (sender_of part old.progress)))) (flat_map-append own_in journal es)
      ∙ ap (λ (xs : List PublisherEntry). (own_by journal ++ xs) ++ all_steps (later_steps (steps_in (sender_of part old.progress)))) (own_is es es_own)
      ∙ append_assoc (own_by journal) es (all_steps (later_steps (steps_in (sender_of part old.progress))))
      ∙ ap (λ (xs : List PublisherEntry). own_by journal ++ xs) (first_and_later (steps_in (sender_of part old.progress)))
      ∙ seat.own
    where
      first_and_later : (steps : List (List PublisherEntry)) → first_step steps ++ all_steps (later_steps steps) ≡ all_steps steps
      first_and_later [] = refl
      first_and_later (s ∷ rest) = refl

  undone : list_any is_done journal ≡ false
  undone = sym seat.done ∙ going

  pub line_done : progress.over ≡ list_any is_done progress.journal
  line_done =
      over_at progress.over progress.pause (sender_of part progress).lines old.progress.pause (sender_of part old.progress).lines
      (step.steps ∙ ap (λ (b : Bool). later_steps (steps_after b old.progress.pause (sender_of part old.progress).lines)) going)
      ∙ ap (λ (b : Bool). list_any is_done (first_step (steps_after b old.progress.pause (sender_of part old.progress).lines))) (sym going)
      ∙ sym (ap (list_any is_done) step.journal ∙ list_any-append is_done journal es ∙ ap (λ (b : Bool). b || list_any is_done es) undone)

  none_settled : list_any takes_settle journal ≡ false
  none_settled = unsettled [] journal seat.stops.each undone

  pub line_settled : list_any takes_settle progress.journal ≡ list_any takes_settle journal
  line_settled = ap (list_any takes_settle) step.journal ∙ none_more takes_settle journal es (own_unsettled es es_own)

  pub line_stops : StopsInTime progress.journal
  line_stops = record {
    each = ap (each_fits comes_in_time []) step.journal ∙ each_fits-append comes_in_time [] journal es seat.stops.each (own_fits journal es es_own none_settled);
  }

-- the seat after a line: what the line puts is left
pub line_seat : (part : PublisherPart) (number : ℕ) (old : PublisherPostValue) (progress : Progress) (port : PortValue BridgeNote) (inlet : InletValue PublisherNote) (puts left : List BridgeNote)
    → IsPublisherOf part number old → old.progress.over ≡ false → old.left ≡ [] → IsSenderStep (sender_of part old.progress) (sender_of part progress) puts → IsSeatedAt part progress
    → port ≡ old.port → inlet ≡ old.inlet → left ≡ puts → IsPublisherOf part number (record { progress = progress; inlet = inlet; port = port; left = left })
line_seat part number old progress port inlet puts left seat going clear step seated same_port same_inlet lays = record {
  number_is = line_number part number old progress puts seat going step;
  seated = seated;
  taken = ap (λ (i : InletValue PublisherNote). i.taker.taken) same_inlet ∙ seat.taken
      ∙ ap (λ (ns : List PublisherNote). from_port 0 ns ++ old.inlet.kept) (sym (line_taken part number old progress puts seat going step))
      ∙ ap (λ (i : InletValue PublisherNote). from_port 0 (taken_by progress.journal) ++ i.kept) (sym same_inlet);
  put = ap (λ (p : PortValue BridgeNote). p.put ++ left) same_port ∙ ap (λ (ps : List BridgeNote). old.port.put ++ ps) lays
      ∙ ap (λ (ps : List BridgeNote). ps ++ puts) (sym (append-nil old.port.put) ∙ ap (λ (ps : List BridgeNote). old.port.put ++ ps) (sym clear) ∙ seat.put)
      ∙ line_puts part number old progress puts seat going step;
  own = line_own part number old progress puts seat going step;
  done = line_done part number old progress puts seat going step;
  stops = line_stops part number old progress puts seat going step;
}

-- ---- the seat after an event

-- the seat after an event that came by the port there is, and in time: what it puts is left
pub event_seat : (part : PublisherPart) (number : ℕ) (old : PublisherPostValue) (note : PublisherNote) (progress : Progress) (port : PortValue BridgeNote) (inlet : InletValue PublisherNote) (left : List BridgeNote)
    → IsPublisherOf part number (holding old 0 note) → old.left ≡ [] → comes_in_time old.progress.journal (Took note) ≡ true
    → progress ≡ record old.progress { journal = old.progress.journal ++ Took note ∷ [] } → IsSeatedAt part progress
    → port ≡ old.port → inlet ≡ old.inlet → old.inlet.kept ≡ [] → left ≡ publisher_puts_at (script_of number part.base part.lines) old.progress.journal (Took note)
    → IsPublisherOf part number (record { progress = progress; inlet = inlet; port = port; left = left })
event_seat part number old note progress port inlet left seat clear in_time is seated same_port same_inlet none lays =
    let journal = old.progress.journal in
    let more : progress.journal ≡ journal ++ Took note ∷ [] = ap (λ (p : Progress). p.journal) is in
    let script = script_of number part.base part.lines in
    record {
      number_is = ap (λ (p : Progress). p.publisher.number) is ∙ seat.number_is;
      seated = seated;
      taken = ap (λ (i : InletValue PublisherNote). i.taker.taken) same_inlet ∙ seat.taken ∙ sym (map-append (λ (n : PublisherNote). (0, n)) (taken_by journal) (note ∷ []))
          ∙ ap (from_port 0) (sym (flat_map-append taken_in journal (Took note ∷ [])) ∙ ap taken_by (sym more))
          ∙ sym (append-nil (from_port 0 (taken_by progress.journal)))
          ∙ ap (λ (k : List (ℕ × PublisherNote)). from_port 0 (taken_by progress.journal) ++ k) (sym none)
          ∙ ap (λ (i : InletValue PublisherNote). from_port 0 (taken_by progress.journal) ++ i.kept) (sym same_inlet);
      put = ap (λ (p : PortValue BridgeNote). p.put ++ left) same_port ∙ ap (λ (ps : List BridgeNote). old.port.put ++ ps) lays
          ∙ ap (λ (ps : List BridgeNote). ps ++ publisher_puts_at script journal (Took note))
          (sym (append-nil old.port.put) ∙ ap (λ (ps : List BridgeNote). old.port.put ++ ps) (sym clear) ∙ seat.put)
          ∙ sym (puts-push (publisher_puts_at script) journal (Took note)) ∙ ap (publisher_puts script) (sym more);
      own = ap (λ (p : Progress). own_by p.journal ++ all_steps (steps_in (sender_of part p))) is
          ∙ ap (λ (xs : List PublisherEntry). xs ++ all_steps (steps_in (sender_of part old.progress))) (flat_map-append own_in journal (Took note ∷ []) ∙ append-nil (own_by journal))
          ∙ seat.own;
      done = ap (λ (p : Progress). p.over) is ∙ seat.done ∙ sym (ap (list_any is_done) more ∙ none_more is_done journal (Took note ∷ []) refl);
      stops = record {
        each = ap (each_fits comes_in_time []) more ∙ each_fits-append comes_in_time [] journal (Took note ∷ []) seat.stops.each (and_from (comes_in_time journal (Took note)) true in_time refl);
      };
    }

-- ---- the end

came_by : (notes : List PublisherNote) → by_port 0 (from_port 0 notes) ≡ notes
came_by [] = refl
came_by (n ∷ ns) = ap (λ (xs : List PublisherNote). n ∷ xs) (came_by ns)

-- where nothing is kept, what the taker tells of the end is what the journal tells
pub ended_told : (post : PublisherPostValue) → post.inlet.taker.taken ≡ from_port 0 (taken_by post.progress.journal) ++ post.inlet.kept → post.inlet.kept ≡ []
    → list_any is_last (by_port 0 post.inlet.taker.taken) ≡ list_any is_last (taken_by post.progress.journal)
ended_told post taken none =
    let whole : post.inlet.taker.taken ≡ from_port 0 (taken_by post.progress.journal) =
    taken ∙ ap (λ (k : List (ℕ × PublisherNote)). from_port 0 (taken_by post.progress.journal) ++ k) none ∙ append-nil (from_port 0 (taken_by post.progress.journal)) in
    ap (λ (ts : List (ℕ × PublisherNote)). list_any is_last (by_port 0 ts)) whole ∙ ap (list_any is_last) (came_by (taken_by post.progress.journal))

pub tells_end : (post : PublisherPostValue) (told : Bool) → post.left ≡ [] → post.inlet.taker.taken ≡ from_port 0 (taken_by post.progress.journal) ++ post.inlet.kept
    → post.progress.over ≡ true → post.inlet.kept ≡ [] → told ≡ list_any is_last (by_port 0 post.inlet.taker.taken) → (told ≡ true) ↔ HasEnded post
tells_end post told left taken over kept says = (
  (λ yes. record { told = sym (ended_told post taken kept) ∙ sym says ∙ yes; over = over; kept = kept; left = left }),
  (λ h. says ∙ ended_told post taken kept ∙ h.told),
)

-- ---- a step that was made

pub at_ok : {A E P : Type 0} (result : Result A E) (x : A) → result ≡ Ok x → OnOk result P → P
at_ok (Ok y) x is p = p
at_ok (Err e) x is p = absurd (cc is)

-- what is put afterwards changes nothing of it
pub made_after : (part : PublisherPart) (old between new : PublisherPostValue) → MadeStep part old between → new.progress ≡ between.progress → new.inlet ≡ between.inlet → MadeStep part old new
made_after part old between new (finished first rest left progress inlet) same_progress same_inlet = finished first rest left (same_progress ∙ progress) (same_inlet ∙ inlet)
made_after part old between new (took note progress kept) same_progress same_inlet =
    took note (same_progress ∙ progress) (ap (λ (i : InletValue PublisherNote). i.kept) same_inlet ∙ kept)
made_after part old between new (did caught line) same_progress same_inlet =
    did caught (record {
      going = line.going;
      puts = line.puts;
      step = subst (λ (p : Progress). IsSenderStep (sender_of part old.progress) (sender_of part p) line.puts) (sym same_progress) line.step;
      inlet = same_inlet ∙ line.inlet;
    })

-- what was left is put
pub made_left : (part : PublisherPart) (old new : PublisherPostValue) (has : Bool) → ((has ≡ false) ↔ (old.left ≡ [])) → has ≡ true → new ≡ old → MadeStep part old new
made_left part old new has clear some same = by_left old.left refl
  where
    by_left : (left : List BridgeNote) → old.left ≡ left → MadeStep part old new
    by_left [] none = absurd (both_ways has (clear.1 none) some)
    by_left (first ∷ rest) is = finished first rest is (ap (λ (v : PublisherPostValue). v.progress) same) (ap (λ (v : PublisherPostValue). v.inlet) same)

-- an event was taken
pub made_taken : (part : PublisherPart) (old new : PublisherPostValue) (progress : Progress) (note : PublisherNote) → progress ≡ old.progress
    → new.progress ≡ record progress { journal = progress.journal ++ Took note ∷ [] } → new.inlet.kept ≡ [] → MadeStep part old new
made_taken part old new progress note same is served =
    took note (is ∙ ap (λ (p : Progress). record p { journal = p.journal ++ Took note ∷ [] }) same) served

-- where no event came all is as it was
pub still : (view old : PublisherPostValue) (inlet : InletValue PublisherNote) → view ≡ old → inlet ≡ view.inlet → record view { inlet = inlet } ≡ old
still view old inlet is same = ap (λ (i : InletValue PublisherNote). record view { inlet = i }) same ∙ is
