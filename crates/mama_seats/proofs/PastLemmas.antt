-- A seat passes over the lines that take no step.
use Rattle.std.specs.Prelude.{replicate, Option, if◌then◌else◌}
use Rattle.std.specs.List.{flat_map}
use Rattle.std.proofs.Common.{◌≡◌, ◌==◌, ℕ, zero, suc, ◌+◌, ◌<◌, ◌≤◌, Bool, true, false, List, [], ◌∷◌, ◌++◌, length, drop, get_or, refl, ap, sym, ◌∙◌, subst, arith}
use Rattle.std.proofs.lemmas.Bool.Decides.{nat_tests}
use Rattle.std.proofs.lemmas.List.{drop_all}
use Rattle.mama_script.specs.declared.client.ClientLine.{ClientLine}
use Rattle.mama_script.specs.declared.client.ClientLine.TheVariants as line
use Rattle.mama_script.specs.declared.publisher.PublisherLine.{PublisherLine}
use Rattle.mama_script.specs.declared.publisher.PublisherLine.TheVariants as send
use Rattle.mama_event.specs.declared.to_bridge.BridgeNote.{BridgeNote}
use Rattle.mama_event.specs.declared.publisher_entry.PublisherEntry.{PublisherEntry}
use Rattle.mama_event.specs.Publisher.{PublisherScript, publisher_puts_at}
use Rattle.mama_journal.specs.Journal.{puts_after}
use Rattle.mama_msg.specs.Field.{FieldData}
use Rattle.mama_publisher.specs.Standing.{Standing}
use Rattle.mama_rules_queue.specs.Queue.{QueuePut}
use Rattle.mama_rules_rounds.specs.Client as client
use Rattle.mama_rules_rounds.specs.Client.{steps_from, clock_lines}
use Rattle.mama_rules_rounds.specs.Sections.{sends_in}
use Rattle.mama_rules_rounds.specs.Round.{publisher_steps}
use Rattle.mama_seats.specs.Moments.{client_reads}
use Rattle.mama_seats.specs.Past.{past, is_empty_line, is_empty_send}
use Rattle.mama_seats.specs.Sender.{Sender, Progress, sender_in, first_step, later_steps, steps_after, IsSenderStep, IsSeated}
use Rattle.mama_seats.specs.Stand.{Stand, Walk, stand_of, standing_in, left_after, IsStep, IsReading}
use Rattle.mama_seats.proofs.StandLemmas.{next_line}

-- A LIST PAST SOME OF ITS ELEMENTS

past_one : {X : Type 0} (test : X → Bool) (x : X) (xs : List X) (b : Bool) → test x ≡ b → past test (x ∷ xs) ≡ (if b then past test xs else x ∷ xs)
past_one test x xs b is = ap (λ (c : Bool). if c then past test xs else x ∷ xs) is

-- an element more is passed
pub past_more : {X : Type 0} (test : X → Bool) (xs ys : List X) (i : ℕ) (r : X) → i < length xs → r ≡ get_or xs i r → test r ≡ true → past test (drop i xs) ≡ ys → past test (drop (i + 1) xs) ≡ ys
past_more test xs ys i r within is passes so_far =
    sym (ap (past test) (next_line xs i r r within is refl) ∙ past_one test r (drop (i + 1) xs) true passes) ∙ so_far

-- none is passed from here
pub past_here : {X : Type 0} (test : X → Bool) (xs ys : List X) (i : ℕ) (r : X) → i < length xs → r ≡ get_or xs i r → test r ≡ false → past test (drop i xs) ≡ ys → drop i xs ≡ ys
past_here test xs ys i r within is fails so_far =
    let here : drop i xs ≡ r ∷ drop (i + 1) xs = next_line xs i r r within is refl in
    here ∙ sym (ap (past test) here ∙ past_one test r (drop (i + 1) xs) false fails) ∙ so_far

-- all are passed
pub past_all : {X : Type 0} (test : X → Bool) (xs ys : List X) (i : ℕ) → length xs ≤ i → past test (drop i xs) ≡ ys → drop (length xs) xs ≡ ys
past_all test xs ys i end so_far = drop_all (length xs) xs (omega arith) ∙ sym (ap (past test) (drop_all i xs end)) ∙ so_far

-- where it stops, the test fails
head_fails : {X : Type 0} (test : X → Bool) (x : X) (xs ys : List X) → x ∷ xs ≡ past test ys → test x ≡ false
head_fails test x xs [] e = cc
head_fails test x xs (y ∷ ys) e = go (test y) refl (λ rest. head_fails test x xs ys rest)
  where
    same : x ∷ xs ≡ y ∷ ys → test y ≡ false → test x ≡ false
    same eq fails = ap test (let is_head : x ≡ y = cc eq in is_head) ∙ fails

    go : (b : Bool) → test y ≡ b → (x ∷ xs ≡ past test ys → test x ≡ false) → test x ≡ false
    go true is later = later (e ∙ past_one test y ys true is)
    go false is later = same (e ∙ past_one test y ys false is) is

pub test_fails : {X : Type 0} (test : X → Bool) (xs ys : List X) (i : ℕ) (r : X) → i < length xs → r ≡ get_or xs i r → drop i xs ≡ past test ys → test r ≡ false
test_fails test xs ys i r within is at = head_fails test r (drop (i + 1) xs) ys (sym (next_line xs i r r within is refl) ∙ at)

-- A CLIENT

some_is_not_none : (n : ℕ) → (suc n == 0) ≡ false
some_is_not_none n = grind (arith, nat_tests)

steps_past : (queues c : ℕ) (s : client.Standing) (ls : List ClientLine) → steps_from queues c s (past is_empty_line ls) ≡ steps_from queues c s ls
steps_past queues c s [] = refl
steps_past queues c s (line.Pause zero ∷ ls) = steps_past queues c s ls
steps_past queues c s (line.Pause (suc n) ∷ ls) = ap (steps_from queues c s) (past_one is_empty_line (line.Pause (suc n)) ls false (some_is_not_none n))
steps_past queues c s (_ ∷ ls) = refl

reads_past : (moments : List ℕ) (ls : List ClientLine) → client_reads moments (past is_empty_line ls) ≡ client_reads moments ls
reads_past moments [] = refl
reads_past moments (line.Pause zero ∷ ls) = reads_past moments ls
reads_past moments (line.Pause (suc n) ∷ ls) = ap (client_reads moments) (past_one is_empty_line (line.Pause (suc n)) ls false (some_is_not_none n))
reads_past moments (_ ∷ ls) = refl

clocks_past : (ls : List ClientLine) → clock_lines (past is_empty_line ls) ≡ clock_lines ls
clocks_past [] = refl
clocks_past (line.Pause zero ∷ ls) = clocks_past ls
clocks_past (line.Pause (suc n) ∷ ls) = ap clock_lines (past_one is_empty_line (line.Pause (suc n)) ls false (some_is_not_none n))
clocks_past (_ ∷ ls) = refl

-- where a client stands past the lines that take no step
abbrev pub stand_past : Stand → Stand
stand_past s = record s { lines = past is_empty_line s.lines }

pub stands_past : (lines : List ClientLine) (w v : Walk) (r : ℕ) → w ≡ v → drop r lines ≡ past is_empty_line (drop w.line lines) → record (stand_of lines w) { lines = drop r lines } ≡ stand_past (stand_of lines v)
stands_past lines w v r is at =
    ap (λ (ls : List ClientLine). record (stand_of lines w) { lines = ls }) at ∙ ap (λ (x : Walk). stand_past (stand_of lines x)) is

apart : {b : Bool} → b ≡ false → b ≡ true → ⊥
apart untrue holds = cc

pub step_past : (old new : Stand) (puts : List QueuePut) → old.over ≡ false → IsStep (stand_past old) new puts → IsStep old new puts
step_past old new puts over step = record {
  number = step.number;
  queues = step.queues;
  read = step.read;
  puts_are = λ ms h.
      ap (λ (rest : List (List QueuePut)). first_step (left_after old.over old.pause rest)) (sym (steps_past old.queues old.number (standing_in ms old) old.lines)) ∙ step.puts_are ms h;
  left = λ ms h. step.left ms h ∙ ap (λ (rest : List (List QueuePut)). later_steps (left_after old.over old.pause rest)) (steps_past old.queues old.number (standing_in ms old) old.lines);
  told = step.told ∙ ap (λ (n : ℕ). length old.read + n) (clocks_past old.lines);
  ends = λ h. step.ends (λ done. absurd (apart over done));
}

pub reading_past : {told left : Option (List ℕ)} (old new : Stand) → IsReading told left (stand_past old) new → IsReading told left old new
reading_past old new reading = record {
  heard = reading.heard;
  answered = reading.answered;
  step = λ ms h.
      reading.step ms h ∙ ap (λ (rest : List (List ℕ)). first_step (left_after old.over old.pause rest)) (reads_past (drop (length old.read) ms) old.lines);
  later = λ ms h.
      reading.later ms h ∙ ap (λ (rest : List (List ℕ)). later_steps (left_after old.over old.pause rest)) (reads_past (drop (length old.read) ms) old.lines);
}

-- a pause that is not passed takes a step
pub pause_counts : (r : ClientLine) (n : ℕ) → r ≡ line.Pause n → is_empty_line r ≡ false → 0 < n
pause_counts r n is fails = go n (sym (ap is_empty_line is) ∙ fails)
  where
    go : (n : ℕ) → is_empty_line (line.Pause n) ≡ false → 0 < n
    go zero e = cc e
    go (suc n) e = omega arith

-- A PUBLISHER

sender_steps_past : (ls : List PublisherLine) → publisher_steps (past is_empty_send ls) ≡ publisher_steps ls
sender_steps_past [] = refl
sender_steps_past (send.Pause zero ∷ ls) = sender_steps_past ls
sender_steps_past (send.Pause (suc n) ∷ ls) = ap publisher_steps (past_one is_empty_send (send.Pause (suc n)) ls false (some_is_not_none n))
sender_steps_past (_ ∷ ls) = refl

sends_past : (ls : List PublisherLine) → flat_map sends_in (past is_empty_send ls) ≡ flat_map sends_in ls
sends_past [] = refl
sends_past (send.Pause zero ∷ ls) = sends_past ls
sends_past (send.Pause (suc n) ∷ ls) = ap (λ (x : List PublisherLine). flat_map sends_in x) (past_one is_empty_send (send.Pause (suc n)) ls false (some_is_not_none n))
sends_past (_ ∷ ls) = refl

left_past : (over : Bool) (pause : ℕ) (ls : List PublisherLine) → steps_after over pause (past is_empty_send ls) ≡ steps_after over pause ls
left_past true pause ls = refl
left_past false pause ls = ap (λ (rest : List (List PublisherEntry)). replicate pause [] ++ rest) (sender_steps_past ls)

-- where a publisher stands past the lines that take no step
abbrev pub sender_past : Sender → Sender
sender_past s = record s { lines = past is_empty_send s.lines }

pub senders_past : (base : List FieldData) (lines : List PublisherLine) (w v : Progress) (r : ℕ) → w ≡ v → drop r lines ≡ past is_empty_send (drop w.line lines)
    → record (sender_in base lines w) { lines = drop r lines } ≡ sender_past (sender_in base lines v)
senders_past base lines w v r is at =
    ap (λ (ls : List PublisherLine). record (sender_in base lines w) { lines = ls }) at ∙ ap (λ (x : Progress). sender_past (sender_in base lines x)) is

pub sender_step_past : (old new : Sender) (puts : List BridgeNote) → IsSenderStep (sender_past old) new puts → IsSenderStep old new puts
sender_step_past old new puts step =
    let left = left_past old.over old.pause old.lines in
    record {
      script = step.script;
      lane = step.lane;
      journal = step.journal ∙ ap (λ (rest : List (List PublisherEntry)). old.journal ++ first_step rest) left;
      steps = step.steps ∙ ap later_steps left;
      puts_are = step.puts_are ∙ ap (λ (rest : List (List PublisherEntry)). puts_after (publisher_puts_at old.script) old.journal (first_step rest)) left;
    }

pub seated_past_all : (script : PublisherScript) (journal : List PublisherEntry) (p : Standing) (left rest : List PublisherLine) → IsSeated script journal p left → rest ≡ past is_empty_send left
    → IsSeated script journal p rest
seated_past_all script journal p left rest seated at =
    subst (IsSeated script journal p) (sym at) (record { stands = seated.stands; unsent = seated.unsent ∙ sym (sends_past left) })

pub send_pause_counts : (r : PublisherLine) (n : ℕ) → r ≡ send.Pause n → is_empty_send r ≡ false → 0 < n
send_pause_counts r n is fails = go n (sym (ap is_empty_send is) ∙ fails)
  where
    go : (n : ℕ) → is_empty_send (send.Pause n) ≡ false → 0 < n
    go zero e = cc e
    go (suc n) e = omega arith
