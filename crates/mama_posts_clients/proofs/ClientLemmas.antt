-- How a client's seat keeps what it promises, at a line and when it puts.
use Rattle.std.specs.Prelude.{replicate, if◌then◌else◌}
use Rattle.std.specs.List.{flat_map}
use Rattle.std.proofs.Common.{◌≡◌, ℕ, zero, suc, ◌+◌, ◌==◌, Bool, true, false, List, [], ◌∷◌, ◌++◌, length, drop, Option, Some, refl, sym, ◌∙◌, ap, subst, append-nil, append_assoc, arith}
use Rattle.std.proofs.lemmas.Bool.{both_ways}
use Rattle.std.proofs.lemmas.Bool.Decides.{nat_tests}
use Rattle.std.proofs.lemmas.List.{length-append}
use Rattle.std.proofs.Math.Seq.{drop-append_seam}
use Rattle.mama_event.specs.declared.to_bridge.BridgeNote.{BridgeNote}
use Rattle.mama_event.specs.declared.to_timers.TimersNote.{TimersNote}
use Rattle.mama_event.specs.declared.shape.Bounds.{Bounds}
use Rattle.mama_event.specs.Ports.{queues_of}
use Rattle.mama_lane.specs.Values.{PortValue}
use Rattle.mama_script.specs.declared.client.ClientLine.{ClientLine}
use Rattle.mama_script.specs.declared.client.ClientLine.TheVariants as line
use Rattle.mama_script.specs.Script.{ScriptData}
use Rattle.mama_script.specs.Tree.{IsShaped}
use Rattle.mama_script.specs.Within.{IsWithin}
use Rattle.mama_rules_queue.specs.Queue.{QueuePut}
use Rattle.mama_rules_rounds.specs.Client.{steps_from, clock_lines, first_moment, bridge_part, timers_part}
use Rattle.mama_rules_legal.specs.Edges.{all_steps}
use Rattle.mama_laws_allowed.specs.Allowed.{own_puts, ArePutsLawful, ClientPutsAreLawful}
use Rattle.mama_seats.specs.Moments.{answers, client_reads}
use Rattle.mama_seats.specs.Past.{past, is_empty_line}
use Rattle.mama_seats.specs.Sender.{first_step, later_steps}
use Rattle.mama_seats.specs.Stand.{Stand, Walk, reads_at, reads_first, reads_next, left_after, client_left, standing_in, still_read, BeginsWith, IsStep, IsReading}
use Rattle.mama_posts_clients.specs.Outlets.{OutletsValue, after_puts, HasPut, MayPut}
use Rattle.mama_posts_clients.specs.Client.{ClientPostValue, walk_at_first, lines_of, stand_at, IsClientOf, HasEnded, HasDoneAll, DidLine, MadeStep, finished, did}
use Rattle.mama_posts_clients.proofs.OutletLemmas.{has_put_still, has_put_more, may_put}

itself : (xs : List ℕ) → BeginsWith xs xs
itself xs = ([], append-nil xs)

-- ---- steps

first_and_later : {A : Type 0} (steps : List (List A)) → first_step steps ++ all_steps (later_steps steps) ≡ all_steps steps
first_and_later [] = refl
first_and_later (s ∷ rest) = refl

-- a pause holds nothing
pause_holds : {A : Type 0} (k : ℕ) (steps : List (List A)) → all_steps (replicate k [] ++ steps) ≡ all_steps steps
pause_holds zero steps = refl
pause_holds (suc k) steps = pause_holds k steps

pause_apart : {A : Type 0} (over : Bool) (j k : ℕ) (steps : List (List A)) → all_steps (left_after over j steps) ≡ all_steps (left_after over k steps)
pause_apart true j k steps = refl
pause_apart false j k steps = pause_holds j steps ∙ sym (pause_holds k steps)

-- ---- the seat after a line

module _ (script : ScriptData) (number : ℕ) (old : ClientPostValue) (after : Walk) (k : ℕ) (puts : List QueuePut)
    (seat : IsClientOf script number old) (step : IsStep (stand_at script number old.walk) (stand_at script number after) puts) where
  abbrev rested : Walk
  rested = record after { pause = k }

  begins : (moments : List ℕ) → BeginsWith after.read moments → BeginsWith old.walk.read moments
  begins moments h = (
    step.read.0 ++ h.0,
    sym (append_assoc old.walk.read step.read.0 h.0) ∙ ap (λ (ms : List ℕ). ms ++ h.0) step.read.1 ∙ h.1,
  )

  to_come : (moments : List ℕ) → BeginsWith after.read moments
      → all_steps (client_left moments (stand_at script number old.walk)) ≡ puts ++ all_steps (client_left moments (stand_at script number rested))
  to_come moments h =
      let was = client_left moments (stand_at script number old.walk) in
      let s = stand_at script number after in
      sym (first_and_later was)
      ∙ ap (λ (ps : List QueuePut). ps ++ all_steps (later_steps was)) (step.puts_are moments h)
      ∙ ap (λ (ss : List (List QueuePut)). puts ++ all_steps ss) (sym (step.left moments h))
      ∙ ap (λ (ps : List QueuePut). puts ++ ps) (pause_apart after.over after.pause k (steps_from s.queues s.number (standing_in moments s) s.lines))

  rested_seat : (ports : OutletsValue) (left : List QueuePut) → old.left ≡ [] → ports ≡ old.ports → left ≡ puts
      → IsClientOf script number (record { walk = rested; ports = ports; left = left })
  rested_seat ports left none same lays = record {
    number_is = step.number ∙ seat.number_is;
    queues_are = step.queues ∙ seat.queues_are;
    bridge_bounds = ap (λ (p : OutletsValue). p.to_bridge.bounds) same ∙ seat.bridge_bounds;
    timers_bounds = ap (λ (p : OutletsValue). p.to_timers.bounds) same ∙ seat.timers_bounds;
    put = λ moments h.
        has_put_more old.ports ports old.left left (all_steps (client_left moments (stand_at script number rested))) (own_puts script number moments)
        (subst (λ (xs : List QueuePut). HasPut old.ports (old.left ++ xs) (own_puts script number moments))
        (to_come moments h ∙ ap (λ (ps : List QueuePut). ps ++ all_steps (client_left moments (stand_at script number rested))) (sym lays))
        (seat.put moments (begins moments h)))
        none same;
    reads = step.told ∙ seat.reads;
    ends = step.ends seat.ends;
  }

pub line_seat : (script : ScriptData) (number : ℕ) (old : ClientPostValue) (after walk : Walk) (puts left : List QueuePut) (ports : OutletsValue)
    → IsClientOf script number old → IsStep (stand_at script number old.walk) (stand_at script number after) puts → walk ≡ record after { pause = walk.pause }
    → old.left ≡ [] → ports ≡ old.ports → left ≡ puts → IsClientOf script number (record { walk = walk; ports = ports; left = left })
line_seat script number old after walk puts left ports seat step rests none same lays =
    subst (λ (w : Walk). IsClientOf script number (record { walk = w; ports = ports; left = left })) (sym rests)
    (rested_seat script number old after walk.pause puts seat step ports left none same lays)

-- ---- what a line reads

no_end : (n : ℕ) → (suc n == 0) ≡ false
no_end n = grind (arith, nat_tests)

first_reads : (pause : ℕ) (moments : List ℕ) (lines : List ClientLine)
    → first_step (left_after false pause (client_reads moments lines)) ≡ (if reads_at false pause lines then first_moment moments ∷ [] else [])
first_reads (suc k) moments lines = refl
first_reads zero moments [] = refl
first_reads zero moments (line.Sub topic kind queue cache recaps faults plan ∷ lines) = refl
first_reads zero moments (line.Timer queue interval plan ∷ lines) = refl
first_reads zero moments (line.Inbox queue faults plan ∷ lines) = refl
first_reads zero moments (line.Order o ∷ lines) = refl
first_reads zero moments (line.Now m ∷ lines) = refl
first_reads zero moments (line.NowClock ∷ lines) = refl
first_reads zero moments (line.Pause zero ∷ lines) = first_reads zero moments lines
first_reads zero moments (line.Pause (suc n) ∷ lines) =
    ap (λ (b : Bool). if reads_first (if b then past is_empty_line lines else line.Pause (suc n) ∷ lines) then first_moment moments ∷ [] else []) (sym (no_end n))

count_lines : (moments : List ℕ) (lines : List ClientLine) → length (all_steps (client_reads moments lines)) ≡ clock_lines lines
count_lines moments [] = refl
count_lines moments (line.Sub topic kind queue cache recaps faults plan ∷ lines) = count_lines moments lines
count_lines moments (line.Timer queue interval plan ∷ lines) = count_lines moments lines
count_lines moments (line.Inbox queue faults plan ∷ lines) = count_lines moments lines
count_lines moments (line.Order o ∷ lines) = count_lines moments lines
count_lines moments (line.Now m ∷ lines) = count_lines moments lines
count_lines [] (line.NowClock ∷ lines) = ap suc (count_lines [] lines)
count_lines (m ∷ moments) (line.NowClock ∷ lines) = ap suc (count_lines moments lines)
count_lines moments (line.Pause n ∷ lines) = ap length (pause_holds n (client_reads moments lines)) ∙ count_lines moments lines

count_reads : (over : Bool) (pause : ℕ) (moments : List ℕ) (lines : List ClientLine) → (over ≡ true → lines ≡ [])
    → length (all_steps (left_after over pause (client_reads moments lines))) ≡ clock_lines lines
count_reads true pause moments lines none = sym (ap clock_lines (none refl))
count_reads false pause moments lines none = ap length (pause_holds pause (client_reads moments lines)) ∙ count_lines moments lines

-- what was read more, where what was heard is what the clock answered
heard_one : (b : Bool) (rest heard : List ℕ) (moment : ℕ) → heard ≡ (if b then first_moment rest ∷ [] else []) → length rest ≡ length heard → heard ≡ answers (length heard) (moment ∷ [])
    → rest ≡ (if b then moment ∷ [] else [])
heard_one false [] heard moment is long answered = refl
heard_one false (x ∷ xs) heard moment is long answered = let none = ap length is in absurd (omega (arith, long, none))
heard_one true [] heard moment is long answered = let one = ap length is in absurd (omega (arith, long, one))
heard_one true (x ∷ []) heard moment is long answered = sym is ∙ answered ∙ ap (λ (n : ℕ). answers n (moment ∷ [])) (sym long)
heard_one true (x ∷ y ∷ zs) heard moment is long answered = let one = ap length is in absurd (omega (arith, long, one))

-- a line that reads the clock read this moment, and another read nothing
pub line_reads_it : (old after : Stand) (puts : List QueuePut) (moment : ℕ) (left : Option (List ℕ)) → old.over ≡ false → IsStep old after puts → IsReading (Some (moment ∷ [])) left old after
    → after.read ≡ old.read ++ (if reads_next old then moment ∷ [] else [])
line_reads_it old after puts moment left going step told =
    let rest = step.read.0 in
    let moments = after.read in
    let was = still_read moments old in
    let now = still_read moments after in
    let own : drop (length old.read) moments ≡ rest = ap (drop (length old.read)) (sym step.read.1) ∙ drop-append_seam old.read rest in
    let first : told.heard ≡ (if reads_next old then first_moment rest ∷ [] else []) =
    told.step moments (itself moments)
    ∙ ap (λ (b : Bool). first_step (left_after b old.pause (client_reads (drop (length old.read) moments) old.lines))) going
    ∙ first_reads old.pause (drop (length old.read) moments) old.lines
    ∙ ap (λ (ms : List ℕ). if reads_at false old.pause old.lines then first_moment ms ∷ [] else []) own
    ∙ ap (λ (b : Bool). if reads_at b old.pause old.lines then first_moment rest ∷ [] else []) (sym going) in
    let before : length (all_steps was) ≡ clock_lines old.lines =
    count_reads old.over old.pause (drop (length old.read) moments) old.lines (λ over. absurd (both_ways old.over going over)) in
    let later : length (all_steps now) ≡ clock_lines after.lines =
    count_reads after.over after.pause (drop (length after.read) moments) after.lines (step.ends (λ over. absurd (both_ways old.over going over))) in
    let split : length (told.heard ++ all_steps now) ≡ length (all_steps was) =
    ap length (ap (λ (ms : List ℕ). ms ++ all_steps now) (told.step moments (itself moments))
    ∙ ap (λ (ss : List (List ℕ)). first_step was ++ all_steps ss) (told.later moments (itself moments)) ∙ first_and_later was) in
    let longer : length old.read + length rest ≡ length after.read = sym (length-append old.read rest) ∙ ap length step.read.1 in
    let all : length after.read + clock_lines after.lines ≡ length old.read + clock_lines old.lines = step.told in
    let sum = length-append told.heard (all_steps now) in
    let same : length rest ≡ length told.heard = omega (arith, before, later, split, longer, all, sum) in
    sym step.read.1 ∙ ap (λ (ms : List ℕ). old.read ++ ms) (heard_one (reads_next old) rest told.heard moment first same told.answered.0)

-- the line that was done
pub did_line : (script : ScriptData) (number moment : ℕ) (old after new : Walk) (puts : List QueuePut) (left : Option (List ℕ)) → old.over ≡ false
    → IsStep (stand_at script number old) (stand_at script number after) puts → IsReading (Some (moment ∷ [])) left (stand_at script number old) (stand_at script number after)
    → new ≡ record after { pause = new.pause } → (after.over ≡ false → new.pause ≡ 0) → DidLine script number moment old new
did_line script number moment old after new puts left going step told rests awake = record {
  going = going;
  after = after;
  puts = puts;
  step = step;
  read = ap (λ (w : Walk). w.read) rests ∙ line_reads_it (stand_at script number old) (stand_at script number after) puts moment left going step told;
  rested = rests;
  awake = λ h. awake (sym (ap (λ (w : Walk). w.over) rests) ∙ h);
}

-- ---- putting

pub client_may : (script : ScriptData) (number : ℕ) (post : ClientPostValue) → IsClientOf script number post → IsShaped script → IsWithin script → ClientPutsAreLawful → MayPut post.ports post.left
client_may script number post seat shaped within law =
    let moments = post.walk.read in
    let lawful = law script number moments shaped within in
    may_put post.ports post.left (all_steps (client_left moments (stand_at script number post.walk))) (own_puts script number moments)
    (seat.put moments (itself moments))
    (subst (λ (b : Bounds). ArePutsLawful b (own_puts script number moments)) (sym seat.bridge_bounds) lawful)
    (subst (λ (b : Bounds). ArePutsLawful b (own_puts script number moments)) (sym seat.timers_bounds) lawful)

-- the seat after some of what was left was put
pub put_seat : (script : ScriptData) (number : ℕ) (old : ClientPostValue) (walk : Walk) (ports : OutletsValue) (left : List QueuePut) → IsClientOf script number old → walk ≡ old.walk
    → after_puts ports left ≡ after_puts old.ports old.left → IsClientOf script number (record { walk = walk; ports = ports; left = left })
put_seat script number old walk ports left seat is same =
    subst (λ (w : Walk). IsClientOf script number (record { walk = w; ports = ports; left = left })) (sym is)
    (record {
      number_is = seat.number_is;
      queues_are = seat.queues_are;
      bridge_bounds = ap (λ (p : OutletsValue). p.to_bridge.bounds) same ∙ seat.bridge_bounds;
      timers_bounds = ap (λ (p : OutletsValue). p.to_timers.bounds) same ∙ seat.timers_bounds;
      put = λ moments h.
          has_put_still old.ports ports old.left left same (all_steps (client_left moments (stand_at script number old.walk))) (own_puts script number moments) (seat.put moments h);
      reads = seat.reads;
      ends = seat.ends;
    })

-- ---- the beginning and the end

pub first_seat : (script : ScriptData) (number : ℕ) (to_bridge : PortValue BridgeNote) (to_timers : PortValue TimersNote) → to_bridge.put ≡ [] → to_timers.put ≡ []
    → to_bridge.bounds ≡ script.shape.bounds → to_timers.bounds ≡ script.shape.bounds
    → IsClientOf script number (record { walk = walk_at_first number (queues_of script.shape); ports = record { to_bridge = to_bridge; to_timers = to_timers }; left = [] })
first_seat script number to_bridge to_timers none_bridge none_timers bridge timers = record {
  number_is = refl;
  queues_are = refl;
  bridge_bounds = bridge;
  timers_bounds = timers;
  put = λ moments h. record {
    to_bridge = ap (λ (ns : List BridgeNote). ns ++ flat_map bridge_part (own_puts script number moments)) none_bridge;
    to_timers = ap (λ (ns : List TimersNote). ns ++ flat_map timers_part (own_puts script number moments)) none_timers;
  };
  reads = omega arith;
  ends = λ over. cc;
}

pub done_all : (script : ScriptData) (number : ℕ) (post : ClientPostValue) → IsClientOf script number post → HasEnded post → HasDoneAll script number post.ports.to_bridge.put post.ports.to_timers.put post.walk.read
done_all script number post seat end =
    let moments = post.walk.read in
    let s = stand_at script number post.walk in
    let whole = own_puts script number moments in
    let none : post.left ++ all_steps (client_left moments s) ≡ [] =
    ap (λ (ps : List QueuePut). ps ++ all_steps (client_left moments s)) end.left
    ∙ ap (λ (b : Bool). all_steps (left_after b s.pause (steps_from s.queues s.number (standing_in moments s) s.lines))) end.over in
    let has : HasPut post.ports [] whole = subst (λ (ps : List QueuePut). HasPut post.ports ps whole) none (seat.put moments (itself moments)) in
    let lines : clock_lines s.lines ≡ 0 = ap clock_lines (seat.ends end.over) in
    record {
      bridge = sym (append-nil post.ports.to_bridge.put) ∙ has.to_bridge;
      timers = sym (append-nil post.ports.to_timers.put) ∙ has.to_timers;
      reads = (let h : length post.walk.read + clock_lines s.lines ≡ clock_lines (lines_of script number) = seat.reads in omega (arith, lines, h));
    }

-- ---- a step that was made

-- what is put afterwards changes nothing of it
pub made_after : (script : ScriptData) (number moment : ℕ) (old between new : ClientPostValue) → MadeStep script number moment old between → new.walk ≡ between.walk → MadeStep script number moment old new
made_after script number moment old between new (finished first rest left walk) same = finished first rest left (same ∙ walk)
made_after script number moment old between new (did none line) same =
    did none (subst (λ (w : Walk). DidLine script number moment old.walk w) (sym same) line)

-- what was left is put
pub made_left : (script : ScriptData) (number moment : ℕ) (old new : ClientPostValue) → (old.left ≡ [] → ⊥) → new ≡ old → MadeStep script number moment old new
made_left script number moment old new some same = by_left old.left refl
  where
    by_left : (left : List QueuePut) → old.left ≡ left → MadeStep script number moment old new
    by_left [] none = absurd (some none)
    by_left (first ∷ rest) is = finished first rest is (ap (λ (v : ClientPostValue). v.walk) same)

-- what it gives up is what it has put and read
pub done_as : (script : ScriptData) (number : ℕ) (post : ClientPostValue) (on_bridge : List BridgeNote) (on_timers : List TimersNote) (read : List ℕ) → IsClientOf script number post → HasEnded post
    → on_bridge ≡ post.ports.to_bridge.put → on_timers ≡ post.ports.to_timers.put → read ≡ post.walk.read → HasDoneAll script number on_bridge on_timers read
done_as script number post on_bridge on_timers read seat end bridge timers moments =
    subst (λ (ns : List BridgeNote). HasDoneAll script number ns on_timers read) (sym bridge)
    (subst (λ (ns : List TimersNote). HasDoneAll script number post.ports.to_bridge.put ns read) (sym timers)
    (subst (λ (ms : List ℕ). HasDoneAll script number post.ports.to_bridge.put post.ports.to_timers.put ms) (sym moments) (done_all script number post seat end)))
