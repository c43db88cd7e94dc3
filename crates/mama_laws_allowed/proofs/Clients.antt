-- What a client puts: calm events, and then that it is done.
use Rattle.std.specs.Prelude.{slice_index_or, replicate, nat_lt}
use Rattle.std.specs.List.{AllByRecursion, flat_map, list_any}
use Rattle.std.proofs.Common.{◌≡◌, ℕ, zero, suc, ◌+◌, ◌<◌, ◌≤◌, Bool, true, false, List, [], ◌∷◌, ◌++◌, length, refl, sym, ◌∙◌, ap, subst, arith}
use Rattle.std.proofs.lemmas.Bool.{and_from, lt-ltb}
use Rattle.std.proofs.lemmas.Nat.{mod_below}
use Rattle.mama_event.specs.Ports.{queues_of}
use Rattle.mama_event.specs.ToBridge as bridge
use Rattle.mama_event.specs.ToTimers as timers
use Rattle.mama_event.specs.declared.shape.Bounds.{Bounds}
use Rattle.mama_event.specs.declared.ids.ObjectId.TheVariants.{Sub, Timer, Inbox}
use Rattle.mama_event.specs.declared.order.Order.TheVariants as order
use Rattle.mama_event.specs.declared.to_bridge.BridgeNote.{BridgeNote}
use Rattle.mama_event.specs.declared.to_bridge.BridgeNote.TheVariants as b
use Rattle.mama_event.specs.declared.to_timers.TimersNote.{TimersNote}
use Rattle.mama_event.specs.declared.to_timers.TimersNote.TheVariants as t
use Rattle.mama_rules_queue.specs.Queue.{QueuePut}
use Rattle.mama_script.specs.declared.client.ClientLine.{ClientLine}
use Rattle.mama_script.specs.declared.client.ClientLine.TheVariants as line
use Rattle.mama_script.specs.declared.client.QueueWord.{QueueWord}
use Rattle.mama_script.specs.declared.client.QueueWord.TheVariants.{Number, Any}
use Rattle.mama_script.specs.Within.{IsClientWithin, IsStepWithin, IsQueueWithin}
use Rattle.mama_rules_rounds.specs.Client.{Standing, at_first, queue_named, after_line, steps_from, client_steps, bridge_part, timers_part, first_moment}
use Rattle.mama_rules_rounds.specs.Sections.{all_client_steps}
use Rattle.mama_rules_legal.specs.Edges.{all_steps}
use Rattle.mama_laws_allowed.specs.Allowed.{ClientPutsAreLawful, ClientPutsAreItsOwn}
use Rattle.mama_laws_allowed.proofs.Following.{ruled, comes, none_after}

-- a queue that a word names is there
named : (queues : ℕ) (s : Standing) (word : QueueWord) → 1 ≤ queues → IsQueueWithin queues word → queue_named queues s word < queues
named queues s (Number n) some within = within
named queues s Any some within = mod_below s.turns queues some

no_pauses : (n : ℕ) (steps : List (List QueuePut)) → all_steps (replicate n [] ++ steps) ≡ all_steps steps
no_pauses zero steps = refl
no_pauses (suc n) steps = no_pauses n steps

-- the bridge's lane
module _ (bounds : Bounds) (c : ℕ) (some : 1 ≤ bounds.queues) where
  abbrev on_bridge : List BridgeNote → List BridgeNote → Bool
  on_bridge = ruled bridge.is_last (bridge.is_within bounds)

  abbrev left : Standing → List ClientLine → List BridgeNote
  left s lines = flat_map bridge_part (all_steps (steps_from bounds.queues c s lines))

  one : (before : List BridgeNote) (n : BridgeNote) (rest : List BridgeNote) → list_any bridge.is_last before ≡ false → bridge.is_last n ≡ false → bridge.is_within bounds n ≡ true
      → ((front : List BridgeNote) → list_any bridge.is_last front ≡ false → on_bridge front rest ≡ true) → on_bridge before (n ∷ rest) ≡ true
  one before n rest none calm fits more = comes bridge.is_last (bridge.is_within bounds) before n rest none fits (more (before ++ n ∷ []) (none_after bridge.is_last (bridge.is_within bounds) before n none calm))

  bridge_lines : (s : Standing) (lines : List ClientLine) → AllByRecursion (IsStepWithin bounds.topics bounds.queues) lines
      → (before : List BridgeNote) → list_any bridge.is_last before ≡ false → on_bridge before (left s lines) ≡ true
  bridge_lines s [] within before none = comes bridge.is_last (bridge.is_within bounds) before b.ClientDone [] none refl refl
  bridge_lines s (line.Sub topic kind queue cache recaps faults plan ∷ ls) within before none =
      one before
      (b.Join (record { client = c; number = s.subs }) (record { topic = topic; kind = kind; queue = queue_named bounds.queues s queue; cache = cache; recaps = recaps; faults = faults }) (Sub (record { client = c; number = s.subs })))
      (left (after_line s (line.Sub topic kind queue cache recaps faults plan)) ls) none refl
      (and_from (nat_lt topic bounds.topics) (nat_lt (queue_named bounds.queues s queue) bounds.queues) (lt-ltb topic bounds.topics within.0.0)
      (lt-ltb (queue_named bounds.queues s queue) bounds.queues (named bounds.queues s queue some within.0.1)))
      (bridge_lines (after_line s (line.Sub topic kind queue cache recaps faults plan)) ls within.1)
  bridge_lines s (line.Timer queue interval plan ∷ ls) within before none = bridge_lines (after_line s (line.Timer queue interval plan)) ls within.1 before none
  bridge_lines s (line.Inbox queue faults plan ∷ ls) within before none =
      one before
      (b.OpenInbox (record { client = c; number = s.inboxes }) (record { queue = queue_named bounds.queues s queue; faults = faults }) (Inbox (record { client = c; number = s.inboxes })))
      (left (after_line s (line.Inbox queue faults plan)) ls) none refl
      (lt-ltb (queue_named bounds.queues s queue) bounds.queues (named bounds.queues s queue some within.0.0))
      (bridge_lines (after_line s (line.Inbox queue faults plan)) ls within.1)
  bridge_lines s (line.Order (order.Stop sub) ∷ ls) within before none = one before (b.Leave sub) (left s ls) none refl refl (bridge_lines s ls within.1)
  bridge_lines s (line.Order (order.Disarm timer) ∷ ls) within before none = bridge_lines s ls within.1 before none
  bridge_lines s (line.Order (order.Close inbox) ∷ ls) within before none = one before (b.CloseInbox inbox) (left s ls) none refl refl (bridge_lines s ls within.1)
  bridge_lines s (line.Order (order.Ask inbox topic fids) ∷ ls) within before none = one before (b.Ask inbox topic fids) (left s ls) none refl refl (bridge_lines s ls within.1)
  bridge_lines s (line.Now m ∷ ls) within before none = bridge_lines s ls within.1 before none
  bridge_lines s (line.NowClock ∷ ls) within before none = bridge_lines (after_line s line.NowClock) ls within.1 before none
  bridge_lines s (line.Pause n ∷ ls) within before none =
      ap (λ (puts : List QueuePut). on_bridge before (flat_map bridge_part puts)) (no_pauses n (steps_from bounds.queues c s ls)) ∙ bridge_lines s ls within.1 before none

-- the timers' lane
module _ (bounds : Bounds) (c : ℕ) (some : 1 ≤ bounds.queues) where
  abbrev on_timers : List TimersNote → List TimersNote → Bool
  on_timers = ruled timers.is_last (timers.is_within bounds)

  abbrev due : Standing → List ClientLine → List TimersNote
  due s lines = flat_map timers_part (all_steps (steps_from bounds.queues c s lines))

  timed : (before : List TimersNote) (n : TimersNote) (rest : List TimersNote) → list_any timers.is_last before ≡ false → timers.is_last n ≡ false → timers.is_within bounds n ≡ true
      → ((front : List TimersNote) → list_any timers.is_last front ≡ false → on_timers front rest ≡ true) → on_timers before (n ∷ rest) ≡ true
  timed before n rest none calm fits more = comes timers.is_last (timers.is_within bounds) before n rest none fits (more (before ++ n ∷ []) (none_after timers.is_last (timers.is_within bounds) before n none calm))

  timers_lines : (s : Standing) (lines : List ClientLine) → AllByRecursion (IsStepWithin bounds.topics bounds.queues) lines
      → (before : List TimersNote) → list_any timers.is_last before ≡ false → on_timers before (due s lines) ≡ true
  timers_lines s [] within before none = comes timers.is_last (timers.is_within bounds) before t.ClientDone [] none refl refl
  timers_lines s (line.Sub topic kind queue cache recaps faults plan ∷ ls) within before none = timers_lines (after_line s (line.Sub topic kind queue cache recaps faults plan)) ls within.1 before none
  timers_lines s (line.Timer queue interval plan ∷ ls) within before none =
      timed before
      (t.Arm (record { client = c; number = s.timers }) (queue_named bounds.queues s queue) interval (Timer (record { client = c; number = s.timers })))
      (due (after_line s (line.Timer queue interval plan)) ls) none refl
      (lt-ltb (queue_named bounds.queues s queue) bounds.queues (named bounds.queues s queue some within.0.0))
      (timers_lines (after_line s (line.Timer queue interval plan)) ls within.1)
  timers_lines s (line.Inbox queue faults plan ∷ ls) within before none = timers_lines (after_line s (line.Inbox queue faults plan)) ls within.1 before none
  timers_lines s (line.Order (order.Stop sub) ∷ ls) within before none = timers_lines s ls within.1 before none
  timers_lines s (line.Order (order.Disarm timer) ∷ ls) within before none = timed before (t.Disarm timer) (due s ls) none refl refl (timers_lines s ls within.1)
  timers_lines s (line.Order (order.Close inbox) ∷ ls) within before none = timers_lines s ls within.1 before none
  timers_lines s (line.Order (order.Ask inbox topic fids) ∷ ls) within before none = timers_lines s ls within.1 before none
  timers_lines s (line.Now m ∷ ls) within before none = timed before (t.Now m) (due s ls) none refl refl (timers_lines s ls within.1)
  timers_lines s (line.NowClock ∷ ls) within before none =
      timed before (t.Now (first_moment s.moments)) (due (after_line s line.NowClock) ls) none refl refl (timers_lines (after_line s line.NowClock) ls within.1)
  timers_lines s (line.Pause n ∷ ls) within before none =
      ap (λ (puts : List QueuePut). on_timers before (flat_map timers_part puts)) (no_pauses n (steps_from bounds.queues c s ls)) ∙ timers_lines s ls within.1 before none

-- the lines of a client of a script are within its bounds; one that is not there has no lines
lines_within : (topics queues : ℕ) (clients : List (List ClientLine)) → AllByRecursion (IsClientWithin topics queues) clients → (c : ℕ) → AllByRecursion (IsStepWithin topics queues) (slice_index_or clients c [])
lines_within topics queues [] within c = tt
lines_within topics queues (ls ∷ rest) within zero = within.0.steps
lines_within topics queues (ls ∷ rest) within (suc c) = lines_within topics queues rest within.1 c

pub clients_lawful : ClientPutsAreLawful
clients_lawful script c moments shaped within =
    let bounds : Bounds = script.shape.bounds in
    let lines : List ClientLine = slice_index_or script.clients c [] in
    let each : AllByRecursion (IsStepWithin bounds.topics bounds.queues) lines =
    subst (λ (n : ℕ). AllByRecursion (IsStepWithin n bounds.queues) lines) (sym shaped.topics) (lines_within (length script.topics) bounds.queues script.clients within.clients c) in
    record {
      to_bridge = record { each = bridge_lines bounds c within.queues_some (at_first moments) lines each [] refl };
      to_timers = record { each = timers_lines bounds c within.queues_some (at_first moments) lines each [] refl };
    }

-- the steps of the client at a place are those of its own lines and moments
steps_of : (queues n : ℕ) (moments : List (List ℕ)) (clients : List (List ClientLine)) (k c : ℕ) → k < length clients → c ≡ n + k
    → slice_index_or (all_client_steps queues n moments clients) k [] ≡ client_steps queues c (slice_index_or moments c []) (slice_index_or clients k [])
steps_of queues n moments [] k c small is = absurd (omega arith)
steps_of queues n moments (ls ∷ rest) zero c small is =
    let same : n ≡ c = omega (arith, is) in
    ap (λ (m : ℕ). client_steps queues m (slice_index_or moments m []) ls) same
steps_of queues n moments (ls ∷ rest) (suc k) c small is = steps_of queues (suc n) moments rest k c (omega (arith, small)) (omega (arith, is))

pub clients_own : ClientPutsAreItsOwn
clients_own script moments c small = ap all_steps (steps_of (queues_of script.shape) 0 moments script.clients c c small (omega arith))
