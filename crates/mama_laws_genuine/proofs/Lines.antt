-- What a script's clients put carries no message, and its publishers are numbered in order.
use Rattle.std.specs.Prelude.{slice_index_or}
use Rattle.std.specs.List.{AllByRecursion}
use Rattle.std.proofs.Common.{◌≡◌, ℕ, zero, suc, ◌+◌, ◌<◌, List, [], ◌∷◌, length, refl, ap, arith}
use Rattle.mama_msg.specs.Field.{FieldData}
use Rattle.mama_event.specs.declared.market.MarketMsg.{MarketMsg}
use Rattle.mama_script.specs.declared.client.ClientLine.{ClientLine}
use Rattle.mama_script.specs.declared.client.ClientLine.TheVariants as line
use Rattle.mama_script.specs.declared.publisher.PublisherPart.{PublisherPart}
use Rattle.mama_rules_queue.specs.Queue.{QueuePut}
use Rattle.mama_rules_rounds.specs.Client.{Standing, after_line, line_steps, steps_from, at_first}
use Rattle.mama_rules_rounds.specs.Setting.{no_section}
use Rattle.mama_rules_rounds.specs.Sections.{publishers_from, all_client_steps}
use Rattle.mama_laws_genuine.proofs.Elements.{all_append, all_replicated}
use Rattle.mama_laws_genuine.proofs.Carried.{InQueuePut}
use Rattle.mama_laws_genuine.proofs.Timing.{ordered}

pub length-publishers : (n : ℕ) (parts : List PublisherPart) → length (publishers_from n parts) ≡ length parts
length-publishers n [] = refl
length-publishers n (part ∷ parts) = ap suc (length-publishers (suc n) parts)

-- publishers are numbered in order
pub number-publishers : (n : ℕ) (parts : List PublisherPart) (k : ℕ) → k < length (publishers_from n parts)
    → (slice_index_or (publishers_from n parts) k no_section).number ≡ n + k
number-publishers n [] k within = absurd (omega arith)
number-publishers n (part ∷ parts) zero within = omega arith
number-publishers n (part ∷ parts) (suc k) within =
    let later : (slice_index_or (publishers_from (suc n) parts) k no_section).number ≡ suc n + k = number-publishers (suc n) parts k (omega arith) in
    omega arith

-- ---- clients

module _ (G : MarketMsg → Type 0) (R : List FieldData → Type 0) where
  abbrev Such : List (List QueuePut) → Type 0
  Such steps = AllByRecursion (AllByRecursion (InQueuePut G R)) steps

  such_line : (queues c : ℕ) (s : Standing) (l : ClientLine) → Such (line_steps queues c s l)
  such_line queues c s (line.Sub topic kind queue cache recaps faults plan) = ((tt, tt), tt)
  such_line queues c s (line.Timer queue interval plan) = ((tt, tt), tt)
  such_line queues c s (line.Inbox queue faults plan) = ((tt, tt), tt)
  such_line queues c s (line.Order o) = ((ordered G R o, tt), tt)
  such_line queues c s (line.Now m) = ((tt, tt), tt)
  such_line queues c s line.NowClock = ((tt, tt), tt)
  such_line queues c s (line.Pause n) = all_replicated (AllByRecursion (InQueuePut G R)) n [] tt

  such_steps : (queues c : ℕ) (s : Standing) (lines : List ClientLine) → Such (steps_from queues c s lines)
  such_steps queues c s [] = ((tt, (tt, tt)), tt)
  such_steps queues c s (l ∷ lines) =
      all_append (AllByRecursion (InQueuePut G R)) (line_steps queues c s l) (steps_from queues c (after_line s l) lines)
      (such_line queues c s l) (such_steps queues c (after_line s l) lines)

  pub such_clients : (queues c : ℕ) (moments : List (List ℕ)) (clients : List (List ClientLine)) → AllByRecursion Such (all_client_steps queues c moments clients)
  such_clients queues c moments [] = tt
  such_clients queues c moments (lines ∷ clients) =
      (such_steps queues c (at_first (slice_index_or moments c [])) lines, such_clients queues (suc c) moments clients)
