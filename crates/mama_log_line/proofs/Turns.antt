-- How many words of a client took the next queue in turn.
use Rattle.std.proofs.Common.{◌≡◌, ℕ, ◌+◌, ◌%◌, ◌^◌, ◌<◌, ◌≤◌, arith}
use Rattle.std.proofs.lemmas.Nat.{mod_below}
use Rattle.mama_script.specs.declared.client.QueueWord.{QueueWord}
use Rattle.mama_script.specs.declared.client.QueueWord.TheVariants.{Number, Any}
use Rattle.mama_script.specs.declared.client.ClientLine.{ClientLine}
use Rattle.mama_script.specs.declared.client.ClientLine.TheVariants as line
use Rattle.mama_log_line.specs.Names.{turns_with, turns_after}

pub turn_is_small : (turns queues : ℕ) → 1 ≤ queues → queues < 2 ^ 32 → turns % queues < 2 ^ 32
turn_is_small turns queues some small = let below : turns % queues < queues = mod_below turns queues some in omega (arith, below, small)

word_takes_one : (turns : ℕ) (word : QueueWord) → turns_with turns word ≤ turns + 1
word_takes_one turns (Number q) = omega arith
word_takes_one turns Any = omega arith

pub line_takes_one : (turns : ℕ) (l : ClientLine) → turns_after turns l ≤ turns + 1
line_takes_one turns (line.Sub topic kind queue cache recaps faults plan) = word_takes_one turns queue
line_takes_one turns (line.Timer queue interval plan) = word_takes_one turns queue
line_takes_one turns (line.Inbox queue faults plan) = word_takes_one turns queue
line_takes_one turns _ = omega arith

-- as many as there were lines, at most
pub few_after : (turns after lines : ℕ) (l : ClientLine) → after ≡ turns_after turns l → turns ≤ lines → after ≤ lines + 1
few_after turns after lines l e few = let one = line_takes_one turns l in omega (arith, one, few, e)
