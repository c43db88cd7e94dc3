use Rattle.std.proofs.Common.{◌≡◌, take}
use Rattle.mama_event.specs.Publisher.{publisher_puts_at}
use Rattle.mama_check_order.specs.Numbered.{numbered}
use Rattle.mama_check_puts.specs.Sender.{unsent, IsAt}
use Rattle.mama_check_puts.specs.Puts.{script_of}
use Rattle.mama_check_puts.proofs.publisher.puts_of_publisher.Given as goal

abbrev pub invariant-loop-entry : goal.invariant-loop-entry
invariant-loop-entry l = record {
  at : IsAt (script_of l.number l.base l.lines) (take l.entry l.journal) l.sender.publisher (unsent l.sender);
  puts : l.puts.items ≡ numbered (publisher_puts_at (script_of l.number l.base l.lines)) (take l.entry l.journal);
}
