use Rattle.std.proofs.Common.{◌≡◌, ◌++◌, take}
use Rattle.std.specs.List.{flat_map}
use Rattle.mama_script.specs.Text.{client_text}
use Rattle.mama_script.proofs.printing.put_clients.Given as goal

abbrev pub invariant-loop-client : goal.invariant-loop-client
invariant-loop-client l = l.out.items ≡ l.fn.out.items ++ flat_map client_text (take l.client-index l.clients)
