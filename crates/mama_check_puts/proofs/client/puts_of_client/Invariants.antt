use Rattle.std.proofs.Common.{◌≡◌, drop}
use Rattle.mama_check_puts.specs.Client.{client_put_to_bridge, client_put_to_timers, to_bridge_in_all, to_timers_in_all}
use Rattle.mama_check_puts.proofs.client.puts_of_client.Given as goal

abbrev pub invariant-loop-line : goal.invariant-loop-line
invariant-loop-line l = record {
  place : l.teller.place ≡ l.line-index;
  bridge : to_bridge_in_all l.teller (drop l.line-index l.lines) ≡ client_put_to_bridge l.queues l.number l.moments l.lines;
  timers : to_timers_in_all l.teller (drop l.line-index l.lines) ≡ client_put_to_timers l.queues l.number l.moments l.lines;
}
