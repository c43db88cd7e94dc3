use Rattle.std.proofs.Common.{◌-◌, ◌+◌, arith}
use Rattle.mama_replay.proofs.Actors.{is_publisher, is_queue, order_count}
use Rattle.mama_replay.proofs.replaying.actor_of.Goals as goal

pub overflow_cast-result-else-number-publishers-3 : goal.overflow_cast-result-else-number-publishers-3
overflow_cast-result-else-number-publishers-3 c = omega (arith, order_count c.args.shape.now)

pub returns-then-number-publishers : goal.returns-then-number-publishers
returns-then-number-publishers c = is_publisher c.args.shape.now c.args.number (c.args.number - c.args.shape.now.clients) (omega arith) (omega arith)

pub returns-else-number-publishers-3 : goal.returns-else-number-publishers-3
returns-else-number-publishers-3 c = is_queue c.args.shape.now c.args.number (c.args.number - (c.args.shape.now.clients + c.len.result) - 2) (omega arith) c.requires.number
