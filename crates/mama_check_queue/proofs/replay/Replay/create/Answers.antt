use Rattle.std.proofs.lemmas.Result.{on_ok_weaker}
use Rattle.mama_plans.specs.Orders.{orders_in}
use Rattle.mama_check_queue.proofs.MadeLemmas.{serves_create}
use Rattle.mama_check_queue.proofs.replay.Replay.create.Goals as goal

pub returns : goal.returns
returns c =
    on_ok_weaker c.call.result (λ makes slot tag.
    serves_create (orders_in c.args.book.now) c.args.entry slot c.args.object.now c.args.make tag c.args.self.now.objects c.make.new.self c.call.new.self.objects c.args.self.now.puts c.call.new.self.puts
    c.in_ok-make.ensures makes)
    c.call.ensures
