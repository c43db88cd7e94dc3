use Rattle.mama_plans.specs.Orders.{orders_in}
use Rattle.mama_check_queue.proofs.MadeLemmas.{made_none, made_one, made_all}
use Rattle.mama_check_queue.proofs.replay.Replay.call_all.Goals as goal

pub loop-call-init : goal.loop-call-init
loop-call-init c = made_none (orders_in c.args.book.now) c.args.entry c.args.object.now c.args.calls c.args.self.now.objects c.args.self.now.puts

pub loop-call-preserved : goal.loop-call-preserved
loop-call-preserved c =
    let so_far = c.loop-call in
    made_one (orders_in c.args.book.now) c.args.entry c.args.object.now c.args.calls so_far.rest c.take_first.new.self c.in-Some.call
    c.args.self.now.objects so_far.self.objects c.call.new.self.objects c.args.self.now.puts so_far.self.puts c.call.new.self.puts
    so_far.invariant c.in-Some.ensures.taken c.in_ok-call.ensures

pub returns : goal.returns
returns c =
    made_all (orders_in c.args.book.now) c.args.entry c.args.object.now c.args.calls c.loop-call.rest c.args.self.now.objects c.loop-call.self.objects c.args.self.now.puts c.loop-call.self.puts
    c.loop-call.invariant c.in_default.ensures.taken
