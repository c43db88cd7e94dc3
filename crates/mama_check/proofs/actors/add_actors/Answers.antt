use Rattle.std.proofs.Common.{ℕ, ◌+◌, refl}
use Rattle.mama_check.proofs.Causes.{added}
use Rattle.mama_check.proofs.actors.add_actors.Goals as goal

pub loop-k-preserved : goal.loop-k-preserved
loop-k-preserved c =
    added (λ (k : ℕ). c.args.first + k) c.loop-k.k c.args.actors.now.items c.loop-k.actors.items c.push.new.self.items (c.args.first + c.loop-k.k) c.loop-k.invariant c.in_ok-push.ensures.items refl
