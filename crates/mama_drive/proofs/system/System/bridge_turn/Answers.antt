use Rattle.std.proofs.Common.{refl, map}
use Rattle.mama_bridge.specs.Outs.{put_note}
use Rattle.mama_plans.specs.Put.{own_tag}
use Rattle.mama_drive.proofs.HeldTurnLemmas.{bridge_turned, all_wait}
use Rattle.mama_drive.proofs.SystemLemmas.{with_bridge}
use Rattle.mama_drive.proofs.system.System.bridge_turn.Goals as goal

pub invariant_of-self : goal.invariant_of-self
invariant_of-self c = with_bridge _ _ _ _ _ _ _ _ _ _ _ _ c.self.invariant _ c.turn.ensures.shape

pub invariant_of-self-2 : goal.invariant_of-self-2
invariant_of-self-2 c = with_bridge _ _ _ _ _ _ _ _ _ _ _ _ c.self.invariant _ c.turn.ensures.shape

pub returns-clause-turn : goal.returns-clause-turn
returns-clause-turn c =
    bridge_turned _ c.args.self.now c.self.inside.bridge c.turn.new.self (map (put_note own_tag) c.in_ok-out.out.items) _ c.self.view_is c.self.invariant.same_bridge refl refl
    c.in_ok-out.ensures.seat c.in_ok-out.ensures.puts (all_wait (map (put_note own_tag)) c.all.result c.in_ok-out.out.items c.all.ensures)
