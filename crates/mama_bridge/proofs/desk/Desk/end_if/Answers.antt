use Rattle.std.specs.List.{flat_map}
use Rattle.std.proofs.Common.{◌≡◌, Bool, cond, [], ◌++◌, map, sym, subst}
use Rattle.mama_laws_bridge.specs.Table.{kept}
use Rattle.mama_bridge.specs.Links.{inbox_seen, inbox_view, end_outs, inbox_end_outs, fin_outs}
use Rattle.mama_bridge.specs.Placed.{present}
use Rattle.mama_bridge.specs.Held.{KeepsHeld}
use Rattle.mama_bridge.specs.Live.{IsLive}
use Rattle.mama_bridge.proofs.desk.Desk.end_if.Goals as goal

pub returns-then-ends-clause-subs : goal.returns-then-ends-clause-subs
returns-then-ends-clause-subs g c joined rows live =
    subst (λ (b : Bool). IsLive joined (kept b rows) c.take_all.new.self) (sym c.if-ends.true) (c.take_all.ensures.empty joined rows live)

pub returns-then-ends-clause-out : goal.returns-then-ends-clause-out
returns-then-ends-clause-out g c joined rows others live seen =
    let still : map inbox_seen (present c.take_all-inboxes.result.items) ≡ map inbox_view others = cc in
    subst (λ (b : Bool). c.end_all.new.out.items ≡ c.args.out.now.items ++ cond b (flat_map end_outs rows ++ flat_map inbox_end_outs others ++ fin_outs c.args.publishers c.args.queues) []) (sym c.if-ends.true)
    (c.end_all.ensures rows others (c.take_all.ensures.seen joined rows live) still)

pub returns-then-ends-clause-slots : goal.returns-then-ends-clause-slots
returns-then-ends-clause-slots g c = subst (λ (b : Bool). KeepsHeld b c.args.self.now.slots c.new.result) (sym c.if-ends.true) c.new.ensures
