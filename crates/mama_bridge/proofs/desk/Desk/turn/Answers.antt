use Rattle.std.specs.List.{flat_map}
use Rattle.std.proofs.Common.{cond, List, [], ◌++◌, ◌∙◌, ap}
use Rattle.mama_bridge.specs.declared.out.BridgeOut.{BridgeOut}
use Rattle.mama_bridge.specs.Links.{end_outs, inbox_end_outs, settle_outs, fin_outs}
use Rattle.mama_bridge.proofs.desk.Desk.turn.Goals as goal

pub returns-clause-out : goal.returns-clause-out
returns-clause-out g c joined rows others live seen =
    c.end_if.ensures.out joined rows others live seen
    ∙ ap (λ (os : List (BridgeOut g.row.L.Denot)). os ++ cond c.args.ends (flat_map end_outs rows ++ flat_map inbox_end_outs others ++ fin_outs c.args.publishers c.args.queues) [])
    (c.settle_if.ensures.out ∙ ap (λ (os : List (BridgeOut g.row.L.Denot)). os ++ cond c.args.settles (settle_outs c.args.publishers) []) c.reserve.ensures.items)
