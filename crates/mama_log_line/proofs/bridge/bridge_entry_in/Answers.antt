use Rattle.std.proofs.Common.{◌≡◌, [], ◌∷◌, ◌++◌}
use Rattle.mama_record.specs.LogText.{bridge_entry_line}
use Rattle.mama_log_line.specs.Entering.{MayEnterBridge}
use Rattle.mama_log_line.specs.Journal.{bridge_line_in}
use Rattle.mama_log_line.proofs.LineLaws.{if_found, if_again}
use Rattle.mama_log_line.proofs.BridgeLaws.{bridge_found, bridge_again}
use Rattle.mama_log_line.proofs.bridge.bridge_entry_in.Goals as goal

pub returns-clause-found : goal.returns-clause-found
returns-clause-found c =
    if_found (λ e. MayEnterBridge c.args.names.now e × (c.args.line.now ++ 10 ∷ [] ≡ bridge_entry_line c.args.names.now.shape e)) (bridge_line_in c.args.names.now c.args.line.now) c.without_fault.result (c.without_fault.ensures (bridge_line_in c.args.names.now c.args.line.now) c.read_line.ensures)
    (λ e is. bridge_found c.args.names.now c.args.line.now e is)

pub returns-clause-again : goal.returns-clause-again
returns-clause-again c =
    if_again (λ e. MayEnterBridge c.args.names.now e) (λ e. c.args.line.now ++ 10 ∷ [] ≡ bridge_entry_line c.args.names.now.shape e) (bridge_line_in c.args.names.now c.args.line.now) c.without_fault.result (c.without_fault.ensures (bridge_line_in c.args.names.now c.args.line.now) c.read_line.ensures)
    (λ e may same. bridge_again c.args.names.now c.args.line.now e may same)
