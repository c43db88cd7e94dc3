use Rattle.std.proofs.Common.{◌≡◌, List, map, ap, subst, ◌∙◌}
use Rattle.std.specs.Prelude.{Option, IfOk}
use Rattle.std.specs.Global.{Vec}
use Rattle.mama_check_order.specs.declared.order.Need.{Need}
use Rattle.mama_script.specs.declared.client.ClientLine.{ClientLine}
use Rattle.mama_check.specs.Causal.{all_needs}
use Rattle.mama_replay.specs.Needs.{step_needs}
use Rattle.mama_replay.proofs.replaying.all_steps_need.Goals as goal

pub returns : goal.returns
returns c =
    let g = λ (v : Vec (Option Need)). v.items in
    let script = c.args.script.now in
    let entries : map g c.deref.result.now ≡ all_needs script c.args.run.now = ap (λ (vs : List (Vec (Option Need))). map g vs) c.deref.ensures.value ∙ c.in_ok-entries.ensures in
    let same : step_needs c.clients.result.now (map g c.deref.result.now) ≡ step_needs script.clients (all_needs script c.args.run.now) =
    ap (λ (cs : List (List ClientLine)). step_needs cs (map g c.deref.result.now)) c.clients.ensures ∙ ap (step_needs script.clients) entries in
    subst (λ (needs : List (List (Option Need))). IfOk c.needs_of_steps.result (λ all. map g all.items ≡ needs)) same c.needs_of_steps.ensures
