use Rattle.std.proofs.Common.{◌≡◌, ℕ, suc, ◌+◌, ◌<◌, add-one, List, [], length, map, get_or, subst, ap, ◌∙◌}
use Rattle.std.specs.Prelude.{Option, None, replicate, slice_index_or}
use Rattle.std.specs.Global.{Vec}
use Rattle.mama_check_order.specs.declared.order.Need.{Need}
use Rattle.mama_script.specs.declared.client.ClientLine.{ClientLine}
use Rattle.mama_check.specs.Causal.{client_needs}
use Rattle.mama_check.proofs.LineLemmas.{any_default}
use Rattle.mama_check.proofs.Causes.{added_to}
use Rattle.mama_check.proofs.edges.add_clients.Goals as goal

pub loop-lines-preserved : goal.loop-lines-preserved
loop-lines-preserved c =
    let g = λ (v : Vec (Option Need)). v.items in
    let i = c.loop-lines.lines-index in
    let x = c.lines-item.result in
    let within : i < length c.args.script.now.clients = subst (λ (cs : List (List ClientLine)). i < length cs) c.clients-clients.ensures c.loop-lines-test.true in
    let lines : c.as_slice.result.now ≡ slice_index_or c.args.script.now.clients i [] =
    c.as_slice.ensures ∙ c.lines-item.is ∙ ap (λ (ls : List (List ClientLine)). get_or ls i x) c.clients-clients.ensures ∙ any_default c.args.script.now.clients i x [] within in
    let many : length c.as_slice.result.now + 1 ≡ suc (length (slice_index_or c.args.script.now.clients i [])) = add-one (length c.as_slice.result.now) ∙ ap (λ (ls : List ClientLine). suc (length ls)) lines in
    let nothing : c.in_ok-no_needs.field-0.items ≡ client_needs c.args.script.now i = c.in_ok-no_needs.ensures ∙ ap (λ (n : ℕ). replicate n None) many in
    added_to g (client_needs c.args.script.now) i (map g c.args.needs.now.items) c.loop-lines.needs.items c.push.new.self.items c.in_ok-no_needs.field-0 c.loop-lines.invariant c.in_ok-push.ensures.items nothing
