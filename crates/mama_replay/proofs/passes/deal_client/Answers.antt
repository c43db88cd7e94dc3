use Rattle.std.proofs.Common.{map, take, get_or, sym, ◌+◌, ◌++◌, [], ◌∷◌}
use Rattle.std.specs.Global.{Vec}
use Rattle.mama_replay.specs.declared.step.Step.{Step}
use Rattle.mama_replay.specs.Dealt.{client_dealt}
use Rattle.mama_replay.proofs.Dealing.{dealt_more, dealt_as, client_more}
use Rattle.mama_replay.proofs.passes.deal_client.Goals as goal

pub loop-rank-preserved : goal.loop-rank-preserved
loop-rank-preserved c =
    let items = λ (pass : Vec Step). pass.items in
    let k = c.loop-rank.rank-index in
    let ranks = c.args.ranks.now in
    let so_far = client_dealt c.args.client (take k ranks) in
    let next = client_dealt c.args.client (get_or ranks k 0 ∷ []) in
    let old = map items c.args.passes.now.items in
    let new = map items c.deal.new.passes.items in
    dealt_as old new (so_far ++ next) (client_dealt c.args.client (take (k + 1) ranks)) (sym (client_more c.args.client ranks k c.loop-rank-test.true))
    (dealt_more old (map items c.loop-rank.passes.items) new so_far next c.loop-rank.invariant c.in_ok-deal.ensures)
