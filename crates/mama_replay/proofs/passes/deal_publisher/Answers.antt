use Rattle.std.proofs.Common.{◌+◌, ◌++◌, map, take, get_or, sym, subst}
use Rattle.std.specs.Prelude.{Option, slice_get}
use Rattle.std.specs.Global.{Vec}
use Rattle.mama_event.specs.declared.publisher_entry.PublisherEntry.{PublisherEntry}
use Rattle.mama_replay.specs.declared.step.Step.{Step}
use Rattle.mama_replay.specs.Dealt.{Dealt, publisher_step, publisher_dealt}
use Rattle.mama_replay.proofs.Dealing.{dealt_more, dealt_as, publisher_more}
use Rattle.mama_replay.proofs.passes.deal_publisher.Goals as goal

pub loop-k-preserved : goal.loop-k-preserved
loop-k-preserved c =
    let items = λ (pass : Vec Step). pass.items in
    let k = c.loop-k.k in
    let ranks = c.args.ranks.now in
    let journal = c.args.journal.now in
    let rank = get_or ranks k 0 in
    let so_far = publisher_dealt c.args.publisher (take k ranks) journal in
    let next = publisher_step c.args.publisher rank (slice_get journal k) in
    let old = map items c.args.passes.now.items in
    let now = map items c.loop-k.passes.items in
    let new = map items c.deal_entry.new.passes.items in
    let dealt = subst (λ (e : Option PublisherEntry). Dealt now new (publisher_step c.args.publisher rank e)) c.entry_at.ensures c.in_ok-deal_entry.ensures in
    dealt_as old new (so_far ++ next) (publisher_dealt c.args.publisher (take (k + 1) ranks) journal) (sym (publisher_more c.args.publisher ranks journal k c.loop-k-test.true))
    (dealt_more old now new so_far next c.loop-k.invariant dealt)
