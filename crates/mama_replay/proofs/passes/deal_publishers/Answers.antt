use Rattle.std.proofs.Common.{ℕ, ◌≡◌, ◌+◌, ◌++◌, [], List, map, get_or, sym, subst, ◌∙◌}
use Rattle.std.specs.Global.{Vec}
use Rattle.mama_event.specs.declared.publisher_entry.PublisherEntry.{PublisherEntry}
use Rattle.mama_record.specs.RunView.{entries_of}
use Rattle.mama_replay.specs.declared.step.Step.{Step}
use Rattle.mama_replay.specs.Dealt.{Dealt, publisher_dealt, publishers_dealt}
use Rattle.mama_replay.proofs.Dealing.{dealt_more, dealt_as, numbers_more, listed}
use Rattle.mama_replay.proofs.passes.deal_publishers.Goals as goal

pub loop-p-preserved : goal.loop-p-preserved
loop-p-preserved c =
    let items = λ (pass : Vec Step). pass.items in
    let k = c.loop-p.p in
    let first = c.args.first in
    let ranks = map (λ (own : Vec ℕ). own.items) c.args.ranks.now in
    let journals = entries_of c.args.journals.now in
    let next = publisher_dealt k (get_or ranks (first + k) []) (get_or journals k []) in
    let old = map items c.args.passes.now.items in
    let now = map items c.loop-p.passes.items in
    let new = map items c.deal_publisher.new.passes.items in
    let journal : c.as_slice.result.now ≡ get_or journals k [] = c.as_slice.ensures.value ∙ listed c.args.journals.now k c.index-journals-p.result c.loop-p-test.true c.index-journals-p.is in
    let dealt = subst (λ (own : List ℕ). Dealt now new (publisher_dealt k own (get_or journals k []))) c.ranks_in-own.ensures
    (subst (λ (es : List PublisherEntry). Dealt now new (publisher_dealt k c.ranks_in-own.result.now es)) journal c.in_ok-deal_publisher.ensures) in
    dealt_as old new (publishers_dealt ranks first journals k ++ next) (publishers_dealt ranks first journals (k + 1))
    (sym (numbers_more (λ (n : ℕ). publisher_dealt n (get_or ranks (first + n) []) (get_or journals n [])) k))
    (dealt_more old now new (publishers_dealt ranks first journals k) next c.loop-p.invariant dealt)
