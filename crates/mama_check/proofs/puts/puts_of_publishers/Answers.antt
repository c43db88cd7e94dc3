use Rattle.std.proofs.Common.{◌≡◌, ◌<◌, ℕ, List, [], length, ap, sym, subst, ◌∙◌, arith}
use Rattle.std.specs.Prelude.{slice_index_or}
use Rattle.std.specs.Global.{Vec}
use Rattle.mama_event.specs.declared.to_bridge.BridgeNote.{BridgeNote}
use Rattle.mama_event.specs.declared.publisher_entry.PublisherEntry.{PublisherEntry}
use Rattle.mama_event.specs.Publisher.{PublisherScript, publisher_puts_at}
use Rattle.mama_check_order.specs.Numbered.{numbered}
use Rattle.mama_script.specs.declared.publisher.PublisherPart.{PublisherPart}
use Rattle.mama_rules_rounds.specs.Setting.{no_section}
use Rattle.mama_rules_rounds.specs.Sections.{publishers_from}
use Rattle.mama_check_puts.specs.Puts.{script_of}
use Rattle.mama_check.specs.Puts.{publisher_to_bridge}
use Rattle.mama_check.proofs.LineLemmas.{items_at}
use Rattle.mama_check.proofs.PutLists.{lists_none, lists_push, lists_all, script_at}
use Rattle.mama_check.proofs.puts.puts_of_publishers.Goals as goal

pub loop-p-init : goal.loop-p-init
loop-p-init c = lists_none (λ (v : Vec (ℕ × BridgeNote)). v.items) c.new-all.result.items (publisher_to_bridge c.args.script.now c.args.run.now) c.new-all.ensures.items

pub number_at-number-requires : goal.number_at-number-requires
number_at-number-requires c =
    let within : c.loop-p.p < length c.args.script.now.publishers = subst (λ (ps : List PublisherPart). c.loop-p.p < length ps) c.publishers-publishers.ensures c.loop-p-test.true in
    omega (arith, within, c.shape-shape.ensures.within.publishers_few)

pub loop-p-preserved : goal.loop-p-preserved
loop-p-preserved c =
    let n = c.loop-p.p in
    let x = c.index-publishers-p.result in
    let within : n < length c.args.script.now.publishers = subst (λ (ps : List PublisherPart). n < length ps) c.publishers-publishers.ensures c.loop-p-test.true in
    let has : n < length c.args.run.now.publishers = subst (λ (m : ℕ). n < m) (sym c.requires) within in
    let section : script_of c.number_at-number.result x.base x.lines ≡ slice_index_or (publishers_from 0 c.args.script.now.publishers) n no_section =
    script_at c.publishers-publishers.result.now c.args.script.now.publishers c.number_at-number.result n x c.number_at-number.ensures c.publishers-publishers.ensures within c.index-publishers-p.is in
    let journal : c.deref.result.now ≡ slice_index_or c.args.run.now.publishers n [] =
    c.deref.ensures.value ∙ items_at c.publishers-journals.result.now c.args.run.now.publishers n c.index-journals-p.result c.publishers-journals.ensures has c.index-journals-p.is in
    lists_push (λ (v : Vec (ℕ × BridgeNote)). v.items) c.loop-p.all.items c.push.new.self.items c.in_ok-puts_of_publisher.field-0 n (publisher_to_bridge c.args.script.now c.args.run.now)
    c.loop-p.invariant c.in_ok-push.ensures.items
    (c.in_ok-puts_of_publisher.ensures
    ∙ ap (λ (s : PublisherScript). numbered (publisher_puts_at s) c.deref.result.now) (ap (λ (ls : _). script_of c.number_at-number.result x.base ls) c.as_slice.ensures ∙ section)
    ∙ ap (λ (j : List PublisherEntry). numbered (publisher_puts_at (slice_index_or (publishers_from 0 c.args.script.now.publishers) n no_section)) j) journal)

pub returns : goal.returns
returns c =
    let end : c.loop-p.p ≡ length c.publishers-publishers.result.now = omega (arith, c.loop-p.auto.p-end, c.loop-p-test.false) in
    let all : c.loop-p.p ≡ length c.args.script.now.publishers = end ∙ ap (λ (ls : List PublisherPart). length ls) c.publishers-publishers.ensures in
    lists_all _ _ _ _ all c.loop-p.invariant
