use Rattle.std.proofs.Common.{◌≡◌, List, take, subst}
use Rattle.std.specs.Prelude.{option_to_list}
use Rattle.std.proofs.lemmas.List.{take_all}
use Rattle.mama_event.specs.Publisher.{publisher_puts_at}
use Rattle.mama_event.specs.declared.publisher_entry.PublisherEntry.{PublisherEntry}
use Rattle.mama_check_order.specs.Numbered.{numbered}
use Rattle.mama_check_puts.specs.Sender.{unsent}
use Rattle.mama_check_puts.specs.Puts.{script_of}
use Rattle.mama_check_puts.proofs.SenderSteps.{begun, did_next, put_next}
use Rattle.mama_check_puts.proofs.publisher.puts_of_publisher.Goals as goal

pub loop-entry-init : goal.loop-entry-init
loop-entry-init c = record {
  at = begun c.a_new_publisher_has_its_base.ensures c.args.number c.args.base.now c.args.lines.now c.in_ok-first.field-0 c.in_ok-first.ensures;
  puts = c.new-puts.ensures.items;
}

pub loop-entry-preserved : goal.loop-entry-preserved
loop-entry-preserved c =
    let script = script_of c.args.number c.args.base.now c.args.lines.now in
    let e = c.index-journal-entry.result in
    let done = c.in_ok-put.ensures script (take c.loop-entry.entry c.args.journal.now) c.loop-entry.invariant.at in
    record {
      at = did_next script c.args.journal.now c.loop-entry.entry e c.put.new.self.publisher (unsent c.put.new.self) (option_to_list c.in_ok-put.put) c.loop-entry-test.true c.index-journal-entry.is done;
      puts = put_next script c.args.journal.now c.loop-entry.entry e c.put.new.self.publisher (unsent c.put.new.self) (option_to_list c.in_ok-put.put) c.loop-entry.puts.items c.add.new.puts.items
          c.loop-entry-test.true c.index-journal-entry.is done c.loop-entry.invariant.puts c.in_ok-add.ensures;
    }

pub returns : goal.returns
returns c =
    subst (λ (es : List PublisherEntry). c.loop-entry.puts.items ≡ numbered (publisher_puts_at (script_of c.args.number c.args.base.now c.args.lines.now)) es)
    (take_all c.loop-entry.entry c.args.journal.now c.loop-entry-test.false) c.loop-entry.invariant.puts
