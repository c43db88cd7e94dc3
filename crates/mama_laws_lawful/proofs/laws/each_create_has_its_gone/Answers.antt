use Rattle.std.specs.Prelude.{List}
use Rattle.std.proofs.Common.{◌+◌, ◌∙◌, ap, sym, arith}
use Rattle.mama_journal.specs.Journal.{count_of}
use Rattle.mama_event.specs.ToQueue.{Block}
use Rattle.mama_event.specs.Object.{same_object}
use Rattle.mama_rules_services.specs.Bridge.{heard}
use Rattle.mama_laws_bridge.proofs.TableLaws.{flags_tell}
use Rattle.mama_laws_lawful.specs.Streams.{queue_stream, is_gone}
use Rattle.mama_laws_lawful.proofs.QueueStreams.{streamed}
use Rattle.mama_laws_lawful.proofs.Tally.{Tally, tally}
use Rattle.mama_laws_lawful.proofs.laws.each_create_has_its_gone.Goals as goal

pub returns : goal.returns
returns c = λ shape journal k object timely.
    let s = streamed k shape (heard shape journal) timely in
    let t : Tally object (queue_stream shape journal k) = tally 0 object (queue_stream shape journal k) s.lawful in
    let even = t.even in
    record {
      once = t.once;
      none_more = omega (arith, even);
      ended = λ h. sym (even
          ∙ ap (λ (bs : List Block). count_of (is_gone object) (queue_stream shape journal k) + count_of (λ (b : Block). same_object b.object object) bs) (s.finished (sym (flags_tell shape (heard shape journal)).ended ∙ h))
          ∙ omega arith);
    }
