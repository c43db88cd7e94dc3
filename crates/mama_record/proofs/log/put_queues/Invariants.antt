use Rattle.std.proofs.Common.{◌≡◌, ◌++◌, take}
use Rattle.std.specs.List.{flat_map}
use Rattle.mama_record.specs.LogText.{numbered, queue_section}
use Rattle.mama_record.specs.SectionText.{section_text}
use Rattle.mama_record.specs.RunView.{events_of}
use Rattle.mama_record.proofs.log.put_queues.Given as goal

abbrev pub invariant-loop-number : goal.invariant-loop-number
invariant-loop-number l = l.out.items ≡ l.fn.out.items ++ flat_map (section_text l.version) (numbered queue_section 0 (events_of (take l.number l.queues)))
