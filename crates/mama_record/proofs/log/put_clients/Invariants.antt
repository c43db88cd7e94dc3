use Rattle.std.proofs.Common.{◌≡◌, ◌++◌, take}
use Rattle.std.specs.List.{flat_map}
use Rattle.mama_record.specs.LogText.{numbered, client_section}
use Rattle.mama_record.specs.SectionText.{section_text}
use Rattle.mama_record.specs.RunView.{moments_of}
use Rattle.mama_record.proofs.log.put_clients.Given as goal

abbrev pub invariant-loop-number : goal.invariant-loop-number
invariant-loop-number l = l.out.items ≡ l.fn.out.items ++ flat_map (section_text l.version) (numbered client_section 0 (moments_of (take l.number l.clients)))
