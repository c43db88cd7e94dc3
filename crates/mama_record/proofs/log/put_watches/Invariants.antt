use Rattle.std.proofs.Common.{◌≡◌, ◌++◌, take, map}
use Rattle.std.specs.List.{flat_map}
use Rattle.mama_record.specs.LogText.{watch_section}
use Rattle.mama_record.specs.SectionText.{section_text}
use Rattle.mama_record.specs.RunView.{watches_of}
use Rattle.mama_record.proofs.log.put_watches.Given as goal

abbrev pub invariant-loop-watch : goal.invariant-loop-watch
invariant-loop-watch l = l.out.items ≡ l.fn.out.items ++ flat_map (section_text l.version) (map watch_section (watches_of (take l.watch-index l.watches)))
