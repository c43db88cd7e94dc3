use Rattle.std.proofs.Common.{◌≡◌, ◌-◌, ◌^◌, [], drop}
use Rattle.mama_script.specs.Names.{made_after}
use Rattle.mama_script.specs.Counted.{AreCounted}
use Rattle.mama_script.proofs.names.made_by.Given as goal

abbrev pub invariant-loop-line : goal.invariant-loop-line
invariant-loop-line l = record {
  made : made_after l.made.items (drop l.line-index l.lines) ≡ made_after [] l.lines;
  counted : AreCounted (2 ^ 64 - 2) l.line-index l.line-index l.made.items;
}
