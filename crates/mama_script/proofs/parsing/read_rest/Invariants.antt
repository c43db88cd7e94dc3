use Rattle.std.proofs.Common.{◌≡◌, ◌+◌, ◌≤◌, length}
use Rattle.mama_words.specs.Parting.{pieces}
use Rattle.mama_script.specs.Seen.{seen}
use Rattle.mama_script.specs.Before.{start}
use Rattle.mama_script.specs.Reading.{read_from}
use Rattle.mama_script.proofs.Loop.{with_front}
use Rattle.mama_script.proofs.parsing.read_rest.Given as goal

abbrev pub invariant-loop-line : goal.invariant-loop-line
invariant-loop-line l = record {
  told : with_front l.lines.items (read_from (seen l.context) l.number (pieces 10 l.rest)) ≡ read_from (start l.fn.version) 2 (pieces 10 l.fn.text);
  counted : l.number + length l.rest ≤ length l.fn.text + 2;
  few : length l.lines.items + length l.rest ≤ length l.fn.text;
}

abbrev pub decreases-loop-line : goal.decreases-loop-line
decreases-loop-line l = length l.rest
