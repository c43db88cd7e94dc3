use Rattle.std.proofs.Common.{◌++◌, List, map, ap, ◌∙◌}
use Rattle.std.specs.Prelude.{option_to_list}
use Rattle.mama_timer.specs.Putting.{gone_out}
use Rattle.mama_timer.proofs.Words.{notes_left_if, listeners_left_if}
use Rattle.mama_timer.proofs.table.Table.take_disarm.Goals as goal

pub returns-clause-puts : goal.returns-clause-puts
returns-clause-puts g c = notes_left_if g.L.Tagged.tagged c.args.out.now.items c.put_if_gone.new.out.items c.in_ok-left.left _
    (c.put_if_gone.ensures ∙ ap (λ (xs : List _). xs ++ map gone_out (option_to_list c.in_ok-left.left)) c.in_ok-reserve.ensures.items) c.in_ok-left.ensures.puts

pub returns-clause-listener : goal.returns-clause-listener
returns-clause-listener g c = listeners_left_if c.args.out.now.items c.put_if_gone.new.out.items c.in_ok-left.left
    (c.put_if_gone.ensures ∙ ap (λ (xs : List _). xs ++ map gone_out (option_to_list c.in_ok-left.left)) c.in_ok-reserve.ensures.items)
