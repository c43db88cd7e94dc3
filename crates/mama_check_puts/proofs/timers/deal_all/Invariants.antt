use Rattle.std.proofs.Common.{map, length}
use Rattle.mama_timer.specs.Out.{out_note}
use Rattle.mama_check_puts.specs.Puts.{tick_part}
use Rattle.mama_check_puts.specs.Dealing.{own_tag}
use Rattle.mama_check_puts.proofs.Lists.{AreDealt, shares}
use Rattle.mama_check_puts.proofs.timers.deal_all.Given as goal

abbrev pub invariant-loop-put : goal.invariant-loop-put
invariant-loop-put l =
    AreDealt (map (λ list. list.items) l.initial.lists.items) (map (λ list. list.items) l.lists.items)
    (shares tick_part l.entry (map (out_note own_tag) l.out.items)) (shares tick_part l.entry (map (out_note own_tag) l.initial.out.items))

abbrev pub decreases-loop-put : goal.decreases-loop-put
decreases-loop-put l = length l.out.items
