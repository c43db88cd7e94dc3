use Rattle.std.proofs.Common.{◌++◌, ℕ, List, map, refl, ap, sym, ◌∙◌}
use Rattle.mama_journal.specs.Journal.{numbers_below}
use Rattle.mama_event.specs.declared.to_queue.QueueNote.TheVariants as q
use Rattle.mama_rules_services.specs.Timers.{fin}
use Rattle.mama_timer.specs.Putting.{gone_out, fin_out, gone_note}
use Rattle.mama_timer.proofs.Words.{notes_ended, listeners_ended, puts_ended}
use Rattle.mama_timer.proofs.table.Table.fin.Goals as goal

pub returns-clause-puts : goal.returns-clause-puts
returns-clause-puts g c =
    let ls = c.as_slice-leaving.result.now in
    notes_ended g.L.Tagged.tagged c.args.out.now.items c.put_ending.new.out.items ls (numbers_below c.queues-queues.result) _
    (c.put_ending.ensures ∙ ap (λ (xs : List _). xs ++ map gone_out ls ++ map fin_out (numbers_below c.queues-queues.result)) c.in_ok-reserve_ending.ensures.items)
    (puts_ended c.args.self.now.shape c.args.self.now.journal c.args.port c.args.note (fin) c.requires refl (sym c.ends_with_bridge.ensures ∙ c.if-not-ends_with_bridge.false) ls
    (ap (map gone_note) c.as_slice-leaving.ensures.value ∙ c.in_ok-left.ensures)
    ∙ ap (λ (n : ℕ). map gone_note ls ++ map (λ k. (k, q.Fin)) (numbers_below n)) (sym c.queues-queues.ensures))

pub returns-clause-listener : goal.returns-clause-listener
returns-clause-listener g c =
    let ls = c.as_slice-leaving.result.now in
    listeners_ended c.args.out.now.items c.put_ending.new.out.items ls (numbers_below c.queues-queues.result)
    (c.put_ending.ensures ∙ ap (λ (xs : List _). xs ++ map gone_out ls ++ map fin_out (numbers_below c.queues-queues.result)) c.in_ok-reserve_ending.ensures.items)
