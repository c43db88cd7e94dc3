use Rattle.std.proofs.Common.{◌≡◌, [], sym, ◌∙◌, rules, arith}
use Rattle.std.proofs.lemmas.Grind.{common_steps}
use Rattle.mama_close.proofs.Sorting.{bridge_there, service_there, sorted_kinds, sorted_journals}
use Rattle.mama_close.proofs.kinds.by_kind.Goals as goal

pub returns-clause-kinds : goal.returns-clause-kinds
returns-clause-kinds g c =
    let sorted = c.in_ok-clients.field-0 in
    let are = c.in_ok-clients.ensures in
    sorted_kinds c.args._script.now c.args._hall.now c.args.seats.items c.requires.crew c.requires.ended c.pop.new.self.items c.pop-2.new.self.items c.in-Some.bridge c.in-Some-pop.timers
    (sym are.bridges ∙ c.in-Some.ensures.items) (sym are.services ∙ c.in-Some-pop.ensures.items) sorted.clients.items sorted.publishers.items sorted.queues.items are.clients are.publishers are.queues

pub returns-clause-journals : goal.returns-clause-journals
returns-clause-journals g c =
    let sorted = c.in_ok-clients.field-0 in
    let are = c.in_ok-clients.ensures in
    sorted_journals c.args._script.now c.args._hall.now c.args.seats.items c.requires.crew c.requires.ended c.pop.new.self.items c.pop-2.new.self.items c.in-Some.bridge c.in-Some-pop.timers
    (sym are.bridges ∙ c.in-Some.ensures.items) (sym are.services ∙ c.in-Some-pop.ensures.items) sorted.clients.items sorted.publishers.items sorted.queues.items are.clients are.publishers are.queues

pub unreachable-requires : goal.unreachable-requires
unreachable-requires g c =
    let none : c.in_ok-clients.field-0.bridges.items ≡ [] = first_of (search rules, grind (arith, common_steps)) in
    bridge_there c.args._script.now c.args._hall.now c.args.seats.items c.requires.crew c.in_ok-clients.field-0.bridges.items c.in_ok-clients.ensures.bridges none

pub unreachable-requires-in_default-pop : goal.unreachable-requires-in_default-pop
unreachable-requires-in_default-pop g c =
    let none : c.in_ok-clients.field-0.services.items ≡ [] = first_of (search rules, grind (arith, common_steps)) in
    service_there c.args._script.now c.args._hall.now c.args.seats.items c.requires.crew c.in_ok-clients.field-0.services.items c.in_ok-clients.ensures.services none
