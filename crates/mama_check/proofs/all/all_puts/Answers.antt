use Rattle.std.proofs.Common.{List, ℕ, map, length, ap, sym, subst, ◌∙◌}
use Rattle.std.proofs.lemmas.List.{length-map}
use Rattle.mama_event.specs.Ports.{queues_of}
use Rattle.mama_event.specs.declared.group.GroupRow.{GroupRow}
use Rattle.mama_event.specs.declared.watch.WatchRow.{WatchRow}
use Rattle.mama_rules_rounds.specs.Sections.{setting_of}
use Rattle.mama_plans.specs.Lists.{groups_on, groups_on_each, watches_on}
use Rattle.mama_check_queue.specs.Listed.{AreAllListed}
use Rattle.mama_check.proofs.Listed.{all_listed, lists_many}
use Rattle.mama_check.proofs.all.all_puts.Goals as goal

pub serve_all-requires-clause-groups : goal.serve_all-requires-clause-groups
serve_all-requires-clause-groups c =
    let script = c.args.script.now in
    lists_many (λ list. list.items) c.args.groups.now (groups_on (setting_of script).groups) (queues_of script.shape) c.requires.groups
    ∙ sym (sym (length-map c.queues.result.now (λ q. q.items)) ∙ ap length c.queues.ensures ∙ c.requires.counted.queues)

pub serve_all-requires-clause-watches : goal.serve_all-requires-clause-watches
serve_all-requires-clause-watches c =
    let script = c.args.script.now in
    lists_many (λ list. list.items) c.args.watches.now (watches_on (setting_of script).watches) (queues_of script.shape) c.requires.watches
    ∙ sym (sym (length-map c.queues.result.now (λ q. q.items)) ∙ ap length c.queues.ensures ∙ c.requires.counted.queues)

pub serve_all-requires-clause-listed : goal.serve_all-requires-clause-listed
serve_all-requires-clause-listed c =
    let script = c.args.script.now in
    subst (λ (gs : List (List (ℕ × GroupRow))). AreAllListed gs (map (λ list. list.items) c.args.watches.now)) (sym c.requires.groups)
    (subst (λ (ws : List (List (ℕ × WatchRow))). AreAllListed (groups_on_each (queues_of script.shape) (setting_of script).groups) ws) (sym c.requires.watches) (all_listed script c.requires.within))
