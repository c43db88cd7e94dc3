use Rattle.std.proofs.Common.{◌≡◌, ◌∙◌, ap, rules, arith}
use Rattle.std.proofs.lemmas.Grind.{common_steps}
use Rattle.std.specs.Global.{Vec}
use Rattle.std.specs.Prelude.{ℕ, List}
use Rattle.mama_event.specs.declared.watch.WatchNote.{WatchNote}
use Rattle.mama_plans.specs.Numbered.{numbered, lists_put}
use Rattle.mama_gather.proofs.Putting.{list_more}
use Rattle.mama_gather.proofs.queues.put_noted.Goals as goal

pub loop-entry-preserved : goal.loop-entry-preserved
loop-entry-preserved c = record {
  whole = first_of (search rules, grind (arith, common_steps));
  put = list_more c.loop-entry.yielded c.in-Some.entry c.args.noted.now.items c.loop-entry.noted.items c.put_list.new.lists.items c.put_list.ensures c.loop-entry.invariant.put;
}

pub returns : goal.returns
returns c =
    let same : c.loop-entry.yielded ≡ c.args.lists.items = first_of (search rules, grind (arith, common_steps)) in
    c.loop-entry.invariant.put ∙ ap (λ (ls : List (ℕ × Vec WatchNote)). lists_put (numbered ls) (numbered c.args.noted.now.items)) same
