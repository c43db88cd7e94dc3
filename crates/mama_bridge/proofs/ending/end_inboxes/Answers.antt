use Rattle.std.proofs.Common.{◌≡◌, ◌++◌, List, [], ◌∷◌, rules, arith, append_assoc, sym, ◌∙◌, ap}
use Rattle.std.specs.declared.option.Option.{Option}
use Rattle.mama_bridge.specs.Placed.{present}
use Rattle.mama_bridge.specs.declared.inboxes.InboxLink.{InboxLink}
use Rattle.mama_bridge.proofs.Entries.{present_push}
use Rattle.mama_bridge.proofs.InboxLemmas.{held_rest}
use Rattle.mama_bridge.proofs.Stepping.{inbox_end_none, entry_end_more}
use Rattle.mama_bridge.proofs.ending.end_inboxes.Goals as goal

pub loop-entry-init : goal.loop-entry-init
loop-entry-init g c = record {
  done = inbox_end_none c.args.bodies.now.items c.args.out.now.items;
  whole = search rules;
  bodies = search rules;
  out = search rules;
  spare = search rules;
}

pub end_entry-requires : goal.end_entry-requires
end_entry-requires g c =
    let first : c.loop-entry.entry-iterator.rest.items ≡ c.in-Some.entry ∷ c.next.new.self.rest.items = search rules in
    let sums = held_rest c.in-Some.entry c.next.new.self.rest.items c.loop-entry.entry-iterator.rest.items first in
    record { bodies = omega (arith, sums.0); out = omega (arith, sums.0, sums.1) }

pub loop-entry-preserved : goal.loop-entry-preserved
loop-entry-preserved g c =
    let first : c.loop-entry.entry-iterator.rest.items ≡ c.in-Some.entry ∷ c.next.new.self.rest.items = search rules in
    let sums = held_rest c.in-Some.entry c.next.new.self.rest.items c.loop-entry.entry-iterator.rest.items first in
    record {
      done = entry_end_more (present c.loop-entry.yielded) (present (c.loop-entry.yielded ++ c.in-Some.entry ∷ [])) c.in-Some.entry _ _ _ _ _ _ (present_push c.loop-entry.yielded c.in-Some.entry) c.loop-entry.invariant.done c.end_entry.ensures.ends;
      whole = append_assoc c.loop-entry.yielded (c.in-Some.entry ∷ []) c.next.new.self.rest.items ∙ ap (λ (xs : List (Option InboxLink)). c.loop-entry.yielded ++ xs) (sym first) ∙ c.loop-entry.invariant.whole;
      bodies = omega (arith, sums.0, sums.1, c.end_entry.ensures.bodies_spare);
      out = omega (arith, sums.0, sums.1, c.end_entry.ensures.out_spare);
      spare = omega (arith, sums.0, sums.1, c.end_entry.ensures.out_spare);
    }
