use Rattle.std.proofs.Common.{◌<◌, ◌≤◌, ◌+◌, ◌++◌, List, length, take, drop, arith, ap, sym, ◌∙◌, subst}
use Rattle.std.proofs.lemmas.List.{take_all}
use Rattle.mama_bridge.specs.Placed.{present}
use Rattle.mama_bridge.specs.declared.places.Place.{Place}
use Rattle.mama_bridge.proofs.InOrder.{IsTakenTo, entry_taken, all_taken}
use Rattle.mama_bridge.proofs.Entries.{present_step, present_more, present_part, present_split}
use Rattle.mama_bridge.proofs.live.take_in_order.Goals as goal

pub take_next-requires : goal.take_next-requires
take_next-requires c =
    let entries = c.args.places.now.items in
    let within : c.loop-i.i < length c.args.places.now.items = omega arith in
    let more = present_more entries c.loop-i.i c.index.result.now within c.index.ensures in
    let most = present_part entries (c.loop-i.i + 1) in
    omega (arith, more, most)

pub loop-i-preserved : goal.loop-i-preserved
loop-i-preserved c =
    let entries = c.args.places.now.items in
    let i = c.loop-i.i in
    let within : c.loop-i.i < length c.args.places.now.items = omega arith in
    let step = present_step entries i c.index.result.now within c.index.ensures in
    let more = present_more entries i c.index.result.now within c.index.ensures in
    record {
      taken = subst (λ (ps : List Place). IsTakenTo (present entries) c.args.topics.now c.take_next.new.topics c.take_next.new.links.items (length ps)) (sym step)
          (entry_taken (present entries) (present (take i entries)) (present (drop (i + 1) entries)) c.index.result.now c.args.topics.now c.loop-i.topics c.take_next.new.topics c.loop-i.links.items c.take_next.new.links.items
          (sym (present_split entries (i + 1)) ∙ ap (λ (ps : List Place). ps ++ present (drop (i + 1) entries)) step) c.take_next.ensures.taken c.loop-i.invariant.taken);
      held = c.take_next.ensures.held ∙ c.loop-i.invariant.held;
      len = omega (arith, more, c.take_next.ensures.len);
      capacity = c.take_next.ensures.capacity ∙ c.loop-i.invariant.capacity;
    }

pub returns-clause-taken : goal.returns-clause-taken
returns-clause-taken c =
    let most : length c.args.places.now.items ≤ c.loop-i.i = omega arith in
    let all = ap (λ es. length (present es)) (take_all c.loop-i.i c.args.places.now.items most) in
    all_taken (present c.args.places.now.items) c.args.topics.now c.loop-i.topics c.loop-i.links.items (length (present (take c.loop-i.i c.args.places.now.items))) (omega (arith, all)) c.loop-i.invariant.taken

pub returns-clause-len : goal.returns-clause-len
returns-clause-len c =
    let part = present_part c.args.places.now.items c.loop-i.i in
    omega (arith, part)
