use Rattle.std.specs.Prelude.{option_to_list}
use Rattle.std.proofs.Common.{filter, sym, ap, ◌∙◌}
use Rattle.mama_laws_bridge.specs.Table.{of_sub}
use Rattle.mama_bridge.proofs.ByTopic.{found_on, found_none, live_leaves, live_stays}
use Rattle.mama_bridge.proofs.HeldLemmas.{place_freed, no_place}
use Rattle.mama_bridge.proofs.live.Live.leave.Goals as goal

pub returns-in_ok-leave_on-in-Some-clause-ok : goal.returns-in_ok-leave_on-in-Some-clause-ok
returns-in_ok-leave_on-in-Some-clause-ok g c joined rows live alone =
    live_leaves c.args.sub c.in-Some.place.topic c.args.self.now _ c.args.out.now.items c.leave_on.new.out.items joined rows
    (found_on c.find.result c.in-Some.place (filter (of_sub c.args.sub) rows) c.in-Some.is (c.find.ensures joined rows live))
    c.leave.ensures.joined c.leave.ensures.live c.in_ok-leave_on-in-Some.ensures.ok live alone

pub returns-in-None-clause-ok : goal.returns-in-None-clause-ok
returns-in-None-clause-ok g c joined rows live alone =
    live_stays c.args.sub c.args.self.now c.args.out.now.items joined rows (found_none c.args.sub c.find.result rows c.in-None.is (c.find.ensures joined rows live)) live

pub returns-in_ok-leave_on-in-Some-clause-frees : goal.returns-in_ok-leave_on-in-Some-clause-frees
returns-in_ok-leave_on-in-Some-clause-frees g c joined rows live =
    place_freed c.in-Some.place (filter (of_sub c.args.sub) rows) c.args.slots.now c.leave_on.new.slots
    (sym (ap option_to_list c.in-Some.is) ∙ c.find.ensures joined rows live) c.in_ok-leave_on-in-Some.ensures.frees

pub returns-in-None-clause-frees : goal.returns-in-None-clause-frees
returns-in-None-clause-frees g c joined rows live =
    no_place (filter (of_sub c.args.sub) rows) c.args.slots.now (sym (ap option_to_list c.in-None.is) ∙ c.find.ensures joined rows live)
