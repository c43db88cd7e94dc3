use Rattle.std.specs.Prelude.{map}
use Rattle.std.specs.List.{flat_map}
use Rattle.std.proofs.Common.{◌≡◌, List, ◌++◌, ap, sym, ◌∙◌}
use Rattle.mama_event.specs.declared.ids.SubId.{SubId}
use Rattle.mama_event.specs.declared.callback.Callback.{Callback}
use Rattle.mama_event.specs.declared.callback.CallNote.{CallNote}
use Rattle.mama_event.specs.declared.group.GroupNote.{GroupNote}
use Rattle.mama_event.specs.declared.group.GroupState.{GroupState}
use Rattle.mama_rules_queue.specs.Group.{member_by, state_told}
use Rattle.mama_rules_queue.specs.GroupTurns.{told_of, calls_heard}
use Rattle.mama_group.specs.declared.counts.Counts.{Counts}
use Rattle.mama_group.specs.Kept.{state_by}
use Rattle.mama_group.proofs.Changing.{there_is, turn_bounded, turn_is}
use Rattle.mama_group.proofs.group.Group.change.Goals as goal

pub moved-counts-requires-clause-there : goal.moved-counts-requires-clause-there
moved-counts-requires-clause-there g c =
    there_is c.args.member c.args.self.now.counts (λ (m : SubId). member_by (flat_map (told_of m) c.args.self.now.notes.items)) c.args.sub c.args.self.now.members
    c.requires.member.0 (sym c.requires.member.1) c.requires.counted

pub moved-counts-requires-clause-bounded : goal.moved-counts-requires-clause-bounded
moved-counts-requires-clause-bounded g c =
    turn_bounded c.args.self.now.members c.args.self.now.notes.items c.args.sub (map (λ (n : CallNote). n.call) c.args.notes.now) c.args.self.now.counts c.args.member c.in_ok-after.after
    c.requires.counted c.requires.apart c.requires.member c.in_ok-after.ensures.member

pub returns-clause-change : goal.returns-clause-change
returns-clause-change g c =
    let s : SubId = c.args.sub in
    let calls : List Callback = map (λ (n : CallNote). n.call) c.args.notes.now in
    let old : Counts = c.args.self.now.counts in
    let is : c.add_state.new.heard.items ≡ calls_heard s calls ++ state_told (state_by old) (state_by c.moved-counts.result) =
    c.in_ok-add_state.ensures
    ∙ ap (λ (xs : List GroupNote). xs ++ state_told c.state.result c.state-2.result) (c.in_ok-after.ensures.heard ∙ ap (λ (xs : List GroupNote). xs ++ calls_heard s calls) c.in_ok-heard.ensures.items)
    ∙ ap (λ (a : GroupState). calls_heard s calls ++ state_told a c.state-2.result) c.state.ensures
    ∙ ap (λ (b : GroupState). calls_heard s calls ++ state_told (state_by old) b) c.state-2.ensures in
    let turn = turn_is c.args.self.now.members c.args.self.now.notes.items s calls old c.moved-counts.result c.args.member c.in_ok-after.after c.add_state.new.heard.items
    c.requires.counted c.requires.apart c.requires.member c.in_ok-after.ensures.member c.moved-counts.ensures is in
    record { heard = turn.turn; counted = turn.counted; member = turn.member }
