use Rattle.std.proofs.Common.{◌≡◌, rules, ap, ◌∙◌, subst, map}
use Rattle.mama_event.specs.declared.wire.PieceMsg.{PieceMsg}
use Rattle.mama_bridge.specs.Links.{sub_seen, Each, HoldsIf}
use Rattle.mama_bridge.specs.Linked.{Linked, subs_in}
use Rattle.mama_bridge.specs.Placed.{present}
use Rattle.mama_bridge.proofs.LinkLemmas.{noted_same}
use Rattle.mama_bridge.proofs.RowLemmas.{seen_present, seen_subs}
use Rattle.mama_bridge.proofs.links.Links.publish.Goals as goal

pub invariant_of-self : goal.invariant_of-self
invariant_of-self g c =
    noted_same c.self.inside.indexes (subs_in c.self.inside.entries.items) (subs_in c.prepare_all.new.entries.items) c.self.inside.first c.self.inside.awaited (seen_subs c.prepare_all.new.entries.items c.self.inside.entries.items c.prepare_all.ensures.seen) c.self.invariant

pub invariant_of-self-in_err-reserve : goal.invariant_of-self-in_err-reserve
invariant_of-self-in_err-reserve g c =
    noted_same c.self.inside.indexes (subs_in c.self.inside.entries.items) (subs_in c.prepare_all.new.entries.items) c.self.inside.first c.self.inside.awaited (seen_subs c.prepare_all.new.entries.items c.self.inside.entries.items c.prepare_all.ensures.seen) c.self.invariant

pub invariant_of-self-in_err-reserve-2 : goal.invariant_of-self-in_err-reserve-2
invariant_of-self-in_err-reserve-2 g c =
    noted_same c.self.inside.indexes (subs_in c.self.inside.entries.items) (subs_in c.prepare_all.new.entries.items) c.self.inside.first c.self.inside.awaited (seen_subs c.prepare_all.new.entries.items c.self.inside.entries.items c.prepare_all.ensures.seen) c.self.invariant

pub invariant_of-self-2 : goal.invariant_of-self-2
invariant_of-self-2 g c =
    noted_same c.self.inside.indexes (subs_in c.self.inside.entries.items) (subs_in c.pass_all.new.entries.items) c.self.inside.first c.self.inside.awaited
    (c.pass_all.ensures.subs ∙ seen_subs c.prepare_all.new.entries.items c.self.inside.entries.items c.prepare_all.ensures.seen) c.self.invariant

pub returns-in_err-total-clause-seen : goal.returns-in_err-total-clause-seen
returns-in_err-total-clause-seen g c =
    let still : map sub_seen (present c.prepare_all.new.entries.items) ≡ map sub_seen c.args.self.now.links = seen_present c.prepare_all.new.entries.items c.self.inside.entries.items c.prepare_all.ensures.seen ∙ ap (λ (p : Linked). map sub_seen p.links) c.self.view_is in
    search (rules, still)

pub returns-in_err-reserve-clause-seen : goal.returns-in_err-reserve-clause-seen
returns-in_err-reserve-clause-seen g c =
    let still : map sub_seen (present c.prepare_all.new.entries.items) ≡ map sub_seen c.args.self.now.links = seen_present c.prepare_all.new.entries.items c.self.inside.entries.items c.prepare_all.ensures.seen ∙ ap (λ (p : Linked). map sub_seen p.links) c.self.view_is in
    search (rules, still)

pub returns-in_err-reserve-2-clause-seen : goal.returns-in_err-reserve-2-clause-seen
returns-in_err-reserve-2-clause-seen g c =
    let still : map sub_seen (present c.prepare_all.new.entries.items) ≡ map sub_seen c.args.self.now.links = seen_present c.prepare_all.new.entries.items c.self.inside.entries.items c.prepare_all.ensures.seen ∙ ap (λ (p : Linked). map sub_seen p.links) c.self.view_is in
    search (rules, still)

pub returns-clause-ok : goal.returns-clause-ok
returns-clause-ok g c m same rows h alone =
    let prepared = seen_present c.prepare_all.new.entries.items c.self.inside.entries.items c.prepare_all.ensures.seen ∙ ap (λ (p : Linked). map sub_seen p.links) c.self.view_is ∙ h in
    let holds = subst (λ (piece : PieceMsg). Each (HoldsIf c.args.topic piece) (present c.prepare_all.new.entries.items)) same c.in_ok-total.ensures.holds in
    let done = c.pass_all.ensures.steps rows m prepared holds (search rules) in
    (done.0, search (rules, done.1))
