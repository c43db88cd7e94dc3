use Rattle.std.specs.Arc.{arc_value}
use Rattle.std.specs.Prelude.{vec_capacity}
use Rattle.std.proofs.Common.{◌≡◌, ◌≤◌, arith, map, length, sym, ap, ◌∙◌, subst}
use Rattle.std.proofs.lemmas.List.{length-map}
use Rattle.mama_journal.specs.Journal.{numbers_below}
use Rattle.mama_plans.specs.Plans.{planned_object}
use Rattle.mama_plans.proofs.NumberedLemmas.{no_list, groups_count, watches_count}
use Rattle.mama_event.specs.declared.group.GroupNote.{GroupNote}
use Rattle.mama_event.specs.declared.watch.WatchNote.{WatchNote}
use Rattle.mama_drive.specs.Scene.{Scene}
use Rattle.mama_drive.proofs.system.System.parts.Goals as goal

pub returns : goal.returns
returns c = record {
  images = c.in_ok-images.ensures;
  groups = c.in_ok-groups.ensures ∙ ap (λ n. map (no_list {A = GroupNote}) (numbers_below n))
      (ap length c.groups.ensures ∙ sym (groups_count (arc_value c.self.inside.plans) 0 c.self.inside.script.now.groups) ∙ ap (λ (s : Scene). length s.groups) c.self.view_is);
  watches = c.in_ok-watches.ensures ∙ ap (λ n. map (no_list {A = WatchNote}) (numbers_below n))
      (ap length c.watches.ensures ∙ sym (watches_count (arc_value c.self.inside.plans) 0 c.self.inside.script.now.watches) ∙ ap (λ (s : Scene). length s.watches) c.self.view_is);
  no_calls = c.in_ok-calls.ensures.items;
  no_given = c.in_ok-given.ensures.items;
  no_moments = c.in_ok-moments.ensures.items;
  no_entries = c.in_ok-entries.ensures.items;
  no_events = c.in_ok-events.ensures.items;
  calls_fit = subst (λ (s : Scene). length s.objects ≤ vec_capacity c.in_ok-calls.calls) c.self.view_is
      (let as_many : length c.objects.result.now ≡ length (arc_value c.self.inside.plans) = sym (length-map c.objects.result.now planned_object) ∙ ap length (c.objects.ensures ∙ c.deref.ensures) in
      omega (arith, c.in_ok-calls.ensures.exact, as_many));
  given_fit = subst (λ (s : Scene). length s.servers ≤ vec_capacity c.in_ok-given.given) c.self.view_is (omega (arith, c.len.ensures, c.in_ok-given.ensures.exact, c.self.inside.queues.ok.0));
  moments_fit = subst (λ (s : Scene). length s.clients ≤ vec_capacity c.in_ok-moments.moments) c.self.view_is (omega (arith, c.len-2.ensures, c.in_ok-moments.ensures.exact, c.self.inside.clients.ok.0));
  entries_fit = subst (λ (s : Scene). length s.senders ≤ vec_capacity c.in_ok-entries.entries) c.self.view_is (omega (arith, c.len-3.ensures, c.in_ok-entries.ensures.exact, c.self.inside.publishers.ok.0));
  events_fit = subst (λ (s : Scene). length s.servers ≤ vec_capacity c.in_ok-events.events) c.self.view_is (omega (arith, c.len-4.ensures, c.in_ok-events.ensures.exact, c.self.inside.queues.ok.0));
}

pub numbered_lists-requires : goal.numbered_lists-requires
numbered_lists-requires c =
    let same : length c.groups.result.now ≡ length c.self.inside.script.now.groups = ap length c.groups.ensures in
    omega (arith, same, c.shape-shape.ensures.within.groups_few)

pub numbered_lists-requires-2 : goal.numbered_lists-requires-2
numbered_lists-requires-2 c =
    let same : length c.watches.result.now ≡ length c.self.inside.script.now.watches = ap length c.watches.ensures in
    omega (arith, same, c.shape-shape.ensures.within.watches_few)
