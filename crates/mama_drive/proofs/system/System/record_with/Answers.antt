use Rattle.std.specs.Arc.{arc_value}
use Rattle.std.specs.Prelude.{vec_capacity}
use Rattle.std.proofs.Common.{◌≡◌, ◌≤◌, true, List, refl, length, map, arith, ap, sym, ◌∙◌, subst}
use Rattle.std.proofs.lemmas.List.{length-map}
use Rattle.mama_plans.specs.Plans.{planned_object, AreApart}
use Rattle.mama_drive.specs.Scene.{Scene, script_in, journal_in, heard_in}
use Rattle.mama_rules_rounds.specs.Setting.{Setting}
use Rattle.mama_rules_rounds.specs.Sections.{groups_from, watches_from}
use Rattle.mama_journal.specs.Journal.{numbers_below}
use Rattle.mama_event.specs.declared.group.GroupNote.{GroupNote}
use Rattle.mama_event.specs.declared.watch.WatchNote.{WatchNote}
use Rattle.mama_plans.proofs.NumberedLemmas.{no_list}
use Rattle.mama_rules_rounds.specs.Client.{Planned}
use Rattle.mama_seats.specs.Server.{Server}
use Rattle.mama_drive.specs.Record.{calls_by}
use Rattle.mama_drive.specs.Given.{calls_given}
use Rattle.mama_drive.proofs.RecordLemmas.{record_parts}
use Rattle.mama_drive.proofs.RecordingLemmas.{given_calls, groups_recorded, watches_recorded}
use Rattle.mama_drive.proofs.system.System.record_with.Goals as goal

pub all_moments-requires-clause-enough : goal.all_moments-requires-clause-enough
all_moments-requires-clause-enough c = subst (λ (s : Scene). length s.clients ≤ vec_capacity c.args.parts.moments) (sym c.self.view_is) c.requires.parts.moments_fit

pub all_entries-requires-clause-enough : goal.all_entries-requires-clause-enough
all_entries-requires-clause-enough c = subst (λ (s : Scene). length s.senders ≤ vec_capacity c.args.parts.entries) (sym c.self.view_is) c.requires.parts.entries_fit

pub all_events-events-requires-clause-enough : goal.all_events-events-requires-clause-enough
all_events-events-requires-clause-enough c = subst (λ (s : Scene). length s.servers ≤ vec_capacity c.args.parts.events) (sym c.self.view_is) c.requires.parts.events_fit

pub all_events-events-requires-clause-enough_calls : goal.all_events-events-requires-clause-enough_calls
all_events-events-requires-clause-enough_calls c = subst (λ (s : Scene). length s.servers ≤ vec_capacity c.args.parts.given) (sym c.self.view_is) c.requires.parts.given_fit

pub all_calls-requires-clause-enough : goal.all_calls-requires-clause-enough
all_calls-requires-clause-enough c =
    let fits : length (arc_value c.self.inside.plans) ≤ vec_capacity c.args.parts.calls = subst (λ (s : Scene). length s.objects ≤ vec_capacity c.args.parts.calls) (sym c.self.view_is) c.requires.parts.calls_fit in
    let as_many : length c.objects.result.now ≡ length (arc_value c.self.inside.plans) = sym (length-map c.objects.result.now planned_object) ∙ ap length (c.objects.ensures ∙ c.deref-2.ensures) in
    omega (arith, fits, as_many)

pub all_calls-requires-clause-apart : goal.all_calls-requires-clause-apart
all_calls-requires-clause-apart c = subst AreApart (sym (c.objects.ensures ∙ c.deref-2.ensures)) (subst AreApart c.deref.ensures c.are_apart.ensures)

pub returns : goal.returns
returns c =
    let objects : List Planned = arc_value c.self.inside.plans in
    let seats : List Server = c.self.inside.queues.items in
    let setting : Setting = record {
      shape = c.self.inside.shape.now;
      publishers = map script_in c.self.inside.publishers.items;
      objects = objects;
      groups = groups_from objects 0 c.self.inside.script.now.groups;
      watches = watches_from objects 0 c.self.inside.script.now.watches;
    } in
    let told : map heard_in seats ≡ map journal_in seats = c.self.invariant.told (subst (λ (s : Scene). s.ready ≡ true) (sym c.self.view_is) c.requires.ready) in
    record_parts _ c.args.self c.new.result _ _ _ _ _ _ _ _ _ c.self.view_is c.new.ensures
    c.all_moments.ensures c.all_entries.ensures c.into_journal.ensures c.into_journal-2.ensures c.all_events-events.ensures.journals
    (c.all_calls.ensures ∙ ap (map (calls_given c.all_events-events.result.1.items)) (c.objects.ensures ∙ c.deref-2.ensures)
    ∙ given_calls objects seats c.all_events-events.result.1.items objects c.all_events-events.ensures.calls c.self.invariant.shared
    ∙ ap (λ (s : Scene). map (calls_by s.objects (map journal_in s.servers)) s.objects) c.self.view_is)
    c.requires.parts.images
    (groups_recorded objects seats _ c.self.invariant.server_count c.self.invariant.shared told setting c.self.inside.script.now.groups c.all_events-events.result.2.items c.args.parts.groups.items refl
    c.self.invariant.grouped c.all_events-events.ensures.groups
    (c.requires.parts.groups ∙ sym (ap (λ (s : Scene). map (no_list {A = GroupNote}) (numbers_below (length s.groups))) c.self.view_is)))
    (watches_recorded objects seats _ c.self.invariant.server_count c.self.invariant.shared told setting c.self.inside.script.now.watches c.all_events-events.result.3.items c.args.parts.watches.items refl
    c.self.invariant.watched c.all_events-events.ensures.watches
    (c.requires.parts.watches ∙ sym (ap (λ (s : Scene). map (no_list {A = WatchNote}) (numbers_below (length s.watches))) c.self.view_is)))
