use Rattle.std.proofs.Common.{◌≡◌, ℕ, List, map, ap, ◌∙◌, sym, subst}
use Rattle.std.proofs.lemmas.Result.{IfOk-weaker}
use Rattle.std.specs.List.{flat_map}
use Rattle.mama_event.specs.declared.group.GroupRow.{GroupRow}
use Rattle.mama_event.specs.declared.to_queue.QueueNote.{QueueNote}
use Rattle.mama_record.specs.RunView.{groups_of}
use Rattle.mama_rules_rounds.specs.Sections.{setting_of, groups_from, planned_in}
use Rattle.mama_rules_rounds.specs.Told.{group_told}
use Rattle.mama_crew.specs.Journals.{AreJournalsOf, events_in}
use Rattle.mama_close.specs.Kinds.{record_of}
use Rattle.mama_close.specs.InKinds.{kinds_in}
use Rattle.mama_close.proofs.closing.close_crew.Goals as goal

pub by_kind-requires : goal.by_kind-requires
by_kind-requires g c = record { crew = c.requires.crew; ended = c.requires.ended }

pub close_kinds-requires : goal.close_kinds-requires
close_kinds-requires g c = record {
  kinds = c.in_ok-seats.ensures.kinds;
  groups = ap groups_of c.new.ensures.items
      ∙ ap (λ (rows : List GroupRow). map (group_told (setting_of c.args.script.now) (flat_map events_in c.args.seats.items)) (groups_from (planned_in c.args.script.now) 0 rows)) (sym c.requires.ungrouped)
      ∙ ap (λ (qs : List (List (ℕ × QueueNote))). map (group_told (setting_of c.args.script.now) qs) (setting_of c.args.script.now).groups) (sym c.in_ok-seats.ensures.journals.queues);
}

pub returns : goal.returns
returns g c =
    let run = record_of c.args.script.now (kinds_in c.in_ok-seats.seats) in
    record {
      journals = IfOk-weaker c.close_kinds.result (λ r. r.0 ≡ run) (λ r. AreJournalsOf c.args.seats.items r.0)
          (λ r is. subst (AreJournalsOf c.args.seats.items) (sym is) c.in_ok-seats.ensures.journals) c.close_kinds.ensures.record_is;
      legal = c.close_kinds.ensures.legal;
      listeners = c.close_kinds.ensures.listeners;
    }
