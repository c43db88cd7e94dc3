use Rattle.std.specs.List.{flat_map}
use Rattle.std.proofs.Common.{◌≡◌, ℕ, List, map, ap, ◌∙◌, sym, subst}
use Rattle.std.proofs.lemmas.Result.{IfOk-weaker}
use Rattle.mama_event.specs.declared.to_queue.QueueNote.{QueueNote}
use Rattle.mama_record.specs.RunData.{RunData}
use Rattle.mama_record.specs.RunView.{groups_of, images_of}
use Rattle.mama_rules_rounds.specs.Client.{Planned}
use Rattle.mama_rules_rounds.specs.Setting.{Setting}
use Rattle.mama_rules_rounds.specs.Sections.{setting_of}
use Rattle.mama_rules_rounds.specs.Told.{group_told, last_image}
use Rattle.mama_crew.specs.Hall.{HallValue}
use Rattle.mama_crew.specs.Journals.{AreJournalsOf}
use Rattle.mama_gather.specs.Left.{events_by}
use Rattle.mama_close.specs.Kinds.{Kinds, AreKindsOf, record_of}
use Rattle.mama_close.specs.InKinds.{kinds_in}
use Rattle.mama_gather.specs.Places.{images_by}
use Rattle.mama_close.proofs.Record.{images_same}
use Rattle.mama_close.proofs.closing.close_imaged.Goals as goal

pub by_kind-requires : goal.by_kind-requires
by_kind-requires g c = record { crew = c.requires.crew; ended = c.requires.ended }

pub close_parts-requires : goal.close_parts-requires
close_parts-requires g c =
    let setting : Setting = setting_of c.args.script.now in
    let p = c.into_parts-parts.result in
    let hall : HallValue = record { objects = p.plans; to_bridge = p.to_bridge; to_timers = p.to_timers; to_publishers = p.to_publishers.items; to_queues = p.to_queues.items } in
    let kinds : Kinds = kinds_in c.in_ok-seats.seats in
    let crew : AreKindsOf c.args.script.now hall kinds = subst (λ (h : HallValue). AreKindsOf c.args.script.now h kinds) c.into_parts-parts.ensures c.in_ok-seats.ensures.kinds in
    let journals = sym c.in_ok-seats.ensures.journals.queues in
    record {
      groups = c.requires.groups ∙ ap (λ (qs : List (List (ℕ × QueueNote))). map (group_told setting qs) setting.groups) journals;
      crew = crew;
      images = c.requires.images
          ∙ ap (λ (qs : List (List (ℕ × QueueNote))). flat_map (last_image setting qs) setting.objects) journals
          ∙ sym (images_same setting (map events_by kinds.queues) setting.objects)
          ∙ ap (λ (os : List Planned). flat_map (images_by os (map events_by kinds.queues)) os) (sym crew.hall_is.objects);
    }

pub returns : goal.returns
returns g c =
    let setting : Setting = setting_of c.args.script.now in
    let run = record_of c.args.script.now (kinds_in c.in_ok-seats.seats) in
    let journals = sym c.in_ok-seats.ensures.journals.queues in
    let heard : groups_of c.args.groups.items ≡ run.groups = c.requires.groups ∙ ap (λ (qs : List (List (ℕ × QueueNote))). map (group_told setting qs) setting.groups) journals in
    let shown : images_of c.args.images.items ≡ run.images = c.requires.images ∙ ap (λ (qs : List (List (ℕ × QueueNote))). flat_map (last_image setting qs) setting.objects) journals in
    record {
      journals = IfOk-weaker c.close_parts.result (λ r. r.0 ≡ run) (λ r. AreJournalsOf c.args.seats.items r.0)
          (λ r is. subst (AreJournalsOf c.args.seats.items) (sym is) c.in_ok-seats.ensures.journals) c.close_parts.ensures.record_is;
      legal = c.close_parts.ensures.legal;
      groups = IfOk-weaker c.close_parts.result (λ r. r.0 ≡ run) (λ r. r.0.groups ≡ groups_of c.args.groups.items)
          (λ r is. ap (λ (d : RunData). d.groups) is ∙ sym heard) c.close_parts.ensures.record_is;
      images = IfOk-weaker c.close_parts.result (λ r. r.0 ≡ run) (λ r. r.0.images ≡ images_of c.args.images.items)
          (λ r is. ap (λ (d : RunData). d.images) is ∙ sym shown) c.close_parts.ensures.record_is;
      listeners = c.close_parts.ensures.listeners;
    }
