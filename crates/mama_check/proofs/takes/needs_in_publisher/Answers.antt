use Rattle.std.proofs.Common.{◌≡◌, ◌<◌, ℕ, List, [], map, ap, sym, subst, ◌∙◌}
use Rattle.std.specs.Prelude.{Option, IfSome, slice_index_or}
use Rattle.std.specs.Global.{Vec}
use Rattle.mama_event.specs.declared.shape.Shape.{Shape}
use Rattle.mama_event.specs.declared.to_publisher.PublisherNote.{PublisherNote}
use Rattle.mama_event.specs.declared.publisher_entry.PublisherEntry.{PublisherEntry}
use Rattle.mama_event.specs.Ports.{publishers_of}
use Rattle.mama_check_order.specs.Numbered.{second}
use Rattle.mama_check_order.specs.declared.order.Need.{Need}
use Rattle.mama_rules_rounds.specs.Setting.{publisher_part}
use Rattle.mama_rules_legal.specs.Edges.{taken_by}
use Rattle.mama_check_order.specs.Taken.{sender_needs_of}
use Rattle.mama_check_puts.specs.Puts.{bridge_put_to_publisher}
use Rattle.mama_check.specs.Causal.{bridge_actor}
use Rattle.mama_check.proofs.LineLemmas.{list_is, list_known}
use Rattle.mama_check.proofs.Lanes.{publishers_are, bridge_way}
use Rattle.mama_check.proofs.takes.needs_in_publisher.Goals as goal

pub returns-clause-whole : goal.returns-clause-whole
returns-clause-whole c =
    let p = c.args.publisher in
    let script = c.args.script.now in
    let run = c.args.run.now in
    let there : p < publishers_of script.shape = subst (λ (n : ℕ). p < n) (sym (publishers_are script c.requires.shaped)) c.requires.publisher in
    let put = ap (λ (xs : List (ℕ × PublisherNote)). map second xs)
    (list_is _ c.args.bridge.now.to_publishers.items _ _ p c.list_at-list.result.now c.as_slice.ensures.value c.requires.bridge.publishers there c.list_at-list.ensures)
    ∙ bridge_way (publisher_part p) script.shape run.bridge in
    let journal : c.list_at-journal.result.now ≡ slice_index_or run.publishers p [] = list_known _ run.publishers p _ c.publishers.ensures c.list_at-journal.ensures in (
      λ yes. ap (λ (j : List PublisherEntry). taken_by j) (sym journal) ∙ c.in_ok-needs.ensures.whole.0 yes ∙ put,
      λ keeps. c.in_ok-needs.ensures.whole.1 (ap (λ (j : List PublisherEntry). taken_by j) journal ∙ keeps ∙ sym put),
    )

pub returns-clause-needs : goal.returns-clause-needs
returns-clause-needs c =
    let p = c.args.publisher in
    let script = c.args.script.now in
    let run = c.args.run.now in
    let there : p < publishers_of script.shape = subst (λ (n : ℕ). p < n) (sym (publishers_are script c.requires.shaped)) c.requires.publisher in
    let list = c.list_at-list.result.now in
    let journal = c.list_at-journal.result.now in
    subst (λ (needs : List (Option Need)). IfSome c.in_ok-needs.needs (λ (found : Vec (Option Need)). found.items ≡ needs))
    (ap (λ (a : ℕ). sender_needs_of a list journal) (c.places_in-places.ensures.bridge ∙ ap (λ (s : Shape). bridge_actor s) c.shape.ensures.value)
    ∙ ap (λ (l : List (ℕ × PublisherNote)). sender_needs_of (bridge_actor script.shape) l journal)
    (list_is _ c.args.bridge.now.to_publishers.items _ _ p list c.as_slice.ensures.value c.requires.bridge.publishers there c.list_at-list.ensures)
    ∙ ap (λ (j : List PublisherEntry). sender_needs_of (bridge_actor script.shape) (bridge_put_to_publisher script.shape run.bridge p) j)
    (list_known _ run.publishers p _ c.publishers.ensures c.list_at-journal.ensures))
    c.in_ok-needs.ensures.needs
