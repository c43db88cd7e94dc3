use Rattle.std.specs.Global.{Vec}
use Rattle.std.proofs.Common.{◌≡◌, ℕ, rules, List, [], ◌∷◌, ◌++◌, map, append_assoc, ap, sym, ◌∙◌, subst}
use Rattle.std.proofs.lemmas.List.{map-append}
use Rattle.mama_event.specs.declared.to_queue.QueueNote.{QueueNote}
use Rattle.mama_event.specs.declared.group.GroupNote.{GroupNote}
use Rattle.mama_event.specs.declared.watch.WatchNote.{WatchNote}
use Rattle.mama_record.specs.RunView.{events_of}
use Rattle.mama_plans.specs.Orders.{orders_in}
use Rattle.mama_plans.specs.Numbered.{numbered, lists_put}
use Rattle.mama_seats.specs.Server.{Server}
use Rattle.mama_seats.specs.Heard.{group_lists, watch_lists}
use Rattle.mama_drive.specs.Scene.{journal_in}
use Rattle.mama_drive.specs.Given.{Lists, HaveGiven}
use Rattle.mama_drive.proofs.RecordingLemmas.{given_more, groups_more, watches_more}
use Rattle.mama_drive.proofs.recording.all_events.Goals as goal

pub loop-seat-preserved : goal.loop-seat-preserved
loop-seat-preserved c =
    let inv = c.loop-seat.invariant in
    let seat : Server = c.in-Some.seat in
    let first : c.loop-seat.seat-iterator.rest.items ≡ seat ∷ c.next.new.self.rest.items = search rules in
    record {
      moved = ap events_of c.push_reserved.ensures.items
          ∙ map-append (λ (q : Vec (ℕ × QueueNote)). q.items) c.loop-seat.events.items (c.into_parts-journal.result.journal ∷ [])
          ∙ ap (λ (l : List (List (ℕ × QueueNote))). l ++ c.into_parts-journal.result.journal.items ∷ []) inv.moved
          ∙ ap (λ (j : List (ℕ × QueueNote)). map journal_in c.loop-seat.yielded ++ j ∷ []) c.into_parts-journal.ensures.journal
          ∙ sym (map-append journal_in c.loop-seat.yielded (seat ∷ []));
      gave = subst (λ (gs : List Lists). HaveGiven (c.loop-seat.yielded ++ seat ∷ []) gs) (sym c.push_reserved-in-loop-seat.ensures.items)
          (given_more c.loop-seat.yielded c.loop-seat.given.items seat c.into_parts-journal.result.calls inv.gave c.into_parts-journal.ensures.calls);
      heard = c.put_groups.ensures ∙ ap (λ (l : List (ℕ × List GroupNote)). lists_put l (numbered c.loop-seat.heard.items)) c.into_parts-journal.ensures.groups
          ∙ ap (lists_put (group_lists (orders_in seat.objects) seat.heard seat.groups)) inv.heard
          ∙ sym (groups_more c.loop-seat.yielded seat (numbered c.args.room_for_groups.items));
      noted = c.put_watches.ensures ∙ ap (λ (l : List (ℕ × List WatchNote)). lists_put l (numbered c.loop-seat.noted.items)) c.into_parts-journal.ensures.watches
          ∙ ap (lists_put (watch_lists (orders_in seat.objects) seat.journal seat.watches)) inv.noted
          ∙ sym (watches_more c.loop-seat.yielded seat (numbered c.args.room_for_watches.items));
      whole = append_assoc c.loop-seat.yielded (seat ∷ []) c.next.new.self.rest.items ∙ ap (λ (ss : List Server). c.loop-seat.yielded ++ ss) (sym first) ∙ inv.whole;
      room = search rules;
      room_for_calls = search rules;
    }
