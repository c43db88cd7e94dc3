use Rattle.std.specs.Arc.{arc_value}
use Rattle.std.specs.Option.{option_map}
use Rattle.std.specs.Prelude.{map}
use Rattle.std.proofs.Common.{ℕ, List, [], ◌∷◌, ◌++◌, ap, sym, subst, ◌∙◌}
use Rattle.mama_event.specs.ToQueue.{note_of}
use Rattle.mama_event.specs.declared.ids.ObjectId.{ObjectId}
use Rattle.mama_event.specs.declared.ids.SubId.{SubId}
use Rattle.mama_event.specs.declared.to_queue.ToQueue.{ToQueue}
use Rattle.mama_event.specs.declared.order.Order.{Order}
use Rattle.mama_event.specs.declared.to_queue.QueueNote.{QueueNote}
use Rattle.mama_event.specs.declared.watch.WatchRow.{WatchRow}
use Rattle.mama_event.specs.Listener.{ListenerData}
use Rattle.mama_rules_queue.specs.Queue.{QueuePut, queue_puts_at}
use Rattle.mama_rules_rounds.specs.Client.{Planned}
use Rattle.mama_dispatch.specs.Hearing.{ArePlanned}
use Rattle.mama_dispatch.specs.Served.{Served}
use Rattle.mama_timeout.specs.Table.{WatchData, event_puts}
use Rattle.mama_plans.specs.Put.{own_tag}
use Rattle.mama_plans.specs.Orders.{orders_in}
use Rattle.mama_seats.specs.Behind.{called_in}
use Rattle.mama_seats.specs.Heard.{AreKept, group_in, heard_of, watch_in}
use Rattle.mama_seats.specs.declared.queue_seat.QueueSeat.TheInside.{Inside}
use Rattle.mama_seats.specs.Listening.{data_of}
use Rattle.mama_seats.specs.Server.{Server, all_told, first_may_come, served, served_puts}
use Rattle.mama_seats.specs.Lane.{lane_notes}
use Rattle.mama_seats.proofs.TurnLemmas.{Before, After, IsTurned, turned}
use Rattle.mama_seats.proofs.queue_seat.QueueSeat.turn.Goals as goal

-- the seat as contracts see it, where these events wait on its lane
abbrev seat_with : Inside → List (ℕ × ToQueue ObjectId) → Server
seat_with s es = record {
  objects = arc_value s.plans;
  groups = map group_in s.groups;
  watches = map watch_in s.watches.watches;
  journal = s.serving.journal;
  heard = heard_of s.untold s.serving.journal;
  lane = lane_notes es;
}

pub serve-requires-clause-planned : goal.serve-requires-clause-planned
serve-requires-clause-planned c = subst (λ (o : List Planned). ArePlanned (orders_in o) c.self.inside.serving.seats) (sym c.deref.ensures) c.self.invariant.0

pub serve-requires-clause-comes : goal.serve-requires-clause-comes
serve-requires-clause-comes c =
    sym (ap (λ es. first_may_come c.self.inside.serving.journal (lane_notes es)) c.in-Some.ensures.items)
    ∙ ap (λ (s : Server). first_may_come s.journal s.lane) c.self.view_is
    ∙ c.requires.comes

pub returns-in-Ok-clause-seat : goal.returns-in-Ok-clause-seat
returns-in-Ok-clause-seat c =
    let lent : List Planned = c.deref.result.now in
    let orders : ObjectId → ℕ → List Order = orders_in lent in
    let serving : Served = c.self.inside.serving in
    let e : ℕ × QueueNote = (c.in-Some.port, note_of own_tag c.in-Some.event) in
    let b : Before = record {
      lent = lent;
      kept = arc_value c.self.inside.plans;
      seats = serving.seats;
      journal = serving.journal;
      untold = c.self.inside.untold;
      groups = c.self.inside.groups;
      watches = c.self.inside.watches.watches;
      ready = c.prepare.new.self.watches;
    } in
    let a : After ListenerData = record {
      entry = e;
      answer = c.in-Ok.turn;
      journal = c.serve.new.serving.journal;
      untold = c.untold_behind-self-inside.result;
      tick = c.tick_of-tick.result;
      watches = c.behind-wish.new.self.watches;
      wishes = event_puts own_tag c.behind-wish.result;
    } in
    let t : IsTurned b a = turned data_of b a c.groups_hear_turn_by_turn.ensures.heard c.groups_hear_turn_by_turn.ensures.unheard c.turns_are_watched.ensures
    (record {
      same = c.deref.ensures;
      are_kept = c.self.invariant.1;
      prepared = c.prepare.ensures.watches;
      told = ap (λ (s : Server). s.heard) c.self.view_is ∙ c.requires.told ∙ sym (ap (λ (s : Server). s.journal) c.self.view_is);
    })
    (record {
      answers = c.in-Ok.ensures.answer;
      journal = c.in-Ok.ensures.journal;
      tick = c.tick_of-tick.ensures own_tag;
      untold = c.untold_behind-self-inside.ensures ∙ ap (option_map (λ (s : SubId). (s, called_in c.in-Ok.turn))) c.sub_for-sub.ensures;
      watches = c.behind-wish.ensures.notes orders c.in-Ok.ensures.fits;
      wishes = c.behind-wish.ensures.wish own_tag orders c.in-Ok.ensures.fits;
    }) in
    let rest : List (ℕ × ToQueue ObjectId) = c.pop_front.new.self.items in
    let seat : List (ℕ × WatchRow) → List (ℕ × QueueNote) → Server =
    λ rows journal. record { objects = arc_value c.self.inside.plans; groups = map group_in c.self.inside.groups; watches = rows; journal = journal; heard = journal; lane = lane_notes rest } in
    ap (seat (map watch_in a.watches)) c.in-Ok.ensures.journal
    ∙ ap (λ (rows : List (ℕ × WatchRow)). seat rows (serving.journal ++ e ∷ [])) t.rows
    ∙ sym (ap (λ (es : List (ℕ × ToQueue ObjectId)). all_told (served (seat_with c.self.inside es) (lane_notes es))) c.in-Some.ensures.items)
    ∙ ap (λ (s : Server). all_told (served s s.lane)) c.self.view_is

pub returns-in-Ok-clause-puts : goal.returns-in-Ok-clause-puts
returns-in-Ok-clause-puts c =
    let lent : List Planned = c.deref.result.now in
    let orders : ObjectId → ℕ → List Order = orders_in lent in
    let serving : Served = c.self.inside.serving in
    let e : ℕ × QueueNote = (c.in-Some.port, note_of own_tag c.in-Some.event) in
    let b : Before = record {
      lent = lent;
      kept = arc_value c.self.inside.plans;
      seats = serving.seats;
      journal = serving.journal;
      untold = c.self.inside.untold;
      groups = c.self.inside.groups;
      watches = c.self.inside.watches.watches;
      ready = c.prepare.new.self.watches;
    } in
    let a : After ListenerData = record {
      entry = e;
      answer = c.in-Ok.turn;
      journal = c.serve.new.serving.journal;
      untold = c.untold_behind-self-inside.result;
      tick = c.tick_of-tick.result;
      watches = c.behind-wish.new.self.watches;
      wishes = event_puts own_tag c.behind-wish.result;
    } in
    let t : IsTurned b a = turned data_of b a c.groups_hear_turn_by_turn.ensures.heard c.groups_hear_turn_by_turn.ensures.unheard c.turns_are_watched.ensures
    (record {
      same = c.deref.ensures;
      are_kept = c.self.invariant.1;
      prepared = c.prepare.ensures.watches;
      told = ap (λ (s : Server). s.heard) c.self.view_is ∙ c.requires.told ∙ sym (ap (λ (s : Server). s.journal) c.self.view_is);
    })
    (record {
      answers = c.in-Ok.ensures.answer;
      journal = c.in-Ok.ensures.journal;
      tick = c.tick_of-tick.ensures own_tag;
      untold = c.untold_behind-self-inside.ensures ∙ ap (option_map (λ (s : SubId). (s, called_in c.in-Ok.turn))) c.sub_for-sub.ensures;
      watches = c.behind-wish.ensures.notes orders c.in-Ok.ensures.fits;
      wishes = c.behind-wish.ensures.wish own_tag orders c.in-Ok.ensures.fits;
    }) in
    ap (λ (puts : List QueuePut). puts ++ event_puts own_tag c.behind-wish.result) (c.in-Ok.ensures.puts ∙ ap (λ (o : List Planned). queue_puts_at (orders_in o) serving.journal e) c.deref.ensures)
    ∙ ap (λ (wishes : List QueuePut). queue_puts_at (orders_in (arc_value c.self.inside.plans)) serving.journal e ++ wishes) t.wishes
    ∙ sym (ap (λ (es : List (ℕ × ToQueue ObjectId)). served_puts (seat_with c.self.inside es) (lane_notes es)) c.in-Some.ensures.items)
    ∙ ap (λ (s : Server). served_puts s s.lane) c.self.view_is

pub invariant_of-self-in-Ok : goal.invariant_of-self-in-Ok
invariant_of-self-in-Ok c =
    let lent : List Planned = c.deref.result.now in
    let orders : ObjectId → ℕ → List Order = orders_in lent in
    let serving : Served = c.self.inside.serving in
    let e : ℕ × QueueNote = (c.in-Some.port, note_of own_tag c.in-Some.event) in
    let b : Before = record {
      lent = lent;
      kept = arc_value c.self.inside.plans;
      seats = serving.seats;
      journal = serving.journal;
      untold = c.self.inside.untold;
      groups = c.self.inside.groups;
      watches = c.self.inside.watches.watches;
      ready = c.prepare.new.self.watches;
    } in
    let a : After ListenerData = record {
      entry = e;
      answer = c.in-Ok.turn;
      journal = c.serve.new.serving.journal;
      untold = c.untold_behind-self-inside.result;
      tick = c.tick_of-tick.result;
      watches = c.behind-wish.new.self.watches;
      wishes = event_puts own_tag c.behind-wish.result;
    } in
    let t : IsTurned b a = turned data_of b a c.groups_hear_turn_by_turn.ensures.heard c.groups_hear_turn_by_turn.ensures.unheard c.turns_are_watched.ensures
    (record {
      same = c.deref.ensures;
      are_kept = c.self.invariant.1;
      prepared = c.prepare.ensures.watches;
      told = ap (λ (s : Server). s.heard) c.self.view_is ∙ c.requires.told ∙ sym (ap (λ (s : Server). s.journal) c.self.view_is);
    })
    (record {
      answers = c.in-Ok.ensures.answer;
      journal = c.in-Ok.ensures.journal;
      tick = c.tick_of-tick.ensures own_tag;
      untold = c.untold_behind-self-inside.ensures ∙ ap (option_map (λ (s : SubId). (s, called_in c.in-Ok.turn))) c.sub_for-sub.ensures;
      watches = c.behind-wish.ensures.notes orders c.in-Ok.ensures.fits;
      wishes = c.behind-wish.ensures.wish own_tag orders c.in-Ok.ensures.fits;
    }) in
    (subst (λ (o : List Planned). ArePlanned (orders_in o) c.serve.new.serving.seats) c.deref.ensures c.serve.ensures.planned, t.kept)

pub invariant_of-self-in-Err : goal.invariant_of-self-in-Err
invariant_of-self-in-Err c =
    let orders : ObjectId → ℕ → List Order = orders_in (arc_value c.self.inside.plans) in (
      subst (λ (s : Served). ArePlanned orders s.seats) (sym c.in-Err.ensures.err) c.self.invariant.0,
      subst (λ (s : Served). AreKept orders s.journal c.self.inside.untold c.self.inside.groups c.prepare.new.self.watches) (sym c.in-Err.ensures.err)
          (subst (λ (ws : List WatchData). AreKept orders c.self.inside.serving.journal c.self.inside.untold c.self.inside.groups ws) (sym c.prepare.ensures.watches) c.self.invariant.1),
    )
