use Rattle.std.proofs.Common.{ℕ, List, [], ◌∷◌, ◌++◌, map, ◌∙◌, ap, refl, sym, subst}
use Rattle.std.proofs.lemmas.List.{map-append}
use Rattle.mama_event.specs.declared.ids.ObjectId.{ObjectId}
use Rattle.mama_event.specs.declared.to_queue.QueueNote.{QueueNote}
use Rattle.mama_event.specs.Listener.{ListenerData, told}
use Rattle.mama_event.specs.ToQueue.{note_of}
use Rattle.mama_rules_queue.specs.Queue.{QueuePut, queue_puts_at}
use Rattle.mama_timeout.specs.Table.{event_puts}
use Rattle.mama_carry.specs.declared.carried.Carried.{Carried}
use Rattle.mama_laws_allowed.specs.Allowed.{IsTakenLawfully}
use Rattle.mama_plans.specs.Orders.{orders_in}
use Rattle.mama_dispatch.specs.Hearing.{brought}
use Rattle.mama_posts_clients.specs.Queue.{QueuePostValue, plan_of, rows_of_watches, handed_back, told_back, IsQueueOf, holding}
use Rattle.mama_posts_clients.proofs.QueueLemmas.{brings, comes_fresh, planned_next, event_seat, lays, watches_next, wishes_next, rows_kept}
use Rattle.mama_posts_clients.proofs.ReturnLemmas.{handed}
use Rattle.mama_posts_clients.proofs.queue.QueuePost.serve_alone.Goals as goal

pub add_back-requires : goal.add_back-requires
add_back-requires g c = c.make_room.ensures.room c.if-not-make_room.false

pub returns-clause-seat : goal.returns-clause-seat
returns-clause-seat g c =
    let L : Type 0 = g.row.L.Denot in
    let view : L → ListenerData = told g.L.Tagged.tagged g.L.Listener.calls g.L.Listener.heard g.L.Listener.given g.L.Listener.plan in
    let objects = c.args.plans.now in
    let number = c.args._number in
    let port = c.args.port in
    let note : QueueNote = note_of g.L.Tagged.tagged c.args.event in
    let was = c.self.inside.serving in
    let journal : List (ℕ × QueueNote) = was.journal in
    let turn = c.in_ok-turn.ensures in
    let seat = subst (λ (v : QueuePostValue). IsQueueOf objects number (holding v port note)) (sym c.self.view_is) c.requires.seat in
    let lawful : IsTakenLawfully (journal ++ (port, note) ∷ []) = subst IsTakenLawfully seat.taken seat.lawful in
    let comes = brought view c.args.event in
    let fresh = comes_fresh view (plan_of objects) c.args.event c.requires.fresh in
    let brings_it = brings g.L.Tagged.tagged view journal c.args.event (c.lawful_may_come.ensures.entry journal (port, note) lawful.each) in
    let planned = planned_next objects journal port note was.seats c.turn.new.self.seats comes brings_it fresh turn.heard turn.planned seat.planned in
    let fits = c.planned_orders_fit.ensures (orders_in objects) planned in
    let returned = handed view (plan_of objects) (orders_in objects) was.seats journal port seat.heard note c.in_ok-turn.turn (turn.answer (orders_in objects) fits) in
    let orders = orders_in objects in
    let watches = c.self.inside.watches.watches in
    let noted = seat.noted in
    let law = c.turns_are_watched.ensures view orders was.seats (rows_of_watches watches) journal (port, note) c.in_ok-turn.turn (turn.answer orders fits) in
    let tick = c.tick_of-tick.ensures g.L.Tagged.tagged in
    let tagged = λ (l : Carried L g.L.Listener g.L.Tagged). g.L.Tagged.tagged l.listener in
    let wished = wishes_next orders journal c.turn.new.self.journal (port, note) c.tick_of-tick.result c.in_ok-turn.turn watches c.prepare.new.self.watches (event_puts tagged c.behind-wish.result)
    (c.behind-wish.ensures.wish tagged orders fits) c.prepare.ensures.watches tick turn.journal noted law in
    event_seat objects number _ port note comes (told_back view (handed_back c.in_ok-turn.turn)) c.turn.new.self c.behind-wish.new.self.watches c.self.inside.inlet c.self.inside.ports _ (told_back view c.add_back.new.back.items) seat
    (ap (λ (v : QueuePostValue). v.left) c.self.view_is ∙ c.requires.left) (ap (λ (v : QueuePostValue). v.inlet.kept) c.self.view_is ∙ c.requires.kept)
    brings_it fresh turn.queue turn.journal turn.heard turn.planned refl refl
    (ap (λ (ps : List QueuePut). ps ++ event_puts tagged c.behind-wish.result)
    (lays _ c.all.result c.turn.new.out.items _ (queue_puts_at orders journal (port, note)) c.all.ensures (turn.puts orders fits) c.lend-out.ensures.empty)
    ∙ ap (λ (ps : List QueuePut). queue_puts_at orders journal (port, note) ++ ps) wished)
    (watches_next orders journal c.turn.new.self.journal (port, note) c.tick_of-tick.result c.in_ok-turn.turn watches c.prepare.new.self.watches c.behind-wish.new.self.watches
    (c.behind-wish.ensures.notes orders fits) c.prepare.ensures.watches tick turn.journal noted law)
    (ap (told_back view) (c.add_back.ensures ∙ ap (λ (bs : List (ObjectId × L)). bs ++ handed_back c.in_ok-turn.turn) c.make_room.ensures.items)
    ∙ map-append _ c.self.inside.back.items (handed_back c.in_ok-turn.turn))
    returned.objects returned.back c.callbacks_are_streams.ensures c.lawful_may_come.ensures.journal

pub returns-clause-rows : goal.returns-clause-rows
returns-clause-rows g c =
    let L : Type 0 = g.row.L.Denot in
    let view : L → ListenerData = told g.L.Tagged.tagged g.L.Listener.calls g.L.Listener.heard g.L.Listener.given g.L.Listener.plan in
    let objects = c.args.plans.now in
    let orders = orders_in objects in
    let port = c.args.port in
    let note : QueueNote = note_of g.L.Tagged.tagged c.args.event in
    let was = c.self.inside.serving in
    let journal : List (ℕ × QueueNote) = was.journal in
    let turn = c.in_ok-turn.ensures in
    let seat = subst (λ (v : QueuePostValue). IsQueueOf objects c.args._number (holding v port note)) (sym c.self.view_is) c.requires.seat in
    let lawful : IsTakenLawfully (journal ++ (port, note) ∷ []) = subst IsTakenLawfully seat.taken seat.lawful in
    let fresh = comes_fresh view (plan_of objects) c.args.event c.requires.fresh in
    let brings_it = brings g.L.Tagged.tagged view journal c.args.event (c.lawful_may_come.ensures.entry journal (port, note) lawful.each) in
    let planned = planned_next objects journal port note was.seats c.turn.new.self.seats (brought view c.args.event) brings_it fresh turn.heard turn.planned seat.planned in
    let fits = c.planned_orders_fit.ensures orders planned in
    let watches = c.self.inside.watches.watches in
    let law = c.turns_are_watched.ensures view orders was.seats (rows_of_watches watches) journal (port, note) c.in_ok-turn.turn (turn.answer orders fits) in
    ap rows_of_watches
    (watches_next orders journal c.turn.new.self.journal (port, note) c.tick_of-tick.result c.in_ok-turn.turn watches c.prepare.new.self.watches c.behind-wish.new.self.watches
    (c.behind-wish.ensures.notes orders fits) c.prepare.ensures.watches (c.tick_of-tick.ensures g.L.Tagged.tagged) turn.journal seat.noted law)
    ∙ rows_kept orders (journal ++ (port, note) ∷ []) (rows_of_watches watches) ∙ ap (λ (v : QueuePostValue). rows_of_watches v.watches) c.self.view_is
