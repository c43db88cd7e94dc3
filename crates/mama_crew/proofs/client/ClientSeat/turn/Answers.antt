use mathlib.Core.List.{IsPrefix}
use Rattle.std.specs.Prelude.{[]}
use Rattle.std.proofs.Common.{◌≡◌, ◌∙◌, ap, sym, subst}
use Rattle.mama_lane.specs.Values.{LaneValue}
use Rattle.mama_posts_clients.specs.Client.{IsClientOf, HasEnded, MadeStep}
use Rattle.mama_crew.specs.Client.{ClientSeatValue}
use Rattle.mama_crew.proofs.SeatLemmas.{client_turned, client_same}
use Rattle.mama_crew.proofs.client.ClientSeat.turn.Goals as goal

pub turn-pace-requires-clause-seat : goal.turn-pace-requires-clause-seat
turn-pace-requires-clause-seat g c = subst (λ (v : ClientSeatValue). IsClientOf c.args.script.now c.args.number v.post) (sym c.self.view_is) c.requires.keeps

pub turn-pace-requires-clause-bridge : goal.turn-pace-requires-clause-bridge
turn-pace-requires-clause-bridge g c =
    ap (λ (v : ClientSeatValue). v.post.ports.to_bridge.lane) c.self.view_is ∙ c.requires.on_bridge.lane_is ∙ ap (λ (l : LaneValue). l.id) (sym c.to_bridge-bridge.ensures)

pub turn-pace-requires-clause-timers : goal.turn-pace-requires-clause-timers
turn-pace-requires-clause-timers g c =
    ap (λ (v : ClientSeatValue). v.post.ports.to_timers.lane) c.self.view_is ∙ c.requires.on_timers.lane_is ∙ ap (λ (l : LaneValue). l.id) (sym c.to_timers-timers.ensures)

pub returns-clause-seat : goal.returns-clause-seat
returns-clause-seat g c =
    client_turned c.args.script.now c.args.hall.now c.args.number c.self.inside.post c.args.self.now _ (ap (λ (v : ClientSeatValue). v.post) c.self.view_is) c.requires
    c.turn-pace.ensures.seat c.turn-pace.ensures.place c.is_reading-reads.ensures

pub returns-clause-grows : goal.returns-clause-grows
returns-clause-grows g c = subst (λ (v : ClientSeatValue). IsPrefix v.post.walk.read c.turn-pace.new.self.walk.read) c.self.view_is c.turn-pace.ensures.grows

pub returns-clause-waiting : goal.returns-clause-waiting
returns-clause-waiting g c = λ is. absurd (c.turn-pace.ensures.waiting is)

pub returns-clause-ended : goal.returns-clause-ended
returns-clause-ended g c = (
  (λ is. subst (λ (v : ClientSeatValue). HasEnded v.post) c.self.view_is (c.turn-pace.ensures.ended.0 is)),
  (λ end. c.turn-pace.ensures.ended.1 (subst (λ (v : ClientSeatValue). HasEnded v.post) (sym c.self.view_is) end)),
)

pub returns-clause-over : goal.returns-clause-over
returns-clause-over g c = λ is.
    client_same c.args.script.now c.args.number c.args.self.now _ c.requires.reads c.is_reading-reads.ensures (c.turn-pace.ensures.over is ∙ ap (λ (v : ClientSeatValue). v.post) c.self.view_is)

pub returns-clause-moved : goal.returns-clause-moved
returns-clause-moved g c = λ is.
    subst (λ (v : ClientSeatValue). MadeStep c.args.script.now c.args.number c.args.moment v.post c.turn-pace.new.self × (c.turn-pace.new.self.left ≡ [])) c.self.view_is (c.turn-pace.ensures.moved is)
