use Rattle.std.proofs.Common.{◌≡◌, ◌∙◌, ap, sym}
use Rattle.mama_lane.specs.Values.{LaneValue, note_of_port}
use Rattle.mama_posts_clients.specs.Client.{ClientPostValue}
use Rattle.mama_ends.proofs.Answered.{if_ok}
use Rattle.mama_crew.specs.Client.{ClientSeatValue}
use Rattle.mama_crew.proofs.client.ClientSeat.tell_timers.Goals as goal

pub tell_timers-requires : goal.tell_timers-requires
tell_timers-requires g c = ap (λ (v : ClientSeatValue). v.post.ports.to_timers.lane) c.self.view_is ∙ c.requires ∙ ap (λ (l : LaneValue). l.id) (sym c.to_timers.ensures)

pub returns-clause-note : goal.returns-clause-note
returns-clause-note g c =
    if_ok (λ note. note ≡ note_of_port c.self.inside.post.ports.to_timers) (λ note. note ≡ note_of_port c.args.self.now.post.ports.to_timers) c.tell_timers.result
    (λ note is. is ∙ ap (λ (v : ClientSeatValue). note_of_port v.post.ports.to_timers) c.self.view_is) c.tell_timers.ensures.note

pub returns-clause-same : goal.returns-clause-same
returns-clause-same g c =
    let same = ap (λ (post : ClientPostValue). let seat : ClientSeatValue = record { post = post; reads = c.self.inside.reads } in seat) c.tell_timers.ensures.same in
    same ∙ c.self.view_is
