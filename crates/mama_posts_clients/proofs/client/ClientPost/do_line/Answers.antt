use Rattle.std.proofs.Common.{List, [], ◌∷◌, ◌++◌, Some, ◌∙◌, ap, subst}
use Rattle.mama_event.specs.declared.ids.ObjectId.{ObjectId}
use Rattle.mama_event.specs.declared.to_service.ToService.{ToService}
use Rattle.mama_script.specs.declared.client.ClientLine.{ClientLine}
use Rattle.mama_plans.specs.Put.{notes_of}
use Rattle.mama_seats.specs.Stand.{Walk, stand_of, IsStep, IsReading}
use Rattle.mama_seats.specs.Waiting.{waits}
use Rattle.mama_posts_clients.specs.Client.{ClientPostValue, stand_at}
use Rattle.mama_posts_clients.proofs.ClientLemmas.{line_seat, did_line}
use Rattle.mama_posts_clients.proofs.client.ClientPost.do_line.Goals as goal

pub returns-clause-seat : goal.returns-clause-seat
returns-clause-seat g c =
    let script = c.args.script.now in
    let number = c.args.number in
    let step = c.in_ok-step.ensures.step in
    let stepped : IsStep (stand_at script number c.args.self.now.walk) (stand_at script number c.step.new.self) step.0 =
    subst (λ (w : Walk). IsStep (stand_at script number w) (stand_at script number c.step.new.self) step.0) (ap (λ (v : ClientPostValue). v.walk) c.self.view_is)
    (subst (λ (ls : List ClientLine). IsStep (stand_of ls c.self.inside.state) (stand_of ls c.step.new.self) step.0) c.lines_in.ensures step.2) in
    line_seat script number c.args.self.now c.step.new.self c.rest_whole.new.state step.0 (waits c.lay.new.self) c.self.inside.ports c.requires.seat stepped c.rest_whole.ensures.state c.requires.left
    (ap (λ (v : ClientPostValue). v.ports) c.self.view_is)
    (c.lay.ensures ∙ step.1 ∙ ap (λ (xs : List (ToService ObjectId)). notes_of xs ++ step.0) c.lend-out.ensures.empty)

pub returns-clause-did : goal.returns-clause-did
returns-clause-did g c =
    let script = c.args.script.now in
    let number = c.args.number in
    let step = c.in_ok-step.ensures.step in
    let stepped : IsStep (stand_at script number c.args.self.now.walk) (stand_at script number c.step.new.self) step.0 =
    subst (λ (w : Walk). IsStep (stand_at script number w) (stand_at script number c.step.new.self) step.0) (ap (λ (v : ClientPostValue). v.walk) c.self.view_is)
    (subst (λ (ls : List ClientLine). IsStep (stand_of ls c.self.inside.state) (stand_of ls c.step.new.self) step.0) c.lines_in.ensures step.2) in
    did_line script number c.args.moment c.args.self.now.walk c.step.new.self c.rest_whole.new.state step.0 (Some (c.step.new.clock.moment ∷ [])) c.requires.going stepped
    (subst (λ (w : Walk). IsReading (Some (c.args.moment ∷ [])) (Some (c.step.new.clock.moment ∷ [])) (stand_at script number w) (stand_at script number c.step.new.self)) (ap (λ (v : ClientPostValue). v.walk) c.self.view_is)
    (subst (λ (ls : List ClientLine). IsReading (Some (c.args.moment ∷ [])) (Some (c.step.new.clock.moment ∷ [])) (stand_of ls c.self.inside.state) (stand_of ls c.step.new.self)) c.lines_in.ensures c.in_ok-step.ensures.clock))
    c.rest_whole.ensures.state c.rest_whole.ensures.awake
