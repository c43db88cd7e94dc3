use Rattle.std.specs.List.{list_any}
use Rattle.std.proofs.Common.{◌∙◌, ap, sym, subst}
use Rattle.mama_rules_legal.specs.Lines.{takes_settle}
use Rattle.mama_seats.specs.Sender.{Progress, sender_of, IsSenderStep}
use Rattle.mama_posts_services.specs.Publisher.{PublisherPostValue}
use Rattle.mama_posts_services.proofs.PublisherLemmas.{line_seat, line_settled}
use Rattle.mama_posts_services.proofs.ServiceLemmas.{lays_all}
use Rattle.mama_posts_services.proofs.publisher.PublisherPost.do_line.Goals as goal

pub invariant_of-self-2 : goal.invariant_of-self-2
invariant_of-self-2 g c =
    let part = c.args.part.now in
    let step = c.in_ok-step.ensures.step in
    let stepped = subst (λ (p : Progress). IsSenderStep (sender_of part p) (sender_of part c.step.new.self) step.0) (ap (λ (v : PublisherPostValue). v.progress) c.self.view_is) step.2 in
    c.self.invariant ∙ ap (λ (v : PublisherPostValue). list_any takes_settle v.progress.journal) c.self.view_is
    ∙ sym (line_settled part c.args._number c.args.self.now c.step.new.self step.0 c.requires.seat c.requires.going stepped)

pub returns-clause-seat : goal.returns-clause-seat
returns-clause-seat g c =
    let part = c.args.part.now in
    let step = c.in_ok-step.ensures.step in
    let stepped = subst (λ (p : Progress). IsSenderStep (sender_of part p) (sender_of part c.step.new.self) step.0) (ap (λ (v : PublisherPostValue). v.progress) c.self.view_is) step.2 in
    line_seat part c.args._number c.args.self.now c.step.new.self _ _ step.0 _ c.requires.seat c.requires.going c.requires.left stepped c.step.ensures.seated
    (ap (λ (v : PublisherPostValue). v.port) c.self.view_is) (ap (λ (v : PublisherPostValue). v.inlet) c.self.view_is)
    (lays_all _ c.all.result c.step.new.out.items _ step.0 c.all.ensures step.1 c.lend-out.ensures.empty)
