use Rattle.std.proofs.Common.{◌∙◌, ap, sym, subst}
use Rattle.mama_event.specs.ToPublisher.{note_of}
use Rattle.mama_posts_services.specs.Publisher.{PublisherPostValue, DidLine, IsCaughtUp, did}
use Rattle.mama_posts_services.proofs.PublisherLemmas.{at_ok, made_left, made_taken, still}
use Rattle.mama_posts_services.proofs.publisher.PublisherPost.advance.Goals as goal

pub returns-then-has_left-clause-moved : goal.returns-then-has_left-clause-moved
returns-then-has_left-clause-moved g c = λ is.
    made_left c.args.part.now c.args.self.now c.has_left.new.self c.has_left.result c.has_left.ensures.clear c.if-has_left.true c.has_left.ensures.same

pub returns-in-Some-clause-moved : goal.returns-in-Some-clause-moved
returns-in-Some-clause-moved g c = λ is.
    let same = c.self.view_is ∙ c.has_left.ensures.same in
    made_taken c.args.part.now c.args.self.now c.serve.new.self c.self.inside.state (note_of c.in-Some.event) (ap (λ (v : PublisherPostValue). v.progress) same)
    (at_ok c.serve.result _ is c.serve.ensures.took) (at_ok c.serve.result _ is c.serve.ensures.served)

pub returns-in-None-clause-waiting : goal.returns-in-None-clause-waiting
returns-in-None-clause-waiting g c = λ is.
    let same = c.self.view_is ∙ c.has_left.ensures.same in
    let waits = c.go_on.ensures.waiting is in (
      waits.0 ∙ still _ c.args.self.now c.fetch.new.self same c.in-None.ensures.none,
      ap (λ (v : PublisherPostValue). v.progress.over) (sym same) ∙ waits.1,
      c.has_left.ensures.clear.0 c.if-has_left.false,
      subst (λ (v : PublisherPostValue). IsCaughtUp v.inlet) same c.in-None.ensures.caught_up,
    )

pub returns-in-None-clause-moved : goal.returns-in-None-clause-moved
returns-in-None-clause-moved g c = λ is.
    let same = c.self.view_is ∙ c.has_left.ensures.same in
    did (subst (λ (v : PublisherPostValue). IsCaughtUp v.inlet) same c.in-None.ensures.caught_up)
    (subst (λ (v : PublisherPostValue). DidLine c.args.part.now v c.go_on.new.self) (still _ c.args.self.now c.fetch.new.self same c.in-None.ensures.none) (c.go_on.ensures.did is))
