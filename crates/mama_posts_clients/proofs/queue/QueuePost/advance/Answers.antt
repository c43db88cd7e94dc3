use Rattle.std.proofs.Common.{◌≤◌, ◌+◌, ◌∙◌, length, ap, refl, sym, subst}
use mathlib.Core.List.{IsPrefix}
use Rattle.mama_ends.specs.Inlet.{InletValue}
use Rattle.mama_event.specs.declared.to_queue.QueueNote.{QueueNote}
use Rattle.mama_posts_clients.specs.Queue.{QueuePostValue, IsQueueOf, IsCaughtUp}
use Rattle.mama_posts_clients.proofs.QueueLemmas.{at_ok, some_left, none_left, made_left, made_taken, held_seat, journal_grows, journal_few, still}
use Rattle.mama_posts_clients.proofs.queue.QueuePost.advance.Goals as goal

pub returns-then-not-self-clause-ended : goal.returns-then-not-self-clause-ended
returns-then-not-self-clause-ended g c = (
  (λ is. absurd (cc is)),
  (λ end. absurd (some_left _ c.args.self.now.left c.self.inside.clear (ap (λ (v : QueuePostValue). v.left) c.self.view_is) c.self.invariant c.if-not-self.true end.left)),
)

pub returns-then-not-self-clause-moved : goal.returns-then-not-self-clause-moved
returns-then-not-self-clause-moved g c = λ is.
    made_left c.args.self.now c.args.self.now
    (some_left _ c.args.self.now.left c.self.inside.clear (ap (λ (v : QueuePostValue). v.left) c.self.view_is) c.self.invariant c.if-not-self.true) refl

pub serve-requires-clause-seat : goal.serve-requires-clause-seat
serve-requires-clause-seat g c =
    held_seat c.args.plans.now c.args.number _ c.fetch.new.self _ _ (subst (IsQueueOf c.args.plans.now c.args.number) (sym c.self.view_is) c.requires.seat)
    c.in-Some.ensures.next c.in-Some.ensures.others c.in-Some.ensures.lawful

pub returns-in-Some-clause-grows : goal.returns-in-Some-clause-grows
returns-in-Some-clause-grows g c =
    subst (λ (v : QueuePostValue). IsPrefix v.served.journal c.serve.new.self.served.journal) c.self.view_is
    (journal_grows c.serve.result c.self.inside.serving.journal c.serve.new.self _ _ c.serve.ensures.took c.serve.ensures.back refl)

pub returns-in-Some-clause-few : goal.returns-in-Some-clause-few
returns-in-Some-clause-few g c =
    subst (λ (v : QueuePostValue). length c.serve.new.self.served.journal ≤ length v.served.journal + 1) c.self.view_is
    (journal_few c.serve.result c.self.inside.serving.journal c.serve.new.self _ _ c.serve.ensures.took c.serve.ensures.back refl)

pub returns-in-Some-clause-moved : goal.returns-in-Some-clause-moved
returns-in-Some-clause-moved g c = λ is.
    made_taken c.args.self.now c.serve.new.self _ _
    (none_left _ c.args.self.now.left c.self.inside.clear (ap (λ (v : QueuePostValue). v.left) c.self.view_is) c.self.invariant c.if-not-self.false)
    (ap (λ (v : QueuePostValue). v.served.journal) c.self.view_is)
    (at_ok c.serve.result _ is c.serve.ensures.took) (at_ok c.serve.result _ is c.serve.ensures.served)

pub returns-in-None-clause-waiting : goal.returns-in-None-clause-waiting
returns-in-None-clause-waiting g c = λ is. (
  still _ c.args.self.now c.fetch.new.self c.self.view_is c.in-None.ensures.none,
  none_left _ c.args.self.now.left c.self.inside.clear (ap (λ (v : QueuePostValue). v.left) c.self.view_is) c.self.invariant c.if-not-self.false,
  sym (ap (λ (v : QueuePostValue). v.inlet.kept) c.self.view_is) ∙ sym (ap (λ (i : InletValue QueueNote). i.kept) c.in-None.ensures.none) ∙ c.in-None.ensures.kept,
  subst (λ (v : QueuePostValue). IsCaughtUp v.inlet) c.self.view_is c.in-None.ensures.caught_up,
)
