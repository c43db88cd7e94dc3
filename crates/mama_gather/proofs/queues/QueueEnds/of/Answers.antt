use Rattle.std.specs.Prelude.{slice_index_or}
use Rattle.std.proofs.Common.{◌≡◌, ℕ, List, [], ◌∷◌, map, rules, arith, ap, ◌∙◌}
use Rattle.std.proofs.lemmas.Grind.{common_steps}
use Rattle.std.specs.List.{flat_map}
use Rattle.mama_journal.specs.Journal.{numbers_below}
use Rattle.mama_event.specs.declared.to_queue.QueueNote.{QueueNote}
use Rattle.mama_record.specs.RunView.{events_of}
use Rattle.mama_posts_clients.specs.Queue.{QueuePostValue, IsQueueOf, calls_by}
use Rattle.mama_plans.specs.Numbered.{numbered, lists_put}
use Rattle.mama_gather.specs.Left.{events_by, noted_by, none_noted}
use Rattle.mama_gather.specs.Places.{calls_on}
use Rattle.mama_gather.proofs.Lists.{mapped_more, whole_more}
use Rattle.mama_gather.proofs.Putting.{queue_more}
use Rattle.mama_gather.proofs.Parting.{seat_here, journal_here}
use Rattle.mama_gather.proofs.queues.QueueEnds.of.Goals as goal

pub loop-seat-init : goal.loop-seat-init
loop-seat-init g c =
    let e = c.in_ok-ends.ensures in
    record {
      whole = first_of (search rules, grind (arith, common_steps));
      takers = e.takers;
      to_bridge = e.to_bridge;
      to_timers = e.to_timers;
      journals = ap events_of e.journals;
      noted = e.noted;
      calls = e.calls (calls_on c.args.plans.now (map events_by c.args.seats.items));
      listeners = e.listeners (calls_on c.args.plans.now (map events_by c.args.seats.items));
    }

pub add-requires : goal.add-requires
add-requires g c =
    let first : c.loop-seat.seat-iterator.rest.items ≡ c.in-Some.seat ∷ c.next.new.self.rest.items = search rules in
    let whole = whole_more c.loop-seat.yielded c.in-Some.seat c.loop-seat.seat-iterator.rest.items c.next.new.self.rest.items c.args.seats.items first c.loop-seat.invariant.whole in
    record { keeps = seat_here (λ (s : ℕ × QueuePostValue). IsQueueOf c.args.plans.now s.0 s.1) c.args.seats.items c.loop-seat.yielded c.next.new.self.rest.items c.in-Some.seat whole c.requires.keeps }

pub loop-seat-preserved : goal.loop-seat-preserved
loop-seat-preserved g c =
    let i = c.loop-seat.invariant in
    let e = c.in_ok-add.ensures in
    let first : c.loop-seat.seat-iterator.rest.items ≡ c.in-Some.seat ∷ c.next.new.self.rest.items = search rules in
    let whole = whole_more c.loop-seat.yielded c.in-Some.seat c.loop-seat.seat-iterator.rest.items c.next.new.self.rest.items c.args.seats.items first i.whole in
    let journals : List (List (ℕ × QueueNote)) = map events_by c.args.seats.items in
    let here : slice_index_or journals c.in-Some.seat.0 [] ≡ events_by c.in-Some.seat =
    journal_here c.args.seats.items c.loop-seat.yielded c.next.new.self.rest.items c.in-Some.seat whole c.requires.numbers in
    record {
      whole = whole;
      takers = mapped_more (λ (s : ℕ × QueuePostValue). s.1.inlet.taker) c.loop-seat.yielded c.in-Some.seat c.loop-seat.ends.takers.items c.add.new.self.takers.items e.takers i.takers;
      to_bridge = mapped_more (λ (s : ℕ × QueuePostValue). s.1.ports.to_bridge) c.loop-seat.yielded c.in-Some.seat c.loop-seat.ends.to_bridge.items c.add.new.self.to_bridge.items e.to_bridge i.to_bridge;
      to_timers = mapped_more (λ (s : ℕ × QueuePostValue). s.1.ports.to_timers) c.loop-seat.yielded c.in-Some.seat c.loop-seat.ends.to_timers.items c.add.new.self.to_timers.items e.to_timers i.to_timers;
      journals = mapped_more events_by c.loop-seat.yielded c.in-Some.seat (events_of c.loop-seat.ends.journals.items) (events_of c.add.new.self.journals.items) e.journals i.journals;
      noted = queue_more c.loop-seat.yielded c.in-Some.seat (map none_noted (numbers_below c.args.watches)) (numbered c.loop-seat.ends.noted.items) (numbered c.add.new.self.noted.items) e.noted i.noted;
      calls = e.calls (calls_on c.args.plans.now journals) (λ o. ap (λ (j : List (ℕ × QueueNote)). calls_by c.args.plans.now j o) here) i.calls;
      listeners = e.listeners (calls_on c.args.plans.now journals) (λ o. ap (λ (j : List (ℕ × QueueNote)). calls_by c.args.plans.now j o) here) i.listeners;
    }

pub returns-clause-journals : goal.returns-clause-journals
returns-clause-journals g c =
    let same : c.loop-seat.yielded ≡ c.args.seats.items = first_of (search rules, grind (arith, common_steps)) in
    c.loop-seat.invariant.journals ∙ ap (map events_by) same

pub returns-clause-noted : goal.returns-clause-noted
returns-clause-noted g c =
    let same : c.loop-seat.yielded ≡ c.args.seats.items = first_of (search rules, grind (arith, common_steps)) in
    c.loop-seat.invariant.noted ∙ ap (λ (ss : List (ℕ × QueuePostValue)). lists_put (flat_map noted_by ss) (map none_noted (numbers_below c.args.watches))) same
