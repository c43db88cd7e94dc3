use Rattle.std.specs.List.{flat_map}
use Rattle.std.proofs.Common.{◌≡◌, ◌++◌, map}
use Rattle.mama_journal.specs.Journal.{numbers_below}
use Rattle.mama_event.specs.Listener.{told}
use Rattle.mama_record.specs.RunView.{events_of}
use Rattle.mama_plans.specs.Numbered.{numbered, lists_put}
use Rattle.mama_gather.specs.Left.{events_by, noted_by, none_noted}
use Rattle.mama_gather.specs.Places.{calls_on, AreCallsFound, AreListenersFound}
use Rattle.mama_gather.proofs.queues.QueueEnds.of.Given as goal

abbrev pub invariant-loop-seat : goal.invariant-loop-seat
invariant-loop-seat g l = record {
  whole : l.yielded ++ l.seat-iterator.rest.items ≡ l.fn.seats.items;
  takers : l.ends.takers.items ≡ map (λ s. s.1.inlet.taker) l.yielded;
  to_bridge : l.ends.to_bridge.items ≡ map (λ s. s.1.ports.to_bridge) l.yielded;
  to_timers : l.ends.to_timers.items ≡ map (λ s. s.1.ports.to_timers) l.yielded;
  journals : events_of l.ends.journals.items ≡ map events_by l.yielded;
  calls : AreCallsFound (calls_on l.plans (map events_by l.fn.seats.items)) l.plans l.ends.calls.items;
  noted : numbered l.ends.noted.items ≡ lists_put (flat_map noted_by l.yielded) (map none_noted (numbers_below l.fn.watches));
  listeners : AreListenersFound (told g.L.Tagged.tagged g.L.Listener.calls g.L.Listener.heard g.L.Listener.given g.L.Listener.plan) (calls_on l.plans (map events_by l.fn.seats.items)) l.plans l.ends.listeners.items;
}
