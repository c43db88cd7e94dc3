-- believed: what a client's calls put, one after another.
use Rattle.std.specs.Prelude.{◌≡◌, true, false, List, [], ◌∷◌, Option, None, Some}
use Rattle.std.specs.List.{filter_map}
use Rattle.mama_event.specs.Lawful.{IsLawful}
use Rattle.mama_event.specs.declared.shape.Bounds.{Bounds}
use Rattle.mama_event.specs.declared.to_bridge.BridgeNote.{BridgeNote}
use Rattle.mama_event.specs.declared.to_timers.TimersNote.{TimersNote}
use Rattle.mama_event.specs.ToBridge as to_bridge
use Rattle.mama_event.specs.ToTimers as to_timers
use Rattle.mama_client.specs.Standing.{ClientData}

-- the bounds within which a client names topics and queues
abbrev pub bounds_of : ClientData → Bounds
bounds_of c = record { topics = c.topics; queues = c.queues }

-- a fact of what is put on a lane, if something is
abbrev pub IfPut : {N : Type 0} → Option N → (N → Type 0) → Type 0
IfPut None P = Unit {0}
IfPut (Some n) P = P n

-- One call of a client puts at most one event on each lane. It puts none where the client is done, and then it stays
-- done; what it puts is within its bounds; and it is done after what is the last.
pub record IsCall (before after : ClientData) (bridge : Option BridgeNote) (timers : Option TimersNote) : Type 0 where
  pub bounds : bounds_of after ≡ bounds_of before
  pub done_bridge : IfPut bridge (λ n. before.done ≡ false)
  pub done_timers : IfPut timers (λ n. before.done ≡ false)
  pub stays : before.done ≡ true → after.done ≡ true
  pub within_bridge : IfPut bridge (λ n. to_bridge.is_within (bounds_of before) n ≡ true)
  pub within_timers : IfPut timers (λ n. to_timers.is_within (bounds_of before) n ≡ true)
  pub last_bridge : IfPut bridge (λ n. to_bridge.is_last n ≡ true → after.done ≡ true)
  pub last_timers : IfPut timers (λ n. to_timers.is_last n ≡ true → after.done ≡ true)

-- a call: the client after it, and what it put
pub record Call : Type 0 where
  pub after : ClientData
  pub bridge : Option BridgeNote
  pub timers : Option TimersNote

-- each is a call of the client as the ones before left it
abbrev pub AreCalls : ClientData → List Call → Type 0
AreCalls c [] = Unit {0}
AreCalls c (call ∷ calls) = IsCall c call.after call.bridge call.timers × AreCalls call.after calls

abbrev pub bridge_in : Call → Option BridgeNote
bridge_in call = call.bridge

abbrev pub timers_in : Call → Option TimersNote
timers_in call = call.timers

-- what the calls of a client put on each lane is what its port may put there
pub record PutsAreLawful (c : ClientData) (calls : List Call) : Type 0 where
  pub bridge : IsLawful to_bridge.is_last (to_bridge.fits (bounds_of c)) (filter_map bridge_in calls)
  pub timers : IsLawful to_timers.is_last (to_timers.fits (bounds_of c)) (filter_map timers_in calls)

abbrev pub CallsAreLawful : Type 0
CallsAreLawful = (c : ClientData) (calls : List Call) → AreCalls c calls → PutsAreLawful c calls
