-- believed: What a queue puts and answers, as plain data.
use Rattle.std.specs.Prelude.{◌≡◌, ℕ, List, [], ◌∷◌, ◌++◌, Option, None, Some}
use Rattle.mama_event.specs.declared.ids.ObjectId.{ObjectId}
use Rattle.mama_event.specs.declared.ids.SubId.{SubId}
use Rattle.mama_event.specs.declared.to_bridge.BridgeNote.TheVariants as b
use Rattle.mama_event.specs.ToBridge.{note_of as bridge_note_of}
use Rattle.mama_event.specs.ToTimers.{note_of as timers_note_of}
use Rattle.mama_rules_queue.specs.Queue.{QueuePut, to_bridge, to_timers}
use Rattle.mama_event.specs.declared.to_service.ToService.{ToService}
use Rattle.mama_event.specs.declared.to_service.ToService.TheVariants as out

-- an event that a queue puts, as its note
abbrev pub put_note : {L : Type 0} → (L → ObjectId) → ToService L → QueuePut
put_note tagged (out.Bridge event) = to_bridge (bridge_note_of tagged event)
put_note tagged (out.Timers event) = to_timers (timers_note_of tagged event)

-- a wish for a recap, if there is one
abbrev pub wished : Option (SubId × ℕ) → List QueuePut
wished None = []
wished (Some w) = to_bridge (b.RecapWish w.0 w.1) ∷ []

-- something was put at the end, and what stood before is as it was
pub record IsAppended {X : Type 0} (before after : List X) : Type 0 where
  pub more : List X
  pub is : after ≡ before ++ more
