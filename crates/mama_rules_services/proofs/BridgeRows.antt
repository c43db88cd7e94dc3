-- Worked runs of the bridge, computed by its definition.
use Rattle.std.proofs.Common.{◌≡◌, ℕ, List, [], ◌∷◌, refl}
use Rattle.mama_event.specs.declared.ids.SubId.{SubId}
use Rattle.mama_event.specs.declared.ids.ObjectId.TheVariants.{Sub}
use Rattle.mama_event.specs.declared.market.MarketMsg.{MarketMsg}
use Rattle.mama_event.specs.declared.market.MsgKind.{MsgKind}
use Rattle.mama_event.specs.declared.market.MsgKind.TheVariants.{Initial, Update}
use Rattle.mama_event.specs.declared.market.SubKind.TheVariants.{Market}
use Rattle.mama_event.specs.declared.to_bridge.SubTerms.{SubTerms}
use Rattle.mama_link.specs.declared.faults.FaultRow.{FaultRow}
use Rattle.mama_link.specs.declared.faults.Fault.TheVariants.{Hold}
use Rattle.mama_event.specs.declared.to_bridge.BridgeNote.{BridgeNote}
use Rattle.mama_event.specs.declared.to_bridge.BridgeNote.TheVariants as b
use Rattle.mama_event.specs.declared.to_queue.QueueNote.{QueueNote}
use Rattle.mama_event.specs.declared.to_queue.QueueNote.TheVariants as q
use Rattle.mama_event.specs.declared.to_publisher.PublisherNote.TheVariants as p
use Rattle.mama_event.specs.declared.to_timers.TimersNote.TheVariants as t
use Rattle.mama_event.specs.declared.to_queue.Make.TheVariants as make
use Rattle.mama_event.specs.declared.shape.Shape.{Shape}
use Rattle.mama_event.specs.declared.shape.Strategy.TheVariants as strategy
use Rattle.mama_rules_services.specs.Bridge.{to_queue, to_publisher, to_timers, bridge_puts}

abbrev pub small : Shape
small = record { clients = 1; publisher_topics = 0 ∷ []; bounds = record { topics = 1; queues = 1 }; strategy = strategy.One }

abbrev pub sub : ℕ → SubId
sub n = record { client = 0; number = n }

abbrev pub terms : List FaultRow → SubTerms
terms faults = record { topic = 0; kind = Market; queue = 0; cache = 10; recaps = 1000; faults = faults }

abbrev pub msg : MsgKind → ℕ → MarketMsg
msg kind n = record { kind = kind; sender = 1; seq = n; body = [] }

-- a subscription that is left while its link holds a message, and a second one in the slot of the first
abbrev pub two_in_one_slot : List (ℕ × BridgeNote)
two_in_one_slot =
    (0, b.Join (sub 0) (terms (record { index = 2; fault = Hold 5 } ∷ [])) (Sub (sub 0)))
    ∷ (1, b.Image (sub 0) (msg Initial 0))
    ∷ (1, b.Publish (msg Update 1))
    ∷ (0, b.Leave (sub 0))
    ∷ (1, b.SendsDone)
    ∷ (0, b.Join (sub 1) (terms []) (Sub (sub 1)))
    ∷ (1, b.Image (sub 1) (msg Initial 1))
    ∷ (0, b.ClientDone)
    ∷ (1, b.Settled)
    ∷ (2, b.Bye)
    ∷ []

pub puts_of_two_in_one_slot : bridge_puts small two_in_one_slot ≡
    to_queue 0 (q.Create 0 (Sub (sub 0)) (make.Sub Market 10 strategy.One) (Sub (sub 0)))
    ∷ to_publisher 0 (p.Want (sub 0) Initial)
    ∷ to_queue 0 (q.Deliver 0 (sub 0) (msg Initial 0))
    ∷ to_queue 0 (q.Deliver 0 (sub 0) (msg Update 1))
    ∷ to_queue 0 (q.Gone 0 (Sub (sub 0)))
    ∷ to_queue 0 (q.Create 0 (Sub (sub 1)) (make.Sub Market 10 strategy.One) (Sub (sub 1)))
    ∷ to_publisher 0 (p.Want (sub 1) Initial)
    ∷ to_queue 0 (q.Deliver 0 (sub 1) (msg Initial 1))
    ∷ to_publisher 0 p.Settle
    ∷ to_queue 0 (q.Gone 0 (Sub (sub 1)))
    ∷ to_timers t.Fin
    ∷ to_queue 0 q.Fin
    ∷ to_publisher 0 p.Fin
    ∷ []
puts_of_two_in_one_slot = refl
