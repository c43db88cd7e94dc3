-- Worked runs of a queue, computed by its definition.
use Rattle.std.proofs.Common.{◌≡◌, ℕ, List, [], ◌∷◌, refl}
use Rattle.mama_journal.specs.Journal.{puts}
use Rattle.mama_event.specs.declared.ids.SubId.{SubId}
use Rattle.mama_event.specs.declared.ids.ObjectId.{ObjectId}
use Rattle.mama_event.specs.declared.ids.ObjectId.TheVariants.{Sub}
use Rattle.mama_event.specs.declared.market.MarketMsg.{MarketMsg}
use Rattle.mama_event.specs.declared.market.MsgKind.{MsgKind}
use Rattle.mama_event.specs.declared.market.MsgKind.TheVariants.{Initial, Update}
use Rattle.mama_event.specs.declared.market.SubKind.{SubKind}
use Rattle.mama_event.specs.declared.market.SubKind.TheVariants.{Market, Basic}
use Rattle.mama_event.specs.declared.market.Quality.TheVariants as quality
use Rattle.mama_event.specs.declared.callback.Callback.TheVariants as on
use Rattle.mama_event.specs.declared.order.Order.{Order}
use Rattle.mama_event.specs.declared.order.Order.TheVariants as order
use Rattle.mama_event.specs.declared.to_queue.Make.TheVariants as make
use Rattle.mama_event.specs.declared.to_queue.QueueNote.{QueueNote}
use Rattle.mama_event.specs.declared.to_queue.QueueNote.TheVariants as q
use Rattle.mama_event.specs.declared.to_bridge.BridgeNote.TheVariants as b
use Rattle.mama_event.specs.declared.to_timers.TimersNote.TheVariants as t
use Rattle.mama_event.specs.Plan.{planned}
use Rattle.mama_event.specs.declared.shape.Strategy.TheVariants as strategy
use Rattle.mama_rules_queue.specs.Queue.{handled, called, to_bridge, to_timers, deeds, queue_puts_at}

abbrev pub sub : SubId
sub = record { client = 0; number = 0 }

abbrev pub update : ℕ → MarketMsg
update n = record { kind = Update; sender = 1; seq = n; body = [] }

abbrev pub image : ℕ → MarketMsg
image n = record { kind = Initial; sender = 1; seq = n; body = [] }

abbrev pub stops_at_second : ObjectId → ℕ → List Order
stops_at_second o call = planned (record { call = 2; order = order.Stop sub } ∷ []) call

abbrev pub no_orders : ObjectId → ℕ → List Order
no_orders o call = []

-- a stop in its own callback leaves nothing but the notice
abbrev pub stopped : List (ℕ × QueueNote)
stopped =
    (0, q.Create 0 (Sub sub) (make.Sub Basic 10 strategy.One) (Sub sub)) ∷ (0, q.Deliver 0 sub (update 5)) ∷ (0, q.Deliver 0 sub (update 1))
    ∷ (0, q.Gone 0 (Sub sub)) ∷ (0, q.Fin) ∷ (1, q.Fin) ∷ []

pub deeds_of_stopped : deeds stops_at_second stopped ≡
    called (Sub sub) on.Create [] ∷ handled sub (update 5) ∷ called (Sub sub) (on.Msg (update 5) quality.Ok) (order.Stop sub ∷ [])
    ∷ called (Sub sub) on.Destroy [] ∷ []
deeds_of_stopped = refl

pub puts_of_stopped : puts (queue_puts_at stops_at_second) stopped ≡ to_bridge (b.Leave sub) ∷ to_bridge b.Bye ∷ to_timers t.Bye ∷ []
puts_of_stopped = refl

-- a gap makes the image stale and asks for a recap
abbrev pub gapped : List (ℕ × QueueNote)
gapped =
    (0, q.Create 0 (Sub sub) (make.Sub Market 10 strategy.One) (Sub sub)) ∷ (0, q.Deliver 0 sub (image 0)) ∷ (0, q.Deliver 0 sub (update 2)) ∷ []

pub deeds_of_gapped : deeds no_orders gapped ≡
    called (Sub sub) on.Create [] ∷ handled sub (image 0) ∷ called (Sub sub) (on.Msg (image 0) quality.Ok) []
    ∷ handled sub (update 2) ∷ called (Sub sub) (on.Gap 1 1) [] ∷ called (Sub sub) (on.Quality quality.Stale 0) []
    ∷ called (Sub sub) (on.RecapRequest 1) [] ∷ called (Sub sub) (on.Msg (update 2) quality.Stale) [] ∷ []
deeds_of_gapped = refl

pub puts_of_gapped : puts (queue_puts_at no_orders) gapped ≡ to_bridge (b.RecapWish sub 1) ∷ []
puts_of_gapped = refl
