-- Small cases of the strategies, which compute.
use Rattle.std.specs.Prelude.{codes}
use Rattle.std.proofs.Common.{◌≡◌, ℕ, ◌+◌, List, [], ◌∷◌, refl}
use Rattle.std.specs.List.{flat_map}
use Rattle.mama_msg.specs.Field.{FieldData}
use Rattle.mama_msg.specs.declared.value.Value.TheVariants.{U32}
use Rattle.mama_event.specs.declared.shape.Strategy.{Strategy}
use Rattle.mama_event.specs.declared.shape.Strategy.TheVariants.{One, Two}
use Rattle.mama_event.specs.declared.market.SubKind.TheVariants.{Market}
use Rattle.mama_event.specs.declared.market.MsgKind.TheVariants.{Initial, Update, Recap}
use Rattle.mama_event.specs.declared.market.MarketMsg.{MarketMsg}
use Rattle.mama_event.specs.declared.market.Quality.TheVariants as quality
use Rattle.mama_event.specs.declared.callback.Callback.{Callback}
use Rattle.mama_event.specs.declared.callback.Callback.TheVariants as on
use Rattle.mama_dq.specs.declared.table.Phase.TheVariants.{LiveOk, LiveKept}
use Rattle.mama_dq.specs.Strategy.{fold, calls_of_fold}

-- one field, whose value tells the message that brought it
abbrev bid : ℕ → List FieldData
bid n = record { fid = 22; name = codes "bid"; value = U32 n } ∷ []

abbrev update : ℕ → MarketMsg
update n = record { kind = Update; sender = 1; seq = n; body = bid n }

-- the same update once more, with another body, by which the two are told apart
abbrev again : ℕ → MarketMsg
again n = record { kind = Update; sender = 1; seq = n; body = bid (n + 100) }

abbrev initial : ℕ → MarketMsg
initial n = record { kind = Initial; sender = 1; seq = n; body = bid n }

abbrev recap : ℕ → MarketMsg
recap n = record { kind = Recap; sender = 1; seq = n; body = bid n }

abbrev told : Strategy → ℕ → List MarketMsg → List Callback
told strategy size messages = flat_map (λ calls. calls) (calls_of_fold strategy Market size messages)

-- strategy one: the first image takes the early updates at once, and a full cache had dropped one of them
full_cache_one : told One 2 (update 4 ∷ update 5 ∷ update 6 ∷ initial 3 ∷ recap 4 ∷ [])
    ≡ on.Msg (initial 3) quality.Ok
    ∷ on.Gap 4 4 ∷ on.Quality quality.Stale 3 ∷ on.RecapRequest 1 ∷ on.Msg (update 5) quality.Stale
    ∷ on.Msg (update 6) quality.Stale
    ∷ on.Msg (recap 4) quality.Ok ∷ on.Quality quality.Ok 6 ∷ []
full_cache_one = refl

-- strategy two: they are used at the first gap, and a late update is told
full_cache_two : told Two 2 (update 4 ∷ update 5 ∷ update 6 ∷ initial 3 ∷ update 7 ∷ recap 4 ∷ recap 7 ∷ update 6 ∷ [])
    ≡ on.Msg (initial 3) quality.Ok
    ∷ on.Gap 4 4 ∷ on.Quality quality.Stale 3 ∷ on.RecapRequest 1 ∷ on.Msg (update 5) quality.Stale
    ∷ on.Msg (update 6) quality.Stale ∷ on.Msg (update 7) quality.Stale
    ∷ on.RecapRequest 1
    ∷ on.Msg (recap 7) quality.Ok ∷ on.Quality quality.Ok 7
    ∷ on.Late 1 6 ∷ []
full_cache_two = refl

-- a gap that the kept updates close is not told; the kept one of two updates with one number is the first that came
closed_gap : told Two 10 (update 11 ∷ update 12 ∷ initial 10 ∷ again 12 ∷ [])
    ≡ on.Msg (initial 10) quality.Ok ∷ on.Msg (update 11) quality.Ok ∷ on.Msg (update 12) quality.Ok ∷ []
closed_gap = refl

-- while updates are kept, the phase says so; the next update drops the kept one with its number
kept_phase : (fold Two Market 10 (update 11 ∷ initial 10 ∷ [])).phase ≡ LiveKept
kept_phase = refl

used_phase : (fold Two Market 10 (update 11 ∷ initial 10 ∷ update 11 ∷ [])).phase ≡ LiveOk
used_phase = refl

-- while the image may lack updates, a late update is kept and told, and heals with the others
late_heals : told Two 10 (initial 1 ∷ update 4 ∷ update 3 ∷ recap 2 ∷ [])
    ≡ on.Msg (initial 1) quality.Ok
    ∷ on.Gap 2 3 ∷ on.Quality quality.Stale 1 ∷ on.RecapRequest 1 ∷ on.Msg (update 4) quality.Stale
    ∷ on.Late 1 3
    ∷ on.Msg (recap 2) quality.Ok ∷ on.Quality quality.Ok 4 ∷ []
late_heals = refl
