-- A step leaves the kind and the strategy of a context.
use Rattle.std.proofs.Common.{◌≡◌, ℕ, Bool, true, false, ◌==◌, nat_le, if◌then◌else◌, List, [], ◌∷◌, refl, ◌∙◌}
use Rattle.mama_msg.specs.Field.{FieldData}
use Rattle.mama_event.specs.declared.market.SubKind.{SubKind}
use Rattle.mama_event.specs.declared.market.SubKind.TheVariants.{Market, Snapshot, Basic}
use Rattle.mama_event.specs.declared.market.MarketMsg.{MarketMsg}
use Rattle.mama_dq.specs.declared.table.Phase.{Phase}
use Rattle.mama_dq.specs.declared.table.Phase.TheVariants.{Await, LiveOk, LiveStale, LiveKept}
use Rattle.mama_dq.specs.declared.table.Action.{Action}
use Rattle.mama_dq.specs.declared.table.Action.TheVariants.{Keep, Start, Apply, ApplyKeep, KeepOnly, Ignore, Gap, Switch, Replace, Heal, Adopt, StartKeep, Catch, Late, KeepLate}
use Rattle.mama_dq.specs.Table.{is_update, decided, relation_of}
use Rattle.mama_dq.specs.Cache.{emptied, put, Reached, reached}
use Rattle.mama_dq.specs.Context.{ContextData}
use Rattle.mama_dq.specs.Strategy.{updated, update_acted, acted, action_of, as_message, handled, cached_above, healed, reached_last, stopped_short, turned_to, with_image_of, waiting_for, step_by, snapshot_acted, after, after_all}

-- two contexts are of one kind and one strategy
pub record AreAlike (a b : ContextData) : Type 0 where
  pub kind : a.kind ≡ b.kind
  pub strategy : a.strategy ≡ b.strategy

alike : (c : ContextData) → AreAlike c c
alike c = record { kind = refl; strategy = refl }

alike_through : (a b c : ContextData) → AreAlike a b → AreAlike b c → AreAlike a c
alike_through a b c first second = record { kind = first.kind ∙ second.kind; strategy = first.strategy ∙ second.strategy }

update_alike : (a : Action) (c : ContextData) (m : MarketMsg) → AreAlike (update_acted a c m).context c
update_alike Keep c m = alike c
update_alike Start c m = alike c
update_alike Apply c m = record { kind = refl; strategy = refl }
update_alike ApplyKeep c m = record { kind = refl; strategy = refl }
update_alike KeepOnly c m = record { kind = refl; strategy = refl }
update_alike Ignore c m = alike c
update_alike Gap c m = record { kind = refl; strategy = refl }
update_alike Switch c m = record { kind = refl; strategy = refl }
update_alike Replace c m = alike c
update_alike Heal c m = alike c
update_alike Adopt c m = alike c
update_alike StartKeep c m = alike c
update_alike Catch c m = alike c
update_alike Late c m = alike c
update_alike KeepLate c m = record { kind = refl; strategy = refl }

handled_alike : (es : List (ℕ × List FieldData)) (c : ContextData) → AreAlike (handled c es).context c
handled_alike [] c = alike c
handled_alike (e ∷ es) c =
    let next : ContextData = (updated c (as_message c.sender e)).context in
    alike_through (handled next es).context next c (handled_alike es next)
    (update_alike (decided c.strategy c.phase (relation_of c.sender c.last (as_message c.sender e)) true) c (as_message c.sender e))

waiting_alike : (sender : ℕ) (c : ContextData) → AreAlike (waiting_for sender c) c
waiting_alike sender c = elim (c.sender == sender) as (λ b. AreAlike (if b then c else turned_to sender c) c) [
  | true ↦ alike c
  | false ↦ record { kind = refl; strategy = refl }
]

healed_alike : (r : Reached) (c : ContextData) (m : MarketMsg) → AreAlike (healed r c m).context c
healed_alike r c m = elim (nat_le c.last r.number) as (λ b. AreAlike (if b then reached_last r c m else stopped_short c).context c) [
  | true ↦ record { kind = refl; strategy = refl }
  | false ↦ alike c
]

acted_alike : (a : Action) (c : ContextData) (m : MarketMsg) → AreAlike (acted a c m).context c
acted_alike Keep c m = record { kind = (waiting_alike m.sender c).kind; strategy = (waiting_alike m.sender c).strategy }
acted_alike Start c m =
    let begun : ContextData = with_image_of m (turned_to m.sender c) in
    alike_through (handled begun (cached_above c m)).context begun c (handled_alike (cached_above c m) begun) (record { kind = refl; strategy = refl })
acted_alike Apply c m = update_alike Apply c m
acted_alike ApplyKeep c m = update_alike ApplyKeep c m
acted_alike KeepOnly c m = update_alike KeepOnly c m
acted_alike Ignore c m = alike c
acted_alike Gap c m = update_alike Gap c m
acted_alike Switch c m = update_alike Switch c m
acted_alike Replace c m = record { kind = refl; strategy = refl }
acted_alike Heal c m = healed_alike (reached c.cache.updates m.seq m.body) c m
acted_alike Adopt c m = record { kind = refl; strategy = refl }
acted_alike StartKeep c m = record { kind = (waiting_alike m.sender c).kind; strategy = (waiting_alike m.sender c).strategy }
acted_alike Catch c m =
    let bare : ContextData = record c { phase = LiveOk; cache = emptied c.cache } in
    let all : List (ℕ × List FieldData) = put c.cache.updates m.seq m.body in
    alike_through (handled bare all).context bare c (handled_alike all bare) (record { kind = refl; strategy = refl })
acted_alike Late c m = update_alike Late c m
acted_alike KeepLate c m = update_alike KeepLate c m

snapshot_alike : (phase : Phase) (update : Bool) (c : ContextData) (m : MarketMsg) → AreAlike (snapshot_acted phase update c m).context c
snapshot_alike Await false c m = record { kind = refl; strategy = refl }
snapshot_alike Await true c m = alike c
snapshot_alike LiveOk update c m = alike c
snapshot_alike LiveStale update c m = alike c
snapshot_alike LiveKept update c m = alike c

step_alike : (kind : SubKind) (c : ContextData) (m : MarketMsg) → AreAlike (step_by kind c m).context c
step_alike Market c m = acted_alike (action_of c m) c m
step_alike Snapshot c m = snapshot_alike c.phase (is_update m.kind) c m
step_alike Basic c m = alike c

-- a message leaves the kind of the context
pub after_kind : (c : ContextData) (m : MarketMsg) → (after c m).kind ≡ c.kind
after_kind c m = (step_alike c.kind c m).kind

-- and its strategy
pub after_strategy : (c : ContextData) (m : MarketMsg) → (after c m).strategy ≡ c.strategy
after_strategy c m = (step_alike c.kind c m).strategy

-- so do some messages
pub after_all_kind : (ms : List MarketMsg) (c : ContextData) → (after_all c ms).kind ≡ c.kind
after_all_kind [] c = refl
after_all_kind (m ∷ ms) c = after_all_kind ms (after c m) ∙ after_kind c m

pub after_all_strategy : (ms : List MarketMsg) (c : ContextData) → (after_all c ms).strategy ≡ c.strategy
after_all_strategy [] c = refl
after_all_strategy (m ∷ ms) c = after_all_strategy ms (after c m) ∙ after_strategy c m
