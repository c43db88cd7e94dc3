-- An image is called stale only right after a gap, or at a switch.
use Rattle.std.proofs.Common.{◌≡◌, ℕ, Bool, true, false, nat_le, if◌then◌else◌, List, [], ◌∷◌, ◌++◌, refl, arith, ◌⊎◌, inl, inr, sym, ◌∙◌}
use Rattle.mama_msg.specs.Field.{FieldData}
use Rattle.mama_event.specs.declared.shape.Strategy.{Strategy}
use Rattle.mama_event.specs.declared.market.SubKind.{SubKind}
use Rattle.mama_event.specs.declared.market.SubKind.TheVariants.{Market, Snapshot, Basic}
use Rattle.mama_event.specs.declared.market.MarketMsg.{MarketMsg}
use Rattle.mama_event.specs.declared.callback.Callback.{Callback}
use Rattle.mama_dq.specs.declared.table.Phase.{Phase}
use Rattle.mama_dq.specs.declared.table.Phase.TheVariants.{Await, LiveOk, LiveStale, LiveKept}
use Rattle.mama_dq.specs.declared.table.Relation.{Relation}
use Rattle.mama_dq.specs.declared.table.Relation.TheVariants.{Next, Same, Old, Ahead, Other}
use Rattle.mama_dq.specs.declared.table.Action.{Action}
use Rattle.mama_dq.specs.declared.table.Action.TheVariants.{Keep, Start, Apply, ApplyKeep, KeepOnly, Ignore, Gap, Switch, Replace, Heal, Adopt, StartKeep, Catch, Late, KeepLate}
use Rattle.mama_dq.specs.Table.{is_update, decided, relation_of}
use Rattle.mama_dq.specs.Cache.{emptied, put, Reached, reached}
use Rattle.mama_dq.specs.Context.{ContextData}
use Rattle.mama_dq.specs.Strategy.{updated, update_acted, acted, action_of, as_message, handled, cached_above, healed, reached_last, stopped_short, turned_to, with_image_of, gap_calls, adopt_calls, step_by, snapshot_acted, fold}
use Rattle.mama_dq.specs.Gap.{tells_gap, stale_after_gap, StaleLaw}
use Rattle.mama_dq.proofs.StrategyLemmas.{either_way, not_other, same_sender}

-- what holds with no gap before holds after a gap too
after_any : (gap : Bool) (calls : List Callback) → stale_after_gap false calls ≡ true → stale_after_gap gap calls ≡ true
after_any gap [] is = refl
after_any gap (call ∷ calls) is = grind arith

-- callbacks for which it holds may follow others for which it holds
after_others : (gap : Bool) (xs ys : List Callback) → stale_after_gap gap xs ≡ true → stale_after_gap false ys ≡ true → stale_after_gap gap (xs ++ ys) ≡ true
after_others gap [] ys first later = after_any gap ys later
after_others gap (call ∷ xs) ys first later = grind (arith, after_others (tells_gap call) xs ys)

gap_calls_ok : (phase : Phase) (sender last : ℕ) (m : MarketMsg) → stale_after_gap false (gap_calls phase sender last m) ≡ true
gap_calls_ok Await sender last m = refl
gap_calls_ok LiveOk sender last m = refl
gap_calls_ok LiveStale sender last m = refl
gap_calls_ok LiveKept sender last m = refl

adopt_calls_ok : (phase : Phase) (m : MarketMsg) → stale_after_gap false (adopt_calls phase m) ≡ true
adopt_calls_ok Await m = refl
adopt_calls_ok LiveOk m = refl
adopt_calls_ok LiveStale m = refl
adopt_calls_ok LiveKept m = refl

update_ok : (strategy : Strategy) (phase : Phase) (relation : Relation) (c : ContextData) (m : MarketMsg) → (relation ≡ Other → ⊥) → stale_after_gap false (update_acted (decided strategy phase relation true) c m).calls ≡ true
update_ok strategy Await relation c m other = refl
update_ok strategy LiveOk Next c m other = refl
update_ok strategy LiveOk Same c m other = either_way (λ a. stale_after_gap false (update_acted a c m).calls ≡ true) strategy Ignore Late refl refl
update_ok strategy LiveOk Old c m other = either_way (λ a. stale_after_gap false (update_acted a c m).calls ≡ true) strategy Ignore Late refl refl
update_ok strategy LiveOk Ahead c m other = gap_calls_ok c.phase c.sender c.last m
update_ok strategy LiveOk Other c m other = absurd (other refl)
update_ok strategy LiveStale Next c m other = refl
update_ok strategy LiveStale Same c m other = either_way (λ a. stale_after_gap false (update_acted a c m).calls ≡ true) strategy KeepOnly KeepLate refl refl
update_ok strategy LiveStale Old c m other = either_way (λ a. stale_after_gap false (update_acted a c m).calls ≡ true) strategy KeepOnly KeepLate refl refl
update_ok strategy LiveStale Ahead c m other = gap_calls_ok c.phase c.sender c.last m
update_ok strategy LiveStale Other c m other = absurd (other refl)
update_ok strategy LiveKept Next c m other = refl
update_ok strategy LiveKept Same c m other = either_way (λ a. stale_after_gap false (update_acted a c m).calls ≡ true) strategy Ignore Late refl refl
update_ok strategy LiveKept Old c m other = either_way (λ a. stale_after_gap false (update_acted a c m).calls ≡ true) strategy Ignore Late refl refl
update_ok strategy LiveKept Ahead c m other = either_way (λ a. stale_after_gap false (update_acted a c m).calls ≡ true) strategy Gap Catch (gap_calls_ok c.phase c.sender c.last m) refl
update_ok strategy LiveKept Other c m other = absurd (other refl)

handled_ok : (es : List (ℕ × List FieldData)) (c : ContextData) → stale_after_gap false (handled c es).calls ≡ true
handled_ok [] c = refl
handled_ok (e ∷ es) c =
    after_others false (updated c (as_message c.sender e)).calls (handled (updated c (as_message c.sender e)).context es).calls
    (update_ok c.strategy c.phase (relation_of c.sender c.last (as_message c.sender e)) c (as_message c.sender e)
    (λ other. not_other c.last e.0 (sym (same_sender c.sender c.last (as_message c.sender e) refl) ∙ other)))
    (handled_ok es (updated c (as_message c.sender e)).context)

healed_ok : (r : Reached) (c : ContextData) (m : MarketMsg) → stale_after_gap false (healed r c m).calls ≡ true
healed_ok r c m = elim (nat_le c.last r.number) as (λ b. stale_after_gap false (if b then reached_last r c m else stopped_short c).calls ≡ true) [ true ↦ refl | false ↦ refl ]

acted_ok : (a : Action) (c : ContextData) (m : MarketMsg) → (stale_after_gap false (acted a c m).calls ≡ true) ⊎ (a ≡ Switch)
acted_ok Keep c m = inl refl
acted_ok Start c m = inl (handled_ok (cached_above c m) (with_image_of m (turned_to m.sender c)))
acted_ok Apply c m = inl refl
acted_ok ApplyKeep c m = inl refl
acted_ok KeepOnly c m = inl refl
acted_ok Ignore c m = inl refl
acted_ok Gap c m = inl (gap_calls_ok c.phase c.sender c.last m)
acted_ok Switch c m = inr refl
acted_ok Replace c m = inl refl
acted_ok Heal c m = inl (healed_ok (reached c.cache.updates m.seq m.body) c m)
acted_ok Adopt c m = inl (adopt_calls_ok c.phase m)
acted_ok StartKeep c m = inl refl
acted_ok Catch c m = inl (handled_ok (put c.cache.updates m.seq m.body) (record c { phase = LiveOk; cache = emptied c.cache }))
acted_ok Late c m = inl refl
acted_ok KeepLate c m = inl refl

snapshot_ok : (phase : Phase) (update : Bool) (c : ContextData) (m : MarketMsg) → stale_after_gap false (snapshot_acted phase update c m).calls ≡ true
snapshot_ok Await false c m = refl
snapshot_ok Await true c m = refl
snapshot_ok LiveOk update c m = refl
snapshot_ok LiveStale update c m = refl
snapshot_ok LiveKept update c m = refl

step_ok : (kind : SubKind) (c : ContextData) (m : MarketMsg) → (stale_after_gap false (step_by kind c m).calls ≡ true) ⊎ (action_of c m ≡ Switch)
step_ok Market c m = acted_ok (action_of c m) c m
step_ok Snapshot c m = inl (snapshot_ok c.phase (is_update m.kind) c m)
step_ok Basic c m = inl refl

pub stale_law : StaleLaw
stale_law strategy kind size before m = step_ok (fold strategy kind size before).kind (fold strategy kind size before) m
