-- A context keeps its cache small: it holds no more updates than its size.
use Rattle.std.specs.Prelude.{nat_le, nat_lt, Result, Ok, Err, OnOk, OnErr, if◌then◌else◌}
use Rattle.std.proofs.Common.{◌≡◌, ℕ, suc, ◌≤◌, Bool, true, false, cond, ◌==◌, List, [], ◌∷◌, length, drop, length-drop, refl, sym, subst, arith}
use Rattle.std.proofs.lemmas.Bool.Decides.{nat_tests}
use Rattle.std.specs.Ordering.{nat_cmp}
use Rattle.std.specs.BTreeMap.{insert_entry}
use Rattle.mama_msg.specs.Field.{FieldData}
use Rattle.mama_event.specs.declared.market.SubKind.{SubKind}
use Rattle.mama_event.specs.declared.market.SubKind.TheVariants.{Market, Snapshot, Basic}
use Rattle.mama_event.specs.declared.market.MarketMsg.{MarketMsg}
use Rattle.mama_dq.specs.declared.table.Phase.{Phase}
use Rattle.mama_dq.specs.declared.table.Phase.TheVariants.{Await, LiveOk, LiveStale, LiveKept}
use Rattle.mama_dq.specs.declared.table.Action.{Action}
use Rattle.mama_dq.specs.declared.table.Action.TheVariants.{Keep, Start, Apply, ApplyKeep, KeepOnly, Ignore, Gap, Switch, Replace, Heal, Adopt, StartKeep, Catch, Late, KeepLate}
use Rattle.mama_dq.specs.Table.{is_update, decided, relation_of}
use Rattle.mama_dq.specs.Cache.{CacheData, Reached, reached, above, emptied, has_number, put, trimmed, added}
use Rattle.mama_dq.specs.Context.{ContextData}
use Rattle.mama_dq.proofs.Comparisons.{lt_false}
use Rattle.mama_dq.specs.Strategy.{settled, with_update, update_acted, updated, acted, as_message, handled, cached_above, healed, reached_last, stopped_short, with_image_of, turned_to, waiting_for, snapshot_acted, action_of, step_by, after}
use Rattle.mama_dispatch.specs.Rows.{IsSmall}

-- an update more is at most one more
inserted_few : (es : List (ℕ × List FieldData)) (n : ℕ) (body : List FieldData) → length (insert_entry nat_cmp es n body) ≤ suc (length es)
inserted_few [] n body = omega arith
inserted_few (e ∷ es) n body = grind (arith, nat_tests, inserted_few es n body)

pub put_few : (es : List (ℕ × List FieldData)) (n : ℕ) (body : List FieldData) → length (put es n body) ≤ suc (length es)
put_few es n body = elim (has_number es n) as (λ b. length (if b then es else insert_entry nat_cmp es n body) ≤ suc (length es)) [ true ↦ omega arith | false ↦ inserted_few es n body ]

-- and where there are too many, one leaves
trimmed_few : (size : ℕ) (es : List (ℕ × List FieldData)) → length es ≤ suc size → length (trimmed size es) ≤ size
trimmed_few size es few =
    elim (nat_lt size (length es)) as (λ b. nat_lt size (length es) ≡ b → length (if b then drop 1 es else es) ≤ size) [
      | true ↦ λ more. omega (arith, few, length-drop 1 es)
      | false ↦ λ enough. lt_false size (length es) enough
    ] refl

added_small : (cache : CacheData) (n : ℕ) (body : List FieldData) → IsSmall cache → IsSmall (added cache n body)
added_small cache n body small = record {
  size = small.size;
  within = trimmed_few cache.size (put cache.updates n body) (omega (arith, put_few cache.updates n body, small.within));
}

-- an empty cache is small
emptied_small : (c : ContextData) (sender : ℕ) → IsSmall c.cache → IsSmall (turned_to sender c).cache
emptied_small c sender small = record { size = small.size; within = omega arith }

waiting_small : (c : ContextData) (sender : ℕ) → IsSmall c.cache → IsSmall (waiting_for sender c).cache
waiting_small c sender small = elim (c.sender == sender) as (λ b. IsSmall (if b then c else turned_to sender c).cache) [ true ↦ small | false ↦ emptied_small c sender small ]

above_few : (n : ℕ) (es : List (ℕ × List FieldData)) → length (above n es) ≤ length es
above_few n [] = omega arith
above_few n (e ∷ es) =
    let rest : length (above n es) ≤ length es = above_few n es in
    elim (nat_lt n e.0) as (λ b. length (cond b (e ∷ above n es) (above n es)) ≤ suc (length es)) [ true ↦ omega arith | false ↦ omega arith ]

-- what is kept above the last number is no more than there was
settled_small : (c : ContextData) → IsSmall c.cache → IsSmall (settled c).cache
settled_small c small = record { size = small.size; within = omega (arith, small.within, above_few c.last c.cache.updates) }

healed_small : (r : Reached) (c : ContextData) (m : MarketMsg) → IsSmall c.cache → IsSmall (healed r c m).context.cache
healed_small r c m small = elim (nat_le c.last r.number) as (λ b. IsSmall (if b then reached_last r c m else stopped_short c).context.cache) [ true ↦ emptied_small c c.sender small | false ↦ small ]

update_small : (a : Action) (c : ContextData) (m : MarketMsg) → IsSmall c.cache → IsSmall (update_acted a c m).context.cache
update_small Keep c m small = small
update_small Start c m small = small
update_small Apply c m small = settled_small (with_update LiveOk c m) small
update_small ApplyKeep c m small = added_small c.cache m.seq m.body small
update_small KeepOnly c m small = added_small c.cache m.seq m.body small
update_small Ignore c m small = small
update_small Gap c m small = added_small c.cache m.seq m.body small
update_small Switch c m small = added_small (turned_to m.sender c).cache m.seq m.body (emptied_small c m.sender small)
update_small Replace c m small = small
update_small Heal c m small = small
update_small Adopt c m small = small
update_small StartKeep c m small = small
update_small Catch c m small = small
update_small Late c m small = small
update_small KeepLate c m small = added_small c.cache m.seq m.body small

updated_small : (c : ContextData) (m : MarketMsg) → IsSmall c.cache → IsSmall (updated c m).context.cache
updated_small c m small = update_small (decided c.strategy c.phase (relation_of c.sender c.last m) true) c m small

handled_small : (c : ContextData) (es : List (ℕ × List FieldData)) → IsSmall c.cache → IsSmall (handled c es).context.cache
handled_small c [] small = small
handled_small c (e ∷ es) small = handled_small (updated c (as_message c.sender e)).context es (updated_small c (as_message c.sender e) small)

acted_small : (a : Action) (c : ContextData) (m : MarketMsg) → IsSmall c.cache → IsSmall (acted a c m).context.cache
acted_small Keep c m small = added_small (waiting_for m.sender c).cache m.seq m.body (waiting_small c m.sender small)
acted_small Start c m small = handled_small (with_image_of m (turned_to m.sender c)) (cached_above c m) (emptied_small c m.sender small)
acted_small Apply c m small = update_small Apply c m small
acted_small ApplyKeep c m small = update_small ApplyKeep c m small
acted_small KeepOnly c m small = update_small KeepOnly c m small
acted_small Ignore c m small = small
acted_small Gap c m small = update_small Gap c m small
acted_small Switch c m small = update_small Switch c m small
acted_small Replace c m small = settled_small (with_image_of m c) small
acted_small Heal c m small = healed_small (reached c.cache.updates m.seq m.body) c m small
acted_small Adopt c m small = emptied_small c m.sender small
acted_small StartKeep c m small = settled_small (with_image_of m (waiting_for m.sender c)) (waiting_small c m.sender small)
acted_small Catch c m small = handled_small (record c { phase = LiveOk; cache = emptied c.cache }) (put c.cache.updates m.seq m.body) (emptied_small c c.sender small)
acted_small Late c m small = small
acted_small KeepLate c m small = update_small KeepLate c m small

snapshot_small : (p : Phase) (update : Bool) (c : ContextData) (m : MarketMsg) → IsSmall c.cache → IsSmall (snapshot_acted p update c m).context.cache
snapshot_small Await false c m small = emptied_small c m.sender small
snapshot_small Await true c m small = small
snapshot_small LiveOk update c m small = small
snapshot_small LiveStale update c m small = small
snapshot_small LiveKept update c m small = small

small_by : (k : SubKind) (c : ContextData) (m : MarketMsg) → IsSmall c.cache → IsSmall (step_by k c m).context.cache
small_by Market c m small = acted_small (action_of c m) c m small
small_by Snapshot c m small = snapshot_small c.phase (is_update m.kind) c m small
small_by Basic c m small = small

-- a message leaves the cache small
pub stays_small : (c : ContextData) (m : MarketMsg) → IsSmall c.cache → IsSmall (after c m).cache
stays_small c m small = small_by c.kind c m small

-- so does one for which no memory was found
pub step_small : {T E : Type 0} (r : Result T E) (before now : ContextData) (m : MarketMsg) → OnOk r (now ≡ after before m) → OnErr r (now ≡ before) → IsSmall before.cache → IsSmall now.cache
step_small (Ok x) before now m ok err small = subst (λ (c : ContextData). IsSmall c.cache) (sym ok) (stays_small before m small)
step_small (Err e) before now m ok err small = subst (λ (c : ContextData). IsSmall c.cache) (sym err) small
