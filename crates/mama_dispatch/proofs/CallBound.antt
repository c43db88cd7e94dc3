-- How many callbacks a message can make.
use Rattle.std.specs.Prelude.{nat_le, if◌then◌else◌}
use Rattle.std.proofs.Common.{◌≡◌, ℕ, suc, ◌+◌, ◌*◌, ◌≤◌, Bool, true, false, cond, ◌==◌, nat_lt, List, [], ◌∷◌, ◌++◌, length, refl, length-append, sym, subst, arith}
use Rattle.std.specs.List.{list_all}
use Rattle.std.proofs.lemmas.Bool.{and_parts, and_from}
use Rattle.mama_msg.specs.Field.{FieldData}
use Rattle.mama_event.specs.declared.market.SubKind.{SubKind}
use Rattle.mama_event.specs.declared.market.SubKind.TheVariants.{Market, Snapshot, Basic}
use Rattle.mama_event.specs.declared.market.MarketMsg.{MarketMsg}
use Rattle.mama_event.specs.declared.callback.Callback.{Callback}
use Rattle.mama_event.specs.declared.shape.Strategy.{Strategy}
use Rattle.mama_event.specs.declared.shape.Strategy.TheVariants.{One, Two}
use Rattle.mama_dq.specs.declared.table.Phase.{Phase}
use Rattle.mama_dq.specs.declared.table.Phase.TheVariants.{Await, LiveOk, LiveStale, LiveKept}
use Rattle.mama_dq.specs.declared.table.Relation.{Relation}
use Rattle.mama_dq.specs.declared.table.Relation.TheVariants.{Next, Same, Old, Ahead, Other}
use Rattle.mama_dq.specs.declared.table.Action.{Action}
use Rattle.mama_dq.specs.declared.table.Action.TheVariants.{Keep, Start, Apply, ApplyKeep, KeepOnly, Ignore, Gap, Switch, Replace, Heal, Adopt, StartKeep, Catch, Late, KeepLate}
use Rattle.mama_dq.specs.Table.{is_update, decided, relation_of}
use Rattle.mama_dq.specs.Cache.{Reached, reached, above, put, emptied}
use Rattle.mama_dq.specs.Context.{ContextData}
use Rattle.mama_dispatch.specs.Seating.{is_plain}
use Rattle.mama_dispatch.proofs.CacheBound.{put_few}
use Rattle.mama_dq.specs.Strategy.{updated, update_acted, acted, as_message, handled, cached_above, healed, reached_last, stopped_short, gap_calls, switch_calls, adopt_calls, with_image_of, turned_to, snapshot_acted, step_by, callbacks_of}

gap_few : (p : Phase) (sender last : ℕ) (m : MarketMsg) → length (gap_calls p sender last m) ≤ 4
gap_few Await sender last m = omega arith
gap_few LiveOk sender last m = omega arith
gap_few LiveStale sender last m = omega arith
gap_few LiveKept sender last m = omega arith

switch_few : (p : Phase) (last : ℕ) (m : MarketMsg) → length (switch_calls p last m) ≤ 4
switch_few Await last m = omega arith
switch_few LiveOk last m = omega arith
switch_few LiveStale last m = omega arith
switch_few LiveKept last m = omega arith

adopt_few : (p : Phase) (m : MarketMsg) → length (adopt_calls p m) ≤ 4
adopt_few Await m = omega arith
adopt_few LiveOk m = omega arith
adopt_few LiveStale m = omega arith
adopt_few LiveKept m = omega arith

healed_few : (r : Reached) (c : ContextData) (m : MarketMsg) → length (healed r c m).calls ≤ 4
healed_few r c m = elim (nat_le c.last r.number) as (λ b. length (if b then reached_last r c m else stopped_short c).calls ≤ 4) [ true ↦ omega arith | false ↦ omega arith ]

update_few : (a : Action) (c : ContextData) (m : MarketMsg) → length (update_acted a c m).calls ≤ 4
update_few Keep c m = omega arith
update_few Start c m = omega arith
update_few Apply c m = omega arith
update_few ApplyKeep c m = omega arith
update_few KeepOnly c m = omega arith
update_few Ignore c m = omega arith
update_few Gap c m = gap_few c.phase c.sender c.last m
update_few Switch c m = switch_few c.phase c.last m
update_few Replace c m = omega arith
update_few Heal c m = omega arith
update_few Adopt c m = omega arith
update_few StartKeep c m = omega arith
update_few Catch c m = omega arith
update_few Late c m = omega arith
update_few KeepLate c m = omega arith

-- an action that handles no cached updates makes at most 4
acted_few : (a : Action) (c : ContextData) (m : MarketMsg) → (a ≡ Start → ⊥) → (a ≡ Catch → ⊥) → length (acted a c m).calls ≤ 4
acted_few Keep c m start catch = omega arith
acted_few Start c m start catch = absurd (start refl)
acted_few Apply c m start catch = omega arith
acted_few ApplyKeep c m start catch = omega arith
acted_few KeepOnly c m start catch = omega arith
acted_few Ignore c m start catch = omega arith
acted_few Gap c m start catch = gap_few c.phase c.sender c.last m
acted_few Switch c m start catch = switch_few c.phase c.last m
acted_few Replace c m start catch = omega arith
acted_few Heal c m start catch = healed_few (reached c.cache.updates m.seq m.body) c m
acted_few Adopt c m start catch = adopt_few c.phase m
acted_few StartKeep c m start catch = omega arith
acted_few Catch c m start catch = absurd (catch refl)
acted_few Late c m start catch = omega arith
acted_few KeepLate c m start catch = omega arith

-- while an image may lack updates, no message has them handled
stale_few : (s : Strategy) (r : Relation) (update : Bool) (c : ContextData) (m : MarketMsg) → length (acted (decided s LiveStale r update) c m).calls ≤ 4
stale_few s Next false c m = acted_few Heal c m (λ is. cc) (λ is. cc)
stale_few s Same false c m = acted_few Heal c m (λ is. cc) (λ is. cc)
stale_few s Old false c m = acted_few Heal c m (λ is. cc) (λ is. cc)
stale_few s Ahead false c m = acted_few Heal c m (λ is. cc) (λ is. cc)
stale_few s Other false c m = acted_few Adopt c m (λ is. cc) (λ is. cc)
stale_few s Next true c m = acted_few ApplyKeep c m (λ is. cc) (λ is. cc)
stale_few One Same true c m = acted_few KeepOnly c m (λ is. cc) (λ is. cc)
stale_few Two Same true c m = acted_few KeepLate c m (λ is. cc) (λ is. cc)
stale_few One Old true c m = acted_few KeepOnly c m (λ is. cc) (λ is. cc)
stale_few Two Old true c m = acted_few KeepLate c m (λ is. cc) (λ is. cc)
stale_few s Ahead true c m = acted_few Gap c m (λ is. cc) (λ is. cc)
stale_few s Other true c m = acted_few Switch c m (λ is. cc) (λ is. cc)

snapshot_few : (p : Phase) (update : Bool) (c : ContextData) (m : MarketMsg) → length (snapshot_acted p update c m).calls ≤ 4
snapshot_few Await false c m = omega arith
snapshot_few Await true c m = omega arith
snapshot_few LiveOk update c m = omega arith
snapshot_few LiveStale update c m = omega arith
snapshot_few LiveKept update c m = omega arith

few_by : (k : SubKind) (c : ContextData) (m : MarketMsg) → c.phase ≡ LiveStale → length (step_by k c m).calls ≤ 4
few_by Market c m stale =
    subst (λ (p : Phase). length (acted (decided c.strategy p (relation_of c.sender c.last m) (is_update m.kind)) c m).calls ≤ 4) (sym stale)
    (stale_few c.strategy (relation_of c.sender c.last m) (is_update m.kind) c m)
few_by Snapshot c m stale = snapshot_few c.phase (is_update m.kind) c m
few_by Basic c m stale = omega arith

-- while an image may lack updates, a message makes at most 4
pub calls_stale : (c : ContextData) (m : MarketMsg) → c.phase ≡ LiveStale → length (callbacks_of c m) ≤ 4
calls_stale c m stale = few_by c.kind c m stale

-- cached updates make at most 4 each
handled_few : (c : ContextData) (es : List (ℕ × List FieldData)) → length (handled c es).calls ≤ 4 * length es
handled_few c [] = omega arith
handled_few c (e ∷ es) =
    let one : length (updated c (as_message c.sender e)).calls ≤ 4 = update_few (decided c.strategy c.phase (relation_of c.sender c.last (as_message c.sender e)) true) c (as_message c.sender e) in
    let rest : length (handled (updated c (as_message c.sender e)).context es).calls ≤ 4 * length es = handled_few (updated c (as_message c.sender e)).context es in
    omega (arith, length-append (updated c (as_message c.sender e)).calls (handled (updated c (as_message c.sender e)).context es).calls)

above_few : (n : ℕ) (es : List (ℕ × List FieldData)) → length (above n es) ≤ length es
above_few n [] = omega arith
above_few n (e ∷ es) =
    let rest : length (above n es) ≤ length es = above_few n es in
    elim (nat_lt n e.0) as (λ b. length (cond b (e ∷ above n es) (above n es)) ≤ suc (length es)) [ true ↦ omega arith | false ↦ omega arith ]

cached_few : (c : ContextData) (m : MarketMsg) → length (cached_above c m) ≤ length c.cache.updates
cached_few c m = elim (c.sender == m.sender) as (λ b. length (if b then above m.seq c.cache.updates else []) ≤ length c.cache.updates) [ true ↦ above_few m.seq c.cache.updates | false ↦ omega arith ]

acted_any : (a : Action) (c : ContextData) (m : MarketMsg) → length (acted a c m).calls ≤ 4 * (length c.cache.updates + 1)
acted_any Keep c m = omega (arith, acted_few Keep c m (λ is. cc) (λ is. cc))
acted_any Start c m = omega (arith, handled_few (with_image_of m (turned_to m.sender c)) (cached_above c m), cached_few c m)
acted_any Apply c m = omega (arith, acted_few Apply c m (λ is. cc) (λ is. cc))
acted_any ApplyKeep c m = omega (arith, acted_few ApplyKeep c m (λ is. cc) (λ is. cc))
acted_any KeepOnly c m = omega (arith, acted_few KeepOnly c m (λ is. cc) (λ is. cc))
acted_any Ignore c m = omega (arith, acted_few Ignore c m (λ is. cc) (λ is. cc))
acted_any Gap c m = omega (arith, acted_few Gap c m (λ is. cc) (λ is. cc))
acted_any Switch c m = omega (arith, acted_few Switch c m (λ is. cc) (λ is. cc))
acted_any Replace c m = omega (arith, acted_few Replace c m (λ is. cc) (λ is. cc))
acted_any Heal c m = omega (arith, acted_few Heal c m (λ is. cc) (λ is. cc))
acted_any Adopt c m = omega (arith, acted_few Adopt c m (λ is. cc) (λ is. cc))
acted_any StartKeep c m = omega (arith, acted_few StartKeep c m (λ is. cc) (λ is. cc))
acted_any Catch c m = omega (arith, handled_few (record c { phase = LiveOk; cache = emptied c.cache }) (put c.cache.updates m.seq m.body), put_few c.cache.updates m.seq m.body)
acted_any Late c m = omega (arith, acted_few Late c m (λ is. cc) (λ is. cc))
acted_any KeepLate c m = omega (arith, acted_few KeepLate c m (λ is. cc) (λ is. cc))

any_by : (k : SubKind) (c : ContextData) (m : MarketMsg) → length (step_by k c m).calls ≤ 4 * (length c.cache.updates + 1)
any_by Market c m = acted_any (decided c.strategy c.phase (relation_of c.sender c.last m) (is_update m.kind)) c m
any_by Snapshot c m = omega (arith, snapshot_few c.phase (is_update m.kind) c m)
any_by Basic c m = omega arith

-- else at most 4 for each cached update and the message
pub calls_any : (c : ContextData) (m : MarketMsg) → length (callbacks_of c m) ≤ 4 * (length c.cache.updates + 1)
calls_any c m = any_by c.kind c m

-- NO MESSAGE MAKES A FIRST OR A LAST CALLBACK

plain_append : (xs ys : List Callback) → list_all is_plain xs ≡ true → list_all is_plain ys ≡ true → list_all is_plain (xs ++ ys) ≡ true
plain_append [] ys p q = q
plain_append (x ∷ xs) ys p q =
    let parts = and_parts (is_plain x) (list_all is_plain xs) p in
    and_from (is_plain x) (list_all is_plain (xs ++ ys)) parts.0 (plain_append xs ys parts.1 q)

gap_plain : (p : Phase) (sender last : ℕ) (m : MarketMsg) → list_all is_plain (gap_calls p sender last m) ≡ true
gap_plain Await sender last m = refl
gap_plain LiveOk sender last m = refl
gap_plain LiveStale sender last m = refl
gap_plain LiveKept sender last m = refl

switch_plain : (p : Phase) (last : ℕ) (m : MarketMsg) → list_all is_plain (switch_calls p last m) ≡ true
switch_plain Await last m = refl
switch_plain LiveOk last m = refl
switch_plain LiveStale last m = refl
switch_plain LiveKept last m = refl

adopt_plain : (p : Phase) (m : MarketMsg) → list_all is_plain (adopt_calls p m) ≡ true
adopt_plain Await m = refl
adopt_plain LiveOk m = refl
adopt_plain LiveStale m = refl
adopt_plain LiveKept m = refl

healed_plain : (r : Reached) (c : ContextData) (m : MarketMsg) → list_all is_plain (healed r c m).calls ≡ true
healed_plain r c m = elim (nat_le c.last r.number) as (λ b. list_all is_plain (if b then reached_last r c m else stopped_short c).calls ≡ true) [ true ↦ refl | false ↦ refl ]

update_plain : (a : Action) (c : ContextData) (m : MarketMsg) → list_all is_plain (update_acted a c m).calls ≡ true
update_plain Keep c m = refl
update_plain Start c m = refl
update_plain Apply c m = refl
update_plain ApplyKeep c m = refl
update_plain KeepOnly c m = refl
update_plain Ignore c m = refl
update_plain Gap c m = gap_plain c.phase c.sender c.last m
update_plain Switch c m = switch_plain c.phase c.last m
update_plain Replace c m = refl
update_plain Heal c m = refl
update_plain Adopt c m = refl
update_plain StartKeep c m = refl
update_plain Catch c m = refl
update_plain Late c m = refl
update_plain KeepLate c m = refl

handled_plain : (c : ContextData) (es : List (ℕ × List FieldData)) → list_all is_plain (handled c es).calls ≡ true
handled_plain c [] = refl
handled_plain c (e ∷ es) =
    plain_append (updated c (as_message c.sender e)).calls (handled (updated c (as_message c.sender e)).context es).calls
    (update_plain (decided c.strategy c.phase (relation_of c.sender c.last (as_message c.sender e)) true) c (as_message c.sender e))
    (handled_plain (updated c (as_message c.sender e)).context es)

acted_plain : (a : Action) (c : ContextData) (m : MarketMsg) → list_all is_plain (acted a c m).calls ≡ true
acted_plain Keep c m = refl
acted_plain Start c m = handled_plain (with_image_of m (turned_to m.sender c)) (cached_above c m)
acted_plain Apply c m = refl
acted_plain ApplyKeep c m = refl
acted_plain KeepOnly c m = refl
acted_plain Ignore c m = refl
acted_plain Gap c m = gap_plain c.phase c.sender c.last m
acted_plain Switch c m = switch_plain c.phase c.last m
acted_plain Replace c m = refl
acted_plain Heal c m = healed_plain (reached c.cache.updates m.seq m.body) c m
acted_plain Adopt c m = adopt_plain c.phase m
acted_plain StartKeep c m = refl
acted_plain Catch c m = handled_plain (record c { phase = LiveOk; cache = emptied c.cache }) (put c.cache.updates m.seq m.body)
acted_plain Late c m = refl
acted_plain KeepLate c m = refl

snapshot_plain : (p : Phase) (update : Bool) (c : ContextData) (m : MarketMsg) → list_all is_plain (snapshot_acted p update c m).calls ≡ true
snapshot_plain Await false c m = refl
snapshot_plain Await true c m = refl
snapshot_plain LiveOk update c m = refl
snapshot_plain LiveStale update c m = refl
snapshot_plain LiveKept update c m = refl

plain_by : (k : SubKind) (c : ContextData) (m : MarketMsg) → list_all is_plain (step_by k c m).calls ≡ true
plain_by Market c m = acted_plain (decided c.strategy c.phase (relation_of c.sender c.last m) (is_update m.kind)) c m
plain_by Snapshot c m = snapshot_plain c.phase (is_update m.kind) c m
plain_by Basic c m = refl

pub calls_plain : (c : ContextData) (m : MarketMsg) → list_all is_plain (callbacks_of c m) ≡ true
calls_plain c m = plain_by c.kind c m
