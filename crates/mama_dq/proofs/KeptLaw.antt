-- Which updates are kept past the first image.
use Rattle.std.proofs.Common.{◌≡◌, ◌≢◌, ℕ, ◌≤◌, Bool, true, false, nat_le, ◌==◌, if◌then◌else◌, List, [], ◌∷◌, refl, ap, ◌∙◌, sym, subst, arith, ◌⊎◌, inl, inr}
use Rattle.std.proofs.lemmas.Bool.Decides.{nat_tests}
use Rattle.mama_msg.specs.Field.{FieldData}
use Rattle.mama_event.specs.declared.shape.Strategy.{Strategy}
use Rattle.mama_event.specs.declared.shape.Strategy.TheVariants.{One, Two}
use Rattle.mama_event.specs.declared.market.SubKind.{SubKind}
use Rattle.mama_event.specs.declared.market.SubKind.TheVariants.{Market, Snapshot, Basic}
use Rattle.mama_event.specs.declared.market.MarketMsg.{MarketMsg}
use Rattle.mama_dq.specs.declared.table.Phase.{Phase}
use Rattle.mama_dq.specs.declared.table.Phase.TheVariants.{Await, LiveOk, LiveStale, LiveKept}
use Rattle.mama_dq.specs.declared.table.Relation.{Relation}
use Rattle.mama_dq.specs.declared.table.Relation.TheVariants.{Next, Same, Old, Ahead, Other}
use Rattle.mama_dq.specs.declared.table.Action.{Action}
use Rattle.mama_dq.specs.declared.table.Action.TheVariants.{KeepOnly, Ignore, Gap, Catch, Late, KeepLate}
use Rattle.mama_dq.specs.Table.{is_update, decided, relation_of}
use Rattle.mama_dq.specs.Cache.{emptied, put, above, Reached, reached}
use Rattle.mama_dq.specs.Context.{ContextData, new_context}
use Rattle.mama_dq.specs.Strategy.{ok_with, settled, updated, update_acted, acted, as_message, handled, cached_above, started_keeping, healed, reached_last, stopped_short, with_update, with_cached, turned_to, waiting_for, with_image_of, step_by, snapshot_acted, after, after_all, fold}
use Rattle.mama_dq.specs.Kept.{KeptLaw}
use Rattle.mama_dq.proofs.CacheLemmas.{AscendFrom}
use Rattle.mama_dq.proofs.CacheOrder.{Ascend, ascend_added, ascend_above}
use Rattle.mama_dq.proofs.StrategyLemmas.{either_way, update_cases}
use Rattle.mama_dq.proofs.SameKind.{after_all_strategy}

-- what holds of the cache of every context
pub record Keeps (c : ContextData) : Type 0 where
  pub none : c.phase ≡ LiveOk → c.cache.updates ≡ []
  pub some : c.phase ≡ LiveKept → c.cache.updates ≢ []
  pub early : c.phase ≡ LiveKept → AscendFrom c.last c.cache.updates
  pub second : c.phase ≡ LiveKept → c.strategy ≡ Two
  pub ascend : Ascend c.cache.updates

-- a context that keeps none, since its phase is another
other_keeps : (c : ContextData) (phase : Phase) → c.phase ≡ phase → phase ≢ LiveKept → (phase ≡ LiveOk → c.cache.updates ≡ []) → Ascend c.cache.updates → Keeps c
other_keeps c phase is other none ascend = record {
  none = λ ok. none (sym is ∙ ok);
  some = λ kept. absurd (other (sym is ∙ kept));
  early = λ kept. absurd (other (sym is ∙ kept));
  second = λ kept. absurd (other (sym is ∙ kept));
  ascend = ascend;
}

wait_keeps : (c : ContextData) → c.phase ≡ Await → Ascend c.cache.updates → Keeps c
wait_keeps c is ascend = other_keeps c Await is (λ same. cc) (λ same. absurd cc) ascend

stale_keeps : (c : ContextData) → c.phase ≡ LiveStale → Ascend c.cache.updates → Keeps c
stale_keeps c is ascend = other_keeps c LiveStale is (λ same. cc) (λ same. absurd cc) ascend

ok_keeps : (c : ContextData) → c.phase ≡ LiveOk → c.cache.updates ≡ [] → Keeps c
ok_keeps c is none = other_keeps c LiveOk is (λ same. cc) (λ same. none) (subst Ascend (sym none) tt)

-- an image that is the sender's record, with what is kept above it
settled_with : (c : ContextData) (es : List (ℕ × List FieldData)) → AscendFrom c.last es → (es ≡ []) ⊎ (c.strategy ≡ Two)
    → Keeps (record c { phase = ok_with es; cache = record c.cache { updates = es } })
settled_with c [] ascend why = ok_keeps (record c { phase = LiveOk; cache = record c.cache { updates = [] } }) refl refl
settled_with c (e ∷ es) ascend why = record {
  none = λ ok. absurd cc;
  some = λ kept empty. cc;
  early = λ kept. ascend;
  second = λ kept. elim why [ inl empty ↦ absurd cc | inr two ↦ two ];
  ascend = ascend.1;
}

settled_keeps : (c : ContextData) → Ascend c.cache.updates → (above c.last c.cache.updates ≡ []) ⊎ (c.strategy ≡ Two) → Keeps (settled c)
settled_keeps c ascend why = settled_with c (above c.last c.cache.updates) (ascend_above c.last c.cache.updates ascend) why

-- why a context whose image is the sender's record may keep what is above a number
why_ok : (c : ContextData) (n : ℕ) → c.phase ≡ LiveOk → Keeps c → (above n c.cache.updates ≡ []) ⊎ (c.strategy ≡ Two)
why_ok c n is keeps = inl (ap (above n) (keeps.none is))

apply_ok : (c : ContextData) (m : MarketMsg) → c.phase ≡ LiveOk → Keeps c → Keeps (settled (with_update LiveOk c m))
apply_ok c m is keeps = settled_keeps (with_update LiveOk c m) keeps.ascend (why_ok c m.seq is keeps)

apply_kept : (c : ContextData) (m : MarketMsg) → c.phase ≡ LiveKept → Keeps c → Keeps (settled (with_update LiveOk c m))
apply_kept c m is keeps = settled_keeps (with_update LiveOk c m) keeps.ascend (inr (keeps.second is))

replace_ok : (c : ContextData) (m : MarketMsg) → c.phase ≡ LiveOk → Keeps c → Keeps (settled (with_image_of m c))
replace_ok c m is keeps = settled_keeps (with_image_of m c) keeps.ascend (why_ok c m.seq is keeps)

replace_kept : (c : ContextData) (m : MarketMsg) → c.phase ≡ LiveKept → Keeps c → Keeps (settled (with_image_of m c))
replace_kept c m is keeps = settled_keeps (with_image_of m c) keeps.ascend (inr (keeps.second is))

gap_keeps : (c : ContextData) (m : MarketMsg) → Keeps c → Keeps (with_cached (with_update LiveStale c m) m)
gap_keeps c m keeps = stale_keeps (with_cached (with_update LiveStale c m) m) refl (ascend_added c.cache m.seq m.body keeps.ascend)

switch_keeps : (c : ContextData) (m : MarketMsg) → Keeps (with_cached (with_update LiveStale (turned_to m.sender c) m) m)
switch_keeps c m = stale_keeps (with_cached (with_update LiveStale (turned_to m.sender c) m) m) refl (ascend_added (emptied c.cache) m.seq m.body tt)

keep_stale : (c : ContextData) (m : MarketMsg) → c.phase ≡ LiveStale → Keeps c → Keeps (with_cached c m)
keep_stale c m is keeps = stale_keeps (with_cached c m) is (ascend_added c.cache m.seq m.body keeps.ascend)

one_keeps : (strategy : Strategy) (phase : Phase) (relation : Relation) (c : ContextData) (m : MarketMsg)
    → c.phase ≡ phase → Keeps c → Keeps (update_acted (decided strategy phase relation true) c m).context
one_keeps strategy Await relation c m is keeps = keeps
one_keeps strategy LiveOk Next c m is keeps = apply_ok c m is keeps
one_keeps strategy LiveOk Same c m is keeps = either_way (λ a. Keeps (update_acted a c m).context) strategy Ignore Late keeps keeps
one_keeps strategy LiveOk Old c m is keeps = either_way (λ a. Keeps (update_acted a c m).context) strategy Ignore Late keeps keeps
one_keeps strategy LiveOk Ahead c m is keeps = gap_keeps c m keeps
one_keeps strategy LiveOk Other c m is keeps = switch_keeps c m
one_keeps strategy LiveStale Next c m is keeps = gap_keeps c m keeps
one_keeps strategy LiveStale Same c m is keeps = either_way (λ a. Keeps (update_acted a c m).context) strategy KeepOnly KeepLate (keep_stale c m is keeps) (keep_stale c m is keeps)
one_keeps strategy LiveStale Old c m is keeps = either_way (λ a. Keeps (update_acted a c m).context) strategy KeepOnly KeepLate (keep_stale c m is keeps) (keep_stale c m is keeps)
one_keeps strategy LiveStale Ahead c m is keeps = gap_keeps c m keeps
one_keeps strategy LiveStale Other c m is keeps = switch_keeps c m
one_keeps strategy LiveKept Next c m is keeps = apply_kept c m is keeps
one_keeps strategy LiveKept Same c m is keeps = either_way (λ a. Keeps (update_acted a c m).context) strategy Ignore Late keeps keeps
one_keeps strategy LiveKept Old c m is keeps = either_way (λ a. Keeps (update_acted a c m).context) strategy Ignore Late keeps keeps
one_keeps strategy LiveKept Ahead c m is keeps = either_way (λ a. Keeps (update_acted a c m).context) strategy Gap Catch (gap_keeps c m keeps) keeps
one_keeps strategy LiveKept Other c m is keeps = switch_keeps c m

handled_keeps : (es : List (ℕ × List FieldData)) (c : ContextData) → Keeps c → Keeps (handled c es).context
handled_keeps [] c keeps = keeps
handled_keeps (e ∷ es) c keeps =
    handled_keeps es (updated c (as_message c.sender e)).context
    (one_keeps c.strategy c.phase (relation_of c.sender c.last (as_message c.sender e)) c (as_message c.sender e) refl keeps)

waiting_keeps : (c : ContextData) (m : MarketMsg) → c.phase ≡ Await → Keeps c → Keeps (with_cached (waiting_for m.sender c) m)
waiting_keeps c m is keeps = elim (c.sender == m.sender) as (λ b. Keeps (with_cached (if b then c else turned_to m.sender c) m)) [
  | true ↦ wait_keeps (with_cached c m) is (ascend_added c.cache m.seq m.body keeps.ascend)
  | false ↦ wait_keeps (with_cached (turned_to m.sender c) m) is (ascend_added (emptied c.cache) m.seq m.body tt)
]

update_keeps : (strategy : Strategy) (phase : Phase) (relation : Relation) (c : ContextData) (m : MarketMsg)
    → c.phase ≡ phase → Keeps c → Keeps (acted (decided strategy phase relation true) c m).context
update_keeps strategy phase relation c m is keeps =
    update_cases (λ step. Keeps step.context) strategy phase relation c m
    (λ waits. waiting_keeps c m (is ∙ waits) keeps)
    (λ two kept ahead. handled_keeps (put c.cache.updates m.seq m.body) (record c { phase = LiveOk; cache = emptied c.cache })
    (ok_keeps (record c { phase = LiveOk; cache = emptied c.cache }) refl refl))
    (one_keeps strategy phase relation c m is keeps)

started_keeps : (c : ContextData) (m : MarketMsg) → c.strategy ≡ Two → Keeps c → Keeps (started_keeping c m).context
started_keeps c m two keeps = elim (c.sender == m.sender) as (λ b. Keeps (settled (with_image_of m (if b then c else turned_to m.sender c)))) [
  | true ↦ settled_keeps (with_image_of m c) keeps.ascend (inr two)
  | false ↦ settled_keeps (with_image_of m (turned_to m.sender c)) tt (inr two)
]

first_keeps : (c : ContextData) (m : MarketMsg) → Keeps (with_image_of m (turned_to m.sender c))
first_keeps c m = ok_keeps (with_image_of m (turned_to m.sender c)) refl refl

healed_keeps : (r : Reached) (c : ContextData) (m : MarketMsg) → Keeps c → Keeps (healed r c m).context
healed_keeps r c m keeps = elim (nat_le c.last r.number) as (λ b. Keeps (if b then reached_last r c m else stopped_short c).context) [
  | true ↦ ok_keeps (reached_last r c m).context refl refl
  | false ↦ keeps
]

image_keeps : (strategy : Strategy) (phase : Phase) (relation : Relation) (c : ContextData) (m : MarketMsg)
    → c.strategy ≡ strategy → c.phase ≡ phase → Keeps c → Keeps (acted (decided strategy phase relation false) c m).context
image_keeps One Await relation c m by is keeps = handled_keeps (cached_above c m) (with_image_of m (turned_to m.sender c)) (first_keeps c m)
image_keeps Two Await relation c m by is keeps = started_keeps c m by keeps
image_keeps strategy LiveOk Next c m by is keeps = replace_ok c m is keeps
image_keeps strategy LiveOk Same c m by is keeps = replace_ok c m is keeps
image_keeps strategy LiveOk Old c m by is keeps = keeps
image_keeps strategy LiveOk Ahead c m by is keeps = replace_ok c m is keeps
image_keeps strategy LiveOk Other c m by is keeps = first_keeps c m
image_keeps strategy LiveStale Next c m by is keeps = healed_keeps (reached c.cache.updates m.seq m.body) c m keeps
image_keeps strategy LiveStale Same c m by is keeps = healed_keeps (reached c.cache.updates m.seq m.body) c m keeps
image_keeps strategy LiveStale Old c m by is keeps = healed_keeps (reached c.cache.updates m.seq m.body) c m keeps
image_keeps strategy LiveStale Ahead c m by is keeps = healed_keeps (reached c.cache.updates m.seq m.body) c m keeps
image_keeps strategy LiveStale Other c m by is keeps = first_keeps c m
image_keeps strategy LiveKept Next c m by is keeps = replace_kept c m is keeps
image_keeps strategy LiveKept Same c m by is keeps = replace_kept c m is keeps
image_keeps strategy LiveKept Old c m by is keeps = keeps
image_keeps strategy LiveKept Ahead c m by is keeps = replace_kept c m is keeps
image_keeps strategy LiveKept Other c m by is keeps = first_keeps c m

market_keeps : (update : Bool) (c : ContextData) (m : MarketMsg) → Keeps c → Keeps (acted (decided c.strategy c.phase (relation_of c.sender c.last m) update) c m).context
market_keeps true c m keeps = update_keeps c.strategy c.phase (relation_of c.sender c.last m) c m refl keeps
market_keeps false c m keeps = image_keeps c.strategy c.phase (relation_of c.sender c.last m) c m refl refl keeps

snapshot_keeps : (phase : Phase) (update : Bool) (c : ContextData) (m : MarketMsg) → Keeps c → Keeps (snapshot_acted phase update c m).context
snapshot_keeps Await false c m keeps = first_keeps c m
snapshot_keeps Await true c m keeps = keeps
snapshot_keeps LiveOk update c m keeps = keeps
snapshot_keeps LiveStale update c m keeps = keeps
snapshot_keeps LiveKept update c m keeps = keeps

step_keeps : (kind : SubKind) (c : ContextData) (m : MarketMsg) → Keeps c → Keeps (step_by kind c m).context
step_keeps Market c m keeps = market_keeps (is_update m.kind) c m keeps
step_keeps Snapshot c m keeps = snapshot_keeps c.phase (is_update m.kind) c m keeps
step_keeps Basic c m keeps = keeps

-- a message leaves it so
pub after_keeps : (c : ContextData) (m : MarketMsg) → Keeps c → Keeps (after c m)
after_keeps c m keeps = step_keeps c.kind c m keeps

pub new_keeps : (strategy : Strategy) (kind : SubKind) (size : ℕ) → Keeps (new_context strategy kind size)
new_keeps strategy kind size = wait_keeps (new_context strategy kind size) refl tt

-- and so do some messages
pub after_all_keeps : (messages : List MarketMsg) (c : ContextData) → Keeps c → Keeps (after_all c messages)
after_all_keeps [] c keeps = keeps
after_all_keeps (m ∷ messages) c keeps = after_all_keeps messages (after c m) (after_keeps c m keeps)

-- what ascends from above a number is all above it
all_above : (a n : ℕ) (es : List (ℕ × List FieldData)) → n ≤ a → AscendFrom a es → above n es ≡ es
all_above a n [] low ascend = refl
all_above a n (e ∷ es) low ascend = grind (arith, nat_tests, all_above e.0 n es, ascend.0, ascend.1)

pub kept_law : KeptLaw
kept_law strategy kind size messages =
    let keeps : Keeps (fold strategy kind size messages) = after_all_keeps messages (new_context strategy kind size) (new_keeps strategy kind size) in (
      record {
        none = keeps.none;
        some = keeps.some;
        early = λ kept. all_above (fold strategy kind size messages).last (fold strategy kind size messages).last (fold strategy kind size messages).cache.updates (omega arith) (keeps.early kept);
        second = keeps.second;
      },
      after_all_strategy messages (new_context strategy kind size),
    )
