-- An image that is ok is its sender's record.
use Rattle.std.proofs.Common.{◌≡◌, ℕ, suc, true, false, nat_lt, nat_le, ◌==◌, if◌then◌else◌, cond, List, [], ◌∷◌, length, drop, refl, ap, ◌∙◌, sym, subst, arith, Ordering, Less, Equal, Greater}
use Rattle.std.specs.Ordering.{nat_cmp, match_ordering}
use Rattle.std.specs.List.{AllByRecursion}
use Rattle.std.specs.BTreeMap.{insert_entry}
use Rattle.mama_msg.specs.Field.{FieldData}
use Rattle.mama_msg.specs.Message.{apply}
use Rattle.mama_event.specs.declared.shape.Strategy.{Strategy}
use Rattle.mama_event.specs.declared.market.SubKind.{SubKind}
use Rattle.mama_event.specs.declared.market.SubKind.TheVariants.{Market, Snapshot, Basic}
use Rattle.mama_event.specs.declared.market.MsgKind.{MsgKind}
use Rattle.mama_event.specs.declared.market.MsgKind.TheVariants.{Initial, Update, Recap}
use Rattle.mama_event.specs.declared.market.MarketMsg.{MarketMsg}
use Rattle.mama_event.specs.declared.market.Quality.TheVariants as quality
use Rattle.mama_event.specs.Record.{record_after}
use Rattle.mama_event.specs.Genuine.{IsGenuine, IsGenuineBody}
use Rattle.mama_dq.specs.declared.table.Phase.{Phase}
use Rattle.mama_dq.specs.declared.table.Phase.TheVariants.{Await, LiveOk, LiveStale, LiveKept}
use Rattle.mama_dq.specs.declared.table.Relation.{Relation}
use Rattle.mama_dq.specs.declared.table.Relation.TheVariants.{Next, Same, Old, Ahead, Other}
use Rattle.mama_dq.specs.declared.table.Action.{Action}
use Rattle.mama_dq.specs.declared.table.Action.TheVariants.{Start, KeepOnly, Ignore, Gap, StartKeep, Catch, Late, KeepLate}
use Rattle.mama_dq.specs.Table.{is_update, decided, relation_of}
use Rattle.mama_dq.specs.Cache.{CacheData, has_number, put, trimmed, added, emptied, above, reached, Reached}
use Rattle.mama_dq.specs.Context.{ContextData, new_context, is_ok, quality_in}
use Rattle.mama_dq.specs.Strategy.{updated, update_acted, acted, as_message, handled, cached_above, healed, reached_last, stopped_short, with_update, with_cached, turned_to, settled, started_keeping, caught, with_image_of, step_by, snapshot_acted, after, after_all, fold}
use Rattle.mama_dq.specs.Image.{IsSendersRecord, ImageLaw, BasicLaw}
use Rattle.mama_dq.proofs.Relations.{Related, related, ahead_same}
use Rattle.mama_dq.proofs.StrategyLemmas.{either_way, update_cases, updated_sender}
use Rattle.mama_dq.proofs.Comparisons.{eq_true, equal_is}

-- ---- what holds of each cached update

-- a fact that holds of each entry and of one more holds of each after it was inserted
pub all_inserted : (P : ℕ × List FieldData → Type 0) (es : List (ℕ × List FieldData)) (n : ℕ) (body : List FieldData)
    → AllByRecursion P es → P (n, body) → AllByRecursion P (insert_entry nat_cmp es n body)
all_inserted P [] n body all new = (new, tt)
all_inserted P (e ∷ es) n body all new =
    (elim (nat_cmp n e.0) as (λ o. nat_cmp n e.0 ≡ o → AllByRecursion P (match_ordering o ((n, body) ∷ e ∷ es) ((e.0, body) ∷ es) (e ∷ insert_entry nat_cmp es n body))) [
      | Less ↦ λ below. (new, all)
      | Equal ↦ λ here. (subst (λ (k : ℕ). P (k, body)) (equal_is n e.0 here) new, all.1)
      | Greater ↦ λ past. (all.0, all_inserted P es n body all.1 new)
    ]) refl

pub all_put : (P : ℕ × List FieldData → Type 0) (es : List (ℕ × List FieldData)) (n : ℕ) (body : List FieldData)
    → AllByRecursion P es → P (n, body) → AllByRecursion P (put es n body)
all_put P es n body all new = elim (has_number es n) as (λ b. AllByRecursion P (if b then es else insert_entry nat_cmp es n body)) [
  | true ↦ all
  | false ↦ all_inserted P es n body all new
]

all_dropped : (P : ℕ × List FieldData → Type 0) (es : List (ℕ × List FieldData)) → AllByRecursion P es → AllByRecursion P (drop 1 es)
all_dropped P [] all = tt
all_dropped P (e ∷ es) all = all.1

pub all_trimmed : (P : ℕ × List FieldData → Type 0) (size : ℕ) (es : List (ℕ × List FieldData)) → AllByRecursion P es → AllByRecursion P (trimmed size es)
all_trimmed P size es all = elim (nat_lt size (length es)) as (λ b. AllByRecursion P (if b then drop 1 es else es)) [
  | true ↦ all_dropped P es all
  | false ↦ all
]

-- a fact that holds of each cached update and of one more holds of each after it was added
pub all_added : (P : ℕ × List FieldData → Type 0) (cache : CacheData) (n : ℕ) (body : List FieldData)
    → AllByRecursion P cache.updates → P (n, body) → AllByRecursion P (added cache n body).updates
all_added P cache n body all new = all_trimmed P cache.size (put cache.updates n body) (all_put P cache.updates n body all new)

pub all_above : (P : ℕ × List FieldData → Type 0) (n : ℕ) (es : List (ℕ × List FieldData)) → AllByRecursion P es → AllByRecursion P (above n es)
all_above P n [] all = tt
all_above P n (e ∷ es) all = elim (nat_lt n e.0) as (λ b. AllByRecursion P (cond b (e ∷ above n es) (above n es))) [
  | true ↦ (all.0, all_above P n es all.1)
  | false ↦ all_above P n es all.1
]

module _ (bases : ℕ → List FieldData) (updates : ℕ → List (List FieldData)) where
  -- the sender's record at a number
  abbrev record_of : ℕ → ℕ → List FieldData
  record_of sender n = record_after (bases sender) (updates sender) n

  -- an entry of the cache is an update of this sender
  abbrev IsUpdateOf : ℕ → ℕ × List FieldData → Type 0
  IsUpdateOf sender e = IsGenuineBody (bases sender) (updates sender) Update e.0 e.1

  -- what holds of a context that took genuine messages
  record Holds (c : ContextData) : Type 0 where
    pub image : is_ok c.phase ≡ true → IsSendersRecord bases updates c
    pub cache : AllByRecursion (IsUpdateOf c.sender) c.cache.updates

  -- the next update applied to the record at a number is the record at the next number
  next_record : (sender n m : ℕ) (image body : List FieldData) → image ≡ record_of sender n → m ≡ suc n → IsUpdateOf sender (m, body)
      → apply image body ≡ record_of sender m
  next_record sender n m image body is next (k, numbered, within, same) =
      let here : n ≡ k = omega arith in
      rw (next, is, same, here) refl

  -- what a record at a number reaches is the record at the number reached
  reached_record : (sender n : ℕ) (es : List (ℕ × List FieldData)) (body : List FieldData)
      → AllByRecursion (IsUpdateOf sender) es → body ≡ record_of sender n
      → (reached es n body).body ≡ record_of sender (reached es n body).number
  reached_record sender n [] body all is = is
  reached_record sender n (e ∷ es) body all is =
      (elim (e.0 == suc n) as (λ b. (e.0 == suc n) ≡ b → (if b then reached es (suc n) (apply body e.1) else reached es n body).body ≡ record_of sender (if b then reached es (suc n) (apply body e.1) else reached es n body).number) [
        | true ↦ λ next. reached_record sender (suc n) es (apply body e.1) all.1 (next_record sender n e.0 body e.1 is (eq_true e.0 (suc n) next) all.0 ∙ ap (record_of sender) (eq_true e.0 (suc n) next))
        | false ↦ λ other. reached_record sender n es body all.1 is
      ]) refl

  -- a genuine update of the context's sender may be added to its cache
  cached_holds : (c : ContextData) (m : MarketMsg) → m.sender ≡ c.sender → AllByRecursion (IsUpdateOf c.sender) c.cache.updates → IsUpdateOf m.sender (m.seq, m.body)
      → AllByRecursion (IsUpdateOf c.sender) (added c.cache m.seq m.body).updates
  cached_holds c m same all new =
      all_added (IsUpdateOf c.sender) c.cache m.seq m.body all (subst (λ (s : ℕ). IsUpdateOf s (m.seq, m.body)) same new)

  -- the first update in an empty cache
  alone_holds : (c : ContextData) (m : MarketMsg) → IsUpdateOf m.sender (m.seq, m.body)
      → AllByRecursion (IsUpdateOf m.sender) (added (emptied c.cache) m.seq m.body).updates
  alone_holds c m new = all_added (IsUpdateOf m.sender) (emptied c.cache) m.seq m.body tt new

  -- an image that is its sender's record, with the cached updates above it
  settled_holds : (c : ContextData) → IsSendersRecord bases updates c → AllByRecursion (IsUpdateOf c.sender) c.cache.updates → Holds (settled c)
  settled_holds c is all = record { image = λ ok. is; cache = all_above (IsUpdateOf c.sender) c.last c.cache.updates all }

  apply_holds : (c : ContextData) (m : MarketMsg) → is_ok c.phase ≡ true → Related Next c.sender c.last m → Holds c → IsUpdateOf m.sender (m.seq, m.body)
      → Holds (settled (with_update LiveOk c m))
  apply_holds c m ok told holds new =
      settled_holds (with_update LiveOk c m)
      (next_record c.sender c.last m.seq c.image m.body (holds.image ok) told.number (subst (λ (s : ℕ). IsUpdateOf s (m.seq, m.body)) told.same new))
      holds.cache

  -- an update of the context's sender is added to the cache, and changes no image that is a record
  keep_holds : (c : ContextData) (m : MarketMsg) → is_ok c.phase ≡ false → m.sender ≡ c.sender → Holds c → IsUpdateOf m.sender (m.seq, m.body) → Holds (with_cached c m)
  keep_holds c m stale same holds new = record { image = λ ok. absurd cc; cache = cached_holds c m same holds.cache new }

  -- after an update for which some are missing, or which is another sender's, the image is no record
  gap_holds : (c : ContextData) (m : MarketMsg) → m.sender ≡ c.sender → Holds c → IsUpdateOf m.sender (m.seq, m.body) → Holds (with_cached (with_update LiveStale c m) m)
  gap_holds c m same holds new = record { image = λ ok. absurd cc; cache = cached_holds c m same holds.cache new }

  switch_holds : (c : ContextData) (m : MarketMsg) → IsUpdateOf m.sender (m.seq, m.body) → Holds (with_cached (with_update LiveStale (turned_to m.sender c) m) m)
  switch_holds c m new = record { image = λ ok. absurd cc; cache = alone_holds c m new }

  update_holds : (strategy : Strategy) (phase : Phase) (relation : Relation) (c : ContextData) (m : MarketMsg)
      → c.phase ≡ phase → Related relation c.sender c.last m → Holds c → IsUpdateOf m.sender (m.seq, m.body)
      → Holds (update_acted (decided strategy phase relation true) c m).context
  update_holds strategy Await relation c m is_phase told holds new = holds
  update_holds strategy LiveOk Next c m is_phase told holds new = apply_holds c m (ap is_ok is_phase) told holds new
  update_holds strategy LiveOk Same c m is_phase told holds new = either_way (λ a. Holds (update_acted a c m).context) strategy Ignore Late holds holds
  update_holds strategy LiveOk Old c m is_phase told holds new = either_way (λ a. Holds (update_acted a c m).context) strategy Ignore Late holds holds
  update_holds strategy LiveOk Ahead c m is_phase told holds new = gap_holds c m told.same holds new
  update_holds strategy LiveOk Other c m is_phase told holds new = switch_holds c m new
  update_holds strategy LiveStale Next c m is_phase told holds new = gap_holds c m told.same holds new
  update_holds strategy LiveStale Same c m is_phase told holds new =
      let kept : Holds (with_cached c m) = keep_holds c m (ap is_ok is_phase) told.same holds new in either_way (λ a. Holds (update_acted a c m).context) strategy KeepOnly KeepLate kept kept
  update_holds strategy LiveStale Old c m is_phase told holds new =
      let kept : Holds (with_cached c m) = keep_holds c m (ap is_ok is_phase) told.same holds new in either_way (λ a. Holds (update_acted a c m).context) strategy KeepOnly KeepLate kept kept
  update_holds strategy LiveStale Ahead c m is_phase told holds new = gap_holds c m told.same holds new
  update_holds strategy LiveStale Other c m is_phase told holds new = switch_holds c m new
  update_holds strategy LiveKept Next c m is_phase told holds new = apply_holds c m (ap is_ok is_phase) told holds new
  update_holds strategy LiveKept Same c m is_phase told holds new = either_way (λ a. Holds (update_acted a c m).context) strategy Ignore Late holds holds
  update_holds strategy LiveKept Old c m is_phase told holds new = either_way (λ a. Holds (update_acted a c m).context) strategy Ignore Late holds holds
  update_holds strategy LiveKept Ahead c m is_phase told holds new = either_way (λ a. Holds (update_acted a c m).context) strategy Gap Catch (gap_holds c m told.same holds new) holds
  update_holds strategy LiveKept Other c m is_phase told holds new = switch_holds c m new

  updated_holds : (c : ContextData) (m : MarketMsg) → Holds c → IsUpdateOf m.sender (m.seq, m.body) → Holds (updated c m).context
  updated_holds c m holds new = update_holds c.strategy c.phase (relation_of c.sender c.last m) c m refl (related c.sender c.last m) holds new

  handled_holds : (es : List (ℕ × List FieldData)) (c : ContextData) → Holds c → AllByRecursion (IsUpdateOf c.sender) es → Holds (handled c es).context
  handled_holds [] c holds all = holds
  handled_holds (e ∷ es) c holds all =
      handled_holds es (updated c (as_message c.sender e)).context (updated_holds c (as_message c.sender e) holds all.0)
      (subst (λ (s : ℕ). AllByRecursion (IsUpdateOf s) es) (sym (updated_sender c (as_message c.sender e) refl)) all.1)

  cached_above_holds : (c : ContextData) (m : MarketMsg) → Holds c → AllByRecursion (IsUpdateOf m.sender) (cached_above c m)
  cached_above_holds c m holds =
      (elim (c.sender == m.sender) as (λ b. (c.sender == m.sender) ≡ b → AllByRecursion (IsUpdateOf m.sender) (if b then above m.seq c.cache.updates else [])) [
        | true ↦ λ same. subst (λ (s : ℕ). AllByRecursion (IsUpdateOf s) (above m.seq c.cache.updates)) (eq_true c.sender m.sender same) (all_above (IsUpdateOf c.sender) m.seq c.cache.updates holds.cache)
        | false ↦ λ other. tt
      ]) refl

  -- the kept updates and one more are handled
  caught_holds : (c : ContextData) (m : MarketMsg) → is_ok c.phase ≡ true → m.sender ≡ c.sender → Holds c → IsUpdateOf m.sender (m.seq, m.body) → Holds (caught c m).context
  caught_holds c m ok same holds new =
      handled_holds (put c.cache.updates m.seq m.body) (record c { phase = LiveOk; cache = emptied c.cache }) (record { image = λ was. holds.image ok; cache = tt })
      (all_put (IsUpdateOf c.sender) c.cache.updates m.seq m.body holds.cache (subst (λ (s : ℕ). IsUpdateOf s (m.seq, m.body)) same new))

  -- an image message with its sender's record leaves a context that holds
  image_holds : (c : ContextData) (m : MarketMsg) → m.body ≡ record_of m.sender m.seq → Holds (with_image_of m (turned_to m.sender c))
  image_holds c m is = record { image = λ ok. is; cache = tt }

  started_keeping_holds : (c : ContextData) (m : MarketMsg) → Holds c → m.body ≡ record_of m.sender m.seq → Holds (started_keeping c m).context
  started_keeping_holds c m holds is =
      (elim (c.sender == m.sender) as (λ b. (c.sender == m.sender) ≡ b → Holds (settled (with_image_of m (if b then c else turned_to m.sender c)))) [
        | true ↦ λ same. settled_holds (with_image_of m c) (is ∙ ap (λ (s : ℕ). record_of s m.seq) (sym (eq_true c.sender m.sender same))) holds.cache
        | false ↦ λ other. settled_holds (with_image_of m (turned_to m.sender c)) is tt
      ]) refl

  kept_holds : (c : ContextData) (m : MarketMsg) → c.phase ≡ Await → Holds c → IsUpdateOf m.sender (m.seq, m.body)
      → Holds (with_cached (if c.sender == m.sender then c else turned_to m.sender c) m)
  kept_holds c m is_phase holds new =
      let waits : is_ok c.phase ≡ false = ap is_ok is_phase in
      (elim (c.sender == m.sender) as (λ b. (c.sender == m.sender) ≡ b → Holds (with_cached (if b then c else turned_to m.sender c) m)) [
        | true ↦ λ same. record { image = λ ok. absurd cc; cache = cached_holds c m (sym (eq_true c.sender m.sender same)) holds.cache new }
        | false ↦ λ other. record { image = λ ok. absurd cc; cache = alone_holds c m new }
      ]) refl

  healed_holds : (r : Reached) (c : ContextData) (m : MarketMsg) → r.body ≡ record_of c.sender r.number → Holds c → Holds (healed r c m).context
  healed_holds r c m is holds =
      elim (nat_le c.last r.number) as (λ b. Holds (if b then reached_last r c m else stopped_short c).context) [
        | true ↦ record { image = λ ok. is; cache = tt }
        | false ↦ holds
      ]

  heal_holds : (c : ContextData) (m : MarketMsg) → m.sender ≡ c.sender → Holds c → m.body ≡ record_of m.sender m.seq
      → Holds (healed (reached c.cache.updates m.seq m.body) c m).context
  heal_holds c m same holds is =
      healed_holds (reached c.cache.updates m.seq m.body) c m
      (reached_record c.sender m.seq c.cache.updates m.body holds.cache (is ∙ ap (λ (s : ℕ). record_of s m.seq) same)) holds

  image_acted_holds : (strategy : Strategy) (phase : Phase) (relation : Relation) (c : ContextData) (m : MarketMsg)
      → c.phase ≡ phase → Related relation c.sender c.last m → Holds c → m.body ≡ record_of m.sender m.seq
      → Holds (acted (decided strategy phase relation false) c m).context
  image_acted_holds strategy Await relation c m is_phase told holds is =
      either_way (λ a. Holds (acted a c m).context) strategy Start StartKeep
      (handled_holds (cached_above c m) (with_image_of m (turned_to m.sender c)) (image_holds c m is) (cached_above_holds c m holds))
      (started_keeping_holds c m holds is)
  image_acted_holds strategy LiveOk Next c m is_phase told holds is = settled_holds (with_image_of m c) (is ∙ ap (λ (s : ℕ). record_of s m.seq) told.same) holds.cache
  image_acted_holds strategy LiveOk Same c m is_phase told holds is = settled_holds (with_image_of m c) (is ∙ ap (λ (s : ℕ). record_of s m.seq) told.same) holds.cache
  image_acted_holds strategy LiveOk Old c m is_phase told holds is = holds
  image_acted_holds strategy LiveOk Ahead c m is_phase told holds is = settled_holds (with_image_of m c) (is ∙ ap (λ (s : ℕ). record_of s m.seq) told.same) holds.cache
  image_acted_holds strategy LiveOk Other c m is_phase told holds is = image_holds c m is
  image_acted_holds strategy LiveStale Next c m is_phase told holds is = heal_holds c m told.same holds is
  image_acted_holds strategy LiveStale Same c m is_phase told holds is = heal_holds c m told.same holds is
  image_acted_holds strategy LiveStale Old c m is_phase told holds is = heal_holds c m told.same holds is
  image_acted_holds strategy LiveStale Ahead c m is_phase told holds is = heal_holds c m told.same holds is
  image_acted_holds strategy LiveStale Other c m is_phase told holds is = image_holds c m is
  image_acted_holds strategy LiveKept Next c m is_phase told holds is = settled_holds (with_image_of m c) (is ∙ ap (λ (s : ℕ). record_of s m.seq) told.same) holds.cache
  image_acted_holds strategy LiveKept Same c m is_phase told holds is = settled_holds (with_image_of m c) (is ∙ ap (λ (s : ℕ). record_of s m.seq) told.same) holds.cache
  image_acted_holds strategy LiveKept Old c m is_phase told holds is = holds
  image_acted_holds strategy LiveKept Ahead c m is_phase told holds is = settled_holds (with_image_of m c) (is ∙ ap (λ (s : ℕ). record_of s m.seq) told.same) holds.cache
  image_acted_holds strategy LiveKept Other c m is_phase told holds is = image_holds c m is

  update_message_holds : (strategy : Strategy) (phase : Phase) (relation : Relation) (c : ContextData) (m : MarketMsg)
      → c.phase ≡ phase → Related relation c.sender c.last m → Holds c → IsUpdateOf m.sender (m.seq, m.body)
      → Holds (acted (decided strategy phase relation true) c m).context
  update_message_holds strategy phase relation c m is_phase told holds new =
      update_cases (λ step. Holds step.context) strategy phase relation c m
      (λ waits. kept_holds c m (is_phase ∙ waits) holds new)
      (λ two kept ahead. caught_holds c m (ap is_ok (is_phase ∙ kept)) (ahead_same c.sender c.last m relation told ahead) holds new)
      (update_holds strategy phase relation c m is_phase told holds new)

  -- a message in a market context
  market_holds : (kind : MsgKind) (c : ContextData) (m : MarketMsg) → m.kind ≡ kind → Holds c → IsGenuineBody (bases m.sender) (updates m.sender) kind m.seq m.body
      → Holds (acted (decided c.strategy c.phase (relation_of c.sender c.last m) (is_update kind)) c m).context
  market_holds Initial c m is_kind holds genuine = image_acted_holds c.strategy c.phase (relation_of c.sender c.last m) c m refl (related c.sender c.last m) holds genuine.1
  market_holds Recap c m is_kind holds genuine = image_acted_holds c.strategy c.phase (relation_of c.sender c.last m) c m refl (related c.sender c.last m) holds genuine.1
  market_holds Update c m is_kind holds genuine = update_message_holds c.strategy c.phase (relation_of c.sender c.last m) c m refl (related c.sender c.last m) holds genuine

  snapshot_holds : (phase : Phase) (kind : MsgKind) (c : ContextData) (m : MarketMsg) → Holds c → IsGenuineBody (bases m.sender) (updates m.sender) kind m.seq m.body
      → Holds (snapshot_acted phase (is_update kind) c m).context
  snapshot_holds Await Initial c m holds genuine = image_holds c m genuine.1
  snapshot_holds Await Recap c m holds genuine = image_holds c m genuine.1
  snapshot_holds Await Update c m holds genuine = holds
  snapshot_holds LiveOk kind c m holds genuine = holds
  snapshot_holds LiveStale kind c m holds genuine = holds
  snapshot_holds LiveKept kind c m holds genuine = holds

  step_holds : (kind : SubKind) (c : ContextData) (m : MarketMsg) → Holds c → IsGenuine bases updates m → Holds (step_by kind c m).context
  step_holds Market c m holds genuine = market_holds m.kind c m refl holds genuine.body
  step_holds Snapshot c m holds genuine = snapshot_holds c.phase m.kind c m holds genuine.body
  step_holds Basic c m holds genuine = holds

  after_all_holds : (messages : List MarketMsg) (c : ContextData) → Holds c → AllByRecursion (IsGenuine bases updates) messages → Holds (after_all c messages)
  after_all_holds [] c holds all = holds
  after_all_holds (m ∷ messages) c holds all = after_all_holds messages (after c m) (step_holds c.kind c m holds all.0) all.1

  new_holds : (strategy : Strategy) (kind : SubKind) (size : ℕ) → Holds (new_context strategy kind size)
  new_holds strategy kind size = record { image = λ ok. absurd cc; cache = tt }

ok_quality : (phase : Phase) → quality_in phase ≡ quality.Ok → is_ok phase ≡ true
ok_quality Await is = absurd cc
ok_quality LiveOk is = refl
ok_quality LiveStale is = absurd cc
ok_quality LiveKept is = refl

pub image_law : ImageLaw
image_law bases updates strategy kind size messages genuine ok =
    (after_all_holds bases updates messages (new_context strategy kind size) (new_holds bases updates strategy kind size) genuine).image
    (ok_quality (fold strategy kind size messages).phase ok)

-- A BASIC SUBSCRIPTION

unmoved : (strategy : Strategy) (size : ℕ) (ms : List MarketMsg) → after_all (new_context strategy Basic size) ms ≡ new_context strategy Basic size
unmoved strategy size [] = refl
unmoved strategy size (m ∷ ms) = unmoved strategy size ms

pub no_image : BasicLaw
no_image strategy size ms = ap (λ (c : ContextData). c.phase) (unmoved strategy size ms)
