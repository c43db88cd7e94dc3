-- The callbacks of a context that took sound messages are such as a subscription hears, and its image is one that a log
-- may have.
use Rattle.std.specs.Prelude.{if◌then◌else◌}
use Rattle.std.specs.List.{AllByRecursion}
use Rattle.std.proofs.Common.{◌≡◌, ℕ, suc, ◌-◌, ◌^◌, ◌<◌, ◌==◌, nat_le, Bool, true, false, List, [], ◌∷◌, refl, subst, arith}
use Rattle.mama_msg.specs.Field.{FieldData}
use Rattle.mama_msg.specs.Message.{apply}
use Rattle.mama_event.specs.declared.ids.SubId.{SubId}
use Rattle.mama_event.specs.declared.market.MarketMsg.{MarketMsg}
use Rattle.mama_event.specs.declared.market.SubKind.{SubKind}
use Rattle.mama_event.specs.declared.market.SubKind.TheVariants.{Market, Snapshot, Basic}
use Rattle.mama_event.specs.declared.market.Quality.TheVariants as quality
use Rattle.mama_event.specs.declared.callback.Callback.{Callback}
use Rattle.mama_event.specs.declared.callback.Callback.TheVariants as on
use Rattle.mama_event.specs.declared.shape.Strategy.{Strategy}
use Rattle.mama_words.specs.declared.nums.Nums.{Nums}
use Rattle.mama_words.specs.Field.{IsMessage}
use Rattle.mama_dq.specs.declared.table.Phase.{Phase}
use Rattle.mama_dq.specs.declared.table.Phase.TheVariants.{Await, LiveOk, LiveStale, LiveKept}
use Rattle.mama_dq.specs.declared.table.Action.{Action}
use Rattle.mama_dq.specs.declared.table.Action.TheVariants.{Keep, Start, Apply, ApplyKeep, KeepOnly, Ignore, Gap, Switch, Replace, Heal, Adopt, StartKeep, Catch, Late, KeepLate}
use Rattle.mama_dq.specs.Table.{is_update, decided, relation_of}
use Rattle.mama_dq.specs.Cache.{CacheData, above, put, emptied, Reached, reached}
use Rattle.mama_dq.specs.Context.{ContextData, new_context}
use Rattle.mama_dq.specs.Strategy.{Step, settled, unchanged, if_ok, if_stale, with_update, with_cached, turned_to, waiting_for, with_image_of, stale_calls, gap_calls, switch_calls, adopt_calls, update_acted, updated, as_message, handled, cached_above, started, reached_last, stopped_short, healed, acted, action_of, snapshot_acted, step_by, after, callbacks_of, after_all, fold}
use Rattle.mama_dq.proofs.Comparisons.{eq_true}
use Rattle.mama_dq.proofs.ImageLaw.{all_added, all_put, all_above}
use Rattle.mama_rules_rounds.specs.Told.{image_in}
use Rattle.mama_log_line.specs.Names.{NamesData, IsSub}
use Rattle.mama_log_line.specs.Entering.{IsBody, SubHears, IsLastImage}
use Rattle.mama_laws_genuine.proofs.Elements.{all_append, all_if}
use Rattle.mama_laws_logged.proofs.Bodies.{applied_message}
use Rattle.mama_laws_logged.proofs.Fits.{IsSound}

-- a number fits its type where the next one does, and so does the one before it
fits_below : (n : ℕ) → suc n < 2 ^ 32 → n < 2 ^ 32
fits_below n next = omega arith

fits_before : (n : ℕ) → n < 2 ^ 32 → n - 1 < 2 ^ 32
fits_before n fits = omega arith

module _ (nums : Nums) where
  -- ---- contexts

  -- a cached update, as a sound message brought it
  record IsCached (e : ℕ × List FieldData) : Type 0 where
    pub next : suc e.0 < 2 ^ 32
    pub body : IsBody nums e.1

  -- what holds of a context that took sound messages
  record IsGood (c : ContextData) : Type 0 where
    pub sender : c.sender < 2 ^ 32
    pub next : suc c.last < 2 ^ 32
    pub image : IsMessage nums c.image
    pub cache : AllByRecursion IsCached c.cache.updates

  -- a record that cached updates reach
  record IsReached (r : Reached) : Type 0 where
    pub next : suc r.number < 2 ^ 32
    pub body : IsMessage nums r.body

  abbrev AllHear : List Callback → Type 0
  AllHear calls = AllByRecursion (SubHears nums) calls

  record Fine (step : Step) : Type 0 where
    pub context : IsGood step.context
    pub calls : AllHear step.calls

  new_good : (strategy : Strategy) (kind : SubKind) (size : ℕ) → IsGood (new_context strategy kind size)
  new_good strategy kind size = record { sender = omega arith; next = omega arith; image = record { fields = tt; distinct = refl }; cache = tt }

  last_fits : (c : ContextData) → IsGood c → c.last < 2 ^ 32
  last_fits c good = fits_below c.last good.next

  turned_good : (c : ContextData) (m : MarketMsg) → IsGood c → IsSound nums m → IsGood (turned_to m.sender c)
  turned_good c m good sound = record { sender = sound.msg.sender; next = good.next; image = good.image; cache = tt }

  waiting_good : (c : ContextData) (m : MarketMsg) → IsGood c → IsSound nums m → IsGood (waiting_for m.sender c)
  waiting_good c m good sound = elim (c.sender == m.sender) as (λ b. IsGood (if b then c else turned_to m.sender c)) [
    | true ↦ good
    | false ↦ turned_good c m good sound
  ]

  image_good : (c : ContextData) (m : MarketMsg) → IsGood c → IsSound nums m → IsGood (with_image_of m c)
  image_good c m good sound = record { sender = good.sender; next = sound.next; image = sound.msg.body.message; cache = good.cache }

  cached_good : (c : ContextData) (m : MarketMsg) → IsGood c → IsSound nums m → IsGood (with_cached c m)
  cached_good c m good sound = record {
    sender = good.sender;
    next = good.next;
    image = good.image;
    cache = all_added IsCached c.cache m.seq m.body good.cache (record { next = sound.next; body = sound.msg.body });
  }

  -- a cached update as the message that brought it
  cached_sound : (sender : ℕ) (e : ℕ × List FieldData) → sender < 2 ^ 32 → IsCached e → IsSound nums (as_message sender e)
  cached_sound sender e fits is = record { msg = record { sender = fits; seq = fits_below e.0 is.next; body = is.body }; next = is.next }

  above_cached : (c : ContextData) (m : MarketMsg) → IsGood c → AllByRecursion IsCached (cached_above c m)
  above_cached c m good = all_if IsCached (c.sender == m.sender) (above m.seq c.cache.updates) [] (all_above IsCached m.seq c.cache.updates good.cache) tt

  -- ---- callbacks

  heard_if_ok : (phase : Phase) (calls : List Callback) → AllHear calls → AllHear (if_ok phase calls)
  heard_if_ok Await calls all = tt
  heard_if_ok LiveOk calls all = all
  heard_if_ok LiveStale calls all = tt
  heard_if_ok LiveKept calls all = all

  heard_if_stale : (phase : Phase) (calls : List Callback) → AllHear calls → AllHear (if_stale phase calls)
  heard_if_stale Await calls all = tt
  heard_if_stale LiveOk calls all = tt
  heard_if_stale LiveStale calls all = all
  heard_if_stale LiveKept calls all = tt

  stale_heard : (phase : Phase) (sender last : ℕ) (m : MarketMsg) → sender < 2 ^ 32 → last < 2 ^ 32 → IsSound nums m → AllHear (stale_calls phase sender last m)
  stale_heard phase sender last m from to sound =
      all_append (SubHears nums) (if_ok phase (on.Quality quality.Stale last ∷ on.RecapRequest sender ∷ [])) (on.Msg m quality.Stale ∷ [])
      (heard_if_ok phase (on.Quality quality.Stale last ∷ on.RecapRequest sender ∷ []) (to, (from, tt))) (sound.msg, tt)

  gap_heard : (c : ContextData) (m : MarketMsg) → IsGood c → IsSound nums m → AllHear (gap_calls c.phase c.sender c.last m)
  gap_heard c m good sound = ((good.next, fits_before m.seq sound.msg.seq), stale_heard c.phase c.sender c.last m good.sender (last_fits c good) sound)

  switch_heard : (c : ContextData) (m : MarketMsg) → IsGood c → IsSound nums m → AllHear (switch_calls c.phase c.last m)
  switch_heard c m good sound =
      all_append (SubHears nums) (if_ok c.phase (on.Quality quality.Stale c.last ∷ [])) (on.RecapRequest m.sender ∷ on.Msg m quality.Stale ∷ [])
      (heard_if_ok c.phase (on.Quality quality.Stale c.last ∷ []) (last_fits c good, tt)) (sound.msg.sender, (sound.msg, tt))

  adopt_heard : (phase : Phase) (m : MarketMsg) → IsSound nums m → AllHear (adopt_calls phase m)
  adopt_heard phase m sound = (sound.msg, heard_if_stale phase (on.Quality quality.Ok m.seq ∷ []) (sound.msg.seq, tt))

  -- ---- steps

  applied_good : (phase : Phase) (c : ContextData) (m : MarketMsg) → IsGood c → IsSound nums m → IsGood (with_update phase c m)
  applied_good phase c m good sound = record {
    sender = good.sender;
    next = sound.next;
    image = applied_message nums c.image m.body good.image sound.msg.body.message;
    cache = good.cache;
  }

  -- the context with an update applied to its image and added to its cache
  kept_good : (c : ContextData) (m : MarketMsg) → IsGood c → IsSound nums m → IsGood (with_cached (with_update LiveStale c m) m)
  kept_good c m good sound = cached_good (with_update LiveStale c m) m (applied_good LiveStale c m good sound) sound

  -- the context whose cache keeps what is above the last number
  settled_good : (c : ContextData) → IsGood c → IsGood (settled c)
  settled_good c good = record { sender = good.sender; next = good.next; image = good.image; cache = all_above IsCached c.last c.cache.updates good.cache }

  unchanged_fine : (c : ContextData) → IsGood c → Fine (unchanged c)
  unchanged_fine c good = record { context = good; calls = tt }

  update_fine : (a : Action) (c : ContextData) (m : MarketMsg) → IsGood c → IsSound nums m → Fine (update_acted a c m)
  update_fine Apply c m good sound = record { context = settled_good (with_update LiveOk c m) (applied_good LiveOk c m good sound); calls = (sound.msg, tt) }
  update_fine ApplyKeep c m good sound = record { context = kept_good c m good sound; calls = (sound.msg, tt) }
  update_fine KeepOnly c m good sound = record { context = cached_good c m good sound; calls = tt }
  update_fine Gap c m good sound = record { context = kept_good c m good sound; calls = gap_heard c m good sound }
  update_fine Switch c m good sound = record {
    context = kept_good (turned_to m.sender c) m (turned_good c m good sound) sound;
    calls = switch_heard c m good sound;
  }
  update_fine Ignore c m good sound = unchanged_fine c good
  update_fine Keep c m good sound = unchanged_fine c good
  update_fine Start c m good sound = unchanged_fine c good
  update_fine Replace c m good sound = unchanged_fine c good
  update_fine Heal c m good sound = unchanged_fine c good
  update_fine Adopt c m good sound = unchanged_fine c good
  update_fine StartKeep c m good sound = unchanged_fine c good
  update_fine Catch c m good sound = unchanged_fine c good
  update_fine Late c m good sound = record { context = good; calls = ((sound.msg.sender, sound.msg.seq), tt) }
  update_fine KeepLate c m good sound = record { context = cached_good c m good sound; calls = ((sound.msg.sender, sound.msg.seq), tt) }

  handled_fine : (es : List (ℕ × List FieldData)) (c : ContextData) → IsGood c → AllByRecursion IsCached es → Fine (handled c es)
  handled_fine [] c good all = unchanged_fine c good
  handled_fine (e ∷ es) c good all =
      let m : MarketMsg = as_message c.sender e in
      let first : Fine (updated c m) = update_fine (decided c.strategy c.phase (relation_of c.sender c.last m) true) c m good (cached_sound c.sender e good.sender all.0) in
      let rest : Fine (handled (updated c m).context es) = handled_fine es (updated c m).context first.context all.1 in
      record { context = rest.context; calls = all_append (SubHears nums) (updated c m).calls (handled (updated c m).context es).calls first.calls rest.calls }

  started_fine : (c : ContextData) (m : MarketMsg) → IsGood c → IsSound nums m → Fine (started c m)
  started_fine c m good sound =
      let begun : ContextData = with_image_of m (turned_to m.sender c) in
      let rest : Fine (handled begun (cached_above c m)) =
      handled_fine (cached_above c m) begun (image_good (turned_to m.sender c) m (turned_good c m good sound) sound) (above_cached c m good) in
      record { context = rest.context; calls = (sound.msg, rest.calls) }

  all_reached : (es : List (ℕ × List FieldData)) (n : ℕ) (body : List FieldData) → AllByRecursion IsCached es → suc n < 2 ^ 32 → IsMessage nums body
      → IsReached (reached es n body)
  all_reached [] n body all next is = record { next = next; body = is }
  all_reached (e ∷ es) n body all next is =
      (elim (e.0 == suc n) as (λ b. (e.0 == suc n) ≡ b → IsReached (if b then reached es (suc n) (apply body e.1) else reached es n body)) [
        | true ↦ λ same.
            all_reached es (suc n) (apply body e.1) all.1 (subst (λ (k : ℕ). suc k < 2 ^ 32) (eq_true e.0 (suc n) same) all.0.next)
            (applied_message nums body e.1 is all.0.body.message)
        | false ↦ λ other. all_reached es n body all.1 next is
      ]) refl

  healed_fine : (r : Reached) (c : ContextData) (m : MarketMsg) → IsReached r → IsGood c → IsSound nums m → Fine (healed r c m)
  healed_fine r c m is good sound = elim (nat_le c.last r.number) as (λ b. Fine (if b then reached_last r c m else stopped_short c)) [
    | true ↦ record {
      context = record { sender = good.sender; next = is.next; image = is.body; cache = tt };
      calls = (sound.msg, (fits_below r.number is.next, tt));
    }
    | false ↦ record { context = good; calls = (good.sender, tt) }
  ]

  acted_fine : (a : Action) (c : ContextData) (m : MarketMsg) → IsGood c → IsSound nums m → Fine (acted a c m)
  acted_fine Keep c m good sound = record { context = cached_good (waiting_for m.sender c) m (waiting_good c m good sound) sound; calls = tt }
  acted_fine Start c m good sound = started_fine c m good sound
  acted_fine Replace c m good sound = record { context = settled_good (with_image_of m c) (image_good c m good sound); calls = (sound.msg, tt) }
  acted_fine Heal c m good sound =
      healed_fine (reached c.cache.updates m.seq m.body) c m (all_reached c.cache.updates m.seq m.body good.cache sound.next sound.msg.body.message) good sound
  acted_fine Adopt c m good sound = record {
    context = image_good (turned_to m.sender c) m (turned_good c m good sound) sound;
    calls = adopt_heard c.phase m sound;
  }
  acted_fine Apply c m good sound = update_fine Apply c m good sound
  acted_fine ApplyKeep c m good sound = update_fine ApplyKeep c m good sound
  acted_fine KeepOnly c m good sound = update_fine KeepOnly c m good sound
  acted_fine Ignore c m good sound = unchanged_fine c good
  acted_fine Gap c m good sound = update_fine Gap c m good sound
  acted_fine Switch c m good sound = update_fine Switch c m good sound
  acted_fine StartKeep c m good sound = record {
    context = settled_good (with_image_of m (waiting_for m.sender c)) (image_good (waiting_for m.sender c) m (waiting_good c m good sound) sound);
    calls = (sound.msg, tt);
  }
  acted_fine Catch c m good sound =
      handled_fine (put c.cache.updates m.seq m.body) (record c { phase = LiveOk; cache = emptied c.cache })
      (record { sender = good.sender; next = good.next; image = good.image; cache = tt })
      (all_put IsCached c.cache.updates m.seq m.body good.cache (record { next = sound.next; body = sound.msg.body }))
  acted_fine Late c m good sound = update_fine Late c m good sound
  acted_fine KeepLate c m good sound = update_fine KeepLate c m good sound

  snapshot_fine : (phase : Phase) (update : Bool) (c : ContextData) (m : MarketMsg) → IsGood c → IsSound nums m → Fine (snapshot_acted phase update c m)
  snapshot_fine Await false c m good sound = record {
    context = image_good (turned_to m.sender c) m (turned_good c m good sound) sound;
    calls = (sound.msg, tt);
  }
  snapshot_fine Await true c m good sound = unchanged_fine c good
  snapshot_fine LiveOk update c m good sound = unchanged_fine c good
  snapshot_fine LiveStale update c m good sound = unchanged_fine c good
  snapshot_fine LiveKept update c m good sound = unchanged_fine c good

  step_fine : (kind : SubKind) (c : ContextData) (m : MarketMsg) → IsGood c → IsSound nums m → Fine (step_by kind c m)
  step_fine Market c m good sound = acted_fine (action_of c m) c m good sound
  step_fine Snapshot c m good sound = snapshot_fine c.phase (is_update m.kind) c m good sound
  step_fine Basic c m good sound = record { context = good; calls = (sound.msg, tt) }

  after_all_good : (messages : List MarketMsg) (c : ContextData) → IsGood c → AllByRecursion (IsSound nums) messages → IsGood (after_all c messages)
  after_all_good [] c good all = good
  after_all_good (m ∷ messages) c good all = after_all_good messages (after c m) (step_fine c.kind c m good all.0).context all.1

  folded : (strategy : Strategy) (kind : SubKind) (size : ℕ) (messages : List MarketMsg) → AllByRecursion (IsSound nums) messages → IsGood (fold strategy kind size messages)
  folded strategy kind size messages all = after_all_good messages (new_context strategy kind size) (new_good strategy kind size) all

  -- what a message makes a context call, after others
  pub calls_sound : (strategy : Strategy) (kind : SubKind) (size : ℕ) (messages : List MarketMsg) (m : MarketMsg) → AllByRecursion (IsSound nums) messages → IsSound nums m
      → AllByRecursion (SubHears nums) (callbacks_of (fold strategy kind size messages) m)
  calls_sound strategy kind size messages m all sound =
      (step_fine (fold strategy kind size messages).kind (fold strategy kind size messages) m (folded strategy kind size messages all) sound).calls

-- ---- images

image_fits : (names : NamesData) (s : SubId) → IsSub names s → (strategy : Strategy) (kind : SubKind) (phase : Phase) (sender last : ℕ) (image : List FieldData) (cache : CacheData)
    → IsGood names.nums (record { strategy = strategy; kind = kind; phase = phase; sender = sender; last = last; image = image; cache = cache })
    → AllByRecursion (IsLastImage names) (image_in s (record { strategy = strategy; kind = kind; phase = phase; sender = sender; last = last; image = image; cache = cache }))
image_fits names s is strategy Basic phase sender last image cache good = tt
image_fits names s is strategy Market Await sender last image cache good = tt
image_fits names s is strategy Market LiveOk sender last image cache good = (record { sub = is; sender = good.sender; last = fits_below last good.next; body = good.image }, tt)
image_fits names s is strategy Market LiveStale sender last image cache good = (record { sub = is; sender = good.sender; last = fits_below last good.next; body = good.image }, tt)
image_fits names s is strategy Market LiveKept sender last image cache good = (record { sub = is; sender = good.sender; last = fits_below last good.next; body = good.image }, tt)
image_fits names s is strategy Snapshot Await sender last image cache good = tt
image_fits names s is strategy Snapshot LiveOk sender last image cache good = (record { sub = is; sender = good.sender; last = fits_below last good.next; body = good.image }, tt)
image_fits names s is strategy Snapshot LiveStale sender last image cache good = (record { sub = is; sender = good.sender; last = fits_below last good.next; body = good.image }, tt)
image_fits names s is strategy Snapshot LiveKept sender last image cache good = (record { sub = is; sender = good.sender; last = fits_below last good.next; body = good.image }, tt)

-- the image of a context after some messages
pub image_sound : (names : NamesData) (s : SubId) → IsSub names s → (strategy : Strategy) (kind : SubKind) (size : ℕ) (messages : List MarketMsg) → AllByRecursion (IsSound names.nums) messages
    → AllByRecursion (IsLastImage names) (image_in s (fold strategy kind size messages))
image_sound names s is strategy kind size messages all =
    let c : ContextData = fold strategy kind size messages in
    image_fits names s is c.strategy c.kind c.phase c.sender c.last c.image c.cache (folded names.nums strategy kind size messages all)
