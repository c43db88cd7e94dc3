-- A context that takes updates of one sender alone asks no other for a recap, whatever the senders of its images.
use Rattle.std.specs.Prelude.{if◌then◌else◌, ◌⊎◌}
use Rattle.std.specs.List.{AllByRecursion}
use Rattle.std.proofs.Common.{◌≡◌, ℕ, ◌==◌, nat_le, Bool, true, false, List, [], ◌∷◌, refl, sym, ◌∙◌, ap, inl, inr, ⊎_elim}
use Rattle.mama_msg.specs.Field.{FieldData}
use Rattle.mama_event.specs.declared.market.MarketMsg.{MarketMsg}
use Rattle.mama_event.specs.declared.market.SubKind.{SubKind}
use Rattle.mama_event.specs.declared.market.SubKind.TheVariants.{Market, Snapshot, Basic}
use Rattle.mama_event.specs.declared.callback.Callback.{Callback}
use Rattle.mama_event.specs.declared.callback.Callback.TheVariants as on
use Rattle.mama_event.specs.declared.shape.Strategy.{Strategy}
use Rattle.mama_event.specs.declared.shape.Strategy.TheVariants.{One, Two}
use Rattle.mama_dq.specs.declared.table.Phase.{Phase}
use Rattle.mama_dq.specs.declared.table.Phase.TheVariants.{Await, LiveOk, LiveStale, LiveKept}
use Rattle.mama_dq.specs.declared.table.Relation.{Relation}
use Rattle.mama_dq.specs.declared.table.Relation.TheVariants.{Next, Same, Old, Ahead, Other}
use Rattle.mama_dq.specs.declared.table.Action.{Action}
use Rattle.mama_dq.specs.declared.table.Action.TheVariants.{Keep, Start, Apply, ApplyKeep, KeepOnly, Ignore, Gap, Switch, Replace, Heal, Adopt, StartKeep, Catch, Late, KeepLate}
use Rattle.mama_dq.specs.Table.{is_update, decided, relation_of, relation_of_number}
use Rattle.mama_dq.specs.Cache.{Reached, reached, above, put, emptied}
use Rattle.mama_dq.specs.Context.{ContextData, new_context}
use Rattle.mama_dq.specs.Strategy.{Step, ok_with, settled, unchanged, turned_to, with_image_of, waiting_for, stale_calls, switch_calls, adopt_calls, update_acted, updated, as_message, handled, cached_above, reached_last, stopped_short, healed, acted, snapshot_acted, step_by, after, after_all, callbacks_of, fold}
use Rattle.mama_dq.proofs.Comparisons.{eq_true}
use Rattle.mama_laws_genuine.proofs.Elements.{all_append}

module _ (own : ℕ) where
  -- the callback asks no other sender for a recap
  abbrev pub Asks : Callback → Type 0
  Asks (on.RecapRequest s) = s ≡ own
  Asks (on.Gap first to) = Unit {0}
  Asks (on.Quality q n) = Unit {0}
  Asks on.Create = Unit {0}
  Asks (on.Msg m q) = Unit {0}
  Asks (on.Late s n) = Unit {0}
  Asks (on.Error e) = Unit {0}
  Asks on.Destroy = Unit {0}
  Asks (on.Tick t) = Unit {0}
  Asks (on.Reply b) = Unit {0}

  abbrev AllAsk : List Callback → Type 0
  AllAsk calls = AllByRecursion Asks calls

  -- a message of that sender
  abbrev Own : MarketMsg → Type 0
  Own m = m.sender ≡ own

  -- a message that is of that sender if it is an update; an image message may be of any
  abbrev pub OwnUpdate : MarketMsg → Type 0
  OwnUpdate m = is_update m.kind ≡ true → m.sender ≡ own

  -- a step that leaves the context with that sender
  record Keeps (step : Step) : Type 0 where
    pub sender : step.context.sender ≡ own
    pub calls : AllAsk step.calls

  -- a cache that holds something is of that sender
  abbrev HasOwnCache : ContextData → Type 0
  HasOwnCache c = (c.cache.updates ≡ []) ⊎ (c.sender ≡ own)

  -- and so is an image that may lack updates
  abbrev HasOwn : Phase → ContextData → Type 0
  HasOwn Await c = HasOwnCache c
  HasOwn LiveOk c = HasOwnCache c
  HasOwn LiveStale c = c.sender ≡ own
  HasOwn LiveKept c = HasOwnCache c

  record Fine (step : Step) : Type 0 where
    pub context : HasOwn step.context.phase step.context
    pub calls : AllAsk step.calls

  has_own : (phase : Phase) (c : ContextData) → c.sender ≡ own → HasOwn phase c
  has_own Await c is = inr is
  has_own LiveOk c is = inr is
  has_own LiveStale c is = is
  has_own LiveKept c is = inr is

  fine : (step : Step) → Keeps step → Fine step
  fine step keeps = record { context = has_own step.context.phase step.context keeps.sender; calls = keeps.calls }

  -- ---- callbacks

  stale_ask : (phase : Phase) (sender last : ℕ) (m : MarketMsg) → sender ≡ own → AllAsk (stale_calls phase sender last m)
  stale_ask Await sender last m is = (tt, tt)
  stale_ask LiveOk sender last m is = (tt, (is, (tt, tt)))
  stale_ask LiveStale sender last m is = (tt, tt)
  stale_ask LiveKept sender last m is = (tt, (is, (tt, tt)))

  switch_ask : (phase : Phase) (last : ℕ) (m : MarketMsg) → Own m → AllAsk (switch_calls phase last m)
  switch_ask Await last m is = (is, (tt, tt))
  switch_ask LiveOk last m is = (tt, (is, (tt, tt)))
  switch_ask LiveStale last m is = (is, (tt, tt))
  switch_ask LiveKept last m is = (tt, (is, (tt, tt)))

  adopt_ask : (phase : Phase) (m : MarketMsg) → AllAsk (adopt_calls phase m)
  adopt_ask Await m = (tt, tt)
  adopt_ask LiveOk m = (tt, tt)
  adopt_ask LiveStale m = (tt, (tt, tt))
  adopt_ask LiveKept m = (tt, tt)

  -- ---- steps

  update_keeps : (a : Action) (c : ContextData) (m : MarketMsg) → c.sender ≡ own → Own m → Keeps (update_acted a c m)
  update_keeps Keep c m same is = record { sender = same; calls = tt }
  update_keeps Start c m same is = record { sender = same; calls = tt }
  update_keeps Apply c m same is = record { sender = same; calls = (tt, tt) }
  update_keeps ApplyKeep c m same is = record { sender = same; calls = (tt, tt) }
  update_keeps KeepOnly c m same is = record { sender = same; calls = tt }
  update_keeps Ignore c m same is = record { sender = same; calls = tt }
  update_keeps Gap c m same is = record { sender = same; calls = (tt, stale_ask c.phase c.sender c.last m same) }
  update_keeps Switch c m same is = record { sender = is; calls = switch_ask c.phase c.last m is }
  update_keeps Replace c m same is = record { sender = same; calls = tt }
  update_keeps Heal c m same is = record { sender = same; calls = tt }
  update_keeps Adopt c m same is = record { sender = same; calls = tt }
  update_keeps StartKeep c m same is = record { sender = same; calls = tt }
  update_keeps Catch c m same is = record { sender = same; calls = tt }
  update_keeps Late c m same is = record { sender = same; calls = (tt, tt) }
  update_keeps KeepLate c m same is = record { sender = same; calls = (tt, tt) }

  handled_keeps : (es : List (ℕ × List FieldData)) (c : ContextData) → c.sender ≡ own → Keeps (handled c es)
  handled_keeps [] c same = record { sender = same; calls = tt }
  handled_keeps (e ∷ es) c same =
      let m : MarketMsg = as_message c.sender e in
      let first : Keeps (updated c m) = update_keeps (decided c.strategy c.phase (relation_of c.sender c.last m) true) c m same same in
      let rest : Keeps (handled (updated c m).context es) = handled_keeps es (updated c m).context first.sender in
      record { sender = rest.sender; calls = all_append Asks (updated c m).calls (handled (updated c m).context es).calls first.calls rest.calls }

  waiting_keeps : (c : ContextData) (sender : ℕ) → sender ≡ own → (waiting_for sender c).sender ≡ own
  waiting_keeps c sender is =
      (elim (c.sender == sender) as (λ b. (c.sender == sender) ≡ b → (if b then c else turned_to sender c).sender ≡ own) [
        | true ↦ λ same. eq_true c.sender sender same ∙ is
        | false ↦ λ other. is
      ]) refl

  healed_keeps : (r : Reached) (c : ContextData) (m : MarketMsg) → c.sender ≡ own → Keeps (healed r c m)
  healed_keeps r c m same = elim (nat_le c.last r.number) as (λ b. Keeps (if b then reached_last r c m else stopped_short c)) [
    | true ↦ record { sender = same; calls = (tt, (tt, tt)) }
    | false ↦ record { sender = same; calls = (same, tt) }
  ]

  -- while there is no image, whatever the sender of the context was
  kept_keeps : (c : ContextData) (m : MarketMsg) → Own m → Keeps (acted Keep c m)
  kept_keeps c m is = record { sender = waiting_keeps c m.sender is; calls = tt }

  -- the cached updates of the sender of a first image, of which there are none if it is another's
  taken_out : (c : ContextData) (m : MarketMsg) → HasOwn Await c → (cached_above c m ≡ []) ⊎ Own m
  taken_out c m has = ⊎_elim
      (λ none. inl (none_above (c.sender == m.sender) none))
      (λ is. (elim (c.sender == m.sender) as (λ b. (c.sender == m.sender) ≡ b → ((if b then above m.seq c.cache.updates else []) ≡ []) ⊎ Own m) [
        | true ↦ λ same. inr (sym (eq_true c.sender m.sender same) ∙ is)
        | false ↦ λ other. inl refl
      ]) refl)
      has
    where
      none_above : (b : Bool) → c.cache.updates ≡ [] → (if b then above m.seq c.cache.updates else []) ≡ []
      none_above true none = ap (above m.seq) none
      none_above false none = refl

  begun : (c : ContextData) (m : MarketMsg) (es : List (ℕ × List FieldData)) → (es ≡ []) ⊎ Own m → Fine (handled (with_image_of m (turned_to m.sender c)) es)
  begun c m [] which = record { context = inl refl; calls = tt }
  begun c m (e ∷ es) which = ⊎_elim
      (λ none. absurd (no_list none))
      (λ is. fine (handled (with_image_of m (turned_to m.sender c)) (e ∷ es)) (handled_keeps (e ∷ es) (with_image_of m (turned_to m.sender c)) is))
      which
    where
      no_list : e ∷ es ≡ [] → ⊥
      no_list none = cc

  started_fine : (c : ContextData) (m : MarketMsg) → HasOwn Await c → Fine (acted Start c m)
  started_fine c m has =
      let rest : Fine (handled (with_image_of m (turned_to m.sender c)) (cached_above c m)) = begun c m (cached_above c m) (taken_out c m has) in
      record { context = rest.context; calls = (tt, rest.calls) }

  -- a relation to the sender of the context, if it is not that to another
  abbrev Here : Relation → ℕ → ℕ → Type 0
  Here Next sender own_sender = sender ≡ own_sender
  Here Same sender own_sender = sender ≡ own_sender
  Here Old sender own_sender = sender ≡ own_sender
  Here Ahead sender own_sender = sender ≡ own_sender
  Here Other sender own_sender = Unit {0}

  any_here : (relation : Relation) (sender own_sender : ℕ) → sender ≡ own_sender → Here relation sender own_sender
  any_here Next sender own_sender same = same
  any_here Same sender own_sender same = same
  any_here Old sender own_sender same = same
  any_here Ahead sender own_sender same = same
  any_here Other sender own_sender same = tt

  here : (sender last : ℕ) (m : MarketMsg) → Here (relation_of sender last m) m.sender sender
  here sender last m =
      (elim (m.sender == sender) as (λ b. (m.sender == sender) ≡ b → Here (if b then relation_of_number last m.seq else Other) m.sender sender) [
        | true ↦ λ same. any_here (relation_of_number last m.seq) m.sender sender (eq_true m.sender sender same)
        | false ↦ λ other. tt
      ]) refl

  switched_fine : (c : ContextData) (m : MarketMsg) → Own m → Fine (update_acted Switch c m)
  switched_fine c m is = record { context = is; calls = switch_ask c.phase c.last m is }

  unchanged_fine : (c : ContextData) → HasOwn c.phase c → Fine (unchanged c)
  unchanged_fine c has = record { context = has; calls = tt }

  caught_fine : (c : ContextData) (m : MarketMsg) → c.sender ≡ own → Fine (acted Catch c m)
  caught_fine c m same =
      let from : ContextData = record c { phase = LiveOk; cache = emptied c.cache } in
      fine (acted Catch c m) (handled_keeps (put c.cache.updates m.seq m.body) from same)

  -- an update applied to an image that is ok: what is kept above it is of the sender of the context
  settled_own : (c : ContextData) → HasOwnCache c → HasOwn (settled c).phase (settled c)
  settled_own c has =
      let own_cache : HasOwnCache (settled c) = ⊎_elim (λ none. inl (ap (above c.last) none)) (λ is. inr is) has in
      elim (above c.last c.cache.updates) as (λ (es : List (ℕ × List FieldData)). HasOwn (ok_with es) (settled c)) [ [] ↦ own_cache | e ∷ es ↦ own_cache ]

  update_fine : (s : Strategy) (phase : Phase) (relation : Relation) (c : ContextData) (m : MarketMsg) → HasOwn c.phase c → Here relation m.sender c.sender → Own m
      → Fine (acted (decided s phase relation true) c m)
  update_fine s Await relation c m has near is = fine (acted Keep c m) (kept_keeps c m is)
  update_fine s LiveOk Next c m has near is = fine (update_acted Apply c m) (update_keeps Apply c m (sym near ∙ is) is)
  update_fine One LiveOk Same c m has near is = fine (update_acted Ignore c m) (update_keeps Ignore c m (sym near ∙ is) is)
  update_fine Two LiveOk Same c m has near is = fine (update_acted Late c m) (update_keeps Late c m (sym near ∙ is) is)
  update_fine One LiveOk Old c m has near is = fine (update_acted Ignore c m) (update_keeps Ignore c m (sym near ∙ is) is)
  update_fine Two LiveOk Old c m has near is = fine (update_acted Late c m) (update_keeps Late c m (sym near ∙ is) is)
  update_fine s LiveOk Ahead c m has near is = fine (update_acted Gap c m) (update_keeps Gap c m (sym near ∙ is) is)
  update_fine s LiveOk Other c m has near is = switched_fine c m is
  update_fine s LiveStale Next c m has near is = fine (update_acted ApplyKeep c m) (update_keeps ApplyKeep c m (sym near ∙ is) is)
  update_fine One LiveStale Same c m has near is = fine (update_acted KeepOnly c m) (update_keeps KeepOnly c m (sym near ∙ is) is)
  update_fine Two LiveStale Same c m has near is = fine (update_acted KeepLate c m) (update_keeps KeepLate c m (sym near ∙ is) is)
  update_fine One LiveStale Old c m has near is = fine (update_acted KeepOnly c m) (update_keeps KeepOnly c m (sym near ∙ is) is)
  update_fine Two LiveStale Old c m has near is = fine (update_acted KeepLate c m) (update_keeps KeepLate c m (sym near ∙ is) is)
  update_fine s LiveStale Ahead c m has near is = fine (update_acted Gap c m) (update_keeps Gap c m (sym near ∙ is) is)
  update_fine s LiveStale Other c m has near is = switched_fine c m is
  update_fine s LiveKept Next c m has near is = fine (update_acted Apply c m) (update_keeps Apply c m (sym near ∙ is) is)
  update_fine One LiveKept Same c m has near is = fine (update_acted Ignore c m) (update_keeps Ignore c m (sym near ∙ is) is)
  update_fine Two LiveKept Same c m has near is = fine (update_acted Late c m) (update_keeps Late c m (sym near ∙ is) is)
  update_fine One LiveKept Old c m has near is = fine (update_acted Ignore c m) (update_keeps Ignore c m (sym near ∙ is) is)
  update_fine Two LiveKept Old c m has near is = fine (update_acted Late c m) (update_keeps Late c m (sym near ∙ is) is)
  update_fine One LiveKept Ahead c m has near is = fine (update_acted Gap c m) (update_keeps Gap c m (sym near ∙ is) is)
  update_fine Two LiveKept Ahead c m has near is = caught_fine c m (sym near ∙ is)
  update_fine s LiveKept Other c m has near is = switched_fine c m is

  replaced_fine : (c : ContextData) (m : MarketMsg) → HasOwnCache c → Fine (acted Replace c m)
  replaced_fine c m has = record { context = settled_own (with_image_of m c) has; calls = (tt, tt) }

  waiting_own : (c : ContextData) (sender : ℕ) → HasOwnCache c → HasOwnCache (waiting_for sender c)
  waiting_own c sender has = elim (c.sender == sender) as (λ (b : Bool). HasOwnCache (if b then c else turned_to sender c)) [
    | true ↦ has
    | false ↦ inl refl
  ]

  kept_fine : (c : ContextData) (m : MarketMsg) → HasOwnCache c → Fine (acted StartKeep c m)
  kept_fine c m has = record { context = settled_own (with_image_of m (waiting_for m.sender c)) (waiting_own c m.sender has); calls = (tt, tt) }

  adopted_fine : (c : ContextData) (m : MarketMsg) → Fine (acted Adopt c m)
  adopted_fine c m = record { context = inl refl; calls = adopt_ask c.phase m }

  healed_fine : (c : ContextData) (m : MarketMsg) → c.sender ≡ own → Fine (acted Heal c m)
  healed_fine c m same = fine (acted Heal c m) (healed_keeps (reached c.cache.updates m.seq m.body) c m same)

  -- image messages, whatever their sender
  image_fine : (s : Strategy) (phase : Phase) (relation : Relation) (c : ContextData) (m : MarketMsg) → HasOwn c.phase c → HasOwn phase c
      → Fine (acted (decided s phase relation false) c m)
  image_fine One Await relation c m has own_phase = started_fine c m own_phase
  image_fine Two Await relation c m has own_phase = kept_fine c m own_phase
  image_fine s LiveOk Next c m has own_phase = replaced_fine c m own_phase
  image_fine s LiveOk Same c m has own_phase = replaced_fine c m own_phase
  image_fine s LiveOk Old c m has own_phase = unchanged_fine c has
  image_fine s LiveOk Ahead c m has own_phase = replaced_fine c m own_phase
  image_fine s LiveOk Other c m has own_phase = adopted_fine c m
  image_fine s LiveStale Next c m has own_phase = healed_fine c m own_phase
  image_fine s LiveStale Same c m has own_phase = healed_fine c m own_phase
  image_fine s LiveStale Old c m has own_phase = healed_fine c m own_phase
  image_fine s LiveStale Ahead c m has own_phase = healed_fine c m own_phase
  image_fine s LiveStale Other c m has own_phase = adopted_fine c m
  image_fine s LiveKept Next c m has own_phase = replaced_fine c m own_phase
  image_fine s LiveKept Same c m has own_phase = replaced_fine c m own_phase
  image_fine s LiveKept Old c m has own_phase = unchanged_fine c has
  image_fine s LiveKept Ahead c m has own_phase = replaced_fine c m own_phase
  image_fine s LiveKept Other c m has own_phase = adopted_fine c m

  market_fine : (s : Strategy) (phase : Phase) (relation : Relation) (update : Bool) (c : ContextData) (m : MarketMsg) → HasOwn c.phase c → HasOwn phase c
      → Here relation m.sender c.sender → (update ≡ true → Own m) → Fine (acted (decided s phase relation update) c m)
  market_fine s phase relation true c m has own_phase near is = update_fine s phase relation c m has near (is refl)
  market_fine s phase relation false c m has own_phase near is = image_fine s phase relation c m has own_phase

  snapshot_fine : (phase : Phase) (update : Bool) (c : ContextData) (m : MarketMsg) → HasOwn c.phase c → Fine (snapshot_acted phase update c m)
  snapshot_fine Await false c m has = record { context = inl refl; calls = (tt, tt) }
  snapshot_fine Await true c m has = unchanged_fine c has
  snapshot_fine LiveOk update c m has = unchanged_fine c has
  snapshot_fine LiveStale update c m has = unchanged_fine c has
  snapshot_fine LiveKept update c m has = unchanged_fine c has

  step_fine : (kind : SubKind) (c : ContextData) (m : MarketMsg) → HasOwn c.phase c → OwnUpdate m → Fine (step_by kind c m)
  step_fine Market c m has is = market_fine c.strategy c.phase (relation_of c.sender c.last m) (is_update m.kind) c m has has (here c.sender c.last m) is
  step_fine Snapshot c m has is = snapshot_fine c.phase (is_update m.kind) c m has
  step_fine Basic c m has is = record { context = has; calls = (tt, tt) }

  after_all_own : (messages : List MarketMsg) (c : ContextData) → HasOwn c.phase c → AllByRecursion OwnUpdate messages
      → HasOwn (after_all c messages).phase (after_all c messages)
  after_all_own [] c has all = has
  after_all_own (m ∷ messages) c has all = after_all_own messages (after c m) (step_fine c.kind c m has all.0).context all.1

  -- what a message makes a context call, after others
  pub all_ask : (strategy : Strategy) (kind : SubKind) (size : ℕ) (before : List MarketMsg) (m : MarketMsg) → AllByRecursion OwnUpdate before → OwnUpdate m → AllAsk (callbacks_of (fold strategy kind size before) m)
  all_ask strategy kind size before m all is =
      (step_fine (fold strategy kind size before).kind (fold strategy kind size before) m (after_all_own before (new_context strategy kind size) (inl refl) all) is).calls
