-- A message that a context gives its listener is one that it took, now or before.
use Rattle.std.specs.Prelude.{if◌then◌else◌}
use Rattle.std.specs.List.{AllByRecursion}
use Rattle.std.proofs.Common.{◌≡◌, ℕ, ◌==◌, nat_le, Bool, true, false, List, [], ◌∷◌, refl, sym, subst}
use Rattle.mama_msg.specs.Field.{FieldData}
use Rattle.mama_event.specs.declared.market.MarketMsg.{MarketMsg}
use Rattle.mama_event.specs.declared.market.MsgKind.{MsgKind}
use Rattle.mama_event.specs.declared.market.MsgKind.TheVariants.{Initial, Update, Recap}
use Rattle.mama_event.specs.declared.market.SubKind.{SubKind}
use Rattle.mama_event.specs.declared.market.SubKind.TheVariants.{Market, Snapshot, Basic}
use Rattle.mama_event.specs.declared.market.Quality.TheVariants as quality
use Rattle.mama_event.specs.declared.callback.Callback.{Callback}
use Rattle.mama_event.specs.declared.callback.Callback.TheVariants as on
use Rattle.mama_event.specs.declared.shape.Strategy.{Strategy}
use Rattle.mama_event.specs.declared.shape.Strategy.TheVariants.{One, Two}
use Rattle.mama_dq.specs.declared.table.Phase.{Phase}
use Rattle.mama_dq.specs.declared.table.Phase.TheVariants.{Await, LiveOk, LiveStale, LiveKept}
use Rattle.mama_dq.specs.declared.table.Relation.{Relation}
use Rattle.mama_dq.specs.declared.table.Relation.TheVariants.{Next, Same, Old, Ahead, Other}
use Rattle.mama_dq.specs.declared.table.Action.TheVariants.{Start, Adopt, Catch}
use Rattle.mama_dq.specs.Table.{is_update, decided, relation_of}
use Rattle.mama_dq.specs.Cache.{added, emptied, put, above, Reached, reached}
use Rattle.mama_dq.specs.Context.{ContextData, new_context}
use Rattle.mama_dq.specs.Strategy.{Step, settled, with_update, if_ok, if_stale, turned_to, with_cached, with_image_of, waiting_for, stale_calls, switch_calls, update_acted, updated, as_message, handled, cached_above, reached_last, stopped_short, healed, acted, snapshot_acted, step_by, after, callbacks_of, after_all, fold}
use Rattle.mama_dq.proofs.Comparisons.{eq_true}
use Rattle.mama_dq.proofs.Relations.{Related, related}
use Rattle.mama_dq.proofs.StrategyLemmas.{updated_sender}
use Rattle.mama_dq.proofs.ImageLaw.{all_added, all_put, all_above}
use Rattle.mama_laws_genuine.specs.Sent.{Gives}
use Rattle.mama_laws_genuine.proofs.Elements.{all_append}

module _ (G : MarketMsg → Type 0) (R : List FieldData → Type 0) where
  -- the cached updates, as the messages that brought them, have G
  abbrev IsSuch : ℕ → ℕ × List FieldData → Type 0
  IsSuch sender e = G (as_message sender e)

  abbrev AreCached : ContextData → Type 0
  AreCached c = AllByRecursion (IsSuch c.sender) c.cache.updates

  abbrev AllGive : List Callback → Type 0
  AllGive calls = AllByRecursion (Gives G R) calls

  record Fine (step : Step) : Type 0 where
    pub context : AreCached step.context
    pub calls : AllGive step.calls

  -- ---- callbacks

  given_if_ok : (phase : Phase) (calls : List Callback) → AllGive calls → AllGive (if_ok phase calls)
  given_if_ok Await calls all = tt
  given_if_ok LiveOk calls all = all
  given_if_ok LiveStale calls all = tt
  given_if_ok LiveKept calls all = all

  given_if_stale : (phase : Phase) (calls : List Callback) → AllGive calls → AllGive (if_stale phase calls)
  given_if_stale Await calls all = tt
  given_if_stale LiveOk calls all = tt
  given_if_stale LiveStale calls all = all
  given_if_stale LiveKept calls all = tt

  stale_given : (phase : Phase) (sender last : ℕ) (m : MarketMsg) → G m → AllGive (stale_calls phase sender last m)
  stale_given phase sender last m g =
      all_append (Gives G R) (if_ok phase (on.Quality quality.Stale last ∷ on.RecapRequest sender ∷ [])) (on.Msg m quality.Stale ∷ [])
      (given_if_ok phase (on.Quality quality.Stale last ∷ on.RecapRequest sender ∷ []) (tt, (tt, tt))) (g, tt)

  switch_given : (phase : Phase) (last : ℕ) (m : MarketMsg) → G m → AllGive (switch_calls phase last m)
  switch_given phase last m g =
      all_append (Gives G R) (if_ok phase (on.Quality quality.Stale last ∷ [])) (on.RecapRequest m.sender ∷ on.Msg m quality.Stale ∷ [])
      (given_if_ok phase (on.Quality quality.Stale last ∷ []) (tt, tt)) (tt, (g, tt))

  -- ---- updates

  cached_such : (c : ContextData) (m : MarketMsg) → m.sender ≡ c.sender → AreCached c → IsSuch m.sender (m.seq, m.body)
      → AllByRecursion (IsSuch c.sender) (added c.cache m.seq m.body).updates
  cached_such c m same all new = all_added (IsSuch c.sender) c.cache m.seq m.body all (subst (λ (s : ℕ). IsSuch s (m.seq, m.body)) same new)

  alone_such : (c : ContextData) (m : MarketMsg) → IsSuch m.sender (m.seq, m.body) → AllByRecursion (IsSuch m.sender) (added (emptied c.cache) m.seq m.body).updates
  alone_such c m new = all_added (IsSuch m.sender) (emptied c.cache) m.seq m.body tt new

  -- the cached updates above the last number
  settled_such : (c : ContextData) → AreCached c → AreCached (settled c)
  settled_such c all = all_above (IsSuch c.sender) c.last c.cache.updates all

  update_fine : (s : Strategy) (phase : Phase) (relation : Relation) (c : ContextData) (m : MarketMsg)
      → Related relation c.sender c.last m → AreCached c → G m → IsSuch m.sender (m.seq, m.body) → Fine (update_acted (decided s phase relation true) c m)
  update_fine s Await relation c m told all g new = record { context = all; calls = tt }
  update_fine s LiveOk Next c m told all g new = record { context = settled_such (with_update LiveOk c m) all; calls = (g, tt) }
  update_fine One LiveOk Same c m told all g new = record { context = all; calls = tt }
  update_fine One LiveOk Old c m told all g new = record { context = all; calls = tt }
  update_fine Two LiveOk Same c m told all g new = record { context = all; calls = (tt, tt) }
  update_fine Two LiveOk Old c m told all g new = record { context = all; calls = (tt, tt) }
  update_fine s LiveOk Ahead c m told all g new = record { context = cached_such c m told.same all new; calls = (tt, stale_given c.phase c.sender c.last m g) }
  update_fine s LiveOk Other c m told all g new = record { context = alone_such c m new; calls = switch_given c.phase c.last m g }
  update_fine s LiveStale Next c m told all g new = record { context = cached_such c m told.same all new; calls = (g, tt) }
  update_fine One LiveStale Same c m told all g new = record { context = cached_such c m told.same all new; calls = tt }
  update_fine One LiveStale Old c m told all g new = record { context = cached_such c m told.same all new; calls = tt }
  update_fine Two LiveStale Same c m told all g new = record { context = cached_such c m told.same all new; calls = (tt, tt) }
  update_fine Two LiveStale Old c m told all g new = record { context = cached_such c m told.same all new; calls = (tt, tt) }
  update_fine s LiveStale Ahead c m told all g new = record { context = cached_such c m told.same all new; calls = (tt, stale_given c.phase c.sender c.last m g) }
  update_fine s LiveStale Other c m told all g new = record { context = alone_such c m new; calls = switch_given c.phase c.last m g }
  update_fine s LiveKept Next c m told all g new = record { context = settled_such (with_update LiveOk c m) all; calls = (g, tt) }
  update_fine One LiveKept Same c m told all g new = record { context = all; calls = tt }
  update_fine One LiveKept Old c m told all g new = record { context = all; calls = tt }
  update_fine Two LiveKept Same c m told all g new = record { context = all; calls = (tt, tt) }
  update_fine Two LiveKept Old c m told all g new = record { context = all; calls = (tt, tt) }
  update_fine One LiveKept Ahead c m told all g new = record { context = cached_such c m told.same all new; calls = (tt, stale_given c.phase c.sender c.last m g) }
  update_fine Two LiveKept Ahead c m told all g new = record { context = all; calls = tt }
  update_fine s LiveKept Other c m told all g new = record { context = alone_such c m new; calls = switch_given c.phase c.last m g }

  updated_fine : (c : ContextData) (m : MarketMsg) → AreCached c → G m → IsSuch m.sender (m.seq, m.body) → Fine (updated c m)
  updated_fine c m all g new = update_fine c.strategy c.phase (relation_of c.sender c.last m) c m (related c.sender c.last m) all g new

  handled_fine : (es : List (ℕ × List FieldData)) (c : ContextData) → AreCached c → AllByRecursion (IsSuch c.sender) es → Fine (handled c es)
  handled_fine [] c all more = record { context = all; calls = tt }
  handled_fine (e ∷ es) c all more =
      let first : Fine (updated c (as_message c.sender e)) = updated_fine c (as_message c.sender e) all more.0 more.0 in
      let rest : Fine (handled (updated c (as_message c.sender e)).context es) =
      handled_fine es (updated c (as_message c.sender e)).context first.context
      (subst (λ (s : ℕ). AllByRecursion (IsSuch s) es) (sym (updated_sender c (as_message c.sender e) refl)) more.1) in
      record {
        context = rest.context;
        calls = all_append (Gives G R) (updated c (as_message c.sender e)).calls (handled (updated c (as_message c.sender e)).context es).calls first.calls rest.calls;
      }

  -- ---- images

  above_such : (c : ContextData) (m : MarketMsg) → AreCached c → AllByRecursion (IsSuch m.sender) (cached_above c m)
  above_such c m all =
      (elim (c.sender == m.sender) as (λ b. (c.sender == m.sender) ≡ b → AllByRecursion (IsSuch m.sender) (if b then above m.seq c.cache.updates else [])) [
        | true ↦ λ same. subst (λ (s : ℕ). AllByRecursion (IsSuch s) (above m.seq c.cache.updates)) (eq_true c.sender m.sender same) (all_above (IsSuch c.sender) m.seq c.cache.updates all)
        | false ↦ λ other. tt
      ]) refl

  kept_such : (c : ContextData) (m : MarketMsg) → AreCached c → IsSuch m.sender (m.seq, m.body) → AreCached (with_cached (waiting_for m.sender c) m)
  kept_such c m all new =
      (elim (c.sender == m.sender) as (λ b. (c.sender == m.sender) ≡ b → AreCached (with_cached (if b then c else turned_to m.sender c) m)) [
        | true ↦ λ same. cached_such c m (sym (eq_true c.sender m.sender same)) all new
        | false ↦ λ other. alone_such c m new
      ]) refl

  healed_fine : (r : Reached) (c : ContextData) (m : MarketMsg) → AreCached c → G m → Fine (healed r c m)
  healed_fine r c m all g = elim (nat_le c.last r.number) as (λ b. Fine (if b then reached_last r c m else stopped_short c)) [
    | true ↦ record { context = tt; calls = (g, (tt, tt)) }
    | false ↦ record { context = all; calls = (tt, tt) }
  ]

  started_fine : (c : ContextData) (m : MarketMsg) → AreCached c → G m → Fine (acted Start c m)
  started_fine c m all g =
      let rest : Fine (handled (with_image_of m (turned_to m.sender c)) (cached_above c m)) =
      handled_fine (cached_above c m) (with_image_of m (turned_to m.sender c)) tt (above_such c m all) in
      record { context = rest.context; calls = (g, rest.calls) }

  adopted_fine : (c : ContextData) (m : MarketMsg) → G m → Fine (acted Adopt c m)
  adopted_fine c m g = record { context = tt; calls = (g, given_if_stale c.phase (on.Quality quality.Ok m.seq ∷ []) (tt, tt)) }

  waiting_such : (c : ContextData) (m : MarketMsg) → AreCached c → AreCached (with_image_of m (waiting_for m.sender c))
  waiting_such c m all = elim (c.sender == m.sender) as (λ (b : Bool). AreCached (with_image_of m (if b then c else turned_to m.sender c))) [
    | true ↦ all
    | false ↦ tt
  ]

  caught_fine : (c : ContextData) (m : MarketMsg) → m.sender ≡ c.sender → AreCached c → IsSuch m.sender (m.seq, m.body) → Fine (acted Catch c m)
  caught_fine c m same all new =
      handled_fine (put c.cache.updates m.seq m.body) (record c { phase = LiveOk; cache = emptied c.cache }) tt
      (all_put (IsSuch c.sender) c.cache.updates m.seq m.body all (subst (λ (s : ℕ). IsSuch s (m.seq, m.body)) same new))

  image_fine : (s : Strategy) (phase : Phase) (relation : Relation) (c : ContextData) (m : MarketMsg) → AreCached c → G m → Fine (acted (decided s phase relation false) c m)
  image_fine One Await relation c m all g = started_fine c m all g
  image_fine Two Await relation c m all g = record { context = settled_such (with_image_of m (waiting_for m.sender c)) (waiting_such c m all); calls = (g, tt) }
  image_fine s LiveOk Next c m all g = record { context = settled_such (with_image_of m c) all; calls = (g, tt) }
  image_fine s LiveOk Same c m all g = record { context = settled_such (with_image_of m c) all; calls = (g, tt) }
  image_fine s LiveOk Ahead c m all g = record { context = settled_such (with_image_of m c) all; calls = (g, tt) }
  image_fine s LiveOk Old c m all g = record { context = all; calls = tt }
  image_fine s LiveOk Other c m all g = adopted_fine c m g
  image_fine s LiveKept Next c m all g = record { context = settled_such (with_image_of m c) all; calls = (g, tt) }
  image_fine s LiveKept Same c m all g = record { context = settled_such (with_image_of m c) all; calls = (g, tt) }
  image_fine s LiveKept Ahead c m all g = record { context = settled_such (with_image_of m c) all; calls = (g, tt) }
  image_fine s LiveKept Old c m all g = record { context = all; calls = tt }
  image_fine s LiveKept Other c m all g = adopted_fine c m g
  image_fine s LiveStale Next c m all g = healed_fine (reached c.cache.updates m.seq m.body) c m all g
  image_fine s LiveStale Same c m all g = healed_fine (reached c.cache.updates m.seq m.body) c m all g
  image_fine s LiveStale Old c m all g = healed_fine (reached c.cache.updates m.seq m.body) c m all g
  image_fine s LiveStale Ahead c m all g = healed_fine (reached c.cache.updates m.seq m.body) c m all g
  image_fine s LiveStale Other c m all g = adopted_fine c m g

  message_fine : (s : Strategy) (phase : Phase) (relation : Relation) (c : ContextData) (m : MarketMsg)
      → Related relation c.sender c.last m → AreCached c → G m → IsSuch m.sender (m.seq, m.body) → Fine (acted (decided s phase relation true) c m)
  message_fine s Await relation c m told all g new = record { context = kept_such c m all new; calls = tt }
  message_fine s LiveOk Next c m told all g new = update_fine s LiveOk Next c m told all g new
  message_fine One LiveOk Same c m told all g new = update_fine One LiveOk Same c m told all g new
  message_fine Two LiveOk Same c m told all g new = update_fine Two LiveOk Same c m told all g new
  message_fine One LiveOk Old c m told all g new = update_fine One LiveOk Old c m told all g new
  message_fine Two LiveOk Old c m told all g new = update_fine Two LiveOk Old c m told all g new
  message_fine s LiveOk Ahead c m told all g new = update_fine s LiveOk Ahead c m told all g new
  message_fine s LiveOk Other c m told all g new = update_fine s LiveOk Other c m told all g new
  message_fine s LiveStale Next c m told all g new = update_fine s LiveStale Next c m told all g new
  message_fine One LiveStale Same c m told all g new = update_fine One LiveStale Same c m told all g new
  message_fine Two LiveStale Same c m told all g new = update_fine Two LiveStale Same c m told all g new
  message_fine One LiveStale Old c m told all g new = update_fine One LiveStale Old c m told all g new
  message_fine Two LiveStale Old c m told all g new = update_fine Two LiveStale Old c m told all g new
  message_fine s LiveStale Ahead c m told all g new = update_fine s LiveStale Ahead c m told all g new
  message_fine s LiveStale Other c m told all g new = update_fine s LiveStale Other c m told all g new
  message_fine s LiveKept Next c m told all g new = update_fine s LiveKept Next c m told all g new
  message_fine One LiveKept Same c m told all g new = update_fine One LiveKept Same c m told all g new
  message_fine Two LiveKept Same c m told all g new = update_fine Two LiveKept Same c m told all g new
  message_fine One LiveKept Old c m told all g new = update_fine One LiveKept Old c m told all g new
  message_fine Two LiveKept Old c m told all g new = update_fine Two LiveKept Old c m told all g new
  message_fine One LiveKept Ahead c m told all g new = update_fine One LiveKept Ahead c m told all g new
  message_fine Two LiveKept Ahead c m told all g new = caught_fine c m told.same all new
  message_fine s LiveKept Other c m told all g new = update_fine s LiveKept Other c m told all g new

  -- ---- steps

  market_fine : (kind : MsgKind) (c : ContextData) (m : MarketMsg) → m.kind ≡ kind → AreCached c → G m
      → Fine (acted (decided c.strategy c.phase (relation_of c.sender c.last m) (is_update kind)) c m)
  market_fine Initial c m is all g = image_fine c.strategy c.phase (relation_of c.sender c.last m) c m all g
  market_fine Recap c m is all g = image_fine c.strategy c.phase (relation_of c.sender c.last m) c m all g
  market_fine Update c m is all g =
      message_fine c.strategy c.phase (relation_of c.sender c.last m) c m (related c.sender c.last m) all g
      (subst (λ (k : MsgKind). G (record { kind = k; sender = m.sender; seq = m.seq; body = m.body })) is g)

  snapshot_fine : (phase : Phase) (update : Bool) (c : ContextData) (m : MarketMsg) → AreCached c → G m → Fine (snapshot_acted phase update c m)
  snapshot_fine Await false c m all g = record { context = tt; calls = (g, tt) }
  snapshot_fine Await true c m all g = record { context = all; calls = tt }
  snapshot_fine LiveOk update c m all g = record { context = all; calls = tt }
  snapshot_fine LiveStale update c m all g = record { context = all; calls = tt }
  snapshot_fine LiveKept update c m all g = record { context = all; calls = tt }

  step_fine : (kind : SubKind) (c : ContextData) (m : MarketMsg) → AreCached c → G m → Fine (step_by kind c m)
  step_fine Market c m all g = market_fine m.kind c m refl all g
  step_fine Snapshot c m all g = snapshot_fine c.phase (is_update m.kind) c m all g
  step_fine Basic c m all g = record { context = all; calls = (g, tt) }

  after_all_cached : (messages : List MarketMsg) (c : ContextData) → AreCached c → AllByRecursion G messages → AreCached (after_all c messages)
  after_all_cached [] c all more = all
  after_all_cached (m ∷ messages) c all more = after_all_cached messages (after c m) (step_fine c.kind c m all more.0).context more.1

  -- what a message makes a context give, after others
  pub all_given : (strategy : Strategy) (kind : SubKind) (size : ℕ) (before : List MarketMsg) (m : MarketMsg) → AllByRecursion G before → G m → AllGive (callbacks_of (fold strategy kind size before) m)
  all_given strategy kind size before m all g =
      (step_fine (fold strategy kind size before).kind (fold strategy kind size before) m (after_all_cached before (new_context strategy kind size) tt all) g).calls
