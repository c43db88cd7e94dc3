-- Messages of one sender in order tell no gap and no change of quality.
use Rattle.std.proofs.Common.{◌≡◌, ℕ, suc, ◌≤◌, Bool, true, false, ◌&&◌, nat_lt, ◌==◌, if◌then◌else◌, cond, List, [], ◌∷◌, ◌++◌, map, refl, ap, ◌∙◌, sym, subst, arith}
use Rattle.std.proofs.lemmas.Bool.Decides.{nat_tests}
use Rattle.std.specs.List.{AllByRecursion, filter, flat_map}
use Rattle.mama_msg.specs.Field.{FieldData}
use Rattle.mama_event.specs.declared.shape.Strategy.{Strategy}
use Rattle.mama_event.specs.declared.market.SubKind.{SubKind}
use Rattle.mama_event.specs.declared.market.SubKind.TheVariants.{Market}
use Rattle.mama_event.specs.declared.market.MsgKind.{MsgKind}
use Rattle.mama_event.specs.declared.market.MsgKind.TheVariants.{Initial, Update, Recap}
use Rattle.mama_event.specs.declared.market.MarketMsg.{MarketMsg}
use Rattle.mama_event.specs.declared.callback.Callback.{Callback}
use Rattle.mama_dq.specs.declared.table.Phase.{Phase}
use Rattle.mama_dq.specs.declared.table.Phase.TheVariants.{Await, LiveOk}
use Rattle.mama_dq.specs.declared.table.Relation.{Relation}
use Rattle.mama_dq.specs.declared.table.Relation.TheVariants.{Next, Same}
use Rattle.mama_dq.specs.declared.table.Action.{Action}
use Rattle.mama_dq.specs.declared.table.Action.TheVariants.{Keep, Start, StartKeep, Apply, Replace}
use Rattle.mama_dq.specs.Table.{is_update, relation_of, either}
use Rattle.mama_dq.specs.Cache.{above}
use Rattle.mama_dq.specs.Context.{ContextData, new_context}
use Rattle.mama_dq.specs.Strategy.{Step, ok_with, settled, acted, action_of, cached_above, handled, turned_to, with_image_of, waiting_for, with_cached, with_update, step_by, after, calls_after}
use Rattle.mama_dq.specs.Orderly.{number_after, Follows, AreInOrder, from_first_image, is_update_above, as_ok, OrderlyLaw}
use Rattle.mama_dq.proofs.ImageLaw.{all_added}
use Rattle.mama_dq.proofs.StrategyLemmas.{either_way}
use Rattle.mama_dq.proofs.Comparisons.{eq_true}

-- all callbacks of some messages
abbrev told : ContextData → List MarketMsg → List Callback
told c ms = flat_map (λ calls. calls) (calls_after c ms)

-- a step of a market context by its action
market_step : (a : Action) (c : ContextData) (m : MarketMsg) → c.kind ≡ Market → action_of c m ≡ a → step_by c.kind c m ≡ acted a c m
market_step a c m kind action = ap (λ (k : SubKind). step_by k c m) kind ∙ ap (λ (x : Action). acted x c m) action

-- the first message's callbacks, and then the others'
told_more : (step : Step) (c : ContextData) (m : MarketMsg) (ms : List MarketMsg) → step_by c.kind c m ≡ step → told c (m ∷ ms) ≡ step.calls ++ told step.context ms
told_more step c m ms is = ap (λ (x : Step). x.calls ++ told x.context ms) is

-- ---- while the image is the sender's record

record Live (sender n : ℕ) (c : ContextData) : Type 0 where
  pub kind : c.kind ≡ Market
  pub phase : c.phase ≡ LiveOk
  pub own : c.sender ≡ sender
  pub last : c.last ≡ n
  pub none : c.cache.updates ≡ []

-- an image that is the sender's record, with no cached updates above it
settled_live : (sender n : ℕ) (c : ContextData) → c.kind ≡ Market → c.sender ≡ sender → c.last ≡ n → above c.last c.cache.updates ≡ [] → Live sender n (settled c)
settled_live sender n c kind own last none = record { kind = kind; phase = ap ok_with none; own = own; last = last; none = none }

next_relation : (sender last : ℕ) (m : MarketMsg) → m.sender ≡ sender → m.seq ≡ suc last → relation_of sender last m ≡ Next
next_relation sender last m own number = grind (arith, nat_tests)

same_relation : (sender last : ℕ) (m : MarketMsg) → m.sender ≡ sender → m.seq ≡ last → relation_of sender last m ≡ Same
same_relation sender last m own number = grind (arith, nat_tests)

live_update : (sender n : ℕ) (c : ContextData) (m : MarketMsg) → Live sender n c → m.kind ≡ Update → m.sender ≡ sender → m.seq ≡ suc n → action_of c m ≡ Apply
live_update sender n c m live kind own number =
    rw (live.phase, next_relation c.sender c.last m (own ∙ sym live.own) (number ∙ ap suc (sym live.last)), kind) refl

live_image : (sender n : ℕ) (c : ContextData) (m : MarketMsg) → Live sender n c → is_update m.kind ≡ false → m.sender ≡ sender → m.seq ≡ n → action_of c m ≡ Replace
live_image sender n c m live image own number =
    rw (live.phase, same_relation c.sender c.last m (own ∙ sym live.own) (number ∙ sym live.last), image) refl

-- one step while the image is the sender's record
record LiveStep (sender next : ℕ) (m : MarketMsg) (step : Step) : Type 0 where
  pub calls : step.calls ≡ as_ok m ∷ []
  pub live : Live sender next step.context

live_update_step : (sender n : ℕ) (c : ContextData) (m : MarketMsg) → Live sender n c → m.kind ≡ Update → m.sender ≡ sender → m.seq ≡ suc n → LiveStep sender (suc n) m (step_by c.kind c m)
live_update_step sender n c m live kind own number =
    subst (LiveStep sender (suc n) m) (sym (market_step Apply c m live.kind (live_update sender n c m live kind own number)))
    (record { calls = refl; live = settled_live sender (suc n) (with_update LiveOk c m) live.kind live.own number (ap (above m.seq) live.none) })

live_image_step : (sender n : ℕ) (c : ContextData) (m : MarketMsg) → Live sender n c → is_update m.kind ≡ false → m.sender ≡ sender → m.seq ≡ n → LiveStep sender n m (step_by c.kind c m)
live_image_step sender n c m live image own number =
    subst (LiveStep sender n m) (sym (market_step Replace c m live.kind (live_image sender n c m live image own number)))
    (record { calls = refl; live = settled_live sender n (with_image_of m c) live.kind live.own number (ap (above m.seq) live.none) })

live_step : (sender n : ℕ) (c : ContextData) (m : MarketMsg) → Live sender n c → Follows sender n m → LiveStep sender (number_after m.kind n) m (step_by c.kind c m)
live_step sender n c m live follows =
    (elim m.kind as (λ k. m.kind ≡ k → m.seq ≡ number_after k n → LiveStep sender (number_after k n) m (step_by c.kind c m)) [
      | Initial ↦ λ kind number. live_image_step sender n c m live (ap is_update kind) follows.own number
      | Update ↦ λ kind number. live_update_step sender n c m live kind follows.own number
      | Recap ↦ λ kind number. live_image_step sender n c m live (ap is_update kind) follows.own number
    ]) refl follows.number

-- while the image is the sender's record, each message in order is called back once, and nothing else
live_told : (ms : List MarketMsg) (sender n : ℕ) (c : ContextData) → Live sender n c → AreInOrder sender n ms → told c ms ≡ map as_ok ms
live_told [] sender n c live in_order = refl
live_told (m ∷ ms) sender n c live in_order =
    let step = live_step sender n c m live in_order.0 in
    ap (λ (xs : List Callback). xs ++ told (after c m) ms) step.calls
    ∙ ap (λ (xs : List Callback). as_ok m ∷ xs) (live_told ms sender (number_after m.kind n) (after c m) step.live in_order.1)

-- ---- before the first image

record Waits (n : ℕ) (c : ContextData) : Type 0 where
  pub kind : c.kind ≡ Market
  pub phase : c.phase ≡ Await
  pub low : AllByRecursion (λ e. e.0 ≤ n) c.cache.updates

low_more : (n : ℕ) (es : List (ℕ × List FieldData)) → AllByRecursion (λ e. e.0 ≤ n) es → AllByRecursion (λ e. e.0 ≤ suc n) es
low_more n [] low = tt
low_more n (e ∷ es) low = (omega (arith, low.0), low_more n es low.1)

none_above : (n : ℕ) (es : List (ℕ × List FieldData)) → AllByRecursion (λ e. e.0 ≤ n) es → above n es ≡ []
none_above n [] low = refl
none_above n (e ∷ es) low = grind (arith, nat_tests, none_above n es, low.0, low.1)

none_cached_above : (c : ContextData) (m : MarketMsg) → AllByRecursion (λ e. e.0 ≤ m.seq) c.cache.updates → cached_above c m ≡ []
none_cached_above c m low = elim (c.sender == m.sender) as (λ b. (if b then above m.seq c.cache.updates else []) ≡ []) [
  | true ↦ none_above m.seq c.cache.updates low
  | false ↦ refl
]

keep_waits : (n : ℕ) (c : ContextData) (m : MarketMsg) → Waits n c → m.seq ≡ suc n → Waits (suc n) (with_cached (waiting_for m.sender c) m)
keep_waits n c m waits number =
    let new : m.seq ≤ suc n = omega arith in
    elim (c.sender == m.sender) as (λ b. Waits (suc n) (with_cached (if b then c else turned_to m.sender c) m)) [
      | true ↦ record { kind = waits.kind; phase = waits.phase; low = all_added (λ e. e.0 ≤ suc n) c.cache m.seq m.body (low_more n c.cache.updates waits.low) new }
      | false ↦ record { kind = waits.kind; phase = waits.phase; low = all_added (λ e. e.0 ≤ suc n) (turned_to m.sender c).cache m.seq m.body tt new }
    ]

-- an update before the first image
record WaitStep (next : ℕ) (step : Step) : Type 0 where
  pub calls : step.calls ≡ []
  pub waits : Waits next step.context

wait_update : (n : ℕ) (c : ContextData) (m : MarketMsg) → Waits n c → m.kind ≡ Update → m.seq ≡ suc n → WaitStep (suc n) (step_by c.kind c m)
wait_update n c m waits kind number =
    let action : action_of c m ≡ Keep = rw (waits.phase, kind) refl in
    subst (WaitStep (suc n)) (sym (market_step Keep c m waits.kind action))
    (record { calls = refl; waits = keep_waits n c m waits number })

-- the first image: it takes the cached updates above it, of which there are none
start_live : (sender n : ℕ) (c : ContextData) (m : MarketMsg) → c.kind ≡ Market → m.sender ≡ sender → m.seq ≡ n → cached_above c m ≡ [] → LiveStep sender n m (acted Start c m)
start_live sender n c m kind own number none =
    let begun : ContextData = with_image_of m (turned_to m.sender c) in
    subst (λ (es : List (ℕ × List FieldData)). LiveStep sender n m (record { context = (handled begun es).context; calls = as_ok m ∷ (handled begun es).calls }))
    (sym none) (record { calls = refl; live = record { kind = kind; phase = refl; own = own; last = number; none = refl } })

-- or it keeps them
start_keep_live : (sender n : ℕ) (c : ContextData) (m : MarketMsg) → c.kind ≡ Market → m.sender ≡ sender → m.seq ≡ n → above m.seq c.cache.updates ≡ [] → LiveStep sender n m (acted StartKeep c m)
start_keep_live sender n c m kind own number none = record {
  calls = refl;
  live = (elim (c.sender == m.sender) as (λ b. (c.sender == m.sender) ≡ b → Live sender n (settled (with_image_of m (if b then c else turned_to m.sender c)))) [
    | true ↦ λ same. settled_live sender n (with_image_of m c) kind (eq_true c.sender m.sender same ∙ own) number none
    | false ↦ λ other. settled_live sender n (with_image_of m (turned_to m.sender c)) kind own number refl
  ]) refl;
}

wait_image : (sender n : ℕ) (c : ContextData) (m : MarketMsg) → Waits n c → is_update m.kind ≡ false → m.sender ≡ sender → m.seq ≡ n → LiveStep sender n m (step_by c.kind c m)
wait_image sender n c m waits image own number =
    let action : action_of c m ≡ either c.strategy Start StartKeep = rw (waits.phase, image) refl in
    let low : AllByRecursion (λ e. e.0 ≤ m.seq) c.cache.updates = subst (λ (x : ℕ). AllByRecursion (λ e. e.0 ≤ x) c.cache.updates) (sym number) waits.low in
    subst (LiveStep sender n m) (sym (market_step (either c.strategy Start StartKeep) c m waits.kind action))
    (either_way (λ a. LiveStep sender n m (acted a c m)) c.strategy Start StartKeep
    (start_live sender n c m waits.kind own number (none_cached_above c m low))
    (start_keep_live sender n c m waits.kind own number (none_above m.seq c.cache.updates low)))

wait_told : (ms : List MarketMsg) (sender n : ℕ) (c : ContextData) → Waits n c → AreInOrder sender n ms → told c ms ≡ map as_ok (from_first_image ms)
wait_told [] sender n c waits in_order = refl
wait_told (m ∷ ms) sender n c waits in_order =
    let first : is_update m.kind ≡ false → m.seq ≡ n → AreInOrder sender n ms → told c (m ∷ ms) ≡ map as_ok (m ∷ ms)
    = λ image number rest.
    let step = wait_image sender n c m waits image in_order.0.own number in
    ap (λ (xs : List Callback). xs ++ told (after c m) ms) step.calls ∙ ap (λ (xs : List Callback). as_ok m ∷ xs) (live_told ms sender n (after c m) step.live rest) in
    (elim m.kind as (λ k. m.kind ≡ k → m.seq ≡ number_after k n → AreInOrder sender (number_after k n) ms → told c (m ∷ ms) ≡ map as_ok (if is_update k then from_first_image ms else m ∷ ms)) [
      | Initial ↦ λ kind number rest. first (ap is_update kind) number rest
      | Update ↦ λ kind number rest.
          let step = wait_update n c m waits kind number in
          ap (λ (xs : List Callback). xs ++ told (after c m) ms) step.calls ∙ wait_told ms sender (suc n) (after c m) step.waits rest
      | Recap ↦ λ kind number rest. first (ap is_update kind) number rest
    ]) refl in_order.0.number in_order.1

-- ---- which updates are numbered above the first image

later_above : (ms : List MarketMsg) (sender n k : ℕ) → k ≤ n → AreInOrder sender n ms → filter (is_update_above k) ms ≡ filter (λ m. is_update m.kind) ms
later_above [] sender n k low in_order = refl
later_above (m ∷ ms) sender n k low in_order =
    (elim m.kind as (λ kind. m.seq ≡ number_after kind n → AreInOrder sender (number_after kind n) ms
    → cond (is_update kind && nat_lt k m.seq) (m ∷ filter (is_update_above k) ms) (filter (is_update_above k) ms) ≡ cond (is_update kind) (m ∷ filter (λ m. is_update m.kind) ms) (filter (λ m. is_update m.kind) ms)) [
      | Initial ↦ λ number rest. later_above ms sender n k low rest
      | Update ↦ λ number rest.
          let up : nat_lt k m.seq ≡ true = grind (arith, nat_tests) in
          rw up (ap (λ (xs : List MarketMsg). m ∷ xs) (later_above ms sender (suc n) k (omega arith) rest))
      | Recap ↦ λ number rest. later_above ms sender n k low rest
    ]) in_order.0.number in_order.1

record FirstAbove (n : ℕ) (messages : List MarketMsg) (first : MarketMsg) (rest : List MarketMsg) : Type 0 where
  pub up : n ≤ first.seq
  pub updates : filter (is_update_above first.seq) messages ≡ filter (λ m. is_update m.kind) rest

first_above : (ms : List MarketMsg) (sender n : ℕ) (first : MarketMsg) (rest : List MarketMsg) → AreInOrder sender n ms → from_first_image ms ≡ first ∷ rest → FirstAbove n ms first rest
first_above [] sender n first rest in_order is = absurd cc
first_above (m ∷ ms) sender n first rest in_order is =
    let image : (kind : MsgKind) → is_update kind ≡ false → m.kind ≡ kind → m.seq ≡ n → AreInOrder sender n ms → m ∷ ms ≡ first ∷ rest → FirstAbove n (m ∷ ms) first rest
    = λ (kind : MsgKind) no_update is_kind number later same.
    let is_first : m ≡ first = cc in
    let is_rest : ms ≡ rest = cc in
    let none : is_update m.kind ≡ false = ap is_update is_kind ∙ no_update in
    let skipped : filter (is_update_above m.seq) (m ∷ ms) ≡ filter (λ m. is_update m.kind) ms
    = rw none (later_above ms sender n m.seq (omega arith) later) in
    subst (λ (x : MarketMsg). FirstAbove n (m ∷ ms) x rest) is_first
    (record { up = omega arith; updates = skipped ∙ ap (λ (xs : List MarketMsg). filter (λ m. is_update m.kind) xs) is_rest }) in
    (elim m.kind as (λ k. m.kind ≡ k → m.seq ≡ number_after k n → AreInOrder sender (number_after k n) ms → (if is_update k then from_first_image ms else m ∷ ms) ≡ first ∷ rest → FirstAbove n (m ∷ ms) first rest) [
      | Initial ↦ λ kind number later same. image Initial refl kind number later same
      | Update ↦ λ kind number later same.
          let inner = first_above ms sender (suc n) first rest later same in
          let low : nat_lt first.seq m.seq ≡ false = grind (arith, nat_tests, inner.up) in
          let skipped : filter (is_update_above first.seq) (m ∷ ms) ≡ filter (is_update_above first.seq) ms = rw (kind, low) refl in
          record { up = omega (arith, inner.up); updates = skipped ∙ inner.updates }
      | Recap ↦ λ kind number later same. image Recap refl kind number later same
    ]) refl in_order.0.number in_order.1 is

new_waits : (strategy : Strategy) (size n : ℕ) → Waits n (new_context strategy Market size)
new_waits strategy size n = record { kind = refl; phase = refl; low = tt }

pub orderly_law : OrderlyLaw
orderly_law strategy size sender n messages in_order = record {
  calls = wait_told messages sender n (new_context strategy Market size) (new_waits strategy size n) in_order;
  updates = λ first rest is. (first_above messages sender n first rest in_order is).updates;
}
