-- No gap that is told is false.
use Rattle.std.proofs.Common.{◌≡◌, ◌≢◌, ℕ, suc, ◌+◌, ◌-◌, ◌<◌, ◌≤◌, Bool, true, false, not, nat_lt, nat_le, ◌==◌, if◌then◌else◌, List, [], ◌∷◌, ◌++◌, length, drop, refl, ap, ◌∙◌, sym, subst, arith, ◌⊎◌, inl, inr}
use Rattle.std.proofs.lemmas.Bool.Decides.{nat_tests}
use Rattle.std.specs.List.{AllByRecursion, list_any}
use Rattle.mama_msg.specs.Field.{FieldData}
use Rattle.mama_event.specs.declared.shape.Strategy.{Strategy}
use Rattle.mama_event.specs.declared.shape.Strategy.TheVariants.{One, Two}
use Rattle.mama_event.specs.declared.market.SubKind.{SubKind}
use Rattle.mama_event.specs.declared.market.SubKind.TheVariants.{Market, Snapshot, Basic}
use Rattle.mama_event.specs.declared.market.MarketMsg.{MarketMsg}
use Rattle.mama_event.specs.declared.callback.Callback.{Callback}
use Rattle.mama_event.specs.declared.callback.Callback.TheVariants as on
use Rattle.mama_event.specs.declared.market.Quality.TheVariants as quality
use Rattle.mama_dq.specs.declared.table.Phase.{Phase}
use Rattle.mama_dq.specs.declared.table.Phase.TheVariants.{Await, LiveOk, LiveStale, LiveKept}
use Rattle.mama_dq.specs.declared.table.Relation.{Relation}
use Rattle.mama_dq.specs.declared.table.Relation.TheVariants.{Next, Same, Old, Ahead, Other}
use Rattle.mama_dq.specs.declared.table.Action.{Action}
use Rattle.mama_dq.specs.declared.table.Action.TheVariants.{Keep, Start, Apply, ApplyKeep, KeepOnly, Ignore, Gap, Switch, Replace, Heal, Adopt, StartKeep, Catch, Late, KeepLate}
use Rattle.mama_dq.specs.Table.{is_update, decided, relation_of}
use Rattle.mama_dq.specs.Cache.{has_number, put, trimmed, added, emptied, above, reached, Reached}
use Rattle.mama_dq.specs.Context.{ContextData, new_context}
use Rattle.mama_dq.specs.Strategy.{Step, ok_with, settled, started_keeping, updated, update_acted, acted, action_of, as_message, handled, started, cached_above, healed, reached_last, stopped_short, with_update, with_cached, turned_to, waiting_for, with_image_of, gap_calls, switch_calls, adopt_calls, step_by, snapshot_acted, after, after_all, fold}
use Rattle.mama_dq.specs.Gap.{Taken, last_is_of_another, turns_at, stretched, stretch_after, is_update_numbered, was_taken, is_lowest, is_waiting, drops, AreDropped, IsMissing, IsDropped, IsTrueGap, TellsTrueGap, GapLaw}
use Rattle.mama_dq.proofs.CacheLemmas.{AscendFrom}
use Rattle.mama_dq.proofs.CacheOrder.{ascend_above, ascend_from_put, absent_put, absent_above, absent_below, cons_absent, lowest_dropped}
use Rattle.mama_dq.proofs.Relations.{Related, related}
use Rattle.mama_dq.proofs.StrategyLemmas.{either_way}
use Rattle.mama_dq.proofs.KeptLaw.{Keeps, after_keeps, new_keeps}
use Rattle.mama_dq.proofs.SameKind.{after_kind, after_all_kind}
use Rattle.mama_dq.proofs.Comparisons.{eq_true, eq_same, le_true}

-- ---- a stretch with one more message

any_last : (p : Taken → Bool) (s : List Taken) (t : Taken) → p t ≡ true → list_any p (s ++ t ∷ []) ≡ true
any_last p [] t is = grind arith
any_last p (u ∷ s) t is = grind (arith, any_last p s t is)

any_more : (p : Taken → Bool) (s : List Taken) (t : Taken) → list_any p s ≡ true → list_any p (s ++ t ∷ []) ≡ true
any_more p [] t is = absurd cc
any_more p (u ∷ s) t is = grind (arith, any_more p s t)

-- a number that the last message drops is dropped
dropped_last : (sender n : ℕ) (s : List Taken) (t : Taken) → drops sender n t ≡ true → AreDropped sender n (s ++ t ∷ [])
dropped_last sender n [] t is = (λ taken. any_last (drops sender n) [] t is, tt)
dropped_last sender n (u ∷ s) t is = (λ taken. any_last (drops sender n) (u ∷ s) t is, dropped_last sender n s t is)

-- a number that was dropped stays so if the last message is no update with it
dropped_more : (sender n : ℕ) (s : List Taken) (t : Taken) → AreDropped sender n s → is_update_numbered sender n t ≡ false → AreDropped sender n (s ++ t ∷ [])
dropped_more sender n [] t dropped other = (λ taken. absurd cc, tt)
dropped_more sender n (u ∷ s) t dropped other =
    (λ taken. any_more (drops sender n) (u ∷ s) t (dropped.0 taken), dropped_more sender n s t dropped.1 other)

not_numbered : (sender n : ℕ) (t : Taken) → t.message.seq ≢ n → is_update_numbered sender n t ≡ false
not_numbered sender n t other = grind (arith, nat_tests)

not_update : (sender n : ℕ) (t : Taken) → is_update t.message.kind ≡ false → is_update_numbered sender n t ≡ false
not_update sender n t is = grind arith

last_of_more : (s : List Taken) (t : Taken) (sender : ℕ) → last_is_of_another (s ++ t ∷ []) sender ≡ not (t.message.sender == sender)
last_of_more [] t sender = refl
last_of_more (u ∷ []) t sender = refl
last_of_more (u ∷ v ∷ s) t sender = last_of_more (v ∷ s) t sender

-- ---- a gap whose numbers were dropped, if they were taken

true_gap : (s : List Taken) (sender last seq : ℕ) → suc last < seq → ((n : ℕ) → last < n → n < seq → AreDropped sender n s) → IsTrueGap s sender (suc last) (seq - 1)
true_gap s sender last seq ahead dropped = record {
  ordered = omega arith;
  each = λ n from up_to.
      (elim (was_taken sender n s) as (λ b. was_taken sender n s ≡ b → IsMissing s sender (suc last) (seq - 1) n ⊎ IsDropped s sender (suc last) (seq - 1) n) [
        | true ↦ λ taken. inr (record { from = from; up_to = up_to; taken = taken; dropped = dropped n (omega arith) (omega arith) })
        | false ↦ λ untaken. inl (record { from = from; up_to = up_to; untaken = untaken })
      ]) refl;
}

gap_calls_true : (phase : Phase) (s : List Taken) (sender other last : ℕ) (m : MarketMsg) → IsTrueGap s sender (suc last) (m.seq - 1) → AllByRecursion (TellsTrueGap s sender) (gap_calls phase other last m)
gap_calls_true Await s sender other last m gap = (gap, (tt, tt))
gap_calls_true LiveOk s sender other last m gap = (gap, (tt, (tt, (tt, tt))))
gap_calls_true LiveStale s sender other last m gap = (gap, (tt, tt))
gap_calls_true LiveKept s sender other last m gap = (gap, (tt, (tt, (tt, tt))))

switch_calls_true : (phase : Phase) (s : List Taken) (sender last : ℕ) (m : MarketMsg) → AllByRecursion (TellsTrueGap s sender) (switch_calls phase last m)
switch_calls_true Await s sender last m = (tt, (tt, tt))
switch_calls_true LiveOk s sender last m = (tt, (tt, (tt, tt)))
switch_calls_true LiveStale s sender last m = (tt, (tt, tt))
switch_calls_true LiveKept s sender last m = (tt, (tt, (tt, tt)))

adopt_calls_true : (phase : Phase) (s : List Taken) (sender : ℕ) (m : MarketMsg) → AllByRecursion (TellsTrueGap s sender) (adopt_calls phase m)
adopt_calls_true Await s sender m = (tt, tt)
adopt_calls_true LiveOk s sender m = (tt, tt)
adopt_calls_true LiveStale s sender m = (tt, (tt, tt))
adopt_calls_true LiveKept s sender m = (tt, tt)

all_append : {X : Type 0} (P : X → Type 0) (xs ys : List X) → AllByRecursion P xs → AllByRecursion P ys → AllByRecursion P (xs ++ ys)
all_append P [] ys all others = others
all_append P (x ∷ xs) ys all others = (all.0, all_append P xs ys all.1 others)

-- ---- what is known of the numbers that a context lacks

-- the updates that are kept past the first image
abbrev pub kept_of : Phase → List (ℕ × List FieldData) → List (ℕ × List FieldData)
kept_of Await es = []
kept_of LiveOk es = []
kept_of LiveStale es = []
kept_of LiveKept es = es

kept_absent : (phase : Phase) (es : List (ℕ × List FieldData)) (n : ℕ) → has_number es n ≡ false → has_number (kept_of phase es) n ≡ false
kept_absent Await es n absent = refl
kept_absent LiveOk es n absent = refl
kept_absent LiveStale es n absent = refl
kept_absent LiveKept es n absent = absent

kept_with : (es : List (ℕ × List FieldData)) → kept_of (ok_with es) es ≡ es
kept_with [] = refl
kept_with (e ∷ es) = refl

ok_is_live : (es : List (ℕ × List FieldData)) → is_waiting (ok_with es) ≡ false
ok_is_live [] = refl
ok_is_live (e ∷ es) = refl

pub record Accounts (c : ContextData) (s : List Taken) : Type 0 where
  -- before the first image, a number that the cache lacks was dropped each time that it was taken
  pub waiting : c.phase ≡ Await → (n : ℕ) → has_number c.cache.updates n ≡ false → AreDropped c.sender n s
  -- later, a number above the last that is not kept
  pub live : is_waiting c.phase ≡ false → (n : ℕ) → c.last < n → has_number (kept_of c.phase c.cache.updates) n ≡ false → AreDropped c.sender n s
  -- before the first image the last message, if there is one, is of the context's sender
  pub latest : c.phase ≡ Await → ((sender : ℕ) → last_is_of_another s sender ≡ not (c.sender == sender)) ⊎ (s ≡ [])

not_waiting : (c : ContextData) → is_waiting c.phase ≡ false → c.phase ≡ Await → ⊥
not_waiting c live waits = let clash : is_waiting c.phase ≡ true = rw waits refl in cc

live_accounts : (c : ContextData) (s : List Taken) → is_waiting c.phase ≡ false
    → ((n : ℕ) → c.last < n → has_number (kept_of c.phase c.cache.updates) n ≡ false → AreDropped c.sender n s) → Accounts c s
live_accounts c s live dropped = record {
  waiting = λ waits. absurd (not_waiting c live waits);
  live = λ is. dropped;
  latest = λ waits. absurd (not_waiting c live waits);
}

-- an image that is the sender's record, with what is kept above it
settled_accounts : (c : ContextData) (s : List Taken) → ((n : ℕ) → c.last < n → has_number c.cache.updates n ≡ false → AreDropped c.sender n s) → Accounts (settled c) s
settled_accounts c s dropped =
    live_accounts (settled c) s (ok_is_live (above c.last c.cache.updates))
    (λ n past absent. dropped n past (absent_above c.last n c.cache.updates past
    (subst (λ (es : List (ℕ × List FieldData)). has_number es n ≡ false) (kept_with (above c.last c.cache.updates)) absent)))

-- the stretch with a message of this action
abbrev stretch_by : Action → List Taken → ContextData → MarketMsg → List Taken
stretch_by a s c m = (if turns_at a s m.sender then [] else s) ++ record { context = c; message = m } ∷ []

-- a message of this action keeps account, and the gaps that it tells are true
record StepAccounts (a : Action) (c : ContextData) (s : List Taken) (m : MarketMsg) : Type 0 where
  pub next : Accounts (acted a c m).context (stretch_by a s c m)
  pub gaps : AllByRecursion (TellsTrueGap (stretch_by a s c m) m.sender) (acted a c m).calls

-- ---- while there is an image

module _ (c : ContextData) (s : List Taken) (m : MarketMsg) (known : Accounts c s) (live : is_waiting c.phase ≡ false) where
  abbrev with_message : List Taken
  with_message = s ++ record { context = c; message = m } ∷ []

  abbrev alone : List Taken
  alone = record { context = c; message = m } ∷ []

  abbrev taken : Taken
  taken = record { context = c; message = m }

  more_numbers : (last : ℕ) → c.last ≤ last → m.seq ≤ last → (n : ℕ) → last < n → has_number (kept_of c.phase c.cache.updates) n ≡ false → AreDropped c.sender n with_message
  more_numbers last up seen n past absent =
      dropped_more c.sender n s taken (known.live live n (omega arith) absent) (not_numbered c.sender n taken (λ same. omega arith))

  more_images : (last : ℕ) → c.last ≤ last → is_update m.kind ≡ false → (n : ℕ) → last < n → has_number (kept_of c.phase c.cache.updates) n ≡ false → AreDropped c.sender n with_message
  more_images last up image n past absent =
      dropped_more c.sender n s taken (known.live live n (omega arith) absent) (not_update c.sender n taken image)

  apply_step : m.seq ≡ suc c.last → StepAccounts Apply c s m
  apply_step next = record {
    next = settled_accounts (with_update LiveOk c m) with_message
        (λ n past absent. more_numbers m.seq (omega arith) (omega arith) n past (kept_absent c.phase c.cache.updates n absent));
    gaps = (tt, tt);
  }

  -- an update up to the last number, and an image below it, change no number
  seen_next : m.seq ≤ c.last → Accounts c with_message
  seen_next seen = live_accounts c with_message live (more_numbers c.last (omega arith) seen)

  ignore_update_step : m.seq ≤ c.last → StepAccounts Ignore c s m
  ignore_update_step seen = record { next = seen_next seen; gaps = tt }

  late_step : m.seq ≤ c.last → StepAccounts Late c s m
  late_step seen = record { next = seen_next seen; gaps = (tt, tt) }

  ignore_image_step : is_update m.kind ≡ false → StepAccounts Ignore c s m
  ignore_image_step image = record { next = live_accounts c with_message live (more_images c.last (omega arith) image); gaps = tt }

  switch_step : StepAccounts Switch c s m
  switch_step = record {
    next = live_accounts (with_cached (with_update LiveStale (turned_to m.sender c) m) m) alone refl
        (λ n past absent. dropped_more m.sender n [] taken tt (not_numbered m.sender n taken (λ same. omega arith)));
    gaps = switch_calls_true c.phase alone m.sender c.last m;
  }

  replace_step : is_update m.kind ≡ false → c.last ≤ m.seq → StepAccounts Replace c s m
  replace_step image up = record {
    next = settled_accounts (with_image_of m c) with_message (λ n past absent. more_images m.seq up image n past (kept_absent c.phase c.cache.updates n absent));
    gaps = (tt, tt);
  }

  adopt_step : is_update m.kind ≡ false → StepAccounts Adopt c s m
  adopt_step image = record {
    next = live_accounts (with_image_of m (turned_to m.sender c)) alone refl
        (λ n past absent. dropped_more m.sender n [] taken tt (not_update m.sender n taken image));
    gaps = adopt_calls_true c.phase alone m.sender m;
  }

-- while nothing is kept
module _ (c : ContextData) (s : List Taken) (m : MarketMsg) (known : Accounts c s) (live : is_waiting c.phase ≡ false) (bare : kept_of c.phase c.cache.updates ≡ []) where
  abbrev bare_message : List Taken
  bare_message = s ++ record { context = c; message = m } ∷ []

  none_kept : (n : ℕ) → has_number (kept_of c.phase c.cache.updates) n ≡ false
  none_kept n = ap (λ (es : List (ℕ × List FieldData)). has_number es n) bare

  next_stale : c.last ≤ m.seq → Accounts (with_cached (with_update LiveStale c m) m) bare_message
  next_stale up = live_accounts (with_cached (with_update LiveStale c m) m) bare_message refl
      (λ n past absent. more_numbers c s m known live m.seq up (omega arith) n past (none_kept n))

  apply_keep_step : m.seq ≡ suc c.last → StepAccounts ApplyKeep c s m
  apply_keep_step next = record { next = next_stale (omega arith); gaps = (tt, tt) }

  seen_kept : m.seq ≤ c.last → Accounts (with_cached c m) bare_message
  seen_kept seen = live_accounts (with_cached c m) bare_message live (λ n past absent. more_numbers c s m known live c.last (omega arith) seen n past (none_kept n))

  keep_only_step : m.seq ≤ c.last → StepAccounts KeepOnly c s m
  keep_only_step seen = record { next = seen_kept seen; gaps = tt }

  keep_late_step : m.seq ≤ c.last → StepAccounts KeepLate c s m
  keep_late_step seen = record { next = seen_kept seen; gaps = (tt, tt) }

  gap_step : m.sender ≡ c.sender → suc c.last < m.seq → StepAccounts Gap c s m
  gap_step same far = record {
    next = next_stale (omega arith);
    gaps = gap_calls_true c.phase bare_message m.sender c.sender c.last m
        (subst (λ (x : ℕ). IsTrueGap bare_message x (suc c.last) (m.seq - 1)) (sym same)
        (true_gap bare_message c.sender c.last m.seq far (λ n past before.
        dropped_more c.sender n s (record { context = c; message = m }) (known.live live n past (none_kept n)) (not_numbered c.sender n (record { context = c; message = m }) (λ is. omega arith)))));
  }

  heal_next : (r : Reached) → is_update m.kind ≡ false → Accounts (healed r c m).context bare_message
  heal_next r image =
      (elim (nat_le c.last r.number) as (λ b. nat_le c.last r.number ≡ b → Accounts (if b then reached_last r c m else stopped_short c).context bare_message) [
        | true ↦ λ up. live_accounts (reached_last r c m).context bare_message refl (λ n past absent. more_images c s m known live r.number (le_true c.last r.number up) image n past (none_kept n))
        | false ↦ λ short. live_accounts c bare_message live (more_images c s m known live c.last (omega arith) image)
      ]) refl

  heal_gaps : (r : Reached) → AllByRecursion (TellsTrueGap bare_message m.sender) (healed r c m).calls
  heal_gaps r = elim (nat_le c.last r.number) as (λ b. AllByRecursion (TellsTrueGap bare_message m.sender) (if b then reached_last r c m else stopped_short c).calls) [
    | true ↦ (tt, (tt, tt))
    | false ↦ (tt, tt)
  ]

  heal_step : is_update m.kind ≡ false → StepAccounts Heal c s m
  heal_step image = record { next = heal_next (reached c.cache.updates m.seq m.body) image; gaps = heal_gaps (reached c.cache.updates m.seq m.body) }

-- ---- before the first image

waiting_is_same : (sender : ℕ) (c : ContextData) → (c.sender == sender) ≡ true → waiting_for sender c ≡ c
waiting_is_same sender c is = grind arith

waiting_is_turned : (sender : ℕ) (c : ContextData) → (c.sender == sender) ≡ false → waiting_for sender c ≡ turned_to sender c
waiting_is_turned sender c is = grind arith

-- a message of the context's sender goes on with the stretch, and one of another sender begins it anew
same_stretch : (c : ContextData) (s : List Taken) (m : MarketMsg) → Accounts c s → c.phase ≡ Await → (c.sender == m.sender) ≡ true → (if last_is_of_another s m.sender then [] else s) ≡ s
same_stretch c s m known waits same =
    elim (known.latest waits) [
      | inl latest ↦ (let other : last_is_of_another s m.sender ≡ false = latest m.sender ∙ ap not same in grind arith)
      | inr empty ↦ (let e : s ≡ [] = empty in rw e refl)
    ]

other_stretch : (c : ContextData) (s : List Taken) (m : MarketMsg) → Accounts c s → c.phase ≡ Await → (c.sender == m.sender) ≡ false → (if last_is_of_another s m.sender then [] else s) ≡ []
other_stretch c s m known waits other =
    elim (known.latest waits) [
      | inl latest ↦ (let is : last_is_of_another s m.sender ≡ true = latest m.sender ∙ ap not other in grind arith)
      | inr empty ↦ (let e : s ≡ [] = empty in rw e refl)
    ]

-- what an update that is added leaves dropped
added_dropped : (s : List Taken) (c : ContextData) (m : MarketMsg) (updates : List (ℕ × List FieldData))
    → c.phase ≡ Await → is_update m.kind ≡ true → (waiting_for m.sender c).cache.updates ≡ updates
    → ((n : ℕ) → has_number updates n ≡ false → AreDropped m.sender n s)
    → (n : ℕ) → has_number (trimmed c.cache.size (put updates m.seq m.body)) n ≡ false → AreDropped m.sender n (s ++ record { context = c; message = m } ∷ [])
added_dropped s c m updates waits update are dropped n absent =
    let t : Taken = record { context = c; message = m } in
    (elim (has_number (put updates m.seq m.body) n) as (λ b. has_number (put updates m.seq m.body) n ≡ b → AreDropped m.sender n (s ++ t ∷ [])) [
      | true ↦ λ present.
          (elim (nat_lt c.cache.size (length (put updates m.seq m.body))) as (λ b. nat_lt c.cache.size (length (put updates m.seq m.body)) ≡ b → has_number (if b then drop 1 (put updates m.seq m.body) else put updates m.seq m.body) n ≡ false → AreDropped m.sender n (s ++ t ∷ [])) [
            | true ↦ λ full gone.
                let lowest : is_lowest n (put updates m.seq m.body) ≡ true = lowest_dropped (put updates m.seq m.body) n present gone in
                let waiting : is_waiting c.phase ≡ true = rw waits refl in
                let own : (m.sender == m.sender) ≡ true = eq_same m.sender m.sender refl in
                let is : drops m.sender n t ≡ true = rw (are, waiting, update, own, full, lowest) refl in
                dropped_last m.sender n s t is
            | false ↦ λ room gone. absurd cc
          ]) refl absent
      | false ↦ λ lacks.
          let parts = absent_put updates m.seq m.body n lacks in
          dropped_more m.sender n s t (dropped n parts.1) (not_numbered m.sender n t (λ same. parts.0 (sym same)))
    ]) refl

keep_accounts : (s : List Taken) (c next : ContextData) (m : MarketMsg)
    → c.phase ≡ Await → is_update m.kind ≡ true → waiting_for m.sender c ≡ next → next.phase ≡ Await → next.sender ≡ m.sender → next.cache.size ≡ c.cache.size
    → ((n : ℕ) → has_number next.cache.updates n ≡ false → AreDropped m.sender n s)
    → Accounts (with_cached (waiting_for m.sender c) m) (s ++ record { context = c; message = m } ∷ [])
keep_accounts s c next m waits update is waits_next sender size dropped =
    let t : Taken = record { context = c; message = m } in
    let goal : Accounts (with_cached next m) (s ++ t ∷ []) = record {
      waiting = λ w n absent.
          subst (λ (x : ℕ). AreDropped x n (s ++ t ∷ [])) (sym sender)
          (added_dropped s c m next.cache.updates waits update (ap (λ (x : ContextData). x.cache.updates) is) dropped n
          (subst (λ (x : ℕ). has_number (trimmed x (put next.cache.updates m.seq m.body)) n ≡ false) size absent));
      live = λ live. absurd (not_waiting next live waits_next);
      latest = λ w. inl (λ x. last_of_more s t x ∙ ap (λ (y : ℕ). not (y == x)) (sym sender));
    } in
    subst (λ (x : ContextData). Accounts (with_cached x m) (s ++ t ∷ [])) (sym is) goal

keep_step : (c : ContextData) (s : List Taken) (m : MarketMsg) → Accounts c s → c.phase ≡ Await → is_update m.kind ≡ true → StepAccounts Keep c s m
keep_step c s m known waits update =
    let t : Taken = record { context = c; message = m } in
    (elim (c.sender == m.sender) as (λ b. (c.sender == m.sender) ≡ b → StepAccounts Keep c s m) [
      | true ↦ λ same. record {
        next = subst (λ (x : List Taken). Accounts (with_cached (waiting_for m.sender c) m) (x ++ t ∷ [])) (sym (same_stretch c s m known waits same))
            (keep_accounts s c c m waits update (waiting_is_same m.sender c same) waits (eq_true c.sender m.sender same) refl
            (λ n absent. subst (λ (x : ℕ). AreDropped x n s) (eq_true c.sender m.sender same) (known.waiting waits n absent)));
        gaps = tt;
      }
      | false ↦ λ other. record {
        next = subst (λ (x : List Taken). Accounts (with_cached (waiting_for m.sender c) m) (x ++ t ∷ [])) (sym (other_stretch c s m known waits other))
            (keep_accounts [] c (turned_to m.sender c) m waits update (waiting_is_turned m.sender c other) waits refl refl (λ n absent. tt));
        gaps = tt;
      }
    ]) refl

-- ---- what is known while cached updates are handled

-- no updates are kept: the image is the sender's record and the cache is empty, or it may lack updates
abbrev Steady : ContextData → Type 0
Steady c = ((c.phase ≡ LiveOk) × (c.cache.updates ≡ [])) ⊎ (c.phase ≡ LiveStale)

abbrev is_steady : Phase → Bool
is_steady Await = false
is_steady LiveOk = true
is_steady LiveStale = true
is_steady LiveKept = false

steady_phase : (c : ContextData) (phase : Phase) → Steady c → c.phase ≡ phase → is_steady phase ≡ true
steady_phase c phase steady is = elim steady [
  | inl both ↦ (let ok : phase ≡ LiveOk = sym is ∙ both.0 in ap is_steady ok)
  | inr stale ↦ (let same : phase ≡ LiveStale = sym is ∙ stale in ap is_steady same)
]

steady_empty : (c : ContextData) → Steady c → c.phase ≡ LiveOk → c.cache.updates ≡ []
steady_empty c steady is = elim steady [
  | inl both ↦ both.1
  | inr stale ↦ (let clash : LiveOk ≡ LiveStale = sym is ∙ stale in absurd cc)
]

steady_live : (c : ContextData) → Steady c → is_waiting c.phase ≡ false
steady_live c steady = elim steady [
  | inl both ↦ (let ok : c.phase ≡ LiveOk = both.0 in ap is_waiting ok)
  | inr stale ↦ (let same : c.phase ≡ LiveStale = stale in ap is_waiting same)
]

record Pending (sender : ℕ) (s : List Taken) (c : ContextData) (es : List (ℕ × List FieldData)) : Type 0 where
  pub own : c.sender ≡ sender
  pub steady : Steady c
  pub ahead : AscendFrom c.last es
  pub dropped : (n : ℕ) → c.last < n → has_number es n ≡ false → AreDropped sender n s

-- what one cached update above the last number leaves
record Handled (sender : ℕ) (s : List Taken) (c : ContextData) (m : MarketMsg) (step : Step) : Type 0 where
  pub own : step.context.sender ≡ sender
  pub steady : Steady step.context
  pub last : step.context.last ≡ m.seq
  pub gaps : AllByRecursion (TellsTrueGap s sender) step.calls

handled_next : (sender : ℕ) (s : List Taken) (c : ContextData) (m : MarketMsg) → c.sender ≡ sender → c.cache.updates ≡ [] → Handled sender s c m (update_acted Apply c m)
handled_next sender s c m own empty =
    let none : above m.seq c.cache.updates ≡ [] = ap (above m.seq) empty in
    record { own = own; steady = inl (ap ok_with none, none); last = refl; gaps = (tt, tt) }

handled_gap : (sender : ℕ) (s : List Taken) (c : ContextData) (m : MarketMsg) → c.sender ≡ sender → suc c.last < m.seq
    → ((n : ℕ) → c.last < n → n < m.seq → AreDropped sender n s) → Handled sender s c m (update_acted Gap c m)
handled_gap sender s c m own far dropped = record {
  own = own;
  steady = inr refl;
  last = refl;
  gaps = gap_calls_true c.phase s sender c.sender c.last m (true_gap s sender c.last m.seq far dropped);
}

handled_one : (strategy : Strategy) (phase : Phase) (relation : Relation) (sender : ℕ) (s : List Taken) (c : ContextData) (m : MarketMsg)
    → c.phase ≡ phase → Steady c → is_steady phase ≡ true → c.sender ≡ sender → m.sender ≡ c.sender → c.last < m.seq
    → ((n : ℕ) → c.last < n → n < m.seq → AreDropped sender n s)
    → Related relation c.sender c.last m → Handled sender s c m (update_acted (decided strategy phase relation true) c m)
handled_one strategy Await relation sender s c m is steady fits own same up dropped told = absurd cc
handled_one strategy LiveOk Next sender s c m is steady fits own same up dropped told = handled_next sender s c m own (steady_empty c steady is)
handled_one strategy LiveOk Same sender s c m is steady fits own same up dropped told = absurd (omega (arith, told.number))
handled_one strategy LiveOk Old sender s c m is steady fits own same up dropped told = absurd (omega (arith, told.number))
handled_one strategy LiveOk Ahead sender s c m is steady fits own same up dropped told = handled_gap sender s c m own told.number dropped
handled_one strategy LiveOk Other sender s c m is steady fits own same up dropped told = absurd (told same)
handled_one strategy LiveStale Next sender s c m is steady fits own same up dropped told = record { own = own; steady = inr refl; last = refl; gaps = (tt, tt) }
handled_one strategy LiveStale Same sender s c m is steady fits own same up dropped told = absurd (omega (arith, told.number))
handled_one strategy LiveStale Old sender s c m is steady fits own same up dropped told = absurd (omega (arith, told.number))
handled_one strategy LiveStale Ahead sender s c m is steady fits own same up dropped told = handled_gap sender s c m own told.number dropped
handled_one strategy LiveStale Other sender s c m is steady fits own same up dropped told = absurd (told same)
handled_one strategy LiveKept relation sender s c m is steady fits own same up dropped told = absurd cc

handled_first : (sender : ℕ) (s : List Taken) (c : ContextData) (e : ℕ × List FieldData) (es : List (ℕ × List FieldData)) → Pending sender s c (e ∷ es)
    → Handled sender s c (as_message c.sender e) (updated c (as_message c.sender e))
handled_first sender s c e es pending =
    handled_one c.strategy c.phase (relation_of c.sender c.last (as_message c.sender e)) sender s c (as_message c.sender e) refl pending.steady
    (steady_phase c c.phase pending.steady refl) pending.own refl pending.ahead.0
    (λ n past before. pending.dropped n past (cons_absent e es n (λ same. omega arith) (absent_below e.0 n es (omega arith) pending.ahead.1)))
    (related c.sender c.last (as_message c.sender e))

pending_more : (sender : ℕ) (s : List Taken) (c : ContextData) (e : ℕ × List FieldData) (es : List (ℕ × List FieldData)) → Pending sender s c (e ∷ es)
    → Pending sender s (updated c (as_message c.sender e)).context es
pending_more sender s c e es pending =
    let one = handled_first sender s c e es pending in
    record {
      own = one.own;
      steady = one.steady;
      ahead = subst (λ (x : ℕ). AscendFrom x es) (sym one.last) pending.ahead.1;
      dropped = λ n past absent.
          let up : e.0 < n = subst (λ (x : ℕ). x < n) one.last past in
          pending.dropped n (omega (arith, pending.ahead.0)) (cons_absent e es n (λ same. omega arith) absent);
    }

-- the cached updates were handled: nothing is pending, and the gaps that were told are true
handled_accounts : (es : List (ℕ × List FieldData)) (sender : ℕ) (s : List Taken) (c : ContextData) → Pending sender s c es
    → Pending sender s (handled c es).context [] × AllByRecursion (TellsTrueGap s sender) (handled c es).calls
handled_accounts [] sender s c pending = (pending, tt)
handled_accounts (e ∷ es) sender s c pending =
    let rest = handled_accounts es sender s (updated c (as_message c.sender e)).context (pending_more sender s c e es pending) in (
      rest.0,
      all_append (TellsTrueGap s sender) (updated c (as_message c.sender e)).calls (handled (updated c (as_message c.sender e)).context es).calls
          (handled_first sender s c e es pending).gaps rest.1,
    )

pending_accounts : (sender : ℕ) (s : List Taken) (c : ContextData) → Pending sender s c [] → Accounts c s
pending_accounts sender s c pending =
    live_accounts c s (steady_live c pending.steady) (λ n past absent. subst (λ (x : ℕ). AreDropped x n s) (sym pending.own) (pending.dropped n past refl))

-- ---- the first image

-- what is pending at it
start_pending : (s : List Taken) (c : ContextData) (m : MarketMsg) (es : List (ℕ × List FieldData))
    → AscendFrom m.seq es → ((n : ℕ) → m.seq < n → has_number es n ≡ false → AreDropped m.sender n s)
    → Pending m.sender s (with_image_of m (turned_to m.sender c)) es
start_pending s c m es ahead dropped = record { own = refl; steady = inl (refl, refl); ahead = ahead; dropped = dropped }

started_accounts : (s : List Taken) (c : ContextData) (m : MarketMsg) (es : List (ℕ × List FieldData)) → cached_above c m ≡ es
    → Pending m.sender s (with_image_of m (turned_to m.sender c)) es
    → Accounts (started c m).context s × AllByRecursion (TellsTrueGap s m.sender) (started c m).calls
started_accounts s c m es is pending =
    let all = handled_accounts es m.sender s (with_image_of m (turned_to m.sender c)) pending in
    subst (λ (x : List (ℕ × List FieldData)). Accounts (handled (with_image_of m (turned_to m.sender c)) x).context s × AllByRecursion (TellsTrueGap s m.sender) (on.Msg m quality.Ok ∷ (handled (with_image_of m (turned_to m.sender c)) x).calls))
    (sym is) (pending_accounts m.sender s (handled (with_image_of m (turned_to m.sender c)) es).context all.0, (tt, all.1))

start_step : (c : ContextData) (s : List Taken) (m : MarketMsg) → Keeps c → Accounts c s → c.phase ≡ Await → is_update m.kind ≡ false → StepAccounts Start c s m
start_step c s m keeps known waits image =
    let t : Taken = record { context = c; message = m } in
    let finish : (base : List Taken) → (if last_is_of_another s m.sender then [] else s) ≡ base
    → Accounts (started c m).context (base ++ t ∷ []) × AllByRecursion (TellsTrueGap (base ++ t ∷ []) m.sender) (started c m).calls → StepAccounts Start c s m
    = λ (base : List Taken) is both. record {
      next = subst (λ (x : List Taken). Accounts (started c m).context (x ++ t ∷ [])) (sym is) both.0;
      gaps = subst (λ (x : List Taken). AllByRecursion (TellsTrueGap (x ++ t ∷ []) m.sender) (started c m).calls) (sym is) both.1;
    } in
    (elim (c.sender == m.sender) as (λ b. (c.sender == m.sender) ≡ b → StepAccounts Start c s m) [
      | true ↦ λ same. finish s (same_stretch c s m known waits same)
          (started_accounts (s ++ t ∷ []) c m (above m.seq c.cache.updates) (grind arith)
          (start_pending (s ++ t ∷ []) c m (above m.seq c.cache.updates) (ascend_above m.seq c.cache.updates keeps.ascend)
          (λ n up absent. dropped_more m.sender n s t
          (subst (λ (x : ℕ). AreDropped x n s) (eq_true c.sender m.sender same) (known.waiting waits n (absent_above m.seq n c.cache.updates up absent)))
          (not_update m.sender n t image))))
      | false ↦ λ other. finish [] (other_stretch c s m known waits other)
          (started_accounts (t ∷ []) c m [] (grind arith)
          (start_pending (t ∷ []) c m [] tt (λ n up absent. dropped_more m.sender n [] t tt (not_update m.sender n t image))))
    ]) refl

-- or the cached updates above it are kept
start_keep_step : (c : ContextData) (s : List Taken) (m : MarketMsg) → Accounts c s → c.phase ≡ Await → is_update m.kind ≡ false → StepAccounts StartKeep c s m
start_keep_step c s m known waits image =
    let t : Taken = record { context = c; message = m } in
    let finish : (base : List Taken) (next : ContextData) → (if last_is_of_another s m.sender then [] else s) ≡ base → waiting_for m.sender c ≡ next
    → Accounts (settled (with_image_of m next)) (base ++ t ∷ []) → StepAccounts StartKeep c s m
    = λ (base : List Taken) (next : ContextData) is turned accounts. record {
      next = subst (λ (x : List Taken). Accounts (started_keeping c m).context (x ++ t ∷ [])) (sym is)
          (subst (λ (x : ContextData). Accounts (settled (with_image_of m x)) (base ++ t ∷ [])) (sym turned) accounts);
      gaps = (tt, tt);
    } in
    (elim (c.sender == m.sender) as (λ b. (c.sender == m.sender) ≡ b → StepAccounts StartKeep c s m) [
      | true ↦ λ same. finish s c (same_stretch c s m known waits same) (waiting_is_same m.sender c same)
          (settled_accounts (with_image_of m c) (s ++ t ∷ [])
          (λ n past absent. dropped_more c.sender n s t (known.waiting waits n absent) (not_update c.sender n t image)))
      | false ↦ λ other. finish [] (turned_to m.sender c) (other_stretch c s m known waits other) (waiting_is_turned m.sender c other)
          (settled_accounts (with_image_of m (turned_to m.sender c)) (t ∷ [])
          (λ n past absent. dropped_more m.sender n [] t tt (not_update m.sender n t image)))
    ]) refl

-- ---- the first gap

catch_step : (c : ContextData) (s : List Taken) (m : MarketMsg) → Keeps c → Accounts c s → c.phase ≡ LiveKept → m.sender ≡ c.sender → c.last < m.seq → StepAccounts Catch c s m
catch_step c s m keeps known is same up =
    let t : Taken = record { context = c; message = m } in
    let live : is_waiting c.phase ≡ false = ap is_waiting is in
    let all : List (ℕ × List FieldData) = put c.cache.updates m.seq m.body in
    let bare : ContextData = record c { phase = LiveOk; cache = emptied c.cache } in
    let pending : Pending c.sender (s ++ t ∷ []) bare all = record {
      own = refl;
      steady = inl (refl, refl);
      ahead = ascend_from_put c.last c.cache.updates m.seq m.body up (keeps.early is);
      dropped = λ n past absent.
          let parts = absent_put c.cache.updates m.seq m.body n absent in
          dropped_more c.sender n s t (known.live live n past (kept_absent c.phase c.cache.updates n parts.1)) (not_numbered c.sender n t (λ x. parts.0 (sym x)));
    } in
    let both = handled_accounts all c.sender (s ++ t ∷ []) bare pending in
    record {
      next = pending_accounts c.sender (s ++ t ∷ []) (handled bare all).context both.0;
      gaps = subst (λ (x : ℕ). AllByRecursion (TellsTrueGap (s ++ t ∷ []) x) (handled bare all).calls) (sym same) both.1;
    }

-- ---- each message of a market context

live_from : (c : ContextData) (phase : Phase) → c.phase ≡ phase → is_waiting phase ≡ false → is_waiting c.phase ≡ false
live_from c phase is live = rw is live

bare_from : (c : ContextData) (phase : Phase) → c.phase ≡ phase → kept_of phase c.cache.updates ≡ [] → kept_of c.phase c.cache.updates ≡ []
bare_from c phase is bare = rw is bare

update_accounts : (strategy : Strategy) (phase : Phase) (relation : Relation) (c : ContextData) (s : List Taken) (m : MarketMsg)
    → c.strategy ≡ strategy → c.phase ≡ phase → Related relation c.sender c.last m → Keeps c → Accounts c s → is_update m.kind ≡ true → StepAccounts (decided strategy phase relation true) c s m
update_accounts strategy Await relation c s m by is told keeps known update = keep_step c s m known is update
update_accounts strategy LiveOk Next c s m by is told keeps known update = apply_step c s m known (live_from c LiveOk is refl) told.number
update_accounts strategy LiveOk Same c s m by is told keeps known update =
    either_way (λ a. StepAccounts a c s m) strategy Ignore Late (ignore_update_step c s m known (live_from c LiveOk is refl) (omega (arith, told.number))) (late_step c s m known (live_from c LiveOk is refl) (omega (arith, told.number)))
update_accounts strategy LiveOk Old c s m by is told keeps known update =
    either_way (λ a. StepAccounts a c s m) strategy Ignore Late (ignore_update_step c s m known (live_from c LiveOk is refl) (omega (arith, told.number))) (late_step c s m known (live_from c LiveOk is refl) (omega (arith, told.number)))
update_accounts strategy LiveOk Ahead c s m by is told keeps known update = gap_step c s m known (live_from c LiveOk is refl) (bare_from c LiveOk is refl) told.same told.number
update_accounts strategy LiveOk Other c s m by is told keeps known update = switch_step c s m known (live_from c LiveOk is refl)
update_accounts strategy LiveStale Next c s m by is told keeps known update = apply_keep_step c s m known (live_from c LiveStale is refl) (bare_from c LiveStale is refl) told.number
update_accounts strategy LiveStale Same c s m by is told keeps known update =
    either_way (λ a. StepAccounts a c s m) strategy KeepOnly KeepLate (keep_only_step c s m known (live_from c LiveStale is refl) (bare_from c LiveStale is refl) (omega (arith, told.number))) (keep_late_step c s m known (live_from c LiveStale is refl) (bare_from c LiveStale is refl) (omega (arith, told.number)))
update_accounts strategy LiveStale Old c s m by is told keeps known update =
    either_way (λ a. StepAccounts a c s m) strategy KeepOnly KeepLate (keep_only_step c s m known (live_from c LiveStale is refl) (bare_from c LiveStale is refl) (omega (arith, told.number))) (keep_late_step c s m known (live_from c LiveStale is refl) (bare_from c LiveStale is refl) (omega (arith, told.number)))
update_accounts strategy LiveStale Ahead c s m by is told keeps known update = gap_step c s m known (live_from c LiveStale is refl) (bare_from c LiveStale is refl) told.same told.number
update_accounts strategy LiveStale Other c s m by is told keeps known update = switch_step c s m known (live_from c LiveStale is refl)
update_accounts strategy LiveKept Next c s m by is told keeps known update = apply_step c s m known (live_from c LiveKept is refl) told.number
update_accounts strategy LiveKept Same c s m by is told keeps known update =
    either_way (λ a. StepAccounts a c s m) strategy Ignore Late (ignore_update_step c s m known (live_from c LiveKept is refl) (omega (arith, told.number))) (late_step c s m known (live_from c LiveKept is refl) (omega (arith, told.number)))
update_accounts strategy LiveKept Old c s m by is told keeps known update =
    either_way (λ a. StepAccounts a c s m) strategy Ignore Late (ignore_update_step c s m known (live_from c LiveKept is refl) (omega (arith, told.number))) (late_step c s m known (live_from c LiveKept is refl) (omega (arith, told.number)))
update_accounts One LiveKept Ahead c s m by is told keeps known update = (let clash : One ≡ Two = sym by ∙ keeps.second is in absurd cc)
update_accounts Two LiveKept Ahead c s m by is told keeps known update = catch_step c s m keeps known is told.same (omega (arith, told.number))
update_accounts strategy LiveKept Other c s m by is told keeps known update = switch_step c s m known (live_from c LiveKept is refl)

image_accounts : (strategy : Strategy) (phase : Phase) (relation : Relation) (c : ContextData) (s : List Taken) (m : MarketMsg)
    → c.phase ≡ phase → Related relation c.sender c.last m → Keeps c → Accounts c s → is_update m.kind ≡ false → StepAccounts (decided strategy phase relation false) c s m
image_accounts strategy Await relation c s m is told keeps known image =
    either_way (λ a. StepAccounts a c s m) strategy Start StartKeep (start_step c s m keeps known is image) (start_keep_step c s m known is image)
image_accounts strategy LiveOk Next c s m is told keeps known image = replace_step c s m known (live_from c LiveOk is refl) image (omega (arith, told.number))
image_accounts strategy LiveOk Same c s m is told keeps known image = replace_step c s m known (live_from c LiveOk is refl) image (omega (arith, told.number))
image_accounts strategy LiveOk Old c s m is told keeps known image = ignore_image_step c s m known (live_from c LiveOk is refl) image
image_accounts strategy LiveOk Ahead c s m is told keeps known image = replace_step c s m known (live_from c LiveOk is refl) image (omega (arith, told.number))
image_accounts strategy LiveOk Other c s m is told keeps known image = adopt_step c s m known (live_from c LiveOk is refl) image
image_accounts strategy LiveStale Next c s m is told keeps known image = heal_step c s m known (live_from c LiveStale is refl) (bare_from c LiveStale is refl) image
image_accounts strategy LiveStale Same c s m is told keeps known image = heal_step c s m known (live_from c LiveStale is refl) (bare_from c LiveStale is refl) image
image_accounts strategy LiveStale Old c s m is told keeps known image = heal_step c s m known (live_from c LiveStale is refl) (bare_from c LiveStale is refl) image
image_accounts strategy LiveStale Ahead c s m is told keeps known image = heal_step c s m known (live_from c LiveStale is refl) (bare_from c LiveStale is refl) image
image_accounts strategy LiveStale Other c s m is told keeps known image = adopt_step c s m known (live_from c LiveStale is refl) image
image_accounts strategy LiveKept Next c s m is told keeps known image = replace_step c s m known (live_from c LiveKept is refl) image (omega (arith, told.number))
image_accounts strategy LiveKept Same c s m is told keeps known image = replace_step c s m known (live_from c LiveKept is refl) image (omega (arith, told.number))
image_accounts strategy LiveKept Old c s m is told keeps known image = ignore_image_step c s m known (live_from c LiveKept is refl) image
image_accounts strategy LiveKept Ahead c s m is told keeps known image = replace_step c s m known (live_from c LiveKept is refl) image (omega (arith, told.number))
image_accounts strategy LiveKept Other c s m is told keeps known image = adopt_step c s m known (live_from c LiveKept is refl) image

step_accounts : (c : ContextData) (s : List Taken) (m : MarketMsg) → Keeps c → Accounts c s → StepAccounts (action_of c m) c s m
step_accounts c s m keeps known =
    (elim (is_update m.kind) as (λ b. is_update m.kind ≡ b → StepAccounts (decided c.strategy c.phase (relation_of c.sender c.last m) b) c s m) [
      | true ↦ λ update. update_accounts c.strategy c.phase (relation_of c.sender c.last m) c s m refl refl (related c.sender c.last m) keeps known update
      | false ↦ λ image. image_accounts c.strategy c.phase (relation_of c.sender c.last m) c s m refl (related c.sender c.last m) keeps known image
    ]) refl

market_after : (c : ContextData) (m : MarketMsg) → c.kind ≡ Market → after c m ≡ (acted (action_of c m) c m).context
market_after c m is = ap (λ (k : SubKind). (step_by k c m).context) is

-- what is known of a market context and its stretch
record Known (c : ContextData) (s : List Taken) : Type 0 where
  pub keeps : Keeps c
  pub accounts : Accounts c s

after_all_known : (before : List MarketMsg) (c : ContextData) (s : List Taken) → c.kind ≡ Market → Known c s → Known (after_all c before) (stretch_after s c before)
after_all_known [] c s is known = known
after_all_known (m ∷ before) c s is known =
    after_all_known before (after c m) (stretched s c m) (after_kind c m ∙ is) (record {
      keeps = after_keeps c m known.keeps;
      accounts = subst (λ (x : ContextData). Accounts x (stretched s c m)) (sym (market_after c m is)) (step_accounts c s m known.keeps known.accounts).next;
    })

new_known : (strategy : Strategy) (kind : SubKind) (size : ℕ) → Known (new_context strategy kind size) []
new_known strategy kind size = record {
  keeps = new_keeps strategy kind size;
  accounts = record { waiting = λ w n absent. tt; live = λ live. absurd cc; latest = λ w. inr refl };
}

-- a snapshot tells no gap
snapshot_gaps : (phase : Phase) (update : Bool) (c : ContextData) (s : List Taken) (m : MarketMsg) → AllByRecursion (TellsTrueGap s m.sender) (snapshot_acted phase update c m).calls
snapshot_gaps Await false c s m = (tt, tt)
snapshot_gaps Await true c s m = tt
snapshot_gaps LiveOk update c s m = tt
snapshot_gaps LiveStale update c s m = tt
snapshot_gaps LiveKept update c s m = tt

-- the gaps of a message, by the kind of the context
kind_gaps : (kind : SubKind) (c : ContextData) (s : List Taken) (m : MarketMsg) → (kind ≡ Market → Known c s) → AllByRecursion (TellsTrueGap (stretched s c m) m.sender) (step_by kind c m).calls
kind_gaps Market c s m known = (step_accounts c s m (known refl).keeps (known refl).accounts).gaps
kind_gaps Snapshot c s m known = snapshot_gaps c.phase (is_update m.kind) c (stretched s c m) m
kind_gaps Basic c s m known = (tt, tt)

pub gap_law : GapLaw
gap_law strategy kind size before m =
    let new : ContextData = new_context strategy kind size in
    kind_gaps (fold strategy kind size before).kind (fold strategy kind size before) (stretch_after [] new before) m
    (λ is. after_all_known before new [] (sym (after_all_kind before new) ∙ is) (new_known strategy kind size))
