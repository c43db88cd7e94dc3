-- The last word of the strategy on quality is the quality of the image.
use Rattle.std.specs.Prelude.{nat_le, if◌then◌else◌, Ok, Err}
use Rattle.std.proofs.Common.{◌≡◌, ◌⊎◌, ⊎_elim, ℕ, ◌==◌, Bool, true, false, List, [], ◌∷◌, ◌++◌, refl, sym, ◌∙◌, ap, subst}
use Rattle.mama_msg.specs.Field.{FieldData}
use Rattle.mama_event.specs.Arrival.{Arrival}
use Rattle.mama_event.specs.declared.market.MarketMsg.{MarketMsg}
use Rattle.mama_event.specs.declared.market.SubKind.{SubKind}
use Rattle.mama_event.specs.declared.shape.Strategy.{Strategy}
use Rattle.mama_event.specs.declared.shape.Strategy.TheVariants.{One, Two}
use Rattle.mama_event.specs.declared.market.SubKind.TheVariants.{Market, Snapshot}
use Rattle.mama_event.specs.declared.market.Quality.{Quality}
use Rattle.mama_event.specs.declared.market.Quality.TheVariants as quality
use Rattle.mama_event.specs.declared.callback.Callback.{Callback}
use Rattle.mama_event.specs.declared.callback.Callback.TheVariants as on
use Rattle.mama_dq.specs.declared.table.Phase.{Phase}
use Rattle.mama_dq.specs.declared.table.Phase.TheVariants.{Await, LiveOk, LiveStale, LiveKept}
use Rattle.mama_dq.specs.declared.table.Relation.{Relation}
use Rattle.mama_dq.specs.declared.table.Relation.TheVariants.{Next, Same, Old, Ahead, Other}
use Rattle.mama_dq.specs.Table.{is_update, decided, relation_of}
use Rattle.mama_dq.specs.Cache.{Reached, reached, above, put, emptied}
use Rattle.mama_dq.specs.Context.{ContextData, new_context, quality_in}
use Rattle.mama_dq.specs.Strategy.{Step, ok_with, settled, with_update, caught, if_ok, stale_calls, switch_calls, adopt_calls, updated, update_acted, acted, as_message, handled, cached_above, healed, reached_last, stopped_short, waiting_for, with_image_of, turned_to, snapshot_acted, step_by, after, after_all, callbacks_of}
use Rattle.mama_dq.proofs.SameKind.{after_kind}
use Rattle.mama_laws_callbacks.specs.Told.{told_from}
use Rattle.mama_laws_callbacks.specs.Word.{last_word, messages_read, LastWordsAreTrue}

word_append : (q : Quality) (xs ys : List Callback) → last_word q (xs ++ ys) ≡ last_word (last_word q xs) ys
word_append q [] ys = refl
word_append q (on.Msg m r ∷ xs) ys = word_append r xs ys
word_append q (on.Quality r n ∷ xs) ys = word_append r xs ys
word_append q (on.Create ∷ xs) ys = word_append q xs ys
word_append q (on.Gap first to ∷ xs) ys = word_append q xs ys
word_append q (on.RecapRequest sender ∷ xs) ys = word_append q xs ys
word_append q (on.Late sender seq ∷ xs) ys = word_append q xs ys
word_append q (on.Error code ∷ xs) ys = word_append q xs ys
word_append q (on.Destroy ∷ xs) ys = word_append q xs ys
word_append q (on.Tick moment ∷ xs) ys = word_append q xs ys
word_append q (on.Reply body ∷ xs) ys = word_append q xs ys

-- a step tells at last the quality of what it leaves, where that of before was told
record IsTrue (phase : Phase) (step : Step) : Type 0 where
  pub word : last_word (quality_in phase) step.calls ≡ quality_in step.context.phase

-- a step that makes no callback and keeps the phase
same_phase : (p : Phase) (c d : ContextData) → c.phase ≡ p → d.phase ≡ c.phase → quality_in p ≡ quality_in d.phase
same_phase p c d at kept = ap quality_in (sym at) ∙ ap quality_in (sym kept)

stale_last : (q : Quality) (p : Phase) (sender last : ℕ) (m : MarketMsg) → last_word q (stale_calls p sender last m) ≡ quality.Stale
stale_last q p sender last m = word_append q (if_ok p (on.Quality quality.Stale last ∷ on.RecapRequest sender ∷ [])) (on.Msg m quality.Stale ∷ [])

switch_last : (q : Quality) (p : Phase) (last : ℕ) (m : MarketMsg) → last_word q (switch_calls p last m) ≡ quality.Stale
switch_last q p last m = word_append q (if_ok p (on.Quality quality.Stale last ∷ [])) (on.RecapRequest m.sender ∷ on.Msg m quality.Stale ∷ [])

adopt_last : (q : Quality) (p : Phase) (m : MarketMsg) → last_word q (adopt_calls p m) ≡ quality.Ok
adopt_last q Await m = refl
adopt_last q LiveOk m = refl
adopt_last q LiveStale m = refl
adopt_last q LiveKept m = refl

-- ---- the image as the record again

-- what is kept for a gap or not, the image is ok
settled_ok : (c : ContextData) → quality.Ok ≡ quality_in (settled c).phase
settled_ok c = elim (above c.last c.cache.updates) as (λ (es : List (ℕ × List FieldData)). quality.Ok ≡ quality_in (ok_with es)) [ [] ↦ refl | e ∷ es ↦ refl ]

-- ---- updates while there is an image

update_true : (s : Strategy) (p : Phase) (r : Relation) (c : ContextData) (m : MarketMsg) → c.phase ≡ p → IsTrue p (update_acted (decided s p r true) c m)
update_true s Await r c m at = record { word = ap quality_in (sym at) }
update_true s LiveOk Next c m at = record { word = settled_ok (with_update LiveOk c m) }
update_true One LiveOk Same c m at = record { word = ap quality_in (sym at) }
update_true Two LiveOk Same c m at = record { word = ap quality_in (sym at) }
update_true One LiveOk Old c m at = record { word = ap quality_in (sym at) }
update_true Two LiveOk Old c m at = record { word = ap quality_in (sym at) }
update_true s LiveOk Ahead c m at = record { word = stale_last quality.Ok c.phase c.sender c.last m }
update_true s LiveOk Other c m at = record { word = switch_last quality.Ok c.phase c.last m }
update_true s LiveStale Next c m at = record { word = refl }
update_true One LiveStale Same c m at = record { word = ap quality_in (sym at) }
update_true Two LiveStale Same c m at = record { word = ap quality_in (sym at) }
update_true One LiveStale Old c m at = record { word = ap quality_in (sym at) }
update_true Two LiveStale Old c m at = record { word = ap quality_in (sym at) }
update_true s LiveStale Ahead c m at = record { word = stale_last quality.Stale c.phase c.sender c.last m }
update_true s LiveStale Other c m at = record { word = switch_last quality.Stale c.phase c.last m }
update_true s LiveKept Next c m at = record { word = settled_ok (with_update LiveOk c m) }
update_true One LiveKept Same c m at = record { word = ap quality_in (sym at) }
update_true Two LiveKept Same c m at = record { word = ap quality_in (sym at) }
update_true One LiveKept Old c m at = record { word = ap quality_in (sym at) }
update_true Two LiveKept Old c m at = record { word = ap quality_in (sym at) }
update_true One LiveKept Ahead c m at = record { word = stale_last quality.Ok c.phase c.sender c.last m }
update_true Two LiveKept Ahead c m at = record { word = ap quality_in (sym at) }
update_true s LiveKept Other c m at = record { word = switch_last quality.Ok c.phase c.last m }

handled_true : (es : List (ℕ × List FieldData)) (c : ContextData) → IsTrue c.phase (handled c es)
handled_true [] c = record { word = refl }
handled_true (e ∷ es) c =
    let first : Step = updated c (as_message c.sender e) in
    let one : IsTrue c.phase first = update_true c.strategy c.phase (relation_of c.sender c.last (as_message c.sender e)) c (as_message c.sender e) refl in
    let rest : IsTrue first.context.phase (handled first.context es) = handled_true es first.context in
    record {
      word = word_append (quality_in c.phase) first.calls (handled first.context es).calls
          ∙ ap (λ (q : Quality). last_word q (handled first.context es).calls) one.word ∙ rest.word;
    }

-- ---- a message of a market subscription

kept_true : (c : ContextData) (m : MarketMsg) → c.phase ≡ Await → quality.Stale ≡ quality_in (waiting_for m.sender c).phase
kept_true c m at = elim (c.sender == m.sender) as (λ (b : Bool). quality.Stale ≡ quality_in (if b then c else turned_to m.sender c).phase) [
  | true ↦ ap quality_in (sym at)
  | false ↦ ap quality_in (sym at)
]

healed_true : (r : Reached) (c : ContextData) (m : MarketMsg) → c.phase ≡ LiveStale → IsTrue LiveStale (healed r c m)
healed_true r c m at = elim (nat_le c.last r.number) as (λ (b : Bool). IsTrue LiveStale (if b then reached_last r c m else stopped_short c)) [
  | true ↦ record { word = refl }
  | false ↦ record { word = ap quality_in (sym at) }
]

caught_true : (c : ContextData) (m : MarketMsg) → c.phase ≡ LiveKept → IsTrue LiveKept (caught c m)
caught_true c m at = record { word = (handled_true (put c.cache.updates m.seq m.body) (record c { phase = LiveOk; cache = emptied c.cache })).word }

image_true : (s : Strategy) (p : Phase) (r : Relation) (c : ContextData) (m : MarketMsg) → c.phase ≡ p → IsTrue p (acted (decided s p r false) c m)
image_true One Await r c m at = record { word = (handled_true (cached_above c m) (with_image_of m (turned_to m.sender c))).word }
image_true Two Await r c m at = record { word = settled_ok (with_image_of m (waiting_for m.sender c)) }
image_true s LiveOk Next c m at = record { word = settled_ok (with_image_of m c) }
image_true s LiveOk Same c m at = record { word = settled_ok (with_image_of m c) }
image_true s LiveOk Old c m at = record { word = ap quality_in (sym at) }
image_true s LiveOk Ahead c m at = record { word = settled_ok (with_image_of m c) }
image_true s LiveOk Other c m at = record { word = adopt_last quality.Ok c.phase m }
image_true s LiveStale Next c m at = healed_true (reached c.cache.updates m.seq m.body) c m at
image_true s LiveStale Same c m at = healed_true (reached c.cache.updates m.seq m.body) c m at
image_true s LiveStale Old c m at = healed_true (reached c.cache.updates m.seq m.body) c m at
image_true s LiveStale Ahead c m at = healed_true (reached c.cache.updates m.seq m.body) c m at
image_true s LiveStale Other c m at = record { word = adopt_last quality.Stale c.phase m }
image_true s LiveKept Next c m at = record { word = settled_ok (with_image_of m c) }
image_true s LiveKept Same c m at = record { word = settled_ok (with_image_of m c) }
image_true s LiveKept Old c m at = record { word = ap quality_in (sym at) }
image_true s LiveKept Ahead c m at = record { word = settled_ok (with_image_of m c) }
image_true s LiveKept Other c m at = record { word = adopt_last quality.Ok c.phase m }

message_true : (s : Strategy) (p : Phase) (r : Relation) (c : ContextData) (m : MarketMsg) → c.phase ≡ p → IsTrue p (acted (decided s p r true) c m)
message_true s Await r c m at = record { word = kept_true c m at }
message_true s LiveOk Next c m at = update_true s LiveOk Next c m at
message_true One LiveOk Same c m at = update_true One LiveOk Same c m at
message_true Two LiveOk Same c m at = update_true Two LiveOk Same c m at
message_true One LiveOk Old c m at = update_true One LiveOk Old c m at
message_true Two LiveOk Old c m at = update_true Two LiveOk Old c m at
message_true s LiveOk Ahead c m at = update_true s LiveOk Ahead c m at
message_true s LiveOk Other c m at = update_true s LiveOk Other c m at
message_true s LiveStale Next c m at = update_true s LiveStale Next c m at
message_true One LiveStale Same c m at = update_true One LiveStale Same c m at
message_true Two LiveStale Same c m at = update_true Two LiveStale Same c m at
message_true One LiveStale Old c m at = update_true One LiveStale Old c m at
message_true Two LiveStale Old c m at = update_true Two LiveStale Old c m at
message_true s LiveStale Ahead c m at = update_true s LiveStale Ahead c m at
message_true s LiveStale Other c m at = update_true s LiveStale Other c m at
message_true s LiveKept Next c m at = update_true s LiveKept Next c m at
message_true One LiveKept Same c m at = update_true One LiveKept Same c m at
message_true Two LiveKept Same c m at = update_true Two LiveKept Same c m at
message_true One LiveKept Old c m at = update_true One LiveKept Old c m at
message_true Two LiveKept Old c m at = update_true Two LiveKept Old c m at
message_true One LiveKept Ahead c m at = update_true One LiveKept Ahead c m at
message_true Two LiveKept Ahead c m at = caught_true c m at
message_true s LiveKept Other c m at = update_true s LiveKept Other c m at

market_true : (update : Bool) (c : ContextData) (m : MarketMsg) → IsTrue c.phase (acted (decided c.strategy c.phase (relation_of c.sender c.last m) update) c m)
market_true true c m = message_true c.strategy c.phase (relation_of c.sender c.last m) c m refl
market_true false c m = image_true c.strategy c.phase (relation_of c.sender c.last m) c m refl

snapshot_true : (p : Phase) (update : Bool) (c : ContextData) (m : MarketMsg) → c.phase ≡ p → IsTrue p (snapshot_acted p update c m)
snapshot_true Await false c m at = record { word = refl }
snapshot_true Await true c m at = record { word = ap quality_in (sym at) }
snapshot_true LiveOk update c m at = record { word = ap quality_in (sym at) }
snapshot_true LiveStale update c m at = record { word = ap quality_in (sym at) }
snapshot_true LiveKept update c m at = record { word = ap quality_in (sym at) }

-- ---- what arrives

abbrev HasImages : SubKind → Type 0
HasImages kind = (kind ≡ Market) ⊎ (kind ≡ Snapshot)

step_true : (kind : SubKind) → HasImages kind → (c : ContextData) (m : MarketMsg) → IsTrue c.phase (step_by kind c m)
step_true kind has c m = ⊎_elim
    (λ market. subst (λ (k : SubKind). IsTrue c.phase (step_by k c m)) (sym market) (market_true (is_update m.kind) c m))
    (λ snapshot. subst (λ (k : SubKind). IsTrue c.phase (step_by k c m)) (sym snapshot) (snapshot_true c.phase (is_update m.kind) c m refl))
    has

all_true : (arrivals : List Arrival) (c : ContextData) → HasImages c.kind
    → last_word (quality_in c.phase) (told_from c arrivals) ≡ quality_in (after_all c (messages_read arrivals)).phase
all_true [] c has = refl
all_true (Ok m ∷ arrivals) c has =
    let rest : List Callback = told_from (after c m) arrivals in
    word_append (quality_in c.phase) (callbacks_of c m) rest
    ∙ ap (λ (q : Quality). last_word q rest) (step_true c.kind has c m).word
    ∙ all_true arrivals (after c m) (subst HasImages (sym (after_kind c m)) has)
all_true (Err piece ∷ arrivals) c has = all_true arrivals c has

pub last_words_are_true : LastWordsAreTrue
last_words_are_true strategy kind size arrivals has = all_true arrivals (new_context strategy kind size) has
