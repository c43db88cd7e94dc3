-- What one entry more makes of the image of a subscription: it is as before where the entry does not name it, and never lost.
use Rattle.std.specs.Prelude.{not, ◌&&◌, if◌then◌else◌}
use Rattle.std.specs.List.{flat_map, list_any}
use Rattle.std.specs.Option.{option_or}
use Rattle.std.proofs.Common.{◌≡◌, ℕ, ◌+◌, Bool, true, false, List, [], ◌∷◌, ◌++◌, length, Option, None, Some, refl, sym, ◌∙◌, ap, append-nil, append_assoc}
use Rattle.std.proofs.lemmas.Bool.{or_parts, both_ways}
use Rattle.std.proofs.lemmas.List.Concat.{flat_map-append}
use Rattle.mama_journal.specs.Journal.{first_said}
use Rattle.mama_journal.specs.EntryLaws.{all_puts-push, first_said-append}
use Rattle.mama_msg.specs.Field.{FieldData}
use Rattle.mama_event.specs.declared.ids.SubId.{SubId}
use Rattle.mama_event.specs.declared.ids.ObjectId.{ObjectId}
use Rattle.mama_event.specs.declared.ids.ObjectId.TheVariants.{Sub, Timer, Inbox}
use Rattle.mama_event.specs.declared.market.ImageHead.{ImageHead}
use Rattle.mama_event.specs.declared.market.MarketMsg.{MarketMsg}
use Rattle.mama_event.specs.declared.market.SubKind.{SubKind}
use Rattle.mama_event.specs.declared.market.SubKind.TheVariants.{Market, Snapshot, Basic}
use Rattle.mama_event.specs.declared.shape.Strategy.TheVariants.{One}
use Rattle.mama_event.specs.declared.callback.Callback.{Callback}
use Rattle.mama_event.specs.declared.callback.Callback.TheVariants as on
use Rattle.mama_event.specs.declared.order.Order.{Order}
use Rattle.mama_event.specs.declared.to_queue.Make.{Make}
use Rattle.mama_event.specs.declared.to_queue.Make.TheVariants as make
use Rattle.mama_event.specs.declared.to_queue.QueueNote.{QueueNote}
use Rattle.mama_event.specs.declared.to_queue.QueueNote.TheVariants as q
use Rattle.mama_event.specs.Object.{same_sub, same_object}
use Rattle.mama_event.specs.Arrival.{code_of}
use Rattle.mama_dq.specs.declared.table.Phase.{Phase}
use Rattle.mama_dq.specs.declared.table.Phase.TheVariants.{Await, LiveOk, LiveStale, LiveKept}
use Rattle.mama_dq.specs.declared.table.Action.{Action}
use Rattle.mama_dq.specs.declared.table.Action.TheVariants.{Keep, Start, Apply, ApplyKeep, KeepOnly, Ignore, Gap, Switch, Replace, Heal, Adopt, StartKeep, Catch, Late, KeepLate}
use Rattle.mama_dq.specs.Table.{is_update, relation_of, decided}
use Rattle.mama_dq.specs.Cache.{Reached, above, reached, emptied, put}
use Rattle.mama_dq.specs.Context.{ContextData, new_context, quality_in}
use Rattle.mama_dq.specs.Strategy.{ok_with, turned_to, waiting_for, with_image_of, as_message, update_acted, updated, handled, cached_above, healed, reached_last, stopped_short, acted, action_of, snapshot_acted, step_by, after, after_all, callbacks_of}
use Rattle.mama_dq.specs.Strategy as dq
use Rattle.mama_dq.proofs.SameKind.{after_all_kind}
use Rattle.mama_rules_queue.specs.Queue.{Deed, called, messages_in, messages_of, calls_of, is_muted, is_destroy, made, make_in, context_of, served, deeds, deeds_at}
use Rattle.mama_rules_queue.specs.Queue as rules
use Rattle.mama_dispatch.specs.Journals.{context_after, image_in}
use Rattle.mama_shown.specs.Images.{named_in, is_sub, names}

-- ---- a context keeps its image

abbrev is_live : Phase → Bool
is_live Await = false
is_live LiveOk = true
is_live LiveStale = true
is_live LiveKept = true

ok_live : (updates : List (ℕ × List FieldData)) → is_live (ok_with updates) ≡ true
ok_live [] = refl
ok_live (e ∷ es) = refl

update_live : (a : Action) (c : ContextData) (m : MarketMsg) → is_live c.phase ≡ true → is_live (update_acted a c m).context.phase ≡ true
update_live Apply c m live = ok_live (above m.seq c.cache.updates)
update_live ApplyKeep c m live = refl
update_live KeepOnly c m live = live
update_live Gap c m live = refl
update_live Switch c m live = refl
update_live Late c m live = live
update_live KeepLate c m live = live
update_live Ignore c m live = live
update_live Keep c m live = live
update_live Start c m live = live
update_live StartKeep c m live = live
update_live Catch c m live = live
update_live Replace c m live = live
update_live Heal c m live = live
update_live Adopt c m live = live

handled_live : (es : List (ℕ × List FieldData)) (c : ContextData) → is_live c.phase ≡ true → is_live (handled c es).context.phase ≡ true
handled_live [] c live = live
handled_live (e ∷ es) c live =
    let m : MarketMsg = as_message c.sender e in
    handled_live es (updated c m).context (update_live (decided c.strategy c.phase (relation_of c.sender c.last m) true) c m live)

waiting_live : (sender : ℕ) (c : ContextData) (own : Bool) → is_live c.phase ≡ true → is_live (if own then c else turned_to sender c).phase ≡ true
waiting_live sender c true live = live
waiting_live sender c false live = live

healed_live : (r : Reached) (c : ContextData) (m : MarketMsg) (far : Bool) → is_live c.phase ≡ true → is_live (if far then reached_last r c m else stopped_short c).context.phase ≡ true
healed_live r c m true live = refl
healed_live r c m false live = live

acted_live : (a : Action) (c : ContextData) (m : MarketMsg) → is_live c.phase ≡ true → is_live (acted a c m).context.phase ≡ true
acted_live Keep c m live = waiting_live m.sender c _ live
acted_live Start c m live = handled_live (cached_above c m) (with_image_of m (turned_to m.sender c)) refl
acted_live StartKeep c m live = ok_live _
acted_live Replace c m live = ok_live _
acted_live Heal c m live = healed_live (reached c.cache.updates m.seq m.body) c m _ live
acted_live Adopt c m live = refl
acted_live Apply c m live = update_live Apply c m live
acted_live ApplyKeep c m live = refl
acted_live KeepOnly c m live = live
acted_live Ignore c m live = live
acted_live Gap c m live = refl
acted_live Switch c m live = refl
acted_live Catch c m live = handled_live (put c.cache.updates m.seq m.body) (record c { phase = LiveOk; cache = emptied c.cache }) refl
acted_live Late c m live = live
acted_live KeepLate c m live = live

snapshot_live : (p : Phase) (update : Bool) (c : ContextData) (m : MarketMsg) → is_live c.phase ≡ true → is_live (snapshot_acted p update c m).context.phase ≡ true
snapshot_live Await false c m live = refl
snapshot_live Await true c m live = live
snapshot_live LiveOk update c m live = live
snapshot_live LiveStale update c m live = live
snapshot_live LiveKept update c m live = live

step_live : (kind : SubKind) (c : ContextData) (m : MarketMsg) → is_live c.phase ≡ true → is_live (step_by kind c m).context.phase ≡ true
step_live Market c m live = acted_live (action_of c m) c m live
step_live Snapshot c m live = snapshot_live c.phase (is_update m.kind) c m live
step_live Basic c m live = live

all_live : (ms : List MarketMsg) (c : ContextData) → is_live c.phase ≡ true → is_live (after_all c ms).phase ≡ true
all_live [] c live = live
all_live (m ∷ ms) c live = all_live ms (after c m) (step_live c.kind c m live)

-- ---- a context has an image where it is live

waits_none : (c : ContextData) → c.phase ≡ Await → image_in c ≡ None
waits_none c is = ap (λ (p : Phase). image_in (record c { phase = p })) is

none_waits : (c : ContextData) → image_in c ≡ None → is_live c.phase ≡ false
none_waits c none = by_phase c.phase refl
  where
    by_phase : (p : Phase) → c.phase ≡ p → is_live p ≡ false
    by_phase Await is = refl
    by_phase LiveOk is = let some = sym none ∙ ap (λ (p : Phase). image_in (record c { phase = p })) is in absurd (cc some)
    by_phase LiveStale is = let some = sym none ∙ ap (λ (p : Phase). image_in (record c { phase = p })) is in absurd (cc some)
    by_phase LiveKept is = let some = sym none ∙ ap (λ (p : Phase). image_in (record c { phase = p })) is in absurd (cc some)

lives_or_waits : (c : ContextData) (live : Bool) → is_live c.phase ≡ live → live ≡ false → image_in c ≡ None
lives_or_waits c live is none = by_phase c.phase refl
  where
    by_phase : (p : Phase) → c.phase ≡ p → image_in c ≡ None
    by_phase Await at = waits_none c at
    by_phase LiveOk at = absurd (both_ways live none (sym is ∙ ap is_live at))
    by_phase LiveStale at = absurd (both_ways live none (sym is ∙ ap is_live at))
    by_phase LiveKept at = absurd (both_ways live none (sym is ∙ ap is_live at))

-- no image now means none before
kept_back : (c : ContextData) (ms : List MarketMsg) → image_in (after_all c ms) ≡ None → image_in c ≡ None
kept_back c ms none = lives_or_waits c (is_live c.phase) refl (by_live (is_live c.phase) refl)
  where
    by_live : (live : Bool) → is_live c.phase ≡ live → live ≡ false
    by_live false is = refl
    by_live true is = absurd (both_ways (is_live (after_all c ms).phase) (none_waits (after_all c ms) none) (all_live ms c is))

-- ---- the messages of an entry

all_more : (c : ContextData) (ms xs : List MarketMsg) → after_all c (ms ++ xs) ≡ after_all (after_all c ms) xs
all_more c [] xs = refl
all_more c (m ∷ ms) xs = all_more (after c m) ms xs

context_more : (k : Option Make) (ms xs : List MarketMsg) → context_of k (ms ++ xs) ≡ after_all (context_of k ms) xs
context_more (Some (make.Sub kind cache strategy)) ms xs = all_more (new_context strategy kind cache) ms xs
context_more (Some make.Timer) ms xs = all_more (new_context One Basic 0) ms xs
context_more (Some make.Inbox) ms xs = all_more (new_context One Basic 0) ms xs
context_more None ms xs = all_more (new_context One Basic 0) ms xs

-- a subscription that was never made has no image
unmade_none : (ms : List MarketMsg) → image_in (context_of None ms) ≡ None
unmade_none ms = waits_none (context_of None ms) (basic_waits ms (new_context One Basic 0) refl refl)
  where
    basic_waits : (xs : List MarketMsg) (c : ContextData) → c.kind ≡ Basic → c.phase ≡ Await → (after_all c xs).phase ≡ Await
    basic_waits [] c kind waits = waits
    basic_waits (m ∷ xs) c kind waits =
        let same : after c m ≡ c = ap (λ (k : SubKind). (step_by k c m).context) kind in
        basic_waits xs (after c m) (ap (λ (d : ContextData). d.kind) same ∙ kind) (ap (λ (d : ContextData). d.phase) same ∙ waits)

said_before : {A : Type 0} (first second : Option A) (x : A) → first ≡ Some x → option_or first second ≡ Some x
said_before (Some y) second x is = is
said_before None second x is = absurd (cc is)

said_alone : {A : Type 0} (first : Option A) → option_or first None ≡ first
said_alone None = refl
said_alone (Some x) = refl

module _ (orders : ObjectId → ℕ → List Order) (s : SubId) where
  none_made : (o : ObjectId) (sofar : List Deed) (calls : List Callback) → messages_of s (made orders o sofar calls) ≡ []
  none_made o sofar [] = refl
  none_made o sofar (c ∷ cs) =
      let deed : Deed = called o c (orders o (length (calls_of o sofar) + 1)) in
      elim (is_muted o sofar && not (is_destroy c)) as (λ b. messages_of s (if b then made orders o sofar cs else (deed ∷ made orders o (sofar ++ deed ∷ []) cs)) ≡ []) [
        | true ↦ none_made o sofar cs
        | false ↦ none_made o (sofar ++ deed ∷ []) cs
      ]

  other_messages : (before : List (ℕ × QueueNote)) (sofar : List Deed) (note : QueueNote) → is_sub s (named_in note) ≡ false → messages_of s (served orders before sofar note) ≡ []
  other_messages before sofar (q.Create slot object make tag) other = none_made object sofar (on.Create ∷ [])
  other_messages before sofar (q.Deliver slot sub msg) other =
      let calls : List Callback = callbacks_of (context_of (first_said (λ (e : ℕ × QueueNote). make_in (Sub sub) e.1) before) (messages_of sub sofar)) msg in
      elim (is_muted (Sub sub) sofar) as (λ b. messages_of s (if b then [] else (rules.handled sub msg ∷ made orders (Sub sub) (sofar ++ rules.handled sub msg ∷ []) calls)) ≡ []) [
        | true ↦ refl
        | false ↦ ap (λ (b : Bool). (if b then msg ∷ [] else []) ++ messages_of s (made orders (Sub sub) (sofar ++ rules.handled sub msg ∷ []) calls)) other
            ∙ none_made (Sub sub) (sofar ++ rules.handled sub msg ∷ []) calls
      ]
  other_messages before sofar (q.Reply slot inbox body) other = none_made (Inbox inbox) sofar (on.Reply body ∷ [])
  other_messages before sofar (q.Bad slot sub kind sender seq bytes) other = none_made (Sub sub) sofar (on.Error (code_of bytes) ∷ [])
  other_messages before sofar (q.BadReply slot inbox bytes) other = none_made (Inbox inbox) sofar (on.Error (code_of bytes) ∷ [])
  other_messages before sofar (q.Tick slot timer moment) other = none_made (Timer timer) sofar (on.Tick moment ∷ [])
  other_messages before sofar (q.Gone slot object) other = none_made object sofar (on.Destroy ∷ [])
  other_messages before sofar q.Fin other = refl

  other_make : (note : QueueNote) → is_sub s (named_in note) ≡ false → make_in (Sub s) note ≡ None
  other_make (q.Create slot (Sub x) make tag) other = ap (λ (b : Bool). if b then Some make else None) other
  other_make (q.Create slot (Timer x) make tag) other = refl
  other_make (q.Create slot (Inbox x) make tag) other = refl
  other_make (q.Deliver slot sub msg) other = refl
  other_make (q.Reply slot inbox body) other = refl
  other_make (q.Bad slot sub kind sender seq bytes) other = refl
  other_make (q.BadReply slot inbox bytes) other = refl
  other_make (q.Tick slot timer moment) other = refl
  other_make (q.Gone slot object) other = refl
  other_make q.Fin other = refl

  abbrev said : List (ℕ × QueueNote) → Option Make
  said journal = first_said (λ (e : ℕ × QueueNote). make_in (Sub s) e.1) journal

  abbrev messages : List (ℕ × QueueNote) → List MarketMsg
  messages journal = messages_of s (deeds orders journal)

  abbrev new_messages : List (ℕ × QueueNote) → ℕ × QueueNote → List MarketMsg
  new_messages journal e = messages_of s (deeds_at orders journal e)

  messages_next : (journal : List (ℕ × QueueNote)) (e : ℕ × QueueNote) → messages (journal ++ e ∷ []) ≡ messages journal ++ new_messages journal e
  messages_next journal e =
      ap (messages_of s) (all_puts-push (λ before sofar f. served orders before sofar f.1) journal e)
      ∙ flat_map-append (messages_in s) (deeds orders journal) (deeds_at orders journal e)

  said_next : (journal : List (ℕ × QueueNote)) (e : ℕ × QueueNote) → said (journal ++ e ∷ []) ≡ option_or (said journal) (make_in (Sub s) e.1)
  said_next journal e =
      first_said-append (λ (f : ℕ × QueueNote). make_in (Sub s) f.1) journal (e ∷ [])
      ∙ ap (λ (k : Option Make). option_or (said journal) k) (said_alone (make_in (Sub s) e.1))

  context_next : (journal : List (ℕ × QueueNote)) (e : ℕ × QueueNote)
      → context_after orders (journal ++ e ∷ []) s ≡ after_all (context_of (option_or (said journal) (make_in (Sub s) e.1)) (messages journal)) (new_messages journal e)
  context_next journal e =
      ap (λ (k : Option Make). context_of k (messages (journal ++ e ∷ []))) (said_next journal e)
      ∙ ap (context_of (option_or (said journal) (make_in (Sub s) e.1))) (messages_next journal e)
      ∙ context_more (option_or (said journal) (make_in (Sub s) e.1)) (messages journal) (new_messages journal e)

  -- an entry that does not name the subscription leaves its image
  same_next : (journal : List (ℕ × QueueNote)) (e : ℕ × QueueNote) → names s e ≡ false → image_in (context_after orders (journal ++ e ∷ []) s) ≡ image_in (context_after orders journal s)
  same_next journal e other =
      ap image_in
      (context_next journal e
      ∙ ap (λ (k : Option Make). after_all (context_of (option_or (said journal) k) (messages journal)) (new_messages journal e)) (other_make e.1 other)
      ∙ ap (λ (k : Option Make). after_all (context_of k (messages journal)) (new_messages journal e)) (said_alone (said journal))
      ∙ ap (after_all (context_of (said journal) (messages journal))) (other_messages journal (deeds orders journal) e.1 other))

  -- an entry never takes an image away
  none_next : (journal : List (ℕ × QueueNote)) (e : ℕ × QueueNote) → image_in (context_after orders (journal ++ e ∷ []) s) ≡ None → image_in (context_after orders journal s) ≡ None
  none_next journal e none = by_make (said journal) refl
    where
      by_make : (k : Option Make) → said journal ≡ k → image_in (context_after orders journal s) ≡ None
      by_make None is = ap (λ (k : Option Make). image_in (context_of k (messages journal))) is ∙ unmade_none (messages journal)
      by_make (Some m) is =
          ap (λ (k : Option Make). image_in (context_of k (messages journal))) is
          ∙ kept_back (context_of (Some m) (messages journal)) (new_messages journal e)
          (sym (ap image_in
          (context_next journal e
          ∙ ap (λ (k : Option Make). after_all (context_of k (messages journal)) (new_messages journal e)) (said_before (said journal) (make_in (Sub s) e.1) m is)))
          ∙ none)

  -- so do some entries
  pub same_after : (more journal : List (ℕ × QueueNote)) → list_any (names s) more ≡ false → image_in (context_after orders (journal ++ more) s) ≡ image_in (context_after orders journal s)
  same_after [] journal other = ap (λ (es : List (ℕ × QueueNote)). image_in (context_after orders es s)) (append-nil journal)
  same_after (e ∷ more) journal other =
      let parts = or_parts (names s e) (list_any (names s) more) other in
      ap (λ (es : List (ℕ × QueueNote)). image_in (context_after orders es s)) (sym (append_assoc journal (e ∷ []) more))
      ∙ same_after more (journal ++ e ∷ []) parts.1 ∙ same_next journal e parts.0

  pub none_after : (more journal : List (ℕ × QueueNote)) → image_in (context_after orders (journal ++ more) s) ≡ None → image_in (context_after orders journal s) ≡ None
  none_after [] journal none = sym (ap (λ (es : List (ℕ × QueueNote)). image_in (context_after orders es s)) (append-nil journal)) ∙ none
  none_after (e ∷ more) journal none =
      none_next journal e
      (none_after more (journal ++ e ∷ [])
      (ap (λ (es : List (ℕ × QueueNote)). image_in (context_after orders es s)) (append_assoc journal (e ∷ []) more) ∙ none))
