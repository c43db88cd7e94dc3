-- What a queue's callbacks tell is true of the messages that the subscription handled.
use Rattle.std.specs.Prelude.{◌&&◌, not, if◌then◌else◌, ◌⊎◌, Option, Some, None}
use Rattle.std.specs.List.{AllByRecursion, Contains}
use Rattle.std.specs.Option.{option_or}
use Rattle.std.proofs.Common.{◌≡◌, ℕ, ◌+◌, Bool, true, false, List, [], ◌∷◌, ◌++◌, length, refl, sym, ◌∙◌, ap, subst, inl, inr, ⊎_elim, append_assoc}
use Rattle.std.proofs.lemmas.Bool.{both_ways}
use Rattle.std.proofs.lemmas.List.Concat.{flat_map-append}
use Rattle.std.proofs.lemmas.List.Elements.{recursion_from_All, All-from_recursion, All-contains, All-contains_itself}
use Rattle.mama_journal.specs.Journal.{puts_so_far, first_said}
use Rattle.mama_event.specs.Arrival.{code_of}
use Rattle.mama_event.specs.Object.{same_sub, same_object}
use Rattle.mama_event.specs.EqualityLaws.{same_sub-Decides}
use Rattle.mama_event.specs.declared.ids.SubId.{SubId}
use Rattle.mama_event.specs.declared.ids.ObjectId.{ObjectId}
use Rattle.mama_event.specs.declared.ids.ObjectId.TheVariants.{Sub, Timer, Inbox}
use Rattle.mama_event.specs.declared.market.MarketMsg.{MarketMsg}
use Rattle.mama_event.specs.declared.market.SubKind.{SubKind}
use Rattle.mama_event.specs.declared.market.SubKind.TheVariants.{Basic}
use Rattle.mama_event.specs.declared.callback.Callback.{Callback}
use Rattle.mama_event.specs.declared.callback.Callback.TheVariants as on
use Rattle.mama_event.specs.declared.market.Quality.TheVariants as quality
use Rattle.mama_event.specs.declared.order.Order.{Order}
use Rattle.mama_event.specs.declared.to_queue.Make.{Make}
use Rattle.mama_event.specs.declared.to_queue.Make.TheVariants as make
use Rattle.mama_event.specs.declared.to_queue.QueueNote.{QueueNote}
use Rattle.mama_event.specs.declared.to_queue.QueueNote.TheVariants as q
use Rattle.mama_event.specs.declared.shape.Strategy.TheVariants.{One}
use Rattle.mama_dq.specs.Context.{ContextData, new_context}
use Rattle.mama_dq.specs.Gap.{IsTrueGap, TellsTrueGap, stretch_of}
use Rattle.mama_dq.specs.Strategy.{step_by, callbacks_of, fold}
use Rattle.mama_dq.proofs.GapLaw.{gap_law}
use Rattle.mama_dq.proofs.StaleLaw.{stale_law}
use Rattle.mama_dq.proofs.SameKind.{after_all_kind}
use Rattle.mama_rules_queue.specs.Queue.{Deed, handled, called, calls_in, calls_of, messages_in, messages_of, is_muted, is_destroy, made, make_in, context_of, served, deeds}
use Rattle.mama_laws_genuine.specs.Told.{IsMadeBy, TellsOf, strategy_of, kind_of, size_of}
use Rattle.mama_laws_genuine.proofs.Elements.{all_append, all_if, all_flat_map, all_weaker, all_both, all_any}

-- what is said first among the first entries is nothing, or what is said first among all
pub said_first : {E A : Type 0} (say : E → Option A) (before es : List E) → (first_said say before ≡ None) ⊎ (first_said say before ≡ first_said say (before ++ es))
said_first say [] es = inl refl
said_first say (e ∷ before) es =
    elim (say e) as (λ o. (option_or o (first_said say before) ≡ None) ⊎ (option_or o (first_said say before) ≡ option_or o (first_said say (before ++ es)))) [
      | None ↦ said_first say before es
      | Some a ↦ inr refl
    ]

-- where the note tells that bytes for the subscription were broken, that is so
abbrev pub Breaks : SubId → Type 0 → QueueNote → Type 0
Breaks s Broken (q.Create slot object make tag) = Unit {0}
Breaks s Broken (q.Deliver slot sub msg) = Unit {0}
Breaks s Broken (q.Reply slot inbox body) = Unit {0}
Breaks s Broken (q.Bad slot sub kind sender seq bytes) = same_sub sub s ≡ true → Broken
Breaks s Broken (q.BadReply slot inbox bytes) = Unit {0}
Breaks s Broken (q.Tick slot timer moment) = Unit {0}
Breaks s Broken (q.Gone slot object) = Unit {0}
Breaks s Broken q.Fin = Unit {0}

-- and an error is made by a message, or is told of such bytes
abbrev pub TellsOr : Type 0 → Option Make → List MarketMsg → Callback → Type 0
TellsOr Broken how messages (on.Gap first to) = TellsOf (strategy_of how) (kind_of how) (size_of how) messages (on.Gap first to)
TellsOr Broken how messages (on.Quality q n) = TellsOf (strategy_of how) (kind_of how) (size_of how) messages (on.Quality q n)
TellsOr Broken how messages (on.RecapRequest sender) = TellsOf (strategy_of how) (kind_of how) (size_of how) messages (on.RecapRequest sender)
TellsOr Broken how messages on.Create = Unit {0}
TellsOr Broken how messages (on.Msg m q) = Unit {0}
TellsOr Broken how messages (on.Late a n) = TellsOf (strategy_of how) (kind_of how) (size_of how) messages (on.Late a n)
TellsOr Broken how messages (on.Error e) = IsMadeBy (strategy_of how) (kind_of how) (size_of how) messages (on.Error e) ⊎ Broken
TellsOr Broken how messages on.Destroy = Unit {0}
TellsOr Broken how messages (on.Tick t) = Unit {0}
TellsOr Broken how messages (on.Reply b) = Unit {0}

module _ (orders : ObjectId → ℕ → List Order) (s : SubId) (how : Option Make) (Broken : Type 0) where
  abbrev Tells : List MarketMsg → Callback → Type 0
  Tells messages call = TellsOr Broken how messages call

  -- a message of a basic subscription tells nothing but itself
  basic_calls : (messages : List MarketMsg) (c : ContextData) (m : MarketMsg) → c.kind ≡ Basic → AllByRecursion (Tells messages) (callbacks_of c m)
  basic_calls messages c m basic = subst (λ (k : SubKind). AllByRecursion (Tells messages) (step_by k c m).calls) (sym basic) (tt, tt)

  abbrev DeedTells : List MarketMsg → Deed → Type 0
  DeedTells messages (handled sub msg) = Unit {0}
  DeedTells messages (called object call given) = same_object object (Sub s) ≡ true → Tells messages call

  -- each gap that a message tells is true, and it calls the image stale for a reason
  gaps_true : (messages : List MarketMsg) (first to : ℕ) (other : IsMadeBy (strategy_of how) (kind_of how) (size_of how) messages (on.Gap first to))
      → IsTrueGap (stretch_of (strategy_of how) (kind_of how) (size_of how) other.before other.message) other.message.sender first to
  gaps_true messages first to other =
      let True : Callback → Type 0 = TellsTrueGap (stretch_of (strategy_of how) (kind_of how) (size_of how) other.before other.message) other.message.sender in
      let calls : List Callback = callbacks_of (fold (strategy_of how) (kind_of how) (size_of how) other.before) other.message in
      All-contains True calls (on.Gap first to) (All-from_recursion True calls (gap_law (strategy_of how) (kind_of how) (size_of how) other.before other.message)) other.made

  -- what was told stays true while more messages are handled
  abbrev later_made : (messages more : List MarketMsg) (call : Callback) → IsMadeBy (strategy_of how) (kind_of how) (size_of how) messages call
      → IsMadeBy (strategy_of how) (kind_of how) (size_of how) (messages ++ more) call
  later_made messages more call by = record {
    before = by.before;
    message = by.message;
    later = by.later ++ more;
    cut = ap (λ (m : List MarketMsg). m ++ more) by.cut ∙ append_assoc by.before (by.message ∷ by.later) more;
    made = by.made;
  }

  later_tells : (messages more : List MarketMsg) (call : Callback) → Tells messages call → Tells (messages ++ more) call
  later_tells messages more (on.Gap first to) told = record { by = later_made messages more (on.Gap first to) told.by; gap = told.gap; each = gaps_true (messages ++ more) first to }
  later_tells messages more (on.Quality quality.Ok n) told = later_made messages more (on.Quality quality.Ok n) told
  later_tells messages more (on.Quality quality.Stale n) told = record {
    by = later_made messages more (on.Quality quality.Stale n) told.by;
    reason = told.reason;
    each = λ other. stale_law (strategy_of how) (kind_of how) (size_of how) other.before other.message;
  }
  later_tells messages more (on.RecapRequest sender) told = later_made messages more (on.RecapRequest sender) told
  later_tells messages more on.Create told = tt
  later_tells messages more (on.Msg m q) told = tt
  later_tells messages more (on.Late a n) told = later_made messages more (on.Late a n) told
  later_tells messages more (on.Error e) told = ⊎_elim (λ by. inl (later_made messages more (on.Error e) by)) (λ broken. inr broken) told
  later_tells messages more on.Destroy told = tt
  later_tells messages more (on.Tick t) told = tt
  later_tells messages more (on.Reply b) told = tt

  later_deed : (messages more : List MarketMsg) (d : Deed) → DeedTells messages d → DeedTells (messages ++ more) d
  later_deed messages more (handled sub msg) told = tt
  later_deed messages more (called object call given) told = λ same. later_tells messages more call (told same)

  all_made : (messages : List MarketMsg) (o : ObjectId) (sofar : List Deed) (calls : List Callback)
      → (same_object o (Sub s) ≡ true → AllByRecursion (Tells messages) calls) → AllByRecursion (DeedTells messages) (made orders o sofar calls)
  all_made messages o sofar [] each = tt
  all_made messages o sofar (c ∷ cs) each =
      let deed : Deed = called o c (orders o (length (calls_of o sofar) + 1)) in
      all_if (DeedTells messages) (is_muted o sofar && not (is_destroy c)) (made orders o sofar cs) (deed ∷ made orders o (sofar ++ deed ∷ []) cs)
      (all_made messages o sofar cs (λ same. (each same).1))
      (λ same. (each same).0, all_made messages o (sofar ++ deed ∷ []) cs (λ same. (each same).1))

  -- what a message tells is true of the messages before it and itself
  module _ (before : List MarketMsg) (m : MarketMsg) (later messages : List MarketMsg) (cut : messages ≡ before ++ m ∷ later) where
    abbrev own_calls : List Callback
    own_calls = callbacks_of (fold (strategy_of how) (kind_of how) (size_of how) before) m

    abbrev by_it : (call : Callback) → Contains own_calls call → IsMadeBy (strategy_of how) (kind_of how) (size_of how) messages call
    by_it call made = record { before = before; message = m; later = later; cut = cut; made = made }

    true_call : (call : Callback) → TellsTrueGap (stretch_of (strategy_of how) (kind_of how) (size_of how) before m) m.sender call × Contains own_calls call → Tells messages call
    true_call (on.Gap first to) (gap, made) = record { by = by_it (on.Gap first to) made; gap = gap; each = gaps_true messages first to }
    true_call (on.Quality quality.Ok n) (gap, made) = by_it (on.Quality quality.Ok n) made
    true_call (on.Quality quality.Stale n) (gap, made) = record {
      by = by_it (on.Quality quality.Stale n) made;
      reason = stale_law (strategy_of how) (kind_of how) (size_of how) before m;
      each = λ other. stale_law (strategy_of how) (kind_of how) (size_of how) other.before other.message;
    }
    true_call (on.RecapRequest sender) (gap, made) = by_it (on.RecapRequest sender) made
    true_call on.Create both = tt
    true_call (on.Msg given q) both = tt
    true_call (on.Late a n) (gap, made) = by_it (on.Late a n) made
    true_call (on.Error e) (gap, made) = inl (by_it (on.Error e) made)
    true_call on.Destroy both = tt
    true_call (on.Tick t) both = tt
    true_call (on.Reply b) both = tt

    own_true : AllByRecursion (Tells messages) own_calls
    own_true =
        let True : Callback → Type 0 = TellsTrueGap (stretch_of (strategy_of how) (kind_of how) (size_of how) before m) m.sender in
        all_weaker (λ (call : Callback). True call × Contains own_calls call) (Tells messages) true_call own_calls
        (all_both True (Contains own_calls) own_calls (gap_law (strategy_of how) (kind_of how) (size_of how) before m) (recursion_from_All (Contains own_calls) own_calls (All-contains_itself own_calls)))

  context_is : (o : Option Make) (messages : List MarketMsg) → context_of o messages ≡ fold (strategy_of o) (kind_of o) (size_of o) messages
  context_is (Some (make.Sub kind cache strategy)) messages = refl
  context_is (Some make.Timer) messages = refl
  context_is (Some make.Inbox) messages = refl
  context_is None messages = refl

  message_tells : (so_far : Option Make) → (so_far ≡ None) ⊎ (so_far ≡ how) → (before : List MarketMsg) (m : MarketMsg) (later messages : List MarketMsg)
      → messages ≡ before ++ m ∷ later → AllByRecursion (Tells messages) (callbacks_of (context_of so_far before) m)
  message_tells so_far (inl none) before m later messages cut =
      subst (λ (o : Option Make). AllByRecursion (Tells messages) (callbacks_of (context_of o before) m)) (sym none)
      (basic_calls messages (fold One Basic 0 before) m (after_all_kind before (new_context One Basic 0)))
  message_tells so_far (inr same) before m later messages cut =
      subst (λ (c : ContextData). AllByRecursion (Tells messages) (callbacks_of c m)) (sym (ap (λ (o : Option Make). context_of o before) same ∙ context_is how before))
      (own_true before m later messages cut)

  abbrev said : List (ℕ × QueueNote) → SubId → Option Make
  said journal sub = first_said (λ (e : ℕ × QueueNote). make_in (Sub sub) e.1) journal

  -- a message that a subscription handles
  module _ (before : List (ℕ × QueueNote)) (sofar : List Deed) (known : (said before s ≡ None) ⊎ (said before s ≡ how)) where
    delivered : (sub : SubId) (msg : MarketMsg) (rest : List Deed) → same_sub sub s ≡ true
        → AllByRecursion (Tells (messages_of s (sofar ++ handled sub msg ∷ rest))) (callbacks_of (context_of (said before sub) (messages_of sub sofar)) msg)
    delivered sub msg rest same =
        let is : sub ≡ s = (same_sub-Decides sub s).0 same in
        let cut : messages_of s (sofar ++ handled sub msg ∷ rest) ≡ messages_of s sofar ++ msg ∷ messages_of s rest =
        flat_map-append (messages_in s) sofar (handled sub msg ∷ rest)
        ∙ ap (λ (b : Bool). messages_of s sofar ++ ((if b then msg ∷ [] else []) ++ messages_of s rest)) same in
        subst (λ (r : SubId). AllByRecursion (Tells (messages_of s (sofar ++ handled sub msg ∷ rest))) (callbacks_of (context_of (said before r) (messages_of r sofar)) msg)) (sym is)
        (message_tells (said before s) known (messages_of s sofar) msg (messages_of s rest) (messages_of s (sofar ++ handled sub msg ∷ rest)) cut)

    served_tells : (note : QueueNote) → Breaks s Broken note → AllByRecursion (DeedTells (messages_of s (sofar ++ served orders before sofar note))) (served orders before sofar note)
    served_tells (q.Create slot object make tag) h = all_made (messages_of s (sofar ++ made orders object sofar (on.Create ∷ []))) object sofar (on.Create ∷ []) (λ same. (tt, tt))
    served_tells (q.Deliver slot sub msg) h =
        let calls : List Callback = callbacks_of (context_of (said before sub) (messages_of sub sofar)) msg in
        let rest : List Deed = made orders (Sub sub) (sofar ++ handled sub msg ∷ []) calls in
        elim (is_muted (Sub sub) sofar) as (λ b. AllByRecursion (DeedTells (messages_of s (sofar ++ (if b then [] else handled sub msg ∷ rest)))) (if b then [] else handled sub msg ∷ rest)) [
          | true ↦ tt
          | false ↦ (tt, all_made (messages_of s (sofar ++ handled sub msg ∷ rest)) (Sub sub) (sofar ++ handled sub msg ∷ []) calls (delivered sub msg rest))
        ]
    served_tells (q.Reply slot inbox body) h =
        all_made (messages_of s (sofar ++ made orders (Inbox inbox) sofar (on.Reply body ∷ []))) (Inbox inbox) sofar (on.Reply body ∷ []) (λ same. (tt, tt))
    served_tells (q.Bad slot sub kind sender seq bytes) h =
        all_made (messages_of s (sofar ++ made orders (Sub sub) sofar (on.Error (code_of bytes) ∷ []))) (Sub sub) sofar (on.Error (code_of bytes) ∷ []) (λ same. (inr (h same), tt))
    served_tells (q.BadReply slot inbox bytes) h =
        all_made (messages_of s (sofar ++ made orders (Inbox inbox) sofar (on.Error (code_of bytes) ∷ []))) (Inbox inbox) sofar (on.Error (code_of bytes) ∷ []) (λ same. absurd (both_ways false refl same))
    served_tells (q.Tick slot timer moment) h =
        all_made (messages_of s (sofar ++ made orders (Timer timer) sofar (on.Tick moment ∷ []))) (Timer timer) sofar (on.Tick moment ∷ []) (λ same. (tt, tt))
    served_tells (q.Gone slot object) h = all_made (messages_of s (sofar ++ made orders object sofar (on.Destroy ∷ []))) object sofar (on.Destroy ∷ []) (λ same. (tt, tt))
    served_tells q.Fin h = tt

    one_more : (note : QueueNote) → Breaks s Broken note → AllByRecursion (DeedTells (messages_of s sofar)) sofar
        → AllByRecursion (DeedTells (messages_of s (sofar ++ served orders before sofar note))) (sofar ++ served orders before sofar note)
    one_more note h all =
        let new : List Deed = served orders before sofar note in
        all_append (DeedTells (messages_of s (sofar ++ new))) sofar new
        (subst (λ (messages : List MarketMsg). AllByRecursion (DeedTells messages) sofar) (sym (flat_map-append (messages_in s) sofar new))
        (all_weaker (DeedTells (messages_of s sofar)) (DeedTells (messages_of s sofar ++ messages_of s new)) (later_deed (messages_of s sofar) (messages_of s new)) sofar all))
        (served_tells note h)

  all_tell : (before : List (ℕ × QueueNote)) (sofar : List Deed) (es : List (ℕ × QueueNote)) → said (before ++ es) s ≡ how
      → AllByRecursion (λ (e : ℕ × QueueNote). Breaks s Broken e.1) es
      → AllByRecursion (DeedTells (messages_of s sofar)) sofar
      → AllByRecursion (DeedTells (messages_of s (puts_so_far (λ b d (e : ℕ × QueueNote). served orders b d e.1) before sofar es))) (puts_so_far (λ b d (e : ℕ × QueueNote). served orders b d e.1) before sofar es)
  all_tell before sofar [] is breaks all = all
  all_tell before sofar (e ∷ es) is breaks all =
      let known : (said before s ≡ None) ⊎ (said before s ≡ how) =
      ⊎_elim (λ none. inl none) (λ same. inr (same ∙ is)) (said_first (λ (f : ℕ × QueueNote). make_in (Sub s) f.1) before (e ∷ es)) in
      all_tell (before ++ e ∷ []) (sofar ++ served orders before sofar e.1) es
      (ap (λ (journal : List (ℕ × QueueNote)). said journal s) (append_assoc before (e ∷ []) es) ∙ is) breaks.1
      (one_more before sofar known e.1 breaks.0 all)

  call_tells : (messages : List MarketMsg) (d : Deed) → DeedTells messages d → AllByRecursion (λ (c : Callback × List Order). Tells messages c.0) (calls_in (Sub s) d)
  call_tells messages (handled sub msg) told = tt
  call_tells messages (called object call given) told =
      (elim (same_object object (Sub s)) as (λ b. same_object object (Sub s) ≡ b → AllByRecursion (λ (c : Callback × List Order). Tells messages c.0) (if b then (call, given) ∷ [] else [])) [
        | true ↦ λ same. (told same, tt)
        | false ↦ λ other. tt
      ]) refl

-- what the callbacks of a subscription tell, where it is known when bytes for it are broken
module _ (orders : ObjectId → ℕ → List Order) (s : SubId) (journal : List (ℕ × QueueNote)) where
  abbrev made_as : Option Make
  made_as = first_said (λ (e : ℕ × QueueNote). make_in (Sub s) e.1) journal

  pub calls_tell_or : (Broken : Type 0) → AllByRecursion (λ (e : ℕ × QueueNote). Breaks s Broken e.1) journal
      → AllByRecursion (λ (c : Callback × List Order). TellsOr Broken made_as (messages_of s (deeds orders journal)) c.0) (calls_of (Sub s) (deeds orders journal))
  calls_tell_or Broken breaks =
      let messages : List MarketMsg = messages_of s (deeds orders journal) in
      all_flat_map (DeedTells orders s made_as Broken messages) (λ (c : Callback × List Order). TellsOr Broken made_as messages c.0) (calls_in (Sub s)) (call_tells orders s made_as Broken messages)
      (deeds orders journal) (all_tell orders s made_as Broken [] [] journal refl breaks tt)

  any_breaks : (note : QueueNote) → Breaks s (Unit {0}) note
  any_breaks (q.Bad slot sub kind sender seq bytes) = λ same. tt
  any_breaks (q.Create slot object make tag) = tt
  any_breaks (q.Deliver slot sub msg) = tt
  any_breaks (q.Reply slot inbox body) = tt
  any_breaks (q.BadReply slot inbox bytes) = tt
  any_breaks (q.Tick slot timer moment) = tt
  any_breaks (q.Gone slot object) = tt
  any_breaks q.Fin = tt

  tells_of : (messages : List MarketMsg) (call : Callback) → TellsOr (Unit {0}) made_as messages call → TellsOf (strategy_of made_as) (kind_of made_as) (size_of made_as) messages call
  tells_of messages (on.Gap first to) told = told
  tells_of messages (on.Quality q n) told = told
  tells_of messages (on.RecapRequest sender) told = told
  tells_of messages on.Create told = tt
  tells_of messages (on.Msg m q) told = tt
  tells_of messages (on.Late a n) told = told
  tells_of messages (on.Error e) told = tt
  tells_of messages on.Destroy told = tt
  tells_of messages (on.Tick t) told = tt
  tells_of messages (on.Reply b) told = tt

  -- each gap that the callbacks tell
  pub calls_tell : AllByRecursion (λ (c : Callback × List Order). TellsOf (strategy_of made_as) (kind_of made_as) (size_of made_as) (messages_of s (deeds orders journal)) c.0)
      (calls_of (Sub s) (deeds orders journal))
  calls_tell =
      let messages : List MarketMsg = messages_of s (deeds orders journal) in
      all_weaker (λ (c : Callback × List Order). TellsOr (Unit {0}) made_as messages c.0)
      (λ (c : Callback × List Order). TellsOf (strategy_of made_as) (kind_of made_as) (size_of made_as) messages c.0)
      (λ c told. tells_of messages c.0 told) (calls_of (Sub s) (deeds orders journal))
      (calls_tell_or (Unit {0}) (all_any (λ (e : ℕ × QueueNote). Breaks s (Unit {0}) e.1) (λ e. any_breaks e.1) journal))
