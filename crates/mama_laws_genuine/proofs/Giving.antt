-- Which messages a subscription is given that handles messages of one sender in order.
use Rattle.std.specs.Prelude.{◌&&◌, ◌||◌, not, if◌then◌else◌, ◌⊎◌, Option, Some, None}
use Rattle.std.specs.List.{AllByRecursion, flat_map}
use Rattle.std.specs.Option.{option_or}
use Rattle.std.proofs.Common.{◌≡◌, ℕ, ◌+◌, Bool, true, false, List, [], ◌∷◌, ◌++◌, map, length, refl, sym, ◌∙◌, ap, subst, inl, inr, append_assoc, append-nil}
use Rattle.std.proofs.lemmas.List.{append_cancel_left, map-append}
use Rattle.std.proofs.lemmas.List.Concat.{flat_map-append}
use Rattle.mama_journal.specs.Journal.{first_said}
use Rattle.mama_event.specs.Arrival.{code_of}
use Rattle.mama_event.specs.Object.{same_sub, same_object}
use Rattle.mama_event.specs.declared.ids.SubId.{SubId}
use Rattle.mama_event.specs.declared.ids.ObjectId.{ObjectId}
use Rattle.mama_event.specs.declared.ids.ObjectId.TheVariants.{Sub, Timer, Inbox}
use Rattle.mama_event.specs.declared.market.MarketMsg.{MarketMsg}
use Rattle.mama_event.specs.declared.market.SubKind.TheVariants.{Market}
use Rattle.mama_event.specs.declared.callback.Callback.{Callback}
use Rattle.mama_event.specs.declared.callback.Callback.TheVariants as on
use Rattle.mama_event.specs.declared.order.Order.{Order}
use Rattle.mama_event.specs.declared.to_queue.Make.{Make}
use Rattle.mama_event.specs.declared.to_queue.Make.TheVariants as make
use Rattle.mama_event.specs.declared.to_queue.QueueNote.{QueueNote}
use Rattle.mama_event.specs.declared.to_queue.QueueNote.TheVariants as q
use Rattle.mama_event.specs.declared.shape.Strategy.{Strategy}
use Rattle.mama_dq.specs.Table.{is_update}
use Rattle.mama_dq.specs.Context.{new_context}
use Rattle.mama_dq.specs.Strategy.{callbacks_of, fold, calls_after}
use Rattle.mama_dq.specs.Orderly.{AreInOrder, as_ok, from_first_image}
use Rattle.mama_dq.proofs.OrderlyLaw.{orderly_law}
use Rattle.mama_dq.proofs.StrategyLemmas.{calls_after-append}
use Rattle.mama_rules_queue.specs.Queue.{Deed, handled, called, calls_of, messages_in, messages_of, is_muted, is_muted_after, begins_in, stops_in, orders_end_of, is_destroy, made, make_in, context_of, served, deeds}
use Rattle.mama_rules_legal.specs.Streams.{is_of, events_of}
use Rattle.mama_laws_legal.proofs.Lives.{same_sub-is, same_sub-itself}
use Rattle.mama_laws_genuine.specs.GivenAll.{given_in}
use Rattle.mama_laws_genuine.proofs.Handled.{none_made, walk, Part, part}
use Rattle.mama_laws_genuine.proofs.Ordered.{order_first}

-- ---- the messages from the first image on

-- a message more adds itself, or nothing while there is no image
record Added (messages : List MarketMsg) (m : MarketMsg) : Type 0 where
  pub added : List MarketMsg
  pub whole : from_first_image (messages ++ m ∷ []) ≡ from_first_image messages ++ added
  pub few : (added ≡ []) ⊎ (added ≡ m ∷ [])

one_added : (messages : List MarketMsg) (m : MarketMsg) → Added messages m
one_added [] m = by_case (is_update m.kind) refl
  where
    by_case : (b : Bool) → is_update m.kind ≡ b → Added [] m
    by_case true update = record { added = []; whole = ap (λ (b : Bool). if b then [] else m ∷ []) update; few = inl refl }
    by_case false image = record { added = m ∷ []; whole = ap (λ (b : Bool). if b then [] else m ∷ []) image; few = inr refl }
one_added (x ∷ messages) m = by_case (is_update x.kind) refl (one_added messages m)
  where
    by_case : (b : Bool) → is_update x.kind ≡ b → Added messages m → Added (x ∷ messages) m
    by_case true update later = record {
      added = later.added;
      whole = ap (λ (b : Bool). if b then from_first_image (messages ++ m ∷ []) else x ∷ (messages ++ m ∷ [])) update ∙ later.whole
          ∙ ap (λ (b : Bool). (if b then from_first_image messages else x ∷ messages) ++ later.added) (sym update);
      few = later.few;
    }
    by_case false image later = record {
      added = m ∷ [];
      whole = ap (λ (b : Bool). if b then from_first_image (messages ++ m ∷ []) else x ∷ (messages ++ m ∷ [])) image
          ∙ ap (λ (b : Bool). (if b then from_first_image messages else x ∷ messages) ++ m ∷ []) (sym image);
      few = inr refl;
    }

-- and so do more messages
pub record Continued (messages more : List MarketMsg) : Type 0 where
  pub rest : List MarketMsg
  pub whole : from_first_image (messages ++ more) ≡ from_first_image messages ++ rest
  pub none : more ≡ [] → rest ≡ []

pub continued : (messages more : List MarketMsg) → Continued messages more
continued [] more = record { rest = from_first_image more; whole = refl; none = λ nothing. ap from_first_image nothing }
continued (x ∷ messages) more = by_case (is_update x.kind) refl (continued messages more)
  where
    by_case : (b : Bool) → is_update x.kind ≡ b → Continued messages more → Continued (x ∷ messages) more
    by_case true update later = record {
      rest = later.rest;
      whole = ap (λ (b : Bool). if b then from_first_image (messages ++ more) else x ∷ (messages ++ more)) update ∙ later.whole
          ∙ ap (λ (b : Bool). (if b then from_first_image messages else x ∷ messages) ++ later.rest) (sym update);
      none = later.none;
    }
    by_case false image later = record {
      rest = more;
      whole = ap (λ (b : Bool). if b then from_first_image (messages ++ more) else x ∷ (messages ++ more)) image
          ∙ ap (λ (b : Bool). (if b then from_first_image messages else x ∷ messages) ++ more) (sym image);
      none = λ nothing. nothing;
    }

-- ---- the callbacks of a message in order

abbrev told : Strategy → ℕ → List MarketMsg → List Callback
told strategy size messages = flat_map (λ (calls : List Callback). calls) (calls_after (new_context strategy Market size) messages)

told_more : (strategy : Strategy) (size : ℕ) (messages : List MarketMsg) (m : MarketMsg) → told strategy size (messages ++ m ∷ []) ≡ told strategy size messages ++ callbacks_of (fold strategy Market size messages) m
told_more strategy size messages m =
    ap (λ (calls : List (List Callback)). flat_map (λ (c : List Callback). c) calls) (calls_after-append (new_context strategy Market size) messages (m ∷ []))
    ∙ flat_map-append (λ (c : List Callback). c) (calls_after (new_context strategy Market size) messages) (callbacks_of (fold strategy Market size messages) m ∷ [])
    ∙ ap (λ (calls : List Callback). told strategy size messages ++ calls) (append-nil (callbacks_of (fold strategy Market size messages) m))

own_calls : (strategy : Strategy) (size sender n : ℕ) (messages : List MarketMsg) (m : MarketMsg) → AreInOrder sender n (messages ++ m ∷ []) → (is : Added messages m)
    → callbacks_of (fold strategy Market size messages) m ≡ map as_ok is.added
own_calls strategy size sender n messages m order is =
    append_cancel_left (map as_ok (from_first_image messages)) (callbacks_of (fold strategy Market size messages) m) (map as_ok is.added)
    (ap (λ (calls : List Callback). calls ++ callbacks_of (fold strategy Market size messages) m) (sym (orderly_law strategy size sender n messages (order_first sender n messages (m ∷ []) order)).calls)
    ∙ sym (told_more strategy size messages m)
    ∙ (orderly_law strategy size sender n (messages ++ m ∷ []) order).calls
    ∙ ap (λ (ms : List MarketMsg). map as_ok ms) is.whole
    ∙ map-append as_ok (from_first_image messages) is.added)

-- ---- what is given

if_none : {X : Type 0} (b : Bool) (xs : List X) → xs ≡ [] → (if b then xs else []) ≡ []
if_none true xs none = none
if_none false xs none = refl

module _ (orders : ObjectId → ℕ → List Order) (s : SubId) where
  -- the message that a deed gives the subscription
  abbrev pub given_by : Deed → List MarketMsg
  given_by (called object call ordered) = if same_object object (Sub s) then given_in call else []
  given_by (handled sub msg) = []

  abbrev pub all_given : List Deed → List MarketMsg
  all_given ds = flat_map given_by ds

  -- callbacks that give no message
  none_given : (o : ObjectId) (sofar : List Deed) (calls : List Callback) → AllByRecursion (λ (c : Callback). given_in c ≡ []) calls → all_given (made orders o sofar calls) ≡ []
  none_given o sofar [] all = refl
  none_given o sofar (c ∷ cs) all =
      let deed : Deed = called o c (orders o (length (calls_of o sofar) + 1)) in
      elim (is_muted o sofar && not (is_destroy c)) as (λ b. all_given (if b then made orders o sofar cs else (deed ∷ made orders o (sofar ++ deed ∷ []) cs)) ≡ []) [
        | true ↦ none_given o sofar cs all.1
        | false ↦ ap (λ (ms : List MarketMsg). ms ++ all_given (made orders o (sofar ++ deed ∷ []) cs)) (if_none (same_object o (Sub s)) (given_in c) all.0) ∙ none_given o (sofar ++ deed ∷ []) cs all.1
      ]

  -- another object's callbacks
  other_given : (o : ObjectId) → same_object o (Sub s) ≡ false → (sofar : List Deed) (calls : List Callback) → all_given (made orders o sofar calls) ≡ []
  other_given o other sofar [] = refl
  other_given o other sofar (c ∷ cs) =
      let deed : Deed = called o c (orders o (length (calls_of o sofar) + 1)) in
      elim (is_muted o sofar && not (is_destroy c)) as (λ b. all_given (if b then made orders o sofar cs else (deed ∷ made orders o (sofar ++ deed ∷ []) cs)) ≡ []) [
        | true ↦ other_given o other sofar cs
        | false ↦ ap (λ (b : Bool). (if b then given_in c else []) ++ all_given (made orders o (sofar ++ deed ∷ []) cs)) other ∙ other_given o other (sofar ++ deed ∷ []) cs
      ]

  -- one message at most, which no muting keeps back
  few_given : (sofar : List Deed) → is_muted (Sub s) sofar ≡ false → (m : MarketMsg) (added : List MarketMsg) → (added ≡ []) ⊎ (added ≡ m ∷ [])
      → all_given (made orders (Sub s) sofar (map as_ok added)) ≡ added
  few_given sofar live m added (inl none) = subst (λ (ms : List MarketMsg). all_given (made orders (Sub s) sofar (map as_ok ms)) ≡ ms) (sym none) refl
  few_given sofar live m added (inr one) =
      subst (λ (ms : List MarketMsg). all_given (made orders (Sub s) sofar (map as_ok ms)) ≡ ms) (sym one)
      (let deed : Deed = called (Sub s) (as_ok m) (orders (Sub s) (length (calls_of (Sub s) sofar) + 1)) in
      let nothing : List Deed = [] in
      ap (λ (b : Bool). all_given (if b && true then nothing else deed ∷ nothing)) live
      ∙ ap (λ (b : Bool). (if b then m ∷ [] else []) ++ []) (same_sub-itself s))

  -- a message that is handled mutes nothing
  handled_mutes : (o : ObjectId) (sub : SubId) (msg : MarketMsg) (live : Bool) (ds : List Deed) → is_muted_after o live (ds ++ handled sub msg ∷ []) ≡ is_muted_after o live ds
  handled_mutes o sub msg true [] = refl
  handled_mutes o sub msg false [] = refl
  handled_mutes o sub msg live (d ∷ ds) =
      ap (λ (b : Bool). ((live || begins_in o d) && orders_end_of o d) || b) (handled_mutes o sub msg ((live || begins_in o d) && not (stops_in o d)) ds)

  -- ---- the walk over a journal

  module _ (strategy : Strategy) (size sender n : ℕ) where
    abbrev how : Option Make
    how = Some (make.Sub Market size strategy)

    abbrev made_before : List (ℕ × QueueNote) → SubId → Option Make
    made_before before sub = first_said (λ (e : ℕ × QueueNote). make_in (Sub sub) e.1) before

    -- the subscription was given its messages from the first image on
    abbrev IsGiven : List Deed → Type 0
    IsGiven sofar = all_given sofar ≡ from_first_image (messages_of s sofar)

    same_given : (sofar new : List Deed) → messages_of s new ≡ [] → all_given new ≡ [] → IsGiven sofar → IsGiven (sofar ++ new)
    same_given sofar new none silent is =
        flat_map-append given_by sofar new ∙ ap (λ (ms : List MarketMsg). all_given sofar ++ ms) silent ∙ append-nil (all_given sofar) ∙ is
        ∙ ap from_first_image (sym (flat_map-append (messages_in s) sofar new ∙ ap (λ (ms : List MarketMsg). messages_of s sofar ++ ms) none ∙ append-nil (messages_of s sofar)))

    own_given : (sofar : List Deed) (msg : MarketMsg) (calls : List Callback) → is_muted (Sub s) sofar ≡ false
        → (is : Added (messages_of s sofar) msg) → calls ≡ map as_ok is.added → IsGiven sofar → IsGiven (sofar ++ handled s msg ∷ made orders (Sub s) (sofar ++ handled s msg ∷ []) calls)
    own_given sofar msg calls live is own so =
        let after : List Deed = sofar ++ handled s msg ∷ [] in
        let new : List Deed = made orders (Sub s) after calls in
        let grown : messages_of s (sofar ++ handled s msg ∷ new) ≡ messages_of s sofar ++ msg ∷ [] =
        flat_map-append (messages_in s) sofar (handled s msg ∷ new)
        ∙ ap (λ (b : Bool). messages_of s sofar ++ ((if b then msg ∷ [] else []) ++ messages_of s new)) (same_sub-itself s)
        ∙ ap (λ (ms : List MarketMsg). messages_of s sofar ++ msg ∷ ms) (none_made orders s (Sub s) after calls) in
        let added : all_given new ≡ is.added =
        ap (λ (cs : List Callback). all_given (made orders (Sub s) after cs)) own
        ∙ few_given after (handled_mutes (Sub s) s msg false sofar ∙ live) msg is.added is.few in
        flat_map-append given_by sofar (handled s msg ∷ new) ∙ ap (λ (ms : List MarketMsg). all_given sofar ++ ms) added ∙ ap (λ (ms : List MarketMsg). ms ++ is.added) so
        ∙ sym is.whole ∙ ap from_first_image (sym grown)

    module _ (before : List (ℕ × QueueNote)) (sofar : List Deed) (so : IsGiven sofar) where
      abbrev calls_for : SubId → MarketMsg → List Callback
      calls_for sub msg = callbacks_of (context_of (made_before before sub) (messages_of sub sofar)) msg

      abbrev rest_of : SubId → MarketMsg → List Deed
      rest_of sub msg = made orders (Sub sub) (sofar ++ handled sub msg ∷ []) (calls_for sub msg)

      -- what the note must bring about: it is made before, and its messages are in order
      abbrev Ordered : List Deed → Type 0
      Ordered after = AreInOrder sender n (messages_of s after)

      own_message : (msg : MarketMsg) → made_before before s ≡ how → is_muted (Sub s) sofar ≡ false → Ordered (sofar ++ handled s msg ∷ rest_of s msg)
          → IsGiven (sofar ++ handled s msg ∷ rest_of s msg)
      own_message msg created live order =
          let is : Added (messages_of s sofar) msg = one_added (messages_of s sofar) msg in
          let grown : messages_of s (sofar ++ handled s msg ∷ rest_of s msg) ≡ messages_of s sofar ++ msg ∷ [] =
          flat_map-append (messages_in s) sofar (handled s msg ∷ rest_of s msg)
          ∙ ap (λ (b : Bool). messages_of s sofar ++ ((if b then msg ∷ [] else []) ++ messages_of s (rest_of s msg))) (same_sub-itself s)
          ∙ ap (λ (ms : List MarketMsg). messages_of s sofar ++ msg ∷ ms) (none_made orders s (Sub s) (sofar ++ handled s msg ∷ []) (calls_for s msg)) in
          own_given sofar msg (calls_for s msg) live is
          (ap (λ (o : Option Make). callbacks_of (context_of o (messages_of s sofar)) msg) created
          ∙ own_calls strategy size sender n (messages_of s sofar) msg (subst (AreInOrder sender n) grown order) is) so

      other_message : (sub : SubId) (msg : MarketMsg) → same_sub sub s ≡ false → IsGiven (sofar ++ handled sub msg ∷ rest_of sub msg)
      other_message sub msg other =
          same_given sofar (handled sub msg ∷ rest_of sub msg)
          (ap (λ (b : Bool). (if b then msg ∷ [] else []) ++ messages_of s (rest_of sub msg)) other ∙ none_made orders s (Sub sub) (sofar ++ handled sub msg ∷ []) (calls_for sub msg))
          (other_given (Sub sub) other (sofar ++ handled sub msg ∷ []) (calls_for sub msg)) so

      delivered : (sub : SubId) (msg : MarketMsg) (same : Bool) → same_sub sub s ≡ same → (same_sub sub s ≡ true → made_before before s ≡ how)
          → is_muted (Sub sub) sofar ≡ false → Ordered (sofar ++ handled sub msg ∷ rest_of sub msg) → IsGiven (sofar ++ handled sub msg ∷ rest_of sub msg)
      delivered sub msg false other created live order = other_message sub msg other
      delivered sub msg true same created live order =
          let is : sub ≡ s = same_sub-is sub s same in
          subst (λ (r : SubId). IsGiven (sofar ++ handled r msg ∷ rest_of r msg)) (sym is)
          (own_message msg (created same) (subst (λ (r : SubId). is_muted (Sub r) sofar ≡ false) is live)
          (subst (λ (r : SubId). Ordered (sofar ++ handled r msg ∷ rest_of r msg)) is order))

      -- the note is a message of the subscription only after its Create
      abbrev Created : QueueNote → Type 0
      Created (q.Deliver slot sub msg) = same_sub sub s ≡ true → made_before before s ≡ how
      Created _ = Unit {0}

      one_served : (note : QueueNote) → Created note → Ordered (sofar ++ served orders before sofar note) → IsGiven (sofar ++ served orders before sofar note)
      one_served (q.Create slot object make tag) created order =
          same_given sofar (made orders object sofar (on.Create ∷ [])) (none_made orders s object sofar (on.Create ∷ [])) (none_given object sofar (on.Create ∷ []) (refl, tt)) so
      one_served (q.Deliver slot sub msg) created order = by_case (is_muted (Sub sub) sofar) refl order
        where
          by_case : (b : Bool) → is_muted (Sub sub) sofar ≡ b → Ordered (sofar ++ (if b then [] else handled sub msg ∷ rest_of sub msg))
              → IsGiven (sofar ++ (if b then [] else handled sub msg ∷ rest_of sub msg))
          by_case true muted order = same_given sofar [] refl refl so
          by_case false live order = delivered sub msg (same_sub sub s) refl created live order
      one_served (q.Reply slot inbox body) created order =
          same_given sofar (made orders (Inbox inbox) sofar (on.Reply body ∷ [])) (none_made orders s (Inbox inbox) sofar (on.Reply body ∷ [])) (none_given (Inbox inbox) sofar (on.Reply body ∷ []) (refl, tt)) so
      one_served (q.Bad slot sub kind sender seq bytes) created order =
          same_given sofar (made orders (Sub sub) sofar (on.Error (code_of bytes) ∷ [])) (none_made orders s (Sub sub) sofar (on.Error (code_of bytes) ∷ [])) (none_given (Sub sub) sofar (on.Error (code_of bytes) ∷ []) (refl, tt)) so
      one_served (q.BadReply slot inbox bytes) created order =
          same_given sofar (made orders (Inbox inbox) sofar (on.Error (code_of bytes) ∷ [])) (none_made orders s (Inbox inbox) sofar (on.Error (code_of bytes) ∷ [])) (none_given (Inbox inbox) sofar (on.Error (code_of bytes) ∷ []) (refl, tt)) so
      one_served (q.Tick slot timer moment) created order =
          same_given sofar (made orders (Timer timer) sofar (on.Tick moment ∷ [])) (none_made orders s (Timer timer) sofar (on.Tick moment ∷ [])) (none_given (Timer timer) sofar (on.Tick moment ∷ []) (refl, tt)) so
      one_served (q.Gone slot object) created order =
          same_given sofar (made orders object sofar (on.Destroy ∷ [])) (none_made orders s object sofar (on.Destroy ∷ [])) (none_given object sofar (on.Destroy ∷ []) (refl, tt)) so
      one_served q.Fin created order = same_given sofar [] refl refl so

    -- ---- its Create comes first

    module _ (slot : ℕ) (tag : ObjectId) (tail : List QueueNote) where
      abbrev create : QueueNote
      create = q.Create slot (Sub s) (make.Sub Market size strategy) tag

      not_made : (note : QueueNote) → is_of (Sub s) note ≡ false → make_in (Sub s) note ≡ None
      not_made (q.Create slot object made tag) other = ap (λ (b : Bool). if b then Some made else None) other
      not_made (q.Deliver slot sub msg) other = refl
      not_made (q.Reply slot inbox body) other = refl
      not_made (q.Bad slot sub kind sender seq bytes) other = refl
      not_made (q.BadReply slot inbox bytes) other = refl
      not_made (q.Tick slot timer moment) other = refl
      not_made (q.Gone slot object) other = refl
      not_made q.Fin other = refl

      abbrev first_note : List QueueNote → QueueNote
      first_note [] = q.Fin
      first_note (note ∷ notes) = note

      made_by : make_in (Sub s) create ≡ how
      made_by = ap (λ (b : Bool). if b then how else None) (same_sub-itself s)

      created_first : (before : List (ℕ × QueueNote)) (e : ℕ × QueueNote) (es : List (ℕ × QueueNote)) → is_of (Sub s) e.1 ≡ true → (e.1 ≡ create → ⊥)
          → events_of (Sub s) (before ++ e ∷ es) ≡ create ∷ tail → made_before before s ≡ how
      created_first [] e es own no_create is = absurd (no_create (ap first_note (ap (λ (b : Bool). if b then e.1 ∷ events_of (Sub s) es else events_of (Sub s) es) (sym own) ∙ is)))
      created_first (f ∷ before) e es own no_create is = by_case (is_of (Sub s) f.1) refl is (created_first before e es own no_create)
        where
          by_case : (b : Bool) → is_of (Sub s) f.1 ≡ b → (if b then f.1 ∷ events_of (Sub s) (before ++ e ∷ es) else events_of (Sub s) (before ++ e ∷ es)) ≡ create ∷ tail
              → (events_of (Sub s) (before ++ e ∷ es) ≡ create ∷ tail → made_before before s ≡ how) → option_or (make_in (Sub s) f.1) (made_before before s) ≡ how
          by_case true here is later = ap (λ (note : QueueNote). option_or (make_in (Sub s) note) (made_before before s)) (ap first_note is) ∙ ap (λ (o : Option Make). option_or o (made_before before s)) made_by
          by_case false other is later = ap (λ (o : Option Make). option_or o (made_before before s)) (not_made f.1 other) ∙ later is

      is_created : (before : List (ℕ × QueueNote)) (port : ℕ) (note : QueueNote) (es : List (ℕ × QueueNote)) → events_of (Sub s) (before ++ (port, note) ∷ es) ≡ create ∷ tail
          → (sofar : List Deed) (so : IsGiven sofar) → Created before sofar so note
      is_created before port (q.Deliver k sub msg) es is sofar so = λ same. created_first before (port, q.Deliver k sub msg) es same (λ wrong. absurd cc) is
      is_created before port (q.Create k object made tag) es is sofar so = tt
      is_created before port (q.Reply k inbox body) es is sofar so = tt
      is_created before port (q.Bad k sub kind sender seq bytes) es is sofar so = tt
      is_created before port (q.BadReply k inbox bytes) es is sofar so = tt
      is_created before port (q.Tick k timer moment) es is sofar so = tt
      is_created before port (q.Gone k object) es is sofar so = tt
      is_created before port q.Fin es is sofar so = tt

      given_walk : (before : List (ℕ × QueueNote)) (sofar : List Deed) (es : List (ℕ × QueueNote)) → events_of (Sub s) (before ++ es) ≡ create ∷ tail
          → AreInOrder sender n (messages_of s (walk orders s before sofar es)) → IsGiven sofar → IsGiven (walk orders s before sofar es)
      given_walk before sofar [] is order so = so
      given_walk before sofar (e ∷ es) is order so =
          let new : List Deed = served orders before sofar e.1 in
          let later : Part orders s (sofar ++ new) (walk orders s (before ++ e ∷ []) (sofar ++ new) es) es = part orders s (before ++ e ∷ []) (sofar ++ new) es in
          given_walk (before ++ e ∷ []) (sofar ++ new) es (ap (events_of (Sub s)) (append_assoc before (e ∷ []) es) ∙ is) order
          (one_served before sofar so e.1 (is_created before e.0 e.1 es is sofar so)
          (order_first sender n (messages_of s (sofar ++ new)) later.taken (subst (AreInOrder sender n) later.handled order)))

      pub all_deeds_give : (journal : List (ℕ × QueueNote)) → events_of (Sub s) journal ≡ create ∷ tail → AreInOrder sender n (messages_of s (deeds orders journal))
          → all_given (deeds orders journal) ≡ from_first_image (messages_of s (deeds orders journal))
      all_deeds_give journal is order = given_walk [] [] journal is order refl

  -- what the callbacks of a subscription give is what its deeds give
  pub calls_give : (ds : List Deed) → flat_map (λ (c : Callback × List Order). given_in c.0) (calls_of (Sub s) ds) ≡ all_given ds
  calls_give [] = refl
  calls_give (handled sub msg ∷ ds) = calls_give ds
  calls_give (called object call ordered ∷ ds) = by_case (same_object object (Sub s)) (calls_give ds)
    where
      by_case : (b : Bool) → flat_map (λ (c : Callback × List Order). given_in c.0) (calls_of (Sub s) ds) ≡ all_given ds
          → flat_map (λ (c : Callback × List Order). given_in c.0) ((if b then (call, ordered) ∷ [] else []) ++ calls_of (Sub s) ds) ≡ (if b then given_in call else []) ++ all_given ds
      by_case true ih = ap (λ (ms : List MarketMsg). given_in call ++ ms) ih
      by_case false ih = ih
