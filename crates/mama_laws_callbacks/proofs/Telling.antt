-- What a queue tells a subscription, a timer and an inbox, by the events that its journal has of it.
use Rattle.std.specs.Prelude.{if◌then◌else◌, Option, Some, Ok, Err}
use Rattle.std.proofs.Common.{◌≡◌, ⊎_elim, ℕ, Bool, true, false, List, [], ◌∷◌, ◌++◌, map, refl, sym, ◌∙◌, ap, subst, append_assoc, append-nil}
use Rattle.std.proofs.lemmas.List.{map-append}
use Rattle.std.proofs.lemmas.List.Concat.{flat_map-append}
use Rattle.mama_journal.specs.Journal.{first_said}
use Rattle.mama_event.specs.Arrival.{Arrival, ReplyArrival, code_of}
use Rattle.mama_event.specs.Noted.{delivered_note, replied_note}
use Rattle.mama_event.specs.declared.wire.PieceMsg.{PieceMsg}
use Rattle.mama_event.specs.declared.ids.SubId.{SubId}
use Rattle.mama_event.specs.declared.ids.TimerId.{TimerId}
use Rattle.mama_event.specs.declared.ids.InboxId.{InboxId}
use Rattle.mama_event.specs.declared.ids.ObjectId.{ObjectId}
use Rattle.mama_event.specs.declared.ids.ObjectId.TheVariants.{Sub, Timer, Inbox}
use Rattle.mama_event.specs.declared.market.MarketMsg.{MarketMsg}
use Rattle.mama_event.specs.declared.market.SubKind.{SubKind}
use Rattle.mama_event.specs.declared.shape.Strategy.{Strategy}
use Rattle.mama_event.specs.declared.callback.Callback.{Callback}
use Rattle.mama_event.specs.declared.callback.Callback.TheVariants as on
use Rattle.mama_event.specs.declared.order.Order.{Order}
use Rattle.mama_event.specs.declared.to_queue.Make.{Make}
use Rattle.mama_event.specs.declared.to_queue.Make.TheVariants as make
use Rattle.mama_event.specs.declared.to_queue.QueueNote.{QueueNote}
use Rattle.mama_event.specs.declared.to_queue.QueueNote.TheVariants as q
use Rattle.mama_dq.specs.Context.{ContextData, new_context}
use Rattle.mama_dq.specs.Strategy.{callbacks_of, after, after_all, fold}
use Rattle.mama_rules_queue.specs.Queue.{Deed, handled, called, messages_in, messages_of, is_muted, made, make_in, context_of, served, deeds}
use Rattle.mama_dispatch.specs.Seating.{is_plain}
use Rattle.mama_dispatch.proofs.CallBound.{calls_plain}
use Rattle.mama_dispatch.proofs.DeedLemmas.{muted_handled, same_object-refl}
use Rattle.mama_rules_legal.specs.Streams.{is_of, events_of}
use Rattle.mama_laws_genuine.proofs.Handled.{none_made}
use Rattle.mama_laws_callbacks.specs.Told.{told_in, told_from, tells, ticks_told, reply_told, replies_told, IsTold, TellsAtOnce}
use Rattle.mama_laws_callbacks.specs.Word.{messages_read}
use Rattle.mama_laws_callbacks.proofs.Cutting.{told_append, Live, live_open, live_muted, live_one, told_by_journal, told_at_once, known_at_once}

-- ---- what a context makes of one arrival more

told_more : (c : ContextData) (xs : List Arrival) (a : Arrival) → told_from c (xs ++ a ∷ []) ≡ told_from c xs ++ told_from (after_all c (messages_read xs)) (a ∷ [])
told_more c [] a = refl
told_more c (Ok m ∷ xs) a =
    ap (λ (cs : List Callback). callbacks_of c m ++ cs) (told_more (after c m) xs a)
    ∙ sym (append_assoc (callbacks_of c m) (told_from (after c m) xs) (told_from (after_all (after c m) (messages_read xs)) (a ∷ [])))
told_more c (Err piece ∷ xs) a = ap (λ (cs : List Callback). on.Error (code_of piece.body) ∷ cs) (told_more c xs a)

tells_more : (strategy : Strategy) (kind : SubKind) (size : ℕ) (xs : List Arrival) (m : MarketMsg)
    → tells strategy kind size (xs ++ Ok m ∷ []) ≡ tells strategy kind size xs ++ callbacks_of (fold strategy kind size (messages_read xs)) m
tells_more strategy kind size xs m =
    told_more (new_context strategy kind size) xs (Ok m)
    ∙ ap (λ (cs : List Callback). tells strategy kind size xs ++ cs) (append-nil (callbacks_of (fold strategy kind size (messages_read xs)) m))

-- the messages among them
read_more : (xs : List Arrival) (a : Arrival) → messages_read (xs ++ a ∷ []) ≡ messages_read xs ++ messages_read (a ∷ [])
read_more [] a = refl
read_more (Ok m ∷ xs) a = ap (λ (ms : List MarketMsg). m ∷ ms) (read_more xs a)
read_more (Err piece ∷ xs) a = read_more xs a

-- ---- subscriptions

module _ (orders : ObjectId → ℕ → List Order) (s : SubId) where
  other_handled : (before : List (ℕ × QueueNote)) (sofar : List Deed) (note : QueueNote) → is_of (Sub s) note ≡ false → messages_of s (served orders before sofar note) ≡ []
  other_handled before sofar (q.Create slot object make tag) other = none_made orders s object sofar (on.Create ∷ [])
  other_handled before sofar (q.Deliver slot sub msg) other =
      let calls : List Callback = callbacks_of (context_of (first_said (λ (e : ℕ × QueueNote). make_in (Sub sub) e.1) before) (messages_of sub sofar)) msg in
      elim (is_muted (Sub sub) sofar) as (λ b. messages_of s (if b then [] else (handled sub msg ∷ made orders (Sub sub) (sofar ++ handled sub msg ∷ []) calls)) ≡ []) [
        | true ↦ refl
        | false ↦ ap (λ (b : Bool). (if b then msg ∷ [] else []) ++ messages_of s (made orders (Sub sub) (sofar ++ handled sub msg ∷ []) calls)) other
            ∙ none_made orders s (Sub sub) (sofar ++ handled sub msg ∷ []) calls
      ]
  other_handled before sofar (q.Reply slot inbox body) other = none_made orders s (Inbox inbox) sofar (on.Reply body ∷ [])
  other_handled before sofar (q.Bad slot sub kind sender seq bytes) other = none_made orders s (Sub sub) sofar (on.Error (code_of bytes) ∷ [])
  other_handled before sofar (q.BadReply slot inbox bytes) other = none_made orders s (Inbox inbox) sofar (on.Error (code_of bytes) ∷ [])
  other_handled before sofar (q.Tick slot timer moment) other = none_made orders s (Timer timer) sofar (on.Tick moment ∷ [])
  other_handled before sofar (q.Gone slot object) other = none_made orders s object sofar (on.Destroy ∷ [])
  other_handled before sofar q.Fin other = refl

  -- the messages among what arrived are those that it has handled
  abbrev HasHandled : List Arrival → List Deed → Type 0
  HasHandled arrivals ds = messages_of s ds ≡ messages_read arrivals

  keeps_handled : (arrivals : List Arrival) (before : List (ℕ × QueueNote)) (sofar : List Deed) (note : QueueNote) → is_of (Sub s) note ≡ false
      → HasHandled arrivals sofar → HasHandled arrivals (sofar ++ served orders before sofar note)
  keeps_handled arrivals before sofar note other known =
      flat_map-append (messages_in s) sofar (served orders before sofar note)
      ∙ ap (λ (ms : List MarketMsg). messages_of s sofar ++ ms) (other_handled before sofar note other) ∙ append-nil (messages_of s sofar) ∙ known

  starts_handled : (sofar : List Deed) (os : List Order) → HasHandled [] sofar → HasHandled [] (sofar ++ called (Sub s) on.Create os ∷ [])
  starts_handled sofar os known = flat_map-append (messages_in s) sofar (called (Sub s) on.Create os ∷ []) ∙ ap (λ (ms : List MarketMsg). ms ++ []) known

  -- a message of its own
  module _ (strategy : Strategy) (kind : SubKind) (size slot : ℕ) (arrivals : List Arrival) (m : MarketMsg) (before : List (ℕ × QueueNote)) (sofar : List Deed)
      (said : first_said (λ (e : ℕ × QueueNote). make_in (Sub s) e.1) before ≡ Some (make.Sub kind size strategy)) where
    abbrev more : List Arrival
    more = arrivals ++ Ok m ∷ []

    abbrev step_calls : List Callback
    step_calls = callbacks_of (fold strategy kind size (messages_read arrivals)) m

    abbrev so_far : List Callback
    so_far = tells strategy kind size arrivals

    abbrev taken : List Deed
    taken = sofar ++ handled s m ∷ []

    own_muted : is_muted (Sub s) sofar ≡ true → served orders before sofar (q.Deliver slot s m) ≡ []
    own_muted muted =
        let calls : List Callback = callbacks_of (context_of (first_said (λ (e : ℕ × QueueNote). make_in (Sub s) e.1) before) (messages_of s sofar)) m in
        ap (λ (b : Bool). if b then [] else (handled s m ∷ made orders (Sub s) (sofar ++ handled s m ∷ []) calls)) muted

    own_open : is_muted (Sub s) sofar ≡ false → HasHandled arrivals sofar → sofar ++ served orders before sofar (q.Deliver slot s m) ≡ taken ++ made orders (Sub s) taken step_calls
    own_open live known =
        let calls : List Callback = callbacks_of (context_of (first_said (λ (e : ℕ × QueueNote). make_in (Sub s) e.1) before) (messages_of s sofar)) m in
        ap (λ (b : Bool). sofar ++ (if b then [] else (handled s m ∷ made orders (Sub s) (sofar ++ handled s m ∷ []) calls))) live
        ∙ ap (λ (o : Option Make). sofar ++ handled s m ∷ made orders (Sub s) taken (callbacks_of (context_of o (messages_of s sofar)) m)) said
        ∙ ap (λ (ms : List MarketMsg). sofar ++ handled s m ∷ made orders (Sub s) taken (callbacks_of (fold strategy kind size ms) m)) known
        ∙ sym (append_assoc sofar (handled s m ∷ []) (made orders (Sub s) taken step_calls))

    handled_more : HasHandled arrivals sofar → HasHandled more (taken ++ made orders (Sub s) taken step_calls)
    handled_more known =
        flat_map-append (messages_in s) taken (made orders (Sub s) taken step_calls)
        ∙ ap (λ (ms : List MarketMsg). messages_of s taken ++ ms) (none_made orders s (Sub s) taken step_calls)
        ∙ append-nil (messages_of s taken)
        ∙ flat_map-append (messages_in s) sofar (handled s m ∷ [])
        ∙ ap (λ (ms : List MarketMsg). ms ++ messages_of s (handled s m ∷ [])) known
        ∙ ap (λ (b : Bool). messages_read arrivals ++ ((if b then m ∷ [] else []) ++ [])) (same_object-refl (Sub s))
        ∙ sym (read_more arrivals (Ok m))

    own_message : Live orders (Sub s) (HasHandled arrivals) so_far sofar
        → Live orders (Sub s) (HasHandled more) (tells strategy kind size more) (sofar ++ served orders before sofar (q.Deliver slot s m))
    own_message live =
        subst (λ (cs : List Callback). Live orders (Sub s) (HasHandled more) cs (sofar ++ served orders before sofar (q.Deliver slot s m))) (sym (tells_more strategy kind size arrivals m))
        (⊎_elim
        (λ h. subst (Live orders (Sub s) (HasHandled more) (so_far ++ step_calls)) (sym (own_open h.1.0 h.1.1))
        (live_open orders (Sub s) (HasHandled arrivals) (HasHandled more) so_far step_calls sofar taken live h.0
        (told_append orders (Sub s) sofar (handled s m ∷ []) ∙ append-nil (told_in (Sub s) sofar))
        (muted_handled (Sub s) sofar s m ∙ h.1.0) (calls_plain (fold strategy kind size (messages_read arrivals)) m) (handled_more h.1.1)))
        (λ h. subst (λ (ds : List Deed). Live orders (Sub s) (HasHandled more) (so_far ++ step_calls) (sofar ++ ds)) (sym (own_muted h.1))
        (subst (Live orders (Sub s) (HasHandled more) (so_far ++ step_calls)) (sym (append-nil sofar))
        (live_muted orders (Sub s) (HasHandled arrivals) (HasHandled more) so_far step_calls sofar live h.0 h.1)))
        live.stands)

  -- bytes for it that spell no message
  module _ (strategy : Strategy) (kind : SubKind) (size : ℕ) (arrivals : List Arrival) (piece : PieceMsg) (sofar : List Deed) where
    abbrev error_calls : List Callback
    error_calls = on.Error (code_of piece.body) ∷ []

    none_handled : HasHandled arrivals sofar → HasHandled (arrivals ++ Err piece ∷ []) (sofar ++ made orders (Sub s) sofar error_calls)
    none_handled known =
        flat_map-append (messages_in s) sofar (made orders (Sub s) sofar error_calls)
        ∙ ap (λ (ms : List MarketMsg). messages_of s sofar ++ ms) (none_made orders s (Sub s) sofar error_calls)
        ∙ append-nil (messages_of s sofar) ∙ known
        ∙ sym (read_more arrivals (Err piece) ∙ append-nil (messages_read arrivals))

    own_error : Live orders (Sub s) (HasHandled arrivals) (tells strategy kind size arrivals) sofar
        → Live orders (Sub s) (HasHandled (arrivals ++ Err piece ∷ [])) (tells strategy kind size (arrivals ++ Err piece ∷ [])) (sofar ++ made orders (Sub s) sofar error_calls)
    own_error live =
        subst (λ (cs : List Callback). Live orders (Sub s) (HasHandled (arrivals ++ Err piece ∷ [])) cs (sofar ++ made orders (Sub s) sofar error_calls))
        (sym (told_more (new_context strategy kind size) arrivals (Err piece)))
        (live_one orders (Sub s) (HasHandled arrivals) (HasHandled (arrivals ++ Err piece ∷ [])) (tells strategy kind size arrivals) (on.Error (code_of piece.body)) sofar none_handled refl live)

  own_arrival : (strategy : Strategy) (kind : SubKind) (size slot : ℕ) (arrivals : List Arrival) (a : Arrival) (before : List (ℕ × QueueNote)) (sofar : List Deed)
      → first_said (λ (e : ℕ × QueueNote). make_in (Sub s) e.1) before ≡ Some (make.Sub kind size strategy)
      → Live orders (Sub s) (HasHandled arrivals) (tells strategy kind size arrivals) sofar
      → Live orders (Sub s) (HasHandled (arrivals ++ a ∷ [])) (tells strategy kind size (arrivals ++ a ∷ [])) (sofar ++ served orders before sofar (delivered_note slot s a))
  own_arrival strategy kind size slot arrivals (Ok m) before sofar said live = own_message strategy kind size slot arrivals m before sofar said live
  own_arrival strategy kind size slot arrivals (Err piece) before sofar said live = own_error strategy kind size arrivals piece sofar live

  pub sub_told : (strategy : Strategy) (kind : SubKind) (size slot : ℕ) (tag : ObjectId) (arrivals : List Arrival) (journal : List (ℕ × QueueNote))
      → events_of (Sub s) journal ≡ q.Create slot (Sub s) (make.Sub kind size strategy) tag ∷ (map (λ (a : Arrival). delivered_note slot s a) arrivals ++ q.Gone slot (Sub s) ∷ [])
      → IsTold (Sub s) (tells strategy kind size arrivals) (deeds orders journal) (told_in (Sub s) (deeds orders journal))
  sub_told strategy kind size slot tag arrivals journal events =
      told_by_journal orders (Sub s) (make.Sub kind size strategy) (λ (a : Arrival). delivered_note slot s a) (tells strategy kind size) HasHandled refl
      keeps_handled starts_handled (own_arrival strategy kind size slot) slot tag arrivals journal refl events

  pub sub_at_once : (strategy : Strategy) (kind : SubKind) (size : ℕ) (journal : List (ℕ × QueueNote))
      → TellsAtOnce (Sub s) (make.Sub kind size strategy) (λ slot a. delivered_note slot s a) (tells strategy kind size) orders journal
  sub_at_once strategy kind size journal front back slot tag arrivals cut events free =
      told_at_once orders (Sub s) (make.Sub kind size strategy) (λ (a : Arrival). delivered_note slot s a) (tells strategy kind size) HasHandled refl
      keeps_handled starts_handled (own_arrival strategy kind size slot) slot tag arrivals front refl events free

  -- and the messages among what arrived are those that it handled
  pub sub_handled : (strategy : Strategy) (kind : SubKind) (size slot : ℕ) (tag : ObjectId) (arrivals : List Arrival) (front : List (ℕ × QueueNote))
      → events_of (Sub s) front ≡ q.Create slot (Sub s) (make.Sub kind size strategy) tag ∷ map (λ (a : Arrival). delivered_note slot s a) arrivals
      → is_muted (Sub s) (deeds orders front) ≡ false → messages_of s (deeds orders front) ≡ messages_read arrivals
  sub_handled strategy kind size slot tag arrivals front events free =
      known_at_once orders (Sub s) (make.Sub kind size strategy) (λ (a : Arrival). delivered_note slot s a) (tells strategy kind size) HasHandled refl
      keeps_handled starts_handled (own_arrival strategy kind size slot) slot tag arrivals front refl events free

-- ---- timers and inboxes

abbrev Nothing : {X : Type 0} → List X → List Deed → Type 0
Nothing xs ds = Unit {0}

own_tick : (orders : ObjectId → ℕ → List Order) (t : TimerId) (xs : List ℕ) (x : ℕ) (sofar : List Deed) → Live orders (Timer t) (Nothing xs) (ticks_told xs) sofar
    → Live orders (Timer t) (Nothing (xs ++ x ∷ [])) (ticks_told (xs ++ x ∷ [])) (sofar ++ made orders (Timer t) sofar (on.Tick x ∷ []))
own_tick orders t xs x sofar live =
    subst (λ (cs : List Callback). Live orders (Timer t) (Nothing xs) cs (sofar ++ made orders (Timer t) sofar (on.Tick x ∷ []))) (sym (map-append (λ (m : ℕ). on.Tick m) xs (x ∷ [])))
    (live_one orders (Timer t) (Nothing xs) (Nothing (xs ++ x ∷ [])) (ticks_told xs) (on.Tick x) sofar (λ known. tt) refl live)

reply_plain : (x : ReplyArrival) → is_plain (reply_told x) ≡ true
reply_plain (Ok body) = refl
reply_plain (Err bytes) = refl

one_reply : (orders : ObjectId → ℕ → List Order) (i : InboxId) (xs : List ReplyArrival) (x : ReplyArrival) (sofar : List Deed) → Live orders (Inbox i) (Nothing xs) (replies_told xs) sofar
    → Live orders (Inbox i) (Nothing (xs ++ x ∷ [])) (replies_told (xs ++ x ∷ [])) (sofar ++ made orders (Inbox i) sofar (reply_told x ∷ []))
one_reply orders i xs x sofar live =
    subst (λ (cs : List Callback). Live orders (Inbox i) (Nothing xs) cs (sofar ++ made orders (Inbox i) sofar (reply_told x ∷ []))) (sym (map-append reply_told xs (x ∷ [])))
    (live_one orders (Inbox i) (Nothing xs) (Nothing (xs ++ x ∷ [])) (replies_told xs) (reply_told x) sofar (λ known. tt) (reply_plain x) live)

own_reply : (orders : ObjectId → ℕ → List Order) (i : InboxId) (slot : ℕ) (xs : List ReplyArrival) (x : ReplyArrival) (before : List (ℕ × QueueNote)) (sofar : List Deed)
    → Live orders (Inbox i) (Nothing xs) (replies_told xs) sofar
    → Live orders (Inbox i) (Nothing (xs ++ x ∷ [])) (replies_told (xs ++ x ∷ [])) (sofar ++ served orders before sofar (replied_note slot i x))
own_reply orders i slot xs (Ok body) before sofar live = one_reply orders i xs (Ok body) sofar live
own_reply orders i slot xs (Err bytes) before sofar live = one_reply orders i xs (Err bytes) sofar live

pub timer_at_once : (orders : ObjectId → ℕ → List Order) (t : TimerId) (journal : List (ℕ × QueueNote)) → TellsAtOnce (Timer t) make.Timer (λ slot m. q.Tick slot t m) ticks_told orders journal
timer_at_once orders t journal front back slot tag moments cut events free =
    told_at_once orders (Timer t) make.Timer (λ (m : ℕ). q.Tick slot t m) ticks_told (Nothing {X = ℕ}) refl
    (λ xs before sofar other is known. tt) (λ sofar os known. tt) (λ xs x before sofar said live. own_tick orders t xs x sofar live) slot tag moments front tt events free

pub inbox_at_once : (orders : ObjectId → ℕ → List Order) (i : InboxId) (journal : List (ℕ × QueueNote)) → TellsAtOnce (Inbox i) make.Inbox (λ slot a. replied_note slot i a) replies_told orders journal
inbox_at_once orders i journal front back slot tag arrivals cut events free =
    told_at_once orders (Inbox i) make.Inbox (λ (a : ReplyArrival). replied_note slot i a) replies_told (Nothing {X = ReplyArrival}) refl
    (λ xs before sofar other is known. tt) (λ sofar os known. tt) (λ xs x before sofar said live. own_reply orders i slot xs x before sofar live) slot tag arrivals front tt events free

pub timer_told : (orders : ObjectId → ℕ → List Order) (t : TimerId) (slot : ℕ) (tag : ObjectId) (moments : List ℕ) (journal : List (ℕ × QueueNote))
    → events_of (Timer t) journal ≡ q.Create slot (Timer t) make.Timer tag ∷ (map (λ (m : ℕ). q.Tick slot t m) moments ++ q.Gone slot (Timer t) ∷ [])
    → IsTold (Timer t) (ticks_told moments) (deeds orders journal) (told_in (Timer t) (deeds orders journal))
timer_told orders t slot tag moments journal events =
    told_by_journal orders (Timer t) make.Timer (λ (m : ℕ). q.Tick slot t m) ticks_told (Nothing {X = ℕ}) refl
    (λ xs before sofar other is known. tt) (λ sofar os known. tt)
    (λ xs x before sofar said live. own_tick orders t xs x sofar live)
    slot tag moments journal tt events

pub inbox_told : (orders : ObjectId → ℕ → List Order) (i : InboxId) (slot : ℕ) (tag : ObjectId) (arrivals : List ReplyArrival) (journal : List (ℕ × QueueNote))
    → events_of (Inbox i) journal ≡ q.Create slot (Inbox i) make.Inbox tag ∷ (map (λ (a : ReplyArrival). replied_note slot i a) arrivals ++ q.Gone slot (Inbox i) ∷ [])
    → IsTold (Inbox i) (replies_told arrivals) (deeds orders journal) (told_in (Inbox i) (deeds orders journal))
inbox_told orders i slot tag arrivals journal events =
    told_by_journal orders (Inbox i) make.Inbox (λ (a : ReplyArrival). replied_note slot i a) replies_told (Nothing {X = ReplyArrival}) refl
    (λ xs before sofar other is known. tt) (λ sofar os known. tt)
    (λ xs x before sofar said live. own_reply orders i slot xs x before sofar live)
    slot tag arrivals journal tt events
