-- The messages that a subscription handled are the first of those that its queue's journal delivers to it.
use Rattle.std.specs.Prelude.{◌&&◌, ◌||◌, not, if◌then◌else◌}
use Rattle.std.specs.List.{flat_map}
use Rattle.std.proofs.Common.{◌≡◌, ℕ, ◌+◌, Bool, true, false, List, [], ◌∷◌, ◌++◌, length, refl, sym, ◌∙◌, ap, append_assoc, append-nil}
use Rattle.std.proofs.lemmas.Bool.{both_ways}
use Rattle.std.proofs.lemmas.List.Concat.{flat_map-append}
use Rattle.mama_journal.specs.Journal.{puts_so_far, first_said}
use Rattle.mama_event.specs.Arrival.{code_of}
use Rattle.mama_event.specs.Object.{same_sub}
use Rattle.mama_event.specs.EqualityLaws.{same_sub-Decides}
use Rattle.mama_event.specs.declared.ids.SubId.{SubId}
use Rattle.mama_event.specs.declared.ids.ObjectId.{ObjectId}
use Rattle.mama_event.specs.declared.ids.ObjectId.TheVariants.{Sub, Timer, Inbox}
use Rattle.mama_event.specs.declared.market.MarketMsg.{MarketMsg}
use Rattle.mama_event.specs.declared.callback.Callback.{Callback}
use Rattle.mama_event.specs.declared.callback.Callback.TheVariants as on
use Rattle.mama_event.specs.declared.order.Order.{Order}
use Rattle.mama_event.specs.declared.to_queue.QueueNote.{QueueNote}
use Rattle.mama_event.specs.declared.to_queue.QueueNote.TheVariants as q
use Rattle.mama_dq.specs.Strategy.{callbacks_of}
use Rattle.mama_rules_queue.specs.Queue.{Deed, handled, called, calls_of, messages_in, messages_of, is_muted, is_muted_after, begins_in, stops_in, orders_end_of, is_destroy, made, make_in, context_of, served, deeds}

-- what a note delivers to a subscription
abbrev pub delivers : SubId → QueueNote → List MarketMsg
delivers s (q.Create slot object make tag) = []
delivers s (q.Deliver slot sub msg) = if same_sub sub s then msg ∷ [] else []
delivers s (q.Reply slot inbox body) = []
delivers s (q.Bad slot sub kind sender seq bytes) = []
delivers s (q.BadReply slot inbox bytes) = []
delivers s (q.Tick slot timer moment) = []
delivers s (q.Gone slot object) = []
delivers s q.Fin = []

or_later : (a b c : Bool) → (a || b) ≡ true → (b ≡ true → c ≡ true) → (a || c) ≡ true
or_later true b c h later = refl
or_later false b c h later = later h

pub muted_stays : (o : ObjectId) (live : Bool) (xs ys : List Deed) → is_muted_after o live xs ≡ true → is_muted_after o live (xs ++ ys) ≡ true
muted_stays o live [] ys h = absurd cc
muted_stays o live (d ∷ xs) ys h =
    or_later ((live || begins_in o d) && orders_end_of o d) (is_muted_after o ((live || begins_in o d) && not (stops_in o d)) xs)
    (is_muted_after o ((live || begins_in o d) && not (stops_in o d)) (xs ++ ys)) h (muted_stays o ((live || begins_in o d) && not (stops_in o d)) xs ys)

module _ (orders : ObjectId → ℕ → List Order) (s : SubId) where
  pub none_made : (o : ObjectId) (sofar : List Deed) (calls : List Callback) → messages_of s (made orders o sofar calls) ≡ []
  none_made o sofar [] = refl
  none_made o sofar (c ∷ cs) =
      let deed : Deed = called o c (orders o (length (calls_of o sofar) + 1)) in
      elim (is_muted o sofar && not (is_destroy c)) as (λ b. messages_of s (if b then made orders o sofar cs else (deed ∷ made orders o (sofar ++ deed ∷ []) cs)) ≡ []) [
        | true ↦ none_made o sofar cs
        | false ↦ none_made o (sofar ++ deed ∷ []) cs
      ]

  -- what one note makes a subscription handle
  module _ (before : List (ℕ × QueueNote)) (sofar : List Deed) where
    abbrev calls_for : SubId → MarketMsg → List Callback
    calls_for sub msg = callbacks_of (context_of (first_said (λ (e : ℕ × QueueNote). make_in (Sub sub) e.1) before) (messages_of sub sofar)) msg

    abbrev rest_of : SubId → MarketMsg → List Deed
    rest_of sub msg = made orders (Sub sub) (sofar ++ handled sub msg ∷ []) (calls_for sub msg)

    one_served : (sub : SubId) (msg : MarketMsg) (same muted : Bool) → same_sub sub s ≡ same
        → messages_of s (if muted then [] else handled sub msg ∷ rest_of sub msg) ≡ (if not muted && same then msg ∷ [] else [])
    one_served sub msg same true is = refl
    one_served sub msg true false is =
        ap (λ (c : Bool). (if c then msg ∷ [] else []) ++ messages_of s (rest_of sub msg)) is
        ∙ ap (λ (ms : List MarketMsg). (msg ∷ []) ++ ms) (none_made (Sub sub) (sofar ++ handled sub msg ∷ []) (calls_for sub msg))
    one_served sub msg false false is =
        ap (λ (c : Bool). (if c then msg ∷ [] else []) ++ messages_of s (rest_of sub msg)) is
        ∙ none_made (Sub sub) (sofar ++ handled sub msg ∷ []) (calls_for sub msg)

    muted_served : (note : QueueNote) → is_muted (Sub s) sofar ≡ true → messages_of s (served orders before sofar note) ≡ []
    muted_served (q.Create slot object make tag) muted = none_made object sofar (on.Create ∷ [])
    muted_served (q.Deliver slot sub msg) muted = by_case (same_sub sub s) refl
      where
        by_case : (same : Bool) → same_sub sub s ≡ same → messages_of s (if is_muted (Sub sub) sofar then [] else handled sub msg ∷ rest_of sub msg) ≡ []
        by_case true is =
            one_served sub msg true (is_muted (Sub sub) sofar) is
            ∙ ap (λ (c : Bool). if not c && true then msg ∷ [] else []) (ap (λ (r : SubId). is_muted (Sub r) sofar) ((same_sub-Decides sub s).0 is) ∙ muted)
        by_case false is = one_served sub msg false (is_muted (Sub sub) sofar) is ∙ nothing (is_muted (Sub sub) sofar)
          where
            nothing : (c : Bool) → (if not c && false then msg ∷ [] else []) ≡ []
            nothing true = refl
            nothing false = refl
    muted_served (q.Reply slot inbox body) muted = none_made (Inbox inbox) sofar (on.Reply body ∷ [])
    muted_served (q.Bad slot sub kind sender seq bytes) muted = none_made (Sub sub) sofar (on.Error (code_of bytes) ∷ [])
    muted_served (q.BadReply slot inbox bytes) muted = none_made (Inbox inbox) sofar (on.Error (code_of bytes) ∷ [])
    muted_served (q.Tick slot timer moment) muted = none_made (Timer timer) sofar (on.Tick moment ∷ [])
    muted_served (q.Gone slot object) muted = none_made object sofar (on.Destroy ∷ [])
    muted_served q.Fin muted = refl

    live_served : (note : QueueNote) → is_muted (Sub s) sofar ≡ false → messages_of s (served orders before sofar note) ≡ delivers s note
    live_served (q.Create slot object make tag) live = none_made object sofar (on.Create ∷ [])
    live_served (q.Deliver slot sub msg) live = by_case (same_sub sub s) refl
      where
        by_case : (same : Bool) → same_sub sub s ≡ same
            → messages_of s (if is_muted (Sub sub) sofar then [] else handled sub msg ∷ rest_of sub msg) ≡ (if same then msg ∷ [] else [])
        by_case true is =
            one_served sub msg true (is_muted (Sub sub) sofar) is
            ∙ ap (λ (c : Bool). if not c && true then msg ∷ [] else []) (ap (λ (r : SubId). is_muted (Sub r) sofar) ((same_sub-Decides sub s).0 is) ∙ live)
        by_case false is = one_served sub msg false (is_muted (Sub sub) sofar) is ∙ nothing (is_muted (Sub sub) sofar)
          where
            nothing : (c : Bool) → (if not c && false then msg ∷ [] else []) ≡ []
            nothing true = refl
            nothing false = refl
    live_served (q.Reply slot inbox body) live = none_made (Inbox inbox) sofar (on.Reply body ∷ [])
    live_served (q.Bad slot sub kind sender seq bytes) live = none_made (Sub sub) sofar (on.Error (code_of bytes) ∷ [])
    live_served (q.BadReply slot inbox bytes) live = none_made (Inbox inbox) sofar (on.Error (code_of bytes) ∷ [])
    live_served (q.Tick slot timer moment) live = none_made (Timer timer) sofar (on.Tick moment ∷ [])
    live_served (q.Gone slot object) live = none_made object sofar (on.Destroy ∷ [])
    live_served q.Fin live = refl

  abbrev pub walk : List (ℕ × QueueNote) → List Deed → List (ℕ × QueueNote) → List Deed
  walk before sofar es = puts_so_far (λ b d (e : ℕ × QueueNote). served orders b d e.1) before sofar es

  muted_walk : (before : List (ℕ × QueueNote)) (sofar : List Deed) (es : List (ℕ × QueueNote)) → is_muted (Sub s) sofar ≡ true
      → messages_of s (walk before sofar es) ≡ messages_of s sofar
  muted_walk before sofar [] muted = refl
  muted_walk before sofar (e ∷ es) muted =
      let new : List Deed = served orders before sofar e.1 in
      muted_walk (before ++ e ∷ []) (sofar ++ new) es (muted_stays (Sub s) false sofar new muted)
      ∙ flat_map-append (messages_in s) sofar new ∙ ap (λ (ms : List MarketMsg). messages_of s sofar ++ ms) (muted_served before sofar e.1 muted) ∙ append-nil (messages_of s sofar)

  -- what is muted stays so to the end
  muted_end : (before : List (ℕ × QueueNote)) (sofar : List Deed) (es : List (ℕ × QueueNote)) → is_muted (Sub s) sofar ≡ true → is_muted (Sub s) (walk before sofar es) ≡ true
  muted_end before sofar [] muted = muted
  muted_end before sofar (e ∷ es) muted = muted_end (before ++ e ∷ []) (sofar ++ served orders before sofar e.1) es (muted_stays (Sub s) false sofar (served orders before sofar e.1) muted)

  -- what was handled further, and what was not; nothing is left where the subscription is not muted
  pub record Part (sofar after : List Deed) (es : List (ℕ × QueueNote)) : Type 0 where
    pub taken : List MarketMsg
    pub left : List MarketMsg
    pub handled : messages_of s after ≡ messages_of s sofar ++ taken
    pub whole : flat_map (λ (e : ℕ × QueueNote). delivers s e.1) es ≡ taken ++ left
    pub all : is_muted (Sub s) after ≡ false → left ≡ []

  pub part : (before : List (ℕ × QueueNote)) (sofar : List Deed) (es : List (ℕ × QueueNote)) → Part sofar (walk before sofar es) es
  part before sofar [] = record { taken = []; left = []; handled = sym (append-nil (messages_of s sofar)); whole = refl; all = λ live. refl }
  part before sofar (e ∷ es) = by_case (is_muted (Sub s) sofar) refl (part (before ++ e ∷ []) (sofar ++ served orders before sofar e.1) es)
    where
      by_case : (m : Bool) → is_muted (Sub s) sofar ≡ m → Part (sofar ++ served orders before sofar e.1) (walk before sofar (e ∷ es)) es → Part sofar (walk before sofar (e ∷ es)) (e ∷ es)
      by_case true muted ih = record {
        taken = [];
        left = flat_map (λ (f : ℕ × QueueNote). delivers s f.1) (e ∷ es);
        handled = muted_walk before sofar (e ∷ es) muted ∙ sym (append-nil (messages_of s sofar));
        whole = refl;
        all = λ live. absurd (both_ways (is_muted (Sub s) (walk before sofar (e ∷ es))) live (muted_end before sofar (e ∷ es) muted));
      }
      by_case false live ih = record {
        taken = delivers s e.1 ++ ih.taken;
        left = ih.left;
        handled = ih.handled
            ∙ ap (λ (ms : List MarketMsg). ms ++ ih.taken) (flat_map-append (messages_in s) sofar (served orders before sofar e.1) ∙ ap (λ (ms : List MarketMsg). messages_of s sofar ++ ms) (live_served before sofar e.1 live))
            ∙ append_assoc (messages_of s sofar) (delivers s e.1) ih.taken;
        whole = ap (λ (ms : List MarketMsg). delivers s e.1 ++ ms) ih.whole ∙ sym (append_assoc (delivers s e.1) ih.taken ih.left);
        all = ih.all;
      }

  -- the messages that it handled by a whole journal begin those that the journal delivers
  pub handled_first : (journal : List (ℕ × QueueNote))
      → (left : List MarketMsg) × (flat_map (λ (e : ℕ × QueueNote). delivers s e.1) journal ≡ messages_of s (deeds orders journal) ++ left)
  handled_first journal =
      let all : Part [] (walk [] [] journal) journal = part [] [] journal in
      (all.left, all.whole ∙ ap (λ (ms : List MarketMsg). ms ++ all.left) (sym all.handled))
