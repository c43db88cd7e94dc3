-- What a queue tells an object, by the events that its journal has of it.
use Rattle.std.specs.Prelude.{◌&&◌, not, if◌then◌else◌, Option, Some, None}
use Rattle.std.specs.List.{list_all}
use Rattle.std.specs.Option.{option_or}
use Rattle.std.proofs.Common.{◌≡◌, ◌⊎◌, inl, inr, ⊎_elim, ℕ, ◌+◌, Bool, true, false, List, [], ◌∷◌, ◌++◌, length, map, refl, sym, ◌∙◌, ap, subst, append_assoc, append-nil}
use Rattle.std.proofs.lemmas.List.{map-append}
use Rattle.std.proofs.lemmas.List.Concat.{flat_map-append}
use Rattle.std.proofs.lemmas.Bool.{and_from, both_ways}
use Rattle.mama_journal.specs.Journal.{puts_so_far, first_said}
use Rattle.mama_event.specs.Arrival.{code_of}
use Rattle.mama_event.specs.Object.{same_object}
use Rattle.mama_event.specs.declared.ids.ObjectId.{ObjectId}
use Rattle.mama_event.specs.declared.ids.ObjectId.TheVariants.{Sub, Timer, Inbox}
use Rattle.mama_event.specs.declared.callback.Callback.{Callback}
use Rattle.mama_event.specs.declared.callback.Callback.TheVariants as on
use Rattle.mama_event.specs.declared.order.Order.{Order}
use Rattle.mama_event.specs.declared.to_queue.Make.{Make}
use Rattle.mama_event.specs.declared.to_queue.QueueNote.{QueueNote}
use Rattle.mama_event.specs.declared.to_queue.QueueNote.TheVariants as q
use Rattle.mama_dq.specs.Strategy.{callbacks_of}
use Rattle.mama_rules_queue.specs.Queue.{Deed, handled, called, calls_in, calls_of, messages_of, is_muted, is_destroy, made, make_in, context_of, served, deeds}
use Rattle.mama_dispatch.specs.Seating.{is_plain}
use Rattle.mama_dispatch.proofs.BirthLemmas.{unbegun}
use Rattle.mama_dispatch.proofs.DeedLemmas.{same_object-refl}
use Rattle.mama_rules_legal.specs.Streams.{is_of, events_of}
use Rattle.mama_laws_genuine.proofs.Handled.{muted_stays}
use Rattle.mama_laws_callbacks.specs.Told.{call_in, told_in, IsMutedWith, IsNotMuted, IsTold}

-- ---- what was said first stays said

said_more : {E A : Type 0} (say : E → Option A) (es fs : List E) (a : A) → first_said say es ≡ Some a → first_said say (es ++ fs) ≡ Some a
said_more say [] fs a said = absurd cc
said_more {A = A} say (e ∷ es) fs a said =
    (elim (say e) as (λ (o : Option A). option_or o (first_said say es) ≡ Some a → option_or o (first_said say (es ++ fs)) ≡ Some a) [
      | None ↦ λ h. said_more say es fs a h
      | Some b ↦ λ h. h
    ]) said

said_last : {E A : Type 0} (say : E → Option A) (es : List E) (e : E) → first_said say es ≡ None → first_said say (es ++ e ∷ []) ≡ say e
said_last {A = A} say [] e none = elim (say e) as (λ (o : Option A). option_or o None ≡ o) [ None ↦ refl | Some b ↦ refl ]
said_last {A = A} say (f ∷ es) e none =
    (elim (say f) as (λ (o : Option A). option_or o (first_said say es) ≡ None → option_or o (first_said say (es ++ e ∷ [])) ≡ say e) [
      | None ↦ λ h. said_last say es e h
      | Some b ↦ λ h. absurd cc
    ]) none

module _ (orders : ObjectId → ℕ → List Order) (o : ObjectId) where
  -- ---- callbacks among deeds

  pub told_append : (xs ys : List Deed) → told_in o (xs ++ ys) ≡ told_in o xs ++ told_in o ys
  told_append xs ys = ap (map call_in) (flat_map-append (calls_in o) xs ys) ∙ map-append call_in (calls_of o xs) (calls_of o ys)

  own_told : (c : Callback) (os : List Order) (ds : List Deed) → told_in o (called o c os ∷ ds) ≡ c ∷ told_in o ds
  own_told c os ds = ap (λ (b : Bool). map call_in ((if b then (c, os) ∷ [] else []) ++ calls_of o ds)) (same_object-refl o)

  none_told : (x : ObjectId) (sofar : List Deed) (cs : List Callback) → same_object x o ≡ false → told_in o (made orders x sofar cs) ≡ []
  none_told x sofar [] other = refl
  none_told x sofar (c ∷ cs) other =
      let os : List Order = orders x (length (calls_of x sofar) + 1) in
      let deed : Deed = called x c os in
      elim (is_muted x sofar && not (is_destroy c)) as (λ b. told_in o (if b then made orders x sofar cs else (deed ∷ made orders x (sofar ++ deed ∷ []) cs)) ≡ []) [
        | true ↦ none_told x sofar cs other
        | false ↦ ap (λ (b : Bool). map call_in ((if b then (c, os) ∷ [] else []) ++ calls_of o (made orders x (sofar ++ deed ∷ []) cs))) other ∙ none_told x (sofar ++ deed ∷ []) cs other
      ]

  -- ---- the events of other objects

  module _ (before : List (ℕ × QueueNote)) (sofar : List Deed) where
    other_told : (note : QueueNote) → is_of o note ≡ false → told_in o (served orders before sofar note) ≡ []
    other_told (q.Create slot object make tag) other = none_told object sofar (on.Create ∷ []) other
    other_told (q.Deliver slot sub msg) other =
        let calls : List Callback = callbacks_of (context_of (first_said (λ (e : ℕ × QueueNote). make_in (Sub sub) e.1) before) (messages_of sub sofar)) msg in
        elim (is_muted (Sub sub) sofar) as (λ b. told_in o (if b then [] else (handled sub msg ∷ made orders (Sub sub) (sofar ++ handled sub msg ∷ []) calls)) ≡ []) [
          | true ↦ refl
          | false ↦ none_told (Sub sub) (sofar ++ handled sub msg ∷ []) calls other
        ]
    other_told (q.Reply slot inbox body) other = none_told (Inbox inbox) sofar (on.Reply body ∷ []) other
    other_told (q.Bad slot sub kind sender seq bytes) other = none_told (Sub sub) sofar (on.Error (code_of bytes) ∷ []) other
    other_told (q.BadReply slot inbox bytes) other = none_told (Inbox inbox) sofar (on.Error (code_of bytes) ∷ []) other
    other_told (q.Tick slot timer moment) other = none_told (Timer timer) sofar (on.Tick moment ∷ []) other
    other_told (q.Gone slot object) other = none_told object sofar (on.Destroy ∷ []) other
    other_told q.Fin other = refl

  other_make : (note : QueueNote) → is_of o note ≡ false → make_in o note ≡ None
  other_make (q.Create slot object make tag) other = ap (λ (b : Bool). if b then Some make else None) other
  other_make (q.Deliver slot sub msg) other = refl
  other_make (q.Reply slot inbox body) other = refl
  other_make (q.Bad slot sub kind sender seq bytes) other = refl
  other_make (q.BadReply slot inbox bytes) other = refl
  other_make (q.Tick slot timer moment) other = refl
  other_make (q.Gone slot object) other = refl
  other_make q.Fin other = refl

  -- ---- where an object is muted

  -- the deed among some that mutes it
  record Turns (sofar new : List Deed) : Type 0 where
    pub front : List Deed
    pub by : Deed
    pub back : List Deed
    pub cut : new ≡ front ++ by ∷ back
    pub free : is_muted o (sofar ++ front) ≡ false
    pub muted : is_muted o ((sofar ++ front) ++ by ∷ []) ≡ true

  later_turn : (sofar : List Deed) (d : Deed) (new : List Deed) → Turns (sofar ++ d ∷ []) new → Turns sofar (d ∷ new)
  later_turn sofar d new turn = record {
    front = d ∷ turn.front;
    by = turn.by;
    back = turn.back;
    cut = ap (λ (ds : List Deed). d ∷ ds) turn.cut;
    free = ap (is_muted o) (sym (append_assoc sofar (d ∷ []) turn.front)) ∙ turn.free;
    muted = ap (λ (ds : List Deed). is_muted o (ds ++ turn.by ∷ [])) (sym (append_assoc sofar (d ∷ []) turn.front)) ∙ turn.muted;
  }

  first_turn : (sofar : List Deed) (d : Deed) (new : List Deed) → is_muted o sofar ≡ false → is_muted o (sofar ++ d ∷ []) ≡ true → Turns sofar (d ∷ new)
  first_turn sofar d new free muted = record {
    front = [];
    by = d;
    back = new;
    cut = refl;
    free = ap (is_muted o) (append-nil sofar) ∙ free;
    muted = ap (λ (ds : List Deed). is_muted o (ds ++ d ∷ [])) (append-nil sofar) ∙ muted;
  }

  turns : (sofar new : List Deed) → is_muted o sofar ≡ false → is_muted o (sofar ++ new) ≡ true → Turns sofar new
  turns sofar [] free muted = absurd (both_ways (is_muted o sofar) free (ap (is_muted o) (sym (append-nil sofar)) ∙ muted))
  turns sofar (d ∷ new) free muted =
      (elim (is_muted o (sofar ++ d ∷ [])) as (λ (m : Bool). is_muted o (sofar ++ d ∷ []) ≡ m → Turns sofar (d ∷ new)) [
        | true ↦ λ now. first_turn sofar d new free now
        | false ↦ λ still. later_turn sofar d new (turns (sofar ++ d ∷ []) new still (ap (is_muted o) (append_assoc sofar (d ∷ []) new) ∙ muted))
      ]) refl

  turned : (sofar new : List Deed) → Turns sofar new → is_muted o (sofar ++ new) ≡ true
  turned sofar new turn =
      ap (λ (ds : List Deed). is_muted o (sofar ++ ds)) turn.cut
      ∙ ap (is_muted o) (sym (append_assoc sofar turn.front (turn.by ∷ turn.back)) ∙ sym (append_assoc (sofar ++ turn.front) (turn.by ∷ []) turn.back))
      ∙ muted_stays o false ((sofar ++ turn.front) ++ turn.by ∷ []) turn.back turn.muted

  -- where the callbacks up to it are all that it was told
  muted_by_turn : (told more : List Callback) (sofar new : List Deed) → (turn : Turns sofar new) → told_in o sofar ≡ on.Create ∷ told → told_in o (turn.front ++ turn.by ∷ []) ≡ more
      → IsMutedWith o (told ++ more) (sofar ++ new)
  muted_by_turn told more sofar new turn calls own = record {
    before = sofar ++ turn.front;
    by = turn.by;
    after = turn.back;
    cut = ap (λ (ds : List Deed). sofar ++ ds) turn.cut ∙ sym (append_assoc sofar turn.front (turn.by ∷ turn.back));
    free = turn.free;
    muted = turn.muted;
    calls = ap (told_in o) (append_assoc sofar turn.front (turn.by ∷ [])) ∙ told_append sofar (turn.front ++ turn.by ∷ [])
        ∙ ap (λ (cs : List Callback). cs ++ told_in o (turn.front ++ turn.by ∷ [])) calls ∙ ap (λ (cs : List Callback). on.Create ∷ (told ++ cs)) own;
  }

  nothing_front : (xs ys : List Callback) → xs ++ ys ≡ [] → xs ≡ []
  nothing_front [] ys h = refl
  nothing_front (x ∷ xs) ys h = absurd cc

  silent_front : (sofar new : List Deed) → (turn : Turns sofar new) → told_in o new ≡ [] → told_in o (turn.front ++ turn.by ∷ []) ≡ []
  silent_front sofar new turn silent =
      nothing_front (told_in o (turn.front ++ turn.by ∷ [])) (told_in o turn.back)
      (sym (told_append (turn.front ++ turn.by ∷ []) turn.back) ∙ ap (told_in o) (append_assoc turn.front (turn.by ∷ []) turn.back) ∙ ap (told_in o) (sym turn.cut) ∙ silent)

  -- ---- callbacks made one by one

  -- some callbacks were made, up to where the subscription was muted
  record Cut (sofar : List Deed) (candidates : List Callback) (new : List Deed) : Type 0 where
    pub told : List Callback
    pub left : List Callback
    pub whole : candidates ≡ told ++ left
    pub calls : told_in o new ≡ told
    pub ended : ((left ≡ []) × (is_muted o (sofar ++ new) ≡ false)) ⊎ ((turn : Turns sofar new) × (told_in o (turn.front ++ turn.by ∷ []) ≡ told))

  plain_first : (c : Callback) → is_plain c ≡ true → is_destroy c ≡ false
  plain_first on.Create plain = refl
  plain_first (on.Msg m q) plain = refl
  plain_first (on.Quality q n) plain = refl
  plain_first (on.Gap first to) plain = refl
  plain_first (on.RecapRequest sender) plain = refl
  plain_first (on.Late a k) plain = refl
  plain_first (on.Error e) plain = refl
  plain_first on.Destroy plain = absurd cc
  plain_first (on.Tick t) plain = refl
  plain_first (on.Reply b) plain = refl

  both_of : (a b : Bool) → (a && b) ≡ true → (a ≡ true) × (b ≡ true)
  both_of true b h = (refl, h)
  both_of false b h = cc

  muted_made : (sofar : List Deed) (cs : List Callback) → is_muted o sofar ≡ true → list_all is_plain cs ≡ true → made orders o sofar cs ≡ []
  muted_made sofar [] muted plain = refl
  muted_made sofar (c ∷ cs) muted plain =
      let parts = both_of (is_plain c) (list_all is_plain cs) plain in
      let deed : Deed = called o c (orders o (length (calls_of o sofar) + 1)) in
      ap (λ (m : Bool). if m && not (is_destroy c) then made orders o sofar cs else (deed ∷ made orders o (sofar ++ deed ∷ []) cs)) muted
      ∙ ap (λ (d : Bool). if not d then made orders o sofar cs else (deed ∷ made orders o (sofar ++ deed ∷ []) cs)) (plain_first c parts.0)
      ∙ muted_made sofar cs muted parts.1

  open_made : (sofar : List Deed) (c : Callback) (cs : List Callback) → is_muted o sofar ≡ false
      → (let deed : Deed = called o c (orders o (length (calls_of o sofar) + 1)) in
      made orders o sofar (c ∷ cs) ≡ deed ∷ made orders o (sofar ++ deed ∷ []) cs)
  open_made sofar c cs live =
      let deed : Deed = called o c (orders o (length (calls_of o sofar) + 1)) in
      ap (λ (m : Bool). if m && not (is_destroy c) then made orders o sofar cs else (deed ∷ made orders o (sofar ++ deed ∷ []) cs)) live

  -- the callback that mutes it is the last
  cut_here : (sofar : List Deed) (c : Callback) (os : List Order) (cs : List Callback) → list_all is_plain cs ≡ true → is_muted o sofar ≡ false → is_muted o (sofar ++ called o c os ∷ []) ≡ true
      → Cut sofar (c ∷ cs) (called o c os ∷ made orders o (sofar ++ called o c os ∷ []) cs)
  unfolding first_turn
  cut_here sofar c os cs plains free muted = record {
    told = c ∷ [];
    left = cs;
    whole = refl;
    calls = own_told c os (made orders o (sofar ++ called o c os ∷ []) cs)
        ∙ ap (λ (ds : List Deed). c ∷ told_in o ds) (muted_made (sofar ++ called o c os ∷ []) cs muted plains);
    ended = inr (first_turn sofar (called o c os) (made orders o (sofar ++ called o c os ∷ []) cs) free muted, own_told c os []);
  }

  cut_later : (sofar : List Deed) (c : Callback) (os : List Order) (cs : List Callback) → (let next : List Deed = sofar ++ called o c os ∷ [] in
      Cut next cs (made orders o next cs) → Cut sofar (c ∷ cs) (called o c os ∷ made orders o next cs))
  unfolding later_turn
  cut_later sofar c os cs rest =
      let next : List Deed = sofar ++ called o c os ∷ [] in
      let same : (b : Bool) → is_muted o (next ++ made orders o next cs) ≡ b → is_muted o (sofar ++ called o c os ∷ made orders o next cs) ≡ b =
      λ b h. ap (is_muted o) (sym (append_assoc sofar (called o c os ∷ []) (made orders o next cs))) ∙ h in
      record {
        told = c ∷ rest.told;
        left = rest.left;
        whole = ap (λ (xs : List Callback). c ∷ xs) rest.whole;
        calls = own_told c os (made orders o next cs) ∙ ap (λ (xs : List Callback). c ∷ xs) rest.calls;
        ended = ⊎_elim (λ h. inl (h.0, same false h.1))
            (λ h. inr (later_turn sofar (called o c os) (made orders o next cs) h.0, own_told c os (h.0.front ++ h.0.by ∷ []) ∙ ap (λ (xs : List Callback). c ∷ xs) h.1)) rest.ended;
      }

  cut : (sofar : List Deed) (cs : List Callback) → is_muted o sofar ≡ false → list_all is_plain cs ≡ true → Cut sofar cs (made orders o sofar cs)
  cut sofar [] live plain = record { told = []; left = []; whole = refl; calls = refl; ended = inl (refl, ap (is_muted o) (append-nil sofar) ∙ live) }
  cut sofar (c ∷ cs) live plain =
      let os : List Order = orders o (length (calls_of o sofar) + 1) in
      let next : List Deed = sofar ++ called o c os ∷ [] in
      let plains = both_of (is_plain c) (list_all is_plain cs) plain in
      subst (Cut sofar (c ∷ cs)) (sym (open_made sofar c cs live))
      ((elim (is_muted o next) as (λ (m : Bool). is_muted o next ≡ m → Cut sofar (c ∷ cs) (called o c os ∷ made orders o next cs)) [
        | true ↦ λ muted. cut_here sofar c os cs plains.1 live muted
        | false ↦ λ still. cut_later sofar c os cs (cut next cs still plains.1)
      ]) refl)

  -- ---- a live object

  -- it is not muted, and all its callbacks were made, or it was muted; Known is what else is known while it is not
  abbrev pub Stands : (List Deed → Type 0) → List Callback → List Callback → List Deed → Type 0
  Stands Known told left ds = ((left ≡ []) × ((is_muted o ds ≡ false) × Known ds)) ⊎ (IsMutedWith o told ds × (is_muted o ds ≡ true))

  -- what it was told of some callbacks, and what was left out since it was muted
  pub record Live (Known : List Deed → Type 0) (whole : List Callback) (sofar : List Deed) : Type 0 where
    pub told : List Callback
    pub left : List Callback
    pub parts : whole ≡ told ++ left
    pub calls : told_in o sofar ≡ on.Create ∷ told
    pub stands : Stands Known told left sofar

  muted_more : (told : List Callback) (sofar new : List Deed) → IsMutedWith o told sofar → IsMutedWith o told (sofar ++ new)
  muted_more told sofar new with_ = record {
    before = with_.before;
    by = with_.by;
    after = with_.after ++ new;
    cut = ap (λ (ds : List Deed). ds ++ new) with_.cut ∙ append_assoc with_.before (with_.by ∷ with_.after) new;
    free = with_.free;
    muted = with_.muted;
    calls = with_.calls;
  }

  free_more : (sofar new : List Deed) → IsNotMuted o sofar → IsNotMuted o (sofar ++ new)
  free_more sofar new free = record {
    before = free.before;
    orders = free.orders;
    after = free.after ++ new;
    cut = ap (λ (ds : List Deed). ds ++ new) free.cut ∙ append_assoc free.before (called o on.Destroy free.orders ∷ free.after) new;
    free = free.free;
  }

  -- where it stands after deeds that made no callback of it
  stands_now : (Known : List Deed → Type 0) (told : List Callback) (sofar new : List Deed) → is_muted o sofar ≡ false → told_in o sofar ≡ on.Create ∷ told → told_in o new ≡ []
      → Known (sofar ++ new) → Stands Known told [] (sofar ++ new)
  stands_now Known told sofar new free calls silent known = by_case (is_muted o (sofar ++ new)) refl
    where
      by_case : (m : Bool) → is_muted o (sofar ++ new) ≡ m → Stands Known told [] (sofar ++ new)
      by_case true muted =
          let turn : Turns sofar new = turns sofar new free muted in
          inr (subst (λ (cs : List Callback). IsMutedWith o cs (sofar ++ new)) (append-nil told) (muted_by_turn told [] sofar new turn calls (silent_front sofar new turn silent)), muted)
      by_case false live = inl (refl, (live, known))

  -- an event of another object
  live_other : (Known : List Deed → Type 0) (whole : List Callback) (sofar new : List Deed) → told_in o new ≡ [] → (Known sofar → Known (sofar ++ new))
      → Live Known whole sofar → Live Known whole (sofar ++ new)
  live_other Known whole sofar new silent keeps live =
      let calls : told_in o (sofar ++ new) ≡ on.Create ∷ live.told =
      told_append sofar new ∙ ap (λ (cs : List Callback). told_in o sofar ++ cs) silent ∙ append-nil (told_in o sofar) ∙ live.calls in
      record {
        told = live.told;
        left = live.left;
        parts = live.parts;
        calls = calls;
        stands = ⊎_elim
            (λ h. subst (λ (left : List Callback). Stands Known live.told left (sofar ++ new)) (sym h.0) (stands_now Known live.told sofar new h.1.0 live.calls silent (keeps h.1.1)))
            (λ h. inr (muted_more live.told sofar new h.0, muted_stays o false sofar new h.1))
            live.stands;
      }

  -- callbacks of its own, where it is not muted: those before mid are those before
  pub live_open : (Known Next : List Deed → Type 0) (whole cs : List Callback) (sofar mid : List Deed) → (live : Live Known whole sofar) → live.left ≡ []
      → told_in o mid ≡ told_in o sofar → is_muted o mid ≡ false → list_all is_plain cs ≡ true → Next (mid ++ made orders o mid cs)
      → Live Next (whole ++ cs) (mid ++ made orders o mid cs)
  live_open Known Next whole cs sofar mid live all same hearing plain next =
      let new : List Deed = made orders o mid cs in
      let piece : Cut mid cs new = cut mid cs hearing plain in
      let calls : told_in o (mid ++ new) ≡ on.Create ∷ (live.told ++ piece.told) =
      told_append mid new ∙ ap (λ (xs : List Callback). xs ++ told_in o new) (same ∙ live.calls) ∙ ap (λ (xs : List Callback). on.Create ∷ (live.told ++ xs)) piece.calls in
      record {
        told = live.told ++ piece.told;
        left = piece.left;
        parts = ap (λ (xs : List Callback). xs ++ cs) (live.parts ∙ ap (λ (xs : List Callback). live.told ++ xs) all ∙ append-nil live.told)
            ∙ ap (λ (xs : List Callback). live.told ++ xs) piece.whole
            ∙ sym (append_assoc live.told piece.told piece.left);
        calls = calls;
        stands = ⊎_elim
            (λ h. inl (h.0, (h.1, next)))
            (λ h. inr (muted_by_turn live.told piece.told mid new h.0 (same ∙ live.calls) h.1, turned mid new h.0))
            piece.ended;
      }

  -- and where it is muted
  pub live_muted : (Known Next : List Deed → Type 0) (whole cs : List Callback) (sofar : List Deed) → (live : Live Known whole sofar)
      → IsMutedWith o live.told sofar → is_muted o sofar ≡ true → Live Next (whole ++ cs) sofar
  live_muted Known Next whole cs sofar live with_ muted = record {
    told = live.told;
    left = live.left ++ cs;
    parts = ap (λ (xs : List Callback). xs ++ cs) live.parts ∙ append_assoc live.told live.left cs;
    calls = live.calls;
    stands = inr (with_, muted);
  }

  -- one callback, be it muted or not
  pub live_one : (Known Next : List Deed → Type 0) (whole : List Callback) (c : Callback) (sofar : List Deed) → (Known sofar → Next (sofar ++ made orders o sofar (c ∷ []))) → is_plain c ≡ true
      → Live Known whole sofar → Live Next (whole ++ c ∷ []) (sofar ++ made orders o sofar (c ∷ []))
  live_one Known Next whole c sofar next plain live = ⊎_elim
      (λ h. live_open Known Next whole (c ∷ []) sofar sofar live h.0 refl h.1.0 (and_from (is_plain c) true plain refl) (next h.1.1))
      (λ h. subst (λ (ds : List Deed). Live Next (whole ++ c ∷ []) (sofar ++ ds)) (sym (muted_made sofar (c ∷ []) h.1 (and_from (is_plain c) true plain refl)))
      (subst (Live Next (whole ++ c ∷ [])) (sym (append-nil sofar)) (live_muted Known Next whole (c ∷ []) sofar live h.0 h.1)))
      live.stands

  -- ---- its notices

  create_first : (Known : List Deed → Type 0) (sofar : List Deed) → calls_of o sofar ≡ [] → ((os : List Order) → Known (sofar ++ called o on.Create os ∷ []))
      → Live Known [] (sofar ++ made orders o sofar (on.Create ∷ []))
  create_first Known sofar none known =
      let os : List Order = orders o (length (calls_of o sofar) + 1) in
      let calls : told_in o (sofar ++ called o on.Create os ∷ []) ≡ on.Create ∷ [] =
      told_append sofar (called o on.Create os ∷ [])
      ∙ ap (λ (cs : List (Callback × List Order)). map call_in cs ++ told_in o (called o on.Create os ∷ [])) none ∙ own_told on.Create os [] in
      subst (λ (ds : List Deed). Live Known [] (sofar ++ ds)) (sym (open_made sofar on.Create [] (unbegun o sofar none).1))
      (record { told = []; left = []; parts = refl; calls = calls; stands = created os calls (is_muted o (sofar ++ called o on.Create os ∷ [])) refl })
    where
      created : (os : List Order) → told_in o (sofar ++ called o on.Create os ∷ []) ≡ on.Create ∷ [] → (m : Bool) → is_muted o (sofar ++ called o on.Create os ∷ []) ≡ m
          → Stands Known [] [] (sofar ++ called o on.Create os ∷ [])
      created os calls true muted = inr (record { before = sofar; by = called o on.Create os; after = []; cut = refl; free = (unbegun o sofar none).1; muted = muted; calls = calls }, muted)
      created os calls false live = inl (refl, (live, known os))

  gone_last : (Known : List Deed → Type 0) (whole : List Callback) (sofar : List Deed) → Live Known whole sofar
      → (let ds : List Deed = sofar ++ made orders o sofar (on.Destroy ∷ []) in IsTold o whole ds (told_in o ds))
  gone_last Known whole sofar live =
      let os : List Order = orders o (length (calls_of o sofar) + 1) in
      subst (λ (ds : List Deed). IsTold o whole (sofar ++ ds) (told_in o (sofar ++ ds))) (sym (one os (is_muted o sofar))) (record {
        told = live.told;
        left = live.left;
        parts = live.parts;
        calls = told_append sofar (called o on.Destroy os ∷ [])
            ∙ ap (λ (cs : List Callback). told_in o sofar ++ cs) (own_told on.Destroy os [])
            ∙ ap (λ (cs : List Callback). cs ++ on.Destroy ∷ []) live.calls;
        ended = ⊎_elim (λ h. inl (h.0, record { before = sofar; orders = os; after = []; cut = refl; free = h.1.0 })) (λ h. inr (muted_more live.told sofar (called o on.Destroy os ∷ []) h.0)) live.stands;
      })
    where
      one : (os : List Order) (m : Bool) → (if m && false then [] else called o on.Destroy os ∷ []) ≡ called o on.Destroy os ∷ []
      one os true = refl
      one os false = refl

  told_other : (whole : List Callback) (sofar new : List Deed) → told_in o new ≡ [] → IsTold o whole sofar (told_in o sofar) → IsTold o whole (sofar ++ new) (told_in o (sofar ++ new))
  told_other whole sofar new silent told = record {
    told = told.told;
    left = told.left;
    parts = told.parts;
    calls = told_append sofar new ∙ ap (λ (cs : List Callback). told_in o sofar ++ cs) silent ∙ append-nil (told_in o sofar) ∙ told.calls;
    ended = ⊎_elim (λ h. inl (h.0, free_more sofar new h.1)) (λ h. inr (muted_more told.told sofar new h)) told.ended;
  }

  -- ---- along a journal

  abbrev walk : List (ℕ × QueueNote) → List Deed → List (ℕ × QueueNote) → List Deed
  walk before sofar es = puts_so_far (λ b d (e : ℕ × QueueNote). served orders b d e.1) before sofar es

  abbrev grown : List (ℕ × QueueNote) → List Deed → ℕ × QueueNote → List Deed
  grown before sofar e = sofar ++ served orders before sofar e.1

  abbrev make_of : ℕ × QueueNote → Option Make
  make_of f = make_in o f.1

  -- the events of the object are those of an entry and those of the rest
  events_none : (e : ℕ × QueueNote) (es : List (ℕ × QueueNote)) (rest : List QueueNote) → is_of o e.1 ≡ false → events_of o (e ∷ es) ≡ rest → events_of o es ≡ rest
  events_none e es rest other h = ap (λ (b : Bool). if b then e.1 ∷ events_of o es else events_of o es) (sym other) ∙ h

  events_one : (e : ℕ × QueueNote) (es : List (ℕ × QueueNote)) (rest : List QueueNote) → is_of o e.1 ≡ true → events_of o (e ∷ es) ≡ rest → e.1 ∷ events_of o es ≡ rest
  events_one e es rest own h = ap (λ (b : Bool). if b then e.1 ∷ events_of o es else events_of o es) (sym own) ∙ h

  none_left : {X Y : Type 0} (f : X → Y) (xs : List X) → map f xs ≡ [] → xs ≡ []
  none_left f [] h = refl
  none_left f (x ∷ xs) h = absurd cc

  walk_gone : (whole : List Callback) (before : List (ℕ × QueueNote)) (sofar : List Deed) (es : List (ℕ × QueueNote)) → events_of o es ≡ []
      → IsTold o whole sofar (told_in o sofar) → IsTold o whole (walk before sofar es) (told_in o (walk before sofar es))
  walk_gone whole before sofar [] none told = told
  walk_gone whole before sofar (e ∷ es) none told =
      (elim (is_of o e.1) as (λ (b : Bool). is_of o e.1 ≡ b → IsTold o whole (walk before sofar (e ∷ es)) (told_in o (walk before sofar (e ∷ es)))) [
        | true ↦ λ own. let some : e.1 ∷ events_of o es ≡ [] = events_one e es [] own none in absurd cc
        | false ↦ λ other.
            walk_gone whole (before ++ e ∷ []) (grown before sofar e) es (events_none e es [] other none)
            (told_other whole sofar (served orders before sofar e.1) (other_told before sofar e.1 other) told)
      ]) refl

  walk_silent : (before : List (ℕ × QueueNote)) (sofar : List Deed) (es : List (ℕ × QueueNote)) → events_of o es ≡ [] → told_in o sofar ≡ [] → told_in o (walk before sofar es) ≡ []
  walk_silent before sofar [] none silent = silent
  walk_silent before sofar (e ∷ es) none silent =
      (elim (is_of o e.1) as (λ (b : Bool). is_of o e.1 ≡ b → told_in o (walk before sofar (e ∷ es)) ≡ []) [
        | true ↦ λ own. let some : e.1 ∷ events_of o es ≡ [] = events_one e es [] own none in absurd cc
        | false ↦ λ other.
            walk_silent (before ++ e ∷ []) (grown before sofar e) es (events_none e es [] other none)
            (told_append sofar (served orders before sofar e.1) ∙ ap (λ (cs : List Callback). cs ++ told_in o (served orders before sofar e.1)) silent ∙ other_told before sofar e.1 other)
      ]) refl

  -- where a journal has none of its events it was told nothing
  pub told_nothing : (front : List (ℕ × QueueNote)) → events_of o front ≡ [] → told_in o (deeds orders front) ≡ []
  told_nothing front none = walk_silent [] [] front none refl

  -- the Create is what makes it
  pub made_as : (front : List (ℕ × QueueNote)) (slot : ℕ) (how : Make) (tag : ObjectId) (rest : List QueueNote) → events_of o front ≡ q.Create slot o how tag ∷ rest → first_said make_of front ≡ Some how
  made_as [] slot how tag rest events = absurd cc
  made_as (e ∷ es) slot how tag rest events =
      (elim (is_of o e.1) as (λ (b : Bool). is_of o e.1 ≡ b → first_said make_of (e ∷ es) ≡ Some how) [
        | true ↦ λ mine.
            let is : e.1 ∷ events_of o es ≡ q.Create slot o how tag ∷ rest = events_one e es (q.Create slot o how tag ∷ rest) mine events in
            let this : e.1 ≡ q.Create slot o how tag = cc in
            ap (λ (n : QueueNote). option_or (make_in o n) (first_said make_of es)) this ∙ ap (λ (b : Bool). option_or (if b then Some how else None) (first_said make_of es)) (same_object-refl o)
        | false ↦ λ other.
            ap (λ (m : Option Make). option_or m (first_said make_of es)) (other_make e.1 other)
            ∙ made_as es slot how tag rest (events_none e es (q.Create slot o how tag ∷ rest) other events)
      ]) refl

  -- Each event of the object between its Create and its Gone is note x, of some x, which adds its callbacks to those of
  -- the ones before it.
  module _ {X : Type 0} (how : Make) (note : X → QueueNote) (total : List X → List Callback) (Known : List X → List Deed → Type 0) (nothing : total [] ≡ [])
      (keeps : (xs : List X) (before : List (ℕ × QueueNote)) (sofar : List Deed) (other : QueueNote) → is_of o other ≡ false → Known xs sofar → Known xs (sofar ++ served orders before sofar other))
      (starts : (sofar : List Deed) (os : List Order) → Known [] sofar → Known [] (sofar ++ called o on.Create os ∷ []))
      (own : (xs : List X) (x : X) (before : List (ℕ × QueueNote)) (sofar : List Deed) → first_said make_of before ≡ Some how → Live (Known xs) (total xs) sofar
      → Live (Known (xs ++ x ∷ [])) (total (xs ++ x ∷ [])) (sofar ++ served orders before sofar (note x)))
      (slot : ℕ) (tag : ObjectId) where
    abbrev later_stream : List X → List QueueNote
    later_stream xs = map note xs ++ q.Gone slot o ∷ []

    abbrev stream : List X → List QueueNote
    stream xs = q.Create slot o how tag ∷ later_stream xs

    -- the last event of the object
    at_gone : (xs : List X) (before : List (ℕ × QueueNote)) (sofar : List Deed) (e : ℕ × QueueNote) (es : List (ℕ × QueueNote))
        → e.1 ∷ events_of o es ≡ q.Gone slot o ∷ [] → Live (Known xs) (total xs) sofar
        → IsTold o (total (xs ++ [])) (walk before sofar (e ∷ es)) (told_in o (walk before sofar (e ∷ es)))
    at_gone xs before sofar e es is live =
        let this : e.1 ≡ q.Gone slot o = cc in
        let rest : events_of o es ≡ [] = cc in
        subst (λ (ys : List X). IsTold o (total ys) (walk before sofar (e ∷ es)) (told_in o (walk before sofar (e ∷ es)))) (sym (append-nil xs))
        (walk_gone (total xs) (before ++ e ∷ []) (grown before sofar e) es rest
        (subst (λ (n : QueueNote). IsTold o (total xs) (sofar ++ served orders before sofar n) (told_in o (sofar ++ served orders before sofar n))) (sym this)
        (gone_last (Known xs) (total xs) sofar live)))

    no_events : (later : List X) → [] ≡ later_stream later → ⊥
    no_events [] h = cc
    no_events (x ∷ later) h = cc

    walk_live : (es : List (ℕ × QueueNote)) (later xs : List X) (before : List (ℕ × QueueNote)) (sofar : List Deed)
        → first_said make_of before ≡ Some how → events_of o es ≡ later_stream later
        → Live (Known xs) (total xs) sofar → IsTold o (total (xs ++ later)) (walk before sofar es) (told_in o (walk before sofar es))
    walk_live [] later xs before sofar said events live = absurd (no_events later events)
    walk_live (e ∷ es) [] xs before sofar said events live =
        (elim (is_of o e.1) as (λ (b : Bool). is_of o e.1 ≡ b → IsTold o (total (xs ++ [])) (walk before sofar (e ∷ es)) (told_in o (walk before sofar (e ∷ es)))) [
          | true ↦ λ mine. at_gone xs before sofar e es (events_one e es (later_stream []) mine events) live
          | false ↦ λ other.
              walk_live es [] xs (before ++ e ∷ []) (grown before sofar e) (said_more make_of before (e ∷ []) how said)
              (events_none e es (later_stream []) other events)
              (live_other (Known xs) (total xs) sofar (served orders before sofar e.1) (other_told before sofar e.1 other) (keeps xs before sofar e.1 other) live)
        ]) refl
    walk_live (e ∷ es) (x ∷ later) xs before sofar said events live =
        (elim (is_of o e.1) as (λ (b : Bool). is_of o e.1 ≡ b → IsTold o (total (xs ++ x ∷ later)) (walk before sofar (e ∷ es)) (told_in o (walk before sofar (e ∷ es)))) [
          | true ↦ λ mine.
              let is : e.1 ∷ events_of o es ≡ note x ∷ later_stream later = events_one e es (later_stream (x ∷ later)) mine events in
              let this : e.1 ≡ note x = cc in
              let rest : events_of o es ≡ later_stream later = cc in
              subst (λ (ys : List X). IsTold o (total ys) (walk before sofar (e ∷ es)) (told_in o (walk before sofar (e ∷ es)))) (append_assoc xs (x ∷ []) later)
              (walk_live es later (xs ++ x ∷ []) (before ++ e ∷ []) (grown before sofar e) (said_more make_of before (e ∷ []) how said) rest
              (subst (λ (n : QueueNote). Live (Known (xs ++ x ∷ [])) (total (xs ++ x ∷ [])) (sofar ++ served orders before sofar n)) (sym this) (own xs x before sofar said live)))
          | false ↦ λ other.
              walk_live es (x ∷ later) xs (before ++ e ∷ []) (grown before sofar e) (said_more make_of before (e ∷ []) how said)
              (events_none e es (later_stream (x ∷ later)) other events)
              (live_other (Known xs) (total xs) sofar (served orders before sofar e.1) (other_told before sofar e.1 other) (keeps xs before sofar e.1 other) live)
        ]) refl

    created_live : (before : List (ℕ × QueueNote)) (sofar : List Deed) (e : ℕ × QueueNote) → e.1 ≡ q.Create slot o how tag → told_in o sofar ≡ [] → Known [] sofar
        → Live (Known []) (total []) (grown before sofar e)
    created_live before sofar e this silent known =
        subst (λ (n : QueueNote). Live (Known []) (total []) (sofar ++ served orders before sofar n)) (sym this)
        (subst (λ (cs : List Callback). Live (Known []) cs (sofar ++ made orders o sofar (on.Create ∷ []))) (sym nothing)
        (create_first (Known []) sofar (none_left call_in (calls_of o sofar) silent) (λ os. starts sofar os known)))

    made_by : (before : List (ℕ × QueueNote)) (e : ℕ × QueueNote) → first_said make_of before ≡ None → e.1 ≡ q.Create slot o how tag → first_said make_of (before ++ e ∷ []) ≡ Some how
    made_by before e unsaid this = said_last make_of before e unsaid ∙ ap (make_in o) this ∙ ap (λ (b : Bool). if b then Some how else None) (same_object-refl o)

    walk_from : (xs : List X) (before : List (ℕ × QueueNote)) (sofar : List Deed) (es : List (ℕ × QueueNote))
        → first_said make_of before ≡ None → told_in o sofar ≡ [] → Known [] sofar → events_of o es ≡ stream xs
        → IsTold o (total xs) (walk before sofar es) (told_in o (walk before sofar es))
    walk_from xs before sofar [] unsaid silent known events = absurd cc
    walk_from xs before sofar (e ∷ es) unsaid silent known events =
        (elim (is_of o e.1) as (λ (b : Bool). is_of o e.1 ≡ b → IsTold o (total xs) (walk before sofar (e ∷ es)) (told_in o (walk before sofar (e ∷ es)))) [
          | true ↦ λ mine.
              let is : e.1 ∷ events_of o es ≡ q.Create slot o how tag ∷ later_stream xs = events_one e es (stream xs) mine events in
              let this : e.1 ≡ q.Create slot o how tag = cc in
              let rest : events_of o es ≡ later_stream xs = cc in
              walk_live es xs [] (before ++ e ∷ []) (grown before sofar e) (made_by before e unsaid this) rest (created_live before sofar e this silent known)
          | false ↦ λ other.
              walk_from xs (before ++ e ∷ []) (grown before sofar e) es (said_last make_of before e unsaid ∙ other_make e.1 other)
              (told_append sofar (served orders before sofar e.1) ∙ ap (λ (cs : List Callback). cs ++ told_in o (served orders before sofar e.1)) silent ∙ other_told before sofar e.1 other)
              (keeps [] before sofar e.1 other known)
              (events_none e es (stream xs) other events)
        ]) refl

    -- the object while its Gone was not taken
    walk_notes : (es : List (ℕ × QueueNote)) (later xs : List X) (before : List (ℕ × QueueNote)) (sofar : List Deed)
        → first_said make_of before ≡ Some how → events_of o es ≡ map note later
        → Live (Known xs) (total xs) sofar → Live (Known (xs ++ later)) (total (xs ++ later)) (walk before sofar es)
    walk_notes [] [] xs before sofar said events live = subst (λ (ys : List X). Live (Known ys) (total ys) sofar) (sym (append-nil xs)) live
    walk_notes [] (x ∷ later) xs before sofar said events live = absurd cc
    walk_notes (e ∷ es) [] xs before sofar said events live =
        (elim (is_of o e.1) as (λ (b : Bool). is_of o e.1 ≡ b → Live (Known (xs ++ [])) (total (xs ++ [])) (walk before sofar (e ∷ es))) [
          | true ↦ λ mine. let some : e.1 ∷ events_of o es ≡ [] = events_one e es [] mine events in absurd cc
          | false ↦ λ other.
              walk_notes es [] xs (before ++ e ∷ []) (grown before sofar e) (said_more make_of before (e ∷ []) how said) (events_none e es [] other events)
              (live_other (Known xs) (total xs) sofar (served orders before sofar e.1) (other_told before sofar e.1 other) (keeps xs before sofar e.1 other) live)
        ]) refl
    walk_notes (e ∷ es) (x ∷ later) xs before sofar said events live =
        (elim (is_of o e.1) as (λ (b : Bool). is_of o e.1 ≡ b → Live (Known (xs ++ x ∷ later)) (total (xs ++ x ∷ later)) (walk before sofar (e ∷ es))) [
          | true ↦ λ mine.
              let is : e.1 ∷ events_of o es ≡ note x ∷ map note later = events_one e es (map note (x ∷ later)) mine events in
              let this : e.1 ≡ note x = cc in
              let rest : events_of o es ≡ map note later = cc in
              subst (λ (ys : List X). Live (Known ys) (total ys) (walk before sofar (e ∷ es))) (append_assoc xs (x ∷ []) later)
              (walk_notes es later (xs ++ x ∷ []) (before ++ e ∷ []) (grown before sofar e) (said_more make_of before (e ∷ []) how said) rest
              (subst (λ (n : QueueNote). Live (Known (xs ++ x ∷ [])) (total (xs ++ x ∷ [])) (sofar ++ served orders before sofar n)) (sym this) (own xs x before sofar said live)))
          | false ↦ λ other.
              walk_notes es (x ∷ later) xs (before ++ e ∷ []) (grown before sofar e) (said_more make_of before (e ∷ []) how said) (events_none e es (map note (x ∷ later)) other events)
              (live_other (Known xs) (total xs) sofar (served orders before sofar e.1) (other_told before sofar e.1 other) (keeps xs before sofar e.1 other) live)
        ]) refl

    walk_born : (xs : List X) (before : List (ℕ × QueueNote)) (sofar : List Deed) (es : List (ℕ × QueueNote))
        → first_said make_of before ≡ None → told_in o sofar ≡ [] → Known [] sofar → events_of o es ≡ q.Create slot o how tag ∷ map note xs
        → Live (Known xs) (total xs) (walk before sofar es)
    walk_born xs before sofar [] unsaid silent known events = absurd cc
    walk_born xs before sofar (e ∷ es) unsaid silent known events =
        (elim (is_of o e.1) as (λ (b : Bool). is_of o e.1 ≡ b → Live (Known xs) (total xs) (walk before sofar (e ∷ es))) [
          | true ↦ λ mine.
              let is : e.1 ∷ events_of o es ≡ q.Create slot o how tag ∷ map note xs = events_one e es (q.Create slot o how tag ∷ map note xs) mine events in
              let this : e.1 ≡ q.Create slot o how tag = cc in
              let rest : events_of o es ≡ map note xs = cc in
              walk_notes es xs [] (before ++ e ∷ []) (grown before sofar e) (made_by before e unsaid this) rest (created_live before sofar e this silent known)
          | false ↦ λ other.
              walk_born xs (before ++ e ∷ []) (grown before sofar e) es (said_last make_of before e unsaid ∙ other_make e.1 other)
              (told_append sofar (served orders before sofar e.1) ∙ ap (λ (cs : List Callback). cs ++ told_in o (served orders before sofar e.1)) silent ∙ other_told before sofar e.1 other)
              (keeps [] before sofar e.1 other known)
              (events_none e es (q.Create slot o how tag ∷ map note xs) other events)
        ]) refl

    -- while it is not muted, it was told all of its events
    pub told_at_once : (xs : List X) (front : List (ℕ × QueueNote)) → Known [] [] → events_of o front ≡ q.Create slot o how tag ∷ map note xs
        → is_muted o (deeds orders front) ≡ false → told_in o (deeds orders front) ≡ on.Create ∷ total xs
    told_at_once xs front known events free =
        let live : Live (Known xs) (total xs) (deeds orders front) = walk_born xs [] [] front refl refl known events in
        ⊎_elim
        (λ h. live.calls ∙ ap (λ (cs : List Callback). on.Create ∷ cs) (sym (live.parts ∙ ap (λ (cs : List Callback). live.told ++ cs) h.0 ∙ append-nil live.told)))
        (λ h. absurd (both_ways (is_muted o (deeds orders front)) free h.1))
        live.stands

    -- and what is known of its events is known
    pub known_at_once : (xs : List X) (front : List (ℕ × QueueNote)) → Known [] [] → events_of o front ≡ q.Create slot o how tag ∷ map note xs
        → is_muted o (deeds orders front) ≡ false → Known xs (deeds orders front)
    known_at_once xs front known events free =
        let live : Live (Known xs) (total xs) (deeds orders front) = walk_born xs [] [] front refl refl known events in
        ⊎_elim
        (λ h. h.1.1)
        (λ h. absurd (both_ways (is_muted o (deeds orders front)) free h.1))
        live.stands

    -- what a whole journal tells the object
    pub told_by_journal : (xs : List X) (journal : List (ℕ × QueueNote)) → Known [] [] → events_of o journal ≡ stream xs
        → IsTold o (total xs) (deeds orders journal) (told_in o (deeds orders journal))
    told_by_journal xs journal known events = walk_from xs [] [] journal refl refl known events
