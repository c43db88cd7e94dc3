-- Where a group is fresh, the last word that each member was told on quality is ok, and it is true of its image.
use Rattle.std.specs.Prelude.{◌⊎◌, not, fold, slice_index_or, Option, Some, Ok, Err, if◌then◌else◌}
use Rattle.std.specs.List.{AllByRecursion, list_any, list_all}
use Rattle.std.proofs.Common.{◌≡◌, ◌<◌, ℕ, ◌+◌, Bool, true, false, ◌&&◌, ◌||◌, List, [], ◌∷◌, ◌++◌, length, map, refl, ap, sym, subst, ◌∙◌, inl, inr, ⊎_elim}
use Rattle.std.proofs.lemmas.Bool.{or_parts, both_ways}
use Rattle.mama_journal.specs.Journal.{first_said}
use Rattle.mama_link.specs.Link.{through}
use Rattle.mama_event.specs.Arrival.{Arrival, arriving, cut_arrival, code_of}
use Rattle.mama_event.specs.Noted.{delivered_note}
use Rattle.mama_event.specs.Ports.{clients_of}
use Rattle.mama_event.specs.declared.to_bridge.SubTerms.{SubTerms}
use Rattle.mama_event.specs.Publisher.{PublisherScript}
use Rattle.mama_event.specs.declared.ids.SubId.{SubId}
use Rattle.mama_event.specs.declared.ids.ObjectId.{ObjectId}
use Rattle.mama_event.specs.declared.ids.ObjectId.TheVariants.{Sub, Timer, Inbox}
use Rattle.mama_event.specs.declared.market.MarketMsg.{MarketMsg}
use Rattle.mama_event.specs.declared.market.SubKind.{SubKind}
use Rattle.mama_event.specs.declared.market.SubKind.TheVariants.{Market}
use Rattle.mama_event.specs.declared.market.Quality.{Quality}
use Rattle.mama_event.specs.declared.market.Quality.TheVariants as quality
use Rattle.mama_event.specs.declared.shape.Strategy.{Strategy}
use Rattle.mama_event.specs.declared.callback.Callback.{Callback}
use Rattle.mama_event.specs.declared.callback.Callback.TheVariants as on
use Rattle.mama_event.specs.declared.order.Order.{Order}
use Rattle.mama_event.specs.declared.group.GroupState.TheVariants as state
use Rattle.mama_event.specs.declared.to_queue.Make.{Make}
use Rattle.mama_event.specs.declared.to_queue.Make.TheVariants as make
use Rattle.mama_event.specs.declared.to_queue.QueueNote.{QueueNote}
use Rattle.mama_event.specs.declared.to_queue.QueueNote.TheVariants as q
use Rattle.mama_dq.specs.declared.table.Phase.{Phase}
use Rattle.mama_dq.specs.declared.table.Phase.TheVariants.{Await, LiveOk, LiveStale, LiveKept}
use Rattle.mama_dq.specs.Context.{ContextData, quality_in, new_context}
use Rattle.mama_dq.specs.Strategy as dq
use Rattle.mama_dq.specs.Strategy.{callbacks_of, after}
use Rattle.mama_dq.proofs.SameKind.{after_all_kind}
use Rattle.mama_dispatch.specs.Seating.{is_plain}
use Rattle.mama_dispatch.proofs.CallBound.{calls_plain}
use Rattle.mama_rules_queue.specs.Queue.{Deed, handled, called, calls_of, ends, orders_end_of, begins_in, stops_in, is_destroy, is_muted, is_muted_after, made, make_in, context_of, messages_of, served, deeds}
use Rattle.mama_rules_queue.specs.Group.{Member, waits, has, ended, member_after, member_by, is_ended, is_waiting, is_stale, state_of, member_in, group_state, group_notes}
use Rattle.mama_rules_services.specs.Bridge.{heard, window}
use Rattle.mama_script.specs.Script.{ScriptData}
use Rattle.mama_record.specs.RunData.{RunData, LastImage}
use Rattle.mama_rules_rounds.specs.Setting.{Grouped, orders_by}
use Rattle.mama_rules_rounds.specs.Sections.{setting_of, publishers_from}
use Rattle.mama_rules_rounds.specs.Told.{image_in}
use Rattle.mama_rules_legal.specs.Streams.{is_of, events_of, terms_of, IsSubJournal}
use Rattle.mama_rules_legal.specs.Legal.{IsLegal}
use Rattle.mama_laws_legal.specs.Laws.{IsOrderly}
use Rattle.mama_laws_legal.proofs.LegalRounds.{have_streams}
use Rattle.mama_laws_genuine.proofs.Elements.{all_if, all_left, all_at, all_puts_so_far, all_any}
use Rattle.mama_laws_genuine.proofs.Edged.{queues_sent}
use Rattle.mama_laws_genuine.proofs.Images.{Told, IsRecordIfOk, of_journal}
use Rattle.mama_laws_callbacks.specs.Told.{told_in, told_from, tells}
use Rattle.mama_laws_callbacks.specs.Word.{last_word, messages_read}
use Rattle.mama_laws_callbacks.specs.Grouped.{HasRecord, HasTrueStates, last_state}
use Rattle.mama_laws_callbacks.proofs.States.{state_is_told}
use Rattle.mama_laws_callbacks.proofs.Cutting.{told_nothing, made_as}
use Rattle.mama_laws_callbacks.proofs.Telling.{sub_told, sub_at_once, sub_handled}
use Rattle.mama_laws_callbacks.proofs.Words.{last_words_are_true}

-- a subscription of a queue that a group may have: a market subscription that no plan stops
pub record MayJoin (script : ScriptData) (run : RunData) (queue : ℕ) (s : SubId) : Type 0 where
  pub terms : SubTerms
  pub joined : terms_of script run s ≡ Some terms
  pub client : s.client < clients_of script.shape
  pub market : terms.kind ≡ Market
  pub there : terms.queue ≡ queue
  pub unstopped : (o : ObjectId) (call : ℕ) → list_any (ends (Sub s)) (orders_by (setting_of script) o call) ≡ false

-- ---- a member by its callbacks

fold_more : (m : Member) (xs ys : List Callback) → fold member_after m (xs ++ ys) ≡ fold member_after (fold member_after m xs) ys
fold_more m [] ys = refl
fold_more m (x ∷ xs) ys = fold_more (member_after m x) xs ys

destroyed : (m : Member) → member_after m on.Destroy ≡ ended
destroyed waits = refl
destroyed (has q) = refl
destroyed ended = refl

-- with its notice a member is ended
with_notice : (m : Member) (cs : List Callback) → fold member_after m (cs ++ on.Destroy ∷ []) ≡ ended
with_notice m cs = fold_more m cs (on.Destroy ∷ []) ∙ destroyed (fold member_after m cs)

-- the quality of one that has an image is the last word
has_word : (q : Quality) (cs : List Callback) → list_all is_plain cs ≡ true → fold member_after (has q) cs ≡ has (last_word q cs)
has_word q [] plain = refl
has_word q (on.Msg m r ∷ cs) plain = has_word r cs plain
has_word q (on.Quality r n ∷ cs) plain = has_word r cs plain
has_word q (on.Create ∷ cs) plain = absurd cc
has_word q (on.Gap first to ∷ cs) plain = has_word q cs plain
has_word q (on.RecapRequest sender ∷ cs) plain = has_word q cs plain
has_word q (on.Late sender seq ∷ cs) plain = has_word q cs plain
has_word q (on.Error code ∷ cs) plain = has_word q cs plain
has_word q (on.Destroy ∷ cs) plain = absurd cc
has_word q (on.Tick moment ∷ cs) plain = has_word q cs plain
has_word q (on.Reply body ∷ cs) plain = has_word q cs plain

same_quality : (q r : Quality) → has q ≡ has r → q ≡ r
same_quality q r e = cc

-- so it is of one that waited and has one, whatever word was before
waited_word : (w q : Quality) (cs : List Callback) → list_all is_plain cs ≡ true → fold member_after waits cs ≡ has q → last_word w cs ≡ q
waited_word w q [] plain is = absurd cc
waited_word w q (on.Msg m r ∷ cs) plain is = same_quality (last_word r cs) q (sym (has_word r cs plain) ∙ is)
waited_word w q (on.Quality r n ∷ cs) plain is = waited_word r q cs plain is
waited_word w q (on.Create ∷ cs) plain is = absurd cc
waited_word w q (on.Gap first to ∷ cs) plain is = waited_word w q cs plain is
waited_word w q (on.RecapRequest sender ∷ cs) plain is = waited_word w q cs plain is
waited_word w q (on.Late sender seq ∷ cs) plain is = waited_word w q cs plain is
waited_word w q (on.Error code ∷ cs) plain is = waited_word w q cs plain is
waited_word w q (on.Destroy ∷ cs) plain is = absurd cc
waited_word w q (on.Tick moment ∷ cs) plain is = waited_word w q cs plain is
waited_word w q (on.Reply body ∷ cs) plain is = waited_word w q cs plain is

all_plain : (xs ys : List Callback) → list_all is_plain xs ≡ true → list_all is_plain ys ≡ true → list_all is_plain (xs ++ ys) ≡ true
all_plain [] ys one two = two
all_plain (x ∷ xs) ys one two = step (is_plain x) (list_all is_plain xs) (list_all is_plain (xs ++ ys)) one (λ rest. all_plain xs ys rest two)
  where
    step : (a b c : Bool) → (a && b) ≡ true → (b ≡ true → c ≡ true) → (a && c) ≡ true
    step true b c h next = next h
    step false b c h next = absurd cc

-- a strategy tells no notice
tells_plain : (c : ContextData) (arrivals : List Arrival) → list_all is_plain (told_from c arrivals) ≡ true
tells_plain c [] = refl
tells_plain c (Ok m ∷ arrivals) = all_plain (callbacks_of c m) (told_from (after c m) arrivals) (calls_plain c m) (tells_plain (after c m) arrivals)
tells_plain c (Err piece ∷ arrivals) = tells_plain c arrivals

-- ---- a fresh group

abbrev IsQuiet : Member → Type 0
IsQuiet m = (is_waiting m ≡ false) × (is_stale m ≡ false)

fresh_tests : (a b c : Bool) → (if a then state.Ended else (if b then state.Waiting else (if c then state.Stale else state.Fresh))) ≡ state.Fresh → (b ≡ false) × (c ≡ false)
fresh_tests true b c h = absurd cc
fresh_tests false true c h = absurd cc
fresh_tests false false true h = absurd cc
fresh_tests false false false h = (refl, refl)

all_quiet : (ms : List Member) → list_any is_waiting ms ≡ false → list_any is_stale ms ≡ false → AllByRecursion IsQuiet ms
all_quiet [] waiting stale = tt
all_quiet (m ∷ ms) waiting stale =
    let w = or_parts (is_waiting m) (list_any is_waiting ms) waiting in
    let s = or_parts (is_stale m) (list_any is_stale ms) stale in
    ((w.0, s.0), all_quiet ms w.1 s.1)

fresh_quiet : (ms : List Member) → state_of ms ≡ state.Fresh → AllByRecursion IsQuiet ms
fresh_quiet ms fresh =
    let tests = fresh_tests (list_all is_ended ms) (list_any is_waiting ms) (list_any is_stale ms) fresh in
    all_quiet ms tests.0 tests.1

quiet_ok : (m : Member) → IsQuiet m → is_ended m ≡ false → m ≡ has quality.Ok
quiet_ok waits quiet other = absurd (both_ways true quiet.0 refl)
quiet_ok (has quality.Ok) quiet other = refl
quiet_ok (has quality.Stale) quiet other = absurd (both_ways true quiet.1 refl)
quiet_ok ended quiet other = absurd (both_ways true other refl)

-- ---- the events of an object up to a place

data Part {X : Type 0} (f : X → QueueNote) (first last : QueueNote) (xs : List X) (ys : List QueueNote) : Type 0 where
  none : ys ≡ [] → Part f first last xs ys
  some : (some_xs : List X) → ys ≡ first ∷ map f some_xs → Part f first last xs ys
  whole : ys ≡ first ∷ (map f xs ++ last ∷ []) → Part f first last xs ys

no_more : (ys zs : List QueueNote) → ys ++ zs ≡ [] → ys ≡ []
no_more [] zs h = refl
no_more (y ∷ ys) zs h = absurd cc

later_part : {X : Type 0} (f : X → QueueNote) (last : QueueNote) (xs : List X) (ys zs : List QueueNote) → ys ++ zs ≡ map f xs ++ last ∷ []
    → ((some_xs : List X) × (ys ≡ map f some_xs)) ⊎ (ys ≡ map f xs ++ last ∷ [])
later_part f last xs [] zs h = inl ([], refl)
later_part f last [] (y ∷ ys) zs h =
    let this : y ≡ last = cc in
    let rest : ys ++ zs ≡ [] = cc in
    inr (ap (λ (n : QueueNote). n ∷ ys) this ∙ ap (λ (ns : List QueueNote). last ∷ ns) (no_more ys zs rest))
later_part {X} f last (x ∷ xs) (y ∷ ys) zs h =
    let this : y ≡ f x = cc in
    let rest : ys ++ zs ≡ map f xs ++ last ∷ [] = cc in
    ⊎_elim
    (λ (p : (some_xs : List X) × (ys ≡ map f some_xs)). inl (x ∷ p.0, ap (λ (n : QueueNote). n ∷ ys) this ∙ ap (λ (ns : List QueueNote). f x ∷ ns) p.1))
    (λ (is : ys ≡ map f xs ++ last ∷ []). inr (ap (λ (n : QueueNote). n ∷ ys) this ∙ ap (λ (ns : List QueueNote). f x ∷ ns) is))
    (later_part f last xs ys zs rest)

part_of : {X : Type 0} (f : X → QueueNote) (first last : QueueNote) (xs : List X) (ys zs : List QueueNote) → ys ++ zs ≡ first ∷ (map f xs ++ last ∷ []) → Part f first last xs ys
part_of f first last xs [] zs h = none refl
part_of {X} f first last xs (y ∷ ys) zs h =
    let this : y ≡ first = cc in
    let rest : ys ++ zs ≡ map f xs ++ last ∷ [] = cc in
    ⊎_elim
    (λ (p : (some_xs : List X) × (ys ≡ map f some_xs)). some p.0 (ap (λ (n : QueueNote). n ∷ ys) this ∙ ap (λ (ns : List QueueNote). first ∷ ns) p.1))
    (λ (is : ys ≡ map f xs ++ last ∷ []). whole (ap (λ (n : QueueNote). n ∷ ys) this ∙ ap (λ (ns : List QueueNote). first ∷ ns) is))
    (later_part f last xs ys zs rest)

events_append : (o : ObjectId) (xs ys : List (ℕ × QueueNote)) → events_of o (xs ++ ys) ≡ events_of o xs ++ events_of o ys
events_append o [] ys = refl
events_append o (x ∷ xs) ys =
    ap (λ (ns : List QueueNote). if is_of o x.1 then x.1 ∷ ns else ns) (events_append o xs ys) ∙ swap (is_of o x.1)
  where
    swap : (b : Bool) → (if b then x.1 ∷ (events_of o xs ++ events_of o ys) else events_of o xs ++ events_of o ys) ≡ (if b then x.1 ∷ events_of o xs else events_of o xs) ++ events_of o ys
    swap true = refl
    swap false = refl

-- ---- an object that no order ends is not muted

module _ (orders : ObjectId → ℕ → List Order) (o : ObjectId) (unstopped : (x : ObjectId) (call : ℕ) → list_any (ends o) (orders x call) ≡ false) where
  abbrev IsHarmless : Deed → Type 0
  IsHarmless d = orders_end_of o d ≡ false

  harmless_made : (x : ObjectId) (sofar : List Deed) (cs : List Callback) → AllByRecursion IsHarmless (made orders x sofar cs)
  harmless_made x sofar [] = tt
  harmless_made x sofar (c ∷ cs) =
      let n : ℕ = length (calls_of x sofar) + 1 in
      let d : Deed = called x c (orders x n) in
      all_if IsHarmless (is_muted x sofar && not (is_destroy c)) (made orders x sofar cs) (d ∷ made orders x (sofar ++ d ∷ []) cs)
      (harmless_made x sofar cs) (unstopped x n, harmless_made x (sofar ++ d ∷ []) cs)

  harmless_served : (before : List (ℕ × QueueNote)) (sofar : List Deed) (n : QueueNote) → AllByRecursion IsHarmless (served orders before sofar n)
  harmless_served before sofar (q.Create slot object how tag) = harmless_made object sofar (on.Create ∷ [])
  harmless_served before sofar (q.Deliver slot sub msg) =
      let cs : List Callback = callbacks_of (context_of (first_said (λ (e : ℕ × QueueNote). make_in (Sub sub) e.1) before) (messages_of sub sofar)) msg in
      all_if IsHarmless (is_muted (Sub sub) sofar) [] (handled sub msg ∷ made orders (Sub sub) (sofar ++ handled sub msg ∷ []) cs) tt (refl, harmless_made (Sub sub) (sofar ++ handled sub msg ∷ []) cs)
  harmless_served before sofar (q.Reply slot inbox body) = harmless_made (Inbox inbox) sofar (on.Reply body ∷ [])
  harmless_served before sofar (q.Bad slot sub kind sender seq bytes) = harmless_made (Sub sub) sofar (on.Error (code_of bytes) ∷ [])
  harmless_served before sofar (q.BadReply slot inbox bytes) = harmless_made (Inbox inbox) sofar (on.Error (code_of bytes) ∷ [])
  harmless_served before sofar (q.Tick slot timer moment) = harmless_made (Timer timer) sofar (on.Tick moment ∷ [])
  harmless_served before sofar (q.Gone slot object) = harmless_made object sofar (on.Destroy ∷ [])
  harmless_served before sofar q.Fin = tt

  unmuted : (live : Bool) (ds : List Deed) → AllByRecursion IsHarmless ds → is_muted_after o live ds ≡ false
  unmuted live [] all = refl
  unmuted live (d ∷ ds) all =
      ap (λ (b : Bool). ((live || begins_in o d) && b) || is_muted_after o ((live || begins_in o d) && not (stops_in o d)) ds) all.0
      ∙ none_of (live || begins_in o d) (unmuted ((live || begins_in o d) && not (stops_in o d)) ds all.1)
    where
      none_of : (b : Bool) → is_muted_after o ((live || begins_in o d) && not (stops_in o d)) ds ≡ false → ((b && false) || is_muted_after o ((live || begins_in o d) && not (stops_in o d)) ds) ≡ false
      none_of true rest = rest
      none_of false rest = rest

  never_muted : (journal : List (ℕ × QueueNote)) → is_muted o (deeds orders journal) ≡ false
  never_muted journal =
      unmuted false (deeds orders journal)
      (all_puts_so_far (λ (e : ℕ × QueueNote). Unit {0}) IsHarmless (λ before sofar (e : ℕ × QueueNote). served orders before sofar e.1) (λ before sofar e all so h. harmless_served before sofar e.1)
      [] [] journal tt tt (all_any (λ (e : ℕ × QueueNote). Unit {0}) (λ e. tt) journal))

-- ---- the image

-- a context of a market subscription of which the quality is ok has an image
ok_image : (s : SubId) (c : ContextData) (kind : SubKind) (phase : Phase) → kind ≡ Market → quality_in phase ≡ quality.Ok
    → (image : LastImage) × (image_in s (record c { kind = kind; phase = phase }) ≡ image ∷ []) × (image.head.quality ≡ quality.Ok)
ok_image s c kind Await market ok = absurd cc
ok_image s c kind LiveStale market ok = absurd cc
ok_image s c kind LiveOk market ok = (
  record { sub = s; head = record { sender = c.sender; last = c.last; quality = quality_in LiveOk }; body = c.image },
  ap (λ (k : SubKind). image_in s (record c { kind = k; phase = LiveOk })) market,
  ok,
)
ok_image s c kind LiveKept market ok = (
  record { sub = s; head = record { sender = c.sender; last = c.last; quality = quality_in LiveKept }; body = c.image },
  ap (λ (k : SubKind). image_in s (record c { kind = k; phase = LiveKept })) market,
  ok,
)

module _ (script : ScriptData) (run : RunData) (orderly : IsOrderly script) (legal : IsLegal script run) (queue : ℕ) (s : SubId) (member : MayJoin script run queue s)
    (front back : List (ℕ × QueueNote)) (cut : slice_index_or run.queues queue [] ≡ front ++ back) where
  abbrev orders : ObjectId → ℕ → List Order
  orders = orders_by (setting_of script)

  abbrev publishers : List PublisherScript
  publishers = publishers_from 0 script.publishers

  abbrev ds : List Deed
  ds = deeds orders front

  abbrev strategy : Strategy
  strategy = script.shape.strategy

  abbrev kind : SubKind
  kind = member.terms.kind

  abbrev size : ℕ
  size = member.terms.cache

  abbrev passed : List Arrival
  passed = through cut_arrival member.terms.faults (arriving (window script.shape s (heard script.shape run.bridge)))

  stream : IsSubJournal strategy s member.terms (window script.shape s (heard script.shape run.bridge)) (front ++ back)
  stream =
      subst (IsSubJournal strategy s member.terms (window script.shape s (heard script.shape run.bridge))) (ap (λ (k : ℕ). slice_index_or run.queues k []) member.there ∙ cut)
      ((have_streams script run orderly legal).subs.each s member.terms member.client member.joined)

  free : is_muted (Sub s) ds ≡ false
  free = never_muted orders (Sub s) member.unstopped front

  abbrev note : Arrival → QueueNote
  note a = delivered_note stream.slot s a

  -- it has a record, where it was told all of what arrived and is ok
  has_record : (arrivals : List Arrival) → events_of (Sub s) front ≡ q.Create stream.slot (Sub s) (make.Sub kind size strategy) stream.tag ∷ map note arrivals → member_in ds s ≡ has quality.Ok
      → HasRecord publishers orders front s
  has_record arrivals events ok =
      let told : told_in (Sub s) ds ≡ on.Create ∷ tells strategy kind size arrivals =
      sub_at_once orders s strategy kind size (front ++ back) front back stream.slot stream.tag arrivals refl events free in
      let word : last_word quality.Stale (tells strategy kind size arrivals) ≡ quality.Ok =
      waited_word quality.Stale quality.Ok (tells strategy kind size arrivals) (tells_plain (new_context strategy kind size) arrivals) (ap member_by (sym told) ∙ ok) in
      let c : ContextData = dq.fold strategy kind size (messages_read arrivals) in
      let true_word : quality_in c.phase ≡ quality.Ok = sym (last_words_are_true strategy kind size arrivals (inl member.market)) ∙ word in
      let image = ok_image s c c.kind c.phase (after_all_kind (messages_read arrivals) (new_context strategy kind size) ∙ member.market) true_word in
      let there : image_in s (context_of (first_said (λ (e : ℕ × QueueNote). make_in (Sub s) e.1) front) (messages_of s ds)) ≡ image.0 ∷ [] =
      ap (λ (m : Option Make). image_in s (context_of m (messages_of s ds)))
      (made_as orders (Sub s) front stream.slot (make.Sub kind size strategy) stream.tag (map note arrivals) events)
      ∙ ap (λ (ms : List MarketMsg). image_in s (dq.fold strategy kind size ms)) (sub_handled orders s strategy kind size stream.slot stream.tag arrivals front events free)
      ∙ image.1 in
      record {
        image = image.0;
        there = there;
        ok = image.2;
        genuine = (subst (AllByRecursion (IsRecordIfOk publishers)) there
            (of_journal publishers (setting_of script) s front
            (all_left (Told publishers) front back (subst (AllByRecursion (Told publishers)) cut (all_at (Told publishers) run.queues queue (queues_sent script run legal.shaped legal.edges)))))).0 image.2;
      }

  pub fresh_member : member_in ds s ≡ has quality.Ok → HasRecord publishers orders front s
  fresh_member ok =
      by_part (part_of note (q.Create stream.slot (Sub s) (make.Sub kind size strategy) stream.tag) (q.Gone stream.slot (Sub s)) passed (events_of (Sub s) front) (events_of (Sub s) back)
      (sym (events_append (Sub s) front back) ∙ stream.whole))
    where
      by_part : Part note (q.Create stream.slot (Sub s) (make.Sub kind size strategy) stream.tag) (q.Gone stream.slot (Sub s)) passed (events_of (Sub s) front) → HasRecord publishers orders front s
      by_part (none is) = let waited : waits ≡ has quality.Ok = ap member_by (sym (told_nothing orders (Sub s) front is)) ∙ ok in absurd cc
      by_part (some arrivals is) = has_record arrivals is ok
      by_part (whole is) =
          let told = sub_told orders s strategy kind size stream.slot stream.tag passed front is in
          let gone : ended ≡ has quality.Ok = sym (ap member_by told.calls ∙ with_notice waits (on.Create ∷ told.told)) ∙ ok in
          absurd cc

-- a group of such members has a true state
pub groups_are_true : (script : ScriptData) (run : RunData) → IsOrderly script → IsLegal script run → (g : Grouped) → 0 < length g.members → AllByRecursion (MayJoin script run g.queue) g.members → HasTrueStates script run g
groups_are_true script run orderly legal g any members front back cut = record {
  told = told;
  fresh = λ fresh. each g.members members (fresh_quiet (map (member_in ds) g.members) (sym told ∙ fresh));
}
  where
    ds : List Deed
    ds = deeds (orders_by (setting_of script)) front

    told : last_state (group_notes (orders_by (setting_of script)) g.members front) ≡ group_state g.members ds
    told = state_is_told (orders_by (setting_of script)) g.members front any

    each : (ss : List SubId) → AllByRecursion (MayJoin script run g.queue) ss → AllByRecursion IsQuiet (map (member_in ds) ss)
        → AllByRecursion (λ (s : SubId). is_ended (member_in ds s) ≡ false → HasRecord (publishers_from 0 script.publishers) (orders_by (setting_of script)) front s) ss
    each [] may quiet = tt
    each (s ∷ ss) may quiet =
        (λ live. fresh_member script run orderly legal g.queue s may.0 front back cut (quiet_ok (member_in ds s) quiet.0 live), each ss may.1 quiet.1)
