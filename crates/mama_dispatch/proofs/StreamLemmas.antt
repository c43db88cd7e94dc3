-- The callbacks of each object are a stream, and come by its own slot.
use Rattle.std.specs.Prelude.{not, map, fold, if◌then◌else◌, ◌==◌}
use Rattle.std.specs.List.{list_any, list_all}
use Rattle.std.proofs.Common.{◌≡◌, ℕ, ◌+◌, Bool, true, false, ◌&&◌, ◌||◌, List, [], ◌∷◌, ◌++◌, length, refl, ap, sym, ◌∙◌, subst, append-nil, append_assoc}
use Rattle.std.proofs.lemmas.Bool.{true≢false, false≢true, and_from, and_parts, or_parts, eq-eqb, not-true}
use Rattle.std.proofs.lemmas.List.{map-append}
use Rattle.mama_journal.specs.Lane.{by_port}
use Rattle.mama_event.specs.Lawful.{each_fits, IsLawful}
use Rattle.mama_event.specs.LawfulLaws.{IsLawful-at}
use Rattle.mama_event.specs.Object.{same_object}
use Rattle.mama_event.specs.ToQueue.{is_last, fits, Block, blocks_after, open_blocks, is_live_in}
use Rattle.mama_event.specs.Arrival.{code_of}
use Rattle.mama_event.specs.declared.ids.SubId.{SubId}
use Rattle.mama_event.specs.declared.ids.ObjectId.{ObjectId}
use Rattle.mama_event.specs.declared.ids.ObjectId.TheVariants.{Sub, Timer, Inbox}
use Rattle.mama_event.specs.declared.market.MarketMsg.{MarketMsg}
use Rattle.mama_event.specs.declared.callback.Callback.{Callback}
use Rattle.mama_event.specs.declared.callback.Callback.TheVariants as on
use Rattle.mama_event.specs.declared.order.Order.{Order}
use Rattle.mama_event.specs.declared.to_queue.Make.{Make}
use Rattle.mama_event.specs.declared.to_queue.QueueNote.{QueueNote}
use Rattle.mama_event.specs.declared.to_queue.QueueNote.TheVariants as q
use Rattle.mama_rules_queue.specs.Queue.{Deed, handled, called, is_create, is_destroy, calls_of, is_muted, make_in, context_of, messages_of, made, served, deeds}
use Rattle.mama_journal.specs.Journal.{first_said}
use Rattle.mama_dq.specs.Strategy.{callbacks_of}
use Rattle.mama_dispatch.specs.Journals.{Born, born_in, born, is_born, lives, is_live_here, may_come}
use Rattle.mama_dispatch.specs.Seating.{is_plain}
use Rattle.mama_dispatch.specs.Streams.{is_none, goes_on, is_stream, CallbacksAreStreams, is_of_block, SlotsAreKept}
use Rattle.mama_dispatch.proofs.DeedLemmas.{same_object-refl, same_object-sym, same_object-true, calls_more, or_false, and_true, and_false}
use Rattle.mama_dispatch.proofs.CallBound.{calls_plain}
use Rattle.mama_dispatch.proofs.ArmLemmas.{born_more, lives_more, other_calls, made_calls}
use Rattle.mama_dispatch.proofs.BirthLemmas.{unbegun, any_more}
use Rattle.mama_dispatch.proofs.JournalLaws.{deeds_more}

-- STREAMS

-- an object's callbacks that were begun and not ended
abbrev is_open : List Callback → Bool
is_open [] = false
is_open (c ∷ cs) = is_create c && list_all is_plain cs

plain_goes : (cs : List Callback) → list_all is_plain cs ≡ true → goes_on cs ≡ true
plain_goes [] plain = refl
plain_goes (c ∷ cs) plain =
    let parts = and_parts (is_plain c) (list_all is_plain cs) plain in
    let kinds = and_parts (not (is_create c)) (not (is_destroy c)) parts.0 in
    ap (λ (t : Bool). if t then is_none cs else not (is_create c) && goes_on cs) (not-true (is_destroy c) kinds.1)
    ∙ and_from (not (is_create c)) (goes_on cs) kinds.0 (plain_goes cs parts.1)

plain_ends : (cs : List Callback) → list_all is_plain cs ≡ true → goes_on (cs ++ on.Destroy ∷ []) ≡ true
plain_ends [] plain = refl
plain_ends (c ∷ cs) plain =
    let parts = and_parts (is_plain c) (list_all is_plain cs) plain in
    let kinds = and_parts (not (is_create c)) (not (is_destroy c)) parts.0 in
    ap (λ (t : Bool). if t then is_none (cs ++ on.Destroy ∷ []) else not (is_create c) && goes_on (cs ++ on.Destroy ∷ [])) (not-true (is_destroy c) kinds.1)
    ∙ and_from (not (is_create c)) (goes_on (cs ++ on.Destroy ∷ [])) kinds.0 (plain_ends cs parts.1)

plain_more : (cs ds : List Callback) → list_all is_plain cs ≡ true → list_all is_plain ds ≡ true → list_all is_plain (cs ++ ds) ≡ true
plain_more [] ds plain more = more
plain_more (c ∷ cs) ds plain more =
    let parts = and_parts (is_plain c) (list_all is_plain cs) plain in
    and_from (is_plain c) (list_all is_plain (cs ++ ds)) parts.0 (plain_more cs ds parts.1 more)

open_stream : (cs : List Callback) → is_open cs ≡ true → is_stream cs ≡ true
open_stream [] going = refl
open_stream (c ∷ cs) going =
    let parts = and_parts (is_create c) (list_all is_plain cs) going in
    and_from (is_create c) (goes_on cs) parts.0 (plain_goes cs parts.1)

open_ends : (cs : List Callback) → is_open cs ≡ true → is_stream (cs ++ on.Destroy ∷ []) ≡ true
open_ends [] going = cc
open_ends (c ∷ cs) going =
    let parts = and_parts (is_create c) (list_all is_plain cs) going in
    and_from (is_create c) (goes_on (cs ++ on.Destroy ∷ [])) parts.0 (plain_ends cs parts.1)

open_more : (cs ds : List Callback) → is_open cs ≡ true → list_all is_plain ds ≡ true → is_open (cs ++ ds) ≡ true
open_more [] ds going plain = cc
open_more (c ∷ cs) ds going plain =
    let parts = and_parts (is_create c) (list_all is_plain cs) going in
    and_from (is_create c) (list_all is_plain (cs ++ ds)) parts.0 (plain_more cs ds parts.1 plain)

-- the callbacks of an object, without their orders
abbrev told_of : ObjectId → List Deed → List Callback
told_of o ds = map (λ (c : Callback × List Order). c.0) (calls_of o ds)

told_same : (o : ObjectId) (ds es : List Deed) → calls_of o es ≡ calls_of o ds → told_of o es ≡ told_of o ds
told_same o ds es same = ap (map (λ (c : Callback × List Order). c.0)) same

nothing_told : (o : ObjectId) (ds : List Deed) → calls_of o ds ≡ [] → told_of o ds ≡ []
nothing_told o ds quiet = ap (map (λ (c : Callback × List Order). c.0)) quiet

told_more : (o : ObjectId) (ds : List Deed) (c : Callback) (os : List Order) → told_of o (ds ++ called o c os ∷ []) ≡ told_of o ds ++ c ∷ []
told_more o ds c os =
    ap (map (λ (x : Callback × List Order). x.0))
    (calls_more o ds (called o c os) ∙ ap (λ (t : Bool). calls_of o ds ++ (if t then (c, os) ∷ [] else [])) (same_object-refl o))
    ∙ map-append (λ (x : Callback × List Order). x.0) (calls_of o ds) ((c, os) ∷ [])

-- plain callbacks of an object that is going leave it so
made_open : (orders : ObjectId → ℕ → List Order) (o : ObjectId) (ds : List Deed) (cs : List Callback)
    → is_open (told_of o ds) ≡ true → list_all is_plain cs ≡ true → is_open (told_of o (ds ++ made orders o ds cs)) ≡ true
made_open orders o ds [] going plain = ap (λ (es : List Deed). is_open (told_of o es)) (append-nil ds) ∙ going
made_open orders o ds (c ∷ cs) going plain =
    let parts = and_parts (is_plain c) (list_all is_plain cs) plain in
    let os : List Order = orders o (length (calls_of o ds) + 1) in
    let d : Deed = called o c os in
    let next : is_open (told_of o (ds ++ d ∷ [])) ≡ true =
    ap is_open (told_more o ds c os) ∙ open_more (told_of o ds) (c ∷ []) going (and_from (is_plain c) true parts.0 refl) in
    elim (is_muted o ds && not (is_destroy c)) as (λ t. is_open (told_of o (ds ++ (if t then made orders o ds cs else d ∷ made orders o (ds ++ d ∷ []) cs))) ≡ true) [
      | true ↦ made_open orders o ds cs going parts.1
      | false ↦
          ap (λ (es : List Deed). is_open (told_of o es)) (sym (append_assoc ds (d ∷ []) (made orders o (ds ++ d ∷ []) cs)))
          ∙ made_open orders o (ds ++ d ∷ []) cs next parts.1
    ]

-- what is so of an object after some turns
record IsAfter (o : ObjectId) (journal : List (ℕ × QueueNote)) (ds : List Deed) : Type 0 where
  quiet : is_born o journal ≡ false → calls_of o ds ≡ []
  going : is_live_here o journal ≡ true → is_open (told_of o ds) ≡ true
  stream : is_stream (told_of o ds) ≡ true

-- an entry that does nothing of an object, and says nothing of its life
after_other : (o : ObjectId) (journal : List (ℕ × QueueNote)) (port : ℕ) (note : QueueNote) (ds es : List Deed)
    → (is_born o (journal ++ (port, note) ∷ []) ≡ false → is_born o journal ≡ false) → lives o (is_live_here o journal) note ≡ is_live_here o journal
    → calls_of o es ≡ calls_of o ds → IsAfter o journal ds → IsAfter o (journal ++ (port, note) ∷ []) es
after_other o journal port note ds es unborn live same was = record {
  quiet = λ gone. same ∙ was.quiet (unborn gone);
  going = λ here. ap is_open (told_same o ds es same) ∙ was.going (sym live ∙ sym (lives_more o journal port note) ∙ here);
  stream = ap is_stream (told_same o ds es same) ∙ was.stream;
}

-- an entry that makes no object leaves what was made
unmade : (o : ObjectId) (journal : List (ℕ × QueueNote)) (port : ℕ) (note : QueueNote) → born_in note ≡ [] → is_born o (journal ++ (port, note) ∷ []) ≡ false → is_born o journal ≡ false
unmade o journal port note none gone =
    sym (ap (list_any (λ (b : Born). same_object o b.object)) (born_more journal port note ∙ ap (λ (bs : List Born). born journal ++ bs) none ∙ append-nil (born journal))) ∙ gone

-- an entry that tells an object plain callbacks
after_told : (orders : ObjectId → ℕ → List Order) (o x : ObjectId) (journal : List (ℕ × QueueNote)) (port : ℕ) (note : QueueNote) (ds es : List Deed) (cs : List Callback)
    → born_in note ≡ [] → ((y : ObjectId) (live : Bool) → lives y live note ≡ live) → ((y : ObjectId) → calls_of y es ≡ calls_of y ds)
    → list_all is_plain cs ≡ true → is_live_here o journal ≡ true → ((y : ObjectId) → IsAfter y journal ds)
    → IsAfter x (journal ++ (port, note) ∷ []) (es ++ made orders o es cs)
after_told orders o x journal port note ds es cs none lives_on leads plain here was =
    elim (same_object o x) as (λ t. same_object o x ≡ t → IsAfter x (journal ++ (port, note) ∷ []) (es ++ made orders o es cs)) [
      | true ↦ λ same.
          let this : o ≡ x = same_object-true o x same in
          let opened : is_open (told_of o (es ++ made orders o es cs)) ≡ true =
          made_open orders o es cs (ap is_open (told_same o ds es (leads o)) ∙ (was o).going here) plain in
          let opened_x : is_open (told_of x (es ++ made orders o es cs)) ≡ true = ap (λ (y : ObjectId). is_open (told_of y (es ++ made orders o es cs))) (sym this) ∙ opened in
          record {
            quiet = λ gone. absurd (false≢true (ap (λ (cs' : List Callback). is_open cs') (sym (nothing_told x ds ((was x).quiet (unmade x journal port note none gone)))) ∙ (was x).going (ap (λ (y : ObjectId). is_live_here y journal) (sym this) ∙ here)));
            going = λ live. opened_x;
            stream = open_stream (told_of x (es ++ made orders o es cs)) opened_x;
          }
      | false ↦ λ other.
          after_other x journal port note ds (es ++ made orders o es cs) (unmade x journal port note none) (lives_on x (is_live_here x journal))
          (made_calls orders o x es cs other ∙ leads x) (was x)
    ] refl

after_created : (orders : ObjectId → ℕ → List Order) (slot : ℕ) (o : ObjectId) (make : Make) (tag : ObjectId) (x : ObjectId) (journal : List (ℕ × QueueNote)) (port : ℕ) (ds : List Deed)
    → is_born o journal ≡ false → ((y : ObjectId) → IsAfter y journal ds)
    → IsAfter x (journal ++ (port, q.Create slot o make tag) ∷ []) (ds ++ served orders journal ds (q.Create slot o make tag))
after_created orders slot o make tag x journal port ds unborn was =
    let note : QueueNote = q.Create slot o make tag in
    let quiet : calls_of o ds ≡ [] = (was o).quiet unborn in
    let os : List Order = orders o (length (calls_of o ds) + 1) in
    let d : Deed = called o on.Create os in
    let one : served orders journal ds note ≡ d ∷ [] = ap (λ (t : Bool). if t && true then [] else d ∷ []) (unbegun o ds quiet).1 in
    let births : is_born x (journal ++ (port, note) ∷ []) ≡ (is_born x journal || same_object x o) =
    ap (list_any (λ (c : Born). same_object x c.object)) (born_more journal port note) ∙ any_more (λ (c : Born). same_object x c.object) (born journal) (record { object = o; make = make }) in
    subst (λ (xs : List Deed). IsAfter x (journal ++ (port, note) ∷ []) (ds ++ xs)) (sym one)
    (elim (same_object o x) as (λ t. same_object o x ≡ t → IsAfter x (journal ++ (port, note) ∷ []) (ds ++ d ∷ [])) [
      | true ↦ λ same.
          let this : o ≡ x = same_object-true o x same in
          let told : told_of o (ds ++ d ∷ []) ≡ on.Create ∷ [] = told_more o ds on.Create os ∙ ap (λ (cs : List Callback). cs ++ on.Create ∷ []) (nothing_told o ds quiet) in
          let told_x : told_of x (ds ++ d ∷ []) ≡ on.Create ∷ [] = ap (λ (y : ObjectId). told_of y (ds ++ d ∷ [])) (sym this) ∙ told in
          record {
            quiet = λ gone. absurd (true≢false (sym same ∙ same_object-sym o x ∙ (or_parts (is_born x journal) (same_object x o) (sym births ∙ gone)).1));
            going = λ live. ap is_open told_x;
            stream = ap is_stream told_x;
          }
      | false ↦ λ other.
          after_other x journal port note ds (ds ++ d ∷ []) (λ gone. (or_parts (is_born x journal) (same_object x o) (sym births ∙ gone)).0)
          (ap (λ (t : Bool). is_live_here x journal || t) other ∙ or_false (is_live_here x journal))
          (other_calls o x ds on.Create os other) (was x)
    ] refl)

after_gone : (orders : ObjectId → ℕ → List Order) (slot : ℕ) (o x : ObjectId) (journal : List (ℕ × QueueNote)) (port : ℕ) (ds : List Deed)
    → is_live_here o journal ≡ true → ((y : ObjectId) → IsAfter y journal ds)
    → IsAfter x (journal ++ (port, q.Gone slot o) ∷ []) (ds ++ served orders journal ds (q.Gone slot o))
after_gone orders slot o x journal port ds here was =
    let note : QueueNote = q.Gone slot o in
    let os : List Order = orders o (length (calls_of o ds) + 1) in
    let d : Deed = called o on.Destroy os in
    let one : served orders journal ds note ≡ d ∷ [] = ap (λ (t : Bool). if t then [] else d ∷ []) (and_false (is_muted o ds)) in
    subst (λ (xs : List Deed). IsAfter x (journal ++ (port, note) ∷ []) (ds ++ xs)) (sym one)
    (elim (same_object o x) as (λ t. same_object o x ≡ t → IsAfter x (journal ++ (port, note) ∷ []) (ds ++ d ∷ [])) [
      | true ↦ λ same.
          let this : o ≡ x = same_object-true o x same in
          let here_x : is_live_here x journal ≡ true = ap (λ (y : ObjectId). is_live_here y journal) (sym this) ∙ here in
          let told : told_of o (ds ++ d ∷ []) ≡ told_of o ds ++ on.Destroy ∷ [] = told_more o ds on.Destroy os in
          let dead : is_live_here x (journal ++ (port, note) ∷ []) ≡ false =
          lives_more x journal port note ∙ ap (λ (t : Bool). is_live_here x journal && not t) same ∙ and_false (is_live_here x journal) in
          record {
            quiet = λ gone. absurd (false≢true (ap (λ (cs : List Callback). is_open cs) (sym (nothing_told x ds ((was x).quiet (unmade x journal port note refl gone)))) ∙ (was x).going here_x));
            going = λ live. absurd (true≢false (sym live ∙ dead));
            stream = ap (λ (y : ObjectId). is_stream (told_of y (ds ++ d ∷ []))) (sym this) ∙ ap is_stream told ∙ open_ends (told_of o ds) ((was o).going here);
          }
      | false ↦ λ other.
          after_other x journal port note ds (ds ++ d ∷ []) (unmade x journal port note refl)
          (ap (λ (t : Bool). is_live_here x journal && not t) other ∙ and_true (is_live_here x journal))
          (other_calls o x ds on.Destroy os other) (was x)
    ] refl)

-- nothing done
after_nothing : (x : ObjectId) (journal : List (ℕ × QueueNote)) (port : ℕ) (note : QueueNote) (ds : List Deed)
    → born_in note ≡ [] → ((y : ObjectId) (live : Bool) → lives y live note ≡ live) → IsAfter x journal ds → IsAfter x (journal ++ (port, note) ∷ []) (ds ++ [])
after_nothing x journal port note ds none lives_on was =
    after_other x journal port note ds (ds ++ []) (unmade x journal port note none) (lives_on x (is_live_here x journal)) (ap (calls_of x) (append-nil ds)) was

after_delivered : (orders : ObjectId → ℕ → List Order) (slot : ℕ) (s : SubId) (m : MarketMsg) (x : ObjectId) (journal : List (ℕ × QueueNote)) (port : ℕ) (ds : List Deed)
    → is_live_here (Sub s) journal ≡ true → ((y : ObjectId) → IsAfter y journal ds)
    → IsAfter x (journal ++ (port, q.Deliver slot s m) ∷ []) (ds ++ served orders journal ds (q.Deliver slot s m))
after_delivered orders slot s m x journal port ds here was =
    let note : QueueNote = q.Deliver slot s m in
    let es : List Deed = ds ++ handled s m ∷ [] in
    let cs : List Callback = callbacks_of (context_of (first_said (λ (e : ℕ × QueueNote). make_in (Sub s) e.1) journal) (messages_of s ds)) m in
    elim (is_muted (Sub s) ds) as (λ t. IsAfter x (journal ++ (port, note) ∷ []) (ds ++ (if t then [] else handled s m ∷ made orders (Sub s) es cs))) [
      | true ↦ after_nothing x journal port note ds refl (λ y live. refl) (was x)
      | false ↦
          subst (IsAfter x (journal ++ (port, note) ∷ [])) (append_assoc ds (handled s m ∷ []) (made orders (Sub s) es cs))
          (after_told orders (Sub s) x journal port note ds es cs refl (λ y live. refl) (λ y. calls_more y ds (handled s m) ∙ append-nil (calls_of y ds))
          (calls_plain (context_of (first_said (λ (e : ℕ × QueueNote). make_in (Sub s) e.1) journal) (messages_of s ds)) m) here was)
    ]

after_entry : (orders : ObjectId → ℕ → List Order) (journal : List (ℕ × QueueNote)) (port : ℕ) (note : QueueNote) (ds : List Deed) (x : ObjectId)
    → may_come journal note ≡ true → ((y : ObjectId) → IsAfter y journal ds) → IsAfter x (journal ++ (port, note) ∷ []) (ds ++ served orders journal ds note)
after_entry orders journal port (q.Create slot object make tag) ds x may was = after_created orders slot object make tag x journal port ds (not_true (is_born object journal) may) was
  where
    not_true : (b : Bool) → not b ≡ true → b ≡ false
    not_true true h = cc
    not_true false h = refl
after_entry orders journal port (q.Deliver slot sub msg) ds x may was = after_delivered orders slot sub msg x journal port ds may was
after_entry orders journal port (q.Reply slot inbox body) ds x may was =
    after_told orders (Inbox inbox) x journal port (q.Reply slot inbox body) ds ds (on.Reply body ∷ []) refl (λ y live. refl) (λ y. refl) refl may was
after_entry orders journal port (q.Bad slot sub kind sender seq bytes) ds x may was =
    after_told orders (Sub sub) x journal port (q.Bad slot sub kind sender seq bytes) ds ds (on.Error (code_of bytes) ∷ []) refl (λ y live. refl) (λ y. refl) refl may was
after_entry orders journal port (q.BadReply slot inbox bytes) ds x may was =
    after_told orders (Inbox inbox) x journal port (q.BadReply slot inbox bytes) ds ds (on.Error (code_of bytes) ∷ []) refl (λ y live. refl) (λ y. refl) refl may was
after_entry orders journal port (q.Tick slot timer moment) ds x may was =
    after_told orders (Timer timer) x journal port (q.Tick slot timer moment) ds ds (on.Tick moment ∷ []) refl (λ y live. refl) (λ y. refl) refl may was
after_entry orders journal port (q.Gone slot object) ds x may was = after_gone orders slot object x journal port ds may was
after_entry orders journal port q.Fin ds x may was = after_nothing x journal port q.Fin ds refl (λ y live. refl) (was x)

after_all : (orders : ObjectId → ℕ → List Order) (before es : List (ℕ × QueueNote)) → each_fits (λ (b : List (ℕ × QueueNote)) (e : ℕ × QueueNote). may_come b e.1) before es ≡ true
    → ((y : ObjectId) → IsAfter y before (deeds orders before)) → (x : ObjectId) → IsAfter x (before ++ es) (deeds orders (before ++ es))
after_all orders before [] turns was x = subst (λ (j : List (ℕ × QueueNote)). IsAfter x j (deeds orders j)) (sym (append-nil before)) (was x)
after_all orders before (e ∷ es) turns was x =
    let parts = and_parts (may_come before e.1) (each_fits (λ (b : List (ℕ × QueueNote)) (y : ℕ × QueueNote). may_come b y.1) (before ++ e ∷ []) es) turns in
    subst (λ (j : List (ℕ × QueueNote)). IsAfter x j (deeds orders j)) (append_assoc before (e ∷ []) es)
    (after_all orders (before ++ e ∷ []) es parts.1
    (λ y. subst (IsAfter y (before ++ e ∷ [])) (sym (deeds_more orders before e)) (after_entry orders before e.0 e.1 (deeds orders before) y parts.0 was)) x)

after_none : (orders : ObjectId → ℕ → List Order) (x : ObjectId) → IsAfter x [] (deeds orders [])
after_none orders x = record { quiet = λ gone. refl; going = λ live. absurd (false≢true live); stream = refl }

pub callbacks_are_streams : CallbacksAreStreams
callbacks_are_streams orders journal o turns = (after_all orders [] journal turns (after_none orders) o).stream

-- SLOTS

by_port_more : (port : ℕ) (before after : List (ℕ × QueueNote)) (note : QueueNote) → by_port port (before ++ (port, note) ∷ after) ≡ by_port port before ++ note ∷ by_port port after
by_port_more port [] after note = ap (λ (t : Bool). if t then note ∷ by_port port after else by_port port after) (eq-eqb port port refl)
by_port_more port (e ∷ before) after note =
    elim (e.0 == port) as (λ t. (if t then e.1 ∷ by_port port (before ++ (port, note) ∷ after) else by_port port (before ++ (port, note) ∷ after)) ≡ (if t then e.1 ∷ by_port port before else by_port port before) ++ note ∷ by_port port after) [
      | true ↦ ap (λ (ns : List QueueNote). e.1 ∷ ns) (by_port_more port before after note)
      | false ↦ by_port_more port before after note
    ]

-- the deeds of callbacks of an object pass a test that they all pass
made_pass : (P : Deed → Bool) (orders : ObjectId → ℕ → List Order) (o : ObjectId) → ((c : Callback) (os : List Order) → P (called o c os) ≡ true)
    → (ds : List Deed) (cs : List Callback) → list_all P (made orders o ds cs) ≡ true
made_pass P orders o each ds [] = refl
made_pass P orders o each ds (c ∷ cs) =
    let os : List Order = orders o (length (calls_of o ds) + 1) in
    let d : Deed = called o c os in
    elim (is_muted o ds && not (is_destroy c)) as (λ t. list_all P (if t then made orders o ds cs else d ∷ made orders o (ds ++ d ∷ []) cs) ≡ true) [
      | true ↦ made_pass P orders o each ds cs
      | false ↦ and_from (P d) (list_all P (made orders o (ds ++ d ∷ []) cs)) (each c os) (made_pass P orders o each (ds ++ d ∷ []) cs)
    ]

pub open_more_blocks : (notes : List QueueNote) (note : QueueNote) (bs : List Block) → fold blocks_after bs (notes ++ note ∷ []) ≡ blocks_after (fold blocks_after bs notes) note
open_more_blocks [] note bs = refl
open_more_blocks (n ∷ notes) note bs = open_more_blocks notes note (blocks_after bs n)

any_last : {A : Type 0} (p : A → Bool) (xs : List A) (x : A) → p x ≡ true → list_any p (xs ++ x ∷ []) ≡ true
any_last p [] x h = ap (λ (t : Bool). t || false) h
any_last p (y ∷ xs) x h = ap (λ (t : Bool). p y || t) (any_last p xs x h) ∙ or_true (p y)
  where
    or_true : (b : Bool) → (b || true) ≡ true
    or_true true = refl
    or_true false = refl

-- a Create begins the block of its object
begun : (slot : ℕ) (o : ObjectId) (make : Make) (tag : ObjectId) (notes : List QueueNote) → is_live_in slot o (notes ++ q.Create slot o make tag ∷ []) ≡ true
begun slot o make tag notes =
    ap (list_any (λ (b : Block). b.slot == slot && same_object b.object o)) (open_more_blocks notes (q.Create slot o make tag) [])
    ∙ any_last (λ (b : Block). b.slot == slot && same_object b.object o) (open_blocks notes) (record { slot = slot; object = o })
    (and_from (slot == slot) (same_object o o) (eq-eqb slot slot refl) (same_object-refl o))

or_left : (a b : Bool) → a ≡ true → (a || b) ≡ true
or_left a b h = ap (λ (t : Bool). t || b) h

or_second : (a b : Bool) → b ≡ true → (a || b) ≡ true
or_second true b h = refl
or_second false b h = h

of_block : (orders : ObjectId → ℕ → List Order) (port : ℕ) (journal : List (ℕ × QueueNote)) (ds : List Deed) (notes : List QueueNote) (note : QueueNote)
    → fits port notes note ≡ true → list_all (is_of_block note notes) (served orders journal ds note) ≡ true
of_block orders port journal ds notes (q.Create slot object make tag) fit =
    made_pass (is_of_block (q.Create slot object make tag) notes) orders object
    (λ c os. or_second (is_live_in slot object notes) (is_live_in slot object (notes ++ q.Create slot object make tag ∷ [])) (begun slot object make tag notes)) ds (on.Create ∷ [])
of_block orders port journal ds notes (q.Deliver slot sub msg) fit =
    let note : QueueNote = q.Deliver slot sub msg in
    let es : List Deed = ds ++ handled sub msg ∷ [] in
    let cs : List Callback = callbacks_of (context_of (first_said (λ (e : ℕ × QueueNote). make_in (Sub sub) e.1) journal) (messages_of sub ds)) msg in
    let there : (is_live_in slot (Sub sub) notes || is_live_in slot (Sub sub) (notes ++ note ∷ [])) ≡ true = or_left (is_live_in slot (Sub sub) notes) (is_live_in slot (Sub sub) (notes ++ note ∷ [])) fit in
    elim (is_muted (Sub sub) ds) as (λ t. list_all (is_of_block note notes) (if t then [] else handled sub msg ∷ made orders (Sub sub) es cs) ≡ true) [
      | true ↦ refl
      | false ↦
          and_from (is_live_in slot (Sub sub) notes || is_live_in slot (Sub sub) (notes ++ note ∷ [])) (list_all (is_of_block note notes) (made orders (Sub sub) es cs)) there
          (made_pass (is_of_block note notes) orders (Sub sub) (λ c os. there) es cs)
    ]
of_block orders port journal ds notes (q.Reply slot inbox body) fit =
    made_pass (is_of_block (q.Reply slot inbox body) notes) orders (Inbox inbox)
    (λ c os. or_left (is_live_in slot (Inbox inbox) notes) (is_live_in slot (Inbox inbox) (notes ++ q.Reply slot inbox body ∷ [])) fit) ds (on.Reply body ∷ [])
of_block orders port journal ds notes (q.Bad slot sub kind sender seq bytes) fit =
    made_pass (is_of_block (q.Bad slot sub kind sender seq bytes) notes) orders (Sub sub)
    (λ c os. or_left (is_live_in slot (Sub sub) notes) (is_live_in slot (Sub sub) (notes ++ q.Bad slot sub kind sender seq bytes ∷ [])) fit) ds (on.Error (code_of bytes) ∷ [])
of_block orders port journal ds notes (q.BadReply slot inbox bytes) fit =
    made_pass (is_of_block (q.BadReply slot inbox bytes) notes) orders (Inbox inbox)
    (λ c os. or_left (is_live_in slot (Inbox inbox) notes) (is_live_in slot (Inbox inbox) (notes ++ q.BadReply slot inbox bytes ∷ [])) fit) ds (on.Error (code_of bytes) ∷ [])
of_block orders port journal ds notes (q.Tick slot timer moment) fit =
    made_pass (is_of_block (q.Tick slot timer moment) notes) orders (Timer timer)
    (λ c os. or_left (is_live_in slot (Timer timer) notes) (is_live_in slot (Timer timer) (notes ++ q.Tick slot timer moment ∷ [])) fit) ds (on.Tick moment ∷ [])
of_block orders port journal ds notes (q.Gone slot object) fit =
    made_pass (is_of_block (q.Gone slot object) notes) orders object
    (λ c os. or_left (is_live_in slot object notes) (is_live_in slot object (notes ++ q.Gone slot object ∷ [])) fit) ds (on.Destroy ∷ [])
of_block orders port journal ds notes q.Fin fit = refl

pub slots_are_kept : SlotsAreKept
slots_are_kept orders journal before after e lawful is =
    let notes : List QueueNote = by_port e.0 before in
    let whole : IsLawful is_last (fits e.0) (notes ++ e.1 ∷ by_port e.0 after) =
    subst (IsLawful is_last (fits e.0)) (ap (by_port e.0) is ∙ by_port_more e.0 before after e.1) (lawful e.0) in
    let follows = and_parts (not (list_any is_last notes)) (fits e.0 notes e.1) (IsLawful-at is_last (fits e.0) notes e.1 (by_port e.0 after) whole) in
    of_block orders e.0 before (deeds orders before) notes e.1 follows.1
