-- What the listeners have heard that came back: all callbacks of their objects, since none follows the last.
use Rattle.std.specs.Prelude.{IfSome, if◌then◌else◌}
use Rattle.std.specs.List.{All, flat_map, list_any}
use Rattle.std.proofs.Common.{◌≡◌, ℕ, ◌+◌, Bool, true, false, not, ◌&&◌, ◌||◌, ◌==◌, List, [], ◌∷◌, ◌++◌, map, length, Option, None, Some, refl, sym, ◌∙◌, ap, subst, append-nil}
use Rattle.std.proofs.lemmas.Bool.{and_parts, or_right}
use Rattle.std.proofs.lemmas.List.{map-append}
use Rattle.std.proofs.lemmas.List.Concat.{flat_map-append}
use Rattle.std.proofs.lemmas.List.Elements.{All-nil, All-cons}
use Rattle.std.proofs.lemmas.List.Folds.{list_any-append}
use Rattle.mama_journal.specs.Journal.{count_of}
use Rattle.mama_event.specs.declared.ids.ObjectId.{ObjectId}
use Rattle.mama_event.specs.declared.ids.ObjectId.TheVariants.{Sub, Timer, Inbox}
use Rattle.mama_event.specs.declared.callback.Callback.{Callback}
use Rattle.mama_event.specs.declared.callback.Callback.TheVariants as on
use Rattle.mama_event.specs.declared.callback.CallNote.{CallNote}
use Rattle.mama_event.specs.declared.order.Order.{Order}
use Rattle.mama_event.specs.declared.order.PlanRow.{PlanRow}
use Rattle.mama_event.specs.declared.to_queue.QueueNote.{QueueNote}
use Rattle.mama_event.specs.declared.to_queue.QueueNote.TheVariants as q
use Rattle.mama_event.specs.Listener.{ListenerData, reached}
use Rattle.mama_event.specs.Object.{same_object}
use Rattle.mama_rules_queue.specs.Queue.{Deed, called, calls_of, deeds, is_create, is_destroy, is_fin, is_muted, made, served}
use Rattle.mama_carry.specs.Fresh.{told_calls}
use Rattle.mama_dispatch.specs.declared.turn.Turn.{Turn}
use Rattle.mama_dispatch.specs.declared.turn.Turn.TheVariants as turn
use Rattle.mama_dispatch.specs.Answering.{AnswersTo, IsHandedBack, told_or_muted}
use Rattle.mama_dispatch.specs.Hearing.{HeardOn}
use Rattle.mama_dispatch.specs.Journals.{noted, notes_of}
use Rattle.mama_dispatch.specs.Seats.{SeatData}
use Rattle.mama_dispatch.specs.Streams.{AreTurns, CallbacksAreStreams, goes_on, is_none, is_stream}
use Rattle.mama_dispatch.proofs.DeedLemmas.{same_object-refl}
use Rattle.mama_dispatch.proofs.JournalLaws.{deeds_more}
use Rattle.mama_posts_clients.specs.Queue.{handed_back, told_back, gone_in, HasHeardSeat, HasComeBack}

-- ---- nothing follows the last callback

none_right : (cs more : List Callback) → is_none (cs ++ more) ≡ true → more ≡ []
none_right [] [] h = refl
none_right [] (m ∷ more) h = cc
none_right (c ∷ cs) more h = cc

ends_there : (last created : Bool) (cs more : List Callback) → (goes_on (cs ++ more) ≡ true → list_any is_destroy cs ≡ true → more ≡ [])
    → (if last then is_none (cs ++ more) else not created && goes_on (cs ++ more)) ≡ true → (last || list_any is_destroy cs) ≡ true → more ≡ []
ends_there true created cs more later h ended = none_right cs more h
ends_there false created cs more later h ended = later (and_parts (not created) (goes_on (cs ++ more)) h).1 ended

ends_later : (cs more : List Callback) → goes_on (cs ++ more) ≡ true → list_any is_destroy cs ≡ true → more ≡ []
ends_later [] more h ended = cc
ends_later (c ∷ cs) more h ended = ends_there (is_destroy c) (is_create c) cs more (ends_later cs more) h ended

begins_only : (c : Callback) → is_create c ≡ true → is_destroy c ≡ false
begins_only on.Destroy h = cc
begins_only _ h = refl

ends_stream : (cs more : List Callback) → is_stream (cs ++ more) ≡ true → list_any is_destroy cs ≡ true → more ≡ []
ends_stream [] more h ended = cc
ends_stream (c ∷ cs) more h ended =
    let parts = and_parts (is_create c) (goes_on (cs ++ more)) h in
    ends_later cs more parts.1 (ap (λ (b : Bool). b || list_any is_destroy cs) (sym (begins_only c parts.0)) ∙ ended)

calls_noted : (calls : List (Callback × List Order)) → map (λ (n : CallNote). n.call) (map noted calls) ≡ map (λ (c : Callback × List Order). c.0) calls
calls_noted [] = refl
calls_noted (c ∷ cs) = ap (λ (xs : List Callback). c.0 ∷ xs) (calls_noted cs)

nothing : (calls : List (Callback × List Order)) → map (λ (c : Callback × List Order). c.0) calls ≡ [] → calls ≡ []
nothing [] h = refl
nothing (c ∷ cs) h = cc

-- an object that had its last callback gets none by an entry more
pub same_calls : (orders : ObjectId → ℕ → List Order) (journal : List (ℕ × QueueNote)) (e : ℕ × QueueNote) (o : ObjectId) → CallbacksAreStreams → AreTurns (journal ++ e ∷ [])
    → list_any is_destroy (map (λ (n : CallNote). n.call) (notes_of o (deeds orders journal))) ≡ true
    → notes_of o (deeds orders journal) ≡ notes_of o (deeds orders (journal ++ e ∷ []))
same_calls orders journal e o streams turns ended =
    let before = calls_of o (deeds orders journal) in
    let more = calls_of o (served orders journal (deeds orders journal) e.1) in
    let whole : calls_of o (deeds orders (journal ++ e ∷ [])) ≡ before ++ more =
    ap (calls_of o) (deeds_more orders journal e) ∙ flat_map-append _ (deeds orders journal) (served orders journal (deeds orders journal) e.1) in
    let none : more ≡ [] =
    nothing more (ends_stream (map (λ (c : Callback × List Order). c.0) before) (map (λ (c : Callback × List Order). c.0) more)
    (ap is_stream (sym (map-append (λ (c : Callback × List Order). c.0) before more)) ∙ ap (λ (cs : List (Callback × List Order)). is_stream (map (λ (c : Callback × List Order). c.0) cs)) (sym whole)
    ∙ streams orders (journal ++ e ∷ []) o turns)
    (ap (list_any is_destroy) (sym (calls_noted before)) ∙ ended)) in
    ap (map noted) (sym (append-nil before) ∙ ap (λ (cs : List (Callback × List Order)). before ++ cs) (sym none) ∙ sym whole)

-- ---- what a turn hands back

heard_all : (calls : List Callback) (came now : Option (List Callback)) → HeardOn calls came now → told_calls came ≡ [] → IfSome now (λ (all : List Callback). all ≡ calls)
heard_all calls came None h none = tt
heard_all calls None (Some after) h none = absurd h
heard_all calls (Some first) (Some after) h none = h ∙ ap (λ (cs : List Callback). cs ++ calls) none

-- the last callback is made, whether the object was muted or not
abbrev last_call : (ObjectId → ℕ → List Order) → ObjectId → List Deed → Callback × List Order
last_call orders o ds = (on.Destroy, orders o (length (calls_of o ds) + 1))

abbrev own_call : Bool → Callback × List Order → List (Callback × List Order)
own_call own c = if own then c ∷ [] else []

own_is : (own : Bool) (c : Callback × List Order) → own ≡ true → own_call own c ++ [] ≡ c ∷ []
own_is true c h = refl
own_is false c h = cc

made_last : (muted : Bool) (orders : ObjectId → ℕ → List Order) (o : ObjectId) (ds : List Deed)
    → calls_of o (if muted && not true then [] else called o on.Destroy (orders o (length (calls_of o ds) + 1)) ∷ []) ≡ last_call orders o ds ∷ []
made_last true orders o ds = own_is (same_object o o) (last_call orders o ds) (same_object-refl o)
made_last false orders o ds = own_is (same_object o o) (last_call orders o ds) (same_object-refl o)

last_made : (orders : ObjectId → ℕ → List Order) (o : ObjectId) (ds : List Deed) → list_any is_destroy (map (λ (n : CallNote). n.call) (notes_of o (ds ++ made orders o ds (on.Destroy ∷ [])))) ≡ true
last_made orders o ds =
    let before = calls_of o ds in
    let told : List Callback = map (λ (c : Callback × List Order). c.0) before in
    ap (list_any is_destroy) (calls_noted (calls_of o (ds ++ made orders o ds (on.Destroy ∷ [])))
    ∙ ap (map (λ (c : Callback × List Order). c.0)) (flat_map-append _ ds (made orders o ds (on.Destroy ∷ []))
    ∙ ap (λ (cs : List (Callback × List Order)). before ++ cs) (made_last (is_muted o ds) orders o ds))
    ∙ map-append (λ (c : Callback × List Order). c.0) before (last_call orders o ds ∷ []))
    ∙ list_any-append is_destroy told (on.Destroy ∷ [])
    ∙ or_right (list_any is_destroy told) true refl

-- what is handed back at a note: the listener of the object whose Gone it is, which has heard all that is called back of it
pub record IsReturned {L : Type 0} (view : L → ListenerData) (orders : ObjectId → ℕ → List Order) (now : List (ℕ × QueueNote)) (note : QueueNote) (answer : Turn L) : Type 0 where
  pub objects : map (λ (b : ObjectId × ListenerData). b.0) (told_back view (handed_back answer)) ≡ gone_in note
  pub back : All (λ (b : ObjectId × ListenerData). HasComeBack (notes_of b.0 (deeds orders now)) b) (told_back view (handed_back answer))

module _ {L : Type 0} (view : L → ListenerData) (plan : ObjectId → List PlanRow) (orders : ObjectId → ℕ → List Order) (seats : List SeatData) (journal : List (ℕ × QueueNote)) (port : ℕ)
    (heard : (o : ObjectId) → HasHeardSeat (plan o) o seats) where
  abbrev now : QueueNote → List (ℕ × QueueNote)
  now note = journal ++ (port, note) ∷ []

  nothing_back : (note : QueueNote) (answer : Turn L) → gone_in note ≡ [] → handed_back answer ≡ [] → IsReturned view orders (now note) note answer
  nothing_back note answer none is = record {
    objects = ap (λ (bs : List (ObjectId × L)). map (λ (b : ObjectId × ListenerData). b.0) (told_back view bs)) is ∙ sym none;
    back =
        subst (λ (bs : List (ObjectId × L)). All (λ (b : ObjectId × ListenerData). HasComeBack (notes_of b.0 (deeds orders (now note))) b) (told_back view bs)) (sym is)
        (All-nil (λ (b : ObjectId × ListenerData). HasComeBack (notes_of b.0 (deeds orders (now note))) b));
  }

  told_none : (o : ObjectId) (muted : Bool) (n : ℕ) → handed_back {L = L} (told_or_muted o muted n) ≡ []
  told_none o true n = refl
  told_none o false n = refl

  fin_none : (second : Bool) → handed_back {L = L} (if second then turn.Finished else turn.Running) ≡ []
  fin_none true = refl
  fin_none false = refl

  one_back : (slot : ℕ) (object : ObjectId) (answer : Turn L) → IsHandedBack view object (notes_of object (deeds orders journal ++ served orders journal (deeds orders journal) (q.Gone slot object))) seats answer
      → IsReturned view orders (now (q.Gone slot object)) (q.Gone slot object) answer
  one_back slot object answer h =
      let note = q.Gone slot object in
      let ds = deeds orders journal in
      let notes = notes_of object (ds ++ served orders journal ds note) in
      let seat = heard object in
      let all = h.heard seat.came seat.heard in
      let l = view h.listener in
      let own : notes ≡ notes_of object (deeds orders (now note)) = ap (notes_of object) (sym (deeds_more orders journal (port, note))) in
      let returned : HasComeBack notes (object, l) = record {
        tag = all.tag ∙ seat.fresh.tag;
        count = all.count ∙ ap (λ (n : ℕ). reached n (length notes)) seat.fresh.calls;
        heard = heard_all (map (λ (n : CallNote). n.call) notes) seat.came.heard l.heard all.heard seat.fresh.heard;
        ended = last_made orders object ds;
      } in
      let P : ObjectId × ListenerData → Type 0 = λ b. HasComeBack (notes_of b.0 (deeds orders (now note))) b in
      subst (IsReturned view orders (now note) note) (sym h.is) (record {
        objects = refl;
        back = All-cons P (object, l) [] (subst (λ (ns : List CallNote). HasComeBack ns (object, l)) own returned) (All-nil P);
      })

  pub handed : (note : QueueNote) (answer : Turn L) → AnswersTo view orders seats journal (deeds orders journal) note answer → IsReturned view orders (now note) note answer
  handed (q.Create slot object make tag) answer is = nothing_back (q.Create slot object make tag) answer refl (ap handed_back is)
  handed (q.Deliver slot sub msg) answer is = nothing_back (q.Deliver slot sub msg) answer refl (ap handed_back is ∙ told_none (Sub sub) _ _)
  handed (q.Reply slot inbox body) answer is = nothing_back (q.Reply slot inbox body) answer refl (ap handed_back is ∙ told_none (Inbox inbox) _ _)
  handed (q.Bad slot sub kind sender seq bytes) answer is = nothing_back (q.Bad slot sub kind sender seq bytes) answer refl (ap handed_back is ∙ told_none (Sub sub) _ _)
  handed (q.BadReply slot inbox bytes) answer is = nothing_back (q.BadReply slot inbox bytes) answer refl (ap handed_back is ∙ told_none (Inbox inbox) _ _)
  handed (q.Tick slot timer moment) answer is = nothing_back (q.Tick slot timer moment) answer refl (ap handed_back is ∙ told_none (Timer timer) _ _)
  handed (q.Gone slot object) answer is = one_back slot object answer is
  handed q.Fin answer is = nothing_back q.Fin answer refl (ap handed_back is ∙ fin_none (count_of is_fin journal == 1))
