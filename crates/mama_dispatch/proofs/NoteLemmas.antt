-- What a queue keeps for its notes: room for lists of callbacks, and the images that were left.
use Rattle.std.specs.Prelude.{map, Option}
use Rattle.std.specs.Global.{Vec}
use Rattle.std.specs.Vec.{vec_capacity}
use Rattle.std.proofs.Common.{◌≡◌, ℕ, ◌+◌, ◌≤◌, Bool, false, suc, List, [], ◌∷◌, ◌++◌, length, refl, ap, sym, ◌∙◌, subst, append-nil, append_assoc, length-append, arith}
use Rattle.std.proofs.lemmas.List.{length-map}
use Rattle.mama_journal.specs.Journal.{puts_after}
use Rattle.mama_msg.specs.Field.{FieldData}
use Rattle.mama_event.specs.declared.ids.SubId.{SubId}
use Rattle.mama_event.specs.declared.ids.ObjectId.{ObjectId}
use Rattle.mama_event.specs.declared.ids.ObjectId.TheVariants.{Sub, Timer, Inbox}
use Rattle.mama_event.specs.declared.market.ImageHead.{ImageHead}
use Rattle.mama_event.specs.declared.callback.CallNote.{CallNote}
use Rattle.mama_event.specs.declared.order.Order.{Order}
use Rattle.mama_event.specs.declared.to_queue.QueueNote.{QueueNote}
use Rattle.mama_event.specs.declared.to_queue.QueueNote.TheVariants as q
use Rattle.mama_dq.specs.Context.{ContextData}
use Rattle.mama_event.specs.Listener.{ListenerData}
use Rattle.mama_rules_queue.specs.Queue.{Deed, QueuePut, deeds, is_fin, is_live}
use Rattle.mama_dispatch.specs.Journals.{Born, born, born_in, notes_of, context_after, image_in, image_put, left_in, left_at, images_left}
use Rattle.mama_dispatch.specs.Seats.{SeatData, AreApart, context_in, with_room, Fits}
use Rattle.mama_dispatch.specs.Seating.{Seated}
use Rattle.mama_dispatch.specs.Standing.{Stands, Serves}
use Rattle.mama_dispatch.specs.Served.{told_seats, IsServed}
use Rattle.mama_dispatch.specs.Keeping.{KeptWith}
use Rattle.mama_dispatch.specs.Notes.{calls_made}
use Rattle.mama_dispatch.specs.Noted.{lists_in, IsNoted, IsServing}
use Rattle.mama_dispatch.proofs.ArmLemmas.{born_more}
use Rattle.mama_dispatch.proofs.JournalLaws.{standing}
use Rattle.mama_dispatch.proofs.ServingLemmas.{given_at, given_fits, fits_told, fits_untold, context_there, no_journal, served_roomy, served_as, served_fin}

-- IMAGES THAT WERE LEFT

puts_after-push : {E P : Type 0} (at : List E → E → List P) (before es : List E) (e : E) → puts_after at before (es ++ e ∷ []) ≡ puts_after at before es ++ at (before ++ es) e
puts_after-push at before [] e = rw (append-nil before) (append-nil (at before e))
puts_after-push {E} at before (x ∷ es) e =
    let ih = puts_after-push at (before ++ x ∷ []) es e in
    let same : (before ++ x ∷ []) ++ es ≡ before ++ (x ∷ es) = append_assoc before (x ∷ []) es in
    rw ih (rw same (sym (append_assoc (at before x) (puts_after at (before ++ x ∷ []) es) (at (before ++ (x ∷ es)) e))))

-- the images that a longer journal left
pub left_more : (orders : ObjectId → ℕ → List Order) (journal : List (ℕ × QueueNote)) (e : ℕ × QueueNote) → images_left orders (journal ++ e ∷ []) ≡ images_left orders journal ++ left_at orders journal e
left_more orders journal e = puts_after-push (left_at orders) [] journal e

-- the image that an entry leaves is that of its subscription's context
left_there : (orders : ObjectId → ℕ → List Order) (journal : List (ℕ × QueueNote)) (ss : List SeatData) (note : QueueNote) → Stands journal (deeds orders journal) ss
    → left_in (λ s. context_in (Sub s) ss) note ≡ left_in (context_after orders journal) note
left_there orders journal ss (q.Create slot object make tag) stands = refl
left_there orders journal ss (q.Deliver slot sub msg) stands = refl
left_there orders journal ss (q.Reply slot inbox body) stands = refl
left_there orders journal ss (q.Bad slot sub kind sender seq bytes) stands = refl
left_there orders journal ss (q.BadReply slot inbox bytes) stands = refl
left_there orders journal ss (q.Tick slot timer moment) stands = refl
left_there orders journal ss (q.Gone slot (Sub s)) stands = ap (λ (c : ContextData). image_put s (image_in c)) (context_there orders journal ss s stands)
left_there orders journal ss (q.Gone slot (Timer t)) stands = refl
left_there orders journal ss (q.Gone slot (Inbox i)) stands = refl
left_there orders journal ss q.Fin stands = refl

-- ROOM FOR LISTS

-- there are as many seats as objects that were made
seated_length : (h : ObjectId → Bool) (ds : List Deed) (bs : List Born) (ss : List SeatData) → Seated h ds bs ss → length ss ≡ length bs
seated_length h ds [] [] seated = refl
seated_length h ds [] (s ∷ ss) seated = absurd seated
seated_length h ds (b ∷ bs) [] seated = absurd seated
seated_length h ds (b ∷ bs) (s ∷ ss) seated = ap suc (seated_length h ds bs ss seated.1)

-- an entry adds the seats of the objects that it makes
grown : (journal : List (ℕ × QueueNote)) (fins port : ℕ) (note : QueueNote) (before after : List SeatData) (pb pa : List QueuePut)
    → IsServed journal fins before → AreApart after → Serves note before after pb pa → length after ≡ length before + length (born_in note)
grown journal fins port note before after pb pa served apart serves =
    let orders : ObjectId → ℕ → List Order = λ o. given_at o after in
    let fits = given_fits after apart in
    let stands = served.stands orders (serves.fits orders fits) in
    let next = (standing orders journal port note before after pb pa serves fits stands).stands in
    let n = seated_length (is_live (deeds orders journal)) (deeds orders journal) (born journal) before stands.seated in
    let m = seated_length (is_live (deeds orders (journal ++ (port, note) ∷ []))) (deeds orders (journal ++ (port, note) ∷ [])) (born (journal ++ (port, note) ∷ [])) after next.seated in
    m ∙ ap length (born_more journal port note) ∙ length-append (born journal) (born_in note) ∙ ap (λ (k : ℕ). k + length (born_in note)) (sym n)

-- WHAT IS KEPT

pub none_noted : (room : Vec (ObjectId × Vec CallNote)) → room.items ≡ [] → IsNoted [] [] room []
none_noted room none = record { none = none; enough = omega arith; left = λ orders fits. refl }

-- only the room changed
pub noted_roomy : (journal : List (ℕ × QueueNote)) (before after : List SeatData) (r t : Vec (ObjectId × Vec CallNote)) (images : List (SubId × ImageHead × List FieldData))
    → told_seats after ≡ told_seats before → t.items ≡ [] → vec_capacity r ≤ vec_capacity t → IsNoted journal before r images → IsNoted journal after t images
noted_roomy journal before after r t images same none more noted =
    let lengths : length after ≡ length before = sym (length-map after (with_room 0)) ∙ ap length same ∙ length-map before (with_room 0) in
    record {
      none = none;
      enough = omega (arith, noted.enough);
      left = λ orders fits. noted.left orders (fits_untold orders before (subst (λ (ss : List SeatData). Fits orders ss) same (fits_told orders after fits)));
    }

-- an entry was served
pub noted_next : (journal : List (ℕ × QueueNote)) (fins port : ℕ) (note : QueueNote) (before after : List SeatData) (r t : Vec (ObjectId × Vec CallNote))
    (images left : List (SubId × ImageHead × List FieldData)) (pb pa : List QueuePut)
    → IsServed journal fins before → AreApart after → Serves note before after pb pa → IsNoted journal before r images
    → t.items ≡ [] → length before + length (born_in note) ≤ vec_capacity t → left ≡ left_in (λ s. context_in (Sub s) before) note
    → IsNoted (journal ++ (port, note) ∷ []) after t (images ++ left)
noted_next journal fins port note before after r t images left pb pa served apart serves noted none more is = record {
  none = none;
  enough = let n = grown journal fins port note before after pb pa served apart serves in omega (arith, n, more);
  left = λ orders fits.
      let earlier = serves.fits orders fits in
      ap (λ (xs : List (SubId × ImageHead × List FieldData)). xs ++ left) (noted.left orders earlier)
      ∙ ap (λ (xs : List (SubId × ImageHead × List FieldData)). images_left orders journal ++ xs) (is ∙ left_there orders journal before note (served.stands orders earlier))
      ∙ sym (left_more orders journal (port, note));
}

-- a Fin
pub noted_fin : (journal : List (ℕ × QueueNote)) (port : ℕ) (ss : List SeatData) (room : Vec (ObjectId × Vec CallNote)) (images : List (SubId × ImageHead × List FieldData))
    → IsNoted journal ss room images → IsNoted (journal ++ (port, q.Fin) ∷ []) ss room images
noted_fin journal port ss room images noted = record {
  none = noted.none;
  enough = noted.enough;
  left = λ orders fits. noted.left orders fits ∙ sym (left_more orders journal (port, q.Fin) ∙ append-nil (images_left orders journal));
}

-- WHAT IS GIVEN UP

-- the callbacks of seats are those of the objects that were made
lists_seated : (h : ObjectId → Bool) (ds : List Deed) (bs : List Born) (ss : List SeatData) → Seated h ds bs ss
    → lists_in ss ≡ map (λ o. (o, notes_of o ds)) (map (λ (b : Born). b.object) bs)
lists_seated h ds [] [] seated = refl
lists_seated h ds [] (s ∷ ss) seated = absurd seated
lists_seated h ds (b ∷ bs) [] seated = absurd seated
lists_seated h ds (b ∷ bs) (s ∷ ss) seated =
    pair s.object b.object s.calls (notes_of b.object ds) _ _ seated.0.object seated.0.calls (lists_seated h ds bs ss seated.1)
  where
    pair : (o p : ObjectId) (ns ms : List CallNote) (xs ys : List (ObjectId × List CallNote)) → o ≡ p → ns ≡ ms → xs ≡ ys → (o, ns) ∷ xs ≡ (p, ms) ∷ ys
    pair o p ns ms xs ys eo en ex = cc

pub lists_there : (orders : ObjectId → ℕ → List Order) (journal : List (ℕ × QueueNote)) (ss : List SeatData) → Stands journal (deeds orders journal) ss → lists_in ss ≡ calls_made orders journal
lists_there orders journal ss stands = lists_seated (is_live (deeds orders journal)) (deeds orders journal) (born journal) ss stands.seated

-- A QUEUE WITH ITS NOTES

-- only the room changed
pub serving_roomy : (journal es : List (ℕ × QueueNote)) (fins : ℕ) (before after : List SeatData) (r t : Vec (ObjectId × Vec CallNote)) (images kept : List (SubId × ImageHead × List FieldData))
    → es ≡ journal → told_seats after ≡ told_seats before → t.items ≡ [] → vec_capacity r ≤ vec_capacity t → kept ≡ images
    → IsServing journal fins before r images → IsServing es fins after t kept
serving_roomy journal es fins before after r t images kept same seats none more is serving =
    subst (λ (j : List (ℕ × QueueNote)). IsServing j fins after t kept) (sym same)
    (subst (λ (xs : List (SubId × ImageHead × List FieldData)). IsServing journal fins after t xs) (sym is)
    (record { served = served_roomy journal fins before after seats serving.served; noted = noted_roomy journal before after r t images seats none more serving.noted }))

-- an entry was served
pub serving_as : (journal es : List (ℕ × QueueNote)) (fins : ℕ) (comes : Option (ObjectId × ListenerData)) (port : ℕ) (note of : QueueNote) (before after : List SeatData)
    (r t : Vec (ObjectId × Vec CallNote)) (images kept left : List (SubId × ImageHead × List FieldData)) (pb pa : List QueuePut)
    → es ≡ journal ++ (port, note) ∷ [] → note ≡ of → IsServing journal fins before r images → AreApart before → AreApart after
    → is_fin (port, note) ≡ false → Serves of before after pb pa → KeptWith comes before after
    → t.items ≡ [] → length before + length (born_in note) ≤ vec_capacity t → left ≡ left_in (λ s. context_in (Sub s) before) note → kept ≡ images ++ left
    → IsServing es fins after t kept
serving_as journal es fins comes port note of before after r t images kept left pb pa grown noted serving apart later middle serves with none more is all =
    subst (λ (j : List (ℕ × QueueNote)). IsServing j fins after t kept) (sym grown)
    (subst (λ (xs : List (SubId × ImageHead × List FieldData)). IsServing (journal ++ (port, note) ∷ []) fins after t xs) (sym all)
    (record {
      served = served_as journal fins comes port note of before after pb pa noted serving.served apart middle serves with;
      noted =
          let served : Serves note before after pb pa = subst (λ (n : QueueNote). Serves n before after pb pa) (sym noted) serves in
          noted_next journal fins port note before after r t images left pb pa serving.served later served serving.noted none more is;
    }))

-- a Fin
pub serving_fin : (journal es : List (ℕ × QueueNote)) (fins more port : ℕ) (ss : List SeatData) (room : Vec (ObjectId × Vec CallNote)) (images : List (SubId × ImageHead × List FieldData))
    → es ≡ journal ++ (port, q.Fin) ∷ [] → more ≡ suc fins → IsServing journal fins ss room images → IsServing es more ss room images
serving_fin journal es fins more port ss room images grown is serving =
    subst (λ (j : List (ℕ × QueueNote)). IsServing j more ss room images) (sym grown)
    (subst (λ (n : ℕ). IsServing (journal ++ (port, q.Fin) ∷ []) n ss room images) (sym is)
    (record { served = served_fin journal fins port ss serving.served; noted = noted_fin journal port ss room images serving.noted }))

pub none_serving : (journal : List (ℕ × QueueNote)) (ss : List SeatData) (room : Vec (ObjectId × Vec CallNote)) (images : List (SubId × ImageHead × List FieldData))
    → journal ≡ [] → ss ≡ [] → room.items ≡ [] → images ≡ [] → IsServing journal 0 ss room images
none_serving journal ss room images j s r i =
    subst (λ (es : List (ℕ × QueueNote)). IsServing es 0 ss room images) (sym j)
    (subst (λ (xs : List SeatData). IsServing [] 0 xs room images) (sym s)
    (subst (λ (xs : List (SubId × ImageHead × List FieldData)). IsServing [] 0 [] room xs) (sym i) (record { served = no_journal; noted = none_noted room r })))
