-- The first lines of a part that fits are those of a part that fits.
use Rattle.std.proofs.Common.{◌≡◌, ℕ, zero, suc, ◌+◌, ◌≤◌, List, [], ◌∷◌, ◌++◌, length, map, take, drop, Some, refl, sym, ap, ◌∙◌, arith, inl, inr}
use Rattle.std.specs.Prelude.{◌⊎◌, option_and_then}
use Rattle.std.specs.List.{flat_map, All, AllByRecursion}
use Rattle.std.proofs.lemmas.List.{append-nil, map-append, length-map, length-take-le}
use Rattle.std.proofs.lemmas.List.Elements.{All-from_recursion, recursion_from_All}
use Rattle.mama_event.specs.declared.ids.SubId.{SubId}
use Rattle.mama_event.specs.declared.ids.ObjectId.{ObjectId}
use Rattle.mama_event.specs.declared.callback.CallNote.{CallNote}
use Rattle.mama_words.proofs.Choices.{and_then_some}
use Rattle.mama_record.specs.RunData.{LastImage}
use Rattle.mama_record.specs.LogText.{callback_text, given_text, call_texts}
use Rattle.mama_log_line.specs.Names.{NamesData}
use Rattle.mama_log_line.specs.Entering.{MayEnterPublisher, MayEnterBridge, MayEnterTimers, MayEnterQueue, MayHearGroup, MayNote, MayOrder, IsLastImage}
use Rattle.mama_log_read.specs.Logged.{IsMoment, MayCall}
use Rattle.mama_log_read.specs.Part.{Part, Bare, Moments, Sends, OnBridge, OnTimers, OnQueue, Heard, Pictures, Grouped, Watched, Fits, ArePictures, bodies, behind, behind_all}
use Rattle.mama_log_read.specs.declared.section.Section.{Section}
use Rattle.mama_log_read.specs.declared.section.Section.TheVariants as s

all_take : {A : Type 0} (P : A → Type 0) (k : ℕ) (xs : List A) → AllByRecursion P xs → AllByRecursion P (take k xs)
all_take P zero xs h = tt
all_take P (suc k) [] h = tt
all_take P (suc k) (x ∷ xs) h = (h.0, all_take P k xs h.1)

All-take : {A : Type 0} (P : A → Type 0) (k : ℕ) (xs : List A) → All P xs → All P (take k xs)
All-take P k xs h = All-from_recursion P (take k xs) (all_take P k xs (recursion_from_All P xs h))

map_take : {A B : Type 0} (f : A → B) (k : ℕ) (xs : List A) → map f (take k xs) ≡ take k (map f xs)
map_take f zero xs = refl
map_take f (suc k) [] = refl
map_take {A} {B} f (suc k) (x ∷ xs) = ap (λ (t : List B). f x ∷ t) (map_take f k xs)

take_front : {A : Type 0} (k : ℕ) (a b : List A) → k ≤ length a → take k (a ++ b) ≡ take k a
take_front zero a b h = refl
take_front (suc k) [] b h = absurd (omega (arith, h))
take_front {A} (suc k) (x ∷ a) b h = ap (λ (t : List A). x ∷ t) (take_front k a b (omega (arith, h)))

take_past : {A : Type 0} (a b : List A) (j r : ℕ) → j ≡ length a + r → take j (a ++ b) ≡ a ++ take r b
take_past {A} [] b j r e = let same : j ≡ r = omega (arith, e) in ap (λ (k : ℕ). take k b) same
take_past (x ∷ a) b zero r e = absurd (omega (arith, e))
take_past {A} (x ∷ a) b (suc j) r e = ap (λ (t : List A). x ∷ t) (take_past a b j r (omega (arith, e)))

pub within_or : {A : Type 0} (j : ℕ) (xs : List A) → (j ≤ length xs) ⊎ ((r : ℕ) × (j ≡ length xs + r))
within_or zero xs = inl (omega arith)
within_or (suc j) [] = inr (suc j, omega arith)
within_or (suc j) (x ∷ xs) = by (within_or j xs)
  where
    by : (j ≤ length xs) ⊎ ((r : ℕ) × (j ≡ length xs + r)) → (suc j ≤ length (x ∷ xs)) ⊎ ((r : ℕ) × (suc j ≡ length (x ∷ xs) + r))
    by (inl h) = inl (omega (arith, h))
    by (inr h) = inr (h.0, let e = h.1 in omega (arith, e))

-- the first lines of callbacks
record FewCalls (names : NamesData) (object : ObjectId) (k : ℕ) (calls : List CallNote) : Type 0 where
  few : List CallNote
  may : AllByRecursion (MayCall names object) few
  is : flat_map call_texts few ≡ take k (flat_map call_texts calls)

take_none : {A : Type 0} (k : ℕ) → [] ≡ take k (let xs : List A = [] in xs)
take_none zero = refl
take_none (suc k) = refl

few_calls : (names : NamesData) (object : ObjectId) (k : ℕ) (calls : List CallNote) → AllByRecursion (MayCall names object) calls → FewCalls names object k calls
few_calls names object zero calls h = record { few = []; may = tt; is = refl }
few_calls names object (suc k) [] h = record { few = []; may = tt; is = refl }
few_calls names object (suc k) (c ∷ calls) h = by (within_or k c.orders) (λ r. few_calls names object r calls h.1)
  where
    given : List (List ℕ)
    given = map given_text c.orders

    by : (k ≤ length c.orders) ⊎ ((r : ℕ) × (k ≡ length c.orders + r)) → ((r : ℕ) → FewCalls names object r calls) → FewCalls names object (suc k) (c ∷ calls)
    by (inl within) rest =
        let orders = take k c.orders in
        let first : CallNote = record { call = c.call; orders = orders } in
        let long : k ≤ length (map given_text c.orders) = omega (arith, within, length-map c.orders given_text) in
        let short : length (take k c.orders) ≤ 8 = omega (arith, length-take-le k c.orders within, within, h.0.few) in
        let lines : map given_text orders ++ [] ≡ take k (map given_text c.orders ++ flat_map call_texts calls) =
        append-nil (map given_text orders) ∙ map_take given_text k c.orders ∙ sym (take_front k (map given_text c.orders) (flat_map call_texts calls) long) in
        record {
          few = first ∷ [];
          may = (record { call = h.0.call; orders = All-take (MayOrder names) k c.orders h.0.orders; few = short }, tt);
          is = ap (λ (t : List (List ℕ)). callback_text c.call ∷ t) lines;
        }
    by (inr past) rest =
        let more = rest past.0 in
        let e = past.1 in
        let long : k ≡ length (map given_text c.orders) + past.0 = omega (arith, e, length-map c.orders given_text) in
        record {
          few = c ∷ more.few;
          may = (h.0, more.may);
          is =
              ap (λ (t : List (List ℕ)). callback_text c.call ∷ (map given_text c.orders ++ t)) more.is
              ∙ ap (λ (t : List (List ℕ)). callback_text c.call ∷ t) (sym (take_past (map given_text c.orders) (flat_map call_texts calls) k past.0 long));
        }

-- the first images
behind_front : (objects : List ObjectId) (xs ys : List SubId) (over : List ObjectId) → behind_all objects (xs ++ ys) ≡ Some over → (left : List ObjectId) × (behind_all objects xs ≡ Some left)
behind_front objects [] ys over h = (objects, refl)
behind_front objects (x ∷ xs) ys over h =
    let p = and_then_some (λ l. behind_all l (xs ++ ys)) (behind objects x) over h in
    let q = behind_front p.0 xs ys over p.2 in
    (q.0, ap (option_and_then (λ l. behind_all l xs)) p.1 ∙ q.1)

pub take_and_drop : {A : Type 0} (k : ℕ) (xs : List A) → take k xs ++ drop k xs ≡ xs
take_and_drop zero xs = refl
take_and_drop (suc k) [] = refl
take_and_drop {A} (suc k) (x ∷ xs) = ap (λ (t : List A). x ∷ t) (take_and_drop k xs)

few_pictures : (names : NamesData) (objects : List ObjectId) (k : ℕ) (images : List LastImage) (left : List ObjectId) → ArePictures names objects images left → (later : List ObjectId) × ArePictures names objects (take k images) later
few_pictures names objects k images left h =
    let sub : LastImage → SubId = λ i. i.sub in
    let parts : map sub (take k images) ++ map sub (drop k images) ≡ map sub images = sym (map-append sub (take k images) (drop k images)) ∙ ap (map sub) (take_and_drop k images) in
    let front = behind_front objects (map sub (take k images)) (map sub (drop k images)) left (ap (behind_all objects) parts ∙ h.ordered) in
    (front.0, record { each = All-take (IsLastImage names) k images h.each; ordered = front.1 })

-- a part with the first lines of another
pub record IsShort (names : NamesData) (objects : List ObjectId) (section : Section) (part : Part) (k : ℕ) : Type 0 where
  pub short : Part
  pub fits : Fits names objects section short
  pub is : bodies names.shape short ≡ take k (bodies names.shape part)

pub shortened : (names : NamesData) (objects : List ObjectId) (section : Section) (part : Part) (k : ℕ) → Fits names objects section part → IsShort names objects section part k
shortened names objects (s.Title v) Bare k h = record { short = Bare; fits = tt; is = take_none k }
shortened names objects (s.Strategy x) Bare k h = record { short = Bare; fits = tt; is = take_none k }
shortened names objects (s.Client n) (Moments xs) k h = record { short = Moments (take k xs); fits = All-take IsMoment k xs h; is = map_take _ k xs }
shortened names objects (s.Publisher n) (Sends xs) k h = record { short = Sends (take k xs); fits = All-take (MayEnterPublisher names) k xs h; is = map_take _ k xs }
shortened names objects s.Bridge (OnBridge xs) k h = record { short = OnBridge (take k xs); fits = All-take (MayEnterBridge names) k xs h; is = map_take _ k xs }
shortened names objects s.Timers (OnTimers xs) k h = record { short = OnTimers (take k xs); fits = All-take (MayEnterTimers names) k xs h; is = map_take _ k xs }
shortened names objects (s.Queue n) (OnQueue xs) k h = record { short = OnQueue (take k xs); fits = All-take (MayEnterQueue names) k xs h; is = map_take _ k xs }
shortened names objects (s.Object o) (Heard x) k h =
    let f = few_calls names x.object k x.calls (recursion_from_All (MayCall names x.object) x.calls h.1) in
    record { short = Heard (record { object = x.object; calls = f.few }); fits = (h.0, All-from_recursion (MayCall names x.object) f.few f.may); is = f.is }
shortened names objects s.Images (Pictures xs) k h = record { short = Pictures (take k xs); fits = few_pictures names objects k xs h.0 h.1; is = map_take _ k xs }
shortened names objects (s.Group n) (Grouped g) k h = record { short = Grouped (record { group = g.group; notes = take k g.notes }); fits = (h.0, All-take (MayHearGroup names) k g.notes h.1); is = map_take _ k g.notes }
shortened names objects (s.Watch n) (Watched w) k h = record { short = Watched (record { watch = w.watch; notes = take k w.notes }); fits = (h.0, All-take MayNote k w.notes h.1); is = map_take _ k w.notes }
shortened names objects s.End Bare k h = record { short = Bare; fits = tt; is = take_none k }
shortened names objects _ _ k h = absurd h
