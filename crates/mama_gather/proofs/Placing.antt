-- Values that are put at the places of their objects, and those that are taken in the order of the objects.
use Rattle.std.specs.Prelude.{slice_set}
use Rattle.std.specs.Global.{Vec}
use Rattle.std.specs.List.{All, slice_get}
use Rattle.std.proofs.Common.{◌≡◌, ℕ, zero, suc, ◌<◌, ◌⊎◌, inl, inr, ⊎_elim, List, [], ◌∷◌, ◌++◌, length, get_or, map, Option, Some, None, refl, sym, ◌∙◌, ap, subst}
use Rattle.std.proofs.lemmas.List.{length-map, map-append}
use Rattle.std.proofs.lemmas.List.Elements.{All-head}
use Rattle.std.proofs.lemmas.Option.{slice_get_read}
use Rattle.mama_event.specs.declared.ids.ObjectId.{ObjectId}
use Rattle.mama_event.specs.declared.callback.CallNote.{CallNote}
use Rattle.mama_event.specs.Listener.{ListenerData}
use Rattle.mama_rules_rounds.specs.Client.{Planned}
use Rattle.mama_posts_clients.specs.Queue.{HasComeBack}
use Rattle.mama_gather.specs.Places.{IsPut, AreCallsFound, AreListenersFound}
use Rattle.mama_gather.proofs.Lists.{all_at, map_get, get_same, all_front, all_back, begins_more, begins_all}

-- what stands at an index after another was written
get_set : {A : Type 0} (xs : List A) (n : ℕ) (y : A) (k : ℕ) (z : A) → slice_get (slice_set xs n y) k ≡ Some z → ((n ≡ k) × (y ≡ z)) ⊎ (slice_get xs k ≡ Some z)
get_set [] n y k z at = inr at
get_set (x ∷ xs) zero y zero z at = let same : y ≡ z = cc at in inl (refl, same)
get_set (x ∷ xs) zero y (suc k) z at = inr at
get_set (x ∷ xs) (suc n) y zero z at = inr at
get_set (x ∷ xs) (suc n) y (suc k) z at = ⊎_elim (λ here. inl (ap suc here.0, here.1)) (λ there. inr there) (get_set xs n y k z at)

-- A value that is good at each place of its object is put: all values are good still.
module _ {T : Type 0} (good : Planned → T → Type 0) where
  abbrev AreGood : List Planned → List (Option T) → Type 0
  AreGood objects found = (k : ℕ) (p : Planned) (value : T) → slice_get objects k ≡ Some p → slice_get found k ≡ Some (Some value) → good p value

  put_good : (objects : List Planned) (queue : ℕ) (object : ObjectId) (value : T) (old new : List (Option T)) → IsPut objects queue object value old new
      → ((p : Planned) → p.object ≡ object → p.queue ≡ queue → good p value) → AreGood objects old → AreGood objects new
  put_good objects queue object value old new put is_good were k p v at found =
      ⊎_elim
      (λ here.
      let same : p ≡ put.at.planned = get_same objects k p put.at.planned at (subst (λ (n : ℕ). slice_get objects n ≡ Some put.at.planned) here.0 put.at.there) in
      let own : value ≡ v = cc (here.1) in
      subst (good p) own (is_good p (ap (λ (q : Planned). q.object) same ∙ put.at.object_is) (ap (λ (q : Planned). q.queue) same ∙ put.at.queue_is)))
      (λ there. were k p v at there)
      (get_set old put.place (Some value) k (Some v) (subst (λ (xs : List (Option T)). slice_get xs k ≡ Some (Some v)) put.after found))

  none_good : (objects : List Planned) (found : List (Option T)) → All (λ (value : Option T). value ≡ None) found → AreGood objects found
  none_good objects found none k p v at there = let nothing : Some v ≡ None = all_found found k (Some v) none there in absurd (cc nothing)
    where
      all_found : (xs : List (Option T)) (n : ℕ) (x : Option T) → All (λ (value : Option T). value ≡ None) xs → slice_get xs n ≡ Some x → x ≡ None
      all_found xs n x all is = all_at (λ (value : Option T). value ≡ None) xs n x all is

pub call_put : (calls : ℕ → ObjectId → List CallNote) (objects : List Planned) (queue : ℕ) (object : ObjectId) (notes : Vec CallNote) (old new : List (Option (Vec CallNote))) → IsPut objects queue object notes old new
    → notes.items ≡ calls queue object → AreCallsFound calls objects old → AreCallsFound calls objects new
call_put calls objects queue object notes old new put own were =
    put_good (λ p n. n.items ≡ calls p.queue p.object) objects queue object notes old new put
    (λ p is_object is_queue. own ∙ ap (λ (q : ℕ). calls q object) (sym is_queue) ∙ ap (calls p.queue) (sym is_object)) were

pub listener_put : {L : Type 0} (view : L → ListenerData) (calls : ℕ → ObjectId → List CallNote) (objects : List Planned) (queue : ℕ) (object : ObjectId) (listener : L) (old new : List (Option L))
    → IsPut objects queue object listener old new → HasComeBack (calls queue object) (object, view listener) → AreListenersFound view calls objects old → AreListenersFound view calls objects new
listener_put {L} view calls objects queue object listener old new put own were =
    put_good (λ p l. HasComeBack (calls p.queue p.object) (p.object, view l)) objects queue object listener old new put
    (λ p is_object is_queue.
    subst (λ (o : ObjectId). HasComeBack (calls p.queue o) (o, view listener)) (sym is_object)
    (subst (λ (q : ℕ). HasComeBack (calls q object) (object, view listener)) (sym is_queue) own)) were

pub no_calls : (calls : ℕ → ObjectId → List CallNote) (objects : List Planned) (found : List (Option (Vec CallNote))) → All (λ (value : Option (Vec CallNote)). value ≡ None) found → AreCallsFound calls objects found
no_calls calls objects found none = none_good (λ p n. n.items ≡ calls p.queue p.object) objects found none

pub no_listeners : {L : Type 0} (view : L → ListenerData) (calls : ℕ → ObjectId → List CallNote) (objects : List Planned) (found : List (Option L)) → All (λ (value : Option L). value ≡ None) found
    → AreListenersFound view calls objects found
no_listeners {L} view calls objects found none = none_good (λ p l. HasComeBack (calls p.queue p.object) (p.object, view l)) objects found none

-- what stands at an index of a list that is mapped
pub place_there : {A B : Type 0} (f : A → B) (xs : List A) (ys : List B) (k : ℕ) (x : A) → map f xs ≡ ys → k < length xs → x ≡ get_or xs k x → slice_get ys k ≡ Some (f x)
place_there {A} {B} f xs ys k x same small is = ap (λ (zs : List B). slice_get zs k) (sym same) ∙ map_get f xs k x (slice_get_read xs (length xs) k x refl small is)

-- ---- the values in the order of the objects, one after another

abbrev Begun : {T P : Type 0} → (P → ObjectId) → List P → List (ObjectId × T) → Type 0
Begun object objects values = (rest : List ObjectId) × (map (λ v. v.0) values ++ rest ≡ map object objects)

pub begun_first : {T P : Type 0} (object : P → ObjectId) (objects : List P) (values : List (ObjectId × T)) → values ≡ [] → Begun object objects values
begun_first {T} {P} object objects values none = (map object objects, ap (λ (vs : List (ObjectId × T)). map (λ v. v.0) vs ++ map object objects) none)

pub begun_more : {T P : Type 0} (object : P → ObjectId) (objects : List P) (values new : List (ObjectId × T)) (p : P) (v : T) (k : ℕ) → new ≡ values ++ (object p, v) ∷ [] → Begun object objects values → k ≡ length values → k < length objects
    → p ≡ get_or objects k p → Begun object objects new
begun_more {T} {P} object objects values new p v k more so len small is =
    let at : slice_get (map object objects) (length values) ≡ Some (object p) = ap (λ (n : ℕ). slice_get (map object objects) n) (sym len) ∙ place_there object objects (map object objects) k p refl small is in
    let here : slice_get (map object objects) (length (map (λ (w : ObjectId × T). w.0) values)) ≡ Some (object p) = ap (λ (n : ℕ). slice_get (map object objects) n) (length-map values (λ (w : ObjectId × T). w.0)) ∙ at in
    let begun = begins_more (map (λ (w : ObjectId × T). w.0) values) so.0 (map object objects) (object p) so.1 here in
    (begun.0, ap (λ (vs : List ObjectId). vs ++ begun.0) (ap (map (λ (w : ObjectId × T). w.0)) more ∙ map-append (λ (w : ObjectId × T). w.0) values ((object p, v) ∷ [])) ∙ begun.1)

pub values_more : {T : Type 0} (values new : List (ObjectId × T)) (o : ObjectId) (v : T) (before : List (Option T)) (next : Option T) → new ≡ values ++ (o, v) ∷ [] → map (λ w. Some w.1) values ≡ before → next ≡ Some v
    → map (λ w. Some w.1) new ≡ before ++ next ∷ []
values_more {T} values new o v before next more were is =
    ap (map (λ (w : ObjectId × T). Some w.1)) more ∙ map-append (λ (w : ObjectId × T). Some w.1) values ((o, v) ∷ [])
    ∙ ap (λ (xs : List (Option T)). xs ++ Some v ∷ []) were ∙ ap (λ (x : Option T). before ++ x ∷ []) (sym is)

pub begun_all : {T P Q : Type 0} (object : P → ObjectId) (view : P → Q) (named : Q → ObjectId) (objects : List P) (plans : List Q) (values : List (ObjectId × T)) → ((p : P) → named (view p) ≡ object p) → map view objects ≡ plans
    → Begun object objects values → length values ≡ length objects → map (λ v. v.0) values ≡ map named plans
begun_all {T} {P} {Q} object view named objects plans values same are so len =
    begins_all (map (λ (w : ObjectId × T). w.0) values) so.0 (map object objects) so.1 (length-map values (λ (w : ObjectId × T). w.0) ∙ len ∙ sym (length-map objects object))
    ∙ named_same objects ∙ ap (map named) are
  where
    named_same : (ps : List P) → map object ps ≡ map named (map view ps)
    named_same [] = refl
    named_same (p ∷ ps) = ap (λ (o : ObjectId). o ∷ map object ps) (sym (same p)) ∙ ap (λ (os : List ObjectId). named (view p) ∷ os) (named_same ps)

-- one callback list more, and one listener more, of those that are gone through
pub call_more : (calls : ℕ → ObjectId → List CallNote) (objects : List Planned) (queue : ℕ) (before : List (ObjectId × Vec CallNote)) (next : ObjectId × Vec CallNote) (first old new : List (Option (Vec CallNote)))
    → (All (λ (l : ObjectId × Vec CallNote). l.1.items ≡ calls queue l.0) before → AreCallsFound calls objects first → AreCallsFound calls objects old) → IsPut objects queue next.0 next.1 old new
    → All (λ (l : ObjectId × Vec CallNote). l.1.items ≡ calls queue l.0) (before ++ next ∷ []) → AreCallsFound calls objects first → AreCallsFound calls objects new
call_more calls objects queue before next first old new so put all were =
    let P = λ (l : ObjectId × Vec CallNote). l.1.items ≡ calls queue l.0 in
    call_put calls objects queue next.0 next.1 old new put (All-head P next [] (all_back P before (next ∷ []) all)) (so (all_front P before (next ∷ []) all) were)

pub listener_more : {L : Type 0} (view : L → ListenerData) (calls : ℕ → ObjectId → List CallNote) (objects : List Planned) (queue : ℕ) (before : List (ObjectId × L)) (next : ObjectId × L) (first old new : List (Option L))
    → (All (λ (b : ObjectId × L). HasComeBack (calls queue b.0) (b.0, view b.1)) before → AreListenersFound view calls objects first → AreListenersFound view calls objects old) → IsPut objects queue next.0 next.1 old new
    → All (λ (b : ObjectId × L). HasComeBack (calls queue b.0) (b.0, view b.1)) (before ++ next ∷ []) → AreListenersFound view calls objects first → AreListenersFound view calls objects new
listener_more {L} view calls objects queue before next first old new so put all were =
    let P = λ (b : ObjectId × L). HasComeBack (calls queue b.0) (b.0, view b.1) in
    listener_put view calls objects queue next.0 next.1 old new put (All-head P next [] (all_back P before (next ∷ []) all)) (so (all_front P before (next ∷ []) all) were)
