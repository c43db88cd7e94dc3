-- The callbacks and the listeners in the order of their objects.
use Rattle.std.specs.Global.{Vec}
use Rattle.std.proofs.Common.{◌≡◌, ℕ, suc, List, [], ◌∷◌, map, Some, refl, ◌∙◌, ap}
use Rattle.mama_event.specs.declared.ids.ObjectId.{ObjectId}
use Rattle.mama_event.specs.declared.callback.CallNote.{CallNote}
use Rattle.mama_event.specs.Listener.{ListenerData}
use Rattle.mama_record.specs.RunData.{ObjectCalls}
use Rattle.mama_record.specs.RunView.{calls_of}
use Rattle.mama_rules_rounds.specs.Client.{Planned}
use Rattle.mama_close.specs.Back.{AreBack}
use Rattle.mama_gather.specs.Places.{AreCallsFound, AreListenersFound}

abbrev pub told_of : (ℕ → ObjectId → List CallNote) → Planned → ObjectCalls
told_of calls p = record { object = p.object; calls = calls p.queue p.object }

pub calls_listed : (calls : ℕ → ObjectId → List CallNote) (objects : List Planned) (values : List (ObjectId × Vec CallNote)) → map (λ v. v.0) values ≡ map (λ p. p.object) objects
    → AreCallsFound calls objects (map (λ v. Some v.1) values) → calls_of values ≡ map (told_of calls) objects
calls_listed calls [] [] same found = refl
calls_listed calls [] (v ∷ values) same found = absurd (cc same)
calls_listed calls (p ∷ objects) [] same found = absurd (cc same)
calls_listed calls (p ∷ objects) (v ∷ values) same found =
    let first : v.0 ≡ p.object = cc same in
    let rest : map (λ v. v.0) values ≡ map (λ p. p.object) objects = cc same in
    ap (λ (o : ObjectId). record { object = o; calls = v.1.items } ∷ calls_of values) first
    ∙ ap (λ (notes : List CallNote). record { object = p.object; calls = notes } ∷ calls_of values) (found 0 p v.1 refl refl)
    ∙ ap (λ (cs : List ObjectCalls). told_of calls p ∷ cs) (calls_listed calls objects values rest (λ k q notes at is. found (suc k) q notes at is))

pub listeners_listed : {L : Type 0} (view : L → ListenerData) (calls : ℕ → ObjectId → List CallNote) (objects : List Planned) (values : List (ObjectId × L)) → map (λ v. v.0) values ≡ map (λ p. p.object) objects
    → AreListenersFound view calls objects (map (λ v. Some v.1) values) → AreBack view (map (told_of calls) objects) values
listeners_listed view calls [] [] same found = tt
listeners_listed view calls [] (v ∷ values) same found = absurd (cc same)
listeners_listed view calls (p ∷ objects) [] same found = absurd (cc same)
listeners_listed view calls (p ∷ objects) (v ∷ values) same found =
    let first : v.0 ≡ p.object = cc same in
    let rest : map (λ v. v.0) values ≡ map (λ p. p.object) objects = cc same in
    let back = found 0 p v.1 refl refl in
    (record { object = first; tag = back.tag; count = back.count; heard = back.heard }, listeners_listed view calls objects values rest (λ k q l at is. found (suc k) q l at is))
