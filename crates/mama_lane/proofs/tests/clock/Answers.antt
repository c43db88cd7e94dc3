use Rattle.std.proofs.Common.{◌≡◌, Bool, true, false, not, ◌&&◌, ◌||◌, List, [], ◌∷◌, ◌++◌, map, sym, refl, ap, ◌∙◌, subst}
use Rattle.std.proofs.lemmas.List.{map-append}
use Rattle.std.specs.List.{list_any}
use Rattle.mama_event.specs.declared.ids.ObjectId.{ObjectId}
use Rattle.mama_event.specs.declared.shape.Bounds.{Bounds}
use Rattle.mama_event.specs.declared.to_timers.ToTimers.{ToTimers}
use Rattle.mama_event.specs.declared.to_timers.ToTimers.TheVariants.{Now}
use Rattle.mama_event.specs.Lawful.{IsLawful}
use Rattle.mama_event.specs.LawfulLaws.{IsLawful-push}
use Rattle.mama_event.specs.ToTimers.{note_of, is_last, is_within, fits}
use Rattle.mama_lane.proofs.tests.clock.Goals as goal

-- one event more is lawful, where none before was the last
one_more : (bounds : Bounds) (events : List (ToTimers ObjectId)) (event : ToTimers ObjectId) → IsLawful is_last (fits bounds) (map (note_of (λ object. object)) events) → list_any is_last (map (note_of (λ object. object)) events) ≡ false
    → is_within bounds (note_of (λ object. object) event) ≡ true → IsLawful is_last (fits bounds) (map (note_of (λ object. object)) (events ++ event ∷ []))
one_more bounds events event lawful goes_on within =
    subst (IsLawful is_last (fits bounds)) (sym (map-append (note_of (λ object. object)) events (event ∷ [])))
    (IsLawful-push is_last (fits bounds) (map (note_of (λ object. object)) events) (note_of (λ object. object) event) lawful
    (ap (λ (b : Bool). not b && is_within bounds (note_of (λ object. object) event)) goes_on ∙ within))

-- nor is the last among one event more that is not
still_on : (events : List (ToTimers ObjectId)) (event : ToTimers ObjectId) → list_any is_last (map (note_of (λ object. object)) events) ≡ false → is_last (note_of (λ object. object) event) ≡ false
    → list_any is_last (map (note_of (λ object. object)) (events ++ event ∷ [])) ≡ false
still_on [] event goes_on not_last = ap (λ (b : Bool). b || false) not_last
still_on (e ∷ es) event goes_on not_last = neither (is_last (note_of (λ object. object) e)) (list_any is_last (map (note_of (λ object. object)) es)) _ goes_on (λ rest. still_on es event rest not_last)
  where
    neither : (a b c : Bool) → (a || b) ≡ false → (b ≡ false → c ≡ false) → (a || c) ≡ false
    neither true b c e f = e
    neither false b c e f = f e

pub loop-moment-preserved : goal.loop-moment-preserved
loop-moment-preserved c = let i = c.loop-moment.invariant in rw c.in_ok-push.ensures.items (record {
  lawful = λ bounds. one_more bounds _ _ (i.lawful bounds) i.goes_on refl;
  goes_on = still_on c.loop-moment.events.items (Now c.loop-moment.moment) i.goes_on refl;
})

pub returns : goal.returns
returns c = let i = c.loop-moment.invariant in rw c.in_ok-push-2.ensures.items (λ bounds. one_more bounds _ _ (i.lawful bounds) i.goes_on refl)
