use Rattle.std.proofs.Common.{◌≡◌, ℕ, Bool, true, false, not, ◌&&◌, ◌||◌, List, [], ◌∷◌, ◌++◌, ap, ◌∙◌}
use Rattle.std.specs.List.{list_any}
use Rattle.std.proofs.lemmas.List.Folds.{list_any-append}
use Rattle.mama_event.specs.declared.shape.Bounds.{Bounds}
use Rattle.mama_event.specs.declared.to_timers.TimersNote.{TimersNote}
use Rattle.mama_event.specs.declared.to_timers.TimersNote.TheVariants.{Now}
use Rattle.mama_event.specs.Lawful.{IsLawful}
use Rattle.mama_event.specs.LawfulLaws.{IsLawful-push}
use Rattle.mama_event.specs.ToTimers.{is_last, fits}
use Rattle.mama_tests_calls.proofs.lanes.put_all.Goals as goal

-- one moment more is lawful where nothing before was the last
one_more : (bounds : Bounds) (put : List TimersNote) (moment : ℕ) → IsLawful is_last (fits bounds) put → list_any is_last put ≡ false → IsLawful is_last (fits bounds) (put ++ Now moment ∷ [])
one_more bounds put moment lawful goes_on = IsLawful-push is_last (fits bounds) put (Now moment) lawful (ap (λ (b : Bool). not b && true) goes_on)

-- and it is not the last
still_on : (put : List TimersNote) (moment : ℕ) → list_any is_last put ≡ false → list_any is_last (put ++ Now moment ∷ []) ≡ false
still_on put moment goes_on = list_any-append is_last put (Now moment ∷ []) ∙ ap (λ (b : Bool). b || false) goes_on

pub put_one-requires-clause-lawful : goal.put_one-requires-clause-lawful
put_one-requires-clause-lawful g c = let i = c.loop-moment.invariant in one_more c.loop-moment.port.bounds c.loop-moment.port.put c.loop-moment.moment (i.lawful c.loop-moment.port.bounds) i.goes_on

pub loop-moment-preserved : goal.loop-moment-preserved
loop-moment-preserved g c = let i = c.loop-moment.invariant in rw c.in_ok-put_one.ensures (record {
  lane = i.lane;
  lawful = λ bounds. one_more bounds c.loop-moment.port.put c.loop-moment.moment (i.lawful bounds) i.goes_on;
  goes_on = still_on c.loop-moment.port.put c.loop-moment.moment i.goes_on;
})
