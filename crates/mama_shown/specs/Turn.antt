-- inner: A step of a queue's seat and its board.
use Rattle.std.specs.Prelude.{◌≡◌, ℕ, ◌+◌, true, length, is_some}
use Rattle.mama_script.specs.Script.{ScriptData}
use Rattle.mama_crew.specs.Seat.{journal_in}
use Rattle.mama_grouped.specs.Seat as grouped
use Rattle.mama_grouped.specs.declared.seat.GroupedSeat.{GroupedSeat}
use Rattle.mama_shown.specs.declared.showing.Showing.{Showing}

-- the seat made a step, before and after which all is shown; or one entry more was shown; or, where the seat had ended, the board was sealed
pub data Steps {L H R : Type 0} (script : ScriptData) (moment : ℕ) (seat : GroupedSeat L H) (showing : Showing R) (seat_after : GroupedSeat L H) (showing_after : Showing R) : Type 0 where
  step : length (journal_in seat.seat) ≡ showing.shown → grouped.MadeStep script moment seat seat_after → length (journal_in seat_after.seat) ≡ showing_after.shown → Steps script moment seat showing seat_after showing_after
  show : seat_after ≡ seat → showing_after.shown ≡ showing.shown + 1 → Steps script moment seat showing seat_after showing_after
  seal : grouped.HasEnded seat → seat_after ≡ seat → is_some showing_after.told ≡ true → Steps script moment seat showing seat_after showing_after
