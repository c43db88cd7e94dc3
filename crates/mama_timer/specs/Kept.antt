-- inner: When what the code keeps is what the service's journal says: its timers, and who said the last word.
use Rattle.std.specs.Prelude.{ℕ, Bool, List}
use Rattle.mama_event.specs.declared.ids.TimerId.{TimerId}
use Rattle.mama_event.specs.declared.shape.Shape.{Shape}
use Rattle.mama_event.specs.declared.to_timers.TimersNote.{TimersNote}
use Rattle.mama_rules_services.specs.Timers.{heard, timers_puts}
use Rattle.mama_timer.specs.declared.table.Row.{Row}
use Rattle.mama_timer.specs.Rows.{row_of, is_listed}
use Rattle.mama_slots.specs.Slots.{SlotData}
use Rattle.mama_timer.specs.Stands.{Stands, AreRolls}

pub record Kept (shape : Shape) (journal : List (ℕ × TimersNote)) (moment : ℕ) (rows : List (TimerId × Row)) (dues : List (ℕ × TimerId)) (slots : SlotData)
    (clients : List Bool) (bridge : Bool) (queues : List Bool) : Type 0 where
  pub stands : Stands shape (heard shape journal) (timers_puts shape journal) moment (row_of rows) (is_listed dues) slots
  pub rolls : AreRolls shape (heard shape journal) clients bridge queues
