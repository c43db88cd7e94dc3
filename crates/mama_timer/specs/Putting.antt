-- inner: The events that the code puts, one by one.
use Rattle.std.specs.Prelude.{ℕ, List, [], ◌∷◌, Option, None, Some}
use Rattle.mama_event.specs.declared.ids.ObjectId.TheVariants.{Timer}
use Rattle.mama_event.specs.declared.to_queue.Make.TheVariants as make
use Rattle.mama_event.specs.declared.to_queue.ToQueue.TheVariants as event
use Rattle.mama_event.specs.declared.to_queue.QueueNote.{QueueNote}
use Rattle.mama_event.specs.declared.to_queue.QueueNote.TheVariants as q
use Rattle.mama_event.specs.declared.to_timers.ToTimers.{ToTimers}
use Rattle.mama_event.specs.declared.to_timers.ToTimers.TheVariants as took
use Rattle.mama_timer.specs.declared.out.TimerOut.{TimerOut}
use Rattle.mama_timer.specs.declared.firing.Firing.{Firing}
use Rattle.mama_timer.specs.declared.ending.Leaving.{Leaving}
use Rattle.mama_timer.specs.declared.heard.Arming.{Arming}

module _ {L : Type 0} where
  -- the Create that an Arm asks for
  abbrev pub create_of : ToTimers L → ℕ → List (TimerOut L)
  create_of (took.Arm timer queue interval listener) slot = record { queue = queue; event = event.Create slot (Timer timer) make.Timer listener } ∷ []
  create_of (took.Disarm timer) slot = []
  create_of (took.Now moment) slot = []
  create_of took.ClientDone slot = []
  create_of took.Bye slot = []
  create_of took.Fin slot = []

  abbrev pub create_if : ToTimers L → Option ℕ → List (TimerOut L)
  create_if event None = []
  create_if event (Some slot) = create_of event slot

  abbrev pub tick_out : ℕ → Firing → TimerOut L
  tick_out moment firing = record { queue = firing.queue; event = event.Tick firing.slot firing.timer moment }

  abbrev pub gone_out : Leaving → TimerOut L
  gone_out leaving = record { queue = leaving.queue; event = event.Gone leaving.slot (Timer leaving.timer) }

  abbrev pub fin_out : ℕ → TimerOut L
  fin_out queue = record { queue = queue; event = event.Fin }

-- the places that timers leave, as plain data
abbrev pub gone_note : Leaving → ℕ × QueueNote
gone_note leaving = (leaving.queue, q.Gone leaving.slot (Timer leaving.timer))

-- what is put where a timer leaves its place, if one does
abbrev pub gone_puts : Option Leaving → List (ℕ × QueueNote)
gone_puts None = []
gone_puts (Some leaving) = gone_note leaving ∷ []

-- what is put where a timer takes a slot, if it takes one
abbrev pub created_puts : Arming → Option ℕ → List (ℕ × QueueNote)
created_puts arming None = []
created_puts arming (Some slot) = (arming.queue, q.Create slot (Timer arming.timer) make.Timer arming.tag) ∷ []
