-- inner: What an event means, as the code keeps it.
use Rattle.mama_rules_services.specs.Timers.{TimersEvent, arms, disarms, now, client_done, bye, fin, no_event}
use Rattle.mama_timer.specs.declared.heard.Heard.{Heard}
use Rattle.mama_timer.specs.declared.heard.Heard.TheVariants as heard

abbrev pub event_of : Heard → TimersEvent
event_of (heard.Arms arming) = arms arming.timer arming.queue arming.interval arming.tag
event_of (heard.Disarms timer) = disarms timer
event_of (heard.Now moment) = now moment
event_of (heard.ClientDone client) = client_done client
event_of (heard.Bye queue) = bye queue
event_of heard.Fin = fin
event_of heard.Nothing = no_event

-- an event that brings no listener and is no queue's last word
abbrev pub IsPlain : Heard → Type 0
IsPlain (heard.Arms arming) = ⊥
IsPlain (heard.Bye queue) = ⊥
IsPlain _ = Unit {0}
