-- inner: The seats of a crew that lie kind by kind.
use Rattle.mama_close.specs.Kinds.{Kinds}
use Rattle.mama_close.specs.declared.kinds.SeatsByKind.{SeatsByKind}

abbrev pub kinds_in : {L : Type 0} → SeatsByKind L → Kinds
kinds_in s = record { clients = s.clients.items; publishers = s.publishers.items; bridge = s.bridge; timers = s.timers; queues = s.queues.items }
