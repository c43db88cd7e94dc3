-- believed: A seat that has done nothing yet.
use Rattle.std.specs.Prelude.{◌≡◌, false, List, []}
use Rattle.std.specs.List.{All}
use Rattle.mama_script.specs.Script.{ScriptData}
use Rattle.mama_timeout.specs.Table.{WatchData}
use Rattle.mama_lane.specs.Values.{PortValue}
use Rattle.mama_ends.specs.Inlet.{InletValue}
use Rattle.mama_posts_services.specs.Publisher.{PublisherPostValue}
use Rattle.mama_posts_services.specs.Service.{ServiceValue}
use Rattle.mama_posts_services.specs.Bridge.{BridgePostValue}
use Rattle.mama_posts_services.specs.Timers.{TimersPostValue}
use Rattle.mama_posts_clients.specs.Queue.{QueuePostValue}
use Rattle.mama_crew.specs.Hall.{HallValue, IsFresh}
use Rattle.mama_crew.specs.declared.seat.Seat.{Seat}
use Rattle.mama_crew.specs.declared.seat.Seat.TheVariants.{Client, Publisher, Bridge, Timers, Queue}
use Rattle.mama_crew.specs.Seat.{IsSeatOf, HasNotWalked}

-- nothing was taken, nothing is kept, and nothing is known of what was put
pub record HasTakenNothing {N : Type 0} (inlet : InletValue N) : Type 0 where
  pub taken : inlet.taker.taken ≡ []
  pub learnt : inlet.taker.learnt ≡ []
  pub kept : inlet.kept ≡ []

abbrev pub HavePutNothing : {N : Type 0} → List (PortValue N) → Type 0
HavePutNothing ports = All (λ port. IsFresh port) ports

-- the publisher stands before its first line, and nothing was put or is left
pub record HasNotSent (post : PublisherPostValue) : Type 0 where
  pub journal : post.progress.journal ≡ []
  pub line : post.progress.line ≡ 0
  pub pause : post.progress.pause ≡ 0
  pub over : post.progress.over ≡ false
  pub inlet : HasTakenNothing post.inlet
  pub left : post.left ≡ []
  pub put : IsFresh post.port

-- the service took nothing, and has nothing left to put
pub record HasNotServed {N P : Type 0} (service : ServiceValue N P) : Type 0 where
  pub journal : service.journal ≡ []
  pub inlet : HasTakenNothing service.inlet
  pub left : service.left ≡ []

-- the bridge took and put nothing
pub record HasNotBridged (post : BridgePostValue) : Type 0 where
  pub service : HasNotServed post.service
  pub publishers : HavePutNothing post.ports.publishers
  pub queues : HavePutNothing post.ports.queues
  pub timers : IsFresh post.ports.timers

-- the timer service took and put nothing
pub record HasNotFired (post : TimersPostValue) : Type 0 where
  pub service : HasNotServed post.service
  pub queues : HavePutNothing post.queues

-- the queue took nothing and has no listeners, its watches noted nothing, and nothing was put or is left
pub record HasNotDispatched (post : QueuePostValue) : Type 0 where
  pub journal : post.served.journal ≡ []
  pub seats : post.served.seats ≡ []
  pub watches : All (λ (w : WatchData). w.notes ≡ []) post.watches
  pub back : post.back ≡ []
  pub inlet : HasTakenNothing post.inlet
  pub left : post.left ≡ []
  pub on_bridge : IsFresh post.ports.to_bridge
  pub on_timers : IsFresh post.ports.to_timers

-- nothing was done yet: no line, and no event was taken or put
abbrev pub HasDoneNothing : {L : Type 0} → Seat L → Type 0
HasDoneNothing (Client c seat) = HasNotWalked seat.post
HasDoneNothing (Publisher p post) = HasNotSent post
HasDoneNothing (Bridge post) = HasNotBridged post
HasDoneNothing (Timers post) = HasNotFired post
HasDoneNothing (Queue q post) = HasNotDispatched post

-- a seat of this script and hall that has done nothing yet
pub record IsNewSeatOf {L : Type 0} (script : ScriptData) (hall : HallValue) (seat : Seat L) : Type 0 where
  pub sits : IsSeatOf script hall seat
  pub new : HasDoneNothing seat
