-- believed: What a client's line and a listener's order put.
use Rattle.mama_event.specs.declared.order.Order.{Order}
use Rattle.mama_event.specs.declared.order.Order.TheVariants as order
use Rattle.mama_event.specs.declared.to_bridge.ToBridge.TheVariants as bridge
use Rattle.mama_event.specs.declared.to_timers.ToTimers.TheVariants as timers
use Rattle.mama_event.specs.declared.to_service.ToService.{ToService}
use Rattle.mama_event.specs.declared.to_service.ToService.TheVariants as service

-- what an order puts: the end of a subscription or of an inbox, and a request, on the bridge's lane, and the end of a
-- timer on that of the timer service
abbrev pub service_of : {L : Type 0} → Order → ToService L
service_of (order.Stop sub) = service.Bridge (bridge.Leave sub)
service_of (order.Disarm timer) = service.Timers (timers.Disarm timer)
service_of (order.Close inbox) = service.Bridge (bridge.CloseInbox inbox)
service_of (order.Ask inbox topic fids) = service.Bridge (bridge.Ask inbox topic fids)
