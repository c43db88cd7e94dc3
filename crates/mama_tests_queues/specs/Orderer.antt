-- inner: What the listener of the tests tells.
use Rattle.std.specs.Prelude.{List, Option, None, Some}
use Rattle.std.specs.Global.{Vec}
use Rattle.mama_event.specs.declared.order.Order.{Order}
use Rattle.mama_event.specs.Listener.{ListenerData}
use Rattle.mama_tests_queues.specs.declared.orderer.Orderer.{Orderer as Listening}

-- the orders that were kept
abbrev pub given_by : Option (Vec (List Order)) → Option (List (List Order))
given_by None = None
given_by (Some all) = Some all.items

-- it tells neither what it heard nor a plan
abbrev pub orderer_data : Listening → ListenerData
orderer_data l = record { tag = l.tag; calls = l.count; heard = None; given = given_by l.given; plan = None }
