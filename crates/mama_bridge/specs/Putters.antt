-- inner: Which actor puts by a port of the bridge's lane, as code tells it.
use Rattle.std.specs.Prelude.{◌<◌, length}
use Rattle.mama_event.specs.declared.shape.Shape.{Shape}
use Rattle.mama_event.specs.Ports.{clients_of, publishers_of, queues_of}
use Rattle.mama_rules_services.specs.Ports.{Putter as Actor, ByClient, ByPublisher, ByQueue, ByNobody}
use Rattle.mama_bridge.specs.declared.putter.Putter.{Putter}
use Rattle.mama_bridge.specs.declared.putter.Putter.TheVariants as putter
use Rattle.mama_bridge.specs.declared.desk.Desk.{Desk}

abbrev pub actor_of : Putter → Actor
actor_of (putter.Client client) = ByClient client
actor_of (putter.Publisher publisher) = ByPublisher publisher
actor_of (putter.Queue queue) = ByQueue queue
actor_of putter.Nobody = ByNobody

-- the actor is one of the shape's
abbrev pub IsThere : Shape → Putter → Type 0
IsThere shape (putter.Client client) = client < clients_of shape
IsThere shape (putter.Publisher publisher) = publisher < publishers_of shape
IsThere shape (putter.Queue queue) = queue < queues_of shape
IsThere shape putter.Nobody = Unit {0}

-- there is a flag for the actor
abbrev pub HasFlags : Desk → Putter → Type 0
HasFlags desk (putter.Client client) = client < length desk.clients
HasFlags desk (putter.Publisher publisher) = (publisher < length desk.sends) × (publisher < length desk.settled)
HasFlags desk (putter.Queue queue) = queue < length desk.byes
HasFlags desk putter.Nobody = Unit {0}
