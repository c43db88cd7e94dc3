-- inner: A listener that gives the orders of a plan, as the rules of queues see it.
use Rattle.mama_event.specs.declared.ids.ObjectId.{ObjectId}
use Rattle.mama_event.specs.Listener.{ListenerData, told}

abbrev pub tag_of : ListenerData → ObjectId
tag_of l = l.tag

abbrev pub data_of : ListenerData → ListenerData
data_of l = told tag_of (λ m. m.calls) (λ m. m.heard) (λ m. m.given) (λ m. m.plan) l
