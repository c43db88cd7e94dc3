use Rattle.std.proofs.Common.{◌≡◌}
use Rattle.std.specs.List.{flat_map}
use Rattle.mama_close.specs.Kinds.{client_in, publisher_in, bridge_in, timers_in, queue_in}
use Rattle.mama_close.proofs.Keeping.{kept_so}
use Rattle.mama_close.proofs.kinds.sort_seats.Goals as goal

pub returns-clause-clients : goal.returns-clause-clients
returns-clause-clients g c =
    kept_so (λ r. r.clients.items ≡ flat_map client_in c.args.seats.items) c.add_all-added.new.self c.if_done.result c.add_all-added.result c.if_done.ensures.value c.if_done.ensures.done c.add_all-added.ensures.clients

pub returns-clause-publishers : goal.returns-clause-publishers
returns-clause-publishers g c =
    kept_so (λ r. r.publishers.items ≡ flat_map publisher_in c.args.seats.items) c.add_all-added.new.self c.if_done.result c.add_all-added.result c.if_done.ensures.value c.if_done.ensures.done c.add_all-added.ensures.publishers

pub returns-clause-bridges : goal.returns-clause-bridges
returns-clause-bridges g c =
    kept_so (λ r. r.bridges.items ≡ flat_map bridge_in c.args.seats.items) c.add_all-added.new.self c.if_done.result c.add_all-added.result c.if_done.ensures.value c.if_done.ensures.done c.add_all-added.ensures.bridges

pub returns-clause-services : goal.returns-clause-services
returns-clause-services g c =
    kept_so (λ r. r.services.items ≡ flat_map timers_in c.args.seats.items) c.add_all-added.new.self c.if_done.result c.add_all-added.result c.if_done.ensures.value c.if_done.ensures.done c.add_all-added.ensures.services

pub returns-clause-queues : goal.returns-clause-queues
returns-clause-queues g c =
    kept_so (λ r. r.queues.items ≡ flat_map queue_in c.args.seats.items) c.add_all-added.new.self c.if_done.result c.add_all-added.result c.if_done.ensures.value c.if_done.ensures.done c.add_all-added.ensures.queues
