-- inner: What the groups of queues heard, and what their watches noted, each list with its number.
use Rattle.std.specs.Prelude.{ℕ, List}
use Rattle.std.specs.List.{flat_map}
use Rattle.mama_event.specs.declared.group.GroupNote.{GroupNote}
use Rattle.mama_event.specs.declared.watch.WatchNote.{WatchNote}
use Rattle.mama_plans.specs.Orders.{orders_in}
use Rattle.mama_seats.specs.Server.{Server}
use Rattle.mama_seats.specs.Heard.{group_lists, watch_lists}

abbrev pub groups_given : List Server → List (ℕ × List GroupNote)
groups_given servers = flat_map (λ (s : Server). group_lists (orders_in s.objects) s.heard s.groups) servers

abbrev pub watches_given : List Server → List (ℕ × List WatchNote)
watches_given servers = flat_map (λ (s : Server). watch_lists (orders_in s.objects) s.journal s.watches) servers
