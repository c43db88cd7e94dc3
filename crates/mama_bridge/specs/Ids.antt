-- inner: Ids that are kept in order.
use Rattle.std.specs.Prelude.{Bool, List}
use Rattle.std.specs.List.{list_any}
use Rattle.std.specs.BTreeMap.{is_at}
use Rattle.std.specs.Ordering.{nat_cmp, ordering_then}
use Rattle.std.specs.declared.cmp.Ordering.{Ordering}
use Rattle.mama_event.specs.declared.ids.SubId.{SubId}
use Rattle.mama_event.specs.declared.ids.InboxId.{InboxId}

-- by client, and then by number
abbrev pub sub_cmp : SubId → SubId → Ordering
sub_cmp a b = ordering_then (nat_cmp a.client b.client) (nat_cmp a.number b.number)

abbrev pub inbox_cmp : InboxId → InboxId → Ordering
inbox_cmp a b = ordering_then (nat_cmp a.client b.client) (nat_cmp a.number b.number)

-- an id is among those that are kept
abbrev pub is_sub_among : List SubId → SubId → Bool
is_sub_among ids sub = list_any (is_at (sub_cmp sub)) ids

abbrev pub is_inbox_among : List InboxId → InboxId → Bool
is_inbox_among ids inbox = list_any (is_at (inbox_cmp inbox)) ids
