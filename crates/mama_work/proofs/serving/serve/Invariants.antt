use Rattle.std.proofs.Common.{◌≡◌, ◌<◌, vec_len, vec_capacity}
use Rattle.mama_work.proofs.serving.serve.Given as goal

abbrev pub invariant-loop : goal.invariant-loop
invariant-loop g l = record {
  hand : l.hand ≡ l.initial.hand;
  kept : l.kept.items ≡ l.initial.kept.items;
  room : vec_len l.kept < vec_capacity l.kept;
  item : g.S.Seat.acts l.item ≡ g.S.Seat.acts l.initial.item;
}
