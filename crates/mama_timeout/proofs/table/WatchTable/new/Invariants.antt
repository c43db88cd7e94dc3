use Rattle.std.proofs.Common.{◌≡◌, ◌+◌, ◌++◌, length, map}
use Rattle.mama_timeout.specs.Table.{AreApart, new_watch}
use Rattle.mama_timeout.specs.Kept.{watch_of}
use Rattle.mama_timeout.proofs.Adding.{IsBegun, AreOther}
use Rattle.mama_timeout.proofs.table.WatchTable.new.Given as goal

abbrev pub invariant-loop-numbered : goal.invariant-loop-numbered
invariant-loop-numbered l = record {
  begun : IsBegun l.watches.items l.places;
  apart : AreApart l.numbered-iterator.rest.items;
  others : AreOther l.watches.items l.numbered-iterator.rest.items;
  whole : map watch_of l.watches.items ++ map new_watch l.numbered-iterator.rest.items ≡ map new_watch l.fn.rows.items;
  long : length l.watches.items + length l.numbered-iterator.rest.items ≡ length l.fn.rows.items;
}
