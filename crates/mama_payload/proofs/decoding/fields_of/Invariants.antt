use Rattle.std.proofs.Common.{◌≡◌, ◌-◌, []}
use Rattle.mama_payload.specs.Reading.{fields_at}
use Rattle.mama_payload.proofs.decoding.fields_of.Given as goal

-- the fields so far and those that are left are all
abbrev pub invariant-loop : goal.invariant-loop
invariant-loop l = fields_at l.version (l.count - l.counter) l.msg l.rest ≡ fields_at l.version l.count [] l.bytes
