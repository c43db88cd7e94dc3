-- inner: Which lines of a publisher send.
use Rattle.std.specs.Prelude.{Bool, true, false}
use Rattle.mama_script.specs.declared.publisher.PublisherLine.{PublisherLine}
use Rattle.mama_script.specs.declared.publisher.PublisherLine.TheVariants as line

-- a line sends an update or the whole record
abbrev pub is_sending : PublisherLine → Bool
is_sending (line.Update u) = true
is_sending line.Recap = true
is_sending (line.Pause n) = false
