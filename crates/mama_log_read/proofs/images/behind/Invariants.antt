use Rattle.std.proofs.Common.{◌≡◌, drop}
use Rattle.mama_log_read.specs.Part.{behind}
use Rattle.mama_log_read.proofs.images.behind.Given as goal

abbrev pub invariant-loop-i : goal.invariant-loop-i
invariant-loop-i l = behind (drop l.i l.objects) l.sub ≡ behind l.objects l.sub
