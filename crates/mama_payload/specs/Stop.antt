-- believed: where bytes break a rule.
use Rattle.std.specs.Prelude.{ℕ, List, length}
use Rattle.mama_payload.specs.declared.fault.Rule.{Rule}
use Rattle.mama_payload.specs.declared.fault.Fault.{Fault}

-- a rule is broken at the first of these bytes
abbrev pub fault_at : Rule → List ℕ → Fault
fault_at rule bytes = record { rule = rule; left = length bytes }
