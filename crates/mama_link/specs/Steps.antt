-- inner: what a link does at one pass: what it holds back, what it copies, and how it stands afterwards.
use Rattle.std.specs.Prelude.{ℕ, ◌+◌, not, List, [], ◌∷◌, ◌++◌, Option, None, Some, filter}
use Rattle.mama_link.specs.declared.faults.Fault.{Fault}
use Rattle.mama_link.specs.declared.faults.Fault.TheVariants.{Lose, Dup, Hold, Cut}
use Rattle.mama_link.specs.Faults.{fault_at}
use Rattle.mama_link.specs.Link.{is_due}
use Rattle.mama_link.specs.Standing.{Standing}

module _ {T : Type 0} where
  -- the message, where its fault holds it back
  abbrev pub held_back : Option Fault → T → Option T
  held_back None message = None
  held_back (Some Lose) message = None
  held_back (Some Dup) message = None
  held_back (Some (Hold by)) message = Some message
  held_back (Some (Cut keep)) message = None

  -- at a place, nothing or the message of that number
  abbrev pub at_place : ℕ → Option T → List (ℕ × T)
  at_place place None = []
  at_place place (Some message) = (place, message) ∷ []

  -- how a link stands when it passed the message next
  abbrev pub standing_next : Standing T → T → Standing T
  standing_next link message = record {
    rows = link.rows;
    passed = link.passed + 1;
    held = filter (λ (entry : ℕ × T). not (is_due link.rows (link.passed + 1) entry)) link.held ++ at_place (link.passed + 1) (held_back (fault_at link.rows (link.passed + 1)) message);
  }

-- the copy of a message that its fault repeats
abbrev pub copy_for : {T : Type 0} → Option Fault → T → Option T
copy_for None message = None
copy_for (Some Lose) message = None
copy_for (Some Dup) message = Some message
copy_for (Some (Hold by)) message = None
copy_for (Some (Cut keep)) message = None
