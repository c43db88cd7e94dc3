-- inner: What is taken from the front of a list of lines.
use Rattle.std.specs.Prelude.{List, [], ◌∷◌}
use Rattle.mama_script.specs.declared.line.Line.{Line}
use Rattle.mama_script.specs.declared.tree.Parts.{Parts}
use Rattle.mama_script.specs.declared.tree.Taken.{Taken}
use Rattle.mama_script.specs.declared.tree.Taken.TheVariants.{Step, Other}
use Rattle.mama_script.specs.Script.{ScriptData}
use Rattle.mama_script.specs.Tree.{step_lines, lines_of}
use Rattle.std.specs.Prelude.{ℕ, ◌==◌, set, Option, Some, None, slice_get, slice_index_or, option_and_then, if◌then◌else◌}
use Rattle.mama_event.specs.declared.ids.SubId.{SubId}

abbrev pub taken_lines : Taken → List Line
taken_lines (Step step) = step_lines step
taken_lines (Other line) = line ∷ []

-- the script that has these parts
abbrev pub script_of_parts : Parts → ScriptData
script_of_parts parts = record { version = parts.version; shape = parts.shape; topics = parts.topics.items; publishers = parts.publishers.items; clients = parts.clients.items; groups = parts.groups.items; watches = parts.watches.items }

abbrev pub parts_lines : Parts → List Line
parts_lines parts = lines_of (script_of_parts parts)

-- the first publisher's id of a topic, if there is one
abbrev pub first_of : List ℕ → Option ℕ → ℕ
first_of first None = 0
first_of first (Some topic) = slice_index_or first topic 0

-- the first publisher's id of a subscription's topic, by the first publisher of each topic and the topics of each client's subscriptions
abbrev pub sender_in : List ℕ → List (List ℕ) → SubId → ℕ
sender_in first topics sub = first_of first (option_and_then (λ ts. slice_get ts sub.number) (slice_get topics sub.client))

-- the first publisher's id of each topic, where the publisher with this id has this topic too
abbrev pub with_sender : ℕ → ℕ → List ℕ → List ℕ
with_sender topic id first = if slice_index_or first topic 0 == 0 then set first topic id else first
