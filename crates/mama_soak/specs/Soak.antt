-- believed: What a soak tells of the run of a seed's script.
use Rattle.std.specs.Prelude.{◌≡◌, ℕ, zero, Bool, true, false, List, ◌++◌, codes, count_by, sum_by, Option, None, Some}
use Rattle.mama_edge.specs.Decimal.{decimal}
use Rattle.mama_event.specs.declared.ids.ObjectId.{ObjectId}
use Rattle.mama_event.specs.declared.ids.ObjectId.TheVariants.{Sub, Timer, Inbox}
use Rattle.mama_event.specs.declared.callback.CallNote.{CallNote}
use Rattle.mama_event.specs.declared.to_bridge.BridgeNote.{BridgeNote}
use Rattle.mama_event.specs.declared.to_bridge.BridgeNote.TheVariants.{Join}
use Rattle.mama_event.specs.Publisher.{is_send}
use Rattle.mama_rules_queue.specs.Queue.{is_destroy}
use Rattle.mama_script.specs.Script.{ScriptData}
use Rattle.mama_record.specs.RunData.{RunData, ObjectCalls}
use Rattle.mama_rules_legal.specs.Legal.{IsLegal}
use Rattle.mama_gen.specs.Generated.{script_of_seed}

-- an entry of the bridge by which a subscription joins
abbrev pub is_join : ℕ × BridgeNote → Bool
is_join (port, Join sub terms tag) = true
is_join _ = false

-- a note of an on_destroy
abbrev pub is_notice : CallNote → Bool
is_notice note = is_destroy note.call

-- how many destroy notices an object got, if it is a subscription
abbrev pub notices_in : ObjectCalls → ℕ
notices_in c = elim c.object [ Sub sub ↦ count_by is_notice c.calls | Timer timer ↦ zero | Inbox inbox ↦ zero ]

-- how many lines the publishers sent
abbrev pub sends : RunData → ℕ
sends run = sum_by (count_by is_send) run.publishers

-- how many subscriptions joined at the bridge
abbrev pub subscriptions : RunData → ℕ
subscriptions run = count_by is_join run.bridge

-- how many subscriptions heard their end
abbrev pub notices : RunData → ℕ
notices run = sum_by notices_in run.calls

-- the lines of these counts, each ended by one LF
abbrev pub lines : ℕ → ℕ → ℕ → List ℕ
lines sent joined heard = codes "sends " ++ (decimal sent ++ (codes "\nsubscriptions " ++ (decimal joined
    ++ (codes "\nnotices " ++ (decimal heard ++ codes "\nlegal\n")))))

-- the lines of a soak of this run
abbrev pub soak_text : RunData → List ℕ
soak_text run = lines (sends run) (subscriptions run) (notices run)

-- The text tells the counts of a legal run of this seed's script.
pub record IsSoak (seed : ℕ) (out : List ℕ) : Type 0 where
  pub run : RunData
  pub legal : IsLegal (script_of_seed seed) run
  pub told : out ≡ soak_text run

-- what judging tells of a record: the lines of a soak where it is legal, and else nothing
abbrev pub IsTold : ScriptData → RunData → Option (List ℕ) → Type 0
IsTold script run (Some out) = IsLegal script run × (out ≡ soak_text run)
IsTold script run None = IsLegal script run → ⊥
