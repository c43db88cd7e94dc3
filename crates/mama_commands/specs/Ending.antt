-- inner: How play ends.
use Rattle.std.specs.Prelude.{◌≡◌, ◌≢◌, ◌<◌, ◌⊎◌, ℕ, ⊤, List, length, take, Option, Err}
use Rattle.mama_edge.specs.Told.{Appended, Lost, LostAtMost}
use Rattle.mama_script.specs.Reading.{script_in}
use Rattle.mama_script.specs.declared.fault.ScriptFault.{ScriptFault}
use Rattle.mama_script.specs.declared.fault.ScriptFault.TheVariants as f
use Rattle.mama_plain.specs.Answers.{GaveAll}
use Rattle.mama_plain.specs.declared.status.Status.{Status}
use Rattle.mama_plain.specs.declared.status.Status.TheVariants as s
use Rattle.mama_commands.specs.Played.{IsPlayLogOf}

-- what is wrong with a text that is no script, or that no memory was found for it
abbrev pub IsFaulty : List ℕ → Status → Type 0
IsFaulty text (s.BadScript line fault) = script_in text ≡ Err (f.Bad line fault)
IsFaulty text (s.OverLimit line limit) = (line ≢ 0) × (script_in text ≡ Err (f.OverLimit line limit))
IsFaulty text s.OutOfMemory = ⊤
IsFaulty text _ = ⊥

-- the source gave a text whose script has this fault, or passes this limit
abbrev pub GaveFaulty : Option (List ℕ) → Option (List ℕ) → ScriptFault → Type 0
GaveFaulty old new fault = (text : List ℕ) × GaveAll old new text × (script_in text ≡ Err fault)

-- why there is no script: what was read of the source until a fault or want of memory, or what is wrong with its text
abbrev pub IsRefusal : Option (List ℕ) → Option (List ℕ) → Status → Type 0
IsRefusal old new s.ReadFault = LostAtMost old new 67108864
IsRefusal old new s.OutOfMemory = LostAtMost old new 67108864
IsRefusal old new (s.BadScript line fault) = GaveFaulty old new (f.Bad line fault)
IsRefusal old new (s.OverLimit line limit) = ((line ≡ 0) × (limit ≡ 1) × Lost old new 67108865) ⊎ ((line ≢ 0) × GaveFaulty old new (f.OverLimit line limit))
IsRefusal old new _ = ⊥

-- how play ends: its log was written whole, or a part of it was, or there is none
abbrev pub IsEndOfPlay : Option (List ℕ) → Option (List ℕ) → Option (List ℕ) → Option (List ℕ) → Status → Type 0
IsEndOfPlay old new before after s.Ok = (text log : List ℕ) × GaveAll old new text × IsPlayLogOf text log × Appended before after log
IsEndOfPlay old new before after (s.WriteFault written) = (text log : List ℕ) × GaveAll old new text × IsPlayLogOf text log
    × (written < length log) × Appended before after (take written log)
IsEndOfPlay old new before after status = IsRefusal old new status
