-- believed: What holds of every log that serial wrote, what check says of it, and of every script that gen wrote.
use Rattle.std.specs.Prelude.{◌≡◌, ℕ, true, List, ◌++◌, codes, Option}
use Rattle.mama_record.specs.LogText.{line}
use Rattle.mama_check.specs.declared.verdict.Verdict.{Verdict}
use Rattle.mama_check.specs.declared.verdict.Verdict.TheVariants.{Legal}
use Rattle.mama_gen.specs.Generated.{generated}
use Rattle.mama_plain.specs.Answers.{IsAccepted, IsLogOf}
use Rattle.mama_plain.specs.LawfulRun.{IsLawfulRun}
use Rattle.mama_plain.specs.Verdict.{IsChecked, IsVerdictOf}

-- the record of every log of serial is legal and causal, and keeps all promises
abbrev pub LogsOfSerialAreLawful : Type 0
LogsOfSerialAreLawful = (before after : Option (List ℕ)) (text log : List ℕ) (l : IsLogOf before after text log) → IsLawfulRun l.script l.run

-- a text that was played and its log, with the line `log` between them
abbrev pub with_log : List ℕ → List ℕ → List ℕ
with_log text log = text ++ (line (codes "log") ++ log)

-- Each line of the log fits, and there is one verdict on it: it is legal, and causal.
pub record IsFound (text : List ℕ) : Type 0 where
  pub checked : IsChecked text
  pub verdict : (verdict : Verdict) (out : List ℕ) → IsVerdictOf text verdict out → verdict ≡ Legal true

-- so it is with every log of serial
abbrev pub LogsOfSerialAreLegal : Type 0
LogsOfSerialAreLegal = (before after : Option (List ℕ)) (text log : List ℕ) → IsLogOf before after text log → IsFound (with_log text log)

-- the text of each seed is an accepted script, so serial finds no fault in it
abbrev pub ScriptsOfSeedsAreAccepted : Type 0
ScriptsOfSeedsAreAccepted = (seed : ℕ) → IsAccepted (generated seed)
