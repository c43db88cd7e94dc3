use Rattle.std.proofs.Common.{subst}
use Rattle.mama_plain.specs.Parts.{script_part, log_part}
use Rattle.mama_plain.specs.Unreplayed.{IsNoReplay}
use Rattle.mama_plain.specs.declared.replay.NoReplay.{NoReplay}
use Rattle.mama_plain.proofs.ReplayLemmas.{no_replay_at_line}
use Rattle.mama_plain.proofs.replay.write_replay.Goals as goal

pub status_without-requires : goal.status_without-requires
status_without-requires g c = no_replay_at_line c.args.text.now (script_part c.args.text.now) (log_part c.args.text.now) c.in-Err.cause c.first_fault_is_told.ensures c.in-Err.ensures.cause

pub returns-in-Err-clause-not_causal : goal.returns-in-Err-clause-not_causal
returns-in-Err-clause-not_causal g c = λ actor entry is.
    subst (λ (k : NoReplay). IsNoReplay c.args.text.now (script_part c.args.text.now) (log_part c.args.text.now) k) (c.status_without.ensures.causal actor entry is) c.in-Err.ensures.cause
