-- inner: The command that words are.
use Rattle.std.specs.Prelude.{ℕ, List, Option, Some, None, if◌then◌else◌}
use Rattle.mama_plain.specs.declared.command.Command.{Command}
use Rattle.mama_plain.specs.declared.command.Command.TheVariants as command
use Rattle.mama_plain.specs.Command.{is_serial, is_check, is_rewrite, is_replay, seed_in}

-- gen with a seed, where there is one
abbrev pub gen_of : Option ℕ → Option Command
gen_of None = None
gen_of (Some seed) = Some (command.Gen seed)

-- the command that the words are
abbrev pub command_in : List (List ℕ) → Option Command
command_in words = if is_serial words then Some command.Serial else (if is_check words then Some command.Check else (if is_rewrite words then Some command.Rewrite else (if is_replay words then Some command.Replay else gen_of (seed_in words))))
