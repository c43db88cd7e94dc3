use Rattle.std.specs.Prelude.{map, string_bytes}
use Rattle.mama_commands.proofs.EndLemmas.{accepted_fits, no_log, no_verdict, no_wait}
use Rattle.mama_commands.proofs.WordsLemmas.{not_serial, not_check, not_rewrite, not_replay}
use Rattle.mama_commands.proofs.command.run.Goals as goal

pub returns-in-Some-clause-play_accepted : goal.returns-in-Some-clause-play_accepted
returns-in-Some-clause-play_accepted g c = λ play text given accepted.
    accepted_fits (g.S.Source.left c.args.source.now) (g.S.Source.left c.play_input.new.source) (g.K.Sink.written c.args.sink.now)
    (g.K.Sink.written c.play_input.new.sink) c.play_input.result c.play_input.ensures.end text given accepted

pub returns-in-Some-clause-promises : goal.returns-in-Some-clause-promises
returns-in-Some-clause-promises g c = λ text log l. c.logs_of_serial_are_lawful.ensures _ _ text log l

pub returns-in-Some-soak_of-clause-promises : goal.returns-in-Some-soak_of-clause-promises
returns-in-Some-soak_of-clause-promises g c = λ text log l. c.logs_of_serial_are_lawful.ensures _ _ text log l

pub returns-in-Some-clause-accepted : goal.returns-in-Some-clause-accepted
returns-in-Some-clause-accepted g c = λ serial text given accepted. not_serial (map string_bytes c.args.words.now) c.in-Some.workers c.in-Some.ensures.value serial

pub returns-in-Some-clause-over_limit_part : goal.returns-in-Some-clause-over_limit_part
returns-in-Some-clause-over_limit_part g c = λ check line limit is some. not_check (map string_bytes c.args.words.now) c.in-Some.workers c.in-Some.ensures.value check

pub returns-in-Some-clause-bad_log_only : goal.returns-in-Some-clause-bad_log_only
returns-in-Some-clause-bad_log_only g c = λ line is.
    absurd (no_log (g.S.Source.left c.args.source.now) (g.S.Source.left c.play_input.new.source) (g.K.Sink.written c.args.sink.now)
    (g.K.Sink.written c.play_input.new.sink) c.play_input.result c.play_input.ensures.end line is)

pub returns-in-Some-clause-bad_log : goal.returns-in-Some-clause-bad_log
returns-in-Some-clause-bad_log g c = λ check. not_check (map string_bytes c.args.words.now) c.in-Some.workers c.in-Some.ensures.value check

pub returns-in-Some-clause-rewrite_bad_script : goal.returns-in-Some-clause-rewrite_bad_script
returns-in-Some-clause-rewrite_bad_script g c = λ rewrite. not_rewrite (map string_bytes c.args.words.now) c.in-Some.workers c.in-Some.ensures.value rewrite

pub returns-in-Some-clause-rewrite_over_limit : goal.returns-in-Some-clause-rewrite_over_limit
returns-in-Some-clause-rewrite_over_limit g c = λ rewrite. not_rewrite (map string_bytes c.args.words.now) c.in-Some.workers c.in-Some.ensures.value rewrite

pub returns-in-Some-clause-rewrite_bad_log : goal.returns-in-Some-clause-rewrite_bad_log
returns-in-Some-clause-rewrite_bad_log g c = λ rewrite. not_rewrite (map string_bytes c.args.words.now) c.in-Some.workers c.in-Some.ensures.value rewrite

pub returns-in-Some-clause-rewrite_fitting : goal.returns-in-Some-clause-rewrite_fitting
returns-in-Some-clause-rewrite_fitting g c = λ rewrite. not_rewrite (map string_bytes c.args.words.now) c.in-Some.workers c.in-Some.ensures.value rewrite

pub returns-in-Some-clause-rewritten : goal.returns-in-Some-clause-rewritten
returns-in-Some-clause-rewritten g c = λ rewrite. not_rewrite (map string_bytes c.args.words.now) c.in-Some.workers c.in-Some.ensures.value rewrite

pub returns-in-Some-clause-rewritten_part : goal.returns-in-Some-clause-rewritten_part
returns-in-Some-clause-rewritten_part g c = λ rewrite. not_rewrite (map string_bytes c.args.words.now) c.in-Some.workers c.in-Some.ensures.value rewrite

pub returns-in-Some-clause-replay_bad_script : goal.returns-in-Some-clause-replay_bad_script
returns-in-Some-clause-replay_bad_script g c = λ replays. not_replay (map string_bytes c.args.words.now) c.in-Some.workers c.in-Some.ensures.value replays

pub returns-in-Some-clause-replay_over_limit : goal.returns-in-Some-clause-replay_over_limit
returns-in-Some-clause-replay_over_limit g c = λ replays. not_replay (map string_bytes c.args.words.now) c.in-Some.workers c.in-Some.ensures.value replays

pub returns-in-Some-clause-replay_bad_log : goal.returns-in-Some-clause-replay_bad_log
returns-in-Some-clause-replay_bad_log g c = λ replays. not_replay (map string_bytes c.args.words.now) c.in-Some.workers c.in-Some.ensures.value replays

pub returns-in-Some-clause-replay_fitting : goal.returns-in-Some-clause-replay_fitting
returns-in-Some-clause-replay_fitting g c = λ replays. not_replay (map string_bytes c.args.words.now) c.in-Some.workers c.in-Some.ensures.value replays

pub returns-in-Some-clause-replay_silent : goal.returns-in-Some-clause-replay_silent
returns-in-Some-clause-replay_silent g c = λ replays. not_replay (map string_bytes c.args.words.now) c.in-Some.workers c.in-Some.ensures.value replays

pub returns-in-Some-clause-replayed : goal.returns-in-Some-clause-replayed
returns-in-Some-clause-replayed g c = λ replays. not_replay (map string_bytes c.args.words.now) c.in-Some.workers c.in-Some.ensures.value replays

pub returns-in-Some-clause-replayed_part : goal.returns-in-Some-clause-replayed_part
returns-in-Some-clause-replayed_part g c = λ replays. not_replay (map string_bytes c.args.words.now) c.in-Some.workers c.in-Some.ensures.value replays

pub returns-in-Some-clause-not_legal : goal.returns-in-Some-clause-not_legal
returns-in-Some-clause-not_legal g c = λ rule actor is.
    absurd (no_verdict (g.S.Source.left c.args.source.now) (g.S.Source.left c.play_input.new.source) (g.K.Sink.written c.args.sink.now)
    (g.K.Sink.written c.play_input.new.sink) c.play_input.result c.play_input.ensures.end rule actor is)

pub returns-in-Some-clause-not_causal : goal.returns-in-Some-clause-not_causal
returns-in-Some-clause-not_causal g c = λ actor entry is.
    absurd (no_wait (g.S.Source.left c.args.source.now) (g.S.Source.left c.play_input.new.source) (g.K.Sink.written c.args.sink.now)
    (g.K.Sink.written c.play_input.new.sink) c.play_input.result c.play_input.ensures.end actor entry is)
