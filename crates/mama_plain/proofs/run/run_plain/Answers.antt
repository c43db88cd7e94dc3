use Rattle.std.proofs.Common.{◌≡◌, inl, inr, ℕ, ◌<◌, List, Option, length, take, map, string_bytes, refl, sym, ap, subst, true≢false, ◌∙◌}
use Rattle.std.specs.Global.{Global}
use Rattle.mama_edge.specs.Told.{Appended, Kept}
use Rattle.mama_gen.specs.Generated.{generated}
use Rattle.mama_plain.specs.declared.command.Command.{Command}
use Rattle.mama_plain.specs.declared.command.Command.TheVariants.{Serial, Check, Rewrite, Replay, Gen}
use Rattle.mama_plain.specs.declared.status.Status.{Status}
use Rattle.mama_plain.specs.Answers.{IsEndOfGen, OnUnwritten}
use Rattle.mama_plain.proofs.AnswerLemmas.{nothing_lost, unwritten_silent, kept_same}
use Rattle.mama_plain.proofs.CommandLemmas.{some_command, serial_at, check_at, rewrite_at, replay_at, gen_is, gen_at, none_is, some_is, none_no_seed, serial_no_check, serial_no_rewrite, check_no_rewrite, serial_no_replay, check_no_replay, rewrite_no_replay, serial_no_seed, check_no_seed, rewrite_no_seed, replay_no_seed, one_seed}
use Rattle.mama_plain.proofs.run.run_plain.Goals as goal

pub returns-in-Some-Serial-clause-bad_words : goal.returns-in-Some-Serial-clause-bad_words
returns-in-Some-Serial-clause-bad_words g c =
    let words = map (string_bytes {Z = Global}) c.args.words.now in
    let chosen = ap (λ (command : Command). some_command command) (sym c.in-Some-Serial.field-0-is) ∙ c.in-Some-Serial.ensures in
    (λ is. absurd (c.play_input.ensures.words is), λ none. absurd (true≢false (sym (some_is words Serial chosen) ∙ none)))

pub returns-in-Some-Serial-clause-unread : goal.returns-in-Some-Serial-clause-unread
returns-in-Some-Serial-clause-unread g c = λ is. absurd (c.play_input.ensures.words is)

pub returns-in-Some-Serial-clause-still : goal.returns-in-Some-Serial-clause-still
returns-in-Some-Serial-clause-still g c = let words = map (string_bytes {Z = Global}) c.args.words.now in λ other. absurd (true≢false (sym (serial_at words c.in-Some-Serial.field-0 c.in-Some-Serial.field-0-is c.in-Some-Serial.ensures) ∙ other))

pub returns-in-Some-Serial-clause-bad_log : goal.returns-in-Some-Serial-clause-bad_log
returns-in-Some-Serial-clause-bad_log g c = λ checks line is. absurd (c.play_input.ensures.bad_log line is)

pub returns-in-Some-Serial-clause-fitting : goal.returns-in-Some-Serial-clause-fitting
returns-in-Some-Serial-clause-fitting g c = λ text left checked line. c.play_input.ensures.bad_log line

pub returns-in-Some-Serial-clause-not_legal : goal.returns-in-Some-Serial-clause-not_legal
returns-in-Some-Serial-clause-not_legal g c = λ rule actor is. absurd (c.play_input.ensures.not_legal rule actor is)

pub returns-in-Some-Serial-clause-bad_script_part : goal.returns-in-Some-Serial-clause-bad_script_part
returns-in-Some-Serial-clause-bad_script_part g c = let words = map (string_bytes {Z = Global}) c.args.words.now in λ check. absurd (serial_no_check words (serial_at words c.in-Some-Serial.field-0 c.in-Some-Serial.field-0-is c.in-Some-Serial.ensures) check)

pub returns-in-Some-Serial-clause-over_limit_part : goal.returns-in-Some-Serial-clause-over_limit_part
returns-in-Some-Serial-clause-over_limit_part g c = let words = map (string_bytes {Z = Global}) c.args.words.now in λ check. absurd (serial_no_check words (serial_at words c.in-Some-Serial.field-0 c.in-Some-Serial.field-0-is c.in-Some-Serial.ensures) check)

pub returns-in-Some-Serial-clause-fitting_script : goal.returns-in-Some-Serial-clause-fitting_script
returns-in-Some-Serial-clause-fitting_script g c = let words = map (string_bytes {Z = Global}) c.args.words.now in λ check. absurd (serial_no_check words (serial_at words c.in-Some-Serial.field-0 c.in-Some-Serial.field-0-is c.in-Some-Serial.ensures) check)

pub returns-in-Some-Serial-clause-legal : goal.returns-in-Some-Serial-clause-legal
returns-in-Some-Serial-clause-legal g c = let words = map (string_bytes {Z = Global}) c.args.words.now in λ check. absurd (serial_no_check words (serial_at words c.in-Some-Serial.field-0 c.in-Some-Serial.field-0-is c.in-Some-Serial.ensures) check)

pub returns-in-Some-Serial-clause-verdict_part : goal.returns-in-Some-Serial-clause-verdict_part
returns-in-Some-Serial-clause-verdict_part g c = let words = map (string_bytes {Z = Global}) c.args.words.now in λ check. absurd (serial_no_check words (serial_at words c.in-Some-Serial.field-0 c.in-Some-Serial.field-0-is c.in-Some-Serial.ensures) check)

pub returns-in-Some-Serial-clause-seed_only : goal.returns-in-Some-Serial-clause-seed_only
returns-in-Some-Serial-clause-seed_only g c = let words = map (string_bytes {Z = Global}) c.args.words.now in λ seed is. absurd (serial_no_seed words seed (serial_at words c.in-Some-Serial.field-0 c.in-Some-Serial.field-0-is c.in-Some-Serial.ensures) is)

pub returns-in-Some-Serial-clause-seed_ok : goal.returns-in-Some-Serial-clause-seed_ok
returns-in-Some-Serial-clause-seed_ok g c = let words = map (string_bytes {Z = Global}) c.args.words.now in λ seed is. absurd (serial_no_seed words seed (serial_at words c.in-Some-Serial.field-0 c.in-Some-Serial.field-0-is c.in-Some-Serial.ensures) is)

pub returns-in-Some-Serial-clause-seed_part : goal.returns-in-Some-Serial-clause-seed_part
returns-in-Some-Serial-clause-seed_part g c = let words = map (string_bytes {Z = Global}) c.args.words.now in λ seed is. absurd (serial_no_seed words seed (serial_at words c.in-Some-Serial.field-0 c.in-Some-Serial.field-0-is c.in-Some-Serial.ensures) is)

pub returns-in-Some-Check-clause-bad_words : goal.returns-in-Some-Check-clause-bad_words
returns-in-Some-Check-clause-bad_words g c =
    let words = map (string_bytes {Z = Global}) c.args.words.now in
    let chosen = ap (λ (command : Command). some_command command) (sym c.in-Some-Check.field-0-is) ∙ c.in-Some-Check.ensures in
    (λ is. absurd (c.judge_input.ensures.words is), λ none. absurd (true≢false (sym (some_is words Check chosen) ∙ none)))

pub returns-in-Some-Check-clause-unread : goal.returns-in-Some-Check-clause-unread
returns-in-Some-Check-clause-unread g c = λ is. absurd (c.judge_input.ensures.words is)

pub returns-in-Some-Check-clause-bad_script : goal.returns-in-Some-Check-clause-bad_script
returns-in-Some-Check-clause-bad_script g c = let words = map (string_bytes {Z = Global}) c.args.words.now in λ serial. absurd (serial_no_check words serial (check_at words c.in-Some-Check.field-0 c.in-Some-Check.field-0-is c.in-Some-Check.ensures))

pub returns-in-Some-Check-clause-over_limit : goal.returns-in-Some-Check-clause-over_limit
returns-in-Some-Check-clause-over_limit g c = let words = map (string_bytes {Z = Global}) c.args.words.now in λ serial. absurd (serial_no_check words serial (check_at words c.in-Some-Check.field-0 c.in-Some-Check.field-0-is c.in-Some-Check.ensures))

pub returns-in-Some-Check-clause-accepted : goal.returns-in-Some-Check-clause-accepted
returns-in-Some-Check-clause-accepted g c = let words = map (string_bytes {Z = Global}) c.args.words.now in λ serial. absurd (serial_no_check words serial (check_at words c.in-Some-Check.field-0 c.in-Some-Check.field-0-is c.in-Some-Check.ensures))

pub returns-in-Some-Check-clause-ok : goal.returns-in-Some-Check-clause-ok
returns-in-Some-Check-clause-ok g c = let words = map (string_bytes {Z = Global}) c.args.words.now in λ serial. absurd (serial_no_check words serial (check_at words c.in-Some-Check.field-0 c.in-Some-Check.field-0-is c.in-Some-Check.ensures))

pub returns-in-Some-Check-clause-part : goal.returns-in-Some-Check-clause-part
returns-in-Some-Check-clause-part g c = let words = map (string_bytes {Z = Global}) c.args.words.now in λ serial. absurd (serial_no_check words serial (check_at words c.in-Some-Check.field-0 c.in-Some-Check.field-0-is c.in-Some-Check.ensures))

pub returns-in-Some-Check-clause-bad_log : goal.returns-in-Some-Check-clause-bad_log
returns-in-Some-Check-clause-bad_log g c = let words = map (string_bytes {Z = Global}) c.args.words.now in λ checks line is. c.judge_input.ensures.bad_log line is

pub returns-in-Some-Check-clause-not_legal : goal.returns-in-Some-Check-clause-not_legal
returns-in-Some-Check-clause-not_legal g c = let words = map (string_bytes {Z = Global}) c.args.words.now in λ rule actor is. let told = c.judge_input.ensures.not_legal rule actor is in (told.0, told.1, told.2, told.3, inl (check_at words c.in-Some-Check.field-0 c.in-Some-Check.field-0-is c.in-Some-Check.ensures, told.4))

pub returns-in-Some-Check-clause-seed_only : goal.returns-in-Some-Check-clause-seed_only
returns-in-Some-Check-clause-seed_only g c = let words = map (string_bytes {Z = Global}) c.args.words.now in λ seed is. absurd (check_no_seed words seed (check_at words c.in-Some-Check.field-0 c.in-Some-Check.field-0-is c.in-Some-Check.ensures) is)

pub returns-in-Some-Check-clause-seed_ok : goal.returns-in-Some-Check-clause-seed_ok
returns-in-Some-Check-clause-seed_ok g c = let words = map (string_bytes {Z = Global}) c.args.words.now in λ seed is. absurd (check_no_seed words seed (check_at words c.in-Some-Check.field-0 c.in-Some-Check.field-0-is c.in-Some-Check.ensures) is)

pub returns-in-Some-Check-clause-seed_part : goal.returns-in-Some-Check-clause-seed_part
returns-in-Some-Check-clause-seed_part g c = let words = map (string_bytes {Z = Global}) c.args.words.now in λ seed is. absurd (check_no_seed words seed (check_at words c.in-Some-Check.field-0 c.in-Some-Check.field-0-is c.in-Some-Check.ensures) is)

pub returns-in-Some-Gen-clause-bad_words : goal.returns-in-Some-Gen-clause-bad_words
returns-in-Some-Gen-clause-bad_words g c =
    let words = map (string_bytes {Z = Global}) c.args.words.now in
    let chosen = ap (λ (command : Command). some_command command) (sym c.in-Some-Gen.field-0-is) ∙ c.in-Some-Gen.ensures in
    (λ is. absurd (subst (λ (status : Status). IsEndOfGen status) is c.write_script.ensures.end), λ none. absurd (true≢false (sym (some_is words (Gen c.in-Some-Gen.seed) chosen) ∙ none)))

pub returns-in-Some-Gen-clause-read_fault : goal.returns-in-Some-Gen-clause-read_fault
returns-in-Some-Gen-clause-read_fault g c = λ is. absurd (subst (λ (status : Status). IsEndOfGen status) is c.write_script.ensures.end)

pub returns-in-Some-Gen-clause-read_part : goal.returns-in-Some-Gen-clause-read_part
returns-in-Some-Gen-clause-read_part g c = λ is. nothing_lost (g.S.Source.left c.args.source.now)

pub returns-in-Some-Gen-clause-memory_part : goal.returns-in-Some-Gen-clause-memory_part
returns-in-Some-Gen-clause-memory_part g c = λ is. nothing_lost (g.S.Source.left c.args.source.now)

pub returns-in-Some-Gen-clause-too_long : goal.returns-in-Some-Gen-clause-too_long
returns-in-Some-Gen-clause-too_long g c = λ limit is. absurd (subst (λ (status : Status). IsEndOfGen status) is c.write_script.ensures.end)

pub returns-in-Some-Gen-clause-bad_script : goal.returns-in-Some-Gen-clause-bad_script
returns-in-Some-Gen-clause-bad_script g c = let words = map (string_bytes {Z = Global}) c.args.words.now in λ serial. absurd (serial_no_seed words c.in-Some-Gen.seed serial (gen_at words c.in-Some-Gen.field-0 c.in-Some-Gen.seed c.in-Some-Gen.field-0-is c.in-Some-Gen.ensures))

pub returns-in-Some-Gen-clause-over_limit : goal.returns-in-Some-Gen-clause-over_limit
returns-in-Some-Gen-clause-over_limit g c = let words = map (string_bytes {Z = Global}) c.args.words.now in λ serial. absurd (serial_no_seed words c.in-Some-Gen.seed serial (gen_at words c.in-Some-Gen.field-0 c.in-Some-Gen.seed c.in-Some-Gen.field-0-is c.in-Some-Gen.ensures))

pub returns-in-Some-Gen-clause-accepted : goal.returns-in-Some-Gen-clause-accepted
returns-in-Some-Gen-clause-accepted g c = let words = map (string_bytes {Z = Global}) c.args.words.now in λ serial. absurd (serial_no_seed words c.in-Some-Gen.seed serial (gen_at words c.in-Some-Gen.field-0 c.in-Some-Gen.seed c.in-Some-Gen.field-0-is c.in-Some-Gen.ensures))

pub returns-in-Some-Gen-clause-ok : goal.returns-in-Some-Gen-clause-ok
returns-in-Some-Gen-clause-ok g c = let words = map (string_bytes {Z = Global}) c.args.words.now in λ serial. absurd (serial_no_seed words c.in-Some-Gen.seed serial (gen_at words c.in-Some-Gen.field-0 c.in-Some-Gen.seed c.in-Some-Gen.field-0-is c.in-Some-Gen.ensures))

pub returns-in-Some-Gen-clause-part : goal.returns-in-Some-Gen-clause-part
returns-in-Some-Gen-clause-part g c = let words = map (string_bytes {Z = Global}) c.args.words.now in λ serial. absurd (serial_no_seed words c.in-Some-Gen.seed serial (gen_at words c.in-Some-Gen.field-0 c.in-Some-Gen.seed c.in-Some-Gen.field-0-is c.in-Some-Gen.ensures))

pub returns-in-Some-Gen-clause-bad_script_part : goal.returns-in-Some-Gen-clause-bad_script_part
returns-in-Some-Gen-clause-bad_script_part g c = let words = map (string_bytes {Z = Global}) c.args.words.now in λ check. absurd (check_no_seed words c.in-Some-Gen.seed check (gen_at words c.in-Some-Gen.field-0 c.in-Some-Gen.seed c.in-Some-Gen.field-0-is c.in-Some-Gen.ensures))

pub returns-in-Some-Gen-clause-over_limit_part : goal.returns-in-Some-Gen-clause-over_limit_part
returns-in-Some-Gen-clause-over_limit_part g c = let words = map (string_bytes {Z = Global}) c.args.words.now in λ check. absurd (check_no_seed words c.in-Some-Gen.seed check (gen_at words c.in-Some-Gen.field-0 c.in-Some-Gen.seed c.in-Some-Gen.field-0-is c.in-Some-Gen.ensures))

pub returns-in-Some-Gen-clause-fitting_script : goal.returns-in-Some-Gen-clause-fitting_script
returns-in-Some-Gen-clause-fitting_script g c = let words = map (string_bytes {Z = Global}) c.args.words.now in λ check. absurd (check_no_seed words c.in-Some-Gen.seed check (gen_at words c.in-Some-Gen.field-0 c.in-Some-Gen.seed c.in-Some-Gen.field-0-is c.in-Some-Gen.ensures))

pub returns-in-Some-Gen-clause-legal : goal.returns-in-Some-Gen-clause-legal
returns-in-Some-Gen-clause-legal g c = let words = map (string_bytes {Z = Global}) c.args.words.now in λ check. absurd (check_no_seed words c.in-Some-Gen.seed check (gen_at words c.in-Some-Gen.field-0 c.in-Some-Gen.seed c.in-Some-Gen.field-0-is c.in-Some-Gen.ensures))

pub returns-in-Some-Gen-clause-verdict_part : goal.returns-in-Some-Gen-clause-verdict_part
returns-in-Some-Gen-clause-verdict_part g c = let words = map (string_bytes {Z = Global}) c.args.words.now in λ check. absurd (check_no_seed words c.in-Some-Gen.seed check (gen_at words c.in-Some-Gen.field-0 c.in-Some-Gen.seed c.in-Some-Gen.field-0-is c.in-Some-Gen.ensures))

pub returns-in-Some-Gen-clause-bad_log : goal.returns-in-Some-Gen-clause-bad_log
returns-in-Some-Gen-clause-bad_log g c = λ checks line is. absurd (subst (λ (status : Status). IsEndOfGen status) is c.write_script.ensures.end)

pub returns-in-Some-Gen-clause-fitting : goal.returns-in-Some-Gen-clause-fitting
returns-in-Some-Gen-clause-fitting g c = λ text left checked line is. absurd (subst (λ (status : Status). IsEndOfGen status) is c.write_script.ensures.end)

pub returns-in-Some-Gen-clause-not_legal : goal.returns-in-Some-Gen-clause-not_legal
returns-in-Some-Gen-clause-not_legal g c = λ rule actor is. absurd (subst (λ (status : Status). IsEndOfGen status) is c.write_script.ensures.end)

pub returns-in-Some-Gen-clause-seed_only : goal.returns-in-Some-Gen-clause-seed_only
returns-in-Some-Gen-clause-seed_only g c = λ seed is. (refl, c.write_script.ensures.end)

pub returns-in-Some-Gen-clause-seed_ok : goal.returns-in-Some-Gen-clause-seed_ok
returns-in-Some-Gen-clause-seed_ok g c =
    let words = map (string_bytes {Z = Global}) c.args.words.now in
    let chosen = ap (λ (command : Command). some_command command) (sym c.in-Some-Gen.field-0-is) ∙ c.in-Some-Gen.ensures in
    λ seed is ok.
    let old = g.K.Sink.written c.args.sink.now in
    let new = g.K.Sink.written c.write_script.new.sink in
    let same = one_seed words c.in-Some-Gen.seed seed (gen_is words c.in-Some-Gen.seed chosen) is in
    subst (λ (n : ℕ). Appended old new (generated n)) same (c.write_script.ensures.ok ok)

pub returns-in-Some-Gen-clause-seed_part : goal.returns-in-Some-Gen-clause-seed_part
returns-in-Some-Gen-clause-seed_part g c =
    let words = map (string_bytes {Z = Global}) c.args.words.now in
    let chosen = ap (λ (command : Command). some_command command) (sym c.in-Some-Gen.field-0-is) ∙ c.in-Some-Gen.ensures in
    λ seed is written failed.
    let old = g.K.Sink.written c.args.sink.now in
    let new = g.K.Sink.written c.write_script.new.sink in
    let same = one_seed words c.in-Some-Gen.seed seed (gen_is words c.in-Some-Gen.seed chosen) is in
    subst (λ (n : ℕ). (written < length (generated n)) × Appended old new (take written (generated n))) same (c.write_script.ensures.part written failed)

pub returns-in-None-clause-bad_words : goal.returns-in-None-clause-bad_words
returns-in-None-clause-bad_words g c = let words = map (string_bytes {Z = Global}) c.args.words.now in (λ is. none_is words c.in-None.ensures, λ none. refl)

pub returns-in-None-clause-seed_only : goal.returns-in-None-clause-seed_only
returns-in-None-clause-seed_only g c = let words = map (string_bytes {Z = Global}) c.args.words.now in λ seed is. absurd (none_no_seed words seed c.in-None.ensures is)

pub returns-in-None-clause-seed_ok : goal.returns-in-None-clause-seed_ok
returns-in-None-clause-seed_ok g c = let words = map (string_bytes {Z = Global}) c.args.words.now in λ seed is. absurd (none_no_seed words seed c.in-None.ensures is)

pub returns-in-None-clause-seed_part : goal.returns-in-None-clause-seed_part
returns-in-None-clause-seed_part g c = let words = map (string_bytes {Z = Global}) c.args.words.now in λ seed is. absurd (none_no_seed words seed c.in-None.ensures is)

pub returns-in-Some-Serial-clause-promises : goal.returns-in-Some-Serial-clause-promises
returns-in-Some-Serial-clause-promises g c = λ text log l. c.logs_of_serial_are_lawful.ensures _ _ text log l

pub returns-in-Some-Check-clause-promises : goal.returns-in-Some-Check-clause-promises
returns-in-Some-Check-clause-promises g c = λ text log l. c.logs_of_serial_are_lawful.ensures _ _ text log l

pub returns-in-Some-Gen-clause-promises : goal.returns-in-Some-Gen-clause-promises
returns-in-Some-Gen-clause-promises g c = λ text log l. c.logs_of_serial_are_lawful.ensures _ _ text log l

pub returns-in-None-clause-promises : goal.returns-in-None-clause-promises
returns-in-None-clause-promises g c = λ text log l. c.logs_of_serial_are_lawful.ensures _ _ text log l

pub returns-in-Some-Serial-clause-rewrite_bad_script : goal.returns-in-Some-Serial-clause-rewrite_bad_script
returns-in-Some-Serial-clause-rewrite_bad_script g c = let words = map (string_bytes {Z = Global}) c.args.words.now in λ rewrites. absurd (serial_no_rewrite words (serial_at words c.in-Some-Serial.field-0 c.in-Some-Serial.field-0-is c.in-Some-Serial.ensures) rewrites)

pub returns-in-Some-Check-clause-rewrite_bad_script : goal.returns-in-Some-Check-clause-rewrite_bad_script
returns-in-Some-Check-clause-rewrite_bad_script g c = let words = map (string_bytes {Z = Global}) c.args.words.now in λ rewrites. absurd (check_no_rewrite words (check_at words c.in-Some-Check.field-0 c.in-Some-Check.field-0-is c.in-Some-Check.ensures) rewrites)

pub returns-in-Some-Gen-clause-rewrite_bad_script : goal.returns-in-Some-Gen-clause-rewrite_bad_script
returns-in-Some-Gen-clause-rewrite_bad_script g c = let words = map (string_bytes {Z = Global}) c.args.words.now in λ rewrites. absurd (rewrite_no_seed words c.in-Some-Gen.seed rewrites (gen_at words c.in-Some-Gen.field-0 c.in-Some-Gen.seed c.in-Some-Gen.field-0-is c.in-Some-Gen.ensures))

pub returns-in-Some-Serial-clause-rewrite_over_limit : goal.returns-in-Some-Serial-clause-rewrite_over_limit
returns-in-Some-Serial-clause-rewrite_over_limit g c = let words = map (string_bytes {Z = Global}) c.args.words.now in λ rewrites. absurd (serial_no_rewrite words (serial_at words c.in-Some-Serial.field-0 c.in-Some-Serial.field-0-is c.in-Some-Serial.ensures) rewrites)

pub returns-in-Some-Check-clause-rewrite_over_limit : goal.returns-in-Some-Check-clause-rewrite_over_limit
returns-in-Some-Check-clause-rewrite_over_limit g c = let words = map (string_bytes {Z = Global}) c.args.words.now in λ rewrites. absurd (check_no_rewrite words (check_at words c.in-Some-Check.field-0 c.in-Some-Check.field-0-is c.in-Some-Check.ensures) rewrites)

pub returns-in-Some-Gen-clause-rewrite_over_limit : goal.returns-in-Some-Gen-clause-rewrite_over_limit
returns-in-Some-Gen-clause-rewrite_over_limit g c = let words = map (string_bytes {Z = Global}) c.args.words.now in λ rewrites. absurd (rewrite_no_seed words c.in-Some-Gen.seed rewrites (gen_at words c.in-Some-Gen.field-0 c.in-Some-Gen.seed c.in-Some-Gen.field-0-is c.in-Some-Gen.ensures))

pub returns-in-Some-Serial-clause-rewrite_bad_log : goal.returns-in-Some-Serial-clause-rewrite_bad_log
returns-in-Some-Serial-clause-rewrite_bad_log g c = let words = map (string_bytes {Z = Global}) c.args.words.now in λ rewrites. absurd (serial_no_rewrite words (serial_at words c.in-Some-Serial.field-0 c.in-Some-Serial.field-0-is c.in-Some-Serial.ensures) rewrites)

pub returns-in-Some-Check-clause-rewrite_bad_log : goal.returns-in-Some-Check-clause-rewrite_bad_log
returns-in-Some-Check-clause-rewrite_bad_log g c = let words = map (string_bytes {Z = Global}) c.args.words.now in λ rewrites. absurd (check_no_rewrite words (check_at words c.in-Some-Check.field-0 c.in-Some-Check.field-0-is c.in-Some-Check.ensures) rewrites)

pub returns-in-Some-Gen-clause-rewrite_bad_log : goal.returns-in-Some-Gen-clause-rewrite_bad_log
returns-in-Some-Gen-clause-rewrite_bad_log g c = let words = map (string_bytes {Z = Global}) c.args.words.now in λ rewrites. absurd (rewrite_no_seed words c.in-Some-Gen.seed rewrites (gen_at words c.in-Some-Gen.field-0 c.in-Some-Gen.seed c.in-Some-Gen.field-0-is c.in-Some-Gen.ensures))

pub returns-in-Some-Serial-clause-rewrite_fitting : goal.returns-in-Some-Serial-clause-rewrite_fitting
returns-in-Some-Serial-clause-rewrite_fitting g c = let words = map (string_bytes {Z = Global}) c.args.words.now in λ rewrites. absurd (serial_no_rewrite words (serial_at words c.in-Some-Serial.field-0 c.in-Some-Serial.field-0-is c.in-Some-Serial.ensures) rewrites)

pub returns-in-Some-Check-clause-rewrite_fitting : goal.returns-in-Some-Check-clause-rewrite_fitting
returns-in-Some-Check-clause-rewrite_fitting g c = let words = map (string_bytes {Z = Global}) c.args.words.now in λ rewrites. absurd (check_no_rewrite words (check_at words c.in-Some-Check.field-0 c.in-Some-Check.field-0-is c.in-Some-Check.ensures) rewrites)

pub returns-in-Some-Gen-clause-rewrite_fitting : goal.returns-in-Some-Gen-clause-rewrite_fitting
returns-in-Some-Gen-clause-rewrite_fitting g c = let words = map (string_bytes {Z = Global}) c.args.words.now in λ rewrites. absurd (rewrite_no_seed words c.in-Some-Gen.seed rewrites (gen_at words c.in-Some-Gen.field-0 c.in-Some-Gen.seed c.in-Some-Gen.field-0-is c.in-Some-Gen.ensures))

pub returns-in-Some-Serial-clause-rewritten : goal.returns-in-Some-Serial-clause-rewritten
returns-in-Some-Serial-clause-rewritten g c = let words = map (string_bytes {Z = Global}) c.args.words.now in λ rewrites. absurd (serial_no_rewrite words (serial_at words c.in-Some-Serial.field-0 c.in-Some-Serial.field-0-is c.in-Some-Serial.ensures) rewrites)

pub returns-in-Some-Check-clause-rewritten : goal.returns-in-Some-Check-clause-rewritten
returns-in-Some-Check-clause-rewritten g c = let words = map (string_bytes {Z = Global}) c.args.words.now in λ rewrites. absurd (check_no_rewrite words (check_at words c.in-Some-Check.field-0 c.in-Some-Check.field-0-is c.in-Some-Check.ensures) rewrites)

pub returns-in-Some-Gen-clause-rewritten : goal.returns-in-Some-Gen-clause-rewritten
returns-in-Some-Gen-clause-rewritten g c = let words = map (string_bytes {Z = Global}) c.args.words.now in λ rewrites. absurd (rewrite_no_seed words c.in-Some-Gen.seed rewrites (gen_at words c.in-Some-Gen.field-0 c.in-Some-Gen.seed c.in-Some-Gen.field-0-is c.in-Some-Gen.ensures))

pub returns-in-Some-Serial-clause-rewritten_part : goal.returns-in-Some-Serial-clause-rewritten_part
returns-in-Some-Serial-clause-rewritten_part g c = let words = map (string_bytes {Z = Global}) c.args.words.now in λ rewrites. absurd (serial_no_rewrite words (serial_at words c.in-Some-Serial.field-0 c.in-Some-Serial.field-0-is c.in-Some-Serial.ensures) rewrites)

pub returns-in-Some-Check-clause-rewritten_part : goal.returns-in-Some-Check-clause-rewritten_part
returns-in-Some-Check-clause-rewritten_part g c = let words = map (string_bytes {Z = Global}) c.args.words.now in λ rewrites. absurd (check_no_rewrite words (check_at words c.in-Some-Check.field-0 c.in-Some-Check.field-0-is c.in-Some-Check.ensures) rewrites)

pub returns-in-Some-Gen-clause-rewritten_part : goal.returns-in-Some-Gen-clause-rewritten_part
returns-in-Some-Gen-clause-rewritten_part g c = let words = map (string_bytes {Z = Global}) c.args.words.now in λ rewrites. absurd (rewrite_no_seed words c.in-Some-Gen.seed rewrites (gen_at words c.in-Some-Gen.field-0 c.in-Some-Gen.seed c.in-Some-Gen.field-0-is c.in-Some-Gen.ensures))

pub returns-in-Some-Serial-clause-bad_log_only : goal.returns-in-Some-Serial-clause-bad_log_only
returns-in-Some-Serial-clause-bad_log_only g c = λ line is. absurd (c.play_input.ensures.bad_log line is)

pub returns-in-Some-Check-clause-bad_log_only : goal.returns-in-Some-Check-clause-bad_log_only
returns-in-Some-Check-clause-bad_log_only g c = let words = map (string_bytes {Z = Global}) c.args.words.now in λ line is. inl (check_at words c.in-Some-Check.field-0 c.in-Some-Check.field-0-is c.in-Some-Check.ensures)

pub returns-in-Some-Gen-clause-bad_log_only : goal.returns-in-Some-Gen-clause-bad_log_only
returns-in-Some-Gen-clause-bad_log_only g c = λ line is. absurd (subst (λ (status : Status). IsEndOfGen status) is c.write_script.ensures.end)

pub returns-in-Some-Rewrite-clause-bad_words : goal.returns-in-Some-Rewrite-clause-bad_words
returns-in-Some-Rewrite-clause-bad_words g c =
    let words = map (string_bytes {Z = Global}) c.args.words.now in
    let chosen = ap (λ (command : Command). some_command command) (sym c.in-Some-Rewrite.field-0-is) ∙ c.in-Some-Rewrite.ensures in
    (λ is. absurd (c.rewrite_input.ensures.words is), λ none. absurd (true≢false (sym (some_is words Rewrite chosen) ∙ none)))

pub returns-in-Some-Rewrite-clause-unread : goal.returns-in-Some-Rewrite-clause-unread
returns-in-Some-Rewrite-clause-unread g c = λ is. absurd (c.rewrite_input.ensures.words is)

pub returns-in-Some-Rewrite-clause-bad_script : goal.returns-in-Some-Rewrite-clause-bad_script
returns-in-Some-Rewrite-clause-bad_script g c = let words = map (string_bytes {Z = Global}) c.args.words.now in λ serial. absurd (serial_no_rewrite words serial (rewrite_at words c.in-Some-Rewrite.field-0 c.in-Some-Rewrite.field-0-is c.in-Some-Rewrite.ensures))

pub returns-in-Some-Rewrite-clause-over_limit : goal.returns-in-Some-Rewrite-clause-over_limit
returns-in-Some-Rewrite-clause-over_limit g c = let words = map (string_bytes {Z = Global}) c.args.words.now in λ serial. absurd (serial_no_rewrite words serial (rewrite_at words c.in-Some-Rewrite.field-0 c.in-Some-Rewrite.field-0-is c.in-Some-Rewrite.ensures))

pub returns-in-Some-Rewrite-clause-accepted : goal.returns-in-Some-Rewrite-clause-accepted
returns-in-Some-Rewrite-clause-accepted g c = let words = map (string_bytes {Z = Global}) c.args.words.now in λ serial. absurd (serial_no_rewrite words serial (rewrite_at words c.in-Some-Rewrite.field-0 c.in-Some-Rewrite.field-0-is c.in-Some-Rewrite.ensures))

pub returns-in-Some-Rewrite-clause-ok : goal.returns-in-Some-Rewrite-clause-ok
returns-in-Some-Rewrite-clause-ok g c = let words = map (string_bytes {Z = Global}) c.args.words.now in λ serial. absurd (serial_no_rewrite words serial (rewrite_at words c.in-Some-Rewrite.field-0 c.in-Some-Rewrite.field-0-is c.in-Some-Rewrite.ensures))

pub returns-in-Some-Rewrite-clause-part : goal.returns-in-Some-Rewrite-clause-part
returns-in-Some-Rewrite-clause-part g c = let words = map (string_bytes {Z = Global}) c.args.words.now in λ serial. absurd (serial_no_rewrite words serial (rewrite_at words c.in-Some-Rewrite.field-0 c.in-Some-Rewrite.field-0-is c.in-Some-Rewrite.ensures))

pub returns-in-Some-Rewrite-clause-bad_script_part : goal.returns-in-Some-Rewrite-clause-bad_script_part
returns-in-Some-Rewrite-clause-bad_script_part g c = let words = map (string_bytes {Z = Global}) c.args.words.now in λ check. absurd (check_no_rewrite words check (rewrite_at words c.in-Some-Rewrite.field-0 c.in-Some-Rewrite.field-0-is c.in-Some-Rewrite.ensures))

pub returns-in-Some-Rewrite-clause-over_limit_part : goal.returns-in-Some-Rewrite-clause-over_limit_part
returns-in-Some-Rewrite-clause-over_limit_part g c = let words = map (string_bytes {Z = Global}) c.args.words.now in λ check. absurd (check_no_rewrite words check (rewrite_at words c.in-Some-Rewrite.field-0 c.in-Some-Rewrite.field-0-is c.in-Some-Rewrite.ensures))

pub returns-in-Some-Rewrite-clause-bad_log : goal.returns-in-Some-Rewrite-clause-bad_log
returns-in-Some-Rewrite-clause-bad_log g c = let words = map (string_bytes {Z = Global}) c.args.words.now in λ check. absurd (check_no_rewrite words check (rewrite_at words c.in-Some-Rewrite.field-0 c.in-Some-Rewrite.field-0-is c.in-Some-Rewrite.ensures))

pub returns-in-Some-Rewrite-clause-fitting_script : goal.returns-in-Some-Rewrite-clause-fitting_script
returns-in-Some-Rewrite-clause-fitting_script g c = let words = map (string_bytes {Z = Global}) c.args.words.now in λ check. absurd (check_no_rewrite words check (rewrite_at words c.in-Some-Rewrite.field-0 c.in-Some-Rewrite.field-0-is c.in-Some-Rewrite.ensures))

pub returns-in-Some-Rewrite-clause-legal : goal.returns-in-Some-Rewrite-clause-legal
returns-in-Some-Rewrite-clause-legal g c = let words = map (string_bytes {Z = Global}) c.args.words.now in λ check. absurd (check_no_rewrite words check (rewrite_at words c.in-Some-Rewrite.field-0 c.in-Some-Rewrite.field-0-is c.in-Some-Rewrite.ensures))

pub returns-in-Some-Rewrite-clause-verdict_part : goal.returns-in-Some-Rewrite-clause-verdict_part
returns-in-Some-Rewrite-clause-verdict_part g c = let words = map (string_bytes {Z = Global}) c.args.words.now in λ check. absurd (check_no_rewrite words check (rewrite_at words c.in-Some-Rewrite.field-0 c.in-Some-Rewrite.field-0-is c.in-Some-Rewrite.ensures))

pub returns-in-Some-Rewrite-clause-bad_log_only : goal.returns-in-Some-Rewrite-clause-bad_log_only
returns-in-Some-Rewrite-clause-bad_log_only g c = let words = map (string_bytes {Z = Global}) c.args.words.now in λ line is. inr (inl (rewrite_at words c.in-Some-Rewrite.field-0 c.in-Some-Rewrite.field-0-is c.in-Some-Rewrite.ensures))

pub returns-in-Some-Rewrite-clause-fitting : goal.returns-in-Some-Rewrite-clause-fitting
returns-in-Some-Rewrite-clause-fitting g c = λ text left checked. c.rewrite_input.ensures.fitting text left (inr checked)

pub returns-in-Some-Rewrite-clause-not_legal : goal.returns-in-Some-Rewrite-clause-not_legal
returns-in-Some-Rewrite-clause-not_legal g c = λ rule actor is. absurd (c.rewrite_input.ensures.not_legal rule actor is)

pub returns-in-Some-Rewrite-clause-rewrite_fitting : goal.returns-in-Some-Rewrite-clause-rewrite_fitting
returns-in-Some-Rewrite-clause-rewrite_fitting g c = λ rewrites text left taken. let script = c.rewrite_input.ensures.fitting_script text left taken in (c.rewrite_input.ensures.fitting text left taken, script.0, script.1)

pub returns-in-Some-Rewrite-clause-seed_only : goal.returns-in-Some-Rewrite-clause-seed_only
returns-in-Some-Rewrite-clause-seed_only g c = let words = map (string_bytes {Z = Global}) c.args.words.now in λ seed is. absurd (rewrite_no_seed words seed (rewrite_at words c.in-Some-Rewrite.field-0 c.in-Some-Rewrite.field-0-is c.in-Some-Rewrite.ensures) is)

pub returns-in-Some-Rewrite-clause-seed_ok : goal.returns-in-Some-Rewrite-clause-seed_ok
returns-in-Some-Rewrite-clause-seed_ok g c = let words = map (string_bytes {Z = Global}) c.args.words.now in λ seed is. absurd (rewrite_no_seed words seed (rewrite_at words c.in-Some-Rewrite.field-0 c.in-Some-Rewrite.field-0-is c.in-Some-Rewrite.ensures) is)

pub returns-in-Some-Rewrite-clause-seed_part : goal.returns-in-Some-Rewrite-clause-seed_part
returns-in-Some-Rewrite-clause-seed_part g c = let words = map (string_bytes {Z = Global}) c.args.words.now in λ seed is. absurd (rewrite_no_seed words seed (rewrite_at words c.in-Some-Rewrite.field-0 c.in-Some-Rewrite.field-0-is c.in-Some-Rewrite.ensures) is)

pub returns-in-Some-Rewrite-clause-promises : goal.returns-in-Some-Rewrite-clause-promises
returns-in-Some-Rewrite-clause-promises g c = λ text log l. c.logs_of_serial_are_lawful.ensures _ _ text log l

pub returns-in-Some-Serial-clause-replay_bad_script : goal.returns-in-Some-Serial-clause-replay_bad_script
returns-in-Some-Serial-clause-replay_bad_script g c = let words = map (string_bytes {Z = Global}) c.args.words.now in λ replays. absurd (serial_no_replay words (serial_at words c.in-Some-Serial.field-0 c.in-Some-Serial.field-0-is c.in-Some-Serial.ensures) replays)

pub returns-in-Some-Serial-clause-replay_over_limit : goal.returns-in-Some-Serial-clause-replay_over_limit
returns-in-Some-Serial-clause-replay_over_limit g c = let words = map (string_bytes {Z = Global}) c.args.words.now in λ replays. absurd (serial_no_replay words (serial_at words c.in-Some-Serial.field-0 c.in-Some-Serial.field-0-is c.in-Some-Serial.ensures) replays)

pub returns-in-Some-Serial-clause-replay_bad_log : goal.returns-in-Some-Serial-clause-replay_bad_log
returns-in-Some-Serial-clause-replay_bad_log g c = let words = map (string_bytes {Z = Global}) c.args.words.now in λ replays. absurd (serial_no_replay words (serial_at words c.in-Some-Serial.field-0 c.in-Some-Serial.field-0-is c.in-Some-Serial.ensures) replays)

pub returns-in-Some-Serial-clause-replay_fitting : goal.returns-in-Some-Serial-clause-replay_fitting
returns-in-Some-Serial-clause-replay_fitting g c = let words = map (string_bytes {Z = Global}) c.args.words.now in λ replays. absurd (serial_no_replay words (serial_at words c.in-Some-Serial.field-0 c.in-Some-Serial.field-0-is c.in-Some-Serial.ensures) replays)

pub returns-in-Some-Serial-clause-replay_silent : goal.returns-in-Some-Serial-clause-replay_silent
returns-in-Some-Serial-clause-replay_silent g c = let words = map (string_bytes {Z = Global}) c.args.words.now in λ replays. absurd (serial_no_replay words (serial_at words c.in-Some-Serial.field-0 c.in-Some-Serial.field-0-is c.in-Some-Serial.ensures) replays)

pub returns-in-Some-Serial-clause-replayed : goal.returns-in-Some-Serial-clause-replayed
returns-in-Some-Serial-clause-replayed g c = let words = map (string_bytes {Z = Global}) c.args.words.now in λ replays. absurd (serial_no_replay words (serial_at words c.in-Some-Serial.field-0 c.in-Some-Serial.field-0-is c.in-Some-Serial.ensures) replays)

pub returns-in-Some-Serial-clause-replayed_part : goal.returns-in-Some-Serial-clause-replayed_part
returns-in-Some-Serial-clause-replayed_part g c = let words = map (string_bytes {Z = Global}) c.args.words.now in λ replays. absurd (serial_no_replay words (serial_at words c.in-Some-Serial.field-0 c.in-Some-Serial.field-0-is c.in-Some-Serial.ensures) replays)

pub returns-in-Some-Check-clause-replay_bad_script : goal.returns-in-Some-Check-clause-replay_bad_script
returns-in-Some-Check-clause-replay_bad_script g c = let words = map (string_bytes {Z = Global}) c.args.words.now in λ replays. absurd (check_no_replay words (check_at words c.in-Some-Check.field-0 c.in-Some-Check.field-0-is c.in-Some-Check.ensures) replays)

pub returns-in-Some-Check-clause-replay_over_limit : goal.returns-in-Some-Check-clause-replay_over_limit
returns-in-Some-Check-clause-replay_over_limit g c = let words = map (string_bytes {Z = Global}) c.args.words.now in λ replays. absurd (check_no_replay words (check_at words c.in-Some-Check.field-0 c.in-Some-Check.field-0-is c.in-Some-Check.ensures) replays)

pub returns-in-Some-Check-clause-replay_bad_log : goal.returns-in-Some-Check-clause-replay_bad_log
returns-in-Some-Check-clause-replay_bad_log g c = let words = map (string_bytes {Z = Global}) c.args.words.now in λ replays. absurd (check_no_replay words (check_at words c.in-Some-Check.field-0 c.in-Some-Check.field-0-is c.in-Some-Check.ensures) replays)

pub returns-in-Some-Check-clause-replay_fitting : goal.returns-in-Some-Check-clause-replay_fitting
returns-in-Some-Check-clause-replay_fitting g c = let words = map (string_bytes {Z = Global}) c.args.words.now in λ replays. absurd (check_no_replay words (check_at words c.in-Some-Check.field-0 c.in-Some-Check.field-0-is c.in-Some-Check.ensures) replays)

pub returns-in-Some-Check-clause-replay_silent : goal.returns-in-Some-Check-clause-replay_silent
returns-in-Some-Check-clause-replay_silent g c = let words = map (string_bytes {Z = Global}) c.args.words.now in λ replays. absurd (check_no_replay words (check_at words c.in-Some-Check.field-0 c.in-Some-Check.field-0-is c.in-Some-Check.ensures) replays)

pub returns-in-Some-Check-clause-replayed : goal.returns-in-Some-Check-clause-replayed
returns-in-Some-Check-clause-replayed g c = let words = map (string_bytes {Z = Global}) c.args.words.now in λ replays. absurd (check_no_replay words (check_at words c.in-Some-Check.field-0 c.in-Some-Check.field-0-is c.in-Some-Check.ensures) replays)

pub returns-in-Some-Check-clause-replayed_part : goal.returns-in-Some-Check-clause-replayed_part
returns-in-Some-Check-clause-replayed_part g c = let words = map (string_bytes {Z = Global}) c.args.words.now in λ replays. absurd (check_no_replay words (check_at words c.in-Some-Check.field-0 c.in-Some-Check.field-0-is c.in-Some-Check.ensures) replays)

pub returns-in-Some-Rewrite-clause-replay_bad_script : goal.returns-in-Some-Rewrite-clause-replay_bad_script
returns-in-Some-Rewrite-clause-replay_bad_script g c = let words = map (string_bytes {Z = Global}) c.args.words.now in λ replays. absurd (rewrite_no_replay words (rewrite_at words c.in-Some-Rewrite.field-0 c.in-Some-Rewrite.field-0-is c.in-Some-Rewrite.ensures) replays)

pub returns-in-Some-Rewrite-clause-replay_over_limit : goal.returns-in-Some-Rewrite-clause-replay_over_limit
returns-in-Some-Rewrite-clause-replay_over_limit g c = let words = map (string_bytes {Z = Global}) c.args.words.now in λ replays. absurd (rewrite_no_replay words (rewrite_at words c.in-Some-Rewrite.field-0 c.in-Some-Rewrite.field-0-is c.in-Some-Rewrite.ensures) replays)

pub returns-in-Some-Rewrite-clause-replay_bad_log : goal.returns-in-Some-Rewrite-clause-replay_bad_log
returns-in-Some-Rewrite-clause-replay_bad_log g c = let words = map (string_bytes {Z = Global}) c.args.words.now in λ replays. absurd (rewrite_no_replay words (rewrite_at words c.in-Some-Rewrite.field-0 c.in-Some-Rewrite.field-0-is c.in-Some-Rewrite.ensures) replays)

pub returns-in-Some-Rewrite-clause-replay_fitting : goal.returns-in-Some-Rewrite-clause-replay_fitting
returns-in-Some-Rewrite-clause-replay_fitting g c = let words = map (string_bytes {Z = Global}) c.args.words.now in λ replays. absurd (rewrite_no_replay words (rewrite_at words c.in-Some-Rewrite.field-0 c.in-Some-Rewrite.field-0-is c.in-Some-Rewrite.ensures) replays)

pub returns-in-Some-Rewrite-clause-replay_silent : goal.returns-in-Some-Rewrite-clause-replay_silent
returns-in-Some-Rewrite-clause-replay_silent g c = let words = map (string_bytes {Z = Global}) c.args.words.now in λ replays. absurd (rewrite_no_replay words (rewrite_at words c.in-Some-Rewrite.field-0 c.in-Some-Rewrite.field-0-is c.in-Some-Rewrite.ensures) replays)

pub returns-in-Some-Rewrite-clause-replayed : goal.returns-in-Some-Rewrite-clause-replayed
returns-in-Some-Rewrite-clause-replayed g c = let words = map (string_bytes {Z = Global}) c.args.words.now in λ replays. absurd (rewrite_no_replay words (rewrite_at words c.in-Some-Rewrite.field-0 c.in-Some-Rewrite.field-0-is c.in-Some-Rewrite.ensures) replays)

pub returns-in-Some-Rewrite-clause-replayed_part : goal.returns-in-Some-Rewrite-clause-replayed_part
returns-in-Some-Rewrite-clause-replayed_part g c = let words = map (string_bytes {Z = Global}) c.args.words.now in λ replays. absurd (rewrite_no_replay words (rewrite_at words c.in-Some-Rewrite.field-0 c.in-Some-Rewrite.field-0-is c.in-Some-Rewrite.ensures) replays)

pub returns-in-Some-Gen-clause-replay_bad_script : goal.returns-in-Some-Gen-clause-replay_bad_script
returns-in-Some-Gen-clause-replay_bad_script g c = let words = map (string_bytes {Z = Global}) c.args.words.now in λ replays. absurd (replay_no_seed words c.in-Some-Gen.seed replays (gen_at words c.in-Some-Gen.field-0 c.in-Some-Gen.seed c.in-Some-Gen.field-0-is c.in-Some-Gen.ensures))

pub returns-in-Some-Gen-clause-replay_over_limit : goal.returns-in-Some-Gen-clause-replay_over_limit
returns-in-Some-Gen-clause-replay_over_limit g c = let words = map (string_bytes {Z = Global}) c.args.words.now in λ replays. absurd (replay_no_seed words c.in-Some-Gen.seed replays (gen_at words c.in-Some-Gen.field-0 c.in-Some-Gen.seed c.in-Some-Gen.field-0-is c.in-Some-Gen.ensures))

pub returns-in-Some-Gen-clause-replay_bad_log : goal.returns-in-Some-Gen-clause-replay_bad_log
returns-in-Some-Gen-clause-replay_bad_log g c = let words = map (string_bytes {Z = Global}) c.args.words.now in λ replays. absurd (replay_no_seed words c.in-Some-Gen.seed replays (gen_at words c.in-Some-Gen.field-0 c.in-Some-Gen.seed c.in-Some-Gen.field-0-is c.in-Some-Gen.ensures))

pub returns-in-Some-Gen-clause-replay_fitting : goal.returns-in-Some-Gen-clause-replay_fitting
returns-in-Some-Gen-clause-replay_fitting g c = let words = map (string_bytes {Z = Global}) c.args.words.now in λ replays. absurd (replay_no_seed words c.in-Some-Gen.seed replays (gen_at words c.in-Some-Gen.field-0 c.in-Some-Gen.seed c.in-Some-Gen.field-0-is c.in-Some-Gen.ensures))

pub returns-in-Some-Gen-clause-replay_silent : goal.returns-in-Some-Gen-clause-replay_silent
returns-in-Some-Gen-clause-replay_silent g c = let words = map (string_bytes {Z = Global}) c.args.words.now in λ replays. absurd (replay_no_seed words c.in-Some-Gen.seed replays (gen_at words c.in-Some-Gen.field-0 c.in-Some-Gen.seed c.in-Some-Gen.field-0-is c.in-Some-Gen.ensures))

pub returns-in-Some-Gen-clause-replayed : goal.returns-in-Some-Gen-clause-replayed
returns-in-Some-Gen-clause-replayed g c = let words = map (string_bytes {Z = Global}) c.args.words.now in λ replays. absurd (replay_no_seed words c.in-Some-Gen.seed replays (gen_at words c.in-Some-Gen.field-0 c.in-Some-Gen.seed c.in-Some-Gen.field-0-is c.in-Some-Gen.ensures))

pub returns-in-Some-Gen-clause-replayed_part : goal.returns-in-Some-Gen-clause-replayed_part
returns-in-Some-Gen-clause-replayed_part g c = let words = map (string_bytes {Z = Global}) c.args.words.now in λ replays. absurd (replay_no_seed words c.in-Some-Gen.seed replays (gen_at words c.in-Some-Gen.field-0 c.in-Some-Gen.seed c.in-Some-Gen.field-0-is c.in-Some-Gen.ensures))

pub returns-in-Some-Serial-clause-not_causal : goal.returns-in-Some-Serial-clause-not_causal
returns-in-Some-Serial-clause-not_causal g c = λ actor entry is. absurd (c.play_input.ensures.causal actor entry is)

pub returns-in-Some-Check-clause-not_causal : goal.returns-in-Some-Check-clause-not_causal
returns-in-Some-Check-clause-not_causal g c = λ actor entry is. absurd (c.judge_input.ensures.causal actor entry is)

pub returns-in-Some-Rewrite-clause-not_causal : goal.returns-in-Some-Rewrite-clause-not_causal
returns-in-Some-Rewrite-clause-not_causal g c = λ actor entry is. absurd (c.rewrite_input.ensures.causal actor entry is)

pub returns-in-Some-Gen-clause-not_causal : goal.returns-in-Some-Gen-clause-not_causal
returns-in-Some-Gen-clause-not_causal g c = λ actor entry is. absurd (subst (λ (status : Status). IsEndOfGen status) is c.write_script.ensures.end)

pub returns-in-Some-Replay-clause-bad_words : goal.returns-in-Some-Replay-clause-bad_words
returns-in-Some-Replay-clause-bad_words g c =
    let words = map (string_bytes {Z = Global}) c.args.words.now in
    let chosen = ap (λ (command : Command). some_command command) (sym c.in-Some-Replay.field-0-is) ∙ c.in-Some-Replay.ensures in
    (λ is. absurd (c.replay_input.ensures.words is), λ none. absurd (true≢false (sym (some_is words Replay chosen) ∙ none)))

pub returns-in-Some-Replay-clause-unread : goal.returns-in-Some-Replay-clause-unread
returns-in-Some-Replay-clause-unread g c = λ is. absurd (c.replay_input.ensures.words is)

pub returns-in-Some-Replay-clause-silent : goal.returns-in-Some-Replay-clause-silent
returns-in-Some-Replay-clause-silent g c = unwritten_silent c.replay_input.result _ c.replay_input.ensures.silent

pub returns-in-Some-Replay-clause-bad_script : goal.returns-in-Some-Replay-clause-bad_script
returns-in-Some-Replay-clause-bad_script g c = let words = map (string_bytes {Z = Global}) c.args.words.now in λ serial. absurd (serial_no_replay words serial (replay_at words c.in-Some-Replay.field-0 c.in-Some-Replay.field-0-is c.in-Some-Replay.ensures))

pub returns-in-Some-Replay-clause-over_limit : goal.returns-in-Some-Replay-clause-over_limit
returns-in-Some-Replay-clause-over_limit g c = let words = map (string_bytes {Z = Global}) c.args.words.now in λ serial. absurd (serial_no_replay words serial (replay_at words c.in-Some-Replay.field-0 c.in-Some-Replay.field-0-is c.in-Some-Replay.ensures))

pub returns-in-Some-Replay-clause-accepted : goal.returns-in-Some-Replay-clause-accepted
returns-in-Some-Replay-clause-accepted g c = let words = map (string_bytes {Z = Global}) c.args.words.now in λ serial. absurd (serial_no_replay words serial (replay_at words c.in-Some-Replay.field-0 c.in-Some-Replay.field-0-is c.in-Some-Replay.ensures))

pub returns-in-Some-Replay-clause-ok : goal.returns-in-Some-Replay-clause-ok
returns-in-Some-Replay-clause-ok g c = let words = map (string_bytes {Z = Global}) c.args.words.now in λ serial. absurd (serial_no_replay words serial (replay_at words c.in-Some-Replay.field-0 c.in-Some-Replay.field-0-is c.in-Some-Replay.ensures))

pub returns-in-Some-Replay-clause-part : goal.returns-in-Some-Replay-clause-part
returns-in-Some-Replay-clause-part g c = let words = map (string_bytes {Z = Global}) c.args.words.now in λ serial. absurd (serial_no_replay words serial (replay_at words c.in-Some-Replay.field-0 c.in-Some-Replay.field-0-is c.in-Some-Replay.ensures))

pub returns-in-Some-Replay-clause-bad_script_part : goal.returns-in-Some-Replay-clause-bad_script_part
returns-in-Some-Replay-clause-bad_script_part g c = let words = map (string_bytes {Z = Global}) c.args.words.now in λ check. absurd (check_no_replay words check (replay_at words c.in-Some-Replay.field-0 c.in-Some-Replay.field-0-is c.in-Some-Replay.ensures))

pub returns-in-Some-Replay-clause-over_limit_part : goal.returns-in-Some-Replay-clause-over_limit_part
returns-in-Some-Replay-clause-over_limit_part g c = let words = map (string_bytes {Z = Global}) c.args.words.now in λ check. absurd (check_no_replay words check (replay_at words c.in-Some-Replay.field-0 c.in-Some-Replay.field-0-is c.in-Some-Replay.ensures))

pub returns-in-Some-Replay-clause-bad_log : goal.returns-in-Some-Replay-clause-bad_log
returns-in-Some-Replay-clause-bad_log g c = let words = map (string_bytes {Z = Global}) c.args.words.now in λ check. absurd (check_no_replay words check (replay_at words c.in-Some-Replay.field-0 c.in-Some-Replay.field-0-is c.in-Some-Replay.ensures))

pub returns-in-Some-Replay-clause-fitting_script : goal.returns-in-Some-Replay-clause-fitting_script
returns-in-Some-Replay-clause-fitting_script g c = let words = map (string_bytes {Z = Global}) c.args.words.now in λ check. absurd (check_no_replay words check (replay_at words c.in-Some-Replay.field-0 c.in-Some-Replay.field-0-is c.in-Some-Replay.ensures))

pub returns-in-Some-Replay-clause-legal : goal.returns-in-Some-Replay-clause-legal
returns-in-Some-Replay-clause-legal g c = let words = map (string_bytes {Z = Global}) c.args.words.now in λ check. absurd (check_no_replay words check (replay_at words c.in-Some-Replay.field-0 c.in-Some-Replay.field-0-is c.in-Some-Replay.ensures))

pub returns-in-Some-Replay-clause-verdict_part : goal.returns-in-Some-Replay-clause-verdict_part
returns-in-Some-Replay-clause-verdict_part g c = let words = map (string_bytes {Z = Global}) c.args.words.now in λ check. absurd (check_no_replay words check (replay_at words c.in-Some-Replay.field-0 c.in-Some-Replay.field-0-is c.in-Some-Replay.ensures))

pub returns-in-Some-Replay-clause-rewrite_bad_script : goal.returns-in-Some-Replay-clause-rewrite_bad_script
returns-in-Some-Replay-clause-rewrite_bad_script g c = let words = map (string_bytes {Z = Global}) c.args.words.now in λ rewrites. absurd (rewrite_no_replay words rewrites (replay_at words c.in-Some-Replay.field-0 c.in-Some-Replay.field-0-is c.in-Some-Replay.ensures))

pub returns-in-Some-Replay-clause-rewrite_over_limit : goal.returns-in-Some-Replay-clause-rewrite_over_limit
returns-in-Some-Replay-clause-rewrite_over_limit g c = let words = map (string_bytes {Z = Global}) c.args.words.now in λ rewrites. absurd (rewrite_no_replay words rewrites (replay_at words c.in-Some-Replay.field-0 c.in-Some-Replay.field-0-is c.in-Some-Replay.ensures))

pub returns-in-Some-Replay-clause-rewrite_bad_log : goal.returns-in-Some-Replay-clause-rewrite_bad_log
returns-in-Some-Replay-clause-rewrite_bad_log g c = let words = map (string_bytes {Z = Global}) c.args.words.now in λ rewrites. absurd (rewrite_no_replay words rewrites (replay_at words c.in-Some-Replay.field-0 c.in-Some-Replay.field-0-is c.in-Some-Replay.ensures))

pub returns-in-Some-Replay-clause-rewrite_fitting : goal.returns-in-Some-Replay-clause-rewrite_fitting
returns-in-Some-Replay-clause-rewrite_fitting g c = let words = map (string_bytes {Z = Global}) c.args.words.now in λ rewrites. absurd (rewrite_no_replay words rewrites (replay_at words c.in-Some-Replay.field-0 c.in-Some-Replay.field-0-is c.in-Some-Replay.ensures))

pub returns-in-Some-Replay-clause-rewritten : goal.returns-in-Some-Replay-clause-rewritten
returns-in-Some-Replay-clause-rewritten g c = let words = map (string_bytes {Z = Global}) c.args.words.now in λ rewrites. absurd (rewrite_no_replay words rewrites (replay_at words c.in-Some-Replay.field-0 c.in-Some-Replay.field-0-is c.in-Some-Replay.ensures))

pub returns-in-Some-Replay-clause-rewritten_part : goal.returns-in-Some-Replay-clause-rewritten_part
returns-in-Some-Replay-clause-rewritten_part g c = let words = map (string_bytes {Z = Global}) c.args.words.now in λ rewrites. absurd (rewrite_no_replay words rewrites (replay_at words c.in-Some-Replay.field-0 c.in-Some-Replay.field-0-is c.in-Some-Replay.ensures))

pub returns-in-Some-Replay-clause-bad_log_only : goal.returns-in-Some-Replay-clause-bad_log_only
returns-in-Some-Replay-clause-bad_log_only g c = let words = map (string_bytes {Z = Global}) c.args.words.now in λ line is. inr (inr (replay_at words c.in-Some-Replay.field-0 c.in-Some-Replay.field-0-is c.in-Some-Replay.ensures))

pub returns-in-Some-Replay-clause-fitting : goal.returns-in-Some-Replay-clause-fitting
returns-in-Some-Replay-clause-fitting g c = λ text left checked. c.replay_input.ensures.fitting text left checked

pub returns-in-Some-Replay-clause-replay_fitting : goal.returns-in-Some-Replay-clause-replay_fitting
returns-in-Some-Replay-clause-replay_fitting g c = λ replays text left checked. c.replay_input.ensures.fitting_script text left checked

pub returns-in-Some-Replay-clause-not_legal : goal.returns-in-Some-Replay-clause-not_legal
returns-in-Some-Replay-clause-not_legal g c =
    let words = map (string_bytes {Z = Global}) c.args.words.now in
    λ rule actor is.
    let told = c.replay_input.ensures.not_legal rule actor is in
    let same = subst (λ (status : Status). OnUnwritten status (c.replay_input.new.sink ≡ c.args.sink.now)) is c.replay_input.ensures.silent in
    let kept = subst (λ (told : Option (List ℕ)). Kept (g.K.Sink.written c.args.sink.now) told) (sym (ap g.K.Sink.written same)) (kept_same (g.K.Sink.written c.args.sink.now)) in
    (told.0, told.1, told.2, told.3, inr (replay_at words c.in-Some-Replay.field-0 c.in-Some-Replay.field-0-is c.in-Some-Replay.ensures, kept))

pub returns-in-Some-Replay-clause-not_causal : goal.returns-in-Some-Replay-clause-not_causal
returns-in-Some-Replay-clause-not_causal g c = let words = map (string_bytes {Z = Global}) c.args.words.now in λ actor entry is. let told = c.replay_input.ensures.not_causal actor entry is in (replay_at words c.in-Some-Replay.field-0 c.in-Some-Replay.field-0-is c.in-Some-Replay.ensures, told.0, told.1, told.2)

pub returns-in-Some-Replay-clause-seed_only : goal.returns-in-Some-Replay-clause-seed_only
returns-in-Some-Replay-clause-seed_only g c = let words = map (string_bytes {Z = Global}) c.args.words.now in λ seed is. absurd (replay_no_seed words seed (replay_at words c.in-Some-Replay.field-0 c.in-Some-Replay.field-0-is c.in-Some-Replay.ensures) is)

pub returns-in-Some-Replay-clause-seed_ok : goal.returns-in-Some-Replay-clause-seed_ok
returns-in-Some-Replay-clause-seed_ok g c = let words = map (string_bytes {Z = Global}) c.args.words.now in λ seed is. absurd (replay_no_seed words seed (replay_at words c.in-Some-Replay.field-0 c.in-Some-Replay.field-0-is c.in-Some-Replay.ensures) is)

pub returns-in-Some-Replay-clause-seed_part : goal.returns-in-Some-Replay-clause-seed_part
returns-in-Some-Replay-clause-seed_part g c = let words = map (string_bytes {Z = Global}) c.args.words.now in λ seed is. absurd (replay_no_seed words seed (replay_at words c.in-Some-Replay.field-0 c.in-Some-Replay.field-0-is c.in-Some-Replay.ensures) is)

pub returns-in-Some-Replay-clause-promises : goal.returns-in-Some-Replay-clause-promises
returns-in-Some-Replay-clause-promises g c = λ text log l. c.logs_of_serial_are_lawful.ensures _ _ text log l
