use Rattle.std.proofs.Common.{◌≡◌, ◌++◌, map, drop}
use Rattle.std.specs.Option.{option_map}
use Rattle.mama_script.specs.Form.{subs_in}
use Rattle.mama_script.proofs.form.read_subs.Given as goal

abbrev pub invariant-loop-word : goal.invariant-loop-word
invariant-loop-word l = subs_in (map (λ w. w.now) l.words) ≡ option_map (λ ids. l.ids.items ++ ids) (subs_in (map (λ w. w.now) (drop l.word-index l.words)))
