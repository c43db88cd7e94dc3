use Rattle.std.proofs.Common.{◌≡◌, map, take}
use Rattle.mama_words.specs.Id.{sub_word}
use Rattle.mama_script.proofs.tree.group_of.Given as goal

abbrev pub invariant-loop-id : goal.invariant-loop-id
invariant-loop-id l = map sub_word l.members.items ≡ take l.id-index l.ids
