use Rattle.mama_words.proofs.KindLaws.{sub_kind_found, sub_kind_again, msg_kind_found, msg_kind_again, quality_found, quality_again, strategy_found, strategy_again, group_state_found, group_state_again}
use Rattle.mama_words.proofs.laws.kinds_are_spelled.Goals as goal

pub returns : goal.returns
returns c = record { sub_kind_found = sub_kind_found; sub_kind_again = sub_kind_again; msg_kind_found = msg_kind_found; msg_kind_again = msg_kind_again; quality_found = quality_found; quality_again = quality_again; strategy_found = strategy_found; strategy_again = strategy_again; group_state_found = group_state_found; group_state_again = group_state_again }
