use Rattle.mama_words.proofs.FieldLaws.{field_found, field_again, message_found, message_again}
use Rattle.mama_words.proofs.laws.fields_are_spelled.Goals as goal

pub returns : goal.returns
returns c = record { found = field_found; again = field_again; message_found = message_found; message_again = message_again }
