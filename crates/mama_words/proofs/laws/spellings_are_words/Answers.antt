use Rattle.std.proofs.Common.{refl}
use Rattle.mama_words.proofs.Spellings.{decimal_word, quoted_word, sub_kind_word, msg_kind_word, quality_word, strategy_word, group_state_word, id_word, field_words, fields_row, order_word, order_sentence}
use Rattle.mama_words.proofs.laws.spellings_are_words.Goals as goal

pub returns : goal.returns
returns c = record {
  number = decimal_word;
  text = quoted_word;
  sub_kind = sub_kind_word;
  msg_kind = msg_kind_word;
  quality = quality_word;
  strategy = strategy_word;
  group_state = group_state_word;
  sub_id = λ id fits. id_word 115 id refl fits;
  timer_id = λ id fits. id_word 116 id refl fits;
  inbox_id = λ id fits. id_word 105 id refl fits;
  message = λ nums fs is. field_words nums fs is.fields;
  message_row = fields_row;
  order = order_word;
  order_row = order_sentence;
}
