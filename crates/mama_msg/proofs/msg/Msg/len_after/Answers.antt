-- The message grows by the update's new keys.
use Rattle.mama_msg.proofs.Applying.{len_applied}
use Rattle.mama_msg.proofs.msg.Msg.len_after.Goals as goal

pub returns : goal.returns
returns c =
    len_applied c.args.self.now c.args.other.now c.fields.result.now c.fields-2.result.now c.len.result c.new_keys.result
    c.len.ensures.value c.new_keys.ensures.value c.fields.ensures.value c.fields-2.ensures.value
