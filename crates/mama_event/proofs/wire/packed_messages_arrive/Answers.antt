use Rattle.mama_event.proofs.WireLemmas.{whole_arrives, whole_reply_arrives, cut_arrives, cut_reply_arrives}
use Rattle.mama_event.proofs.wire.packed_messages_arrive.Goals as goal

pub returns-clause-whole : goal.returns-clause-whole
returns-clause-whole c = whole_arrives c.packets_are_read.ensures.read c.packets_are_read.ensures.whole c.cut_packets_are_truncated.ensures

pub returns-clause-cut : goal.returns-clause-cut
returns-clause-cut c = cut_arrives c.packets_are_read.ensures.read c.packets_are_read.ensures.whole c.cut_packets_are_truncated.ensures

pub returns-clause-whole_replies : goal.returns-clause-whole_replies
returns-clause-whole_replies c = whole_reply_arrives c.packets_are_read.ensures.read c.packets_are_read.ensures.whole c.cut_packets_are_truncated.ensures

pub returns-clause-cut_replies : goal.returns-clause-cut_replies
returns-clause-cut_replies c = cut_reply_arrives c.packets_are_read.ensures.read c.packets_are_read.ensures.whole c.cut_packets_are_truncated.ensures
