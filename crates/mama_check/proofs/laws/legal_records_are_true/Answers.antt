use Rattle.mama_check.proofs.VerdictLemmas.{legal_is_true}
use Rattle.mama_check.proofs.laws.legal_records_are_true.Goals as goal

pub returns : goal.returns
returns c =
    legal_is_true c.legal_records_have_streams.ensures c.legal_records_tell_all.ensures c.delivered_messages_are_sent.ensures c.given_messages_are_sent.ensures c.ok_images_are_records.ensures c.told_gaps_are_true.ensures
    c.legal_records_tell_plainly.ensures c.links_of_legal_records_are_calm.ensures c.updates_of_legal_records_are_given.ensures c.legal_groups_are_true.ensures c.legal_watches_are_true.ensures
