use Rattle.std.proofs.Common.{◌≡◌, ◌+◌, ◌<◌, map, take, length, refl, arith}
use Rattle.mama_script.specs.Tree.{topic_of_part}
use Rattle.mama_script.proofs.SenderTable.{no_first, firsts_len, part_small, sender_noted}
use Rattle.mama_script.proofs.tree.first_senders.Goals as goal

pub loop-number-init : goal.loop-number-init
loop-number-init c = no_first c.args.topics c.in_ok-first.first.items (c.in_ok-first.ensures.items_if_clones_equal (λ y h. h))

pub note_sender-requires : goal.note_sender-requires
note_sender-requires c =
    let n = c.args.topics in
    let i = c.loop-number.number in
    let ps = c.args.publishers.now in
    let len : length c.loop-number.first.items ≡ n = firsts_len n (map topic_of_part (take i ps)) c.loop-number.first.items c.loop-number.invariant in
    let small : c.index-publishers-number.result.topic < n = part_small n i ps c.index-publishers-number.result c.loop-number-test.true c.index-publishers-number.is c.requires.within in
    omega (arith, len, small)

pub loop-number-preserved : goal.loop-number-preserved
loop-number-preserved c =
    let n = c.args.topics in
    let i = c.loop-number.number in
    let ps = c.args.publishers.now in
    let p = c.index-publishers-number.result in
    let small : p.topic < n = part_small n i ps p c.loop-number-test.true c.index-publishers-number.is c.requires.within in
    sender_noted n i (i + 1) p.topic ps p c.loop-number.first.items c.note_sender.new.first.items c.loop-number-test.true c.index-publishers-number.is refl small refl
    c.loop-number.invariant c.note_sender.ensures
