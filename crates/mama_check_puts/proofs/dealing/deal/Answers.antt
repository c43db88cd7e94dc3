use Rattle.std.proofs.Common.{◌≤◌, ℕ, length, map, sym, subst, arith}
use Rattle.std.proofs.lemmas.List.{length-map}
use Rattle.mama_check_puts.proofs.Lists.{put_last, none_dealt}
use Rattle.mama_check_puts.proofs.dealing.deal.Goals as goal

pub returns-in_ok-push : goal.returns-in_ok-push
returns-in_ok-push g c =
    put_last (λ list. list.items) c.args.lists.now.items c.args.entry c.args.number c.args.note c.index_mut-list.result.now c.push.new.self
    (omega arith) c.index_mut-list.ensures.value c.in_ok-push.ensures.items

pub returns-else-number-len : goal.returns-else-number-len
returns-else-number-len g c =
    let past : length c.args.lists.now.items ≤ c.args.number = omega arith in
    none_dealt (map (λ list. list.items) c.args.lists.now.items) c.args.entry c.args.number c.args.note
    (subst (λ (m : ℕ). m ≤ c.args.number) (sym (length-map c.args.lists.now.items (λ list. list.items))) past)
