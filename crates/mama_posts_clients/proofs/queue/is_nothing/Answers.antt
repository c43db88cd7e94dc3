use Rattle.std.proofs.Common.{◌≡◌, ◌++◌, map, append-nil, ap, sym, ◌∙◌}
use Rattle.mama_carry.specs.declared.carried.Carried.{Carried}
use Rattle.mama_dispatch.specs.Turns.{put_note}
use Rattle.mama_timeout.specs.Table.{event_puts}
use Rattle.mama_posts_clients.proofs.OutletLemmas.{none_of}
use Rattle.mama_posts_clients.proofs.queue.is_nothing.Goals as goal

pub returns-in-None : goal.returns-in-None
returns-in-None g c =
    let tagged = λ (e : Carried g.row.L.Denot g.L.Listener g.L.Tagged). g.L.Tagged.tagged e.listener in
    let items = c.args.out.now.items in
    let alone : map (put_note tagged) items ++ event_puts tagged c.args.wish.now ≡ map (put_note tagged) items =
    ap (λ w. map (put_note tagged) items ++ event_puts tagged w) c.in-None.is ∙ append-nil (map (put_note tagged) items) in (
      (λ is. alone ∙ ap (map (put_note tagged)) (c.is_empty.ensures.0 is)),
      (λ none. c.is_empty.ensures.1 (none_of (put_note tagged) items (sym alone ∙ none))),
    )
