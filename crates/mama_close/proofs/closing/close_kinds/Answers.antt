use Rattle.std.proofs.Common.{refl, sym, ◌∙◌, ap, map, List, ℕ, subst}
use Rattle.std.specs.List.{All, flat_map}
use Rattle.mama_plans.specs.Orders.{orders_in}
use Rattle.mama_dispatch.specs.Hearing.{ArePlanned}
use Rattle.mama_posts_clients.specs.Queue.{QueuePostValue}
use Rattle.mama_crew.specs.Hall.{HallValue}
use Rattle.mama_gather.specs.Left.{events_by}
use Rattle.mama_close.specs.Kinds.{Kinds, AreKindsOf}
use Rattle.mama_close.specs.InKinds.{kinds_in}
use Rattle.mama_gather.specs.Places.{images_by}
use Rattle.mama_close.proofs.Ends.{queues_planned}
use Rattle.mama_close.proofs.closing.close_kinds.Goals as goal

pub all_images-requires : goal.all_images-requires
all_images-requires g c =
    let p = c.into_parts-parts.result in
    let hall : HallValue = record { objects = p.plans; to_bridge = p.to_bridge; to_timers = p.to_timers; to_publishers = p.to_publishers.items; to_queues = p.to_queues.items } in
    let kinds : Kinds = kinds_in c.args.seats in
    let crew : AreKindsOf c.args.script.now hall kinds = subst (λ (h : HallValue). AreKindsOf c.args.script.now h kinds) c.into_parts-parts.ensures c.requires.kinds in
    subst (All (λ (s : ℕ × QueuePostValue). ArePlanned (orders_in c.into_parts-parts.result.plans) s.1.served.seats)) (sym c.as_slice.ensures.value)
    (queues_planned c.args.script.now hall kinds crew c.into_parts-parts.result.plans refl)

pub close_parts-requires : goal.close_parts-requires
close_parts-requires g c =
    let p = c.into_parts-parts.result in
    let objects = p.plans in
    record {
      groups = c.requires.groups;
      crew = subst (λ (h : HallValue). AreKindsOf c.args.script.now h (kinds_in c.args.seats)) c.into_parts-parts.ensures c.requires.kinds;
      images = c.in_ok-images.ensures ∙ ap (λ (qs : List (ℕ × QueuePostValue)). flat_map (images_by objects (map events_by qs)) objects) c.as_slice.ensures.value;
    }

pub returns : goal.returns
returns g c = record {
  record_is = c.close_parts.ensures.record_is;
  legal = c.close_parts.ensures.legal;
  listeners = c.close_parts.ensures.listeners;
}
