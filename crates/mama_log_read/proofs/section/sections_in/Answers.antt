use Rattle.std.proofs.Common.{◌≡◌, ℕ, length, ap, ◌<◌, ◌≤◌, ◌^◌, arith}
use Rattle.std.specs.Global.{Vec}
use Rattle.mama_event.specs.Ports.{queues_of}
use Rattle.mama_log_read.specs.declared.section.Section.{Section}
use Rattle.mama_log_read.proofs.Sections.{plain_of}
use Rattle.mama_log_read.proofs.section.sections_in.Goals as goal

pub returns-clause-plain : goal.returns-clause-plain
returns-clause-plain c =
    plain_of c.args.version c.shape-2.result.now.strategy c.args.script.now (length c.clients-clients.result.now) (length c.publishers-publishers.result.now) c.shape.result.now.bounds.queues c.args.objects.now (length c.groups-groups.result.now) (length c.watches-watches.result.now) (λ (v : Vec Section). v.items) c.list_sections.result c.shape.ensures.within
    (ap length c.clients-clients.ensures) (ap length c.publishers-publishers.ensures) (ap queues_of c.shape.ensures.value) (few c.shape.ensures.within.groups_few (ap length c.groups-groups.ensures)) (few c.shape.ensures.within.watches_few (ap length c.watches-watches.ensures)) c.list_sections.ensures
  where
    few : {m n : ℕ} → m ≤ 10000 → n ≡ m → n < 2 ^ 32
    few le e = omega (arith, le, e)
