use Rattle.std.proofs.lemmas.Result.{IfOk-weaker}
use Rattle.mama_close.specs.Made.{IsMade, IsClosed}
use Rattle.mama_close.proofs.closing.close_apart.Goals as goal

pub close_lanes-requires : goal.close_lanes-requires
close_lanes-requires g c = c.requires

pub returns : goal.returns
returns g c =
    let left = c.in_ok-left.left in
    let is = c.in_ok-left.ensures in
    let objects = c.args.parts.plans in
    let images = c.args.images.items in
    let groups = c.args.groups.items in
    IfOk-weaker c.in_record.result (λ r. IsMade objects left images groups r.0 r.1.items) (λ r. IsClosed objects c.args.apart images groups r.0 r.1.items)
    (λ r m. record {
      left = left;
      edges = is.edges;
      moments = is.moments;
      entries = is.entries;
      bridge = is.bridge;
      timers = is.timers;
      events = is.events;
      calls = is.calls;
      listeners = is.listeners;
      noted = is.noted;
      made = m;
    })
    c.in_record.ensures
