use Rattle.std.specs.List.{flat_map}
use Rattle.std.proofs.Common.{◌≡◌, ◌∙◌, ℕ, ap, refl, sym, List, length, map, subst, arith}
use Rattle.std.proofs.lemmas.Result.{IfOk-weaker}
use Rattle.mama_journal.specs.Journal.{numbers_below}
use Rattle.mama_event.specs.Listener.{told}
use Rattle.mama_plans.specs.Numbered.{lists_put}
use Rattle.mama_script.specs.Script.{ScriptData}
use Rattle.mama_rules_rounds.specs.Client.{Planned}
use Rattle.mama_rules_legal.specs.Legal.{IsLegal}
use Rattle.mama_crew.specs.Hall.{HallValue}
use Rattle.mama_close.specs.Back.{AreBack}
use Rattle.mama_gather.specs.Left.{noted_by, none_noted}
use Rattle.mama_close.specs.Kinds.{Kinds, record_of}
use Rattle.mama_close.specs.InKinds.{kinds_in}
use Rattle.mama_close.specs.Made.{IsClosed}
use Rattle.mama_close.proofs.Ends.{belong_to, closed_of, queues_keep, queues_numbered}
use Rattle.mama_close.proofs.Gathering.{legal_record}
use Rattle.mama_close.proofs.Noted.{noted_whole}
use Rattle.mama_close.proofs.Whole.{made_is, back_is}
use Rattle.mama_close.proofs.closing.close_parts.Goals as goal

pub of-requires : goal.of-requires
of-requires g c =
    let p = c.args.parts in
    let hall : HallValue = record { objects = p.plans; to_bridge = p.to_bridge; to_timers = p.to_timers; to_publishers = p.to_publishers.items; to_queues = p.to_queues.items } in
    let kinds : Kinds = kinds_in c.args.seats in
    let count : length c.watches-watches.result.now ≡ length c.args.script.now.watches = ap length c.watches-watches.ensures in
    let few = c.tell_laws.ensures.orderly.within.watches_few in
    record {
      numbers = queues_numbered c.args.script.now hall kinds c.requires.crew;
      keeps = queues_keep c.args.script.now hall kinds c.requires.crew p.plans refl;
      few = omega (arith, count, few);
    }

pub close_apart-requires : goal.close_apart-requires
close_apart-requires g c =
    let p = c.args.parts in
    let hall : HallValue = record { objects = p.plans; to_bridge = p.to_bridge; to_timers = p.to_timers; to_publishers = p.to_publishers.items; to_queues = p.to_queues.items } in
    belong_to c.args.script.now hall (kinds_in c.args.seats) c.requires.crew c.in_ok-apart.apart c.in_ok-apart.ensures.parts

pub returns : goal.returns
returns g c =
    let script : ScriptData = c.args.script.now in
    let p = c.args.parts in
    let hall : HallValue = record { objects = p.plans; to_bridge = p.to_bridge; to_timers = p.to_timers; to_publishers = p.to_publishers.items; to_queues = p.to_queues.items } in
    let objects : List Planned = p.plans in
    let kinds : Kinds = kinds_in c.args.seats in
    let view = told g.L.Tagged.tagged g.L.Listener.calls g.L.Listener.heard g.L.Listener.given g.L.Listener.plan in
    let crew = c.requires.crew in
    let apart = c.in_ok-apart.apart in
    let found = c.in_ok-apart.ensures in
    let tells = c.tell_laws.ensures in
    let images = c.args.images.items in
    let groups = c.args.groups.items in
    let count : length c.watches-watches.result.now ≡ length script.watches = ap length c.watches-watches.ensures in
    let noted = noted_whole script hall kinds crew apart.queues.noted.items
    (found.noted ∙ ap (λ (n : ℕ). lists_put (flat_map noted_by kinds.queues) (map none_noted (numbers_below n))) count) in
    record {
      record_is = IfOk-weaker c.close_apart.result (λ r. IsClosed objects apart images groups r.0 r.1.items) (λ r. r.0 ≡ record_of script kinds)
          (λ r m. made_is script objects kinds apart found.parts crew.hall_is.objects m.left images m.moments m.entries m.bridge m.timers m.events m.calls found.calls c.requires.images groups c.requires.groups m.noted noted r.0 r.1.items m.made) c.close_apart.ensures;
      legal = IfOk-weaker c.close_apart.result (λ r. IsClosed objects apart images groups r.0 r.1.items) (λ r. IsLegal script r.0)
          (λ r m. subst (IsLegal script)
          (sym (made_is script objects kinds apart found.parts crew.hall_is.objects m.left images m.moments m.entries m.bridge m.timers m.events m.calls found.calls c.requires.images groups c.requires.groups m.noted noted r.0 r.1.items m.made))
          (legal_record script hall kinds crew (closed_of kinds apart found.parts m.edges) tells.orderly tells.own tells.bridges tells.services tells.lines tells.legal)) c.close_apart.ensures;
      listeners = IfOk-weaker c.close_apart.result (λ r. IsClosed objects apart images groups r.0 r.1.items) (λ r. AreBack view r.0.calls r.1.items)
          (λ r m. back_is view objects kinds apart m.left images groups m.calls m.listeners found.calls found.listeners r.0 r.1.items m.made) c.close_apart.ensures;
    }
