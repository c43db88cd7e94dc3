use Rattle.std.proofs.Common.{◌∙◌, ap, sym}
use Rattle.std.specs.Prelude.{nat_le, ◌||◌}
use Rattle.std.specs.List.{list_all}
use Rattle.mama_seats.specs.Stand.{Stand}
use Rattle.mama_seats.specs.Sender.{Sender}
use Rattle.mama_drive.proofs.RestLemmas.{can_rest_by}
use Rattle.mama_drive.proofs.system.System.can_rest.Goals as goal

pub returns : goal.returns
returns c = λ idle. can_rest_by _ c.args.self.now c.args.rounds c.self.view_is (c.is_quiet.ensures c.if-not-is_quiet.false)
    (sym (c.are_clients_idle.ensures ∙ ap (list_all (λ (s : Stand). s.over || nat_le c.args.rounds s.pause)) c.as_slice.ensures.value) ∙ c.if-not-are_clients_idle.false)
    (sym (c.are_publishers_idle.ensures ∙ ap (list_all (λ (s : Sender). s.over || nat_le c.args.rounds s.pause)) c.as_slice-2.ensures.value) ∙ idle)
