use Rattle.std.proofs.Common.{Bool, true, ◌&&◌, not, set, ap, sym, ◌∙◌}
use Rattle.std.specs.List.{list_all}
use Rattle.mama_journal.specs.Journal.{turns}
use Rattle.mama_rules_services.specs.Ports.{timers_putter}
use Rattle.mama_rules_services.specs.Timers.{heard, put_by, has_ending, client_done}
use Rattle.mama_timer.specs.Service.{Service}
use Rattle.mama_timer.proofs.Words.{client_length, client_turns}
use Rattle.mama_timer.proofs.table.Table.ends_with_client.Goals as goal

pub is_full_with-full-requires : goal.is_full_with-full-requires
is_full_with-full-requires c =
    let i = c.self.inside in
    client_length i.shape i.journal.items c.args.port c.args.note i.clock i.timers.entries i.dues.keys i.slots i.clients_done i.bridge_done i.queues_done c.self.invariant c.args.client
    (ap (λ (s : Service). put_by (timers_putter s.shape c.args.port) c.args.note) c.self.view_is ∙ c.requires)

pub returns : goal.returns
returns c =
    let i = c.self.inside in
    c.newly.ensures ∙ ap (λ (b : Bool). b && not c.has_ended-had.result) (c.both.ensures ∙ ap (λ (b : Bool). b && i.bridge_done) c.is_full_with-full.ensures)
    ∙ ap (λ (b : Bool). (list_all (λ b. b) (set i.clients_done c.args.client true) && i.bridge_done) && not b) (c.has_ended-had.ensures ∙ sym (ap (λ (s : Service). has_ending s.shape (heard s.shape s.journal)) c.self.view_is))
    ∙ client_turns i.shape i.journal.items c.args.port c.args.note i.clock i.timers.entries i.dues.keys i.slots i.clients_done i.bridge_done i.queues_done c.self.invariant c.args.client
    (ap (λ (s : Service). put_by (timers_putter s.shape c.args.port) c.args.note) c.self.view_is ∙ c.requires)
    ∙ ap (λ (s : Service). turns (has_ending s.shape) (heard s.shape s.journal) (client_done c.args.client)) c.self.view_is
