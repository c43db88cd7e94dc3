use Rattle.std.proofs.Common.{◌∙◌, ap, sym, subst}
use Rattle.mama_seats.specs.Waiting.{waits}
use Rattle.mama_posts_clients.specs.Outlets.{after_puts, MayPut}
use Rattle.mama_posts_clients.specs.Client.{ClientPostValue}
use Rattle.mama_posts_clients.proofs.ClientLemmas.{client_may, put_seat}
use Rattle.mama_posts_clients.proofs.client.ClientPost.finish.Goals as goal

pub flush_dressed-put-requires-clause-lawful : goal.flush_dressed-put-requires-clause-lawful
flush_dressed-put-requires-clause-lawful g c =
    subst (λ (v : ClientPostValue). MayPut v.ports v.left) (sym c.self.view_is)
    (client_may c.args.script.now c.args._number c.args.self.now c.requires.seat c.shape-shape.ensures.script.shaped c.shape-shape.ensures.within c.client_puts_are_lawful.ensures)

pub returns-clause-seat : goal.returns-clause-seat
returns-clause-seat g c =
    put_seat c.args.script.now c.args._number c.args.self.now c.self.inside.state c.flush_dressed-put.new.ports (waits c.flush_dressed-put.new.left) c.requires.seat
    (ap (λ (v : ClientPostValue). v.walk) c.self.view_is) (c.flush_dressed-put.ensures.puts ∙ ap (λ (v : ClientPostValue). after_puts v.ports v.left) c.self.view_is)
