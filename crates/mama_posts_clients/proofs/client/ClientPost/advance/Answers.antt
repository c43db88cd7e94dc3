use Rattle.std.proofs.Common.{◌∙◌, ap, refl}
use Rattle.std.proofs.lemmas.Bool.{both_ways}
use Rattle.mama_posts_clients.specs.Client.{ClientPostValue}
use Rattle.mama_posts_clients.proofs.ClientLemmas.{made_left}
use Rattle.mama_posts_clients.proofs.client.ClientPost.advance.Goals as goal

pub returns-then-not-self-clause-moved : goal.returns-then-not-self-clause-moved
returns-then-not-self-clause-moved g c = λ is.
    made_left c.args.script.now c.args.number c.args.moment c.args.self.now c.args.self.now
    (λ none. both_ways c.self.inside.clear c.if-not-self.true (c.self.invariant.1 (ap (λ (v : ClientPostValue). v.left) c.self.view_is ∙ none))) refl
