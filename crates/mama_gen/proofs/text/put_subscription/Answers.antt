use Rattle.mama_gen.proofs.Written.{subscription_text}
use Rattle.mama_gen.proofs.text.put_subscription.Goals as goal

pub returns-clause-text : goal.returns-clause-text
returns-clause-text c =
    subscription_text c.args.topic c.args.draws.now _ _ c.args.out.now.items _ _ _ _ c.in_ok-put_terms.ensures c.in_ok-put_row.ensures.text c.in_ok-put_row.ensures.state c.in_ok-put_row-2.ensures.text c.in_ok-put_row-2.ensures.state c.in_ok-put_row-3.ensures.text
