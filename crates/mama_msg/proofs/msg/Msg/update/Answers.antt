-- Keys stay distinct.
use Rattle.mama_msg.specs.Shared.{fields_of}
use Rattle.mama_msg.proofs.DistinctKeys.{distinct_put}
use Rattle.mama_msg.proofs.msg.Msg.update.Goals as goal

pub invariant_of-self : goal.invariant_of-self
invariant_of-self c =
    distinct_put c.put_field.result (fields_of c.self.inside.body) (fields_of c.put_field.new.body) c.args.field c.put_field.ensures.ok c.put_field.ensures.err c.self.invariant
