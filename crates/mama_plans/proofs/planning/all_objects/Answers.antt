use Rattle.std.proofs.Common.{arith, sym, subst}
use Rattle.mama_plans.specs.Room.{MakesFew}
use Rattle.mama_plans.proofs.RoomLemmas.{client_makes_few}
use Rattle.mama_plans.proofs.planning.all_objects.Goals as goal

pub add_client-requires : goal.add_client-requires
add_client-requires c =
    subst MakesFew (sym c.as_slice.ensures) (client_makes_few c.args.clients.now c.loop-number.number c.index-clients-number.result (omega arith) c.index-clients-number.is c.requires.few)
