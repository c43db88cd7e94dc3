use Rattle.std.proofs.lemmas.List.{length-set}
use Rattle.std.proofs.Common.{Some}
use Rattle.mama_group.specs.Listener.{told}
use Rattle.mama_grouped.proofs.Gathered.{found_put}
use Rattle.mama_grouped.proofs.heard.put_listener.Goals as goal

pub returns-then-place-len-clause-listeners : goal.returns-then-place-len-clause-listeners
returns-then-place-len-clause-listeners g c = λ by heard were.
    found_put (told g.H.GroupListener.tagged g.H.GroupListener.calls g.H.GroupListener.heard) by c.args.listeners.now.items c.args.number c.args.listener heard were

pub returns-then-place-len-clause-long : goal.returns-then-place-len-clause-long
returns-then-place-len-clause-long g c = length-set c.args.listeners.now.items c.args.number (Some c.args.listener)

pub returns-else-place-len-clause-listeners : goal.returns-else-place-len-clause-listeners
returns-else-place-len-clause-listeners g c = λ by heard were. were
