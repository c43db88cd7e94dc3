use Rattle.mama_pool.proofs.share.take_or_look.Goals as goal

pub returns-in-Err-clause-looked : goal.returns-in-Err-clause-looked
returns-in-Err-clause-looked g c = let e = c.in-Err.ensures in record { taken = c.in-Err._taken; same = e.looked; learnt = e.learnt; known = e.known }
