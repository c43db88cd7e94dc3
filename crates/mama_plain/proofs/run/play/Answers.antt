use Rattle.std.proofs.Common.{subst}
use Rattle.mama_laws_logged.specs.Telling.{AreMoments}
use Rattle.mama_plain.proofs.PlayLemmas.{round_is_logged}
use Rattle.mama_plain.proofs.run.play.Goals as goal

pub returns-clause-logged : goal.returns-clause-logged
returns-clause-logged g c =
    round_is_logged c.args.script.now c.in_ok-played.played c.shape-shape.ensures.script c.shape-shape.ensures.within c.requires
    c.round_is_legal.ensures c.legal_records_are_formed.ensures c.legal_records_are_logged.ensures
    (subst AreMoments c.clients.ensures c.moments_fit.ensures) c.in_ok-played.ensures.rounds
