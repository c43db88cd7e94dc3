use Rattle.mama_drive.proofs.LawfulLemmas.{lawful_serve}
use Rattle.mama_drive.proofs.laws.lawful_runs_serve.Goals as goal

pub returns : goal.returns
returns c = lawful_serve c.lawful_may_come.ensures.entry c.lawful_clients_get_lawful_streams.ensures c.lawful_clients_get_lawful_streams-2.ensures
