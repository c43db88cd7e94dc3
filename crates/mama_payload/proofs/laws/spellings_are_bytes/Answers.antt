use Rattle.mama_payload.proofs.Bytes.{spellings-are-bytes}
use Rattle.mama_payload.proofs.laws.spellings_are_bytes.Goals as goal

pub returns : goal.returns
returns c = spellings-are-bytes
