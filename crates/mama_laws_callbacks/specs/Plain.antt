-- believed: what a market subscription is told over a plain link: one without faults, from a topic that one publisher has.
use Rattle.std.specs.Prelude.{◌≡◌, map, Some}
use Rattle.mama_link.specs.Link.{through}
use Rattle.mama_event.specs.Arrival.{arriving, cut_arrival}
use Rattle.mama_event.specs.declared.ids.SubId.{SubId}
use Rattle.mama_event.specs.declared.market.SubKind.TheVariants.{Market}
use Rattle.mama_dq.specs.Orderly.{as_ok, from_first_image}
use Rattle.mama_rules_services.specs.Bridge.{heard, window}
use Rattle.mama_record.specs.RunData.{RunData}
use Rattle.mama_script.specs.Script.{ScriptData}
use Rattle.mama_rules_legal.specs.Streams.{terms_of}
use Rattle.mama_laws_genuine.specs.CalmLinks.{HasPlainLink}
use Rattle.mama_laws_callbacks.specs.Told.{tells}

-- The strategy makes of what its link lets through just the messages that were sent into it from the first image on, each
-- called back once and as ok.
pub record IsToldPlainly (script : ScriptData) (run : RunData) (s : SubId) (link : HasPlainLink script s) : Type 0 where
  pub joined : terms_of script run s ≡ Some link.terms
  pub whole : tells script.shape.strategy link.terms.kind link.terms.cache (through cut_arrival link.terms.faults (arriving (window script.shape s (heard script.shape run.bridge))))
      ≡ map as_ok (from_first_image (window script.shape s (heard script.shape run.bridge)))

-- so it is with each market subscription that has a plain link
abbrev pub ArePlainlyTold : ScriptData → RunData → Type 0
ArePlainlyTold script run = (s : SubId) (link : HasPlainLink script s) → link.terms.kind ≡ Market → IsToldPlainly script run s link
