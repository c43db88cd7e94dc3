-- Over a plain link the strategy makes of what was sent just the messages from the first image on.
use Rattle.std.specs.List.{flat_map}
use Rattle.std.proofs.Common.{◌≡◌, ◌+◌, List, [], ◌∷◌, ◌++◌, refl, ◌∙◌, ap}
use Rattle.mama_link.specs.Link.{through}
use Rattle.mama_link.specs.declared.faults.FaultRow.{FaultRow}
use Rattle.mama_link.proofs.LawLemmas.{passes_all}
use Rattle.mama_event.specs.Arrival.{arriving, cut_arrival}
use Rattle.mama_event.specs.declared.market.MarketMsg.{MarketMsg}
use Rattle.mama_event.specs.declared.market.SubKind.{SubKind}
use Rattle.mama_event.specs.declared.market.SubKind.TheVariants.{Market}
use Rattle.mama_event.specs.declared.callback.Callback.{Callback}
use Rattle.mama_dq.specs.Context.{ContextData, new_context}
use Rattle.mama_dq.specs.Strategy.{callbacks_of, after, calls_after}
use Rattle.mama_dq.proofs.OrderlyLaw.{orderly_law}
use Rattle.mama_rules_services.specs.Bridge.{heard, window}
use Rattle.mama_laws_genuine.proofs.Ordered.{windows_are_in_order}
use Rattle.mama_laws_genuine.proofs.CalmLinks.{plain}
use Rattle.mama_laws_callbacks.specs.Told.{told_from, tells}
use Rattle.mama_laws_callbacks.specs.Laws.{LegalRecordsTellPlainly}

-- messages of which none is cut are told as the strategy calls them back
told_plain : (c : ContextData) (messages : List MarketMsg) → told_from c (arriving messages) ≡ flat_map (λ (calls : List Callback). calls) (calls_after c messages)
told_plain c [] = refl
told_plain c (m ∷ messages) = ap (λ (cs : List Callback). callbacks_of c m ++ cs) (told_plain (after c m) messages)

pub legal_records_tell_plainly : LegalRecordsTellPlainly
legal_records_tell_plainly script run orderly is s link market =
    let sent : List MarketMsg = window script.shape s (heard script.shape run.bridge) in
    let it = plain script run orderly is s link in
    let ordered = windows_are_in_order script run is.shaped is.edges s link.terms it.place it.came.joined it.publisher it.fed in
    record {
      joined = it.said;
      whole = ap (λ (rows : List FaultRow). tells script.shape.strategy link.terms.kind link.terms.cache (through cut_arrival rows (arriving sent))) link.faultless
          ∙ ap (tells script.shape.strategy link.terms.kind link.terms.cache) (passes_all cut_arrival (arriving sent))
          ∙ ap (λ (kind : SubKind). tells script.shape.strategy kind link.terms.cache (arriving sent)) market
          ∙ told_plain (new_context script.shape.strategy Market link.terms.cache) sent
          ∙ (orderly_law script.shape.strategy link.terms.cache (it.place + 1) ordered.0 sent ordered.1).calls;
    }
