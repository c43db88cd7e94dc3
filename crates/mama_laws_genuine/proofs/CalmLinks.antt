-- In a legal record a plain link on a topic with one publisher is calm.
use Rattle.std.specs.Prelude.{Some}
use Rattle.std.specs.List.{AllByRecursion, AllZip}
use Rattle.std.proofs.Common.{◌≡◌, ℕ, ◌<◌, ◌≤◌, List, [], length, map, refl, sym, ◌∙◌, subst, ⊎_elim}
use Rattle.std.proofs.lemmas.Bool.{cases_lt}
use Rattle.std.proofs.lemmas.List.{get_or_past}
use Rattle.mama_event.specs.Ports.{clients_of, queues_of}
use Rattle.mama_event.specs.declared.ids.SubId.{SubId}
use Rattle.mama_event.specs.declared.ids.ObjectId.{ObjectId}
use Rattle.mama_event.specs.declared.ids.ObjectId.TheVariants.{Sub, Timer, Inbox}
use Rattle.mama_event.specs.declared.callback.CallNote.{CallNote}
use Rattle.mama_event.specs.declared.to_bridge.SubTerms.{SubTerms}
use Rattle.mama_event.specs.declared.to_queue.QueueNote.{QueueNote}
use Rattle.mama_rules_services.specs.Bridge.{terms_in, leaves_sub}
use Rattle.mama_rules_queue.specs.Queue.{calls_of, deeds}
use Rattle.mama_script.specs.Script.{ScriptData}
use Rattle.mama_record.specs.RunData.{RunData}
use Rattle.mama_rules_rounds.specs.Client.{Planned}
use Rattle.mama_rules_rounds.specs.Setting.{orders_by}
use Rattle.mama_rules_rounds.specs.Sections.{setting_of}
use Rattle.mama_rules_rounds.specs.Told.{object_calls, noted}
use Rattle.mama_laws_legal.specs.Laws.{IsOrderly}
use Rattle.mama_rules_legal.specs.Streams.{terms_of}
use Rattle.mama_laws_legal.proofs.AllSent.{count_publishers}
use Rattle.mama_laws_legal.proofs.BegunByLines.{CameAndWent}
use Rattle.mama_laws_legal.proofs.SubJournals.{came_by_lines}
use Rattle.mama_rules_legal.specs.Legal.{IsLegal}
use Rattle.mama_laws_genuine.specs.Faultless.{IsCalm}
use Rattle.mama_laws_genuine.specs.Order.{IsFedBy}
use Rattle.mama_laws_genuine.specs.CalmLinks.{HasPlainLink, AreCalmFor, HasCalmCalls}
use Rattle.mama_laws_genuine.specs.Laws.{LegalLinksAreCalm}
use Rattle.mama_laws_genuine.proofs.Alone.{only, fed_alone}
use Rattle.mama_laws_genuine.proofs.Calm.{faultless_is_calm}
use Rattle.mama_laws_genuine.proofs.Joining.{of_client, same_terms}
use Rattle.mama_laws_genuine.proofs.Truths.{all_zipped}

module _ (script : ScriptData) (run : RunData) (orderly : IsOrderly script) (is : IsLegal script run) where
  -- a subscription with a plain link came and went, and one publisher fed it
  pub record IsPlain (s : SubId) (terms : SubTerms) : Type 0 where
    pub client : s.client < clients_of script.shape
    pub said : terms_of script run s ≡ Some terms
    pub came : CameAndWent script.shape (terms_in s) (leaves_sub s) run.bridge terms
    pub place : ℕ
    pub publisher : place < length script.publishers
    pub fed : IsFedBy script.shape s terms.topic place run.bridge

  pub plain : (s : SubId) (link : HasPlainLink script s) → IsPlain s link.terms
  plain s link =
      let found = only link.terms.topic script.shape.publisher_topics link.alone in
      let small : s.client < clients_of script.shape = subst (λ (n : ℕ). s.client < n) (sym orderly.shaped.clients) (of_client s script [] link.terms link.joined) in
      let said : terms_of script run s ≡ Some link.terms = same_terms s script run.clients s.client ∙ link.joined in
      record {
        client = small;
        said = said;
        came = came_by_lines script run orderly is.edges is.lines s link.terms small said;
        place = found.0;
        publisher = subst (λ (n : ℕ). found.0 < n) (count_publishers script orderly.shaped) found.1.known;
        fed = fed_alone script orderly.shaped run is.edges s link.terms.topic found.0 found.1 link.terms said refl;
      }

  abbrev pub calls_on : ObjectId → ℕ → List CallNote
  calls_on o queue = (object_calls (setting_of script) run.queues (record { object = o; queue = queue; plan = [] })).calls

  calm_sub : (s : SubId) (queue : ℕ) → HasPlainLink script s → AllByRecursion (λ (n : CallNote). IsCalm n.call) (calls_on (Sub s) queue)
  calm_sub s queue link =
      let it : IsPlain s link.terms = plain s link in
      ⊎_elim
      (λ there. faultless_is_calm script run is.shaped is.edges s link.terms it.place it.came.joined link.faultless
      it.publisher it.fed it.came.was it.came.dead (record { object = Sub s; queue = queue; plan = [] }) refl there)
      (λ past. subst (λ (journal : List (ℕ × QueueNote)). AllByRecursion (λ (n : CallNote). IsCalm n.call) (map noted (calls_of (Sub s) (deeds (orders_by (setting_of script)) journal))))
      (sym (get_or_past run.queues queue [] (subst (λ (n : ℕ). n ≤ queue) (sym is.shaped.queues) past))) tt)
      (cases_lt queue (queues_of script.shape))

  calm_object : (o : ObjectId) (queue : ℕ) → AreCalmFor script o (calls_on o queue)
  calm_object (Sub s) queue = calm_sub s queue
  calm_object (Timer t) queue = tt
  calm_object (Inbox i) queue = tt

  has_calm : (p : Planned) → HasCalmCalls script p (object_calls (setting_of script) run.queues p)
  has_calm p = record { object = refl; calm = calm_object p.object p.queue }

pub legal_links_are_calm : LegalLinksAreCalm
legal_links_are_calm script run orderly is =
    subst (λ told. AllZip (HasCalmCalls script) (setting_of script).objects told) (sym is.calls.calls)
    (all_zipped (HasCalmCalls script) (object_calls (setting_of script) run.queues) (has_calm script run orderly is) (setting_of script).objects)
