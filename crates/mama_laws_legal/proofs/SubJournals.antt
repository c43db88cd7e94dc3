-- In the record of a run in rounds the journals of queues have the streams of the subscriptions.
use Rattle.std.specs.Prelude.{slice_index_or, filter, None, Some}
use Rattle.std.proofs.Common.{◌≡◌, ℕ, ◌<◌, ◌==◌, true, false, cond, List, [], refl, ◌∙◌, ap}
use Rattle.std.proofs.lemmas.Bool.{both_ways, false_from_ne_true}
use Rattle.mama_link.specs.Link.{through}
use Rattle.mama_event.specs.Arrival.{arriving, cut_arrival}
use Rattle.mama_event.specs.Noted.{delivered_note}
use Rattle.mama_event.specs.declared.ids.SubId.{SubId}
use Rattle.mama_event.specs.declared.ids.ObjectId.TheVariants.{Sub}
use Rattle.mama_event.specs.declared.shape.Shape.{Shape}
use Rattle.mama_event.specs.declared.to_bridge.SubTerms.{SubTerms}
use Rattle.mama_event.specs.declared.to_bridge.BridgeNote.{BridgeNote}
use Rattle.mama_event.specs.declared.to_bridge.BridgeNote.TheVariants as b
use Rattle.mama_event.specs.declared.to_queue.Make.TheVariants as make
use Rattle.mama_event.specs.declared.to_queue.QueueNote.{QueueNote}
use Rattle.mama_event.specs.Ports.{clients_of}
use Rattle.mama_rules_services.specs.Bridge.{BridgeEvent, joins, no_event, opens, from_client, from_publisher, from_queue, put_by, heard, terms_in, joins_sub, leaves_sub, window, bridge_puts}
use Rattle.mama_rules_services.specs.Ports.{bridge_putter}
use Rattle.mama_script.specs.Script.{ScriptData}
use Rattle.mama_record.specs.RunData.{RunData}
use Rattle.mama_rules_legal.specs.Edges.{AreEdges}
use Rattle.mama_rules_legal.specs.Lines.{AreLines}
use Rattle.mama_rules_legal.specs.Streams.{is_of, stream_of, terms_noted, terms_put, terms_of, AreSubStreams}
use Rattle.mama_laws_legal.specs.Laws.{IsOrderly}
use Rattle.mama_laws_legal.proofs.Endings.{is_joining}
use Rattle.mama_laws_legal.proofs.Heard.{no_late_join}
use Rattle.mama_laws_legal.proofs.QueuesThere.{queues_there}
use Rattle.mama_laws_legal.proofs.Journals.{one_port, part_stream, other_ports}
use Rattle.mama_laws_legal.proofs.ObjectJournals.{journal_has}
use Rattle.mama_laws_legal.proofs.BridgeStreams.{is_word}
use Rattle.mama_laws_legal.proofs.SubStreams.{subs_streams}
use Rattle.mama_laws_legal.proofs.BegunByLines.{own_terms, no_terms, IsBegun, CameAndWent, begun_by_lines}

-- ---- how the bridge hears of a subscription

joins_publisher : (s : SubId) (r : ℕ) (note : BridgeNote) → terms_in s (from_publisher r note) ≡ None
joins_publisher s r b.Bye = refl
joins_publisher s r _ = refl

joins_queue : (s : SubId) (k : ℕ) (note : BridgeNote) → terms_in s (from_queue k note) ≡ None
joins_queue s k b.Bye = refl
joins_queue s k _ = refl

-- a client joins subscriptions of its own alone
joins_client : (s : SubId) (d : ℕ) (note : BridgeNote) → terms_in s (from_client d note) ≡ cond (d == s.client) (terms_noted s note) None
joins_client s d (b.Join r terms tag) = own_terms (λ a. terms_in s (cond a (joins r terms tag) no_event)) (Some terms) r.client d s.client (r.number == s.number) refl refl
joins_client s d (b.OpenInbox i terms tag) = no_terms (λ a. terms_in s (cond a (opens i terms tag) no_event)) (i.client == d) (d == s.client) refl refl
joins_client s d _ = no_terms (λ a. terms_in s no_event) true (d == s.client) refl refl

joins_is : (s : SubId) (e : BridgeEvent) → joins_sub s e ≡ true → (is_joining e ≡ true) × (is_word e ≡ false)
joins_is s (joins r terms tag) h = (refl, refl)
joins_is s _ h = absurd (both_ways false refl h)

is_begun : (s : SubId) → IsBegun s.client (terms_in s) (terms_noted s) (terms_put s)
is_begun s = record {
  by_client = joins_client s;
  by_publisher = joins_publisher s;
  by_queue = joins_queue s;
  by_none = refl;
  told = λ note. refl;
  silent = λ note. refl;
  no_word = λ e joined. (joins_is s e joined).1;
  never_late = λ shape before e after last settling. false_from_ne_true (joins_sub s (put_by (bridge_putter shape e.0) e.1))
      (λ joined. both_ways (is_joining (put_by (bridge_putter shape e.0) e.1)) (no_late_join shape before e after last settling) (joins_is s (put_by (bridge_putter shape e.0) e.1) joined).0);
}

-- ---- a subscription that the script joins came and went

pub came_by_lines : (script : ScriptData) (run : RunData) → IsOrderly script → AreEdges script run → AreLines script run → (s : SubId) (terms : SubTerms) → s.client < clients_of script.shape
    → terms_of script run s ≡ Some terms → CameAndWent script.shape (terms_in s) (leaves_sub s) run.bridge terms
came_by_lines script run orderly edges lines s terms small says =
    begun_by_lines script run orderly edges lines s.client small (terms_in s) (terms_noted s) (terms_put s) (is_begun s) (leaves_sub s) terms says

pub sub_streams : (script : ScriptData) (run : RunData) → IsOrderly script → AreEdges script run → AreLines script run → AreSubStreams script run
sub_streams script run orderly edges lines = record {
  each = λ s terms small says.
      let shape : Shape = script.shape in
      let on = (queues_there script run orderly.within).subs s terms says in
      let es : List BridgeEvent = heard shape run.bridge in
      let k : ℕ = terms.queue in
      let journal : List (ℕ × QueueNote) = slice_index_or run.queues k [] in
      let came = came_by_lines script run orderly edges lines s terms small says in
      journal_has (Sub s) (make.Sub terms.kind terms.cache shape.strategy) (λ slot a. delivered_note slot s a) (through cut_arrival terms.faults (arriving (window shape s es))) k (stream_of (Sub s) (bridge_puts shape run.bridge)) journal
      (one_port (Sub s) 0 journal (λ port apart. other_ports (Sub s) (λ t. refl) shape run.bridge run.timers k journal port apart (edges.queues k on port))
      ∙ ap (filter (is_of (Sub s))) (edges.queues k on 0) ∙ part_stream (Sub s) k (bridge_puts shape run.bridge))
      (subs_streams shape run.bridge s terms came.was came.dead came.joined);
}
