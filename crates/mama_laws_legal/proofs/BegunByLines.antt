-- What the lines of a client begin at the bridge, of either kind: the bridge heard its terms, it was alive, and is so no more.
use Rattle.std.specs.Prelude.{is_some, Option, None, Some}
use Rattle.std.specs.List.{flat_map}
use Rattle.std.specs.Option.{option_or}
use Rattle.std.proofs.Common.{◌≡◌, ℕ, ◌<◌, ◌==◌, Bool, true, false, ◌&&◌, cond, List, ◌∷◌, ◌++◌, refl, sym, ◌∙◌, ap, subst}
use Rattle.std.proofs.lemmas.Bool.{both_ways, eqb-true, eqb-false, eq-eqb, ne_eqb}
use Rattle.mama_journal.specs.Journal.{first_said}
use Rattle.mama_journal.specs.Lane.{by_port}
use Rattle.mama_event.specs.declared.shape.Shape.{Shape}
use Rattle.mama_event.specs.declared.to_bridge.BridgeNote.{BridgeNote}
use Rattle.mama_event.specs.declared.to_timers.TimersNote.{TimersNote}
use Rattle.mama_event.specs.Ports.{clients_of}
use Rattle.mama_rules_services.specs.Bridge.{BridgeEvent, no_event, from_client, from_publisher, from_queue, put_by, heard, is_settling, has_ending}
use Rattle.mama_rules_services.specs.Life.{is_alive}
use Rattle.mama_rules_services.specs.Ports.{bridge_putter}
use Rattle.mama_rules_queue.specs.Queue.{QueuePut}
use Rattle.mama_rules_queue.specs.Queue as queue
use Rattle.mama_rules_rounds.specs.Client.{bridge_part}
use Rattle.mama_script.specs.Script.{ScriptData}
use Rattle.mama_record.specs.RunData.{RunData}
use Rattle.mama_rules_rounds.specs.Sections.{setting_of}
use Rattle.mama_rules_legal.specs.Edges.{client_puts, put_on_bridge, AreEdges}
use Rattle.mama_rules_legal.specs.Lines.{AreLines}
use Rattle.mama_rules_legal.specs.Streams.{WasAlive}
use Rattle.mama_laws_legal.specs.Laws.{IsOrderly}
use Rattle.mama_laws_legal.proofs.Endings.{ending_settles}
use Rattle.mama_laws_legal.proofs.Heard.{is_client_done, SaidLast, putter_client}
use Rattle.mama_laws_legal.proofs.AllSent.{said, ending_of_lines}
use Rattle.mama_laws_legal.proofs.ObjectJournals.{said_by_client, said_in_parts, was_alive, dead_at_ending}
use Rattle.mama_laws_legal.proofs.Lives.{said_came}
use Rattle.mama_laws_legal.proofs.BridgeStreams.{ending_same, is_word}

-- ---- a note is heard of the client alone that owns the object

-- the note that begins an object, heard of port d: `say true` where d owns it
pub own_terms : {T : Type 0} (say : Bool → Option T) (x : Option T) (owner d client : ℕ) (same : Bool) → say true ≡ cond (owner == client && same) x None → say false ≡ None
    → say (owner == d) ≡ cond (d == client) (cond (owner == client && same) x None) None
own_terms {T} say x owner d client same owned alone = by_case (owner == d) refl (d == client) refl
  where
    by_case : (a : Bool) → (owner == d) ≡ a → (c : Bool) → (d == client) ≡ c → say a ≡ cond c (cond (owner == client && same) x None) None
    by_case true own true mine = owned
    by_case true own false other = owned ∙ ap (λ (c : Bool). cond (c && same) x None)
        (ne_eqb owner client (λ is. both_ways (d == client) other (eq-eqb d client (sym (eqb-true owner d own) ∙ is))))
    by_case false own true mine = alone ∙ sym (ap (λ (c : Bool). cond (c && same) x None)
        (ne_eqb owner client (λ is. eqb-false owner d own (is ∙ sym (eqb-true d client mine)))))
    by_case false own false other = alone

-- a note that tells no terms
pub no_terms : {T : Type 0} (say : Bool → Option T) (a c : Bool) → say true ≡ None → say false ≡ None → say a ≡ cond c None None
no_terms say true true owned alone = owned
no_terms say true false owned alone = owned
no_terms say false true owned alone = alone
no_terms say false false owned alone = alone

-- ---- what the lines of a client begin

-- how the terms of one object are heard by the bridge, told by a note and told by a put, and that nothing begins it once settling began
pub record IsBegun {T : Type 0} (client : ℕ) (terms_in : BridgeEvent → Option T) (noted : BridgeNote → Option T) (put : QueuePut → Option T) : Type 0 where
  pub by_client : (d : ℕ) (note : BridgeNote) → terms_in (from_client d note) ≡ cond (d == client) (noted note) None
  pub by_publisher : (r : ℕ) (note : BridgeNote) → terms_in (from_publisher r note) ≡ None
  pub by_queue : (k : ℕ) (note : BridgeNote) → terms_in (from_queue k note) ≡ None
  pub by_none : terms_in no_event ≡ None
  pub told : (note : BridgeNote) → put (queue.to_bridge note) ≡ noted note
  pub silent : (note : TimersNote) → put (queue.to_timers note) ≡ None
  pub no_word : (e : BridgeEvent) → is_some (terms_in e) ≡ true → is_word e ≡ false
  pub never_late : (shape : Shape) (before : List (ℕ × BridgeNote)) (e : ℕ × BridgeNote) (after : List (ℕ × BridgeNote))
      → ((c : ℕ) → c < clients_of shape → SaidLast is_client_done (by_port c (before ++ e ∷ after))) → is_settling shape (heard shape before) ≡ true → is_some (terms_in (put_by (bridge_putter shape e.0) e.1)) ≡ false

-- what the puts for the bridge tell is what all puts tell
terms_said : {T : Type 0} (noted : BridgeNote → Option T) (put : QueuePut → Option T) → ((note : BridgeNote) → put (queue.to_bridge note) ≡ noted note) → ((note : TimersNote) → put (queue.to_timers note) ≡ None)
    → (puts : List QueuePut) → first_said noted (flat_map bridge_part puts) ≡ first_said put puts
terms_said {T} noted put told silent puts = said_in_parts bridge_part noted put one puts
  where
    keep : (o : Option T) → option_or o None ≡ o
    keep None = refl
    keep (Some x) = refl

    one : (x : QueuePut) → first_said noted (bridge_part x) ≡ put x
    one (queue.to_bridge note) = keep (noted note) ∙ sym (told note)
    one (queue.to_timers note) = sym (silent note)

-- the bridge heard the terms of its lines, it was alive once, and is so no more
pub record CameAndWent {T : Type 0} (shape : Shape) (terms_in : BridgeEvent → Option T) (ends : BridgeEvent → Bool) (journal : List (ℕ × BridgeNote)) (terms : T) : Type 0 where
  pub joined : first_said terms_in (heard shape journal) ≡ Some terms
  pub was : WasAlive (is_alive (λ e. is_some (terms_in e)) ends (has_ending shape)) (heard shape journal)
  pub dead : is_alive (λ e. is_some (terms_in e)) ends (has_ending shape) (heard shape journal) ≡ false

pub begun_by_lines : {T : Type 0} (script : ScriptData) (run : RunData) → IsOrderly script → AreEdges script run → AreLines script run → (client : ℕ) → client < clients_of script.shape
    → (terms_in : BridgeEvent → Option T) (noted : BridgeNote → Option T) (put : QueuePut → Option T) → IsBegun client terms_in noted put → (ends : BridgeEvent → Bool) (terms : T)
    → first_said put (client_puts script run.clients client) ≡ Some terms → CameAndWent script.shape terms_in ends run.bridge terms
begun_by_lines {T} script run orderly edges lines client small terms_in noted put is ends terms says =
    let shape : Shape = script.shape in
    let es : List BridgeEvent = heard shape run.bridge in
    let begins : BridgeEvent → Bool = λ e. is_some (terms_in e) in
    let heard_terms : first_said terms_in es ≡ Some terms =
    said_by_client shape terms_in noted client small is.by_client is.by_publisher is.by_queue is.by_none run.bridge
    ∙ ap (first_said noted) (edges.bridge client ∙ ap (put_on_bridge (setting_of script) (client_puts script run.clients) run.publishers run.queues) (putter_client shape client small))
    ∙ terms_said noted put is.told is.silent (client_puts script run.clients client) ∙ says in
    let never : (before : List (ℕ × BridgeNote)) (e : ℕ × BridgeNote) (after : List (ℕ × BridgeNote)) → run.bridge ≡ before ++ e ∷ after → has_ending shape (heard shape before) ≡ true → begins (put_by (bridge_putter shape e.0) e.1) ≡ false =
    λ before e after same ended. is.never_late shape before e after
    (λ c less. subst (λ (j : List (ℕ × BridgeNote)). SaidLast is_client_done (by_port c j)) same (said script run orderly.shaped edges c less)) (ending_settles shape (heard shape before) ended) in
    record {
      joined = heard_terms;
      was = was_alive (λ port note. put_by (bridge_putter shape port) note) begins ends (has_ending shape) (λ xs x begun. ending_same shape xs x (is.no_word x begun)) run.bridge never
          (said_came terms_in es terms heard_terms);
      dead = dead_at_ending begins ends (has_ending shape) es (ending_of_lines script run orderly.shaped edges lines);
    }
