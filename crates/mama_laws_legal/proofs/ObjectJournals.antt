-- What a service heard of an object of any kind, that it was alive, and what its queue's journal has of it.
use Rattle.std.specs.Prelude.{not, Option, None}
use Rattle.std.specs.List.{flat_map, list_any}
use Rattle.std.specs.Option.{option_or}
use Rattle.std.proofs.Common.{◌≡◌, ℕ, ◌+◌, ◌<◌, ◌==◌, Bool, true, false, ◌&&◌, ◌||◌, cond, List, [], ◌∷◌, ◌++◌, map, refl, sym, ◌∙◌, ap, subst, ⊎_elim, append-nil, append_assoc, arith}
use Rattle.std.proofs.lemmas.Bool.{and_from, both_ways, cases_Bool, false_from_ne_true, ne_eqb}
use Rattle.std.proofs.lemmas.List.{map-append}
use Rattle.mama_journal.specs.Journal.{first_said}
use Rattle.mama_journal.specs.Lane.{by_port}
use Rattle.mama_event.specs.declared.ids.ObjectId.{ObjectId}
use Rattle.mama_event.specs.declared.to_queue.Make.{Make}
use Rattle.mama_event.specs.declared.to_queue.QueueNote.{QueueNote}
use Rattle.mama_event.specs.declared.to_queue.QueueNote.TheVariants as q
use Rattle.mama_event.specs.declared.shape.Shape.{Shape}
use Rattle.mama_event.specs.declared.to_bridge.BridgeNote.{BridgeNote}
use Rattle.mama_event.specs.Ports.{clients_of, publishers_of}
use Rattle.mama_rules_services.specs.Ports.{bridge_putter}
use Rattle.mama_rules_services.specs.Bridge.{BridgeEvent, no_event, from_client, from_publisher, from_queue, put_by, heard}
use Rattle.mama_rules_services.specs.Life.{lives, is_alive}
use Rattle.mama_rules_legal.specs.Streams.{IsStream, IsJournal, WasAlive, events_of}
use Rattle.mama_journal.specs.EntryLaws.{by_entries}
use Rattle.mama_laws_legal.proofs.Putters.{by_bridge_port}
use Rattle.mama_laws_legal.proofs.Journals.{on_one_queue}
use Rattle.mama_laws_legal.proofs.Lives.{any_last, lives-push, first_said-append}

-- where what comes by one port alone says something, the first that is said is what that port says first
pub said_by_port : {E N T : Type 0} (meaning : ℕ → N → E) (say : E → Option T) (noted : N → Option T) (client : ℕ) → ((port : ℕ) (note : N) → say (meaning port note) ≡ cond (port == client) (noted note) None)
    → (journal : List (ℕ × N)) → first_said say (map (λ e. meaning e.0 e.1) journal) ≡ first_said noted (by_port client journal)
said_by_port meaning say noted client by [] = refl
said_by_port {E} {N} {T} meaning say noted client by (e ∷ es) =
    ap (λ (o : Option T). option_or o (first_said say (map (λ e. meaning e.0 e.1) es))) (by e.0 e.1) ∙ by_case (e.0 == client) (said_by_port meaning say noted client by es)
  where
    by_case : (c : Bool) → first_said say (map (λ e. meaning e.0 e.1) es) ≡ first_said noted (by_port client es)
        → option_or (cond c (noted e.1) None) (first_said say (map (λ e. meaning e.0 e.1) es)) ≡ first_said noted (cond c (e.1 ∷ by_port client es) (by_port client es))
    by_case true ih = ap (λ (o : Option T). option_or (noted e.1) o) ih
    by_case false ih = ih

-- on the bridge's lane: what clients alone say, and each only of its own
pub said_by_client : {T : Type 0} (shape : Shape) (say : BridgeEvent → Option T) (noted : BridgeNote → Option T) (client : ℕ) → client < clients_of shape
    → ((d : ℕ) (note : BridgeNote) → say (from_client d note) ≡ cond (d == client) (noted note) None) → ((r : ℕ) (note : BridgeNote) → say (from_publisher r note) ≡ None)
    → ((k : ℕ) (note : BridgeNote) → say (from_queue k note) ≡ None) → say no_event ≡ None → (journal : List (ℕ × BridgeNote)) → first_said say (heard shape journal) ≡ first_said noted (by_port client journal)
said_by_client {T} shape say noted client small by_client by_publisher by_queue by_none = said_by_port (λ port note. put_by (bridge_putter shape port) note) say noted client
    (by_bridge_port shape (λ port who. (note : BridgeNote) → say (put_by who note) ≡ cond (port == client) (noted note) None)
    (λ d within note. by_client d note)
    (λ r within note. by_publisher r note ∙ away (clients_of shape + r) note (λ same. absurd (omega arith)))
    (λ k within note. by_queue k note ∙ away (clients_of shape + publishers_of shape + k) note (λ same. absurd (omega arith)))
    (λ n past note. by_none ∙ away n note (λ same. absurd (omega arith))))
  where
    away : (port : ℕ) (note : BridgeNote) → (port ≡ client → ⊥) → None ≡ cond (port == client) (noted note) None
    away port note other = ap (λ (c : Bool). cond c (noted note) None) (sym (ne_eqb port client other))

-- what is said in the parts of some puts is what the puts say
pub said_in_parts : {X Y T : Type 0} (part : X → List Y) (say : Y → Option T) (put : X → Option T) → ((x : X) → first_said say (part x) ≡ put x) → (xs : List X) → first_said say (flat_map part xs) ≡ first_said put xs
said_in_parts part say put each [] = refl
said_in_parts {X} {Y} {T} part say put each (x ∷ xs) =
    first_said-append say (part x) (flat_map part xs) ∙ ap (λ (o : Option T). option_or o (first_said say (flat_map part xs))) (each x)
    ∙ ap (λ (o : Option T). option_or (put x) o) (said_in_parts part say put each xs)

-- what was begun, and not after the ending, was alive
module _ {E N : Type 0} (meaning : ℕ → N → E) (begins ends : E → Bool) (ending : List E → Bool) (still : (es : List E) (x : E) → begins x ≡ true → ending (es ++ x ∷ []) ≡ ending es) where
  abbrev told : List (ℕ × N) → List E
  told journal = map (λ e. meaning e.0 e.1) journal

  abbrev IsTimely : List (ℕ × N) → Type 0
  IsTimely journal = (before : List (ℕ × N)) (e : ℕ × N) (after : List (ℕ × N)) → journal ≡ before ++ e ∷ after → ending (told before) ≡ true → begins (meaning e.0 e.1) ≡ false

  alive_now : (es : List E) (x : E) → list_any begins es ≡ false → (ending es ≡ true → begins x ≡ false) → list_any begins (es ++ x ∷ []) ≡ true → WasAlive (is_alive begins ends ending) (es ++ x ∷ [])
  alive_now es x new late came =
      let begun : begins x ≡ true = ap (λ (c : Bool). c || begins x) (sym new) ∙ sym (any_last begins es x) ∙ came in
      let yet : ending es ≡ false = false_from_ne_true (ending es) (λ ended. both_ways (begins x) (late ended) begun) in
      record {
        before = es ++ x ∷ [];
        after = [];
        whole = sym (append-nil (es ++ x ∷ []));
        live = and_from (lives begins ends (es ++ x ∷ [])) (not (ending (es ++ x ∷ [])))
            (lives-push begins ends es x ∙ ap (λ (c : Bool). cond c (lives begins ends es && not (ends x)) (begins x)) new ∙ begun)
            (ap not (still es x begun ∙ yet));
      }

  pub was_alive : (journal : List (ℕ × N)) → IsTimely journal → list_any begins (told journal) ≡ true → WasAlive (is_alive begins ends ending) (told journal)
  was_alive journal = by_entries (λ (j : List (ℕ × N)). IsTimely j → list_any begins (told j) ≡ true → WasAlive (is_alive begins ends ending) (told j))
      (λ timely came. absurd (both_ways false refl came))
      (λ j e ih timely came.
      let x : E = meaning e.0 e.1 in
      let grown : told (j ++ e ∷ []) ≡ told j ++ x ∷ [] = map-append (λ (y : ℕ × N). meaning y.0 y.1) j (e ∷ []) in
      subst (WasAlive (is_alive begins ends ending)) (sym grown) (⊎_elim
      (λ old. let was = ih (λ before y after is. timely before y (after ++ e ∷ []) (ap (λ (xs : List (ℕ × N)). xs ++ e ∷ []) is ∙ append_assoc before (y ∷ after) (e ∷ []))) old in
      record { before = was.before; after = was.after ++ x ∷ []; whole = ap (λ (xs : List E). xs ++ x ∷ []) was.whole ∙ append_assoc was.before was.after (x ∷ []); live = was.live })
      (λ new. alive_now (told j) x new (λ ended. timely j e [] refl ended) (sym (ap (list_any begins) grown) ∙ came))
      (cases_Bool (list_any begins (told j))))) journal

-- what is not alive at the ending
pub dead_at_ending : {E : Type 0} (begins ends : E → Bool) (ending : List E → Bool) (es : List E) → ending es ≡ true → is_alive begins ends ending es ≡ false
dead_at_ending begins ends ending es ended = ap (λ (c : Bool). lives begins ends es && not c) ended ∙ none_and (lives begins ends es)
  where
    none_and : (c : Bool) → (c && false) ≡ false
    none_and true = refl
    none_and false = refl

-- the journal of its queue, where its events there are those of its stream
pub journal_has : {M : Type 0} (o : ObjectId) (make : Make) (item : ℕ → M → QueueNote) (passed : List M) (k : ℕ) (stream journal : List (ℕ × QueueNote))
    → events_of o journal ≡ by_port k stream → IsStream o k make item passed stream → IsJournal o make item passed journal
journal_has o make item passed k stream journal same is = record {
  slot = is.slot;
  tag = is.tag;
  whole = same ∙ ap (by_port k) is.whole ∙ on_one_queue k (q.Create is.slot o make is.tag) (q.Gone is.slot o) (λ m. item is.slot m) passed;
}
