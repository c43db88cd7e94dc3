-- The stream of an object of any kind: its Create, what its link lets through of its window, and its Gone.
use Rattle.std.specs.Prelude.{not, Option, None, Some, is_some}
use Rattle.std.specs.List.{list_any}
use Rattle.std.specs.Option.{option_or}
use Rattle.std.proofs.Common.{◌≡◌, ℕ, Bool, true, false, ◌&&◌, ◌||◌, cond, List, [], ◌∷◌, ◌++◌, map, refl, sym, ◌∙◌, ap, subst, inl, inr, ⊎_elim, ◌⊎◌, append-nil, append_assoc}
use Rattle.std.proofs.lemmas.Bool.{and_parts, and_from, both_ways, cases_Bool, false_from_ne_true, or_left}
use Rattle.std.proofs.lemmas.List.{map-append}
use Rattle.mama_journal.specs.Journal.{all_puts, turns, first_said}
use Rattle.mama_event.specs.declared.ids.ObjectId.{ObjectId}
use Rattle.mama_event.specs.declared.to_queue.Make.{Make}
use Rattle.mama_event.specs.declared.to_queue.QueueNote.{QueueNote}
use Rattle.mama_event.specs.declared.to_queue.QueueNote.TheVariants as q
use Rattle.mama_rules_services.specs.Life.{lives, is_alive, window_of}
use Rattle.mama_rules_legal.specs.Streams.{IsStream}
use Rattle.mama_journal.specs.EntryLaws.{by_entries, puts-push, all_puts-push}
use Rattle.mama_laws_legal.proofs.Lives.{any_last, lives-push, lives_came, first_said-append, said_came, none_said, some_is}

-- One object of some kind at its service: E are the events that the service heard, P what it puts, T the terms of the
-- object, M what goes into its link, and A what arrives of it.
pub record Kind (E P T M A : Type 0) : Type 0 where
  pub object : ObjectId
  -- its life: with which terms an event begins it, which ends it, when all ends, and the words with which that comes
  pub said : E → Option T
  pub ends : E → Bool
  pub ending : List E → Bool
  pub is_word : E → Bool
  -- its link: what an event sends into it; what has come out of it, what comes out where more goes in, and at its end
  pub sent : List E → E → List M
  pub out : T → List M → List A
  pub goes : T → List M → List M → List A
  pub left : T → List M → List A
  -- its events
  pub queue : T → ℕ
  pub make : T → Make
  pub item : ℕ → A → QueueNote
  -- the service: its answer to an event, all that it puts, what of that is for the object, and where that stands; what is
  -- put for the object at its end, and at an event while it lives
  pub answer : List E → List P → E → List P
  pub reaction : List E → List P → E → List P
  pub own : List P → List (ℕ × QueueNote)
  pub place : List P → Option (ℕ × ℕ)
  pub closes : List E → List P → List (ℕ × QueueNote)
  pub passes : List E → List P → E → List (ℕ × QueueNote)

abbrev pub begins : {E P T M A : Type 0} → Kind E P T M A → E → Bool
begins kind e = is_some (kind.said e)

abbrev pub alive : {E P T M A : Type 0} → Kind E P T M A → List E → Bool
alive kind es = is_alive (begins kind) kind.ends kind.ending es

abbrev pub window : {E P T M A : Type 0} → Kind E P T M A → List E → List M
window kind es = window_of (alive kind) kind.sent es

abbrev pub events : {E P T M A : Type 0} → Kind E P T M A → T → ℕ → List A → List (ℕ × QueueNote)
events kind terms slot ms = map (λ m. (kind.queue terms, kind.item slot m)) ms

abbrev pub created : {E P T M A : Type 0} → Kind E P T M A → T → ℕ → ObjectId → ℕ × QueueNote
created kind terms slot tag = (kind.queue terms, q.Create slot kind.object (kind.make terms) tag)

abbrev pub last : {E P T M A : Type 0} → Kind E P T M A → T → ℕ → List (ℕ × QueueNote)
last kind terms slot = (kind.queue terms, q.Gone slot kind.object) ∷ []

-- these puts are the Create of the object with these terms
pub record IsCreate {E P T M A : Type 0} (kind : Kind E P T M A) (terms : T) (own : List (ℕ × QueueNote)) : Type 0 where
  pub slot : ℕ
  pub tag : ObjectId
  pub is : own ≡ created kind terms slot tag ∷ []

-- What has to be known of a kind: with which events the ending comes, how the link goes on, and what the service puts for
-- the object at each event.
pub record IsKind {E P T M A : Type 0} (kind : Kind E P T M A) : Type 0 where
  pub ending_same : (es : List E) (e : E) → kind.is_word e ≡ false → kind.ending (es ++ e ∷ []) ≡ kind.ending es
  pub ending_stays : (es : List E) (e : E) → kind.ending es ≡ true → kind.ending (es ++ e ∷ []) ≡ true
  pub no_word_begins : (e : E) → begins kind e ≡ true → kind.is_word e ≡ false
  pub no_word_ends : (e : E) → kind.ends e ≡ true → kind.is_word e ≡ false
  pub end_sends_none : (es : List E) (e : E) → kind.ends e ≡ true → kind.sent es e ≡ []
  pub word_sends_none : (es : List E) (e : E) → kind.is_word e ≡ true → kind.sent es e ≡ []
  pub out_none : (terms : T) → kind.out terms [] ≡ []
  pub out_more : (terms : T) (w : List M) (es : List E) (e : E) → kind.out terms (w ++ kind.sent es e) ≡ kind.out terms w ++ kind.goes terms w (kind.sent es e)
  pub goes_none : (terms : T) (w : List M) → kind.goes terms w [] ≡ []
  pub own_append : (xs ys : List P) → kind.own (xs ++ ys) ≡ kind.own xs ++ kind.own ys
  pub own_none : kind.own [] ≡ []
  pub placed : (sofar : List P) (terms : T) (slot : ℕ) (tag : ObjectId) (more : List A)
      → kind.own sofar ≡ created kind terms slot tag ∷ events kind terms slot more → kind.place sofar ≡ Some (kind.queue terms, slot)
  pub answers : (es : List E) (sofar : List P) (e : E) → (begins kind e ≡ true → list_any (begins kind) es ≡ true)
      → kind.own (kind.answer es sofar e) ≡ cond (alive kind es) (cond (kind.ends e) (kind.closes es sofar) (kind.passes es sofar e)) []
  pub creates : (es : List E) (sofar : List P) (e : E) (terms : T) → kind.said e ≡ Some terms → list_any (begins kind) es ≡ false → IsCreate kind terms (kind.own (kind.answer es sofar e))
  pub reacts : (es : List E) (sofar : List P) (e : E)
      → kind.own (kind.reaction es sofar e) ≡ kind.own (kind.answer es sofar e) ++ cond (turns kind.ending es e) (cond (alive kind es) (kind.closes es sofar) []) []
  pub closing : (es : List E) (sofar : List P) (terms : T) (slot : ℕ) → kind.place sofar ≡ Some (kind.queue terms, slot) → first_said kind.said es ≡ Some terms
      → kind.closes es sofar ≡ events kind terms slot (kind.left terms (window kind es)) ++ last kind terms slot
  pub passing : (es : List E) (sofar : List P) (e : E) (terms : T) (slot : ℕ) → kind.place sofar ≡ Some (kind.queue terms, slot) → first_said kind.said es ≡ Some terms
      → kind.passes es sofar e ≡ events kind terms slot (kind.goes terms (window kind es) (kind.sent es e))

none_and : (b : Bool) → (b && false) ≡ false
none_and true = refl
none_and false = refl

not_off : (b : Bool) → not b ≡ true → b ≡ false
not_off true h = sym h
not_off false h = refl

no_turn : (b : Bool) → (b && not b) ≡ false
no_turn true = refl
no_turn false = refl

-- ---- the phases of an object

module _ {E P T M A : Type 0} (kind : Kind E P T M A) (is : IsKind kind) where
  abbrev all : List E → List P
  all es = all_puts kind.reaction es

  abbrev living : List E → Bool
  living es = lives (begins kind) kind.ends es

  -- no event has begun it
  record Fresh (es : List E) : Type 0 where
    new : list_any (begins kind) es ≡ false
    windowless : window kind es ≡ []
    nothing : kind.own (all es) ≡ []

  -- it is alive
  record Live (es : List E) : Type 0 where
    terms : T
    slot : ℕ
    tag : ObjectId
    said : first_said kind.said es ≡ Some terms
    live : alive kind es ≡ true
    whole : kind.own (all es) ≡ created kind terms slot tag ∷ events kind terms slot (kind.out terms (window kind es))

  -- it was alive, and is so no more
  record Over (es : List E) : Type 0 where
    terms : T
    said : first_said kind.said es ≡ Some terms
    dead : alive kind es ≡ false
    finished : IsStream kind.object (kind.queue terms) (kind.make terms) kind.item (kind.out terms (window kind es) ++ kind.left terms (window kind es)) (kind.own (all es))

  -- it was begun, and is not alive
  record Dead (es : List E) : Type 0 where
    came : list_any (begins kind) es ≡ true
    dead : alive kind es ≡ false

  -- ---- one event more

  window_more : (es : List E) (e : E) (b : Bool) → alive kind es ≡ b → window kind (es ++ e ∷ []) ≡ window kind es ++ cond b (kind.sent es e) []
  window_more es e b live = puts-push (λ before x. cond (alive kind before) (kind.sent before x) []) es e
      ∙ ap (λ (c : Bool). window kind es ++ cond c (kind.sent es e) []) live

  window_still : (es : List E) (e : E) → alive kind es ≡ false → window kind (es ++ e ∷ []) ≡ window kind es
  window_still es e dead = window_more es e false dead ∙ append-nil (window kind es)

  stream_more : (es : List E) (e : E) → kind.own (all (es ++ e ∷ [])) ≡ kind.own (all es) ++ kind.own (kind.reaction es (all es) e)
  stream_more es e = ap kind.own (all_puts-push kind.reaction es e) ∙ is.own_append (all es) (kind.reaction es (all es) e)

  said_still : (es : List E) (e : E) (terms : T) → first_said kind.said es ≡ Some terms → first_said kind.said (es ++ e ∷ []) ≡ Some terms
  said_still es e terms said = first_said-append kind.said es (e ∷ []) ∙ ap (λ (o : Option T). option_or o (first_said kind.said (e ∷ []))) said

  -- what came and is not alive is not alive later
  dead_still : (es : List E) (e : E) → list_any (begins kind) es ≡ true → alive kind es ≡ false → alive kind (es ++ e ∷ []) ≡ false
  dead_still es e came dead = ap (λ (b : Bool). b && not (kind.ending (es ++ e ∷ []))) (lives-push (begins kind) kind.ends es e ∙ ap (λ (b : Bool). cond b (living es && not (kind.ends e)) (begins kind e)) came)
      ∙ by_case (living es) (kind.ending es) dead (is.ending_stays es e)
    where
      by_case : (l a : Bool) → (l && not a) ≡ false → (a ≡ true → kind.ending (es ++ e ∷ []) ≡ true) → ((l && not (kind.ends e)) && not (kind.ending (es ++ e ∷ []))) ≡ false
      by_case false a h stays = refl
      by_case true true h stays = ap (λ (b : Bool). not (kind.ends e) && not b) (stays refl) ∙ none_and (not (kind.ends e))
      by_case true false h stays = absurd (both_ways true h refl)

  -- an event puts nothing for what is not alive and does not begin now
  nothing_more : (es : List E) (e : E) → alive kind es ≡ false → (begins kind e ≡ true → list_any (begins kind) es ≡ true) → kind.own (kind.reaction es (all es) e) ≡ []
  nothing_more es e dead again =
      is.reacts es (all es) e
      ∙ ap (λ (ws : List (ℕ × QueueNote)). ws ++ cond (turns kind.ending es e) (cond (alive kind es) (kind.closes es (all es)) []) [])
      (is.answers es (all es) e again ∙ ap (λ (b : Bool). cond b (cond (kind.ends e) (kind.closes es (all es)) (kind.passes es (all es) e)) []) dead)
      ∙ ap (λ (b : Bool). cond (turns kind.ending es e) (cond b (kind.closes es (all es)) []) []) dead ∙ either (turns kind.ending es e) []
    where
      either : (b : Bool) (ws : List (ℕ × QueueNote)) → cond b ws ws ≡ ws
      either true ws = refl
      either false ws = refl

  over_step : (es : List E) (e : E) → Over es → Over (es ++ e ∷ [])
  over_step es e o =
      let came = said_came kind.said es o.terms o.said in
      record {
        terms = o.terms;
        said = said_still es e o.terms o.said;
        dead = dead_still es e came o.dead;
        finished = record {
          slot = o.finished.slot;
          tag = o.finished.tag;
          whole = stream_more es e ∙ ap (λ (ws : List (ℕ × QueueNote)). kind.own (all es) ++ ws) (nothing_more es e o.dead (λ h. came)) ∙ append-nil (kind.own (all es))
              ∙ o.finished.whole
              ∙ ap (λ (w : List M). created kind o.terms o.finished.slot o.finished.tag ∷ (events kind o.terms o.finished.slot (kind.out o.terms w ++ kind.left o.terms w) ++ last kind o.terms o.finished.slot)) (sym (window_still es e o.dead));
        };
      }

  -- where a live one stands
  stands : (es : List E) (l : Live es) → kind.place (all es) ≡ Some (kind.queue l.terms, l.slot)
  stands es l = is.placed (all es) l.terms l.slot l.tag (kind.out l.terms (window kind es)) l.whole

  -- it ends: nothing went into its link at this event, and what it still holds comes out
  live_ends : (es : List E) (e : E) (l : Live es) → kind.sent es e ≡ [] → alive kind (es ++ e ∷ []) ≡ false → kind.own (kind.reaction es (all es) e) ≡ kind.closes es (all es) → Over (es ++ e ∷ [])
  live_ends es e l none dead ends =
      let create : ℕ × QueueNote = created kind l.terms l.slot l.tag in
      let w : List M = window kind es in
      let came : List (ℕ × QueueNote) = events kind l.terms l.slot (kind.out l.terms w) in
      let held : List (ℕ × QueueNote) = events kind l.terms l.slot (kind.left l.terms w) in
      let same : window kind (es ++ e ∷ []) ≡ window kind es = window_more es e true l.live ∙ ap (λ (ms : List M). window kind es ++ ms) none ∙ append-nil (window kind es) in
      record {
        terms = l.terms;
        said = said_still es e l.terms l.said;
        dead = dead;
        finished = record {
          slot = l.slot;
          tag = l.tag;
          whole = stream_more es e ∙ ap (λ (ws : List (ℕ × QueueNote)). kind.own (all es) ++ ws) (ends ∙ is.closing es (all es) l.terms l.slot (stands es l) l.said)
              ∙ ap (λ (ws : List (ℕ × QueueNote)). ws ++ (held ++ last kind l.terms l.slot)) l.whole
              ∙ ap (λ (ws : List (ℕ × QueueNote)). create ∷ ws) (sym (append_assoc came held (last kind l.terms l.slot))
              ∙ ap (λ (ws : List (ℕ × QueueNote)). ws ++ last kind l.terms l.slot) (sym (map-append (λ m. (kind.queue l.terms, kind.item l.slot m)) (kind.out l.terms w) (kind.left l.terms w))))
              ∙ ap (λ (v : List M). create ∷ (events kind l.terms l.slot (kind.out l.terms v ++ kind.left l.terms v) ++ last kind l.terms l.slot)) (sym same);
        };
      }

  -- it stays alive, and what its link lets through at this event comes out
  live_stays : (es : List E) (e : E) (l : Live es) → alive kind (es ++ e ∷ []) ≡ true → kind.own (kind.reaction es (all es) e) ≡ kind.passes es (all es) e → Live (es ++ e ∷ [])
  live_stays es e l live passes =
      let create : ℕ × QueueNote = created kind l.terms l.slot l.tag in
      let w : List M = window kind es in
      let ms : List M = kind.sent es e in
      record {
        terms = l.terms;
        slot = l.slot;
        tag = l.tag;
        said = said_still es e l.terms l.said;
        live = live;
        whole = stream_more es e ∙ ap (λ (ws : List (ℕ × QueueNote)). kind.own (all es) ++ ws) (passes ∙ is.passing es (all es) e l.terms l.slot (stands es l) l.said)
            ∙ ap (λ (ws : List (ℕ × QueueNote)). ws ++ events kind l.terms l.slot (kind.goes l.terms w ms)) l.whole
            ∙ ap (λ (ws : List (ℕ × QueueNote)). create ∷ ws) (sym (map-append (λ m. (kind.queue l.terms, kind.item l.slot m)) (kind.out l.terms w) (kind.goes l.terms w ms)))
            ∙ ap (λ (ns : List A). create ∷ events kind l.terms l.slot ns) (sym (is.out_more l.terms w es e))
            ∙ ap (λ (ns : List M). create ∷ events kind l.terms l.slot (kind.out l.terms ns)) (sym (window_more es e true l.live));
      }

  live_step : (es : List E) (e : E) → Live es → Live (es ++ e ∷ []) ⊎ Over (es ++ e ∷ [])
  live_step es e l = by_case (kind.ends e) refl (kind.ending (es ++ e ∷ [])) refl
    where
      came : list_any (begins kind) es ≡ true
      came = said_came kind.said es l.terms l.said

      parts : (living es ≡ true) × (not (kind.ending es) ≡ true)
      parts = and_parts (living es) (not (kind.ending es)) l.live

      not_ended : kind.ending es ≡ false
      not_ended = not_off (kind.ending es) parts.1

      reacts : (a b : Bool) → kind.ends e ≡ a → kind.ending (es ++ e ∷ []) ≡ b → kind.own (kind.reaction es (all es) e) ≡ cond a (kind.closes es (all es)) (kind.passes es (all es) e) ++ cond b (kind.closes es (all es)) []
      reacts a b ends ended_now =
          let over : List (ℕ × QueueNote) = kind.closes es (all es) in
          let passed : List (ℕ × QueueNote) = kind.passes es (all es) e in
          is.reacts es (all es) e
          ∙ ap (λ (ws : List (ℕ × QueueNote)). ws ++ cond (turns kind.ending es e) (cond (alive kind es) over []) [])
          (is.answers es (all es) e (λ h. came) ∙ ap (λ (c : Bool). cond c (cond (kind.ends e) over passed) []) l.live ∙ ap (λ (c : Bool). cond c over passed) ends)
          ∙ ap (λ (c : Bool). cond a over passed ++ cond (turns kind.ending es e) (cond c over []) []) l.live
          ∙ ap (λ (c : Bool). cond a over passed ++ cond (c && not (kind.ending es)) over []) ended_now
          ∙ ap (λ (c : Bool). cond a over passed ++ cond (b && not c) over []) not_ended
          ∙ ap (λ (c : Bool). cond a over passed ++ cond c over []) (and_true b)
        where
          and_true : (b : Bool) → (b && true) ≡ b
          and_true true = refl
          and_true false = refl

      lives_now : (a : Bool) → kind.ends e ≡ a → living (es ++ e ∷ []) ≡ not a
      lives_now a ends = lives-push (begins kind) kind.ends es e ∙ ap (λ (b : Bool). cond b (living es && not (kind.ends e)) (begins kind e)) came
          ∙ ap (λ (b : Bool). b && not (kind.ends e)) parts.0 ∙ ap not ends

      word_now : kind.ending (es ++ e ∷ []) ≡ true → kind.is_word e ≡ true
      word_now now = ⊎_elim (λ is. is) (λ other. absurd (both_ways (kind.ending (es ++ e ∷ [])) (is.ending_same es e other ∙ not_ended) now)) (cases_Bool (kind.is_word e))

      by_case : (a : Bool) → kind.ends e ≡ a → (b : Bool) → kind.ending (es ++ e ∷ []) ≡ b → Live (es ++ e ∷ []) ⊎ Over (es ++ e ∷ [])
      by_case true ends true now = absurd (both_ways (kind.is_word e) (is.no_word_ends e ends) (word_now now))
      by_case true ends false now = inr (live_ends es e l (is.end_sends_none es e ends)
          (ap (λ (b : Bool). b && not (kind.ending (es ++ e ∷ []))) (lives_now true ends))
          (reacts true false ends now ∙ append-nil (kind.closes es (all es))))
      by_case false ends true now =
          let none : kind.sent es e ≡ [] = is.word_sends_none es e (word_now now) in
          let quiet : kind.passes es (all es) e ≡ [] = is.passing es (all es) e l.terms l.slot (stands es l) l.said
          ∙ ap (λ (ms : List M). events kind l.terms l.slot (kind.goes l.terms (window kind es) ms)) none ∙ ap (events kind l.terms l.slot) (is.goes_none l.terms (window kind es)) in
          inr (live_ends es e l none
          (ap (λ (b : Bool). living (es ++ e ∷ []) && not b) now ∙ none_and (living (es ++ e ∷ [])))
          (reacts false true ends now ∙ ap (λ (ws : List (ℕ × QueueNote)). ws ++ kind.closes es (all es)) quiet))
      by_case false ends false now = inl (live_stays es e l
          (and_from (living (es ++ e ∷ [])) (not (kind.ending (es ++ e ∷ []))) (lives_now false ends) (ap not now))
          (reacts false false ends now ∙ append-nil (kind.passes es (all es) e)))

  -- ---- from the start

  fresh_dead : (es : List E) → list_any (begins kind) es ≡ false → alive kind es ≡ false
  fresh_dead es new = false_from_ne_true (alive kind es) (λ live. both_ways (list_any (begins kind) es) new (lives_came (begins kind) kind.ends es (and_parts (living es) (not (kind.ending es)) live).0))

  abbrev Phase : List E → Type 0
  Phase es = Fresh es ⊎ (Live es ⊎ Dead es)

  dead_step : (es : List E) (e : E) → Dead es → Dead (es ++ e ∷ [])
  dead_step es e d = record {
    came = any_last (begins kind) es e ∙ or_left (list_any (begins kind) es) (begins kind e) d.came;
    dead = dead_still es e d.came d.dead;
  }

  over_dead : (es : List E) → Over es → Dead es
  over_dead es o = record { came = said_came kind.said es o.terms o.said; dead = o.dead }

  -- an event begins it for the first time
  begin_step : (es : List E) (e : E) (terms : T) → kind.said e ≡ Some terms → Fresh es → Phase (es ++ e ∷ [])
  begin_step es e terms said f = by_case (kind.ending es) refl
    where
      begun : begins kind e ≡ true
      begun = ap is_some said

      still : kind.ending (es ++ e ∷ []) ≡ kind.ending es
      still = is.ending_same es e (is.no_word_begins e begun)

      lives_now : living (es ++ e ∷ []) ≡ true
      lives_now = lives-push (begins kind) kind.ends es e ∙ ap (λ (b : Bool). cond b (living es && not (kind.ends e)) (begins kind e)) f.new ∙ begun

      or_true : (b : Bool) → (b || true) ≡ true
      or_true true = refl
      or_true false = refl

      by_case : (b : Bool) → kind.ending es ≡ b → Phase (es ++ e ∷ [])
      by_case true ended_before = inr (inr (record {
        came = any_last (begins kind) es e ∙ ap (λ (b : Bool). list_any (begins kind) es || b) begun ∙ or_true (list_any (begins kind) es);
        dead = ap (λ (b : Bool). living (es ++ e ∷ []) && not b) (still ∙ ended_before) ∙ none_and (living (es ++ e ∷ []));
      }))
      by_case false yet =
          let made : IsCreate kind terms (kind.own (kind.answer es (all es) e)) = is.creates es (all es) e terms said f.new in
          let empty : window kind (es ++ e ∷ []) ≡ [] = window_still es e (fresh_dead es f.new) ∙ f.windowless in
          let over : List (ℕ × QueueNote) = cond (alive kind es) (kind.closes es (all es)) [] in
          inr (inl (record {
            terms = terms;
            slot = made.slot;
            tag = made.tag;
            said = first_said-append kind.said es (e ∷ []) ∙ ap (λ (o : Option T). option_or o (option_or (kind.said e) None)) (none_said kind.said es f.new) ∙ ap (λ (o : Option T). option_or o None) said;
            live = and_from (living (es ++ e ∷ [])) (not (kind.ending (es ++ e ∷ []))) lives_now (ap not (still ∙ yet));
            whole = stream_more es e ∙ ap (λ (ws : List (ℕ × QueueNote)). ws ++ kind.own (kind.reaction es (all es) e)) f.nothing
                ∙ is.reacts es (all es) e
                ∙ ap (λ (ws : List (ℕ × QueueNote)). ws ++ cond (turns kind.ending es e) over []) made.is
                ∙ ap (λ (b : Bool). created kind terms made.slot made.tag ∷ cond (b && not (kind.ending es)) over []) still
                ∙ ap (λ (b : Bool). created kind terms made.slot made.tag ∷ cond b over []) (no_turn (kind.ending es))
                ∙ ap (λ (ms : List A). created kind terms made.slot made.tag ∷ events kind terms made.slot ms) (sym (is.out_none terms))
                ∙ ap (λ (w : List M). created kind terms made.slot made.tag ∷ events kind terms made.slot (kind.out terms w)) (sym empty);
          }))

  fresh_step : (es : List E) (e : E) → Fresh es → Phase (es ++ e ∷ [])
  fresh_step es e f = by_case (kind.said e) refl
    where
      or_false : (b : Bool) → (b || false) ≡ b
      or_false true = refl
      or_false false = refl

      fresh_still : begins kind e ≡ false → Fresh (es ++ e ∷ [])
      fresh_still other = record {
        new = any_last (begins kind) es e ∙ ap (λ (b : Bool). list_any (begins kind) es || b) other ∙ or_false (list_any (begins kind) es) ∙ f.new;
        windowless = window_still es e (fresh_dead es f.new) ∙ f.windowless;
        nothing = stream_more es e ∙ ap (λ (ws : List (ℕ × QueueNote)). kind.own (all es) ++ ws)
            (nothing_more es e (fresh_dead es f.new) (λ h. absurd (both_ways (begins kind e) other h))) ∙ append-nil (kind.own (all es)) ∙ f.nothing;
      }

      by_case : (o : Option T) → kind.said e ≡ o → Phase (es ++ e ∷ [])
      by_case (Some terms) said = begin_step es e terms said f
      by_case None said = inl (fresh_still (ap is_some said))

  phase : (es : List E) → Phase es
  phase es = by_entries Phase (inl (record { new = refl; windowless = refl; nothing = is.own_none }))
      (λ xs e ih. ⊎_elim (λ f. fresh_step xs e f)
      (λ other. ⊎_elim (λ l. inr (⊎_elim (λ live. inl live) (λ over. inr (over_dead (xs ++ e ∷ []) over)) (live_step xs e l))) (λ d. inr (inr (dead_step xs e d))) other) ih) es

  live_at : (es : List E) → alive kind es ≡ true → Live es
  live_at es live = ⊎_elim (λ f. absurd (both_ways (alive kind es) (fresh_dead es f.new) live))
      (λ other. ⊎_elim (λ l. l) (λ d. absurd (both_ways (alive kind es) d.dead live)) other) (phase es)

  later : (before after : List E) → Live before → Live (before ++ after) ⊎ Over (before ++ after)
  later before after l = by_entries (λ (xs : List E). Live (before ++ xs) ⊎ Over (before ++ xs))
      (inl (subst Live (sym (append-nil before)) l))
      (λ xs e ih. subst (λ (ys : List E). Live ys ⊎ Over ys) (append_assoc before xs (e ∷ []))
      (⊎_elim (λ live. live_step (before ++ xs) e live) (λ over. inr (over_step (before ++ xs) e over)) ih)) after

  -- all that goes to its queue of an object that was alive and is so no more
  pub stream_at_end : (es before after : List E) (terms : T) → es ≡ before ++ after → alive kind before ≡ true → alive kind es ≡ false → first_said kind.said es ≡ Some terms
      → IsStream kind.object (kind.queue terms) (kind.make terms) kind.item (kind.out terms (window kind es) ++ kind.left terms (window kind es)) (kind.own (all es))
  stream_at_end es before after terms whole live dead said =
      ⊎_elim (λ l. absurd (both_ways (alive kind es) dead l.live))
      (λ o. subst (λ (t : T). IsStream kind.object (kind.queue t) (kind.make t) kind.item (kind.out t (window kind es) ++ kind.left t (window kind es)) (kind.own (all es))) (some_is o.terms terms (sym o.said ∙ said)) o.finished)
      (subst (λ (xs : List E). Live xs ⊎ Over xs) (sym whole) (later before after (live_at before live)))
