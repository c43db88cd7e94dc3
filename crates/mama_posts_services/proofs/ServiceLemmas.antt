-- What a service keeps as it fetches, takes and puts.
use Rattle.std.specs.Prelude.{not}
use Rattle.std.proofs.Common.{◌≡◌, ◌↔◌, ℕ, Bool, true, false, ◌&&◌, ◌==◌, zero, suc, List, [], ◌∷◌, ◌++◌, map, None, Result, Ok, refl, sym, ◌∙◌, ap, subst, append-nil, arith, ◌<◌}
use Rattle.std.proofs.lemmas.Bool.{both_ways, ne_eqb}
use mathlib.Core.List.{IsPrefix}
use Rattle.std.specs.List.{All}
use Rattle.mama_event.specs.declared.shape.Shape.{Shape}
use Rattle.mama_event.specs.declared.shape.Took.{Took}
use Rattle.mama_event.specs.declared.shape.Took.TheVariants.{Ended}
use Rattle.mama_event.specs.declared.shape.Bounds.{Bounds}
use Rattle.mama_journal.specs.Journal.{turns, all_below}
use Rattle.mama_journal.specs.Lane.{by_port}
use Rattle.mama_lane.specs.Values.{TakerValue, NoteValue, after_learn}
use Rattle.mama_lane.proofs.Lists.{by_port-append}
use Rattle.mama_ends.specs.Inlet.{InletValue, AreLawful}
use Rattle.mama_seats.specs.Waiting.{Queued, waits}
use Rattle.mama_posts_services.specs.Service.{ServiceValue, IsTaking, IsIdle, MadeStep, finished, took, IsNewTaker, holding}

-- ---- whether all is over

same_bool : (a b : Bool) → ((a ≡ true) ↔ (b ≡ true)) → a ≡ b
same_bool true b says = sym (says.0 refl)
same_bool false true says = says.1 refl
same_bool false false says = refl

-- where a test was false, the entry that makes it true tells what it is afterwards
pub turns_over : {E : Type 0} (test : List E → Bool) (before : List E) (e : E) (ends : Bool) → test before ≡ false → ((ends ≡ true) ↔ (turns test before e ≡ true)) → ends ≡ test (before ++ e ∷ [])
turns_over test before e ends going says =
    same_bool ends (turns test before e) says ∙ ap (λ (b : Bool). test (before ++ e ∷ []) && not b) going ∙ and_true (test (before ++ e ∷ []))
  where
    and_true : (b : Bool) → (b && true) ≡ b
    and_true true = refl
    and_true false = refl

-- what is said of an answer is said of what it holds
pub ends_says : {E : Type 0} (answer : Result Took E) (t : Took) (ends last : Bool) → answer ≡ Ok t → ((ends ≡ true) ↔ (t ≡ Ended)) → ((answer ≡ Ok Ended) ↔ (last ≡ true)) → ((ends ≡ true) ↔ (last ≡ true))
ends_says answer t ends last is says tells = ((λ h. tells.0 (is ∙ ap Ok (says.0 h))), (λ h. says.1 (holds (tells.1 h))))
  where
    holds : answer ≡ Ok Ended → t ≡ Ended
    holds at = cc

-- a test that holds of no number holds of all numbers below none alone
pub none_below : (n : ℕ) → (n == 0) ≡ all_below n (λ k. false)
none_below zero = refl
none_below (suc n) = ne_eqb (suc n) 0 (λ e. cc) ∙ sym (and_false (all_below n (λ k. false)))
  where
    and_false : (b : Bool) → (b && false) ≡ false
    and_false true = refl
    and_false false = refl

-- ---- what was taken

-- a taker that took nothing
pub new_lawful : {N : Type 0} (lawful : Bounds → ℕ → List N → Type 0) → ((bounds : Bounds) (port : ℕ) → lawful bounds port []) → (taker : TakerValue N) → taker.taken ≡ [] → AreLawful lawful taker
new_lawful {N} lawful start taker none = record {
  ports = subst (All (λ (e : ℕ × N). e.0 < taker.ports)) (sym none) (λ k d small. absurd (omega arith));
  each = λ port. subst (λ (es : List (ℕ × N)). lawful taker.bounds port (by_port port es)) (sym none) (start taker.bounds port);
}

pub new_inlet : {N : Type 0} {bounds : Bounds} {ports : ℕ} (inlet : InletValue N) (taker : TakerValue N) → inlet ≡ record { taker = taker; kept = [] } → IsNewTaker bounds ports taker → IsNewTaker bounds ports inlet.taker
new_inlet {N} {bounds} {ports} inlet taker is new = subst (λ (i : InletValue N). IsNewTaker bounds ports i.taker) (sym is) new

module _ {N P : Type 0} (shape : Shape) (ports : ℕ) (lawful : Bounds → ℕ → List N → Type 0) (is_over : List (ℕ × N) → Bool) where
  -- a service that is to begin
  pub starts : (service : ServiceValue N P) → service.shape ≡ shape → service.journal ≡ [] → service.inlet.kept ≡ [] → IsNewTaker shape.bounds ports service.inlet.taker → AreLawful lawful service.inlet.taker
      → IsTaking shape ports lawful is_over service
  starts service same none clear new may = record {
    shape_is = same;
    ports_are = new.ports_are;
    bounds_are = new.bounds_are;
    taken = new.taken ∙ sym (ap (λ (es : List (ℕ × N)). es ++ service.inlet.kept) none ∙ clear);
    lawful = may;
    over = λ is. clear;
  }

  -- what the journal has of a port is what the port may put
  pub journal_lawful : ((bounds : Bounds) (port : ℕ) (front back : List N) → lawful bounds port (front ++ back) → lawful bounds port front)
      → (service : ServiceValue N P) → IsTaking shape ports lawful is_over service → (port : ℕ) → lawful shape.bounds port (by_port port service.journal)
  journal_lawful prefix service is port =
      let parts : by_port port service.inlet.taker.taken ≡ by_port port service.journal ++ by_port port service.inlet.kept =
      ap (by_port port) is.taken ∙ by_port-append port service.journal service.inlet.kept in
      prefix shape.bounds port (by_port port service.journal) (by_port port service.inlet.kept)
      (subst (lawful shape.bounds port) parts
      (subst (λ (b : Bounds). lawful b port (by_port port service.inlet.taker.taken)) is.bounds_are (is.lawful.each port)))

  -- an event was fetched
  pub fetched : (service : ServiceValue N P) (inlet : InletValue N) (port : ℕ) (note : N) → IsTaking shape ports lawful is_over service → is_over service.journal ≡ false
      → inlet.taker.taken ≡ service.journal ++ (port, note) ∷ [] → inlet.taker ≡ record service.inlet.taker { taken = inlet.taker.taken } → AreLawful lawful inlet.taker
      → IsTaking shape ports lawful is_over (holding (record service { inlet = inlet }) port note)
  fetched service inlet port note is going next others may = record {
    shape_is = is.shape_is;
    ports_are = ap (λ (t : TakerValue N). t.ports) others ∙ is.ports_are;
    bounds_are = ap (λ (t : TakerValue N). t.bounds) others ∙ is.bounds_are;
    taken = next;
    lawful = may;
    over = λ over. absurd (both_ways (is_over service.journal) going over);
  }

  -- the event that was fetched was taken
  pub taken_more : (service new : ServiceValue N P) (port : ℕ) (note : N) → IsTaking shape ports lawful is_over (holding service port note)
      → new.shape ≡ service.shape → new.journal ≡ service.journal ++ (port, note) ∷ [] → new.inlet ≡ service.inlet → service.inlet.kept ≡ [] → IsTaking shape ports lawful is_over new
  taken_more service new port note is same more inlet clear =
      let none : new.inlet.kept ≡ [] = ap (λ (i : InletValue N). i.kept) inlet ∙ clear in
      record {
        shape_is = same ∙ is.shape_is;
        ports_are = ap (λ (i : InletValue N). i.taker.ports) inlet ∙ is.ports_are;
        bounds_are = ap (λ (i : InletValue N). i.taker.bounds) inlet ∙ is.bounds_are;
        taken = ap (λ (i : InletValue N). i.taker.taken) inlet ∙ is.taken ∙ sym more ∙ sym (append-nil new.journal) ∙ ap (λ (es : List (ℕ × N)). new.journal ++ es) (sym none);
        lawful = subst (λ (i : InletValue N). AreLawful lawful i.taker) (sym inlet) is.lawful;
        over = λ over. none;
      }

  -- only what is left has changed
  pub stays : (service new : ServiceValue N P) → new ≡ record service { left = new.left } → IsTaking shape ports lawful is_over service → IsTaking shape ports lawful is_over new
  stays service new same is = record {
    shape_is = ap (λ (s : ServiceValue N P). s.shape) same ∙ is.shape_is;
    ports_are = ap (λ (s : ServiceValue N P). s.inlet.taker.ports) same ∙ is.ports_are;
    bounds_are = ap (λ (s : ServiceValue N P). s.inlet.taker.bounds) same ∙ is.bounds_are;
    taken = ap (λ (s : ServiceValue N P). s.inlet.taker.taken) same ∙ is.taken ∙ sym (ap (λ (s : ServiceValue N P). s.journal ++ s.inlet.kept) same);
    lawful = subst (λ (i : InletValue N). AreLawful lawful i.taker) (sym (ap (λ (s : ServiceValue N P). s.inlet) same)) is.lawful;
    over = λ over. ap (λ (s : ServiceValue N P). s.inlet.kept) same ∙ is.over (sym (ap (λ (s : ServiceValue N P). is_over s.journal) same) ∙ over);
  }

  -- a note was learnt
  pub learnt : (service new : ServiceValue N P) (note : NoteValue N) → new ≡ record service { inlet = record service.inlet { taker = after_learn service.inlet.taker note } }
      → IsTaking shape ports lawful is_over service → IsTaking shape ports lawful is_over new
  learnt service new note same is = subst (IsTaking shape ports lawful is_over) (sym same) (record {
    shape_is = is.shape_is;
    ports_are = is.ports_are;
    bounds_are = is.bounds_are;
    taken = is.taken;
    lawful = record { ports = is.lawful.ports; each = is.lawful.each };
    over = is.over;
  })

module _ {N P : Type 0} where
  -- what is put afterwards changes nothing of a step
  pub made_after : (old between new : ServiceValue N P) → MadeStep old between → new ≡ record between { left = new.left } → MadeStep old new
  made_after old between new (finished first rest left journal inlet) same =
      finished first rest left (ap (λ (s : ServiceValue N P). s.journal) same ∙ journal) (ap (λ (s : ServiceValue N P). s.inlet) same ∙ inlet)
  made_after old between new (took port note left journal kept) same =
      took port note left (ap (λ (s : ServiceValue N P). s.journal) same ∙ journal) (ap (λ (s : ServiceValue N P). s.inlet.kept) same ∙ kept)

  -- what was left is put
  pub made_left : (old new : ServiceValue N P) (has : Bool) → ((has ≡ false) ↔ (old.left ≡ [])) → has ≡ true → new ≡ old → MadeStep old new
  made_left old new has clear some same = by_left old.left refl
    where
      by_left : (left : List P) → old.left ≡ left → MadeStep old new
      by_left [] none = absurd (both_ways has (clear.1 none) some)
      by_left (first ∷ rest) is = finished first rest is (ap (λ (s : ServiceValue N P). s.journal) same) (ap (λ (s : ServiceValue N P). s.inlet) same)

  -- an event was taken
  pub made_taken : (view old new : ServiceValue N P) (port : ℕ) (note : N) → view ≡ old → old.left ≡ [] → new.journal ≡ view.journal ++ (port, note) ∷ [] → new.inlet.kept ≡ [] → MadeStep old new
  made_taken view old new port note same left more kept = took port note left (more ∙ ap (λ (s : ServiceValue N P). s.journal ++ (port, note) ∷ []) same) kept

  -- no event came
  pub is_idle : (view old : ServiceValue N P) (inlet : InletValue N) → view ≡ old → old.left ≡ [] → inlet ≡ view.inlet → inlet.kept ≡ []
      → All (λ (note : ℕ × List N). IsPrefix note.1 (by_port note.0 view.inlet.taker.taken)) view.inlet.taker.learnt → IsIdle old
  is_idle view old inlet same left is kept caught = record {
    left = left;
    kept = sym (ap (λ (i : InletValue N). i.kept) (is ∙ ap (λ (s : ServiceValue N P). s.inlet) same)) ∙ kept;
    caught_up = subst (λ (s : ServiceValue N P). All (λ (note : ℕ × List N). IsPrefix note.1 (by_port note.0 s.inlet.taker.taken)) s.inlet.taker.learnt) same caught;
  }

  pub first_left : (view old : ServiceValue N P) (first : P) (rest : List P) → view ≡ old → view.left ≡ first ∷ rest → (x : P) × (old.left ≡ x ∷ rest)
  first_left view old first rest same begins = (first, sym (ap (λ (s : ServiceValue N P). s.left) same) ∙ begins)

-- ---- what waits, as it is seen

pub begins : {A B : Type 0} (f : A → B) (all : List A) (x : A) (rest : List A) → all ≡ x ∷ rest → map f all ≡ f x ∷ map f rest
begins f all x rest is = ap (map f) is

-- what is left where nothing was, after some puts
pub lays_all : {A B : Type 0} (f : A → B) (left : Queued A) (items before : List A) (puts : List B)
    → left ≡ record { apart = None; rest = items } → map f items ≡ map f before ++ puts → before ≡ [] → map f (waits left) ≡ puts
lays_all {A} {B} f left items before puts is lays none =
    ap (λ (w : Queued A). map f (waits w)) is ∙ lays ∙ ap (λ (xs : List A). map f xs ++ puts) none

pub lays_none : {A B : Type 0} (f : A → B) (left : Queued A) (items : List A) → left ≡ record { apart = None; rest = items } → items ≡ [] → map f (waits left) ≡ []
lays_none {A} {B} f left items is none = ap (λ (w : Queued A). map f (waits w)) is ∙ ap (map f) none
