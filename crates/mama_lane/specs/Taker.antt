-- inner: What a taker keeps: its pass, and what it took ahead of its calls.
use Rattle.std.specs.Prelude.{◌≡◌, ℕ, ◌-◌, ◌<◌, Bool, false, List, [], ◌++◌, length, take, slice_index_or}
use Rattle.std.specs.List.{list_any, AllByRecursion}
use Rattle.mama_event.specs.declared.shape.Bounds.{Bounds}
use Rattle.mama_journal.specs.Lane.{by_port}
use Rattle.mama_lane.specs.declared.view.View.{View}
use Rattle.mama_lane.specs.declared.view.Role.TheVariants.{Taker}
use Rattle.mama_lane.specs.Rule.{notes_of}
use Rattle.mama_lane.specs.Values.{TakerValue}

-- The view is a taker's, which has closed no port, and took lawful lists alone.
pub record IsTakerPass {N : Type 0} (lawful : Bounds → ℕ → List N → Type 0) (v : View N) : Type 0 where
  pub role : v.role ≡ Taker
  pub unclosed : v.closed ≡ []
  pub lawful_each : (port : ℕ) → lawful v.bounds port (by_port port v.taken)

-- the taker after it took some more, in order
abbrev pub after_takes : {N : Type 0} → TakerValue N → List (ℕ × N) → TakerValue N
after_takes taker more = record taker { taken = taker.taken ++ more }

-- the taker without what lies in its buffer, which it took last
abbrev pub without : {E N : Type 0} → TakerValue N → List (ℕ × E) → TakerValue N
without looker buffer = record looker { taken = take (length looker.taken - length buffer) looker.taken }

-- The buffer has what was taken last, each event of a port that there is. There is a flag for each port, which says
-- whether its last event was taken out of the buffer.
pub record IsTaker {E N : Type 0} (noted : E → N) (last : N → Bool) (looker : TakerValue N) (ended : List Bool) (buffer : List (ℕ × E)) : Type 0 where
  pub parts : looker.taken ≡ (without looker buffer).taken ++ notes_of noted buffer
  pub ports : AllByRecursion (λ x. x.0 < looker.ports) buffer
  pub count : length ended ≡ looker.ports
  pub flags : (port : ℕ) → slice_index_or ended port false ≡ list_any last (by_port port (without looker buffer).taken)
