-- What the closing of the lanes of a crew tells of the edges, of what was taken and of what was put.
use Rattle.std.specs.Prelude.{slice_index_or}
use Rattle.std.specs.List.{All, slice_get}
use Rattle.std.proofs.Common.{◌≡◌, ℕ, zero, suc, ◌+◌, ◌<◌, ◌≤◌, Bool, true, List, [], ◌∷◌, ◌++◌, Some, refl, sym, ◌∙◌, ap, subst, arith, append-nil}
use Rattle.mama_journal.specs.Lane.{by_port, from_port, IsEdge}
use Rattle.mama_event.specs.declared.shape.Shape.{Shape}
use Rattle.mama_event.specs.declared.shape.Bounds.{Bounds}
use Rattle.mama_script.specs.declared.publisher.PublisherPart.{PublisherPart}
use Rattle.mama_rules_rounds.specs.Setting.{no_section}
use Rattle.mama_rules_rounds.specs.Sections.{publishers_from}
use Rattle.mama_lane.specs.Values.{TakerValue, PortValue}
use Rattle.mama_seats.specs.Sender.{script_of}
use Rattle.mama_ends.specs.Inlet.{InletValue}
use Rattle.mama_posts_services.specs.Service.{ServiceValue, IsTaking}
use Rattle.mama_laws_legal.proofs.Lists.{by_port-from}
use Rattle.mama_gather.specs.Edge.{IsEdgeOf}
use Rattle.mama_gather.proofs.Lists.{none_past}

-- an edge by other names of what was taken and put
pub edge_as : {N : Type 0} (last : N → Bool) (taken put t p : List N) → taken ≡ t → put ≡ p → IsEdge last taken put → IsEdge last t p
edge_as {N} last taken put t p is_taken is_put edge =
    subst (λ (xs : List N). IsEdge last xs p) is_taken (subst (IsEdge last taken) is_put edge)

-- the edge of a port, by its number, and by what was taken and put
pub edge_by : {N : Type 0} (last : N → Bool) (taker : TakerValue N) (port : PortValue N) (number : ℕ) (journal : List (ℕ × N)) (put : List N)
    → taker.taken ≡ journal → port.number ≡ number → port.put ≡ put → IsEdgeOf last taker port → IsEdge last (by_port number journal) put
edge_by {N} last taker port number journal put taken is whole edge =
    edge_as last (by_port port.number taker.taken) port.put (by_port number journal) put
    (ap (λ (n : ℕ). by_port n taker.taken) is ∙ ap (by_port number) taken) whole edge

pub edge_of_none : {N : Type 0} (last : N → Bool) (taken : List N) → taken ≡ [] → IsEdge last taken []
edge_of_none {N} last taken none =
    subst (λ (xs : List N). IsEdge last xs []) (sym none) (record { rest = []; prefix = refl; whole = λ h. refl })

-- what was put, where nothing is left
pub put_whole : {N : Type 0} (put left whole : List N) → put ++ left ≡ whole → left ≡ [] → put ≡ whole
put_whole {N} put left whole is none = sym (append-nil put) ∙ ap (λ (xs : List N). put ++ xs) (sym none) ∙ is

-- what was taken, where nothing is kept
pub taken_whole : {N : Type 0} (inlet : InletValue N) (journal : List (ℕ × N)) → inlet.taker.taken ≡ journal ++ inlet.kept → inlet.kept ≡ [] → inlet.taker.taken ≡ journal
taken_whole {N} inlet journal is none = is ∙ ap (λ (es : List (ℕ × N)). journal ++ es) none ∙ append-nil journal

pub service_taken : {N P : Type 0} (shape : Shape) (ports : ℕ) (may_come : Bounds → ℕ → List N → Type 0) (is_over : List (ℕ × N) → Bool) (service : ServiceValue N P) → IsTaking shape ports may_come is_over service → is_over service.journal ≡ true
    → service.inlet.taker.taken ≡ service.journal
service_taken shape ports may_come is_over service takes over = taken_whole service.inlet service.journal takes.taken (takes.over over)

-- nothing came by a port that is not there
pub service_none : {N P : Type 0} (shape : Shape) (ports port : ℕ) (may_come : Bounds → ℕ → List N → Type 0) (is_over : List (ℕ × N) → Bool) (service : ServiceValue N P) → IsTaking shape ports may_come is_over service
    → service.inlet.taker.taken ≡ service.journal → ports ≤ port → by_port port service.journal ≡ []
service_none {N} {P} shape ports port may_come is_over service takes taken past =
    sym (ap (by_port port) taken)
    ∙ none_past ports port service.inlet.taker.taken (subst (λ (n : ℕ). All (λ (e : ℕ × N). e.0 < n) service.inlet.taker.taken) takes.ports_are takes.lawful.ports) past

-- what came by the one port of a lane
pub one_port : {N : Type 0} (taken : List (ℕ × N)) (notes : List N) → taken ≡ from_port 0 notes → by_port 0 taken ≡ notes
one_port taken notes is = ap (by_port 0) is ∙ by_port-from 0 0 notes

-- the publisher of a number in a script
pub section_at : (n : ℕ) (parts : List PublisherPart) (p : ℕ) (part : PublisherPart) → slice_get parts p ≡ Some part → slice_index_or (publishers_from n parts) p no_section ≡ script_of (n + p) part.base part.lines
section_at n [] p part at = absurd (cc at)
section_at n (s ∷ parts) zero part at =
    let first : s ≡ part = cc at in
    let number : n ≡ n + 0 = omega arith in
    ap (λ (q : PublisherPart). script_of n q.base q.lines) first ∙ ap (λ (m : ℕ). script_of m part.base part.lines) number
section_at n (s ∷ parts) (suc p) part at =
    let number : suc n + p ≡ n + suc p = omega arith in
    section_at (suc n) parts p part at ∙ ap (λ (m : ℕ). script_of m part.base part.lines) number
