-- The ports and takers of a crew, lane by lane, and what the closing of a lane tells of each.
use Rattle.std.specs.List.{All, AllZip}
use Rattle.std.proofs.Common.{◌≡◌, ℕ, ◌<◌, Bool, List, [], ◌∷◌, length, map, sym, ◌∙◌, ap, subst}
use Rattle.std.proofs.lemmas.List.{length-map}
use Rattle.std.proofs.lemmas.List.Elements.{All-weaker, All-map}
use Rattle.std.proofs.lemmas.Option.{slice_get_within}
use Rattle.mama_journal.specs.Journal.{numbers_below}
use Rattle.mama_lane.specs.Values.{LaneId, LaneValue, PortValue, TakerValue}
use Rattle.mama_posts_services.specs.Ports.{ids_of}
use Rattle.mama_crew.specs.Hall.{IsLaneAt}
use Rattle.mama_gather.specs.Edge.{IsEdgeOf}
use Rattle.mama_gather.proofs.Lists.{found_at, all_at, map_get, get_same, numbered_len, numbered_at, same_lists, all_mapped}

-- ---- which lanes they belong to

pub ports_lane : {S N : Type 0} (port : S → PortValue N) (Q : S → Type 0) (id : LaneId) (xs : List S) (ports : List (PortValue N)) → ports ≡ map port xs → All Q xs → ((s : S) → Q s → (port s).lane ≡ id)
    → All (λ (p : PortValue N). p.lane ≡ id) ports
ports_lane {S} {N} port Q id xs ports are all own =
    subst (All (λ (p : PortValue N). p.lane ≡ id)) (sym are) (All-map (λ (p : PortValue N). p.lane ≡ id) port xs (All-weaker Q (λ s. (port s).lane ≡ id) own xs all))

pub takers_lanes : {S N : Type 0} (taker : S → TakerValue N) (number : S → ℕ) (xs : List S) (n : ℕ) (lanes : List LaneValue) (takers : List (TakerValue N)) → takers ≡ map taker xs → map number xs ≡ numbers_below n → length lanes ≡ n
    → All (λ s. IsLaneAt lanes (number s) (taker s).lane) xs → map (λ t. t.lane) takers ≡ ids_of lanes
takers_lanes {S} {N} taker number xs n lanes takers are numbers count own =
    ap (map (λ (t : TakerValue N). t.lane)) are
    ∙ same_lists (map (λ (t : TakerValue N). t.lane) (map taker xs)) (ids_of lanes)
    (length-map (map taker xs) (λ (t : TakerValue N). t.lane) ∙ length-map xs taker ∙ numbered_len number xs n numbers ∙ sym count ∙ sym (length-map lanes (λ (l : LaneValue). l.id)))
    (λ k a b is_a is_b.
    let small : k < length xs = subst (λ (m : ℕ). k < m) (length-map (map taker xs) (λ (t : TakerValue N). t.lane) ∙ length-map xs taker) (slice_get_within (map (λ (t : TakerValue N). t.lane) (map taker xs)) k a is_a) in
    let found = found_at xs k small in
    let at : IsLaneAt lanes (number found.0) (taker found.0).lane = all_at (λ s. IsLaneAt lanes (number s) (taker s).lane) xs k found.0 own found.1 in
    let here : IsLaneAt lanes k (taker found.0).lane = subst (λ (m : ℕ). IsLaneAt lanes m (taker found.0).lane) (numbered_at number xs n k found.0 numbers found.1) at in
    get_same (map (λ (t : TakerValue N). t.lane) (map taker xs)) k a (taker found.0).lane is_a (map_get (λ (t : TakerValue N). t.lane) (map taker xs) k (taker found.0) (map_get taker xs k found.0 found.1))
    ∙ get_same (ids_of lanes) k (taker found.0).lane b here is_b)

-- ---- the edges, seat by seat

pub edges_seen : {S N : Type 0} (last : N → Bool) (port : S → PortValue N) (xs : List S) (ports : List (PortValue N)) (taker own : TakerValue N) → ports ≡ map port xs → taker ≡ own → All (IsEdgeOf last taker) ports
    → All (λ s. IsEdgeOf last own (port s)) xs
edges_seen {S} {N} last port xs ports taker own are is edges =
    all_mapped (IsEdgeOf last own) port xs (subst (All (IsEdgeOf last own)) are (subst (λ (t : TakerValue N). All (IsEdgeOf last t) ports) is edges))

zip_mapped : {A B C : Type 0} (R : A → C → Type 0) (f : B → C) (xs : List A) (ys : List B) → AllZip R xs (map f ys) → AllZip (λ x y. R x (f y)) xs ys
zip_mapped R f [] [] all = tt
zip_mapped R f [] (y ∷ ys) all = absurd all
zip_mapped R f (x ∷ xs) [] all = absurd all
zip_mapped R f (x ∷ xs) (y ∷ ys) all = (all.0, zip_mapped R f xs ys all.1)

pub pairs_seen : {S N : Type 0} (last : N → Bool) (taker : S → TakerValue N) (xs : List S) (ports own : List (PortValue N)) (takers : List (TakerValue N)) → takers ≡ map taker xs → ports ≡ own
    → AllZip (λ port t. IsEdgeOf last t port) ports takers → AllZip (λ port s. IsEdgeOf last (taker s) port) own xs
pairs_seen {S} {N} last taker xs ports own takers are is edges =
    zip_mapped (λ port t. IsEdgeOf last t port) taker own xs
    (subst (AllZip (λ (port : PortValue N) (t : TakerValue N). IsEdgeOf last t port) own) are
    (subst (λ (ps : List (PortValue N)). AllZip (λ (port : PortValue N) (t : TakerValue N). IsEdgeOf last t port) ps takers) is edges))
