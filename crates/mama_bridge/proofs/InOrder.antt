-- The links of all topics, as they are taken in order of joining.
use Rattle.std.specs.Prelude.{option_to_list, IfNone, sum_by}
use Rattle.std.specs.BTreeMap.{BTreeMap, get, is_at}
use Rattle.std.specs.Map.{set_value, values_of}
use Rattle.std.specs.Ordering.{nat_cmp}
use Rattle.std.proofs.Common.{◌≡◌, ℕ, zero, suc, ◌+◌, ◌<◌, ◌≤◌, Bool, true, false, ◌==◌, cond, List, [], ◌∷◌, ◌++◌, length, map, filter, get_or, take, drop, Option, None, Some, refl, sym, ◌∙◌, ap, arith, subst, eq-eqb, append-nil, append_assoc, length-append, add-zero}
use Rattle.std.proofs.lemmas.Bool.{eqb-true}
use Rattle.std.proofs.lemmas.List.{map-append, length-map, take_all, get_or-append-add}
use Rattle.std.proofs.lemmas.List.Sums.{sum_by-append}
use Rattle.std.proofs.lemmas.Map.Entries.{sum_by-set_value}
use Rattle.mama_laws_bridge.specs.Table.{SubRow}
use Rattle.mama_bridge.specs.declared.places.Place.{Place}
use Rattle.mama_bridge.specs.declared.subs.SubLink.{SubLink}
use Rattle.mama_bridge.specs.Linked.{Linked}
use Rattle.mama_bridge.specs.Links.{SubView, sub_seen, sub_view, sub_held, row_is_on}
use Rattle.mama_bridge.specs.Live.{links_on, links_held, all_held, OnTopic, place_of, TakesNext, IsTaken}

heads : {V : Type 0} {v w : V} {vs ws : List V} → v ∷ vs ≡ w ∷ ws → v ≡ w
heads e = cc

tails : {V : Type 0} {v w : V} {vs ws : List V} → v ∷ vs ≡ w ∷ ws → vs ≡ ws
tails e = cc

-- the row at an index
record RowAt (rows : List SubRow) (i : ℕ) : Type 0 where
  pub row : SubRow
  pub rest : drop i rows ≡ row ∷ drop (suc i) rows
  pub front : take (suc i) rows ≡ take i rows ++ row ∷ []
  pub place : (d : Place) → get_or (map place_of rows) i d ≡ place_of row

row_at : (rows : List SubRow) (i : ℕ) → i < length rows → RowAt rows i
row_at [] i lt = absurd (omega arith)
row_at (row ∷ rows) zero lt = record { row = row; rest = refl; front = refl; place = λ d. refl }
row_at (row ∷ rows) (suc i) lt =
    let more = row_at rows i (omega arith) in
    record { row = more.row; rest = more.rest; front = ap (λ (rs : List SubRow). row ∷ rs) more.front; place = more.place }

-- the first of a topic's links stands for the first of its rows
first_is : (r : Option SubLink) (old new : List SubLink) (v : SubView) (vs : List SubView) → IfNone r (old ≡ []) → old ≡ option_to_list r ++ new → map sub_seen old ≡ v ∷ vs → (map sub_seen (option_to_list r) ≡ v ∷ []) × (map sub_seen new ≡ vs)
first_is None old new v vs none split h = absurd (let bad : [] ≡ v ∷ vs = sym (ap (map sub_seen) none) ∙ h in cc)
first_is (Some link) old new v vs none split h =
    let e : sub_seen link ∷ map sub_seen new ≡ v ∷ vs = sym (ap (map sub_seen) split) ∙ h in
    (ap (λ (w : SubView). w ∷ []) (heads e), tails e)

-- the links of the first rows are taken, and those of the others are not
abbrev pub IsTakenTo : List Place → BTreeMap ℕ Linked → BTreeMap ℕ Linked → List SubLink → ℕ → Type 0
IsTakenTo places old topics links i = (rows : List SubRow) → places ≡ map place_of rows → ((topic : ℕ) → map sub_seen (links_on old topic) ≡ map sub_view (filter (row_is_on topic) rows))
    → (map sub_seen links ≡ map sub_view (take i rows)) × ((topic : ℕ) → map sub_seen (links_on topics topic) ≡ map sub_view (filter (row_is_on topic) (drop i rows)))

one_taken : (places : List Place) (old topics topics' : BTreeMap ℕ Linked) (links links' : List SubLink) (i topic : ℕ) (d : Place) (r : Option SubLink) → i < length places → topic ≡ (get_or places i d).topic
    → OnTopic topic (λ a b. a ≡ option_to_list r ++ b) topics topics' → IfNone r (links_on topics topic ≡ []) → links' ≡ links ++ option_to_list r
    → IsTakenTo places old topics links i → IsTakenTo places old topics' links' (i + 1)
one_taken places old topics topics' links links' i topic d r lt is on none put before rows h k =
    let now = before rows h k in
    let within : i < length rows = subst (λ (n : ℕ). i < n) (ap length h ∙ length-map rows place_of) lt in
    let found = row_at rows i within in
    let next : i + 1 ≡ suc i = omega arith in
    let same : topic ≡ found.row.terms.topic = is ∙ ap (λ (ps : List Place). (get_or ps i d).topic) h ∙ ap (λ (p : Place). p.topic) (found.place d) in
    let here : map sub_seen (links_on topics topic) ≡ sub_view found.row ∷ map sub_view (filter (row_is_on topic) (drop (suc i) rows)) =
    now.1 topic ∙ ap (λ (rs : List SubRow). map sub_view (filter (row_is_on topic) rs)) found.rest
    ∙ ap (λ (b : Bool). map sub_view (cond b (found.row ∷ filter (row_is_on topic) (drop (suc i) rows)) (filter (row_is_on topic) (drop (suc i) rows)))) (eq-eqb topic found.row.terms.topic same) in
    let first = first_is r (links_on topics topic) (links_on topics' topic) (sub_view found.row) (map sub_view (filter (row_is_on topic) (drop (suc i) rows))) none on.here here in (
      ap (map sub_seen) put ∙ map-append sub_seen links (option_to_list r) ∙ ap (λ (vs : List SubView). vs ++ map sub_seen (option_to_list r)) now.0
          ∙ ap (λ (vs : List SubView). map sub_view (take i rows) ++ vs) first.0 ∙ sym (map-append sub_view (take i rows) (found.row ∷ []))
          ∙ ap (map sub_view) (sym found.front) ∙ ap (λ (n : ℕ). map sub_view (take n rows)) (sym next),
      λ q. at found same first.1 q (topic == q) refl ∙ ap (λ (n : ℕ). map sub_view (filter (row_is_on q) (drop n rows))) (sym next),
    )
  where
    at : (found : RowAt rows i) → topic ≡ found.row.terms.topic → map sub_seen (links_on topics' topic) ≡ map sub_view (filter (row_is_on topic) (drop (suc i) rows))
        → (q : ℕ) (b : Bool) → (topic == q) ≡ b → map sub_seen (links_on topics' q) ≡ map sub_view (filter (row_is_on q) (drop (suc i) rows))
    at found same left q true e = subst (λ n. map sub_seen (links_on topics' n) ≡ map sub_view (filter (row_is_on n) (drop (suc i) rows))) (eqb-true topic q e) left
    at found same left q false e =
        ap (map sub_seen) (on.others q e) ∙ (before rows h k).1 q
        ∙ ap (λ (rs : List SubRow). map sub_view (filter (row_is_on q) rs)) found.rest
        ∙ ap (λ (b : Bool). map sub_view (cond b (found.row ∷ filter (row_is_on q) (drop (suc i) rows)) (filter (row_is_on q) (drop (suc i) rows)))) (off (q == found.row.terms.topic) refl)
      where
        off : (b : Bool) → (q == found.row.terms.topic) ≡ b → b ≡ false
        off true w =
            let one : (topic == q) ≡ true = eq-eqb topic q (same ∙ sym (eqb-true q found.row.terms.topic w)) in
            absurd (let bad : false ≡ true = sym e ∙ one in cc)
        off false w = refl

-- one entry more
pub entry_taken : (places front rest : List Place) (entry : Option Place) (old topics topics' : BTreeMap ℕ Linked) (links links' : List SubLink) → places ≡ (front ++ option_to_list entry) ++ rest
    → TakesNext entry topics topics' links links' → IsTakenTo places old topics links (length front) → IsTakenTo places old topics' links' (length (front ++ option_to_list entry))
entry_taken places front rest None old topics topics' links links' whole step before = λ rows h k.
    let now = before rows h k in
    let len : length front ≡ length (front ++ []) = sym (ap length (append-nil front)) in (
      ap (map sub_seen) step.1 ∙ now.0 ∙ ap (λ n. map sub_view (take n rows)) len,
      λ topic. ap (λ m. map sub_seen (links_on m topic)) step.0 ∙ now.1 topic ∙ ap (λ n. map sub_view (filter (row_is_on topic) (drop n rows))) len,
    )
entry_taken places front rest (Some place) old topics topics' links links' whole step before =
    let len : length (front ++ place ∷ []) ≡ length front + 1 = length-append front (place ∷ []) in
    let all : length places ≡ (length front + 1) + length rest = ap length whole ∙ length-append (front ++ place ∷ []) rest ∙ ap (λ n. n + length rest) len in
    let at : get_or places (length front) place ≡ place = ap (λ (ps : List Place). get_or ps (length front) place) (whole ∙ append_assoc front (place ∷ []) rest) ∙ ap (λ n. get_or (front ++ place ∷ rest) n place) (sym (add-zero (length front))) ∙ get_or-append-add front (place ∷ rest) 0 place in
    subst (λ n. IsTakenTo places old topics' links' n) (sym len)
    (one_taken places old topics topics' links links' (length front) place.topic place step.0 (omega arith) (ap (λ (p : Place). p.topic) (sym at)) step.1 step.2 step.3 before)

pub all_taken : (places : List Place) (old topics : BTreeMap ℕ Linked) (links : List SubLink) (i : ℕ) → length places ≤ i → IsTakenTo places old topics links i → IsTaken places old links
all_taken places old topics links i most taken rows h k =
    let within : length rows ≤ i = subst (λ (n : ℕ). n ≤ i) (ap length h ∙ length-map rows place_of) most in
    (taken rows h k).0 ∙ ap (map sub_view) (take_all i rows within)

-- what the links of all topics hold is less by what one held
pub held_less : (topics new : BTreeMap ℕ Linked) (t : ℕ) (v w : Linked) (r : Option SubLink) → Some v ≡ get nat_cmp topics t → new.entries ≡ set_value (is_at (nat_cmp t)) topics.entries w → v.links ≡ option_to_list r ++ w.links
    → all_held new + sum_by sub_held (option_to_list r) ≡ all_held topics
held_less topics new t v w r found written split =
    let s = sum_by-set_value links_held (is_at (nat_cmp t)) topics.entries v w (sym found) in
    let p : links_held v ≡ sum_by sub_held (option_to_list r) + links_held w = ap (sum_by sub_held) split ∙ sum_by-append sub_held (option_to_list r) w.links in
    let e : all_held new ≡ sum_by links_held (values_of (set_value (is_at (nat_cmp t)) topics.entries w)) = ap (λ es. sum_by links_held (values_of es)) written in
    omega (arith, s, p, e)

pub held_more : (links links' : List SubLink) (r : Option SubLink) → links' ≡ links ++ option_to_list r → sum_by sub_held links' ≡ sum_by sub_held links + sum_by sub_held (option_to_list r)
held_more links links' r h = ap (sum_by sub_held) h ∙ sum_by-append sub_held links (option_to_list r)
