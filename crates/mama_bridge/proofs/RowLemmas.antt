-- What is done to one entry's link, or to the links of all entries, is done for the rows that they stand for.
use Rattle.std.specs.Prelude.{is_some, option_to_list, sum_by}
use Rattle.std.specs.List.{list_any, flat_map}
use Rattle.std.proofs.Common.{◌≡◌, ℕ, zero, suc, ◌+◌, ◌<◌, ◌≤◌, Bool, true, false, not, cond, List, [], ◌∷◌, ◌++◌, length, map, filter, get_or, set, take, drop, Option, None, Some, refl, sym, ◌∙◌, ap, arith, subst, append-nil}
use Rattle.std.proofs.lemmas.List.{take_all}
use Rattle.std.proofs.lemmas.List.Sums.{sum_by-append}
use Rattle.std.proofs.lemmas.Option.{same_Some}
use Rattle.mama_event.specs.Object.{same_sub}
use Rattle.mama_event.specs.declared.ids.SubId.{SubId}
use Rattle.mama_event.specs.declared.wire.PieceMsg.{PieceMsg}
use Rattle.mama_laws_bridge.specs.Table.{SubRow, of_sub, changed, without}
use Rattle.mama_bridge.specs.Links.{SubView, sub_seen, sub_view, sub_held, weight, weights, end_outs, Each, PassSteps}
use Rattle.mama_bridge.specs.Linked.{is_link_of, entry_sub, entry_seen, subs_in, PassEntry, EntryDoes, EntryEnds}
use Rattle.mama_bridge.specs.Placed.{present, entry_passes, IsAt, IsOnlyAt}
use Rattle.mama_bridge.specs.declared.out.BridgeOut.{BridgeOut}
use Rattle.mama_bridge.specs.declared.subs.SubLink.{SubLink}
use Rattle.mama_bridge.proofs.Entries.{present_step, present_push}
use Rattle.mama_bridge.proofs.Stepping.{pass_more, same_at, take-set-next}
use Rattle.mama_bridge.proofs.TheOne.{none_taken, none_changed, none_without, any_of_taken}

heads : {V : Type 0} {v w : V} {vs ws : List V} → v ∷ vs ≡ w ∷ ws → v ≡ w
heads e = cc

tails : {V : Type 0} {v w : V} {vs ws : List V} → v ∷ vs ≡ w ∷ ws → vs ≡ ws
tails e = cc

both : {V : Type 0} {v w : V} {vs ws : List V} → v ≡ w → vs ≡ ws → v ∷ vs ≡ w ∷ ws
both p q = cc

-- ---- the rows of one subscription

named : (s : SubId) (link : SubLink) (row : SubRow) → sub_seen link ≡ sub_view row → is_link_of s link ≡ of_sub s row
named s link row h = ap (λ (v : SubView). same_sub v.sub s) h

-- a subscription has a link where it has a row
pub any_same : (s : SubId) (links : List SubLink) (rows : List SubRow) → map sub_seen links ≡ map sub_view rows → list_any (is_link_of s) links ≡ list_any (of_sub s) rows
any_same s [] [] h = refl
any_same s [] (row ∷ rows) h = cc
any_same s (link ∷ links) [] h = cc
any_same s (link ∷ links) (row ∷ rows) h = rw (named s link row (heads h), any_same s links rows (tails h)) refl

taken_same : (s : SubId) (links : List SubLink) (rows : List SubRow) → map sub_seen links ≡ map sub_view rows → map sub_seen (filter (is_link_of s) links) ≡ map sub_view (filter (of_sub s) rows)
taken_same s [] [] h = refl
taken_same s [] (row ∷ rows) h = cc
taken_same s (link ∷ links) [] h = cc
taken_same s (link ∷ links) (row ∷ rows) h = rw (named s link row (heads h)) (at (of_sub s row) (taken_same s links rows (tails h)))
  where
    at : (b : Bool) → map sub_seen (filter (is_link_of s) links) ≡ map sub_view (filter (of_sub s) rows)
        → map sub_seen (cond b (link ∷ filter (is_link_of s) links) (filter (is_link_of s) links)) ≡ map sub_view (cond b (row ∷ filter (of_sub s) rows) (filter (of_sub s) rows))
    at true k = both (heads h) k
    at false k = k

left_same : (s : SubId) (links : List SubLink) (rows : List SubRow) → map sub_seen links ≡ map sub_view rows → map sub_seen (without (is_link_of s) links) ≡ map sub_view (without (of_sub s) rows)
left_same s [] [] h = refl
left_same s [] (row ∷ rows) h = cc
left_same s (link ∷ links) [] h = cc
left_same s (link ∷ links) (row ∷ rows) h = rw (named s link row (heads h)) (at (of_sub s row) (left_same s links rows (tails h)))
  where
    at : (b : Bool) → map sub_seen (without (is_link_of s) links) ≡ map sub_view (without (of_sub s) rows)
        → map sub_seen (cond (not b) (link ∷ without (is_link_of s) links) (without (is_link_of s) links)) ≡ map sub_view (cond (not b) (row ∷ without (of_sub s) rows) (without (of_sub s) rows))
    at true k = k
    at false k = both (heads h) k

changes_same : (f : SubRow → SubRow) (s : SubId) (new : SubLink) (links : List SubLink) (rows : List SubRow) → map sub_seen links ≡ map sub_view rows → Each (λ (row : SubRow). sub_seen new ≡ sub_view (f row)) (filter (of_sub s) rows)
    → map sub_seen (changed (is_link_of s) (λ _. new) links) ≡ map sub_view (changed (of_sub s) f rows)
changes_same f s new [] [] h each = refl
changes_same f s new [] (row ∷ rows) h each = cc
changes_same f s new (link ∷ links) [] h each = cc
changes_same f s new (link ∷ links) (row ∷ rows) h each = rw (named s link row (heads h)) (at (changes_same f s new links rows (tails h)) (of_sub s row) each)
  where
    at : (Each (λ (r : SubRow). sub_seen new ≡ sub_view (f r)) (filter (of_sub s) rows) → map sub_seen (changed (is_link_of s) (λ _. new) links) ≡ map sub_view (changed (of_sub s) f rows))
        → (b : Bool) → Each (λ (r : SubRow). sub_seen new ≡ sub_view (f r)) (cond b (row ∷ filter (of_sub s) rows) (filter (of_sub s) rows))
        → sub_seen (cond b new link) ∷ map sub_seen (changed (is_link_of s) (λ _. new) links) ≡ sub_view (cond b (f row) row) ∷ map sub_view (changed (of_sub s) f rows)
    at more true k = both k.0 (more k.1)
    at more false k = both (heads h) (more k)

-- the one row that one link stands for
record OneRow (link : SubLink) (rows : List SubRow) : Type 0 where
  pub row : SubRow
  pub only : rows ≡ row ∷ []
  pub stands : sub_seen link ≡ sub_view row

one_row : (link : SubLink) (rows : List SubRow) → sub_seen link ∷ [] ≡ map sub_view rows → OneRow link rows
one_row link [] h = cc
one_row link (row ∷ []) h = record { row = row; only = refl; stands = heads h }
one_row link (row ∷ other ∷ rows) h = cc

-- where a subscription has no link, nothing is done
pub none_done : {O : Type 0} (f : SubRow → SubRow) (outs : SubRow → List O) (s : SubId) (links : List SubLink) (o : List O) → list_any (is_link_of s) links ≡ false → (rows : List SubRow) → map sub_seen links ≡ map sub_view rows
    → (map sub_seen links ≡ map sub_view (changed (of_sub s) f rows)) × (o ≡ o ++ flat_map outs (filter (of_sub s) rows))
none_done {O} f outs s links o none rows h =
    let no : list_any (of_sub s) rows ≡ false = sym (any_same s links rows h) ∙ none in
    (h ∙ sym (ap (map sub_view) (none_changed (of_sub s) f rows no)), sym (ap (λ rs. o ++ flat_map outs rs) (none_taken (of_sub s) rows no) ∙ append-nil o))

pub none_left : {O : Type 0} (outs : SubRow → List O) (s : SubId) (links : List SubLink) (o : List O) → list_any (is_link_of s) links ≡ false → (rows : List SubRow) → map sub_seen links ≡ map sub_view rows
    → (map sub_seen links ≡ map sub_view (without (of_sub s) rows)) × (o ≡ o ++ flat_map outs (filter (of_sub s) rows))
none_left {O} outs s links o none rows h =
    let no : list_any (of_sub s) rows ≡ false = sym (any_same s links rows h) ∙ none in
    (h ∙ sym (ap (map sub_view) (none_without (of_sub s) rows no)), sym (ap (λ rs. o ++ flat_map outs rs) (none_taken (of_sub s) rows no) ∙ append-nil o))

-- ---- one entry

no_entry : {Y : Type 0} (s : SubId) (entries : List (Option SubLink)) (i : ℕ) → IsOnlyAt (is_link_of s) entries i → None ≡ get_or entries i None → Y
no_entry s entries i at read = absurd (let bad : false ≡ true = ap (entry_passes (is_link_of s)) read ∙ at.there in cc)

pub found_any : (s : SubId) (entries : List (Option SubLink)) (r : Option ℕ) → IsAt (is_link_of s) entries r → is_some r ≡ list_any (is_link_of s) (present entries)
found_any s entries None at = sym at
found_any s entries (Some i) at = by_entry (get_or entries i None) refl
  where
    by_entry : (e : Option SubLink) → get_or entries i None ≡ e → true ≡ list_any (is_link_of s) (present entries)
    by_entry None h = no_entry s entries i at (sym h)
    by_entry (Some link) h = sym (any_of_taken (is_link_of s) (present entries) link [] (at.only ∙ ap option_to_list h))

-- what is done with the entry of a subscription is done for its row
pub entry_done : {L : Type 0} (f : SubRow → SubRow) (outs : SubRow → List (BridgeOut L)) (s : SubId) (entries : List (Option SubLink)) (i : ℕ) (old new : Option SubLink) (o0 o1 : List (BridgeOut L))
    → IsOnlyAt (is_link_of s) entries i → old ≡ get_or entries i None → entry_sub new ≡ entry_sub old → EntryDoes f outs old new o0 o1
    → (rows : List SubRow) → map sub_seen (present entries) ≡ map sub_view rows
    → (map sub_seen (present (set entries i new)) ≡ map sub_view (changed (of_sub s) f rows)) × (o1 ≡ o0 ++ flat_map outs (filter (of_sub s) rows))
entry_done {L} f outs s entries i None new o0 o1 at read names step rows h = no_entry s entries i at read
entry_done {L} f outs s entries i (Some old) None o0 o1 at read names step rows h = cc
entry_done {L} f outs s entries i (Some old) (Some new) o0 o1 at read names step rows h =
    let only : filter (is_link_of s) (present entries) ≡ old ∷ [] = at.only ∙ sym (ap option_to_list read) in
    let one = one_row old (filter (of_sub s) rows) (sym (ap (map sub_seen) only) ∙ taken_same s (present entries) rows h) in
    let now = step one.row (ap Some one.stands) in
    let each = subst (λ (rs : List SubRow). Each (λ (row : SubRow). sub_seen new ≡ sub_view (f row)) rs) (sym one.only) (same_Some (sub_seen new) (sub_view (f one.row)) now.0, tt) in (
      ap (map sub_seen) (at.put new) ∙ changes_same f s new (present entries) rows h each,
      now.1 ∙ ap (λ (os : List (BridgeOut L)). o0 ++ os) (sym (ap (flat_map outs) one.only ∙ append-nil (outs one.row))),
    )

-- an entry is emptied, and its link ends
pub entry_left : {L : Type 0} (s : SubId) (entries : List (Option SubLink)) (i : ℕ) (old new : Option SubLink) (o0 o1 : List (BridgeOut L)) → IsOnlyAt (is_link_of s) entries i → old ≡ get_or entries i None → new ≡ None → EntryEnds old o0 o1
    → (rows : List SubRow) → map sub_seen (present entries) ≡ map sub_view rows
    → (map sub_seen (present (set entries i new)) ≡ map sub_view (without (of_sub s) rows)) × (o1 ≡ o0 ++ flat_map end_outs (filter (of_sub s) rows))
entry_left {L} s entries i None new o0 o1 at read gone ends rows h = no_entry s entries i at read
entry_left {L} s entries i (Some old) new o0 o1 at read gone ends rows h =
    let only : filter (is_link_of s) (present entries) ≡ old ∷ [] = at.only ∙ sym (ap option_to_list read) in
    let one = one_row old (filter (of_sub s) rows) (sym (ap (map sub_seen) only) ∙ taken_same s (present entries) rows h) in (
      ap (λ (e : Option SubLink). map sub_seen (present (set entries i e))) gone ∙ ap (map sub_seen) at.rest ∙ left_same s (present entries) rows h,
      ends one.row (ap Some one.stands) ∙ ap (λ (os : List (BridgeOut L)). o0 ++ os) (sym (ap (flat_map end_outs) one.only ∙ append-nil (end_outs one.row))),
    )

-- ---- entries that are seen as before

heads_seen : (e f : Option SubLink) (es fs : List (Option SubView)) → entry_seen e ∷ es ≡ entry_seen f ∷ fs → map sub_seen (option_to_list e) ≡ map sub_seen (option_to_list f)
heads_seen None None es fs h = refl
heads_seen None (Some f) es fs h = cc
heads_seen (Some e) None es fs h = cc
heads_seen (Some e) (Some f) es fs h = both (same_Some (sub_seen e) (sub_seen f) (heads h)) refl

pub seen_present : (es fs : List (Option SubLink)) → map entry_seen es ≡ map entry_seen fs → map sub_seen (present es) ≡ map sub_seen (present fs)
seen_present [] [] h = refl
seen_present [] (f ∷ fs) h = cc
seen_present (e ∷ es) [] h = cc
seen_present (None ∷ es) (None ∷ fs) h = seen_present es fs (tails h)
seen_present (None ∷ es) (Some f ∷ fs) h = let bad = heads h in cc
seen_present (Some e ∷ es) (None ∷ fs) h = let bad = heads h in cc
seen_present (Some e ∷ es) (Some f ∷ fs) h = both (same_Some (sub_seen e) (sub_seen f) (heads h)) (seen_present es fs (tails h))

seen_sub : (e f : Option SubLink) → entry_seen e ≡ entry_seen f → entry_sub e ≡ entry_sub f
seen_sub None None h = refl
seen_sub None (Some f) h = cc
seen_sub (Some e) None h = cc
seen_sub (Some e) (Some f) h = ap (λ (v : SubView). Some v.sub) (same_Some (sub_seen e) (sub_seen f) h)

pub seen_subs : (es fs : List (Option SubLink)) → map entry_seen es ≡ map entry_seen fs → subs_in es ≡ subs_in fs
seen_subs [] [] h = refl
seen_subs [] (f ∷ fs) h = cc
seen_subs (e ∷ es) [] h = cc
seen_subs (e ∷ es) (f ∷ fs) h = both (seen_sub e f (heads h)) (seen_subs es fs (tails h))

-- ---- turns of loops over entries

next_written : (entries : List (Option SubLink)) (i : ℕ) (e : Option SubLink) → i < length entries → present (take (i + 1) (set entries i e)) ≡ present (take i entries) ++ option_to_list e
next_written entries i e lt =
    let one : i + 1 ≡ suc i = omega arith in
    ap (λ n. present (take n (set entries i e))) one ∙ ap present (take-set-next entries i e lt) ∙ present_push (take i entries) e

each_join : (P : SubLink → Type 0) (xs ys : List SubLink) → Each P xs → Each P ys → Each P (xs ++ ys)
each_join P [] ys h k = k
each_join P (x ∷ xs) ys h k = (h.0, each_join P xs ys h.1 k)

pub each_turn : (P : SubLink → Type 0) (entries : List (Option SubLink)) (i : ℕ) (e : Option SubLink) → i < length entries → Each P (present (take i entries)) → Each P (option_to_list e) → Each P (present (take (i + 1) (set entries i e)))
each_turn P entries i e lt h k = rw (next_written entries i e lt) (each_join P (present (take i entries)) (option_to_list e) h k)

pub each_entry : (P : SubLink → Type 0) (entries : List (Option SubLink)) (i : ℕ) (d : Option SubLink) → i < length entries → Each P (present entries) → Each P (option_to_list (get_or entries i d))
each_entry P [] i d lt h = absurd (omega arith)
each_entry P (None ∷ es) zero d lt h = tt
each_entry P (Some link ∷ es) zero d lt h = (h.0, tt)
each_entry P (None ∷ es) (suc i) d lt h = each_entry P es i d (omega arith) h
each_entry P (Some link ∷ es) (suc i) d lt h = each_entry P es i d (omega arith) h.1

-- of an entry that is still to come
pub each_left : (P : SubLink → Type 0) (xs ys : List (Option SubLink)) (i : ℕ) (e : Option SubLink) → i < length xs → e ≡ get_or ys i e → drop i ys ≡ drop i xs → Each P (present xs) → Each P (option_to_list e)
each_left P xs ys i e lt read left h = subst (λ (o : Option SubLink). Each P (option_to_list o)) (sym (read ∙ same_at ys xs i e left)) (each_entry P xs i e lt h)

pub weights_written : (topic : ℕ) (entries : List (Option SubLink)) (i : ℕ) (e : Option SubLink) → i < length entries → weights topic (present (take (i + 1) (set entries i e))) ≡ weights topic (present (take i entries)) + weights topic (option_to_list e)
weights_written topic entries i e lt = ap (weights topic) (next_written entries i e lt) ∙ sum_by-append (weight topic) (present (take i entries)) (option_to_list e)

present_left : (entries : List (Option SubLink)) (i : ℕ) (d : Option SubLink) → i < length entries → present (drop i entries) ≡ option_to_list (get_or entries i d) ++ present (drop (suc i) entries)
present_left [] i d lt = absurd (omega arith)
present_left (e ∷ es) zero d lt = refl
present_left (e ∷ es) (suc i) d lt = present_left es i d (omega arith)

pub weights_left : (topic : ℕ) (xs ys : List (Option SubLink)) (i : ℕ) (e : Option SubLink) → i < length xs → e ≡ get_or ys i e → drop i ys ≡ drop i xs
    → weights topic (present (drop i xs)) ≡ weights topic (option_to_list e) + weights topic (present (drop (i + 1) xs))
weights_left topic xs ys i e lt read left =
    let one : suc i ≡ i + 1 = omega arith in
    ap (weights topic) (present_left xs i e lt) ∙ sum_by-append (weight topic) (option_to_list (get_or xs i e)) (present (drop (suc i) xs))
    ∙ ap (λ (o : Option SubLink). weights topic (option_to_list o) + weights topic (present (drop (suc i) xs))) (sym (read ∙ same_at ys xs i e left))
    ∙ ap (λ n. weights topic (option_to_list e) + weights topic (present (drop n xs))) one

-- one entry more is passed
pass_entry_more : {L : Type 0} (topic : ℕ) (old new : List SubLink) (e e' : Option SubLink) (m0 m1 m2 : List PieceMsg) (o0 o1 o2 : List (BridgeOut L))
    → PassSteps topic old new m0 m1 o0 o1 → PassEntry topic e e' m1 m2 o1 o2 → PassSteps topic (old ++ option_to_list e) (new ++ option_to_list e') m0 m2 o0 o2
pass_entry_more {L} topic old new None e' m0 m1 m2 o0 o1 o2 steps step = rw (step.0, step.1, step.2, append-nil old, append-nil new) steps
pass_entry_more {L} topic old new (Some link) e' m0 m1 m2 o0 o1 o2 steps step = rw (step.1) (pass_more topic old new link step.0 m0 m1 m2 o0 o1 o2 steps step.3)

pub pass_turn : {L : Type 0} (topic : ℕ) (xs ys : List (Option SubLink)) (i : ℕ) (x y : Option SubLink) (m0 m1 m2 : List PieceMsg) (o0 o1 o2 : List (BridgeOut L))
    → i < length xs → length ys ≡ length xs → x ≡ get_or ys i x → drop i ys ≡ drop i xs
    → PassSteps topic (present (take i xs)) (present (take i ys)) m0 m1 o0 o1 → PassEntry topic x y m1 m2 o1 o2 → PassSteps topic (present (take (i + 1) xs)) (present (take (i + 1) (set ys i y))) m0 m2 o0 o2
pass_turn topic xs ys i x y m0 m1 m2 o0 o1 o2 lt len read left steps step =
    rw (present_step xs i x lt (read ∙ same_at ys xs i x left), next_written ys i y (omega (arith, lt, len)))
    (pass_entry_more topic (present (take i xs)) (present (take i ys)) x y m0 m1 m2 o0 o1 o2 steps step)

pub pass_all : {L : Type 0} (topic : ℕ) (xs ys : List (Option SubLink)) (i : ℕ) (m0 m1 : List PieceMsg) (o0 o1 : List (BridgeOut L))
    → length xs ≤ i → length ys ≡ length xs → PassSteps topic (present (take i xs)) (present (take i ys)) m0 m1 o0 o1 → PassSteps topic (present xs) (present ys) m0 m1 o0 o1
pass_all {L} topic xs ys i m0 m1 o0 o1 most len steps =
    let all_xs : take i xs ≡ xs = take_all i xs most in
    let all_ys : take i ys ≡ ys = take_all i ys (omega (arith, most, len)) in
    let front = subst (λ (zs : List (Option SubLink)). PassSteps {L = L} topic (present zs) (present (take i ys)) m0 m1 o0 o1) all_xs steps in
    subst (λ (zs : List (Option SubLink)). PassSteps {L = L} topic (present xs) (present zs) m0 m1 o0 o1) all_ys front

-- the same of what an entry's subscription is
pub pass_sub : {L : Type 0} (topic : ℕ) (x y : Option SubLink) (m0 m1 : List PieceMsg) (o0 o1 : List (BridgeOut L)) → PassEntry topic x y m0 m1 o0 o1 → entry_sub y ≡ entry_sub x
pass_sub topic None y m0 m1 o0 o1 step = ap entry_sub step.0
pass_sub topic (Some link) y m0 m1 o0 o1 step = ap entry_sub step.1 ∙ ap Some step.2

-- ---- what links hold

pub held_step : (entries : List (Option SubLink)) (i : ℕ) (entry : Option SubLink) → i < length entries → entry ≡ get_or entries i entry
    → sum_by sub_held (present (take (i + 1) entries)) ≡ sum_by sub_held (present (take i entries)) + sum_by sub_held (option_to_list entry)
held_step entries i entry lt read = ap (sum_by sub_held) (present_step entries i entry lt read) ∙ sum_by-append sub_held (present (take i entries)) (option_to_list entry)
