-- The links of open inboxes, as they are found by the indexes that are noted.
use Rattle.std.specs.Prelude.{is_some, option_to_list, sum_by}
use Rattle.std.specs.BTreeMap.{BTreeMap, get, is_at, keys}
use Rattle.std.specs.List.{list_any, flat_map}
use Rattle.std.specs.Map.{lookup}
use Rattle.std.proofs.Common.{◌≡◌, ℕ, Bool, true, false, not, ◌||◌, cond, List, [], ◌∷◌, ◌++◌, length, map, filter, get_or, set, Option, None, Some, refl, sym, ◌∙◌, ap, append-nil, length-append, take, ◌+◌, ◌<◌}
use Rattle.std.proofs.lemmas.List.{get_or_default}
use Rattle.std.proofs.lemmas.List.Sums.{sum_by-append}
use Rattle.mama_event.specs.EqualityLaws.{same_inbox-Decides}
use Rattle.mama_event.specs.Object.{same_inbox}
use Rattle.mama_event.specs.declared.ids.InboxId.{InboxId}
use Rattle.mama_laws_bridge.specs.Table.{InboxRow, of_inbox, changed, without}
use Rattle.mama_bridge.specs.Ids.{inbox_cmp, is_inbox_among}
use Rattle.mama_bridge.specs.Links.{InboxView, inbox_seen, inbox_view, inbox_held, Each}
use Rattle.mama_bridge.specs.Opened.{LinksIndexed, is_link_of}
use Rattle.mama_bridge.specs.Placed.{present, entry_passes, IsAt, IsOnlyAt}
use Rattle.mama_bridge.specs.declared.inboxes.InboxLink.{InboxLink}
use Rattle.mama_bridge.proofs.Entries.{present_step}
use Rattle.mama_bridge.proofs.IndexLemmas as index
use Rattle.mama_bridge.proofs.Known.{inbox_ties}
use Rattle.mama_bridge.proofs.TheOne.{none_taken, none_changed, none_without, any_of_taken}

pub among : (indexes : BTreeMap InboxId ℕ) (s : InboxId) → is_some (get inbox_cmp indexes s) ≡ is_inbox_among (keys indexes) s
among = index.among inbox_cmp (λ (link : InboxLink). link.inbox) same_inbox same_inbox-Decides inbox_ties

-- the index of an inbox's link, if it has one, is the one that is noted
pub is_noted : (indexes : BTreeMap InboxId ℕ) (entries : List (Option InboxLink)) → LinksIndexed indexes entries → (s : InboxId) (j : ℕ) (link : InboxLink) → get_or entries j None ≡ Some link → is_link_of s link ≡ true → get inbox_cmp indexes s ≡ Some j
is_noted = index.is_noted inbox_cmp (λ (link : InboxLink). link.inbox) same_inbox same_inbox-Decides inbox_ties

pub noted_more : (indexes new : BTreeMap InboxId ℕ) (inbox : InboxId) (i : ℕ) → ((q : InboxId) → get inbox_cmp new q ≡ cond (is_at (inbox_cmp inbox) q) (Some i) (get inbox_cmp indexes q)) → (one : InboxId) → is_inbox_among (keys new) one ≡ (is_inbox_among (keys indexes) one || same_inbox inbox one)
noted_more = index.noted_more inbox_cmp (λ (link : InboxLink). link.inbox) same_inbox same_inbox-Decides inbox_ties

-- one more is opened, which was not before
pub indexed_more : (indexes new : BTreeMap InboxId ℕ) (entries : List (Option InboxLink)) (inbox : InboxId) (i : ℕ) → ((q : InboxId) → get inbox_cmp new q ≡ cond (is_at (inbox_cmp inbox) q) (Some i) (get inbox_cmp indexes q))
    → is_inbox_among (keys indexes) inbox ≡ false → LinksIndexed indexes entries → LinksIndexed new entries
indexed_more = index.indexed_more inbox_cmp (λ (link : InboxLink). link.inbox) same_inbox same_inbox-Decides inbox_ties

pub indexed_push : (indexes new : BTreeMap InboxId ℕ) (entries : List (Option InboxLink)) (link : InboxLink) (i : ℕ) → i ≡ length entries → ((q : InboxId) → get inbox_cmp new q ≡ cond (is_at (inbox_cmp link.inbox) q) (Some i) (get inbox_cmp indexes q))
    → is_inbox_among (keys indexes) link.inbox ≡ false → LinksIndexed indexes entries → LinksIndexed new (entries ++ Some link ∷ [])
indexed_push = index.indexed_push inbox_cmp (λ (link : InboxLink). link.inbox) same_inbox same_inbox-Decides inbox_ties

pub indexed_less : (indexes : BTreeMap InboxId ℕ) (entries : List (Option InboxLink)) (i : ℕ) → LinksIndexed indexes entries → LinksIndexed indexes (set entries i None)
indexed_less = index.indexed_less inbox_cmp (λ (link : InboxLink). link.inbox) same_inbox same_inbox-Decides inbox_ties

pub indexed_still : (indexes : BTreeMap InboxId ℕ) (entries : List (Option InboxLink)) (i : ℕ) (old new : InboxLink) → get_or entries i None ≡ Some old → new.inbox ≡ old.inbox → LinksIndexed indexes entries → LinksIndexed indexes (set entries i (Some new))
indexed_still = index.indexed_still inbox_cmp (λ (link : InboxLink). link.inbox) same_inbox same_inbox-Decides inbox_ties

-- nothing is noted
pub indexed_same : (indexes new : BTreeMap InboxId ℕ) (entries entries' : List (Option InboxLink)) → new.entries ≡ indexes.entries → entries' ≡ entries → LinksIndexed indexes entries → LinksIndexed new entries'
indexed_same indexes new entries entries' e h indexed j link k =
    ap (λ (es : List (InboxId × ℕ)). lookup (is_at (inbox_cmp link.inbox)) es) e ∙ indexed j link (sym (ap (λ (es : List (Option InboxLink)). get_or es j None) h) ∙ k)

pub indexed_new : (indexes new : BTreeMap InboxId ℕ) (entries : List (Option InboxLink)) (link : InboxLink) (inbox : InboxId) → link.inbox ≡ inbox
    → ((q : InboxId) → get inbox_cmp new q ≡ cond (is_at (inbox_cmp inbox) q) (Some (length entries)) (get inbox_cmp indexes q)) → is_inbox_among (keys indexes) inbox ≡ false → LinksIndexed indexes entries → LinksIndexed new (entries ++ Some link ∷ [])
indexed_new indexes new entries link inbox names updates fresh indexed =
    indexed_push indexes new entries link (length entries) refl
    (λ q. updates q ∙ ap (λ (k : InboxId). cond (is_at (inbox_cmp k) q) (Some (length entries)) (get inbox_cmp indexes q)) (sym names))
    (ap (is_inbox_among (keys indexes)) names ∙ fresh) indexed

-- an entry has no link that it did not have
pub indexed_without : (indexes : BTreeMap InboxId ℕ) (entries : List (Option InboxLink)) (i : ℕ) (old new : Option InboxLink) → old ≡ get_or entries i None → ((link : InboxLink) → new ≡ Some link → old ≡ Some link)
    → LinksIndexed indexes entries → LinksIndexed indexes (set entries i new)
indexed_without indexes entries i old None read less indexed = indexed_less indexes entries i indexed
indexed_without indexes entries i old (Some link) read less indexed = indexed_still indexes entries i link link (sym read ∙ less link refl) refl indexed

-- ---- links that stand for rows

heads : {V : Type 0} {v w : V} {vs ws : List V} → v ∷ vs ≡ w ∷ ws → v ≡ w
heads e = cc

tails : {V : Type 0} {v w : V} {vs ws : List V} → v ∷ vs ≡ w ∷ ws → vs ≡ ws
tails e = cc

both : {V : Type 0} {v w : V} {vs ws : List V} → v ≡ w → vs ≡ ws → v ∷ vs ≡ w ∷ ws
both p q = cc

named : (s : InboxId) (link : InboxLink) (row : InboxRow) → inbox_seen link ≡ inbox_view row → is_link_of s link ≡ of_inbox s row
named s link row h = ap (λ (v : InboxView). same_inbox v.inbox s) h

-- an inbox is open where it has a row
pub open_same : (s : InboxId) (links : List InboxLink) (rows : List InboxRow) → map inbox_seen links ≡ map inbox_view rows → list_any (is_link_of s) links ≡ list_any (of_inbox s) rows
open_same s [] [] h = refl
open_same s [] (row ∷ rows) h = cc
open_same s (link ∷ links) [] h = cc
open_same s (link ∷ links) (row ∷ rows) h = rw (named s link row (heads h), open_same s links rows (tails h)) refl

-- the links of an inbox stand for its rows, and so do the others
pub taken_same : (s : InboxId) (links : List InboxLink) (rows : List InboxRow) → map inbox_seen links ≡ map inbox_view rows → map inbox_seen (filter (is_link_of s) links) ≡ map inbox_view (filter (of_inbox s) rows)
taken_same s [] [] h = refl
taken_same s [] (row ∷ rows) h = cc
taken_same s (link ∷ links) [] h = cc
taken_same s (link ∷ links) (row ∷ rows) h = rw (named s link row (heads h)) (at (of_inbox s row) (taken_same s links rows (tails h)))
  where
    at : (b : Bool) → map inbox_seen (filter (is_link_of s) links) ≡ map inbox_view (filter (of_inbox s) rows)
        → map inbox_seen (cond b (link ∷ filter (is_link_of s) links) (filter (is_link_of s) links)) ≡ map inbox_view (cond b (row ∷ filter (of_inbox s) rows) (filter (of_inbox s) rows))
    at true k = both (heads h) k
    at false k = k

pub left_same : (s : InboxId) (links : List InboxLink) (rows : List InboxRow) → map inbox_seen links ≡ map inbox_view rows → map inbox_seen (without (is_link_of s) links) ≡ map inbox_view (without (of_inbox s) rows)
left_same s [] [] h = refl
left_same s [] (row ∷ rows) h = cc
left_same s (link ∷ links) [] h = cc
left_same s (link ∷ links) (row ∷ rows) h = rw (named s link row (heads h)) (at (of_inbox s row) (left_same s links rows (tails h)))
  where
    at : (b : Bool) → map inbox_seen (without (is_link_of s) links) ≡ map inbox_view (without (of_inbox s) rows)
        → map inbox_seen (cond (not b) (link ∷ without (is_link_of s) links) (without (is_link_of s) links)) ≡ map inbox_view (cond (not b) (row ∷ without (of_inbox s) rows) (without (of_inbox s) rows))
    at true k = k
    at false k = both (heads h) k

-- where the links of an inbox are others, which stand for what its rows become
changes_same : (f : InboxRow → InboxRow) (s : InboxId) (new : InboxLink) (links : List InboxLink) (rows : List InboxRow) → map inbox_seen links ≡ map inbox_view rows → Each (λ (row : InboxRow). inbox_seen new ≡ inbox_view (f row)) (filter (of_inbox s) rows)
    → map inbox_seen (changed (is_link_of s) (λ _. new) links) ≡ map inbox_view (changed (of_inbox s) f rows)
changes_same f s new [] [] h each = refl
changes_same f s new [] (row ∷ rows) h each = cc
changes_same f s new (link ∷ links) [] h each = cc
changes_same f s new (link ∷ links) (row ∷ rows) h each = rw (named s link row (heads h)) (at (changes_same f s new links rows (tails h)) (of_inbox s row) each)
  where
    at : (Each (λ (r : InboxRow). inbox_seen new ≡ inbox_view (f r)) (filter (of_inbox s) rows) → map inbox_seen (changed (is_link_of s) (λ _. new) links) ≡ map inbox_view (changed (of_inbox s) f rows))
        → (b : Bool) → Each (λ (r : InboxRow). inbox_seen new ≡ inbox_view (f r)) (cond b (row ∷ filter (of_inbox s) rows) (filter (of_inbox s) rows))
        → inbox_seen (cond b new link) ∷ map inbox_seen (changed (is_link_of s) (λ _. new) links) ≡ inbox_view (cond b (f row) row) ∷ map inbox_view (changed (of_inbox s) f rows)
    at more true k = both k.0 (more k.1)
    at more false k = both (heads h) (more k)

-- where an inbox has no link, nothing is done
pub none_done : {O : Type 0} (f : InboxRow → InboxRow) (outs : InboxRow → List O) (s : InboxId) (links : List InboxLink) (o : List O) → list_any (is_link_of s) links ≡ false → (rows : List InboxRow) → map inbox_seen links ≡ map inbox_view rows
    → (map inbox_seen links ≡ map inbox_view (changed (of_inbox s) f rows)) × (o ≡ o ++ flat_map outs (filter (of_inbox s) rows))
none_done {O} f outs s links o none rows h =
    let no : list_any (of_inbox s) rows ≡ false = sym (open_same s links rows h) ∙ none in
    (h ∙ sym (ap (map inbox_view) (none_changed (of_inbox s) f rows no)), sym (ap (λ rs. o ++ flat_map outs rs) (none_taken (of_inbox s) rows no) ∙ append-nil o))

pub none_closed : {O : Type 0} (outs : InboxRow → List O) (s : InboxId) (links : List InboxLink) (o : List O) → list_any (is_link_of s) links ≡ false → (rows : List InboxRow) → map inbox_seen links ≡ map inbox_view rows
    → (map inbox_seen links ≡ map inbox_view (without (of_inbox s) rows)) × (o ≡ o ++ flat_map outs (filter (of_inbox s) rows))
none_closed {O} outs s links o none rows h =
    let no : list_any (of_inbox s) rows ≡ false = sym (open_same s links rows h) ∙ none in
    (h ∙ sym (ap (map inbox_view) (none_without (of_inbox s) rows no)), sym (ap (λ rs. o ++ flat_map outs rs) (none_taken (of_inbox s) rows no) ∙ append-nil o))

-- what an entry's link passes, it passes for the one row that it stands for
pub one_answers : {O : Type 0} (f : InboxRow → InboxRow) (outs : InboxRow → List O) (old new : InboxLink) (o0 o1 : List O)
    → ((row : InboxRow) → inbox_seen old ≡ inbox_view row → (inbox_seen new ≡ inbox_view (f row)) × (o1 ≡ o0 ++ outs row))
    → (rows : List InboxRow) → inbox_seen old ∷ [] ≡ map inbox_view rows → (inbox_seen new ∷ [] ≡ map inbox_view (map f rows)) × (o1 ≡ o0 ++ flat_map outs rows)
one_answers f outs old new o0 o1 step [] h = cc
one_answers {O} f outs old new o0 o1 step (row ∷ []) h =
    let now = step row (heads h) in
    (both now.0 refl, now.1 ∙ ap (λ (os : List O). o0 ++ os) (sym (append-nil (outs row))))
one_answers f outs old new o0 o1 step (row ∷ other ∷ rows) h = cc

pub none_answers : {O : Type 0} (f : InboxRow → InboxRow) (outs : InboxRow → List O) (o : List O) (rows : List InboxRow) → [] ≡ map inbox_view rows → ([] ≡ map inbox_view (map f rows)) × (o ≡ o ++ flat_map outs rows)
none_answers f outs o [] h = (refl, sym (append-nil o))
none_answers f outs o (row ∷ rows) h = cc

each_one : (f : InboxRow → InboxRow) (new : InboxLink) (rows : List InboxRow) → inbox_seen new ∷ [] ≡ map inbox_view (map f rows) → Each (λ (row : InboxRow). inbox_seen new ≡ inbox_view (f row)) rows
each_one f new [] h = tt
each_one f new (row ∷ []) h = (heads h, tt)
each_one f new (row ∷ other ∷ rows) h = cc

none_any : (s : InboxId) (links : List InboxLink) → filter (is_link_of s) links ≡ [] → list_any (is_link_of s) links ≡ false
none_any s [] h = refl
none_any s (link ∷ links) h = at (none_any s links) (is_link_of s link) h
  where
    at : (filter (is_link_of s) links ≡ [] → list_any (is_link_of s) links ≡ false) → (b : Bool) → cond b (link ∷ filter (is_link_of s) links) (filter (is_link_of s) links) ≡ [] → (b || list_any (is_link_of s) links) ≡ false
    at rest true e = cc
    at rest false e = rest e

-- there is a link where an inbox was found
no_entry : {Y : Type 0} (s : InboxId) (entries : List (Option InboxLink)) (i : ℕ) → IsOnlyAt (is_link_of s) entries i → None ≡ get_or entries i None → Y
no_entry s entries i at read = absurd (let bad : false ≡ true = ap (entry_passes (is_link_of s)) read ∙ at.there in cc)

pub found_any : (s : InboxId) (entries : List (Option InboxLink)) (r : Option ℕ) → IsAt (is_link_of s) entries r → is_some r ≡ list_any (is_link_of s) (present entries)
found_any s entries None at = sym at
found_any s entries (Some i) at = by_entry (get_or entries i None) refl
  where
    by_entry : (e : Option InboxLink) → get_or entries i None ≡ e → true ≡ list_any (is_link_of s) (present entries)
    by_entry None h = no_entry s entries i at (sym h)
    by_entry (Some link) h = sym (any_of_taken (is_link_of s) (present entries) link [] (at.only ∙ ap option_to_list h))

-- what is done with the entry of an inbox is done for its row
pub entry_done : {O : Type 0} (f : InboxRow → InboxRow) (outs : InboxRow → List O) (s : InboxId) (entries : List (Option InboxLink)) (i : ℕ) (old new : Option InboxLink) (o0 o1 : List O)
    → IsOnlyAt (is_link_of s) entries i → old ≡ get_or entries i None → map (λ (link : InboxLink). link.inbox) (option_to_list new) ≡ map (λ (link : InboxLink). link.inbox) (option_to_list old)
    → ((rows : List InboxRow) → map inbox_seen (option_to_list old) ≡ map inbox_view rows → (map inbox_seen (option_to_list new) ≡ map inbox_view (map f rows)) × (o1 ≡ o0 ++ flat_map outs rows))
    → (rows : List InboxRow) → map inbox_seen (present entries) ≡ map inbox_view rows
    → (map inbox_seen (present (set entries i new)) ≡ map inbox_view (changed (of_inbox s) f rows)) × (o1 ≡ o0 ++ flat_map outs (filter (of_inbox s) rows))
entry_done f outs s entries i None new o0 o1 at read names step rows h = no_entry s entries i at read
entry_done f outs s entries i (Some old) None o0 o1 at read names step rows h = cc
entry_done f outs s entries i (Some old) (Some new) o0 o1 at read names step rows h =
    let only : filter (is_link_of s) (present entries) ≡ old ∷ [] = at.only ∙ sym (ap option_to_list read) in
    let now = step (filter (of_inbox s) rows) (sym (ap (map inbox_seen) only) ∙ taken_same s (present entries) rows h) in
    (ap (map inbox_seen) (at.put new) ∙ changes_same f s new (present entries) rows h (each_one f new (filter (of_inbox s) rows) now.0), now.1)

-- an entry whose link is seen as before
still_none : (s : InboxId) (new : InboxLink) (links : List InboxLink) → filter (is_link_of s) links ≡ [] → map inbox_seen (changed (is_link_of s) (λ _. new) links) ≡ map inbox_seen links
still_none s new links h = ap (map inbox_seen) (none_changed (is_link_of s) (λ _. new) links (none_any s links h))

still_one : (s : InboxId) (old new : InboxLink) (links : List InboxLink) → inbox_seen new ≡ inbox_seen old → filter (is_link_of s) links ≡ old ∷ [] → map inbox_seen (changed (is_link_of s) (λ _. new) links) ≡ map inbox_seen links
still_one s old new [] same h = refl
still_one s old new (link ∷ links) same h = at (still_one s old new links same) (is_link_of s link) h
  where
    at : (filter (is_link_of s) links ≡ old ∷ [] → map inbox_seen (changed (is_link_of s) (λ _. new) links) ≡ map inbox_seen links)
        → (b : Bool) → cond b (link ∷ filter (is_link_of s) links) (filter (is_link_of s) links) ≡ old ∷ [] → inbox_seen (cond b new link) ∷ map inbox_seen (changed (is_link_of s) (λ _. new) links) ≡ inbox_seen link ∷ map inbox_seen links
    at rest true e = both (same ∙ ap inbox_seen (sym (heads e))) (still_none s new links (tails e))
    at rest false e = both refl (rest e)

pub entry_still : (s : InboxId) (entries : List (Option InboxLink)) (i : ℕ) (old new : Option InboxLink) → IsOnlyAt (is_link_of s) entries i → old ≡ get_or entries i None → map inbox_seen (option_to_list new) ≡ map inbox_seen (option_to_list old)
    → map inbox_seen (present (set entries i new)) ≡ map inbox_seen (present entries)
entry_still s entries i None new at read same = no_entry s entries i at read
entry_still s entries i (Some old) None at read same = cc
entry_still s entries i (Some old) (Some new) at read same = ap (map inbox_seen) (at.put new) ∙ still_one s old new (present entries) (heads same) (at.only ∙ sym (ap option_to_list read))

-- an entry is another of the same inbox
pub indexed_entry : (indexes : BTreeMap InboxId ℕ) (entries : List (Option InboxLink)) (i : ℕ) (old new : Option InboxLink) → old ≡ get_or entries i None → map (λ (link : InboxLink). link.inbox) (option_to_list new) ≡ map (λ (link : InboxLink). link.inbox) (option_to_list old)
    → LinksIndexed indexes entries → LinksIndexed indexes (set entries i new)
indexed_entry indexes entries i old None read names indexed = indexed_less indexes entries i indexed
indexed_entry indexes entries i None (Some new) read names indexed = cc
indexed_entry indexes entries i (Some old) (Some new) read names indexed = indexed_still indexes entries i old new (sym read) (heads names) indexed

-- an entry is emptied, and its link ends
pub entry_closed : {O : Type 0} (outs : InboxRow → List O) (s : InboxId) (entries : List (Option InboxLink)) (i : ℕ) (old new : Option InboxLink) (o0 o1 : List O) → IsOnlyAt (is_link_of s) entries i → old ≡ get_or entries i None
    → (new ≡ None) × ((rows : List InboxRow) → map inbox_seen (option_to_list old) ≡ map inbox_view rows → o1 ≡ o0 ++ flat_map outs rows)
    → (rows : List InboxRow) → map inbox_seen (present entries) ≡ map inbox_view rows
    → (map inbox_seen (present (set entries i new)) ≡ map inbox_view (without (of_inbox s) rows)) × (o1 ≡ o0 ++ flat_map outs (filter (of_inbox s) rows))
entry_closed outs s entries i old new o0 o1 at read closes rows h =
    let only : filter (is_link_of s) (present entries) ≡ option_to_list old = at.only ∙ sym (ap option_to_list read) in (
      ap (λ (e : Option InboxLink). map inbox_seen (present (set entries i e))) closes.0 ∙ ap (map inbox_seen) at.rest ∙ left_same s (present entries) rows h,
      closes.1 (filter (of_inbox s) rows) (sym (ap (map inbox_seen) only) ∙ taken_same s (present entries) rows h),
    )

-- what was read of an entry, at the default that clauses write
pub read_at : (entries : List (Option InboxLink)) (i : ℕ) (e : Option InboxLink) → i < length entries → e ≡ get_or entries i e → e ≡ get_or entries i None
read_at entries i e lt read = read ∙ get_or_default entries i e None lt

-- ---- what links hold

-- what the links of one entry more hold
pub held_step : (entries : List (Option InboxLink)) (i : ℕ) (entry : Option InboxLink) → i < length entries → entry ≡ get_or entries i entry
    → sum_by inbox_held (present (take (i + 1) entries)) ≡ sum_by inbox_held (present (take i entries)) + sum_by inbox_held (option_to_list entry)
held_step entries i entry lt read = ap (sum_by inbox_held) (present_step entries i entry lt read) ∙ sum_by-append inbox_held (present (take i entries)) (option_to_list entry)

-- what is left of sums after the first entry
pub held_rest : (entry : Option InboxLink) (rest entries : List (Option InboxLink)) → entries ≡ entry ∷ rest
    → (sum_by inbox_held (present entries) ≡ sum_by inbox_held (option_to_list entry) + sum_by inbox_held (present rest)) × (length (present entries) ≡ length (option_to_list entry) + length (present rest))
held_rest entry rest entries h = (
  ap (λ (es : List (Option InboxLink)). sum_by inbox_held (present es)) h ∙ sum_by-append inbox_held (option_to_list entry) (present rest),
  ap (λ (es : List (Option InboxLink)). length (present es)) h ∙ length-append (option_to_list entry) (present rest),
)
