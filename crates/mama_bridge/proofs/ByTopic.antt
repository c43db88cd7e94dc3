-- Rows by topic: what is done to the rows on one topic is done to all rows.
use Rattle.std.specs.Prelude.{nat_lt, option_to_list}
use Rattle.std.specs.List.{list_any, flat_map}
use Rattle.std.specs.BTreeMap.{BTreeMap, get}
use Rattle.std.specs.Ordering.{nat_cmp}
use Rattle.std.proofs.Common.{◌≡◌, ℕ, Bool, true, false, not, ◌||◌, ◌==◌, cond, List, [], ◌∷◌, ◌++◌, map, filter, Option, None, Some, refl, sym, ◌∙◌, ap, subst, eq-eqb, append-nil}
use Rattle.std.proofs.lemmas.Bool.{eqb-true}
use Rattle.std.proofs.lemmas.List.{map-append}
use Rattle.std.proofs.lemmas.List.Elements.{filter-append}
use Rattle.mama_event.specs.Object.{same_sub}
use Rattle.mama_event.specs.declared.ids.SubId.{SubId}
use Rattle.mama_event.specs.declared.market.MarketMsg.{MarketMsg}
use Rattle.mama_laws_bridge.specs.Laws.{Alone}
use Rattle.mama_laws_bridge.specs.Table.{sub_passed, SubRow, of_sub, sub_wished, changed, without}
use Rattle.mama_bridge.specs.declared.live.Live.{Live}
use Rattle.mama_bridge.specs.declared.places.Place.{Place}
use Rattle.mama_bridge.specs.declared.out.BridgeOut.{BridgeOut}
use Rattle.mama_bridge.specs.declared.subs.SubLink.{SubLink}
use Rattle.mama_bridge.specs.Ids.{is_sub_among}
use Rattle.mama_bridge.specs.Placed.{Placed, is_place_of}
use Rattle.mama_bridge.specs.Linked.{Linked, is_link_of}
use Rattle.mama_bridge.specs.Links.{SubView, Each, sub_seen, sub_view, row_is_on, end_outs, wished_once, SubLeaves}
use Rattle.mama_bridge.specs.Live.{links_in, links_on, awaited_in, HasRoomOn, OnTopic, place_of, IsLive, StaysLive, AloneSubs, Awaits}
use Rattle.mama_bridge.proofs.Known.{sub_joined, any_more}
use Rattle.mama_bridge.proofs.RowLemmas.{any_same}
use Rattle.mama_bridge.proofs.TheOne.{none_taken, none_changed, none_without}

heads : {V : Type 0} {v w : V} {vs ws : List V} → v ∷ vs ≡ w ∷ ws → v ≡ w
heads e = cc

tails : {V : Type 0} {v w : V} {vs ws : List V} → v ∷ vs ≡ w ∷ ws → vs ≡ ws
tails e = cc

both : {V : Type 0} {v w : V} {vs ws : List V} → v ≡ w → vs ≡ ws → v ∷ vs ≡ w ∷ ws
both p q = cc

-- two topics of one row are one
clash : {A : Type 0} (t q n : ℕ) → (t == n) ≡ true → (q == n) ≡ true → (t == q) ≡ false → A
clash t q n h k apart =
    let same : (t == q) ≡ true = eq-eqb t q (eqb-true t n h ∙ sym (eqb-true q n k)) in
    absurd (let bad : false ≡ true = sym apart ∙ same in cc)

no_true : {A : Type 0} (b : Bool) → b ≡ true → b ≡ false → A
no_true b h k = absurd (let bad : false ≡ true = sym k ∙ h in cc)

-- ---- what holds of the rows that pass a test

module _ {R : Type 0} where
  each_first : (P : R → Type 0) (b : Bool) (row : R) (rows : List R) → b ≡ true → Each P (cond b (row ∷ rows) rows) → P row
  each_first P true row rows e h = h.0
  each_first P false row rows e h = no_true false e refl

  each_rest : (P : R → Type 0) (b : Bool) (row : R) (rows : List R) → Each P (cond b (row ∷ rows) rows) → Each P rows
  each_rest P true row rows h = h.1
  each_rest P false row rows h = h

  pub each_filter : (test : R → Bool) (rows : List R) → Each (λ row. test row ≡ true) (filter test rows)
  each_filter test [] = tt
  each_filter test (row ∷ rows) = at (each_filter test rows) (test row) refl
    where
      at : Each (λ r. test r ≡ true) (filter test rows) → (b : Bool) → test row ≡ b → Each (λ r. test r ≡ true) (cond b (row ∷ filter test rows) (filter test rows))
      at more true e = (e, more)
      at more false e = more

  any_filter : (p q : R → Bool) (rows : List R) → list_any q rows ≡ false → list_any q (filter p rows) ≡ false
  any_filter p q [] h = refl
  any_filter p q (row ∷ rows) h = at (first (q row) (list_any q rows) h) (any_filter p q rows (rest (q row) (list_any q rows) h)) (p row)
    where
      first : (a b : Bool) → (a || b) ≡ false → a ≡ false
      first true b e = e
      first false b e = refl

      rest : (a b : Bool) → (a || b) ≡ false → b ≡ false
      rest true b e = cc
      rest false b e = e

      at : q row ≡ false → list_any q (filter p rows) ≡ false → (b : Bool) → list_any q (cond b (row ∷ filter p rows) (filter p rows)) ≡ false
      at here more true = rw here more
      at here more false = more

  pub alone_filter : {I : Type 0} (same : I → I → Bool) (key : R → I) (p : R → Bool) (rows : List R) → Alone same key rows → Alone same key (filter p rows)
  alone_filter same key p [] h = tt
  alone_filter same key p (row ∷ rows) h = at (alone_filter same key p rows h.1) (p row)
    where
      at : Alone same key (filter p rows) → (b : Bool) → Alone same key (cond b (row ∷ filter p rows) (filter p rows))
      at more true = (any_filter p (λ other. same (key other) (key row)) rows h.0, more)
      at more false = more

  -- two tests, in either order
  pub filter_swap : (p q : R → Bool) (rows : List R) → filter p (filter q rows) ≡ filter q (filter p rows)
  filter_swap p q [] = refl
  filter_swap p q (row ∷ rows) = at (filter_swap p q rows) (p row) refl (q row) refl
    where
      at : filter p (filter q rows) ≡ filter q (filter p rows) → (a : Bool) → p row ≡ a → (b : Bool) → q row ≡ b → filter p (cond b (row ∷ filter q rows) (filter q rows)) ≡ filter q (cond a (row ∷ filter p rows) (filter p rows))
      at more true d true e = rw (d, e) (ap (λ rs. row ∷ rs) more)
      at more true d false e = rw e more
      at more false d true e = rw d more
      at more false d false e = more

-- ---- changes that keep each row's place

abbrev pub KeepsPlaces : (SubRow → SubRow) → Type 0
KeepsPlaces f = (row : SubRow) → place_of (f row) ≡ place_of row

kept_place : (f : SubRow → SubRow) → KeepsPlaces f → (b : Bool) (row : SubRow) → place_of (cond b (f row) row) ≡ place_of row
kept_place f k true row = k row
kept_place f k false row = refl

pub places_kept : (test : SubRow → Bool) (f : SubRow → SubRow) → KeepsPlaces f → (rows : List SubRow) → map place_of (changed test f rows) ≡ map place_of rows
places_kept test f k [] = refl
places_kept test f k (row ∷ rows) = both (kept_place f k (test row) row) (places_kept test f k rows)

any_changed : (test : SubRow → Bool) (f : SubRow → SubRow) → KeepsPlaces f → (s : SubId) (rows : List SubRow) → list_any (of_sub s) (changed test f rows) ≡ list_any (of_sub s) rows
any_changed test f k s [] = refl
any_changed test f k s (row ∷ rows) = rw (ap (λ (p : Place). same_sub p.sub s) (kept_place f k (test row) row), any_changed test f k s rows) refl

pub filter_changed : (test : SubRow → Bool) (f : SubRow → SubRow) → KeepsPlaces f → (q : ℕ) (rows : List SubRow) → filter (row_is_on q) (changed test f rows) ≡ changed test f (filter (row_is_on q) rows)
filter_changed test f k q [] = refl
filter_changed test f k q (row ∷ rows) =
    ap (λ (b : Bool). cond b (cond (test row) (f row) row ∷ filter (row_is_on q) (changed test f rows)) (filter (row_is_on q) (changed test f rows))) on
    ∙ at (filter_changed test f k q rows) (row_is_on q row)
  where
    on : row_is_on q (cond (test row) (f row) row) ≡ row_is_on q row
    on = ap (λ (p : Place). q == p.topic) (kept_place f k (test row) row)

    at : filter (row_is_on q) (changed test f rows) ≡ changed test f (filter (row_is_on q) rows)
        → (b : Bool) → cond b (cond (test row) (f row) row ∷ filter (row_is_on q) (changed test f rows)) (filter (row_is_on q) (changed test f rows)) ≡ changed test f (cond b (row ∷ filter (row_is_on q) rows) (filter (row_is_on q) rows))
    at more true = ap (λ (rs : List SubRow). cond (test row) (f row) row ∷ rs) more
    at more false = more

-- where all rows that pass are on one topic

abbrev pub AllOn : ℕ → List SubRow → Type 0
AllOn topic rows = Each (λ (row : SubRow). row_is_on topic row ≡ true) rows

-- none of another topic passes
none_other : (test : SubRow → Bool) (t q : ℕ) → (t == q) ≡ false → (rows : List SubRow) → AllOn t (filter test rows) → list_any test (filter (row_is_on q) rows) ≡ false
none_other test t q apart [] h = refl
none_other test t q apart (row ∷ rows) h =
    at (none_other test t q apart rows (each_rest (λ (r : SubRow). row_is_on t r ≡ true) (test row) row (filter test rows) h)) (row_is_on q row) refl (test row) refl
  where
    at : list_any test (filter (row_is_on q) rows) ≡ false
        → (b : Bool) → row_is_on q row ≡ b → (c : Bool) → test row ≡ c → list_any test (cond b (row ∷ filter (row_is_on q) rows) (filter (row_is_on q) rows)) ≡ false
    at rest true e true d = clash t q row.terms.topic (each_first (λ (r : SubRow). row_is_on t r ≡ true) (test row) row (filter test rows) d h) e apart
    at rest true e false d = rw d rest
    at rest false e c d = rest

-- those that pass are found among those on the topic
pub filter_within : (test : SubRow → Bool) (t : ℕ) (rows : List SubRow) → AllOn t (filter test rows) → filter test (filter (row_is_on t) rows) ≡ filter test rows
filter_within test t [] h = refl
filter_within test t (row ∷ rows) h =
    at (filter_within test t rows (each_rest (λ (r : SubRow). row_is_on t r ≡ true) (test row) row (filter test rows) h)) (row_is_on t row) refl (test row) refl
  where
    at : filter test (filter (row_is_on t) rows) ≡ filter test rows
        → (b : Bool) → row_is_on t row ≡ b → (c : Bool) → test row ≡ c → filter test (cond b (row ∷ filter (row_is_on t) rows) (filter (row_is_on t) rows)) ≡ cond c (row ∷ filter test rows) (filter test rows)
    at rest true e true d = rw d (ap (λ (rs : List SubRow). row ∷ rs) rest)
    at rest true e false d = rw d rest
    at rest false e true d = no_true (row_is_on t row) (each_first (λ (r : SubRow). row_is_on t r ≡ true) (test row) row (filter test rows) d h) e
    at rest false e false d = rest

filter_map_of : {A B : Type 0} (f : A → B) (test : B → Bool) (xs : List A) → filter test (map f xs) ≡ map f (filter (λ x. test (f x)) xs)
filter_map_of f test [] = refl
filter_map_of {A} {B} f test (x ∷ xs) = at (test (f x)) (filter_map_of f test xs)
  where
    at : (b : Bool) → filter test (map f xs) ≡ map f (filter (λ y. test (f y)) xs) → cond b (f x ∷ filter test (map f xs)) (filter test (map f xs)) ≡ map f (cond b (x ∷ filter (λ y. test (f y)) xs) (filter (λ y. test (f y)) xs))
    at true h = ap (λ (ys : List B). f x ∷ ys) h
    at false h = h

-- a link that is seen as before stays on its topic
pub stays_on : (t : ℕ) (old new : Live) → new.places ≡ old.places → OnTopic t (λ a b. map sub_seen b ≡ map sub_seen a) old.topics new.topics → StaysLive old new
stays_on t old new places on joined rows live = record {
  known = λ s. ap (λ (p : Placed). is_sub_among p.joined s) places ∙ live.known s;
  had = live.had;
  places = ap (λ (p : Placed). p.live) places ∙ live.places;
  topics = λ q. at q (t == q) refl;
}
  where
    at : (q : ℕ) (b : Bool) → (t == q) ≡ b → map sub_seen (links_on new.topics q) ≡ map sub_view (filter (row_is_on q) rows)
    at q true e = subst (λ n. map sub_seen (links_on new.topics n) ≡ map sub_view (filter (row_is_on n) rows)) (eqb-true t q e) (on.here ∙ live.topics t)
    at q false e = ap (map sub_seen) (on.others q e) ∙ live.topics q

-- rows are changed, all on one topic
pub live_does : {L : Type 0} (test : SubRow → Bool) (f : SubRow → SubRow) (put : SubRow → List (BridgeOut L)) → KeepsPlaces f → (t : ℕ) (old new : Live) (o0 o1 : List (BridgeOut L)) → new.places ≡ old.places
    → OnTopic t (λ a b. (rows : List SubRow) → map sub_seen a ≡ map sub_view rows → AloneSubs rows → (map sub_seen b ≡ map sub_view (changed test f rows)) × (o1 ≡ o0 ++ flat_map put (filter test rows))) old.topics new.topics
    → (joined : List SubId) (rows : List SubRow) → AllOn t (filter test rows) → IsLive joined rows old → AloneSubs rows → IsLive joined (changed test f rows) new × (o1 ≡ o0 ++ flat_map put (filter test rows))
live_does {L} test f put k t old new o0 o1 places on joined rows only live alone =
    let done = on.here (filter (row_is_on t) rows) (live.topics t) (alone_filter same_sub (λ (row : SubRow). row.sub) (row_is_on t) rows alone) in (
      record {
        known = λ s. ap (λ (p : Placed). is_sub_among p.joined s) places ∙ live.known s;
        had = λ s none. any_changed test f k s rows ∙ live.had s none;
        places = ap (λ (p : Placed). p.live) places ∙ live.places ∙ sym (places_kept test f k rows);
        topics = λ q. at done.0 q (t == q) refl;
      },
      done.1 ∙ ap (λ (rs : List SubRow). o0 ++ flat_map put rs) (filter_within test t rows only),
    )
  where
    at : map sub_seen (links_on new.topics t) ≡ map sub_view (changed test f (filter (row_is_on t) rows)) → (q : ℕ) (b : Bool) → (t == q) ≡ b → map sub_seen (links_on new.topics q) ≡ map sub_view (filter (row_is_on q) (changed test f rows))
    at here q true e = subst (λ n. map sub_seen (links_on new.topics n) ≡ map sub_view (filter (row_is_on n) (changed test f rows))) (eqb-true t q e) (here ∙ sym (ap (map sub_view) (filter_changed test f k t rows)))
    at here q false e =
        ap (map sub_seen) (on.others q e) ∙ live.topics q
        ∙ sym (ap (map sub_view) (filter_changed test f k q rows ∙ none_changed test f (filter (row_is_on q) rows) (none_other test t q e rows only)))

-- a row is gone
pub live_leaves : {L : Type 0} (s : SubId) (t : ℕ) (old new : Live) (o0 o1 : List (BridgeOut L)) (joined : List SubId) (rows : List SubRow) → AllOn t (filter (of_sub s) rows)
    → new.places.joined ≡ old.places.joined → new.places.live ≡ without (is_place_of s) old.places.live → OnTopic t (λ a b. SubLeaves s a b o0 o1) old.topics new.topics
    → IsLive joined rows old → AloneSubs rows → IsLive joined (without (of_sub s) rows) new × (o1 ≡ o0 ++ flat_map end_outs (filter (of_sub s) rows))
live_leaves {L} s t old new o0 o1 joined rows only noted places on live alone =
    let done = on.here (filter (row_is_on t) rows) (live.topics t) (alone_filter same_sub (λ (row : SubRow). row.sub) (row_is_on t) rows alone) in (
      record {
        known = λ one. ap (λ ids. is_sub_among ids one) noted ∙ live.known one;
        had = λ one none. any_filter (λ (row : SubRow). not (of_sub s row)) (of_sub one) rows (live.had one none);
        places = places ∙ ap (without (is_place_of s)) live.places ∙ filter_map_of place_of (λ (p : Place). not (is_place_of s p)) rows;
        topics = λ q. at done.0 q (t == q) refl;
      },
      done.1 ∙ ap (λ (rs : List SubRow). o0 ++ flat_map end_outs rs) (filter_within (of_sub s) t rows only),
    )
  where
    at : map sub_seen (links_on new.topics t) ≡ map sub_view (without (of_sub s) (filter (row_is_on t) rows)) → (q : ℕ) (b : Bool) → (t == q) ≡ b → map sub_seen (links_on new.topics q) ≡ map sub_view (filter (row_is_on q) (without (of_sub s) rows))
    at here q true e = subst (λ n. map sub_seen (links_on new.topics n) ≡ map sub_view (filter (row_is_on n) (without (of_sub s) rows))) (eqb-true t q e) (here ∙ sym (ap (map sub_view) (filter_swap (row_is_on t) (λ (row : SubRow). not (of_sub s row)) rows)))
    at here q false e =
        ap (map sub_seen) (on.others q e) ∙ live.topics q
        ∙ sym (ap (map sub_view) (filter_swap (row_is_on q) (λ (row : SubRow). not (of_sub s row)) rows ∙ none_without (of_sub s) (filter (row_is_on q) rows) (none_other (of_sub s) t q e rows only)))

-- ---- places

-- none of these rows passes
pub none_from_taken : (test : SubRow → Bool) (rows : List SubRow) → filter test rows ≡ [] → list_any test rows ≡ false
none_from_taken test [] h = refl
none_from_taken test (row ∷ rows) h = at (none_from_taken test rows) (test row) h
  where
    at : (filter test rows ≡ [] → list_any test rows ≡ false) → (b : Bool) → cond b (row ∷ filter test rows) (filter test rows) ≡ [] → (b || list_any test rows) ≡ false
    at rest true e = cc
    at rest false e = rest e

-- the one place that was found is on the topic of all rows of the subscription
one_on : (place : Place) (rows : List SubRow) → place ∷ [] ≡ map place_of rows → AllOn place.topic rows
one_on place [] h = cc
one_on place (row ∷ []) h = (eq-eqb place.topic row.terms.topic (ap (λ (p : Place). p.topic) (heads h)), tt)
one_on place (row ∷ other ∷ rows) h = cc

pub found_on : (found : Option Place) (place : Place) (rows : List SubRow) → found ≡ Some place → option_to_list found ≡ map place_of rows → AllOn place.topic rows
found_on found place rows is h = one_on place rows (sym (ap option_to_list is) ∙ h)

none_of_map : {A B : Type 0} (f : A → B) (xs : List A) → [] ≡ map f xs → xs ≡ []
none_of_map f [] h = refl
none_of_map f (x ∷ xs) h = cc

pub found_none : (s : SubId) (found : Option Place) (rows : List SubRow) → found ≡ None → option_to_list found ≡ map place_of (filter (of_sub s) rows) → list_any (of_sub s) rows ≡ false
found_none s found rows is h = none_from_taken (of_sub s) rows (none_of_map place_of (filter (of_sub s) rows) (sym (ap option_to_list is) ∙ h))

pub found_is : (s : SubId) (found : Option Place) (places : List Place) (rows : List SubRow) → option_to_list found ≡ filter (is_place_of s) places → places ≡ map place_of rows → option_to_list found ≡ map place_of (filter (of_sub s) rows)
found_is s found places rows h k = h ∙ ap (filter (is_place_of s)) k ∙ filter_map_of place_of (is_place_of s) rows

-- ---- one more

or_first : (a b : Bool) → (a || b) ≡ false → a ≡ false
or_first true b h = h
or_first false b h = refl

or_rest : (a b : Bool) → (a || b) ≡ false → b ≡ false
or_rest true b h = cc
or_rest false b h = h

-- the one that joined has a row now
pub more_joined : (joined : List SubId) (rows : List SubRow) (row : SubRow) → ((s : SubId) → list_any (λ (r : SubId). same_sub r s) joined ≡ false → list_any (of_sub s) rows ≡ false)
    → (s : SubId) → list_any (λ (r : SubId). same_sub r s) (joined ++ row.sub ∷ []) ≡ false → list_any (of_sub s) (rows ++ row ∷ []) ≡ false
more_joined joined rows row had s none =
    let both = sym (any_more (λ (r : SubId). same_sub r s) joined row.sub) ∙ none in
    let others = had s (or_first (list_any (λ (r : SubId). same_sub r s) joined) (same_sub row.sub s) both) in
    let last = or_rest (list_any (λ (r : SubId). same_sub r s) joined) (same_sub row.sub s) both in
    any_more (of_sub s) rows row ∙ rw (others, last) refl

pub live_gains : (link : SubLink) (place : Place) (before old new : Live) (joined : List SubId) (rows : List SubRow) (row : SubRow) → (HasRoomOn old.topics link.topic link.sub → OnTopic link.topic (λ a b. b ≡ a ++ link ∷ []) old.topics new.topics) → new.places ≡ old.places
    → place ≡ place_of row → IsLive joined rows before → Awaits false place before old → sub_seen link ≡ sub_view row → IsLive (joined ++ row.sub ∷ []) (rows ++ row ∷ []) new
live_gains link place before old new joined rows row adds same is live awaits seen = record {
  known = sub_joined row.sub before.places.joined old.places.joined new.places.joined joined (λ one. awaits.joined one ∙ ap (λ (p : Place). is_sub_among before.places.joined one || same_sub p.sub one) is) (ap (λ (p : Placed). p.joined) same) live.known;
  had = more_joined joined rows row live.had;
  places = ap (λ (p : Placed). p.live) same ∙ awaits.places ∙ ap (λ (ps : List Place). ps ++ place ∷ []) live.places ∙ ap (λ (p : Place). map place_of rows ++ p ∷ []) is ∙ sym (map-append place_of rows (row ∷ []));
  topics = λ q. at q (link.topic == q) refl;
}
  where
    topic : link.topic ≡ row.terms.topic
    topic = ap (λ (v : SubView). v.topic) seen

    sub : place.sub ≡ row.sub
    sub = ap (λ (p : Place). p.sub) is

    absent : list_any (is_link_of place.sub) (links_on before.topics place.topic) ≡ false
    absent =
        any_same place.sub (links_on before.topics place.topic) (filter (row_is_on place.topic) rows) (live.topics place.topic)
        ∙ any_filter (row_is_on place.topic) (of_sub place.sub) rows (live.had place.sub (sym (live.known place.sub) ∙ awaits.fresh))

    room : HasRoomOn old.topics link.topic link.sub
    room =
        ap (λ n. awaited_in (get nat_cmp old.topics n)) (topic ∙ sym (ap (λ (p : Place). p.topic) is))
        ∙ awaits.room refl absent ∙ ap Some (sub ∙ sym (ap (λ (v : SubView). v.sub) seen))

    on : OnTopic link.topic (λ a b. b ≡ a ++ link ∷ []) old.topics new.topics
    on = adds room

    before_on : (q : ℕ) → map sub_seen (links_on old.topics q) ≡ map sub_view (filter (row_is_on q) rows)
    before_on q = ap (map sub_seen) (awaits.topics q) ∙ live.topics q

    more : (q : ℕ) (b : Bool) → row_is_on q row ≡ b → filter (row_is_on q) (rows ++ row ∷ []) ≡ filter (row_is_on q) rows ++ cond b (row ∷ []) []
    more q b e = filter-append (row_is_on q) rows (row ∷ []) ∙ ap (λ c. filter (row_is_on q) rows ++ cond c (row ∷ []) []) e

    off : (q : ℕ) → (link.topic == q) ≡ false → (b : Bool) → row_is_on q row ≡ b → b ≡ false
    off q e true w = clash link.topic q row.terms.topic (eq-eqb link.topic row.terms.topic topic) w e
    off q e false w = refl

    at : (q : ℕ) (b : Bool) → (link.topic == q) ≡ b → map sub_seen (links_on new.topics q) ≡ map sub_view (filter (row_is_on q) (rows ++ row ∷ []))
    at q true e = subst (λ n. map sub_seen (links_on new.topics n) ≡ map sub_view (filter (row_is_on n) (rows ++ row ∷ []))) (eqb-true link.topic q e)
        (ap (map sub_seen) on.here ∙ map-append sub_seen (links_on old.topics link.topic) (link ∷ []) ∙ ap (λ (vs : List SubView). vs ++ sub_seen link ∷ []) (before_on link.topic)
        ∙ ap (λ v. map sub_view (filter (row_is_on link.topic) rows) ++ v ∷ []) seen ∙ sym (map-append sub_view (filter (row_is_on link.topic) rows) (row ∷ []))
        ∙ sym (ap (map sub_view) (more link.topic true (eq-eqb link.topic row.terms.topic topic))))
    at q false e =
        ap (map sub_seen) (on.others q e) ∙ before_on q
        ∙ sym (ap (map sub_view) (more q false (off q e (row_is_on q row) refl) ∙ append-nil (filter (row_is_on q) rows)))

-- where a subscription has no row, nothing is done
pub live_idle : {L : Type 0} (test : SubRow → Bool) (f : SubRow → SubRow) (put : SubRow → List (BridgeOut L)) (live : Live) (o : List (BridgeOut L)) (joined : List SubId) (rows : List SubRow) → list_any test rows ≡ false → IsLive joined rows live
    → IsLive joined (changed test f rows) live × (o ≡ o ++ flat_map put (filter test rows))
live_idle {L} test f put live o joined rows none h =
    (subst (λ (rs : List SubRow). IsLive joined rs live) (sym (none_changed test f rows none)) h, sym (ap (λ (rs : List SubRow). o ++ flat_map put rs) (none_taken test rows none) ∙ append-nil o))

pub live_stays : {L : Type 0} (s : SubId) (live : Live) (o : List (BridgeOut L)) (joined : List SubId) (rows : List SubRow) → list_any (of_sub s) rows ≡ false → IsLive joined rows live
    → IsLive joined (without (of_sub s) rows) live × (o ≡ o ++ flat_map end_outs (filter (of_sub s) rows))
live_stays {L} s live o joined rows none h =
    (subst (λ (rs : List SubRow). IsLive joined rs live) (sym (none_without (of_sub s) rows none)) h, sym (ap (λ (rs : List SubRow). o ++ flat_map end_outs rs) (none_taken (of_sub s) rows none) ∙ append-nil o))

-- where a topic has no links, nothing is done
pub none_on : (topics new : BTreeMap ℕ Linked) (t : ℕ) (Does : List SubLink → List SubLink → Type 0) → None ≡ get nat_cmp topics t → new ≡ topics → Does [] [] → OnTopic t Does topics new
none_on topics new t Does none same done =
    let empty : links_on topics t ≡ [] = sym (ap links_in none) in
    let still : links_on new t ≡ [] = ap (λ m. links_on m t) same ∙ empty in
    record {
      here = subst (λ (xs : List SubLink). Does xs (links_on new t)) (sym empty) (subst (λ (ys : List SubLink). Does [] ys) (sym still) done);
      others = λ q e. ap (λ m. links_on m q) same;
    }

pub none_done : {L : Type 0} (test : SubRow → Bool) (f : SubRow → SubRow) (put : SubRow → List (BridgeOut L)) (o : List (BridgeOut L)) (rows : List SubRow) → map sub_seen [] ≡ map sub_view rows → AloneSubs rows
    → (map sub_seen [] ≡ map sub_view (changed test f rows)) × (o ≡ o ++ flat_map put (filter test rows))
none_done test f put o [] h alone = (refl, sym (append-nil o))
none_done test f put o (row ∷ rows) h alone = cc

pub none_left : {L : Type 0} (s : SubId) (o : List (BridgeOut L)) → SubLeaves {L = L} s [] [] o o
none_left s o [] h alone = (refl, sym (append-nil o))
none_left s o (row ∷ rows) h alone = cc

pub pass_keeps_places : (m : MarketMsg) → KeepsPlaces (sub_passed m)
pass_keeps_places m row = refl

pub wish_keeps_places : KeepsPlaces wished_once
wish_keeps_places row = at (nat_lt row.wished row.terms.recaps)
  where
    at : (b : Bool) → place_of (cond b (sub_wished row) row) ≡ place_of row
    at true = refl
    at false = refl
