-- The journal of a publisher: what it makes of its own accord, what it takes, and in which order.
use Rattle.std.specs.Prelude.{slice_index_or, slice_set, not, replicate}
use Rattle.std.specs.List.{flat_map, list_any, list_all}
use Rattle.std.proofs.Common.{◌≡◌, ℕ, zero, suc, ◌<◌, Bool, true, false, ◌&&◌, ◌||◌, List, [], ◌∷◌, ◌++◌, length, map, refl, sym, ◌∙◌, ap, subst, arith, ⊎_elim, append-nil, append_assoc}
use Rattle.std.proofs.lemmas.Bool.{and_parts, and_from, or_left, or_right, or_cases, or_from, or_parts, both_ways, false_from_ne_true}
use Rattle.std.proofs.lemmas.List.{length-set, get_or-set_same, get_or-set_other}
use Rattle.std.proofs.lemmas.List.Concat.{flat_map-append}
use Rattle.std.proofs.lemmas.List.Folds.{list_any-append}
use Rattle.mama_journal.specs.Journal.{puts, count_of}
use Rattle.mama_event.specs.declared.to_publisher.PublisherNote.{PublisherNote}
use Rattle.mama_event.specs.declared.to_publisher.PublisherNote.TheVariants.{Want, Ask, Settle, Fin}
use Rattle.mama_event.specs.declared.publisher_entry.PublisherEntry.{PublisherEntry}
use Rattle.mama_event.specs.declared.publisher_entry.PublisherEntry.TheVariants.{Send, Done, Took}
use Rattle.mama_event.specs.Publisher.{SendLine, is_send}
use Rattle.mama_script.specs.declared.publisher.PublisherLine.{PublisherLine}
use Rattle.mama_script.specs.declared.publisher.PublisherLine.TheVariants as line
use Rattle.mama_script.specs.declared.publisher.PublisherPart.{PublisherPart}
use Rattle.mama_rules_rounds.specs.Setting.{no_section}
use Rattle.mama_rules_rounds.specs.Sections.{sends_in, publishers_from}
use Rattle.mama_rules_rounds.specs.Round.{publisher_line_steps, publisher_steps}
use Rattle.mama_rules_legal.specs.Edges.{all_steps, taken_in, taken_by}
use Rattle.mama_rules_legal.specs.Lines.{is_take, is_done, takes_settle, IsSentOut}
use Rattle.mama_journal.specs.EntryLaws.{by_entries, puts-push}
use Rattle.mama_laws_legal.proofs.Endings.{is_ending}
use Rattle.mama_laws_legal.proofs.Heard.{first_of, rest_of, no_end}

-- ---- what it makes of its own accord

abbrev pub own_in : PublisherEntry → List PublisherEntry
own_in Send = Send ∷ []
own_in Done = Done ∷ []
own_in (Took n) = []

abbrev pub own_by : List PublisherEntry → List PublisherEntry
own_by journal = flat_map own_in journal

-- ---- Settle and Fin are taken after Done

abbrev pub takes_ending : PublisherEntry → Bool
takes_ending Send = false
takes_ending Done = false
takes_ending (Took n) = is_ending n

abbrev pub in_order : List PublisherEntry → Bool
in_order [] = true
in_order (Done ∷ es) = true
in_order (Send ∷ es) = in_order es
in_order (Took n ∷ es) = not (is_ending n) && in_order es

pub in_order-push : (es : List PublisherEntry) (e : PublisherEntry) → in_order es ≡ true → (takes_ending e ≡ true → list_any is_done es ≡ true) → in_order (es ++ e ∷ []) ≡ true
in_order-push [] Send h late = refl
in_order-push [] Done h late = refl
in_order-push [] (Took n) h late = and_from (not (is_ending n)) true (ap not (false_from_ne_true (is_ending n) (λ ending. both_ways false refl (late ending)))) refl
in_order-push (Done ∷ es) e h late = refl
in_order-push (Send ∷ es) e h late = in_order-push es e h late
in_order-push (Took n ∷ es) e h late =
    let parts = and_parts (not (is_ending n)) (in_order es) h in
    and_from (not (is_ending n)) (in_order (es ++ e ∷ [])) parts.0 (in_order-push es e parts.1 late)

-- one publisher among many: what it has still to send, and the order of its journal
pub record Ordered (p : ℕ) (left sends : List PublisherEntry) (ps : List (List PublisherEntry)) : Type 0 where
  pub inside : p < length ps
  pub own : own_by (slice_index_or ps p []) ++ left ≡ sends
  pub order : in_order (slice_index_or ps p []) ≡ true

pub ordered_here : (p : ℕ) (left sends : List PublisherEntry) (ps : List (List PublisherEntry)) (e : PublisherEntry) → (takes_ending e ≡ true → list_any is_done (slice_index_or ps p []) ≡ true)
    → Ordered p (own_in e ++ left) sends ps → Ordered p left sends (slice_set ps p (slice_index_or ps p [] ++ e ∷ []))
ordered_here p left sends ps e late o =
    let old : List PublisherEntry = slice_index_or ps p [] in
    let now : slice_index_or (slice_set ps p (old ++ e ∷ [])) p [] ≡ old ++ e ∷ [] = get_or-set_same ps p (old ++ e ∷ []) [] o.inside in
    record {
      inside = subst (λ (n : ℕ). p < n) (sym (length-set ps p (old ++ e ∷ []))) o.inside;
      own = ap (λ (j : List PublisherEntry). own_by j ++ left) now
          ∙ ap (λ (ws : List PublisherEntry). ws ++ left) (flat_map-append own_in old (e ∷ []) ∙ ap (λ (ws : List PublisherEntry). own_by old ++ ws) (append-nil (own_in e)))
          ∙ append_assoc (own_by old) (own_in e) left ∙ o.own;
      order = ap in_order now ∙ in_order-push old e o.order late;
    }

pub ordered_other : (p r : ℕ) (left sends : List PublisherEntry) (ps : List (List PublisherEntry)) (j : List PublisherEntry) → (p ≡ r → ⊥) → Ordered p left sends ps → Ordered p left sends (slice_set ps r j)
ordered_other p r left sends ps j apart o =
    let same : slice_index_or (slice_set ps r j) p [] ≡ slice_index_or ps p [] = get_or-set_other ps r p j [] apart in
    record {
      inside = subst (λ (n : ℕ). p < n) (sym (length-set ps r j)) o.inside;
      own = ap (λ (j : List PublisherEntry). own_by j ++ left) same ∙ o.own;
      order = ap in_order same ∙ o.order;
    }

-- ---- what is put comes from entries

pub puts_from : {E P : Type 0} (at : List E → E → List P) (test : P → Bool) (t : E → Bool) → ((before : List E) (e : E) → list_any test (at before e) ≡ true → t e ≡ true)
    → (es : List E) → list_any test (puts at es) ≡ true → list_any t es ≡ true
puts_from at test t from es = by_entries (λ xs. list_any test (puts at xs) ≡ true → list_any t xs ≡ true)
    (λ h. h)
    (λ xs e ih h. list_any-append t xs (e ∷ []) ∙ ⊎_elim
    (λ old. or_left (list_any t xs) (list_any t (e ∷ [])) (ih old))
    (λ new. or_right (list_any t xs) (list_any t (e ∷ [])) (or_left (t e) false (from xs e new)))
    (or_cases (list_any test (puts at xs)) (list_any test (at xs e)) (sym (ap (list_any test) (puts-push at xs e) ∙ list_any-append test (puts at xs) (at xs e)) ∙ h))) es

pub puts_have : {E P : Type 0} (at : List E → E → List P) (test : P → Bool) (t : E → Bool) → ((before : List E) (e : E) → t e ≡ true → list_any test (at before e) ≡ true)
    → (es : List E) → list_any t es ≡ true → list_any test (puts at es) ≡ true
puts_have at test t have es = by_entries (λ xs. list_any t xs ≡ true → list_any test (puts at xs) ≡ true)
    (λ h. h)
    (λ xs e ih h. ap (list_any test) (puts-push at xs e) ∙ list_any-append test (puts at xs) (at xs e) ∙ ⊎_elim
    (λ old. or_left (list_any test (puts at xs)) (list_any test (at xs e)) (ih old))
    (λ new. or_right (list_any test (puts at xs)) (list_any test (at xs e)) (have xs e (last (t e) new)))
    (or_cases (list_any t xs) (list_any t (e ∷ [])) (sym (list_any-append t xs (e ∷ [])) ∙ h))) es
  where
    last : (b : Bool) → (b || false) ≡ true → b ≡ true
    last true h = refl
    last false h = h

-- ---- what the lines of a publisher are as entries

no_pauses : (n : ℕ) (steps : List (List PublisherEntry)) → all_steps (replicate n [] ++ steps) ≡ all_steps steps
no_pauses zero steps = refl
no_pauses (suc n) steps = no_pauses n steps

sends_of : (lines : List PublisherLine) → all_steps (publisher_steps lines) ≡ map (λ l. Send) (flat_map sends_in lines) ++ Done ∷ []
sends_of [] = refl
sends_of (line.Update u ∷ lines) = ap (λ (es : List PublisherEntry). Send ∷ es) (sends_of lines)
sends_of (line.Recap ∷ lines) = ap (λ (es : List PublisherEntry). Send ∷ es) (sends_of lines)
sends_of (line.Pause n ∷ lines) =
    ap all_steps (append_assoc (replicate n []) (flat_map publisher_line_steps lines) ((Done ∷ []) ∷ [])) ∙ no_pauses n (publisher_steps lines) ∙ sends_of lines

pub sends_at : (n : ℕ) (sections : List PublisherPart) (p : ℕ) → p < length sections
    → all_steps (slice_index_or (map (λ s. publisher_steps s.lines) sections) p []) ≡ map (λ l. Send) (slice_index_or (publishers_from n sections) p no_section).lines ++ Done ∷ []
sends_at n [] p small = absurd (omega arith)
sends_at n (s ∷ sections) zero small = sends_of s.lines
sends_at n (s ∷ sections) (suc p) small = sends_at (suc n) sections p (omega arith)

-- ---- a journal in three parts

pub record Parted (journal : List PublisherEntry) : Type 0 where
  pub before : List PublisherEntry
  pub after : List PublisherEntry
  pub whole : journal ≡ before ++ Done ∷ after
  pub first : list_any is_done before ≡ false

pub parted : (journal : List PublisherEntry) → list_any is_done journal ≡ true → Parted journal
parted [] h = absurd (both_ways false refl h)
parted (Done ∷ es) h = record { before = []; after = es; whole = refl; first = refl }
parted (Send ∷ es) h =
    let rest = parted es h in
    record { before = Send ∷ rest.before; after = rest.after; whole = ap (λ (xs : List PublisherEntry). Send ∷ xs) rest.whole; first = rest.first }
parted (Took n ∷ es) h =
    let rest = parted es h in
    record { before = Took n ∷ rest.before; after = rest.after; whole = ap (λ (xs : List PublisherEntry). Took n ∷ xs) rest.whole; first = rest.first }

-- two lists with one place that passes a test first have the same before it and behind it
same_first : (test : PublisherEntry → Bool) (as2 : List PublisherEntry) (x : PublisherEntry) (bs cs : List PublisherEntry) (y : PublisherEntry) (ds : List PublisherEntry)
    → test x ≡ true → test y ≡ true → list_any test as2 ≡ false → list_any test cs ≡ false → as2 ++ x ∷ bs ≡ cs ++ y ∷ ds → (as2 ≡ cs) × (bs ≡ ds)
same_first test [] x bs [] y ds tx ty ha hc same = (refl, ap rest_of same)
same_first test [] x bs (c ∷ cs) y ds tx ty ha hc same = absurd (both_ways (test c) (or_parts (test c) (list_any test cs) hc).0 (ap test (sym (ap (first_of x) same)) ∙ tx))
same_first test (a ∷ as2) x bs [] y ds tx ty ha hc same = absurd (both_ways (test a) (or_parts (test a) (list_any test as2) ha).0 (ap test (ap (first_of a) same) ∙ ty))
same_first test (a ∷ as2) x bs (c ∷ cs) y ds tx ty ha hc same =
    let ih = same_first test as2 x bs cs y ds tx ty (or_parts (test a) (list_any test as2) ha).1 (or_parts (test c) (list_any test cs) hc).1 (ap rest_of same) in
    (ap (λ (z : PublisherEntry). z ∷ as2) (ap (first_of a) same) ∙ ap (λ (zs : List PublisherEntry). c ∷ zs) ih.0, ih.1)

no_done_own : (es : List PublisherEntry) → list_any is_done es ≡ false → list_any is_done (own_by es) ≡ false
no_done_own [] h = refl
no_done_own (Send ∷ es) h = no_done_own es h
no_done_own (Done ∷ es) h = absurd (both_ways true h refl)
no_done_own (Took n ∷ es) h = no_done_own es h

count_own : (es : List PublisherEntry) → count_of is_send (own_by es) ≡ count_of is_send es
count_own [] = refl
count_own (Send ∷ es) = ap suc (count_own es)
count_own (Done ∷ es) = count_own es
count_own (Took n ∷ es) = count_own es

count_sends : (lines : List SendLine) → count_of is_send (map (λ l. Send) lines) ≡ length lines
count_sends [] = refl
count_sends (l ∷ lines) = ap suc (count_sends lines)

no_done_sends : (lines : List SendLine) → list_any is_done (map (λ l. Send) lines) ≡ false
no_done_sends [] = refl
no_done_sends (l ∷ lines) = no_done_sends lines

only_taken : (es : List PublisherEntry) → own_by es ≡ [] → es ≡ map (λ n. Took n) (taken_by es)
only_taken [] h = refl
only_taken (Send ∷ es) h = absurd (no_end [] Send (own_by es) h)
only_taken (Done ∷ es) h = absurd (no_end [] Done (own_by es) h)
only_taken (Took n ∷ es) h = ap (λ (xs : List PublisherEntry). Took n ∷ xs) (only_taken es h)

calm_front : (before after : List PublisherEntry) → list_any is_done before ≡ false → in_order (before ++ after) ≡ true → list_any is_ending (taken_by before) ≡ false
calm_front [] after h order = refl
calm_front (Send ∷ es) after h order = calm_front es after h order
calm_front (Done ∷ es) after h order = absurd (both_ways true h refl)
calm_front (Took n ∷ es) after h order =
    let parts = and_parts (not (is_ending n)) (in_order (es ++ after)) order in
    or_from (is_ending n) (list_any is_ending (taken_by es)) (off (is_ending n) parts.0) (calm_front es after h parts.1)
  where
    off : (b : Bool) → not b ≡ true → b ≡ false
    off true h = sym h
    off false h = refl

no_settle : (es : List PublisherEntry) → list_any is_ending (taken_by es) ≡ false → list_any takes_settle es ≡ false
no_settle [] h = refl
no_settle (Send ∷ es) h = no_settle es h
no_settle (Done ∷ es) h = no_settle es h
no_settle (Took (Want s k) ∷ es) h = no_settle es h
no_settle (Took (Ask i fids) ∷ es) h = no_settle es h
no_settle (Took Settle ∷ es) h = absurd (both_ways true h refl)
no_settle (Took Fin ∷ es) h = no_settle es (or_parts true (list_any is_ending (taken_by es)) h).1

-- what stands behind a calm front
rest_behind : (front after xs ends : List PublisherNote) → list_any is_ending front ≡ false → list_any is_ending xs ≡ false → front ++ after ≡ xs ++ (Settle ∷ ends)
    → (ys : List PublisherNote) × (after ≡ ys ++ (Settle ∷ ends))
rest_behind [] after xs ends hf hx same = (xs, same)
rest_behind (f ∷ front) after [] ends hf hx same = absurd (both_ways (is_ending f) (or_parts (is_ending f) (list_any is_ending front) hf).0 (ap is_ending (ap (first_of f) same)))
rest_behind (f ∷ front) after (x ∷ xs) ends hf hx same = rest_behind front after xs ends (or_parts (is_ending f) (list_any is_ending front) hf).1 (or_parts (is_ending x) (list_any is_ending xs) hx).1 (ap rest_of same)

map_took : (ys zs : List PublisherNote) → map (λ n. Took n) (ys ++ zs) ≡ map (λ n. Took n) ys ++ map (λ n. Took n) zs
map_took [] zs = refl
map_took (y ∷ ys) zs = ap (λ (es : List PublisherEntry). Took y ∷ es) (map_took ys zs)

all_take : (ys : List PublisherNote) → list_all is_take (map (λ n. Took n) ys) ≡ true
all_take [] = refl
all_take (y ∷ ys) = all_take ys

has_done : (lines : List SendLine) (journal : List PublisherEntry) → own_by journal ≡ map (λ l. Send) lines ++ Done ∷ [] → list_any is_done journal ≡ true
has_done lines journal own = from_own journal (ap (list_any is_done) own ∙ list_any-append is_done (map (λ l. Send) lines) (Done ∷ []) ∙ or_right (list_any is_done (map (λ l. Send) lines)) true refl)
  where
    from_own : (es : List PublisherEntry) → list_any is_done (own_by es) ≡ true → list_any is_done es ≡ true
    from_own [] h = h
    from_own (Send ∷ es) h = from_own es h
    from_own (Done ∷ es) h = refl
    from_own (Took n ∷ es) h = from_own es h

pub has_done_at_end : (lines : List SendLine) (journal : List PublisherEntry) → own_by journal ≡ map (λ l. Send) lines ++ Done ∷ [] → list_any is_done journal ≡ true
has_done_at_end = has_done

pub sent_out : (lines : List SendLine) (journal : List PublisherEntry) (xs : List PublisherNote) → own_by journal ≡ map (λ l. Send) lines ++ Done ∷ [] → in_order journal ≡ true
    → taken_by journal ≡ xs ++ (Settle ∷ Fin ∷ []) → list_any is_ending xs ≡ false → IsSentOut (length lines) journal
sent_out lines journal xs own order taken calm =
    let parts = parted journal (has_done lines journal own) in
    let split_own : own_by parts.before ++ Done ∷ own_by parts.after ≡ map (λ l. Send) lines ++ Done ∷ [] =
    sym (flat_map-append own_in parts.before (Done ∷ parts.after)) ∙ ap own_by (sym parts.whole) ∙ own in
    let same = same_first is_done (own_by parts.before) Done (own_by parts.after) (map (λ l. Send) lines) Done [] refl refl (no_done_own parts.before parts.first) (no_done_sends lines) split_own in
    let front = calm_front parts.before (Done ∷ parts.after) parts.first (ap in_order (sym parts.whole) ∙ order) in
    let split_taken : taken_by parts.before ++ taken_by parts.after ≡ xs ++ (Settle ∷ Fin ∷ []) =
    sym (flat_map-append taken_in parts.before (Done ∷ parts.after)) ∙ ap taken_by (sym parts.whole) ∙ taken in
    let behind = rest_behind (taken_by parts.before) (taken_by parts.after) xs (Fin ∷ []) front calm split_taken in
    record {
      before = parts.before;
      between = map (λ n. Took n) behind.0;
      whole = parts.whole ∙ ap (λ (es : List PublisherEntry). parts.before ++ Done ∷ es)
          (only_taken parts.after same.1 ∙ ap (map (λ n. Took n)) behind.1 ∙ map_took behind.0 (Settle ∷ Fin ∷ []));
      sends = sym (count_own parts.before) ∙ ap (count_of is_send) same.0 ∙ count_sends lines;
      first_done = parts.first;
      first_settle = no_settle parts.before front;
      takes = all_take behind.0;
    }
