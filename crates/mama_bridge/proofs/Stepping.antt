-- Steps over the links of a bridge, one after another.
use Rattle.std.specs.Prelude.{sum_by, option_to_list}
use Rattle.std.specs.List.{flat_map}
use Rattle.std.proofs.Common.{◌≡◌, ℕ, zero, suc, ◌+◌, ◌<◌, Bool, true, false, cond, List, [], ◌∷◌, ◌++◌, length, map, filter, take, drop, get_or, set, Option, None, Some, refl, sym, ◌∙◌, ap, arith, append-nil, append_assoc}
use Rattle.std.proofs.lemmas.List.{map-append, take_all, get_or-drop, length-map}
use Rattle.std.proofs.lemmas.List.Concat.{flat_map-append}
use Rattle.std.proofs.lemmas.List.Elements.{filter-append}
use Rattle.std.proofs.lemmas.List.Sums.{sum_by-cons}
use Rattle.mama_link.specs.Link.{rest}
use Rattle.mama_link.specs.Standing.{standing_after, StandsFor}
use Rattle.mama_journal.specs.Journal.{numbers_below}
use Rattle.mama_payload.specs.Spelling.{spelling}
use Rattle.mama_event.specs.declared.wire.PieceMsg.{PieceMsg}
use Rattle.mama_event.specs.Arrival.{piece_of}
use Rattle.mama_event.specs.declared.ids.ObjectId.TheVariants.{Sub, Inbox}
use Rattle.mama_event.specs.declared.to_queue.ToQueue.TheVariants as queued
use Rattle.mama_laws_bridge.specs.Table.{SubRow, InboxRow, sub_passed, changed}
use Rattle.mama_bridge.specs.declared.out.BridgeOut.{BridgeOut}
use Rattle.mama_bridge.specs.declared.out.BridgeOut.TheVariants as out
use Rattle.mama_bridge.specs.declared.subs.SubLink.{SubLink}
use Rattle.mama_bridge.specs.declared.inboxes.InboxLink.{InboxLink}
use Rattle.mama_bridge.specs.Links.{SubView, InboxView, sub_seen, sub_view, inbox_seen, inbox_view, Each, HoldsIf, row_is_on, sub_outs, emit_outs, end_outs, inbox_outs, inbox_end_outs, PassStep, PassSteps, EndStep, EndSteps, InboxEndStep, InboxEndSteps}

-- ---- lists

each_front : {X : Type 0} (P : X → Type 0) (xs ys : List X) → Each P (xs ++ ys) → Each P xs
each_front P [] ys h = tt
each_front P (x ∷ xs) ys h = (h.0, each_front P xs ys h.1)

each_last : {X : Type 0} (P : X → Type 0) (xs : List X) (y : X) → Each P (xs ++ y ∷ []) → P y
each_last P [] y h = h.0
each_last P (x ∷ xs) y h = each_last P xs y h.1

pub same_at : {X : Type 0} (xs ys : List X) (i : ℕ) (d : X) → drop i xs ≡ drop i ys → get_or xs i d ≡ get_or ys i d
same_at xs ys i d h =
    let here : i + 0 ≡ i = omega arith in
    sym (get_or-drop i xs 0 d ∙ ap (λ n. get_or xs n d) here) ∙ ap (λ zs. get_or zs 0 d) h ∙ get_or-drop i ys 0 d ∙ ap (λ n. get_or ys n d) here

pub drop-set-next : {X : Type 0} (xs : List X) (i : ℕ) (y : X) → drop (suc i) (set xs i y) ≡ drop (suc i) xs
drop-set-next [] i y = refl
drop-set-next (x ∷ xs) zero y = refl
drop-set-next (x ∷ xs) (suc i) y = drop-set-next xs i y

pub drop-next : {X : Type 0} (xs ys : List X) (i : ℕ) → drop i xs ≡ drop i ys → drop (suc i) xs ≡ drop (suc i) ys
drop-next xs ys i h = sym (more xs i) ∙ ap (drop 1) h ∙ more ys i
  where
    more : {X : Type 0} (zs : List X) (n : ℕ) → drop 1 (drop n zs) ≡ drop (suc n) zs
    more zs zero = refl
    more [] (suc n) = refl
    more (z ∷ zs) (suc n) = more zs n

pub take-set-next : {X : Type 0} (xs : List X) (i : ℕ) (y : X) → i < length xs → take (suc i) (set xs i y) ≡ take i xs ++ y ∷ []
take-set-next [] i y lt = absurd (omega arith)
take-set-next (x ∷ xs) zero y lt = refl
take-set-next (x ∷ xs) (suc i) y lt = ap (λ zs. x ∷ zs) (take-set-next xs i y (omega arith))

pub take-next : {X : Type 0} (xs : List X) (i : ℕ) (d : X) → i < length xs → take (suc i) xs ≡ take i xs ++ get_or xs i d ∷ []
take-next [] i d lt = absurd (omega arith)
take-next (x ∷ xs) zero d lt = refl
take-next (x ∷ xs) (suc i) d lt = ap (λ zs. x ∷ zs) (take-next xs i d (omega arith))

-- a list that is seen as another ends where that ends
pub record Split {A B V : Type 0} (f : A → V) (g : B → V) (xs : List A) (x : A) (ys : List B) : Type 0 where
  pub front : List B
  pub last : B
  pub whole : ys ≡ front ++ last ∷ []
  pub fronts : map f xs ≡ map g front
  pub lasts : f x ≡ g last

pub split_last : {A B V : Type 0} (f : A → V) (g : B → V) (xs : List A) (x : A) (ys : List B) → map f (xs ++ x ∷ []) ≡ map g ys → Split f g xs x ys
split_last f g [] x [] h = cc
split_last {A} {B} {V} f g [] x (y ∷ ys) h = record { front = []; last = y; whole = ap (λ zs. y ∷ zs) (none ys (tails h)); fronts = refl; lasts = heads h }
  where
    heads : {v w : V} {vs ws : List V} → v ∷ vs ≡ w ∷ ws → v ≡ w
    heads e = cc

    tails : {v w : V} {vs ws : List V} → v ∷ vs ≡ w ∷ ws → vs ≡ ws
    tails e = cc

    none : (zs : List B) → [] ≡ map g zs → zs ≡ []
    none [] e = refl
    none (z ∷ zs) e = cc
split_last f g (a ∷ xs) x [] h = cc
split_last {A} {B} {V} f g (a ∷ xs) x (y ∷ ys) h =
    let more = split_last f g xs x ys (tails h) in
    record { front = y ∷ more.front; last = more.last; whole = ap (λ zs. y ∷ zs) more.whole; fronts = both (heads h) more.fronts; lasts = more.lasts }
  where
    heads : {v w : V} {vs ws : List V} → v ∷ vs ≡ w ∷ ws → v ≡ w
    heads e = cc

    tails : {v w : V} {vs ws : List V} → v ∷ vs ≡ w ∷ ws → vs ≡ ws
    tails e = cc

    both : {v w : V} {vs ws : List V} → v ≡ w → vs ≡ ws → v ∷ vs ≡ w ∷ ws
    both p q = cc

-- ---- passes

filter_one : {X Y : Type 0} (f : X → List Y) (b : Bool) (x : X) → flat_map f (cond b (x ∷ []) []) ≡ cond b (f x) []
filter_one f true x = append-nil (f x)
filter_one f false x = refl

chosen-push : {X Y : Type 0} (test : X → Bool) (f : X → List Y) (xs : List X) (x : X) → flat_map f (filter test (xs ++ x ∷ [])) ≡ flat_map f (filter test xs) ++ cond (test x) (f x) []
chosen-push test f xs x =
    ap (flat_map f) (filter-append test xs (x ∷ [])) ∙ flat_map-append f (filter test xs) (filter test (x ∷ [])) ∙ ap (λ ys. flat_map f (filter test xs) ++ ys) (filter_one f (test x) x)

pub pass_more : {L : Type 0} (topic : ℕ) (old new : List SubLink) (link link' : SubLink) (m0 m1 m2 : List PieceMsg) (o0 o1 o2 : List (BridgeOut L))
    → PassSteps topic old new m0 m1 o0 o1 → PassStep topic link link' m1 m2 o1 o2 → PassSteps topic (old ++ link ∷ []) (new ++ link' ∷ []) m0 m2 o0 o2
pass_more {L} topic old new link link' m0 m1 m2 o0 o1 o2 steps step rows m same holds none =
    let split = split_last sub_seen sub_view old link rows same in
    let before = steps split.front m split.fronts (each_front (HoldsIf topic (piece_of m)) old (link ∷ []) holds) none in
    let now = step split.last m split.lasts (each_last (HoldsIf topic (piece_of m)) old link holds) before.2 in
    let change : SubRow → SubRow = λ (row : SubRow). cond (row_is_on topic row) (sub_passed m row) row in
    let seen : map sub_seen (new ++ link' ∷ []) ≡ map sub_view (changed (row_is_on topic) (sub_passed m) rows) =
    map-append sub_seen new (link' ∷ [])
    ∙ ap (λ (vs : List SubView). vs ++ sub_seen link' ∷ []) before.0
    ∙ ap (λ (v : SubView). map sub_view (map change split.front) ++ v ∷ []) now.0
    ∙ sym (ap (λ (rs : List SubRow). map sub_view (map change rs)) split.whole ∙ ap (map sub_view) (map-append change split.front (split.last ∷ [])) ∙ map-append sub_view (map change split.front) (change split.last ∷ [])) in
    let put : o2 ≡ o0 ++ flat_map (emit_outs m) (filter (row_is_on topic) rows) =
    now.1
    ∙ ap (λ (os : List (BridgeOut L)). os ++ cond (row_is_on topic split.last) (emit_outs m split.last) []) before.1
    ∙ append_assoc o0 (flat_map (emit_outs m) (filter (row_is_on topic) split.front)) (cond (row_is_on topic split.last) (emit_outs m split.last) [])
    ∙ ap (λ (os : List (BridgeOut L)). o0 ++ os) (sym (ap (λ (rs : List SubRow). flat_map (emit_outs m) (filter (row_is_on topic) rs)) split.whole ∙ chosen-push (row_is_on topic) (emit_outs m) split.front split.last)) in
    (seen, put, now.2)

pub pass_none : {L : Type 0} (topic : ℕ) (m0 : List PieceMsg) (o0 : List (BridgeOut L)) → PassSteps topic [] [] m0 m0 o0 o0
pass_none {L} topic m0 o0 [] m same holds none = (refl, sym (append-nil o0), none)
pass_none {L} topic m0 o0 (row ∷ rows) m same holds none = cc

-- ---- ends

pub end_more : {L : Type 0} (links : List SubLink) (link : SubLink) (m0 m1 m2 : List PieceMsg) (o0 o1 o2 : List (BridgeOut L))
    → EndSteps links m0 m1 o0 o1 → EndStep link m1 m2 o1 o2 → EndSteps (links ++ link ∷ []) m0 m2 o0 o2
end_more {L} links link m0 m1 m2 o0 o1 o2 steps step rows same none =
    let split = split_last sub_seen sub_view links link rows same in
    let before = steps split.front split.fronts none in
    let now = step split.last split.lasts before.1 in
    let put : o2 ≡ o0 ++ flat_map end_outs rows =
    now.0 ∙ ap (λ (os : List (BridgeOut L)). os ++ end_outs split.last) before.0 ∙ append_assoc o0 (flat_map end_outs split.front) (end_outs split.last)
    ∙ ap (λ (os : List (BridgeOut L)). o0 ++ os) (sym (ap (flat_map end_outs) split.whole ∙ flat_map-append end_outs split.front (split.last ∷ []) ∙ ap (λ (os : List (BridgeOut L)). flat_map end_outs split.front ++ os) (append-nil (end_outs split.last)))) in
    (put, now.1)

pub end_none : {L : Type 0} (m0 : List PieceMsg) (o0 : List (BridgeOut L)) → EndSteps [] m0 m0 o0 o0
end_none {L} m0 o0 [] same none = (sym (append-nil o0), none)
end_none {L} m0 o0 (row ∷ rows) same none = cc

pub inbox_end_more : {L : Type 0} (links : List InboxLink) (link : InboxLink) (m0 m1 m2 : List (List ℕ)) (o0 o1 o2 : List (BridgeOut L))
    → InboxEndSteps links m0 m1 o0 o1 → InboxEndStep link m1 m2 o1 o2 → InboxEndSteps (links ++ link ∷ []) m0 m2 o0 o2
inbox_end_more {L} links link m0 m1 m2 o0 o1 o2 steps step rows same none =
    let split = split_last inbox_seen inbox_view links link rows same in
    let before = steps split.front split.fronts none in
    let now = step split.last split.lasts before.1 in
    let put : o2 ≡ o0 ++ flat_map inbox_end_outs rows =
    now.0 ∙ ap (λ (os : List (BridgeOut L)). os ++ inbox_end_outs split.last) before.0 ∙ append_assoc o0 (flat_map inbox_end_outs split.front) (inbox_end_outs split.last)
    ∙ ap (λ (os : List (BridgeOut L)). o0 ++ os) (sym (ap (flat_map inbox_end_outs) split.whole ∙ flat_map-append inbox_end_outs split.front (split.last ∷ []) ∙ ap (λ (os : List (BridgeOut L)). flat_map inbox_end_outs split.front ++ os) (append-nil (inbox_end_outs split.last)))) in
    (put, now.1)

pub inbox_end_none : {L : Type 0} (m0 : List (List ℕ)) (o0 : List (BridgeOut L)) → InboxEndSteps [] m0 m0 o0 o0
inbox_end_none {L} m0 o0 [] same none = (sym (append-nil o0), none)
inbox_end_none {L} m0 o0 (row ∷ rows) same none = cc

pub inbox_end_one : {L : Type 0} (link : InboxLink) (m0 m1 : List (List ℕ)) (o0 o1 : List (BridgeOut L)) → InboxEndStep link m0 m1 o0 o1 → InboxEndSteps (link ∷ []) m0 m1 o0 o1
inbox_end_one {L} link m0 m1 o0 o1 step = inbox_end_more [] link m0 m0 m1 o0 o0 o1 (inbox_end_none m0 o0) step

-- the link of one entry more, if it is not empty
pub entry_end_more : {L : Type 0} (links links' : List InboxLink) (entry : Option InboxLink) (m0 m1 m2 : List (List ℕ)) (o0 o1 o2 : List (BridgeOut L)) → links' ≡ links ++ option_to_list entry
    → InboxEndSteps links m0 m1 o0 o1 → InboxEndSteps (option_to_list entry) m1 m2 o1 o2 → InboxEndSteps links' m0 m2 o0 o2
entry_end_more {L} links links' None m0 m1 m2 o0 o1 o2 h steps step rows same none =
    let before = steps rows (ap (map inbox_seen) (sym (h ∙ append-nil links)) ∙ same) none in
    let now = step [] refl before.1 in
    (now.0 ∙ append-nil o1 ∙ before.0, now.1)
entry_end_more {L} links links' (Some link) m0 m1 m2 o0 o1 o2 h steps step rows same none =
    inbox_end_more links link m0 m1 m2 o0 o1 o2 steps (λ row same' none'.
    let now = step (row ∷ []) (ap (λ (v : InboxView). v ∷ []) same') none' in
    (now.0 ∙ ap (λ (os : List (BridgeOut L)). o1 ++ os) (append-nil (inbox_end_outs row)), now.1)) rows (ap (map inbox_seen) (sym h) ∙ same) none

-- what a link puts out at its end
pub ends_with : {L : Type 0} (seen : SubView) (held : ℕ) (m0 m1 m2 : List PieceMsg) (o0 o1 o2 : List (BridgeOut L)) → held ≡ length seen.link.held
    → ((x : List PieceMsg) → StandsFor x seen.link → m1 ≡ m0 ++ rest seen.link.rows x)
    → o1 ≡ o0 ++ map (λ m. out.Queue seen.queue (queued.Deliver seen.slot seen.sub m)) (take held m1) → m2 ≡ drop held m1
    → o2 ≡ o1 ++ out.Queue seen.queue (queued.Gone seen.slot (Sub seen.sub)) ∷ []
    → (row : SubRow) → seen ≡ sub_view row → m0 ≡ [] → (o2 ≡ o0 ++ end_outs row) × (m2 ≡ [])
ends_with {L} seen held m0 m1 m2 o0 o1 o2 count finished delivered left gone row same none =
    let rows : seen.link.rows ≡ row.terms.faults = ap (λ (v : SubView). v.link.rows) same in
    let stands : StandsFor (map piece_of row.sent) seen.link = ap (λ (v : SubView). v.link) same ∙ ap (λ r. standing_after r (map piece_of row.sent)) (sym rows) in
    let all : m1 ≡ rest row.terms.faults (map piece_of row.sent) = finished (map piece_of row.sent) stands ∙ ap (λ (xs : List PieceMsg). xs ++ rest seen.link.rows (map piece_of row.sent)) none ∙ ap (λ r. rest r (map piece_of row.sent)) rows in
    let len : held ≡ length (rest row.terms.faults (map piece_of row.sent)) = count ∙ ap (λ (v : SubView). length v.link.held) same ∙ sym (length-map (standing_after row.terms.faults (map piece_of row.sent)).held (λ (entry : ℕ × PieceMsg). entry.1)) in
    let taken : take held m1 ≡ rest row.terms.faults (map piece_of row.sent) = ap (take held) all ∙ take_all held (rest row.terms.faults (map piece_of row.sent)) (omega (arith, len)) in
    let dropped : m2 ≡ [] = left ∙ ap (drop held) all ∙ drop_all held (rest row.terms.faults (map piece_of row.sent)) len in
    let put : o2 ≡ o0 ++ end_outs row =
    gone ∙ ap (λ (os : List (BridgeOut L)). os ++ out.Queue seen.queue (queued.Gone seen.slot (Sub seen.sub)) ∷ []) delivered
    ∙ ap (λ (xs : List PieceMsg). o0 ++ map (λ m. out.Queue seen.queue (queued.Deliver seen.slot seen.sub m)) xs ++ out.Queue seen.queue (queued.Gone seen.slot (Sub seen.sub)) ∷ []) taken
    ∙ ap (λ (v : SubView). o0 ++ map (λ m. out.Queue v.queue (queued.Deliver v.slot v.sub m)) (rest row.terms.faults (map piece_of row.sent)) ++ out.Queue v.queue (queued.Gone v.slot (Sub v.sub)) ∷ []) same
    ∙ append_assoc o0 (sub_outs row (rest row.terms.faults (map piece_of row.sent))) (out.Queue row.terms.queue (queued.Gone row.slot (Sub row.sub)) ∷ []) in
    (put, dropped)
  where
    drop_all : {X : Type 0} (n : ℕ) (xs : List X) → n ≡ length xs → drop n xs ≡ []
    drop_all zero [] h = refl
    drop_all zero (x ∷ xs) h = absurd (omega arith)
    drop_all (suc n) [] h = refl
    drop_all (suc n) (x ∷ xs) h = drop_all n xs (omega arith)

pub inbox_ends_with : {L : Type 0} (seen : InboxView) (held : ℕ) (m0 m1 m2 : List (List ℕ)) (o0 o1 o2 : List (BridgeOut L)) → held ≡ length seen.link.held
    → ((x : List (List ℕ)) → StandsFor x seen.link → m1 ≡ m0 ++ rest seen.link.rows x)
    → o1 ≡ o0 ++ map (λ body. out.Queue seen.queue (queued.Reply seen.slot seen.inbox body)) (take held m1) → m2 ≡ drop held m1
    → o2 ≡ o1 ++ out.Queue seen.queue (queued.Gone seen.slot (Inbox seen.inbox)) ∷ []
    → (row : InboxRow) → seen ≡ inbox_view row → m0 ≡ [] → (o2 ≡ o0 ++ inbox_end_outs row) × (m2 ≡ [])
inbox_ends_with {L} seen held m0 m1 m2 o0 o1 o2 count finished delivered left gone row same none =
    let rows : seen.link.rows ≡ row.terms.faults = ap (λ (v : InboxView). v.link.rows) same in
    let stands : StandsFor (map spelling row.sent) seen.link = ap (λ (v : InboxView). v.link) same ∙ ap (λ r. standing_after r (map spelling row.sent)) (sym rows) in
    let all : m1 ≡ rest row.terms.faults (map spelling row.sent) = finished (map spelling row.sent) stands ∙ ap (λ (xs : List (List ℕ)). xs ++ rest seen.link.rows (map spelling row.sent)) none ∙ ap (λ r. rest r (map spelling row.sent)) rows in
    let len : held ≡ length (rest row.terms.faults (map spelling row.sent)) = count ∙ ap (λ (v : InboxView). length v.link.held) same ∙ sym (length-map (standing_after row.terms.faults (map spelling row.sent)).held (λ (entry : ℕ × List ℕ). entry.1)) in
    let taken : take held m1 ≡ rest row.terms.faults (map spelling row.sent) = ap (take held) all ∙ take_all held (rest row.terms.faults (map spelling row.sent)) (omega (arith, len)) in
    let dropped : m2 ≡ [] = left ∙ ap (drop held) all ∙ drop_all held (rest row.terms.faults (map spelling row.sent)) len in
    let put : o2 ≡ o0 ++ inbox_end_outs row =
    gone ∙ ap (λ (os : List (BridgeOut L)). os ++ out.Queue seen.queue (queued.Gone seen.slot (Inbox seen.inbox)) ∷ []) delivered
    ∙ ap (λ (xs : List (List ℕ)). o0 ++ map (λ body. out.Queue seen.queue (queued.Reply seen.slot seen.inbox body)) xs ++ out.Queue seen.queue (queued.Gone seen.slot (Inbox seen.inbox)) ∷ []) taken
    ∙ ap (λ (v : InboxView). o0 ++ map (λ body. out.Queue v.queue (queued.Reply v.slot v.inbox body)) (rest row.terms.faults (map spelling row.sent)) ++ out.Queue v.queue (queued.Gone v.slot (Inbox v.inbox)) ∷ []) same
    ∙ append_assoc o0 (inbox_outs row (rest row.terms.faults (map spelling row.sent))) (out.Queue row.terms.queue (queued.Gone row.slot (Inbox row.inbox)) ∷ []) in
    (put, dropped)
  where
    drop_all : {X : Type 0} (n : ℕ) (xs : List X) → n ≡ length xs → drop n xs ≡ []
    drop_all zero [] h = refl
    drop_all zero (x ∷ xs) h = absurd (omega arith)
    drop_all (suc n) [] h = refl
    drop_all (suc n) (x ∷ xs) h = drop_all n xs (omega arith)

-- ---- turns of loops by index

pub left_turn : {X : Type 0} (xs ys : List X) (i : ℕ) (y : X) → drop i ys ≡ drop i xs → drop (i + 1) (set ys i y) ≡ drop (i + 1) xs
left_turn xs ys i y left = let one : i + 1 ≡ suc i = omega arith in ap (λ n. drop n (set ys i y)) one ∙ drop-set-next ys i y ∙ drop-next ys xs i left ∙ ap (λ n. drop n xs) (sym one)

-- a link that is seen as before
pub seen_turn : {X V : Type 0} (f : X → V) (ys : List X) (i : ℕ) (x y : X) → i < length ys → x ≡ get_or ys i x → f y ≡ f x → map f (set ys i y) ≡ map f ys
seen_turn f [] i x y lt value same = absurd (omega arith)
seen_turn f (z ∷ zs) zero x y lt value same = ap (λ v. v ∷ map f zs) (same ∙ ap f value)
seen_turn f (z ∷ zs) (suc i) x y lt value same = ap (λ vs. f z ∷ vs) (seen_turn f zs i x y (omega arith) value same)

-- one number more
pub numbers_more : {B : Type 0} (f : ℕ → B) (n : ℕ) → map f (numbers_below (n + 1)) ≡ map f (numbers_below n) ++ f n ∷ []
numbers_more f n = let one : n + 1 ≡ suc n = omega arith in ap (λ k. map f (numbers_below k)) one ∙ map-append f (numbers_below n) (n ∷ [])

-- what is left of a sum after its first
pub sum_rest : {X : Type 0} (f : X → ℕ) (x : X) (xs ys : List X) → ys ≡ x ∷ xs → (sum_by f ys ≡ f x + sum_by f xs) × (length ys ≡ length xs + 1)
sum_rest f x xs ys h = (ap (sum_by f) h ∙ sum_by-cons f x xs, ap length h ∙ one)
  where
    one : suc (length xs) ≡ length xs + 1
    one = omega arith
