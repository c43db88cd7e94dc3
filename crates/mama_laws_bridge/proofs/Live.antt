-- What one event more changes of who is done and of what is live.
use Rattle.std.specs.List.{list_any}
use Rattle.std.proofs.Common.{◌≡◌, ℕ, ◌<◌, ◌==◌, Bool, true, false, not, ◌&&◌, ◌||◌, cond, List, [], ◌∷◌, ◌++◌, length, filter, get_or, set, replicate, Option, None, Some, refl, sym, ◌∙◌, ap, arith, ⊎_elim, length-set, get_or-set_same, get_or-set_other}
use Rattle.std.proofs.lemmas.List.{length-replicate, get_or-replicate}
use Rattle.std.proofs.lemmas.Bool.{or_left, or_right, eq-eqb, ne_eqb, cases_eq}
use Rattle.std.proofs.lemmas.List.Folds.{list_any-append}
use Rattle.mama_journal.specs.Journal.{puts_after, puts, all_below}
use Rattle.mama_event.specs.declared.shape.Shape.{Shape}
use Rattle.mama_event.specs.Ports.{clients_of, publishers_of, queues_of}
use Rattle.mama_rules_services.specs.Bridge.{BridgeEvent, client_done, sends_done, settled, bye, lives, is_settling, has_ending, ends_client, ends_sends, settles, ends_queue}
use Rattle.mama_laws_bridge.specs.Table.{Table, empty_table, table_next, marked, client_in, sender_in, settler_in, leaver_in, settling_now, ended_now, all_set, kept}
use Rattle.mama_laws_bridge.proofs.Lists.{Each, each_append, each_weaker, filter_each, all_set_tells}

-- ---- who is done

-- a flag for each number below a count: whether an event came that says the number
pub record Tells (n : ℕ) (test : ℕ → BridgeEvent → Bool) (es : List BridgeEvent) (flags : List Bool) : Type 0 where
  pub len : length flags ≡ n
  pub each : (k : ℕ) → k < n → get_or flags k false ≡ list_any (test k) es

-- an event says a number
abbrev pub says : ℕ → Option ℕ → Bool
says k None = false
says k (Some d) = d == k

any_one : (a b : Bool) → (a || (b || false)) ≡ (a || b)
any_one true b = refl
any_one false true = refl
any_one false false = refl

pub list_any-push : {E : Type 0} (test : E → Bool) (es : List E) (e : E) → list_any test (es ++ e ∷ []) ≡ (list_any test es || test e)
list_any-push test es e = list_any-append test es (e ∷ []) ∙ any_one (list_any test es) (test e)

or_false : (a : Bool) → (a || false) ≡ a
or_false true = refl
or_false false = refl

or_true : (a : Bool) → (a || true) ≡ true
or_true true = refl
or_true false = refl

pub tells_none : (n : ℕ) (test : ℕ → BridgeEvent → Bool) → Tells n test [] (replicate n false)
tells_none n test = record { len = length-replicate n false; each = λ k lt. get_or-replicate n k false false lt }

pub tells_next : (n : ℕ) (test : ℕ → BridgeEvent → Bool) (es : List BridgeEvent) (flags : List Bool) (e : BridgeEvent) (said : Option ℕ)
    → ((k : ℕ) → test k e ≡ says k said) → Tells n test es flags → Tells n test (es ++ e ∷ []) (marked flags said)
tells_next n test es flags e None same h = record {
  len = h.len;
  each = λ k lt. h.each k lt ∙ sym (list_any-push (test k) es e ∙ ap (λ b. list_any (test k) es || b) (same k) ∙ or_false (list_any (test k) es));
}
tells_next n test es flags e (Some d) same h = record {
  len = length-set flags d true ∙ h.len;
  each = λ k lt. ⊎_elim
      (λ (it : d ≡ k).
      let in' : d < length flags = omega (arith, h.len, it, lt) in
      let now : get_or (set flags d true) k false ≡ true = ap (λ i. get_or (set flags d true) i false) (sym it) ∙ get_or-set_same flags d true false in' in
      let yes : list_any (test k) (es ++ e ∷ []) ≡ true = list_any-push (test k) es e ∙ ap (λ b. list_any (test k) es || b) (same k ∙ eq-eqb d k it) ∙ or_true (list_any (test k) es) in
      now ∙ sym yes)
      (λ (other : d ≡ k → ⊥).
      get_or-set_other flags d k true false (λ back. other (sym back))
      ∙ h.each k lt
      ∙ sym (list_any-push (test k) es e ∙ ap (λ b. list_any (test k) es || b) (same k ∙ ne_eqb d k other) ∙ or_false (list_any (test k) es)))
      (cases_eq d k);
}

pub client_said : (e : BridgeEvent) (k : ℕ) → ends_client k e ≡ says k (client_in e)
client_said (client_done c) k = refl
client_said _ k = refl

pub sender_said : (e : BridgeEvent) (k : ℕ) → ends_sends k e ≡ says k (sender_in e)
sender_said (sends_done c) k = refl
sender_said _ k = refl

pub settler_said : (e : BridgeEvent) (k : ℕ) → settles k e ≡ says k (settler_in e)
settler_said (settled c) k = refl
settler_said _ k = refl

pub leaver_said : (e : BridgeEvent) (k : ℕ) → ends_queue k e ≡ says k (leaver_in e)
leaver_said (bye c) k = refl
leaver_said _ k = refl

-- the flags of a table tell who said its last
pub record Counted (shape : Shape) (es : List BridgeEvent) (table : Table) : Type 0 where
  pub clients : Tells (clients_of shape) ends_client es table.clients
  pub sends : Tells (publishers_of shape) ends_sends es table.sends
  pub settled : Tells (publishers_of shape) settles es table.settled
  pub byes : Tells (queues_of shape) ends_queue es table.byes

pub counted_none : (shape : Shape) → Counted shape [] (empty_table shape)
counted_none shape = record {
  clients = tells_none (clients_of shape) ends_client;
  sends = tells_none (publishers_of shape) ends_sends;
  settled = tells_none (publishers_of shape) settles;
  byes = tells_none (queues_of shape) ends_queue;
}

pub counted_next : (shape : Shape) (es : List BridgeEvent) (table : Table) (e : BridgeEvent) → Counted shape es table → Counted shape (es ++ e ∷ []) (table_next shape table e)
counted_next shape es table e h = record {
  clients = tells_next (clients_of shape) ends_client es table.clients e (client_in e) (client_said e) h.clients;
  sends = tells_next (publishers_of shape) ends_sends es table.sends e (sender_in e) (sender_said e) h.sends;
  settled = tells_next (publishers_of shape) settles es table.settled e (settler_in e) (settler_said e) h.settled;
  byes = tells_next (queues_of shape) ends_queue es table.byes e (leaver_in e) (leaver_said e) h.byes;
}

tells_all : (n : ℕ) (test : ℕ → BridgeEvent → Bool) (es : List BridgeEvent) (flags : List Bool) → Tells n test es flags → all_below n (λ k. list_any (test k) es) ≡ all_set flags
tells_all n test es flags h = all_set_tells flags n (λ k. list_any (test k) es) h.len h.each

pub settling_is : (shape : Shape) (es : List BridgeEvent) (table : Table) → Counted shape es table → is_settling shape es ≡ settling_now table
settling_is shape es table h =
    let c = tells_all (clients_of shape) ends_client es table.clients h.clients in
    let s = tells_all (publishers_of shape) ends_sends es table.sends h.sends in
    rw (c, s) refl

pub ended_is : (shape : Shape) (es : List BridgeEvent) (table : Table) → Counted shape es table → has_ending shape es ≡ ended_now table
ended_is shape es table h =
    let s = tells_all (publishers_of shape) settles es table.settled h.settled in
    ap (λ b. b && all_below (publishers_of shape) (λ k. list_any (settles k) es)) (settling_is shape es table h) ∙ ap (λ b. settling_now table && b) s

-- every queue has said its last
pub byes_is : (shape : Shape) (es : List BridgeEvent) (table : Table) → Counted shape es table → all_below (queues_of shape) (λ k. list_any (ends_queue k) es) ≡ all_set table.byes
byes_is shape es table h = tells_all (queues_of shape) ends_queue es table.byes h.byes

-- ---- live

eta : (b : Bool) → cond b true false ≡ b
eta true = refl
eta false = refl

not_or : (a b : Bool) → not (a || b) ≡ (not a && not b)
not_or true b = refl
not_or false b = refl

first_lives : (b any_end_after any_end end live_after live any : Bool) (own : Bool)
    → any_end_after ≡ (any_end || end) → live_after ≡ cond any (live && not end) own
    → cond b (not any_end_after) live_after ≡ cond (b || any) (cond b (not any_end) live && not end) own
first_lives true any_end_after any_end end live_after live any own h k = ap not h ∙ not_or any_end end
first_lives false any_end_after any_end end live_after live any own h k = k

-- an object that began lives on unless the event ends it, and another lives where the event begins it
pub lives-push : (begins ends : BridgeEvent → Bool) (es : List BridgeEvent) (e : BridgeEvent) →
    lives begins ends (es ++ e ∷ []) ≡ cond (list_any begins es) (lives begins ends es && not (ends e)) (begins e)
lives-push begins ends [] e = eta (begins e)
lives-push begins ends (x ∷ es) e =
    first_lives (begins x) (list_any ends (es ++ e ∷ [])) (list_any ends es) (ends e) (lives begins ends (es ++ e ∷ [])) (lives begins ends es) (list_any begins es) (begins e)
    (list_any-push ends es e) (lives-push begins ends es e)

first_unborn : (b any x y : Bool) → (b || any) ≡ false → (any ≡ false → y ≡ false) → cond b x y ≡ false
first_unborn true any x y h k = cc
first_unborn false any x y h k = k h

-- what did not begin is not live
pub unborn : (begins ends : BridgeEvent → Bool) (es : List BridgeEvent) → list_any begins es ≡ false → lives begins ends es ≡ false
unborn begins ends [] h = refl
unborn begins ends (x ∷ es) h = first_unborn (begins x) (list_any begins es) (not (list_any ends es)) (lives begins ends es) h (unborn begins ends es)

-- all objects that were made began
pub all_began : {I : Type 0} (newly : List BridgeEvent → BridgeEvent → List I) (begins : I → BridgeEvent → Bool)
    → ((before : List BridgeEvent) (e : BridgeEvent) → Each (λ i. begins i e ≡ true) (newly before e))
    → (before es : List BridgeEvent) → Each (λ i. list_any (begins i) es ≡ true) (puts_after newly before es)
all_began newly begins own before [] = tt
all_began newly begins own before (e ∷ es) =
    each_append (λ i. list_any (begins i) (e ∷ es) ≡ true) (newly before e) (puts_after newly (before ++ e ∷ []) es)
    (each_weaker (λ i. begins i e ≡ true) (λ i. list_any (begins i) (e ∷ es) ≡ true) (newly before e) (λ i h. or_left (begins i e) (list_any (begins i) es) h) (own before e))
    (each_weaker (λ i. list_any (begins i) es ≡ true) (λ i. list_any (begins i) (e ∷ es) ≡ true) (puts_after newly (before ++ e ∷ []) es) (λ i h. or_right (begins i e) (list_any (begins i) es) h) (all_began newly begins own (before ++ e ∷ []) es))

-- filters by who lives
none_cond : {I : Type 0} (b : Bool) (x : I) (ys : List I) → ys ≡ [] → cond (b && false) (x ∷ ys) ys ≡ []
none_cond true x ys h = h
none_cond false x ys h = h

none_pass : {I : Type 0} (j : I → Bool) (xs : List I) → filter (λ i. j i && not true) xs ≡ []
none_pass j [] = refl
none_pass j (x ∷ xs) = none_cond (j x) x (filter (λ i. j i && not true) xs) (none_pass j xs)

and_true : (a : Bool) → (a && true) ≡ a
and_true true = refl
and_true false = refl

both_cond : {I : Type 0} (q : I → Bool) (a b : Bool) (x : I) (ys zs : List I) → q x ≡ b → ys ≡ filter q zs
    → cond ((a && b) && true) (x ∷ ys) ys ≡ filter q (cond (a && true) (x ∷ zs) zs)
both_cond q true true x ys zs e h = rw e (ap (λ ws. x ∷ ws) h)
both_cond q true false x ys zs e h = rw e h
both_cond q false b x ys zs e h = h

filter_both : {I : Type 0} (j q : I → Bool) (xs : List I) → filter (λ i. (j i && q i) && true) xs ≡ filter q (filter (λ i. j i && true) xs)
filter_both j q [] = refl
filter_both j q (x ∷ xs) = both_cond q (j x) (q x) x (filter (λ i. (j i && q i) && true) xs) (filter (λ i. j i && true) xs) refl (filter_both j q xs)

-- who lives after the event, of those that began before
filter_kept : {I : Type 0} (j l q : I → Bool) (xs : List I) (was is : Bool) → (was ≡ true → is ≡ true) → Each (λ i. l i ≡ (j i && q i)) xs
    → filter (λ i. l i && not is) xs ≡ kept is (filter q (filter (λ i. j i && not was) xs))
filter_kept j l q xs was true stays h = none_pass l xs
filter_kept j l q xs true false stays h = cc (stays refl)
filter_kept j l q xs false false stays h =
    filter_each (λ i. l i && true) (λ i. (j i && q i) && true) xs
    (each_weaker (λ i. l i ≡ (j i && q i)) (λ i. (l i && true) ≡ ((j i && q i) && true)) xs (λ i k. ap (λ b. b && true) k) h)
    ∙ filter_both j q xs

-- the live objects of a kind
abbrev pub living : {I : Type 0} → (List BridgeEvent → BridgeEvent → List I) → (I → BridgeEvent → Bool) → (I → BridgeEvent → Bool) → Bool → List BridgeEvent → List I
living newly begins ends ended es = filter (λ i. lives (begins i) (ends i) es && not ended) (puts newly es)

pub living_then : {I : Type 0} (newly : List BridgeEvent → BridgeEvent → List I) (begins ends : I → BridgeEvent → Bool)
    → ((before : List BridgeEvent) (e : BridgeEvent) → Each (λ i. begins i e ≡ true) (newly before e))
    → (es : List BridgeEvent) (e : BridgeEvent) (was is : Bool) → (was ≡ true → is ≡ true)
    → filter (λ i. lives (begins i) (ends i) (es ++ e ∷ []) && not is) (puts newly es) ≡ kept is (filter (λ i. not (ends i e)) (living newly begins ends was es))
living_then newly begins ends own es e was is stays =
    filter_kept (λ i. lives (begins i) (ends i) es) (λ i. lives (begins i) (ends i) (es ++ e ∷ [])) (λ i. not (ends i e)) (puts newly es) was is stays
    (each_weaker (λ i. list_any (begins i) es ≡ true) (λ i. lives (begins i) (ends i) (es ++ e ∷ []) ≡ (lives (begins i) (ends i) es && not (ends i e))) (puts newly es)
    (λ i h. lives-push (begins i) (ends i) es e ∙ rw h refl) (all_began newly begins own [] es))
