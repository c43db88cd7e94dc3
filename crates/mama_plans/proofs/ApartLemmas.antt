-- No two objects of a script are one: each client numbers its objects of each kind one after another.
use Rattle.std.specs.Prelude.{if◌then◌else◌}
use Rattle.std.specs.List.{AllByRecursion}
use Rattle.std.proofs.Common.{◌≡◌, ℕ, suc, ◌≤◌, Bool, true, false, List, [], ◌∷◌, ◌++◌, filter, refl, sym, subst, arith}
use Rattle.mama_event.specs.declared.ids.ObjectId.{ObjectId}
use Rattle.mama_event.specs.declared.ids.ObjectId.TheVariants.{Sub, Timer, Inbox}
use Rattle.mama_event.specs.Object.{same_object}
use Rattle.mama_script.specs.declared.client.ClientLine.{ClientLine}
use Rattle.mama_script.specs.declared.client.ClientLine.TheVariants as line
use Rattle.mama_rules_rounds.specs.Client.{Planned, Standing, after_word, after_line, line_object, objects_from, at_first, client_objects}
use Rattle.mama_rules_rounds.specs.Sections.{is_sub, is_timer, is_inbox, by_kind, objects_of}
use Rattle.mama_plans.specs.Plans.{AreApart}
use Rattle.mama_plans.proofs.IdLemmas.{same_object_true}
use Rattle.mama_plans.proofs.RoomLemmas.{word_subs, word_timers, word_inboxes}

-- ALL OF A LIST

all_append : {X : Type 0} (P : X → Type 0) (xs ys : List X) → AllByRecursion P xs → AllByRecursion P ys → AllByRecursion P (xs ++ ys)
all_append P [] ys all more = more
all_append P (x ∷ xs) ys all more = (all.0, all_append P xs ys all.1 more)

all_weaker : {X : Type 0} (P Q : X → Type 0) → ((x : X) → P x → Q x) → (xs : List X) → AllByRecursion P xs → AllByRecursion Q xs
all_weaker P Q weaker [] all = tt
all_weaker P Q weaker (x ∷ xs) all = (weaker x all.0, all_weaker P Q weaker xs all.1)

all_filter : (P : Planned → Type 0) (test : Planned → Bool) (ps : List Planned) → AllByRecursion P ps → AllByRecursion P (filter test ps)
all_filter P test [] all = tt
all_filter P test (p ∷ ps) all =
    elim (test p) as (λ b. AllByRecursion P (if b then p ∷ filter test ps else filter test ps)) [
      | true ↦ (all.0, all_filter P test ps all.1)
      | false ↦ all_filter P test ps all.1
    ]

all_pass : (test : Planned → Bool) (ps : List Planned) → AllByRecursion (λ p. test p ≡ true) (filter test ps)
all_pass test [] = tt
all_pass test (p ∷ ps) =
    elim (test p) as (λ b. test p ≡ b → AllByRecursion (λ q. test q ≡ true) (if b then p ∷ filter test ps else filter test ps)) [
      | true ↦ λ passes. (passes, all_pass test ps)
      | false ↦ λ fails. all_pass test ps
    ] refl

-- OBJECTS THAT ARE NOT ONE

abbrev IsOther : ObjectId → Planned → Type 0
IsOther o p = same_object o p.object ≡ false

untrue : (b : Bool) → (b ≡ true → ⊥) → b ≡ false
untrue true never = absurd (never refl)
untrue false never = refl

-- what has a property is none that has it not
others : (P : ObjectId → Type 0) (o : ObjectId) → (P o → ⊥) → (ps : List Planned) → AllByRecursion (λ p. P p.object) ps → AllByRecursion (IsOther o) ps
others P o never ps all =
    all_weaker (λ p. P p.object) (IsOther o) (λ p h. untrue (same_object o p.object) (λ same. never (subst P (sym (same_object_true o p.object same)) h))) ps all

apart_append : (ps qs : List Planned) → AreApart ps → AreApart qs → AllByRecursion (λ p. AllByRecursion (IsOther p.object) qs) ps → AreApart (ps ++ qs)
apart_append [] qs apart more across = more
apart_append (p ∷ ps) qs apart more across = (all_append (IsOther p.object) ps qs apart.0 across.0, apart_append ps qs apart.1 more across.1)

apart_filter : (test : Planned → Bool) (ps : List Planned) → AreApart ps → AreApart (filter test ps)
apart_filter test [] apart = tt
apart_filter test (p ∷ ps) apart =
    elim (test p) as (λ b. AreApart (if b then p ∷ filter test ps else filter test ps)) [
      | true ↦ (all_filter (IsOther p.object) test ps apart.0, apart_filter test ps apart.1)
      | false ↦ apart_filter test ps apart.1
    ]

-- THE OBJECTS OF ONE CLIENT

-- an object of a client that was named at this standing or later
abbrev IsFrom : ℕ → Standing → ObjectId → Type 0
IsFrom c s (Sub o) = (c ≡ o.client) × (s.subs ≤ o.number)
IsFrom c s (Timer o) = (c ≡ o.client) × (s.timers ≤ o.number)
IsFrom c s (Inbox o) = (c ≡ o.client) × (s.inboxes ≤ o.number)

-- what was named later was named at an earlier standing or later
earlier : (c : ℕ) (s t : Standing) → s.subs ≤ t.subs → s.timers ≤ t.timers → s.inboxes ≤ t.inboxes → (o : ObjectId) → IsFrom c t o → IsFrom c s o
earlier c s t subs timers inboxes (Sub o) h = (h.0, omega (arith, subs, h.1))
earlier c s t subs timers inboxes (Timer o) h = (h.0, omega (arith, timers, h.1))
earlier c s t subs timers inboxes (Inbox o) h = (h.0, omega (arith, inboxes, h.1))

line_earlier : (c : ℕ) (s : Standing) (l : ClientLine) (o : ObjectId) → IsFrom c (after_line s l) o → IsFrom c s o
line_earlier c s (line.Sub topic kind queue cache recaps faults plan) o h =
    earlier c s (record (after_word s queue) { subs = suc s.subs }) (omega arith) (omega (arith, word_timers s queue)) (omega (arith, word_inboxes s queue)) o h
line_earlier c s (line.Timer queue interval plan) o h =
    earlier c s (record (after_word s queue) { timers = suc s.timers }) (omega (arith, word_subs s queue)) (omega arith) (omega (arith, word_inboxes s queue)) o h
line_earlier c s (line.Inbox queue faults plan) o h =
    earlier c s (record (after_word s queue) { inboxes = suc s.inboxes }) (omega (arith, word_subs s queue)) (omega (arith, word_timers s queue)) (omega arith) o h
line_earlier c s (line.Order order) o h = h
line_earlier c s (line.Now m) o h = h
line_earlier c s line.NowClock o h = earlier c s (after_line s line.NowClock) (omega arith) (omega arith) (omega arith) o h
line_earlier c s (line.Pause n) o h = h

line_from : (queues c : ℕ) (s : Standing) (l : ClientLine) → AllByRecursion (λ p. IsFrom c s p.object) (line_object queues c s l)
line_from queues c s (line.Sub topic kind queue cache recaps faults plan) = ((refl, omega arith), tt)
line_from queues c s (line.Timer queue interval plan) = ((refl, omega arith), tt)
line_from queues c s (line.Inbox queue faults plan) = ((refl, omega arith), tt)
line_from queues c s (line.Order o) = tt
line_from queues c s (line.Now m) = tt
line_from queues c s line.NowClock = tt
line_from queues c s (line.Pause n) = tt

lines_from : (queues c : ℕ) (s : Standing) (ls : List ClientLine) → AllByRecursion (λ p. IsFrom c s p.object) (objects_from queues c s ls)
lines_from queues c s [] = tt
lines_from queues c s (l ∷ ls) =
    all_append (λ p. IsFrom c s p.object) (line_object queues c s l) (objects_from queues c (after_line s l) ls) (line_from queues c s l)
    (all_weaker (λ p. IsFrom c (after_line s l) p.object) (λ p. IsFrom c s p.object) (λ p h. line_earlier c s l p.object h) (objects_from queues c (after_line s l) ls)
    (lines_from queues c (after_line s l) ls))

lines_apart : (queues c : ℕ) (s : Standing) (ls : List ClientLine) → AreApart (objects_from queues c s ls)
lines_apart queues c s [] = tt
lines_apart queues c s (line.Sub topic kind queue cache recaps faults plan ∷ ls) =
    let after : Standing = record (after_word s queue) { subs = suc s.subs } in (
      others (IsFrom c after) (Sub (record { client = c; number = s.subs })) (λ h. omega (arith, h.1)) (objects_from queues c after ls) (lines_from queues c after ls),
      lines_apart queues c after ls,
    )
lines_apart queues c s (line.Timer queue interval plan ∷ ls) =
    let after : Standing = record (after_word s queue) { timers = suc s.timers } in (
      others (IsFrom c after) (Timer (record { client = c; number = s.timers })) (λ h. omega (arith, h.1)) (objects_from queues c after ls) (lines_from queues c after ls),
      lines_apart queues c after ls,
    )
lines_apart queues c s (line.Inbox queue faults plan ∷ ls) =
    let after : Standing = record (after_word s queue) { inboxes = suc s.inboxes } in (
      others (IsFrom c after) (Inbox (record { client = c; number = s.inboxes })) (λ h. omega (arith, h.1)) (objects_from queues c after ls) (lines_from queues c after ls),
      lines_apart queues c after ls,
    )
lines_apart queues c s (line.Order o ∷ ls) = lines_apart queues c s ls
lines_apart queues c s (line.Now m ∷ ls) = lines_apart queues c s ls
lines_apart queues c s (line.NowClock ∷ ls) = lines_apart queues c (after_line s line.NowClock) ls
lines_apart queues c s (line.Pause n ∷ ls) = lines_apart queues c s ls

-- THE OBJECTS OF ALL CLIENTS

-- an object of this client or a later one
abbrev IsFromClient : ℕ → ObjectId → Type 0
IsFromClient c (Sub o) = c ≤ o.client
IsFromClient c (Timer o) = c ≤ o.client
IsFromClient c (Inbox o) = c ≤ o.client

own_client : (c : ℕ) (s : Standing) (o : ObjectId) → IsFrom c s o → IsFromClient c o
own_client c s (Sub o) h = omega (arith, h.0)
own_client c s (Timer o) h = omega (arith, h.0)
own_client c s (Inbox o) h = omega (arith, h.0)

later_client : (c : ℕ) (o : ObjectId) → IsFromClient (suc c) o → IsFromClient c o
later_client c (Sub o) h = omega (arith, h)
later_client c (Timer o) h = omega (arith, h)
later_client c (Inbox o) h = omega (arith, h)

no_later : (c : ℕ) (s : Standing) (o : ObjectId) → IsFrom c s o → IsFromClient (suc c) o → ⊥
no_later c s (Sub o) h later = omega (arith, h.0, later)
no_later c s (Timer o) h later = omega (arith, h.0, later)
no_later c s (Inbox o) h later = omega (arith, h.0, later)

clients_from : (queues c : ℕ) (cs : List (List ClientLine)) → AllByRecursion (λ p. IsFromClient c p.object) (objects_of queues c cs)
clients_from queues c [] = tt
clients_from queues c (ls ∷ cs) =
    all_append (λ p. IsFromClient c p.object) (client_objects queues c ls) (objects_of queues (suc c) cs)
    (all_weaker (λ p. IsFrom c (at_first []) p.object) (λ p. IsFromClient c p.object) (λ p h. own_client c (at_first []) p.object h) (client_objects queues c ls) (lines_from queues c (at_first []) ls))
    (all_weaker (λ p. IsFromClient (suc c) p.object) (λ p. IsFromClient c p.object) (λ p h. later_client c p.object h) (objects_of queues (suc c) cs) (clients_from queues (suc c) cs))

clients_apart : (queues c : ℕ) (cs : List (List ClientLine)) → AreApart (objects_of queues c cs)
clients_apart queues c [] = tt
clients_apart queues c (ls ∷ cs) =
    let later : List Planned = objects_of queues (suc c) cs in
    apart_append (client_objects queues c ls) later (lines_apart queues c (at_first []) ls) (clients_apart queues (suc c) cs)
    (all_weaker (λ p. IsFrom c (at_first []) p.object) (λ p. AllByRecursion (IsOther p.object) later)
    (λ p h. others (IsFromClient (suc c)) p.object (no_later c (at_first []) p.object h) later (clients_from queues (suc c) cs)) (client_objects queues c ls) (lines_from queues c (at_first []) ls))

-- THE OBJECTS BY KIND

abbrev IsNoSub : ObjectId → Type 0
IsNoSub (Sub o) = ⊥
IsNoSub (Timer o) = Unit {0}
IsNoSub (Inbox o) = Unit {0}

abbrev IsInbox : ObjectId → Type 0
IsInbox (Sub o) = ⊥
IsInbox (Timer o) = ⊥
IsInbox (Inbox o) = Unit {0}

never_sub : (p : Planned) → is_sub p ≡ true → IsNoSub p.object → ⊥
never_sub p = elim p.object as (λ o. is_sub (record p { object = o }) ≡ true → IsNoSub o → ⊥) [ Sub o ↦ λ h none. none | Timer o ↦ λ h none. cc | Inbox o ↦ λ h none. cc ]

timers_no_subs : (p : Planned) → is_timer p ≡ true → IsNoSub p.object
timers_no_subs p = elim p.object as (λ o. is_timer (record p { object = o }) ≡ true → IsNoSub o) [ Sub o ↦ λ h. cc | Timer o ↦ λ h. tt | Inbox o ↦ λ h. tt ]

inboxes_are : (p : Planned) → is_inbox p ≡ true → IsInbox p.object
inboxes_are p = elim p.object as (λ o. is_inbox (record p { object = o }) ≡ true → IsInbox o) [ Sub o ↦ λ h. cc | Timer o ↦ λ h. cc | Inbox o ↦ λ h. tt ]

subs_no_inboxes : (p : Planned) → is_sub p ≡ true → IsInbox p.object → ⊥
subs_no_inboxes p = elim p.object as (λ o. is_sub (record p { object = o }) ≡ true → IsInbox o → ⊥) [ Sub o ↦ λ h is. is | Timer o ↦ λ h is. is | Inbox o ↦ λ h is. cc ]

timers_no_inboxes : (p : Planned) → is_timer p ≡ true → IsInbox p.object → ⊥
timers_no_inboxes p = elim p.object as (λ o. is_timer (record p { object = o }) ≡ true → IsInbox o → ⊥) [ Sub o ↦ λ h is. is | Timer o ↦ λ h is. is | Inbox o ↦ λ h is. cc ]

kinds_apart : (all : List Planned) → AreApart all → AreApart (by_kind all)
kinds_apart all apart =
    let subs : List Planned = filter is_sub all in
    let timers : List Planned = filter is_timer all in
    let inboxes : List Planned = filter is_inbox all in
    let others_of : (p : Planned) → (IsInbox p.object → ⊥) → AllByRecursion (IsOther p.object) inboxes =
    λ p never. others IsInbox p.object never inboxes (all_weaker (λ q. is_inbox q ≡ true) (λ q. IsInbox q.object) inboxes_are inboxes (all_pass is_inbox all)) in
    apart_append (subs ++ timers) inboxes
    (apart_append subs timers (apart_filter is_sub all apart) (apart_filter is_timer all apart)
    (all_weaker (λ p. is_sub p ≡ true) (λ p. AllByRecursion (IsOther p.object) timers)
    (λ p sub. others IsNoSub p.object (never_sub p sub) timers (all_weaker (λ q. is_timer q ≡ true) (λ q. IsNoSub q.object) timers_no_subs timers (all_pass is_timer all)))
    subs (all_pass is_sub all)))
    (apart_filter is_inbox all apart)
    (all_append (λ p. AllByRecursion (IsOther p.object) inboxes) subs timers
    (all_weaker (λ p. is_sub p ≡ true) (λ p. AllByRecursion (IsOther p.object) inboxes) (λ p sub. others_of p (subs_no_inboxes p sub)) subs (all_pass is_sub all))
    (all_weaker (λ p. is_timer p ≡ true) (λ p. AllByRecursion (IsOther p.object) inboxes) (λ p timer. others_of p (timers_no_inboxes p timer)) timers (all_pass is_timer all)))

pub objects_apart : (queues : ℕ) (cs : List (List ClientLine)) → AreApart (by_kind (objects_of queues 0 cs))
objects_apart queues cs = kinds_apart (objects_of queues 0 cs) (clients_apart queues 0 cs)
