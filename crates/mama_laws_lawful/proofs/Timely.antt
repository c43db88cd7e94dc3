-- Where each client put what it may, nothing is joined or opened after the ending.
use Rattle.std.specs.List.{list_any}
use Rattle.std.proofs.Common.{◌≡◌, ℕ, zero, suc, ◌<◌, ◌-◌, ◌==◌, Bool, true, false, not, cond, List, [], ◌∷◌, ◌++◌, map, refl, sym, ◌∙◌, ap, subst, arith, eq-eqb, eqb-true, ⊎_elim}
use Rattle.std.proofs.lemmas.Bool.{and_parts, cases_Bool, cases_lt, both_ways, ltb-true, false_from_ne_true}
use Rattle.mama_journal.specs.Journal.{all_below}
use Rattle.mama_journal.specs.Lane.{by_port}
use Rattle.mama_event.specs.Lawful.{IsLawful}
use Rattle.mama_event.specs.LawfulLaws.{IsLawful-at}
use Rattle.mama_event.specs.Ports.{clients_of, publishers_of, is_bridge_port_of_client, is_bridge_port_of_publisher, is_bridge_port_of_queue}
use Rattle.mama_event.specs.ToBridge as bridge
use Rattle.mama_event.specs.declared.shape.Shape.{Shape}
use Rattle.mama_event.specs.declared.to_bridge.BridgeNote.{BridgeNote}
use Rattle.mama_event.specs.declared.to_bridge.BridgeNote.TheVariants as b
use Rattle.mama_rules_services.specs.Ports.{Putter, ByClient, ByPublisher, ByQueue, ByBridge, ByTimers, ByNobody, bridge_putter}
use Rattle.mama_rules_services.specs.Bridge.{BridgeEvent, joins, opens, no_event, put_by, heard, ends_client, is_settling, has_ending}
use Rattle.mama_rules_services.proofs.CameBy.{came_by}
use Rattle.mama_laws_lawful.specs.Streams.{is_beginning}
use Rattle.mama_laws_lawful.specs.Laws.{LawfulClientsAreTimely}

-- ---- who joins, and who is done

-- whether a client's part puts it, and which
abbrev pub is_by : ℕ → Putter → Bool
is_by c (ByClient d) = d == c
is_by c _ = false

abbrev pub is_by_client : Putter → Bool
is_by_client (ByClient d) = true
is_by_client _ = false

-- only a client joins and opens
begins_by : (putter : Putter) (note : BridgeNote) → is_beginning (put_by putter note) ≡ true → is_by_client putter ≡ true
begins_by (ByClient d) note h = refl
begins_by (ByPublisher r) (b.Publish msg) h = h
begins_by (ByPublisher r) (b.Image sub msg) h = h
begins_by (ByPublisher r) (b.Reply inbox body) h = h
begins_by (ByPublisher r) b.SendsDone h = h
begins_by (ByPublisher r) b.Settled h = h
begins_by (ByPublisher r) _ h = h
begins_by (ByQueue k) (b.Leave sub) h = h
begins_by (ByQueue k) (b.CloseInbox inbox) h = h
begins_by (ByQueue k) (b.Ask inbox topic fids) h = h
begins_by (ByQueue k) (b.RecapWish sub sender) h = h
begins_by (ByQueue k) b.Bye h = h
begins_by (ByQueue k) _ h = h
begins_by ByBridge note h = h
begins_by ByTimers note h = h
begins_by ByNobody note h = h

-- only its own last word says a client done
ends_none : (c : ℕ) (test : Bool) (e : BridgeEvent) → ends_client c e ≡ false → ends_client c (cond test e no_event) ≡ false
ends_none c true e h = h
ends_none c false e h = refl

done_by : (c : ℕ) (putter : Putter) (note : BridgeNote) → ends_client c (put_by putter note) ≡ true → (is_by c putter ≡ true) × (bridge.is_last note ≡ true)
done_by c (ByClient d) (b.Join sub terms tag) h = absurd (both_ways (ends_client c (put_by (ByClient d) (b.Join sub terms tag))) (ends_none c (sub.client == d) (joins sub terms tag) refl) h)
done_by c (ByClient d) (b.OpenInbox inbox terms tag) h = absurd (both_ways (ends_client c (put_by (ByClient d) (b.OpenInbox inbox terms tag))) (ends_none c (inbox.client == d) (opens inbox terms tag) refl) h)
done_by c (ByClient d) b.ClientDone h = (h, refl)
done_by c (ByClient d) (b.Leave sub) h = cc
done_by c (ByClient d) (b.CloseInbox inbox) h = cc
done_by c (ByClient d) (b.Ask inbox topic fids) h = cc
done_by c (ByClient d) _ h = cc
done_by c (ByPublisher r) (b.Publish msg) h = cc
done_by c (ByPublisher r) (b.Image sub msg) h = cc
done_by c (ByPublisher r) (b.Reply inbox body) h = cc
done_by c (ByPublisher r) b.SendsDone h = cc
done_by c (ByPublisher r) b.Settled h = cc
done_by c (ByPublisher r) _ h = cc
done_by c (ByQueue k) (b.Leave sub) h = cc
done_by c (ByQueue k) (b.CloseInbox inbox) h = cc
done_by c (ByQueue k) (b.Ask inbox topic fids) h = cc
done_by c (ByQueue k) (b.RecapWish sub sender) h = cc
done_by c (ByQueue k) b.Bye h = cc
done_by c (ByQueue k) _ h = cc
done_by c ByBridge note h = cc
done_by c ByTimers note h = cc
done_by c ByNobody note h = cc

-- ---- which port is a client's

not_away : (test other : Bool) (r k : ℕ) → is_by_client (cond test (ByPublisher r) (cond other (ByQueue k) ByNobody)) ≡ true → ⊥
not_away true other r k h = both_ways false refl h
not_away false true r k h = both_ways false refl h
not_away false false r k h = both_ways false refl h

pub is_by_some : (c : ℕ) (putter : Putter) → is_by c putter ≡ true → is_by_client putter ≡ true
is_by_some c (ByClient d) h = refl
is_by_some c (ByPublisher r) h = h
is_by_some c (ByQueue k) h = h
is_by_some c ByBridge h = h
is_by_some c ByTimers h = h
is_by_some c ByNobody h = h

port_of_client : (shape : Shape) (port : ℕ) → is_by_client (bridge_putter shape port) ≡ true → is_bridge_port_of_client shape port ≡ true
port_of_client shape port h = ⊎_elim
    (λ (own : is_bridge_port_of_client shape port ≡ true). own)
    (λ (other : is_bridge_port_of_client shape port ≡ false). absurd (not_away (is_bridge_port_of_publisher shape port) (is_bridge_port_of_queue shape port) (port - clients_of shape) (port - clients_of shape - publishers_of shape)
    (sym (ap (λ (t : Bool). is_by_client (cond t (ByClient port)
    (cond (is_bridge_port_of_publisher shape port) (ByPublisher (port - clients_of shape)) (cond (is_bridge_port_of_queue shape port) (ByQueue (port - clients_of shape - publishers_of shape)) ByNobody)))) other) ∙ h)))
    (cases_Bool (is_bridge_port_of_client shape port))

port_is : (shape : Shape) (port c : ℕ) → is_by c (bridge_putter shape port) ≡ true → (port == c) ≡ true
port_is shape port c h =
    let own : is_bridge_port_of_client shape port ≡ true = port_of_client shape port (is_by_some c (bridge_putter shape port) h) in
    sym (ap (λ (t : Bool). is_by c (cond t (ByClient port)
    (cond (is_bridge_port_of_publisher shape port) (ByPublisher (port - clients_of shape)) (cond (is_bridge_port_of_queue shape port) (ByQueue (port - clients_of shape - publishers_of shape)) ByNobody)))) own) ∙ h

-- ---- what a port put

-- a client that is done put its last word by its port
last_came : (shape : Shape) (c : ℕ) (journal : List (ℕ × BridgeNote)) → list_any (ends_client c) (heard shape journal) ≡ true → list_any bridge.is_last (by_port c journal) ≡ true
last_came shape c journal h =
    came_by (λ (port : ℕ) (note : BridgeNote). put_by (bridge_putter shape port) note) c bridge.is_last (ends_client c)
    (λ port note is. let parts = done_by c (bridge_putter shape port) note is in (eqb-true port c (port_is shape port c parts.0), parts.1)) journal h

pub by_port_middle : {V : Type 0} (port : ℕ) (xs : List (ℕ × V)) (y : ℕ × V) (ys : List (ℕ × V)) → (y.0 == port) ≡ true → by_port port (xs ++ y ∷ ys) ≡ by_port port xs ++ y.1 ∷ by_port port ys
by_port_middle {V} port [] y ys h = ap (λ (t : Bool). cond t (y.1 ∷ by_port port ys) (by_port port ys)) h
by_port_middle {V} port (x ∷ xs) y ys h = at (x.0 == port) (by_port_middle port xs y ys h)
  where
    at : (t : Bool) → by_port port (xs ++ y ∷ ys) ≡ by_port port xs ++ y.1 ∷ by_port port ys
        → cond t (x.1 ∷ by_port port (xs ++ y ∷ ys)) (by_port port (xs ++ y ∷ ys)) ≡ cond t (x.1 ∷ by_port port xs) (by_port port xs) ++ y.1 ∷ by_port port ys
    at true ih = ap (λ (vs : List V). x.1 ∷ vs) ih
    at false ih = ih

-- where a list that was mapped is cut
pub record Cut {X Y : Type 0} (f : X → Y) (xs : List X) (before : List Y) (y : Y) : Type 0 where
  pub front : List X
  pub it : X
  pub back : List X
  pub parts : xs ≡ front ++ it ∷ back
  pub is_front : map f front ≡ before
  pub is_it : f it ≡ y

abbrev head_or : {Y : Type 0} → Y → List Y → Y
head_or y [] = y
head_or y (z ∷ zs) = z

abbrev tail_of : {Y : Type 0} → List Y → List Y
tail_of [] = []
tail_of (z ∷ zs) = zs

pub cut : {X Y : Type 0} (f : X → Y) (xs : List X) (before : List Y) (y : Y) (after : List Y) → map f xs ≡ before ++ y ∷ after → Cut f xs before y
cut f [] [] y after h = cc
cut f [] (z ∷ before) y after h = cc
cut {X} {Y} f (x ∷ xs) [] y after h = record {
  front = [];
  it = x;
  back = xs;
  parts = refl;
  is_front = refl;
  is_it = ap (head_or y) h;
}
cut {X} {Y} f (x ∷ xs) (z ∷ before) y after h =
    let later = cut f xs before y after (ap (λ (zs : List Y). tail_of zs) h) in
    record {
      front = x ∷ later.front;
      it = later.it;
      back = later.back;
      parts = ap (λ (zs : List X). x ∷ zs) later.parts;
      is_front = ap (λ (w : Y). w ∷ map f later.front) (ap (head_or z) h) ∙ ap (λ (ws : List Y). z ∷ ws) later.is_front;
      is_it = later.is_it;
    }

pub all_below_at : (n : ℕ) (is : ℕ → Bool) → all_below n is ≡ true → (k : ℕ) → k < n → is k ≡ true
all_below_at zero is h k lt = absurd (omega (arith, lt))
all_below_at (suc n) is h k lt =
    let parts = and_parts (all_below n is) (is n) h in
    ⊎_elim (λ below. all_below_at n is parts.0 k below) (λ above. let same : n ≡ k = omega (arith, above, lt) in subst (λ (i : ℕ). is i ≡ true) same parts.1) (cases_lt k n)

-- once the ending has come, each client is done
all_done : (shape : Shape) (es : List BridgeEvent) → has_ending shape es ≡ true → (c : ℕ) → c < clients_of shape → list_any (ends_client c) es ≡ true
all_done shape es h c less =
    let settling = (and_parts (is_settling shape es) _ h).0 in
    all_below_at (clients_of shape) (λ d. list_any (ends_client d) es) (and_parts (all_below (clients_of shape) (λ d. list_any (ends_client d) es)) _ settling).0 c less

pub lawful_are_timely : LawfulClientsAreTimely
lawful_are_timely shape journal lawful = record {
  each = λ before e after is ended. false_from_ne_true (is_beginning e) (λ begins.
      let place = cut (λ (x : ℕ × BridgeNote). put_by (bridge_putter shape x.0) x.1) journal before e after is in
      let port : ℕ = place.it.0 in
      let own : is_bridge_port_of_client shape port ≡ true =
      port_of_client shape port (begins_by (bridge_putter shape port) place.it.1 (ap is_beginning place.is_it ∙ begins)) in
      let less : port < clients_of shape = ltb-true port (clients_of shape) own in
      let done : list_any bridge.is_last (by_port port place.front) ≡ true =
      last_came shape port place.front (ap (list_any (ends_client port)) place.is_front ∙ all_done shape before ended port less) in
      let whole : by_port port journal ≡ by_port port place.front ++ place.it.1 ∷ by_port port place.back =
      ap (by_port port) place.parts ∙ by_port_middle port place.front place.it place.back (eq-eqb port port refl) in
      let follows = IsLawful-at bridge.is_last (bridge.fits shape.bounds) (by_port port place.front) place.it.1 (by_port port place.back)
      (subst (IsLawful bridge.is_last (bridge.fits shape.bounds)) whole (lawful.each port less)) in
      let none : not (list_any bridge.is_last (by_port port place.front)) ≡ true = (and_parts (not (list_any bridge.is_last (by_port port place.front))) _ follows).0 in
      both_ways false refl (ap not (sym done) ∙ none));
}
