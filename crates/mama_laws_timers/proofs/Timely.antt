-- Where each client put what it may, no timer is armed after the ending.
use Rattle.std.specs.List.{list_any}
use Rattle.std.proofs.Common.{◌≡◌, ℕ, ◌<◌, ◌-◌, ◌==◌, Bool, true, false, not, cond, List, ◌∷◌, ◌++◌, refl, sym, ◌∙◌, ap, subst, eq-eqb, eqb-true, ⊎_elim}
use Rattle.std.proofs.lemmas.Bool.{and_parts, cases_Bool, both_ways, ltb-true, false_from_ne_true}
use Rattle.mama_journal.specs.Journal.{all_below}
use Rattle.mama_journal.specs.Lane.{by_port}
use Rattle.mama_event.specs.Lawful.{IsLawful}
use Rattle.mama_event.specs.LawfulLaws.{IsLawful-at}
use Rattle.mama_event.specs.Ports.{clients_of, is_timers_port_of_client, is_timers_port_of_queue, is_timers_port_of_bridge}
use Rattle.mama_event.specs.ToTimers as timers
use Rattle.mama_event.specs.declared.shape.Shape.{Shape}
use Rattle.mama_event.specs.declared.to_timers.TimersNote.{TimersNote}
use Rattle.mama_event.specs.declared.to_timers.TimersNote.TheVariants as t
use Rattle.mama_rules_services.specs.Ports.{Putter, ByClient, ByPublisher, ByQueue, ByBridge, ByTimers, ByNobody, timers_putter}
use Rattle.mama_rules_services.specs.Timers.{TimersEvent, arms, no_event, put_by, heard, ends_client, is_fin, has_ending}
use Rattle.mama_rules_services.proofs.CameBy.{came_by}
use Rattle.mama_laws_lawful.proofs.Timely.{is_by, is_by_client, is_by_some, by_port_middle, cut, all_below_at}
use Rattle.mama_laws_timers.specs.Streams.{is_arming}
use Rattle.mama_laws_timers.specs.Laws.{LawfulClientsAreTimely}

-- ---- who arms, and who is done

-- only a client arms a timer
arms_by : (putter : Putter) (note : TimersNote) → is_arming (put_by putter note) ≡ true → is_by_client putter ≡ true
arms_by (ByClient d) note h = refl
arms_by (ByPublisher r) note h = h
arms_by (ByQueue k) (t.Disarm timer) h = h
arms_by (ByQueue k) t.Bye h = h
arms_by (ByQueue k) _ h = h
arms_by ByBridge t.Fin h = h
arms_by ByBridge _ h = h
arms_by ByTimers note h = h
arms_by ByNobody note h = h

-- only its own last word says a client done
ends_none : (c : ℕ) (test : Bool) (e : TimersEvent) → ends_client c e ≡ false → ends_client c (cond test e no_event) ≡ false
ends_none c true e h = h
ends_none c false e h = refl

done_by : (c : ℕ) (putter : Putter) (note : TimersNote) → ends_client c (put_by putter note) ≡ true → (is_by c putter ≡ true) × (timers.is_last note ≡ true)
done_by c (ByClient d) (t.Arm timer queue interval tag) h = absurd (both_ways (ends_client c (put_by (ByClient d) (t.Arm timer queue interval tag))) (ends_none c (timer.client == d) (arms timer queue interval tag) refl) h)
done_by c (ByClient d) t.ClientDone h = (h, refl)
done_by c (ByClient d) (t.Disarm timer) h = cc
done_by c (ByClient d) (t.Now moment) h = cc
done_by c (ByClient d) _ h = cc
done_by c (ByPublisher r) note h = cc
done_by c (ByQueue k) (t.Disarm timer) h = cc
done_by c (ByQueue k) t.Bye h = cc
done_by c (ByQueue k) _ h = cc
done_by c ByBridge t.Fin h = cc
done_by c ByBridge _ h = cc
done_by c ByTimers note h = cc
done_by c ByNobody note h = cc

-- ---- which port is a client's

not_away : (test other : Bool) (k : ℕ) → is_by_client (cond test (ByQueue k) (cond other ByBridge ByNobody)) ≡ true → ⊥
not_away true other k h = both_ways false refl h
not_away false true k h = both_ways false refl h
not_away false false k h = both_ways false refl h

port_of_client : (shape : Shape) (port : ℕ) → is_by_client (timers_putter shape port) ≡ true → is_timers_port_of_client shape port ≡ true
port_of_client shape port h = ⊎_elim
    (λ (own : is_timers_port_of_client shape port ≡ true). own)
    (λ (other : is_timers_port_of_client shape port ≡ false). absurd (not_away (is_timers_port_of_queue shape port) (is_timers_port_of_bridge shape port) (port - clients_of shape)
    (sym (ap (λ (b : Bool). is_by_client (cond b (ByClient port)
    (cond (is_timers_port_of_queue shape port) (ByQueue (port - clients_of shape)) (cond (is_timers_port_of_bridge shape port) ByBridge ByNobody)))) other) ∙ h)))
    (cases_Bool (is_timers_port_of_client shape port))

port_is : (shape : Shape) (port c : ℕ) → is_by c (timers_putter shape port) ≡ true → (port == c) ≡ true
port_is shape port c h =
    let own : is_timers_port_of_client shape port ≡ true = port_of_client shape port (is_by_some c (timers_putter shape port) h) in
    sym (ap (λ (b : Bool). is_by c (cond b (ByClient port)
    (cond (is_timers_port_of_queue shape port) (ByQueue (port - clients_of shape)) (cond (is_timers_port_of_bridge shape port) ByBridge ByNobody)))) own) ∙ h

-- ---- what a port put

-- a client that is done put its last word by its port
last_came : (shape : Shape) (c : ℕ) (journal : List (ℕ × TimersNote)) → list_any (ends_client c) (heard shape journal) ≡ true → list_any timers.is_last (by_port c journal) ≡ true
last_came shape c journal h =
    came_by (λ (port : ℕ) (note : TimersNote). put_by (timers_putter shape port) note) c timers.is_last (ends_client c)
    (λ port note is. let parts = done_by c (timers_putter shape port) note is in (eqb-true port c (port_is shape port c parts.0), parts.1)) journal h

-- once the ending has come, each client is done
all_done : (shape : Shape) (es : List TimersEvent) → has_ending shape es ≡ true → (c : ℕ) → c < clients_of shape → list_any (ends_client c) es ≡ true
all_done shape es h c less =
    all_below_at (clients_of shape) (λ d. list_any (ends_client d) es) (and_parts (all_below (clients_of shape) (λ d. list_any (ends_client d) es)) (list_any is_fin es) h).0 c less

pub lawful_are_timely : LawfulClientsAreTimely
lawful_are_timely shape journal lawful = record {
  each = λ before e after is ended. false_from_ne_true (is_arming e) (λ begins.
      let place = cut (λ (x : ℕ × TimersNote). put_by (timers_putter shape x.0) x.1) journal before e after is in
      let port : ℕ = place.it.0 in
      let own : is_timers_port_of_client shape port ≡ true =
      port_of_client shape port (arms_by (timers_putter shape port) place.it.1 (ap is_arming place.is_it ∙ begins)) in
      let less : port < clients_of shape = ltb-true port (clients_of shape) own in
      let done : list_any timers.is_last (by_port port place.front) ≡ true =
      last_came shape port place.front (ap (list_any (ends_client port)) place.is_front ∙ all_done shape before ended port less) in
      let whole : by_port port journal ≡ by_port port place.front ++ place.it.1 ∷ by_port port place.back =
      ap (by_port port) place.parts ∙ by_port_middle port place.front place.it place.back (eq-eqb port port refl) in
      let follows = IsLawful-at timers.is_last (timers.fits shape.bounds) (by_port port place.front) place.it.1 (by_port port place.back)
      (subst (IsLawful timers.is_last (timers.fits shape.bounds)) whole (lawful.each port less)) in
      let none : not (list_any timers.is_last (by_port port place.front)) ≡ true = (and_parts (not (list_any timers.is_last (by_port port place.front))) _ follows).0 in
      both_ways false refl (ap not (sym done) ∙ none));
}
