-- The lines that are drawn from a seed are accepted.
use Rattle.std.proofs.Common.{◌≡◌, ℕ, zero, suc, ◌+◌, ◌*◌, ◌/◌, ◌%◌, ◌^◌, ◌<◌, ◌≤◌, Bool, true, false, cond, List, [], ◌∷◌, ◌++◌, length, map, Option, None, refl, sym, ap, subst, arith}
use Rattle.std.specs.Prelude.{◌==◌, nat_le, nat_lt}
use Rattle.std.specs.List.{flat_map, range_with_len}
use Rattle.std.proofs.lemmas.Bool.{lt-leb, le-leb, le-ltb, and_from, cond_both}
use Rattle.std.proofs.lemmas.Nat.{mod_below, div_below}
use Rattle.std.proofs.lemmas.List.Concat.{flat_map_single}
use Rattle.mama_link.specs.declared.faults.Fault.{Fault as LinkFault}
use Rattle.mama_link.specs.declared.faults.Fault.TheVariants.{Lose, Dup, Hold}
use Rattle.mama_link.specs.declared.faults.FaultRow.{FaultRow}
use Rattle.mama_msg.specs.Field.{FieldData}
use Rattle.mama_msg.specs.Message.{apply}
use Rattle.mama_msg.specs.Value.{IsText, is_printable}
use Rattle.mama_words.specs.declared.nums.Nums.TheVariants.{Unknown}
use Rattle.mama_words.specs.Field.{IsField, IsMessage}
use Rattle.mama_words.specs.Value.{nums_of}
use Rattle.mama_words.proofs.FieldLaws.{message_any}
use Rattle.mama_script.specs.declared.head.Head.TheVariants as heads
use Rattle.mama_script.specs.declared.head.Place.{Place}
use Rattle.mama_script.specs.declared.head.Place.TheVariants as places
use Rattle.mama_script.specs.declared.fault.Flaw.{Flaw}
use Rattle.mama_script.specs.declared.fault.Flaw.TheVariants.{Fault, Limit}
use Rattle.mama_event.specs.declared.market.SubKind.TheVariants.{Market}
use Rattle.mama_script.specs.declared.line.QueueName.TheVariants.{Any}
use Rattle.mama_script.specs.declared.line.Line.{Line}
use Rattle.mama_script.specs.declared.line.Line.TheVariants as lines
use Rattle.mama_script.specs.Head.{allows, may_end}
use Rattle.mama_script.specs.Line.{IsFault}
use Rattle.mama_script.specs.Before.{Before, start, after, number_at, heavier, flaw_if, first_flaw, topic_flaw, weight_with}
use Rattle.mama_words.specs.declared.version.Version.TheVariants as version
use Rattle.mama_script.specs.Reading.{Fits}
use Rattle.mama_script.specs.Tree.{lines_of, topic_line, publisher_line, publisher_lines, step_lines, client_lines, topic_of_part, IsShaped, IsScript}
use Rattle.mama_gen.specs.Draws.{Drawn, next}
use Rattle.mama_gen.specs.Generated.{topic_name, bid, ask, size, field, value, base, update, publisher, fault, row, subscription, client, script, script_of_seed}
use Rattle.mama_gen.proofs.Each.{made, behind, made_length, numbers_of}
use Rattle.mama_gen.proofs.Fitting.{Goes, goes_then, goes_both, goes_each, accepted}
use Rattle.mama_gen.proofs.Weights.{AreAtMost, at_most_more, number_at_most, insert_at_most, AreBelow, below_more, insert_below, above_is_new}

-- what was counted behind so many topics, publishers, updates, clients and subscriptions
record Counts (topics publishers updates clients subs : ℕ) (b : Before) : Type 0 where
  queues_are : b.queues ≡ 4
  topics_are : b.topics ≡ topics
  publishers_are : b.publishers ≡ publishers
  clients_are : b.clients ≡ clients
  subs_are : b.subs ≡ subs
  weights_most : AreAtMost (2 * updates) b.weights
  weight_most : b.weight ≤ 8000 * subs

none_if : (test : Bool) (f : Flaw) (rest : Option Flaw) → test ≡ false → rest ≡ None → flaw_if test f rest ≡ None
none_if test f rest p q = rw p q

none_first : (a b : Option Flaw) → a ≡ None → b ≡ None → first_flaw a b ≡ None
none_first a b p q = rw p q

topic_known : (topic : ℕ) (b : Before) → topic < b.topics → topic_flaw topic b ≡ None
topic_known topic b lt = none_if (nat_le b.topics topic) (Fault 9) None (lt-leb b.topics topic lt) refl

-- ---- topics

record AtTopics (n : ℕ) (b : Before) : Type 0 where
  place : b.place ≡ places.Topics
  counts : Counts n 0 0 0 0 b

digit_printable : (d : ℕ) → d < 10 → is_printable (48 + d) ≡ true
digit_printable d lt = and_from (nat_le 32 (48 + d)) (nat_le (48 + d) 126) (le-leb 32 (48 + d) (omega arith)) (le-leb (48 + d) 126 (omega arith))

name_fits : (t : ℕ) → t < 16 → IsText (topic_name t)
name_fits t lt =
    record {
      short = omega arith;
      printable = and_from _ _ (digit_printable (t / 10) (div_below t 10 10 (omega arith) (omega arith))) (and_from _ _ (digit_printable (t % 10) (mod_below t 10 (omega arith))) refl);
    }

topic_fits : (t : ℕ) (b : Before) → t < 16 → AtTopics t b → Fits b (lines.Topic (topic_name t))
topic_fits t b lt h =
    record {
      form = (name_fits t lt, refl);
      place = rw h.place refl;
      sound = none_if (nat_le 1024 b.topics) (Limit 3) None (lt-leb 1024 b.topics (omega (arith, h.counts.topics_are))) refl;
    }

topic_after : (t : ℕ) (b : Before) (name : List ℕ) → AtTopics t b → AtTopics (t + 1) (after b (lines.Topic name))
topic_after t b name h =
    let c = h.counts in
    record {
      place = h.place;
      counts = record {
        queues_are = c.queues_are;
        topics_are = ap (λ (k : ℕ). k + 1) c.topics_are;
        publishers_are = c.publishers_are;
        clients_are = c.clients_are;
        subs_are = c.subs_are;
        weights_most = c.weights_most;
        weight_most = c.weight_most;
      };
    }

topics_go : (n from : ℕ) (b : Before) → from + n ≤ 16 → AtTopics from b → Goes b (map topic_line (map topic_name (range_with_len from n))) (AtTopics (from + n))
topics_go zero from b le h = subst (λ k. AtTopics k b) (omega arith) h
topics_go (suc n) from b le h = (
  topic_fits from b (omega arith) h,
  (λ made. refl, λ c p. refl),
  subst (λ k. Goes (after b (lines.Topic (topic_name from))) (map topic_line (map topic_name (range_with_len (from + 1) n))) (AtTopics k)) (omega arith)
      (topics_go n (from + 1) (after b (lines.Topic (topic_name from))) (omega arith) (topic_after from b (topic_name from) h)),
)

-- ---- publishers

-- the record of a publisher at any time
record IsHeld (fields : List FieldData) : Type 0 where
  first : ℕ
  second : ℕ
  third : ℕ
  is : fields ≡ bid first ∷ ask second ∷ size third ∷ []

any_field : (P : FieldData → Type 0) (number v : ℕ) → P (bid v) → P (ask v) → P (size v) → P (field number v)
any_field P number v p q r =
    cond_both (number == 0) (bid v) (cond (number == 1) (ask v) (size v)) P (λ _. p) (λ _. cond_both (number == 1) (ask v) (size v) P (λ _. q) (λ _. r))

held_after : (number v : ℕ) (fields : List FieldData) → IsHeld fields → IsHeld (apply fields (field number v ∷ []))
held_after number v fields h =
    subst (λ (fs : List FieldData). IsHeld (apply fs (field number v ∷ []))) (sym h.is)
    (any_field (λ f. IsHeld (apply (bid h.first ∷ ask h.second ∷ size h.third ∷ []) (f ∷ []))) number v
    (record { first = v; second = h.second; third = h.third; is = refl })
    (record { first = h.first; second = v; third = h.third; is = refl })
    (record { first = h.first; second = h.second; third = v; is = refl }))

value_small : (s : ℕ) → (value s).0 < 2 ^ 32
value_small s = let less = mod_below (next s / 2 ^ 33) 1000 (omega arith) in omega (arith, less)

bid_fits : (v : ℕ) → v < 2 ^ 32 → IsField Unknown (bid v)
bid_fits v lt = record { fid = omega arith; name = record { short = omega arith; letters = refl }; keyed = record { named = λ e. absurd (omega (arith, e)) }; known = refl; value = lt }

ask_fits : (v : ℕ) → v < 2 ^ 32 → IsField Unknown (ask v)
ask_fits v lt = record { fid = omega arith; name = record { short = omega arith; letters = refl }; keyed = record { named = λ e. absurd (omega (arith, e)) }; known = refl; value = lt }

size_fits : (v : ℕ) → v < 2 ^ 32 → IsField Unknown (size v)
size_fits v lt = record { fid = omega arith; name = record { short = omega arith; letters = refl }; keyed = record { named = λ e. absurd (omega (arith, e)) }; known = refl; value = lt }

field_fits : (number v : ℕ) → v < 2 ^ 32 → IsMessage Unknown (field number v ∷ [])
field_fits number v lt =
    any_field (λ f. IsMessage Unknown (f ∷ [])) number v
    (record { fields = (bid_fits v lt, tt); distinct = refl })
    (record { fields = (ask_fits v lt, tt); distinct = refl })
    (record { fields = (size_fits v lt, tt); distinct = refl })

base_fits : (s : ℕ) → IsMessage Unknown (base s).0
base_fits s =
    let s1 = next s in
    let s2 = next s1 in
    record { fields = (bid_fits (value s).0 (value_small s), (ask_fits (value s1).0 (value_small s1), (size_fits (value s2).0 (value_small s2), tt))); distinct = refl }

-- behind some updates of the publisher of number n
record AtUpdates (n : ℕ) (j : ℕ) (b : Before) : Type 0 where
  place : b.place ≡ places.Publisher
  held : IsHeld b.held
  counts : Counts 16 (suc n) (250 * n + j) 0 0 b

-- behind some publishers
record AtPublishers (n : ℕ) (b : Before) : Type 0 where
  publisher : allows b.place heads.Publisher ≡ true
  client : allows b.place heads.Client ≡ true
  counts : Counts 16 n (250 * n) 0 0 b

update_step : (n j : ℕ) (b : Before) (s : ℕ) → AtUpdates n j b → Goes b (publisher_line (update s).0 ∷ []) (AtUpdates n (suc j))
update_step n j b s h =
    let c = h.counts in
    let number = next s / 2 ^ 33 % 3 in
    let v = (value (next s)).0 in
    let kept : IsHeld (apply b.held (field number v ∷ [])) = held_after number v b.held h.held in
    let most : number_at b.topic b.weights ≤ 2 * (250 * n + j) = number_at_most (2 * (250 * n + j)) b.topic b.weights c.weights_most in (
      record {
        form = message_any (nums_of b.version) (field number v ∷ []) (field_fits number v (value_small (next s)));
        place = rw h.place refl;
        sound = none_if (nat_lt 64 (length (apply b.held (field number v ∷ [])))) (Limit 8) None (ap (λ (fs : List FieldData). nat_lt 64 (length fs)) kept.is) refl;
      },
      (λ made. refl, λ c p. refl),
      record {
        place = h.place;
        held = kept;
        counts = record {
          queues_are = c.queues_are;
          topics_are = c.topics_are;
          publishers_are = c.publishers_are;
          clients_are = c.clients_are;
          subs_are = c.subs_are;
          weights_most = insert_at_most (2 * (250 * n + suc j)) b.topic (heavier (number_at b.topic b.weights) 2) b.weights (omega (arith, most)) (at_most_more (2 * (250 * n + j)) (2 * (250 * n + suc j)) b.weights (omega arith) c.weights_most);
          weight_most = c.weight_most;
        };
      },
    )

updates_end : (n : ℕ) (b : Before) → AtUpdates n 250 b → AtPublishers (suc n) b
updates_end n b h =
    let c = h.counts in
    record {
      publisher = rw h.place refl;
      client = rw h.place refl;
      counts = record {
        queues_are = c.queues_are;
        topics_are = c.topics_are;
        publishers_are = c.publishers_are;
        clients_are = c.clients_are;
        subs_are = c.subs_are;
        weights_most = at_most_more (2 * (250 * n + 250)) (2 * (250 * suc n)) b.weights (omega arith) c.weights_most;
        weight_most = c.weight_most;
      };
    }

base_fields : (s : ℕ) → IsHeld (base s).0
base_fields s = record { first = (value s).0; second = (value (next s)).0; third = (value (next (next s))).0; is = refl }

base_step : (n : ℕ) (b : Before) (s : ℕ) → n < 16 → AtPublishers n b → Fits b (lines.Publisher n (base s).0) × AtUpdates n 0 (after b (lines.Publisher n (base s).0))
base_step n b s lt h =
    let c = h.counts in (
      record {
        form = (omega arith, message_any (nums_of b.version) (base s).0 (base_fits s));
        place = h.publisher;
        sound = none_first _ _ (topic_known n b (omega (arith, c.topics_are))) (none_if (nat_le 1024 b.publishers) (Limit 4) None (lt-leb 1024 b.publishers (omega (arith, c.publishers_are))) refl);
      },
      record {
        place = refl;
        held = base_fields s;
        counts = record {
          queues_are = c.queues_are;
          topics_are = c.topics_are;
          publishers_are = omega (arith, c.publishers_are);
          clients_are = c.clients_are;
          subs_are = c.subs_are;
          weights_most = at_most_more (2 * (250 * n)) (2 * (250 * n + 0)) b.weights (omega arith) c.weights_most;
          weight_most = c.weight_most;
        };
      },
    )

updates_go : (n : ℕ) (b : Before) (s : ℕ) → AtUpdates n 0 b → Goes b (map publisher_line (made (λ k. update) 250 s)) (AtPublishers (suc n))
updates_go n b s h =
    subst (λ (ls : List Line). Goes b ls (AtPublishers (suc n))) (flat_map_single publisher_line (made (λ k. update) 250 s))
    (goes_then b (flat_map (λ x. publisher_line x ∷ []) (made (λ k. update) 250 s)) (AtUpdates n 250) (AtPublishers (suc n))
    (goes_each (λ k. update) (λ x. publisher_line x ∷ []) (AtUpdates n) 250 (λ j c t lt i. update_step n j c t i) 250 s b (omega arith) h) (updates_end n))

publisher_step : (n : ℕ) (b : Before) (s : ℕ) → n < 16 → AtPublishers n b → Goes b (publisher_lines (publisher n s).0) (AtPublishers (suc n))
publisher_step n b s lt h =
    let begun = base_step n b s lt h in
    (begun.0, (λ made. refl, λ c p. refl), updates_go n (after b (lines.Publisher n (base s).0)) (base s).1 begun.1)

-- ---- clients

-- where a subscription or a client may come, and a script may end
record IsOpen (place : Place) : Type 0 where
  sub : allows place heads.Sub ≡ true
  client : allows place heads.Client ≡ true
  ends : may_end place ≡ true

abbrev IsEnd : ℕ → Place → Type 0
IsEnd zero place = Unit {0}
IsEnd (suc n) place = may_end place ≡ true

-- behind some subscriptions of the client of number n
record AtSubs (n : ℕ) (t : ℕ) (b : Before) : Type 0 where
  place : IsOpen b.place
  counts : Counts 16 16 4000 (suc n) (16 * n + t) b

-- behind some clients
record AtClients (n : ℕ) (b : Before) : Type 0 where
  client : allows b.place heads.Client ≡ true
  ends : IsEnd n b.place
  counts : Counts 16 16 4000 n (16 * n) b

fault_fits : (number s : ℕ) → IsFault (fault number s).0
fault_fits number s =
    cond_both (number == 0) (λ (k : ℕ). (Lose, k)) (cond (number == 1) (λ (k : ℕ). (Dup, k)) (λ (k : ℕ). (Hold (1 + next k / 2 ^ 33 % 4), next k))) (λ (f : Drawn LinkFault). IsFault (f s).0) (λ _. tt)
    (λ _. cond_both (number == 1) (λ (k : ℕ). (Dup, k)) (λ (k : ℕ). (Hold (1 + next k / 2 ^ 33 % 4), next k)) (λ (f : Drawn LinkFault). IsFault (f s).0) (λ _. tt)
    (λ _. let less = mod_below (next s / 2 ^ 33) 4 (omega arith) in (omega arith, omega (arith, less))))

-- a fault line whose index is among so many from the first on
record IsRow (first end : ℕ) (r : FaultRow) : Type 0 where
  least : first ≤ r.index
  most : r.index < end
  fault : IsFault r.fault

row_fits : (first many s : ℕ) → 0 < many → IsRow first (first + many) (row first many s).0
row_fits first many s some =
    let less = mod_below (next (next s) / 2 ^ 33) many some in
    record { least = omega arith; most = omega (arith, less); fault = fault_fits (next s / 2 ^ 33 % 3) (next (next s)) }

-- where a fault line may come, with indexes below m before it
record AtRows (m : ℕ) (b : Before) : Type 0 where
  place : b.place ≡ places.Linked
  indexes : AreBelow m b.indexes

row_line_fits : (first end : ℕ) (b : Before) (r : FaultRow) → 1 ≤ first → end ≤ 1000 → AtRows first b → IsRow first end r → Fits b (lines.Fault r)
row_line_fits first end b r some few h is =
    record {
      form = (omega (arith, is.least), omega (arith, is.most), is.fault);
      place = rw h.place refl;
      sound = none_if _ (Fault 11) None (above_is_new first r.index b.indexes is.least h.indexes) refl;
    }

row_after : (first end : ℕ) (b : Before) (r : FaultRow) → AtRows first b → IsRow first end r → AtRows end (after b (lines.Fault r))
row_after first end b r h is =
    record { place = h.place; indexes = insert_below end r.index b.indexes is.most (below_more first end b.indexes (omega (arith, is.least, is.most)) h.indexes) }

row_after_upto : (m n : ℕ) (b : Before) → m ≤ n → AtRows m b → AtRows n b
row_after_upto m n b le h = record { place = h.place; indexes = below_more m n b.indexes le h.indexes }

sub_fits : (n t : ℕ) (b : Before) → n < 4 → t < 16 → AtSubs n t b → Fits b (lines.Sub t Market Any 10 1000)
sub_fits n t b few lt h =
    let c = h.counts in
    let most : number_at t b.weights ≤ 8000 = number_at_most 8000 t b.weights c.weights_most in
    record {
      form = (omega arith, tt, omega arith, omega arith);
      place = h.place.sub;
      sound = none_first _ _ (topic_known t b (omega (arith, c.topics_are)))
          (none_if (nat_le 10000 b.subs) (Limit 6) _ (lt-leb 10000 b.subs (omega (arith, c.subs_are)))
          (none_if (nat_lt 2000000 (weight_with t b)) (Limit 9) None (le-ltb 2000000 (weight_with t b) (omega (arith, most, c.weight_most))) refl));
    }

sub_after : (n t : ℕ) (b : Before) → AtSubs n t b → Counts 16 16 4000 (suc n) (16 * n + suc t) (after b (lines.Sub t Market Any 10 1000))
sub_after n t b h =
    let c = h.counts in
    let most : number_at t b.weights ≤ 8000 = number_at_most 8000 t b.weights c.weights_most in
    record {
      queues_are = c.queues_are;
      topics_are = c.topics_are;
      publishers_are = c.publishers_are;
      clients_are = c.clients_are;
      subs_are = omega (arith, c.subs_are);
      weights_most = c.weights_most;
      weight_most = omega (arith, most, c.weight_most);
    }

counts_kept : (n k : ℕ) (b : Before) (r : FaultRow) → Counts 16 16 4000 n k b → Counts 16 16 4000 n k (after b (lines.Fault r))
counts_kept n k b r c =
    record {
      queues_are = c.queues_are;
      topics_are = c.topics_are;
      publishers_are = c.publishers_are;
      clients_are = c.clients_are;
      subs_are = c.subs_are;
      weights_most = c.weights_most;
      weight_most = c.weight_most;
    }

rows_go : (n k : ℕ) (b : Before) (x y z : FaultRow) → AtRows 2 b → Counts 16 16 4000 (suc n) (16 * n + k) b → IsRow 2 82 x → IsRow 100 180 y → IsRow 200 250 z
    → Goes b (lines.Fault x ∷ lines.Fault y ∷ lines.Fault z ∷ []) (AtSubs n k)
rows_go n k b x y z h c is_x is_y is_z =
    let b1 = after b (lines.Fault x) in
    let b2 = after b1 (lines.Fault y) in
    let b3 = after b2 (lines.Fault z) in
    let h1 : AtRows 100 b1 = row_after_upto 82 100 b1 (omega arith) (row_after 2 82 b x h is_x) in
    let h2 : AtRows 200 b2 = row_after_upto 180 200 b2 (omega arith) (row_after 100 180 b1 y h1 is_y) in
    let h3 : AtRows 250 b3 = row_after 200 250 b2 z h2 is_z in (
      row_line_fits 2 82 b x (omega arith) (omega arith) h is_x,
      (λ made. refl, λ c p. refl),
      (
        row_line_fits 100 180 b1 y (omega arith) (omega arith) h1 is_y,
        (λ made. refl, λ c p. refl),
        (
          row_line_fits 200 250 b2 z (omega arith) (omega arith) h2 is_z,
          (λ made. refl, λ c p. refl),
          record {
            place = record { sub = rw h3.place refl; client = rw h3.place refl; ends = rw h3.place refl };
            counts = counts_kept (suc n) (16 * n + k) b2 z (counts_kept (suc n) (16 * n + k) b1 y (counts_kept (suc n) (16 * n + k) b x c));
          },
        ),
      ),
    )

sub_step : (n t : ℕ) (b : Before) (s : ℕ) → n < 4 → t < 16 → AtSubs n t b → Goes b (step_lines (subscription t s).0) (AtSubs n (suc t))
sub_step n t b s few lt h =
    let s1 = (row 2 80 s).1 in
    let s2 = (row 100 80 s1).1 in (
      sub_fits n t b few lt h,
      (λ made. refl, λ c p. refl),
      rows_go n (suc t) (after b (lines.Sub t Market Any 10 1000)) (row 2 80 s).0 (row 100 80 s1).0 (row 200 50 s2).0 (record { place = refl; indexes = tt }) (sub_after n t b h) (row_fits 2 80 s (omega arith))
          (row_fits 100 80 s1 (omega arith)) (row_fits 200 50 s2 (omega arith)),
    )

client_fits : (n : ℕ) (b : Before) → n < 4 → AtClients n b → Fits b lines.Client
client_fits n b few h = record { form = tt; place = h.client; sound = none_if (nat_le 64 b.clients) (Limit 5) None (lt-leb 64 b.clients (omega (arith, h.counts.clients_are))) refl }

client_begun : (n : ℕ) (b : Before) → AtClients n b → AtSubs n 0 (after b lines.Client)
client_begun n b h =
    let c = h.counts in
    record {
      place = record { sub = refl; client = refl; ends = refl };
      counts = record {
        queues_are = c.queues_are;
        topics_are = c.topics_are;
        publishers_are = c.publishers_are;
        clients_are = omega (arith, c.clients_are);
        subs_are = omega (arith, c.subs_are);
        weights_most = c.weights_most;
        weight_most = omega (arith, c.weight_most);
      };
    }

client_end : (n : ℕ) (b : Before) → AtSubs n 16 b → AtClients (suc n) b
client_end n b h =
    let c = h.counts in
    record {
      client = h.place.client;
      ends = h.place.ends;
      counts = record {
        queues_are = c.queues_are;
        topics_are = c.topics_are;
        publishers_are = c.publishers_are;
        clients_are = c.clients_are;
        subs_are = omega (arith, c.subs_are);
        weights_most = c.weights_most;
        weight_most = omega (arith, c.weight_most);
      };
    }

client_step : (n : ℕ) (b : Before) (s : ℕ) → n < 4 → AtClients n b → Goes b (client_lines (client s).0) (AtClients (suc n))
client_step n b s few h = (
  client_fits n b few h,
  (λ made. refl, λ c p. refl),
  goes_then (after b lines.Client) (flat_map step_lines (made subscription 16 s)) (AtSubs n 16) (AtClients (suc n))
      (goes_each subscription step_lines (AtSubs n) 16 (λ t c k lt i. sub_step n t c k few lt i) 16 s (after b lines.Client) (omega arith) (client_begun n b h)) (client_end n),
)

-- ---- the whole

begun : AtTopics 0 (after (start version.One) (lines.Queues 4))
begun = record { place = refl; counts = record { queues_are = refl; topics_are = refl; publishers_are = refl; clients_are = refl; subs_are = refl; weights_most = tt; weight_most = omega arith } }

topics_end : (b : Before) → AtTopics 16 b → AtPublishers 0 b
topics_end b h =
    let c = h.counts in
    record {
      publisher = rw h.place refl;
      client = rw h.place refl;
      counts = record {
        queues_are = c.queues_are;
        topics_are = c.topics_are;
        publishers_are = c.publishers_are;
        clients_are = c.clients_are;
        subs_are = c.subs_are;
        weights_most = c.weights_most;
        weight_most = c.weight_most;
      };
    }

publishers_end : (b : Before) → AtPublishers 16 b → AtClients 0 b
publishers_end b h =
    let c = h.counts in
    record {
      client = h.client;
      ends = tt;
      counts = record {
        queues_are = c.queues_are;
        topics_are = c.topics_are;
        publishers_are = c.publishers_are;
        clients_are = c.clients_are;
        subs_are = c.subs_are;
        weights_most = c.weights_most;
        weight_most = c.weight_most;
      };
    }

clients_go : (b : Before) (s : ℕ) → AtClients 0 b → Goes b (flat_map client_lines (made (λ k. client) 4 s)) (λ c. may_end c.place ≡ true)
clients_go b s h =
    goes_then b (flat_map client_lines (made (λ k. client) 4 s)) (AtClients 4) (λ c. may_end c.place ≡ true)
    (goes_each (λ k. client) client_lines AtClients 4 (λ n c k lt i. client_step n c k lt i) 4 s b (omega arith) h) (λ c i. i.ends)

publishers_go : (b : Before) (s : ℕ) → AtPublishers 0 b → Goes b (flat_map publisher_lines (made publisher 16 s)) (AtPublishers 16)
publishers_go b s h = goes_each publisher publisher_lines AtPublishers 16 (λ n c k lt i. publisher_step n c k lt i) 16 s b (omega arith) h

whole_goes : (seed : ℕ) → Goes (start version.One) (lines_of (script seed).0) (λ c. may_end c.place ≡ true)
whole_goes seed =
    let b0 = after (start version.One) (lines.Queues 4) in
    let names = map topic_line (map topic_name (range_with_len 0 16)) in
    let publishers = flat_map publisher_lines (made publisher 16 seed) in
    let clients = flat_map client_lines (made (λ k. client) 4 (behind publisher 16 seed)) in
    let none : List Line = [] in (
      record { form = (omega arith, omega arith); place = refl; sound = refl },
      (λ made. refl, λ c p. refl),
      goes_both b0 names (publishers ++ (clients ++ none)) (AtTopics 16) (λ c. may_end c.place ≡ true) (topics_go 16 0 b0 (omega arith) begun)
          (λ b1 h1. goes_both b1 publishers (clients ++ none) (AtPublishers 16) (λ c. may_end c.place ≡ true) (publishers_go b1 seed (topics_end b1 h1))
          (λ b2 h2. goes_both b2 clients none (λ c. may_end c.place ≡ true) (λ c. may_end c.place ≡ true) (clients_go b2 (behind publisher 16 seed) (publishers_end b2 h2)) (λ b3 h3. h3))),
    )

shaped : (seed : ℕ) → IsShaped (script seed).0
shaped seed =
    record {
      clients = sym (made_length (λ k. client) 4 (behind publisher 16 seed));
      topics = refl;
      publishers = sym (numbers_of topic_of_part publisher (λ n s. refl) 16 seed);
      strategy = refl;
      senders = tt;
    }

pub seed_is_script : (seed : ℕ) → IsScript (script_of_seed seed)
unfolding script_of_seed
seed_is_script seed = record { shaped = shaped seed; accepted = accepted (lines_of (script seed).0) (whole_goes seed) }
