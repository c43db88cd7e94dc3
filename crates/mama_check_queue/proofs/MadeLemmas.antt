-- Callbacks that are made one by one, and entries that are served.
use Rattle.std.specs.Prelude.{not, None, if◌then◌else◌}
use Rattle.std.specs.List.{flat_map}
use Rattle.std.proofs.Common.{◌≡◌, ℕ, ◌+◌, Bool, true, false, ◌&&◌, List, [], ◌∷◌, ◌++◌, length, refl, ap, sym, ◌∙◌, subst, append-nil, append_assoc}
use Rattle.std.proofs.lemmas.List.{length-map}
use Rattle.std.proofs.lemmas.List.Concat.{flat_map-append}
use Rattle.mama_journal.specs.Journal.{first_said}
use Rattle.mama_event.specs.declared.ids.SubId.{SubId}
use Rattle.mama_event.specs.declared.ids.ObjectId.{ObjectId}
use Rattle.mama_event.specs.declared.ids.ObjectId.TheVariants.{Sub}
use Rattle.mama_event.specs.declared.market.MarketMsg.{MarketMsg}
use Rattle.mama_event.specs.declared.callback.Callback.{Callback}
use Rattle.mama_event.specs.declared.callback.Callback.TheVariants as on
use Rattle.mama_event.specs.declared.order.Order.{Order}
use Rattle.mama_event.specs.declared.to_queue.Make.{Make}
use Rattle.mama_event.specs.declared.to_queue.QueueNote.{QueueNote}
use Rattle.mama_event.specs.declared.to_queue.QueueNote.TheVariants as q
use Rattle.mama_dq.specs.Context.{ContextData}
use Rattle.mama_dq.specs.Strategy.{callbacks_of}
use Rattle.mama_rules_queue.specs.Queue.{Deed, QueuePut, handled, called, is_destroy, is_muted, calls_of, messages_of, made, make_in, context_of, served, puts_of}
use Rattle.mama_rules_rounds.specs.Told.{noted}
use Rattle.mama_dispatch.proofs.DeedLemmas.{made_more}
use Rattle.mama_check_queue.specs.Seen.{SeenData, made_as, at, after_deed}
use Rattle.mama_check_queue.specs.Puts.{PutData, put_all}
use Rattle.mama_check_queue.specs.Rows.{SeenObjects, seen_in, AreSeen}
use Rattle.mama_check_queue.specs.Replay.{Goes, Makes, Serves}
use Rattle.mama_check_queue.proofs.PutLemmas.{put_none, put_more}
use Rattle.mama_check_queue.proofs.SeenLemmas.{deed_more, entry_more, create_more}

-- ---- deeds of an entry

-- no deed more
goes_none : (n : ℕ) (journal : List (ℕ × QueueNote)) (ds : List Deed) (s : SeenObjects) (p : PutData) → AreSeen journal ds s → Goes n journal ds [] s p p
goes_none n journal ds s p seen = record { told = subst (λ (es : List Deed). AreSeen journal es s) (sym (append-nil ds)) seen; puts = sym (put_none n p) }

-- some deeds, and then others
goes_then : (n : ℕ) (journal : List (ℕ × QueueNote)) (ds first more : List Deed) (s t : SeenObjects) (p r u : PutData)
    → Goes n journal ds first s p r → Goes n journal (ds ++ first) more t r u → Goes n journal ds (first ++ more) t p u
goes_then n journal ds first more s t p r u before after = record {
  told = subst (λ (es : List Deed). AreSeen journal es t) (append_assoc ds first more) after.told;
  puts = after.puts ∙ ap (put_all n (flat_map puts_of more)) before.puts
      ∙ sym (put_more n (flat_map puts_of first) (flat_map puts_of more) p)
      ∙ ap (λ (xs : List QueuePut). put_all n xs p) (sym (flat_map-append puts_of first more));
}

-- deeds that are equal are the same
goes_as : (n : ℕ) (journal : List (ℕ × QueueNote)) (ds more others : List Deed) (s : SeenObjects) (p r : PutData) → more ≡ others → Goes n journal ds more s p r → Goes n journal ds others s p r
goes_as n journal ds more others s p r same goes = subst (λ (es : List Deed). Goes n journal ds es s p r) same goes

-- ---- callbacks

module _ (orders : ObjectId → ℕ → List Order) (n : ℕ) (o : ObjectId) where
  -- none are made
  pub makes_none : (s : SeenObjects) (p : PutData) → Makes orders o [] n s s p p
  makes_none s p = record { goes = λ journal ds seen. goes_none n journal ds s p seen }

  -- some, and then one more
  pub makes_then : (cs : List Callback) (c : Callback) (s t v : SeenObjects) (p r u : PutData)
      → Makes orders o cs n s t p r → Makes orders o (c ∷ []) n t v r u → Makes orders o (cs ++ c ∷ []) n s v p u
  makes_then cs c s t v p r u first more = record {
    goes = λ journal ds seen.
        let before = first.goes journal ds seen in
        let after = more.goes journal (ds ++ made orders o ds cs) before.told in
        goes_as n journal ds _ _ v p u (sym (made_more orders o ds cs c)) (goes_then n journal ds _ _ t v p r u before after);
  }

  -- a muted object gets none but on_destroy
  pub makes_muted : (c : Callback) (s : SeenObjects) (p : PutData) → ((seen_in s o).muted && not (is_destroy c)) ≡ true → Makes orders o (c ∷ []) n s s p p
  makes_muted c s p quiet = record {
    goes = λ journal ds seen.
        let same : is_muted o ds ≡ (seen_in s o).muted = sym (ap (λ (t : SeenData). t.muted) (seen.each o)) in
        let d : Deed = called o c (orders o (length (calls_of o ds) + 1)) in
        let none : [] ≡ made orders o ds (c ∷ []) = sym (ap (λ (b : Bool). if b then [] else d ∷ []) (ap (λ (b : Bool). b && not (is_destroy c)) same ∙ quiet)) in
        goes_as n journal ds [] _ s p p none (goes_none n journal ds s p seen);
  }

  -- another gets the callback, with the orders for its number
  pub makes_call : (c : Callback) (os : List Order) (s t : SeenObjects) (p r : PutData) → ((seen_in s o).muted && not (is_destroy c)) ≡ false
      → os ≡ orders o (length (seen_in s o).calls + 1) → r ≡ put_all n (puts_of (called o c os)) p → ((x : ObjectId) → seen_in t x ≡ after_deed x (called o c os) (seen_in s x))
      → Makes orders o (c ∷ []) n s t p r
  makes_call c os s t p r heard given puts changed = record {
    goes = λ journal ds seen.
        let same : is_muted o ds ≡ (seen_in s o).muted = sym (ap (λ (x : SeenData). x.muted) (seen.each o)) in
        let d : Deed = called o c (orders o (length (calls_of o ds) + 1)) in
        let count : length (seen_in s o).calls ≡ length (calls_of o ds) = ap (λ (x : SeenData). length x.calls) (seen.each o) ∙ length-map (calls_of o ds) noted in
        let one : d ∷ [] ≡ made orders o ds (c ∷ []) = sym (ap (λ (b : Bool). if b then [] else d ∷ []) (ap (λ (b : Bool). b && not (is_destroy c)) same ∙ heard)) in
        let deed : called o c os ∷ [] ≡ made orders o ds (c ∷ []) = ap (λ (xs : List Order). called o c xs ∷ []) (given ∙ ap (λ (k : ℕ). orders o (k + 1)) count) ∙ one in
        goes_as n journal ds (called o c os ∷ []) _ t p r deed (record {
          told = deed_more journal ds (called o c os) s t seen changed;
          puts = puts ∙ ap (λ (xs : List QueuePut). put_all n xs p) (sym (append-nil (puts_of (called o c os))));
        });
  }

-- ---- entries

-- an entry that makes nothing follows its deeds
goes_entry : (n : ℕ) (journal : List (ℕ × QueueNote)) (e : ℕ × QueueNote) (ds more : List Deed) (s : SeenObjects) (p r : PutData) → ((x : ObjectId) → make_in x e.1 ≡ None)
    → Goes n journal ds more s p r → Goes n (journal ++ e ∷ []) ds more s p r
goes_entry n journal e ds more s p r silent goes = record { told = entry_more journal e (ds ++ more) s silent goes.told; puts = goes.puts }

module _ (orders : ObjectId → ℕ → List Order) (n : ℕ) where
  -- an entry that does nothing but one callback
  pub serves_call : (note : QueueNote) (o : ObjectId) (c : Callback) (s t : SeenObjects) (p r : PutData) → ((x : ObjectId) → make_in x note ≡ None)
      → ((journal : List (ℕ × QueueNote)) (ds : List Deed) → made orders o ds (c ∷ []) ≡ served orders journal ds note)
      → Makes orders o (c ∷ []) n s t p r → Serves orders note n s t p r
  serves_call note o c s t p r silent is makes = record {
    goes = λ port journal ds seen. goes_entry n journal (port, note) ds _ t p r silent (goes_as n journal ds _ _ t p r (is journal ds) (makes.goes journal ds seen));
  }

  -- a Create
  pub serves_create : (slot : ℕ) (o : ObjectId) (k : Make) (tag : ObjectId) (s t v : SeenObjects) (p r : PutData) → ((x : ObjectId) → seen_in t x ≡ at o x (made_as k) (seen_in s x))
      → Makes orders o (on.Create ∷ []) n t v p r → Serves orders (q.Create slot o k tag) n s v p r
  serves_create slot o k tag s t v p r changed makes = record {
    goes = λ port journal ds seen. makes.goes (journal ++ (port, q.Create slot o k tag) ∷ []) ds (create_more o k tag slot port journal ds s t seen changed);
  }

  -- a message that a muted subscription does not take
  pub serves_muted : (slot : ℕ) (sub : SubId) (msg : MarketMsg) (s : SeenObjects) (p : PutData) → (seen_in s (Sub sub)).muted ≡ true → Serves orders (q.Deliver slot sub msg) n s s p p
  serves_muted slot sub msg s p quiet = record {
    goes = λ port journal ds seen.
        let muted : is_muted (Sub sub) ds ≡ true = sym (ap (λ (t : SeenData). t.muted) (seen.each (Sub sub))) ∙ quiet in
        let rest : List Deed = handled sub msg ∷ made orders (Sub sub) (ds ++ handled sub msg ∷ [])
        (callbacks_of (context_of (first_said (λ e. make_in (Sub sub) e.1) journal) (messages_of sub ds)) msg) in
        let none : [] ≡ served orders journal ds (q.Deliver slot sub msg) = sym (ap (λ (b : Bool). if b then [] else rest) muted) in
        goes_entry n journal (port, q.Deliver slot sub msg) ds _ s p p (λ x. refl) (goes_as n journal ds [] _ s p p none (goes_none n journal ds s p seen));
  }

  -- a message that a subscription takes
  pub serves_message : (slot : ℕ) (sub : SubId) (msg : MarketMsg) (calls : List Callback) (s t v : SeenObjects) (p r : PutData) → (seen_in s (Sub sub)).muted ≡ false
      → ((x : ObjectId) → seen_in t x ≡ after_deed x (handled sub msg) (seen_in s x)) → calls ≡ callbacks_of (seen_in s (Sub sub)).context msg
      → Makes orders (Sub sub) calls n t v p r → Serves orders (q.Deliver slot sub msg) n s v p r
  serves_message slot sub msg calls s t v p r heard changed told makes = record {
    goes = λ port journal ds seen.
        let muted : is_muted (Sub sub) ds ≡ false = sym (ap (λ (t : SeenData). t.muted) (seen.each (Sub sub))) ∙ heard in
        let context : ContextData = context_of (first_said (λ e. make_in (Sub sub) e.1) journal) (messages_of sub ds) in
        let after : List Deed = ds ++ handled sub msg ∷ [] in
        let is : calls ≡ callbacks_of context msg = told ∙ ap (λ (x : SeenData). callbacks_of x.context msg) (seen.each (Sub sub)) in
        let whole : handled sub msg ∷ made orders (Sub sub) after calls ≡ served orders journal ds (q.Deliver slot sub msg) =
        ap (λ (cs : List Callback). handled sub msg ∷ made orders (Sub sub) after cs) is
        ∙ sym (ap (λ (b : Bool). if b then [] else handled sub msg ∷ made orders (Sub sub) after (callbacks_of context msg)) muted) in
        let took : Goes n journal ds (handled sub msg ∷ []) t p p = record { told = deed_more journal ds (handled sub msg) s t seen changed; puts = sym (put_none n p) } in
        goes_entry n journal (port, q.Deliver slot sub msg) ds _ v p r (λ x. refl)
        (goes_as n journal ds _ _ v p r whole (goes_then n journal ds (handled sub msg ∷ []) _ t v p p r took (makes.goes journal after took.told)));
  }

  -- a Fin does nothing
  pub serves_fin : (s : SeenObjects) (p : PutData) → Serves orders q.Fin n s s p p
  serves_fin s p = record {
    goes = λ port journal ds seen. goes_entry n journal (port, q.Fin) ds [] s p p (λ x. refl) (goes_none n journal ds s p seen);
  }

-- ---- callbacks that are taken one by one

-- some of these callbacks were made, and the rest is left
pub record AreMade (orders : ObjectId → ℕ → List Order) (n : ℕ) (o : ObjectId) (all rest : List Callback) (s t : SeenObjects) (p r : PutData) : Type 0 where
  pub done : List Callback
  pub parts : all ≡ done ++ rest
  pub makes : Makes orders o done n s t p r

module _ (orders : ObjectId → ℕ → List Order) (n : ℕ) (o : ObjectId) where
  pub made_none : (all : List Callback) (s : SeenObjects) (p : PutData) → AreMade orders n o all all s s p p
  made_none all s p = record { done = []; parts = refl; makes = makes_none orders n o s p }

  pub made_one : (all rest left : List Callback) (c : Callback) (s t v : SeenObjects) (p r u : PutData) → AreMade orders n o all rest s t p r → rest ≡ c ∷ left
      → Makes orders o (c ∷ []) n t v r u → AreMade orders n o all left s v p u
  made_one all rest left c s t v p r u so_far first makes = record {
    done = so_far.done ++ c ∷ [];
    parts = so_far.parts ∙ ap (λ (cs : List Callback). so_far.done ++ cs) first ∙ sym (append_assoc so_far.done (c ∷ []) left);
    makes = makes_then orders n o so_far.done c s t v p r u so_far.makes makes;
  }

  pub made_all : (all rest : List Callback) (s t : SeenObjects) (p r : PutData) → AreMade orders n o all rest s t p r → rest ≡ [] → Makes orders o all n s t p r
  made_all all rest s t p r so_far none =
      subst (λ (cs : List Callback). Makes orders o cs n s t p r)
      (sym (so_far.parts ∙ ap (λ (cs : List Callback). so_far.done ++ cs) none ∙ append-nil so_far.done)) so_far.makes
