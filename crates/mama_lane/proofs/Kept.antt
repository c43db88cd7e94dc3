-- Each kind of step keeps the rule of a lane, and what looks tell.
use Rattle.std.proofs.Common.{◌≡◌, ◌≢◌, ℕ, ◌+◌, ◌<◌, ◌≤◌, List, [], ◌∷◌, ◌++◌, length, set, sym, refl, ap, ◌∙◌, subst, ◌⊎◌, ⊎_elim, append_assoc, append-nil, lt_of_not-le, arith}
use native.Mathlib.Decide.{dec_le}
use Rattle.std.proofs.lemmas.List.{map-append}
use Rattle.std.specs.List.{AllByRecursion}
use base.Growing.{prefix_refl, prefix_trans}
use mathlib.Core.List.{IsPrefix}
use mathlib.Core.Option.{some, some-injective, some-ne-none}
use lib.ListN.{get_elem?}
use Rattle.crossbeam_queue.proofs.Lists.{at_set, set_again}
use Rattle.crossbeam_queue.specs.Fifo.{Pushes, PopsMany, Forks, Merges, Learns, Admits}
use Rattle.mama_event.specs.declared.shape.Bounds.{Bounds}
use Rattle.mama_journal.specs.Lane.{by_port}
use Rattle.mama_lane.specs.declared.view.View.{View}
use Rattle.mama_lane.specs.declared.view.Role.{Role}
use Rattle.mama_lane.specs.declared.view.Role.TheVariants.{Taker, Port, Note, Spent}
use Rattle.mama_lane.specs.Steps.{opener, spent, bound, with_port, next_port, with_put, with_taken, with_learnt, with_closed}
use Rattle.mama_lane.specs.Rule.{notes_of, Fits, Kept, IsKept, CameFromPorts, IsCaughtUp, AreBegun}
use Rattle.mama_lane.proofs.Lists.{by_port-append, by_port_here, by_port_else, each_map, each_both, each_snoc, changed, changed_here, changed_else, changed_cases, there_set, there_snoc, first_of, at_end, at_same, at_there, not_empty}

-- a list begins with itself, and with nothing
pub whole_begins : {N : Type 0} (xs : List N) → IsPrefix xs xs
whole_begins xs = ([], append-nil xs)

pub nothing_begins : {N : Type 0} (xs : List N) → IsPrefix [] xs
nothing_begins xs = (xs, refl)

-- no pass has two roles
taker_port : (r : Role) → r ≡ Taker → r ≡ Port → ⊥
taker_port r a b = let e : Taker ≡ Port = sym a ∙ b in cc

taker_note : (r : Role) → r ≡ Taker → r ≡ Note → ⊥
taker_note r a b = let e : Taker ≡ Note = sym a ∙ b in cc

port_note : (r : Role) → r ≡ Port → r ≡ Note → ⊥
port_note r a b = let e : Port ≡ Note = sym a ∙ b in cc

spent_port : Spent ≡ Port → ⊥
spent_port e = cc

spent_note : Spent ≡ Note → ⊥
spent_note e = cc

module _ {N : Type 0} where
  -- the taker and a spent pass say nothing of ports
  fits_taker : (t : View N) (seat : ℕ → ℕ) (sent : ℕ → List N) (i : ℕ) (v : View N) → v.role ≡ Taker → Fits t seat sent i v
  fits_taker t seat sent i v r = record { port = λ p. absurd (taker_port v.role r p); note = λ n. absurd (taker_note v.role r n) }

  fits_spent : (t : View N) (seat : ℕ → ℕ) (sent : ℕ → List N) (i : ℕ) → Fits t seat sent i spent
  fits_spent t seat sent i = record { port = λ p. absurd (spent_port p); note = λ n. absurd (spent_note n) }

  -- a view that fits, where nothing that it speaks of changed
  fits_as : (t u : View N) (seat : ℕ → ℕ) (sent : ℕ → List N) (i : ℕ) (v : View N) → u.made ≡ t.made → u.bounds ≡ t.bounds → u.closed ≡ t.closed → Fits t seat sent i v → Fits u seat sent i v
  fits_as t u seat sent i v m b c f = record {
    port = λ p. let h = f.port p in record {
      seated = h.seated;
      made = subst (λ (k : ℕ). v.number < k) (sym m) h.made;
      put = h.put;
      bounds = h.bounds ∙ sym b;
      open_yet = subst (λ (l : List (ℕ × List N)). AllByRecursion (λ c. c.0 ≢ v.number) l) (sym c) h.open_yet;
    };
    note = f.note;
  }

-- what each other pass knows stays, where one pass changes
abbrev FitsSet : {N : Type 0} → View N → (ℕ → ℕ) → (ℕ → List N) → List (View N) → Type 0
FitsSet {N} t seat sent views = (i : ℕ) (v : View N) → get_elem? views i ≡ some v → Fits t seat sent i v

module _ {N : Type 0} where
  fits_set : (t : View N) (seat : ℕ → ℕ) (sent : ℕ → List N) (views : List (View N)) (i : ℕ) (w : View N) → Fits t seat sent i w
      → ((j : ℕ) (u : View N) → j ≢ i → get_elem? views j ≡ some u → Fits t seat sent j u) → FitsSet t seat sent (set views i w)
  fits_set t seat sent views i w mine others j u e = ⊎_elim (λ (x : (j ≡ i) × (w ≡ u)). subst (λ (y : ℕ × View N). Fits t seat sent y.0 y.1) (λ k. (sym x.0 k, x.1 k)) mine)
      (λ (x : (j ≢ i) × (get_elem? views j ≡ some u)). others j u x.0 x.1) (at_set views i j w u e)

  fits_snoc : (t : View N) (seat : ℕ → ℕ) (sent : ℕ → List N) (views : List (View N)) (w : View N) → FitsSet t seat sent views → Fits t seat sent (length views) w → FitsSet t seat sent (views ++ w ∷ [])
  fits_snoc t seat sent views w others mine j u e = ⊎_elim (λ (x : get_elem? views j ≡ some u). others j u x)
      (λ (x : (w ≡ u) × (j ≡ length views)). subst (λ (y : ℕ × View N). Fits t seat sent y.0 y.1) (λ k. (sym x.1 k, x.0 k)) mine) (at_end views w u j e)

module _ {E N : Type 0} (noted : E → N) (lawful : Bounds → ℕ → List N → Type 0) where
  -- a port's pass or a note's is not the first
  not_first : (items : List (ℕ × E)) (views : List (View N)) (i : ℕ) (v : View N) → IsKept noted lawful items views → get_elem? views i ≡ some v → (v.role ≡ Taker → ⊥) → i ≢ 0
  not_first items views i v h at apart e = let K = h.1 v (ap (λ (j : ℕ). get_elem? views j) (sym e) ∙ at) in apart K.role

  -- a change of another pass than the first: the taker's is as before
  kept_else : (items items' : List (ℕ × E)) (views : List (View N)) (i : ℕ) (v w : View N) → IsKept noted lawful items views → get_elem? views i ≡ some v → (v.role ≡ Taker → ⊥)
      → ((t : View N) → Kept noted lawful t items views → Kept noted lawful t items' (set views i w)) → IsKept noted lawful items' (set views i w)
  kept_else items items' views i v w h at apart step = (
    there_set views i w h.0,
    λ t e. ⊎_elim (λ (x : (0 ≡ i) × (w ≡ t)). absurd (not_first items views i v h at apart (sym x.0)))
        (λ (x : (0 ≢ i) × (get_elem? views 0 ≡ some t)). step t (h.1 t x.1)) (at_set views i 0 w t e),
  )

  -- a change of the first pass
  kept_first : (items items' : List (ℕ × E)) (views : List (View N)) (v w : View N) → IsKept noted lawful items views → get_elem? views 0 ≡ some v
      → (Kept noted lawful v items views → Kept noted lawful w items' (set views 0 w)) → IsKept noted lawful items' (set views 0 w)
  kept_first items items' views v w h at step = (
    there_set views 0 w h.0,
    λ t e. ⊎_elim (λ (x : (0 ≡ 0) × (w ≡ t)). subst (λ (u : View N). Kept noted lawful u items' (set views 0 w)) x.1 (step (h.1 v at)))
        (λ (x : (0 ≢ 0) × (get_elem? views 0 ≡ some t)). absurd (x.0 refl)) (at_set views 0 0 w t e),
  )

  -- a new pass
  kept_new : (items : List (ℕ × E)) (views : List (View N)) (r : View N) → IsKept noted lawful items views
      → ((t : View N) → Kept noted lawful t items views → Kept noted lawful t items (views ++ r ∷ [])) → IsKept noted lawful items (views ++ r ∷ [])
  kept_new items views r h step = (there_snoc views r, λ t e. step t (h.1 t (first_of views (r ∷ []) t h.0 e)))

  -- put: the event goes last in the lane, and what the port put grows
  put_kept : (t : View N) (items : List (ℕ × E)) (views : List (View N)) (i : ℕ) (v : View N) (event : E) → v.role ≡ Port → lawful v.bounds v.number (v.put ++ noted event ∷ [])
      → get_elem? views i ≡ some v → Kept noted lawful t items views → Kept noted lawful t (items ++ (v.number, event) ∷ []) (set views i (with_put v (noted event)))
  put_kept t items views i v event is_port may at K =
      let n : ℕ = v.number in let x : N = noted event in let w : View N = with_put v x in let F = (K.fits i v at).port is_port in
      let grown : List N = K.sent n ++ x ∷ [] in let sent : ℕ → List N = changed K.sent n grown in
      let grows : (p : ℕ) → IsPrefix (K.sent p) (sent p) = changed_cases K.sent n grown (λ p l. IsPrefix (K.sent p) l) (x ∷ [], refl) (λ p _. prefix_refl (K.sent p)) in
      let all : (p : ℕ) → by_port p (t.taken ++ notes_of noted (items ++ (n, event) ∷ [])) ≡ by_port p (t.taken ++ notes_of noted items) ++ by_port p ((n, x) ∷ []) =
      λ p. ap (λ (l : List (ℕ × N)). by_port p (t.taken ++ l)) (map-append (λ (y : ℕ × E). (y.0, noted y.1)) items ((n, event) ∷ []))
      ∙ (ap (by_port p) (sym (append_assoc t.taken (notes_of noted items) ((n, x) ∷ []))) ∙ by_port-append p (t.taken ++ notes_of noted items) ((n, x) ∷ [])) in
      record {
        seat = K.seat;
        sent = sent;
        role = K.role;
        flows = changed_cases K.sent n grown (λ p l. l ≡ by_port p (t.taken ++ notes_of noted (items ++ (n, event) ∷ [])))
            (sym (all n ∙ (ap (λ (l : List N). l ++ by_port n ((n, x) ∷ [])) (sym (K.flows n)) ∙ ap (λ (l : List N). K.sent n ++ l) (by_port_here n x))))
            (λ p apart. sym (all p ∙ (ap (λ (l : List N). by_port p (t.taken ++ notes_of noted items) ++ l) (by_port_else p n x (λ e. apart (sym e))) ∙ (append-nil _ ∙ sym (K.flows p)))));
        unmade = changed_cases K.sent n grown (λ p l. t.made ≤ p → l ≡ []) (λ le. let m = F.made in absurd (omega arith)) (λ p _. K.unmade p);
        allowed = changed_cases K.sent n grown (λ p l. lawful t.bounds p l) (subst (λ (y : Bounds × List N). lawful y.0 n (y.1 ++ x ∷ [])) (λ k. (F.bounds k, F.put k)) may) (λ p _. K.allowed p);
        learnt = each_map (λ (c : ℕ × List N). IsPrefix c.1 (K.sent c.0)) (λ c. IsPrefix c.1 (sent c.0)) (λ c h. prefix_trans _ _ _ h (grows c.0)) t.learnt K.learnt;
        closed = each_both (λ (c : ℕ × List N). (c.0 < t.made) × (c.1 ≡ K.sent c.0)) (λ c. c.0 ≢ n) (λ c. (c.0 < t.made) × (c.1 ≡ sent c.0)) (λ c h apart. (h.0, h.1 ∙ sym (changed_else K.sent n grown c.0 apart))) t.closed K.closed F.open_yet;
        fits = fits_set t K.seat sent views i w
            (record { port = λ p. record { seated = F.seated; made = F.made; put = ap (λ (l : List N). l ++ x ∷ []) F.put ∙ sym (changed_here K.sent n grown); bounds = F.bounds; open_yet = F.open_yet }; note = λ e. absurd (port_note v.role is_port e) })
            (λ j u apart e. let G = K.fits j u e in record {
              port = λ p. let H = G.port p in let other : u.number ≢ n = λ s. apart (sym H.seated ∙ (ap K.seat s ∙ F.seated)) in
                  record { seated = H.seated; made = H.made; put = H.put ∙ sym (changed_else K.sent n grown u.number other); bounds = H.bounds; open_yet = H.open_yet };
              note = λ r. prefix_trans _ _ _ (G.note r) (grows u.number);
            });
      }

  pub puts : (n i : ℕ) (v : View N) (port : ℕ) (event : E) → v.role ≡ Port → v.number ≡ port → lawful v.bounds v.number (v.put ++ noted event ∷ [])
      → Pushes (IsKept noted lawful) n i v (port, event) (λ w. w ≡ with_put v (noted event))
  puts n i v port event is_port is may items views _ h at =
      let w : View N = with_put v (noted event) in (
        w,
        subst (λ (p : ℕ). IsKept noted lawful (items ++ (p, event) ∷ []) (set views i w)) is
            (kept_else items (items ++ (v.number, event) ∷ []) views i v w h at (λ e. taker_port v.role e is_port) (λ t K. put_kept t items views i v event is_port may at K)),
        refl,
      )

  -- take: what the lane held first is what was taken last
  take_kept : (v : View N) (xs items : List (ℕ × E)) (views : List (View N)) → Kept noted lawful v (xs ++ items) views
      → Kept noted lawful (with_taken v (notes_of noted xs)) items (set views 0 (with_taken v (notes_of noted xs)))
  take_kept v xs items views K =
      let w : View N = with_taken v (notes_of noted xs) in
      record {
        seat = K.seat;
        sent = K.sent;
        role = K.role;
        flows = λ p. K.flows p ∙ ap (by_port p) (ap (λ (l : List (ℕ × N)). v.taken ++ l) (map-append (λ (y : ℕ × E). (y.0, noted y.1)) xs items) ∙ sym (append_assoc v.taken (notes_of noted xs) (notes_of noted items)));
        unmade = K.unmade;
        allowed = K.allowed;
        learnt = K.learnt;
        closed = K.closed;
        fits = fits_set w K.seat K.sent views 0 w (fits_taker w K.seat K.sent 0 w K.role) (λ j u _ e. fits_as v w K.seat K.sent j u refl refl refl (K.fits j u e));
      }

  -- what the lane holds first came from a port that was made
  from_port_made : (v : View N) (port : ℕ) (event : E) (items : List (ℕ × E)) (views : List (View N)) → Kept noted lawful v ((port, event) ∷ items) views → Dec (v.made ≤ port) → port < v.made
  from_port_made v port event items views K (no less) = lt_of_not-le less
  from_port_made v port event items views K (yes more) =
      let x : N = noted event in
      let none : by_port port (v.taken ++ (port, x) ∷ notes_of noted items) ≡ [] = sym (K.flows port) ∙ K.unmade port more in
      let parts : by_port port v.taken ++ by_port port ((port, x) ∷ notes_of noted items) ≡ [] = sym (by_port-append port v.taken ((port, x) ∷ notes_of noted items)) ∙ none in
      let one : by_port port ((port, x) ∷ notes_of noted items) ≡ x ∷ by_port port (notes_of noted items) = by_port-append port ((port, x) ∷ []) (notes_of noted items) ∙ ap (λ (l : List N). l ++ by_port port (notes_of noted items)) (by_port_here port x) in
      absurd (not_empty (by_port port v.taken) x (by_port port (notes_of noted items)) (ap (λ (l : List N). by_port port v.taken ++ l) (sym one) ∙ parts))

  -- so did each event that the lane holds before others
  from_ports_made : (xs items : List (ℕ × E)) (v : View N) (views : List (View N)) → Kept noted lawful v (xs ++ items) views → AllByRecursion (λ (x : ℕ × E). x.0 < v.made) xs
  from_ports_made [] items v views K = tt
  from_ports_made (x ∷ xs) items v views K = (
    from_port_made v x.0 x.1 (xs ++ items) views K (dec_le v.made x.0),
    from_ports_made xs items (with_taken v (notes_of noted (x ∷ []))) (set views 0 (with_taken v (notes_of noted (x ∷ [])))) (take_kept v (x ∷ []) (xs ++ items) views K),
  )

  pub takes : ((b : Bounds) (p : ℕ) (front back : List N) → lawful b p (front ++ back) → lawful b p front) → (v : View N) (n : ℕ)
      → PopsMany (IsKept noted lawful) 0 v n (λ xs w. (w ≡ with_taken v (notes_of noted xs)) × CameFromPorts noted lawful v xs w)
  takes prefix v n xs items views _ h at =
      let w : View N = with_taken v (notes_of noted xs) in let K = h.1 v at in let K' = take_kept v xs items views K in (
        w,
        kept_first (xs ++ items) items views v w h at (λ _. K'),
        (
          refl,
          (
            from_ports_made xs items v views K,
            λ p. prefix v.bounds p (by_port p w.taken) (by_port p (notes_of noted items)) (subst (lawful v.bounds p) (K'.flows p ∙ by_port-append p w.taken (notes_of noted items)) (K'.allowed p)),
          ),
        ),
      )

  pub looks : (v : View N) → Learns (IsKept noted lawful) 0 v (IsCaughtUp noted lawful v)
  looks v items views h at none = let K = h.1 v at in each_map (λ (c : ℕ × List N). IsPrefix c.1 (K.sent c.0)) (λ c. IsPrefix c.1 (by_port c.0 v.taken))
      (λ c begins. subst (IsPrefix c.1) (K.flows c.0 ∙ ap (by_port c.0) (ap (λ (l : List (ℕ × E)). v.taken ++ notes_of noted l) none ∙ append-nil v.taken)) begins) v.learnt K.learnt

  pub ends : (v : View N) → Learns (IsKept noted lawful) 0 v (AreBegun noted lawful v)
  ends v items views h at = let K = h.1 v at in each_map (λ (c : ℕ × List N). (c.0 < v.made) × (c.1 ≡ K.sent c.0)) (λ c. IsPrefix (by_port c.0 v.taken) c.1 × lawful v.bounds c.0 c.1)
      (λ c is. ((by_port c.0 (notes_of noted items), sym (by_port-append c.0 v.taken (notes_of noted items)) ∙ (sym (K.flows c.0) ∙ sym is.1)), subst (lawful v.bounds c.0) (sym is.1) (K.allowed c.0))) v.closed K.closed

  -- bind: while there is no port, the opener may be told the bounds
  bind_kept : ((b : Bounds) (p : ℕ) → lawful b p []) → (b : Bounds) (v : View N) (items : List (ℕ × E)) (views : List (View N)) → v.made ≡ 0 → Kept noted lawful v items views → Kept noted lawful (bound b v) items (set views 0 (bound b v))
  bind_kept start b v items views none K = record {
    seat = K.seat;
    sent = K.sent;
    role = K.role;
    flows = K.flows;
    unmade = K.unmade;
    allowed = λ p. subst (lawful b p) (sym (K.unmade p (omega arith))) (start b p);
    learnt = K.learnt;
    closed = K.closed;
    fits = fits_set (bound b v) K.seat K.sent views 0 (bound b v) (fits_taker (bound b v) K.seat K.sent 0 (bound b v) K.role)
        (λ j u _ e. let f = K.fits j u e in record { port = λ p. let m = (f.port p).made in absurd (omega arith); note = f.note });
  }

  -- a pass that says nothing joins
  snoc_kept : (t : View N) (items : List (ℕ × E)) (views : List (View N)) (r : View N) (K : Kept noted lawful t items views) → Fits t K.seat K.sent (length views) r → Kept noted lawful t items (views ++ r ∷ [])
  snoc_kept t items views r K mine = record {
    seat = K.seat;
    sent = K.sent;
    role = K.role;
    flows = K.flows;
    unmade = K.unmade;
    allowed = K.allowed;
    learnt = K.learnt;
    closed = K.closed;
    fits = fits_snoc t K.seat K.sent views r K.fits mine;
  }

  pub binds : ((b : Bounds) (p : ℕ) → lawful b p []) → (b : Bounds) (v : View N) → v.made ≡ 0 → Forks (IsKept noted lawful) 0 v (bound b v) spent
  binds start b v none items views h at =
      let w : View N = bound b v in let k = kept_first items items views v w h at (bind_kept start b v items views none) in
      kept_new items (set views 0 w) spent k (λ t K. snoc_kept t items (set views 0 w) spent K (fits_spent t K.seat K.sent _))

  -- split: the taker makes the next port
  split_kept : (v : View N) (items : List (ℕ × E)) (views : List (View N)) → Kept noted lawful v items views → Kept noted lawful (with_port v) items (set views 0 (with_port v) ++ next_port v ∷ [])
  split_kept v items views K =
      let l : View N = with_port v in let vs : List (View N) = set views 0 l in let n : ℕ = v.made in let seat : ℕ → ℕ = changed K.seat n (length vs) in
      record {
        seat = seat;
        sent = K.sent;
        role = K.role;
        flows = K.flows;
        unmade = λ p le. K.unmade p (omega arith);
        allowed = K.allowed;
        learnt = K.learnt;
        closed = each_map (λ (c : ℕ × List N). (c.0 < v.made) × (c.1 ≡ K.sent c.0)) (λ c. (c.0 < l.made) × (c.1 ≡ K.sent c.0)) (λ c is. let m = is.0 in (omega arith, is.1)) v.closed K.closed;
        fits = fits_snoc l seat K.sent vs (next_port v)
            (fits_set l seat K.sent views 0 l (fits_taker l seat K.sent 0 l K.role)
            (λ j u _ e. let f = K.fits j u e in record {
              port = λ p. let H = f.port p in let m = H.made in let other : u.number ≢ n = λ s. omega arith in
                  record { seated = changed_else K.seat n (length vs) u.number other ∙ H.seated; made = omega arith; put = H.put; bounds = H.bounds; open_yet = H.open_yet };
              note = f.note;
            }))
            (record {
              port = λ p. record {
                seated = changed_here K.seat n (length vs);
                made = omega arith;
                put = sym (K.unmade n (omega arith));
                bounds = refl;
                open_yet = each_map (λ (c : ℕ × List N). (c.0 < v.made) × (c.1 ≡ K.sent c.0)) (λ c. c.0 ≢ n) (λ c is s. let m = is.0 in omega arith) v.closed K.closed;
              };
              note = λ e. absurd (port_note Port refl e);
            });
      }

  pub splits : (v : View N) → Forks (IsKept noted lawful) 0 v (with_port v) (next_port v)
  splits v items views h at =
      let l : View N = with_port v in let vs : List (View N) = set views 0 l in (
        there_snoc vs (next_port v),
        λ t e. subst (λ (u : View N). Kept noted lawful u items (vs ++ next_port v ∷ [])) (at_same vs 0 l t (at_there views 0 v l at) (first_of vs (next_port v ∷ []) t (there_set views 0 l h.0) e))
            (split_kept v items views (h.1 v at)),
      )

  -- tell: a note has a copy of what the port put, or of a beginning of it
  pub tells : (i : ℕ) (v note : View N) → v.role ≡ Port → note.role ≡ Note → note.number ≡ v.number → IsPrefix note.put v.put → Forks (IsKept noted lawful) i v v note
  tells i v note is_port is_note same begins items views h at =
      subst (λ (vs : List (View N)). IsKept noted lawful items (vs ++ note ∷ [])) (sym (set_again views i v at))
      (kept_new items views note h (λ t K. let F = (K.fits i v at).port is_port in
      snoc_kept t items views note K (record { port = λ e. absurd (port_note note.role e is_note); note = λ _. (begins.0, begins.1 ∙ (F.put ∙ ap K.sent (sym same))) })))

  -- learn and join: the taker takes in what another pass knows, which is spent
  kept_merge : (items : List (ℕ × E)) (views : List (View N)) (v both : View N) (i : ℕ) (w : View N) → IsKept noted lawful items views → get_elem? views 0 ≡ some v → ¬ (i ≡ 0) → get_elem? (set views 0 both) i ≡ some w
      → ((K : Kept noted lawful v items views) → get_elem? views i ≡ some w → Kept noted lawful both items (set (set views 0 both) i spent)) → IsKept noted lawful items (set (set views 0 both) i spent)
  kept_merge items views v both i w h at apart at' step = (
    there_set (set views 0 both) i spent (there_set views 0 both h.0),
    λ t e. let was : get_elem? views i ≡ some w = ⊎_elim (λ (x : (i ≡ 0) × (both ≡ w)). absurd (apart x.0)) (λ (x : (i ≢ 0) × (get_elem? views i ≡ some w)). x.1) (at_set views 0 i both w at') in
        ⊎_elim (λ (x : (0 ≡ i) × (spent ≡ t)). absurd (apart (sym x.0)))
        (λ (x : (0 ≢ i) × (get_elem? (set views 0 both) 0 ≡ some t)). subst (λ (u : View N). Kept noted lawful u items (set (set views 0 both) i spent)) (at_same (set views 0 both) 0 both t (at_there views 0 v both at) x.1) (step (h.1 v at) was)) (at_set (set views 0 both) i 0 spent t e),
  )

  learn_kept : (v : View N) (i : ℕ) (w : View N) (items : List (ℕ × E)) (views : List (View N)) → w.role ≡ Note → get_elem? views i ≡ some w → Kept noted lawful v items views
      → Kept noted lawful (with_learnt v w) items (set (set views 0 (with_learnt v w)) i spent)
  learn_kept v i w items views is_note at K =
      let both : View N = with_learnt v w in let f = K.fits i w at in
      record {
        seat = K.seat;
        sent = K.sent;
        role = K.role;
        flows = K.flows;
        unmade = K.unmade;
        allowed = K.allowed;
        learnt = each_snoc (λ (c : ℕ × List N). IsPrefix c.1 (K.sent c.0)) v.learnt (w.number, w.put) K.learnt (f.note is_note);
        closed = K.closed;
        fits = fits_set both K.seat K.sent (set views 0 both) i spent (fits_spent both K.seat K.sent i)
            (λ j u _ e. fits_set both K.seat K.sent views 0 both (fits_taker both K.seat K.sent 0 both K.role) (λ k x _ d. fits_as v both K.seat K.sent k x refl refl refl (K.fits k x d)) j u e);
      }

  pub learns : (v : View N) (i : ℕ) (w : View N) → w.role ≡ Note → Merges (IsKept noted lawful) 0 v i w (with_learnt v w) spent
  learns v i w is_note items views h at apart at' = kept_merge items views v (with_learnt v w) i w h at apart at' (λ K was. learn_kept v i w items views is_note was K)

  join_kept : (v : View N) (i : ℕ) (w : View N) (items : List (ℕ × E)) (views : List (View N)) → w.role ≡ Port → get_elem? views i ≡ some w → Kept noted lawful v items views
      → Kept noted lawful (with_closed v w) items (set (set views 0 (with_closed v w)) i spent)
  join_kept v i w items views is_port at K =
      let both : View N = with_closed v w in let F = (K.fits i w at).port is_port in
      let others : (j : ℕ) (u : View N) → j ≢ i → get_elem? views j ≡ some u → Fits both K.seat K.sent j u = λ j u apart e. let f = K.fits j u e in record {
        port = λ p. let H = f.port p in record {
          seated = H.seated;
          made = H.made;
          put = H.put;
          bounds = H.bounds;
          open_yet = each_snoc (λ (c : ℕ × List N). c.0 ≢ u.number) v.closed (w.number, w.put) H.open_yet (λ s. apart (sym H.seated ∙ (ap K.seat (sym s) ∙ F.seated)));
        };
        note = f.note;
      } in
      record {
        seat = K.seat;
        sent = K.sent;
        role = K.role;
        flows = K.flows;
        unmade = K.unmade;
        allowed = K.allowed;
        learnt = K.learnt;
        closed = each_snoc (λ (c : ℕ × List N). (c.0 < v.made) × (c.1 ≡ K.sent c.0)) v.closed (w.number, w.put) K.closed (F.made, F.put);
        fits = fits_set both K.seat K.sent (set views 0 both) i spent (fits_spent both K.seat K.sent i)
            (λ j u apart e. ⊎_elim (λ (x : (j ≡ 0) × (both ≡ u)). subst (λ (y : View N). Fits both K.seat K.sent j y) x.1 (fits_taker both K.seat K.sent j both K.role))
            (λ (x : (j ≢ 0) × (get_elem? views j ≡ some u)). others j u apart x.1) (at_set views 0 j both u e));
      }

  pub joins : (v : View N) (i : ℕ) (w : View N) → w.role ≡ Port → Merges (IsKept noted lawful) 0 v i w (with_closed v w) spent
  joins v i w is_port items views h at apart at' = kept_merge items views v (with_closed v w) i w h at apart at' (λ K was. join_kept v i w items views is_port was K)

  -- nothing was put yet
  pub begins : ((b : Bounds) (p : ℕ) → lawful b p []) → IsKept noted lawful [] (opener ∷ [])
  begins start =
      let first : View N = opener in (
        tt,
        λ t e. subst (λ (u : View N). Kept noted lawful u [] (first ∷ [])) (some-injective first t e)
            (record {
              seat = λ _. 0;
              sent = λ _. [];
              role = refl;
              flows = λ _. refl;
              unmade = λ _ _. refl;
              allowed = start first.bounds;
              learnt = tt;
              closed = tt;
              fits = λ i v at. fits_snoc first (λ _. 0) (λ _. []) [] first (λ j u d. absurd (some-ne-none u (sym d))) (fits_taker first (λ _. 0) (λ _. []) 0 first refl) i v at;
            }),
      )

  -- The queue may make passes of its own, as one does for each event of a batch. They begin as the opener's, and say nothing.
  pub admits : Admits (IsKept noted lawful) opener
  admits items views h = kept_new items views opener h (λ t K. snoc_kept t items views opener K (fits_taker t K.seat K.sent (length views) opener refl))
