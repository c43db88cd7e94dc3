-- Each kind of step keeps the rule of a deque.
use Rattle.std.proofs.Common.{◌≡◌, ◌≢◌, ℕ, ◌<◌, List, [], ◌∷◌, ◌++◌, map, set, refl, sym, ap, ◌∙◌, subst, ⊎_elim, append_assoc, arith}
use Rattle.std.proofs.lemmas.List.{map-append}
use mathlib.Core.Option.{some, some-injective}
use lib.ListN.{get_elem?}
use Rattle.crossbeam_deque.specs.Tasks.{Pushes, Takes, Forks, Merges, Learns}
use Rattle.atomic_table.proofs.Lists.{at_set, at_longer}
use Rattle.mama_pool.specs.declared.view.View.{View}
use Rattle.mama_pool.specs.Values.{total}
use Rattle.mama_pool.specs.Steps.{opener, spent, without_share, one_share, with_push, with_take, joined}
use Rattle.mama_pool.specs.Rule.{Kept, IsKept, AreSettled}
use Rattle.mama_pool.proofs.Totals.{total-append, total_last, total_set, alone_total, each_set, each_last, each_none, there, before_set}

-- a view without a share took nothing
abbrev Idle : View → Type 0
Idle v = v.shares ≡ 0 → v.took ≡ []

-- a deque that is opened
pub begins : {D : Type 0} (numbered : D → ℕ) → IsKept numbered [] (opener ∷ [])
begins numbered own at = subst (λ (v : View). Kept v.pushed [] (opener ∷ [])) (some-injective opener own at) (record {
  gone = [];
  flows = refl;
  counts = λ weight. refl;
  whole = refl;
  idle = each_last Idle [] opener (λ e. refl) (each_none Idle);
})

module _ {D : Type 0} (numbered : D → ℕ) where
  -- push
  pub pushes : (port : ℕ) (v : View) (xs : List D) → port ≡ 0 → Pushes (IsKept numbered) port v xs (λ w. w ≡ with_push v (map numbered xs))
  pushes port v xs first items views holds at =
      let ns : List ℕ = map numbered xs in let w : View = with_push v ns in
      let at0 : get_elem? views 0 ≡ some v = subst (λ (i : ℕ). get_elem? views i ≡ some v) first at in
      let K = holds v at0 in
      let kept : Kept w.pushed (map numbered (items ++ xs)) (set views port w) = record {
        gone = K.gone;
        flows = ap (λ (l : List ℕ). l ++ ns) K.flows ∙ (append_assoc K.gone (map numbered items) ns ∙ ap (λ (l : List ℕ). K.gone ++ l) (sym (map-append numbered items xs)));
        counts = λ weight. let s = total_set (λ (u : View). total weight u.took) views port v w at in let c = K.counts weight in omega arith;
        whole = let s = total_set (λ (u : View). u.shares) views port v w at in let c = K.whole in omega arith;
        idle = each_set Idle views port w (K.idle port v at) K.idle;
      } in (
        w,
        (λ own e. ⊎_elim (λ (t : (0 ≡ port) × (w ≡ own)). subst (λ (u : View). Kept u.pushed (map numbered (items ++ xs)) (set views port w)) t.1 kept)
            (λ (t : (0 ≢ port) × (get_elem? views 0 ≡ some own)). absurd (t.0 (sym first))) (at_set views port 0 w own e)),
        refl,
      )

  -- pop and steal
  take_kept : (port : ℕ) (v : View) (xs items : List D) (views : List View) (pushed : List ℕ) → 0 < v.shares → get_elem? views port ≡ some v
      → Kept pushed (map numbered (xs ++ items)) views → Kept pushed (map numbered items) (set views port (with_take v (map numbered xs)))
  take_kept port v xs items views pushed share at K =
      let ns : List ℕ = map numbered xs in let w : View = with_take v ns in record {
        gone = K.gone ++ ns;
        flows = K.flows ∙ (ap (λ (l : List ℕ). K.gone ++ l) (map-append numbered xs items) ∙ sym (append_assoc K.gone ns (map numbered items)));
        counts = λ weight. let s = total_set (λ (u : View). total weight u.took) views port v w at in let c = K.counts weight in
            let a = total-append weight K.gone ns in let b = total-append weight v.took ns in omega arith;
        whole = let s = total_set (λ (u : View). u.shares) views port v w at in let c = K.whole in omega arith;
        idle = each_set Idle views port w (λ none. absurd (omega arith)) K.idle;
      }

  pub takes : (port : ℕ) (v : View) → 0 < v.shares → Takes (IsKept numbered) port v 1 (λ xs w. w ≡ with_take v (map numbered xs))
  takes port v share xs items views some_left few holds at =
      let w : View = with_take v (map numbered xs) in (
        w,
        (λ own e. ⊎_elim (λ (t : (0 ≡ port) × (w ≡ own)).
            let at0 : get_elem? views 0 ≡ some v = subst (λ (i : ℕ). get_elem? views i ≡ some v) (sym t.0) at in
            subst (λ (u : View). Kept u.pushed (map numbered items) (set views port w)) t.1 (take_kept port v xs items views v.pushed share at (holds v at0)))
            (λ (t : (0 ≢ port) × (get_elem? views 0 ≡ some own)). take_kept port v xs items views own.pushed share at (holds own t.1)) (at_set views port 0 w own e)),
        refl,
      )

  -- split
  pub splits : (port : ℕ) (v : View) → port ≡ 0 → 1 < v.shares → Forks (IsKept numbered) port v (without_share v) (one_share v)
  splits port v first shares items views holds at own e =
      let left : View = without_share v in let right : View = one_share v in let views' : List View = set views port left in
      let at0 : get_elem? views 0 ≡ some v = subst (λ (i : ℕ). get_elem? views i ≡ some v) first at in
      let K = holds v at0 in
      let here : get_elem? views' 0 ≡ some left = subst (λ (i : ℕ). get_elem? (set views port left) i ≡ some left) first (there views port v left at) in
      let is : left ≡ own = some-injective left own (sym (at_longer views' (right ∷ []) 0 left here) ∙ e) in
      subst (λ (u : View). Kept u.pushed (map numbered items) (views' ++ right ∷ [])) is (record {
        gone = K.gone;
        flows = K.flows;
        counts = λ weight. let s = total_set (λ (u : View). total weight u.took) views port v left at in let c = K.counts weight in
            let a = total_last (λ (u : View). total weight u.took) views' right in omega arith;
        whole = let s = total_set (λ (u : View). u.shares) views port v left at in let c = K.whole in let a = total_last (λ (u : View). u.shares) views' right in omega arith;
        idle = each_last Idle views' right (λ none. refl) (each_set Idle views port left (λ none. absurd (omega arith)) K.idle);
      })

  -- join
  pub joins : (port : ℕ) (v : View) (other : ℕ) (u : View) → port ≡ 0 → Merges (IsKept numbered) port v other u (joined v u) spent
  joins port v other u first items views holds at apart at' own e =
      let both : View = joined v u in let views' : List View = set views port both in
      let at0 : get_elem? views 0 ≡ some v = subst (λ (i : ℕ). get_elem? views i ≡ some v) first at in
      let K = holds v at0 in
      let was : get_elem? views other ≡ some u = before_set views port other both u apart at' in
      let here : get_elem? views' 0 ≡ some both = subst (λ (i : ℕ). get_elem? (set views port both) i ≡ some both) first (there views port v both at) in
      let still : get_elem? views' 0 ≡ some own = before_set views' other 0 spent own (λ z. apart (sym z ∙ sym first)) e in
      let is : both ≡ own = some-injective both own (sym here ∙ still) in
      subst (λ (t : View). Kept t.pushed (map numbered items) (set views' other spent)) is (record {
        gone = K.gone;
        flows = K.flows;
        counts = λ weight. let f : View → ℕ = λ t. total weight t.took in let s = total_set f views port v both at in let r = total_set f views' other u spent at' in let c = K.counts weight in
            let a = total-append weight v.took u.took in omega arith;
        whole = let f : View → ℕ = λ t. t.shares in let s = total_set f views port v both at in let r = total_set f views' other u spent at' in let c = K.whole in omega arith;
        idle = each_set Idle views' other spent (λ none. refl)
            (each_set Idle views port both (λ none. nothing v.took u.took (K.idle port v at (omega arith)) (K.idle other u was (omega arith))) K.idle);
      })
    where
      nothing : (xs ys : List ℕ) → xs ≡ [] → ys ≡ [] → xs ++ ys ≡ []
      nothing xs ys a b = ap (λ (l : List ℕ). l ++ ys) a ∙ b

  -- the look with all shares
  pub settles : (port : ℕ) (v : View) → port ≡ 0 → v.shares ≡ 65 → Learns (IsKept numbered) port v (λ items. AreSettled v (map numbered items))
  settles port v first whole items views holds at =
      let at0 : get_elem? views 0 ≡ some v = subst (λ (i : ℕ). get_elem? views i ≡ some v) first at in
      let K = holds v at0 in record {
        gone = K.gone;
        flows = K.flows;
        counts = λ weight. K.counts weight ∙ alone_total (λ (u : View). u.shares) (λ (u : View). total weight u.took) views port v at (K.whole ∙ sym whole)
            (λ j x e none. ap (total weight) (K.idle j x e none));
      }
