-- Each kind of step keeps the rule of a tally.
use Rattle.std.proofs.Common.{◌≡◌, ℕ, ◌+◌, ◌<◌, ◌≤◌, max, Bool, true, false, List, [], ◌∷◌, ◌++◌, set, slice_index, if◌then◌else◌, nat_eq, refl, sym, ◌∙◌, subst, arith}
use native.Mathlib.Decide.{dec_le}
use mathlib.Core.Logic.{dite}
use mathlib.Core.Option.{some}
use lib.ListN.{get_elem?}
use lib.Pointwise.{pointwise, bytes_decides}
use Rattle.crossbeam_utils.specs.Register.{Turns, Forks, Merges}
use Rattle.atomic_table.proofs.Lists.{set_again}
use Rattle.mama_pool.specs.declared.view.Count.{Count}
use Rattle.mama_pool.specs.Steps.{counter, blank, without_part, one_part, counted, with_known, noted, with_learnt, added}
use Rattle.mama_pool.specs.Rule.{Tallied, IsLook, IsSettled}
use Rattle.mama_pool.proofs.Totals.{total_last, total_set, total_part, alone_total, each_set, each_last, each_none, before_set}

abbrev Knows : List ℕ → Count → Type 0
Knows words v = v.known ≤ slice_index words 1

abbrev Learnt : List ℕ → Count → Type 0
Learnt words v = v.learnt ≤ slice_index words 0

abbrev Idle : Count → Type 0
Idle v = v.shares ≡ 0 → (v.pushes ≡ 0) × (v.takes ≡ 0)

-- a tally that is opened
pub begins : Tallied (0 ∷ 0 ∷ []) (counter ∷ [])
begins = record {
  whole = refl;
  pushes = refl;
  takes = refl;
  known = each_last (Knows (0 ∷ 0 ∷ [])) [] counter (omega arith) (each_none (Knows (0 ∷ 0 ∷ [])));
  learnt = each_last (Learnt (0 ∷ 0 ∷ [])) [] counter (omega arith) (each_none (Learnt (0 ∷ 0 ∷ [])));
  idle = each_last Idle [] counter (λ none. (refl, refl)) (each_none Idle);
}

-- the words grow, and one view by as much
grown : (x y : List ℕ) (views : List Count) (pass : ℕ) (v w : Count) → Tallied x views → get_elem? views pass ≡ some v → w.shares ≡ v.shares
    → w.pushes + slice_index x 0 ≡ v.pushes + slice_index y 0 → w.takes + slice_index x 1 ≡ v.takes + slice_index y 1 → slice_index x 0 ≤ slice_index y 0 → slice_index x 1 ≤ slice_index y 1
    → w.known ≤ slice_index y 1 → w.learnt ≤ slice_index y 0 → Idle w → Tallied y (set views pass w)
grown x y views pass v w h at shares pushes takes up up' knows learns idle = record {
  whole = let s = total_set (λ (u : Count). u.shares) views pass v w at in let c = h.whole in omega arith;
  pushes = let s = total_set (λ (u : Count). u.pushes) views pass v w at in let c = h.pushes in omega arith;
  takes = let s = total_set (λ (u : Count). u.takes) views pass v w at in let c = h.takes in omega arith;
  known = each_set (Knows y) views pass w knows (λ i u e. let k = h.known i u e in omega arith);
  learnt = each_set (Learnt y) views pass w learns (λ i u e. let k = h.learnt i u e in omega arith);
  idle = each_set Idle views pass w idle h.idle;
}

-- a look at the words
pub reads : (pass : ℕ) (v : Count) → Turns Tallied pass v (λ x. x) (λ v x y w. w ≡ v)
reads pass v x views h at = (v, subst (Tallied x) (sym (set_again views pass v at)) h, refl)

-- count
adds_at : (pass : ℕ) (v : Count) (x y : List ℕ) (views : List Count) → 0 < v.shares → slice_index x 0 ≤ slice_index y 0 → slice_index x 1 ≤ slice_index y 1 → Tallied x views → get_elem? views pass ≡ some v
    → Tallied y (set views pass (counted v x y))
adds_at pass v x y views share up up' h at =
    let k = h.known pass v at in let l = h.learnt pass v at in
    grown x y views pass v (counted v x y) h at refl (omega arith) (omega arith) up up' (omega arith) (omega arith) (λ none. absurd (omega arith))

exchanged_up : (word : ℕ) (seen new x : List ℕ) → slice_index seen word ≤ slice_index new word → slice_index x word ≤ slice_index (if pointwise nat_eq x seen then new else x) word
exchanged_up word seen new x up = go (pointwise nat_eq x seen) refl
  where
    go : (b : Bool) → pointwise nat_eq x seen ≡ b → slice_index x word ≤ slice_index (if b then new else x) word
    go true e = subst (λ (z : List ℕ). slice_index z word ≤ slice_index new word) (sym ((bytes_decides x seen).0 e)) up
    go false e = omega arith

pub adds : (pass : ℕ) (v : Count) (seen new : List ℕ) → 0 < v.shares → slice_index seen 0 ≤ slice_index new 0 → slice_index seen 1 ≤ slice_index new 1
    → Turns Tallied pass v (λ x. if pointwise nat_eq x seen then new else x) (λ v x y w. w ≡ counted v x y)
adds pass v seen new share up up' x views h at =
    let y : List ℕ = if pointwise nat_eq x seen then new else x in
    (counted v x y, adds_at pass v x y views share (exchanged_up 0 seen new x up) (exchanged_up 1 seen new x up') h at, refl)

-- the empty look
pub looks : (pass : ℕ) (v : Count) → Turns Tallied pass v (λ x. x) (λ v x y w. IsLook v x w)
looks pass v x views h at = dite (dec_le (slice_index x 0) (slice_index x 1))
    (λ (no_more : slice_index x 0 ≤ slice_index x 1).
    let w : Count = with_known v (slice_index x 1) in
    let k = h.known pass v at in let l = h.learnt pass v at in (
      w,
      grown x x views pass v w h at refl refl refl (omega arith) (omega arith) (omega arith) l (h.idle pass v at),
      record { empty = λ e. (refl, omega arith, k); else = λ e. absurd (omega arith) },
    ))
    (λ (more : (slice_index x 0 ≤ slice_index x 1) → ⊥).
    (v, subst (Tallied x) (sym (set_again views pass v at)) h, record { empty = λ e. absurd (more e); else = λ e. refl }))

-- the look with all shares
pub settles : (pass : ℕ) (v : Count) → v.shares ≡ 65 → Turns Tallied pass v (λ x. x) (λ v x y w. (w ≡ v) × IsSettled v x)
settles pass v whole x views h at = (
  v,
  subst (Tallied x) (sym (set_again views pass v at)) h,
  (
    refl,
    record {
      pushes = sym (alone_total (λ (u : Count). u.shares) (λ (u : Count). u.pushes) views pass v at (h.whole ∙ sym whole) (λ j u e none. (h.idle j u e none).0)) ∙ h.pushes;
      takes = sym (alone_total (λ (u : Count). u.shares) (λ (u : Count). u.takes) views pass v at (h.whole ∙ sym whole) (λ j u e none. (h.idle j u e none).1)) ∙ h.takes;
      known = h.known pass v at;
      learnt = h.learnt pass v at;
    },
  ),
)

-- a new view, of which the other has kept the rest
parted : (x : List ℕ) (views : List Count) (pass : ℕ) (v l r : Count) → Tallied x views → get_elem? views pass ≡ some v → l.shares + r.shares ≡ v.shares → l.pushes + r.pushes ≡ v.pushes → l.takes + r.takes ≡ v.takes
    → l.known ≤ v.known → r.known ≤ v.known → l.learnt ≤ v.learnt → r.learnt ≤ slice_index x 0 → Idle l → Idle r → Tallied x (set views pass l ++ r ∷ [])
parted x views pass v l r h at shares pushes takes lk rk ll rl il ir =
    let k = h.known pass v at in let n = h.learnt pass v at in let views' : List Count = set views pass l in record {
      whole = let s = total_set (λ (u : Count). u.shares) views pass v l at in let a = total_last (λ (u : Count). u.shares) views' r in let c = h.whole in omega arith;
      pushes = let s = total_set (λ (u : Count). u.pushes) views pass v l at in let a = total_last (λ (u : Count). u.pushes) views' r in let c = h.pushes in omega arith;
      takes = let s = total_set (λ (u : Count). u.takes) views pass v l at in let a = total_last (λ (u : Count). u.takes) views' r in let c = h.takes in omega arith;
      known = each_last (Knows x) views' r (omega arith) (each_set (Knows x) views pass l (omega arith) h.known);
      learnt = each_last (Learnt x) views' r rl (each_set (Learnt x) views pass l (omega arith) h.learnt);
      idle = each_last Idle views' r ir (each_set Idle views pass l il h.idle);
    }

-- split
pub splits : (pass : ℕ) (v : Count) → 1 < v.shares → Forks Tallied pass v (without_part v) (one_part v)
splits pass v shares x views h at =
    parted x views pass v (without_part v) (one_part v) h at (omega arith) (omega arith) (omega arith) (omega arith) (omega arith) (omega arith) (omega arith) (λ none. absurd (omega arith)) (λ none. (refl, refl))

-- tell
pub tells : (pass : ℕ) (v : Count) → Forks Tallied pass v v (noted v)
tells pass v x views h at =
    let p = total_part (λ (u : Count). u.pushes) views pass v at in let c = h.pushes in
    parted x views pass v v (noted v) h at (omega arith) (omega arith) (omega arith) (omega arith) (omega arith) (omega arith) (omega arith) (h.idle pass v at) (λ none. (refl, refl))

-- all that a pass knows goes to a new one
pub renews : (pass : ℕ) (v : Count) → Forks Tallied pass v blank v
renews pass v x views h at =
    let n = h.learnt pass v at in
    parted x views pass v blank v h at (omega arith) (omega arith) (omega arith) (omega arith) (omega arith) (omega arith) n (λ none. (refl, refl)) (h.idle pass v at)

-- two views are put together
merged : (x : List ℕ) (views : List Count) (pass : ℕ) (v : Count) (other : ℕ) (u b : Count) → Tallied x views → get_elem? views pass ≡ some v → (other ≡ pass → ⊥) → get_elem? (set views pass b) other ≡ some u
    → b.shares ≡ v.shares + u.shares → b.pushes ≡ v.pushes + u.pushes → b.takes ≡ v.takes + u.takes → b.known ≤ max v.known u.known → b.learnt ≤ max v.learnt u.learnt → Idle b
    → Tallied x (set (set views pass b) other blank)
merged x views pass v other u b h at apart at' shares pushes takes known learnt idle =
    let was : get_elem? views other ≡ some u = before_set views pass other b u apart at' in
    let views' : List Count = set views pass b in
    let kv = h.known pass v at in let ku = h.known other u was in let nv = h.learnt pass v at in let nu = h.learnt other u was in record {
      whole = let f : Count → ℕ = λ t. t.shares in let s = total_set f views pass v b at in let r = total_set f views' other u blank at' in let c = h.whole in omega arith;
      pushes = let f : Count → ℕ = λ t. t.pushes in let s = total_set f views pass v b at in let r = total_set f views' other u blank at' in let c = h.pushes in omega arith;
      takes = let f : Count → ℕ = λ t. t.takes in let s = total_set f views pass v b at in let r = total_set f views' other u blank at' in let c = h.takes in omega arith;
      known = each_set (Knows x) views' other blank (omega arith) (each_set (Knows x) views pass b (omega arith) h.known);
      learnt = each_set (Learnt x) views' other blank (omega arith) (each_set (Learnt x) views pass b (omega arith) h.learnt);
      idle = each_set Idle views' other blank (λ none. (refl, refl)) (each_set Idle views pass b idle h.idle);
    }

-- join
pub joins : (pass : ℕ) (v : Count) (other : ℕ) (u : Count) → Merges Tallied pass v other u (added v u) blank
joins pass v other u x views h at apart at' =
    let was : get_elem? views other ≡ some u = before_set views pass other (added v u) u apart at' in
    merged x views pass v other u (added v u) h at apart at' refl refl refl (omega arith) (omega arith)
    (λ none. let a = h.idle pass v at (omega arith) in let b = h.idle other u was (omega arith) in let a0 = a.0 in let a1 = a.1 in let b0 = b.0 in let b1 = b.1 in (omega arith, omega arith))

-- learn
pub learns : (pass : ℕ) (v : Count) (other : ℕ) (note : Count) → note.shares ≡ 0 → Merges Tallied pass v other note (with_learnt v note) blank
learns pass v other note none x views h at apart at' =
    let was : get_elem? views other ≡ some note = before_set views pass other (with_learnt v note) note apart at' in
    let i = h.idle other note was none in let p = i.0 in let t = i.1 in
    merged x views pass v other note (with_learnt v note) h at apart at' (omega arith) (omega arith) (omega arith) (omega arith) (omega arith) (h.idle pass v at)
