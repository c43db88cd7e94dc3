-- A table is kept while one of its groups changes.
use Rattle.std.proofs.Common.{◌≡◌, ℕ, ◌+◌, ◌≤◌, true, cond, List, [], ◌++◌, length, set, Some, sym, ap, subst, ◌∙◌, length-append, arith}
use Rattle.std.specs.Prelude.{slice_get, vec_capacity}
use Rattle.std.specs.Global.{Vec}
use Rattle.std.specs.List.{All, flat_map}
use Rattle.std.proofs.lemmas.List.{length-set}
use Rattle.std.proofs.lemmas.List.Elements.{All-set}
use Rattle.indexmap.specs.IndexMap.{IndexMap, get}
use Rattle.mama_event.specs.declared.ids.SubId.{SubId}
use Rattle.mama_event.specs.declared.callback.Callback.{Callback}
use Rattle.mama_event.specs.declared.group.GroupNote.{GroupNote}
use Rattle.mama_event.specs.Object.{same_sub}
use Rattle.mama_rules_queue.specs.Group.{member_by}
use Rattle.mama_rules_queue.specs.GroupTurns.{told_of}
use Rattle.mama_group.specs.declared.group.Group.{Group}
use Rattle.mama_group.specs.declared.group.Change.{Change}
use Rattle.mama_group.specs.declared.counts.Counts.{Counts}
use Rattle.mama_group.specs.declared.table.Place.{Place}
use Rattle.mama_group.specs.Table.{are_distinct}
use Rattle.mama_group.specs.Kept.{member_of, members_by, AreCounted, IsCounted, AreApart, IsChange, IsKept}
use Rattle.mama_group.proofs.Placing.{all_at, placed_other, placed_all, turn_own, turn_other}

module _ {H : Type 0} (groups : List (Group H)) (i : ℕ) (g h : Group H) (room : Vec (ℕ × Vec GroupNote × H)) (at : slice_get groups i ≡ Some g) (members : h.members ≡ g.members) where
  apart_still : All AreApart groups → All AreApart (set groups i h)
  apart_still apart =
      All-set AreApart groups i h (subst (λ (ms : List SubId). are_distinct [] ms ≡ true) (sym members) (all_at AreApart groups i g at apart)) apart

  enough_still : length groups ≤ vec_capacity room → length (set groups i h) ≤ vec_capacity room
  enough_still enough = subst (λ (n : ℕ). n ≤ vec_capacity room) (sym (length-set groups i h)) enough

  -- it was given more room, and no more
  pub kept_unheard : {T : Type 0} (places : IndexMap SubId Place T) → h.counts ≡ g.counts → h.notes.items ≡ g.notes.items → IsKept groups places room → IsKept (set groups i h) places room
  kept_unheard places counts notes k =
      let counted : IsCounted h =
      subst (λ (c : Counts). AreCounted c (members_by h.members h.notes.items)) (sym counts)
      (subst (λ (ms : List SubId). AreCounted g.counts (members_by ms h.notes.items)) (sym members)
      (subst (λ (ns : List GroupNote). AreCounted g.counts (members_by g.members ns)) (sym notes) (all_at IsCounted groups i g at k.counted))) in
      record {
        placed = λ s. placed_other groups i g h at members s (get same_sub places s) (ap (λ (ns : List GroupNote). flat_map (told_of s) ns) notes) (k.placed s);
        counted = All-set IsCounted groups i h counted k.counted;
        apart = apart_still k.apart;
        none = k.none;
        enough = enough_still k.enough;
      }

  -- it heard a turn, and the place of the member was written
  pub kept_heard : {T : Type 0} (places after : IndexMap SubId Place T) (s : SubId) (calls : List Callback) (p q : Place) (change : Change)
      → get same_sub places s ≡ Some p → ((t : SubId) → get same_sub after t ≡ cond (same_sub s t) (Some q) (get same_sub places t))
      → p.group ≡ i → q.group ≡ i → q.member ≡ change.member → q.heard ≡ p.heard + length calls → p.heard ≡ length (flat_map (told_of s) g.notes.items)
      → IsChange g.members g.notes.items s calls change → h.counts ≡ change.counts → h.notes.items ≡ g.notes.items ++ change.heard.items
      → IsKept groups places room → IsKept (set groups i h) after room
  kept_heard places after s calls p q change found written was is member more heard c counts notes k =
      let own : flat_map (told_of s) h.notes.items ≡ flat_map (told_of s) g.notes.items ++ calls =
      ap (flat_map (told_of s)) notes ∙ turn_own g.members g.notes.items change.heard.items s calls c.heard in
      let long : length (flat_map (told_of s) h.notes.items) ≡ length (flat_map (told_of s) g.notes.items) + length calls = ap (λ (cs : List Callback). length cs) own ∙ length-append (flat_map (told_of s) g.notes.items) calls in
      let becomes : member_of q.member ≡ member_by (flat_map (told_of s) h.notes.items) = ap member_of member ∙ c.member ∙ ap (λ (ns : List GroupNote). member_by (flat_map (told_of s) ns)) (sym notes) in
      let counted : IsCounted h =
      subst (λ (n : Counts). AreCounted n (members_by h.members h.notes.items)) (sym counts)
      (subst (λ (ms : List SubId). AreCounted change.counts (members_by ms h.notes.items)) (sym members)
      (subst (λ (ns : List GroupNote). AreCounted change.counts (members_by g.members ns)) (sym notes) c.counted)) in
      record {
        placed = placed_all groups i g h at members s p q (λ t. get same_sub places t) (λ t. get same_sub after t) found written was is becomes (omega (arith, more, heard, long))
            (λ t other. ap (flat_map (told_of t)) notes ∙ turn_other g.members g.notes.items change.heard.items s t calls c.heard other) k.placed;
        counted = All-set IsCounted groups i h counted k.counted;
        apart = apart_still k.apart;
        none = k.none;
        enough = enough_still k.enough;
      }
