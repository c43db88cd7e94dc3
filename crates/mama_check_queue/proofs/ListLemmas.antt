-- The tables of groups and watches at first, and what comes out of them.
use Rattle.std.specs.Global.{Vec}
use Rattle.std.proofs.Common.{◌≡◌, ℕ, List, [], ◌∷◌, length, map, refl, ap, sym, subst, ◌∙◌, arith}
use Rattle.mama_event.specs.declared.group.GroupRow.{GroupRow}
use Rattle.mama_event.specs.declared.group.GroupNote.{GroupNote}
use Rattle.mama_event.specs.declared.watch.WatchNote.{WatchNote}
use Rattle.mama_record.specs.RunData.{GroupNotes, WatchNotes}
use Rattle.mama_group.specs.Listener.{GroupListenerData}
use Rattle.mama_group.specs.declared.silent.SilentGroup.{SilentGroup}
use Rattle.mama_group.specs.Table.{GroupData, GroupPart, new_groups, part_of, part_given}
use Rattle.mama_timeout.specs.Table.{WatchData}
use Rattle.mama_timeout.specs.Table as watches
use Rattle.mama_check_queue.specs.Served.{group_given, watch_given}
use Rattle.mama_check_queue.specs.Lists.{AreGroups, group_list, watch_list}

new_are : (rows : List (ℕ × GroupRow)) (ls : List GroupListenerData) → length rows ≡ length ls → AreGroups (λ row. []) rows (new_groups rows ls)
new_are [] ls same = tt
new_are (row ∷ rows) [] same = absurd (omega arith)
new_are (row ∷ rows) (l ∷ ls) same = (record { number = refl; members = refl; notes = refl }, new_are rows ls (omega arith))

-- groups that have heard nothing yet
pub table_new : (groups rows : List (ℕ × GroupRow)) (ls : List GroupListenerData) (table : List GroupData) → rows ≡ groups → length groups ≡ length ls
    → table ≡ new_groups rows ls → AreGroups (λ row. []) groups table
table_new groups rows ls table same many is =
    subst (AreGroups (λ row. []) groups) (sym (is ∙ ap (λ (rs : List (ℕ × GroupRow)). new_groups rs ls) same)) (new_are groups ls many)

-- ---- what comes out

abbrev of_part : GroupPart → GroupNotes
of_part p = record { group = p.number; notes = p.notes }

given_parts : (view : SilentGroup → GroupListenerData) (ps : List (ℕ × Vec GroupNote × SilentGroup)) → map group_given ps ≡ map of_part (map (part_given view) ps)
given_parts view [] = refl
given_parts view (p ∷ ps) = ap (λ (gs : List GroupNotes). group_given p ∷ gs) (given_parts view ps)

kept_parts : (gs : List GroupData) → map of_part (map part_of gs) ≡ map group_list gs
kept_parts [] = refl
kept_parts (g ∷ gs) = ap (λ (ns : List GroupNotes). group_list g ∷ ns) (kept_parts gs)

pub parts_heard : (view : SilentGroup → GroupListenerData) (ps : List (ℕ × Vec GroupNote × SilentGroup)) (gs : List GroupData) → map (part_given view) ps ≡ map part_of gs
    → map group_given ps ≡ map group_list gs
parts_heard view ps gs is = given_parts view ps ∙ ap (map of_part) is ∙ kept_parts gs

abbrev of_pair : ℕ × List WatchNote → WatchNotes
of_pair p = record { watch = p.0; notes = p.1 }

abbrev pair_of : ℕ × Vec WatchNote → ℕ × List WatchNote
pair_of w = (w.0, w.1.items)

given_pairs : (ps : List (ℕ × Vec WatchNote)) → map watch_given ps ≡ map of_pair (map pair_of ps)
given_pairs [] = refl
given_pairs (p ∷ ps) = ap (λ (ws : List WatchNotes). watch_given p ∷ ws) (given_pairs ps)

kept_pairs : (ws : List WatchData) → map of_pair (map watches.part_of ws) ≡ map watch_list ws
kept_pairs [] = refl
kept_pairs (w ∷ ws) = ap (λ (ns : List WatchNotes). watch_list w ∷ ns) (kept_pairs ws)

pub parts_noted : (ps : List (ℕ × Vec WatchNote)) (ws : List WatchData) → map pair_of ps ≡ map watches.part_of ws → map watch_given ps ≡ map watch_list ws
parts_noted ps ws is = given_pairs ps ∙ ap (map of_pair) is ∙ kept_pairs ws
