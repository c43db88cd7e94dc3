use Rattle.std.specs.Prelude.{vec_len, vec_capacity}
use Rattle.std.proofs.lemmas.Grind.{common_steps}
use Rattle.std.proofs.Common.{◌≡◌, ℕ, ◌<◌, ◌++◌, ◌∷◌, cond, List, [], length, map, Some, rules, refl, sym, ap, subst, ◌∙◌, length-append, arith}
use Rattle.indexmap.specs.IndexMap.{get}
use Rattle.mama_event.specs.declared.ids.TimerId.{TimerId}
use Rattle.mama_event.specs.declared.watch.WatchNote.{WatchNote}
use Rattle.mama_event.specs.declared.watch.WatchRow.{WatchRow}
use Rattle.mama_event.specs.Object.{same_timer}
use Rattle.mama_timeout.specs.declared.table.Watch.{Watch}
use Rattle.mama_timeout.specs.Table.{AreApart, new_watch}
use Rattle.mama_timeout.specs.Kept.{watch_of}
use Rattle.mama_timeout.proofs.Adding.{IsBegun, AreOther, begun_none, others_none, begun_more, others_more, put_next}
use Rattle.mama_timeout.proofs.table.WatchTable.new.Goals as goal

pub loop-numbered-init : goal.loop-numbered-init
loop-numbered-init c =
    let same : c.into_iter-numbered-iterator.result.rest.items ≡ c.args.rows.items = search rules in
    let none : c.in_ok-watches.watches.items ≡ [] = c.in_ok-watches.ensures.items in
    record {
      begun = subst (λ ws. IsBegun ws c.new-places.result) (sym none) (begun_none c.new-places.result (λ t. first_of (search rules, grind (arith, common_steps))));
      apart = subst AreApart (sym same) c.requires;
      others = subst (λ ws. AreOther ws c.into_iter-numbered-iterator.result.rest.items) (sym none) (others_none c.into_iter-numbered-iterator.result.rest.items);
      whole = ap (λ ws. map watch_of ws ++ map new_watch c.into_iter-numbered-iterator.result.rest.items) none ∙ ap (map new_watch) same;
      long = let a = ap length none in let b = ap length same in omega (arith, a, b);
    }

pub loop-numbered-preserved : goal.loop-numbered-preserved
loop-numbered-preserved c =
    let inv = c.loop-numbered.invariant in
    let done : List Watch = c.loop-numbered.watches.items in
    let row : ℕ × WatchRow = c.in-Some.numbered in
    let rows : List (ℕ × WatchRow) = c.next.new.self.rest.items in
    let new : Watch = record { number = row.0; row = row.1; notes = c.in_ok-notes.notes } in
    let first : c.loop-numbered.numbered-iterator.rest.items ≡ row ∷ rows = search rules in
    let pushed : c.push.new.self.items ≡ done ++ new ∷ [] = c.in_ok-push.ensures.items in
    let at : c.len-place.result ≡ length done = omega (arith, c.len-place.ensures, c.loop-numbered.watches.ok.0) in
    let written : (t : TimerId) → get same_timer c.insert.new.self t ≡ cond (same_timer new.row.timer t) (Some (length done)) (get same_timer c.loop-numbered.places t) =
    (λ t. c.in_ok-insert.ensures.updates.0 t ∙ ap (λ (n : ℕ). cond (same_timer new.row.timer t) (Some n) (get same_timer c.loop-numbered.places t)) at) in
    let roomy : vec_len new.notes < vec_capacity new.notes = omega (arith, c.in_ok-notes.ensures.len, c.in_ok-notes.ensures.capacity) in
    let apart : AreApart (row ∷ rows) = subst AreApart first inv.apart in
    let others : AreOther done (row ∷ rows) = subst (AreOther done) first inv.others in
    let one = ap length first in
    let two = ap length pushed ∙ length-append done (new ∷ []) in
    record {
      begun = subst (λ (ws : List Watch). IsBegun ws c.insert.new.self) (sym pushed) (begun_more done new c.loop-numbered.places c.insert.new.self written others.0 roomy inv.begun);
      apart = apart.1;
      others = subst (λ (ws : List Watch). AreOther ws rows) (sym pushed) (others_more done new row rows refl apart.0 others.1);
      whole =
          ap (λ (ws : List Watch). map watch_of ws ++ map new_watch rows) pushed
          ∙ put_next done new row rows (map new_watch c.args.rows.items) (ap (λ (ns : List WatchNote). record { number = row.0; row = row.1; notes = ns }) c.in_ok-notes.ensures.items)
          (ap (λ (rs : List (ℕ × WatchRow)). map watch_of done ++ map new_watch rs) (sym first) ∙ inv.whole);
      long = omega (arith, one, two, inv.long);
    }
