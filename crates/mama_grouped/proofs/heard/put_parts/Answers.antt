use Rattle.std.specs.List.{All}
use Rattle.std.proofs.Common.{◌≡◌, ◌++◌, ◌∷◌, List, [], Some, map, rules, refl, sym, ap, subst, ◌∙◌, append_assoc, arith}
use Rattle.std.proofs.lemmas.Grind.{common_steps}
use Rattle.std.proofs.lemmas.List.{map-append}
use Rattle.std.proofs.lemmas.List.Elements.{All-pop}
use Rattle.mama_group.specs.Listener.{told}
use Rattle.mama_plans.specs.Numbered.{numbered, list_put, lists_put}
use Rattle.mama_plans.proofs.NumberedLemmas.{put_more}
use Rattle.mama_grouped.specs.Seat.{HasHeard}
use Rattle.mama_grouped.proofs.heard.put_parts.Goals as goal

pub loop-part-init : goal.loop-part-init
loop-part-init g c = record { whole = search rules; lists = refl; listeners = λ by all were. were; long = refl }

pub loop-part-preserved : goal.loop-part-preserved
loop-part-preserved g c =
    let view = told g.H.GroupListener.tagged g.H.GroupListener.calls g.H.GroupListener.heard in
    let inv = c.loop-part.invariant in
    let before = c.loop-part.yielded in
    let part = c.in-Some.part in
    let rest = c.next.new.self.rest.items in
    let first : c.loop-part.part-iterator.rest.items ≡ part ∷ rest = search rules in
    record {
      whole = append_assoc before (part ∷ []) rest ∙ ap (λ xs. before ++ xs) (sym first) ∙ inv.whole;
      lists =
          c.put_list.ensures
          ∙ ap (list_put part.0 part.1.items) inv.lists
          ∙ sym (put_more (map (λ p. (p.0, p.1.items)) before) ((part.0, part.1.items) ∷ []) (numbered c.args.lists.now.items))
          ∙ ap (λ xs. lists_put xs (numbered c.args.lists.now.items)) (sym (map-append (λ p. (p.0, p.1.items)) before (part ∷ [])));
      listeners = (λ by all were.
          let both = All-pop (λ p. HasHeard p.0 (by p.0) (view p.2)) (before ++ part ∷ []) before (Some part) refl all in
          c.put_listener.ensures.listeners by both.1 (inv.listeners by both.0 were));
      long = c.put_listener.ensures.long ∙ inv.long;
    }

pub returns-clause-lists : goal.returns-clause-lists
returns-clause-lists g c =
    let same : c.args.parts.items ≡ c.loop-part.yielded = first_of (search rules, grind (arith, common_steps)) in
    c.loop-part.invariant.lists ∙ ap (λ ps. lists_put (map (λ p. (p.0, p.1.items)) ps) (numbered c.args.lists.now.items)) (sym same)

pub returns-clause-listeners : goal.returns-clause-listeners
returns-clause-listeners g c = λ by all were.
    let view = told g.H.GroupListener.tagged g.H.GroupListener.calls g.H.GroupListener.heard in
    let same : c.args.parts.items ≡ c.loop-part.yielded = first_of (search rules, grind (arith, common_steps)) in
    c.loop-part.invariant.listeners by (subst (All (λ p. HasHeard p.0 (by p.0) (view p.2))) same all) were
