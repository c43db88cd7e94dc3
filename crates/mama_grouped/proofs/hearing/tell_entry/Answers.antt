use Rattle.std.proofs.Common.{◌≡◌, ◌≤◌, ◌-◌, ℕ, List, Option, None, Some, length, map, take, drop, refl, sym, subst, ◌∙◌, arith}
use Rattle.std.proofs.lemmas.List.{length-drop, take_all}
use Rattle.std.proofs.lemmas.Result.{on_ok_weaker}
use Rattle.mama_event.specs.declared.callback.CallNote.{CallNote}
use Rattle.mama_group.specs.Table.{AllHeard}
use Rattle.mama_grouped.proofs.Entries.{heard_next, silent_next}
use Rattle.mama_grouped.proofs.hearing.tell_entry.Goals as goal

le_itself : (n : ℕ) → n ≤ n
le_itself n = omega arith

nothing : {X : Type 0} (o : Option X) → ((x : X) → o ≡ Some x → ⊥) → o ≡ None
nothing None not = refl
nothing (Some x) not = absurd (not x refl)

pub returns-in_default-clause-ok : goal.returns-in_default-clause-ok
returns-in_default-clause-ok g c =
    silent_next c.args._script.now c.args._hall.now c.args.seat.now c.args.groups.now c.args._told c.args.entry.now c.requires.there c.requires.next c.requires.hears
    (sym c.called_by.ensures ∙ nothing c.called_by.result c.in_default.not-Some)

pub returns-clause-ok : goal.returns-clause-ok
returns-clause-ok g c =
    let notes : List CallNote = c.notes_of-notes.result.now in
    let cut : ℕ = c.min-heard.result in
    let long : length (drop cut notes) ≡ length notes - cut = length-drop cut notes in
    let rest : take (length notes - cut) (drop cut notes) ≡ drop cut notes = take_all (length notes - cut) (drop cut notes) (subst (λ (n : ℕ). n ≤ length notes - cut) (sym long) (le_itself (length notes - cut))) in
    on_ok_weaker c.after.result
    (λ heard. heard_next c.args._script.now c.args._hall.now c.args.seat.now c.args.groups.now c.args._told c.args.entry.now c.requires.there c.requires.next c.requires.hears
    c.in-Some.sub c.heard.result cut notes c.after.new.self (sym c.called_by.ensures ∙ c.in-Some.is) (c.notes_of-notes.ensures c.args._script.now c.args._hall.now c.requires.sits)
    (λ few. omega (arith, few, c.min-heard.ensures)) c.heard.ensures.own
    (subst (λ (ns : List CallNote). AllHeard c.in-Some.sub (map (λ (n : CallNote). n.call) ns) c.args.groups.now c.after.new.self) rest heard))
    c.after.ensures.ok
