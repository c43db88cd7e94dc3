use Rattle.std.specs.Prelude.{◌&&◌}
use Rattle.std.specs.Global.{Vec}
use Rattle.std.specs.Cmp.Lexicographic.{pointwise}
use Rattle.std.proofs.Common.{◌≡◌, Bool, List, [], ◌∷◌, refl, ap, ◌∙◌}
use Rattle.mama_event.specs.declared.ids.ObjectId.{ObjectId}
use Rattle.mama_event.specs.declared.ids.ObjectId.TheVariants.{Sub, Timer, Inbox}
use Rattle.mama_event.specs.declared.callback.CallNote.{CallNote}
use Rattle.mama_event.specs.contracts.ids.ObjectIdPartialEq.TheImpl.{ghosts}
use Rattle.mama_event.specs.Object.{same_object}
use Rattle.mama_event.specs.Equality.{same_call_note}
use Rattle.mama_dispatch.specs.Notes.{lists_of}
use Rattle.mama_dispatch.specs.SameNotes.{same_calls}
use Rattle.mama_dispatch.proofs.notes.are_same_lists.Goals as goal

-- lists are compared item by item, wherever they lie
lists_compared : (E : ObjectId → ObjectId → Bool) → ((o x : ObjectId) → E o x ≡ same_object o x) → (xs ys : List (ObjectId × Vec CallNote))
    → pointwise (λ (x y : ObjectId × Vec CallNote). E x.0 y.0 && pointwise same_call_note x.1.items y.1.items) xs ys ≡ pointwise same_calls (lists_of xs) (lists_of ys)
lists_compared E same [] [] = refl
lists_compared E same [] (y ∷ ys) = refl
lists_compared E same (x ∷ xs) [] = refl
lists_compared E same (x ∷ xs) (y ∷ ys) =
    ap (λ (t : Bool). (t && pointwise same_call_note x.1.items y.1.items) && pointwise (λ (x y : ObjectId × Vec CallNote). E x.0 y.0 && pointwise same_call_note x.1.items y.1.items) xs ys) (same x.0 y.0)
    ∙ ap (λ (t : Bool). (same_object x.0 y.0 && pointwise same_call_note x.1.items y.1.items) && t) (lists_compared E same xs ys)

each : (o x : ObjectId) → ghosts.eq o x ≡ same_object o x
each (Sub a) (Sub b) = refl
each (Sub a) (Timer b) = refl
each (Sub a) (Inbox b) = refl
each (Timer a) (Sub b) = refl
each (Timer a) (Timer b) = refl
each (Timer a) (Inbox b) = refl
each (Inbox a) (Sub b) = refl
each (Inbox a) (Timer b) = refl
each (Inbox a) (Inbox b) = refl

pub returns : goal.returns
returns c = c.eq.ensures ∙ lists_compared (λ o x. ghosts.eq o x) each c.args.a.now c.args.b.now
