-- Serving entry by entry makes the deeds of the journal.
use Rattle.std.specs.List.{flat_map}
use Rattle.std.proofs.Common.{◌≡◌, ℕ, List, [], ◌∷◌, ◌++◌, refl, ap, sym, ◌∙◌, subst, append-nil, append_assoc}
use Rattle.mama_journal.specs.Journal.{puts_so_far}
use Rattle.mama_event.specs.declared.ids.ObjectId.{ObjectId}
use Rattle.mama_event.specs.declared.order.Order.{Order}
use Rattle.mama_event.specs.declared.to_queue.QueueNote.{QueueNote}
use Rattle.mama_rules_queue.specs.Queue.{Deed, QueuePut, served, deeds, puts_of, bye_put}
use Rattle.mama_event.specs.declared.ids.ObjectId.TheVariants.{Sub, Timer, Inbox}
use Rattle.mama_dispatch.specs.Journals.{messages_at}
use Rattle.mama_dispatch.specs.Standing.{Stands, StandsAtFirst, Standing}

-- reactions that look at what was put so far, with one entry more
so_far_more : {E P : Type 0} (at : List E → List P → E → List P) (es before : List E) (sofar : List P) (e : E)
    → puts_so_far at before sofar (es ++ e ∷ []) ≡ puts_so_far at before sofar es ++ at (before ++ es) (puts_so_far at before sofar es) e
so_far_more {E} {P} at [] before sofar e = ap (λ (xs : List E). sofar ++ at xs sofar e) (sym (append-nil before))
so_far_more {E} {P} at (x ∷ es) before sofar e =
    so_far_more at es (before ++ x ∷ []) (sofar ++ at before sofar x) e
    ∙ ap (λ (xs : List E). puts_so_far at (before ++ x ∷ []) (sofar ++ at before sofar x) es ++ at xs (puts_so_far at (before ++ x ∷ []) (sofar ++ at before sofar x) es) e) (append_assoc before (x ∷ []) es)

pub deeds_more : (orders : ObjectId → ℕ → List Order) (journal : List (ℕ × QueueNote)) (e : ℕ × QueueNote)
    → deeds orders (journal ++ e ∷ []) ≡ deeds orders journal ++ served orders journal (deeds orders journal) e.1
deeds_more orders journal e = so_far_more (λ (before : List (ℕ × QueueNote)) (sofar : List Deed) (x : ℕ × QueueNote). served orders before sofar x.1) journal [] [] e

pub stands_at_first : StandsAtFirst
stands_at_first = record { seated = tt; live = λ x. refl; quiet = λ x h. refl; silent = λ x h. nothing x }
  where
    nothing : (x : ObjectId) → messages_at x [] ≡ []
    nothing (Sub s) = refl
    nothing (Timer t) = refl
    nothing (Inbox i) = refl

pub standing : Standing
standing orders journal port note before after pb pa serves fits stands =
    let at = serves.serves orders port journal (deeds orders journal) fits stands in
    record {
      stands = subst (λ (ds : List Deed). Stands (journal ++ (port, note) ∷ []) ds after) (sym (deeds_more orders journal (port, note))) at.stands;
      puts =
          ap (λ (ps : List QueuePut). ps ++ bye_put journal (port, note)) at.puts
          ∙ append_assoc pb (flat_map puts_of (served orders journal (deeds orders journal) note)) (bye_put journal (port, note));
    }
