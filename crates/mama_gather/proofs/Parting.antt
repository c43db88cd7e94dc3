-- What the seat of a queue gives up: the callbacks of its objects, and the listeners that came back.
use Rattle.std.specs.Prelude.{slice_index_or}
use Rattle.std.specs.Global.{Vec}
use Rattle.std.specs.List.{All}
use Rattle.std.proofs.Common.{◌≡◌, ℕ, List, [], ◌∷◌, ◌++◌, length, map, sym, ◌∙◌, ap, subst, append_assoc}
use Rattle.std.proofs.lemmas.List.Elements.{All-nil, All-cons, All-head, All-weaker}
use Rattle.mama_journal.specs.Journal.{numbers_below}
use Rattle.mama_event.specs.declared.ids.ObjectId.{ObjectId}
use Rattle.mama_event.specs.declared.callback.CallNote.{CallNote}
use Rattle.mama_event.specs.Listener.{ListenerData}
use Rattle.mama_rules_rounds.specs.Client.{Planned}
use Rattle.mama_plans.specs.Orders.{orders_in}
use Rattle.mama_dispatch.specs.Hearing.{ArePlanned}
use Rattle.mama_dispatch.specs.Notes.{lists_of, calls_made, objects_made}
use Rattle.mama_posts_clients.specs.Queue.{QueuePostValue, IsQueueOf, HasComeBack, calls_by, told_back}
use Rattle.mama_gather.specs.Left.{events_by}
use Rattle.mama_gather.proofs.Lists.{all_front, all_back, all_mapped, numbered_here}

-- lists that are made of their objects
own_lists : (note : ObjectId → List CallNote) (lists : List (ObjectId × Vec CallNote)) (os : List ObjectId) → lists_of lists ≡ map (λ o. (o, note o)) os → All (λ (l : ObjectId × Vec CallNote). l.1.items ≡ note l.0) lists
own_lists note [] os same = All-nil (λ (l : ObjectId × Vec CallNote). l.1.items ≡ note l.0)
own_lists note (l ∷ lists) [] same = absurd (cc same)
own_lists note (l ∷ lists) (o ∷ os) same =
    let first : (l.0, l.1.items) ≡ (o, note o) = cc same in
    let object : l.0 ≡ o = ap (λ (p : ObjectId × List CallNote). p.0) first in
    let notes : l.1.items ≡ note o = ap (λ (p : ObjectId × List CallNote). p.1) first in
    let rest : lists_of lists ≡ map (λ o. (o, note o)) os = cc same in
    All-cons (λ (k : ObjectId × Vec CallNote). k.1.items ≡ note k.0) l lists (notes ∙ ap note (sym object)) (own_lists note lists os rest)

pub own_calls : (objects : List Planned) (number : ℕ) (post : QueuePostValue) (lists : List (ObjectId × Vec CallNote)) (calls : ℕ → ObjectId → List CallNote) → IsQueueOf objects number post
    → ((os : List Planned) → ArePlanned (orders_in os) post.served.seats → lists_of lists ≡ calls_made (orders_in os) post.served.journal) → ((o : ObjectId) → calls number o ≡ calls_by objects post.served.journal o)
    → All (λ (l : ObjectId × Vec CallNote). l.1.items ≡ calls number l.0) lists
own_calls objects number post lists calls keeps made same =
    All-weaker (λ (l : ObjectId × Vec CallNote). l.1.items ≡ calls_by objects post.served.journal l.0) (λ (l : ObjectId × Vec CallNote). l.1.items ≡ calls number l.0) (λ l own. own ∙ sym (same l.0)) lists
    (own_lists (calls_by objects post.served.journal) lists (objects_made post.served.journal) (made objects keeps.planned))

pub own_listeners : {L : Type 0} (view : L → ListenerData) (objects : List Planned) (number : ℕ) (post : QueuePostValue) (listeners : List (ObjectId × L)) (calls : ℕ → ObjectId → List CallNote) → IsQueueOf objects number post
    → told_back view listeners ≡ post.back → ((o : ObjectId) → calls number o ≡ calls_by objects post.served.journal o) → All (λ (b : ObjectId × L). HasComeBack (calls number b.0) (b.0, view b.1)) listeners
own_listeners {L} view objects number post listeners calls keeps back same =
    All-weaker (λ (b : ObjectId × L). HasComeBack (calls_by objects post.served.journal b.0) (b.0, view b.1)) (λ (b : ObjectId × L). HasComeBack (calls number b.0) (b.0, view b.1))
    (λ b own. subst (λ (ns : List CallNote). HasComeBack ns (b.0, view b.1)) (sym (same b.0)) own) listeners
    (all_mapped (λ (d : ObjectId × ListenerData). HasComeBack (calls_by objects post.served.journal d.0) d) (λ (b : ObjectId × L). (b.0, view b.1)) listeners
    (subst (All (λ (d : ObjectId × ListenerData). HasComeBack (calls_by objects post.served.journal d.0) d)) (sym back) keeps.back))

-- the seat that comes next of those that are gone through
pub seat_here : {A : Type 0} (P : A → Type 0) (seats before rest : List A) (s : A) → (before ++ s ∷ []) ++ rest ≡ seats → All P seats → P s
seat_here P seats before rest s is all = All-head P s [] (all_back P before (s ∷ []) (all_front P (before ++ s ∷ []) rest (subst (All P) (sym is) all)))

pub journal_here : (seats before rest : List (ℕ × QueuePostValue)) (s : ℕ × QueuePostValue) → (before ++ s ∷ []) ++ rest ≡ seats → map (λ t. t.0) seats ≡ numbers_below (length seats) → slice_index_or (map events_by seats) s.0 [] ≡ events_by s
journal_here seats before rest s is numbers =
    numbered_here (λ t. t.0) events_by seats before s rest (length seats) [] (sym is ∙ append_assoc before (s ∷ []) rest) numbers
