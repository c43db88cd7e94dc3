-- A pool one of whose hands did a step is a pool.
use Rattle.std.proofs.Common.{◌≡◌, ◌≢◌, ℕ, ◌<◌, List, length, map, get_or, set, sym, ap, ◌∙◌, arith}
use Rattle.std.proofs.lemmas.List.{length-set, map-set, set-get_or, get_or-map, get_or_default}
use Rattle.std.proofs.lemmas.List.Elements.{All-set}
use Rattle.mama_pool.specs.Values.{Place, HandValue, NoteValue, note_of, share_of, places_of, SamePlaces, first_numbers, IsPool}
use Rattle.mama_pool.specs.Deal.{no_hand, hand_at}
use Rattle.mama_pool.proofs.Closings.{pool_number, pool_place, pool_width}

pub pool_set : (hands : List HandValue) (k : ℕ) (h new : HandValue) → IsPool hands → k < length hands → h ≡ get_or hands k h → SamePlaces h new → IsPool (set hands k new)
pool_set hands k h new P lt read S =
    let is : h ≡ hand_at hands k = read ∙ get_or_default hands k h no_hand lt in
    let l = length-set hands k new in
    let number : HandValue → ℕ = λ u. u.number in record {
      places = P.places;
      count = P.count ∙ sym l;
      numbers = map-set number hands k new ∙ (ap (set (map number hands) k) (S.0 ∙ (ap number is ∙ sym (get_or-map number hands k no_hand 0 lt))) ∙ (set-get_or (map number hands) k 0 ∙ (P.numbers ∙ ap first_numbers (sym l))));
      each = All-set (λ (u : HandValue). places_of u ≡ P.places) hands k new (S.1 ∙ (ap places_of is ∙ P.each k no_hand lt)) P.each;
    }

-- what a hand of a pool is
pub pool_hand : (hands : List HandValue) (k : ℕ) (h : HandValue) → IsPool hands → k < length hands → h ≡ get_or hands k h → (h.number ≡ k) × (length h.shares ≡ length hands)
pool_hand hands k h P lt read =
    let is : h ≡ hand_at hands k = read ∙ get_or_default hands k h no_hand lt in
    (ap (λ (u : HandValue). u.number) is ∙ pool_number hands P k lt, ap (λ (u : HandValue). length u.shares) is ∙ pool_width hands P k lt)

-- a note of a hand of a pool may be learnt by another
pub pool_told : (hands : List HandValue) (from to : ℕ) (h x : HandValue) (note : NoteValue) → IsPool hands → from < length hands → to < length hands → from ≢ to → h ≡ get_or hands from h → x ≡ get_or hands to x → note ≡ note_of h
    → ((note.from ≢ x.number) × (note.from < length x.shares)) × (note.tally ≡ (share_of x note.from).place.tally)
pool_told hands from to h x note P a b apart read read' is =
    let p = pool_hand hands from h P a read in let q = pool_hand hands to x P b read' in
    let here : note.from ≡ from = ap (λ (n : NoteValue). n.from) is ∙ p.0 in
    let hp = p.0 in let xn = q.0 in let xw = q.1 in
    let h_is : h ≡ hand_at hands from = read ∙ get_or_default hands from h no_hand a in
    let x_is : x ≡ hand_at hands to = read' ∙ get_or_default hands to x no_hand b in
    let own : note.tally ≡ (share_of (hand_at hands from) from).place.tally = ap (λ (n : NoteValue). n.tally) is ∙ (λ k. (share_of (h_is k) (hp k)).place.tally) in
    let other : (share_of x note.from).place.tally ≡ (share_of (hand_at hands to) from).place.tally = λ k. (share_of (x_is k) (here k)).place.tally in (
      ((λ e. apart (sym here ∙ (e ∙ xn))), omega arith),
      own ∙ (ap (λ (l : Place). l.tally) (pool_place hands P from from a a) ∙ (ap (λ (l : Place). l.tally) (sym (pool_place hands P to from b a)) ∙ sym other)),
    )
