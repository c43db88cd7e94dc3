-- inner: What hands of a pool and their holders have, weighed before and after some steps.
use Rattle.std.specs.Prelude.{◌≡◌, ℕ, ◌+◌, List, map}
use Rattle.mama_edge.specs.declared.gate.GateActor.{GateActor}
use Rattle.mama_pool.specs.Values.{HandValue, SamePlaces, total, taken_weight, places_of}
use Rattle.mama_work.specs.Dispatcher.{queue_number}

-- the numbers of the queues whose seats these are, where this tells whose a seat is
abbrev pub numbers_of : {S : Type 0} → (S → GateActor) → List S → List ℕ
numbers_of acts seats = map (λ s. queue_number (acts s)) seats

-- What the hand pushed and what its holder has weigh as what was pushed and had before, and what was taken since: h became k,
-- and the holder had these numbers, and has those.
abbrev pub Keeps : HandValue → HandValue → List ℕ → List ℕ → Type 0
Keeps h k had has = (weight : ℕ → ℕ) → total weight k.pushed + total weight has + taken_weight weight h ≡ total weight h.pushed + total weight had + taken_weight weight k

-- the same hand, after some steps by which nothing was lost or made
abbrev pub Follows : HandValue → HandValue → List ℕ → List ℕ → Type 0
Follows h k had has = Keeps h k had has × SamePlaces h k

-- the same of some hands
abbrev pub AllKeep : List HandValue → List HandValue → List ℕ → List ℕ → Type 0
AllKeep hs ks had has = (weight : ℕ → ℕ) → total (λ k. total weight k.pushed) ks + total weight has + total (taken_weight weight) hs ≡ total (λ h. total weight h.pushed) hs + total weight had + total (taken_weight weight) ks

-- they stand for the same hands of the same pool, in the same order
abbrev pub ArePlaced : List HandValue → List HandValue → Type 0
ArePlaced hs ks = (map (λ k. k.number) ks ≡ map (λ h. h.number) hs) × (map places_of ks ≡ map places_of hs)

abbrev pub AllFollow : List HandValue → List HandValue → List ℕ → List ℕ → Type 0
AllFollow hs ks had has = AllKeep hs ks had has × ArePlaced hs ks

-- of each number there are as many here as these hands pushed and had not taken
abbrev pub AreBack : List HandValue → List ℕ → Type 0
AreBack hands here = (weight : ℕ → ℕ) → total weight here + total (taken_weight weight) hands ≡ total (λ h. total weight h.pushed) hands
