-- inner: What the steps of a run need, where a line of a client that only waits is an entry and no step.
use Rattle.std.specs.Prelude.{ℕ, suc, List, [], ◌∷◌, map, nat_lt, length, slice_index_or, if◌then◌else◌, Option, None, Some}
use Rattle.mama_script.specs.declared.client.ClientLine.{ClientLine}
use Rattle.mama_check_order.specs.declared.order.Need.{Need}
use Rattle.mama_replay.specs.Followed.{is_pause}

-- how many steps come before each line, where some came before the first, and before that the client is done
abbrev pub numbers_from : ℕ → List ClientLine → List ℕ
numbers_from n [] = n ∷ []
numbers_from n (l ∷ ls) = n ∷ numbers_from (if is_pause l then n else suc n) ls

abbrev pub step_numbers : List ClientLine → List ℕ
step_numbers lines = numbers_from 0 lines

abbrev pub all_numbers : List (List ClientLine) → List (List ℕ)
all_numbers clients = map step_numbers clients

-- a need by the number of the step: a client's line is told by the number of steps before it
abbrev pub renumbered : List (List ℕ) → Option Need → Option Need
renumbered numbers None = None
renumbered numbers (Some need) = Some (record { actor = need.actor; entry = slice_index_or (slice_index_or numbers need.actor []) need.entry need.entry })

-- a client's steps need nothing
abbrev pub client_needs : List ClientLine → List (Option Need)
client_needs [] = None ∷ []
client_needs (l ∷ ls) = if is_pause l then client_needs ls else None ∷ client_needs ls

-- what one line needs, if it is a step
abbrev pub line_needs : ClientLine → List (Option Need)
line_needs line = if is_pause line then [] else None ∷ []

-- what the steps of an actor need, by its number and what its entries need
abbrev pub needs_at : List (List ClientLine) → ℕ → List (Option Need) → List (Option Need)
needs_at clients actor own = if nat_lt actor (length clients) then client_needs (slice_index_or clients actor []) else map (renumbered (all_numbers clients)) own

abbrev pub needs_from : List (List ClientLine) → ℕ → List (List (Option Need)) → List (List (Option Need))
needs_from clients actor [] = []
needs_from clients actor (own ∷ rest) = needs_at clients actor own ∷ needs_from clients (suc actor) rest

-- what the steps of all actors need, where these are the needs of all entries
abbrev pub step_needs : List (List ClientLine) → List (List (Option Need)) → List (List (Option Need))
step_needs clients needs = needs_from clients 0 needs
