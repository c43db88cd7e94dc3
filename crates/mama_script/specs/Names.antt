-- believed: Which objects a script makes, and which line is the first to name one that it does not make.
use Rattle.std.specs.Prelude.{ℕ, suc, ◌+◌, Bool, true, false, ◌&&◌, nat_lt, List, [], ◌∷◌, ◌++◌, Option, Some, None, slice_get, if◌then◌else◌}
use Rattle.std.specs.List.{list_all}
use Rattle.mama_words.specs.declared.id.IdWord.{IdWord}
use Rattle.mama_words.specs.declared.order.OrderWord.{OrderWord}
use Rattle.mama_words.specs.declared.order.OrderWord.TheVariants as orders
use Rattle.mama_script.specs.declared.names.Made.{Made}
use Rattle.mama_script.specs.declared.line.Line.{Line}
use Rattle.mama_script.specs.declared.line.Line.TheVariants as lines

-- what a client makes that has no line yet
abbrev pub nothing_made : Made
nothing_made = record { subs = 0; timers = 0; inboxes = 0 }

abbrev pub with_sub : Made → Made
with_sub made = record made { subs = made.subs + 1 }

abbrev pub with_timer : Made → Made
with_timer made = record made { timers = made.timers + 1 }

abbrev pub with_inbox : Made → Made
with_inbox made = record made { inboxes = made.inboxes + 1 }

-- a change of the last client
abbrev pub at_last : (Made → Made) → List Made → List Made
at_last f [] = []
at_last f (m ∷ []) = f m ∷ []
at_last f (m ∷ n ∷ ms) = m ∷ at_last f (n ∷ ms)

-- what each client makes, with one line more
abbrev pub made_with : List Made → Line → List Made
made_with made lines.Client = made ++ nothing_made ∷ []
made_with made (lines.Sub topic kind queue cache recaps) = at_last with_sub made
made_with made (lines.Timer queue interval) = at_last with_timer made
made_with made (lines.Inbox queue) = at_last with_inbox made
made_with made _ = made

abbrev pub made_after : List Made → List Line → List Made
made_after made [] = made
made_after made (l ∷ ls) = made_after (made_with made l) ls

-- how many objects of each kind each client makes
abbrev pub made_by : List Line → List Made
made_by ls = made_after [] ls

-- the client makes more objects of the kind than the number counts
abbrev pub makes : (Made → ℕ) → Option Made → ℕ → Bool
makes kind None number = false
makes kind (Some made) number = nat_lt number (kind made)

-- an object of this kind is in the script
abbrev pub is_made : (Made → ℕ) → List Made → IdWord → Bool
is_made kind made id = makes kind (slice_get made id.client) id.number

-- the object that an order names is in the script
abbrev pub is_order_named : List Made → OrderWord → Bool
is_order_named made (orders.Stop id) = is_made (λ m. m.subs) made id
is_order_named made (orders.Disarm id) = is_made (λ m. m.timers) made id
is_order_named made (orders.Close id) = is_made (λ m. m.inboxes) made id
is_order_named made (orders.Ask inbox topic fids) = is_made (λ m. m.inboxes) made inbox

-- so are those of a line
abbrev pub is_named : List Made → Line → Bool
is_named made (lines.At call order) = is_order_named made order
is_named made (lines.Order order) = is_order_named made order
is_named made (lines.Group ids) = list_all (λ id. is_made (λ m. m.subs) made id) ids
is_named made (lines.Watch sub timer retries) = is_made (λ m. m.subs) made sub && is_made (λ m. m.timers) made timer
is_named made _ = true

-- the number of the first line, counted from k, that names an object which is not in the script
abbrev pub unnamed_from : List Made → ℕ → List Line → Option ℕ
unnamed_from made k [] = None
unnamed_from made k (l ∷ ls) = if is_named made l then unnamed_from made (suc k) ls else Some k
