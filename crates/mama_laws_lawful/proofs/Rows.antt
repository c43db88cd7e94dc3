-- What rows of one kind put to one queue: words of their blocks, and their ends.
use Rattle.std.specs.Prelude.{Some}
use Rattle.std.specs.List.{list_any, flat_map}
use Rattle.std.proofs.Common.{◌≡◌, ℕ, ◌==◌, Bool, true, false, ◌||◌, cond, List, [], ◌∷◌, ◌++◌, map, filter, refl, sym, ◌∙◌, ap, subst, append-nil, append_assoc, ⊎_elim, ◌⊎◌}
use Rattle.std.proofs.lemmas.Bool.{or_left, or_right, cases_Bool}
use Rattle.std.proofs.lemmas.List.Concat.{flat_map-append}
use Rattle.mama_event.specs.ToQueue.{Block}
use Rattle.mama_event.specs.declared.ids.ObjectId.{ObjectId}
use Rattle.mama_event.specs.declared.to_queue.QueueNote.{QueueNote}
use Rattle.mama_event.specs.declared.to_queue.QueueNote.TheVariants as q
use Rattle.mama_rules_services.specs.Bridge.{BridgePut, to_queue, slot_on}
use Rattle.mama_laws_bridge.specs.Table.{changed, without}
use Rattle.mama_laws_bridge.proofs.Lists.{Each, each_all, each_map}
use Rattle.mama_laws_lawful.specs.Streams.{queue_part}
use Rattle.mama_laws_lawful.proofs.Lists.{Split, split_chosen, split_others, kept_all, none_kept}
use Rattle.mama_laws_lawful.proofs.Going.{is_block, Going, Belongs, going_words, going_gone, is_itself, in_middle}

module _ {R M : Type 0} (queue : ℕ) (place : R → ℕ) (block : R → Block) (says : R → M → QueueNote) (belongs : (row : R) (m : M) → Belongs (block row) (says row m)) where
  -- the block of a row, if it is of the queue
  abbrev pub block_of : R → List Block
  block_of row = cond (place row == queue) (block row ∷ []) []

  abbrev pub blocks_of : List R → List Block
  blocks_of [] = []
  blocks_of (row ∷ rows) = block_of row ++ blocks_of rows

  pub blocks_append : (xs ys : List R) → blocks_of (xs ++ ys) ≡ blocks_of xs ++ blocks_of ys
  blocks_append [] ys = refl
  blocks_append (x ∷ xs) ys = ap (λ bs. block_of x ++ bs) (blocks_append xs ys) ∙ sym (append_assoc (block_of x) (blocks_of xs) (blocks_of ys))

  -- rows that change, but neither their place nor their block
  pub blocks_changed : (test : R → Bool) (change : R → R) → ((row : R) → place (change row) ≡ place row) → ((row : R) → block (change row) ≡ block row)
      → (rows : List R) → blocks_of (changed test change rows) ≡ blocks_of rows
  blocks_changed test change p b [] = refl
  blocks_changed test change p b (row ∷ rows) = at (test row) (blocks_changed test change p b rows)
    where
      at : (t : Bool) → blocks_of (changed test change rows) ≡ blocks_of rows → ◌≡◌ {A = List Block} (block_of (cond t (change row) row) ++ blocks_of (changed test change rows)) (block_of row ++ blocks_of rows)
      at true h = ap (λ (bs : List Block). block_of (change row) ++ bs) h ∙ ap (λ (n : ℕ). cond (n == queue) (block (change row) ∷ []) [] ++ blocks_of rows) (p row) ∙ ap (λ (c : Block). cond (place row == queue) (c ∷ []) [] ++ blocks_of rows) (b row)
      at false h = ap (λ (bs : List Block). block_of row ++ bs) h

  -- messages of a row, and its end
  abbrev pub told : R → List M → List BridgePut
  told row ms = map (λ m. to_queue (place row) (says row m)) ms

  abbrev pub ends : (R → List M) → R → List BridgePut
  ends left row = told row (left row) ++ to_queue (place row) (q.Gone (block row).slot (block row).object) ∷ []

  told_here : (row : R) (ms : List M) → flat_map (queue_part queue) (told row ms) ≡ cond (place row == queue) (map (says row) ms) []
  told_here row [] = at (place row == queue)
    where
      at : (b : Bool) → ◌≡◌ {A = List QueueNote} [] (cond b [] [])
      at true = refl
      at false = refl
  told_here row (m ∷ ms) = ap (λ (ns : List QueueNote). cond (place row == queue) (says row m ∷ []) [] ++ ns) (told_here row ms) ∙ at (place row == queue)
    where
      at : (b : Bool) → ◌≡◌ {A = List QueueNote} (cond b (says row m ∷ []) [] ++ cond b (map (says row) ms) []) (cond b (says row m ∷ map (says row) ms) [])
      at true = refl
      at false = refl

  ends_here : (left : R → List M) (row : R) → flat_map (queue_part queue) (ends left row) ≡ cond (place row == queue) (map (says row) (left row) ++ q.Gone (block row).slot (block row).object ∷ []) []
  ends_here left row =
      flat_map-append (queue_part queue) (told row (left row)) (to_queue (place row) (q.Gone (block row).slot (block row).object) ∷ [])
      ∙ ap (λ (ns : List QueueNote). ns ++ (cond (place row == queue) (q.Gone (block row).slot (block row).object ∷ []) [] ++ [])) (told_here row (left row))
      ∙ at (place row == queue)
    where
      at : (b : Bool) → ◌≡◌ {A = List QueueNote} (cond b (map (says row) (left row)) [] ++ (cond b (q.Gone (block row).slot (block row).object ∷ []) [] ++ [])) (cond b (map (says row) (left row) ++ q.Gone (block row).slot (block row).object ∷ []) [])
      at true = refl
      at false = refl

  -- the block of a row stands, if it is of the queue
  abbrev pub Held : List Block → R → Type 0
  Held blocks row = (place row == queue) ≡ true → list_any (is_block (block row)) blocks ≡ true

  pub all_held : (blocks : List Block) (rows : List R) → ((p : Block → Bool) → list_any p (blocks_of rows) ≡ true → list_any p blocks ≡ true) → Each (Held blocks) rows
  all_held blocks [] h = tt
  all_held blocks (row ∷ rows) h = (
    λ here. h (is_block (block row)) (ap (λ (b : Bool). list_any (is_block (block row)) (cond b (block row ∷ []) [] ++ blocks_of rows)) here ∙ or_left (is_block (block row) (block row)) (list_any (is_block (block row)) (blocks_of rows)) (is_itself (block row))),
    all_held blocks rows (λ p there. h p (later p (place row == queue) there)),
  )
    where
      later : (p : Block → Bool) (b : Bool) → list_any p (blocks_of rows) ≡ true → list_any p (cond b (block row ∷ []) [] ++ blocks_of rows) ≡ true
      later p true there = or_right (p (block row)) (list_any p (blocks_of rows)) there
      later p false there = there

  going_told : (blocks : List Block) (known : ObjectId → Bool) (notes : List QueueNote) (row : R) (ms : List M) → Held blocks row
      → Going blocks known notes → Going blocks known (notes ++ flat_map (queue_part queue) (told row ms))
  going_told blocks known notes row ms held g = subst (λ (ns : List QueueNote). Going blocks known (notes ++ ns)) (sym (told_here row ms)) (⊎_elim
      (λ (here : (place row == queue) ≡ true). subst (λ (b : Bool). Going blocks known (notes ++ cond b (map (says row) ms) [])) (sym here)
      (going_words blocks known notes (block row) (map (says row) ms) (each_map (Belongs (block row)) (says row) ms (each_all (λ m. Belongs (block row) (says row m)) ms (belongs row))) (held here) g))
      (λ (away : (place row == queue) ≡ false). subst (λ (b : Bool). Going blocks known (notes ++ cond b (map (says row) ms) [])) (sym away)
      (subst (Going blocks known) (sym (append-nil notes)) g))
      (cases_Bool (place row == queue)))

  -- rows that stand are told messages
  pub going_all_told : (blocks : List Block) (known : ObjectId → Bool) (notes : List QueueNote) (out : R → List M) (rows : List R) → Each (Held blocks) rows
      → Going blocks known notes → Going blocks known (notes ++ flat_map (queue_part queue) (flat_map (λ row. told row (out row)) rows))
  going_all_told blocks known notes out [] held g = subst (Going blocks known) (sym (append-nil notes)) g
  going_all_told blocks known notes out (row ∷ rows) held g =
      let first : List QueueNote = flat_map (queue_part queue) (told row (out row)) in
      let rest : List QueueNote = flat_map (queue_part queue) (flat_map (λ r. told r (out r)) rows) in
      subst (Going blocks known)
      (append_assoc notes first rest ∙ ap (λ (ns : List QueueNote). notes ++ ns) (sym (flat_map-append (queue_part queue) (told row (out row)) (flat_map (λ r. told r (out r)) rows))))
      (going_all_told blocks known (notes ++ first) out rows held.1 (going_told blocks known notes row (out row) held.0 g))

  -- a row ends
  pub going_ended : (xs ys : List Block) (known : ObjectId → Bool) (notes : List QueueNote) (left : R → List M) (row : R)
      → Going (xs ++ (block_of row ++ ys)) known notes → Going (xs ++ ys) known (notes ++ flat_map (queue_part queue) (ends left row))
  going_ended xs ys known notes left row g = subst (λ (ns : List QueueNote). Going (xs ++ ys) known (notes ++ ns)) (sym (ends_here left row)) (⊎_elim
      (λ (here : (place row == queue) ≡ true).
      let words : List QueueNote = map (says row) (left row) in
      let gone : List QueueNote = q.Gone (block row).slot (block row).object ∷ [] in
      let stands : Going (xs ++ block row ∷ ys) known notes = subst (λ (b : Bool). Going (xs ++ (cond b (block row ∷ []) [] ++ ys)) known notes) here g in
      subst (λ (b : Bool). Going (xs ++ ys) known (notes ++ cond b (words ++ gone) [])) (sym here)
      (subst (Going (xs ++ ys) known) (append_assoc notes words gone)
      (going_gone xs ys (block row) known (notes ++ words)
      (going_words (xs ++ block row ∷ ys) known notes (block row) words (each_map (Belongs (block row)) (says row) (left row) (each_all (λ m. Belongs (block row) (says row m)) (left row) (belongs row)))
      (in_middle xs ys (block row)) stands))))
      (λ (away : (place row == queue) ≡ false).
      subst (λ (b : Bool). Going (xs ++ ys) known (notes ++ cond b (map (says row) (left row) ++ q.Gone (block row).slot (block row).object ∷ []) [])) (sym away)
      (subst (Going (xs ++ ys) known) (sym (append-nil notes)) (subst (λ (b : Bool). Going (xs ++ (cond b (block row ∷ []) [] ++ ys)) known notes) away g)))
      (cases_Bool (place row == queue)))

  -- all rows end, one after another
  pub going_all_ended : (ys : List Block) (known : ObjectId → Bool) (notes : List QueueNote) (left : R → List M) (rows : List R)
      → Going (blocks_of rows ++ ys) known notes → Going ys known (notes ++ flat_map (queue_part queue) (flat_map (ends left) rows))
  going_all_ended ys known notes left [] g = subst (Going ys known) (sym (append-nil notes)) g
  going_all_ended ys known notes left (row ∷ rows) g =
      let first : List QueueNote = flat_map (queue_part queue) (ends left row) in
      let rest : List QueueNote = flat_map (queue_part queue) (flat_map (ends left) rows) in
      let stands : Going (block_of row ++ (blocks_of rows ++ ys)) known notes = subst (λ (bs : List Block). Going bs known notes) (append_assoc (block_of row) (blocks_of rows) ys) g in
      subst (Going ys known)
      (append_assoc notes first rest ∙ ap (λ (ns : List QueueNote). notes ++ ns) (sym (flat_map-append (queue_part queue) (ends left row) (flat_map (ends left) rows))))
      (going_all_ended ys known (notes ++ first) left rows (going_ended [] (blocks_of rows ++ ys) known notes left row stands))

  -- the rows of a test end: one of them, or none
  pub going_left : (xs ys : List Block) (known : ObjectId → Bool) (notes : List QueueNote) (left : R → List M) (test : R → Bool) (rows : List R)
      → Split test rows ⊎ (list_any test rows ≡ false) → Going (xs ++ (blocks_of rows ++ ys)) known notes
      → Going (xs ++ (blocks_of (without test rows) ++ ys)) known (notes ++ flat_map (queue_part queue) (flat_map (ends left) (filter test rows)))
  going_left xs ys known notes left test rows found g = ⊎_elim
      (λ (s : Split test rows).
      let front : List Block = blocks_of s.front in
      let back : List Block = blocks_of s.back in
      let before : xs ++ (blocks_of rows ++ ys) ≡ (xs ++ front) ++ (block_of s.it ++ (back ++ ys)) =
      ap (λ (rs : List R). xs ++ (blocks_of rs ++ ys)) s.whole
      ∙ ap (λ (bs : List Block). xs ++ (bs ++ ys)) (blocks_append s.front (s.it ∷ s.back))
      ∙ ap (λ (bs : List Block). xs ++ bs) (append_assoc front (block_of s.it ++ back) ys ∙ ap (λ (bs : List Block). front ++ bs) (append_assoc (block_of s.it) back ys))
      ∙ sym (append_assoc xs front (block_of s.it ++ (back ++ ys))) in
      let after : (xs ++ front) ++ (back ++ ys) ≡ xs ++ (blocks_of (without test rows) ++ ys) =
      append_assoc xs front (back ++ ys)
      ∙ ap (λ (bs : List Block). xs ++ bs) (sym (append_assoc front back ys) ∙ ap (λ (bs : List Block). bs ++ ys) (sym (blocks_append s.front s.back) ∙ ap blocks_of (sym (split_others test rows s)))) in
      let put : flat_map (queue_part queue) (ends left s.it) ≡ flat_map (queue_part queue) (flat_map (ends left) (filter test rows)) =
      ap (flat_map (queue_part queue)) (sym (append-nil (ends left s.it)) ∙ ap (flat_map (ends left)) (sym (split_chosen test rows s))) in
      subst (λ (bs : List Block). Going bs known (notes ++ flat_map (queue_part queue) (flat_map (ends left) (filter test rows)))) after
      (subst (λ (ns : List QueueNote). Going ((xs ++ front) ++ (back ++ ys)) known (notes ++ ns)) put
      (going_ended (xs ++ front) (back ++ ys) known notes left s.it (subst (λ (bs : List Block). Going bs known notes) before g))))
      (λ (none : list_any test rows ≡ false).
      subst (λ (rs : List R). Going (xs ++ (blocks_of rs ++ ys)) known (notes ++ flat_map (queue_part queue) (flat_map (ends left) (filter test rows)))) (sym (kept_all test rows none))
      (subst (λ (rs : List R). Going (xs ++ (blocks_of rows ++ ys)) known (notes ++ flat_map (queue_part queue) (flat_map (ends left) rs))) (sym (none_kept test rows none))
      (subst (Going (xs ++ (blocks_of rows ++ ys)) known) (sym (append-nil notes)) g)))
      found

  -- the slots of the blocks are those of the rows on the queue
  pub blocks_slots : (p : ℕ → Bool) (rows : List R) → list_any (λ (c : Block). p c.slot) (blocks_of rows) ≡ list_any p (flat_map (λ (row : R). slot_on queue (Some (place row, (block row).slot))) rows)
  blocks_slots p [] = refl
  blocks_slots p (row ∷ rows) = at (place row == queue) (blocks_slots p rows)
    where
      at : (b : Bool) → list_any (λ (c : Block). p c.slot) (blocks_of rows) ≡ list_any p (flat_map (λ (r : R). slot_on queue (Some (place r, (block r).slot))) rows)
          → list_any (λ (c : Block). p c.slot) (cond b (block row ∷ []) [] ++ blocks_of rows) ≡ list_any p (cond b ((block row).slot ∷ []) [] ++ flat_map (λ (r : R). slot_on queue (Some (place r, (block r).slot))) rows)
      at true ih = ap (λ c. p (block row).slot || c) ih
      at false ih = ih
