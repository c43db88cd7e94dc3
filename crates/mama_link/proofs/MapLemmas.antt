-- What comes out of a link into which changed messages go is, changed so, what comes out where they go in as they are, if the change goes with the cuts.
use Rattle.std.proofs.Common.{◌≡◌, ℕ, ◌+◌, ◌==◌, Bool, true, false, List, [], ◌∷◌, length, map, filter, Option, None, Some, refl, sym, ◌∙◌, ap, if◌then◌else◌}
use Rattle.std.specs.List.{AllByRecursion, flat_map, enumerate_from}
use Rattle.std.proofs.lemmas.List.{map-append, length-map}
use Rattle.mama_link.specs.declared.faults.Fault.{Fault}
use Rattle.mama_link.specs.declared.faults.Fault.TheVariants.{Lose, Dup, Hold, Cut}
use Rattle.mama_link.specs.declared.faults.FaultRow.{FaultRow}
use Rattle.mama_link.specs.Faults.{fault_at}
use Rattle.mama_link.specs.Link.{is_due, is_held, copies, own, numbered, messages, emit, rest}

module _ {T U : Type 0} (f : T → U) (cut : ℕ → T → T) (cut' : ℕ → U → U) where
  -- the change goes with the cuts of a message
  abbrev pub GoesWithCuts : T → Type 0
  GoesWithCuts message = (keep : ℕ) → f (cut keep message) ≡ cut' keep (f message)

  -- a numbered message, changed
  abbrev with_change : ℕ × T → ℕ × U
  with_change entry = (entry.0, f entry.1)

  numbered-map : (n : ℕ) (x : List T) → enumerate_from n (map f x) ≡ map with_change (enumerate_from n x)
  numbered-map n [] = refl
  numbered-map n (m ∷ x) = ap (λ (es : List (ℕ × U)). (n, f m) ∷ es) (numbered-map (n + 1) x)

  filter-map : (p : ℕ × T → Bool) (q : ℕ × U → Bool) → ((e : ℕ × T) → q (with_change e) ≡ p e) → (es : List (ℕ × T)) → filter q (map with_change es) ≡ map with_change (filter p es)
  filter-map p q same [] = refl
  filter-map p q same (e ∷ es) = rw (same e, filter-map p q same es) (by_test (p e))
    where
      by_test : (b : Bool) → (if b then with_change e ∷ map with_change (filter p es) else map with_change (filter p es)) ≡ map with_change (if b then e ∷ filter p es else filter p es)
      by_test true = refl
      by_test false = refl

  messages-map : (es : List (ℕ × T)) → messages (map with_change es) ≡ map f (messages es)
  messages-map [] = refl
  messages-map (e ∷ es) = ap (λ (ms : List U). f e.1 ∷ ms) (messages-map es)

  copies-map : (fault : Option Fault) (message : T) → GoesWithCuts message → copies cut' fault (f message) ≡ map f (copies cut fault message)
  copies-map None message goes = refl
  copies-map (Some Lose) message goes = refl
  copies-map (Some Dup) message goes = refl
  copies-map (Some (Hold by)) message goes = refl
  copies-map (Some (Cut keep)) message goes = ap (λ (m : U). m ∷ []) (sym (goes keep))

  owns-map : (rows : List FaultRow) (p : ℕ × T → Bool) (n : ℕ) (x : List T) → AllByRecursion GoesWithCuts x →
      flat_map (own cut' rows) (map with_change (filter p (enumerate_from n x))) ≡ map f (flat_map (own cut rows) (filter p (enumerate_from n x)))
  owns-map rows p n [] goes = refl
  owns-map rows p n (m ∷ x) goes = by_test (p (n, m)) (owns-map rows p (n + 1) x goes.1)
    where
      by_test : (b : Bool) → flat_map (own cut' rows) (map with_change (filter p (enumerate_from (n + 1) x))) ≡ map f (flat_map (own cut rows) (filter p (enumerate_from (n + 1) x)))
          → flat_map (own cut' rows) (map with_change (if b then (n, m) ∷ filter p (enumerate_from (n + 1) x) else filter p (enumerate_from (n + 1) x)))
          ≡ map f (flat_map (own cut rows) (if b then (n, m) ∷ filter p (enumerate_from (n + 1) x) else filter p (enumerate_from (n + 1) x)))
      by_test true later =
          rw (copies-map (fault_at rows n) m goes.0, later)
          (sym (map-append f (copies cut (fault_at rows n) m) (flat_map (own cut rows) (filter p (enumerate_from (n + 1) x)))))
      by_test false later = later

  pub emit-map : (rows : List FaultRow) (x : List T) (place : ℕ) → AllByRecursion GoesWithCuts x → emit cut' rows (map f x) place ≡ map f (emit cut rows x place)
  emit-map rows x place goes =
      let at : ℕ × T → Bool = λ (entry : ℕ × T). entry.0 == place in
      let at' : ℕ × U → Bool = λ (entry : ℕ × U). entry.0 == place in
      let entries : List (ℕ × T) = numbered x in
      let own_part : flat_map (own cut' rows) (filter at' (numbered (map f x))) ≡ map f (flat_map (own cut rows) (filter at entries)) =
      ap (λ (es : List (ℕ × U)). flat_map (own cut' rows) (filter at' es)) (numbered-map 1 x)
      ∙ ap (flat_map (own cut' rows)) (filter-map at at' (λ e. refl) entries) ∙ owns-map rows at 1 x goes in
      let due_part : messages (filter (is_due rows place) (numbered (map f x))) ≡ map f (messages (filter (is_due rows place) entries)) =
      ap (λ (es : List (ℕ × U)). messages (filter (is_due rows place) es)) (numbered-map 1 x)
      ∙ ap messages (filter-map (is_due rows place) (is_due rows place) (λ e. refl) entries) ∙ messages-map (filter (is_due rows place) entries) in
      rw (own_part, due_part) (sym (map-append f (flat_map (own cut rows) (filter at entries)) (messages (filter (is_due rows place) entries))))

  pub rest-map : (rows : List FaultRow) (x : List T) → rest rows (map f x) ≡ map f (rest rows x)
  rest-map rows x =
      ap (λ (n : ℕ). messages (filter (is_held rows n) (numbered (map f x)))) (length-map x f)
      ∙ ap (λ (es : List (ℕ × U)). messages (filter (is_held rows (length x)) es)) (numbered-map 1 x)
      ∙ ap messages (filter-map (is_held rows (length x)) (is_held rows (length x)) (λ e. refl) (numbered x)) ∙ messages-map (filter (is_held rows (length x)) (numbered x))
