-- A context that took messages of the publishers, and has an image that is ok: its sender is one of them, its number is
-- at most that publisher's updates, and its image is that publisher's record there. The image law says it for every
-- base of a sender that is no publisher, and with every further update after the last; so there is no such sender, and
-- no number past the last.
use Rattle.std.specs.Prelude.{slice_get, slice_index_or, Option, Some, None}
use Rattle.std.specs.List.{AllByRecursion}
use Rattle.std.proofs.Common.{◌≡◌, ℕ, zero, suc, ◌+◌, ◌-◌, ◌<◌, ◌≤◌, Bool, true, false, List, [], ◌∷◌, ◌++◌, length, refl, sym, ◌∙◌, ap, subst, arith, add-one, append-nil, length-append, ⊎_elim}
use Rattle.std.proofs.lemmas.Bool.{cases_lt}
use Rattle.std.proofs.lemmas.List.{get_or_append_left, get_or_at, get_or_past}
use Rattle.mama_msg.specs.Field.{FieldData}
use Rattle.mama_msg.specs.declared.field.Key.TheVariants.{Numbered}
use Rattle.mama_msg.specs.declared.value.Value.TheVariants as value
use Rattle.mama_msg.specs.Message.{apply, with_key}
use Rattle.mama_msg.proofs.Applying.{apply-nil, with_key-apply}
use Rattle.mama_event.specs.declared.market.MarketMsg.{MarketMsg}
use Rattle.mama_event.specs.declared.market.MsgKind.{MsgKind}
use Rattle.mama_event.specs.declared.market.MsgKind.TheVariants.{Initial, Update, Recap}
use Rattle.mama_event.specs.declared.market.SubKind.{SubKind}
use Rattle.mama_event.specs.Record.{record_after}
use Rattle.mama_event.specs.Genuine.{IsGenuineBody, IsGenuine}
use Rattle.mama_event.specs.Publisher.{PublisherScript, updates_of}
use Rattle.mama_event.specs.declared.market.Quality.TheVariants as quality
use Rattle.mama_event.specs.declared.shape.Strategy.{Strategy}
use Rattle.mama_dq.specs.Context.{quality_in}
use Rattle.mama_dq.specs.Strategy.{fold}
use Rattle.mama_dq.proofs.ImageLaw.{image_law}
use Rattle.mama_laws_genuine.specs.Sent.{IsSent}
use Rattle.mama_laws_genuine.proofs.Elements.{all_weaker}

-- ---- records after further updates

record_longer : (base : List FieldData) (updates more : List (List FieldData)) (n : ℕ) → n ≤ length updates
    → record_after base (updates ++ more) n ≡ record_after base updates n
record_longer base updates more zero within = refl
record_longer base updates more (suc n) within =
    let before : n ≤ length updates = omega arith in
    ap (λ (r : List FieldData). apply r (slice_index_or (updates ++ more) n [])) (record_longer base updates more n before)
    ∙ ap (λ (u : List FieldData). apply (record_after base updates n) u) (get_or_append_left updates more [] n within)

genuine_longer : (base : List FieldData) (updates more : List (List FieldData)) (kind : MsgKind) (n : ℕ) (body : List FieldData)
    → IsGenuineBody base updates kind n body → IsGenuineBody base (updates ++ more) kind n body
genuine_longer base updates more Update n body (k, numbered, within, is) =
    (k, numbered, omega (arith, length-append updates more), is ∙ sym (get_or_append_left updates more [] k within))
genuine_longer base updates more Initial n body (within, is) = (omega (arith, length-append updates more), is ∙ sym (record_longer base updates more n within))
genuine_longer base updates more Recap n body (within, is) = (omega (arith, length-append updates more), is ∙ sym (record_longer base updates more n within))

-- a sender without updates has its base at every number
record_unchanged : (base : List FieldData) (n : ℕ) → record_after base [] n ≡ base
record_unchanged base zero = refl
record_unchanged base (suc n) = apply-nil (record_after base [] n) ∙ record_unchanged base n

-- a field that no record needs to have
abbrev field : Bool → FieldData
field on = record { fid = 1; name = []; value = value.Bool on }

fields_apart : field true ≡ field false → ⊥
fields_apart same = let values : value.Bool true ≡ value.Bool false = ap (λ (f : FieldData). f.value) same in cc

-- with one more update, the field of that update is in every later record
record_past : (base : List FieldData) (updates : List (List FieldData)) (on : Bool) (n k : ℕ) → n ≡ suc (length updates + k)
    → with_key (Numbered 1) (record_after base (updates ++ (field on ∷ []) ∷ []) n) ≡ Some (field on)
record_past base updates on zero k h = absurd (omega arith)
record_past base updates on (suc n) zero h =
    let here : length updates ≡ n = omega arith in
    ap (λ (u : List FieldData). with_key (Numbered 1) (apply (record_after base (updates ++ (field on ∷ []) ∷ []) n) u)) (get_or_at updates (field on ∷ []) [] [] n here)
    ∙ with_key-apply (Numbered 1) (record_after base (updates ++ (field on ∷ []) ∷ []) n) (field on ∷ []) (refl, tt)
record_past base updates on (suc n) (suc k) h =
    let beyond : length (updates ++ (field on ∷ []) ∷ []) ≤ n = omega (arith, length-append updates ((field on ∷ []) ∷ [])) in
    ap (λ (u : List FieldData). with_key (Numbered 1) (apply (record_after base (updates ++ (field on ∷ []) ∷ []) n) u)) (get_or_past (updates ++ (field on ∷ []) ∷ []) n [] beyond)
    ∙ ap (λ (r : List FieldData). with_key (Numbered 1) r) (apply-nil (record_after base (updates ++ (field on ∷ []) ∷ []) n))
    ∙ record_past base updates on n k (omega arith)

-- ---- senders

module _ (publishers : List PublisherScript) where
  -- the publisher that a sender's number names
  abbrev section_of : ℕ → Option PublisherScript
  section_of zero = None
  section_of (suc place) = slice_get publishers place

  -- the base of a sender, or another where it is no publisher; its updates, and further ones after them
  abbrev base_or : List FieldData → Option PublisherScript → List FieldData
  base_or other None = other
  base_or other (Some publisher) = publisher.base

  abbrev updates_and : List (List FieldData) → Option PublisherScript → List (List FieldData)
  updates_and more None = []
  updates_and more (Some publisher) = updates_of publisher.lines ++ more

  is_genuine : (other : List FieldData) (more : List (List FieldData)) (m : MarketMsg) → IsSent publishers m
      → IsGenuine (λ s. base_or other (section_of s)) (λ s. updates_and more (section_of s)) m
  is_genuine other more m sent =
      let named : section_of m.sender ≡ Some sent.publisher = ap section_of (sent.sender ∙ add-one sent.place) ∙ sent.stands in
      record {
        body = subst (λ (o : Option PublisherScript). IsGenuineBody (base_or other o) (updates_and more o) m.kind m.seq m.body) (sym named)
            (genuine_longer sent.publisher.base (updates_of sent.publisher.lines) more m.kind m.seq m.body sent.body);
      }

  -- what an image that is ok is
  pub record IsPinned (from last : ℕ) (image : List FieldData) : Type 0 where
    pub place : ℕ
    pub publisher : PublisherScript
    pub stands : slice_get publishers place ≡ Some publisher
    pub sender : from ≡ place + 1
    pub number : last ≤ length (updates_of publisher.lines)
    pub body : image ≡ record_after publisher.base (updates_of publisher.lines) last

  module _ (sender last : ℕ) (image : List FieldData)
      (law : (other : List FieldData) (more : List (List FieldData)) → image ≡ record_after (base_or other (section_of sender)) (updates_and more (section_of sender)) last) where
    law_at : (o : Option PublisherScript) → section_of sender ≡ o → (other : List FieldData) (more : List (List FieldData))
        → image ≡ record_after (base_or other o) (updates_and more o) last
    law_at o named other more = law other more ∙ ap (λ (s : Option PublisherScript). record_after (base_or other s) (updates_and more s) last) named

    nobody : section_of sender ≡ None → ⊥
    nobody named =
        let none : image ≡ [] = law_at None named [] [] ∙ record_unchanged [] last in
        let some : image ≡ field true ∷ [] = law_at None named (field true ∷ []) [] ∙ record_unchanged (field true ∷ []) last in
        cc

    past_last : (publisher : PublisherScript) → section_of sender ≡ Some publisher → length (updates_of publisher.lines) < last → ⊥
    past_last publisher named past =
        let updates : List (List FieldData) = updates_of publisher.lines in
        let k : ℕ = last - suc (length updates) in
        let is : last ≡ suc (length updates + k) = omega arith in
        let on : with_key (Numbered 1) image ≡ Some (field true) =
        ap (λ (r : List FieldData). with_key (Numbered 1) r) (law_at (Some publisher) named [] ((field true ∷ []) ∷ [])) ∙ record_past publisher.base updates true last k is in
        let off : with_key (Numbered 1) image ≡ Some (field false) =
        ap (λ (r : List FieldData). with_key (Numbered 1) r) (law_at (Some publisher) named [] ((field false ∷ []) ∷ [])) ∙ record_past publisher.base updates false last k is in
        let same : field true ≡ field false = cc in
        fields_apart same

    numbered : (publisher : PublisherScript) → section_of sender ≡ Some publisher → last ≤ length (updates_of publisher.lines)
    numbered publisher named = ⊎_elim (λ past. absurd (past_last publisher named past)) (λ within. within) (cases_lt (length (updates_of publisher.lines)) last)

    placed : (s : ℕ) (publisher : PublisherScript) → section_of s ≡ Some publisher → (place : ℕ) × (s ≡ place + 1) × (slice_get publishers place ≡ Some publisher)
    placed zero publisher named = absurd cc
    placed (suc place) publisher named = (place, sym (add-one place), named)

    pinned_to : (o : Option PublisherScript) → section_of sender ≡ o → IsPinned sender last image
    pinned_to None named = absurd (nobody named)
    pinned_to (Some publisher) named =
        let at = placed sender publisher named in
        record {
          place = at.0;
          publisher = publisher;
          stands = at.2;
          sender = at.1;
          number = numbered publisher named;
          body = law_at (Some publisher) named [] []
              ∙ ap (λ (us : List (List FieldData)). record_after publisher.base us last) (append-nil (updates_of publisher.lines));
        }

    pinned : IsPinned sender last image
    pinned = pinned_to (section_of sender) refl

  -- an image that is ok, in a context that took messages of the publishers
  pub image_pinned : (strategy : Strategy) (kind : SubKind) (size : ℕ) (messages : List MarketMsg) → AllByRecursion (IsSent publishers) messages
      → quality_in (fold strategy kind size messages).phase ≡ quality.Ok
      → IsPinned (fold strategy kind size messages).sender (fold strategy kind size messages).last (fold strategy kind size messages).image
  image_pinned strategy kind size messages all ok =
      pinned (fold strategy kind size messages).sender (fold strategy kind size messages).last (fold strategy kind size messages).image
      (λ other more. image_law (λ s. base_or other (section_of s)) (λ s. updates_and more (section_of s)) strategy kind size messages
      (all_weaker (IsSent publishers) (IsGenuine (λ s. base_or other (section_of s)) (λ s. updates_and more (section_of s))) (is_genuine other more) messages all) ok)
