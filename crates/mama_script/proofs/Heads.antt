-- First words: what is read begins so, and numbers between two bounds.
use Rattle.std.proofs.Common.{◌≡◌, ℕ, ◌<◌, ◌≤◌, ◌^◌, Bool, true, false, cond, ltb, List, [], ◌∷◌, Option, Some, None, refl, sym, ap, subst, ◌∙◌, arith}
use Rattle.std.specs.Prelude.{◌&&◌}
use Rattle.std.specs.Str.{bytes_eq}
use Rattle.std.proofs.lemmas.Bool.{ltb-false, le-ltb, and_parts}
use Rattle.mama_edge.specs.Decimal.{decimal}
use Rattle.mama_words.specs.Number.{number_in, between_in, if_between}
use Rattle.mama_words.proofs.Choices.{some_is, chosen_some, chosen_other, same_text}
use Rattle.mama_words.specs.Named.{named_in}
use Rattle.mama_words.proofs.Named.{named_found}
use Rattle.mama_words.proofs.Cutting.{lacks}
use Rattle.mama_words.proofs.Numbers.{number_in_again, number_in_found}
use Rattle.mama_script.specs.declared.head.Head.{Head}
use Rattle.mama_script.specs.declared.head.Head.TheVariants as heads
use Rattle.mama_script.specs.declared.head.Place.{Place}
use Rattle.mama_words.specs.declared.version.Version.{Version}
use Rattle.mama_script.specs.Head.{head_in, allows, knows}
use Rattle.mama_script.specs.HeadText.{head_text}
use Rattle.mama_script.specs.Form.{if_allowed, head_at}

pub head_again : (h : Head) → head_in (head_text h) ≡ Some h
unfolding head_in
head_again heads.Strategy = refl
head_again heads.Queues = refl
head_again heads.Topic = refl
head_again heads.Publisher = refl
head_again heads.Update = refl
head_again heads.Recap = refl
head_again heads.Pause = refl
head_again heads.Client = refl
head_again heads.Sub = refl
head_again heads.Timer = refl
head_again heads.Inbox = refl
head_again heads.Fault = refl
head_again heads.At = refl
head_again heads.Stop = refl
head_again heads.Disarm = refl
head_again heads.Close = refl
head_again heads.Ask = refl
head_again heads.Now = refl
head_again heads.Group = refl
head_again heads.Watch = refl

abbrev pub all_heads : List Head
all_heads =
    heads.Strategy ∷ heads.Queues ∷ heads.Topic ∷ heads.Publisher ∷ heads.Update ∷ heads.Recap ∷ heads.Pause ∷ heads.Client ∷ heads.Sub ∷ heads.Timer ∷ heads.Inbox ∷ heads.Fault ∷ heads.At ∷ heads.Stop ∷ heads.Disarm ∷ heads.Close ∷ heads.Ask ∷ heads.Now ∷ heads.Group ∷ heads.Watch ∷ []

-- reading is looking for the first head that has the word
pub head_named : (word : List ℕ) → named_in head_text word all_heads ≡ head_in word
unfolding head_in
head_named word = refl

pub head_found : (word : List ℕ) (h : Head) → head_in word ≡ Some h → word ≡ head_text h
head_found word h e = named_found head_text word all_heads h (head_named word ∙ e)

-- a head that may stand at a place, and that the version knows, begins the words
pub record Begins (v : Version) (place : Place) (words : List (List ℕ)) (h : Head) : Type 0 where
  pub rest : List (List ℕ)
  pub words_are : words ≡ head_text h ∷ rest
  pub stands : allows place h ≡ true
  pub known : knows v h ≡ true

allowed_found : (v : Version) (place : Place) (word : List ℕ) (rest : List (List ℕ)) (o : Option Head) (h : Head) → head_in word ≡ o → if_allowed v place o ≡ Some h → Begins v place (word ∷ rest) h
allowed_found v place word rest None h read e = absurd cc
allowed_found v place word rest (Some k) h read e =
    let p = chosen_some (allows place k && knows v k) k h e in
    let q = and_parts (allows place k) (knows v k) p.0 in
    let same : head_in word ≡ Some h = read ∙ ap (λ (x : Head). Some x) p.1 in
    record {
      rest = rest;
      words_are = ap (λ (w : List ℕ). w ∷ rest) (head_found word h same);
      stands = subst (λ (x : Head). allows place x ≡ true) p.1 q.0;
      known = subst (λ (x : Head). knows v x ≡ true) p.1 q.1;
    }

pub head_at_found : (v : Version) (place : Place) (words : List (List ℕ)) (h : Head) → head_at v place words ≡ Some h → Begins v place words h
head_at_found v place [] h e = absurd cc
head_at_found v place (word ∷ rest) h e = allowed_found v place word rest (head_in word) h refl e

pub head_at_again : (v : Version) (place : Place) (h : Head) (rest : List (List ℕ)) → allows place h ≡ true → knows v h ≡ true → head_at v place (head_text h ∷ rest) ≡ Some h
head_at_again v place h rest stands known = ap (if_allowed v place) (head_again h) ∙ rw (stands, known) refl

between_some : (low high : ℕ) (o : Option ℕ) (n : ℕ) → if_between low high o ≡ Some n → (low ≤ n) × (n ≤ high) × (o ≡ Some n)
between_some low high None n e = absurd cc
between_some low high (Some k) n e =
    let p = chosen_other (ltb k low) (cond (ltb high k) None (Some k)) n e in
    let q = chosen_other (ltb high k) (Some k) n p.1 in
    let same : k ≡ n = some_is k n q.1 in
    let a = ltb-false k low p.0 in
    let b = ltb-false high k q.0 in
    (omega arith, omega arith, q.1)

-- what a number between two bounds is
pub record IsBetween (least most : ℕ) (text : List ℕ) (n : ℕ) : Type 0 where
  pub low : least ≤ n
  pub high : n ≤ most
  pub small : n < 2 ^ 64
  pub text_is : text ≡ decimal n

pub between_found : (low high : ℕ) (text : List ℕ) (n : ℕ) → between_in low high text ≡ Some n → IsBetween low high text n
between_found low high text n e =
    let p = between_some low high (number_in text) n e in
    let q = number_in_found text n p.2 in
    record { low = p.0; high = p.1; small = q.0; text_is = q.1 }

pub between_again : (low high n : ℕ) → low ≤ n → n ≤ high → n < 2 ^ 64 → between_in low high (decimal n) ≡ Some n
between_again low high n a b small = rw (number_in_again n small, le-ltb n low a, le-ltb high n b) refl

never_true : (b : Bool) → (b ≡ true → ⊥) → b ≡ false
never_true true h = absurd (h refl)
never_true false h = refl

-- a number is spelled as no word that has a byte which no number has
pub decimal_is_no_word : (c n : ℕ) (word : List ℕ) → lacks c (decimal n) ≡ false → lacks c word ≡ true → bytes_eq (decimal n) word ≡ false
decimal_is_no_word c n word lacking there = never_true (bytes_eq (decimal n) word) (λ same.
    let e : false ≡ true = sym lacking ∙ ap (lacks c) (same_text (decimal n) word same) ∙ there in cc)
