-- Wishes, asks and first images: what is put out is what the rows say.
use Rattle.std.specs.Prelude.{nat_lt, nat_le, ◌-◌}
use Rattle.std.specs.List.{flat_map}
use Rattle.std.proofs.Common.{◌≡◌, ℕ, Bool, true, false, not, ◌&&◌, cond, List, [], ◌∷◌, Option, None, Some, refl, ◌∙◌, ap}
use Rattle.mama_event.specs.declared.ids.ObjectId.{ObjectId}
use Rattle.mama_event.specs.declared.ids.SubId.{SubId}
use Rattle.mama_event.specs.declared.shape.Shape.{Shape}
use Rattle.mama_event.specs.declared.market.MsgKind.TheVariants.{Recap}
use Rattle.mama_event.specs.declared.to_publisher.ToPublisher.{ToPublisher}
use Rattle.mama_event.specs.declared.to_publisher.ToPublisher.TheVariants as asked
use Rattle.mama_event.specs.declared.to_publisher.PublisherNote.TheVariants as p
use Rattle.mama_event.specs.Ports.{publishers_of}
use Rattle.mama_event.specs.ToPublisher.{note_of as publisher_note_of}
use Rattle.mama_rules_services.specs.Bridge.{BridgePut, to_publisher, to_found}
use Rattle.mama_laws_bridge.specs.Table.{SubRow, of_sub, may_ask, sub_wished, sub_wishes, changed}
use Rattle.mama_bridge.specs.declared.out.BridgeOut.{BridgeOut}
use Rattle.mama_bridge.specs.declared.out.BridgeOut.TheVariants as out
use Rattle.mama_bridge.specs.Links.{wish_outs, first_outs}
use Rattle.mama_bridge.proofs.Adding.{Says, says_rows}

regroup : (a b c d : Bool) → (a && (b && (c && d))) ≡ ((a && (b && c)) && d)
regroup true true c d = refl
regroup true false c d = refl
regroup false b c d = refl

and_false : (a : Bool) → (a && false) ≡ false
and_false true = refl
and_false false = refl

never_changed : {R : Type 0} (test : R → Bool) (f : R → R) → ((row : R) → test row ≡ false) → (rows : List R) → changed test f rows ≡ rows
never_changed test f never [] = refl
never_changed test f never (row ∷ rows) = rw (never row, never_changed test f never rows) refl

never_put : {R P : Type 0} (g : R → List P) → ((row : R) → g row ≡ []) → (rows : List R) → flat_map g rows ≡ []
never_put g never [] = refl
never_put g never (row ∷ rows) = rw (never row) (never_put g never rows)

same_changes : {R : Type 0} (test test' : R → Bool) (f f' : R → R) → ((row : R) → cond (test row) (f row) row ≡ cond (test' row) (f' row) row) → (rows : List R) → changed test f rows ≡ changed test' f' rows
same_changes test test' f f' same [] = refl
same_changes test test' f f' same (row ∷ rows) = rw (same row, same_changes test test' f f' same rows) refl

abbrev pub forwards : Bool → ℕ → Shape → Bool
forwards settling sender shape = not settling && (nat_lt 0 sender && nat_le sender (publishers_of shape))

ask_is : (shape : Shape) (settling : Bool) (sender : ℕ) (row : SubRow) → may_ask shape settling sender row ≡ (forwards settling sender shape && nat_lt row.wished row.terms.recaps)
ask_is shape settling sender row = regroup (not settling) (nat_lt 0 sender) (nat_le sender (publishers_of shape)) (nat_lt row.wished row.terms.recaps)

off : (shape : Shape) (settling : Bool) (sender : ℕ) → forwards settling sender shape ≡ false → (row : SubRow) → may_ask shape settling sender row ≡ false
off shape settling sender h row = ask_is shape settling sender row ∙ ap (λ b. b && nat_lt row.wished row.terms.recaps) h

on : (shape : Shape) (settling : Bool) (sender : ℕ) → forwards settling sender shape ≡ true → (row : SubRow) → may_ask shape settling sender row ≡ nat_lt row.wished row.terms.recaps
on shape settling sender h row = ask_is shape settling sender row ∙ ap (λ b. b && nat_lt row.wished row.terms.recaps) h

pub off_changes : (shape : Shape) (settling : Bool) (sender : ℕ) (s : SubId) → forwards settling sender shape ≡ false → (rows : List SubRow) → changed (λ row. of_sub s row && may_ask shape settling sender row) sub_wished rows ≡ rows
off_changes shape settling sender s h rows = never_changed (λ row. of_sub s row && may_ask shape settling sender row) sub_wished (λ row. ap (λ b. of_sub s row && b) (off shape settling sender h row) ∙ and_false (of_sub s row)) rows

pub off_puts : (shape : Shape) (settling : Bool) (sender : ℕ) → forwards settling sender shape ≡ false → (rows : List SubRow) → flat_map (sub_wishes shape settling sender) rows ≡ []
off_puts shape settling sender h rows = never_put (sub_wishes shape settling sender) (λ row. ap (λ b. cond b (to_publisher (sender - 1) (p.Want row.sub Recap) ∷ []) []) (off shape settling sender h row)) rows

pub on_changes : (shape : Shape) (settling : Bool) (sender : ℕ) (s : SubId) → forwards settling sender shape ≡ true → (rows : List SubRow)
    → changed (λ row. of_sub s row && may_ask shape settling sender row) sub_wished rows ≡ changed (of_sub s) (λ row. cond (nat_lt row.wished row.terms.recaps) (sub_wished row) row) rows
on_changes shape settling sender s h rows =
    same_changes (λ row. of_sub s row && may_ask shape settling sender row) (of_sub s) sub_wished (λ row. cond (nat_lt row.wished row.terms.recaps) (sub_wished row) row)
    (λ row. ap (λ b. cond (of_sub s row && b) (sub_wished row) row) (on shape settling sender h row) ∙ split (of_sub s row) (nat_lt row.wished row.terms.recaps) (sub_wished row) row) rows
  where
    split : (a b : Bool) (x y : SubRow) → cond (a && b) x y ≡ cond a (cond b x y) y
    split true b x y = refl
    split false b x y = refl

pub on_says : {L : Type 0} (tagged : L → ObjectId) (shape : Shape) (settling : Bool) (sender : ℕ) → forwards settling sender shape ≡ true → (rows : List SubRow) → Says tagged (flat_map (wish_outs sender) rows) (flat_map (sub_wishes shape settling sender) rows)
on_says {L} tagged shape settling sender h rows =
    says_rows tagged (wish_outs sender) (sub_wishes shape settling sender)
    (λ row. rw (on shape settling sender h row) (one (nat_lt row.wished row.terms.recaps) row)) rows
  where
    one : (b : Bool) (row : SubRow) → Says {L = L} tagged (cond b (out.Publisher (sender - 1) (asked.Want row.sub Recap) ∷ []) []) (cond b (to_publisher (sender - 1) (p.Want row.sub Recap) ∷ []) [])
    one true row = record { puts = refl; quiet = refl }
    one false row = record { puts = refl; quiet = refl }

pub says_first : {L : Type 0} (tagged : L → ObjectId) (found : Option ℕ) (event : ToPublisher) → Says tagged (first_outs found event) (to_found found (publisher_note_of event))
says_first tagged None event = record { puts = refl; quiet = refl }
says_first tagged (Some number) event = record { puts = refl; quiet = refl }

pub says_if : {L : Type 0} (tagged : L → ObjectId) (b : Bool) (outs : List (BridgeOut L)) (more : List BridgePut) → Says tagged outs more → Says tagged (cond b outs []) (cond b more [])
says_if tagged true outs more h = h
says_if tagged false outs more h = record { puts = refl; quiet = refl }
