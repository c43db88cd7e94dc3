-- The index has a key exactly where an earlier field has it.
use Rattle.std.proofs.Common.{◌≡◌, ◌<◌, Bool, true, false, not, if◌then◌else◌, length, take, ap, sym, ◌∙◌, true≢false, arith}
use Rattle.std.specs.HashSet.{contains}
use Rattle.mama_msg.specs.declared.field.Key.{Key}
use Rattle.mama_msg.specs.Field.{key_of, same_key}
use Rattle.mama_msg.specs.Message.{has_key}
use Rattle.mama_msg.proofs.DistinctKeys.{repeated_at, distinct_more, has_key_more}
use Rattle.mama_msg.proofs.distinct.are_distinct_by_index.Goals as goal

from_not : (a b : Bool) → a ≡ not b → (c : Bool) → a ≡ c → b ≡ not c
from_not a true e c p = ap not (sym e ∙ p)
from_not a false e c p = ap not (sym e ∙ p)

pub returns-then-not-branch : goal.returns-then-not-branch
returns-then-not-branch c =
    let fields = c.args.fields.now in
    let i = c.loop-field.field-index in
    let f = c.field-item.result in
    let within : i < length fields = omega arith in
    let kept : contains same_key c.loop-field.seen c.key.result ≡ true = from_not c.in_ok-insert.field-0 (contains same_key c.loop-field.seen c.key.result) c.in_ok-insert.ensures.added false c.if-not-branch.true in
    let there : has_key (key_of f) (take i fields) ≡ true =
    ap (λ (k : Key). has_key k (take i fields)) (sym c.key.ensures) ∙ sym (c.loop-field.invariant.seen c.key.result) ∙ kept in
    (λ h. absurd (true≢false (sym h)), λ d. absurd (repeated_at fields i f within c.field-item.is there d))

pub loop-field-preserved : goal.loop-field-preserved
loop-field-preserved c =
    let fields = c.args.fields.now in
    let i = c.loop-field.field-index in
    let f = c.field-item.result in
    let within : i < length fields = omega arith in
    let lacked : contains same_key c.loop-field.seen c.key.result ≡ false = from_not c.in_ok-insert.field-0 (contains same_key c.loop-field.seen c.key.result) c.in_ok-insert.ensures.added true c.if-not-branch.false in
    let new : has_key (key_of f) (take i fields) ≡ false =
    ap (λ (k : Key). has_key k (take i fields)) (sym c.key.ensures) ∙ sym (c.loop-field.invariant.seen c.key.result) ∙ lacked in
    record {
      distinct = distinct_more fields i f within c.field-item.is new c.loop-field.invariant.distinct;
      seen = λ q. has_key_more q fields i f (contains same_key c.loop-field.seen q) (contains same_key c.insert.new.self q) within c.field-item.is (c.loop-field.invariant.seen q)
          (c.in_ok-insert.ensures.updates.0 q ∙ ap (λ (k : Key). if same_key k q then true else contains same_key c.loop-field.seen q) c.key.ensures);
    }
