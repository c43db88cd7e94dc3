-- A key that an earlier field has is not distinct, and one that none has is.
use Rattle.std.proofs.Common.{◌≡◌, ◌<◌, true, false, length, take, ap, sym, ◌∙◌, true≢false, arith}
use Rattle.mama_msg.specs.declared.field.Key.{Key}
use Rattle.mama_msg.specs.Field.{key_of}
use Rattle.mama_msg.specs.Message.{has_key}
use Rattle.mama_msg.proofs.DistinctKeys.{repeated_at, distinct_more}
use Rattle.mama_msg.proofs.distinct.are_distinct_by_scan.Goals as goal

pub returns-then-has : goal.returns-then-has
returns-then-has c =
    let fields = c.args.fields.now in
    let i = c.loop-i.i in
    let f = c.index-fields-i.result in
    let within : i < length fields = omega arith in
    let there : has_key (key_of f) (take i fields) ≡ true = ap (λ (k : Key). has_key k (take i fields)) (sym c.key.ensures) ∙ sym c.has.ensures ∙ c.if-has.true in
    (λ h. absurd (true≢false (sym h)), λ d. absurd (repeated_at fields i f within c.index-fields-i.is there d))

pub loop-i-preserved : goal.loop-i-preserved
loop-i-preserved c =
    let fields = c.args.fields.now in
    let i = c.loop-i.i in
    let f = c.index-fields-i.result in
    let within : i < length fields = omega arith in
    let new : has_key (key_of f) (take i fields) ≡ false = ap (λ (k : Key). has_key k (take i fields)) (sym c.key.ensures) ∙ sym c.has.ensures ∙ c.if-has.false in
    distinct_more fields i f within c.index-fields-i.is new c.loop-i.invariant
