use Rattle.std.proofs.Common.{length, get_or, take, drop, ◌-◌, sym, ◌∙◌}
use Rattle.std.proofs.lemmas.Bool.{eqb-true, eqb-false}
use Rattle.mama_words.specs.Value as values
use Rattle.mama_words.proofs.Hex.{onto-nil, hex_more, hex_fails, two_heads, shorter, hex_odd, hex_all}
use Rattle.mama_words.proofs.value.read_hex.Goals as goal

pub loop-rest-init : goal.loop-rest-init
loop-rest-init c = rw c.new-bytes.ensures.items (onto-nil (values.hex_in c.args.text.now))

pub returns-in-None : goal.returns-in-None
returns-in-None c =
    let rest = c.loop-rest.rest.now in
    hex_fails c.loop-rest.bytes.items rest (take (length rest - 2) (drop 2 rest)) (get_or rest 0 0) (get_or rest 1 0) (values.hex_in c.args.text.now) (two_heads rest c.in-len2-up.len_at_least) c.in-None.ensures c.loop-rest.invariant

pub loop-rest-smaller : goal.loop-rest-smaller
loop-rest-smaller c = shorter c.loop-rest.rest.now c.in-len2-up.len_at_least

pub loop-rest-preserved : goal.loop-rest-preserved
loop-rest-preserved c =
    let rest = c.loop-rest.rest.now in
    rw c.in_ok-push-in-Some.ensures.items (hex_more c.loop-rest.bytes.items rest (take (length rest - 2) (drop 2 rest)) (get_or rest 0 0) (get_or rest 1 0) c.in-Some.byte (values.hex_in c.args.text.now) (two_heads rest c.in-len2-up.len_at_least) c.in-Some.ensures c.loop-rest.invariant)

pub returns-then-not-is_empty : goal.returns-then-not-is_empty
returns-then-not-is_empty c = hex_odd c.loop-rest.bytes.items c.loop-rest.rest.now (values.hex_in c.args.text.now) c.in_default.len_below (eqb-false (length c.loop-rest.rest.now) 0 (sym c.is_empty.ensures ∙ c.if-not-is_empty.true)) c.loop-rest.invariant

pub returns : goal.returns
returns c = hex_all c.loop-rest.bytes.items c.loop-rest.rest.now (values.hex_in c.args.text.now) (eqb-true (length c.loop-rest.rest.now) 0 (sym c.is_empty.ensures ∙ c.if-not-is_empty.false)) c.loop-rest.invariant
