use Rattle.std.proofs.Common.{◌≡◌, ℕ, ◌+◌, List, [], ◌∷◌, ◌++◌, length, take, sym, ap, ◌∙◌}
use Rattle.std.specs.List.{flat_map}
use Rattle.mama_msg.specs.Field.{FieldData}
use Rattle.mama_payload.specs.Spelling.{field_bytes, version_of, first_byte}
use Rattle.mama_payload.specs.Spelled.{IsField}
use Rattle.mama_payload.proofs.Loops.{take-next, flat_map-push, each_push}
use Rattle.mama_payload.proofs.encoding.spelled.Goals as goal

pub loop-i-preserved : goal.loop-i-preserved
loop-i-preserved c =
    let msg : List FieldData = c.args.msg.now in
    let i : ℕ = c.loop-i.i in
    let f : FieldData = c.at.result.now in
    let next : take (i + 1) msg ≡ take i msg ++ f ∷ [] = take-next msg i f c.at.ensures in
    let text : flat_map field_bytes (take i msg) ++ field_bytes f ≡ flat_map field_bytes (take (i + 1) msg) =
    sym (flat_map-push field_bytes (take i msg) f) ∙ ap (flat_map field_bytes) (sym next) in
    record {
      text = c.in_ok-put_field.ensures.bytes ∙ ap (λ (t : List ℕ). t ++ field_bytes f) c.loop-i.invariant.text ∙ ap (λ (t : List ℕ). first_byte (version_of msg) ∷ length msg ∷ t) text;
      each = rw next (each_push IsField (take i msg) f c.loop-i.invariant.each c.in_ok-put_field.ensures.is_field);
    }
