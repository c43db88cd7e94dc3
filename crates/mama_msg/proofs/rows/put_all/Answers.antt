-- Room for the new keys is room for the rows and all others.
use Rattle.std.proofs.Common.{◌≡◌, ◌+◌, ◌≤◌, false, List, length, Result, Ok, Err, OnOk, vec_len, refl, ap, sym, ◌∙◌, arith}
use Rattle.std.specs.Result.{is_err}
use Rattle.std.specs.Vec.{vec_capacity}
use Rattle.mama_msg.specs.Field.{FieldData}
use Rattle.mama_msg.specs.Message.{apply}
use Rattle.mama_msg.proofs.Applying.{len_applied}
use Rattle.mama_msg.proofs.rows.put_all.Goals as goal

ok_of : {A E : Type 0} (r : Result A E) (P : Type 0) → is_err r ≡ false → OnOk r P → P
ok_of (Ok x) P fine p = p
ok_of (Err e) P fine p = cc

pub put_reserved-requires-clause-room : goal.put_reserved-requires-clause-room
put_reserved-requires-clause-room c =
    let m : List FieldData = c.args.rows.now.items in
    let u : List FieldData = c.args.others.items in
    let room : vec_len c.reserve.new.self + c.new_keys.result ≤ vec_capacity c.reserve.new.self =
    ok_of c.reserve.result (vec_len c.reserve.new.self + c.new_keys.result ≤ vec_capacity c.reserve.new.self) (sym c.is_err.ensures.value ∙ c.if-is_err.false) c.reserve.ensures.ok in
    let size : length m + c.new_keys.result ≡ length (apply m u) =
    len_applied m u c.deref.result.now c.deref-2.result.now (length m) c.new_keys.result refl c.new_keys.ensures.value c.deref.ensures.value c.deref-2.ensures.value in
    let same : length (apply c.reserve.new.self.items u) ≡ length (apply m u) = ap (λ (xs : List FieldData). length (apply xs u)) c.reserve.ensures.items in
    omega (arith, c.reserve.ensures.len, c.args.rows.now.ok.0)
