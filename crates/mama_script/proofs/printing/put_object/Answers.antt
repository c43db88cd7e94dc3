use Rattle.std.proofs.Common.{◌++◌, List, ℕ, sym, ap, ◌∙◌, append_assoc}
use Rattle.std.specs.List.{flat_map}
use Rattle.mama_script.specs.Text.{fault_text, plan_text}
use Rattle.mama_script.proofs.Texts.{object_text_is}
use Rattle.mama_script.proofs.printing.put_object.Goals as goal

pub returns : goal.returns
returns c =
    rw (c.in_ok-put_plan.ensures, c.in_ok-put_faults.ensures, c.rows.ensures) (append_assoc c.args.out.now.items (flat_map fault_text c.args.faults.now) (flat_map plan_text c.args.plan.now) ∙ ap (λ (t : List ℕ). c.args.out.now.items ++ t) (sym (object_text_is c.args.faults.now c.args.plan.now)))
