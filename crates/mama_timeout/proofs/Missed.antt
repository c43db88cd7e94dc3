-- Whether a subscription is missed is told by its state and by its image.
use Rattle.std.proofs.Common.{◌≡◌, Bool, true, false, cond, Option, None, Some, refl, sym, ap, ◌∙◌}
use Rattle.std.specs.Prelude.{◌&&◌, not, is_none, is_some}
use Rattle.mama_dq.specs.Context.{ContextData}
use Rattle.mama_dq.specs.declared.table.Phase.{Phase}
use Rattle.mama_dq.specs.declared.table.Phase.TheVariants.{Await, LiveOk, LiveStale, LiveKept}
use Rattle.mama_dispatch.specs.declared.row.ImageRow.{ImageRow}
use Rattle.mama_dispatch.specs.declared.state.ObjectState.TheVariants.{Absent, Live, Muted}
use Rattle.mama_dispatch.specs.Images.{lent}
use Rattle.mama_dispatch.specs.Journals.{image_in}
use Rattle.mama_dispatch.specs.State.{object_state}
use Rattle.mama_rules_queue.specs.Watch.{is_waiting, lacks_image}

image_none : (c : ContextData) → is_none (image_in c) ≡ lacks_image c
image_none c = go c.phase refl
  where
    go : (p : Phase) → c.phase ≡ p → is_none (image_in c) ≡ lacks_image c
    go Await is = ap (λ (p : Phase). is_none (image_in (record c { phase = p }))) is ∙ sym (ap is_waiting is)
    go LiveOk is = ap (λ (p : Phase). is_none (image_in (record c { phase = p }))) is ∙ sym (ap is_waiting is)
    go LiveStale is = ap (λ (p : Phase). is_none (image_in (record c { phase = p }))) is ∙ sym (ap is_waiting is)
    go LiveKept is = ap (λ (p : Phase). is_none (image_in (record c { phase = p }))) is ∙ sym (ap is_waiting is)

lent_none : (row : Option ImageRow) → is_none row ≡ is_none (lent row)
lent_none None = refl
lent_none (Some r) = refl

pub none_by : {X : Type 0} (none : Bool) (o : Option X) → is_some o ≡ not none → none ≡ is_none o
none_by true None e = refl
none_by true (Some x) e = cc
none_by false None e = cc
none_by false (Some x) e = refl

module _ (c : ContextData) where
  pub live_missed : (live muted : Bool) (row : Option ImageRow) → Live ≡ object_state live muted → lent row ≡ cond live (image_in c) None → is_none row ≡ (live && not muted && lacks_image c)
  live_missed true true row state is = cc
  live_missed true false row state is = lent_none row ∙ ap is_none is ∙ image_none c
  live_missed false muted row state is = cc

  pub absent_missed : (live muted : Bool) → Absent ≡ object_state live muted → false ≡ (live && not muted && lacks_image c)
  absent_missed true true state = cc
  absent_missed true false state = cc
  absent_missed false muted state = refl

  pub muted_missed : (live muted : Bool) → Muted ≡ object_state live muted → false ≡ (live && not muted && lacks_image c)
  muted_missed true true state = refl
  muted_missed true false state = cc
  muted_missed false muted state = cc
