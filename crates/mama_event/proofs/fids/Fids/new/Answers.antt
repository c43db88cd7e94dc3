use Rattle.std.proofs.Common.{◌≡◌, length, length-set, arith, ◌∙◌, sym, ap, true, List, ℕ}
use Rattle.mama_event.specs.FidList.{is_fid_list}
use Rattle.mama_event.specs.Fids.{before_zero, filled}
use Rattle.mama_event.proofs.FidLemmas.{fid_kept, blank_left, ascending_rest, all_kept, can_be_asked, filled_again}
use Rattle.mama_event.proofs.fids.Fids.new.Goals as goal

pub loop-i-preserved : goal.loop-i-preserved
loop-i-preserved c = record {
  size = simp length-set c.loop-i.invariant.size;
  front = fid_kept _ _ _ (omega arith) (omega arith) c.loop-i.invariant.front;
  back = blank_left c.loop-i.kept c.loop-i.i _ c.loop-i.invariant.size (omega arith) c.loop-i.invariant.back;
  rest = ascending_rest c.args.fids.now c.loop-i.i c.loop-i.before (omega arith) (omega arith) ∙ c.loop-i.invariant.rest;
}

pub returns-clause-found : goal.returns-clause-found
returns-clause-found c =
    let fids : List ℕ = c.args.fids.now in
    let all : c.loop-i.i ≡ length fids = omega arith in
    let kept : c.loop-i.kept ≡ filled fids = all_kept c.loop-i.kept fids c.loop-i.invariant.size (rw (← all) c.loop-i.invariant.front) (rw (← all) c.loop-i.invariant.back) in
    let form : is_fid_list fids ≡ true = can_be_asked fids c.loop-i.before (omega arith) (omega arith) (rw (← all) c.loop-i.invariant.rest) in
    ap before_zero kept ∙ filled_again fids form

pub invariant_of-result : goal.invariant_of-result
invariant_of-result c =
    let fids : List ℕ = c.args.fids.now in
    let all : c.loop-i.i ≡ length fids = omega arith in
    let kept : c.loop-i.kept ≡ filled fids = all_kept c.loop-i.kept fids c.loop-i.invariant.size (rw (← all) c.loop-i.invariant.front) (rw (← all) c.loop-i.invariant.back) in
    let form : is_fid_list fids ≡ true = can_be_asked fids c.loop-i.before (omega arith) (omega arith) (rw (← all) c.loop-i.invariant.rest) in
    let list : before_zero c.loop-i.kept ≡ fids = ap before_zero kept ∙ filled_again fids form in
    record { form = ap is_fid_list list ∙ form; size = c.loop-i.invariant.size; rest = ap filled list ∙ sym kept }
