-- What holds of all items of all lists still does where one more was added.
use Rattle.std.specs.Global.{Vec}
use Rattle.std.specs.List.{All}
use Rattle.std.proofs.Common.{ℕ, List, sym, subst}
use Rattle.std.proofs.lemmas.List.Elements.{All-get_or, All-push, All-same, All-set}
use Rattle.mama_play.specs.Adding.{IsAdded}

pub all_added : {T : Type 0} (P : T → Type 0) (number : ℕ) (item : T) (old new : List (Vec T)) → IsAdded number item old new → All (λ (list : Vec T). All P list.items) old → P item → All (λ (list : Vec T). All P list.items) new
all_added {T} P number item old new added all holds =
    let Each : Vec T → Type 0 = λ list. All P list.items in
    let held : All P added.before.items = subst Each (sym added.there) (All-get_or Each old number added.before added.within all) in
    subst (All Each) (sym added.after) (All-set Each old number added.list (All-same P added.list.items _ added.grown (All-push P added.before.items item held holds)) all)
