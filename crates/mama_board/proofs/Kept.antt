-- Each kind of step keeps the rule of a board.
use Rattle.std.proofs.Common.{◌≡◌, ◌≢◌, ℕ, Bool, List, [], ◌∷◌, ◌++◌, length, fold, set, refl, sym, ap, ◌∙◌, subst, ⊎_elim, true≢false, append-nil, length-append, arith}
use Rattle.std.proofs.lemmas.List.{nil_from_length}
use base.Growing.{prefix_refl, prefix_trans}
use mathlib.Core.List.{IsPrefix}
use mathlib.Core.Option.{some, some-ne-none}
use lib.ListN.{get_elem?}
use Rattle.atomic_table.proofs.Lists.{at_set, at_snoc}
use Rattle.left_right.specs.Register.{Admits, Turns, TurnsAt, Forks, Merges}
use Rattle.mama_board.specs.declared.change.Change.{Change}
use Rattle.mama_board.specs.declared.image_set.ImageSet.{ImageSet}
use Rattle.mama_board.specs.declared.view.View.{View}
use Rattle.mama_board.specs.Images.{ImagesValue, no_images, after_change, sets_in}
use Rattle.mama_board.specs.Rule.{AreImagesOf, Knows, IsKept, IsLook, MayPublish, newcomer, published}
use Rattle.mama_board.proofs.Rows.{images_after}

-- what each place knows
abbrev AllKnow : List ImageSet → ImagesValue → List View → Type 0
AllKnow sets images views = (i : ℕ) (v : View) → get_elem? views i ≡ some v → Knows sets images v

knows_nothing : (sets : List ImageSet) (images : ImagesValue) → Knows sets images newcomer
knows_nothing sets images = record { seen = (sets, refl); sealed = λ e. absurd (true≢false (sym e)) }

-- one place changes
know_set : (sets : List ImageSet) (images : ImagesValue) (views : List View) (seat : ℕ) (w : View) → Knows sets images w → AllKnow sets images views → AllKnow sets images (set views seat w)
know_set sets images views seat w own others i v at = ⊎_elim (λ (t : (i ≡ seat) × (w ≡ v)). subst (Knows sets images) t.1 own)
    (λ (t : (i ≢ seat) × (get_elem? views i ≡ some v)). others i v t.1) (at_set views seat i w v at)

-- a place is added
know_new : (sets : List ImageSet) (images : ImagesValue) (views : List View) (w : View) → Knows sets images w → AllKnow sets images views → AllKnow sets images (views ++ w ∷ [])
know_new sets images views w own others i v at = ⊎_elim (others i v) (λ (e : w ≡ v). subst (Knows sets images) e own) (at_snoc views w v i at)

-- a beginning that is as long as the whole is the whole
prefix_whole : (seen sets : List ImageSet) → IsPrefix seen sets → length seen ≡ length sets → seen ≡ sets
prefix_whole seen sets begins same =
    let long : length (seen ++ begins.0) ≡ length sets = ap length begins.1 in
    let none : begins.0 ≡ [] = nil_from_length begins.0 (omega (arith, length-append seen begins.0)) in
    sym (append-nil seen) ∙ (ap (λ (l : List ImageSet). seen ++ l) (sym none) ∙ begins.1)

-- a board that is opened
pub begins : IsKept no_images (newcomer ∷ [])
begins = record { sets = []; shown = record { version = refl; rows = λ sub. refl }; knows = know_new [] no_images [] newcomer (knows_nothing [] no_images) (λ i v at. absurd (some-ne-none v (sym at))) }

-- a new place may come at any time
pub admits : Admits IsKept newcomer
admits images views h = record { sets = h.sets; shown = h.shown; knows = know_new h.sets images views newcomer (knows_nothing h.sets images) h.knows }

-- enter
pub enters : (seat : ℕ) (v : View) → Turns IsKept seat v (λ images. images) (λ v x y w. IsLook v y w)
enters seat v images views h at =
    let k = h.knows seat v at in
    let w : View = record { seen = h.sets; sealed = v.sealed } in (
      w,
      record { sets = h.sets; shown = h.shown; knows = know_set h.sets images views seat w (record { seen = prefix_refl h.sets; sealed = λ e. ((k.sealed e).0, refl) }) h.knows },
      record { images_of = h.shown; onward = record { seen = k.seen; whole = λ e. sym (k.sealed e).1; sealed = refl } },
    )

-- publish and seal
pub publishes : (sets : List ImageSet) (sealed : Bool) (shown : ImagesValue) (changes : List Change) (seat : ℕ) (v : View) → MayPublish sets sealed shown changes v
    → (next : ImagesValue) → next ≡ fold after_change shown changes → TurnsAt IsKept seat v shown next (λ v x y w. w ≡ published sets sealed v)
publishes sets sealed shown changes seat v may next is views h at =
    let k = h.knows seat v at in
    let all : List ImageSet = h.sets ++ sets_in changes in
    let whole : v.seen ≡ h.sets = prefix_whole v.seen h.sets k.seen (may.whole ∙ h.shown.version) in
    let w : View = published sets sealed v in
    let now : w.seen ≡ all = λ i. whole i ++ may.sets_are i in
    let own : Knows all next w = record { seen = subst (λ (l : List ImageSet). IsPrefix l all) (sym now) (prefix_refl all); sealed = λ e. (ap (λ (i : ImagesValue). i.sealed) is ∙ (sym may.sealed_is ∙ e), now) } in
    let others : AllKnow all next views = λ i u there. let o = h.knows i u there in record {
      seen = prefix_trans u.seen h.sets all o.seen (sets_in changes, refl);
      sealed = λ e. absurd (true≢false (sym (o.sealed e).0 ∙ may.unsealed));
    } in (
      w,
      record { sets = all; shown = subst (AreImagesOf all) (sym is) (images_after changes h.sets shown h.shown); knows = know_set all next views seat w own others },
      refl,
    )

-- tell
pub tells : (seat : ℕ) (v : View) → Forks IsKept seat v v v
tells seat v images views h at =
    let own = h.knows seat v at in
    record { sets = h.sets; shown = h.shown; knows = know_new h.sets images (set views seat v) v own (know_set h.sets images views seat v own h.knows) }

-- learn
pub learns : (seat : ℕ) (v : View) (other : ℕ) (told : View) → Merges IsKept seat v other told told newcomer
learns seat v other told images views h at apart there =
    let known : Knows h.sets images told = ⊎_elim (λ (t : (other ≡ seat) × (told ≡ told)). absurd (apart t.0)) (λ (t : (other ≢ seat) × (get_elem? views other ≡ some told)). h.knows other told t.1)
    (at_set views seat other told told there) in
    record { sets = h.sets; shown = h.shown; knows = know_set h.sets images (set views seat told) other newcomer (knows_nothing h.sets images) (know_set h.sets images views seat told known h.knows) }
