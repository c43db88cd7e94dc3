-- A record that keeps all rules is legal, and a legal one keeps them.
use Rattle.std.proofs.Common.{◌≡◌, ℕ, suc, ◌<◌, List, [], ◌∷◌, length, map, get_or, refl, ap, sym, subst, ◌∙◌, arith}
use Rattle.std.specs.Prelude.{slice_get, Some}
use Rattle.std.proofs.lemmas.List.{get_or-map, length-map}
use Rattle.mama_record.specs.RunData.{ObjectCalls, GroupNotes, WatchNotes}
use Rattle.mama_rules_rounds.specs.Client.{clock_lines}
use Rattle.mama_rules_rounds.specs.Sections.{setting_of, planned_in}
use Rattle.mama_rules_rounds.specs.Told.{object_calls, group_told, watch_told}
use Rattle.mama_rules_legal.specs.Legal.{IsLegal}
use Rattle.mama_check.specs.Kept.{AreKept, KeptIsLegal}
use Rattle.mama_check.proofs.CallLemmas.{as_many}
use Rattle.mama_check.proofs.ListLemmas.{numbered_len, groups_len, watches_len}

-- two lists of which each item says the same
pub same_said : {X Y Z : Type 0} (f : X → Z) (g : Y → Z) (dx : X) (dy : Y) (xs : List X) (ys : List Y) → length xs ≡ length ys
    → ((k : ℕ) → k < length ys → f (get_or xs k dx) ≡ g (get_or ys k dy)) → map f xs ≡ map g ys
same_said f g dx dy [] [] many each = refl
same_said f g dx dy [] (y ∷ ys) many each = let none : 0 ≡ suc (length ys) = many in absurd (omega (arith, none))
same_said f g dx dy (x ∷ xs) [] many each = let none : suc (length xs) ≡ 0 = many in absurd (omega (arith, none))
same_said {X} {Y} {Z} f g dx dy (x ∷ xs) (y ∷ ys) many each =
    let both : suc (length xs) ≡ suc (length ys) = many in
    let fewer : length xs ≡ length ys = omega arith in
    let first : 0 < suc (length ys) = omega arith in
    ap (λ (z : Z). z ∷ map f xs) (each 0 first)
    ∙ ap (λ (zs : List Z). g y ∷ zs) (same_said f g dx dy xs ys fewer (λ k low. let later : suc k < suc (length ys) = omega arith in each (suc k) later))

-- two lists with the same items
pub same_items : {X : Type 0} (xs ys : List X) → length xs ≡ length ys → ((k : ℕ) → k < length ys → slice_get xs k ≡ slice_get ys k) → xs ≡ ys
same_items [] [] many each = refl
same_items [] (y ∷ ys) many each = let none : 0 ≡ suc (length ys) = many in absurd (omega (arith, none))
same_items (x ∷ xs) [] many each = let none : suc (length xs) ≡ 0 = many in absurd (omega (arith, none))
same_items {X} (x ∷ xs) (y ∷ ys) many each =
    let both : suc (length xs) ≡ suc (length ys) = many in
    let fewer : length xs ≡ length ys = omega arith in
    let first : 0 < suc (length ys) = omega arith in
    let here : Some x ≡ Some y = each 0 first in
    let same : x ≡ y = cc in
    ap (λ (z : X). z ∷ xs) same
    ∙ ap (λ (zs : List X). y ∷ zs) (same_items xs ys fewer (λ k low. let later : suc k < suc (length ys) = omega arith in each (suc k) later))

-- the items of two lists that say the same
pub said_at : {X Y Z : Type 0} (f : X → Z) (g : Y → Z) (dx : X) (dy : Y) (dz : Z) (xs : List X) (ys : List Y) → map f xs ≡ map g ys → (k : ℕ) → k < length ys → f (get_or xs k dx) ≡ g (get_or ys k dy)
said_at {X} {Y} {Z} f g dx dy dz xs ys same k low =
    let in_xs : k < length xs = subst (λ (n : ℕ). k < n) (sym (length-map ys g) ∙ ap (λ (zs : List Z). length zs) (sym same) ∙ length-map xs f) low in
    sym (get_or-map f xs k dx dz in_xs) ∙ ap (λ (zs : List Z). get_or zs k dz) same ∙ get_or-map g ys k dy dz low

pub kept_is_legal : KeptIsLegal
kept_is_legal script run orderly counted = (forward, back)
  where
    length_of : List ℕ → ℕ
    length_of ms = length ms

    as_groups : length (map (group_told (setting_of script) run.queues) (setting_of script).groups) ≡ length script.groups
    as_groups = length-map (setting_of script).groups (group_told (setting_of script) run.queues) ∙ groups_len (planned_in script) 0 script.groups

    as_watches : length (map (watch_told (setting_of script) run.queues) (setting_of script).watches) ≡ length script.watches
    as_watches = length-map (setting_of script).watches (watch_told (setting_of script) run.queues) ∙ watches_len (planned_in script) 0 script.watches

    forward : AreKept script run → IsLegal script run
    forward kept =
        let moments : map length run.clients ≡ map clock_lines script.clients = same_said length clock_lines [] [] run.clients script.clients counted.clients kept.moments in
        let wanted : List ObjectCalls = map (object_calls (setting_of script) run.queues) (setting_of script).objects in
        let as_wanted : length wanted ≡ length (setting_of script).objects = length-map (setting_of script).objects (object_calls (setting_of script) run.queues) in
        let many : length run.calls ≡ length wanted = as_many run.calls (setting_of script).objects counted.objects ∙ sym as_wanted in
        record {
          shaped = record { publishers = counted.publishers; queues = counted.queues; moments = moments };
          lines = record { clients = moments; publishers = kept.lines };
          edges = record { bridge = kept.bridge; timers = kept.timers; publishers = kept.publishers; queues = kept.queues };
          calls = record { calls = same_items run.calls wanted many (λ k low. kept.calls k (subst (λ (n : ℕ). k < n) as_wanted low)); images = kept.images };
          lists = record {
            groups = same_items run.groups (map (group_told (setting_of script) run.queues) (setting_of script).groups)
                (numbered_len (λ (g : GroupNotes). g.group) run.groups (length script.groups) counted.groups ∙ sym as_groups) (λ k low. kept.groups k (subst (λ (n : ℕ). k < n) as_groups low));
            watches = same_items run.watches (map (watch_told (setting_of script) run.queues) (setting_of script).watches)
                (numbered_len (λ (w : WatchNotes). w.watch) run.watches (length script.watches) counted.watches ∙ sym as_watches) (λ k low. kept.watches k (subst (λ (n : ℕ). k < n) as_watches low));
          };
        }

    back : IsLegal script run → AreKept script run
    back legal = record {
      moments = said_at length clock_lines [] [] 0 run.clients script.clients legal.shaped.moments;
      lines = legal.lines.publishers;
      publishers = legal.edges.publishers;
      bridge = legal.edges.bridge;
      timers = legal.edges.timers;
      queues = legal.edges.queues;
      calls = λ k low. ap (λ (cs : List ObjectCalls). slice_get cs k) legal.calls.calls;
      images = legal.calls.images;
      groups = λ k low. ap (λ (gs : List GroupNotes). slice_get gs k) legal.lists.groups;
      watches = λ k low. ap (λ (ws : List WatchNotes). slice_get ws k) legal.lists.watches;
    }
