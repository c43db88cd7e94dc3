-- What is alive was begun by one of its events, so what each of them says where it begins the object is so.
use Rattle.std.specs.Prelude.{not}
use Rattle.std.specs.List.{list_any, AllByRecursion}
use Rattle.std.proofs.Common.{◌≡◌, Bool, true, false, ◌||◌, List, [], ◌∷◌, refl}
use Rattle.std.proofs.lemmas.Bool.{and_parts, both_ways}
use Rattle.mama_rules_services.specs.Life.{lives, is_alive}
use Rattle.mama_laws_legal.proofs.Lives.{lives_came}

begun_says : {E : Type 0} (Fits : E → Type 0) (P : Type 0) (begins : E → Bool) → ((e : E) → Fits e → begins e ≡ true → P) → (es : List E) → AllByRecursion Fits es → list_any begins es ≡ true → P
begun_says Fits P begins says [] all h = absurd (both_ways false refl h)
begun_says {E} Fits P begins says (e ∷ es) all h = by_case (begins e) refl h (begun_says Fits P begins says es all.1)
  where
    by_case : (c : Bool) → begins e ≡ c → (c || list_any begins es) ≡ true → (list_any begins es ≡ true → P) → P
    by_case true here h later = says e all.0 here
    by_case false other h later = later h

pub alive_says : {E : Type 0} (Fits : E → Type 0) (P : Type 0) (begins ends : E → Bool) (ending : List E → Bool) → ((e : E) → Fits e → begins e ≡ true → P)
    → (es : List E) → AllByRecursion Fits es → is_alive begins ends ending es ≡ true → P
alive_says Fits P begins ends ending says es all live =
    begun_says Fits P begins says es all (lives_came begins ends es (and_parts (lives begins ends es) (not (ending es)) live).0)
