-- believed: the life of an object of any kind, by what its service heard: when it is alive, and what was sent into its link then.
use Rattle.std.specs.Prelude.{Bool, false, not, ◌&&◌, List, [], ◌∷◌, filter, if◌then◌else◌}
use Rattle.std.specs.List.{list_any}
use Rattle.mama_journal.specs.Journal.{puts}

-- the first event that begins has come, and none that ends after it
abbrev pub lives : {E : Type 0} → (E → Bool) → (E → Bool) → List E → Bool
lives begins ends [] = false
lives begins ends (e ∷ es) = if begins e then not (list_any ends es) else lives begins ends es

-- an object is alive from the first event that begins it to the first later one that ends it, or the ending of all
abbrev pub is_alive : {E : Type 0} → (E → Bool) → (E → Bool) → (List E → Bool) → List E → Bool
is_alive begins ends ending es = lives begins ends es && not (ending es)

-- the object that an event begins, if it is the first event of its id
abbrev pub newly : {E I : Type 0} → (I → E → Bool) → List E → I → List I
newly begins before id = if list_any (begins id) before then [] else id ∷ []

-- the objects that are alive, in order of beginning
abbrev pub all_alive : {E I : Type 0} → (I → List E → Bool) → (List E → E → List I) → List E → List I
all_alive alive begun es = filter (λ id. alive id es) (puts begun es)

-- what was sent into the link of an object while it was alive
abbrev pub window_of : {E M : Type 0} → (List E → Bool) → (List E → E → List M) → List E → List M
window_of alive sent es = puts (λ before e. if alive before then sent before e else []) es
