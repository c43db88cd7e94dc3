-- believed: The callbacks of a queue's objects, which are taken out object by object.
use Rattle.std.specs.Prelude.{List, [], ◌∷◌, if◌then◌else◌}
use Rattle.mama_event.specs.declared.ids.ObjectId.{ObjectId}
use Rattle.mama_event.specs.declared.callback.CallNote.{CallNote}
use Rattle.mama_event.specs.Object.{same_object}

-- the callbacks of an object; none where it is not there
abbrev pub calls_to : ObjectId → List (ObjectId × List CallNote) → List CallNote
calls_to o [] = []
calls_to o (e ∷ es) = if same_object o e.0 then e.1 else calls_to o es

-- what is left when the callbacks of an object are taken out: all the others, and of that object none
abbrev pub without : ObjectId → List (ObjectId × List CallNote) → List (ObjectId × List CallNote)
without o [] = []
without o (e ∷ es) = if same_object o e.0 then (e.0, []) ∷ es else e ∷ without o es
