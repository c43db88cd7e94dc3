-- believed: That the listeners of a run came back.
use Rattle.std.specs.Prelude.{◌≡◌, List, length, map, IfSome}
use Rattle.std.specs.List.{AllZip}
use Rattle.mama_event.specs.declared.ids.ObjectId.{ObjectId}
use Rattle.mama_event.specs.Listener.{ListenerData, reached}
use Rattle.mama_record.specs.RunData.{ObjectCalls}

-- The listener of an object with these callbacks came back: it has the object as its tag and counted the callbacks, and what it
-- has heard, where it tells that, is they.
pub record IsBack {L : Type 0} (view : L → ListenerData) (calls : ObjectCalls) (back : ObjectId × L) : Type 0 where
  pub object : back.0 ≡ calls.object
  pub tag : (view back.1).tag ≡ calls.object
  pub count : (view back.1).calls ≡ reached 0 (length calls.calls)
  pub heard : IfSome (view back.1).heard (λ heard. heard ≡ map (λ n. n.call) calls.calls)

-- each object's listener came back, once, in the order of the objects
abbrev pub AreBack : {L : Type 0} → (L → ListenerData) → List ObjectCalls → List (ObjectId × L) → Type 0
AreBack view calls back = AllZip (IsBack view) calls back
