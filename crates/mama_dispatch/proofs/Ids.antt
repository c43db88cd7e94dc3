-- Ids are compared by kind and numbers.
use Rattle.std.proofs.Common.{◌≡◌, refl}
use Rattle.mama_event.specs.contracts.ids.ObjectIdPartialEq.TheImpl.{eq-value}
use Rattle.mama_event.specs.declared.ids.ObjectId.{ObjectId}
use Rattle.mama_event.specs.declared.ids.ObjectId.TheVariants.{Sub, Timer, Inbox}
use Rattle.mama_event.specs.Object.{same_object}

pub same_ids : (a b : ObjectId) → eq-value.it a b ≡ same_object a b
same_ids (Sub a) (Sub b) = refl
same_ids (Sub a) (Timer b) = refl
same_ids (Sub a) (Inbox b) = refl
same_ids (Timer a) (Sub b) = refl
same_ids (Timer a) (Timer b) = refl
same_ids (Timer a) (Inbox b) = refl
same_ids (Inbox a) (Sub b) = refl
same_ids (Inbox a) (Timer b) = refl
same_ids (Inbox a) (Inbox b) = refl
