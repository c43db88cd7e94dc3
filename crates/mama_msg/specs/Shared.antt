-- inner: how a message is kept: in a block that its copies share, or in none where it has no fields.
use Rattle.std.specs.Prelude.{List, [], ◌∷◌, Option, None, Some}
use Rattle.std.specs.Arc.{arc_value}
use Rattle.std.specs.declared.alloc.Global.{Global}
use Rattle.std.specs.declared.sync.Arc.{Arc}
use Rattle.mama_msg.specs.Field.{FieldData}
use Rattle.mama_msg.specs.declared.body.Body.{Body}
use Rattle.mama_msg.specs.declared.body.Body.TheVariants.{One, Many}

-- the fields in a block
abbrev pub rows_in : Body → List FieldData
rows_in (One field) = field ∷ []
rows_in (Many fields) = fields.items

-- the fields of a message, which has no block where it has none
abbrev pub fields_of : Option (Arc Body Global) → List FieldData
fields_of None = []
fields_of (Some block) = rows_in (arc_value block)
