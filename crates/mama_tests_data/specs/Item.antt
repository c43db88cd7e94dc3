-- inner: messages of a test, of which a cut leaves some bytes.
use Rattle.std.specs.Prelude.{ℕ, min}
use Rattle.mama_tests_data.specs.declared.item.Item.{Item}

-- a cut leaves no more bytes than it keeps
abbrev pub with_left : ℕ → Item → Item
with_left keep item = record { number = item.number; left = min item.left keep }
