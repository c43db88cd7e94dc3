-- inner: The text of sections, as it is printed.
use Rattle.std.specs.Prelude.{ℕ, List, ◌++◌}
use Rattle.std.specs.List.{flat_map}
use Rattle.mama_event.specs.declared.callback.CallNote.{CallNote}
use Rattle.mama_words.specs.declared.version.Version.{Version}
use Rattle.mama_record.specs.LogText.{LogSection, lines_text, line, callback_text, order_line, counted, told}

abbrev pub section_text : Version → LogSection → List ℕ
section_text v s = lines_text (counted v s)

-- the first line of a section with so many lines
abbrev pub head_text : Version → List ℕ → ℕ → List ℕ
head_text v head count = line (head ++ told v count)

-- a callback and its orders
abbrev pub call_lines : CallNote → List ℕ
call_lines c = line (callback_text c.call) ++ flat_map order_line c.orders
