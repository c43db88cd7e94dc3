-- inner: A publisher that does its journal again.
use Rattle.std.specs.Prelude.{◌≡◌, List, [], ◌∷◌, ◌++◌, drop}
use Rattle.std.specs.List.{flat_map}
use Rattle.mama_journal.specs.Journal.{count_of}
use Rattle.mama_event.specs.declared.publisher_entry.PublisherEntry.{PublisherEntry}
use Rattle.mama_event.specs.declared.to_bridge.BridgeNote.{BridgeNote}
use Rattle.mama_event.specs.Publisher.{PublisherScript, SendLine, is_send, publisher_puts_at}
use Rattle.mama_event.specs.Publisher as send
use Rattle.mama_publisher.specs.Standing.{Standing}
use Rattle.mama_publisher.specs.Laws.{StandsAt}
use Rattle.mama_rules_rounds.specs.Sections.{sends_in}
use Rattle.mama_check_puts.specs.declared.publisher.Sender.{Sender}
use Rattle.mama_check_puts.specs.declared.publisher.Sending.{Sending}
use Rattle.mama_check_puts.specs.declared.publisher.Sending.TheVariants as next

-- what it sends next
abbrev pub sending_of : Sending → SendLine
sending_of (next.Update body) = send.Update body.now
sending_of next.Recap = send.Recap

-- what it has not sent
abbrev pub unsent : Sender → List SendLine
unsent s = flat_map sends_in s.left.now

-- A publisher stands where its journal says, and this is what it has not sent.
pub record IsAt (script : PublisherScript) (journal : List PublisherEntry) (p : Standing) (left : List SendLine) : Type 0 where
  pub stands : StandsAt script journal p
  pub rest : drop (count_of is_send journal) script.lines ≡ left

-- It did one entry more, and put what the journal puts there.
pub record HasDone (script : PublisherScript) (journal : List PublisherEntry) (entry : PublisherEntry) (p : Standing) (left : List SendLine) (puts : List BridgeNote) : Type 0 where
  pub put : puts ≡ publisher_puts_at script journal entry
  pub at : IsAt script (journal ++ entry ∷ []) p left

-- It did this entry, wherever a journal has brought it.
abbrev pub Does : Sender → Sender → PublisherEntry → List BridgeNote → Type 0
Does old new entry puts =
    (script : PublisherScript) (journal : List PublisherEntry)
    → IsAt script journal old.publisher (unsent old) → HasDone script journal entry new.publisher (unsent new) puts
