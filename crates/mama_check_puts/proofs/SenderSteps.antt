-- How a publisher that does its journal again does one entry more.
use Rattle.std.proofs.Common.{◌≡◌, ℕ, zero, suc, ◌+◌, ◌-◌, ◌<◌, ◌≤◌, List, [], ◌∷◌, ◌++◌, length, map, take, drop, get_or, add-one, refl, sym, ◌∙◌, ap, subst, arith}
use Rattle.std.specs.Prelude.{slice_get, Option, Some, None, option_to_list, IfSome, IfNone}
use Rattle.std.specs.List.{flat_map}
use Rattle.std.proofs.lemmas.List.{take_all, drop_all, length-drop, length-take-le}
use Rattle.std.proofs.Math.Seq.{drop-cons}
use Rattle.mama_journal.specs.Journal.{count_of}
use Rattle.mama_msg.specs.Field.{FieldData}
use Rattle.mama_event.specs.Record.{record_after}
use Rattle.mama_event.specs.Publisher.{PublisherScript, SendLine, is_send, publisher_puts_at, updates_of, updates_sent, record_at, message_of, answer_of, sent_of}
use Rattle.mama_event.specs.Publisher as send
use Rattle.mama_event.specs.ToPublisher.{note_of}
use Rattle.mama_event.specs.declared.market.MsgKind.TheVariants as kind
use Rattle.mama_event.specs.declared.market.MarketMsg.{MarketMsg}
use Rattle.mama_event.specs.declared.to_bridge.BridgeNote.{BridgeNote}
use Rattle.mama_event.specs.declared.to_bridge.BridgeNote.TheVariants as put
use Rattle.mama_event.specs.declared.to_publisher.ToPublisher.{ToPublisher}
use Rattle.mama_event.specs.declared.to_publisher.PublisherNote.{PublisherNote}
use Rattle.mama_event.specs.declared.to_publisher.PublisherNote.TheVariants as p
use Rattle.mama_event.specs.declared.publisher_entry.PublisherEntry.{PublisherEntry}
use Rattle.mama_event.specs.declared.publisher_entry.PublisherEntry.TheVariants as entry
use Rattle.mama_script.specs.declared.publisher.PublisherLine.{PublisherLine}
use Rattle.mama_rules_rounds.specs.Sections.{sends_in}
use Rattle.mama_check_order.specs.Numbered.{from_entry, numbered}
use Rattle.mama_check_order.proofs.Numbered.{numbered_push}
use Rattle.mama_publisher.specs.Laws.{NewStandsAtStart, StandsAt, SendingUpdates, SendingRecaps, TakingEvents, TellingTheEnd}
use Rattle.mama_publisher.specs.Standing.{Standing, advanced}
use Rattle.mama_publisher.proofs.Sending.{count_of-send, count_of-other}
use Rattle.mama_check_puts.specs.Sender.{IsAt, HasDone}
use Rattle.mama_check_puts.specs.Puts.{script_of}
use Rattle.mama_check_puts.proofs.Lists.{so_far}

-- the first of what is left of a list, and what is left after it
head_at : {A : Type 0} → (xs : List A) (n : ℕ) (x : A) (rest : List A) → drop n xs ≡ x ∷ rest → slice_get xs n ≡ Some x
head_at [] zero x rest e = cc
head_at [] (suc n) x rest e = cc
head_at (y ∷ ys) zero x rest e = cc
head_at (y ∷ ys) (suc n) x rest e = head_at ys n x rest e

tail_at : {A : Type 0} → (xs : List A) (n : ℕ) (x : A) (rest : List A) → drop n xs ≡ x ∷ rest → drop (suc n) xs ≡ rest
tail_at [] zero x rest e = cc
tail_at [] (suc n) x rest e = cc
tail_at (y ∷ ys) zero x rest e = cc
tail_at (y ∷ ys) (suc n) x rest e = tail_at ys n x rest e

-- a place past the end of a list
none_at : {A : Type 0} → (xs : List A) (n : ℕ) → drop n xs ≡ [] → slice_get xs n ≡ None
none_at [] zero e = refl
none_at [] (suc n) e = refl
none_at (y ∷ ys) zero e = cc
none_at (y ∷ ys) (suc n) e = none_at ys n e

none_after : {A : Type 0} → (xs : List A) (n : ℕ) → drop n xs ≡ [] → drop (suc n) xs ≡ []
none_after [] zero e = refl
none_after [] (suc n) e = refl
none_after (y ∷ ys) zero e = cc
none_after (y ∷ ys) (suc n) e = none_after ys n e

all_taken : {A : Type 0} → (xs : List A) (n : ℕ) → drop n xs ≡ [] → take (suc n) xs ≡ take n xs
all_taken [] zero e = refl
all_taken [] (suc n) e = refl
all_taken (y ∷ ys) zero e = cc
all_taken (y ∷ ys) (suc n) e = ap (λ (zs : List _). y ∷ zs) (all_taken ys n e)

-- ---- the lines

-- a line of those that are left
pub sends_on : (lines : List PublisherLine) (i : ℕ) (r l : PublisherLine) → i < length lines → r ≡ get_or lines i r → r ≡ l
    → flat_map sends_in lines ≡ flat_map sends_in (drop i lines) → flat_map sends_in lines ≡ sends_in l ++ flat_map sends_in (drop (i + 1) lines)
sends_on lines i r l within is same left =
    left ∙ ap (λ (ls : List PublisherLine). flat_map sends_in ls) (drop-cons lines i r within ∙ ap (λ (x : PublisherLine). x ∷ drop (suc i) lines) (sym is ∙ same))
    ∙ ap (λ (k : ℕ). sends_in l ++ flat_map sends_in (drop k lines)) (sym (add-one i))

-- what is left after it
pub sends_rest : (lines : List PublisherLine) (i : ℕ) (r l : PublisherLine) → i < length lines → r ≡ get_or lines i r → r ≡ l
    → flat_map sends_in lines ≡ flat_map sends_in (drop i lines)
    → flat_map sends_in lines ≡ sends_in l ++ flat_map sends_in (take (length lines - (i + 1)) (drop (i + 1) lines))
sends_rest lines i r l within is same left =
    let whole : take (length lines - (i + 1)) (drop (i + 1) lines) ≡ drop (i + 1) lines = take_all (length lines - (i + 1)) (drop (i + 1) lines) (omega (arith, length-drop (i + 1) lines)) in
    sends_on lines i r l within is same left ∙ ap (λ (ls : List PublisherLine). sends_in l ++ flat_map sends_in ls) (sym whole)

-- no line is left
pub sends_over : (lines : List PublisherLine) (i : ℕ) → length lines ≤ i → flat_map sends_in lines ≡ flat_map sends_in (drop i lines) → flat_map sends_in lines ≡ []
sends_over lines i past left = left ∙ ap (λ (ls : List PublisherLine). flat_map sends_in ls) (drop_all i lines past)

-- ---- an entry

-- an update is sent
pub update_done : SendingUpdates → (script : PublisherScript) (journal : List PublisherEntry) (p next : Standing) (left rest : List SendLine) (body : List FieldData) (msg : MarketMsg)
    → IsAt script journal p left → left ≡ send.Update body ∷ rest → next ≡ advanced p body → msg ≡ message_of p.number kind.Update (p.seq + 1) body
    → HasDone script journal entry.Send next rest (put.Publish msg ∷ [])
update_done law script journal p next left rest body msg at first advances told =
    let here : drop (count_of is_send journal) script.lines ≡ send.Update body ∷ rest = at.rest ∙ first in
    let sends = law script journal p body at.stands (head_at script.lines (count_of is_send journal) (send.Update body) rest here) in
    record {
      put = ap (λ (m : MarketMsg). put.Publish m ∷ []) told ∙ sym sends.puts;
      at = record {
        stands = subst (StandsAt script (journal ++ entry.Send ∷ [])) (sym advances) sends.stands;
        rest = ap (λ n. drop n script.lines) (count_of-send journal) ∙ tail_at script.lines (count_of is_send journal) (send.Update body) rest here;
      };
    }

-- the record is sent again
pub recap_done : SendingRecaps → (script : PublisherScript) (journal : List PublisherEntry) (p : Standing) (left rest : List SendLine) (msg : MarketMsg)
    → IsAt script journal p left → left ≡ send.Recap ∷ rest → msg ≡ message_of p.number kind.Recap p.seq p.held
    → HasDone script journal entry.Send p rest (put.Publish msg ∷ [])
recap_done law script journal p left rest msg at first told =
    let here : drop (count_of is_send journal) script.lines ≡ send.Recap ∷ rest = at.rest ∙ first in
    let sends = law script journal p at.stands (head_at script.lines (count_of is_send journal) send.Recap rest here) in
    record {
      put = ap (λ (m : MarketMsg). put.Publish m ∷ []) told ∙ sym sends.puts;
      at = record {
        stands = sends.stands;
        rest = ap (λ n. drop n script.lines) (count_of-send journal) ∙ tail_at script.lines (count_of is_send journal) send.Recap rest here;
      };
    }

-- nothing is left to send
pub nothing_done : (script : PublisherScript) (journal : List PublisherEntry) (p : Standing) (left : List SendLine)
    → IsAt script journal p left → left ≡ [] → HasDone script journal entry.Send p left []
nothing_done script journal p left at none =
    let k = count_of is_send journal in
    let here : drop k script.lines ≡ [] = at.rest ∙ none in
    let same : updates_sent script (journal ++ entry.Send ∷ []) ≡ updates_sent script journal =
    ap (λ (n : ℕ). length (updates_of (take n script.lines))) (count_of-send journal) ∙ ap (λ (ls : List SendLine). length (updates_of ls)) (all_taken script.lines k here) in
    record {
      put = sym (ap (λ (l : Option SendLine). sent_of script.number (record_at script (journal ++ entry.Send ∷ [])) (updates_sent script (journal ++ entry.Send ∷ [])) l) (none_at script.lines k here));
      at = record {
        stands = record {
          number = at.stands.number;
          held = at.stands.held ∙ ap (λ (n : ℕ). record_after script.base (updates_of script.lines) n) (sym same);
          seq = at.stands.seq ∙ sym same;
        };
        rest = ap (λ n. drop n script.lines) (count_of-send journal) ∙ none_after script.lines k here ∙ sym none;
      };
    }

-- it tells that all was sent
pub end_done : TellingTheEnd → (script : PublisherScript) (journal : List PublisherEntry) (p : Standing) (left : List SendLine)
    → IsAt script journal p left → HasDone script journal entry.Done p left (put.SendsDone ∷ [])
end_done law script journal p left at =
    let tells = law script journal p at.stands in
    record {
      put = sym tells.puts;
      at = record { stands = tells.stands; rest = ap (λ n. drop n script.lines) (count_of-other journal entry.Done refl) ∙ at.rest };
    }

-- an event is answered by one event at most
answer_alone : (number : ℕ) (held : List FieldData) (seq : ℕ) (note : PublisherNote) (x : BridgeNote) (xs : List BridgeNote)
    → x ∷ xs ≡ answer_of number held seq note → x ∷ [] ≡ answer_of number held seq note
answer_alone number held seq (p.Want sub k) x xs e = cc
answer_alone number held seq (p.Ask inbox fids) x xs e = cc
answer_alone number held seq p.Settle x xs e = cc
answer_alone number held seq p.Fin x xs e = cc

-- so the first event is all that answers
pub first_answers : {A : Type 0} (f : A → BridgeNote) (items : List A) (rest : List BridgeNote) (number : ℕ) (held : List FieldData) (seq : ℕ) (note : PublisherNote) (first : Option BridgeNote)
    → IfSome first (λ x. map f items ≡ x ∷ rest) → IfNone first (items ≡ []) → map f items ≡ answer_of number held seq note → option_to_list first ≡ answer_of number held seq note
first_answers f items rest number held seq note (Some x) some none whole = answer_alone number held seq note x rest (sym some ∙ whole)
first_answers f items rest number held seq note None some none whole = sym (ap (map f) none) ∙ whole

-- an event is taken
pub taken_done : TakingEvents → (script : PublisherScript) (journal : List PublisherEntry) (p next : Standing) (left : List SendLine) (event : ToPublisher) (note : PublisherNote) (puts : List BridgeNote)
    → IsAt script journal p left → note_of event ≡ note → next ≡ p → puts ≡ answer_of p.number p.held p.seq (note_of event)
    → HasDone script journal (entry.Took note) next left puts
taken_done law script journal p next left event note puts at noted stays answers =
    let takes = law script journal p event at.stands in
    let done : HasDone script journal (entry.Took (note_of event)) p left puts = record {
      put = answers ∙ sym takes.puts;
      at = record { stands = takes.stands; rest = ap (λ n. drop n script.lines) (count_of-other journal (entry.Took (note_of event)) refl) ∙ at.rest };
    } in
    subst (λ (n : PublisherNote). HasDone script journal (entry.Took n) next left puts) noted
    (subst (λ (q : Standing). HasDone script journal (entry.Took (note_of event)) q left puts) (sym stays) done)

-- ---- over a journal

-- it did nothing yet
pub begun : NewStandsAtStart → (number : ℕ) (base : List FieldData) (lines : List PublisherLine) (p : Standing) → p ≡ record { number = number; held = base; seq = 0 }
    → IsAt (script_of number base lines) [] p (flat_map sends_in lines)
begun law number base lines p new = record { stands = subst (StandsAt (script_of number base lines) []) (sym new) (law (script_of number base lines)); rest = refl }

-- it did the next entry
pub did_next : (script : PublisherScript) (journal : List PublisherEntry) (i : ℕ) (e : PublisherEntry) (p : Standing) (left : List SendLine) (puts : List BridgeNote)
    → i < length journal → e ≡ get_or journal i e → HasDone script (take i journal) e p left puts → IsAt script (take (i + 1) journal) p left
did_next script journal i e p left puts within is done =
    subst (λ (es : List PublisherEntry). IsAt script es p left) (sym (so_far journal i e within ∙ ap (λ (x : PublisherEntry). take i journal ++ x ∷ []) (sym is))) done.at

pub put_next : (script : PublisherScript) (journal : List PublisherEntry) (i : ℕ) (e : PublisherEntry) (p : Standing) (left : List SendLine) (puts : List BridgeNote) (old new : List (ℕ × BridgeNote))
    → i < length journal → e ≡ get_or journal i e → HasDone script (take i journal) e p left puts → old ≡ numbered (publisher_puts_at script) (take i journal) → new ≡ old ++ from_entry i puts
    → new ≡ numbered (publisher_puts_at script) (take (i + 1) journal)
put_next script journal i e p left puts old new within is done so grow =
    let at = publisher_puts_at script in
    let place : i ≡ length (take i journal) = sym (length-take-le i journal (omega arith)) in
    grow ∙ ap (λ (xs : List (ℕ × BridgeNote)). xs ++ from_entry i puts) so
    ∙ ap (λ (m : ℕ). numbered at (take i journal) ++ from_entry m puts) place
    ∙ ap (λ (ps : List BridgeNote). numbered at (take i journal) ++ from_entry (length (take i journal)) ps) done.put
    ∙ sym (numbered_push at (take i journal) e)
    ∙ ap (λ (es : List PublisherEntry). numbered at es) (sym (so_far journal i e within ∙ ap (λ (x : PublisherEntry). take i journal ++ x ∷ []) (sym is)))
