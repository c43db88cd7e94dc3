-- The publishers of a script are such that their messages fit, and so does all that they put.
use Rattle.std.specs.Prelude.{slice_get, slice_index_or, Option, Some, None}
use Rattle.std.specs.List.{AllByRecursion, flat_map}
use Rattle.std.proofs.Common.{◌≡◌, ℕ, zero, suc, ◌+◌, ◌^◌, ◌<◌, ◌≤◌, List, [], ◌∷◌, ◌++◌, length, map, take, refl, ap, sym, subst, length-append, arith}
use Rattle.mama_journal.specs.Journal.{count_of}
use Rattle.mama_msg.specs.Field.{FieldData}
use Rattle.mama_msg.specs.Message.{apply}
use Rattle.mama_event.specs.Record.{record_after}
use Rattle.mama_event.specs.Publisher.{SendLine, PublisherScript, is_send, updates_of, updates_sent, record_at, message_of, answer_of, sent_of, publisher_puts_at, publisher_puts}
use Rattle.mama_event.specs.declared.market.MsgKind.{MsgKind}
use Rattle.mama_event.specs.declared.market.MsgKind.TheVariants as kind
use Rattle.mama_event.specs.declared.to_publisher.PublisherNote.{PublisherNote}
use Rattle.mama_event.specs.declared.to_publisher.PublisherNote.TheVariants as note
use Rattle.mama_event.specs.declared.publisher_entry.PublisherEntry.{PublisherEntry}
use Rattle.mama_event.specs.declared.publisher_entry.PublisherEntry.TheVariants as entry
use Rattle.mama_script.specs.declared.line.Line.{Line}
use Rattle.mama_script.specs.declared.line.Line.TheVariants as lines
use Rattle.mama_script.specs.declared.publisher.PublisherLine.{PublisherLine}
use Rattle.mama_script.specs.declared.publisher.PublisherLine.TheVariants as sends
use Rattle.mama_script.specs.declared.publisher.PublisherPart.{PublisherPart}
use Rattle.mama_words.specs.declared.version.Version.{Version}
use Rattle.mama_words.specs.declared.nums.Nums.{Nums}
use Rattle.mama_words.specs.Value.{nums_of}
use Rattle.mama_script.specs.Line.{IsLine, line_text, ended}
use Rattle.mama_script.specs.Reading.{first_line, version_of}
use Rattle.mama_script.specs.Script.{ScriptData}
use Rattle.mama_script.specs.Tree.{topic_line, publisher_line, publisher_lines, client_lines, strategy_lines, last_lines, lines_of, script_text, IsScript}
use Rattle.mama_script.specs.Within.{AreSendsWithin, IsPublisherWithin, IsWithin}
use Rattle.mama_rules_rounds.specs.Sections.{sends_in, publishers_from}
use Rattle.mama_rules_legal.specs.Edges.{taken_in, taken_by}
use Rattle.mama_log_line.specs.Names.{NamesData}
use Rattle.mama_log_line.specs.Entering.{IsBody, IsPublisherNote}
use Rattle.mama_laws_genuine.proofs.Elements.{all_puts_after}
use Rattle.mama_laws_logged.proofs.Fits.{IsSound, IsSender, PublisherPut}
use Rattle.mama_laws_logged.proofs.Accepted.{all_parts, IsPublisherSound, publishers_sound}
use Rattle.mama_laws_logged.proofs.Bodies.{applied_message, asked_body}

-- ---- the lines of a publisher

-- the record after one update more is that of the rest of the updates from there
record_after-cons : (base u : List FieldData) (us : List (List FieldData)) (n : ℕ) → record_after base (u ∷ us) (suc n) ≡ record_after (apply base u) us n
record_after-cons base u us zero = refl
record_after-cons base u us (suc n) = ap (λ (held : List FieldData). apply held (slice_index_or us n [])) (record_after-cons base u us n)

-- each update is a message that is not too long
updates_fit : (v : Version) (held : List FieldData) (ls : List PublisherLine) → AllByRecursion (IsLine v) (map publisher_line ls) → AreSendsWithin held ls
    → AllByRecursion (IsBody (nums_of v)) (updates_of (flat_map sends_in ls))
updates_fit v held [] sound within = tt
updates_fit v held (sends.Update u ∷ ls) sound within =
    (record { message = sound.0; few = within.0.0 }, updates_fit v (apply held u) ls sound.1 within.1)
updates_fit v held (sends.Recap ∷ ls) sound within = updates_fit v held ls sound.1 within.1
updates_fit v held (sends.Pause rounds ∷ ls) sound within = updates_fit v held ls sound.1 within.1

-- so is the record after each of them
records_fit : (v : Version) (held : List FieldData) (ls : List PublisherLine) → IsBody (nums_of v) held → AllByRecursion (IsLine v) (map publisher_line ls) → AreSendsWithin held ls
    → (n : ℕ) → n ≤ length (updates_of (flat_map sends_in ls)) → IsBody (nums_of v) (record_after held (updates_of (flat_map sends_in ls)) n)
records_fit v held [] is sound within zero most = is
records_fit v held [] is sound within (suc n) most = absurd (omega arith)
records_fit v held (sends.Update u ∷ ls) is sound within zero most = is
records_fit v held (sends.Update u ∷ ls) is sound within (suc n) most =
    let next : IsBody (nums_of v) (apply held u) = record { message = applied_message (nums_of v) held u is.message sound.0; few = within.0.1 } in
    subst (IsBody (nums_of v)) (sym (record_after-cons held u (updates_of (flat_map sends_in ls)) n))
    (records_fit v (apply held u) ls next sound.1 within.1 n (omega arith))
records_fit v held (sends.Recap ∷ ls) is sound within n most = records_fit v held ls is sound.1 within.1 n most
records_fit v held (sends.Pause rounds ∷ ls) is sound within n most = records_fit v held ls is sound.1 within.1 n most

-- ---- there are no more updates than bytes in the text

updates_few : (ls : List PublisherLine) → length (updates_of (flat_map sends_in ls)) ≤ length (map publisher_line ls)
updates_few [] = omega arith
updates_few (sends.Update u ∷ ls) = let later = updates_few ls in omega arith
updates_few (sends.Recap ∷ ls) = let later = updates_few ls in omega arith
updates_few (sends.Pause rounds ∷ ls) = let later = updates_few ls in omega arith

-- each line ends with a byte
lines_few : (ls : List Line) → length ls ≤ length (flat_map ended ls)
lines_few [] = omega arith
lines_few (l ∷ ls) =
    let later : length ls ≤ length (flat_map ended ls) = lines_few ls in
    omega (arith, length-append (ended l) (flat_map ended ls), length-append (line_text l) (10 ∷ []))

-- the lines in the midst are no more than the bytes of all lines and of what stands before them
part_few : (front : List ℕ) (head : List Line) (l : Line) (one two three : List Line) → length two ≤ length (front ++ flat_map ended (head ++ l ∷ (one ++ (two ++ three))))
part_few front head l one two three =
    let all : length (head ++ l ∷ (one ++ (two ++ three))) ≤ length (flat_map ended (head ++ l ∷ (one ++ (two ++ three)))) = lines_few (head ++ l ∷ (one ++ (two ++ three))) in
    omega (
      arith,
      length-append front (flat_map ended (head ++ l ∷ (one ++ (two ++ three)))),
      length-append head (l ∷ (one ++ (two ++ three))),
      length-append one (two ++ three),
      length-append two three,
    )

-- ---- a script's publishers

sender_fits : (v : Version) (topics n : ℕ) (part : PublisherPart) → n < 1024 → length (publisher_lines part) ≤ 67108864 → IsPublisherSound v part → IsPublisherWithin topics part
    → IsSender (nums_of v) (record { number = n; base = part.base; lines = flat_map sends_in part.lines })
sender_fits v topics n part low short sound within =
    let base : IsBody (nums_of v) part.base = record { message = sound.0.1; few = within.base } in
    let few : length (updates_of (flat_map sends_in part.lines)) ≤ length (map publisher_line part.lines) = updates_few part.lines in
    record {
      number = omega arith;
      few = omega arith;
      updates = updates_fit v part.base part.lines sound.1 within.sends;
      records = records_fit v part.base part.lines base sound.1 within.sends;
    }

senders_from : (v : Version) (topics n : ℕ) (parts : List PublisherPart) → n + length parts ≤ 1024 → length (flat_map publisher_lines parts) ≤ 67108864
    → AllByRecursion (IsPublisherSound v) parts → AllByRecursion (IsPublisherWithin topics) parts → AllByRecursion (IsSender (nums_of v)) (publishers_from n parts)
senders_from v topics n [] low short sound within = tt
senders_from v topics n (part ∷ parts) low short sound within =
    let both = length-append (publisher_lines part) (flat_map publisher_lines parts) in (
      sender_fits v topics n part (omega arith) (omega arith) sound.0 within.0,
      senders_from v topics (suc n) parts (omega arith) (omega arith) sound.1 within.1,
    )

pub senders_fit : (script : ScriptData) → IsScript script → IsWithin script → length (script_text script) ≤ 67108864
    → AllByRecursion (IsSender (nums_of script.version)) (publishers_from 0 script.publishers)
senders_fit script is within short =
    let part : length (flat_map publisher_lines script.publishers) ≤ length (script_text script) =
    part_few (first_line (version_of (lines_of script)) ++ 10 ∷ []) (strategy_lines script.version script.shape.strategy) (lines.Queues script.shape.bounds.queues) (map topic_line script.topics)
    (flat_map publisher_lines script.publishers) (flat_map client_lines script.clients ++ last_lines script.groups script.watches) in
    senders_from script.version (length script.topics) 0 script.publishers (omega (arith, within.publishers_few)) (omega arith)
    (publishers_sound script is) within.publishers

-- ---- what a publisher puts

-- the first lines have at most as many updates as all
updates-within : (ls : List SendLine) (k : ℕ) → length (updates_of (take k ls)) ≤ length (updates_of ls)
updates-within ls zero = omega arith
updates-within [] (suc k) = omega arith
updates-within (SendLine.Update body ∷ ls) (suc k) = let later = updates-within ls k in omega arith
updates-within (SendLine.Recap ∷ ls) (suc k) = updates-within ls k

-- what a line sends is one of the updates
update_body : (nums : Nums) (ls : List SendLine) (k : ℕ) (body : List FieldData) → slice_get ls k ≡ Some (SendLine.Update body)
    → AllByRecursion (IsBody nums) (updates_of ls) → IsBody nums body
update_body nums [] k body next all = absurd cc
update_body nums (SendLine.Update b ∷ ls) zero body next all = let same : b ≡ body = cc in subst (IsBody nums) same all.0
update_body nums (SendLine.Recap ∷ ls) zero body next all = absurd cc
update_body nums (SendLine.Update b ∷ ls) (suc k) body next all = update_body nums ls k body next all.1
update_body nums (SendLine.Recap ∷ ls) (suc k) body next all = update_body nums ls k body next all

module _ (names : NamesData) (publisher : PublisherScript) (is : IsSender names.nums publisher) where
  -- the number of a message is that of the updates that the journal has sent
  sound : (journal : List PublisherEntry) (k : MsgKind) (body : List FieldData) → IsBody names.nums body
      → IsSound names.nums (message_of publisher.number k (updates_sent publisher journal) body)
  sound journal k body fits =
      let most : updates_sent publisher journal ≤ length (updates_of publisher.lines) = updates-within publisher.lines (count_of is_send journal) in
      let next : suc (updates_sent publisher journal) < 2 ^ 32 = omega (arith, is.few) in
      record { msg = record { sender = is.number; seq = omega arith; body = fits }; next = next }

  -- the record at any time is one of those that fit
  record_fits : (journal : List PublisherEntry) → IsBody names.nums (record_at publisher journal)
  record_fits journal = is.records (updates_sent publisher journal) (updates-within publisher.lines (count_of is_send journal))

  answers_fit : (before : List PublisherEntry) (n : PublisherNote) → IsPublisherNote names n
      → AllByRecursion (PublisherPut names) (answer_of publisher.number (record_at publisher before) (updates_sent publisher before) n)
  answers_fit before (note.Want sub k) fits = ((fits.0, sound before k (record_at publisher before) (record_fits before)), tt)
  answers_fit before (note.Ask inbox fids) fits = ((fits.0, asked_body names.nums fids (record_at publisher before) fits.1 (record_fits before).message), tt)
  answers_fit before note.Settle fits = (tt, tt)
  answers_fit before note.Fin fits = tt

  sends_fit : (before : List PublisherEntry) (line : Option SendLine) → slice_get publisher.lines (count_of is_send before) ≡ line
      → AllByRecursion (PublisherPut names)
      (sent_of publisher.number (record_at publisher (before ++ entry.Send ∷ [])) (updates_sent publisher (before ++ entry.Send ∷ [])) line)
  sends_fit before (Some (SendLine.Update body)) next =
      (sound (before ++ entry.Send ∷ []) kind.Update body (update_body names.nums publisher.lines (count_of is_send before) body next is.updates), tt)
  sends_fit before (Some SendLine.Recap) next =
      (sound (before ++ entry.Send ∷ []) kind.Recap (record_at publisher (before ++ entry.Send ∷ [])) (record_fits (before ++ entry.Send ∷ [])), tt)
  sends_fit before None next = tt

  puts_fit : (before : List PublisherEntry) (e : PublisherEntry) → AllByRecursion (IsPublisherNote names) (taken_in e)
      → AllByRecursion (PublisherPut names) (publisher_puts_at publisher before e)
  puts_fit before entry.Send fits = sends_fit before (slice_get publisher.lines (count_of is_send before)) refl
  puts_fit before entry.Done fits = (tt, tt)
  puts_fit before (entry.Took n) fits = answers_fit before n fits.0

pub publisher_fits : (names : NamesData) (publisher : PublisherScript) → IsSender names.nums publisher → (journal : List PublisherEntry)
    → AllByRecursion (IsPublisherNote names) (taken_by journal) → AllByRecursion (PublisherPut names) (publisher_puts publisher journal)
publisher_fits names publisher is journal taken =
    all_puts_after (λ (e : PublisherEntry). AllByRecursion (IsPublisherNote names) (taken_in e)) (PublisherPut names) (publisher_puts_at publisher)
    (puts_fit names publisher is) [] journal (all_parts (IsPublisherNote names) taken_in journal taken)
