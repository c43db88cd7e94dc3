-- What one publisher sends to a subscription is in order, and what goes into the link is a stretch of it.
use Rattle.std.specs.Prelude.{is_some, slice_get, slice_index, slice_index_or, Option, Some, None, if◌then◌else◌, ◌⊎◌}
use Rattle.std.specs.List.{AllByRecursion, flat_map, list_any}
use Rattle.std.proofs.Common.{◌≡◌, ℕ, zero, suc, ◌+◌, ◌<◌, ◌==◌, Bool, true, false, cond, not, ◌&&◌, ◌||◌, List, [], ◌∷◌, ◌++◌, length, take, refl, sym, ◌∙◌, ap, subst, ⊎_elim, append_assoc, append-nil, zero-add}
use Rattle.std.proofs.lemmas.List.Concat.{flat_map-append}
use Rattle.std.proofs.lemmas.Bool.{both_ways, and_parts}
use Rattle.std.proofs.lemmas.Bool.Decides.{Decides-eqb}
use Rattle.mama_journal.specs.Journal.{count_of, puts_after, first_said}
use Rattle.mama_journal.specs.Lane.{by_port}
use Rattle.mama_msg.specs.Field.{FieldData}
use Rattle.mama_event.specs.Object.{same_sub}
use Rattle.mama_event.specs.Ports.{publishers_of, bridge_port_of_publisher}
use Rattle.mama_event.specs.Publisher.{SendLine, PublisherScript, is_send, updates_of, updates_sent, record_at, message_of, answer_of, sent_of, publisher_puts_at, publisher_puts}
use Rattle.mama_event.specs.declared.ids.SubId.{SubId}
use Rattle.mama_event.specs.declared.shape.Shape.{Shape}
use Rattle.mama_event.specs.declared.market.MarketMsg.{MarketMsg}
use Rattle.mama_event.specs.declared.market.MsgKind.{MsgKind}
use Rattle.mama_event.specs.declared.market.MsgKind.TheVariants as kind
use Rattle.mama_event.specs.declared.to_bridge.SubTerms.{SubTerms}
use Rattle.mama_event.specs.declared.to_bridge.BridgeNote.{BridgeNote}
use Rattle.mama_event.specs.declared.to_bridge.BridgeNote.TheVariants as b
use Rattle.mama_event.specs.declared.to_publisher.PublisherNote.{PublisherNote}
use Rattle.mama_event.specs.declared.to_publisher.PublisherNote.TheVariants as note
use Rattle.mama_event.specs.declared.publisher_entry.PublisherEntry.{PublisherEntry}
use Rattle.mama_event.specs.declared.publisher_entry.PublisherEntry.TheVariants as entry
use Rattle.mama_dq.specs.Orderly.{number_after, AreInOrder}
use Rattle.mama_publisher.proofs.Sending.{count_of-send, updates_sent-update, updates_sent-recap, updates_sent-other}
use Rattle.mama_rules_services.specs.Ports.{Putter, bridge_putter}
use Rattle.mama_rules_services.specs.Bridge.{BridgeEvent, put_by, heard, terms_in, joins_sub, leaves_sub, lives, has_ending, is_live, sent_to, sent_with, window, from_publisher}
use Rattle.std.specs.Option.{option_or}
use Rattle.mama_rules_rounds.specs.Setting.{no_section}
use Rattle.mama_rules_rounds.specs.Sections.{publishers_from, setting_of}
use Rattle.mama_rules_legal.specs.Edges.{client_puts, put_on_bridge}
use Rattle.mama_laws_genuine.specs.Order.{WindowsAreInOrder}
use Rattle.mama_laws_genuine.proofs.Lines.{length-publishers, number-publishers}
use Rattle.mama_laws_genuine.proofs.Edged.{plain}
use Rattle.mama_laws_genuine.proofs.Telling.{said_first}
use Rattle.mama_laws_legal.proofs.Lives.{any_last, lives-push, lives_came}
use Rattle.mama_laws_legal.proofs.Heard.{putter_publisher}
use Rattle.mama_laws_legal.proofs.Endings.{ending_stays}
use Rattle.mama_laws_genuine.proofs.Carried.{IsImageKind, AsksImage, IsPlainEntry}

-- ---- messages in order

-- the number of the last update after some messages
abbrev after_numbers : ℕ → List MarketMsg → ℕ
after_numbers n [] = n
after_numbers n (m ∷ ms) = after_numbers (number_after m.kind n) ms

-- messages in order from n on, which end at a number
record InStep (sender n end : ℕ) (ms : List MarketMsg) : Type 0 where
  pub order : AreInOrder sender n ms
  pub ends : after_numbers n ms ≡ end

order-append : (sender n : ℕ) (xs ys : List MarketMsg) → AreInOrder sender n xs → AreInOrder sender (after_numbers n xs) ys → AreInOrder sender n (xs ++ ys)
order-append sender n [] ys one two = two
order-append sender n (m ∷ xs) ys one two = (one.0, order-append sender (number_after m.kind n) xs ys one.1 two)

pub order_first : (sender n : ℕ) (xs ys : List MarketMsg) → AreInOrder sender n (xs ++ ys) → AreInOrder sender n xs
order_first sender n [] ys all = tt
order_first sender n (m ∷ xs) ys all = (all.0, order_first sender (number_after m.kind n) xs ys all.1)

order_last : (sender n : ℕ) (xs ys : List MarketMsg) → AreInOrder sender n (xs ++ ys) → AreInOrder sender (after_numbers n xs) ys
order_last sender n [] ys all = all
order_last sender n (m ∷ xs) ys all = order_last sender (number_after m.kind n) xs ys all.1

step_none : (sender n end : ℕ) → n ≡ end → InStep sender n end []
step_none sender n end is = record { order = tt; ends = is }

step_one : (sender n end : ℕ) (m : MarketMsg) → m.sender ≡ sender → m.seq ≡ number_after m.kind n → number_after m.kind n ≡ end → InStep sender n end (m ∷ [])
step_one sender n end m own number is = record { order = (record { own = own; number = number }, tt); ends = is }

step_if : (c : Bool) (sender n end : ℕ) (m : MarketMsg) → n ≡ end → InStep sender n end (m ∷ []) → InStep sender n end (if c then m ∷ [] else [])
step_if true sender n end m is one = one
step_if false sender n end m is one = step_none sender n end is

-- ---- what a publisher sends

updates_past : (lines : List SendLine) (k : ℕ) → slice_get lines k ≡ None → updates_of (take (suc k) lines) ≡ updates_of (take k lines)
updates_past [] zero h = refl
updates_past [] (suc k) h = refl
updates_past (l ∷ lines) zero h = absurd cc
updates_past (SendLine.Update body ∷ lines) (suc k) h = ap (λ (us : List (List FieldData)). body ∷ us) (updates_past lines k h)
updates_past (SendLine.Recap ∷ lines) (suc k) h = updates_past lines k h

updates_sent-past : (publisher : PublisherScript) (journal : List PublisherEntry) → slice_get publisher.lines (count_of is_send journal) ≡ None
    → updates_sent publisher (journal ++ entry.Send ∷ []) ≡ updates_sent publisher journal
updates_sent-past publisher journal past =
    ap (λ (k : ℕ). length (updates_of (take k publisher.lines))) (count_of-send journal)
    ∙ ap (λ (us : List (List FieldData)). length us) (updates_past publisher.lines (count_of is_send journal) past)

module _ (shape : Shape) (s : SubId) (p : ℕ) (publisher : PublisherScript) where
  -- what a note of this publisher sends to a subscription on its topic
  abbrev topic : ℕ
  topic = slice_index shape.publisher_topics p

  abbrev sends : BridgeNote → List MarketMsg
  sends n = sent_to shape s topic (from_publisher p n)

  abbrev Step : List PublisherEntry → PublisherEntry → List BridgeNote → Type 0
  Step before e notes = InStep (publisher.number + 1) (updates_sent publisher before) (updates_sent publisher (before ++ e ∷ [])) (flat_map sends notes)

  published : (before : List PublisherEntry) (e : PublisherEntry) (m : MarketMsg)
      → InStep (publisher.number + 1) (updates_sent publisher before) (updates_sent publisher (before ++ e ∷ [])) (m ∷ []) → Step before e (b.Publish m ∷ [])
  published before e m one =
      subst (λ (c : Bool). InStep (publisher.number + 1) (updates_sent publisher before) (updates_sent publisher (before ++ e ∷ [])) ((if c then m ∷ [] else []) ++ []))
      (sym ((Decides-eqb topic topic).1 refl)) one

  image_number : (k : MsgKind) (n : ℕ) → IsImageKind k → number_after k n ≡ n
  image_number kind.Initial n h = refl
  image_number kind.Recap n h = refl
  image_number kind.Update n h = absurd h

  took_step : (before : List PublisherEntry) (n : PublisherNote) → AsksImage n
      → Step before (entry.Took n) (answer_of publisher.number (record_at publisher before) (updates_sent publisher before) n)
  took_step before (note.Want r k) h =
      let same : updates_sent publisher before ≡ updates_sent publisher (before ++ entry.Took (note.Want r k) ∷ []) = sym (updates_sent-other publisher before (entry.Took (note.Want r k)) refl) in
      let m : MarketMsg = message_of publisher.number k (updates_sent publisher before) (record_at publisher before) in
      subst (InStep (publisher.number + 1) (updates_sent publisher before) (updates_sent publisher (before ++ entry.Took (note.Want r k) ∷ []))) (sym (append-nil (if same_sub r s then m ∷ [] else [])))
      (step_if (same_sub r s) (publisher.number + 1) (updates_sent publisher before) (updates_sent publisher (before ++ entry.Took (note.Want r k) ∷ [])) m same
      (step_one (publisher.number + 1) (updates_sent publisher before) (updates_sent publisher (before ++ entry.Took (note.Want r k) ∷ [])) m refl
      (sym (image_number k (updates_sent publisher before) h)) (image_number k (updates_sent publisher before) h ∙ same)))
  took_step before (note.Ask inbox fids) h =
      step_none (publisher.number + 1) (updates_sent publisher before) (updates_sent publisher (before ++ entry.Took (note.Ask inbox fids) ∷ [])) (sym (updates_sent-other publisher before (entry.Took (note.Ask inbox fids)) refl))
  took_step before note.Settle h =
      step_none (publisher.number + 1) (updates_sent publisher before) (updates_sent publisher (before ++ entry.Took note.Settle ∷ [])) (sym (updates_sent-other publisher before (entry.Took note.Settle) refl))
  took_step before note.Fin h =
      step_none (publisher.number + 1) (updates_sent publisher before) (updates_sent publisher (before ++ entry.Took note.Fin ∷ [])) (sym (updates_sent-other publisher before (entry.Took note.Fin) refl))

  sent_step : (before : List PublisherEntry) (line : Option SendLine) → slice_get publisher.lines (count_of is_send before) ≡ line
      → Step before entry.Send (sent_of publisher.number (record_at publisher (before ++ entry.Send ∷ [])) (updates_sent publisher (before ++ entry.Send ∷ [])) line)
  sent_step before (Some (SendLine.Update body)) next =
      published before entry.Send (message_of publisher.number kind.Update (updates_sent publisher (before ++ entry.Send ∷ [])) body)
      (step_one (publisher.number + 1) (updates_sent publisher before) (updates_sent publisher (before ++ entry.Send ∷ []))
      (message_of publisher.number kind.Update (updates_sent publisher (before ++ entry.Send ∷ [])) body) refl
      (updates_sent-update publisher before body next) (sym (updates_sent-update publisher before body next)))
  sent_step before (Some SendLine.Recap) next =
      published before entry.Send (message_of publisher.number kind.Recap (updates_sent publisher (before ++ entry.Send ∷ [])) (record_at publisher (before ++ entry.Send ∷ [])))
      (step_one (publisher.number + 1) (updates_sent publisher before) (updates_sent publisher (before ++ entry.Send ∷ []))
      (message_of publisher.number kind.Recap (updates_sent publisher (before ++ entry.Send ∷ [])) (record_at publisher (before ++ entry.Send ∷ []))) refl
      (updates_sent-recap publisher before next) (sym (updates_sent-recap publisher before next)))
  sent_step before None next =
      step_none (publisher.number + 1) (updates_sent publisher before) (updates_sent publisher (before ++ entry.Send ∷ [])) (sym (updates_sent-past publisher before next))

  entry_step : (before : List PublisherEntry) (e : PublisherEntry) → IsPlainEntry e → Step before e (publisher_puts_at publisher before e)
  entry_step before entry.Send h = sent_step before (slice_get publisher.lines (count_of is_send before)) refl
  entry_step before entry.Done h =
      step_none (publisher.number + 1) (updates_sent publisher before) (updates_sent publisher (before ++ entry.Done ∷ [])) (sym (updates_sent-other publisher before entry.Done refl))
  entry_step before (entry.Took n) h = took_step before n h

  puts_ordered : (before es : List PublisherEntry) → AllByRecursion IsPlainEntry es
      → AreInOrder (publisher.number + 1) (updates_sent publisher before) (flat_map sends (puts_after (publisher_puts_at publisher) before es))
  puts_ordered before [] all = tt
  puts_ordered before (e ∷ es) all =
      let own : List BridgeNote = publisher_puts_at publisher before e in
      let rest : List BridgeNote = puts_after (publisher_puts_at publisher) (before ++ e ∷ []) es in
      let step : Step before e own = entry_step before e all.0 in
      subst (AreInOrder (publisher.number + 1) (updates_sent publisher before)) (sym (flat_map-append sends own rest))
      (order-append (publisher.number + 1) (updates_sent publisher before) (flat_map sends own) (flat_map sends rest) step.order
      (subst (λ (n : ℕ). AreInOrder (publisher.number + 1) n (flat_map sends rest)) (sym step.ends) (puts_ordered (before ++ e ∷ []) es all.1)))

-- ---- what a subscription is sent

module _ (shape : Shape) (s : SubId) (p wanted : ℕ) (known : p < publishers_of shape) where
  -- where one publisher alone feeds a subscription, what is sent to it is what that publisher's port brought
  fed : (journal : List (ℕ × BridgeNote))
      → AllByRecursion (λ (e : ℕ × BridgeNote). (sent_to shape s wanted (put_by (bridge_putter shape e.0) e.1) ≡ []) ⊎ (e.0 ≡ bridge_port_of_publisher shape p)) journal
      → flat_map (sent_to shape s wanted) (heard shape journal)
      ≡ flat_map (λ (n : BridgeNote). sent_to shape s wanted (from_publisher p n)) (by_port (bridge_port_of_publisher shape p) journal)
  fed [] all = refl
  fed (e ∷ journal) all = by_case (e.0 == bridge_port_of_publisher shape p) refl (fed journal all.1)
    where
      by_case : (c : Bool) → (e.0 == bridge_port_of_publisher shape p) ≡ c
          → flat_map (sent_to shape s wanted) (heard shape journal) ≡ flat_map (λ (n : BridgeNote). sent_to shape s wanted (from_publisher p n)) (by_port (bridge_port_of_publisher shape p) journal)
          → sent_to shape s wanted (put_by (bridge_putter shape e.0) e.1) ++ flat_map (sent_to shape s wanted) (heard shape journal)
          ≡ flat_map (λ (n : BridgeNote). sent_to shape s wanted (from_publisher p n)) (if c then e.1 ∷ by_port (bridge_port_of_publisher shape p) journal else by_port (bridge_port_of_publisher shape p) journal)
      by_case true same ih =
          let here : e.0 ≡ bridge_port_of_publisher shape p = (Decides-eqb e.0 (bridge_port_of_publisher shape p)).0 same in
          let putter : put_by (bridge_putter shape e.0) e.1 ≡ from_publisher p e.1 =
          ap (λ (port : ℕ). put_by (bridge_putter shape port) e.1) here ∙ ap (λ (by : Putter). put_by by e.1) (putter_publisher shape p known) in
          ap (λ (event : BridgeEvent). sent_to shape s wanted event ++ flat_map (sent_to shape s wanted) (heard shape journal)) putter
          ∙ ap (λ (ms : List MarketMsg). sent_to shape s wanted (from_publisher p e.1) ++ ms) ih
      by_case false other ih =
          let none : sent_to shape s wanted (put_by (bridge_putter shape e.0) e.1) ≡ [] =
          ⊎_elim (λ none. none) (λ here. absurd (both_ways (e.0 == bridge_port_of_publisher shape p) other ((Decides-eqb e.0 (bridge_port_of_publisher shape p)).1 here))) all.0 in
          ap (λ (ms : List MarketMsg). ms ++ flat_map (sent_to shape s wanted) (heard shape journal)) none ∙ ih

-- ---- the window is a stretch of what is sent

-- what nothing says is not said
said_none : {E A : Type 0} (say : E → Option A) (es : List E) → first_said say es ≡ None → list_any (λ e. is_some (say e)) es ≡ false
said_none say [] h = refl
said_none say (e ∷ es) h =
    (elim (say e) as (λ o. option_or o (first_said say es) ≡ None → (is_some o || list_any (λ f. is_some (say f)) es) ≡ false) [
      | None ↦ λ none. said_none say es none
      | Some a ↦ λ some. absurd cc
    ]) h

module _ (shape : Shape) (s : SubId) where
  over_next : (es : List BridgeEvent) (e : BridgeEvent) → list_any (joins_sub s) es ≡ true → is_live shape s es ≡ false → is_live shape s (es ++ e ∷ []) ≡ false
  over_next es e joined over =
      ap (λ (l : Bool). l && not (has_ending shape (es ++ e ∷ []))) (lives-push (joins_sub s) (leaves_sub s) es e)
      ∙ ap (λ (j : Bool). cond j (lives (joins_sub s) (leaves_sub s) es && not (leaves_sub s e)) (joins_sub s e) && not (has_ending shape (es ++ e ∷ []))) joined
      ∙ by_case (lives (joins_sub s) (leaves_sub s) es) (has_ending shape es) refl over
    where
      by_case : (l h : Bool) → has_ending shape es ≡ h → (l && not h) ≡ false → ((l && not (leaves_sub s e)) && not (has_ending shape (es ++ e ∷ []))) ≡ false
      by_case false h is over = refl
      by_case true true is over = ap (λ (c : Bool). not (leaves_sub s e) && not c) (ending_stays shape es (e ∷ []) is) ∙ and_false (not (leaves_sub s e))
        where
          and_false : (c : Bool) → (c && false) ≡ false
          and_false true = refl
          and_false false = refl
      by_case true false is over = absurd cc

  joined_next : (es : List BridgeEvent) (e : BridgeEvent) → list_any (joins_sub s) es ≡ true → list_any (joins_sub s) (es ++ e ∷ []) ≡ true
  joined_next es e joined = any_last (joins_sub s) es e ∙ ap (λ (c : Bool). c || joins_sub s e) joined

  abbrev taken : List BridgeEvent → BridgeEvent → List MarketMsg
  taken before e = if is_live shape s before then sent_with shape s (first_said (terms_in s) before) e else []

  over_window : (before es : List BridgeEvent) → list_any (joins_sub s) before ≡ true → is_live shape s before ≡ false → puts_after taken before es ≡ []
  over_window before [] joined over = refl
  over_window before (e ∷ es) joined over =
      ap (λ (c : Bool). (if c then sent_with shape s (first_said (terms_in s) before) e else []) ++ puts_after taken (before ++ e ∷ []) es) over
      ∙ over_window (before ++ e ∷ []) es (joined_next before e joined) (over_next before e joined over)

  module _ (terms : SubTerms) where
    abbrev sent : BridgeEvent → List MarketMsg
    sent e = sent_to shape s terms.topic e

    joined_live : (before : List BridgeEvent) → is_live shape s before ≡ true → list_any (joins_sub s) before ≡ true
    joined_live before live = lives_came (joins_sub s) (leaves_sub s) before (and_parts (lives (joins_sub s) (leaves_sub s) before) (not (has_ending shape before)) live).0

    said_live : (before es : List BridgeEvent) → first_said (terms_in s) (before ++ es) ≡ Some terms → is_live shape s before ≡ true → first_said (terms_in s) before ≡ Some terms
    said_live before es said live =
        ⊎_elim (λ none. absurd (both_ways (list_any (joins_sub s) before) (said_none (terms_in s) before none) (joined_live before live))) (λ same. same ∙ said) (said_first (terms_in s) before es)

    taken_live : (before : List BridgeEvent) (e : BridgeEvent) → first_said (terms_in s) before ≡ Some terms → is_live shape s before ≡ true → taken before e ≡ sent e
    taken_live before e said live =
        ap (λ (c : Bool). if c then sent_with shape s (first_said (terms_in s) before) e else []) live ∙ ap (λ (t : Option SubTerms). sent_with shape s t e) said

    said_on : (before es : List BridgeEvent) (e : BridgeEvent) → first_said (terms_in s) (before ++ e ∷ es) ≡ Some terms → first_said (terms_in s) ((before ++ e ∷ []) ++ es) ≡ Some terms
    said_on before es e said = ap (λ (all : List BridgeEvent). first_said (terms_in s) all) (append_assoc before (e ∷ []) es) ∙ said

    -- from a moment when it is live on, a beginning of what is sent
    live_stretch : (before es : List BridgeEvent) → first_said (terms_in s) (before ++ es) ≡ Some terms → is_live shape s before ≡ true
        → (back : List MarketMsg) × (flat_map sent es ≡ puts_after taken before es ++ back)
    live_stretch before [] said live = ([], refl)
    live_stretch before (e ∷ es) said live = by_case (is_live shape s (before ++ e ∷ [])) refl (live_stretch (before ++ e ∷ []) es (said_on before es e said))
      where
        own : taken before e ≡ sent e
        own = taken_live before e (said_live before (e ∷ es) said live) live

        by_case : (l : Bool) → is_live shape s (before ++ e ∷ []) ≡ l
            → (is_live shape s (before ++ e ∷ []) ≡ true → (back : List MarketMsg) × (flat_map sent es ≡ puts_after taken (before ++ e ∷ []) es ++ back))
            → (back : List MarketMsg) × (sent e ++ flat_map sent es ≡ (taken before e ++ puts_after taken (before ++ e ∷ []) es) ++ back)
        by_case true is ih =
            let rest = ih is in (
              rest.0,
              ap (λ (ms : List MarketMsg). sent e ++ ms) rest.1 ∙ sym (append_assoc (sent e) (puts_after taken (before ++ e ∷ []) es) rest.0)
                  ∙ ap (λ (ms : List MarketMsg). (ms ++ puts_after taken (before ++ e ∷ []) es) ++ rest.0) (sym own),
            )
        by_case false is ih = (
          flat_map sent es,
          ap (λ (ms : List MarketMsg). ms ++ flat_map sent es) (sym (append-nil (sent e)) ∙ ap (λ (ms : List MarketMsg). ms ++ []) (sym own)
              ∙ ap (λ (ms : List MarketMsg). taken before e ++ ms) (sym (over_window (before ++ e ∷ []) es (joined_next before e (joined_live before live)) is))),
        )

    -- what it takes is a stretch of what is sent
    stretch : (before es : List BridgeEvent) → first_said (terms_in s) (before ++ es) ≡ Some terms
        → (front : List MarketMsg) × (back : List MarketMsg) × (flat_map sent es ≡ front ++ (puts_after taken before es ++ back))
    stretch before [] said = ([], [], refl)
    stretch before (e ∷ es) said = by_case (is_live shape s before) refl (stretch (before ++ e ∷ []) es (said_on before es e said))
      where
        by_case : (l : Bool) → is_live shape s before ≡ l
            → (front : List MarketMsg) × (back : List MarketMsg) × (flat_map sent es ≡ front ++ (puts_after taken (before ++ e ∷ []) es ++ back))
            → (front : List MarketMsg) × (back : List MarketMsg) × (sent e ++ flat_map sent es ≡ front ++ ((taken before e ++ puts_after taken (before ++ e ∷ []) es) ++ back))
        by_case true is ih = let rest = live_stretch before (e ∷ es) said is in ([], rest.0, rest.1)
        by_case false is (front, back, eq) = (
          sent e ++ front,
          back,
          ap (λ (ms : List MarketMsg). sent e ++ ms) eq ∙ sym (append_assoc (sent e) front (puts_after taken (before ++ e ∷ []) es ++ back))
              ∙ ap (λ (c : Bool). (sent e ++ front) ++ (((if c then sent_with shape s (first_said (terms_in s) before) e else []) ++ puts_after taken (before ++ e ∷ []) es) ++ back)) (sym is),
        )

-- ---- the law

pub windows_are_in_order : WindowsAreInOrder
windows_are_in_order script run shaped edges s terms p said within fed_by =
    let shape : Shape = script.shape in
    let publisher : PublisherScript = slice_index_or (publishers_from 0 script.publishers) p no_section in
    let journal : List PublisherEntry = slice_index_or run.publishers p [] in
    let port : by_port (bridge_port_of_publisher shape p) run.bridge ≡ publisher_puts publisher journal =
    edges.bridge (bridge_port_of_publisher shape p)
    ∙ ap (λ (by : Putter). put_on_bridge (setting_of script) (client_puts script run.clients) run.publishers run.queues by) (putter_publisher shape p fed_by.known) in
    let all : flat_map (sent_to shape s terms.topic) (heard shape run.bridge) ≡ flat_map (sends shape s p publisher) (publisher_puts publisher journal) =
    fed shape s p terms.topic fed_by.known run.bridge fed_by.alone
    ∙ ap (λ (notes : List BridgeNote). flat_map (λ (n : BridgeNote). sent_to shape s terms.topic (from_publisher p n)) notes) port
    ∙ ap (λ (t : ℕ). flat_map (λ (n : BridgeNote). sent_to shape s t (from_publisher p n)) (publisher_puts publisher journal)) (sym fed_by.topic) in
    let known : p < length (publishers_from 0 script.publishers) = subst (λ (n : ℕ). p < n) (sym (length-publishers 0 script.publishers)) within in
    let number : publisher.number + 1 ≡ p + 1 = ap (λ (n : ℕ). n + 1) (number-publishers 0 script.publishers p known ∙ zero-add p) in
    let ordered : AreInOrder (publisher.number + 1) 0 (flat_map (sends shape s p publisher) (publisher_puts publisher journal)) =
    puts_ordered shape s p publisher [] journal (plain script run shaped edges p within) in
    let cut = stretch shape s terms [] (heard shape run.bridge) said in
    let taken_all : List MarketMsg = window shape s (heard shape run.bridge) in
    let whole : AreInOrder (p + 1) 0 (cut.0 ++ (taken_all ++ cut.1)) =
    subst (λ (sender : ℕ). AreInOrder sender 0 (cut.0 ++ (taken_all ++ cut.1))) number (subst (AreInOrder (publisher.number + 1) 0) (sym all ∙ cut.2) ordered) in
    (after_numbers 0 cut.0, order_first (p + 1) (after_numbers 0 cut.0) taken_all cut.1 (order_last (p + 1) 0 cut.0 (taken_all ++ cut.1) whole))
