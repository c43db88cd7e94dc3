-- The entries of a publisher's journal: what is read is so spelled, and what is so spelled is read.
use Rattle.std.proofs.Common.{◌≡◌, ℕ, List, [], ◌∷◌, ◌++◌, map, Ok, refl, sym, ap, subst, ◌∙◌}
use Rattle.std.specs.Prelude.{codes}
use Rattle.mama_edge.specs.Decimal.{decimal}
use Rattle.mama_event.specs.declared.to_publisher.PublisherNote.{PublisherNote}
use Rattle.mama_event.specs.declared.to_publisher.PublisherNote.TheVariants as p
use Rattle.mama_event.specs.declared.publisher_entry.PublisherEntry.{PublisherEntry}
use Rattle.mama_event.specs.declared.publisher_entry.PublisherEntry.TheVariants.{Send, Done, Took}
use Rattle.mama_words.specs.Id.{sub_word, inbox_word, sub_text, inbox_text}
use Rattle.mama_words.specs.Kind.{msg_kind_text}
use Rattle.mama_words.specs.Sentence.{sentence}
use Rattle.mama_words.specs.WordForm.{AreWords}
use Rattle.mama_words.proofs.Choices.{ok_is, bind_ok, step_ok}
use Rattle.mama_words.proofs.Spellings.{id_word, msg_kind_word}
use Rattle.mama_record.specs.LogText.{publisher_entry_text, publisher_entry_line}
use Rattle.mama_log_line.specs.declared.head.Head.{Head}
use Rattle.mama_log_line.specs.declared.head.Head.TheVariants as heads
use Rattle.mama_log_line.specs.Head.{head_text, head_in}
use Rattle.mama_log_line.specs.Names.{NamesData}
use Rattle.mama_log_line.specs.Word.{sub_in, inbox_in, few_fids_in, wanted_in}
use Rattle.mama_log_line.specs.Entering.{MayEnterPublisher}
use Rattle.mama_log_line.specs.Journal.{alone_in, want_in, asked_of_in, publisher_body_in, publisher_words_in, publisher_line_in}
use Rattle.mama_log_line.proofs.Heads.{head_again, head_found}
use Rattle.mama_log_line.proofs.WordLaws.{sub_fits, sub_again, sub_found, inbox_fits, inbox_again, inbox_found, few_fids_again, few_fids_found, wanted_again, wanted_found}
use Rattle.mama_log_line.proofs.LineLaws.{head_word, fid_words, numbers_row, last_word, alone_found, alone_again, line_found, line_again}

abbrev head_of : PublisherEntry → Head
head_of Send = heads.Send
head_of Done = heads.Done
head_of (Took (p.Want sub kind)) = heads.Want
head_of (Took (p.Ask inbox fids)) = heads.Ask
head_of (Took p.Settle) = heads.Settle
head_of (Took p.Fin) = heads.Fin

-- the words behind the head
abbrev rest_of : PublisherEntry → List (List ℕ)
rest_of Send = []
rest_of Done = []
rest_of (Took (p.Want sub kind)) = sub_text sub ∷ msg_kind_text kind ∷ []
rest_of (Took (p.Ask inbox fids)) = inbox_text inbox ∷ map decimal fids
rest_of (Took p.Settle) = []
rest_of (Took p.Fin) = []

abbrev words_of : PublisherEntry → List (List ℕ)
words_of e = head_text (head_of e) ∷ rest_of e

row : (e : PublisherEntry) → publisher_entry_text e ≡ sentence (words_of e)
row Send = refl
row Done = refl
row (Took (p.Want sub kind)) = ap (λ (t : List ℕ). codes "want " ++ (sub_text sub ++ 32 ∷ t)) (last_word (msg_kind_text kind))
row (Took (p.Ask inbox fids)) = ap (λ (t : List ℕ). codes "ask " ++ (inbox_text inbox ++ t)) (numbers_row fids)
row (Took p.Settle) = refl
row (Took p.Fin) = refl

are_words : (names : NamesData) (e : PublisherEntry) → MayEnterPublisher names e → AreWords (words_of e)
are_words names Send h = (head_word heads.Send, tt)
are_words names Done h = (head_word heads.Done, tt)
are_words names (Took (p.Want sub kind)) h = (head_word heads.Want, (id_word 115 (sub_word sub) refl (sub_fits names sub h.0), (msg_kind_word kind, tt)))
are_words names (Took (p.Ask inbox fids)) h = (head_word heads.Ask, (id_word 105 (inbox_word inbox) refl (inbox_fits names inbox h.0), fid_words fids h.1.small))
are_words names (Took p.Settle) h = (head_word heads.Settle, tt)
are_words names (Took p.Fin) h = (head_word heads.Fin, tt)

body_again : (names : NamesData) (e : PublisherEntry) → MayEnterPublisher names e → publisher_body_in names (head_of e) (rest_of e) ≡ Ok e
body_again names Send h = alone_again Send
body_again names Done h = alone_again Done
body_again names (Took (p.Want sub kind)) h = unfold want_in in rw (sub_again names sub h.0, wanted_again kind h.1) refl
body_again names (Took (p.Ask inbox fids)) h = unfold asked_of_in in rw (inbox_again names inbox h.0, few_fids_again fids h.1) refl
body_again names (Took p.Settle) h = alone_again (Took p.Settle)
body_again names (Took p.Fin) h = alone_again (Took p.Fin)

-- an entry that begins with this head, whose other words are these
abbrev Spelled : NamesData → Head → List (List ℕ) → PublisherEntry → Type 0
Spelled names head ws e = MayEnterPublisher names e × (head_text head ∷ ws ≡ words_of e)

alone_is : (names : NamesData) (x e : PublisherEntry) (ws : List (List ℕ)) → MayEnterPublisher names x → rest_of x ≡ [] → alone_in x ws ≡ Ok e → Spelled names (head_of x) ws e
alone_is names x e ws may none h =
    let a = alone_found x ws e h in
    subst (λ (y : PublisherEntry). Spelled names (head_of x) ws y) a.0 (may, ap (λ (r : List (List ℕ)). head_text (head_of x) ∷ r) (a.1 ∙ sym none))

want_found : (names : NamesData) (ws : List (List ℕ)) (e : PublisherEntry) → want_in names ws ≡ Ok e → Spelled names heads.Want ws e
unfolding want_in
want_found names [] e h = absurd cc
want_found names (a ∷ []) e h = absurd cc
want_found names (sub ∷ kind ∷ []) e h =
    let s = bind_ok (sub_in names sub) _ e h in
    let k = step_ok 4 (wanted_in kind) _ e s.2 in
    let sub_is = sub_found names sub s.0 s.1 in
    let kind_is = wanted_found kind k.0 k.1 in
    subst (λ (y : PublisherEntry). Spelled names heads.Want (sub ∷ kind ∷ []) y) (ok_is (Took (p.Want s.0 k.0)) e k.2)
    ((sub_is.0, kind_is.0), ap (λ (x : List ℕ). codes "want" ∷ x ∷ kind ∷ []) sub_is.1 ∙ ap (λ (x : List ℕ). codes "want" ∷ sub_text s.0 ∷ x ∷ []) kind_is.1)
want_found names (a ∷ b ∷ c ∷ ws) e h = absurd cc

ask_found : (names : NamesData) (ws : List (List ℕ)) (e : PublisherEntry) → asked_of_in names ws ≡ Ok e → Spelled names heads.Ask ws e
unfolding asked_of_in
ask_found names [] e h = absurd cc
ask_found names (inbox ∷ fids) e h =
    let i = bind_ok (inbox_in names inbox) _ e h in
    let f = bind_ok (few_fids_in fids) _ e i.2 in
    let inbox_is = inbox_found names inbox i.0 i.1 in
    let fids_is = few_fids_found fids f.0 f.1 in
    subst (λ (y : PublisherEntry). Spelled names heads.Ask (inbox ∷ fids) y) (ok_is (Took (p.Ask i.0 f.0)) e f.2)
    ((inbox_is.0, fids_is.0), ap (λ (x : List ℕ). codes "ask" ∷ x ∷ fids) inbox_is.1 ∙ ap (λ (x : List (List ℕ)). codes "ask" ∷ inbox_text i.0 ∷ x) fids_is.1)

body_found : (names : NamesData) (head : Head) (ws : List (List ℕ)) (e : PublisherEntry) → publisher_body_in names head ws ≡ Ok e → Spelled names head ws e
body_found names heads.Send ws e h = alone_is names Send e ws tt refl h
body_found names heads.Done ws e h = alone_is names Done e ws tt refl h
body_found names heads.Want ws e h = want_found names ws e h
body_found names heads.Ask ws e h = ask_found names ws e h
body_found names heads.Settle ws e h = alone_is names (Took p.Settle) e ws tt refl h
body_found names heads.Fin ws e h = alone_is names (Took p.Fin) e ws tt refl h
body_found names _ ws e h = absurd cc

words_found : (names : NamesData) (ws : List (List ℕ)) (e : PublisherEntry) → publisher_words_in names ws ≡ Ok e → MayEnterPublisher names e × (ws ≡ words_of e)
unfolding publisher_words_in
words_found names [] e h = absurd cc
words_found names (head ∷ ws) e h =
    let p = step_ok 3 (head_in head) (λ head. publisher_body_in names head ws) e h in
    let q = body_found names p.0 ws e p.2 in
    (q.0, ap (λ (w : List ℕ). w ∷ ws) (head_found head p.0 p.1) ∙ q.1)

words_again : (names : NamesData) (e : PublisherEntry) → MayEnterPublisher names e → publisher_words_in names (words_of e) ≡ Ok e
unfolding publisher_words_in
words_again names e h = rw (head_again (head_of e)) (body_again names e h)

pub publisher_found : (names : NamesData) (line : List ℕ) (e : PublisherEntry) → publisher_line_in names line ≡ Ok e → MayEnterPublisher names e × (line ++ 10 ∷ [] ≡ publisher_entry_line e)
unfolding publisher_line_in
publisher_found names line e h =
    let p = line_found (publisher_words_in names) line e h in
    let q = words_found names p.0 e p.2 in
    (q.0, ap (λ (t : List ℕ). t ++ 10 ∷ []) (p.1 ∙ ap sentence q.1 ∙ sym (row e)))

pub publisher_again : (names : NamesData) (line : List ℕ) (e : PublisherEntry) → MayEnterPublisher names e → line ++ 10 ∷ [] ≡ publisher_entry_line e → publisher_line_in names line ≡ Ok e
unfolding publisher_line_in
publisher_again names line e may same =
    line_again (publisher_words_in names) (head_text (head_of e)) (rest_of e) (publisher_entry_text e) line e (are_words names e may) (row e) (words_again names e may) same
