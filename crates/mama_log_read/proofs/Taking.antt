-- One entry more is taken from the head of a text.
use Rattle.std.proofs.Common.{◌≡◌, ℕ, zero, suc, ◌+◌, ◌-◌, ◌<◌, ◌≤◌, false, List, [], ◌∷◌, ◌++◌, length, map, drop, Option, Some, None, inl, inr, refl, sym, ap, subst, ◌∙◌, append_assoc, length-append, arith}
use Rattle.std.specs.List.{flat_map, All}
use Rattle.std.proofs.lemmas.List.{append_cancel_right, append-nil, map_push}
use Rattle.std.proofs.lemmas.List.Elements.{All-push}
use Rattle.mama_words.specs.Parting.{cut_at}
use Rattle.std.specs.Prelude.{◌⊎◌, ◌≢◌, option_map, IfSome}
use Rattle.mama_words.proofs.Choices.{some_is}
use Rattle.mama_words.proofs.Cutting.{cut_at_again, cut_at_split, decimal_lacks}
use Rattle.std.proofs.lemmas.List.Concat.{flat_map-append}
use Rattle.std.proofs.lemmas.List.Elements.{recursion_from_All}
use Rattle.mama_words.proofs.Choices.{and_then_some}
use Rattle.mama_event.specs.declared.ids.SubId.{SubId}
use Rattle.mama_event.specs.declared.ids.ObjectId.{ObjectId}
use Rattle.mama_event.specs.declared.order.Order.{Order}
use Rattle.mama_event.specs.declared.callback.CallNote.{CallNote}
use Rattle.mama_record.specs.RunData.{LastImage}
use Rattle.mama_record.specs.LogText.{callback_text, call_texts, given_text, image_text, lines_text}
use Rattle.mama_log_line.specs.Names.{NamesData}
use Rattle.mama_log_line.specs.Entering.{MayHear, MayOrder, IsLastImage}
use Rattle.mama_log_read.specs.Logged.{MayCall}
use Rattle.mama_words.specs.declared.version.Version.{Version}
use Rattle.mama_edge.specs.Decimal.{decimal}
use Rattle.mama_log_read.specs.Section.{head_of, has_feed, HasPlainHead}
use Rattle.mama_log_read.specs.declared.section.Section.{Section}
use Rattle.mama_log_read.specs.declared.section.Told.{Told}
use Rattle.mama_log_read.specs.declared.section.Told.TheVariants as t
use Rattle.mama_log_read.proofs.Sections.{plain_join}
use Rattle.mama_log_read.proofs.Spelled.{plain_image}
use Rattle.mama_log_read.specs.Part.{behind, behind_all, ArePictures}
use Rattle.mama_log_read.specs.Reading.{IsTold, Begins, IsTally, Stops, AreTaken, AreOrdersTaken, room, IsCallTaken, AreCallsTaken, IsPicture, AreImagesTaken}
use Rattle.mama_log_read.proofs.Lines.{IsPlain, ArePlain, lines_text-append, first_line}

pub next_some : {A : Type 0} (May : A → Type 0) (body : A → List ℕ) (text line after : List ℕ) (x : A) → Some (line, after) ≡ cut_at 10 text → May x × (line ++ 10 ∷ [] ≡ body x ++ 10 ∷ []) → May x × (text ≡ body x ++ 10 ∷ after)
next_some May body text line after x cut found =
    (found.0, cut_at_split 10 text (line, after) (sym cut) ∙ ap (λ (l : List ℕ). l ++ 10 ∷ after) (append_cancel_right line (body x) (10 ∷ []) found.1))

pub next_other : {A : Type 0} (May : A → Type 0) (body : A → List ℕ) → ((x : A) → May x → IsPlain (body x)) → (text line after : List ℕ) → Some (line, after) ≡ cut_at 10 text
    → ((x : A) → May x → line ≡ body x → ⊥) → Stops May body text
next_other May body plain text line after cut other x more may e =
    let both : (line, after) ≡ (body x, more) = some_is (line, after) (body x, more) (cut ∙ ap (cut_at 10) e ∙ cut_at_again 10 (body x) more (plain x may)) in
    other x may (ap (λ (p : List ℕ × List ℕ). p.0) both)

no_cut : (x : List ℕ × List ℕ) → None ≡ Some x → ⊥
no_cut x e = cc

pub next_uncut : {A : Type 0} (May : A → Type 0) (body : A → List ℕ) → ((x : A) → May x → IsPlain (body x)) → (text : List ℕ) → None ≡ cut_at 10 text → Stops May body text
next_uncut May body plain text cut x more may e =
    no_cut (body x, more) (cut ∙ ap (cut_at 10) e ∙ cut_at_again 10 (body x) more (plain x may))

none_some : {A : Type 0} (x : A) → None ≡ Some x → ⊥
none_some x e = cc

-- the line spells no entry, since reading it gave none
pub unread : {A : Type 0} (May : A → Type 0) (body : A → List ℕ) (line : List ℕ) → ((x : A) → May x → line ++ 10 ∷ [] ≡ body x ++ 10 ∷ [] → None ≡ Some x) → (x : A) → May x → line ≡ body x → ⊥
unread May body line again x may e = none_some x (again x may (ap (λ (l : List ℕ). l ++ 10 ∷ []) e))

-- the entry that a line was read as
pub some_next : {A : Type 0} (May : A → Type 0) (body : A → List ℕ) (text line after : List ℕ) (o : Option A) (x : A) → Some (line, after) ≡ cut_at 10 text → o ≡ Some x → IfSome o (λ e. May e × (line ++ 10 ∷ [] ≡ body e ++ 10 ∷ [])) → May x × (text ≡ body x ++ 10 ∷ after)
some_next {A} May body text line after o x cut is found =
    let P : Option A → Type 0 = λ y. IfSome y (λ e. May e × (line ++ 10 ∷ [] ≡ body e ++ 10 ∷ [])) in
    next_some May body text line after x cut (subst P is found)

-- no entry, where the line was read as none
pub none_next : {A : Type 0} (May : A → Type 0) (body : A → List ℕ) → ((x : A) → May x → IsPlain (body x)) → (text line after : List ℕ) (o : Option A) → Some (line, after) ≡ cut_at 10 text → o ≡ None
    → ((x : A) → May x → line ++ 10 ∷ [] ≡ body x ++ 10 ∷ [] → o ≡ Some x) → Stops May body text
none_next May body plain text line after o cut is again = next_other May body plain text line after cut (unread May body line (λ x may e. sym is ∙ again x may e))

-- no image of an object that is to come, where the line was read as an image of none of them
pub none_behind_image : {Y : Type 0} (names : NamesData) (objects : List ObjectId) (view : Y → LastImage) (text line after : List ℕ) (o : Option Y) (y : Y) → Some (line, after) ≡ cut_at 10 text → o ≡ Some y → None ≡ behind objects (view y).sub
    → ((i : LastImage) → IsLastImage names i → line ++ 10 ∷ [] ≡ image_text i ++ 10 ∷ [] → option_map view o ≡ Some i) → Stops (IsPicture names objects) image_text text
none_behind_image {Y} names objects view text line after o y cut is none again =
    next_other (IsPicture names objects) image_text (λ i h. plain_image names i h.0) text line after cut (λ i h e.
    let same : Some (view y) ≡ Some i = sym (ap (option_map view) is) ∙ again i h.0 (ap (λ (l : List ℕ). l ++ 10 ∷ []) e) in
    let found : None ≡ Some h.1.0 = none ∙ ap (λ (x : LastImage). behind objects x.sub) (some_is (view y) i same) ∙ h.1.1 in
    none_some h.1.0 found)

pub none_next_image : {Y : Type 0} (names : NamesData) (objects : List ObjectId) (view : Y → LastImage) (text line after : List ℕ) (o : Option Y) → Some (line, after) ≡ cut_at 10 text → o ≡ None
    → ((i : LastImage) → IsLastImage names i → line ++ 10 ∷ [] ≡ image_text i ++ 10 ∷ [] → option_map view o ≡ Some i) → Stops (IsPicture names objects) image_text text
none_next_image {Y} names objects view text line after o cut is again =
    next_other (IsPicture names objects) image_text (λ i h. plain_image names i h.0) text line after cut (λ i h e.
    none_some i (sym (ap (option_map view) is) ∙ again i h.0 (ap (λ (l : List ℕ). l ++ 10 ∷ []) e)))

pub uncut_image : (names : NamesData) (objects : List ObjectId) (text : List ℕ) → None ≡ cut_at 10 text → Stops (IsPicture names objects) image_text text
uncut_image names objects text cut = next_uncut (IsPicture names objects) image_text (λ i h. plain_image names i h.0) text cut

pub image_next : {Y : Type 0} (names : NamesData) (objects left : List ObjectId) (view : Y → LastImage) (text line after : List ℕ) (o : Option Y) (y : Y) → Some (line, after) ≡ cut_at 10 text → o ≡ Some y → Some left ≡ behind objects (view y).sub
    → IfSome o (λ e. IsLastImage names (view e) × (line ++ 10 ∷ [] ≡ image_text (view e) ++ 10 ∷ [])) → IsLastImage names (view y) × (behind objects (view y).sub ≡ Some left) × (text ≡ image_text (view y) ++ 10 ∷ after)
image_next names objects left view text line after o y cut is there found =
    let n = some_next (λ e. IsLastImage names (view e)) (λ e. image_text (view e)) text line after o y cut is found in
    (n.0, sym there, n.1)

-- ---- the line that begins a section

-- the first line of a section is one line
begun_plain : (v : Version) (section : Section) (line : List ℕ) → HasPlainHead section → Begins v section line → has_feed line ≡ false
begun_plain v section line plain begins = by begins.0 begins.1
  where
    P : List ℕ → Type 0
    P x = has_feed x ≡ false

    by : (told : Told) → IsTold v section told line → has_feed line ≡ false
    by t.Nothing h = subst P (sym h.1) plain
    by (t.Lines count) h = subst P (sym h.2) (plain_join (head_of section) (32 ∷ decimal count) plain (decimal_lacks 10 count refl h.1))

-- what stands behind the line that was read
pub head_found : (v : Version) (section : Section) (text line after : List ℕ) (told : Told) → Some (line, after) ≡ cut_at 10 text → IsTold v section told line → (l : List ℕ) × IsTold v section told l × (text ≡ l ++ 10 ∷ after)
head_found v section text line after told cut tells = (line, tells, cut_at_split 10 text (line, after) (sym cut))

pub head_other : (v : Version) (section : Section) (text line after : List ℕ) → Some (line, after) ≡ cut_at 10 text → (Begins v section line → ⊥) → (l more : List ℕ) → HasPlainHead section → Begins v section l → text ≡ l ++ 10 ∷ more → ⊥
head_other v section text line after cut none l more plain begins e =
    let both : (line, after) ≡ (l, more) = some_is (line, after) (l, more) (cut ∙ ap (cut_at 10) e ∙ cut_at_again 10 l more (begun_plain v section l plain begins)) in
    let P : List ℕ → Type 0 = λ x. Begins v section x in
    none (subst P (sym (ap (λ (p : List ℕ × List ℕ). p.0) both)) begins)

pub head_uncut : (v : Version) (section : Section) (text : List ℕ) → None ≡ cut_at 10 text → (l more : List ℕ) → HasPlainHead section → Begins v section l → text ≡ l ++ 10 ∷ more → ⊥
head_uncut v section text cut l more plain begins e = no_cut (l, more) (cut ∙ ap (cut_at 10) e ∙ cut_at_again 10 l more (begun_plain v section l plain begins))

-- the text of lines with one more
pub text_push : (ls : List (List ℕ)) (l after : List ℕ) → lines_text ls ++ (l ++ 10 ∷ after) ≡ lines_text (ls ++ l ∷ []) ++ after
text_push ls l after =
    ap (λ (t : List ℕ). lines_text ls ++ t) (sym (first_line l [] after))
    ∙ sym (append_assoc (lines_text ls) (lines_text (l ∷ [])) after)
    ∙ ap (λ (t : List ℕ). t ++ after) (sym (lines_text-append ls (l ∷ [])))

-- what was taken so far
pub record SoFar {A : Type 0} (May : A → Type 0) (body : A → List ℕ) (text : List ℕ) (xs : List A) (rest : List ℕ) : Type 0 where
  pub each : All May xs
  pub taken : text ≡ lines_text (map body xs) ++ rest

pub so_far_with_line : {A : Type 0} (May : A → Type 0) (body : A → List ℕ) (text : List ℕ) (xs ys : List A) (x : A) (rest after : List ℕ) → SoFar May body text xs rest → May x × (rest ≡ body x ++ 10 ∷ after) → ys ≡ xs ++ x ∷ []
    → SoFar May body text ys after
so_far_with_line {A} May body text xs ys x rest after so_far next grown =
    let P : List A → Type 0 = λ zs. SoFar May body text zs after in
    subst P (sym grown) (record {
      each = All-push May xs x so_far.each next.0;
      taken =
          so_far.taken ∙ ap (λ (t : List ℕ). lines_text (map body xs) ++ t) next.1 ∙ text_push (map body xs) (body x) after
          ∙ ap (λ (ls : List (List ℕ)). lines_text ls ++ after) (sym (map_push body xs x));
    })

pub shorter : (rest l after : List ℕ) → rest ≡ l ++ 10 ∷ after → length after < length rest
shorter rest l after e = omega (arith, simp length-append at (ap length e))

pub all_taken : {A : Type 0} (May : A → Type 0) (body : A → List ℕ) (text : List ℕ) (xs : List A) (rest : List ℕ) → SoFar May body text xs rest → Stops May body rest → AreTaken May body text xs rest
all_taken May body text xs rest so_far stops = record { each = so_far.each; taken = so_far.taken; stops = stops }

-- ---- orders and callbacks

pub orders_taken : (names : NamesData) (text : List ℕ) (orders : List Order) (rest : List ℕ) → SoFar (MayOrder names) given_text text orders rest → (length orders < 8 → Stops (MayOrder names) given_text rest) → AreOrdersTaken names text orders rest
orders_taken names text orders rest so_far stops = record { each = so_far.each; taken = so_far.taken; stops = stops }

pub call_taken : (names : NamesData) (object : ObjectId) (text after rest : List ℕ) (c : CallNote) → MayHear names.nums object c.call × (text ≡ callback_text c.call ++ 10 ∷ after) → AreOrdersTaken names after c.orders rest → length c.orders ≤ 8 → IsCallTaken names object text c rest
call_taken names object text after rest c head orders few = record {
  may = record { call = head.0; orders = orders.each; few = few };
  taken =
      head.1 ∙ ap (λ (t : List ℕ). callback_text c.call ++ 10 ∷ t) orders.taken
      ∙ sym (first_line (callback_text c.call) (map given_text c.orders) rest);
  stops = orders.stops;
}

pub record CallsSoFar (names : NamesData) (object : ObjectId) (text : List ℕ) (calls : List CallNote) (rest : List ℕ) : Type 0 where
  pub each : All (MayCall names object) calls
  pub taken : text ≡ lines_text (flat_map call_texts calls) ++ rest
  pub orders : 0 < room calls → Stops (MayOrder names) given_text rest

room_push : (calls : List CallNote) (c : CallNote) → room (calls ++ c ∷ []) ≡ 8 - length c.orders
room_push [] c = refl
room_push (d ∷ []) c = refl
room_push (d ∷ e ∷ calls) c = room_push (e ∷ calls) c

pub call_more : (names : NamesData) (object : ObjectId) (text : List ℕ) (calls grown : List CallNote) (c : CallNote) (rest after : List ℕ) → CallsSoFar names object text calls rest → IsCallTaken names object rest c after → grown ≡ calls ++ c ∷ [] → CallsSoFar names object text grown after
call_more names object text calls grown c rest after so_far next e =
    let P : List CallNote → Type 0 = λ cs. CallsSoFar names object text cs after in
    let r = room_push calls c in
    subst P (sym e) (record {
      each = All-push (MayCall names object) calls c so_far.each next.may;
      taken =
          so_far.taken ∙ ap (λ (t : List ℕ). lines_text (flat_map call_texts calls) ++ t) next.taken
          ∙ sym (append_assoc (lines_text (flat_map call_texts calls)) (lines_text (call_texts c)) after)
          ∙ ap (λ (t : List ℕ). t ++ after) (sym (lines_text-append (flat_map call_texts calls) (call_texts c)))
          ∙ ap (λ (ls : List (List ℕ)). lines_text (flat_map call_texts calls ++ ls) ++ after) (sym (append-nil (call_texts c)))
          ∙ ap (λ (ls : List (List ℕ)). lines_text ls ++ after) (sym (flat_map-append call_texts calls (c ∷ [])));
      orders = λ some. next.stops (omega (arith, some, r));
    })

pub call_shorter : (names : NamesData) (object : ObjectId) (rest after : List ℕ) (c : CallNote) → IsCallTaken names object rest c after → length after < length rest
call_shorter names object rest after c h =
    let e : rest ≡ callback_text c.call ++ 10 ∷ (lines_text (map given_text c.orders) ++ after) = h.taken ∙ first_line (callback_text c.call) (map given_text c.orders) after in
    omega (arith, simp length-append at (ap length e))

pub calls_taken : (names : NamesData) (object : ObjectId) (text : List ℕ) (calls : List CallNote) (rest : List ℕ) → CallsSoFar names object text calls rest → Stops (MayHear names.nums object) callback_text rest → AreCallsTaken names object text calls rest
calls_taken names object text calls rest so_far stops = record { each = so_far.each; taken = so_far.taken; stops = stops; orders = so_far.orders }

-- ---- images

pub record ImagesSoFar (names : NamesData) (objects : List ObjectId) (text : List ℕ) (images : List LastImage) (left : List ObjectId) (rest : List ℕ) : Type 0 where
  pub pictures : ArePictures names objects images left
  pub taken : text ≡ lines_text (map image_text images) ++ rest

behind_push : (objects : List ObjectId) (subs : List SubId) (sub : SubId) (left later : List ObjectId) → behind_all objects subs ≡ Some left → behind left sub ≡ Some later → behind_all objects (subs ++ sub ∷ []) ≡ Some later
behind_push objects [] sub left later h k =
    let P : List ObjectId → Type 0 = λ x. behind_all x (sub ∷ []) ≡ Some later in
    subst P (sym (some_is objects left h)) (rw k refl)
behind_push objects (s ∷ subs) sub left later h k =
    let p = and_then_some (λ l. behind_all l subs) (behind objects s) left h in
    rw p.1 (behind_push p.0 subs sub left later p.2 k)

pub image_more : (names : NamesData) (objects : List ObjectId) (text : List ℕ) (images grown : List LastImage) (left later : List ObjectId) (i : LastImage) (rest after : List ℕ) → ImagesSoFar names objects text images left rest
    → IsLastImage names i × (behind left i.sub ≡ Some later) × (rest ≡ image_text i ++ 10 ∷ after) → grown ≡ images ++ i ∷ [] → ImagesSoFar names objects text grown later after
image_more names objects text images grown left later i rest after so_far next e =
    let P : List LastImage → Type 0 = λ is. ImagesSoFar names objects text is later after in
    let sub : LastImage → SubId = λ x. x.sub in
    subst P (sym e) (record {
      pictures = record {
        each = All-push (IsLastImage names) images i so_far.pictures.each next.0;
        ordered = ap (behind_all objects) (map_push sub images i) ∙ behind_push objects (map sub images) i.sub left later so_far.pictures.ordered next.1;
      };
      taken =
          so_far.taken ∙ ap (λ (t : List ℕ). lines_text (map image_text images) ++ t) next.2 ∙ text_push (map image_text images) (image_text i) after
          ∙ ap (λ (ls : List (List ℕ)). lines_text ls ++ after) (sym (map_push image_text images i));
    })

pub images_taken : (names : NamesData) (objects : List ObjectId) (text : List ℕ) (images : List LastImage) (left : List ObjectId) (rest : List ℕ) → ImagesSoFar names objects text images left rest → Stops (IsPicture names left) image_text rest
    → AreImagesTaken names objects text images rest
images_taken names objects text images left rest so_far stops = record { left = left; pictures = so_far.pictures; taken = so_far.taken; stops = stops }

-- ---- counting lines

-- some of these lines are left, and the others were counted
pub record IsCounted (left rest : List ℕ) (number : ℕ) (lines : List (List ℕ)) : Type 0 where
  pub before : ℕ
  pub behind : List (List ℕ)
  pub plain : ArePlain behind
  pub spelled : left ≡ lines_text behind ++ rest
  pub all : before + length behind ≡ length lines
  pub counted : number ≡ suc before

-- so it is for any lines that the rest stands behind
pub record IsCounting (text left rest : List ℕ) (number : ℕ) : Type 0 where
  pub counts : (lines : List (List ℕ)) → All IsPlain lines → text ≡ lines_text lines ++ rest → IsCounted left rest number lines

pub counting_starts : (text rest : List ℕ) → IsCounting text text rest 1
counting_starts text rest = record { counts = λ lines plain e. record { before = 0; behind = lines; plain = recursion_from_All IsPlain lines plain; spelled = e; all = omega arith; counted = refl } }

next_count : (before k lines : ℕ) → before + suc k ≡ lines → suc before + k ≡ lines
next_count before k lines e = omega (arith, e)

next_number : (number before : ℕ) → number ≡ suc before → number + 1 ≡ suc (suc before)
next_number number before e = omega (arith, e)

count_one : (left rest line after : List ℕ) (number : ℕ) (lines : List (List ℕ)) → length rest < length left → Some (line, after) ≡ cut_at 10 left → (before : ℕ) (behind : List (List ℕ)) → ArePlain behind → left ≡ lines_text behind ++ rest → before + length behind ≡ length lines → number ≡ suc before
    → IsCounted after rest (number + 1) lines
count_one left rest line after number lines more cut before [] plain e all n = absurd (omega (arith, more, ap length e))
count_one left rest line after number lines more cut before (l ∷ ls) plain e all n =
    let both : (line, after) ≡ (l, lines_text ls ++ rest) = some_is (line, after) (l, lines_text ls ++ rest) (cut ∙ ap (cut_at 10) (e ∙ first_line l ls rest) ∙ cut_at_again 10 l (lines_text ls ++ rest) plain.0) in
    let moved : after ≡ lines_text ls ++ rest = ap (λ (p : List ℕ × List ℕ). p.1) both in
    record { before = suc before; behind = ls; plain = plain.1; spelled = moved; all = next_count before (length ls) (length lines) all; counted = next_number number before n }

pub counting_goes_on : (text left rest line after : List ℕ) (number next : ℕ) → next ≡ number + 1 → length rest < length left → Some (line, after) ≡ cut_at 10 left → IsCounting text left rest number → IsCounting text after rest next
counting_goes_on text left rest line after number next one more cut h =
    let P : ℕ → Type 0 = λ n. IsCounting text after rest n in
    subst P (sym one) (record {
      counts = λ lines plain e. let c = h.counts lines plain e in count_one left rest line after number lines more cut c.before c.behind c.plain c.spelled c.all c.counted;
    })

none_behind : (left rest : List ℕ) (behind : List (List ℕ)) → length left ≤ length rest → left ≡ lines_text behind ++ rest → length behind ≡ 0
none_behind left rest [] few e = refl
none_behind left rest (l ∷ ls) few e = absurd (omega (arith, few, simp length-append at (ap length (e ∙ first_line l ls rest))))

pub counting_ends : (text left rest : List ℕ) (number : ℕ) → length left ≤ length rest → IsCounting text left rest number → (lines : List (List ℕ)) → All IsPlain lines → text ≡ lines_text lines ++ rest → number ≡ suc (length lines)
counting_ends text left rest number few h lines plain e =
    let c = h.counts lines plain e in
    let none = none_behind left rest c.behind few c.spelled in
    omega (arith, none, c.all, c.counted)

-- a line feed stands in what is left
feed_left : (left rest : List ℕ) (behind : List (List ℕ)) → ArePlain behind → length rest < length left → left ≡ lines_text behind ++ rest → None ≡ cut_at 10 left → ⊥
feed_left left rest [] plain more e none = omega (arith, more, ap length e)
feed_left left rest (l ∷ ls) plain more e none =
    no_cut (l, lines_text ls ++ rest) (none ∙ ap (cut_at 10) (e ∙ first_line l ls rest) ∙ cut_at_again 10 l (lines_text ls ++ rest) plain.0)

pub counting_stops : (text left rest : List ℕ) (number : ℕ) → length rest < length left → None ≡ cut_at 10 left → IsCounting text left rest number → (lines : List (List ℕ)) → All IsPlain lines → text ≡ lines_text lines ++ rest → number ≡ suc (length lines)
counting_stops text left rest number more none h lines plain e =
    let c = h.counts lines plain e in
    absurd (feed_left left rest c.behind c.plain more c.spelled none)

-- ---- lines are passed over

-- what is left behind so many lines
pub record IsPast (text left : List ℕ) (count : ℕ) : Type 0 where
  pub past : (lines : List (List ℕ)) (rest : List ℕ) → All IsPlain lines → count ≤ length lines → text ≡ lines_text lines ++ rest → left ≡ lines_text (drop count lines) ++ rest

pub past_none : (text : List ℕ) → IsPast text text 0
past_none text = record { past = λ lines rest plain few e. e }

-- the line behind so many
record NextLine (lines : List (List ℕ)) (i : ℕ) : Type 0 where
  pub line : List ℕ
  pub is : drop i lines ≡ line ∷ drop (i + 1) lines
  pub plain : IsPlain line

next_line : (lines : List (List ℕ)) (i : ℕ) → ArePlain lines → i < length lines → NextLine lines i
next_line [] i plain few = absurd (omega (arith, few))
next_line (l ∷ ls) zero plain few = record { line = l; is = refl; plain = plain.0 }
next_line (l ∷ ls) (suc i) plain few =
    let n = next_line ls i plain.1 (omega (arith, few)) in
    let next : suc (i + 1) ≡ suc i + 1 = omega arith in
    record { line = n.line; is = n.is ∙ ap (λ (k : ℕ). n.line ∷ drop k (l ∷ ls)) next; plain = n.plain }

at_next : (left line behind : List ℕ) (ls : List (List ℕ)) (rest : List ℕ) → left ≡ lines_text (line ∷ ls) ++ rest → IsPlain line → cut_at 10 left ≡ Some (line, lines_text ls ++ rest)
at_next left line behind ls rest e plain = ap (cut_at 10) (e ∙ first_line line ls rest) ∙ cut_at_again 10 line (lines_text ls ++ rest) plain

pub past_more : (text left line after : List ℕ) (count : ℕ) → Some (line, after) ≡ cut_at 10 left → IsPast text left count → IsPast text after (count + 1)
past_more text left line after count cut h = record {
  past = λ lines rest plain few e.
      let n = next_line lines count (recursion_from_All IsPlain lines plain) (omega (arith, few)) in
      let here : left ≡ lines_text (n.line ∷ drop (count + 1) lines) ++ rest = h.past lines rest plain (omega (arith, few)) e ∙ ap (λ (ls : List (List ℕ)). lines_text ls ++ rest) n.is in
      let both : (line, after) ≡ (n.line, lines_text (drop (count + 1) lines) ++ rest) =
      some_is (line, after) (n.line, lines_text (drop (count + 1) lines) ++ rest) (cut ∙ at_next left n.line after (drop (count + 1) lines) rest here n.plain) in
      ap (λ (p : List ℕ × List ℕ). p.1) both;
}

-- with no line there, fewer were there than were to be passed
pub past_stops : (text left : List ℕ) (i count : ℕ) → None ≡ cut_at 10 left → i < count → IsPast text left i → (lines : List (List ℕ)) (rest : List ℕ) → All IsPlain lines → count ≤ length lines → text ≡ lines_text lines ++ rest → left ≡ lines_text (drop count lines) ++ rest
past_stops text left i count none lt h lines rest plain few e =
    let n = next_line lines i (recursion_from_All IsPlain lines plain) (omega (arith, lt, few)) in
    let here : left ≡ lines_text (n.line ∷ drop (i + 1) lines) ++ rest = h.past lines rest plain (omega (arith, lt, few)) e ∙ ap (λ (ls : List (List ℕ)). lines_text ls ++ rest) n.is in
    absurd (no_cut (n.line, lines_text (drop (i + 1) lines) ++ rest) (none ∙ at_next left n.line left (drop (i + 1) lines) rest here n.plain))

pub past_all : (text left : List ℕ) (i count : ℕ) → i ≡ count → IsPast text left i → (lines : List (List ℕ)) (rest : List ℕ) → All IsPlain lines → count ≤ length lines → text ≡ lines_text lines ++ rest → left ≡ lines_text (drop count lines) ++ rest
past_all text left i count all h lines rest plain few e = let P : ℕ → Type 0 = λ k. IsPast text left k in (subst P all h).past lines rest plain few e

-- past as many as were told, or past all
drop_past : (count : ℕ) (lines : List (List ℕ)) → length lines ≤ count → drop count lines ≡ []
drop_past zero [] h = refl
drop_past zero (l ∷ ls) h = absurd (omega (arith, h))
drop_past (suc count) [] h = refl
drop_past (suc count) (l ∷ ls) h = drop_past count ls (omega (arith, h))

pub drop_fewer : (count fewer : ℕ) (lines : List (List ℕ)) → (fewer ≡ count) ⊎ ((fewer ≡ length lines) × (length lines ≤ count)) → drop fewer lines ≡ drop count lines
drop_fewer count fewer lines (inl same) = ap (λ (k : ℕ). drop k lines) same
drop_fewer count fewer lines (inr past) = drop_past fewer lines (let e = past.0 in omega (arith, e)) ∙ sym (drop_past count lines past.1)

-- ---- the number of lines that was told

abbrev AreLines : List ℕ → List ℕ → List (List ℕ) → Type 0
AreLines entries after lines = entries ≡ lines_text lines ++ after

pub tally_nothing : (told : Told) (entries after : List ℕ) → told ≡ t.Nothing → (lines : List (List ℕ)) → All IsPlain lines → AreLines entries after lines → IsTally told (length lines)
tally_nothing told entries after is lines plain e = let P : Told → Type 0 = λ x. IsTally x (length lines) in subst P (sym is) tt

pub tally_same : (told : Told) (count read number : ℕ) (entries after : List ℕ) → told ≡ t.Lines count → read ≡ number - 1 → count ≡ read → ((lines : List (List ℕ)) → All IsPlain lines → AreLines entries after lines → number ≡ suc (length lines))
    → (lines : List (List ℕ)) → All IsPlain lines → AreLines entries after lines → IsTally told (length lines)
tally_same told count read number entries after is one same counted lines plain e =
    let P : Told → Type 0 = λ x. IsTally x (length lines) in
    let n = counted lines plain e in
    subst P (sym is) (let same_count : count ≡ length lines = omega (arith, one, same, n) in same_count)

pub tally_other : (told : Told) (count read number fewer : ℕ) (entries after rest : List ℕ) → told ≡ t.Lines count → read ≡ number - 1 → (count ≡ read → ⊥) → ((fewer ≡ count) × (count ≤ read)) ⊎ ((fewer ≡ read) × (read ≤ count))
    → ((lines : List (List ℕ)) → All IsPlain lines → AreLines entries after lines → number ≡ suc (length lines))
    → ((lines : List (List ℕ)) (behind : List ℕ) → All IsPlain lines → fewer ≤ length lines → entries ≡ lines_text lines ++ behind → rest ≡ lines_text (drop fewer lines) ++ behind)
    → (lines : List (List ℕ)) → All IsPlain lines → AreLines entries after lines → (k : ℕ) × (told ≡ t.Lines k) × (k ≢ length lines) × (rest ≡ lines_text (drop k lines) ++ after)
tally_other told count read number fewer entries after rest is one other least counted past lines plain e =
    let n = counted lines plain e in
    let read_is : read ≡ length lines = omega (arith, one, n) in (
      count,
      is,
      λ same. other (same ∙ sym read_is),
      past lines after plain (within least read_is) e ∙ ap (λ (ls : List (List ℕ)). lines_text ls ++ after) (drop_fewer count fewer lines (either least read_is)),
    )
  where
    within : ((fewer ≡ count) × (count ≤ read)) ⊎ ((fewer ≡ read) × (read ≤ count)) → read ≡ length lines → fewer ≤ length lines
    within (inl e) r = omega (arith, e.0, e.1, r)
    within (inr e) r = omega (arith, e.0, r)

    either : ((fewer ≡ count) × (count ≤ read)) ⊎ ((fewer ≡ read) × (read ≤ count)) → read ≡ length lines → (fewer ≡ count) ⊎ ((fewer ≡ length lines) × (length lines ≤ count))
    either (inl e) r = inl e.0
    either (inr e) r = inr (e.0 ∙ r, omega (arith, e.1, r))
