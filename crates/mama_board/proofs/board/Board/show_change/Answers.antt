use Rattle.std.proofs.Common.{◌≡◌, List, [], ◌∷◌, ◌++◌, length, drop, fold, sym, ap, ◌∙◌, inr}
use Rattle.left_right.specs.Sides.{view}
use Rattle.mama_board.specs.declared.change.Change.{Change}
use Rattle.mama_board.specs.declared.view.View.{View}
use Rattle.mama_board.specs.Changes.{after_shown, after_refused}
use Rattle.mama_board.specs.Images.{ImagesValue, after_change, sets_in}
use Rattle.mama_board.specs.Values.{BoardValue}
use Rattle.mama_board.proofs.Boards.{board_of, counts, change_waits, change_shown}
use Rattle.mama_board.proofs.board.Board.show_change.Goals as goal

pub returns-in_default-show-clause-err : goal.returns-in_default-show-clause-err
returns-in_default-show-clause-err g c =
    let i = c.self.inside in
    let w = i.writer in
    let now = c.show.new.writer in
    let desk = c.in-Ok.ensures.desk in
    let failed = c.in_default-show.ensures in
    let change : Change = c.args.change in
    let changes : List Change = drop w.behind w.log.items in
    let all : drop now.behind now.log.items ≡ changes ++ change ∷ [] = failed.err_log ∙ c.in-Ok.ensures.pending in
    let seen : (view now.desk.place).seen ≡ (view w.desk.place).seen = ap (λ (v : View). v.seen) failed.err_known ∙ (λ k. (view (desk k).place).seen) in
    let sealed : now.desk.shown.value.sealed ≡ w.desk.shown.value.sealed = ap (λ (x : ImagesValue). x.sealed) failed.err_value ∙ (λ k. (desk k).shown.value.sealed) in
    let same : board_of i.queue (view now.desk.place).seen (drop now.behind now.log.items) now.desk.shown.value.sealed ≡ board_of i.queue (view w.desk.place).seen (changes ++ change ∷ []) w.desk.shown.value.sealed =
    λ k. board_of i.queue (seen k) (all k) (sealed k) in
    inr (same ∙ (change_waits i.queue (view w.desk.place).seen changes w.desk.shown.value change w.desk.shown.value.sealed ∙ ap (λ (b : BoardValue). after_refused b change) c.self.view_is))

pub invariant_of-self-2 : goal.invariant_of-self-2
invariant_of-self-2 g c =
    let w = c.self.inside.writer in
    let logged = c.append.new.self in
    let desk = c.in-Ok.ensures.desk in
    let shown = c.in-Ok-show.ensures in
    let changes : List Change = drop logged.behind logged.log.items in
    let seen : length (view logged.desk.place).seen ≡ length (view w.desk.place).seen = λ k. length (view (desk k).place).seen in
    let version : logged.desk.shown.value.version ≡ w.desk.shown.value.version = λ k. (desk k).shown.value.version in (
      ap (λ (v : View). length v.seen) shown.known
          ∙ (counts c.self.inside.queue (view logged.desk.place).seen changes logged.desk.shown.value (seen ∙ (c.self.invariant.0 ∙ sym version)) ∙ sym (ap (λ (x : ImagesValue). x.version) shown.value)),
      ap (λ (v : View). v.sealed) shown.known ∙ sym (ap (λ (x : ImagesValue). x.sealed) shown.value),
    )

pub returns-clause-ok : goal.returns-clause-ok
returns-clause-ok g c =
    let i = c.self.inside in
    let w = i.writer in
    let now = c.show.new.writer in
    let logged = c.append.new.self in
    let desk = c.in-Ok.ensures.desk in
    let shown = c.in-Ok-show.ensures in
    let change : Change = c.args.change in
    let changes : List Change = drop w.behind w.log.items in
    let all : drop logged.behind logged.log.items ≡ changes ++ change ∷ [] = c.in-Ok.ensures.pending in
    let seen : (view now.desk.place).seen ≡ (view w.desk.place).seen ++ sets_in (changes ++ change ∷ []) = ap (λ (v : View). v.seen) shown.known ∙ (λ k. (view (desk k).place).seen ++ sets_in (all k)) in
    let sealed : now.desk.shown.value.sealed ≡ (fold after_change w.desk.shown.value (changes ++ change ∷ [])).sealed = ap (λ (x : ImagesValue). x.sealed) shown.value ∙ (λ k. (fold after_change (desk k).shown.value (all k)).sealed) in
    let same : board_of i.queue (view now.desk.place).seen (drop now.behind now.log.items) now.desk.shown.value.sealed
    ≡ board_of i.queue ((view w.desk.place).seen ++ sets_in (changes ++ change ∷ [])) [] (fold after_change w.desk.shown.value (changes ++ change ∷ [])).sealed =
    λ k. board_of i.queue (seen k) (shown.none k) (sealed k) in
    let unsealed = ap (λ (b : BoardValue). b.sealed) c.self.view_is ∙ c.requires in
    c.told.ensures.same ∙ (same ∙ (change_shown i.queue (view w.desk.place).seen changes w.desk.shown.value change unsealed ∙ ap (λ (b : BoardValue). after_shown b change) c.self.view_is))
