use Rattle.std.proofs.Common.{ℕ, ◌+◌, List, [], ◌∷◌, ◌++◌, length, sym, ◌∙◌, ap, subst}
use Rattle.mama_link.specs.Link.{emit}
use Rattle.mama_link.specs.Standing.{Standing, StandsFor}
use Rattle.mama_bridge.specs.Links.{cut_bytes}
use Rattle.mama_bridge.proofs.inboxes.answer.Goals as goal

pub pass-requires-clause-ready : goal.pass-requires-clause-ready
pass-requires-clause-ready g c =
    let still = c.in_ok-prepared.ensures.standing in
    record {
      prepared = c.in_ok-prepared.ensures.prepared;
      len = λ x stands.
          c.in_ok-prepared.ensures.len x (subst (λ (s : Standing (List ℕ)). StandsFor x s) still stands)
          ∙ ap (λ (s : Standing (List ℕ)). length (emit cut_bytes s.rows (x ++ c.args.body.now ∷ []) (length x + 1))) (sym still)
          ∙ ap (λ (m : List ℕ). length (emit cut_bytes c.prepare.new.self.standing.rows (x ++ m ∷ []) (length x + 1))) (sym c.in_ok-prepared.ensures.message);
    }
