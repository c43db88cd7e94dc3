use Rattle.std.proofs.Common.{◌≡◌, Bool, false, [], ◌∷◌, ◌++◌, refl, rules, subst, sym}
use Rattle.mama_laws_bridge.specs.Table.{kept}
use Rattle.mama_bridge.specs.Live.{IsLive, Awaits, place_of}
use Rattle.mama_bridge.proofs.ByTopic.{live_gains}
use Rattle.mama_bridge.proofs.desk.Desk.add_sub.Goals as goal

pub returns-then-not-ended-clause-subs : goal.returns-then-not-ended-clause-subs
returns-then-not-ended-clause-subs c before joined rows row live awaits seen =
    let off : c.args.ended ≡ false = first_of (assumption, search rules, cc) in
    subst (λ (b : Bool). IsLive (joined ++ row.sub ∷ []) (rows ++ kept b (row ∷ [])) c.add.new.self) (sym off)
    (live_gains c.args.link (place_of row) before c.args.self.now.subs c.add.new.self joined rows row c.add.ensures.links c.add.ensures.places refl live
    (subst (λ (b : Bool). Awaits b (place_of row) before c.args.self.now.subs) off awaits) seen)
