use Rattle.std.specs.BTreeMap.{keys}
use Rattle.std.specs.Map.{keys_of}
use Rattle.std.proofs.Common.{ℕ, ◌||◌, Bool, sym, ◌∙◌, ap, List, ◌++◌, ◌∷◌, [], Some, subst, length, map, append-nil}
use Rattle.std.proofs.lemmas.List.{map-append}
use Rattle.std.specs.declared.option.Option.{Option}
use Rattle.mama_event.specs.Object.{same_inbox}
use Rattle.mama_event.specs.declared.ids.InboxId.{InboxId}
use Rattle.mama_laws_bridge.specs.Table.{kept}
use Rattle.mama_bridge.specs.Ids.{is_inbox_among}
use Rattle.mama_bridge.specs.Links.{InboxView, inbox_seen}
use Rattle.mama_bridge.specs.Opened.{Opened, LinksIndexed, new_inbox_view}
use Rattle.mama_bridge.specs.Placed.{present}
use Rattle.mama_bridge.specs.declared.inboxes.InboxLink.{InboxLink}
use Rattle.mama_bridge.proofs.Entries.{present_push}
use Rattle.mama_bridge.proofs.InboxLemmas.{noted_more, indexed_more, indexed_new, indexed_same}
use Rattle.mama_bridge.proofs.inboxes.Inboxes.open.Goals as goal

pub invariant_of-self : goal.invariant_of-self
invariant_of-self c = indexed_same c.self.inside.indexes c.note.new.indexes c.self.inside.entries.items c.note.new.entries.items c.in-Err.ensures.err c.in-Err.ensures.entries c.self.invariant

pub invariant_of-self-then-ended : goal.invariant_of-self-then-ended
invariant_of-self-then-ended c =
    let fresh = ap (λ (p : Opened). is_inbox_among p.opened c.args.inbox) c.self.view_is ∙ c.requires in
    subst (λ (entries : List (Option InboxLink)). LinksIndexed c.note.new.indexes entries) (sym c.in-Ok.ensures.entries)
    (indexed_more c.self.inside.indexes c.note.new.indexes c.self.inside.entries.items c.args.inbox (length c.self.inside.entries.items) c.in-Ok.ensures.noted fresh c.self.invariant)

pub invariant_of-self-2 : goal.invariant_of-self-2
invariant_of-self-2 c =
    let fresh = ap (λ (p : Opened). is_inbox_among p.opened c.args.inbox) c.self.view_is ∙ c.requires in
    subst (λ (entries : List (Option InboxLink)). LinksIndexed c.note.new.indexes entries) (sym (c.push_reserved.ensures.items ∙ ap (λ (es : List (Option InboxLink)). es ++ Some c.new_link-link.result ∷ []) c.in-Ok.ensures.entries))
    (indexed_new c.self.inside.indexes c.note.new.indexes c.self.inside.entries.items c.new_link-link.result c.args.inbox c.new_link-link.ensures.named c.in-Ok.ensures.noted fresh c.self.invariant)

pub returns-then-ended-clause-links : goal.returns-then-ended-clause-links
returns-then-ended-clause-links c =
    let view = new_inbox_view c.args.inbox c.args.terms.queue c.args.slot c.args.terms.faults in
    ap (λ (es : List (Option InboxLink)). map inbox_seen (present es)) c.in-Ok.ensures.entries ∙ ap (λ (p : Opened). map inbox_seen p.links) c.self.view_is
    ∙ sym (append-nil (map inbox_seen c.args.self.now.links)) ∙ ap (λ (b : Bool). map inbox_seen c.args.self.now.links ++ kept b (view ∷ [])) (sym c.if-ended.true)

pub returns-then-ended-clause-opened : goal.returns-then-ended-clause-opened
returns-then-ended-clause-opened c one =
    noted_more c.self.inside.indexes c.note.new.indexes c.args.inbox (length c.self.inside.entries.items) c.in-Ok.ensures.noted one
    ∙ ap (λ (p : Opened). is_inbox_among p.opened one || same_inbox c.args.inbox one) c.self.view_is

pub returns-clause-links : goal.returns-clause-links
returns-clause-links c =
    let link = c.new_link-link.result in
    let view = new_inbox_view c.args.inbox c.args.terms.queue c.args.slot c.args.terms.faults in
    ap (λ (es : List (Option InboxLink)). map inbox_seen (present es)) (c.push_reserved.ensures.items ∙ ap (λ (es : List (Option InboxLink)). es ++ Some link ∷ []) c.in-Ok.ensures.entries)
    ∙ ap (map inbox_seen) (present_push c.self.inside.entries.items (Some link)) ∙ map-append inbox_seen (present c.self.inside.entries.items) (link ∷ [])
    ∙ ap (λ (p : Opened). map inbox_seen p.links ++ inbox_seen link ∷ []) c.self.view_is
    ∙ ap (λ (v : InboxView). map inbox_seen c.args.self.now.links ++ v ∷ []) c.new_link-link.ensures.seen
    ∙ ap (λ (b : Bool). map inbox_seen c.args.self.now.links ++ kept b (view ∷ [])) (sym c.if-ended.false)

pub returns-clause-opened : goal.returns-clause-opened
returns-clause-opened c one =
    noted_more c.self.inside.indexes c.note.new.indexes c.args.inbox (length c.self.inside.entries.items) c.in-Ok.ensures.noted one
    ∙ ap (λ (p : Opened). is_inbox_among p.opened one || same_inbox c.args.inbox one) c.self.view_is

pub returns-in-Err-clause-err : goal.returns-in-Err-clause-err
returns-in-Err-clause-err c =
    ap {B = Opened} (λ (es : List (InboxId × ℕ)). record { opened = keys_of es; links = present c.note.new.entries.items }) c.in-Err.ensures.err
    ∙ ap {B = Opened} (λ (es : List (Option InboxLink)). record { opened = keys c.self.inside.indexes; links = present es }) c.in-Err.ensures.entries ∙ c.self.view_is
