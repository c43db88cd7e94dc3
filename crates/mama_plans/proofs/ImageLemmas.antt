-- The image that a context has, as the record of a run has it.
use Rattle.std.specs.Prelude.{Option, Some, None}
use Rattle.std.proofs.Common.{◌≡◌, ℕ, List, [], ◌∷◌, refl, ap, sym, ◌∙◌}
use Rattle.mama_msg.specs.Field.{FieldData}
use Rattle.mama_event.specs.declared.ids.SubId.{SubId}
use Rattle.mama_event.specs.declared.market.SubKind.{SubKind}
use Rattle.mama_event.specs.declared.market.SubKind.TheVariants.{Market, Snapshot, Basic}
use Rattle.mama_event.specs.declared.market.MarketMsg.{MarketMsg}
use Rattle.mama_event.specs.declared.market.ImageHead.{ImageHead}
use Rattle.mama_event.specs.declared.to_queue.Make.{Make}
use Rattle.mama_event.specs.declared.to_queue.Make.TheVariants as make
use Rattle.mama_event.specs.declared.shape.Strategy.{Strategy}
use Rattle.mama_event.specs.declared.shape.Strategy.TheVariants.{One}
use Rattle.mama_dq.specs.declared.table.Phase.{Phase}
use Rattle.mama_dq.specs.declared.table.Phase.TheVariants.{Await, LiveOk, LiveStale, LiveKept}
use Rattle.mama_dq.specs.Cache.{CacheData}
use Rattle.mama_dq.specs.Context.{ContextData, new_context, quality_in}
use Rattle.mama_dq.specs.Strategy.{step_by, after, after_all}
use Rattle.mama_dq.proofs.SameKind.{after_kind}
use Rattle.mama_rules_queue.specs.Queue.{context_of}
use Rattle.mama_rules_rounds.specs.Told as round
use Rattle.mama_plans.specs.Image.{found_image}

-- a context's image, if it has one, as a seat tells it
abbrev pub image_in : ContextData → Option (ImageHead × List FieldData)
image_in c = image_by c.phase c
  where
    image_by : Phase → ContextData → Option (ImageHead × List FieldData)
    image_by Await c = None
    image_by LiveOk c = Some (record { sender = c.sender; last = c.last; quality = quality_in LiveOk }, c.image)
    image_by LiveStale c = Some (record { sender = c.sender; last = c.last; quality = quality_in LiveStale }, c.image)
    image_by LiveKept c = Some (record { sender = c.sender; last = c.last; quality = quality_in LiveKept }, c.image)

-- a basic context never has an image
abbrev pub Waits : ContextData → Type 0
Waits c = c.kind ≡ Basic → c.phase ≡ Await

waits_after : (c : ContextData) (m : MarketMsg) → Waits c → Waits (after c m)
waits_after c m waits basic =
    let kind : c.kind ≡ Basic = sym (after_kind c m) ∙ basic in
    ap (λ (k : SubKind). (step_by k c m).context.phase) kind ∙ waits kind

waits_all : (ms : List MarketMsg) (c : ContextData) → Waits c → Waits (after_all c ms)
waits_all [] c waits = waits
waits_all (m ∷ ms) c waits = waits_all ms (after c m) (waits_after c m waits)

waits_new : (strategy : Strategy) (kind : SubKind) (size : ℕ) → Waits (new_context strategy kind size)
waits_new strategy kind size basic = refl

pub context_waits : (made : Option Make) (ms : List MarketMsg) → Waits (context_of made ms)
context_waits (Some (make.Sub kind cache strategy)) ms = waits_all ms (new_context strategy kind cache) (waits_new strategy kind cache)
context_waits (Some make.Timer) ms = waits_all ms (new_context One Basic 0) (waits_new One Basic 0)
context_waits (Some make.Inbox) ms = waits_all ms (new_context One Basic 0) (waits_new One Basic 0)
context_waits None ms = waits_all ms (new_context One Basic 0) (waits_new One Basic 0)

found_by : (s : SubId) (strategy : Strategy) (kind : SubKind) (phase : Phase) (sender last : ℕ) (image : List FieldData) (cache : CacheData) → (kind ≡ Basic → phase ≡ Await)
    → found_image s (image_in (record { strategy = strategy; kind = kind; phase = phase; sender = sender; last = last; image = image; cache = cache }))
    ≡ round.image_in s (record { strategy = strategy; kind = kind; phase = phase; sender = sender; last = last; image = image; cache = cache })
found_by s strategy Basic Await sender last image cache waits = refl
found_by s strategy Basic LiveOk sender last image cache waits = cc (waits refl)
found_by s strategy Basic LiveStale sender last image cache waits = cc (waits refl)
found_by s strategy Basic LiveKept sender last image cache waits = cc (waits refl)
found_by s strategy Market Await sender last image cache waits = refl
found_by s strategy Market LiveOk sender last image cache waits = refl
found_by s strategy Market LiveStale sender last image cache waits = refl
found_by s strategy Market LiveKept sender last image cache waits = refl
found_by s strategy Snapshot Await sender last image cache waits = refl
found_by s strategy Snapshot LiveOk sender last image cache waits = refl
found_by s strategy Snapshot LiveStale sender last image cache waits = refl
found_by s strategy Snapshot LiveKept sender last image cache waits = refl

pub found_as : (s : SubId) (c : ContextData) → Waits c → found_image s (image_in c) ≡ round.image_in s c
found_as s c waits = found_by s c.strategy c.kind c.phase c.sender c.last c.image c.cache waits
