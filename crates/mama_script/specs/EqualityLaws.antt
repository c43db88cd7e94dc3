-- inner: The tests of scripts and their parts decide whether both sides are one, so they are equivalences.
use Rattle.std.specs.Prelude.{◌≡◌, Bool, true, false, ◌&&◌, List, refl}
use Rattle.std.specs.Bool.{Decides}
use Rattle.std.specs.Cmp.{IsEquivalence, decided}
use Rattle.std.specs.Cmp.Lexicographic.{pointwise_decides}
use Rattle.std.proofs.Common.{ap, sym, true≢false}
use Rattle.std.proofs.lemmas.Bool.{and_parts, and_from}
use Rattle.std.proofs.lemmas.Bool.Decides.{Decides-eqb}
use Rattle.std.proofs.lemmas.Slice.Eq.{bytes_eq-Decides}
use Rattle.mama_msg.specs.EqualityLaws.{same_message-Decides}
use Rattle.mama_link.specs.EqualityLaws.{same_rows-Decides}
use Rattle.mama_event.specs.EqualityLaws.{same_sub_kind-Decides, same_strategy-Decides, same_order-Decides, same_plan_row-Decides, same_group_row-Decides, same_watch_row-Decides}
use Rattle.mama_event.specs.declared.order.PlanRow.{PlanRow}
use Rattle.mama_event.specs.declared.shape.Shape.{Shape}
use Rattle.mama_words.specs.declared.version.Version.{Version}
use Rattle.mama_words.specs.declared.version.Version.TheVariants as version
use Rattle.mama_script.specs.declared.publisher.PublisherLine.{PublisherLine}
use Rattle.mama_script.specs.declared.publisher.PublisherLine.TheVariants as sends
use Rattle.mama_script.specs.declared.publisher.PublisherPart.{PublisherPart}
use Rattle.mama_script.specs.declared.client.QueueWord.{QueueWord}
use Rattle.mama_script.specs.declared.client.QueueWord.TheVariants.{Number, Any}
use Rattle.mama_script.specs.declared.client.ClientLine.{ClientLine}
use Rattle.mama_script.specs.declared.client.ClientLine.TheVariants as steps
use Rattle.mama_script.specs.Script.{ScriptData}
use Rattle.mama_script.specs.Equality.{same_queue_word, same_plan, same_client_line, same_client, same_publisher_line, same_sends, same_publisher, same_version, same_shape, same_script}

-- two tests decide two facts
and-Decides : {a b : Bool} {P Q : Type 0} → Decides a P → Decides b Q → Decides (a && b) (P × Q)
and-Decides {a} {b} d e = (
  λ h. let parts = and_parts a b h in (d.0 parts.0, e.0 parts.1),
  λ p. and_from a b (d.1 p.0) (e.1 p.1),
)

-- a test decides what its fact is the same as
via : {b : Bool} {P Q : Type 0} → Decides b P → (P → Q) → (Q → P) → Decides b Q
via d there back = (λ h. there (d.0 h), λ q. d.1 (back q))

pub same_queue_word-Decides : (a b : QueueWord) → Decides (same_queue_word a b) (a ≡ b)
same_queue_word-Decides (Number n) (Number n') = via (Decides-eqb n n') (λ p. λ i. Number (p i)) (λ e. (cc))
same_queue_word-Decides Any Any = (λ h. refl, λ e. refl)
same_queue_word-Decides _ _ = (λ h. absurd (true≢false (sym h)), λ e. cc)

pub same_plan-Decides : (a b : List PlanRow) → Decides (same_plan a b) (a ≡ b)
same_plan-Decides a b = pointwise_decides same_plan_row-Decides a b

pub same_client_line-Decides : (a b : ClientLine) → Decides (same_client_line a b) (a ≡ b)
same_client_line-Decides (steps.Sub topic kind queue cache recaps faults plan) (steps.Sub topic' kind' queue' cache' recaps' faults' plan') =
    via (and-Decides (and-Decides (and-Decides (and-Decides (and-Decides (and-Decides (Decides-eqb topic topic') (same_sub_kind-Decides kind kind')) (same_queue_word-Decides queue queue')) (Decides-eqb cache cache')) (Decides-eqb recaps recaps')) (same_rows-Decides faults faults')) (same_plan-Decides plan plan'))
    (λ p. λ i. steps.Sub (p.0.0.0.0.0.0 i) (p.0.0.0.0.0.1 i) (p.0.0.0.0.1 i) (p.0.0.0.1 i) (p.0.0.1 i) (p.0.1 i) (p.1 i))
    (λ e. (((((((cc), (cc)), (cc)), (cc)), (cc)), (cc)), (cc)))
same_client_line-Decides (steps.Timer queue interval plan) (steps.Timer queue' interval' plan') =
    via (and-Decides (and-Decides (same_queue_word-Decides queue queue') (Decides-eqb interval interval')) (same_plan-Decides plan plan')) (λ p. λ i. steps.Timer (p.0.0 i) (p.0.1 i) (p.1 i)) (λ e. (((cc), (cc)), (cc)))
same_client_line-Decides (steps.Inbox queue faults plan) (steps.Inbox queue' faults' plan') =
    via (and-Decides (and-Decides (same_queue_word-Decides queue queue') (same_rows-Decides faults faults')) (same_plan-Decides plan plan')) (λ p. λ i. steps.Inbox (p.0.0 i) (p.0.1 i) (p.1 i)) (λ e. (((cc), (cc)), (cc)))
same_client_line-Decides (steps.Order order) (steps.Order order') = via (same_order-Decides order order') (λ p. λ i. steps.Order (p i)) (λ e. (cc))
same_client_line-Decides (steps.Now moment) (steps.Now moment') = via (Decides-eqb moment moment') (λ p. λ i. steps.Now (p i)) (λ e. (cc))
same_client_line-Decides steps.NowClock steps.NowClock = (λ h. refl, λ e. refl)
same_client_line-Decides (steps.Pause rounds) (steps.Pause rounds') = via (Decides-eqb rounds rounds') (λ p. λ i. steps.Pause (p i)) (λ e. (cc))
same_client_line-Decides _ _ = (λ h. absurd (true≢false (sym h)), λ e. cc)

pub same_client-Decides : (a b : List ClientLine) → Decides (same_client a b) (a ≡ b)
same_client-Decides a b = pointwise_decides same_client_line-Decides a b

pub same_publisher_line-Decides : (a b : PublisherLine) → Decides (same_publisher_line a b) (a ≡ b)
same_publisher_line-Decides (sends.Update update) (sends.Update update') = via (same_message-Decides update update') (λ p. λ i. sends.Update (p i)) (λ e. (cc))
same_publisher_line-Decides sends.Recap sends.Recap = (λ h. refl, λ e. refl)
same_publisher_line-Decides (sends.Pause rounds) (sends.Pause rounds') = via (Decides-eqb rounds rounds') (λ p. λ i. sends.Pause (p i)) (λ e. (cc))
same_publisher_line-Decides _ _ = (λ h. absurd (true≢false (sym h)), λ e. cc)

pub same_sends-Decides : (a b : List PublisherLine) → Decides (same_sends a b) (a ≡ b)
same_sends-Decides a b = pointwise_decides same_publisher_line-Decides a b

pub same_publisher-Decides : (a b : PublisherPart) → Decides (same_publisher a b) (a ≡ b)
same_publisher-Decides a b =
    via (and-Decides (and-Decides (Decides-eqb a.topic b.topic) (same_message-Decides a.base b.base)) (same_sends-Decides a.lines b.lines))
    (λ p. λ i. record { topic = p.0.0 i; base = p.0.1 i; lines = p.1 i })
    (λ e. ((ap (λ (x : PublisherPart). x.topic) e, ap (λ (x : PublisherPart). x.base) e), ap (λ (x : PublisherPart). x.lines) e))

same_version-Decides : (a b : Version) → Decides (same_version a b) (a ≡ b)
same_version-Decides version.One version.One = (λ h. refl, λ e. refl)
same_version-Decides version.Two version.Two = (λ h. refl, λ e. refl)
same_version-Decides _ _ = (λ h. absurd (true≢false (sym h)), λ e. cc)

pub same_shape-Decides : (a b : Shape) → Decides (same_shape a b) (a ≡ b)
same_shape-Decides a b =
    via (and-Decides (and-Decides (and-Decides (Decides-eqb a.clients b.clients) (bytes_eq-Decides a.publisher_topics b.publisher_topics)) (and-Decides (Decides-eqb a.bounds.topics b.bounds.topics) (Decides-eqb a.bounds.queues b.bounds.queues))) (same_strategy-Decides a.strategy b.strategy))
    (λ p. λ i. record { clients = p.0.0.0 i; publisher_topics = p.0.0.1 i; bounds = record { topics = p.0.1.0 i; queues = p.0.1.1 i }; strategy = p.1 i })
    (λ e. (((ap (λ (x : Shape). x.clients) e, ap (λ (x : Shape). x.publisher_topics) e), (ap (λ (x : Shape). x.bounds.topics) e, ap (λ (x : Shape). x.bounds.queues) e)), ap (λ (x : Shape). x.strategy) e))

pub same_script-Decides : (a b : ScriptData) → Decides (same_script a b) (a ≡ b)
same_script-Decides a b =
    via (and-Decides (and-Decides (and-Decides (and-Decides (and-Decides (and-Decides (same_version-Decides a.version b.version) (same_shape-Decides a.shape b.shape)) (pointwise_decides bytes_eq-Decides a.topics b.topics)) (pointwise_decides same_publisher-Decides a.publishers b.publishers)) (pointwise_decides same_client-Decides a.clients b.clients)) (pointwise_decides same_group_row-Decides a.groups b.groups)) (pointwise_decides same_watch_row-Decides a.watches b.watches))
    (λ p. λ i. record { version = p.0.0.0.0.0.0 i; shape = p.0.0.0.0.0.1 i; topics = p.0.0.0.0.1 i; publishers = p.0.0.0.1 i; clients = p.0.0.1 i; groups = p.0.1 i; watches = p.1 i })
    (λ e. ((((((ap (λ (x : ScriptData). x.version) e, ap (λ (x : ScriptData). x.shape) e), ap (λ (x : ScriptData). x.topics) e), ap (λ (x : ScriptData). x.publishers) e), ap (λ (x : ScriptData). x.clients) e), ap (λ (x : ScriptData). x.groups) e), ap (λ (x : ScriptData). x.watches) e))

-- so they are equivalences
pub same_plan_equivalence : IsEquivalence same_plan
same_plan_equivalence = decided same_plan same_plan-Decides

pub same_client_line_equivalence : IsEquivalence same_client_line
same_client_line_equivalence = decided same_client_line same_client_line-Decides

pub same_client_equivalence : IsEquivalence same_client
same_client_equivalence = decided same_client same_client-Decides

pub same_publisher_line_equivalence : IsEquivalence same_publisher_line
same_publisher_line_equivalence = decided same_publisher_line same_publisher_line-Decides

pub same_sends_equivalence : IsEquivalence same_sends
same_sends_equivalence = decided same_sends same_sends-Decides

pub same_publisher_equivalence : IsEquivalence same_publisher
same_publisher_equivalence = decided same_publisher same_publisher-Decides

pub same_script_equivalence : IsEquivalence same_script
same_script_equivalence = decided same_script same_script-Decides
