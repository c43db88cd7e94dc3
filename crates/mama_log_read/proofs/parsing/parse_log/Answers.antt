use Rattle.std.proofs.Common.{◌≡◌, ◌∙◌, List, length, ap, arith}
use Rattle.mama_event.specs.declared.ids.ObjectId.{ObjectId}
use Rattle.mama_event.specs.Ports.{queues_of}
use Rattle.mama_log_read.specs.Section.{sections, sections_with}
use Rattle.mama_log_read.proofs.Verdict.{answer_of, answer_found, answer_again, answer_bad, plain_heads}
use Rattle.mama_log_read.proofs.parsing.parse_log.Goals as goal

pub returns-clause-found : goal.returns-clause-found
returns-clause-found c =
    let v = c.log_version-version.result in
    let script = c.args.script.now in
    let objects = c.deref.ensures.value ∙ c.in_ok-objects.ensures.named in
    let listed : c.in_ok-sections.sections.items ≡ sections v script =
    c.in_ok-sections.ensures.listed ∙ ap (λ (o : List ObjectId). sections_with v script.shape.strategy (length script.clients) (length script.publishers) (queues_of script.shape) o (length script.groups) (length script.watches)) objects in
    let answer =
    answer_of v script c.in_ok-names.names c.deref-2.result.now c.deref-3.result.now c.args.text.now c.read_sections.result c.in_ok-names.ensures (c.deref-2.ensures.value ∙ c.in_ok-objects.ensures.named) (c.deref-3.ensures.value ∙ listed)
    c.read_sections.ensures in
    answer_found v script c.args.text.now c.read_sections.result c.log_version-version.ensures.known answer

pub returns-clause-again : goal.returns-clause-again
returns-clause-again c =
    let v = c.log_version-version.result in
    let script = c.args.script.now in
    let objects = c.deref.ensures.value ∙ c.in_ok-objects.ensures.named in
    let listed : c.in_ok-sections.sections.items ≡ sections v script =
    c.in_ok-sections.ensures.listed ∙ ap (λ (o : List ObjectId). sections_with v script.shape.strategy (length script.clients) (length script.publishers) (queues_of script.shape) o (length script.groups) (length script.watches)) objects in
    let answer =
    answer_of v script c.in_ok-names.names c.deref-2.result.now c.deref-3.result.now c.args.text.now c.read_sections.result c.in_ok-names.ensures (c.deref-2.ensures.value ∙ c.in_ok-objects.ensures.named) (c.deref-3.ensures.value ∙ listed)
    c.read_sections.ensures in
    let plain = plain_heads v script c.in_ok-sections.sections.items c.in_ok-objects.objects.items c.deref.result.now c.deref.ensures.value c.in_ok-objects.ensures.plain c.in_ok-sections.ensures.plain listed in
    answer_again v script c.args.text.now c.read_sections.result (omega arith) c.log_version-version.ensures.version c.log_version-version.ensures.known plain answer

pub returns-clause-bad : goal.returns-clause-bad
returns-clause-bad c =
    let v = c.log_version-version.result in
    let script = c.args.script.now in
    let objects = c.deref.ensures.value ∙ c.in_ok-objects.ensures.named in
    let listed : c.in_ok-sections.sections.items ≡ sections v script =
    c.in_ok-sections.ensures.listed ∙ ap (λ (o : List ObjectId). sections_with v script.shape.strategy (length script.clients) (length script.publishers) (queues_of script.shape) o (length script.groups) (length script.watches)) objects in
    let answer =
    answer_of v script c.in_ok-names.names c.deref-2.result.now c.deref-3.result.now c.args.text.now c.read_sections.result c.in_ok-names.ensures (c.deref-2.ensures.value ∙ c.in_ok-objects.ensures.named) (c.deref-3.ensures.value ∙ listed)
    c.read_sections.ensures in
    let plain = plain_heads v script c.in_ok-sections.sections.items c.in_ok-objects.objects.items c.deref.result.now c.deref.ensures.value c.in_ok-objects.ensures.plain c.in_ok-sections.ensures.plain listed in
    answer_bad v script c.args.text.now c.read_sections.result (omega arith) c.log_version-version.ensures.version c.log_version-version.ensures.known plain answer
