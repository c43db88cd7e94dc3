use Rattle.std.proofs.Common.{arith, length, ◌<◌}
use Rattle.mama_record.specs.LogText.{client_section}
use Rattle.mama_record.specs.SectionText.{section_text}
use Rattle.mama_record.proofs.Printed.{printed_section}
use Rattle.mama_record.proofs.log.put_clients.Goals as goal

pub loop-number-preserved : goal.loop-number-preserved
loop-number-preserved c =
    let within : c.loop-number.number < length c.args.clients.now = omega arith in
    printed_section (section_text c.args.version) client_section (λ v. v.items) c.args.out.now.items c.loop-number.out.items c.put_client.new.out.items c.args.clients.now c.loop-number.number
    c.index-clients-number.result within c.index-clients-number.is c.in_ok-put_client.ensures c.loop-number.invariant
