use Rattle.std.proofs.lemmas.Bool.{both_ways}
use Rattle.mama_check.proofs.Parts.{sent_out, sent_before, sent_end}
use Rattle.mama_check.proofs.sent.has_sent_all.Goals as goal

pub returns-then-is_sent_before : goal.returns-then-is_sent_before
returns-then-is_sent_before c =
    let some = c.in-Some.ensures.some in (
      λ h. sent_out c.args.sends c.args.journal.now c.in-Some.before.now c.in-Some.after.now some.0 some.1 (c.is_sent_before.ensures.0 c.if-is_sent_before.true) (c.is_end.ensures.0 h),
      λ h. c.is_end.ensures.1 (sent_end c.args.sends c.args.journal.now c.in-Some.before.now c.in-Some.after.now some.0 some.1 h),
    )

pub returns-else-is_sent_before : goal.returns-else-is_sent_before
returns-else-is_sent_before c =
    let some = c.in-Some.ensures.some in (
      λ h. absurd (both_ways c.is_sent_before.result c.if-is_sent_before.false h),
      λ h. c.is_sent_before.ensures.1 (sent_before c.args.sends c.args.journal.now c.in-Some.before.now c.in-Some.after.now some.0 some.1 h),
    )
