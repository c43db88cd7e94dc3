use Rattle.mama_script.specs.EqualityLaws as equality
use Rattle.mama_script.proofs.laws.scripts_are_compared_exactly.Goals as goal

pub returns-clause-plan : goal.returns-clause-plan
returns-clause-plan c = equality.same_plan-Decides

pub returns-clause-client_line : goal.returns-clause-client_line
returns-clause-client_line c = equality.same_client_line-Decides

pub returns-clause-client_lines : goal.returns-clause-client_lines
returns-clause-client_lines c = equality.same_client-Decides

pub returns-clause-publisher_line : goal.returns-clause-publisher_line
returns-clause-publisher_line c = equality.same_publisher_line-Decides

pub returns-clause-publisher_lines : goal.returns-clause-publisher_lines
returns-clause-publisher_lines c = equality.same_sends-Decides

pub returns-clause-publisher : goal.returns-clause-publisher
returns-clause-publisher c = equality.same_publisher-Decides

pub returns-clause-script : goal.returns-clause-script
returns-clause-script c = equality.same_script-Decides
