-- `rule_table::code_at`: the part behind the word count, as long as that says.
use Rattle.rule_table.proofs.Placed.{code_part}
use Rattle.rule_table.proofs.code_at.Goals as goal

pub returns : goal.returns
returns c = code_part _ _
