use Rattle.opcodes.proofs.Named.{ruled, counted}
use Rattle.opcodes.proofs.law.table_keeps_its_rule.Goals as goal

pub returns : goal.returns
returns c = record { rule = ruled; many = counted }
