use Rattle.std.proofs.Common.{sym, ap, ◌∙◌, subst, w32, to_z, of_z}
use Rattle.opcodes.specs.declared.format.Format.{Format}
use Rattle.records.specs.Instructions.{values, Lawful}
use Rattle.records.specs.Records.{outcome_values}
use Rattle.records.proofs.Legal.{taken_legal}
use Rattle.records.proofs.record.Record.new.Goals as goal

pub invariant_of-result : goal.invariant_of-result
invariant_of-result c =
    let x = values c.in_ok-operands.operands in
    let good = taken_legal c.format.result c.args.a c.args.b c.args.c (to_z w32 (of_z w32 c.args.imm)) x (sym c.operands.ensures ∙ ap outcome_values c.in_ok-operands.was) in
    record { legal = subst (λ (f : Format). Lawful f x) c.format.ensures good }
