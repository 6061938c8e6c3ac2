use Rattle.std.proofs.Common.{sym, ap, ◌∙◌, subst, arith}
use Rattle.std.specs.Option.{option_map}
use Rattle.opcodes.specs.declared.format.Format.{Format}
use Rattle.records.specs.declared.operands.Operands.{Operands}
use Rattle.records.specs.Instructions.{values, Lawful}
use Rattle.records.proofs.Legal.{read_fitting}
use Rattle.opcodes.proofs.Widths.{above_lt}
use Rattle.records.proofs.record.codec.held.Goals as goal

pub invariant_of-result : goal.invariant_of-result
invariant_of-result c =
    let x : Operands = c.in_ok-operands.operands in
    let good : Lawful c.format.result (values x) = (read_fitting c.format.result _ c.args.high c.args.top (values x) (above_lt c.format.result c.args.low (omega arith)) (omega arith) (omega arith) (sym c.read.ensures ∙ ap (option_map values) c.in_ok-operands.was)).legal in
    record { legal = subst (λ (f : Format). Lawful f (values x)) c.format.ensures good }
