use Rattle.std.proofs.Common.{arith, rules}
use Rattle.records.proofs.Splits.{shorter}
use Rattle.disassembly.specs.Listings.{count_line}
use Rattle.disassembly.proofs.Runs.{one_more, at_refusal, at_end, within}
use Rattle.disassembly.proofs.listing.Goals as goal
use Rattle.disassembly.proofs.listing.Goals.{then-not-is_empty+in_ok-write, else-not-is_empty}

pub slice_bounds-bytes-count : goal.slice_bounds-bytes-count
slice_bounds-bytes-count c = omega (arith, shorter _ _ _ c.in-Ok.ensures)

pub loop-instruction-smaller : goal.loop-instruction-smaller
loop-instruction-smaller c = shorter _ _ _ c.in-Ok.ensures

pub loop-instruction-preserved : goal.loop-instruction-preserved
loop-instruction-preserved c = one_more _ _ _ _ c.loop-instruction.invariant _ _ _ c.in-Ok.ensures c.in_ok-write-in-Ok.ensures.bytes

pub returns-clause-bytes : goal.returns-clause-bytes
unfolding count_line
returns-clause-bytes c =
    rw (within c.args.filter.now (omega arith)) (elim c.if-not-is_empty.branch [
      | then-not-is_empty+in_ok-write w ↦ at_refusal _ _ _ _ c.loop-instruction.invariant _ c.in-Err.ensures _ _ (search rules) (search rules) c.in_ok-writeln.ensures.bytes
      | else-not-is_empty w ↦ at_end _ _ _ _ c.loop-instruction.invariant _ c.in-Err.ensures _ (search rules) (rw (← w.out-is) c.in_ok-writeln.ensures.bytes)
    ])
