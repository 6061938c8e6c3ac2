use Rattle.std.proofs.Common.{length, string_bytes}
use Rattle.disassembly.proofs.Runs.{Sofar}
use Rattle.disassembly.proofs.listing.Given as goal

abbrev pub invariant-loop-instruction : goal.invariant-loop-instruction
invariant-loop-instruction l = Sofar l.filter l.rest l.count (string_bytes l.out)

abbrev pub decreases-loop-instruction : goal.decreases-loop-instruction
decreases-loop-instruction l = length l.rest
