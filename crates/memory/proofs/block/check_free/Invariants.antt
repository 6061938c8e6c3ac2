use Rattle.std.proofs.Common.{◌≡◌, ◌-◌}
use Rattle.memory.specs.Blocks.{first_failing, free}
use Rattle.memory.proofs.block.check_free.Given as goal

-- what is left of the addresses fails first where all of them do
abbrev pub invariant-loop-at : goal.invariant-loop-at
invariant-loop-at g l =
    let passes = free (g.S.Store.memory l.store) in
    first_failing passes l.at (l.end - l.at) ≡ first_failing passes l.first (l.end - l.first)
