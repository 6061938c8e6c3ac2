use Rattle.std.proofs.Common.{◌≡◌, length, drop}
use Rattle.memory.specs.Memory.{holding}
use Rattle.memory.specs.Blocks.{placed}
use Rattle.memory.proofs.Blocks.{Accepted}
use Rattle.memory.proofs.block.write_block.Given as goal

-- what is left of the block is accepted, and put into the cells as they are it gives what the whole gives
abbrev pub invariant-loop-value : goal.invariant-loop-value
invariant-loop-value g l =
    let left = drop l.value-index l.block.bytes.now in
    let m = g.S.Store.memory l.store in
    let before = g.S.Store.memory l.initial.store in
    record {
      accepted : Accepted m l.at (length left);
      cells : holding m (placed m.cells l.at left l.block.label) ≡ holding before (placed before.cells l.block.address l.block.bytes.now l.block.label);
      frame : g.S.Store.frame l.store ≡ g.S.Store.frame l.initial.store;
    }
