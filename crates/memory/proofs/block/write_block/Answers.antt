use Rattle.std.proofs.Common.{◌≡◌, length, Ok, arith, rules}
use Rattle.memory.specs.Blocks.{block_answer, block_written}
use Rattle.memory.proofs.Blocks.{accepted, refused_at_lowest, all_placed, last_byte}
use Rattle.memory.proofs.Placed.{all_or_nothing}
use Rattle.memory.proofs.block.write_block.Goals as goal

pub returns-clause-row : goal.returns-clause-row
returns-clause-row g c =
    let m = g.S.Store.memory c.args.store.now in
    let block = c.args.block in
    let answer : Ok tt ≡ block_answer m block.address (length block.bytes.now) = search rules in
    let left : g.S.Store.memory c.loop-value.store ≡ block_written m block.address block.bytes.now block.label = grind (arith, accepted, all_placed, last_byte) in
    all_or_nothing m block.address block.bytes.now block.label (Ok tt) answer _ left

pub returns-clause-lowest : goal.returns-clause-lowest
returns-clause-lowest g c =
    let block = c.args.block in
    refused_at_lowest (g.S.Store.memory c.args.store.now) block.address (length block.bytes.now) (Ok tt) (search rules)
