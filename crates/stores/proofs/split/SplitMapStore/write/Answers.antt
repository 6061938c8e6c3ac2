use Rattle.std.proofs.Common.{ap, ◌∙◌, rules}
use Rattle.memory.specs.Memory.{memory_of}
use Rattle.stores.specs.Joints.{joined}
use Rattle.stores.specs.Protection.{everything}
use Rattle.stores.proofs.Joints.{written_below}
use Rattle.stores.proofs.split.SplitMapStore.write.Goals as goal

pub returns-then-branch-clause-memory : goal.returns-then-branch-clause-memory
returns-then-branch-clause-memory g c =
    let lower = c.args.self.now.lower in
    let upper = memory_of (g.R.ReadingEnd.cells c.args.self.now.upper) everything in
    let few = g.S.ReadingEnd.bounded lower in
    let same = g.met.S.Store.same_cells lower in
    ap (λ m. joined m upper) c.write.ensures.memory ∙ written_below (g.S.Store.memory lower) upper c.args.address c.args.cell (search rules) (search rules)
