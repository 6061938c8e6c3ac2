use Rattle.std.proofs.Common.{rules}
use Rattle.stores.proofs.Cuts.{front_inside}
use Rattle.stores.proofs.split.SplitMap.is_lower.Goals as goal
use Rattle.stores.proofs.split.SplitMap.is_lower.Goals.{then-is_lower, else-is_lower}

pub returns-then-address-size-clause-ok : goal.returns-then-address-size-clause-ok
returns-then-address-size-clause-ok g c =
    let lower = c.args.self.now.lower in
    let ys = g.R.ReadingEnd.cells c.args.self.now.upper in
    elim c.if-is_lower.branch [
      | then-is_lower w ↦ (front_inside (g.S.ReadingEnd.cells lower) ys c.args.address (g.S.ReadingEnd.bounded lower) (search rules), search rules)
      | else-is_lower w ↦ (search rules, search rules)
    ]
