-- The table is the list of what the rule names at each of the 256 first bytes: antt computes both and compares them.
use Rattle.std.proofs.Common.{◌<◌, None, arith}
use Rattle.std.proofs.lemmas.List.FromFn.{get_or-map-range_with_len}
use Rattle.opcodes.specs.Table.{named}
use Rattle.opcodes.proofs.table.lookup.Goals as goal

pub returns : goal.returns
unfolding named
returns c =
    let h : c.args.low < 256 = omega arith in
    get_or-map-range_with_len named 0 256 c.args.low c.args.low None h (omega arith)
