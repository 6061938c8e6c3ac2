use Rattle.std.proofs.Common.{◌≡◌, ◌%◌, false, eqb, get_or, sym, arith, rules, ltb-false}
use Rattle.records.proofs.Splits.{split_three, split_two}
use Rattle.records.proofs.image.split.Goals as goal

pub returns-in-len3-up : goal.returns-in-len3-up
returns-in-len3-up c = split_three c.args.bytes.now (omega (arith, ltb-false)) (sym c.if-is_long.ensures)

pub returns-in-len2-up : goal.returns-in-len2-up
returns-in-len2-up c =
    let e : eqb (get_or c.args.bytes.now 0 0 % 2) 1 ≡ false = search rules in
    split_two c.args.bytes.now (search rules) e
