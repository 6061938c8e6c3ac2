use Rattle.std.proofs.Common.{arith, rules}
use Rattle.std.proofs.Output.{has_written_append, has_written_of_eq}
use Rattle.disassembly.proofs.Shown.{hex_text, hexes_more}
use Rattle.disassembly.proofs.HexDisplay.fmt.Goals as goal

pub from_utf8_unchecked-requires : goal.from_utf8_unchecked-requires
from_utf8_unchecked-requires g c = rw (c.hex_digit.ensures, c.hex_digit-in-loop-b.ensures) (hex_text _ (omega arith))

pub loop-b-preserved : goal.loop-b-preserved
loop-b-preserved g c =
    λ plain. has_written_of_eq _ _ _ _ _ (hexes_more c.args.self.now.0.now c.loop-b.b-index c.loop-b-test.true) (has_written_append _ _ _ _ _ _ (c.loop-b.invariant plain) (search rules))
