-- The formats: how many bits of the first byte are the code.
-- Assumes nothing.
use Rattle.std.specs.Prelude.{ℕ}
use Rattle.opcodes.specs.declared.format.Format.{Format}
use Rattle.opcodes.specs.declared.format.Format.TheVariants.{RegRegReg, RegRegShift, RegRegImm, RegLongImm, Branch, Memory, RegReg, RegImm, RegShift, Reg, Jump, Stack, Bare}

-- from bit 0 on
abbrev pub code_width : Format → ℕ
code_width RegRegReg = 8
code_width RegRegShift = 8
code_width RegRegImm = 6
code_width RegLongImm = 6
code_width Branch = 6
code_width Memory = 6
code_width RegReg = 8
code_width RegImm = 6
code_width RegShift = 8
code_width Reg = 8
code_width Jump = 5
code_width Stack = 6
code_width Bare = 8
