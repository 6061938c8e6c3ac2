-- The assembler text of an instruction.
-- Assumes nothing.
use Rattle.std.specs.Prelude.{ℕ, List, [], ◌++◌, codes}
use Rattle.fields.specs.Texts.{register_text}
use Rattle.std.specs.Fmt.{signed_decimal as signed_text}
use Rattle.opcodes.specs.declared.format.Format.{Format}
use Rattle.opcodes.specs.declared.format.Format.TheVariants.{RegRegReg, RegRegShift, RegRegImm, RegLongImm, Branch, Memory, RegReg, RegImm, RegShift, Reg, Jump, Stack, Bare}
use Rattle.records.specs.Instructions.{Fields, Instruction}
use Rattle.opcodes.specs.Kinds.{format, name}

-- what follows the name: a blank, and the operands with a comma and a blank between them
abbrev pub operands_text : Format → Fields → List ℕ
operands_text RegRegReg x = codes " " ++ (register_text x.a ++ (codes ", " ++ (register_text x.b ++ (codes ", " ++ register_text x.c))))
operands_text RegRegShift x = codes " " ++ (register_text x.a ++ (codes ", " ++ (register_text x.b ++ (codes ", " ++ signed_text x.imm))))
operands_text RegRegImm x = codes " " ++ (register_text x.a ++ (codes ", " ++ (register_text x.b ++ (codes ", " ++ signed_text x.imm))))
operands_text RegLongImm x = codes " " ++ (register_text x.a ++ (codes ", " ++ signed_text x.imm))
operands_text Branch x = codes " " ++ (register_text x.a ++ (codes ", " ++ (register_text x.b ++ (codes ", " ++ signed_text x.imm))))
operands_text Memory x = codes " " ++ (register_text x.a ++ (codes ", " ++ (signed_text x.imm ++ (codes "(" ++ (register_text x.b ++ codes ")")))))
operands_text RegReg x = codes " " ++ (register_text x.a ++ (codes ", " ++ register_text x.b))
operands_text RegImm x = codes " " ++ (register_text x.a ++ (codes ", " ++ signed_text x.imm))
operands_text RegShift x = codes " " ++ (register_text x.a ++ (codes ", " ++ signed_text x.imm))
operands_text Reg x = codes " " ++ register_text x.a
operands_text Jump x = codes " " ++ signed_text x.imm
operands_text Stack x = codes " " ++ (register_text x.a ++ (codes ", " ++ (signed_text x.imm ++ codes "(x1)")))
operands_text Bare x = []

abbrev pub text : Instruction → List ℕ
text i = name i.kind ++ operands_text (format i.kind) i.fields
