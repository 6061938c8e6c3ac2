-- The fifty kinds, one row each: number, name as typed, code, format.
-- Assumes nothing.
use Rattle.std.specs.Prelude.{ℕ, ◌-◌, cond, List, [], ◌∷◌, None, codes, Option, ◌==◌}
use Rattle.std.specs.List.{slice_get}
use Rattle.opcodes.specs.declared.kind.Kind.{Kind}
use Rattle.opcodes.specs.declared.kind.Kind.TheVariants.{Add, Sub, And, Xor, Or, Lsl, Lsr, Asr, Addi, Andi, Xori, Ori, Li, Lsli, Lsri, Asri, Beq, Bne, Blt, Bltu, Ble, Bleu, Lw, Lb, Lbu, Sw, Sb, Mov, Add2, Sub2, And2, Xor2, Or2, Lsl2, Lsr2, Asr2, Addi2, Andi2, Lsi, Lui, Lsli2, Lsri2, Asri2, Jalr, Jr, Js, Jsal, Lwsp, Swsp, Nop}
use Rattle.opcodes.specs.declared.format.Format.{Format}
use Rattle.opcodes.specs.declared.format.Format.TheVariants.{RegRegReg, RegRegShift, RegRegImm, RegLongImm, Branch, Memory, RegReg, RegImm, RegShift, Reg, Jump, Stack, Bare}

pub record Row : Type 0 where
  pub number : ℕ
  pub name : List ℕ
  pub code : ℕ
  pub format : Format

abbrev entry : ℕ → List ℕ → ℕ → Format → Row
entry n s c f = record { number = n; name = s; code = c; format = f }

abbrev pub row : Kind → Row
row Add = entry 1 (codes "add") 0x01 RegRegReg
row Sub = entry 2 (codes "sub") 0x09 RegRegReg
row And = entry 3 (codes "and") 0x11 RegRegReg
row Xor = entry 4 (codes "xor") 0x19 RegRegReg
row Or = entry 5 (codes "or") 0x21 RegRegReg
row Lsl = entry 6 (codes "lsl") 0x29 RegRegReg
row Lsr = entry 7 (codes "lsr") 0x31 RegRegReg
row Asr = entry 8 (codes "asr") 0x39 RegRegReg
row Addi = entry 9 (codes "addi") 0x03 RegRegImm
row Andi = entry 10 (codes "andi") 0x13 RegRegImm
row Xori = entry 11 (codes "xori") 0x1B RegRegImm
row Ori = entry 12 (codes "ori") 0x23 RegRegImm
row Li = entry 13 (codes "li") 0x35 RegLongImm
row Lsli = entry 14 (codes "lsli") 0x2B RegRegShift
row Lsri = entry 15 (codes "lsri") 0x33 RegRegShift
row Asri = entry 16 (codes "asri") 0x3B RegRegShift
row Beq = entry 17 (codes "beq") 0x0F Branch
row Bne = entry 18 (codes "bne") 0x2F Branch
row Blt = entry 19 (codes "blt") 0x37 Branch
row Bltu = entry 20 (codes "bltu") 0x17 Branch
row Ble = entry 21 (codes "ble") 0x3F Branch
row Bleu = entry 22 (codes "bleu") 0x1F Branch
row Lw = entry 23 (codes "lw") 0x15 Memory
row Lb = entry 24 (codes "lb") 0x25 Memory
row Lbu = entry 25 (codes "lbu") 0x05 Memory
row Sw = entry 26 (codes "sw") 0x1D Memory
row Sb = entry 27 (codes "sb") 0x0D Memory
row Mov = entry 28 (codes "mov") 0xC0 RegReg
row Add2 = entry 29 (codes "add2") 0x80 RegReg
row Sub2 = entry 30 (codes "sub2") 0x88 RegReg
row And2 = entry 31 (codes "and2") 0x90 RegReg
row Xor2 = entry 32 (codes "xor2") 0x98 RegReg
row Or2 = entry 33 (codes "or2") 0xA0 RegReg
row Lsl2 = entry 34 (codes "lsl2") 0xA8 RegReg
row Lsr2 = entry 35 (codes "lsr2") 0xB0 RegReg
row Asr2 = entry 36 (codes "asr2") 0xB8 RegReg
row Addi2 = entry 37 (codes "addi2") 0x02 RegImm
row Andi2 = entry 38 (codes "andi2") 0x12 RegImm
row Lsi = entry 39 (codes "lsi") 0x34 RegImm
row Lui = entry 40 (codes "lui") 0x04 RegImm
row Lsli2 = entry 41 (codes "lsli2") 0x2A RegShift
row Lsri2 = entry 42 (codes "lsri2") 0x32 RegShift
row Asri2 = entry 43 (codes "asri2") 0x3A RegShift
row Jalr = entry 44 (codes "jalr") 0x16 Reg
row Jr = entry 45 (codes "jr") 0x06 Reg
row Js = entry 46 (codes "js") 0x0E Jump
row Jsal = entry 47 (codes "jsal") 0x1E Jump
row Lwsp = entry 48 (codes "lwsp") 0x14 Stack
row Swsp = entry 49 (codes "swsp") 0x1C Stack
row Nop = entry 50 (codes "nop") 0x00 Bare

abbrev pub number : Kind → ℕ
number k = (row k).number

abbrev pub name : Kind → List ℕ
name k = (row k).name

abbrev pub code : Kind → ℕ
code k = (row k).code

abbrev pub format : Kind → Format
format k = (row k).format

-- the kinds in the order of their numbers
abbrev pub kinds : List Kind
kinds = Add ∷ Sub ∷ And ∷ Xor ∷ Or ∷ Lsl ∷ Lsr ∷ Asr ∷ Addi ∷ Andi ∷ Xori ∷ Ori ∷ Li ∷ Lsli ∷ Lsri ∷ Asri ∷ Beq ∷ Bne ∷ Blt ∷ Bltu ∷ Ble ∷ Bleu ∷ Lw ∷ Lb ∷ Lbu ∷ Sw ∷ Sb ∷ Mov ∷ Add2 ∷ Sub2 ∷ And2 ∷ Xor2 ∷ Or2 ∷ Lsl2 ∷ Lsr2 ∷ Asr2 ∷ Addi2 ∷ Andi2 ∷ Lsi ∷ Lui ∷ Lsli2 ∷ Lsri2 ∷ Asri2 ∷ Jalr ∷ Jr ∷ Js ∷ Jsal ∷ Lwsp ∷ Swsp ∷ Nop ∷ []

-- the kind with a number
unfoldable pub kind_numbered : ℕ → Option Kind
kind_numbered n = cond (n == 0) None (slice_get kinds (n - 1))
