-- What an address and a byte write. Assumes nothing.
use Rattle.std.proofs.Common.{◌≡◌, ℕ, ◌+◌, ◌-◌, ◌/◌, ◌%◌, ◌^◌, ◌<◌, true, false, Bool, cond, List, ◌++◌, take, get_or, length, replicate, decimal, lit<, arith, rules}
use Rattle.std.specs.Str.{IsUtf8}
use Rattle.std.proofs.lemmas.Bool.Decides.{nat_tests}
use Rattle.std.proofs.lemmas.Fmt.{IsAscii-decimal}
use Rattle.std.proofs.lemmas.List.Elements.{All-replicate}
use Rattle.std.proofs.lemmas.Str.{IsUtf8-from_ascii, IsAscii-append}
use Rattle.std.proofs.lemmas.Str.Ascii.{IsAscii-from_all}
use Rattle.std.proofs.lemmas.Grind.{common_steps}
use Rattle.columns.specs.Columns.{padded, fits, justified}
use Rattle.disassembly.specs.Listings.{hex_digit, hex, hexes}

-- a number in columns
columns_text : (w n : ℕ) → n < 2 ^ 64 → IsUtf8 (padded w n)
unfolding padded
columns_text w n small =
    let blanks = w - length (decimal n) in
    IsUtf8-from_ascii (padded w n) (IsAscii-append (replicate blanks 32) (decimal n) (IsAscii-from_all (replicate blanks 32) (All-replicate (λ b. b < 128) blanks 32 (lit< tt))) (IsAscii-decimal n small))

-- so that a field is a text whether a number was laid over it or not
pub field_text : (field : List ℕ) (n : ℕ) → n < 2 ^ 64 → IsUtf8 field → IsUtf8 (justified field n)
field_text field n small before = by (fits (length field) n)
  where
    by : (b : Bool) → IsUtf8 (cond b (padded (length field) n) field)
    by true = columns_text (length field) n small
    by false = before

-- a number that has more figures than there are columns has no blanks before it
pub no_blanks : (w n : ℕ) → fits w n ≡ false → padded w n ≡ decimal n
unfolding padded
no_blanks w n wide = let none : w - length (decimal n) ≡ 0 = grind (arith, nat_tests) in rw none

-- a digit is ASCII
digit_small : (n : ℕ) → n < 16 → hex_digit n < 128
digit_small n h = grind (arith, nat_tests)

-- a byte's blank and digits are a text
pub hex_text : (b : ℕ) → b < 256 → IsUtf8 (hex b)
hex_text b small = IsUtf8-from_ascii (hex b) (IsAscii-from_all (hex b) (search (rules, digit_small (b / 16) (omega arith), digit_small (b % 16) (omega arith))))

-- one byte more
pub hexes_more : (bs : List ℕ) (i : ℕ) → i < length bs → hexes (take i bs) ++ hex (get_or bs i 0) ≡ hexes (take (i + 1) bs)
hexes_more bs i within = grind (arith, common_steps)
