-- The lines of a listing.
-- Assumes nothing.
use Rattle.std.specs.Prelude.{◌≡◌, ℕ, zero, suc, ◌+◌, ◌-◌, ◌/◌, ◌%◌, ◌≤◌, cond, List, [], ◌∷◌, ◌++◌, length, take, Ok, Err, codes, decimal, Result, ◌==◌, nat_le, nat_lt}
use Rattle.std.specs.List.{AllByRecursion, flat_map}
use Rattle.columns.specs.Columns.{padded}
use Rattle.records.specs.declared.refusal.DecodeError.{DecodeError}
use Rattle.records.specs.Codec.{decoded, encoded}
use Rattle.records.specs.Instructions.{Instruction, Sound}
use Rattle.records.specs.Refusals.{decode_number, decode_message}
use Rattle.records.specs.Texts.{text}

abbrev pub hex_digit : ℕ → ℕ
hex_digit n = cond (nat_lt n 10) (48 + n) (65 + (n - 10))

-- a byte as a blank and two hexadecimal digits
abbrev pub hex : ℕ → List ℕ
hex b = 32 ∷ hex_digit (b / 16) ∷ hex_digit (b % 16) ∷ []

abbrev pub hexes : List ℕ → List ℕ
hexes bs = flat_map hex bs

-- blanks in the place of a third byte
abbrev pub gap : ℕ → List ℕ
gap n = cond (n == 2) (codes "   ") []

-- the address in five columns, the bytes and the text
unfoldable pub line : ℕ → List ℕ → Instruction → List ℕ
line at bs x = padded 5 at ++ (codes " " ++ (hexes bs ++ (gap (length bs) ++ (codes "  " ++ (text x ++ codes "\n")))))

unfoldable pub refusal_line : ℕ → DecodeError → List ℕ
refusal_line at e = padded 5 at ++ (codes "  " ++ (decimal (decode_number e) ++ (codes " " ++ (decode_message e ++ codes "\n"))))

unfoldable pub count_line : ℕ → List ℕ
count_line n = codes "instructions: " ++ (decimal n ++ codes "\n")

abbrev pub too_long : List ℕ
too_long = codes "a filter has at most 65536 bytes\n"

-- what an answer of decoding lists, given how the listing goes on with what is left
abbrev pub by_answer : ℕ → ℕ → List ℕ → Result Instruction DecodeError → List ℕ → (ℕ → ℕ → List ℕ → List ℕ) → List ℕ
by_answer at count s (Ok x) rest goes_on = line at (take (length s - length rest) s) x ++ goes_on (at + (length s - length rest)) (count + 1) rest
by_answer at count s (Err e) rest goes_on = refusal_line at e ++ count_line count

-- what is listed of the bytes from an address on, after some instructions; the first number bounds how many follow
abbrev pub listed : ℕ → ℕ → ℕ → List ℕ → List ℕ
listed zero at count s = count_line count
listed (suc n) at count [] = count_line count
listed (suc n) at count (b ∷ s) = by_answer at count (b ∷ s) (decoded (b ∷ s)).answer (decoded (b ∷ s)).rest (listed n)

-- the listing of a filter: no more instructions follow than there are bytes
unfoldable pub listing : List ℕ → List ℕ
listing s = cond (nat_le (length s) 65536) (listed (length s) 0 0 s) too_long

-- the bytes of some instructions, and their lines from an address on
abbrev pub bytes : List Instruction → List ℕ
bytes [] = []
bytes (x ∷ xs) = encoded x ++ bytes xs

abbrev pub lines : ℕ → List Instruction → List ℕ
lines at [] = []
lines at (x ∷ xs) = line at (encoded x) x ++ lines (at + length (encoded x)) xs

-- what is listed of bytes that are refused: nothing where there are none
abbrev pub stop : ℕ → List ℕ → DecodeError → List ℕ
stop at [] e = []
stop at (b ∷ s) e = refusal_line at e

-- a filter of instructions, encoded one after another, and of bytes that are refused, is listed as these instructions, each with its
-- own bytes, then the refusal, then the count; every filter is of this form
abbrev pub ShowsWhatWasEncoded : Type 0
ShowsWhatWasEncoded =
    (xs : List Instruction) → AllByRecursion Sound xs → (s : List ℕ) (e : DecodeError) → (decoded s).answer ≡ Err e → length (bytes xs ++ s) ≤ 65536 → listing (bytes xs ++ s) ≡ lines 0 xs ++ (stop (length (bytes xs)) s e ++ count_line (length xs))
