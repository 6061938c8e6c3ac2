-- A number in columns.
-- Assumes nothing.
use Rattle.std.specs.Prelude.{ℕ, ◌+◌, ◌-◌, Bool, cond, List, ◌++◌, length, take, drop, replicate, Ok, Err, decimal, Result, nat_le}
use Rattle.columns.specs.declared.ColumnsError.{ColumnsError}
use Rattle.columns.specs.declared.ColumnsError.TheVariants.{NoRoom, TooLong}

-- n right-justified in w columns, with leading blanks; the figures are 0 to 9 as bytes 48 to 57, a blank is 32
unfoldable pub padded : ℕ → ℕ → List ℕ
padded w n = replicate (w - length (decimal n)) 32 ++ decimal n

abbrev pub fits : ℕ → ℕ → Bool
fits w n = nat_le (length (decimal n)) w

-- over a whole field
abbrev pub justified_answer : List ℕ → ℕ → Result (Unit {0}) ColumnsError
justified_answer field n = cond (fits (length field) n) (Ok tt) (Err TooLong)

abbrev pub justified : List ℕ → ℕ → List ℕ
justified field n = cond (fits (length field) n) (padded (length field) n) field

-- into the columns of a buffer from a place on
abbrev pub inside : List ℕ → ℕ → ℕ → Bool
inside out from width = nat_le (from + width) (length out)

abbrev pub justified_at_answer : List ℕ → ℕ → ℕ → ℕ → Result (Unit {0}) ColumnsError
justified_at_answer out from width n = cond (inside out from width) (cond (fits width n) (Ok tt) (Err TooLong)) (Err NoRoom)

abbrev pub justified_at : List ℕ → ℕ → ℕ → ℕ → List ℕ
justified_at out from width n = cond (inside out from width) (cond (fits width n) (take from out ++ (padded width n ++ drop (from + width) out)) out) out
