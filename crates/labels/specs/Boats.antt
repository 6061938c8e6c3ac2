-- Labels as sets of boats.
-- Assumes nothing.
use Rattle.std.specs.Prelude.{ℕ, Bool, ◌==◌, bit_and}

-- a reader sees a label all of whose bits are among its own
abbrev pub among : ℕ → ℕ → Bool
among reader label = bit_and label reader == label
