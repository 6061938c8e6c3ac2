-- The listing of instructions that were encoded, and of what is refused behind them. Assumes nothing.
use Rattle.std.proofs.Common.{◌≡◌, ℕ, suc, ◌+◌, ◌-◌, ◌≤◌, List, [], ◌∷◌, ◌++◌, length, take, Err, ap, ◌∙◌, append_assoc, add-zero, zero-add, arith, length-append}
use lib.Seq.{take-append_seam}
use Rattle.std.specs.List.{AllByRecursion}
use Rattle.records.specs.declared.refusal.DecodeError.{DecodeError}
use Rattle.records.specs.Codec.{decoded, encoded}
use Rattle.records.specs.Instructions.{Instruction, Sound}
use Rattle.records.proofs.Splits.{shorter}
use Rattle.isa.proofs.Round.{undoes}
use Rattle.disassembly.specs.Listings.{line, count_line, listed, bytes, lines, stop, ShowsWhatWasEncoded}
use Rattle.disassembly.proofs.Runs.{first_line, stopped, within}

all_lines : (n at count : ℕ) (xs : List Instruction) → AllByRecursion Sound xs → (s : List ℕ) (e : DecodeError) → (decoded s).answer ≡ Err e → length (bytes xs ++ s) ≤ n → listed n at count (bytes xs ++ s) ≡ lines at xs ++ (stop (at + length (bytes xs)) s e ++ count_line (count + length xs))
all_lines n at count [] a s e d le = rw (add-zero at, add-zero count) (stopped n at count s e d le)
all_lines n at count (x ∷ xs) a s e d le =
    let rest : List ℕ = bytes xs ++ s in
    let whole : List ℕ = encoded x ++ rest in
    let join : (encoded x ++ bytes xs) ++ s ≡ whole = append_assoc (encoded x) (bytes xs) s in
    let size : length whole - length rest ≡ length (encoded x) = omega (arith, length-append (encoded x) rest) in
    let own : take (length (encoded x)) whole ≡ encoded x = take-append_seam (encoded x) rest in
    let found = undoes x a.0 rest in
    let less = shorter whole x rest found in
    let end : at + length (encoded x) + length (bytes xs) ≡ at + length (encoded x ++ bytes xs) = omega (arith, length-append (encoded x) (bytes xs)) in
    let more : count + 1 + length xs ≡ count + suc (length xs) = omega arith in
    let fits : length whole ≤ n = omega (arith, ap length join) in
    rw (join, first_line n at count whole x rest less fits found, size, own, append_assoc, ← end, ← more)
    (ap (λ (l : List ℕ). line at (encoded x) x ++ l) (all_lines (n - 1) (at + length (encoded x)) (count + 1) xs a.1 s e d (omega arith)))

pub shown : ShowsWhatWasEncoded
shown xs a s e d le =
    within (bytes xs ++ s) le ∙ (rw (zero-add (length (bytes xs)), zero-add (length xs)) at (all_lines (length (bytes xs ++ s)) 0 0 xs a s e d (omega arith)))
