-- What is so of every two memories put together.
-- Assumes nothing.
use Rattle.std.specs.Prelude.{◌≡◌, ℕ, ◌+◌, ◌-◌, ◌<◌, ◌≤◌, min, Bool, List, ◌++◌, length, Err}
use Rattle.memory.specs.declared.Cell.{Cell}
use Rattle.memory.specs.declared.StoreFault.TheVariants.{Outside}
use Rattle.memory.specs.Memory.{most_cells, Memory, Trimmed, memory_of, looked, asked, write_answer, written}
use Rattle.stores.specs.Cut.{cut}
use Rattle.stores.specs.Joints.{across, joined, in_whole, lower_part}

-- below the joint the whole is its lower part
pub record Below (lower upper : Memory) (a : ℕ) : Type 0 where
  pub look : looked (joined lower upper).cells a ≡ looked lower.cells a
  pub question : asked (joined lower upper) a ≡ asked lower a
  pub answer : write_answer (joined lower upper) a ≡ write_answer lower a
  pub write : (c : Cell) → written (joined lower upper) a c ≡ joined (written lower a c) upper

-- from the joint on it is its upper part, at an address that counts from the joint; a fault has its address in the whole
pub record Above (lower upper : Memory) (joint a : ℕ) : Type 0 where
  pub look : looked (joined lower upper).cells a ≡ in_whole joint (looked upper.cells (a - joint))
  pub question : asked (joined lower upper) a ≡ in_whole joint (asked upper (a - joint))
  pub answer : write_answer (joined lower upper) a ≡ in_whole joint (write_answer upper (a - joint))
  pub write : (c : Cell) → written (joined lower upper) a c ≡ joined lower (written upper (a - joint) c)

-- and nothing is past the cut
pub record Past (lower upper : Memory) (a : ℕ) : Type 0 where
  pub look : looked (joined lower upper).cells a ≡ Err (Outside a)
  pub question : asked (joined lower upper) a ≡ Err (Outside a)
  pub answer : write_answer (joined lower upper) a ≡ Err (Outside a)
  pub write : (c : Cell) → written (joined lower upper) a c ≡ joined lower upper

pub record JoinedAsParts : Type 0 where
  -- cells and protections put together are the memories put together
  pub meaning : (xs ys : List Cell) (p q : ℕ → Bool) → memory_of (cut (xs ++ ys)) (across (length xs) p q) ≡ joined (memory_of xs p) (memory_of ys q)
  pub size : (lower upper : Memory) → length (joined lower upper).cells ≡ min most_cells (length lower.cells + length upper.cells)
  pub below : (lower upper : Memory) (a : ℕ) → length lower.cells ≤ most_cells → a < length lower.cells → Below lower upper a
  pub above : (lower upper : Memory) (a : ℕ) → length lower.cells ≤ a → a < most_cells → Above lower upper (length lower.cells) a
  pub past : (lower upper : Memory) (a : ℕ) → most_cells ≤ a → Past lower upper a
  -- the whole and the joint tell the lower part
  pub apart : (lower upper : Memory) → Trimmed lower → length lower.cells ≤ most_cells → lower_part (length lower.cells) (joined lower upper) ≡ lower
