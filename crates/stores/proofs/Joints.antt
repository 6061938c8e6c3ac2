-- Two memories put together: a look, a question about protection and a write, below the joint and above it.
use Rattle.std.proofs.Common.{◌≡◌, ℕ, ◌+◌, ◌-◌, ◌<◌, ◌≤◌, min, Bool, true, ltb, List, ◌++◌, length, set, Ok, Err, sym, refl, ap, ◌∙◌, arith, length-append, length-set}
use Rattle.std.proofs.lemmas.List.{get_or_append_left, get_or-append_right, set-append_left, set-append_right}
use Rattle.std.proofs.lemmas.Bool.Decides.{nat_tests}
use Rattle.memory.specs.declared.Cell.{Cell}
use Rattle.memory.specs.declared.StoreFault.TheVariants.{Outside, Protected}
use Rattle.memory.specs.Memory.{most_cells, Memory, Trimmed, memory_of, blank, looked, asked, write_answer, written, holding, if_ok}
use Rattle.memory.proofs.Protected.{as_trimmed, alike, set_holding}
use Rattle.stores.specs.Cut.{cut, cut_bounded}
use Rattle.stores.specs.Joints.{across, joined, in_whole, lower_part}
use Rattle.stores.specs.Laws.{Past, JoinedAsParts}
use Rattle.stores.specs.Protection.{everything}
use Rattle.stores.proofs.Cuts.{cut_length, cut_at, cut_set, cut_front}

-- a look at one list of cells after another, cut: below the joint,
module _ (xs ys : List Cell) (a : ℕ) where
  module _ (few : length xs ≤ most_cells) (below : a < length xs) where
    inside_below : a < length (cut (xs ++ ys))
    inside_below =
        let size = cut_length (xs ++ ys) in
        let sum = length-append xs ys in
        omega arith

    pub looked_below : looked (cut (xs ++ ys)) a ≡ looked xs a
    looked_below =
        let inside = inside_below in
        let uncut = cut_at (xs ++ ys) a blank (omega arith) in
        let left = get_or_append_left xs ys blank a below in
        grind (arith, nat_tests)

  -- from the joint on,
  module _ (addressed : a < most_cells) (above : length xs ≤ a) where
    back : length xs + (a - length xs) ≡ a
    back = omega arith

    inside_above : ltb a (length (cut (xs ++ ys))) ≡ ltb (a - length xs) (length ys)
    inside_above =
        let size = cut_length (xs ++ ys) in
        let sum = length-append xs ys in
        grind (arith, nat_tests)

    pub looked_above : looked (cut (xs ++ ys)) a ≡ in_whole (length xs) (looked ys (a - length xs))
    looked_above =
        let inside = inside_above in
        let uncut = cut_at (xs ++ ys) a blank addressed in
        let right = get_or-append_right xs ys (length xs) a blank refl above in
        let same = back in
        grind (arith, nat_tests)

  -- and past the cut
  pub looked_past : most_cells ≤ a → looked (cut (xs ++ ys)) a ≡ Err (Outside a)
  looked_past past = let size = cut_bounded (xs ++ ys) in grind (arith, nat_tests)

pub ruleset looks = (looked_below, looked_above, looked_past)

-- protections put together are those of the memories put together
joined_memory : (xs ys : List Cell) (p q : ℕ → Bool) → memory_of (cut (xs ++ ys)) (across (length xs) p q) ≡ joined (memory_of xs p) (memory_of ys q)
joined_memory xs ys p q =
    let size = cut_length (xs ++ ys) in
    let sum = length-append xs ys in
    alike (cut (xs ++ ys)) (across (length xs) p q) (across (length xs) (memory_of xs p).protected (memory_of ys q).protected) (λ a inside. grind (arith, nat_tests))

-- the question about protection, and the answer to a write
module _ (lower upper : Memory) (a : ℕ) where
  module _ (few : length lower.cells ≤ most_cells) (below : a < length lower.cells) where
    pub asked_below : asked (joined lower upper) a ≡ asked lower a
    asked_below = let inside = inside_below lower.cells upper.cells a few below in grind (arith, nat_tests)

    pub answer_below : write_answer (joined lower upper) a ≡ write_answer lower a
    answer_below = let inside = inside_below lower.cells upper.cells a few below in grind (arith, nat_tests)

  module _ (addressed : a < most_cells) (above : length lower.cells ≤ a) where
    asked_above : asked (joined lower upper) a ≡ in_whole (length lower.cells) (asked upper (a - length lower.cells))
    asked_above =
        let inside = inside_above lower.cells upper.cells a addressed above in
        let same = back lower.cells upper.cells a addressed above in
        grind (arith, nat_tests)

    answer_above : write_answer (joined lower upper) a ≡ in_whole (length lower.cells) (write_answer upper (a - length lower.cells))
    answer_above =
        let inside = inside_above lower.cells upper.cells a addressed above in
        let same = back lower.cells upper.cells a addressed above in
        grind (arith, nat_tests)

-- a cell set in one part is that cell set in the whole
module _ (lower upper : Memory) (a : ℕ) (c : Cell) where
  set_below : a < length lower.cells → joined (holding lower (set lower.cells a c)) upper ≡ holding (joined lower upper) (set (joined lower upper).cells a c)
  set_below below =
      let whole = lower.cells ++ upper.cells in
      rw (length-set lower.cells a c, ← set-append_left lower.cells upper.cells a c below, cut_set whole a c)
      (set_holding (cut whole) (across (length lower.cells) lower.protected upper.protected) a c)

  set_above : length lower.cells ≤ a → joined lower (holding upper (set upper.cells (a - length lower.cells) c)) ≡ holding (joined lower upper) (set (joined lower upper).cells a c)
  set_above above =
      let whole = lower.cells ++ upper.cells in
      rw (← set-append_right lower.cells upper.cells (length lower.cells) a c refl above, cut_set whole a c)
      (set_holding (cut whole) (across (length lower.cells) lower.protected upper.protected) a c)

  pub written_below : length lower.cells ≤ most_cells → a < length lower.cells → joined (written lower a c) upper ≡ written (joined lower upper) a c
  written_below few below =
      let same = answer_below lower upper a few below in
      let put = set_below below in
      grind arith

  written_above : a < most_cells → length lower.cells ≤ a → joined lower (written upper (a - length lower.cells) c) ≡ written (joined lower upper) a c
  written_above addressed above =
      let same = answer_above lower upper a addressed above in
      let put = set_above above in
      grind arith

-- a reading end above a store, all of whose addresses are protected: from the joint on nothing is written
module _ (lower : Memory) (ys : List Cell) (a : ℕ) (above : length lower.cells ≤ a) where
  abbrev whole : Memory
  whole = joined lower (memory_of ys everything)

  protected_upper : a < length (cut (lower.cells ++ ys)) → whole.protected a ≡ true
  protected_upper inside =
      let size = cut_length (lower.cells ++ ys) in
      let sum = length-append lower.cells ys in
      grind (arith, nat_tests)

  pub asked_upper : a < length (cut (lower.cells ++ ys)) → Ok true ≡ asked (joined lower (memory_of ys everything)) a
  asked_upper inside = let shut = protected_upper inside in grind (arith, nat_tests)

  pub answer_upper : a < length (cut (lower.cells ++ ys)) → Err (Protected a) ≡ write_answer (joined lower (memory_of ys everything)) a
  answer_upper inside = let shut = protected_upper inside in grind (arith, nat_tests)

  pub written_upper : (c : Cell) → written (joined lower (memory_of ys everything)) a c ≡ joined lower (memory_of ys everything)
  written_upper c =
      let size = cut_length (lower.cells ++ ys) in
      let sum = length-append lower.cells ys in
      grind (arith, nat_tests)

-- past the cut all is refused
all_past : (lower upper : Memory) (a : ℕ) → most_cells ≤ a → Past lower upper a
all_past lower upper a past =
    let size = cut_bounded (lower.cells ++ upper.cells) in
    let refused : write_answer (joined lower upper) a ≡ Err (Outside a) = grind (arith, nat_tests) in
    record {
      look = looked_past lower.cells upper.cells a past;
      question = grind (arith, nat_tests);
      answer = refused;
      write = λ c. ap (λ r. if_ok r (holding (joined lower upper) (set (joined lower upper).cells a c)) (joined lower upper)) refused;
    }

-- the whole and the joint tell the lower part
apart : (lower upper : Memory) → Trimmed lower → length lower.cells ≤ most_cells → lower_part (length lower.cells) (joined lower upper) ≡ lower
apart lower upper trimmed few =
    let whole = joined lower upper in
    let size = cut_length (lower.cells ++ upper.cells) in
    let sum = length-append lower.cells upper.cells in
    ap (λ (cells : List Cell). memory_of cells whole.protected) (cut_front lower.cells upper.cells few) ∙ as_trimmed lower whole.protected trimmed (λ a inside. grind (arith, nat_tests))

pub joined_as_parts : JoinedAsParts
joined_as_parts =
    record {
      meaning = joined_memory;
      size = λ lower upper. cut_length (lower.cells ++ upper.cells) ∙ ap (min most_cells) (length-append lower.cells upper.cells);
      below = λ lower upper a few below. record {
        look = looked_below lower.cells upper.cells a few below;
        question = asked_below lower upper a few below;
        answer = answer_below lower upper a few below;
        write = λ c. sym (written_below lower upper a c few below);
      };
      above = λ lower upper a above addressed. record {
        look = looked_above lower.cells upper.cells a addressed above;
        question = asked_above lower upper a addressed above;
        answer = answer_above lower upper a addressed above;
        write = λ c. sym (written_above lower upper a c addressed above);
      };
      past = all_past;
      apart = apart;
    }

pub ruleset uppers = (asked_upper, answer_upper, written_upper)
