-- How a labelling shows its second law: by what its test decides.
-- Assumes nothing.
use Rattle.std.specs.Prelude.{ℕ, Bool, Decides}
use Rattle.std.proofs.lemmas.Bool.Decides.{Decides-and, Decides-like, same_from_decides}
use Rattle.labels.specs.Laws.{SeenAsBoth}

-- the test decides a property of reader and label, which a join has for a reader exactly when both labels have it
module _ (joined : ℕ → ℕ → ℕ) (seen : ℕ → ℕ → Bool) (Sees : ℕ → ℕ → Type 0) where
  pub seen_as_both_by : ((reader label : ℕ) → Decides (seen reader label) (Sees reader label))
      → ((reader a b : ℕ) → Sees reader (joined a b) → Sees reader a × Sees reader b)
      → ((reader a b : ℕ) → Sees reader a × Sees reader b → Sees reader (joined a b))
      → SeenAsBoth joined seen
  seen_as_both_by decides parts whole reader a b =
      let each = Decides-and (seen reader a) (seen reader b) (decides reader a) (decides reader b) in
      same_from_decides _ _ (decides reader (joined a b)) (Decides-like _ (whole reader a b) (parts reader a b) each)
