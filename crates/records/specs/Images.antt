-- What the bytes of an instruction are in the code.
-- Assumes nothing.
use Rattle.std.specs.Prelude.{ℕ, List, [], ◌∷◌}
use Rattle.records.specs.declared.image.Image.{Image}
use Rattle.records.specs.declared.image.Image.TheVariants.{Two, Three}
use Rattle.records.specs.Codec.{Encoding, two, three}

abbrev pub encoding : Image → Encoding
encoding (Two low high) = two low high
encoding (Three low high top) = three low high top

abbrev pub image_bytes : Image → List ℕ
image_bytes (Two low high) = low ∷ high ∷ []
image_bytes (Three low high top) = low ∷ high ∷ top ∷ []
