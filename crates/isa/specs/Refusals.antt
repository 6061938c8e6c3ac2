-- The number of a refusal to decode and encode again.
-- Assumes nothing.
use Rattle.std.specs.Prelude.{ℕ}
use Rattle.records.specs.Refusals.{decode_number, encode_number}
use Rattle.isa.specs.declared.refusal.CodecError.{CodecError}
use Rattle.isa.specs.declared.refusal.CodecError.TheVariants.{Decode, Encode}

abbrev pub codec_number : CodecError → ℕ
codec_number (Decode e) = decode_number e
codec_number (Encode e) = encode_number e
