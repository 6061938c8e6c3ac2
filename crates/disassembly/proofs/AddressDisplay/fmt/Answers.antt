use Rattle.std.proofs.Common.{◌<◌, replicate, sym, subst, arith}
use Rattle.std.specs.Str.{IsUtf8}
use Rattle.std.proofs.lemmas.Str.{IsUtf8-from_ascii}
use Rattle.std.proofs.lemmas.Str.Ascii.{IsAscii-from_all}
use Rattle.std.proofs.lemmas.List.Elements.{All-replicate}
use Rattle.disassembly.proofs.Shown.{field_text}
use Rattle.disassembly.proofs.AddressDisplay.fmt.Goals as goal

pub from_utf8_unchecked-requires : goal.from_utf8_unchecked-requires
from_utf8_unchecked-requires g c =
    let zeros = replicate 5 0 in
    let before = IsUtf8-from_ascii zeros (IsAscii-from_all zeros (All-replicate (λ b. b < 128) 5 0 (omega arith))) in
    subst IsUtf8 (sym c.justify.ensures.after) (field_text zeros _ (omega arith) before)
