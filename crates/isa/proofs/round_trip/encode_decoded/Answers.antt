use Rattle.std.proofs.Common.{Err, sym, ap, ◌∙◌, arith}
use Rattle.std.proofs.lemmas.Result.{err_from_is_err_and}
use Rattle.records.specs.Records.{meaning}
use Rattle.isa.specs.RoundTrips.{as_codec}
use Rattle.isa.proofs.Round.{redoes}
use Rattle.isa.proofs.Trips.{bytes_from, copied_laid, copied_bytes}
use Rattle.isa.proofs.round_trip.encode_decoded.Goals as goal

pub returns-in_err-record-clause-law : goal.returns-in_err-record-clause-law
returns-in_err-record-clause-law c = redoes

pub returns-in_err-encode : goal.returns-in_err-encode
returns-in_err-encode c =
    let p = err_from_is_err_and c.from_residual-in_err-encode.result c.from_residual-in_err-encode.ensures.1 in
    let s = c.args.bytes.now in
    let bytes = bytes_from s (λ i. omega (arith, c.type_inv.bytes i)) in
    let x = meaning c.in_ok-record.record in
    let rest = c.in_ok-record.field-0-1.now in
    record {
      answer = p.1
          ∙ ap (λ e. Err e) p.2
          ∙ ap as_codec (sym c.in_err-encode.was ∙ c.encode.ensures.answer)
          ∙ copied_laid s x rest bytes c.in_ok-record.ensures c.args.buffer.now;
      after = c.encode.ensures.after ∙ copied_bytes s x rest bytes c.in_ok-record.ensures c.args.buffer.now;
      law = redoes;
    }

pub returns : goal.returns
returns c =
    let s = c.args.bytes.now in
    let bytes = bytes_from s (λ i. omega (arith, c.type_inv.bytes i)) in
    let x = meaning c.in_ok-record.record in
    let rest = c.in_ok-record.field-0-1.now in
    record {
      answer = ap as_codec (sym c.in_ok-encode.was ∙ c.encode.ensures.answer) ∙ copied_laid s x rest bytes c.in_ok-record.ensures c.args.buffer.now;
      after = c.encode.ensures.after ∙ copied_bytes s x rest bytes c.in_ok-record.ensures c.args.buffer.now;
      law = redoes;
    }
