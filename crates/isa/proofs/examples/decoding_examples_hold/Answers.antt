use Rattle.isa.proofs.Round.{examples}
use Rattle.isa.proofs.examples.decoding_examples_hold.Goals as goal

pub returns : goal.returns
returns c = examples
