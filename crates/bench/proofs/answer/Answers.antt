-- `answer`: whatever follows a buffer that is full changes nothing.
use Rattle.bench.proofs.Whole.{answers}
use Rattle.bench.proofs.answer.Goals as goal

pub returns : goal.returns
returns c = answers _ _ c.requires.0 c.requires.1 c.bench.ensures
