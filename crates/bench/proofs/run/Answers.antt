-- `run`: what was read lies within the buffer, which has one byte more than the longest input, and the line within its own.
use Rattle.std.proofs.Common.{[], refl, sym}
use Rattle.std.proofs.Math.Seq.{length-take-le}
use Rattle.line.proofs.Adding.{printed_within}
use Rattle.bench.proofs.run.Goals as goal

pub slice_bounds-line-end : goal.slice_bounds-line-end
slice_bounds-line-end c = printed_within (c.answer-length.ensures.tells [] (λ _. refl)).printed

pub slice_bounds-print-end : goal.slice_bounds-print-end
slice_bounds-print-end c = sym (length-take-le _ _ (printed_within (c.answer-length.ensures.tells [] (λ _. refl)).printed))
