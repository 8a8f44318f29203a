-- `write` meets its contract: what was judged of the heading, then what was told of the blocks' bytes.
use mathlib.Core.Path.{refl, ◌∙◌}
use Rattle.basics.proofs.Question.{passed_on}
use Rattle.request.specs.Draft.{request_draft}
use Rattle.request.proofs.Aged.{kind_small}
use Rattle.request.proofs.Writing.{judged_got, sent_as, sent_stops}
use Rattle.request.proofs.write.Goals as goal

pub returns-in_err-judge : goal.returns-in_err-judge
unfolding request_draft
returns-in_err-judge c = sent_stops (passed_on c.from_residual.ensures) (c.in_err-judge.ensures _)

pub size-requires : goal.size-requires
size-requires c = let h = judged_got _ _ _ _ _ c.in_ok-judge.ensures in (h.within, h.count)

pub returns-in_err-n : goal.returns-in_err-n
unfolding request_draft
returns-in_err-n c = sent_stops (passed_on c.from_residual-in_err-n.ensures) (c.in_ok-judge.ensures _ ∙ c.in_err-n.ensures _)

pub send-requires : goal.send-requires
send-requires c = (kind_small _ (judged_got _ _ _ _ _ c.in_ok-judge.ensures).kind, refl, c.in_ok-n.ensures.0)

pub returns : goal.returns
unfolding request_draft
returns c = sent_as (c.in_ok-judge.ensures _ ∙ c.in_ok-n.ensures.1 _) c.send.ensures
