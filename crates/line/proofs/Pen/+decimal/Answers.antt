-- `decimal`: the digits before the last, then the last one (`decimal_more`); the number falls at each call.
use Rattle.line.proofs.Adding.{writes_same, writes_join}
use Rattle.line.proofs.Digits.{decimal_one, decimal_more}
use Rattle.line.proofs.Pen.+decimal.Goals as goal

pub returns-then-v-lt10 : goal.returns-then-v-lt10
returns-then-v-lt10 t c = writes_same (decimal_one _ c.if-v-lt10.true) c.byte.ensures

pub returns-else-v-lt10 : goal.returns-else-v-lt10
returns-else-v-lt10 t c =
    writes_same (decimal_more _ c.if-v-lt10.false c.ranges.v.fits) (writes_join c.decimal.ensures c.byte-else-v-lt10.ensures)
