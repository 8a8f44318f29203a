-- `width`: one law for each answer.
use mathlib.Core.Path.{sym}
use Rattle.number.proofs.Encode.{width_one, width_two, width_three, width_four, width_five}
use Rattle.number.proofs.width.Goals as goal

pub returns-then-v-lt128 : goal.returns-then-v-lt128
returns-then-v-lt128 c = sym (width_one _ c.if-v-lt128.true)

pub returns-then-v-lt16384 : goal.returns-then-v-lt16384
returns-then-v-lt16384 c = sym (width_two _ c.if-v-lt128.false c.if-v-lt16384.true)

pub returns-then-v-lt2097152 : goal.returns-then-v-lt2097152
returns-then-v-lt2097152 c = sym (width_three _ c.if-v-lt16384.false c.if-v-lt2097152.true)

pub returns-then-v-lt268435456 : goal.returns-then-v-lt268435456
returns-then-v-lt268435456 c = sym (width_four _ c.if-v-lt2097152.false c.if-v-lt268435456.true)

pub returns-else-v-lt268435456 : goal.returns-else-v-lt268435456
returns-else-v-lt268435456 c = sym (width_five _ c.if-v-lt268435456.false c.ranges.v.fits)
