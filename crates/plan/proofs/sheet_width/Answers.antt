-- `sheet_width`: every part is small, so no sum wraps; their sum is the length of the sheet.
use native.Mathlib.Omega.{arith}
use Rattle.plan.proofs.Writing.{numbers_length, width_small, widths_small}
use Rattle.plan.proofs.sheet_width.Goals as goal

pub overflow_add-result : goal.overflow_add-result
overflow_add-result c =
    omega (arith, widths_small _ _ c.requires.0 c.list_width.ensures, widths_small _ _ c.requires.1 c.list_width-2.ensures)

pub overflow_add-result-2 : goal.overflow_add-result-2
overflow_add-result-2 c =
    omega (
      arith,
      widths_small _ _ c.requires.0 c.list_width.ensures,
      widths_small _ _ c.requires.1 c.list_width-2.ensures,
      width_small _ _ c.width.ensures,
    )

pub overflow_add-result-3 : goal.overflow_add-result-3
overflow_add-result-3 c =
    omega (
      arith,
      widths_small _ _ c.requires.0 c.list_width.ensures,
      widths_small _ _ c.requires.1 c.list_width-2.ensures,
      width_small _ _ c.width.ensures,
      widths_small _ _ c.requires.2 c.list_width-3.ensures,
    )

pub returns : goal.returns
returns c =
    omega (
      arith,
      numbers_length c.args.heading.now c.args.disks.now c.args.short.now,
      c.list_width.ensures,
      c.list_width-2.ensures,
      c.width.ensures,
      c.list_width-3.ensures,
    )
