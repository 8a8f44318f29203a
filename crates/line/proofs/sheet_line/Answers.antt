-- `sheet_line`: the word, the sheet in hex, the line feed.
use native.Mathlib.Omega.{arith}
use borrow.Author.Rules.{rules}
use mathlib.Core.Path.{refl}
use Rattle.line.specs.Line.{feed}
use Rattle.line.proofs.Adding.{writes_line}
use Rattle.line.proofs.Lines.{long_sheet, sheet_bound, sheet_written}
use Rattle.line.proofs.sheet_line.Goals as goal

pub returns-then-sheet-gt-SHEET_MOST : goal.returns-then-sheet-gt-SHEET_MOST
returns-then-sheet-gt-SHEET_MOST c = long_sheet _ _ c.if-sheet-gt-SHEET_MOST.true

pub returns : goal.returns
unfolding feed
returns c =
    let h = c.if-sheet-gt-SHEET_MOST.false in
    writes_line (sheet_written _ h c.text.ensures c.hex.ensures c.byte.ensures) refl
    (omega (arith, sheet_bound c.args.sheet.now h)) (search rules)
