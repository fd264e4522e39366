-- Two letters, and the third and the numbers behind them.
use native.Mathlib.Omega.{arith}
use Rattle.report.specs.Text.{end_line}
use Rattle.report.proofs.Texts.Lines.{wrote-on}
use Rattle.report.proofs.line.Line.end.Goals as goal

pub returns : goal.returns
unfolding end_line
returns c =
    let told = rw (c.from.ensures, c.ending_number.ensures) at c.put_numbers.ensures in
    wrote-on (omega arith) c.put.ensures told
