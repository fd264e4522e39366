-- The space, and the digits behind it.
use native.Mathlib.Omega.{arith}
use Rattle.report.proofs.Texts.Lines.{wrote-on}
use Rattle.report.proofs.line.Line.number.Goals as goal

pub returns-clause-text : goal.returns-clause-text
returns-clause-text c =
    rw (c.text.ensures, c.new.ensures.digits) at (wrote-on (omega arith) c.put.ensures c.put-2.ensures)
