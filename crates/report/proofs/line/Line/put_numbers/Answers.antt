-- The letter, the numbers and the line's end, one after the other.
use native.Mathlib.Omega.{arith}
use Rattle.report.proofs.Texts.Words.{spaced-words}
use Rattle.report.proofs.Texts.Lines.{wrote-on}
use Rattle.report.proofs.line.Line.put_numbers.Goals as goal

pub returns : goal.returns
returns c =
    rw (spaced-words c.args.xs.now)
    at (wrote-on (omega arith) (wrote-on (omega arith) c.put.ensures c.numbers.ensures.text) c.put-2.ensures)
