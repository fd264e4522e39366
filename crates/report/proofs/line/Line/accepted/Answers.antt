-- The line of a record accepted: a letter, three numbers, the record and the line's end.
use mathlib.Core.Path.{◌≡◌, subst}
use Prim.Native.Nat.{◌+◌, ◌-◌, ◌*◌}
use native.Mathlib.Omega.{arith}
use Rattle.report.specs.Wrote.{Wrote}
use Rattle.report.proofs.Texts.Words.{spaced-hex}
use Rattle.report.proofs.Texts.Parts.{part_length}
use Rattle.report.proofs.Texts.Lines.{wrote-on}
use Rattle.report.proofs.line.Line.accepted.Goals as goal

pub put-requires : goal.put-requires
put-requires c =
    omega (arith, part_length c.args.buffers.now c.from.result c.args.n, c.requires.there.0)

pub returns : goal.returns
returns c =
    let i = c.args.reader * c.args.n in
    let size : i + c.args.n - i ≡ c.args.n = omega arith in
    let told =
    rw (c.from.ensures, c.from-2.ensures, c.from-3.ensures, c.from-4.ensures, size)
    at (wrote-on (omega arith)
    (wrote-on (omega arith) (wrote-on (omega arith) c.put.ensures c.numbers.ensures.text) c.hex.ensures.text)
    c.put-2.ensures) in
    subst (Wrote _ _) (spaced-hex 82 _ _ _ _) told
