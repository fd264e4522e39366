use Rattle.std.proofs.Common.{refl, length}
use Rattle.checks.proofs.Forms.{counts-good}
use Rattle.page.proofs.Writes.Ink.{ink-written, ink-unwritten}
use Rattle.page.proofs.pen.count_ink.Goals as goal

pub returns-in-Ok : goal.returns-in-Ok
returns-in-Ok c =
    let f = c.args.form in
    ink-written f.bases.now c.args.c.0 (counts-good f) (length f.bases.now) refl (rw c.all_bases.ensures at c.write.ensures) _
    c.in-Ok.is

pub returns-in-Err : goal.returns-in-Err
returns-in-Err c =
    let f = c.args.form in
    ink-unwritten f.bases.now c.args.c.0 (counts-good f) (length f.bases.now) refl (rw c.all_bases.ensures at c.write.ensures) _
    c.in-Err.is
