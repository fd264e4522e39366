use Rattle.std.proofs.Common.{refl}
use Rattle.checks.specs.Seen.{shape}
use Rattle.page.proofs.Writes.Puts.{version-put}
use Rattle.page.proofs.pen.Pen.version_step.Goals as goal

pub returns-clause-page : goal.returns-clause-page
returns-clause-page c =
    let r = c.requires in
    let put = version-put (shape c.args.form) c.args.records.now c.args.self.now.writer r.there r.kind r.inside r.outside in
    rw (c.record_write.ensures, c.version_digit.ensures, c.ink.ensures.digits, put) refl
