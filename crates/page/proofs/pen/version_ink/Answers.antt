use Rattle.protocol.specs.Form.{version_bases}
use Rattle.protocol.proofs.Positions.Records.{length-version_bases}
use Rattle.checks.specs.Seen.{shape}
use Rattle.checks.proofs.Forms.{versions-good}
use Rattle.page.proofs.Writes.Ink.{ink-written, ink-unwritten}
use Rattle.page.proofs.pen.version_ink.Goals as goal

pub returns-in-Ok : goal.returns-in-Ok
returns-in-Ok c =
    let F = shape c.args.form in
    ink-written (version_bases F) c.args.v.0 (versions-good c.args.form) F.q (length-version_bases F)
    (rw (c.versions.ensures.0, c.versions.ensures.1) at c.write.ensures) _ c.in-Ok.is

pub returns-in-Err : goal.returns-in-Err
returns-in-Err c =
    let F = shape c.args.form in
    ink-unwritten (version_bases F) c.args.v.0 (versions-good c.args.form) F.q (length-version_bases F)
    (rw (c.versions.ensures.0, c.versions.ensures.1) at c.write.ensures) _ c.in-Err.is
