use Rattle.std.proofs.Common.{refl}
use Rattle.checks.specs.Seen.{shape}
use Rattle.page.proofs.Writes.Puts.{content-put}
use Rattle.page.proofs.pen.Pen.content_step.Goals as goal

pub returns-clause-page : goal.returns-clause-page
returns-clause-page c =
    let w = c.args.self.now.writer in
    rw (c.record_write.ensures, content-put (shape c.args.form) c.args.records.now w c.requires.there c.requires.content) refl
