use Rattle.std.proofs.Common.{sym, ◌∙◌}
use Rattle.checks.specs.Seen.{shape}
use Rattle.page.proofs.Readers.Records.{byte-on, version-on}
use Rattle.page.proofs.record_read.advance.Goals as goal
use Rattle.page.proofs.record_read.advance.Goals.{then-in_content, else-in_content}

pub returns : goal.returns
returns c =
    let a = c.args in
    let F = shape a.form in
    let x = a.reader.now in
    elim c.if-in_content.branch [
      -- a byte of the record
      | then-in_content w ↦ λ who room. rw (w.reader-is, w.buffer-is)
          (byte-on F x.stage x.digits c.requires.at a.digit who room a.buffer.now (sym c.in_content.ensures ∙ w.if-in_content.true))
      -- a digit of a version
      | else-in_content w ↦ λ who room. rw (w.reader-is, w.buffer-is, w.version_slot.ensures)
          (version-on F x.stage x.digits c.requires.at a.digit who room a.buffer.now (sym c.in_content.ensures ∙ w.if-in_content.false) c.requires.more)
    ]
