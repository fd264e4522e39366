use Rattle.std.proofs.Common.{sym, ltb-false}
use Rattle.checks.specs.Seen.{shape}
use Rattle.page.specs.Advance.{advancing}
use Rattle.page.proofs.Readers.Ways.{at-record}
use Rattle.page.proofs.reading.step.Goals as goal

pub last_step-requires-else-reader-eq-COUNT_READ-clause-last : goal.last_step-requires-else-reader-eq-COUNT_READ-clause-last
unfolding advancing
last_step-requires-else-reader-eq-COUNT_READ-clause-last c =
    let x = c.args.reader.now in
    let at = at-record (shape c.args.form) x c.requires.held c.if-reader-eq-NO_READ.false c.if-reader-eq-COUNT_READ.false in
    ltb-false _ _ (rw at.kind at (sym c.if-advances.ensures))
