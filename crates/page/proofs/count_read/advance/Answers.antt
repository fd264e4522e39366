use Rattle.checks.specs.Seen.{shape}
use Rattle.page.proofs.Readers.Counts.{count-on}
use Rattle.page.proofs.count_read.advance.Goals as goal

pub returns : goal.returns
returns c =
    let x = c.args.reader.now in
    λ who room b. rw c.count_slot.ensures
    (count-on (shape c.args.form) x.stage x.digits c.requires.at c.args.digit who room b c.requires.more)
