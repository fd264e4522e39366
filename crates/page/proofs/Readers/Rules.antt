-- Lemmas that the check tries at the goals of a reader's acts.
use Rattle.checks.proofs.Forms.{versions-good}
use Rattle.page.proofs.Readers.Ways.{at_count, at-record}
use Rattle.page.proofs.Readers.Stored.{step-idle, no_room, has_room}
use Rattle.page.proofs.Readers.Begins.{begin-busy, begin-count, begin-none, begin-late, begin-record, cancel-idle, cancel-busy}
use Rattle.page.proofs.Readers.Attempts.{read_is}

-- a read begins, or is dropped
pub ruleset begins = (begin-busy, begin-count, begin-none, begin-late, begin-record, cancel-idle, cancel-busy)

-- a step, by the kind of the read
pub ruleset kinds = (at_count, at-record, step-idle)

-- the version that valid digits say
pub ruleset versions = (versions-good, read_is)

-- a read ends
pub ruleset ends = (no_room, has_room)
