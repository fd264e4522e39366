-- Lemmas that the check tries at the goals of the writer's acts.
use Rattle.checks.proofs.Inside.{write-inside, record-inside}
use Rattle.page.proofs.Writes.Writers.{
  record-kind,
  at-work,
  count-steps,
  record-steps,
  writable,
  stepped-count,
  stepped-record,
  advanced-ink,
  nothing-pending,
}
use Rattle.page.proofs.Writes.Puts.{count-put}
use Rattle.page.proofs.Writes.NoReader.{refused-count, refused-record, refused-step, refused-cancel}

-- one byte is put onto the page
pub ruleset counts = (write-inside, count-put, advanced-ink)

pub ruleset records = (record-inside, advanced-ink)

-- a step, by the kind of the write
pub ruleset steps = (record-kind, count-steps, record-steps, writable, stepped-count, stepped-record)

-- one command
pub ruleset commands = (at-work, nothing-pending, refused-count, refused-record, refused-step, refused-cancel)
