-- Lemmas that the check tries at the goals of a function.
use Rattle.radix.proofs.Numbers.Places.{take-four}
use Rattle.checks.proofs.Looks.{page-parts}
use Rattle.checks.proofs.Records.{index-whole}
use Rattle.checks.proofs.Forms.{counts-good, versions-good}
use Rattle.checks.proofs.Digits.Eights.{below-on, below-off, below-end, eight-parts}
use Rattle.checks.proofs.Digits.Sums.{sum_first, sum-end, sum-outside}
use lib.Seq.{get_or-take, get_or-drop}
use Rattle.checks.proofs.Digits.Halves.{gathered-first, gathered-second}
use Rattle.checks.proofs.Digits.Sums.{bits-first}
use Rattle.checks.proofs.Digits.None.{none-gathered}
use Rattle.checks.proofs.Reading.{no-read, count-read, record-read, no-kind, bad-choice}
use Rattle.checks.proofs.Writing.{rests, counts, records as record-writes, no-writer}
use Rattle.checks.proofs.Positions.{
  write-first,
  write-second,
  write-past,
  read_first,
  read-second,
  read_past,
  record-first,
  record-second,
  record-past,
  attempt-first,
  attempt-byte,
  attempt-second,
  attempt-past,
}

-- the positions of a count write, of a count read, of a record write, of an attempt
pub ruleset writes = (write-first, write-second, write-past)

pub ruleset reads = (read_first, read-second, read_past)

pub ruleset records = (record-first, record-second, record-past)

pub ruleset attempts = (attempt-first, attempt-byte, attempt-second, attempt-past)

-- the bases of a version
pub ruleset versions = (take-four)

-- a page in its parts
pub ruleset pages = (page-parts)

-- whole records
pub ruleset indexes = (index-whole)

-- a writer by its kind
pub ruleset writers = (rests, counts, record-writes, no-writer)

-- bases that are known to be good
pub ruleset bases = (counts-good, versions-good)

-- one turn of a sum
pub ruleset sums = (sum_first, sum-end, get_or-take, get_or-drop)

-- sixteen digits in two halves
pub ruleset halves = (gathered-first, gathered-second)

-- one turn over the bits of sixteen digits
pub ruleset bits = (bits-first, sum-end, none-gathered)

-- a reader by its kind
pub ruleset readers = (no-read, count-read, record-read, no-kind, take-four)

-- a choice that no read has
pub ruleset choices = (bad-choice)

-- one turn of the test of eight digits
pub ruleset eights = (sum_first, sum-end, sum-outside, eight-parts, below-on, below-off, below-end)
