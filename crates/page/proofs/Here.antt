-- A reader that there is, as an index reads it.
use Rattle.std.proofs.Common.{◌≡◌, ℕ, ◌<◌, List, [], length, get_or}
use Rattle.std.proofs.lemmas.List.{get_or_default}
use Rattle.protocol.specs.Memory.{stage_at, reader_of}
use Rattle.protocol.specs.declared.Reader.{Reader}
use Rattle.page.specs.Carry.{idle_reader, reader_at}

-- what an index past the end would read
abbrev none : Reader
none = reader_of (stage_at 0 0 0 0 0) []

pub here : (rs : List Reader) (i : ℕ) → i < length rs → get_or rs i none ≡ reader_at rs i
here rs i there = get_or_default rs i none idle_reader there
