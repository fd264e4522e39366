-- One part after the other.
use Rattle.std.proofs.Common.{◌∙◌}
use Rattle.report.proofs.Parsing.Split.{parts-of}
use Rattle.report.proofs.header.Parts.of.Goals as goal

pub returns : goal.returns
returns c =
    parts-of c.args.rest.now c.args.n c.in_ok-count.ensures.cases c.in_ok-first.ensures.cases c.in_ok-number.ensures.cases
    (c.from.ensures ∙ c.from_be_bytes.ensures) c.in_ok-records.ensures.cases c.from_be_bytes-2.ensures
