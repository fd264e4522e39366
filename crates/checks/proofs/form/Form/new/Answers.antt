-- The test that passed says each range.
use Rattle.std.proofs.Common.{sym, ◌∙◌}
use Rattle.protocol.specs.Form.{form_of}
use Rattle.protocol.proofs.InRange.{in-range}
use Rattle.checks.proofs.form.Form.new.Goals as goal

pub invariant_of-result : goal.invariant_of-result
invariant_of-result c =
    let is = sym c.good.ensures ∙ c.if-good.true in
    let range = in-range (form_of c.args.bases.now c.args.format) is in
    record {
      good = is;
      places = range.places;
      shares = range.shared;
      versions = range.versions;
      sized = range.bytes;
      seats = range.readers;
    }
