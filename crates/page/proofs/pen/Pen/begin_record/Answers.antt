use Rattle.std.proofs.Common.{refl, sym, ◌∙◌, arith}
use Rattle.std.proofs.lemmas.Result.{err_from_is_err_and}
use Rattle.protocol.specs.Form.{version_bases}
use Rattle.protocol.specs.declared.Refusal.TheVariants.{VersionsExhausted}
use Rattle.checks.specs.Seen.{shape}
use Rattle.protocol.proofs.InRange.{in-range}
use Rattle.page.proofs.Writes.Ink.{ink-low, ink-high, ink-same}
use Rattle.page.proofs.Writes.Pending.{version-ink-of}
use Rattle.page.proofs.Writes.RecordBegins.{record-absent, record-busy, record-large, record-begins}
use Rattle.page.proofs.pen.Pen.begin_record.Goals as goal

pub returns-then-records-form-clause-wrote : goal.returns-then-records-form-clause-wrote
returns-then-records-form-clause-wrote c =
    record-absent _ _ _ _ c.args.index c.requires.ready (rw c.from-index.ensures at c.if-records-form.true)

pub returns-then-self-ne-NOTHING-clause-wrote : goal.returns-then-self-ne-NOTHING-clause-wrote
returns-then-self-ne-NOTHING-clause-wrote c =
    record-busy _ _ _ _ c.args.index c.requires.ready (rw c.from-index.ensures at c.if-records-form.false) c.if-self-ne-NOTHING.true

-- no version is above the last one of 32 bits
pub returns-then-last-clause-wrote : goal.returns-then-last-clause-wrote
returns-then-last-clause-wrote c =
    let there = rw c.from-index.ensures at c.if-records-form.false in
    let fits = (in-range (shape c.args.form) c.args.form.good).version-fits in
    record-large _ _ _ _ c.args.index c.requires.ready there c.if-self-ne-NOTHING.false c.last_version-last.ensures (omega (arith, c.if-last.true, fits))

pub returns-in_err-digits-clause-wrote : goal.returns-in_err-digits-clause-wrote
returns-in_err-digits-clause-wrote c =
    let there = rw c.from-index.ensures at c.if-records-form.false in
    let p = err_from_is_err_and c.from_residual.result c.from_residual.ensures.1 in
    let high = ink-high VersionsExhausted (version_bases (shape c.args.form)) _ c.in_err-digits.ensures refl in
    rw (p.1, p.2, high.1)
    (record-large _ _ _ _ c.args.index c.requires.ready there c.if-self-ne-NOTHING.false c.last_version-last.ensures high.0)

pub returns-clause-wrote : goal.returns-clause-wrote
returns-clause-wrote c =
    let there = rw c.from-index.ensures at c.if-records-form.false in
    let low = ink-low VersionsExhausted (version_bases (shape c.args.form)) _ c.in_ok-digits.ensures refl in
    rw c.from-index.ensures
    (record-begins _ _ _ _ c.args.index c.requires.ready there c.if-self-ne-NOTHING.false c.last_version-last.ensures low)

pub returns-clause-knows : goal.returns-clause-knows
returns-clause-knows c =
    λ known busy. ink-same VersionsExhausted (version_bases (shape c.args.form)) _ c.in_ok-digits.ensures refl
    ∙ sym (version-ink-of (shape c.args.form) _ (λ h. omega (arith, h)))
