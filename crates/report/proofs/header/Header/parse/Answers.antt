-- Each return is one test of the definition.
use Rattle.std.proofs.lemmas.Result.{err_from_is_err_and}
use Rattle.std.proofs.Common.{sym, ap, ◌∙◌, Ok, ltb, arith}
use borrow.Author.Tests.{ltb-true, ltb-false}
use Rattle.radix.specs.Digits.{product}
use Rattle.protocol.specs.Form.{good_form}
use Rattle.protocol.proofs.InRange.{in-range}
use Rattle.report.specs.Header.{form_in}
use Rattle.report.proofs.Parsing.Parses.{told, too_long, nothing, places-low, places-high, form-cut, form-bad, parts-cut, count-large, all-fits}
use Rattle.report.proofs.Parsing.Forms.{
  bases-cut,
  six-cut,
  Begun,
  begun,
  good-read,
  ends,
  n-is,
  form-is,
  too_short,
  count-is,
  commands-are,
  all,
  first-is,
  records-are,
}
use Rattle.report.proofs.header.Header.parse.Goals as goal
use Rattle.report.proofs.header.Header.parse.Goals.{then-m-lt1-via-then-m-lt1, then-m-lt1-via-else-m-lt1+then-m-gt8}

pub returns-then-more : goal.returns-then-more
returns-then-more c = too_long c.args.input.bytes.now c.if-more.true

pub returns-in_default : goal.returns-in_default
returns-in_default c = nothing c.args.input.bytes.now c.if-more.false c.in_default.len_below

pub returns-then-m-lt1 : goal.returns-then-m-lt1
returns-then-m-lt1 c =
    let s = c.args.input.bytes.now in
    elim c.then-m-lt1.branch [
      | then-m-lt1-via-then-m-lt1 w ↦
          places-low s c.if-more.false c.in-len1-up.len_at_least (omega (arith, c.from-m.ensures, w.if-m-lt1.true))
      | then-m-lt1-via-else-m-lt1+then-m-gt8 w ↦
          places-high s c.if-more.false c.in-len1-up.len_at_least (omega (arith, c.from-m.ensures, w.if-m-lt1.false))
          (omega (arith, c.from-m.ensures, w.if-m-gt8.true))
    ]

pub returns-in_default-split_at_checked : goal.returns-in_default-split_at_checked
returns-in_default-split_at_checked c =
    form-cut (told c.if-more.false c.in-len1-up.len_at_least c.from-m.ensures c.if-m-lt1.false c.if-m-gt8.false)
    (bases-cut _ c.from-m.ensures c.in-len1-up.len_at_least c.in_default-split_at_checked.ensures.cases)

pub returns-in_default-rest : goal.returns-in_default-rest
returns-in_default-rest c =
    form-cut (told c.if-more.false c.in-len1-up.len_at_least c.from-m.ensures c.if-m-lt1.false c.if-m-gt8.false)
    (six-cut _ c.from-m.ensures c.in-len1-up.len_at_least c.in-Some.ensures.cases c.in_default-rest.len_below)

pub returns-in_err-form : goal.returns-in_err-form
returns-in_err-form c =
    let t = told c.if-more.false c.in-len1-up.len_at_least c.from-m.ensures c.if-m-lt1.false c.if-m-gt8.false in
    let v : Begun c.args.input.bytes.now c.from-m.result c.in-Some.listed.now c.in-Some.rest.now =
    begun c.from-m.ensures c.in-len1-up.len_at_least c.in-Some.ensures.cases c.in-len6-up.len_at_least in
    let form =
    form-is v c.bases-all.ensures c.from.ensures c.from_be_bytes.ensures (c.from-2.ensures ∙ c.from_be_bytes-2.ensures)
    c.from-3.ensures in
    let why = err_from_is_err_and c.from_residual.result c.from_residual.ensures.1 in
    rw (why.1, why.2, c.in_err-form.ensures.why) (form-bad t (ends v) (sym (c.in_err-form.ensures.good ∙ ap good_form form)))

pub of-requires : goal.of-requires
of-requires c =
    let v : Begun c.args.input.bytes.now c.from-m.result c.in-Some.listed.now c.in-Some.rest.now =
    begun c.from-m.ensures c.in-len1-up.len_at_least c.in-Some.ensures.cases c.in-len6-up.len_at_least in
    let form =
    form-is v c.bases-all.ensures c.from.ensures c.from_be_bytes.ensures (c.from-2.ensures ∙ c.from_be_bytes-2.ensures)
    c.from-3.ensures in
    let good = good-read c.in_ok-form.ensures.good form in
    let n = n-is v (c.from-2.ensures ∙ c.from_be_bytes-2.ensures) in
    omega (arith, n, (in-range (form_in c.args.input.bytes.now) good).bytes)

pub returns-in_default-of : goal.returns-in_default-of
returns-in_default-of c =
    let t = told c.if-more.false c.in-len1-up.len_at_least c.from-m.ensures c.if-m-lt1.false c.if-m-gt8.false in
    let v : Begun c.args.input.bytes.now c.from-m.result c.in-Some.listed.now c.in-Some.rest.now =
    begun c.from-m.ensures c.in-len1-up.len_at_least c.in-Some.ensures.cases c.in-len6-up.len_at_least in
    let form =
    form-is v c.bases-all.ensures c.from.ensures c.from_be_bytes.ensures (c.from-2.ensures ∙ c.from_be_bytes-2.ensures)
    c.from-3.ensures in
    let good = good-read c.in_ok-form.ensures.good form in
    let n = n-is v (c.from-2.ensures ∙ c.from_be_bytes-2.ensures) in
    parts-cut t (ends v) good (too_short v n c.in_default-of.ensures)

pub returns-then-not-fits : goal.returns-then-not-fits
returns-then-not-fits c =
    let t = told c.if-more.false c.in-len1-up.len_at_least c.from-m.ensures c.if-m-lt1.false c.if-m-gt8.false in
    let v : Begun c.args.input.bytes.now c.from-m.result c.in-Some.listed.now c.in-Some.rest.now =
    begun c.from-m.ensures c.in-len1-up.len_at_least c.in-Some.ensures.cases c.in-len6-up.len_at_least in
    let form =
    form-is v c.bases-all.ensures c.from.ensures c.from_be_bytes.ensures (c.from-2.ensures ∙ c.from_be_bytes-2.ensures)
    c.from-3.ensures in
    let good = good-read c.in_ok-form.ensures.good form in
    let n = n-is v (c.from-2.ensures ∙ c.from_be_bytes-2.ensures) in
    let w = c.in-Some-of.ensures in
    let large = ltb-false _ _ (sym (c.fits.ensures ∙ ap (λ b. ltb c.in-Some-of.parts.count.0 (product b)) (c.all_bases.ensures ∙ c.in_ok-form.ensures.same.0 ∙ ap (λ F. F.bases) form)) ∙ c.if-not-fits.true) in
    count-large t (ends v) good (all v n w) (omega (arith, large, count-is v n w))

pub invariant_of-result-clause-sized : goal.invariant_of-result-clause-sized
invariant_of-result-clause-sized c =
    let v : Begun c.args.input.bytes.now c.from-m.result c.in-Some.listed.now c.in-Some.rest.now =
    begun c.from-m.ensures c.in-len1-up.len_at_least c.in-Some.ensures.cases c.in-len6-up.len_at_least in
    let form =
    form-is v c.bases-all.ensures c.from.ensures c.from_be_bytes.ensures (c.from-2.ensures ∙ c.from_be_bytes-2.ensures)
    c.from-3.ensures in
    let good = good-read c.in_ok-form.ensures.good form in
    let r = in-range _ (ap good_form form ∙ good) in
    (omega (arith, r.versions), omega (arith, r.bytes), omega (arith, r.readers))

pub returns : goal.returns
returns c =
    let t = told c.if-more.false c.in-len1-up.len_at_least c.from-m.ensures c.if-m-lt1.false c.if-m-gt8.false in
    let v : Begun c.args.input.bytes.now c.from-m.result c.in-Some.listed.now c.in-Some.rest.now =
    begun c.from-m.ensures c.in-len1-up.len_at_least c.in-Some.ensures.cases c.in-len6-up.len_at_least in
    let form =
    form-is v c.bases-all.ensures c.from.ensures c.from_be_bytes.ensures (c.from-2.ensures ∙ c.from_be_bytes-2.ensures)
    c.from-3.ensures in
    let good = good-read c.in_ok-form.ensures.good form in
    let n = n-is v (c.from-2.ensures ∙ c.from_be_bytes-2.ensures) in
    let w = c.in-Some-of.ensures in
    let small = ltb-true _ _ (sym (c.fits.ensures ∙ ap (λ b. ltb c.in-Some-of.parts.count.0 (product b)) (c.all_bases.ensures ∙ c.in_ok-form.ensures.same.0 ∙ ap (λ F. F.bases) form)) ∙ c.if-not-fits.false) in
    let count = count-is v n w in
    let first = first-is v n w in
    let records = records-are v n w in
    let commands = commands-are v n w in
    ap Ok (λ i. record {
      form = form i;
      count = record { 0 = count i };
      first = first i;
      records = records i;
      commands = commands i;
    })
    ∙ all-fits t (ends v) good (all v n w) (omega (arith, small, count))
