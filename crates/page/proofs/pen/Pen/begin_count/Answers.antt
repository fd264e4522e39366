use Rattle.std.proofs.Common.{refl, sym, ◌∙◌}
use Rattle.std.proofs.lemmas.Result.{err_from_is_err_and}
use Rattle.protocol.specs.declared.Refusal.TheVariants.{CountTooLarge}
use Rattle.checks.specs.Seen.{shape}
use Rattle.page.proofs.Writes.Ink.{ink-low, ink-high, ink-same}
use Rattle.page.proofs.Writes.Pending.{count-ink-of}
use Rattle.page.proofs.Writes.CountBegins.{count-busy, count-large, count-falls, count-begins}
use Rattle.page.proofs.pen.Pen.begin_count.Goals as goal

pub returns-then-self-ne-NOTHING-clause-wrote : goal.returns-then-self-ne-NOTHING-clause-wrote
returns-then-self-ne-NOTHING-clause-wrote c = λ S ready. count-busy _ S _ _ _ ready c.if-self-ne-NOTHING.true

pub returns-in_err-digits-clause-wrote : goal.returns-in_err-digits-clause-wrote
returns-in_err-digits-clause-wrote c =
    let p = err_from_is_err_and c.from_residual.result c.from_residual.ensures.1 in
    let high = ink-high CountTooLarge c.args.form.bases.now c.args.c.0 c.in_err-digits.ensures refl in
    λ S ready. rw (p.1, p.2, high.1) (count-large _ S _ _ _ ready c.if-self-ne-NOTHING.false high.0)

pub returns-then-c-last_count-clause-wrote : goal.returns-then-c-last_count-clause-wrote
returns-then-c-last_count-clause-wrote c =
    let low = ink-low CountTooLarge c.args.form.bases.now c.args.c.0 c.in_ok-digits.ensures refl in
    λ S ready. count-falls _ S _ _ _ ready c.if-self-ne-NOTHING.false low c.last_count.ensures c.if-c-last_count.true

pub returns-clause-wrote : goal.returns-clause-wrote
returns-clause-wrote c =
    let low = ink-low CountTooLarge c.args.form.bases.now c.args.c.0 c.in_ok-digits.ensures refl in
    λ S ready. count-begins _ S _ _ _ ready c.if-self-ne-NOTHING.false low c.last_count.ensures c.if-c-last_count.false

pub returns-clause-knows : goal.returns-clause-knows
returns-clause-knows c =
    λ known busy. ink-same CountTooLarge c.args.form.bases.now c.args.c.0 c.in_ok-digits.ensures refl
    ∙ sym (count-ink-of (shape c.args.form) _ refl)
