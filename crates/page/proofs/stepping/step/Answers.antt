use Rattle.std.proofs.Common.{sym, ◌∙◌}
use Rattle.std.proofs.lemmas.Result.{err_from_is_err_and}
use Rattle.page.specs.Calls.{on_start}
use Rattle.page.proofs.Commands.{command-range}
use Rattle.page.proofs.Calls.Steps.{step-carries, enough}
use Rattle.page.proofs.stepping.step.Goals as goal

pub returns-in_err-form-clause-whole : goal.returns-in_err-form-clause-whole
unfolding on_start
returns-in_err-form-clause-whole c =
    let p = err_from_is_err_and c.from_residual.result c.from_residual.ensures.1 in
    rw (p.1, p.2, sym c.in_err-form.ensures.start)

pub returns-in_err-form-clause-carries : goal.returns-in_err-form-clause-carries
returns-in_err-form-clause-carries c log long =
    step-carries _ _ _ c.args.command log long (command-range c.args.command _ c.well_formed.1.1.1.1.1.0)

pub returns-clause-whole : goal.returns-clause-whole
unfolding on_start
returns-clause-whole c =
    rw (sym c.in_ok-form.ensures.start, sym c.in_ok-form.ensures.same)
    (rw c.new-pen.ensures.same at (c.command-answer.ensures.carried ∙ enough _ _ _))

pub returns-clause-carries : goal.returns-clause-carries
returns-clause-carries c log long =
    step-carries _ _ _ c.args.command log long (command-range c.args.command _ c.well_formed.1.1.1.1.1.0)
