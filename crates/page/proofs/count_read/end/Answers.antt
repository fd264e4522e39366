use Rattle.std.proofs.Common.{ap, ◌∙◌}
use Rattle.std.proofs.lemmas.Result.{err_from_is_err_and}
use Rattle.checks.specs.Seen.{shape}
use Rattle.page.specs.Left.{on_gathered}
use Rattle.page.proofs.count_read.end.Goals as goal

-- the copies crossed
pub returns-in_err-ended : goal.returns-in_err-ended
unfolding on_gathered
returns-in_err-ended c =
    let a = c.args in
    let p = err_from_is_err_and c.from_residual.result c.from_residual.ensures.1 in
    λ b. rw (p.1, p.2)
    (ap (on_gathered (shape a.form) a.room a.reader.now b) (rw c.choice_of-choice.ensures at (c.in_err-ended.ensures b)))

pub returns : goal.returns
returns c =
    let a = c.args in
    λ b. c.finish.ensures.over (shape a.form) b
    ∙ ap (on_gathered (shape a.form) a.room a.reader.now b) (rw c.choice_of-choice.ensures at (c.in_ok-ended.ensures b))
