use Rattle.std.proofs.Common.{sym, ◌∙◌}
use Rattle.checks.specs.Seen.{shape}
use Rattle.page.proofs.Readers.Counts.{told_by, count-told}
use Rattle.page.proofs.count_read.outcome.Goals as goal

pub returns-in-Same : goal.returns-in-Same
unfolding told_by
returns-in-Same c =
    let a = c.args in
    let found = sym c.in-Ok.is ∙ (rw c.all_bases.ensures at c.ends.ensures) in
    λ b. rw c.in-Same.is at (count-told (shape a.form) a.who a.choice a.digits.now b _ c.requires _ c.own-end.ensures found)

pub returns-in-Between : goal.returns-in-Between
unfolding told_by
returns-in-Between c =
    let a = c.args in
    let found = sym c.in-Ok.is ∙ (rw c.all_bases.ensures at c.ends.ensures) in
    λ b. rw c.in-Between.is at (count-told (shape a.form) a.who a.choice a.digits.now b _ c.requires _ c.own-end.ensures found)

pub returns-in-Crossed : goal.returns-in-Crossed
unfolding told_by
returns-in-Crossed c =
    let a = c.args in
    let found = sym c.in-Ok.is ∙ (rw c.all_bases.ensures at c.ends.ensures) in
    λ b. rw c.in-Crossed.is at (count-told (shape a.form) a.who a.choice a.digits.now b _ c.requires _ c.own-end.ensures found)
