use Rattle.std.proofs.Common.{sym, refl, eq-eqb}
use Rattle.std.proofs.lemmas.Result.{err_from_is_err_and}
use Rattle.page.specs.Calls.{start_lent}
use Rattle.page.proofs.Calls.Begun.{begins}
use Rattle.page.proofs.memory.Memory.start.Goals as goal

-- a form that there is not
pub returns-in_err-form-clause-start : goal.returns-in_err-form-clause-start
unfolding start_lent
returns-in_err-form-clause-start c =
    let p = err_from_is_err_and c.from_residual.result c.from_residual.ensures.1 in
    rw (p.1, p.2, c.in_err-form.ensures.why, sym c.in_err-form.ensures.good)

pub returns-clause-whole : goal.returns-clause-whole
returns-clause-whole c =
    let m = c.args.self.now in
    eq-eqb _ 0 (begins _ c.args.records.now _ (sym (c.in_ok-start_with.ensures.whole m.buffers.now refl))).whole
