use Rattle.std.proofs.Common.{◌∙◌, sym, refl, eqb-true, Ok, Err}
use Rattle.std.proofs.lemmas.Result.{err_from_is_err_and}
use Rattle.protocol.specs.declared.Refusal.TheVariants.{UnknownCommand}
use Rattle.page.proofs.Loans.{same, same-then}
use Rattle.codec.proofs.Told.{told-some}
use Rattle.page.proofs.Loop.SoFar.{so-first, so-on, so-stays, so-turn, so-ends, so-over, so-unknown}
use Rattle.page.proofs.memory.Memory.run_bytes.Goals as goal

pub loop-self-init : goal.loop-self-init
loop-self-init c = record {
  so = rw (c.requires.none.0, c.requires.none.1) (so-first _ _ _ _ _ c.requires.ready);
  knows = c.requires.knows;
  loans = same _;
  log_loan = refl;
}

-- A STEP THAT ENDS NOTHING
pub loop-self-smaller-in-Some : goal.loop-self-smaller-in-Some
loop-self-smaller-in-Some c = (so-on _ _ _ _ _ c.loop-self.invariant.so _ _ c.in-Some.ensures.went).1

pub loop-self-preserved-in-Some : goal.loop-self-preserved-in-Some
loop-self-preserved-in-Some c =
    let i = c.loop-self.invariant in
    let a = c.in-Some.ensures in
    record {
      so = (so-on _ _ _ _ _ i.so _ _ a.went).0;
      knows = a.knows;
      loans = same-then i.loans a.loans;
      log_loan = i.log_loan;
    }

-- ANY OTHER COMMAND, or none
pub act-requires-clause-ready : goal.act-requires-clause-ready
act-requires-clause-ready c = (so-stays _ _ _ _ _ c.loop-self.invariant.so _ c.in_default.ensures.stays).ready

pub returns-in_default-take-clause-ran : goal.returns-in_default-take-clause-ran
returns-in_default-take-clause-ran c =
    let so = so-stays _ _ _ _ _ c.loop-self.invariant.so _ c.in_default.ensures.stays in
    so-ends _ _ _ _ _ so c.requires.whole c.requires.ready (Err UnknownCommand)
    (so-unknown _ _ _ _ _ so _ c.in_default-take.ensures.command (sym c.is_empty.ensures ∙ c.loop-self-test.true))

pub returns-in_err-act-clause-ran : goal.returns-in_err-act-clause-ran
returns-in_err-act-clause-ran c =
    let p = err_from_is_err_and c.from_residual.result c.from_residual.ensures.1 in
    let so = so-stays _ _ _ _ _ c.loop-self.invariant.so _ c.in_default.ensures.stays in
    let says = told-some _ _ _ c.in-Some-take.ensures.command in
    let turn = so-turn _ _ _ _ _ so _ _ says _ _ _ c.in_err-act.ensures.acted in
    rw (p.1, p.2) (so-ends _ _ _ _ _ turn.0 c.requires.whole c.requires.ready (Err c.in_err-act.field-0.0) turn.1)

pub loop-self-smaller : goal.loop-self-smaller
loop-self-smaller c =
    let so = so-stays _ _ _ _ _ c.loop-self.invariant.so _ c.in_default.ensures.stays in
    let says = told-some _ _ _ c.in-Some-take.ensures.command in
    (so-turn _ _ _ _ _ so _ _ says (Ok tt) _ _ c.in_ok-act.ensures.acted).1

pub loop-self-preserved : goal.loop-self-preserved
loop-self-preserved c =
    let i = c.loop-self.invariant in
    let a = c.in_ok-act.ensures in
    let so = so-stays _ _ _ _ _ i.so _ c.in_default.ensures.stays in
    let says = told-some _ _ _ c.in-Some-take.ensures.command in
    record {
      so = (so-turn _ _ _ _ _ so _ _ says (Ok tt) _ _ a.acted).0;
      knows = a.knows;
      loans = same-then i.loans (same-then c.in_default.ensures.loans a.loans);
      log_loan = a.log_loan ∙ i.log_loan;
    }

-- NONE IS LEFT
pub returns-clause-ran : goal.returns-clause-ran
returns-clause-ran c =
    let so = c.loop-self.invariant.so in
    so-ends _ _ _ _ _ so c.requires.whole c.requires.ready (Ok tt)
    (so-over _ _ _ _ _ so (eqb-true _ 0 (sym c.is_empty.ensures ∙ c.loop-self-test.false)))
