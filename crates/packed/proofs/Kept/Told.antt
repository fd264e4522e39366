-- One command over packed states, from the run of its nine bytes over them: what the run tells, read with the choice of the
-- state that is stepped, is what the step answers.
use mathlib.Core.Path.{◌≡◌, refl, sym, ap, ◌∙◌}
use mathlib.Core.List.{List}
use Prim.Native.Nat.{ℕ, ◌<◌}
use native.Mathlib.Omega.{arith}
use lib.ListN.{length, replicate}
use Rattle.protocol.specs.Outcome.{longest}
use Rattle.protocol.specs.Form.{Form}
use Rattle.protocol.specs.declared.Command.{Command}
use Rattle.protocol.specs.declared.Command.TheVariants.{ReaderStep}
use Rattle.protocol.specs.declared.Reader.{Reader}
use Rattle.codec.specs.Encode.{encode, nine, InRange}
use Rattle.codec.specs.Packed.{unpacked_at}
use Rattle.states.specs.Choice.{choice_at}
use Rattle.page.specs.declared.Ran.{Ran}
use Rattle.page.specs.Carry.{After}
use Rattle.page.specs.Calls.{RanLent, run_lent, stepped_of, stepper_of}
use Rattle.packed.specs.Kept.{states_of, Kept, unpacked_of, packed_over, RanKept, ran_kept, run_kept, SteppedKept, stepped_kept, step_kept}
use Rattle.page.proofs.Calls.Steps.{step_is}
use Rattle.packed.proofs.Packings.Packs.{unpacked-length}
use Rattle.packed.proofs.Kept.States.{state-at}

-- the number of the choice of the state that is stepped
abbrev pub kept_choice : Kept → Command → ℕ
kept_choice K x = (unpacked_at K.states (stepper_of x 16)).stage.choice

-- it is that of the reader, if there is such a reader
chosen :
    (K : Kept) (x : Command) (i : ℕ) → x ≡ ReaderStep i → i < length (unpacked_of K).readers →
    kept_choice K x ≡ choice_at (unpacked_of K).readers i
chosen K x i e there =
    let many = unpacked-length (states_of (length K.states)) K.states in
    ap (kept_choice K) e ∙ ap (λ (y : Reader). y.stage.choice) (sym (state-at K.states i (omega arith)))

pub step-told :
    (F : Form) (S : List ℕ) (K : Kept) (x : Command) → InRange x → {r : Ran} {M : Kept} {l : List ℕ} →
    ran_kept r M l ≡ run_kept F S K (nine (encode x)) (replicate longest 0) →
    stepped_kept (stepped_of r l (kept_choice K x)) M ≡ step_kept F S K x
unfolding run_kept step_kept
step-told F S K x range run =
    let y : RanLent = run_lent F S (unpacked_of K) (nine (encode x)) (replicate longest 0) in
    ap (λ (z : RanKept). stepped_kept (stepped_of z.ran z.log (kept_choice K x)) z.kept) run
    ∙ ap {B = SteppedKept} (λ (z : After). stepped_kept z.answer (packed_over K z.memory))
    (step_is F S (unpacked_of K) x range (kept_choice K x) (chosen K x) {r = y.ran} {M = y.memory} {l = y.log} refl)
