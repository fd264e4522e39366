-- An act under way: what a state that steps could hold says of it.
use mathlib.Core.Path.{◌≡◌}
use mathlib.Core.List.{List}
use mathlib.Core.Bool.{true, false}
use Prim.Native.Nat.{ℕ, suc, ◌<◌}
use lib.Dec.{eqb, ltb}
use lib.ListN.{length, take}
use borrow.Author.Tests.{ltb-true, leb-true, eqb-true, eq-eqb, ne_eqb}
use Rattle.std.specs.Prelude.{Ok}
use Rattle.radix.specs.Digits.{product, value, valid}
use Rattle.radix.specs.Answers.{good_bases, value_of}
use Rattle.std.proofs.lemmas.Bool.{and_parts}
use Rattle.radix.proofs.Theorems.RoundTrip.{length-valid, valid-sound}
use Rattle.queue.specs.Form.{Form, act_steps}
use Rattle.queue.specs.Valid.{valid_digits, digits_held, valid_act, in_records, reached}
use Rattle.queue.specs.Valid.{valid_sender, valid_receiver}
use Rattle.queue.specs.Side.{gathering}
use Rattle.queue.specs.declared.Side.{Side}
use Rattle.queue.specs.declared.Sender.{Sender}
use Rattle.queue.specs.declared.Receiver.{Receiver}
use Rattle.sides.specs.Ready.{Acting, Sends}

acting : (F : Form) (x : Side) → valid_act F x ≡ true → Acting F x
unfolding valid_act
acting F x h =
    let (a, digits) = and_parts _ (valid_digits F (digits_held F x.steps) x.digits) h in
    let (kind, low) = and_parts (eqb x.kind 1) (ltb x.steps (act_steps F)) a in
    record {
      kind = eqb-true x.kind 1 kind;
      steps = ltb-true x.steps (act_steps F) low;
      held = λ g. (and_parts (valid (take x.steps F.bases) (take x.steps x.digits)) _ (rw g at digits)).0;
    }

pub sends : (F : Form) (S : List ℕ) (x : Sender) → valid_sender F S x ≡ true → (x.side.kind ≡ 0 → ⊥) → Sends F S x
unfolding valid_sender
sends F S x h busy =
    let (a, index) = and_parts _ (in_records F S x.index) (rw (ne_eqb x.side.kind 0 busy) at h) in
    let (act, next) = and_parts (valid_act F x.side) (ltb (suc x.side.serial.0) (product F.bases)) a in
    record {
      act = acting F x.side act;
      next = ltb-true _ _ next;
      index = leb-true _ _ index;
    }

-- a receiver that is not resting
module _ (F : Form) (y : Receiver) (h : valid_receiver F y ≡ true) (busy : y.side.kind ≡ 0 → ⊥) where
  parts : (valid_act F y.side ≡ true) × (ltb (reached F y.side) (product F.bases) ≡ true)
  unfolding valid_receiver
  parts = and_parts (valid_act F y.side) (ltb (reached F y.side) (product F.bases)) (rw (ne_eqb y.side.kind 0 busy) at h)

  pub receives : Acting F y.side
  receives = acting F y.side parts.0

  pub receives-next : gathering F y.side ≡ false → suc y.side.serial.0 < product F.bases
  receives-next g = ltb-true _ _ (rw g at parts.1)

-- what radix answers to valid digits
pub read-ok : (bs ds : List ℕ) → good_bases bs ≡ true → valid bs ds ≡ true → value_of bs ds ≡ Ok (value bs ds)
read-ok bs ds good v = rw (good, eq-eqb (length ds) (length bs) (length-valid (valid-sound bs ds v)), v)
