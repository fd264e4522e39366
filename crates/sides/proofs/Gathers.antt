-- With the last digit all digits gathered are below their bases.
use mathlib.Core.Path.{◌≡◌, ◌∙◌}
use mathlib.Core.List.{List, [], ◌∷◌}
use mathlib.Core.Bool.{true}
use Prim.Native.Nat.{ℕ, zero, suc, ◌+◌, ◌<◌}
use native.Mathlib.Omega.{arith}
use lib.Dec.{ltb}
use lib.ListN.{length, get_or, set, take, drop}
use lib.Seq.{get_or-take, get_or-drop}
use borrow.Author.Tests.{lt-ltb}
use Rattle.radix.specs.Digits.{valid}
use Rattle.std.proofs.lemmas.Bool.{and_parts}
use Rattle.queue.proofs.Lists.{each-valid}

-- one more digit, the last
one_more :
    (bs ds : List ℕ) (k d : ℕ) → length bs ≡ suc k → k < length ds → valid (take k bs) (take k ds) ≡ true →
    d < get_or bs k 0 → valid bs (take (length bs) (set ds k d)) ≡ true
one_more [] ds k d e l h b = absurd (omega (arith, e))
one_more (a ∷ bs) [] k d e l h b = absurd (omega arith)
one_more (a ∷ []) (x ∷ ds) zero d e l h b = rw (lt-ltb d a b)
one_more (a ∷ c ∷ bs) (x ∷ ds) zero d e l h b = absurd (omega (arith, e))
one_more (a ∷ bs) (x ∷ ds) (suc k) d e l h b =
    let (now, later) = and_parts (ltb x a) (valid (take k bs) (take k ds)) h in
    rw now (one_more bs ds k d (omega (arith, e)) (omega arith) later b)

-- the digits that are held with the last one, read from a number that begins at `other`
pub all-gathered :
    (bs q ds : List ℕ) (other k : ℕ) → suc k ≡ length bs → k < length ds → valid (take k bs) (take k ds) ≡ true →
    valid bs (take (length bs) (drop other q)) ≡ true →
    valid bs (take (length bs) (set ds k (get_or q (other + k) 0))) ≡ true
all-gathered bs q ds other k last long held h =
    let here : k < length bs = omega (arith, last) in
    let e : get_or (take (length bs) (drop other q)) k 0 ≡ get_or q (other + k) 0 =
    get_or-take (length bs) (drop other q) k 0 here ∙ get_or-drop other q k 0
    in
    one_more bs ds k (get_or q (other + k) 0) (omega (arith, last)) long held
    (rw e at (each-valid bs (take (length bs) (drop other q)) h k here))
