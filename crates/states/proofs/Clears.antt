-- One more element of a list that is written from the left.
use mathlib.Core.Path.{◌≡◌, refl, ap}
use mathlib.Core.List.{List, [], ◌∷◌, ◌++◌}
use Prim.Native.Nat.{ℕ, zero, suc, ◌+◌, ◌<◌}
use native.Mathlib.Nat.{not-suc-le-zero, le_of_suc-le-suc}
use native.Mathlib.Numerals.{add-one}
use lib.ListN.{length, set, drop, replicate}

cleared : {A : Type 0} (n : ℕ) (v : A) (d : List A) → n < length d →
    set (replicate n v ++ drop n d) n v ≡ replicate (suc n) v ++ drop (suc n) d
cleared n v [] h = absurd (not-suc-le-zero h)
cleared zero v (x ∷ d) h = refl
cleared {A} (suc n) v (x ∷ d) h = ap {B = List A} (λ l. v ∷ l) (cleared n v d (le_of_suc-le-suc h))

pub clear-more : {A : Type 0} (n : ℕ) (v : A) (d : List A) → n < length d →
    set (replicate n v ++ drop n d) n v ≡ replicate (n + 1) v ++ drop (n + 1) d
clear-more n v d h = rw (add-one n) (cleared n v d h)

pub ruleset clears = (clear-more)
