-- Whole records of n bytes: an index is one of them exactly if the record ends within them.
use mathlib.Core.Path.{◌≡◌}
use Prim.Native.Nat.{ℕ, suc, ◌*◌, ◌/◌, ◌<◌}
use native.Mathlib.Nat.{le-div_iff_mul-le}
use lib.Dec.{ltb, leb}
use borrow.Author.Tests.{leb-true, le-leb}
use Rattle.std.proofs.lemmas.Bool.Decides.{same_from_decides, Decides-like, Decides-ltb}

pub index-whole : (i n size : ℕ) → 0 < n → ltb i (size / n) ≡ leb (suc i * n) size
index-whole i n size h =
    let e = le-div_iff_mul-le {k = n} {x = suc i} {y = size} h in
    same_from_decides _ _ (Decides-like _ e.0 e.1 (Decides-ltb i (size / n)))
    (leb-true (suc i * n) size, le-leb (suc i * n) size)
