-- One number more at the end.
use Rattle.std.proofs.Common.{◌≡◌, ℕ, ◌+◌, ◌<◌, List, [], ◌∷◌, ◌++◌, append-nil, append_assoc, add-one, length, get_or, take}
use Rattle.std.proofs.Math.Seq.{take-suc}
use Rattle.std.specs.Fmt.{decimal}
use Rattle.show.specs.Words.{words}

words-append : (xs : List ℕ) (y : ℕ) → words (xs ++ (y ∷ [])) ≡ words xs ++ (32 ∷ decimal y)
words-append [] y = simp append-nil
words-append (x ∷ xs) y = rw (words-append xs y, append_assoc (decimal x) (words xs) (32 ∷ decimal y))

pub words-next :
    (xs : List ℕ) (i : ℕ) → i < length xs → words (take (i + 1) xs) ≡ words (take i xs) ++ (32 ∷ decimal (get_or xs i 0))
words-next xs i h = rw (add-one i, take-suc xs i 0 h) (words-append (take i xs) (get_or xs i 0))
