-- Numbers as text.
use Rattle.std.specs.Prelude.{List, [], ◌∷◌, ◌++◌, ℕ}
use Rattle.std.specs.Fmt.{decimal}

-- a space before each number
abbrev pub words : List ℕ → List ℕ
words [] = []
words (x ∷ xs) = 32 ∷ (decimal x ++ words xs)
