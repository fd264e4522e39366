-- What is taken from bytes tells what they decode to.
use Rattle.std.proofs.Common.{◌≡◌, ℕ, false, List, [], ◌∷◌, length, Option, Some, None, refl, sym, subst, arith, eqb}
use Rattle.protocol.specs.Command.{Decoded, over, unknown, command, decode}
use Rattle.protocol.specs.declared.Command.{Command}
use Rattle.protocol.proofs.Runs.Decode.{decode-some}
use Rattle.codec.specs.Decode.{Taken, took, taken}

-- these bytes are decoded so, whatever was taken of them
abbrev Told : Decoded → Option Command → List ℕ → Type 0
Told d (Some x) rest = d ≡ command x rest
Told d None rest = (d ≡ over → ⊥) → d ≡ unknown

told : (d : Decoded) (s : List ℕ) → Told d (taken d s).command (taken d s).rest
told over s = λ never. absurd (never refl)
told unknown s = λ never. refl
told (command x rest) s = refl

module _ (s : List ℕ) where
  by_told : (y : Option Command) (rest : List ℕ) → took y rest ≡ taken (decode s) s → Told (decode s) y rest
  by_told y rest e = subst (λ (z : Taken). Told (decode s) z.command z.rest) (sym e) (told (decode s) s)

  pub told-some : (x : Command) (rest : List ℕ) → took (Some x) rest ≡ taken (decode s) s → decode s ≡ command x rest
  told-some x rest e = by_told (Some x) rest e

-- bytes of which no command is taken say none
pub told-none : (s rest : List ℕ) → eqb (length s) 0 ≡ false → took None rest ≡ taken (decode s) s → decode s ≡ unknown
told-none [] rest some e = absurd (let z : ◌≡◌ {A = ℕ} 0 1 = cc in omega arith)
told-none (k ∷ s) rest some e = by_told (k ∷ s) None rest e (decode-some k s)
