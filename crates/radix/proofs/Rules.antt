-- Lemmas that the check tries at the goals of a function.
use Rattle.radix.proofs.Numbers.Bases.{good-drop, good-take}
use Rattle.radix.proofs.Numbers.Places.{take-four}
use Rattle.radix.proofs.Numbers.Turns.{good-on, good-low, good-high, weight-on, weight-fits, valid-on, valid-off, valid-end, horner-on}
use Rattle.radix.proofs.Numbers.Products.{good-product-pos}
use Rattle.radix.proofs.Numbers.Shares.{fits-first, base-pos}
use Rattle.radix.proofs.Numbers.Pieces.{value-fits_of_valid, valid-append, valid-pieces, value-append, value-fits}
use Rattle.radix.proofs.Parting.Ends.{kept-valid, largest-after, ends-fit}
use Rattle.radix.proofs.Parting.Sharing.{begun-valid, begun-zeros, begun-fits, zeros-begun, compare-whole, valid-whole}
use Rattle.radix.proofs.Theorems.RoundTrip.{length-valid, valid-sound, valid-unequal}

-- one turn of the test of bases
pub ruleset goods = (good-on, good-low, good-high)

-- parts of good bases are good
pub ruleset parts = (good-drop, good-take)

-- one turn of the product
pub ruleset weights = (weight-on, weight-fits)

-- one turn of the test of digits
pub ruleset valids = (valid-on, valid-off, valid-end, length-valid, valid-sound)

-- one turn of the value
pub ruleset values = (horner-on, value-fits_of_valid, length-valid, valid-sound)

-- a number shared out
pub ruleset shares = (good-product-pos, fits-first, base-pos)

-- digits in two pieces
pub ruleset pieces = (valid-append, valid-pieces, value-append, value-fits)

-- the two ends
pub ruleset ends = (kept-valid, largest-after, ends-fit, begun-valid, begun-zeros, begun-fits, zeros-begun, good-product-pos, good-drop, compare-whole, valid-whole)

-- bases of versions
pub ruleset versions = (take-four)
