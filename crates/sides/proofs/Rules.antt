-- Lemmas that the check tries at the goals of a function.
use Rattle.std.proofs.lemmas.List.Folds.{list_all_at, list_all_more}
use lib.Seq.{take_all}
use Rattle.radix.proofs.Numbers.Products.{product-eight}
use Rattle.sides.proofs.Acts.{sends, receives-next, read-ok}
use Rattle.sides.proofs.Gathers.{all-gathered}
use Rattle.sides.proofs.Records.{index-whole}

-- one turn of the test of zeros
pub ruleset zeros = (list_all_more, list_all_at, take_all)

-- a number and the next one are below 2 ^ 64; valid digits are never refused
pub ruleset numbers = (product-eight, read-ok)

-- an act under way
pub ruleset acts = (sends, receives-next)

-- the records that are lent
pub ruleset records = (index-whole)

-- the digits that were gathered
pub ruleset gathers = (all-gathered)
