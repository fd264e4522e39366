use Rattle.std.proofs.Common.{rules, sym, ap, ◌∙◌}
use Rattle.radix.specs.declared.Count.{Count}
use Rattle.checks.specs.Seen.{shape}
use Rattle.page.proofs.Writes.Reads.{read_count, ok-same}
use Rattle.page.proofs.write_begin.last_count.Goals as goal

pub unwrap-requires : goal.unwrap-requires
unwrap-requires c =
    let f = c.args.form in
    let said =
    read_count (shape f) c.args.page.now f.good c.requires.long c.requires.allows _ _ c.count_steps-end.ensures c.own-own.ensures
    in
    rw ((rw c.all_bases.ensures at c.read_parts.ensures) ∙ said) (search rules)

pub returns : goal.returns
returns c =
    let f = c.args.form in
    let said =
    read_count (shape f) c.args.page.now f.good c.requires.long c.requires.allows _ _ c.count_steps-end.ensures c.own-own.ensures
    in
    ap (λ (n : Count). n.0) (ok-same (sym c.unwrap.ensures ∙ (rw c.all_bases.ensures at c.read_parts.ensures) ∙ said))
