use Rattle.std.proofs.Common.{refl, ap, rules}
use Rattle.hb_tree.specs.Tree.{sort}
use Rattle.hb_strict.specs.Tables.{IsUnder}
use Rattle.hb_strict.proofs.TableLemmas.{line_added, product_line}
use Rattle.hb_strict.proofs.table.Table.product.Goals as goal

pub returns : goal.returns
returns c =
    λ E h.
    let u : IsUnder c.args.self.now c.args.domain c.args.codomain = search rules in
    line_added E c.args.self.now c.add.new.self _ c.in_ok-add.ensures.contexts c.in_ok-add.ensures.added h
    (product_line E c.args.self.now c.args.domain c.args.codomain c.in-Some-Some-2.outer.now c.in-Some-Some-2.inner.now _ c.in-Some-Some.a c.in-Some-Some.b h u
    c.in-Some-Some-2.ensures c.in-Some-Some-2.ensures' c.in-Some-Some.ensures c.in-Some-Some.ensures' refl
    (rw (c.in_ok-copy.ensures, c.in_ok-copy-2.ensures) at c.in_ok-term.ensures) (ap sort c.product_sort.ensures))
