use Rattle.std.proofs.Common.{refl, ap}
use Rattle.hb_term.specs.Meaning.{tree}
use Rattle.hb_strict.proofs.TableLemmas.{line_added, converted_line}
use Rattle.hb_strict.proofs.table.Table.converted.Goals as goal

pub returns : goal.returns
returns c =
    λ E h d.
    line_added E c.args.self.now c.add.new.self _ c.in_ok-add.ensures.contexts c.in_ok-add.ensures.added h
    (converted_line E c.args.self.now c.args.at c.args.last c.in-Some-Some.line.now c.in-Some-Some.ty.now _ h d c.in-Some-Some.ensures c.in-Some-Some.ensures' refl
    (ap tree c.in_ok-term.ensures) (ap tree c.in_ok-ty.ensures))
