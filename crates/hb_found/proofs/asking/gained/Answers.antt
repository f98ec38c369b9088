use Rattle.std.proofs.Common.{◌≡◌, ◌+◌, refl, rules}
use Rattle.hb_found.specs.Plain.{setting}
use Rattle.hb_found.proofs.FrameLemmas.{asking_found}
use Rattle.hb_found.proofs.asking.gained.Goals as goal

pub returns-clause-asking : goal.returns-clause-asking
returns-clause-asking c =
    let i : c.in_ok-ok_or.field-0 ≡ c.args.frame.at + 1 = search rules in
    asking_found (setting c.args.reads) c.args.depth c.args.frame _ c.args.structure c.args.at_key c.args.at_term c.requires refl refl refl refl i
    (rw c.in_ok-value.ensures at c.in_ok-with_value.ensures)
