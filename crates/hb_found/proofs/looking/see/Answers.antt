use Rattle.std.proofs.Common.{◌∙◌, sym, rules}
use Rattle.hb_keys.specs.Walks.{try_other}
use Rattle.hb_found.specs.Plain.{setting}
use Rattle.hb_found.proofs.KeyLemmas.{key_none, try_not_at}
use Rattle.hb_found.proofs.looking.see.Goals as goal

pub returns-in_default-head_constant : goal.returns-in_default-head_constant
returns-in_default-head_constant c = λ m. try_other (key_none _ _ c.in_default.is c.in_ok-key.ensures) (sym c.head_constant.ensures ∙ c.in_default-head_constant.is)

pub returns-in-None : goal.returns-in-None
returns-in-None c =
    λ m.
    try_not_at (setting c.args.reads) _ _ _ _ c.in-Some-head_constant.constant c.in_ok-args.args.items _ (key_none _ _ c.in_default.is c.in_ok-key.ensures)
    (sym c.head_constant.ensures ∙ c.in-Some-head_constant.is) c.in_ok-args.ensures (search (rules, c.len.ensures)) (rw c.in-None.is at c.in_ok-needs.ensures)
