use Rattle.std.proofs.Common.{refl, ap, ◌∙◌}
use Rattle.hb_env.specs.Plain.{plains}
use Rattle.hb_structure.specs.Refusing.{not_same, same_not_added}
use Rattle.hb_structure.proofs.replaying.compared.Goals as goal

pub returns-in-Some-clause-refused : goal.returns-in-Some-clause-refused
returns-in-Some-clause-refused c =
    not_same c.in-Some.at (rw c.deref.ensures.value at c.in-Some.ensures.other) c.bad_library.ensures

pub returns-in-Err-clause-refused : goal.returns-in-Err-clause-refused
returns-in-Err-clause-refused c = same_not_added (c.in-None.ensures.same refl ∙ ap plains c.deref.ensures.value) c.in-Err.ensures.refused
