use Rattle.std.proofs.Common.{refl, ap, ◌≡◌, [], ◌∷◌}
use Rattle.hb_calculus.specs.Budget.{budget}
use Rattle.hb_env.specs.Plain.{plain, plains}
use Rattle.hb_plain.specs.Refusing.{too_many, no_memory}
use Rattle.hb_plain.proofs.RefusalLemmas.{if_err_both, one_item, not_added_one}
use Rattle.hb_plain.proofs.axiom.declare.Goals as goal

pub returns-in-Some-clause-refused : goal.returns-in-Some-clause-refused
returns-in-Some-clause-refused c =
    rw c.refused.ensures (too_many (rw (c.env.ensures.same, c.deref.ensures.value) at c.in-Some.ensures.passed) refl refl)

pub returns-in-len1-clause-refused : goal.returns-in-len1-clause-refused
returns-in-len1-clause-refused c =
    let xs = c.args.entry.now.decls.items in
    let v = c.as_slice.ensures.value in
    let one : xs ≡ c.decl-item.result ∷ [] = one_item xs c.decl-item.result (rw v at c.in-len1.len_at_least) (rw v at c.in-len1.len_below) (rw v at c.decl-item.is) in
    if_err_both
    c.add_definition.result
    (λ r h g. not_added_one c.args.theory.now (budget c.args.limits.now) (plains xs) c.args.name c.args.ty c.args.body (plain c.decl-item.result) r (ap plains one) h g)
    c.add_definition.ensures.place
    c.add_definition.ensures.fails

pub returns-in_default-as_slice-clause-refused : goal.returns-in_default-as_slice-clause-refused
returns-in_default-as_slice-clause-refused c = rw c.refused-in_default-as_slice.ensures (no_memory refl)
