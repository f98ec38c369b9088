use Rattle.std.proofs.Common.{◌≡◌, length, arith, rules}
use Rattle.std.proofs.lemmas.List.{length-map}
use Rattle.hb_term.specs.Meaning.{tree}
use Rattle.hb_env.specs.Plain.{trees, plain_fields}
use Rattle.hb_calculus.specs.Declarations.{field_types}
use Rattle.hb_calculus.specs.Scope.{AreScoped}
use Rattle.hb_cert.proofs.EndLemmas.{scoped_append}
use Rattle.hb_cert.proofs.verifying.is_scoped.Goals as goal

pub returns-then-params_fit : goal.returns-then-params_fit
returns-then-params_fit c =
    λ t.
    let n : c.len.result ≡ length c.in-Record.params.items = search (rules, c.len.ensures) in
    let m : length (trees c.in-Record.params.items) ≡ length c.in-Record.params.items = length-map c.in-Record.params.items tree in
    let p : AreScoped 0 (trees c.in-Record.params.items) = rw c.deref.ensures.value at (c.params_fit.ensures c.if-params_fit.true) in
    let f : AreScoped c.len.result (field_types (plain_fields c.in-Record.fields.items)) = rw c.deref-then-params_fit.ensures.value at (c.fields_fit.ensures t) in
    rw c.in-Record.is (scoped_append 0 c.len.result (trees c.in-Record.params.items) (field_types (plain_fields c.in-Record.fields.items)) p f (omega (arith, n, m)))
