use Rattle.std.proofs.Common.{◌≡◌, ◌∙◌, ap, List, ℕ, ◌∷◌, map}
use Rattle.hb_env.specs.Plain.{plain, trees}
use Rattle.hb_tree.specs.Tree.{rel}
use Rattle.hb_term.specs.Meaning.{tree}
use Rattle.hb_hier.specs.Hierarchy.{required}
use Rattle.hb_paths.specs.Packs.{sort_of, value_of}
use Rattle.hb_generated.specs.Reading.{a_mixin, listed}
use Rattle.hb_pack.proofs.OperationLemmas.{operation_made}
use Rattle.hb_pack.proofs.operations.operation.Goals as goal

pub returns : goal.returns
returns c =
    let S = c.args.layout.now in
    let members : c.deref.result.now ≡ listed (required c.args.hier.now (a_mixin c.args.m)) = c.deref.ensures.value ∙ c.in_ok-required.ensures.members ∙ ap listed c.required_by.ensures in
    operation_made c.args.env.now c.args.hier.now S c.args.m c.args.field c.args.name c.record_of-record.result (c.is_field.ensures c.if-not-is_field.false) (tree c.in_ok-own.own) (tree c.in_ok-codomain.codomain) (tree c.in_ok-body.body) (trees c.deref-2.result.now) (plain c.in_ok-decl.decl)
    c.record_of-record.ensures c.in_ok-own.ensures
    (ap trees c.deref-2.ensures.value ∙ c.in_ok-params.ensures ∙ ap (λ (ms : List ℕ). sort_of S (rel 0) ∷ map (λ d. value_of S d (rel 0)) ms) members)
    c.in_ok-codomain.ensures c.in_ok-body.ensures c.in_ok-decl.ensures
