use Rattle.std.proofs.Common.{◌≡◌, ℕ, ◌++◌, length, sym, ap, ◌∙◌}
use Rattle.std.proofs.Math.ListN.{length-map}
use Rattle.hb_tree.specs.Tree.{Tree, apply}
use Rattle.hb_term.specs.Meaning.{tree}
use Rattle.hb_calculus.specs.Declarations.{field_types}
use Rattle.hb_calculus.specs.Telescopes.{products, variables, former}
use Rattle.hb_env.specs.Plain.{trees, plain_fields}
use Rattle.hb_env.proofs.ListLemmas.{products_append, length_field_types}
use Rattle.hb_env.proofs.types.maker_type.Goals as goal

pub returns : goal.returns
returns c =
    let ps = c.args.params.now in
    let fs = c.args.fields.now in
    let types = field_types (plain_fields fs) in
    let applied : tree c.in_ok-applied.applied ≡ apply (former c.args.decl) (variables (length ps) (length fs)) = c.in_ok-applied.ensures in
    let same : apply (former c.args.decl) (variables (length ps) (length fs)) ≡ apply (former c.args.decl) (variables (length (trees ps)) (length types)) =
    ap (λ (n : ℕ). apply (former c.args.decl) (variables n (length fs))) (sym (length-map ps tree)) ∙ ap (λ (n : ℕ). apply (former c.args.decl) (variables (length (trees ps)) n)) (sym (length_field_types fs)) in
    let under : tree c.in_ok-under_params.under_params ≡ products types (tree c.in_ok-applied.applied) = c.in_ok-under_params.ensures in
    let all : products (trees ps ++ types) (apply (former c.args.decl) (variables (length (trees ps)) (length types))) ≡ products (trees ps) (tree c.in_ok-under_params.under_params) =
    products_append (trees ps) types (apply (former c.args.decl) (variables (length (trees ps)) (length types))) ∙ ap (λ (t : Tree). products (trees ps) t) (sym (under ∙ ap (λ (t : Tree). products types t) (applied ∙ same))) in
    rw all c.product_over_types.ensures
