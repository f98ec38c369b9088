use Rattle.std.proofs.Common.{arith, ap, ◌∙◌, ◌≡◌, map, take, length}
use Rattle.std.proofs.Math.Seq.{take-length}
use Rattle.hb_base.specs.declared.name_id.NameId.{NameId}
use Rattle.hb_term.specs.declared.term.Term.{Term}
use Rattle.hb_term.specs.Meaning.{tree}
use Rattle.hb_env.proofs.ListLemmas.{all_nodes_more, field_types_map}
use Rattle.hb_env.proofs.decl.field_nodes.Goals as goal

pub loop-field-preserved : goal.loop-field-preserved
loop-field-preserved c =
    omega (arith, all_nodes_more (λ (f : NameId × Term). tree f.1) c.args.fields.now c.loop-field.field-index c.field-item.result c.loop-field-test.true c.field-item.is)

pub returns : goal.returns
returns c =
    let xs = c.args.fields.now in
    let e : c.loop-field.field-index ≡ length xs = omega arith in
    let all : map (λ (f : NameId × Term). tree f.1) (take c.loop-field.field-index xs) ≡ map (λ (f : NameId × Term). tree f.1) xs = ap (λ n. map (λ (f : NameId × Term). tree f.1) (take n xs)) e ∙ ap (map (λ (f : NameId × Term). tree f.1)) (take-length xs) in
    rw (field_types_map xs, ← all) c.loop-field.invariant
