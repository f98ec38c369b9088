-- Records of an environment.
use Rattle.std.proofs.Common.{◌≡◌, ◌∙◌, sym, refl, ap, subst, ℕ, suc, List, [], ◌∷◌, length, Global}
use Rattle.std.specs.Prelude.{Option, Some, Vec}
use Rattle.hb_base.specs.declared.name_id.NameId.{NameId}
use Rattle.hb_term.specs.declared.term.Term.{Term}
use Rattle.std.proofs.Common.{zero, ◌≤◌}
use Rattle.std.proofs.lemmas.Option.{none-some}
use Rattle.hb_tree.specs.Tree.{loose}
use Rattle.hb_calculus.specs.Declarations.{Decl, an_axiom, a_definition, a_record, record_in, field_types}
use Rattle.hb_calculus.specs.Scope.{AreBodiesClosed}
use Rattle.hb_calculus.proofs.Options.{Some-injective}
use Rattle.hb_env.specs.Environment.{AreScopedDecls}
use Rattle.hb_env.specs.declared.decl.Decl as env
use Rattle.hb_env.specs.declared.decl.Decl.TheVariants.{Record}
use Rattle.hb_env.specs.Plain.{trees, plain_fields, plain}
use Rattle.hb_reduce.specs.Spines.{SizesAre}

trees-length : (ts : List Term) → length (trees ts) ≡ length ts
trees-length [] = refl
trees-length (t ∷ ts) = ap suc (trees-length ts)

types-length : (fs : List (NameId × Term)) → length (field_types (plain_fields fs)) ≡ length fs
types-length [] = refl
types-length (f ∷ fs) = ap suc (types-length fs)

pub record-sizes :
    (o : Option Decl) (d : env.Decl) (n m : NameId) (ps : Vec Term Global) (k : ℕ) (fs : Vec (NameId × Term) Global) (x y : ℕ) → Some (plain d) ≡ o → d ≡ Record n m ps k fs
    → x ≡ length ps.items → y ≡ length fs.items → SizesAre (record_in o) (Some (x, y))
record-sizes o d n m ps k fs x y e f p q =
    subst (λ z. SizesAre (record_in z) (Some (x, y))) (sym (ap (λ z. Some (plain z)) f) ∙ e)
    (p ∙ sym (trees-length ps.items), q ∙ sym (types-length fs.items))

-- the definitions of a scoped environment are closed
pub scoped-closed : (E : List Decl) → AreScopedDecls E → AreBodiesClosed E
scoped-closed [] h n b e = absurd (none-some b e)
scoped-closed (an_axiom m t ∷ ds) h zero b e = absurd (none-some b e)
scoped-closed (a_definition m t x ∷ ds) h zero b e = subst (λ y. loose y ≤ 0) (Some-injective x b e) h.0.1.variables
scoped-closed (a_record m k ps l fs ∷ ds) h zero b e = absurd (none-some b e)
scoped-closed (d ∷ ds) h (suc n) b e = scoped-closed ds h.1 n b e
