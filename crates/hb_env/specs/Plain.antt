-- The plain values that declarations and entries stand for.
use Rattle.std.specs.Prelude.{ℕ, List, map}
use Rattle.hb_base.specs.declared.name_id.NameId.{NameId}
use Rattle.hb_tree.specs.Tree.{Tree}
use Rattle.hb_term.specs.Meaning.{tree}
use Rattle.hb_term.specs.declared.term.Term.{Term}
use Rattle.hb_calculus.specs.Declarations as calculus
use Rattle.hb_calculus.specs.Declarations.{an_axiom, a_definition, a_record}
use Rattle.hb_env.specs.declared.decl.Decl.{Decl}
use Rattle.hb_env.specs.declared.decl.Decl.TheVariants.{Axiom, Def, Record}

-- the trees of terms
abbrev pub trees : List Term → List Tree
trees ts = map tree ts

-- the name and the tree of a field
abbrev pub plain_field : NameId × Term → ℕ × Tree
plain_field f = (f.0.0, tree f.1)

abbrev pub plain_fields : List (NameId × Term) → List (ℕ × Tree)
plain_fields fs = map plain_field fs

-- the declaration of the calculus
abbrev pub plain : Decl → calculus.Decl
plain (Axiom name ty) = an_axiom name.0 (tree ty)
plain (Def name ty body) = a_definition name.0 (tree ty) (tree body)
plain (Record name maker params level fields) =
    a_record name.0 maker.0 (trees params.items) level (plain_fields fields.items)

abbrev pub plains : List Decl → List calculus.Decl
plains ds = map plain ds
