-- The one declaration of an entry.
use Rattle.std.proofs.Common.{◌≡◌, ◌∷◌, [], List, map, Option, None, Some, refl, ap, ◌∙◌}
use Rattle.std.specs.Option.{option_map}
use Rattle.hb_base.specs.declared.name_id.NameId.{NameId}
use Rattle.hb_tree.specs.Tree.{Tree}
use Rattle.hb_term.specs.Meaning.{tree}
use Rattle.hb_term.specs.declared.term.Term.{Term}
use Rattle.hb_calculus.specs.Declarations.{a_definition}
use Rattle.hb_env.specs.declared.decl.Decl.{Decl}
use Rattle.hb_env.specs.declared.decl.Decl.TheVariants.{Axiom, Def, Record}
use Rattle.hb_env.specs.Plain.{plain, plains}
use Rattle.hb_step.specs.Closing.{IsClosedOver}
use Rattle.hb_world.specs.Worlds.{Opened, opened}
use Rattle.hb_world.specs.declared.section.Section.{Section}
use Rattle.hb_plain.specs.Declaring.{IsAxiomOf, IsClosedIn, IsDefinitionOf}

-- the plain value of the one declaration
pub one_plain : (ds : List Decl) (d e : Decl) → ds ≡ d ∷ [] → d ≡ e → plains ds ≡ plain e ∷ []
one_plain ds d e p q = ap plains p ∙ ap (λ x. plain x ∷ []) q

pub not_axiom : (d : Decl) → ((x : NameId) (t : Term) → ¬ (d ≡ Axiom x t)) → (n : NameId) → ¬ IsAxiomOf n (plain d)
not_axiom (Axiom x t) h n = λ p. h x t refl
not_axiom (Def x t b) h n = λ p. let e = p.1 in absurd (cc)
not_axiom (Record x m ps k fs) h n = λ p. let e = p.1 in absurd (cc)

pub not_definition :
    (o : Option Opened) (d : Decl) → ((x : NameId) (t b : Term) → ¬ (d ≡ Def x t b)) → (n : NameId)
    → ¬ IsDefinitionOf o n (plain d)
not_definition o (Axiom x t) h n = λ p. let e = p.2 in absurd (cc)
not_definition o (Def x t b) h n = λ p. h x t b refl
not_definition o (Record x m ps k fs) h n = λ p. let e = p.2 in absurd (cc)

-- the trees of a definition are those that it is made of
same_closed :
    (G : List Tree) (x n : NameId) (t b t' b' : Tree) → a_definition x.0 t b ≡ a_definition n.0 t' b' → IsClosedOver G t' b'
    → IsClosedOver G t b
same_closed G x n t b t' b' e h = let p : t' ≡ t = cc in let q : b' ≡ b = cc in rw (← p, ← q) h

pub not_closed :
    (o : Option Section) (s : Section) (x : NameId) (t b : Tree) → o ≡ Some s
    → ¬ IsClosedOver (map tree s.context.items) t b → (n : NameId) → ¬ IsDefinitionOf (option_map opened o) n (a_definition x.0 t b)
not_closed o s x t b e h n =
    rw e (λ p. h (same_closed (map tree s.context.items) x n t b p.0 p.1 p.2 p.3))

pub closed_none : (o : Option Section) (t b : Tree) → ((s : Section) → ¬ (o ≡ Some s)) → IsClosedIn (option_map opened o) t b
closed_none None t b h = tt
closed_none (Some s) t b h = absurd (h s refl)
