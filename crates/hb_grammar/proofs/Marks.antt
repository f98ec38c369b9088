-- Marks are told apart by their numbers.
use Rattle.std.proofs.Common.{◌≡◌, ℕ, true, List, [], ◌∷◌, refl, ap, ◌∙◌, sym}
use Rattle.hb_grammar.specs.declared.mark.Mark.{Mark}
use Rattle.hb_grammar.specs.declared.mark.Mark.TheVariants.{Ident, Pair, Axiom, Context, Definition, Import, Prop, Record, Require, Universe, Forall, Fun, Of, Hole, Number, Open, Close, Brace, Unbrace, Colon, Becomes, Gives, Arrow, Comma, Semicolon, Ampersand, At, Project, End, Other}
use Rattle.hb_grammar.specs.declared.mark.Second.TheVariants as second
use Rattle.hb_grammar.specs.Machine.{code, same}
use Rattle.std.proofs.Common.{get_or}
use Rattle.std.proofs.lemmas.Bool.{eqb-true}

marks : List Mark
marks =
    Ident ∷ (Axiom ∷ (Context ∷ (Definition ∷ (Import ∷ (Prop ∷ (Record ∷ (Require ∷ (Universe ∷ (Forall
    ∷ (Fun ∷ (Of ∷ (Hole ∷ (Number ∷ (Open ∷ (Close ∷ (Brace ∷ (Unbrace ∷ (Colon ∷ (Becomes ∷ (Gives ∷
    (Arrow ∷ (Comma ∷ (Semicolon ∷ (Ampersand ∷ (At ∷ (Project ∷ (End ∷ (Other ∷ (Other ∷ (Other ∷
    (Other ∷ (Other ∷ (Other ∷ (Other ∷ (Other ∷ (Other ∷ (Other ∷ (Other ∷ (Other ∷ ((Pair
    second.Plain) ∷ ((Pair second.Build) ∷ ((Pair second.Carried) ∷ ((Pair second.Mixin) ∷ ((Pair
    second.Factory) ∷ ((Pair second.Builders) ∷ ((Pair second.End) ∷ ((Pair second.Structure) ∷ ((Pair
    second.Instance) ∷ ((Pair second.Join) ∷ ((Pair second.Find) ∷ ((Pair second.Howto) ∷ ((Pair
    second.About) ∷ []))))))))))))))))))))))))))))))))))))))))))))))))))))

mark_of : ℕ → Mark
mark_of n = get_or marks n Other

mark_code : (m : Mark) → mark_of (code m) ≡ m
unfolding mark_of marks
mark_code Ident = refl
mark_code Axiom = refl
mark_code Context = refl
mark_code Definition = refl
mark_code Import = refl
mark_code Prop = refl
mark_code Record = refl
mark_code Require = refl
mark_code Universe = refl
mark_code Forall = refl
mark_code Fun = refl
mark_code Of = refl
mark_code Hole = refl
mark_code Number = refl
mark_code Open = refl
mark_code Close = refl
mark_code Brace = refl
mark_code Unbrace = refl
mark_code Colon = refl
mark_code Becomes = refl
mark_code Gives = refl
mark_code Arrow = refl
mark_code Comma = refl
mark_code Semicolon = refl
mark_code Ampersand = refl
mark_code At = refl
mark_code Project = refl
mark_code End = refl
mark_code Other = refl
mark_code (Pair second.Plain) = refl
mark_code (Pair second.Build) = refl
mark_code (Pair second.Carried) = refl
mark_code (Pair second.Mixin) = refl
mark_code (Pair second.Factory) = refl
mark_code (Pair second.Builders) = refl
mark_code (Pair second.End) = refl
mark_code (Pair second.Structure) = refl
mark_code (Pair second.Instance) = refl
mark_code (Pair second.Join) = refl
mark_code (Pair second.Find) = refl
mark_code (Pair second.Howto) = refl
mark_code (Pair second.About) = refl

pub same_mark : (a b : Mark) → same a b ≡ true → a ≡ b
same_mark a b h = sym (mark_code a) ∙ (ap mark_of (eqb-true (code a) (code b) h) ∙ mark_code b)
