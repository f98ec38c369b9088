-- What a written mixin or factory adds.
use Rattle.std.proofs.Common.{◌≡◌, List, [], ◌∷◌, map, refl, ap, ◌∙◌}
use Rattle.hb_hier.specs.Declaring.{with_mixin, with_factory}
use Rattle.hb_hier.specs.Hierarchy.{Hierarchy}
use Rattle.hb_raw.specs.Sentence.{mixin, factory}
use Rattle.hb_raw.specs.Views.{field}
use Rattle.hb_raw.specs.declared.word.Field.{Field}
use Rattle.hb_raw.specs.declared.word.Item.{Item}
use Rattle.hb_raw.specs.declared.word.Word.{Word}
use Rattle.hb_world.specs.Taking.{factory_names}
use Rattle.hb_mixin.specs.Declaring.{field_names, HasDeclared}

pub written_fields : (fs : List Field) → map (λ f. f.name.name) fs ≡ field_names (map field fs)
written_fields [] = refl
written_fields (f ∷ fs) = ap (λ l. f.name.name ∷ l) (written_fields fs)

pub mixin_declared : (h h' : Hierarchy) (n c : Word) (is is' : List Item) (fs fs' : List Field) → is ≡ is' → fs ≡ fs'
    → h' ≡ with_mixin h n.name (factory_names is) (map (λ f. f.name.name) fs) → HasDeclared (mixin n c is' (map field fs')) h h'
mixin_declared h h' n c is is' fs fs' items fields same =
    same ∙ ap (λ l. with_mixin h n.name (factory_names l) (map (λ f. f.name.name) fs)) items
    ∙ ap (λ l. with_mixin h n.name (factory_names is') l) (ap (map (λ f. f.name.name)) fields ∙ written_fields fs')

pub factory_declared : (h h' : Hierarchy) (n c : Word) (is is' : List Item) (fs fs' : List Field) → is ≡ is' → fs ≡ fs'
    → h' ≡ with_factory h n.name (factory_names is) (map (λ f. f.name.name) fs) → HasDeclared (factory n c is' (map field fs')) h h'
factory_declared h h' n c is is' fs fs' items fields same =
    same ∙ ap (λ l. with_factory h n.name (factory_names l) (map (λ f. f.name.name) fs)) items
    ∙ ap (λ l. with_factory h n.name (factory_names is') l) (ap (map (λ f. f.name.name)) fields ∙ written_fields fs')
