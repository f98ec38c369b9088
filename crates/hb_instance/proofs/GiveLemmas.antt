-- What an instance gives, by its target.
use Rattle.std.proofs.Common.{◌≡◌, Result, Ok, Err, OnOk, List, [], ◌∷◌, Option, None, Some, map, refl, ap, ◌∙◌}
use Rattle.std.specs.Option.{option_map}
use Rattle.hb_base.specs.declared.name_id.NameId.{NameId}
use Rattle.hb_calculus.specs.Declarations.{Decl}
use Rattle.hb_hier.specs.Giving.{provided_or_none, with_giving}
use Rattle.hb_hier.specs.Hierarchy.{Hierarchy, known_as}
use Rattle.hb_raw.specs.declared.word.Word.{Word}
use Rattle.hb_world.specs.Taking.{binder_names, word_name}
use Rattle.hb_world.specs.Worlds.{Opened}
use Rattle.hb_instance.specs.Giving.{asked, asked_by, after, IsTarget, Gives}
use Rattle.hb_instance.specs.declared.target.Target.{Target}
use Rattle.hb_instance.specs.declared.target.Target.TheVariants.{Constant, Local}

-- an instance at its target gives what its names say
pub gives_at : (o : Option Opened) (E : List Decl) (f c : NameId) (names : List (Option NameId)) (t : Target) (h h' : Hierarchy)
    → IsTarget o E c (asked h names) t → h' ≡ after h t f → Gives o E f c names h h'
gives_at None E f c names (Constant k v) h h' (named, is) same = (k, named, same ∙ ap (λ x. with_giving h k x (provided_or_none h (known_as h f))) is)
gives_at None E f c names (Local g) h h' is same = absurd is
gives_at (Some o) E f c names (Constant k v) h h' is same = absurd is
gives_at (Some o) E f c names (Local g) h h' is same = same

-- what written binders ask
pub asked_words : (h : Hierarchy) (bs : List (Word × Option Word)) → map (λ b. asked_by h (option_map word_name b.1)) bs ≡ asked h (binder_names bs)
asked_words h [] = refl
asked_words h (b ∷ bs) = ap (λ l. asked_by h (option_map word_name b.1) ∷ l) (asked_words h bs)

-- what holds anyway, holds where the result is Ok
pub on_ok : {T E : Type 0} (r : Result T E) (P : Type 0) → P → OnOk r P
on_ok (Ok x) P p = p
on_ok (Err e) P p = tt
