-- How many names groups bind.
use Rattle.std.proofs.Common.{◌≡◌, ◌+◌, List, [], ◌∷◌, ◌++◌, length, Option, Some, None, refl, arith}
use Rattle.std.proofs.lemmas.List.{map-append}
use Rattle.hb_base.specs.declared.name_id.NameId.{NameId}
use Rattle.hb_base.specs.declared.span.Span.{Span}
use Rattle.hb_raw.specs.Preterm.{Preterm, Group, untyped}
use Rattle.hb_raw.specs.Views.{group_of}
use Rattle.hb_grammar.specs.Machine as plain
use Rattle.hb_reader.specs.Views.{bound_by, bound_in}

pub bound_in-more : (gs : List Group) (g : Group) → bound_in (gs ++ (g ∷ [])) ≡ bound_in gs + bound_by g
bound_in-more [] g = omega arith
bound_in-more (h ∷ gs) g = let e = bound_in-more gs g in omega (arith, e)

pub bound_by_of : (xs : List (Option NameId × Span)) (t : Option Preterm) → bound_by (group_of xs t) ≡ length xs
bound_by_of xs None = refl
bound_by_of xs (Some t) = refl

pub bare_groups-more : (xs : List (Option NameId × Span)) (x : Option NameId × Span)
    → plain.bare_groups (xs ++ (x ∷ [])) ≡ plain.bare_groups xs ++ (untyped (x ∷ []) ∷ [])
bare_groups-more xs x = map-append (λ y. untyped (y ∷ [])) xs (x ∷ [])
