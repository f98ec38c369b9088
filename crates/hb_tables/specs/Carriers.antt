-- What holds of a local carrier: a variable with the mixins that were given to it.
use Rattle.std.specs.Prelude.{◌≡◌, ℕ, ◌<◌, Bool, false, ◌==◌, List, [], ◌∷◌}
use Rattle.std.specs.List.{list_any}
use Rattle.hb_order.specs.declared.ids.MixinId.{MixinId}
use Rattle.hb_term.specs.declared.term.Term.{Term}
use Rattle.hb_term.specs.Meaning.{tree}
use Rattle.hb_calculus.specs.Scope.{IsScoped}
use Rattle.hb_tables.specs.declared.carrier.Carrier.{Carrier}

-- mixin m is one of those given
abbrev pub gives : List (MixinId × Term) → ℕ → Bool
gives given m = list_any (λ g. g.0.0 == m) given

-- each mixin is given once
abbrev pub AreDifferent : List (MixinId × Term) → Type 0
AreDifferent [] = Unit {0}
AreDifferent (g ∷ gs) = (gives gs g.0.0 ≡ false) × AreDifferent gs

-- each value has no hole, and its variables are below its binders and the depth n
abbrev pub AllScoped : ℕ → List (MixinId × Term) → Type 0
AllScoped n [] = Unit {0}
AllScoped n (g ∷ gs) = IsScoped n (tree g.1) × AllScoped n gs

-- the carrier's variable stands in the context of its depth, its values too, and its mixins are different
pub record IsCarrier (c : Carrier) : Type 0 where
  pub below : c.level < c.depth
  pub scoped : AllScoped c.depth c.given.items
  pub different : AreDifferent c.given.items
