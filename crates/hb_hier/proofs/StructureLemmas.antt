-- The structures, when one is added or the last ones are cut.
use Rattle.std.proofs.Common.{◌≡◌, ℕ, ◌<◌, List, length, take, sym, ap, ◌∙◌, arith}
use Rattle.std.proofs.lemmas.List.{length-map, take-map}
use Rattle.hb_sets.specs.Set.{Set}
use Rattle.hb_hier.specs.Hierarchy.{Grouped, sets_of}

pub length-sets : (structures : List Grouped) → length (sets_of structures) ≡ length structures
length-sets structures = length-map structures (λ s. s.mixins)

pub declared-in : (structures : List Grouped) (s : ℕ) → s < length structures → s < length (sets_of structures)
declared-in structures s lt = omega (arith, length-sets structures, lt)

-- the joins know the sets of the structures that are left
pub joined-take : (old new : List Grouped) (joins joins' : List Set) (n : ℕ) → new ≡ take n old → joins' ≡ take n joins → joins ≡ sets_of old → joins' ≡ sets_of new
joined-take old new joins joins' n is is_joins joined =
    is_joins ∙ ap (take n) joined ∙ take-map (λ (s : Grouped). s.mixins) n old ∙ ap sets_of (sym is)
