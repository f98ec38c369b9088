-- What is looked up by a carrier, and by a carrier and a mixin.
use Rattle.std.specs.Prelude.{◌≡◌, ℕ, ◌-◌, Bool, ◌==◌, ◌&&◌, if◌then◌else◌, List, [], ◌∷◌, ◌++◌, take, length, Option, None, Some, position}
use Rattle.std.specs.Option.{option_or}
use Rattle.std.specs.Map.{lookup}
use Rattle.hb_sets.specs.Set.{contains}
use Rattle.hb_order.specs.declared.ids.MixinId.{MixinId}
use Rattle.hb_order.specs.Givings.{Giving, given}
use Rattle.hb_tree.specs.declared.leaves.ConstId.{ConstId}
use Rattle.hb_givings.specs.declared.records.Summary.{Summary}
use Rattle.hb_givings.specs.Givings.{Given, same_const, givings_at}

-- what a carrier with these givings has; none where nothing was given
abbrev pub summary : List Giving → Option Summary
summary [] = None
summary (g ∷ gs) = Some (record { binders = length g.binders; given = given (g ∷ gs) })

-- the place of the first giving that gave m to the carrier
abbrev pub source : List Given → ConstId → ℕ → Option ℕ
source gs k m = position (λ g. same_const g.carrier k && contains g.giving.gives m) gs

-- entries by a carrier and a mixin
abbrev pub Sources : Type 0
Sources = List ((ConstId × MixinId) × ℕ)

-- what the two maps answer
abbrev pub summary_in : List (ConstId × Summary) → ConstId → Option Summary
summary_in entries k = lookup (λ other. same_const k other) entries

abbrev pub source_in : Sources → ConstId → ℕ → Option ℕ
source_in entries k m = lookup (λ other. same_const k other.0 && (m == other.1.0)) entries

-- they answer right
abbrev pub AreSummaries : List Given → List (ConstId × Summary) → Type 0
AreSummaries gs entries = (k : ConstId) → summary_in entries k ≡ summary (givings_at gs k)

abbrev pub AreSources : List Given → Sources → Type 0
AreSources gs entries = (k : ConstId) (m : ℕ) → source_in entries k m ≡ source gs k m

-- after: what was noted stays, and the place is noted for the mixins of a set that the carrier wasn't given
abbrev pub Adds : Sources → ConstId → (ℕ → Bool) → ℕ → Sources → Type 0
Adds before k has at after =
    (c : ConstId) (m : ℕ) → source_in after c m ≡ option_or (source_in before c m) (if same_const k c && has m then Some at else None)

-- after: the carrier has this, and each other what it had
abbrev pub Puts : List (ConstId × Summary) → ConstId → Option Summary → List (ConstId × Summary) → Type 0
Puts before k has after = (c : ConstId) → summary_in after c ≡ (if same_const k c then has else summary_in before c)

-- one more carrier, where it is a new one
abbrev pub with_new : List ConstId → ConstId → Option Summary → List ConstId
with_new ks k None = ks ++ k ∷ []
with_new ks k (Some before) = ks

-- one less
abbrev pub without_new : List ConstId → Option Summary → List ConstId
without_new ks None = take (length ks - 1) ks
without_new ks (Some before) = ks
