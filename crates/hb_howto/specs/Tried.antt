-- Candidates, and what is found when some of them are tried.
use Rattle.std.specs.Prelude.{◌≡◌, ℕ, ◌≤◌, Bool, false, ◌&&◌, not, IsTrue, List, [], ◌∷◌, length, take, count_by, All, Some}
use Rattle.hb_base.specs.declared.count.Count.TheVariants.{Factories}
use Rattle.hb_sets.specs.Set.{Set, is_subset, union}
use Rattle.hb_hier.specs.Hierarchy.{Hierarchy, name_of, required, provided}
use Rattle.hb_howto.specs.declared.candidate.Candidate.{Candidate}
use Rattle.hb_howto.specs.declared.error.HowtoRefused.{HowtoRefused}
use Rattle.hb_howto.specs.declared.error.HowtoRefused.TheVariants.{TooMany, NoMemory}
use Rattle.hb_howto.specs.Filling.{IsUsable}
use Rattle.hb_howto.specs.Ways.{brings}

-- it tells of a mixin or an ended factory what the hierarchy does
pub record IsCandidate (h : Hierarchy) (c : Candidate) : Type 0 where
  pub usable : IsUsable h c.known
  pub named : name_of h c.known ≡ Some c.name
  pub requires_it : c.required ≡ required h c.known
  pub provides_it : c.provided ≡ provided h c.known

-- those that were found at so many places of the order: at most as many as bring something
pub record AreFound (h : Hierarchy) (given : Set) (places : ℕ) (cs : List Candidate) : Type 0 where
  pub each : All (IsCandidate h) cs
  pub counted : length cs ≤ count_by (brings h given) (take places h.order)

-- candidates with which least lists can be searched: the carrier hasn't all that is wanted
pub record CanBeSearched (h : Hierarchy) (wanted given : Set) (cs : List Candidate) : Type 0 where
  pub each : All (IsCandidate h) cs
  pub missing : is_subset wanted given ≡ false

-- taken in their order, they lead from what is held to all that is wanted
unfoldable pub reaches : Set → Set → List Candidate → Bool
reaches wanted held [] = is_subset wanted held
reaches wanted held (c ∷ cs) = is_subset c.required held && reaches wanted (union held c.provided) cs

-- neither of two does alone
unfoldable pub neither_reaches : Set → Set → Candidate → Candidate → Bool
neither_reaches wanted given a b = not (reaches wanted given (a ∷ [])) && not (reaches wanted given (b ∷ []))

-- two do in no order
unfoldable pub no_order_reaches : Set → Set → Candidate → Candidate → Bool
no_order_reaches wanted given a b = not (reaches wanted given (a ∷ b ∷ [])) && not (reaches wanted given (b ∷ a ∷ []))

-- no two of three do in any order
unfoldable pub no_pair_reaches : Set → Set → Candidate → Candidate → Candidate → Bool
no_pair_reaches wanted given a b c =
    no_order_reaches wanted given a b && no_order_reaches wanted given a c && no_order_reaches wanted given b c

-- no one and no two of three do
unfoldable pub no_part_reaches : Set → Set → Candidate → Candidate → Candidate → Bool
no_part_reaches wanted given a b c =
    neither_reaches wanted given a b && not (reaches wanted given (c ∷ [])) && no_pair_reaches wanted given a b c

-- why one that brings something, or doesn't, isn't added to those that are held
abbrev pub AddRefusal : Bool → ℕ → HowtoRefused → Type 0
AddRefusal brings held (TooMany count) = (count ≡ Factories) × IsTrue brings × (512 ≤ held)
AddRefusal brings held NoMemory = Unit {0}
