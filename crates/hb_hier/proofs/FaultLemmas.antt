-- Which refusals the fault of a name can be.
use Rattle.std.proofs.Common.{◌≡◌, ℕ, Bool, true, false, cond, List, get_or, Option, Some, None, subst}
use Rattle.hb_base.specs.declared.count.Count.{Count}
use Rattle.hb_base.specs.declared.name_id.NameId.{NameId}
use Rattle.hb_hier.specs.declared.error.HierRefused.{HierRefused}
use Rattle.hb_hier.specs.declared.error.HierRefused.TheVariants.{UnknownFactory, Unfinished}
use Rattle.hb_hier.specs.declared.known.Known.{Known}
use Rattle.hb_hier.specs.declared.known.Known.TheVariants.{Mixin, Factory, Structure}
use Rattle.hb_hier.specs.Hierarchy.{Hierarchy, nameless, known_as, ended}
use Rattle.hb_hier.specs.Declaring.{fault_as, IsFirstFault, DeclareRefusal, StructureRefusal}

-- what holds of the two faults holds of each fault
fault-kinds : (P : HierRefused → Type 0) (h : Hierarchy) (n : NameId) (k : Option Known) (e : HierRefused) → fault_as h n k ≡ Some e → (UnknownFactory n ≡ e → P e) → (Unfinished n ≡ e → P e) → P e
fault-kinds P h n None e is unknown unfinished = unknown cc
fault-kinds P h n (Some (Mixin m)) e is unknown unfinished = absurd cc
fault-kinds P h n (Some (Factory f)) e is unknown unfinished = open_or (ended h.endings f.0) is
  where
    open_or : (b : Bool) → cond b None (Some (Unfinished n)) ≡ Some e → P e
    open_or true is = absurd cc
    open_or false is = unfinished cc
fault-kinds P h n (Some (Structure s)) e is unknown unfinished = absurd cc

pub declare-fault : (h : Hierarchy) (items : List NameId) (count : Count) (held : ℕ) (e : HierRefused) → IsFirstFault h items e → DeclareRefusal h items count held e
declare-fault h items count held e first =
    fault-kinds (DeclareRefusal h items count held) h (get_or items first.at nameless) (known_as h (get_or items first.at nameless)) e first.fault_is
    (λ is. subst (λ (f : HierRefused). IsFirstFault h items f → DeclareRefusal h items count held f) is (λ first. first) first)
    (λ is. subst (λ (f : HierRefused). IsFirstFault h items f → DeclareRefusal h items count held f) is (λ first. first) first)

pub structure-fault : (h : Hierarchy) (items : List NameId) (e : HierRefused) → IsFirstFault h items e → StructureRefusal h items e
structure-fault h items e first =
    fault-kinds (StructureRefusal h items) h (get_or items first.at nameless) (known_as h (get_or items first.at nameless)) e first.fault_is
    (λ is. subst (λ (f : HierRefused). IsFirstFault h items f → StructureRefusal h items f) is (λ first. first) first)
    (λ is. subst (λ (f : HierRefused). IsFirstFault h items f → StructureRefusal h items f) is (λ first. first) first)
