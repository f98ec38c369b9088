-- What queries answer.
use Rattle.std.specs.Prelude.{◌≡◌, ℕ, Option, None, Some}
use Rattle.hb_base.specs.declared.name_id.NameId.{NameId}
use Rattle.hb_env.specs.declared.refusal.Refusal.{Refusal}
use Rattle.hb_env.specs.declared.refusal.What.TheVariants.{UnknownName}
use Rattle.hb_order.specs.declared.ids.StructId.{StructId}
use Rattle.hb_order.specs.Heirs.{IsCommonHeir, IsJoin}
use Rattle.hb_hier.specs.Hierarchy.{Hierarchy, known_as, sets}
use Rattle.hb_hier.specs.declared.known.Known.TheVariants.{Structure}
use Rattle.hb_raw.specs.declared.word.Word.{Word}

-- the join of two structures, or none where they have no common heir
abbrev pub IsJoinOrNone : Hierarchy → (s t : StructId) → Option StructId → Type 0
IsJoinOrNone h s t (Some j) = IsJoin (sets h) s.0 t.0 j.0
IsJoinOrNone h s t None = (k : ℕ) → ¬ (IsCommonHeir (sets h) s.0 t.0 k)

-- the names stand for structures, and this is their join
abbrev pub IsJoinOf : Hierarchy → (a b : NameId) → Option StructId → Type 0
IsJoinOf h a b j =
    (s : StructId) × (t : StructId) × (known_as h a ≡ Some (Structure s)) × (known_as h b ≡ Some (Structure t)) × IsJoinOrNone h s t j

-- the name stands for no structure, and the refusal says so at its place
pub record IsNoStructure (h : Hierarchy) (n : Word) (r : Refusal) : Type 0 where
  pub place : r.span ≡ n.span
  pub what : r.what ≡ UnknownName n.name
  pub none : (s : StructId) → ¬ (known_as h n.name ≡ Some (Structure s))
