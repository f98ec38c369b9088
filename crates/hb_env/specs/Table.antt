-- The table of names that is kept beside an environment.
use Rattle.std.specs.Prelude.{◌≡◌, ℕ, zero, suc, ◌-◌, ◌<◌, ◌==◌, true, false, cond, List, length, ◌++◌, Option, Some, None, slice_index, slice_index_or, slice_set}
use Rattle.hb_calculus.specs.Declarations.{Decl, names, node_count, IsIn, Distinct}
use Rattle.hb_base.specs.declared.name_id.NameId.{NameId}
use Rattle.hb_env.specs.declared.named.Named.{Named}
use Rattle.hb_env.specs.declared.named.Named.TheVariants.{Const, Proj}
use Rattle.hb_env.specs.Naming.{name_in, IsFirstRepeated}
use Rattle.hb_env.specs.Environment.{IsEnvironment}

-- what the table has for the name n: what is declared under it, or nothing where nothing is
abbrev pub IsEntry : List Decl → ℕ → Option Named → Type 0
IsEntry E n (Some d) = name_in E d ≡ Some n
IsEntry E n None = ¬ IsIn n (names E)

-- a table with an entry for each name
pub record IsTable (E : List Decl) (table : List (Option Named)) : Type 0 where
  pub full : length table ≡ 65536
  pub right : (n : ℕ) → n < 65536 → IsEntry E n (slice_index_or table n None)

-- what name number i of the declaration at the place stands for
abbrev pub role : (at i : ℕ) → Named
role at i =
    cond
    (i == 0)
    (Const (record { decl = at; maker = false }))
    (cond (i == 1) (Const (record { decl = at; maker = true })) (Proj (record { 0 = at }) (i - 2)))

-- the table where the first n of the names of the declaration at the place are entered, one after another
abbrev pub entered : (at : ℕ) → List ℕ → (n : ℕ) → List (Option Named) → List (Option Named)
entered at ns zero table = table
entered at ns (suc i) table = slice_set (entered at ns i table) (slice_index ns i) (Some (role at i))

-- the table where the first n of the names are taken out
abbrev pub removed : List ℕ → (n : ℕ) → List (Option Named) → List (Option Named)
removed ns zero table = table
removed ns (suc i) table = slice_set (removed ns i table) (slice_index ns i) None

-- no name of ns is held or stands twice, or the first that is
abbrev pub RepeatAnswer : (held ns : List ℕ) → Option NameId → Type 0
RepeatAnswer held ns None = Distinct (held ++ ns)
RepeatAnswer held ns (Some n) = IsFirstRepeated held ns n.0

-- what an environment keeps of its declarations
pub record IsKept (E : List Decl) (table : List (Option Named)) (nodes : ℕ) : Type 0 where
  pub valid : IsEnvironment E
  pub found : IsTable E table
  pub counted : nodes ≡ node_count E
