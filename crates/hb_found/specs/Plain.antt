-- The plain values of what inference reads and answers.
use Rattle.std.specs.Prelude.{◌≤◌, ℕ, List, map, Option, Result, Ok, Err, None, Some, option_map}
use Rattle.hb_sets.specs.Set.{Set}
use Rattle.hb_order.specs.declared.ids.StructId.{StructId}
use Rattle.hb_tree.specs.Tree.{Tree}
use Rattle.hb_tree.specs.declared.leaves.ConstId.{ConstId}
use Rattle.hb_term.specs.Meaning.{tree}
use Rattle.hb_term.specs.declared.term.Term.{Term}
use Rattle.std.specs.Global.{Vec}
use Rattle.hb_calculus.specs.Budget.{budget}
use Rattle.hb_keys.specs.Setting.{Setting, local_of}
use Rattle.hb_keys.specs.Keys as keys
use Rattle.hb_keys.specs.Walks as walks
use Rattle.hb_keys.specs.Walks.{NeedsAre, TakesNot}
use Rattle.hb_found.specs.declared.reads.Reads.{Reads}
use Rattle.hb_found.specs.declared.key.Key.{Key}
use Rattle.hb_found.specs.declared.key.Key.TheVariants.{Constant, Local, Value}
use Rattle.hb_found.specs.declared.ends.End.{End}
use Rattle.hb_found.specs.declared.ends.End.TheVariants.{Found, Missing}
use Rattle.hb_found.specs.declared.ends.Stop.{Stop}
use Rattle.hb_found.specs.declared.ends.Stop.TheVariants.{Spent, Moves, NoMemory}

abbrev pub setting : Reads → Setting
setting r = record {
  env = r.env.now;
  hier = r.hier.now;
  tables = r.tables.now;
  local = option_map (λ c. local_of c.now) r.local;
  limits = budget r.limits.now;
}

-- the numbers of structures
abbrev pub number : Option StructId → Option ℕ
number o = option_map (λ s. s.0) o

abbrev pub numbers : List (Option StructId) → List (Option ℕ)
numbers us = map number us

abbrev pub trees : Vec Term → List Tree
trees ts = map tree ts.items

abbrev pub trees_or : Option (Vec Term) → Option (List Tree)
trees_or o = option_map trees o

abbrev pub key : Key → keys.Key
key (Constant k us bs) = keys.constant k (numbers us.items) (trees_or bs)
key Local = keys.local
key (Value U u) = keys.value U.0 (tree u)

abbrev pub stop : Stop → walks.Stop
stop (Spent t) = walks.spent (tree t)
stop Moves = walks.no_moves
stop NoMemory = walks.no_memory

abbrev pub end : Result End Stop → walks.End
end (Ok (Found k t m)) = walks.found (key k) (tree t) m
end (Ok (Missing m)) = walks.missing m
end (Err e) = walks.stops (stop e)

-- the needs of a constant's arguments, or none where it doesn't take the set
abbrev pub NeedsAnswer : Setting → ConstId → Set → ℕ → Option (Vec (Option StructId)) → Type 0
NeedsAnswer S k X n None = TakesNot S k X n
NeedsAnswer S k X n (Some us) = NeedsAre S k X n (numbers us.items)

-- moves only grow
abbrev pub IsAfter : ℕ → Result End Stop → Type 0
IsAfter m (Ok (Found k t n)) = m ≤ n
IsAfter m (Ok (Missing n)) = m ≤ n
IsAfter m (Err e) = Unit {0}
