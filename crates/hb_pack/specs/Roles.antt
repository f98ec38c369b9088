-- Roles of generated declarations, and the tables after them.
use Rattle.std.specs.Prelude.{ℕ, suc, List, [], ◌∷◌}
use Rattle.hb_tables.specs.Maps.{Maps}
use Rattle.hb_generated.specs.State as generated
use Rattle.hb_generated.specs.Entering.{enter_one}
use Rattle.hb_pack.specs.declared.roles.Role.{Role}
use Rattle.hb_pack.specs.declared.roles.Role.TheVariants as roles

-- the role that is meant
abbrev pub role : Role → generated.Role
role roles.Plain = generated.plain
role (roles.Pack s) = generated.pack s.0
role (roles.Operation s) = generated.operation s.0
role (roles.Coercion s t) = generated.coercion s.0 t.0
role (roles.Entry s k) = generated.entry s.0 k
role (roles.Value k m) = generated.value k m.0
role (roles.Builder f m) = generated.builder f.0 m.0

-- the tables with declarations of these roles, the first at the place
abbrev pub entered : ℕ → List Role → Maps → Maps
entered at [] T = T
entered at (r ∷ rs) T = entered (suc at) rs (enter_one at (role r) T)
