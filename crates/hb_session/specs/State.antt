-- What a session has: what is declared, what it knows beside that, and the entries of the accepted commands.
use Rattle.std.specs.Prelude.{List, []}
use Rattle.hb_calculus.specs.Declarations.{Decl}
use Rattle.hb_env.specs.declared.entry.Entry.{Entry}
use Rattle.hb_world.specs.Worlds.{Background, background, blank}
use Rattle.hb_session.specs.declared.session.Session.{Session}

pub record State : Type 0 where
  pub env : List Decl
  pub back : Background
  pub entries : List Entry

-- the state of a session
abbrev pub state : Session → State
state s = record { env = s.theory; back = background s.world; entries = s.entries.items }

abbrev pub nothing : State
nothing = record { env = []; back = blank; entries = [] }
