-- The entries of accepted commands.
use Rattle.std.specs.Prelude.{List, [], ◌∷◌, ◌++◌}
use Rattle.hb_calculus.specs.Declarations.{Decl}
use Rattle.hb_env.specs.Plain.{plains}
use Rattle.hb_env.specs.declared.entry.Entry.{Entry}

-- the declarations of entries, in order
abbrev pub decls_of : List Entry → List Decl
decls_of [] = []
decls_of (e ∷ es) = plains e.decls.items ++ decls_of es
