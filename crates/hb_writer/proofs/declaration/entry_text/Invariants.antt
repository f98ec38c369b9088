use Rattle.std.specs.Prelude.{string_bytes, ◌++◌, drop}
use Rattle.std.proofs.Common.{◌≡◌}
use Rattle.hb_env.specs.Plain.{plains}
use Rattle.hb_writer.specs.Entries.{entry_text}
use Rattle.hb_writer.proofs.declaration.entry_text.Given as goal

-- what is written, with what is still to be written, is the text
abbrev pub invariant-loop-decl : goal.invariant-loop-decl
invariant-loop-decl l =
    string_bytes l.out ++ entry_text l.kind l.names l.env (plains (drop l.decl-index l.decl-items)) ≡ entry_text l.kind l.names l.env (plains l.entry.decls.items)
