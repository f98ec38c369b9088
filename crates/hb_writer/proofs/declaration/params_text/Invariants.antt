use Rattle.std.specs.Prelude.{string_bytes, ◌++◌, drop}
use Rattle.std.proofs.Common.{◌≡◌}
use Rattle.hb_env.specs.Plain.{trees}
use Rattle.hb_writer.specs.Entries.{params_text}
use Rattle.hb_writer.proofs.declaration.params_text.Given as goal

-- what is written, with what is still to be written, is the text
abbrev pub invariant-loop-at : goal.invariant-loop-at
invariant-loop-at l =
    string_bytes l.out ++ params_text l.names l.env l.at (trees (drop l.at l.params)) ≡ params_text l.names l.env 0 (trees l.params)
