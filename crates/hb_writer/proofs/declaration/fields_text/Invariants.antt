use Rattle.std.specs.Prelude.{string_bytes, ◌++◌, drop, replicate, true, None}
use Rattle.std.proofs.Common.{◌≡◌}
use Rattle.hb_env.specs.Plain.{plain_fields}
use Rattle.hb_writer.specs.Text.{bound_names}
use Rattle.hb_writer.specs.Entries.{fields_text}
use Rattle.hb_writer.proofs.declaration.fields_text.Given as goal

-- what is written, with what is still to be written, is the text
abbrev pub invariant-loop-field : goal.invariant-loop-field
invariant-loop-field l =
    string_bytes l.out ++ fields_text l.names l.env l.first (bound_names l.bound.items) (plain_fields (drop l.field-index l.fields)) ≡ fields_text l.names l.env true (replicate l.params None) (plain_fields l.fields)
