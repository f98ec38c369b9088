use Rattle.std.proofs.Common.{ℕ, take}
use Rattle.hb_raw.specs.Views.{sentences}
use Rattle.hb_grammar.proofs.Way.{Came}
use Rattle.hb_grammar.proofs.Unique.{IsMoving}
use Rattle.hb_reader.specs.States.{state}
use Rattle.hb_parse.specs.Answers.{limits}
use Rattle.hb_parse.specs.Signs.{Numbering, Agrees, file_of}
use Rattle.hb_parse.specs.Numbers.{Extends}
use Rattle.hb_parse.proofs.NamesLemmas.{Named}
use Rattle.hb_parse.proofs.file.parse.Given as goal

abbrev pub invariant-loop-i : goal.invariant-loop-i
invariant-loop-i l = record {
  came : (ν : Numbering) → Agrees ν l.names → Came limits (take l.i (file_of ν l.bytes l.tokens)) (sentences l.commands.items) (state l.state);
  moving : IsMoving (state l.state);
  kept : Extends l.fn.names l.names;
  named : (i : ℕ) → Named l.fn.names l.names (sentences l.commands.items) (state l.state) i;
}
