use Rattle.std.specs.Prelude.{◌++◌, string_bytes}
use Rattle.std.proofs.Common.{ap}
use Rattle.std.proofs.lemmas.Result.{on_ok_weaker}
use Rattle.hb_writer.proofs.term.write_piece.Goals as goal

pub returns-in-Part-clause-text : goal.returns-in-Part-clause-text
returns-in-Part-clause-text c =
    rw c.in-Part.is (on_ok_weaker c.take_apart.result (λ h. ap (λ l. string_bytes c.args.out.now ++ l) (h c.args.names.now)) c.take_apart.ensures.text)
