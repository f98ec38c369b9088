use Rattle.hb_reader.specs.Signs.{sign}
use Rattle.hb_reader.proofs.listing.ListState.after.Goals as goal

pub returns-in-Brace : goal.returns-in-Brace
returns-in-Brace c = rw c.in-Brace.is (c.after_brace.ensures (sign c.args.token))

pub returns-in-Colon : goal.returns-in-Colon
returns-in-Colon c = rw c.in-Colon.is (c.after_field_name.ensures (sign c.args.token))
