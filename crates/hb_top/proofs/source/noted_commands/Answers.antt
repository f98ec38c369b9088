use Rattle.hb_session.specs.Source.{MayHaveNotations}
use Rattle.hb_top.proofs.TraceLemmas.{where_ok}
use Rattle.hb_top.proofs.source.noted_commands.Goals as goal

pub returns-then-stops_at_notation-clause-noted : goal.returns-then-stops_at_notation-clause-noted
returns-then-stops_at_notation-clause-noted c =
    where_ok c.noted_commands.result (MayHaveNotations c.args.file c.args.bytes.now) (record {
      names = _;
      place = c.args.refusal.span;
      what = c.args.refusal.what;
      cause = c.requires.form;
      stops = c.stops_at_notation.ensures c.if-stops_at_notation.true;
    })
