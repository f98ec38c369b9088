use Rattle.std.proofs.Common.{rules}
use Prim.{search}
use Rattle.hb_top.proofs.ReportLemmas.{saved_certifies}
use Rattle.hb_top.proofs.certificate.save_certificate.Goals as goal

pub returns-clause-certified : goal.returns-clause-certified
returns-clause-certified g c =
    saved_certifies (g.K.Sink.contents c.args.out.now) (g.K.Sink.contents c.save.new.out) c.args.name.now _ c.len-decls.result c.in-Ok.certificate.lines c.save.result
    (search rules) c.save.ensures.saved
