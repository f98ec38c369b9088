use Rattle.hb_cert.proofs.EndLemmas.{on_ok}
use Rattle.hb_cert.proofs.lines.line.Goals as goal

pub returns-in-0 : goal.returns-in-0
returns-in-0 c = on_ok c.extension.result (λ k. k c.args.env.now) c.extension.ensures

pub returns-in-1 : goal.returns-in-1
returns-in-1 c = on_ok c.sort.result (λ k. k c.args.env.now) c.sort.ensures

pub returns-in-2 : goal.returns-in-2
returns-in-2 c = on_ok c.variable.result (λ k. k c.args.env.now) c.variable.ensures

pub returns-in-4 : goal.returns-in-4
returns-in-4 c = on_ok c.product.result (λ k. k c.args.env.now) c.product.ensures

pub returns-in-5 : goal.returns-in-5
returns-in-5 c = on_ok c.function.result (λ k. k c.args.env.now) c.function.ensures

pub returns-in-6 : goal.returns-in-6
returns-in-6 c = on_ok c.application.result (λ k. k c.args.env.now) c.application.ensures
