use Rattle.std.proofs.Common.{sym, ◌∙◌, true≢false}
use Rattle.hb_hier.proofs.GrewLemmas.{stands, gone_back}
use Rattle.hb_hier.proofs.hier.Hier.undo.Goals as goal

pub returns-then-can_stand : goal.returns-then-can_stand
returns-then-can_stand c = record { back = λ old whole is grew. gone_back old c.args.self.now _ c.args.mark whole is grew c.cut.ensures }

pub returns-else-can_stand : goal.returns-else-can_stand
returns-else-can_stand c = record {
  back = λ old whole is grew. absurd (true≢false (sym (c.can_stand.ensures.1 (stands old c.args.self.now c.args.mark whole is grew)) ∙ c.if-can_stand.false));
}
