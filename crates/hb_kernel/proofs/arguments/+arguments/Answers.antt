use Rattle.std.proofs.Common.{◌≡◌, ◌∙◌, ◌++◌, ◌∷◌, [], sym, ap, rules}
use Rattle.hb_term.specs.Meaning.{tree}
use Rattle.hb_kernel.proofs.AppliedLemmas.{applied-more}
use Rattle.hb_kernel.proofs.arguments.+arguments.Goals as goal

pub returns-in_ok-push-in-Some-2 : goal.returns-in_ok-push-in-Some-2
returns-in_ok-push-in-Some-2 t c =
    let h = rw c.in-Some-2.is at c.in_ok-arguments-in-Some.ensures in
    let e : c.push.new.self.items ≡ c.in-Some-2.before.items ++ c.in_ok-copy-in-Some-2.field-0 ∷ [] = search rules in
    rw e (applied-more _ _ _ _ _ c.in-Some-2.before.items c.in_ok-copy-in-Some-2.field-0 c.in-Some.ensures (sym c.as_ref.ensures ∙ h.0) h.1 c.if-count-eq0-2.false
    (ap tree c.in_ok-copy-in-Some-2.ensures ∙ c.as_ref-in-Some-2.ensures))
