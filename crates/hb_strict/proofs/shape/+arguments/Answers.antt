use Rattle.std.proofs.Common.{◌≡◌, ◌++◌, ◌∷◌, ◌<◌, [], ap, sym, rules}
use Rattle.hb_term.specs.Meaning.{tree}
use Rattle.hb_strict.proofs.TableLemmas.{applied_more}
use Rattle.hb_strict.proofs.shape.+arguments.Goals as goal

pub returns-in_ok-push-in-Some : goal.returns-in_ok-push-in-Some
returns-in_ok-push-in-Some t c =
    let h = rw c.in-Some.is at c.in_ok-arguments-in-App.ensures in
    let e : c.push.new.self.items ≡ c.in-Some.before.items ++ c.in_ok-copy-in-Some.field-0 ∷ [] = search rules in
    let p : 0 < c.args.count = search (rules, c.if-count-eq0.false) in
    applied_more c.args.rec.0 c.args.count (tree c.args.term.now) (tree c.in-App.f.now) (tree c.in-App.a.now) c.in-Some.before.items c.push.new.self.items c.in_ok-copy-in-Some.field-0 (sym c.in-App.ensures) e h.0 h.1 p (ap tree c.in_ok-copy-in-Some.ensures)
