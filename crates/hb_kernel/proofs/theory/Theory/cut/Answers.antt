use Rattle.std.proofs.Common.{subst, sym, take, drop}
use Rattle.std.proofs.lemmas.List.{take-append-drop}
use Rattle.hb_calculus.specs.Typing.{WellFormed}
use Rattle.hb_calculus.proofs.WellScoped.{well_formed-prefix}
use Rattle.hb_kernel.proofs.theory.Theory.cut.Goals as goal

pub invariant_of-self : goal.invariant_of-self
invariant_of-self c =
    let E = c.self.inside.env in
    let n = c.args.len in
    let h : WellFormed (take n E) = well_formed-prefix (take n E) (drop n E) (subst (λ x. WellFormed x) (sym (take-append-drop n E)) c.self.invariant) in
    rw c.cut.ensures h
