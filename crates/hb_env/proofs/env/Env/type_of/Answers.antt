use Rattle.std.proofs.Common.{◌≡◌, arith, sym, Some, slice_get}
use Rattle.hb_env.specs.Plain.{plain, plains}
use Rattle.hb_env.proofs.KeptLemmas.{nodes_within}
use Rattle.hb_env.proofs.env.Env.type_of.Goals as goal

pub type_of-requires : goal.type_of-requires
type_of-requires c =
    let E = plains c.self.inside.decls.items in
    let e : Some (plain c.in-Some.decl.now) ≡ slice_get c.args.self.now c.args.c.decl = c.in-Some.ensures in
    let f : slice_get E c.args.c.decl ≡ Some (plain c.in-Some.decl.now) = rw c.self.view_is (sym e) in
    omega (arith, nodes_within E c.args.c.decl (plain c.in-Some.decl.now) f, c.self.invariant.valid.few_nodes)
