use Rattle.std.proofs.Common.{refl}
use Rattle.std.proofs.lemmas.List.{map-append}
use Rattle.hb_env.specs.Plain.{plain}
use Rattle.hb_cert.proofs.EndLemmas.{strict_next}
use Rattle.hb_cert.proofs.verifying.declarations.Goals as goal

pub loop-at-init : goal.loop-at-init
loop-at-init c = (rw c.in_ok-env.ensures tt, rw (c.in_ok-env.ensures, c.new-decls.ensures.items) refl)

pub loop-at-preserved : goal.loop-at-preserved
loop-at-preserved c = (
  rw c.in_ok-add.ensures (strict_next c.loop-at.env (plain c.in_ok-decl.decl) c.loop-at.invariant.0 (c.in_ok-ends.ensures c.loop-at.env c.in_ok-table.ensures)),
  rw (c.in_ok-push.ensures.items, map-append, c.loop-at.invariant.1, c.in_ok-copy.ensures, c.in_ok-add.ensures) refl,
)

pub returns : goal.returns
returns c = rw c.loop-at.invariant.1 (record { distinct = c.names_differ.ensures; strict = c.loop-at.invariant.0 })
