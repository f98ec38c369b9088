use Rattle.hb_hier_laws.proofs.ActLemmas.{computed_anew}
use Rattle.hb_hier_laws.proofs.sets_are_computed_anew.Goals as goal

pub returns : goal.returns
returns c = computed_anew
