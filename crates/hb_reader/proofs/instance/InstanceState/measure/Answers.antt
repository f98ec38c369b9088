use Rattle.std.proofs.Common.{refl}
use Rattle.hb_grammar.specs.declared.mark.Mark.TheVariants.{Universe}
use Rattle.hb_grammar.specs.Machine as plain
use Rattle.hb_reader.specs.States.{placing}
use Rattle.hb_reader.proofs.MeasureLemmas.{bracket_leaf_is, placing_leaf_is, same_ways}
use Rattle.hb_reader.proofs.instance.InstanceState.measure.Goals as goal

pub returns-in-Conditioned : goal.returns-in-Conditioned
returns-in-Conditioned c = λ w. rw (c.in-Conditioned.is, bracket_leaf_is c.args.mark w) (c.bracket.ensures w)

pub returns-in-Placing : goal.returns-in-Placing
returns-in-Placing c = λ w.
    rw (c.in-Placing.is, placing_leaf_is (placing c.in-Placing.p) c.args.mark w, ← c.argument.ensures) (c.bracket-in-Placing.ensures w)

pub returns-in-Type : goal.returns-in-Type
returns-in-Type c = λ w.
    rw (c.in-Type.is, same_ways (plain.same Universe c.args.mark) 1, c.flat-in-Type.ensures) (refl, refl)
