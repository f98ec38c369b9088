use Rattle.std.proofs.lemmas.List.{take-map}
use Rattle.hb_world.specs.Worlds.{opened, value_of}
use Rattle.hb_step.proofs.SinceLemmas.{undone}
use Rattle.hb_step.proofs.marks.undone_section.Goals as goal

pub returns : goal.returns
returns c s m g =
    let S = c.args.section in
    let n = c.args.mark.given in
    rw
    (c.truncate.ensures.items, c.truncate-2.ensures.items, ← take-map value_of n S.own.given.items)
    (undone s (opened S) n c.args.mark.definitions c.args.mark.provided g m.0 m.1 m.2)
