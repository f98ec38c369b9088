use Rattle.hb_found.specs.Plain.{setting}
use Rattle.hb_found.proofs.FrameLemmas.{inner_lacks}
use Rattle.hb_found.proofs.asking.receive.Goals as goal

pub lacking-requires-clause-lacks : goal.lacking-requires-clause-lacks
lacking-requires-clause-lacks c =
    inner_lacks (setting c.args.reads) c.args.depth c.in-Missing.after c.args.waiting c.requires.question c.requires.waits (rw c.in-Missing.is at c.requires.answers)

pub gained-requires : goal.gained-requires
gained-requires c = record { question = c.requires.question; waits = c.requires.waits; answers = rw c.in-Found.is at c.requires.answers }
