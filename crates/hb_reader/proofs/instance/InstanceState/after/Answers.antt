use Rattle.hb_reader.specs.Signs.{sign}
use Rattle.hb_reader.proofs.instance.InstanceState.after.Goals as goal

pub returns-in-Close : goal.returns-in-Close
returns-in-Close c = rw c.in-Close.is (c.after_condition.ensures (sign c.args.token))

pub returns-in-Becomes : goal.returns-in-Becomes
returns-in-Becomes c = rw c.in-Becomes.is (c.after_carrier.ensures (sign c.args.token))
