use Rattle.std.proofs.Common.{◌≡◌, ◌≤◌, length}
use Rattle.hb_writer.specs.Entries.{number_before}
use Rattle.hb_writer.proofs.names.record_number.Given as goal

-- what is left to look at has the answer
abbrev pub invariant-loop-at : goal.invariant-loop-at
invariant-loop-at l =
    (l.at ≤ length l.env) × (number_before l.env l.name.0 l.at ≡ number_before l.env l.name.0 (length l.env))

abbrev pub decreases-loop-at : goal.decreases-loop-at
decreases-loop-at l = l.at
