use Rattle.hb_found.proofs.walking.go_on.Goals as goal

pub resume-requires : goal.resume-requires
resume-requires c = record { question = c.requires.question; answers = rw c.in-Ends.is at c.requires.then_is; held = c.requires.held }
