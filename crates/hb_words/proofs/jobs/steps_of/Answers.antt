use Rattle.std.proofs.Common.{option_map, sym, ap, ◌∙◌, codes}
use Rattle.clap.specs.Words.{found_of}
use Rattle.clap.proofs.WalkLemmas.{first_value-rows}
use Rattle.hb_words.proofs.ValueLemmas.{a_number, no_number}
use Rattle.hb_words.proofs.jobs.steps_of.Goals as goal

pub returns-in-None-clause-written : goal.returns-in-None-clause-written
returns-in-None-clause-written c = no_number _ (sym (first_value-rows (found_of c.args.matches.now) (codes "steps")) ∙ sym c.get_str.ensures ∙ ap (option_map (λ s. s.now)) c.in-None.is)

pub returns-in_ok-wanted-in-Some-clause-written : goal.returns-in_ok-wanted-in-Some-clause-written
returns-in_ok-wanted-in-Some-clause-written c =
    a_number _ c.in-Some.text.now _ (sym (first_value-rows (found_of c.args.matches.now) (codes "steps")) ∙ sym c.get_str.ensures ∙ ap (option_map (λ s. s.now)) c.in-Some.is) c.in_ok-steps-in-Some.ensures.written
