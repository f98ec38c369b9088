use Rattle.std.proofs.Common.{◌≡◌, [], subst, ap, map, ◌∙◌}
use Rattle.clap.specs.Words.{fault_of, is_simple, is_simple_and_free, matches_of}
use Rattle.hb_words.proofs.ValueLemmas.{row_is_free, row_is_simple}
use Rattle.hb_words.proofs.read.matches_of.Goals as goal

pub returns-in-Ok-clause-fits : goal.returns-in-Ok-clause-fits
returns-in-Ok-clause-fits c =
    subst (λ a. fault_of a (map (λ word. word.now) c.args.words.now) ≡ []) c.in_ok-command.ensures (c.in-Ok.ensures.kinds (ap is_simple_and_free c.in_ok-command.ensures ∙ row_is_free c.args.row))

pub returns-in-Ok-clause-found : goal.returns-in-Ok-clause-found
returns-in-Ok-clause-found c =
    (c.in-Ok.ensures.matches (ap is_simple c.in_ok-command.ensures ∙ row_is_simple c.args.row)).0
    ∙ ap (λ a. matches_of a (map (λ word. word.now) c.args.words.now)) c.in_ok-command.ensures
