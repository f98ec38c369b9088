use Rattle.std.proofs.Common.{option_map, map, sym, ap, ◌∙◌, string_bytes}
use Rattle.clap.specs.Words.{found_of}
use Rattle.clap.proofs.WalkLemmas.{raw_values-rows}
use Rattle.hb_words.proofs.ValueLemmas.{no_values, some_values}
use Rattle.hb_words.proofs.jobs.values_of.Goals as goal

pub returns-in-Some : goal.returns-in-Some
returns-in-Some c =
    some_values (λ t. map string_bytes t.items) c.owned.result _ _
    (sym (ap (option_map (λ s. map (λ v. v.now) s.now)) c.in-Some.is) ∙ c.get_strs.ensures ∙ raw_values-rows (found_of c.args.matches.now) c.args.id.now) c.owned.ensures

pub returns-in-None : goal.returns-in-None
returns-in-None c =
    ap (map string_bytes) c.new.ensures.items
    ∙ no_values _
    (sym (ap (option_map (λ s. map (λ v. v.now) s.now)) c.in-None.is) ∙ c.get_strs.ensures ∙ raw_values-rows (found_of c.args.matches.now) c.args.id.now)
