use Rattle.std.specs.Prelude.{string_bytes}
use Rattle.std.proofs.Common.{rules, refl, ◌+◌}
use Rattle.hb_env.specs.Plain.{trees}
use Rattle.hb_term.specs.Meaning.{tree}
use Rattle.hb_writer.specs.Entries.{param_text, params_text}
use Rattle.hb_writer.proofs.EntryLemmas.{part_more}
use Rattle.hb_writer.proofs.declaration.params_text.Goals as goal

pub loop-at-preserved : goal.loop-at-preserved
loop-at-preserved c =
    let N = c.args.names.now in
    let E = c.args.env.now in
    let at = c.loop-at.at in
    let x = c.index-params-at.result in
    part_more (λ ts. params_text N E at (trees ts)) (λ ts. params_text N E (at + 1) (trees ts)) c.args.params.now at x (param_text N E at (tree x)) (string_bytes c.loop-at.out) (string_bytes c.push_str.new.self) _ c.loop-at-test.true c.index-params-at.is refl (search rules) c.loop-at.invariant
