use Rattle.std.proofs.Common.{rules, subst, List, ℕ, ◌≡◌, ◌++◌, Bool}
use Rattle.hb_libfile.proofs.ReadLemmas.{read_more_as, read_both, length_more}
use Rattle.hb_libfile.specs.Format.{field_bytes, short, term_bytes}
use Rattle.hb_term.specs.Meaning.{tree}
use Rattle.hb_env.specs.Plain.{plain_field}
use Rattle.hb_libfile.proofs.item.Decoder.fields.Goals as goal

pub loop-at-preserved : goal.loop-at-preserved
loop-at-preserved c =
    (search rules, search rules, length_more _ _ _ _ c.in_ok-push.ensures.items c.loop-at.invariant.2, read_more_as field_bytes plain_field c.loop-at.fields.items c.push.new.self.items (c.in_ok-name.name, c.in_ok-ty.ty) _ _ _ c.in_ok-push.ensures.items c.loop-at.invariant.3 (read_both (short c.in_ok-name.name.0) (term_bytes (tree c.in_ok-ty.ty)) _ _ _ c.in_ok-name.ensures.read c.in_ok-ty.ensures.read))
