use Rattle.std.proofs.Common.{rules, subst, List, ℕ, ◌≡◌, ◌++◌, Bool}
use Rattle.hb_libfile.proofs.ReadLemmas.{read_more, extends_more, length_more}
use Rattle.hb_libfile.specs.Format.{text_bytes}
use Rattle.hb_libfile.proofs.item.Decoder.names.Goals as goal

pub loop-i-preserved : goal.loop-i-preserved
loop-i-preserved c =
    let r = c.in_ok-table_name.ensures.read in (
      search rules,
      search rules,
      extends_more _ _ _ r.0 c.loop-i.invariant.2 r.1,
      λ z.
          let i = c.loop-i.invariant.3 z in
          (length_more _ _ _ _ r.1 i.0, read_more text_bytes c.loop-i.names c.table_name.new.names r.0 _ _ _ r.1 i.1 r.2),
    )
