use Rattle.std.proofs.Common.{◌≡◌, ◌∙◌, ◌<◌, Some, slice_get, length, refl, sym, ap, rules}
use Rattle.hb_term.specs.Meaning.{tree}
use Rattle.hb_found.specs.Plain.{setting}
use Rattle.hb_found.proofs.FrameLemmas.{waits_at, at_inside, read_at}
use Rattle.hb_found.proofs.asking.waiting.Goals as goal

pub index-requires : goal.index-requires
index-requires c =
    let h : c.args.frame.at < length c.args.frame.args.items =
    at_inside (setting c.args.reads) c.args.depth c.args.frame (Some c.args.structure) c.requires.asking c.requires.need
    in
    search (rules, h)

pub returns-clause-then : goal.returns-clause-then
returns-clause-then c =
    let h : c.args.frame.at < length c.args.frame.args.items =
    at_inside (setting c.args.reads) c.args.depth c.args.frame (Some c.args.structure) c.requires.asking c.requires.need
    in
    let a : slice_get c.args.frame.args.items c.args.frame.at ≡ Some c.index.result.now =
    read_at c.args.frame.args.items (length c.args.frame.args.items) c.args.frame.at c.index.result.now _ refl h c.index.ensures refl
    in
    let n : c.in_ok-new.field-0 ≡ tree c.in_ok-copy.field-0 = c.in_ok-new.ensures ∙ ap tree (sym c.in_ok-copy.ensures) in
    let t : tree c.in_ok-copy.field-0 ≡ tree c.index.result.now = ap tree (c.in_ok-copy.ensures ∙ c.in_ok-arg.ensures) in (
      waits_at (setting c.args.reads) c.args.depth c.args.frame c.args.structure _ c.index.result.now c.requires.asking c.requires.need a t c.mixins.ensures refl,
      λ e w. rw n at w,
      refl,
    )
