use Rattle.std.proofs.Common.{◌≡◌, ◌+◌, ◌<◌, Some, None, slice_get, length, refl, rules}
use Rattle.hb_found.specs.Plain.{setting}
use Rattle.hb_found.proofs.FrameLemmas.{asking_plain, at_inside, read_at}
use Rattle.hb_found.proofs.asking.passed.Goals as goal

pub index-requires : goal.index-requires
index-requires c =
    let h : c.args.frame.at < length c.args.frame.args.items = at_inside (setting c.args.reads) c.args.depth c.args.frame None c.requires.asking c.requires.none in
    search (rules, h)

pub returns-clause-asking : goal.returns-clause-asking
returns-clause-asking c =
    let h : c.args.frame.at < length c.args.frame.args.items = at_inside (setting c.args.reads) c.args.depth c.args.frame None c.requires.asking c.requires.none in
    let a : slice_get c.args.frame.args.items c.args.frame.at ≡ Some c.index.result.now =
    read_at c.args.frame.args.items (length c.args.frame.args.items) c.args.frame.at c.index.result.now _ refl h c.index.ensures refl
    in
    let i : c.in_ok-ok_or.field-0 ≡ c.args.frame.at + 1 = search rules in
    asking_plain (setting c.args.reads) c.args.depth c.args.frame _ c.index.result.now c.requires.asking c.requires.none a refl refl refl refl i refl
    (rw c.in_ok-arg.ensures at c.in_ok-values.ensures)
