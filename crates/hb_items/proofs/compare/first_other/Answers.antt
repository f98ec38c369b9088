use Rattle.std.proofs.Common.{◌<◌, length, sym, ◌∙◌, arith}
use Rattle.std.proofs.lemmas.List.{length-map, take-map}
use Rattle.hb_env.specs.Plain.{plain}
use Rattle.hb_items.proofs.CompareLemmas.{apart, other_at}
use Rattle.hb_items.proofs.compare.first_other.Goals as goal

pub returns-then-not-same_decl-clause-other : goal.returns-then-not-same_decl-clause-other
returns-then-not-same_decl-clause-other c =
    let l = c.loop-at-test.true in
    let e = c.if-decls-made.false in
    let m : c.loop-at.at < length c.args.decls.now = omega (arith, l, e) in
    record {
      within = λ h. rw length-map m;
      before = λ h. take-map plain c.loop-at.at c.args.decls.now ∙ c.loop-at.invariant ∙ sym (take-map plain c.loop-at.at c.args.made.now);
      other = λ h. other_at plain c.args.decls.now c.args.made.now c.loop-at.at _ _ m l c.index-decls-at.is c.index-made-at.is (apart _ c.same_decl.result c.same_decl.ensures c.if-not-same_decl.true);
    }
