use Rattle.std.proofs.Common.{◌≡◌, ◌≢◌, ◌<◌, ◌∙◌, length, map, get_or, refl, sym, rules, arith}
use Rattle.std.proofs.lemmas.List.{length-map}
use Rattle.hb_term.specs.Meaning.{tree}
use Rattle.hb_unify.proofs.FormLemmas.{pairs_apart, pairs_next}
use Rattle.hb_unify.proofs.parts.pairs.Goals as goal

pub returns-then-xs-ys : goal.returns-then-xs-ys
returns-then-xs-ys c =
    let n : length c.args.xs.now ≢ length c.args.ys.now = search (rules, arith, c.if-xs-ys.true) in
    sym (pairs_apart _ (map tree c.args.xs.now) (map tree c.args.ys.now) (λ e. n (sym (length-map c.args.xs.now tree) ∙ e ∙ length-map c.args.ys.now tree)))

pub loop-at-preserved : goal.loop-at-preserved
loop-at-preserved c =
    let w : length c.args.xs.now ≡ length c.args.ys.now = search (rules, arith, c.if-xs-ys.false) in
    let h : c.loop-at.at < length c.args.xs.now = search (rules, c.loop-at-test.true) in
    let x : c.index-xs-at.result ≡ get_or c.args.xs.now c.loop-at.at c.index-xs-at.result = search (rules, c.index-xs-at.is) in
    let y : c.index-ys-at.result ≡ get_or c.args.ys.now c.loop-at.at c.index-ys-at.result = search (rules, c.index-ys-at.is) in
    rw c.in_ok-push.ensures.items
    (pairs_next c.args.depth c.args.xs.now c.args.ys.now c.loop-at.at c.index-xs-at.result c.index-ys-at.result c.loop-at.out.items _ w h x y c.loop-at.invariant
    (rw (c.in_ok-copy.ensures, c.in_ok-copy-2.ensures) refl))
