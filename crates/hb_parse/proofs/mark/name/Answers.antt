use Rattle.std.proofs.Common.{◌≡◌, ◌+◌, ◌-◌, length, take, drop, ap, ◌∙◌, arith, rules, true, false, length-drop}
use Rattle.std.specs.List.{list_any}
use Rattle.std.proofs.lemmas.List.{take_all}
use Rattle.hb_grammar.specs.declared.mark.Mark.TheVariants.{Pair}
use Rattle.hb_parse.specs.Marks.{is_point, pair_mark}
use Rattle.hb_parse.proofs.MarksLemmas.{point_inside}
use Rattle.hb_parse.proofs.mark.name.Goals as goal

pub returns-then-at-text : goal.returns-then-at-text
returns-then-at-text c =
    let text = c.args.text.now in
    let i = c.point-at.result in
    let e = point_inside is_point text in
    let t : list_any is_point text ≡ true = grind (arith, e) in
    let behind = take_all (length text - (i + 1)) (drop (i + 1) text) (omega (arith, length-drop (i + 1) text)) in
    rw t (ap Pair (c.pair.ensures ∙ (ap (λ last. pair_mark (take i text) last) behind ∙ ap (λ i. pair_mark (take i text) (drop (i + 1) text)) c.point-at.ensures)))

pub returns-else-at-text : goal.returns-else-at-text
returns-else-at-text c =
    let e = point_inside is_point c.args.text.now in
    let t : list_any is_point c.args.text.now ≡ false = grind (arith, e) in
    rw t (search rules)
