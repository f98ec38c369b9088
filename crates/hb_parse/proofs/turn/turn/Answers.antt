use Rattle.std.proofs.Common.{◌≡◌, ap, ◌∙◌, Some, Err}
use Rattle.std.proofs.lemmas.Result.{IfOk-weaker, IfErr-weaker}
use Rattle.hb_grammar.specs.Leaf.{Sign}
use Rattle.hb_grammar.specs.Machine.{step}
use Rattle.hb_reader.specs.Signs.{sign}
use Rattle.hb_reader.specs.States.{state}
use Rattle.hb_parse.specs.Turns.{Counted, Halts, Overfull, Stops}
use Rattle.hb_parse.proofs.TurnLemmas.{counted, goes, halts, overfull}
use Rattle.hb_parse.proofs.turn.turn.Goals as goal

pub numbers-requires : goal.numbers-requires
numbers-requires c = c.requires

pub returns-in-Ok-clause-next : goal.returns-in-Ok-clause-next
returns-in-Ok-clause-next c =
    IfOk-weaker c.advance.result _ _ (λ s h.
    goes c.numbers.new.names (state c.args.around) (state s) c.args.kind c.args.text.now c.args.place c.mark-mark.result c.needs.result
    c.in-Ok.whole c.in-Ok.first c.value-value.result c.mark-mark.ensures c.value-value.ensures c.in-Ok.ensures.numbers c.needs.ensures.suffices h)
    c.advance.ensures.next

pub returns-in-Ok-clause-fits : goal.returns-in-Ok-clause-fits
returns-in-Ok-clause-fits c = rw (← c.mark-mark.ensures) c.advance.ensures.fits

pub returns-in-Ok-clause-stop : goal.returns-in-Ok-clause-stop
returns-in-Ok-clause-stop c =
    let s = state c.args.around in
    let w : Sign = record { whole = c.in-Ok.whole; first = c.in-Ok.first; value = c.value-value.result; place = c.args.place } in
    rw (← c.mark-mark.ensures) (IfErr-weaker c.advance.result (λ e. Halts s c.mark-mark.result w e)
    (λ e. Stops c.numbers.new.names s c.mark-mark.result c.args.text.now e)
    (halts c.numbers.new.names s c.mark-mark.result c.args.text.now w) c.advance.ensures.stop)

pub returns-in-Ok-clause-kept : goal.returns-in-Ok-clause-kept
returns-in-Ok-clause-kept c = c.numbers.ensures.kept

pub returns-in-Err-clause-next : goal.returns-in-Err-clause-next
returns-in-Err-clause-next c = IfOk-weaker c.overfull.result _ _ (λ s h. absurd h) c.overfull.ensures.never

pub returns-in-Err-clause-fits : goal.returns-in-Err-clause-fits
returns-in-Err-clause-fits c = IfOk-weaker c.overfull.result _ _ (λ s h. absurd h) c.overfull.ensures.never

pub returns-in-Err-clause-stop : goal.returns-in-Err-clause-stop
returns-in-Err-clause-stop c =
    let s = state c.args.around in
    let w = sign c.unnamed.result in
    rw (← c.mark-mark.ensures) (IfErr-weaker c.overfull.result (λ e. Overfull s c.mark-mark.result w c.in-Err.fault e)
    (λ e. Stops c.numbers.new.names s c.mark-mark.result c.args.text.now e)
    (overfull c.numbers.new.names s c.mark-mark.result c.args.text.now w c.needs.result c.in-Err.fault (λ _. c.needs.ensures.exactly)
    (λ f. c.numbers.ensures.too_many (c.in-Err.is ∙ ap Err f))) c.overfull.ensures.stop)

pub returns-in-Err-clause-kept : goal.returns-in-Err-clause-kept
returns-in-Err-clause-kept c = c.numbers.ensures.kept

pub returns-in-Ok-clause-counted : goal.returns-in-Ok-clause-counted
returns-in-Ok-clause-counted c =
    let s = state c.args.around in
    let w : Sign = record { whole = c.in-Ok.whole; first = c.in-Ok.first; value = c.value-value.result; place = c.args.place } in
    rw (← c.mark-mark.ensures) (IfOk-weaker c.advance.result (λ t. step s c.mark-mark.result w ≡ Some (state t))
    (λ t. Counted c.args.names.now c.numbers.new.names s c.mark-mark.result (state t))
    (λ t h. counted c.args.names.now c.numbers.new.names s (state t) c.mark-mark.result w c.needs.result h
    (λ _. c.needs.ensures.exactly) c.in-Ok.ensures.counted) c.advance.ensures.next)

pub returns-in-Err-clause-counted : goal.returns-in-Err-clause-counted
returns-in-Err-clause-counted c = IfOk-weaker c.overfull.result _ _ (λ s h. absurd h) c.overfull.ensures.never

pub returns-in-Ok-clause-parts : goal.returns-in-Ok-clause-parts
returns-in-Ok-clause-parts c = c.numbers.ensures.parts

pub returns-in-Err-clause-parts : goal.returns-in-Err-clause-parts
returns-in-Err-clause-parts c = c.numbers.ensures.parts
