use Rattle.std.proofs.Common.{◌≡◌, ◌+◌, [], ◌∷◌, ◌∙◌, ap, length}
use Rattle.std.proofs.lemmas.List.{length-append}
use Rattle.hb_pack.proofs.NamingLemmas.{prefix_trans}
use Rattle.hb_mixin.specs.Fields.{AreFirstNames}
use Rattle.hb_mixin.proofs.NamingLemmas.{first_stay, first_turn}
use Rattle.hb_mixin.proofs.replaying.own_names.Goals as goal

pub returns-in-Err-push-clause-named : goal.returns-in-Err-push-clause-named
returns-in-Err-push-clause-named c =
    rw c.in-Err-push.ensures.items
    (first_stay c.loop-field.names c.own_name.new.names c.args.record.name c.loop-field.own.items c.args.record.fields.now c.own_name.ensures.kept c.loop-field.invariant.2)

pub returns-in-Ok-None-clause-named : goal.returns-in-Ok-None-clause-named
returns-in-Ok-None-clause-named c =
    first_stay c.loop-field.names c.own_name.new.names c.args.record.name c.loop-field.own.items c.args.record.fields.now c.own_name.ensures.kept c.loop-field.invariant.2

pub returns-in-Err-clause-named : goal.returns-in-Err-clause-named
returns-in-Err-clause-named c =
    first_stay c.loop-field.names c.own_name.new.names c.args.record.name c.loop-field.own.items c.args.record.fields.now c.own_name.ensures.kept c.loop-field.invariant.2

pub loop-field-preserved : goal.loop-field-preserved
loop-field-preserved c =
    let kept = prefix_trans c.args.names.now c.loop-field.names c.own_name.new.names c.loop-field.invariant.0 c.own_name.ensures.kept in
    let more : length c.push.new.self.items ≡ c.loop-field.field-index + 1 = rw c.in-Ok.ensures.items (length-append c.loop-field.own.items (c.in-Ok-Some.id ∷ []) ∙ ap (λ k. k + 1) c.loop-field.invariant.1) in
    let named : AreFirstNames c.own_name.new.names c.args.record.name c.push.new.self.items c.args.record.fields.now =
    rw c.in-Ok.ensures.items
    (first_turn c.loop-field.names c.own_name.new.names c.args.record.name c.loop-field.own.items c.args.record.fields.now c.loop-field.field-index c.in-Ok-Some.id c.field-item.result
    c.loop-field-test.true c.loop-field.invariant.1 c.field-item.is c.own_name.ensures.kept (rw c.in-Ok-Some.field-0-is at c.in-Ok-Some.ensures.named) c.loop-field.invariant.2)
    in
    (kept, more, named)
