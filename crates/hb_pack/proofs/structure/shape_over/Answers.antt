use Rattle.std.proofs.Common.{◌∙◌, ap, arith, ℕ, ◌+◌, [], ◌∷◌, ◌++◌}
use Rattle.hb_pack.proofs.NamingLemmas.{prefix_trans}
use Rattle.hb_pack.proofs.ShapeLemmas.{shape_over, layout_is}
use Rattle.hb_pack.proofs.structure.shape_over.Goals as goal

pub returns-clause-declarations : goal.returns-clause-declarations
returns-clause-declarations c N S p over =
    let n = c.args.name.0 in
    let at : ℕ = c.len-at.result in
    let class = c.in_ok-class.class in
    let pack = c.in_ok-pack.pack in
    let os = c.in_ok-new_operations.new_operations.items in
    let cs = c.in_ok-new_coercions.new_coercions.items in
    let named = c.in_ok-own.ensures.names N (prefix_trans c.structure_names.new.names c.coercions.new.names N c.in_ok-new_coercions.ensures.kept p) in
    shape_over N S n c.args.set.now c.args.env.now c.args.hier.now c.args.tables.now c.args.mixins.now (record { class = at; pack = at + 1; mixins = c.in_ok-members.members.items }) class pack os cs c.append-2.new.self.items
    over c.requires.listed
    (layout_is S c.args.set.now c.args.env.now at (at + 1) c.in_ok-members.members.items over.env c.len-at.ensures.count (omega arith) c.in_ok-members.ensures.members)
    (c.in_ok-append-2.ensures.items ∙ ap (λ l. l ++ cs) (c.in_ok-append.ensures.items ∙ ap (λ l. l ++ os) (c.in_ok-push-2.ensures.items ∙ ap (λ l. l ++ pack ∷ []) (c.in_ok-push.ensures.items ∙ ap (λ l. l ++ class ∷ []) c.new-made.ensures.items))))
    (c.in_ok-class.ensures N n named) (c.in_ok-pack.ensures N n named) c.in_ok-new_operations.ensures
    (λ s. c.in_ok-new_coercions.ensures.coercions N s p)
