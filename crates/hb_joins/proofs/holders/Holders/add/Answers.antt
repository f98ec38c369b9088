use Rattle.std.proofs.Common.{List, Result, Ok, Err, OnErr, sym, ◌∙◌, subst}
use Rattle.hb_order.specs.declared.ids.StructId.{StructId}
use Rattle.hb_joins.specs.Lists.{AllBefore}
use Rattle.hb_joins.proofs.ListLemmas.{unadded}
use Rattle.hb_joins.proofs.holders.Holders.add.Goals as goal

either_way : {T E P : Type 0} (r : Result T E) → P → OnErr r P
either_way (Ok x) p = tt
either_way (Err e) p = p

pub returns-then-is_err-clause-unchanged : goal.returns-then-is_err-clause-unchanged
returns-then-is_err-clause-unchanged c =
    either_way c.add_to_lists-added.result
    (unadded c.args.s.0 c.self.inside.lists.items c.add_to_lists-added.new.lists.items c.cut_lists.new.lists.items c.self.invariant c.add_to_lists-added.ensures.long
    (subst (λ (l : List (List StructId)). AllBefore c.args.s.0 l) (sym c.self.view_is) c.requires) c.add_to_lists-added.ensures.earlier c.cut_lists.ensures
    ∙ c.self.view_is)
