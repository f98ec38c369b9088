use Rattle.std.proofs.Common.{◌≡◌, ◌<◌, List, [], ◌∷◌, ◌++◌, length, sym, subst, ap, ◌∙◌, arith}
use Rattle.std.proofs.lemmas.List.{length_push}
use Rattle.hb_sets.specs.Set.{Set}
use Rattle.hb_order.specs.Allowed.{AllAllowed, IsAllowed}
use Rattle.hb_order.proofs.AllowedLemmas.{AllAllowed-push}
use Rattle.hb_joins.specs.Lists.{AllBefore}
use Rattle.hb_joins.proofs.ListLemmas.{all-before, held-push}
use Rattle.hb_joins.proofs.TableLemmas.{table-after}
use Rattle.hb_joins.proofs.joins.Joins.add.Goals as goal

pub add-requires : goal.add-requires
add-requires c =
    let at : length c.self.inside.sets.items ≡ c.len.result = ap length c.self.view_is ∙ sym c.len.ensures.count in
    subst (λ n. AllBefore n c.self.inside.holders) at (all-before c.self.inside.sets.items c.self.inside.holders c.self.invariant.holders)

pub invariant_of-self-2 : goal.invariant_of-self-2
invariant_of-self-2 c =
    let old = c.self.invariant in
    let x = c.args.set in
    let sets = c.self.inside.sets.items in
    let is_sets : c.push_reserved-2.new.self.items ≡ sets ++ x ∷ [] = c.push_reserved-2.ensures.items ∙ ap (λ (l : List Set). l ++ x ∷ []) c.in_ok-reserve.ensures.items in
    let at : c.len.result ≡ length sets = c.len.ensures.count ∙ ap length (sym c.self.view_is) in
    let allowed : IsAllowed sets x = subst (λ (h : List Set). IsAllowed h x) (sym c.self.view_is) c.requires.allowed in
    let few : length sets < 1024 = subst (λ (h : List Set). length h < 1024) (sym c.self.view_is) c.requires.few in
    record {
      few = omega (arith, ap length is_sets, length_push sets x, few);
      allowed = subst AllAllowed (sym is_sets) (AllAllowed-push sets x old.allowed allowed);
      table = table-after sets _ x c.self.inside.rows.items _ c.fill_rows.new.rows.items _ c.in_ok-row.row is_sets c.in_ok-reserve-2.ensures.items c.push_reserved.ensures.items allowed c.in_ok-row.ensures old.table c.fill_rows.ensures.filled;
      holders = held-push sets _ x c.self.inside.holders c.add.new.self _ is_sets at old.holders c.in_ok-add.ensures.added;
    }
