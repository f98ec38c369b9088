-- Going back to the empty hierarchy.
use Rattle.std.proofs.Common.{◌≡◌, ℕ, false, nat_lt, arith, List, [], ◌∷◌, refl}
use Rattle.std.specs.List.{list_any}
use Rattle.std.proofs.lemmas.Bool.Decides.{nat_tests}
use Rattle.hb_hier.specs.declared.known.Known.{Known}
use Rattle.hb_hier.specs.declared.known.Known.TheVariants.{Mixin, Factory, Structure}
use Rattle.hb_hier.specs.Hierarchy.{Hierarchy, nothing}
use Rattle.hb_hier.specs.Undoing.{mark_of, is_kept, IsWhole, Grew}

not_below : (n : ℕ) → nat_lt n 0 ≡ false
not_below n = grind (arith, nat_tests)

none_kept : (order : List Known) → list_any (is_kept (mark_of nothing)) order ≡ false
none_kept [] = refl
none_kept (Mixin m ∷ ks) = rw (not_below m.0) (none_kept ks)
none_kept (Factory f ∷ ks) = rw (not_below f.0) (none_kept ks)
none_kept (Structure s ∷ ks) = rw (not_below s.0) (none_kept ks)

nothing_is_whole : IsWhole nothing
nothing_is_whole = record { ordered = refl; asked = λ i below j t is. absurd (omega (arith, below)) }

-- each hierarchy is the empty one with more
pub grew_nothing : (h : Hierarchy) → Grew nothing h
grew_nothing h = record {
  order = h.order;
  mixins = h.mixins;
  factories = h.factories;
  endings = h.endings;
  structures = h.structures;
  givings = h.givings;
  order_is = refl;
  mixins_are = refl;
  factories_are = refl;
  endings_are = refl;
  structures_are = refl;
  givings_are = refl;
  order_new = none_kept h.order;
}

-- going back to the mark of nothing leaves nothing
pub gone_back : (h new : Hierarchy) → ((old : Hierarchy) → IsWhole old → mark_of nothing ≡ mark_of old → Grew old h → new ≡ old) → new ≡ nothing
gone_back h new back = back nothing nothing_is_whole refl (grew_nothing h)
