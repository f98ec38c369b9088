-- Tables that grew, and the way back.
use Rattle.std.proofs.Common.{◌≡◌, List, [], ◌∷◌, ◌++◌, length, take, refl, sym, ap, ◌∙◌, append_assoc}
use Rattle.std.proofs.lemmas.List.{append-nil}
use Rattle.std.proofs.Math.Seq.{take-append_seam}
use Rattle.hb_order.specs.declared.ids.StructId.{StructId}
use Rattle.hb_order.specs.declared.ids.MixinId.{MixinId}
use Rattle.hb_order.specs.declared.ids.FactoryId.{FactoryId}
use Rattle.hb_tree.specs.declared.leaves.ConstId.{ConstId}
use Rattle.hb_tree.specs.declared.leaves.RecId.{RecId}
use Rattle.hb_tables.specs.declared.marks.TablesMark.{TablesMark}
use Rattle.hb_tables.specs.Maps.{Maps, with_structure, mark_of, cut}
use Rattle.hb_tables.specs.Growing.{IsWhole, Grew}

pub grew_same : (t t' : Maps) → t' ≡ t → Grew t t'
grew_same t t' is = rw is record {
  structures = [];
  packs = [];
  coercions = [];
  entries = [];
  mixins = [];
  operations = [];
  builders = [];
  structures_are = sym (append-nil t.structures);
  packs_are = sym (append-nil t.packs);
  coercions_are = sym (append-nil t.coercions);
  entries_are = sym (append-nil t.entries);
  mixins_are = sym (append-nil t.mixins);
  operations_are = sym (append-nil t.operations);
  builders_are = sym (append-nil t.builders);
}

pub grew_coercions : (t t' : Maps) (a b : StructId) (c : ConstId) → t' ≡ record t { coercions = t.coercions ++ ((a, b), c) ∷ [] } → Grew t t'
grew_coercions t t' a b c is = rw is record {
  structures = [];
  packs = [];
  coercions = _ ∷ [];
  entries = [];
  mixins = [];
  operations = [];
  builders = [];
  structures_are = sym (append-nil t.structures);
  packs_are = sym (append-nil t.packs);
  coercions_are = refl;
  entries_are = sym (append-nil t.entries);
  mixins_are = sym (append-nil t.mixins);
  operations_are = sym (append-nil t.operations);
  builders_are = sym (append-nil t.builders);
}

pub grew_entries : (t t' : Maps) (s : StructId) (k c : ConstId) → t' ≡ record t { entries = t.entries ++ ((s, k), c) ∷ [] } → Grew t t'
grew_entries t t' s k c is = rw is record {
  structures = [];
  packs = [];
  coercions = [];
  entries = _ ∷ [];
  mixins = [];
  operations = [];
  builders = [];
  structures_are = sym (append-nil t.structures);
  packs_are = sym (append-nil t.packs);
  coercions_are = sym (append-nil t.coercions);
  entries_are = refl;
  mixins_are = sym (append-nil t.mixins);
  operations_are = sym (append-nil t.operations);
  builders_are = sym (append-nil t.builders);
}

pub grew_mixins : (t t' : Maps) (k c : ConstId) (m : MixinId) → t' ≡ record t { mixins = t.mixins ++ ((k, m), c) ∷ [] } → Grew t t'
grew_mixins t t' k c m is = rw is record {
  structures = [];
  packs = [];
  coercions = [];
  entries = [];
  mixins = _ ∷ [];
  operations = [];
  builders = [];
  structures_are = sym (append-nil t.structures);
  packs_are = sym (append-nil t.packs);
  coercions_are = sym (append-nil t.coercions);
  entries_are = sym (append-nil t.entries);
  mixins_are = refl;
  operations_are = sym (append-nil t.operations);
  builders_are = sym (append-nil t.builders);
}

pub grew_operations : (t t' : Maps) (c : ConstId) (s : StructId) → t' ≡ record t { operations = t.operations ++ (c, s) ∷ [] } → Grew t t'
grew_operations t t' c s is = rw is record {
  structures = [];
  packs = [];
  coercions = [];
  entries = [];
  mixins = [];
  operations = _ ∷ [];
  builders = [];
  structures_are = sym (append-nil t.structures);
  packs_are = sym (append-nil t.packs);
  coercions_are = sym (append-nil t.coercions);
  entries_are = sym (append-nil t.entries);
  mixins_are = sym (append-nil t.mixins);
  operations_are = refl;
  builders_are = sym (append-nil t.builders);
}

pub grew_builders : (t t' : Maps) (f : FactoryId) (m : MixinId) (c : ConstId) → t' ≡ record t { builders = t.builders ++ ((f, m), c) ∷ [] } → Grew t t'
grew_builders t t' f m c is = rw is record {
  structures = [];
  packs = [];
  coercions = [];
  entries = [];
  mixins = [];
  operations = [];
  builders = _ ∷ [];
  structures_are = sym (append-nil t.structures);
  packs_are = sym (append-nil t.packs);
  coercions_are = sym (append-nil t.coercions);
  entries_are = sym (append-nil t.entries);
  mixins_are = sym (append-nil t.mixins);
  operations_are = sym (append-nil t.operations);
  builders_are = refl;
}

pub grew_structures : (t t' : Maps) (s : StructId) (class pack : RecId) → t' ≡ with_structure t s class pack → Grew t t'
grew_structures t t' s class pack is = rw is record {
  structures = _ ∷ [];
  packs = _ ∷ [];
  coercions = [];
  entries = [];
  mixins = [];
  operations = [];
  builders = [];
  structures_are = refl;
  packs_are = refl;
  coercions_are = sym (append-nil t.coercions);
  entries_are = sym (append-nil t.entries);
  mixins_are = sym (append-nil t.mixins);
  operations_are = sym (append-nil t.operations);
  builders_are = sym (append-nil t.builders);
}

joined : {X : Type 0} (xs ys zs vs ws : List X) → ys ≡ xs ++ vs → zs ≡ ys ++ ws → zs ≡ xs ++ (vs ++ ws)
joined xs ys zs vs ws is is' = is' ∙ ap (λ l. l ++ ws) is ∙ append_assoc xs vs ws

pub grew_trans : (a b c : Maps) → Grew a b → Grew b c → Grew a c
grew_trans a b c f g = record {
  structures = f.structures ++ g.structures;
  packs = f.packs ++ g.packs;
  coercions = f.coercions ++ g.coercions;
  entries = f.entries ++ g.entries;
  mixins = f.mixins ++ g.mixins;
  operations = f.operations ++ g.operations;
  builders = f.builders ++ g.builders;
  structures_are = joined a.structures b.structures c.structures f.structures g.structures f.structures_are g.structures_are;
  packs_are = joined a.packs b.packs c.packs f.packs g.packs f.packs_are g.packs_are;
  coercions_are = joined a.coercions b.coercions c.coercions f.coercions g.coercions f.coercions_are g.coercions_are;
  entries_are = joined a.entries b.entries c.entries f.entries g.entries f.entries_are g.entries_are;
  mixins_are = joined a.mixins b.mixins c.mixins f.mixins g.mixins f.mixins_are g.mixins_are;
  operations_are = joined a.operations b.operations c.operations f.operations g.operations f.operations_are g.operations_are;
  builders_are = joined a.builders b.builders c.builders f.builders g.builders f.builders_are g.builders_are;
}

back-to : {X : Type 0} (xs ys zs : List X) → ys ≡ xs ++ zs → take (length xs) ys ≡ xs
back-to xs ys zs is = ap (take (length xs)) is ∙ take-append_seam xs zs

pub gone_back : (old new new' : Maps) (mark : TablesMark) → IsWhole old → mark ≡ mark_of old → Grew old new → new' ≡ cut new mark → new' ≡ old
gone_back old new new' mark whole is grew was = was ∙ ap (cut new) is ∙ (λ i. record {
  structures = back-to old.structures new.structures grew.structures grew.structures_are i;
  packs = (ap (λ n. take n new.packs) (sym whole.packs) ∙ back-to old.packs new.packs grew.packs grew.packs_are) i;
  coercions = back-to old.coercions new.coercions grew.coercions grew.coercions_are i;
  entries = back-to old.entries new.entries grew.entries grew.entries_are i;
  mixins = back-to old.mixins new.mixins grew.mixins grew.mixins_are i;
  operations = back-to old.operations new.operations grew.operations grew.operations_are i;
  builders = back-to old.builders new.builders grew.builders grew.builders_are i;
})
