-- What got more.
use Rattle.std.proofs.Common.{◌≡◌, ℕ, ◌≤◌, List, [], ◌++◌, length, take, map, refl, sym, ap, ◌∙◌, append_assoc, length-append, arith}
use Rattle.std.proofs.lemmas.List.{append-nil, map-append}
use Rattle.std.proofs.Math.Seq.{take-append_seam}
use Rattle.hb_base.specs.declared.name_id.NameId.{NameId}
use Rattle.hb_calculus.specs.Declarations.{Decl}
use Rattle.hb_hier.specs.Undoing as hier
use Rattle.hb_tables.specs.Growing as tables
use Rattle.hb_order.specs.declared.ids.MixinId.{MixinId}
use Rattle.hb_sets.specs.Set.{Set, union}
use Rattle.hb_tree.specs.Tree.{Tree}
use Rattle.hb_term.specs.declared.term.Term.{Term}
use Rattle.hb_world.specs.Worlds.{Background, IsAsBefore, Opened, value_of}
use Rattle.hb_step.specs.Marks.{SectionGrew, OpenedGrew, Since}
use Rattle.hb_step.proofs.SinceLemmas.{since_same, since_trans}
use Rattle.hb_instance.specs.Giving.{HasGiven}
use Rattle.hb_instance.specs.Growing.{IsLonger, HasMore, HasGrown}

pub more_same : {X : Type 0} (xs : List X) → HasMore xs xs
more_same xs = ([], sym (append-nil xs))

pub more_trans : {X : Type 0} (xs ys zs : List X) → HasMore xs ys → HasMore ys zs → HasMore xs zs
more_trans xs ys zs f g = (f.0 ++ g.0, g.1 ∙ ap (λ l. l ++ g.0) f.1 ∙ append_assoc xs f.0 g.0)

pub longer_same : (E : List Decl) → IsLonger E E
longer_same E = ([], sym (append-nil E))

pub longer_kept : (E E' : List Decl) → E' ≡ E → IsLonger E E'
longer_kept E E' is = ([], is ∙ sym (append-nil E))

pub longer_trans : (E F G : List Decl) → IsLonger E F → IsLonger F G → IsLonger E G
longer_trans E F G f g = more_trans E F G f g

pub longer_within : (E E' : List Decl) → IsLonger E E' → length E ≤ length E'
longer_within E E' f = omega (arith, ap length f.1, length-append E f.0)

pub cut_back : (E E' F : List Decl) (n : ℕ) → IsLonger E E' → n ≡ length E → F ≡ take n E' → F ≡ E
cut_back E E' F n f is cut = cut ∙ ap (λ k. take k E') is ∙ ap (take (length E)) f.1 ∙ take-append_seam E f.0

pub grown_trans : (u v w : Background) → HasGrown u v → HasGrown v w → HasGrown u w
grown_trans u v w f g E = since_trans E E E u v w (f E) (g E)

pub grown_names : (u v : Background) → IsAsBefore u v → HasGrown u v
grown_names u v b E = since_same E E u v refl b

pub grown_parts : (u v : Background) → v.names ≡ u.names → hier.Grew u.hier v.hier → tables.Grew u.tables v.tables → SectionGrew u.section v.section → HasGrown u v
grown_parts u v n h t s E = record {
  declared = [];
  declared_are = sym (append-nil E);
  names = ([], n ∙ sym (append-nil u.names));
  hier_grew = h;
  tables_grew = t;
  section = s;
}

pub since_grown : (E E' ds : List Decl) (u v : Background) → HasGrown u v → E' ≡ E ++ ds → Since E u E' v
since_grown E E' ds u v g is =
    let s = g E in
    record { declared = ds; declared_are = is; names = s.names; hier_grew = s.hier_grew; tables_grew = s.tables_grew; section = s.section }

pub since_kept : (E E' : List Decl) (u v : Background) → HasGrown u v → E' ≡ E → Since E u E' v
since_kept E E' u v g is = since_grown E E' [] u v g (is ∙ sym (append-nil E))

pub given_more : (old new : List (MixinId × Term)) → HasMore old new → HasMore (map value_of old) (map value_of new)
given_more old new f = (map value_of f.0, ap (map value_of) f.1 ∙ map-append value_of old f.0)

pub opened_more : (s : Opened) (G : List (MixinId × Tree)) (p : Set) (D : List NameId) → HasMore s.given G → HasMore s.definitions D → OpenedGrew s (record s { given = G; provided = p; definitions = D })
opened_more s G p D f g = record { given = f.0; provided = p; definitions = g.0; grown = rw (f.1, g.1) refl }

pub opened_gave :
    (s : Opened) (G : List (MixinId × Tree)) (p x : Set) (D : List NameId) → p ≡ union s.provided x → HasMore s.given G
    → HasMore s.definitions D → HasGiven x s (record s { given = G; provided = p; definitions = D })
opened_gave s G p x D is f g = record { given = f.0; definitions = g.0; grown = rw (is, f.1, g.1) refl }
