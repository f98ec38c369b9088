-- What an environment keeps, with one declaration more or less.
use Rattle.std.proofs.Common.{◌≡◌, ℕ, zero, suc, ◌+◌, ◌-◌, ◌<◌, ◌≤◌, List, [], ◌∷◌, ◌++◌, length, Option, Some, None, slice_get, take, get_or, refl, ap, sym, subst, ◌∙◌, arith}
use Rattle.std.proofs.Math.Seq.{take-length, take-append_seam}
use Rattle.std.proofs.lemmas.List.{take_more, length-append}
use Rattle.hb_base.specs.declared.count.Count.{Count}
use Rattle.hb_base.specs.declared.count.Count.TheVariants.{Names, Mixins, Factories, Structures, Declarations, Fields, Nodes, Files}
use Rattle.hb_calculus.specs.Declarations.{Decl, names_of, names, fields_of, node_count, all_nodes, terms_of, Distinct}
use Rattle.hb_calculus.specs.Scope.{IsScopedDecl}
use Rattle.hb_env.specs.declared.named.Named.{Named}
use Rattle.hb_env.specs.Environment.{AreScopedDecls, HaveFewFields, Passes, IsPassed}
use Rattle.hb_env.specs.Table.{IsEntry, IsKept, entered, removed}
use Rattle.hb_env.proofs.NameLemmas.{names_push, distinct_left}
use Rattle.hb_env.proofs.TableLemmas.{table_more, table_less}

pub nodes_push : (E : List Decl) (d : Decl) → node_count (E ++ d ∷ []) ≡ node_count E + all_nodes (terms_of d)
nodes_push [] d = omega arith
nodes_push (e ∷ E) d = omega (arith, nodes_push E d)

scoped_push : (E : List Decl) (d : Decl) → AreScopedDecls E → IsScopedDecl d → AreScopedDecls (E ++ d ∷ [])
scoped_push [] d h g = (g, tt)
scoped_push (e ∷ E) d h g = (h.0, scoped_push E d h.1 g)

scoped_front : (E : List Decl) (d : Decl) → AreScopedDecls (E ++ d ∷ []) → AreScopedDecls E
scoped_front [] d h = tt
scoped_front (e ∷ E) d h = (h.0, scoped_front E d h.1)

few_push : (E : List Decl) (d : Decl) → HaveFewFields E → fields_of d ≤ 255 → HaveFewFields (E ++ d ∷ [])
few_push [] d h g = (g, tt)
few_push (e ∷ E) d h g = (h.0, few_push E d h.1 g)

few_front : (E : List Decl) (d : Decl) → HaveFewFields (E ++ d ∷ []) → HaveFewFields E
few_front [] d h = tt
few_front (e ∷ E) d h = (h.0, few_front E d h.1)

pub kept_more : (E : List Decl) (d : Decl) (table : List (Option Named)) (nodes : ℕ) → IsKept E table nodes → Distinct (names E ++ names_of d) → IsScopedDecl d → length E < 262144 → fields_of d ≤ 255 → node_count (E ++ d ∷ []) ≤ 40000000 → IsKept (E ++ d ∷ []) (entered (length E) (names_of d) (length (names_of d)) table) (node_count (E ++ d ∷ []))
kept_more E d table nodes k u s l f n = record {
  valid = record {
    distinct = rw (names_push E d) u;
    scoped = scoped_push E d k.valid.scoped s;
    few = omega (arith, length-append E (d ∷ []));
    few_fields = few_push E d k.valid.few_fields f;
    few_nodes = n;
  };
  found = table_more E d table k.found;
  counted = refl;
}

pub kept_less : (E : List Decl) (d : Decl) (table : List (Option Named)) (nodes : ℕ) → IsKept (E ++ d ∷ []) table nodes → IsKept E (removed (names_of d) (length (names_of d)) table) (nodes - all_nodes (terms_of d))
kept_less E d table nodes k = record {
  valid = record {
    distinct = distinct_left (names E) (names_of d) (subst (λ (l : List ℕ). Distinct l) (names_push E d) k.valid.distinct);
    scoped = scoped_front E d k.valid.scoped;
    few = omega (arith, k.valid.few, length-append E (d ∷ []));
    few_fields = few_front E d k.valid.few_fields;
    few_nodes = omega (arith, k.valid.few_nodes, nodes_push E d);
  };
  found = table_less E d table k.valid.distinct k.found;
  counted = omega (arith, k.counted, nodes_push E d);
}

-- a table without names
abbrev pub AllNone : List (Option Named) → Type 0
AllNone [] = Unit {0}
AllNone (o ∷ os) = (o ≡ None) × AllNone os

pub none_push : (os : List (Option Named)) → AllNone os → AllNone (os ++ None ∷ [])
none_push [] h = (refl, tt)
none_push (o ∷ os) h = (h.0, none_push os h.1)

empty_entry : (os : List (Option Named)) (k n : ℕ) → AllNone os → IsEntry [] n (get_or os k None)
empty_entry [] k n h = λ p. p
empty_entry (o ∷ os) zero n h = rw h.0 (λ p. p)
empty_entry (o ∷ os) (suc k) n h = empty_entry os k n h.1

pub empty_kept : (table : List (Option Named)) → length table ≡ 65536 → AllNone table → IsKept [] table 0
empty_kept table e h = record {
  valid = record { distinct = tt; scoped = tt; few = omega arith; few_fields = tt; few_nodes = omega arith };
  found = record { full = e; right = λ n l. empty_entry table n n h };
  counted = refl;
}

-- the same count is passed where the nodes are counted up to a greater end
pub passes_beyond : (n f k m : ℕ) (c : Count) → (40000000 < k → 40000000 < m) → Passes n f k c → Passes n f m c
passes_beyond n f k m Names h p = p
passes_beyond n f k m Mixins h p = p
passes_beyond n f k m Factories h p = p
passes_beyond n f k m Structures h p = p
passes_beyond n f k m Declarations h p = p
passes_beyond n f k m Fields h p = p
passes_beyond n f k m Nodes h p = (p.0, p.1, h p.2)
passes_beyond n f k m Files h p = p

pub nodes_within : (E : List Decl) (i : ℕ) (d : Decl) → slice_get E i ≡ Some d → all_nodes (terms_of d) ≤ node_count E
nodes_within [] i d h = absurd (cc)
nodes_within (e ∷ E) zero d h = let q : e ≡ d = cc in omega (arith, ap (λ x. all_nodes (terms_of x)) q)
nodes_within (e ∷ E) (suc i) d h = omega (arith, nodes_within E i d h)

pub passed_is : (E : List Decl) (d : Decl) (n f k : ℕ) (c : Count) → n ≡ length E → f ≡ fields_of d → (40000000 < k → 40000000 < node_count (E ++ d ∷ [])) → Passes n f k c → IsPassed E d c
passed_is E d n f k c a b h p =
    passes_beyond (length E) (fields_of d) k (node_count (E ++ d ∷ [])) c h (subst (λ (x : ℕ). Passes x (fields_of d) k c) a (subst (λ (x : ℕ). Passes n x k c) b p))

-- the same where the parts are known by equations
pub kept_pushed :
    (E E' : List Decl) (d d' : Decl) (table now : List (Option Named)) (nodes nodes' at : ℕ) → IsKept E table nodes
    → E' ≡ E ++ d ∷ [] → d' ≡ d → at ≡ length E → now ≡ entered at (names_of d') (length (names_of d')) table
    → nodes' ≡ node_count (E ++ d ∷ []) → Distinct (names E ++ names_of d) → IsScopedDecl d → length E < 262144
    → fields_of d ≤ 255 → nodes' ≤ 40000000 → IsKept E' now nodes'
kept_pushed E E' d d' table now nodes nodes' at k e p q t m u s l f n =
    let g : now ≡ entered (length E) (names_of d) (length (names_of d)) table = t ∙ ap (λ x. entered x (names_of d') (length (names_of d')) table) q ∙ ap (λ x. entered (length E) (names_of x) (length (names_of x)) table) p in
    rw (e, g, m) (kept_more E d table nodes k u s l f (omega arith))

pub kept_popped :
    (E E' : List Decl) (d : Decl) (table now : List (Option Named)) (nodes : ℕ) → IsKept E table nodes → E ≡ E' ++ d ∷ []
    → now ≡ removed (names_of d) (length (names_of d)) table → IsKept E' now (nodes - all_nodes (terms_of d))
kept_popped E E' d table now nodes k e t = rw t (kept_less E' d table nodes (subst (λ (x : List Decl). IsKept x table nodes) e k))

-- the written part of a list before the rest
pub seam : {X : Type 0} (n : ℕ) (t u : List X) → n ≡ length u → take n (u ++ t) ≡ u
seam n t u e = ap (λ k. take k (u ++ t)) e ∙ take-append_seam u t

-- the last of a list
pub last_item : {X : Type 0} (xs : List X) (i : ℕ) (x : X) → length xs ≡ i + 1 → x ≡ get_or xs i x → xs ≡ take i xs ++ x ∷ []
last_item xs i x l e =
    let a : take (i + 1) xs ≡ xs = ap (λ k. take k xs) (sym l) ∙ take-length xs in
    sym a ∙ take_more xs i x (omega arith) ∙ ap (λ y. take i xs ++ y ∷ []) (sym e)
