-- Names, trees and products of lists, one more at a time.
use Rattle.std.proofs.Common.{◌≡◌, ℕ, zero, suc, ◌+◌, ◌-◌, ◌<◌, ◌≤◌, List, [], ◌∷◌, ◌++◌, length, map, take, drop, get_or, Some, slice_get, ◌≢◌, refl, ap, sym, subst, ◌∙◌, arith}
use Rattle.std.proofs.lemmas.List.{take_more, drop_more, map-append}
use Rattle.std.proofs.lemmas.Option.{slice_get_read, slice_get-map}
use Rattle.std.proofs.Math.ListN.{length-map}
use Rattle.hb_base.specs.declared.name_id.NameId.{NameId}
use Rattle.hb_term.specs.declared.term.Term.{Term}
use Rattle.hb_term.specs.Meaning.{tree}
use Rattle.hb_tree.specs.Tree.{Tree, sort, rel, pi, lam, app, const, proj, hole, nodes}
use Rattle.hb_calculus.specs.Declarations.{field_types, field_names, all_nodes}
use Rattle.hb_calculus.specs.Telescopes.{products, variables}
use Rattle.hb_env.specs.Plain.{plain_field}

pub field_types_map : (fs : List (NameId × Term)) → field_types (map plain_field fs) ≡ map (λ f. tree f.1) fs
field_types_map [] = refl
field_types_map (f ∷ fs) = λ i. tree f.1 ∷ field_types_map fs i

pub field_names_map : (fs : List (NameId × Term)) → field_names (map plain_field fs) ≡ map (λ f. f.0.0) fs
field_names_map [] = refl
field_names_map (f ∷ fs) = λ i. f.0.0 ∷ field_names_map fs i

pub length_field_names : (fs : List (NameId × Term)) → length (field_names (map plain_field fs)) ≡ length fs
length_field_names fs = ap length (field_names_map fs) ∙ length-map fs (λ f. f.0.0)

-- field i - 2 has name i of a record
pub field_name_at : (n m : ℕ) (fs : List (NameId × Term)) (i : ℕ) (f : NameId × Term) → i ≢ 0 → i ≢ 1 → i - 2 < length fs → f ≡ get_or fs (i - 2) f → slice_get (n ∷ m ∷ field_names (map plain_field fs)) i ≡ Some f.0.0
field_name_at n m fs zero f a b h e = absurd (a refl)
field_name_at n m fs (suc zero) f a b h e = absurd (b refl)
field_name_at n m fs (suc (suc i)) f a b h e =
    let q : suc (suc i) - 2 ≡ i = omega arith in
    let g : slice_get fs i ≡ Some f = slice_get_read fs (length fs) i f refl (omega arith) (subst (λ (j : ℕ). f ≡ get_or fs j f) q e) in
    rw (field_names_map fs, slice_get-map (λ (x : NameId × Term). x.0.0) fs i, g) refl

pub all_nodes_append : (xs ys : List Tree) → all_nodes (xs ++ ys) ≡ all_nodes xs + all_nodes ys
all_nodes_append [] ys = omega arith
all_nodes_append (x ∷ xs) ys = omega (arith, all_nodes_append xs ys)

pub all_nodes_more : {X : Type 0} (f : X → Tree) (xs : List X) (i : ℕ) (x : X) → i < length xs → x ≡ get_or xs i x → all_nodes (map f (take (i + 1) xs)) ≡ all_nodes (map f (take i xs)) + nodes (f x)
all_nodes_more f xs i x h e =
    let p : all_nodes (map f (take (i + 1) xs)) ≡ all_nodes (map f (take i xs ++ x ∷ [])) = ap (λ l. all_nodes (map f l)) (take_more xs i x h ∙ ap (λ y. take i xs ++ y ∷ []) (sym e)) in
    let q : all_nodes (map f (take i xs ++ x ∷ [])) ≡ all_nodes (map f (take i xs) ++ f x ∷ []) = ap all_nodes (map-append f (take i xs) (x ∷ [])) in
    omega (arith, p, q, all_nodes_append (map f (take i xs)) (f x ∷ []))

pub products_more : {X : Type 0} (f : X → Tree) (xs : List X) (i : ℕ) (x : X) (b : Tree) → i < length xs → x ≡ get_or xs i x → products (map f (drop i xs)) b ≡ pi (f x) (products (map f (drop (i + 1) xs)) b)
products_more f xs i x b h e = ap (λ l. products (map f l) b) (drop_more xs i x h ∙ ap (λ y. y ∷ drop (i + 1) xs) (sym e))

pub variables_more : (n m : ℕ) → 0 < n → variables n m ≡ rel (n - 1 + m) ∷ variables (n - 1) m
variables_more zero m h = absurd (omega arith)
variables_more (suc n) m h = let e : suc n - 1 ≡ n = omega arith in rw e

one_node : (t : Tree) → 1 ≤ nodes t
one_node (sort s) = omega arith
one_node (rel v) = omega arith
one_node (pi a b) = omega arith
one_node (lam a b) = omega arith
one_node (app f a) = omega arith
one_node (const c) = omega arith
one_node (proj r i t) = omega arith
one_node (hole h) = omega arith

-- each term has a node
pub long_nodes : (ts : List Tree) → length ts ≤ all_nodes ts
long_nodes [] = omega arith
long_nodes (t ∷ ts) = omega (arith, long_nodes ts, one_node t)

pub products_append : (xs ys : List Tree) (b : Tree) → products (xs ++ ys) b ≡ products xs (products ys b)
products_append [] ys b = refl
products_append (x ∷ xs) ys b = λ i. pi x (products_append xs ys b i)

pub length_field_types : (fs : List (NameId × Term)) → length (field_types (map plain_field fs)) ≡ length fs
length_field_types fs = ap length (field_types_map fs) ∙ length-map fs (λ f. tree f.1)
