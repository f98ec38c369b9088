-- Needs and terms, one more at a time.
use Rattle.std.proofs.Common.{◌≡◌, ℕ, ◌+◌, false, cond, ◌&&◌, List, [], ◌∷◌, length, map, Option, None, Some, refl, sym, ap}
use Rattle.std.specs.Prelude.{is_none, unwrap_or, option_map}
use Rattle.std.proofs.lemmas.Option.{none-some}
use Rattle.std.proofs.lemmas.List.{length-append, length-map}
use Rattle.std.proofs.Math.Numerals.{suc-eq-add-one}
use Rattle.hb_sets.specs.Set.{Set, contains}
use Rattle.hb_order.specs.Givings.{Giving, width}
use Rattle.hb_order.specs.Needs.{IsNeed}
use Rattle.hb_givings.specs.Givings.{binder_count}
use Rattle.hb_tree.specs.Tree.{Tree}
use Rattle.hb_tree.specs.declared.leaves.ConstId.{ConstId}
use Rattle.hb_keys.specs.Setting.{Setting}
use Rattle.hb_keys.specs.Keys.{all_terms, has_terms, with_value, term_in}
use Rattle.hb_keys.specs.Walks.{NeedsAre, TakesNot, try_not, try_has, try_lacks, try_stops, all_plain, all_stop, all_lack, all_found, AreNeeds, no_need, need_after, Tries, try_memory, TriesAll, all_memory, all_end, Walks, walk_memory, walk_large, walk_found, look_stops, looks_stop, stops, no_memory, all_have, has}
use Rattle.hb_keys.specs.Keys as keys
use Rattle.hb_keys.specs.Keys.{mixins_of}
use Rattle.hb_keys.specs.Walks as walks
use Rattle.hb_found.specs.Plain as plain
use Rattle.hb_found.specs.declared.key.Key as code
use Rattle.hb_tree.specs.Tree.{args_of}
use Rattle.hb_term.specs.Meaning.{tree}
use Rattle.hb_term.specs.declared.term.Term.{Term}
use Rattle.hb_found.specs.Plain.{numbers}

pub width_is : (gs : List Giving) (w : ℕ) → binder_count gs ≡ Some w → width gs ≡ w
width_is [] w h = absurd (none-some w h)
width_is (g ∷ gs) w h = ap (λ o. unwrap_or o w) h

pub none_needed : (h : List Set) (gs : List Giving) (X : Set) (i : ℕ) → binder_count gs ≡ None → IsNeed h gs X i None
none_needed h [] X i e = λ m t n a. none-some t a
none_needed h (g ∷ gs) X i e = λ m t n a. none-some _ (sym e)

pub all_more : (f : ℕ → Option Tree) (X : Set) (n : ℕ) → all_terms f X (n + 1) ≡ cond (contains X n) (with_value (all_terms f X n) (f n)) (all_terms f X n)
all_more f X n = ap (all_terms f X) (sym (suc-eq-add-one n))

pub has_more : (given : List (ℕ × Tree)) (X : Set) (n : ℕ) → has_terms given X (n + 1) ≡ cond (contains X n && is_none (term_in given n)) false (has_terms given X n)
has_more given X n = ap (has_terms given X) (sym (suc-eq-add-one n))

pub are_as_many : {S : Setting} {k : ConstId} {X : Set} {n : ℕ} {us : List (Option ℕ)} → AreNeeds S k X n us → length us ≡ n
are_as_many no_need = refl
are_as_many (need_after {n = n} {us = us} o h i e f) = rw (e, f, length-append) (ap (λ l. l + 1) (are_as_many h))

pub no_walk : {S : Setting} {n m : ℕ} {X : Set} {a t : Tree} → Walks S n X m a t (stops no_memory)
no_walk = walk_memory

-- the look at a term
pub key_some : (o : Option code.Key) (k : code.Key) (p : Option keys.Key) → o ≡ Some k → option_map plain.key o ≡ p → p ≡ Some (plain.key k)
key_some o k p e f = rw e at (sym f)

pub key_none : (o : Option code.Key) (p : Option keys.Key) → o ≡ None → option_map plain.key o ≡ p → p ≡ None
key_none o p e f = rw e at (sym f)

pub try_not_at :
    (S : Setting) (n m : ℕ) (X : Set) (t : Tree) (k : ConstId) (ts : List Term) (l : ℕ) → keys.plain_key S n X t ≡ None → keys.head_constant t ≡ Some k
    → map tree ts ≡ args_of t → l ≡ length ts → TakesNot S k X l → Tries S n X m t (walks.lacks m)
try_not_at S n m X t k ts l p h a e d = try_not p h (rw (← a, length-map, ← e) d)
