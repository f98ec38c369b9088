-- From each state that the reader comes to there is a way on to the end of a sentence.
use Rattle.std.proofs.Common.{◌≡◌, ℕ, ◌+◌, Bool, false, cond, List, [], ◌∷◌, length, Some, refl, ap, ◌∙◌}
use Rattle.hb_base.specs.declared.span.Span.{Span}
use Rattle.hb_raw.specs.declared.word.Word.{Word}
use Rattle.hb_raw.specs.declared.word.Item.{Item}
use Rattle.hb_raw.specs.Preterm.{Preterm, Group}
use Rattle.hb_raw.specs.Sentence.{Act, Sentence}
use Rattle.hb_grammar.specs.declared.mark.Mark.{Mark}
use Rattle.hb_grammar.specs.declared.mark.Mark.TheVariants.{Ident, Pair, Universe, Hole, Number, Close, Brace, Unbrace, Colon, Becomes, Gives, Comma, End}
use Rattle.hb_grammar.specs.declared.mark.Second.TheVariants as second
use Rattle.hb_grammar.specs.Leaf.{Sign, Leaf, leaf}
use Rattle.hb_grammar.specs.Part.{Part, hole_part}
use Rattle.hb_grammar.specs.Grammar.{Bounds}
use Rattle.hb_grammar.specs.Machine.{code, same, Before, first, behind, alone, making, count, RecordOf, InstanceOf, Stack, body, Binding, of_product, of_function, of_definition, Listing, of_record, of_structure, Placing, of_factory, of_builder, State, begin, done, take, either, want, have, more, bare_begun, universe_at, projecting, binders, bares, groups, group_opened, group_names, items, fields, conditioned, condition_names, placing, place_names, depth, binding_depth, closing, finishes, placed, placing_argument, closed, bare_groups, taken, step, read}
use Rattle.hb_grammar.proofs.Holds.{Ahead, Opened, o_right, o_inside, o_casting, o_lone, o_group, o_product, o_function, o_axiom, o_definition_type, o_definition, o_field, o_instance, o_build, o_found, Binds, bi_product, bi_function, bi_definition, Held, he_begin, he_done, he_want, he_have, he_more, he_bare, he_universe_at, he_projecting, he_binders, he_bares, he_groups, he_group_opened, he_group_names, he_items, he_fields, he_conditioned, he_condition_names, he_placing, he_place_names, Holds}
use Rattle.std.proofs.lemmas.Bool.{eq-eqb}
use Rattle.hb_grammar.proofs.Holds.{IsProducing}
use Rattle.hb_grammar.proofs.Leads.{Leads, stay, move, Ready, r_have, r_right, r_product, r_function, IsCloser, close_step}

pub record Ends (s : State) : Type 0 where
  pub leaves : List Leaf
  pub sentence_of : Sentence
  pub leads : Leads s leaves (done sentence_of) []

-- any token will do
any : Sign
any = record { whole = record { 0 = 0 }; first = record { 0 = 0 }; value = 0; place = record { file = 0; from = 0; to = 0 } }

by : {s t : State} (m : Mark) (d n : ℕ) → step s m any ≡ Some t → read s m any ≡ leaf m any d n → Ends t → Ends s
by m d n e f h = record { leaves = leaf m any d n ∷ h.leaves; sentence_of = h.sentence_of; leads = move e f h.leads }

finished : {c : Sentence} → Ends (done c)
finished {c = c} = record { leaves = []; sentence_of = c; leads = stay }

sentence_ends : (x : Span) (a : Act) → Ends (finishes x a)
sentence_ends x a = by End 0 0 refl refl finished

-- a term may be closed
close : {k : Stack} {p : Part} {s t : State} (m : Mark) → IsCloser m → Ready k p s → closed k m p any ≡ Some t → Ends t → Ends s
close {k = k} m c r e h = let q = close_step r m any c in by m (closing k) 0 (q.steps ∙ e) q.reads h

hole : {k : Stack} → ((p : Part) (s : State) → Ready k p s → Ends s) → Ends (want first k)
hole {k = k} h = by Hole (depth k) 0 refl refl (h _ (have first (hole_part any.place) false k) (r_have {b = first} {a = hole_part any.place}))

pub record BindEnds (b : Binding) : Type 0 where
  pub bodies : (gs : List Group) (n : ℕ) → IsProducing b → Ends (want first (body b gs n))
  pub lists : (gs : List Group) (n : ℕ) → Ends (groups b gs n)

product_ends : (x : Span) (k : Stack) → ((gs : List Group) (n : ℕ) → Ends (want first (body (of_product x k) gs n))) → BindEnds (of_product x k)
product_ends x k h = record { bodies = λ gs n q. h gs n; lists = λ gs n. by Comma (depth k) 0 refl refl (h gs n) }

function_ends : (x : Span) (k : Stack) → ((gs : List Group) (n : ℕ) → Ends (want first (body (of_function x k) gs n))) → BindEnds (of_function x k)
function_ends x k h = record { bodies = λ gs n q. h gs n; lists = λ gs n. by Gives (depth k) 0 refl refl (h gs n) }

definition_ends : (x : Span) (n : Word) → BindEnds (of_definition x n)
definition_ends x n = record {
  bodies = λ gs c q. absurd q;
  lists = λ gs c. by Becomes 0 0 refl refl (hole (λ q t v. close End tt v refl finished));
}

mutual
  pub stack_ends : {all vs : List Leaf} {k : Stack} → Opened all k vs → (p : Part) (s : State) → Ready k p s → Ends s
  stack_ends (o_right o pl h) p s r = stack_ends o _ s (r_right r)
  stack_ends (o_inside {b = b} {k = k} o a) p s r =
      close Close tt r refl (stack_ends o _ _ (r_have {b = b} {e = false} {k = k}))
  stack_ends (o_casting {b = b} {k = k} o a h) p s r =
      close Close tt r refl (stack_ends o _ _ (r_have {b = b} {e = false} {k = k}))
  stack_ends (o_lone {b = of_product x k} o q h) p s r = close Comma tt r refl ((bound_ends o).bodies _ _ tt)
  stack_ends (o_lone {b = of_function x k} o q h) p s r = close Gives tt r refl ((bound_ends o).bodies _ _ tt)
  stack_ends (o_lone {b = of_definition x n} o q h) p s r = absurd q
  stack_ends (o_group o g h) p s r = close Close tt r refl ((bound_ends o).lists _ _)
  stack_ends (o_product (bi_product o pl) h) p s r = stack_ends o _ s (r_product r)
  stack_ends (o_function (bi_function o pl) h) p s r = stack_ends o _ s (r_function r)
  stack_ends o_axiom p s r = close End tt r refl finished
  stack_ends (o_definition_type h) p s r = close Becomes tt r refl (hole (λ q t v. close End tt v refl finished))
  stack_ends (o_definition h i) p s r = close End tt r refl finished
  stack_ends (o_field {r = f} h i) p s r = close Unbrace tt r refl (sentence_ends _ _)
  stack_ends (o_instance h a) p s r = close End tt r refl finished
  stack_ends (o_build h) p s r = close End tt r refl finished
  stack_ends o_found p s r = close End tt r refl finished

  pub bound_ends : {all us : List Leaf} {b : Binding} → Binds all b us → BindEnds b
  bound_ends (bi_product {x = x} {k = k} o pl) = product_ends x.place k (λ gs n. hole (λ p s r. stack_ends o _ s (r_product r)))
  bound_ends (bi_function {x = x} {k = k} o pl) = function_ends x.place k (λ gs n. hole (λ p s r. stack_ends o _ s (r_function r)))
  bound_ends bi_definition = definition_ends _ _

bares_ends : {xs : Bounds} (b : Binding) → BindEnds b → Ends (bares b xs)
bares_ends {xs = xs} (of_product x k) h = by Comma (depth k) 0 refl refl (h.bodies (bare_groups xs) (length xs) tt)
bares_ends {xs = xs} (of_function x k) h = by Gives (depth k) 0 refl refl (h.bodies (bare_groups xs) (length xs) tt)
bares_ends (of_definition x n) h = by Becomes 0 0 refl refl (hole (λ q t v. close End tt v refl finished))

opened_ends : {all us : List Leaf} {b : Binding} {gs : List Group} {n : ℕ} → Binds all b us → Ends (group_opened b gs n)
opened_ends {b = b} {gs = gs} {n = n} o =
    by Hole (binding_depth b + 1) 0 refl refl (by Colon (binding_depth b + 1) 0 refl refl
    (hole (λ p s r. close Close tt r refl ((bound_ends o).lists _ _))))

-- a term, or an argument, has to come
want_ends : {all vs us : List Leaf} {k : Stack} {e : Bool} (b : Before) → Opened all k vs → Ahead k b e vs us → Ends (want b k)
want_ends {k = k} first o h = hole (stack_ends o)
want_ends {k = k} (behind s) o h = by Hole (depth k) (count (behind s)) refl refl (stack_ends o _ _ (r_have {b = behind s} {e = false} {k = k}))
want_ends {k = k} alone o h = by Hole (depth k) 0 refl refl (stack_ends o _ _ (r_have {b = alone} {e = false} {k = k}))
want_ends {k = k} (making s) o h = by Hole (depth k) (count (making s)) refl refl (stack_ends o _ _ (r_have {b = making s} {e = false} {k = k}))

have_ends : {all vs : List Leaf} {k : Stack} (b : Before) (a : Part) (e : Bool) → Opened all k vs → Ends (have b a e k)
have_ends {k = k} b a e o = stack_ends o _ _ (r_have {b = b} {a = a} {e = e} {k = k})

instance_ends : (i : InstanceOf) → Ends (conditioned i)
instance_ends i = by Becomes 0 0 refl refl (by (Pair second.Build) 0 0 refl refl (by Ident 0 1 refl refl (by End 0 0 refl refl finished)))

placed_ends : (p : Placing) (k : Word) (ws : List Word) (s : Span) → Ends (placed p k ws s)
placed_ends (of_factory i f) k ws s = by Becomes 0 0 refl refl (hole (λ q t v. close End tt v refl finished))
placed_ends (of_builder i f b) k ws s = by End 0 0 refl refl finished

record_of : (r : RecordOf) (fs : List (Word × Preterm)) → Ends (fields r fs)
record_of r fs = by Unbrace 0 0 refl refl (sentence_ends _ _)

items_end : (l : Listing) (is : List Item) → Ends (items l is)
items_end (of_record b x n c) is = by Becomes 0 0 refl refl (by Brace 0 0 refl refl (record_of _ _))
items_end (of_structure x n c) is = by Unbrace 0 0 refl refl (sentence_ends _ _)

-- a state that is no row of tokens
held_ends : {all us : List Leaf} {s : State} → Held all s us → Ends s
held_ends he_begin = by (Pair second.End) 0 0 refl refl (by End 0 0 refl refl finished)
held_ends (he_done h) = finished
held_ends (he_want {b = b} o h) = want_ends b o h
held_ends (he_have {b = b} {a = a} {e = e} o h i) = have_ends b a e o
held_ends (he_more o h) = by End 0 0 refl refl finished
held_ends (he_bare {b = b} {x = x} {k = k} o h) = by Ident (depth k) 0 refl refl (have_ends b _ false o)
held_ends (he_universe_at {b = b} {a = a} {x = x} {k = k} o h i) =
    by Brace (depth k) 0 refl refl (by Number (depth k) 0 refl refl (by Unbrace (depth k) 0 refl refl (have_ends b _ false o)))
held_ends (he_projecting {b = b} {k = k} o h i) = by Ident (depth k) 0 refl refl (by Close (depth k) 0 refl refl (have_ends b _ false o))
held_ends (he_binders {b = b} o) = by Hole (binding_depth b) 0 refl refl (bares_ends b (bound_ends o))
held_ends (he_bares {b = b} o h) = bares_ends b (bound_ends o)
held_ends (he_groups o h) = (bound_ends o).lists _ _
held_ends (he_group_opened o h) = opened_ends o
held_ends (he_group_names {b = b} o l h) =
    by Colon (binding_depth b + 1) 0 refl refl (hole (λ p s r. close Close tt r refl ((bound_ends o).lists _ _)))
held_ends (he_items {l = l} {is = is} h i) = items_end l is
held_ends (he_fields {r = r} {fs = fs} h i) = record_of r fs
held_ends (he_conditioned {i = i} h) = instance_ends i
held_ends (he_condition_names h n) = by Colon 1 0 refl refl (by Universe 1 0 refl refl (by Close 1 0 refl refl (instance_ends _)))
held_ends (he_placing {p = p} h) = by Ident 0 (placing_argument p) refl refl (placed_ends p _ _ _)
held_ends (he_place_names {p = p} h a) = by Close 1 0 refl refl (placed_ends p _ _ _)

-- each state
pub ends : (s : State) (all : List Leaf → List Leaf) → ((us : List Leaf) → Holds (all us) s us) → Ends s
ends (take d m f) all h = by m d 0 (ap (λ t. taken t (f any)) (eq-eqb (code m) (code m) refl)) refl (ends (f any) (λ us. all (leaf m any d 0 ∷ us)) (λ us. h (leaf m any d 0 ∷ us) any us refl))
ends (either d m f e n g) all h =
    let t = eq-eqb (code m) (code m) refl in
    by m d 0 (ap (λ t. cond t (Some (f any)) (taken (same n m) (g any))) t) (ap (λ t. leaf m any (cond t d e) 0) t)
    (ends (f any) (λ us. all (leaf m any d 0 ∷ us)) (λ us. (h (leaf m any d 0 ∷ us)).0 any us refl))
ends begin all h = held_ends (h [])
ends (done c) all h = held_ends (h [])
ends (want b k) all h = held_ends (h [])
ends (have b a e k) all h = held_ends (h [])
ends (more b k) all h = held_ends (h [])
ends (bare_begun b x k) all h = held_ends (h [])
ends (universe_at b a x k) all h = held_ends (h [])
ends (projecting b a k) all h = held_ends (h [])
ends (binders b) all h = held_ends (h [])
ends (bares b xs) all h = held_ends (h [])
ends (groups b gs n) all h = held_ends (h [])
ends (group_opened b gs n) all h = held_ends (h [])
ends (group_names b gs n xs) all h = held_ends (h [])
ends (items l is) all h = held_ends (h [])
ends (fields r fs) all h = held_ends (h [])
ends (conditioned i) all h = held_ends (h [])
ends (condition_names i ws) all h = held_ends (h [])
ends (placing p) all h = held_ends (h [])
ends (place_names p x k ws) all h = held_ends (h [])
