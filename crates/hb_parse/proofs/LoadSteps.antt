-- Each step of the reader holds what it held, and what it needs of the token.
use Rattle.std.proofs.Common.{◌≡◌, ℕ, ◌+◌, ◌*◌, ◌<◌, ◌≤◌, zero, suc, inl, inr, ap, ◌∙◌, Bool, true, false, cond, List, [], ◌∷◌, ◌++◌, length, Some, None, refl, subst, arith, length-append}
use Rattle.std.specs.List.{sum_by}
use Rattle.std.proofs.lemmas.Bool.{cases_lt}
use Rattle.std.proofs.lemmas.List.Sums.{sum_by-append}
use Rattle.hb_base.specs.declared.span.Span.{Span}
use Rattle.hb_raw.specs.declared.word.Word.{Word}
use Rattle.hb_raw.specs.declared.word.Item.{Item}
use Rattle.hb_raw.specs.Preterm.{Preterm, Group, untyped, typed}
use Rattle.hb_grammar.specs.declared.mark.Mark.{Mark}
use Rattle.hb_grammar.specs.declared.mark.Mark.TheVariants.{Ident, Pair, Axiom, Definition, Require, Prop, Universe, Forall, Fun, Hole, Open, Close, Brace, Unbrace, Colon, Becomes, Gives, Arrow, Comma, Semicolon, Ampersand, At, Project, End}
use Rattle.hb_grammar.specs.declared.mark.Second.{Second}
use Rattle.hb_grammar.specs.declared.mark.Second.TheVariants as second
use Rattle.hb_grammar.specs.Leaf.{Sign, word, first_word, bound}
use Rattle.hb_grammar.specs.Part.{Part, joined, arrow_part, product_part, function_part}
use Rattle.hb_grammar.specs.Grammar.{Bounds, spine_part, item, conditions, record_act}
use Rattle.hb_grammar.specs.Machine.{Before, first, behind, alone, making, filled, next, RecordOf, InstanceOf, Stack, right, inside, casting, lone, group_type, body, axiom_type, definition_type, definition_body, field_type, instance_value, build_value, carrier_found, Binding, of_product, of_function, of_definition, Listing, of_record, of_structure, Placing, of_factory, of_builder, State, begin, done, take, either, want, have, more, bare_begun, universe_at, projecting, binders, bares, groups, group_opened, group_names, items, fields, conditioned, condition_names, placing, place_names, bare_groups, carrier_begins, record_carried, builders_carried, record_ends, with_condition, placed, words_begin, begins, argument, term_begins, closed, arrowed, applied_or_closed, after_argument, after_carrier, bare_named, after_universe_at, projection_named, first_binder, bound_to, after_bares, after_groups, after_group_open, after_group_names, after_items, after_fields, after_conditions, after_condition_names, after_placing, after_place_names, taken, same, step}
use Rattle.hb_grammar.proofs.Marks.{same_mark}
use Rattle.hb_reader.specs.Needs.{row_need, name_need, need}
use Rattle.hb_parse.specs.Uses.{act_uses, name_uses, bound_uses, group_uses, word_uses, item_uses, field_uses, binder_uses}
use Rattle.hb_parse.proofs.Loads.{Alike, moved, alike, words_load, part_load, before_load, record_load, instance_load, stack_load, binding_load, HaveLoad, listing_load, placing_load, weight, Load, Loads, push_load, groups_load, spine_part_load, filled_load, next_load, bares_load, conditions_load, carrier_load}

module _ (i : ℕ) where
  -- nothing more is held
  same_load : {a n b m : ℕ} → Alike a n → b ≡ a → m ≡ n → Alike b m
  same_load h e f = alike h 0 (omega (arith, e)) (omega (arith, f))

  argument_loads : (b : Before) (k : Stack) (m : Mark) (w : Sign) (n : ℕ) → Alike (before_load i b + stack_load i k) n
      → Loads i (argument b k m w) (n + weight i (name_need m) w)
  argument_loads b k Ident w n h = alike h (name_uses i w.whole) (omega arith) (omega arith)
  argument_loads b k (Pair s) w n h = alike h (name_uses i w.whole) (omega arith) (omega arith)
  argument_loads b k At w n h = same_load h (omega arith) (omega arith)
  argument_loads b k Hole w n h = same_load h (omega arith) (omega arith)
  argument_loads b k Prop w n h = same_load h (omega arith) (omega arith)
  argument_loads b k Universe w n h = (refl, same_load h (omega arith) (omega arith))
  argument_loads b k Open w n h = same_load h (omega arith) (omega arith)
  argument_loads b k _ w n h = tt

  term_loads : (b : Before) (k : Stack) (m : Mark) (w : Sign) (n : ℕ) → Alike (before_load i b + stack_load i k) n
      → Loads i (term_begins b k m w) (n + weight i (name_need m) w)
  term_loads first k Forall w n h = same_load h (omega arith) (omega arith)
  term_loads first k Fun w n h = same_load h (omega arith) (omega arith)
  term_loads first k m w n h = argument_loads first k m w n h
  term_loads (behind s) k m w n h = argument_loads (behind s) k m w n h
  term_loads alone k m w n h = argument_loads alone k m w n h
  term_loads (making s) k m w n h = argument_loads (making s) k m w n h

  -- the end of a record
  record_ends_loads : (r : RecordOf) (fs : List (Word × Preterm)) (n : ℕ) → Alike (record_load i r + sum_by (field_uses i) fs) n → Load i (record_ends r fs) n
  record_ends_loads r fs n h = λ w. kind r.kind r fs n h
    where
      kind : (b : Bool) (r : RecordOf) (fs : List (Word × Preterm)) (n : ℕ) → Alike (record_load i r + sum_by (field_uses i) fs) n
          → Alike (act_uses i (record_act b r.name r.carrier r.items fs)) (n + 0)
      kind true r fs n h = same_load h (omega arith) (omega arith)
      kind false r fs n h = same_load h (omega arith) (omega arith)

  -- what closes a term needs nothing
  pub closed_loads : (k : Stack) (m : Mark) (p : Part) (z : Sign) (n : ℕ) → Alike (part_load i p + stack_load i k) n → Loads i (closed k m p z) n
  closed_loads (right a k) m p z n h = closed_loads k m (arrow_part a p) z n (same_load h (omega arith) refl)
  closed_loads (body (of_product x k) gs c) m p z n h = closed_loads k m (product_part x gs p) z n (same_load h (omega (arith, groups_load i gs)) refl)
  closed_loads (body (of_function x k) gs c) m p z n h = closed_loads k m (function_part x gs p) z n (same_load h (omega (arith, groups_load i gs)) refl)
  closed_loads (body (of_definition x c) gs d) m p z n h = tt
  closed_loads (lone (of_product x k) xs) Comma p z n h = same_load h (omega arith) refl
  closed_loads (lone (of_function x k) xs) Gives p z n h = same_load h (omega arith) refl
  closed_loads (lone b xs) _ p z n h = tt
  closed_loads (inside b x k) Close p z n h = same_load h (omega arith) refl
  closed_loads (inside b x k) Colon p z n h = same_load h (omega arith) refl
  closed_loads (inside b x k) _ p z n h = tt
  closed_loads (casting b x t k) Close p z n h = same_load h (omega arith) refl
  closed_loads (casting b x t k) _ p z n h = tt
  closed_loads (group_type b gs c xs) Close p z n h = same_load h (omega (arith, push_load i (group_uses i) gs (typed xs p.term))) refl
  closed_loads (group_type b gs c xs) _ p z n h = tt
  closed_loads (axiom_type x c) End p z n h = same_load h (omega arith) refl
  closed_loads (axiom_type x c) _ p z n h = tt
  closed_loads (definition_type x c gs d) Becomes p z n h = same_load h (omega arith) refl
  closed_loads (definition_type x c gs d) _ p z n h = tt
  closed_loads (definition_body x c gs d t) End p z n h = same_load h (omega (arith, groups_load i gs)) refl
  closed_loads (definition_body x c gs d t) _ p z n h = tt
  closed_loads (field_type r fs f) Semicolon p z n h = same_load h (omega (arith, push_load i (field_uses i) fs (f, p.term))) refl
  closed_loads (field_type r fs f) Unbrace p z n h = record_ends_loads r (fs ++ ((f, p.term) ∷ [])) n (same_load h (omega (arith, push_load i (field_uses i) fs (f, p.term))) refl)
  closed_loads (field_type r fs f) _ p z n h = tt
  closed_loads (instance_value j f k ws) End p z n h = same_load h (omega arith) refl
  closed_loads (instance_value j f k ws) _ p z n h = tt
  closed_loads (build_value j f k ws) End p z n h = same_load h (omega arith) refl
  closed_loads (build_value j f k ws) _ p z n h = tt
  closed_loads (carrier_found x s) End p z n h = same_load h (omega arith) refl
  closed_loads (carrier_found x s) _ p z n h = tt

  arrowed_loads : (b : Before) (a : Part) (k : Stack) (n : ℕ) → Alike (before_load i b + part_load i a + stack_load i k) n → Loads i (arrowed b a k) n
  arrowed_loads first a k n h = same_load h (omega (arith, spine_part_load i (filled first a), filled_load i first a)) refl
  arrowed_loads (behind s) a k n h = same_load h (omega (arith, spine_part_load i (filled (behind s) a), filled_load i (behind s) a)) refl
  arrowed_loads alone a k n h = tt
  arrowed_loads (making s) a k n h = tt

  applied_loads : (b : Before) (a : Part) (k : Stack) (m : Mark) (w : Sign) (n : ℕ) → Alike (before_load i b + part_load i a + stack_load i k) n
      → Loads i (applied_or_closed b a k m w) (n + weight i (name_need m) w)
  applied_loads alone a k Ident w n h = tt
  applied_loads alone a k (Pair t) w n h = tt
  applied_loads alone a k At w n h = tt
  applied_loads alone a k Hole w n h = tt
  applied_loads alone a k Prop w n h = tt
  applied_loads alone a k Universe w n h = tt
  applied_loads alone a k Open w n h = tt
  applied_loads alone a k m w n h =
      closed_loads k m (spine_part (filled alone a)) w (n + weight i (name_need m) w) (same_load h (omega (arith, spine_part_load i (filled alone a), filled_load i alone a)) (omega arith))
  applied_loads first a k Ident w n h = argument_loads (next first a) k Ident w n (same_load h (omega (arith, next_load i first a)) refl)
  applied_loads first a k (Pair t) w n h = argument_loads (next first a) k (Pair t) w n (same_load h (omega (arith, next_load i first a)) refl)
  applied_loads first a k At w n h = argument_loads (next first a) k At w n (same_load h (omega (arith, next_load i first a)) refl)
  applied_loads first a k Hole w n h = argument_loads (next first a) k Hole w n (same_load h (omega (arith, next_load i first a)) refl)
  applied_loads first a k Prop w n h = argument_loads (next first a) k Prop w n (same_load h (omega (arith, next_load i first a)) refl)
  applied_loads first a k Universe w n h = argument_loads (next first a) k Universe w n (same_load h (omega (arith, next_load i first a)) refl)
  applied_loads first a k Open w n h = argument_loads (next first a) k Open w n (same_load h (omega (arith, next_load i first a)) refl)
  applied_loads first a k m w n h =
      closed_loads k m (spine_part (filled first a)) w (n + weight i (name_need m) w) (same_load h (omega (arith, spine_part_load i (filled first a), filled_load i first a)) (omega arith))
  applied_loads (behind s) a k Ident w n h = argument_loads (next (behind s) a) k Ident w n (same_load h (omega (arith, next_load i (behind s) a)) refl)
  applied_loads (behind s) a k (Pair t) w n h = argument_loads (next (behind s) a) k (Pair t) w n (same_load h (omega (arith, next_load i (behind s) a)) refl)
  applied_loads (behind s) a k At w n h = argument_loads (next (behind s) a) k At w n (same_load h (omega (arith, next_load i (behind s) a)) refl)
  applied_loads (behind s) a k Hole w n h = argument_loads (next (behind s) a) k Hole w n (same_load h (omega (arith, next_load i (behind s) a)) refl)
  applied_loads (behind s) a k Prop w n h = argument_loads (next (behind s) a) k Prop w n (same_load h (omega (arith, next_load i (behind s) a)) refl)
  applied_loads (behind s) a k Universe w n h = argument_loads (next (behind s) a) k Universe w n (same_load h (omega (arith, next_load i (behind s) a)) refl)
  applied_loads (behind s) a k Open w n h = argument_loads (next (behind s) a) k Open w n (same_load h (omega (arith, next_load i (behind s) a)) refl)
  applied_loads (behind s) a k m w n h =
      closed_loads k m (spine_part (filled (behind s) a)) w (n + weight i (name_need m) w) (same_load h (omega (arith, spine_part_load i (filled (behind s) a), filled_load i (behind s) a)) (omega arith))
  applied_loads (making s) a k Ident w n h = argument_loads (next (making s) a) k Ident w n (same_load h (omega (arith, next_load i (making s) a)) refl)
  applied_loads (making s) a k (Pair t) w n h = argument_loads (next (making s) a) k (Pair t) w n (same_load h (omega (arith, next_load i (making s) a)) refl)
  applied_loads (making s) a k At w n h = argument_loads (next (making s) a) k At w n (same_load h (omega (arith, next_load i (making s) a)) refl)
  applied_loads (making s) a k Hole w n h = argument_loads (next (making s) a) k Hole w n (same_load h (omega (arith, next_load i (making s) a)) refl)
  applied_loads (making s) a k Prop w n h = argument_loads (next (making s) a) k Prop w n (same_load h (omega (arith, next_load i (making s) a)) refl)
  applied_loads (making s) a k Universe w n h = argument_loads (next (making s) a) k Universe w n (same_load h (omega (arith, next_load i (making s) a)) refl)
  applied_loads (making s) a k Open w n h = argument_loads (next (making s) a) k Open w n (same_load h (omega (arith, next_load i (making s) a)) refl)
  applied_loads (making s) a k m w n h =
      closed_loads k m (spine_part (filled (making s) a)) w (n + weight i (name_need m) w) (same_load h (omega (arith, spine_part_load i (filled (making s) a), filled_load i (making s) a)) (omega arith))

  plain_loads : (b : Before) (a : Part) (k : Stack) (m : Mark) (w : Sign) (n : ℕ) → Alike (before_load i b + part_load i a + stack_load i k) n
      → Loads i (after_argument b a false k m w) (n + weight i (name_need m) w)
  plain_loads b a k Project w n h = same_load h refl (omega arith)
  plain_loads b a k Arrow w n h = arrowed_loads b a k (n + 0) (same_load h refl (omega arith))
  plain_loads b a k m w n h = applied_loads b a k m w n h

  after_loads : (b : Before) (a : Part) (e : Bool) (k : Stack) (m : Mark) (w : Sign) (n : ℕ) → HaveLoad i b a e k n
      → Loads i (after_argument b a e k m w) (n + weight i (name_need m) w)
  after_loads b a false k m w n h = plain_loads b a k m w n h
  after_loads b a true k Project w n h = same_load h.1 refl (omega arith)
  after_loads b a true k Arrow w n h = arrowed_loads b a k (n + 0) (same_load h.1 refl (omega arith))
  after_loads b a true k At w n h = (h.0, same_load h.1 refl (omega arith))
  after_loads b a true k m w n h = applied_loads b a k m w n h.1

  carrier_loads : (b : Before) (k : Stack) (m : Mark) (w : Sign) (n : ℕ) → Alike (before_load i b + stack_load i k) n
      → Loads i (after_carrier b k m w) (n + weight i (name_need m) w)
  carrier_loads (making s) k End w n h = closed_loads k End (spine_part s) w (n + 0) (same_load h (omega (arith, spine_part_load i s)) (omega arith))
  carrier_loads (making s) k m w n h = argument_loads (making s) k m w n h
  carrier_loads first k m w n h = tt
  carrier_loads (behind s) k m w n h = tt
  carrier_loads alone k m w n h = tt

  bare_loads : (b : Before) (x : Span) (k : Stack) (m : Mark) (w : Sign) (n : ℕ) → Alike (before_load i b + stack_load i k) n
      → Loads i (bare_named b x k m w) (n + weight i (name_need m) w)
  bare_loads b x k Ident w n h = alike h (name_uses i w.whole) (omega arith) (omega arith)
  bare_loads b x k (Pair s) w n h = alike h (name_uses i w.whole) (omega arith) (omega arith)
  bare_loads b x k _ w n h = tt

  universe_loads : (b : Before) (a : Part) (x : Span) (k : Stack) (m : Mark) (w : Sign) (n : ℕ)
      → (part_load i a ≡ 0) × Alike (before_load i b + part_load i a + stack_load i k) n
      → Loads i (after_universe_at b a x k m w) (n + weight i (name_need m) w)
  universe_loads b a x k Brace w n h = λ d z. same_load h.1 (omega (arith, h.0)) (omega arith)
  universe_loads alone a x k _ w n h = tt
  universe_loads first a x k m w n h = bare_loads (next first a) x k m w n (same_load h.1 (omega (arith, next_load i first a)) refl)
  universe_loads (behind s) a x k m w n h = bare_loads (next (behind s) a) x k m w n (same_load h.1 (omega (arith, next_load i (behind s) a)) refl)
  universe_loads (making s) a x k m w n h = bare_loads (next (making s) a) x k m w n (same_load h.1 (omega (arith, next_load i (making s) a)) refl)

  projection_loads : (b : Before) (a : Part) (k : Stack) (m : Mark) (w : Sign) (n : ℕ) → Alike (before_load i b + part_load i a + stack_load i k) n
      → Loads i (projection_named b a k m w) (n + weight i (name_need m) w)
  projection_loads b a k Ident w n h = λ z. alike h (name_uses i w.whole) (omega arith) (omega arith)
  projection_loads b a k (Pair s) w n h = λ z. alike h (name_uses i w.whole) (omega arith) (omega arith)
  projection_loads b a k _ w n h = tt

  first_loads : (b : Binding) (m : Mark) (w : Sign) (n : ℕ) → Alike (binding_load i b) n → Loads i (first_binder b m w) (n + weight i (name_need m) w)
  first_loads b Ident w n h = alike h (name_uses i w.whole) (omega arith) (omega arith)
  first_loads b Hole w n h = same_load h (omega arith) (omega arith)
  first_loads b Open w n h = same_load h (omega arith) (omega arith)
  first_loads b _ w n h = tt

  bound_to_loads : (b : Binding) (gs : List Group) (c : ℕ) (m : Mark) (n : ℕ) → Alike (binding_load i b + sum_by (group_uses i) gs) n → Loads i (bound_to b gs c m) n
  bound_to_loads (of_product x k) gs c Comma n h = same_load h (omega arith) refl
  bound_to_loads (of_product x k) gs c _ n h = tt
  bound_to_loads (of_function x k) gs c Gives n h = same_load h (omega arith) refl
  bound_to_loads (of_function x k) gs c _ n h = tt
  bound_to_loads (of_definition x d) gs c Colon n h = same_load h (omega arith) refl
  bound_to_loads (of_definition x d) gs c Becomes n h = same_load h (omega arith) refl
  bound_to_loads (of_definition x d) gs c _ n h = tt

  unbound : (b : Binding) (gs : List Group) (c : ℕ) (s : Second) (n : ℕ) → Loads i (bound_to b gs c (Pair s)) n
  unbound (of_product x k) gs c s n = tt
  unbound (of_function x k) gs c s n = tt
  unbound (of_definition x d) gs c s n = tt

  bares_loads : (b : Binding) (xs : Bounds) (m : Mark) (w : Sign) (n : ℕ) → Alike (binding_load i b + sum_by (bound_uses i) xs) n
      → Loads i (after_bares b xs m w) (n + weight i (name_need m) w)
  bares_loads (of_product x k) xs Ident w n h = alike h (name_uses i w.whole) (omega (arith, push_load i (bound_uses i) xs (bound Ident w))) (omega arith)
  bares_loads (of_product x k) xs Hole w n h = same_load h (omega (arith, push_load i (bound_uses i) xs (bound Hole w))) (omega arith)
  bares_loads (of_product x k) xs Open w n h = same_load h (omega (arith, bares_load i xs)) (omega arith)
  bares_loads (of_product x k) xs Colon w n h = same_load h (omega arith) (omega arith)
  bares_loads (of_product x k) xs (Pair s) w n h = tt
  bares_loads (of_product x k) xs m w n h = bound_to_loads (of_product x k) (bare_groups xs) (length xs) m (n + weight i (name_need m) w) (same_load h (omega (arith, bares_load i xs)) (omega arith))
  bares_loads (of_function x k) xs Ident w n h = alike h (name_uses i w.whole) (omega (arith, push_load i (bound_uses i) xs (bound Ident w))) (omega arith)
  bares_loads (of_function x k) xs Hole w n h = same_load h (omega (arith, push_load i (bound_uses i) xs (bound Hole w))) (omega arith)
  bares_loads (of_function x k) xs Open w n h = same_load h (omega (arith, bares_load i xs)) (omega arith)
  bares_loads (of_function x k) xs Colon w n h = same_load h (omega arith) (omega arith)
  bares_loads (of_function x k) xs (Pair s) w n h = tt
  bares_loads (of_function x k) xs m w n h = bound_to_loads (of_function x k) (bare_groups xs) (length xs) m (n + weight i (name_need m) w) (same_load h (omega (arith, bares_load i xs)) (omega arith))
  bares_loads (of_definition x d) xs Ident w n h = alike h (name_uses i w.whole) (omega (arith, push_load i (bound_uses i) xs (bound Ident w))) (omega arith)
  bares_loads (of_definition x d) xs Hole w n h = same_load h (omega (arith, push_load i (bound_uses i) xs (bound Hole w))) (omega arith)
  bares_loads (of_definition x d) xs Open w n h = same_load h (omega (arith, bares_load i xs)) (omega arith)
  bares_loads (of_definition x d) xs (Pair s) w n h = tt
  bares_loads (of_definition x d) xs m w n h = bound_to_loads (of_definition x d) (bare_groups xs) (length xs) m (n + weight i (name_need m) w) (same_load h (omega (arith, bares_load i xs)) (omega arith))

  after_groups_loads : (b : Binding) (gs : List Group) (c : ℕ) (m : Mark) (w : Sign) (n : ℕ) → Alike (binding_load i b + sum_by (group_uses i) gs) n
      → Loads i (after_groups b gs c m w) (n + weight i (name_need m) w)
  after_groups_loads b gs c Ident w n h = alike h (name_uses i w.whole) (omega (arith, push_load i (group_uses i) gs (untyped (bound Ident w ∷ [])))) (omega arith)
  after_groups_loads b gs c Hole w n h = same_load h (omega (arith, push_load i (group_uses i) gs (untyped (bound Hole w ∷ [])))) (omega arith)
  after_groups_loads b gs c Open w n h = same_load h refl (omega arith)
  after_groups_loads b gs c (Pair s) w n h = unbound b gs c s (n + name_uses i w.whole)
  after_groups_loads b gs c m w n h = bound_to_loads b gs c m (n + weight i (name_need m) w) (same_load h refl (omega arith))

  group_open_loads : (b : Binding) (gs : List Group) (c : ℕ) (m : Mark) (w : Sign) (n : ℕ) → Alike (binding_load i b + sum_by (group_uses i) gs) n
      → Loads i (after_group_open b gs c m w) (n + weight i (name_need m) w)
  group_open_loads b gs c Ident w n h = alike h (name_uses i w.whole) (omega arith) (omega arith)
  group_open_loads b gs c Hole w n h = same_load h (omega arith) (omega arith)
  group_open_loads b gs c _ w n h = tt

  group_names_loads : (b : Binding) (gs : List Group) (c : ℕ) (xs : Bounds) (m : Mark) (w : Sign) (n : ℕ)
      → Alike (binding_load i b + sum_by (group_uses i) gs + sum_by (bound_uses i) xs) n → Loads i (after_group_names b gs c xs m w) (n + weight i (name_need m) w)
  group_names_loads b gs c xs Ident w n h = alike h (name_uses i w.whole) (omega (arith, push_load i (bound_uses i) xs (bound Ident w))) (omega arith)
  group_names_loads b gs c xs Hole w n h = same_load h (omega (arith, push_load i (bound_uses i) xs (bound Hole w))) (omega arith)
  group_names_loads b gs c xs Colon w n h = same_load h (omega arith) (omega arith)
  group_names_loads b gs c xs _ w n h = tt

  -- rows of tokens
  item_more : (l : Listing) (is : List Item) (f e : Sign) (n : ℕ) → Alike (listing_load i l + sum_by (item_uses i) is) n
      → Load i (items l (is ++ (item f e ∷ []))) (n + name_uses i f.whole + name_uses i e.whole)
  item_more l is f e n h = alike h (name_uses i f.whole + name_uses i e.whole) (omega (arith, push_load i (item_uses i) is (item f e))) (omega arith)

  at_least : (l u : ℕ) → 0 < l → u ≤ l * u
  at_least zero u p = absurd (omega (arith, p))
  at_least (suc m) u p = omega arith

  some_use : (a l u : ℕ) → 0 < a + l * u → 0 < a + u
  some_use a l u p =
      elim (cases_lt 0 u) [
        | inl q ↦ omega (arith, q)
        | inr q ↦
            let z : u ≡ 0 = omega (arith, q) in
            let k : l * u ≡ 0 = ap (λ x. l * x) z ∙ zeros l in
            omega (arith, p, k)
      ]
    where
      zeros : (l : ℕ) → l * 0 ≡ 0
      zeros l = omega arith

  -- the structure stands in each condition, and there is one at least
  structured : (j : InstanceOf) (ws : List Word) (s : Sign) (n : ℕ) → 0 < length ws → Alike (instance_load i j + words_load i ws) n
      → Load i (with_condition j ws (Some (first_word s))) (n + 0 + name_uses i s.first + 0)
  structured j ws s n l h =
      let e = conditions_load i ws (Some (first_word s)) in
      let f = sum_by-append (binder_uses i) j.conditions (conditions ws (Some (first_word s))) in
      let u : ℕ = name_uses i s.first in
      let g = at_least (length ws) u l in
      moved u h (λ p. some_use (instance_load i j + words_load i ws) (length ws) u (omega (arith, p, e, f))) (λ p. omega (arith, p, e, f, g)) (omega arith)

  placed_loads : (p : Placing) (k : Word) (ws : List Word) (x : Span) (n : ℕ) → Alike (placing_load i p + word_uses i k + words_load i ws) n
      → Load i (placed p k ws x) n
  placed_loads (of_factory j f) k ws x n h = λ z. same_load h (omega arith) (omega arith)
  placed_loads (of_builder j f b) k ws x n h =
      let e = carrier_load i k ws in
      moved 0 h (λ p. omega (arith, p, e)) (λ p. omega (arith, p, e)) (omega arith)

  -- commands
  items_loads : (l : Listing) (is : List Item) (m : Mark) (w : Sign) (n : ℕ) → Alike (listing_load i l + sum_by (item_uses i) is) n
      → Loads i (after_items l is m) (n + weight i (name_need m) w)
  items_loads (of_record b x c d) is Ampersand w n h = λ f e. item_more (of_record b x c d) is f e (n + 0) (same_load h refl (omega arith))
  items_loads (of_record b x c d) is Becomes w n h = λ z. same_load h (omega arith) (omega arith)
  items_loads (of_record b x c d) is _ w n h = tt
  items_loads (of_structure x c d) is Ampersand w n h =
      (λ f e. item_more (of_structure x c d) is f e (n + 0) (same_load h refl (omega arith)), λ y z. same_load h (omega arith) (omega arith))
  items_loads (of_structure x c d) is Unbrace w n h = λ z. same_load h (omega arith) (omega arith)
  items_loads (of_structure x c d) is _ w n h = tt

  fields_loads : (r : RecordOf) (fs : List (Word × Preterm)) (m : Mark) (w : Sign) (n : ℕ) → Alike (record_load i r + sum_by (field_uses i) fs) n
      → Loads i (after_fields r fs m w) (n + weight i (name_need m) w)
  fields_loads r fs Ident f n h = λ z. alike h (name_uses i f.whole) (omega arith) (omega arith)
  fields_loads r fs Unbrace z n h = record_ends_loads r fs (n + 0) (same_load h refl (omega arith))
  fields_loads r fs _ w n h = tt

  conditions_loads : (j : InstanceOf) (m : Mark) (w : Sign) (n : ℕ) → Alike (instance_load i j) n → Loads i (after_conditions j m) (n + weight i (name_need m) w)
  conditions_loads j Open y n h = λ w. (omega arith, alike h (name_uses i w.whole) (omega arith) (omega arith))
  conditions_loads j Colon y n h = λ f. alike h (name_uses i f.whole) (omega arith) (omega arith)
  conditions_loads j Becomes y n h = λ f. alike h (name_uses i f.whole + name_uses i f.first) (omega arith) (omega arith)
  conditions_loads j _ y n h = tt

  condition_names_loads : (j : InstanceOf) (ws : List Word) (m : Mark) (w : Sign) (n : ℕ) → 0 < length ws → Alike (instance_load i j + words_load i ws) n
      → Loads i (after_condition_names j ws m w) (n + weight i (name_need m) w)
  condition_names_loads j ws Ident w n l h =
      (omega (arith, length-append ws (word w ∷ [])), alike h (name_uses i w.whole) (omega (arith, push_load i (word_uses i) ws (word w))) (omega arith))
  condition_names_loads j ws Colon w n l h = (
    λ d z. same_load h (omega (arith, conditions_load i ws None, sum_by-append (binder_uses i) j.conditions (conditions ws None))) (omega arith),
    λ s z. structured j ws s n l h,
  )
  condition_names_loads j ws _ w n l h = tt

  placing_loads : (p : Placing) (m : Mark) (w : Sign) (n : ℕ) → Alike (placing_load i p) n → Loads i (after_placing p m w) (n + weight i (name_need m) w)
  placing_loads p Ident k n h = placed_loads p (word k) [] k.place (n + name_uses i k.whole) (alike h (name_uses i k.whole) (omega arith) (omega arith))
  placing_loads p Open x n h = λ k. alike h (name_uses i k.whole) (omega arith) (omega arith)
  placing_loads p _ w n h = tt

  place_loads : (p : Placing) (x : Span) (k : Word) (ws : List Word) (m : Mark) (w : Sign) (n : ℕ)
      → Alike (placing_load i p + word_uses i k + words_load i ws) n → Loads i (after_place_names p x k ws m w) (n + weight i (name_need m) w)
  place_loads p x k ws Ident w n h = alike h (name_uses i w.whole) (omega (arith, push_load i (word_uses i) ws (word w))) (omega arith)
  place_loads p x k ws Close z n h = placed_loads p k ws (joined x z.place) (n + 0) (same_load h refl (omega arith))
  place_loads p x k ws _ w n h = tt

  carrier_row_loads : (f : Word → State) (n : ℕ) → ((w : Word) (m : ℕ) → m ≡ n + word_uses i w → Load i (f w) m) → Load i (carrier_begins f) n
  carrier_row_loads f n g = (
    λ w. g (word w) (n + name_uses i w.whole) refl,
    λ o w c u z. g (word w) (n + 0 + name_uses i w.whole + 0 + 0 + 0) (omega arith),
  )

  carried_loads : (b : Bool) (x : Span) (a c : Word) (n : ℕ) → Alike (word_uses i a + word_uses i c) n → Load i (record_carried b x a c) n
  carried_loads b x a c n h = (
    λ o f e. alike h (name_uses i f.whole + name_uses i e.whole) (omega arith) (omega arith),
    λ o z. same_load h (omega arith) (omega arith),
  )

  record_row_loads : (b : Bool) (x : Span) (a : Word) (n : ℕ) → Alike (word_uses i a) n → Load i (carrier_begins (record_carried b x a)) n
  record_row_loads b x a n h =
      carrier_row_loads (record_carried b x a) n (λ c m e. carried_loads b x a c m (alike h (word_uses i c) (omega arith) (omega (arith, e))))

  builders_row_loads : (x : Span) (c : Word) (n : ℕ) → Alike (word_uses i c) n → Load i (builders_carried x c) n
  builders_row_loads x c n h = (
    λ o v y f k z e. alike h (name_uses i v.whole + name_uses i f.whole + name_uses i k.whole) (omega arith) (omega arith),
    λ o f k e. alike h (name_uses i f.whole + name_uses i k.whole) (omega arith) (omega arith),
  )

  -- the first word of a sentence
  words_loads : (s : Second) (x : Span) (n : ℕ) → Alike 0 n → Loads i (words_begin s x) n
  words_loads second.Mixin x n h = λ r a. record_row_loads false x (word a) (n + 0 + name_uses i a.whole) (alike h (name_uses i a.whole) (omega arith) (omega arith))
  words_loads second.Factory x n h = λ r a. record_row_loads true x (word a) (n + 0 + name_uses i a.whole) (alike h (name_uses i a.whole) (omega arith) (omega arith))
  words_loads second.Builders x n h =
      λ y. carrier_row_loads (builders_carried x) (n + 0) (λ c m e. builders_row_loads x c m (alike h (word_uses i c) (omega arith) (omega (arith, e))))
  words_loads second.End x n h = λ z. same_load h (omega arith) (omega arith)
  words_loads second.Structure x n h = λ d a y b c o f e. alike h (name_uses i a.whole + name_uses i c.whole + name_uses i f.whole + name_uses i e.whole) (omega arith) (omega arith)
  words_loads second.Instance x n h =
      λ d. (λ a. alike h (name_uses i a.whole) (omega arith) (omega arith), λ a. same_load h (omega arith) (omega arith))
  words_loads second.Join x n h = λ a b z. alike h (name_uses i a.whole + name_uses i b.whole) (omega arith) (omega arith)
  words_loads second.Find x n h = λ s. alike h (name_uses i s.whole) (omega arith) (omega arith)
  words_loads second.Howto x n h = λ a b z. alike h (name_uses i a.whole + name_uses i b.whole) (omega arith) (omega arith)
  words_loads second.About x n h = λ a z. alike h (name_uses i a.whole) (omega arith) (omega arith)
  words_loads _ x n h = tt

  begins_loads : (m : Mark) (x : Sign) (n : ℕ) → Alike 0 n → Loads i (begins m x) (n + 0)
  begins_loads Axiom x n h = λ a z. alike h (name_uses i a.whole) (omega arith) (omega arith)
  begins_loads Definition x n h = λ a. alike h (name_uses i a.whole) (omega arith) (omega arith)
  begins_loads Require x n h = (λ a z. alike h (name_uses i a.whole) (omega arith) (omega arith), λ y a z. alike h (name_uses i a.whole) (omega arith) (omega arith))
  begins_loads (Pair s) x n h = words_loads s x.place (n + 0) (same_load h refl (omega arith))
  begins_loads _ x n h = tt

  taken_row : (b : Bool) (k m : Mark) (t : State) (w : Sign) (n : ℕ) → same k m ≡ b → Load i t (n + weight i (row_need k) w)
      → Loads i (taken b t) (n + weight i (row_need m) w)
  taken_row true k m t w n e h = subst (λ (x : Mark). Load i t (n + weight i (row_need x) w)) (same_mark k m e) h
  taken_row false k m t w n e h = tt

  either_row : (b : Bool) (k l m : Mark) (s t : State) (w : Sign) (n : ℕ) → same k m ≡ b → Load i s (n + weight i (row_need k) w)
      → Load i t (n + weight i (row_need l) w) → Loads i (cond b (Some s) (taken (same l m) t)) (n + weight i (row_need m) w)
  either_row true k l m s t w n e h g = subst (λ (x : Mark). Load i s (n + weight i (row_need x) w)) (same_mark k m e) h
  either_row false k l m s t w n e h g = taken_row (same l m) l m t w n refl g

  pub step_loads : (s : State) (m : Mark) (w : Sign) (n : ℕ) → Load i s n → Loads i (step s m w) (n + weight i (need s m) w)
  step_loads begin m w n h = begins_loads m w n h
  step_loads (done c) m w n h = tt
  step_loads (take d k f) m w n h = taken_row (same k m) k m (f w) w n refl (h w)
  step_loads (either d k f e o g) m w n h = either_row (same k m) k o m (f w) (g w) w n refl (h.0 w) (h.1 w)
  step_loads (want b k) m w n h = term_loads b k m w n h
  step_loads (have b a e k) m w n h = after_loads b a e k m w n h
  step_loads (more b k) m w n h = carrier_loads b k m w n h
  step_loads (bare_begun b x k) m w n h = bare_loads b x k m w n h
  step_loads (universe_at b a x k) m w n h = universe_loads b a x k m w n h
  step_loads (projecting b a k) m w n h = projection_loads b a k m w n h
  step_loads (binders b) m w n h = first_loads b m w n h
  step_loads (bares b xs) m w n h = bares_loads b xs m w n h
  step_loads (groups b gs c) m w n h = after_groups_loads b gs c m w n h
  step_loads (group_opened b gs c) m w n h = group_open_loads b gs c m w n h
  step_loads (group_names b gs c xs) m w n h = group_names_loads b gs c xs m w n h
  step_loads (items l is) m w n h = items_loads l is m w n h
  step_loads (fields r fs) m w n h = fields_loads r fs m w n h
  step_loads (conditioned j) m w n h = conditions_loads j m w n h
  step_loads (condition_names j ws) m w n h = condition_names_loads j ws m w n h.0 h.1
  step_loads (placing p) m w n h = placing_loads p m w n h
  step_loads (place_names p x k ws) m w n h = place_loads p x k ws m w n h
