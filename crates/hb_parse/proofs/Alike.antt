-- Whether there is a way on doesn't depend on what a token says.
use Rattle.std.proofs.Common.{◌≡◌, ℕ, Bool, true, false, Some, List, is_some, refl, cond}
use Rattle.hb_base.specs.declared.span.Span.{Span}
use Rattle.hb_raw.specs.declared.word.Word.{Word}
use Rattle.hb_raw.specs.Preterm.{Preterm, Group}
use Rattle.hb_grammar.specs.declared.mark.Mark.{Mark}
use Rattle.hb_grammar.specs.declared.mark.Mark.TheVariants.{Ident, Pair, Axiom, Definition, Require, Prop, Universe, Forall, Fun, Hole, Open, Close, Brace, Unbrace, Colon, Becomes, Gives, Arrow, Comma, Semicolon, At, Project, End}
use Rattle.hb_grammar.specs.declared.mark.Second.{Second}
use Rattle.hb_grammar.specs.declared.mark.Second.TheVariants as second
use Rattle.hb_grammar.specs.Leaf.{Sign}
use Rattle.hb_grammar.specs.Part.{Part, arrow_part, product_part, function_part}
use Rattle.hb_grammar.specs.Grammar.{Bounds, spine_part}
use Rattle.hb_grammar.specs.Machine.{Before, first, behind, alone, making, filled, next, RecordOf, InstanceOf, Stack, right, inside, casting, lone, group_type, body, axiom_type, definition_type, definition_body, field_type, instance_value, build_value, carrier_found, Binding, of_product, of_function, of_definition, Placing, State, begin, done, take, either, want, have, more, bare_begun, universe_at, projecting, binders, bares, groups, group_opened, group_names, items, fields, conditioned, condition_names, placing, place_names, words_begin, begins, argument, term_begins, closed, applied_or_closed, after_argument, after_carrier, bare_named, after_universe_at, projection_named, first_binder, after_bares, after_groups, after_group_open, after_group_names, after_fields, after_condition_names, after_placing, after_place_names, taken, same, step}

words_alike : (s : Second) (x y : Span) → is_some (words_begin s x) ≡ is_some (words_begin s y)
words_alike second.Mixin x y = refl
words_alike second.Factory x y = refl
words_alike second.Builders x y = refl
words_alike second.End x y = refl
words_alike second.Structure x y = refl
words_alike second.Instance x y = refl
words_alike second.Join x y = refl
words_alike second.Find x y = refl
words_alike second.Howto x y = refl
words_alike second.About x y = refl
words_alike _ x y = refl

begins_alike : (m : Mark) (w v : Sign) → is_some (begins m w) ≡ is_some (begins m v)
begins_alike Axiom w v = refl
begins_alike Definition w v = refl
begins_alike Require w v = refl
begins_alike (Pair s) w v = words_alike s w.place v.place
begins_alike _ w v = refl

argument_alike : (b c : Before) (k : Stack) (m : Mark) (w v : Sign) → is_some (argument b k m w) ≡ is_some (argument c k m v)
argument_alike b c k Ident w v = refl
argument_alike b c k (Pair s) w v = refl
argument_alike b c k At w v = refl
argument_alike b c k Hole w v = refl
argument_alike b c k Prop w v = refl
argument_alike b c k Universe w v = refl
argument_alike b c k Open w v = refl
argument_alike b c k _ w v = refl

term_alike : (b : Before) (k : Stack) (m : Mark) (w v : Sign) → is_some (term_begins b k m w) ≡ is_some (term_begins b k m v)
term_alike first k Forall w v = refl
term_alike first k Fun w v = refl
term_alike first k m w v = argument_alike first first k m w v
term_alike (behind s) k m w v = argument_alike (behind s) (behind s) k m w v
term_alike alone k m w v = argument_alike alone alone k m w v
term_alike (making s) k m w v = argument_alike (making s) (making s) k m w v

closed_alike : (k : Stack) (m : Mark) (p q : Part) (z y : Sign) → is_some (closed k m p z) ≡ is_some (closed k m q y)
closed_alike (right a k) m p q z y = closed_alike k m (arrow_part a p) (arrow_part a q) z y
closed_alike (body (of_product x k) gs n) m p q z y = closed_alike k m (product_part x gs p) (product_part x gs q) z y
closed_alike (body (of_function x k) gs n) m p q z y = closed_alike k m (function_part x gs p) (function_part x gs q) z y
closed_alike (body (of_definition x c) gs n) m p q z y = refl
closed_alike (lone (of_product x k) xs) Comma p q z y = refl
closed_alike (lone (of_function x k) xs) Gives p q z y = refl
closed_alike (lone b xs) _ p q z y = refl
closed_alike (inside b x k) Close p q z y = refl
closed_alike (inside b x k) Colon p q z y = refl
closed_alike (inside b x k) _ p q z y = refl
closed_alike (casting b x t k) Close p q z y = refl
closed_alike (casting b x t k) _ p q z y = refl
closed_alike (group_type b gs n xs) Close p q z y = refl
closed_alike (group_type b gs n xs) _ p q z y = refl
closed_alike (axiom_type x n) End p q z y = refl
closed_alike (axiom_type x n) _ p q z y = refl
closed_alike (definition_type x n gs c) Becomes p q z y = refl
closed_alike (definition_type x n gs c) _ p q z y = refl
closed_alike (definition_body x n gs c t) End p q z y = refl
closed_alike (definition_body x n gs c t) _ p q z y = refl
closed_alike (field_type r fs f) Semicolon p q z y = refl
closed_alike (field_type r fs f) Unbrace p q z y = refl
closed_alike (field_type r fs f) _ p q z y = refl
closed_alike (instance_value i f k ws) End p q z y = refl
closed_alike (instance_value i f k ws) _ p q z y = refl
closed_alike (build_value i f k ws) End p q z y = refl
closed_alike (build_value i f k ws) _ p q z y = refl
closed_alike (carrier_found x s) End p q z y = refl
closed_alike (carrier_found x s) _ p q z y = refl

applied_alike : (b : Before) (a : Part) (k : Stack) (m : Mark) (w v : Sign)
    → is_some (applied_or_closed b a k m w) ≡ is_some (applied_or_closed b a k m v)
applied_alike alone a k Ident w v = refl
applied_alike alone a k (Pair t) w v = refl
applied_alike alone a k At w v = refl
applied_alike alone a k Hole w v = refl
applied_alike alone a k Prop w v = refl
applied_alike alone a k Universe w v = refl
applied_alike alone a k Open w v = refl
applied_alike alone a k m w v = closed_alike k m (spine_part (filled alone a)) (spine_part (filled alone a)) w v
applied_alike first a k Ident w v = refl
applied_alike first a k (Pair t) w v = refl
applied_alike first a k At w v = refl
applied_alike first a k Hole w v = refl
applied_alike first a k Prop w v = refl
applied_alike first a k Universe w v = refl
applied_alike first a k Open w v = refl
applied_alike first a k m w v = closed_alike k m (spine_part (filled first a)) (spine_part (filled first a)) w v
applied_alike (behind s) a k Ident w v = refl
applied_alike (behind s) a k (Pair t) w v = refl
applied_alike (behind s) a k At w v = refl
applied_alike (behind s) a k Hole w v = refl
applied_alike (behind s) a k Prop w v = refl
applied_alike (behind s) a k Universe w v = refl
applied_alike (behind s) a k Open w v = refl
applied_alike (behind s) a k m w v = closed_alike k m (spine_part (filled (behind s) a)) (spine_part (filled (behind s) a)) w v
applied_alike (making s) a k Ident w v = refl
applied_alike (making s) a k (Pair t) w v = refl
applied_alike (making s) a k At w v = refl
applied_alike (making s) a k Hole w v = refl
applied_alike (making s) a k Prop w v = refl
applied_alike (making s) a k Universe w v = refl
applied_alike (making s) a k Open w v = refl
applied_alike (making s) a k m w v = closed_alike k m (spine_part (filled (making s) a)) (spine_part (filled (making s) a)) w v

after_alike : (b : Before) (a : Part) (e : Bool) (k : Stack) (m : Mark) (w v : Sign)
    → is_some (after_argument b a e k m w) ≡ is_some (after_argument b a e k m v)
after_alike b a e k Project w v = refl
after_alike b a e k Arrow w v = refl
after_alike b a true k At w v = refl
after_alike b a false k At w v = applied_alike b a k At w v
after_alike b a e k m w v = applied_alike b a k m w v

carrier_alike : (b : Before) (k : Stack) (m : Mark) (w v : Sign) → is_some (after_carrier b k m w) ≡ is_some (after_carrier b k m v)
carrier_alike (making s) k End w v = closed_alike k End (spine_part s) (spine_part s) w v
carrier_alike (making s) k m w v = argument_alike (making s) (making s) k m w v
carrier_alike first k m w v = refl
carrier_alike (behind s) k m w v = refl
carrier_alike alone k m w v = refl

bare_alike : (b : Before) (x : Span) (k : Stack) (m : Mark) (w v : Sign) → is_some (bare_named b x k m w) ≡ is_some (bare_named b x k m v)
bare_alike b x k Ident w v = refl
bare_alike b x k (Pair s) w v = refl
bare_alike b x k _ w v = refl

universe_alike : (b : Before) (a : Part) (x : Span) (k : Stack) (m : Mark) (w v : Sign)
    → is_some (after_universe_at b a x k m w) ≡ is_some (after_universe_at b a x k m v)
universe_alike b a x k Brace w v = refl
universe_alike alone a x k _ w v = refl
universe_alike first a x k m w v = bare_alike (next first a) x k m w v
universe_alike (behind s) a x k m w v = bare_alike (next (behind s) a) x k m w v
universe_alike (making s) a x k m w v = bare_alike (next (making s) a) x k m w v

projection_alike : (b : Before) (a : Part) (k : Stack) (m : Mark) (w v : Sign)
    → is_some (projection_named b a k m w) ≡ is_some (projection_named b a k m v)
projection_alike b a k Ident w v = refl
projection_alike b a k (Pair s) w v = refl
projection_alike b a k _ w v = refl

first_alike : (b : Binding) (m : Mark) (w v : Sign) → is_some (first_binder b m w) ≡ is_some (first_binder b m v)
first_alike b Ident w v = refl
first_alike b Hole w v = refl
first_alike b Open w v = refl
first_alike b _ w v = refl

bares_alike : (b : Binding) (xs : Bounds) (m : Mark) (w v : Sign) → is_some (after_bares b xs m w) ≡ is_some (after_bares b xs m v)
bares_alike (of_product x k) xs Ident w v = refl
bares_alike (of_product x k) xs Hole w v = refl
bares_alike (of_product x k) xs Open w v = refl
bares_alike (of_product x k) xs Colon w v = refl
bares_alike (of_product x k) xs _ w v = refl
bares_alike (of_function x k) xs Ident w v = refl
bares_alike (of_function x k) xs Hole w v = refl
bares_alike (of_function x k) xs Open w v = refl
bares_alike (of_function x k) xs Colon w v = refl
bares_alike (of_function x k) xs _ w v = refl
bares_alike (of_definition x n) xs Ident w v = refl
bares_alike (of_definition x n) xs Hole w v = refl
bares_alike (of_definition x n) xs Open w v = refl
bares_alike (of_definition x n) xs Colon w v = refl
bares_alike (of_definition x n) xs _ w v = refl

groups_alike : (b : Binding) (gs : List Group) (n : ℕ) (m : Mark) (w v : Sign) → is_some (after_groups b gs n m w) ≡ is_some (after_groups b gs n m v)
groups_alike b gs n Ident w v = refl
groups_alike b gs n Hole w v = refl
groups_alike b gs n Open w v = refl
groups_alike b gs n _ w v = refl

group_open_alike : (b : Binding) (gs : List Group) (n : ℕ) (m : Mark) (w v : Sign)
    → is_some (after_group_open b gs n m w) ≡ is_some (after_group_open b gs n m v)
group_open_alike b gs n Ident w v = refl
group_open_alike b gs n Hole w v = refl
group_open_alike b gs n _ w v = refl

group_names_alike : (b : Binding) (gs : List Group) (n : ℕ) (xs : Bounds) (m : Mark) (w v : Sign)
    → is_some (after_group_names b gs n xs m w) ≡ is_some (after_group_names b gs n xs m v)
group_names_alike b gs n xs Ident w v = refl
group_names_alike b gs n xs Hole w v = refl
group_names_alike b gs n xs Colon w v = refl
group_names_alike b gs n xs _ w v = refl

fields_alike : (r : RecordOf) (fs : List (Word × Preterm)) (m : Mark) (w v : Sign) → is_some (after_fields r fs m w) ≡ is_some (after_fields r fs m v)
fields_alike r fs Ident w v = refl
fields_alike r fs Unbrace w v = refl
fields_alike r fs _ w v = refl

condition_alike : (i : InstanceOf) (ws : List Word) (m : Mark) (w v : Sign)
    → is_some (after_condition_names i ws m w) ≡ is_some (after_condition_names i ws m v)
condition_alike i ws Ident w v = refl
condition_alike i ws Colon w v = refl
condition_alike i ws _ w v = refl

placing_alike : (p : Placing) (m : Mark) (w v : Sign) → is_some (after_placing p m w) ≡ is_some (after_placing p m v)
placing_alike p Ident w v = refl
placing_alike p Open w v = refl
placing_alike p _ w v = refl

place_alike : (p : Placing) (x : Span) (k : Word) (ws : List Word) (m : Mark) (w v : Sign)
    → is_some (after_place_names p x k ws m w) ≡ is_some (after_place_names p x k ws m v)
place_alike p x k ws Ident w v = refl
place_alike p x k ws Close w v = refl
place_alike p x k ws _ w v = refl

taken_alike : (b : Bool) (s t : State) → is_some (taken b s) ≡ is_some (taken b t)
taken_alike true s t = refl
taken_alike false s t = refl

either_alike : (b c : Bool) (s t u v : State) → is_some (cond b (Some s) (taken c t)) ≡ is_some (cond b (Some u) (taken c v))
either_alike true c s t u v = refl
either_alike false c s t u v = taken_alike c t v

pub moves_alike : (s : State) (m : Mark) (w v : Sign) → is_some (step s m w) ≡ is_some (step s m v)
moves_alike begin m w v = begins_alike m w v
moves_alike (done c) m w v = refl
moves_alike (take d n f) m w v = taken_alike (same n m) (f w) (f v)
moves_alike (either d n f e o g) m w v = either_alike (same n m) (same o m) (f w) (g w) (f v) (g v)
moves_alike (want b k) m w v = term_alike b k m w v
moves_alike (have b a e k) m w v = after_alike b a e k m w v
moves_alike (more b k) m w v = carrier_alike b k m w v
moves_alike (bare_begun b x k) m w v = bare_alike b x k m w v
moves_alike (universe_at b a x k) m w v = universe_alike b a x k m w v
moves_alike (projecting b a k) m w v = projection_alike b a k m w v
moves_alike (binders b) m w v = first_alike b m w v
moves_alike (bares b xs) m w v = bares_alike b xs m w v
moves_alike (groups b gs n) m w v = groups_alike b gs n m w v
moves_alike (group_opened b gs n) m w v = group_open_alike b gs n m w v
moves_alike (group_names b gs n xs) m w v = group_names_alike b gs n xs m w v
moves_alike (items l is) m w v = refl
moves_alike (fields r fs) m w v = fields_alike r fs m w v
moves_alike (conditioned i) m w v = refl
moves_alike (condition_names i ws) m w v = condition_alike i ws m w v
moves_alike (placing p) m w v = placing_alike p m w v
moves_alike (place_names p x k ws) m w v = place_alike p x k ws m w v
