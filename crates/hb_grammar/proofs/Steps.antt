-- Each step keeps what the states say.
use Rattle.std.proofs.Common.{◌≡◌, ℕ, Bool, true, false, cond, List, [], ◌∷◌, Some, None, refl, ap, sym, subst}
use Rattle.hb_base.specs.declared.span.Span.{Span}
use Rattle.hb_raw.specs.declared.word.Word.{Word}
use Rattle.hb_raw.specs.declared.word.Item.{Item}
use Rattle.hb_raw.specs.Preterm.{Preterm}
use Rattle.hb_grammar.specs.declared.mark.Mark.{Mark}
use Rattle.hb_grammar.specs.declared.mark.Mark.TheVariants.{Ident, Pair, Axiom, Context, Definition, Require, Forall, Fun, Hole, Open, Close, Unbrace, Colon, Becomes, Ampersand}
use Rattle.hb_grammar.specs.declared.mark.Second.{Second}
use Rattle.hb_grammar.specs.declared.mark.Second.TheVariants as second
use Rattle.hb_grammar.specs.Leaf.{Sign, Leaf, leaf, word}
use Rattle.hb_grammar.specs.Grammar.{IsCarrier, c_id, c_typed, IsItems, i_one, i_more, IsNeeds, no_needs, needs, IsOpenFields, f_none, f_closed, IsIds, id_one, id_more, c_any, c_structure, IsAtNames, at_first, at_more, IsAt, at_id, at_ids, m_at, IsRecord, of_mixin, of_factory as a_factory, o_name, o_condition, s_builders, s_builders_of, s_end, s_structure, s_structure_and, s_join, s_require, s_import, s_howto, s_about}
use Rattle.hb_grammar.specs.Machine.{same, Before, first, RecordOf, InstanceOf, Stack, Listing, of_record, of_structure, Placing, of_factory, of_builder, State, begin, done, take, either, want, have, more, bare_begun, universe_at, projecting, binders, bares, groups, group_opened, group_names, items, fields, conditioned, condition_names, placing, place_names, item_begins, fields_begin, carrier_begins, record_carried, builders_carried, instance_named, condition_typed, placed, placing_argument, words_begin, begins, term_begins, after_items, after_fields, after_conditions, after_condition_names, after_placing, after_place_names, taken, step, bracket_leaf, begun_leaf, placing_leaf, place_leaf, read}
use Rattle.hb_grammar.proofs.Holds.{Ahead, ah_first, ah_alone, ah_making, li_none, RecordFront, rf, InstanceFront, inf, ItemsFront, it_record, it_structure, PlacingFront, pf_factory, pf_builder, Opened, o_axiom, o_field, o_instance, o_build, o_found, bi_product, bi_function, bi_definition, he_begin, he_done, he_want, he_have, he_more, he_bare, he_universe_at, he_projecting, he_binders, he_bares, he_groups, he_group_opened, he_group_names, he_items, he_fields, he_conditioned, he_condition_names, he_placing, he_place_names, Holds, Then}
use Rattle.hb_grammar.proofs.Closing.{record_sentence}
use Rattle.hb_grammar.proofs.Marks.{same_mark}
use Rattle.hb_grammar.proofs.Sound.{after_argument_holds, argument_holds}
use Rattle.hb_grammar.proofs.Rows.{on, after_carrier_holds, bare_holds, universe_holds, projecting_holds, first_holds, bares_holds, groups_holds, group_open_holds, group_names_hold}

no_needs_at : {us vs : List Leaf} → us ≡ vs → IsNeeds us [] vs
no_needs_at {us = us} e = let P : List Leaf → Type 0 = λ x. IsNeeds us [] x in subst P e no_needs

record_fields : {b : Bool} {x n y : Sign} {c : Word} {is : List Item} {all us vs ts : List Leaf}
    → IsRecord b all x n us → IsCarrier us c vs → IsNeeds vs is (leaf Becomes y 0 0 ∷ ts)
    → Holds all (fields_begin (record { kind = b; start = x.place; name = word n; carrier = c; items = is })) ts
record_fields h c n = λ z rest e. he_fields (rf h c (rw e at n)) f_none

record_items : {l : Listing} {all ts : List Leaf} → ItemsFront all l ts → Holds all (item_begins l []) ts
record_items {ts = ts} h = λ f vs e. λ c rest g. he_items {vs = ts} h (rw (on e g) i_one)

record_holds : {b : Bool} {x n : Sign} {c : Word} {all us vs : List Leaf}
    → IsRecord b all x n us → IsCarrier us c vs → Holds all (record_carried b x.place (word n) c) vs
record_holds h c =
    (λ y ts e. record_items (it_record h (rw e at c)), λ y ts e. record_fields h c (no_needs_at e))

carrier_holds : (f : Word → State) (all us : List Leaf) → ((w : Word) (vs : List Leaf) → IsCarrier us w vs → Holds all (f w) vs)
    → Holds all (carrier_begins f) us
carrier_holds f all us h =
    (λ w vs e. h (word w) vs (rw e c_id), λ x a e. λ w b p. λ y c g. λ t d i. λ z vs j. h (word w) vs (rw (on e (on p (on g (on i j)))) c_typed))

builders_hold : {x y : Sign} {c : Word} {us vs : List Leaf} → IsCarrier us c vs
    → Holds (leaf (Pair second.Builders) x 0 0 ∷ (leaf Context y 0 0 ∷ us)) (builders_carried x.place c) vs
builders_hold h = (
  λ a b e. λ v c g. λ y d i. λ f m j. λ k n l. λ z o p. λ w rest q.
      he_done (s_builders (rw (on e (on g (on i (on j (on l (on p q)))))) at h)),
  λ a b e. λ f c g. λ k d i. λ z rest j. he_done (s_builders_of (rw (on e (on g (on i j))) at h)),
)

instance_holds : {x d : Sign} {us : List Leaf}
    → Holds (leaf (Pair second.Instance) x 0 0 ∷ (leaf Definition d 0 0 ∷ us))
    (either 0 Ident (λ n. instance_named x.place (Some (word n))) 0 Hole (λ n. instance_named x.place None)) us
instance_holds {x = x} = (
  λ n vs e. he_conditioned (inf {x = x} (rw e (o_name {m = Ident} tt))),
  λ n vs e. he_conditioned (inf {x = x} (rw e (o_name {m = Hole} tt))),
)

words_hold : (x : Sign) (us : List Leaf) (s : Second) → Then (leaf (Pair s) x 0 0 ∷ us) (words_begin s x.place) us
words_hold x us second.Mixin = λ r vs e. λ n ws g.
    carrier_holds (record_carried false x.place (word n)) (leaf (Pair second.Mixin) x 0 0 ∷ us) ws
    (λ w zs h. record_holds {x = x} {n = n} (rw (on e g) of_mixin) h)
words_hold x us second.Factory = λ r vs e. λ n ws g.
    carrier_holds (record_carried true x.place (word n)) (leaf (Pair second.Factory) x 0 0 ∷ us) ws
    (λ w zs h. record_holds {x = x} {n = n} (rw (on e g) a_factory) h)
words_hold x us second.Builders = λ y vs e. carrier_holds (builders_carried x.place) (leaf (Pair second.Builders) x 0 0 ∷ us) vs
    (λ w zs h. rw e (builders_hold h))
words_hold x us second.End = λ z rest e. he_done (rw e s_end)
words_hold x us second.Structure = λ d a e. λ n b g. λ y c h. λ k i j. λ w l m. λ o ts p.
    record_items (rw (on e (on g (on h (on j (on m p))))) it_structure)
words_hold x us second.Instance = λ d vs e. rw e instance_holds
words_hold x us second.Join = λ a vs e. λ b ws g. λ z rest h. he_done (rw (on e (on g h)) s_join)
words_hold x us second.Find = λ s vs e. he_want {vs = vs} (rw e o_found) ah_alone
words_hold x us second.Howto = λ a vs e. λ b ws g. λ z rest h. he_done (rw (on e (on g h)) s_howto)
words_hold x us second.About = λ n vs e. λ z rest g. he_done (rw (on e g) s_about)
words_hold x us _ = tt

begins_hold : (x : Sign) (us : List Leaf) (m : Mark) → Then (leaf m x 0 0 ∷ us) (begins m x) us
begins_hold x us Axiom = λ n vs e. λ y ws g. he_want {vs = ws} (rw (on e g) o_axiom) (ah_first tt)
begins_hold x us Definition = λ n vs e. he_groups {vs = vs} (rw e bi_definition) li_none
begins_hold x us Require =
    (λ n vs e. λ z rest g. he_done (rw (on e g) s_require), λ i vs e. λ n ws g. λ z rest h. he_done (rw (on e (on g h)) s_import))
begins_hold x us (Pair s) = words_hold x us s
begins_hold x us _ = tt

items_hold : {w : Sign} {is : List Item} {all vs us : List Leaf} (l : Listing) (m : Mark)
    → ItemsFront all l vs → IsItems vs is (leaf m w 0 0 ∷ us) → Then all (after_items l is m) us
items_hold (of_record b x n c) Ampersand h i = λ f vs e. λ k rest g. he_items h (i_more (rw (on e g) at i))
items_hold (of_record b x n c) Becomes (it_record h k) i = record_fields h k (needs i)
items_hold (of_structure x n c) Ampersand it_structure i = (
  λ f vs e. λ k rest g. he_items it_structure (i_more (rw (on e g) at i)),
  λ b vs e. λ z rest g. he_done (s_structure_and (rw (on e g) at i)),
)
items_hold (of_structure x n c) Unbrace it_structure i = λ z rest e. he_done (s_structure (rw e at i))
items_hold (of_record b x n c) _ h i = tt
items_hold (of_structure x n c) _ h i = tt

fields_hold : {w : Sign} {r : RecordOf} {fs : List (Word × Preterm)} {all vs us : List Leaf} (m : Mark)
    → RecordFront all r vs → IsOpenFields vs fs (leaf m w 0 0 ∷ us) → Then all (after_fields r fs m w) us
fields_hold Ident h i = λ y us e. he_want (o_field h (rw e at i)) (ah_first tt)
fields_hold Unbrace h i = record_sentence h (f_closed i)
fields_hold _ h i = tt

conditions_hold : {i : InstanceOf} {all us : List Leaf} (m : Mark) (w : Sign)
    → InstanceFront all i (bracket_leaf 0 m w ∷ us) → Then all (after_conditions i m) us
conditions_hold Open w h = λ n vs e. he_condition_names (rw e at h) id_one
conditions_hold Colon w h = λ f vs e. he_placing (pf_factory (rw e at h))
conditions_hold Becomes w h = λ f vs e. he_placing (pf_builder (rw e at h))
conditions_hold _ w h = tt

typed_condition : {i : InstanceOf} {x y : Sign} {ws : List Word} {all vs us : List Leaf}
    → InstanceFront all i (leaf Open x 1 0 ∷ vs) → IsIds vs ws (leaf Colon y 1 0 ∷ us) → Holds all (condition_typed i ws) us
typed_condition (inf h) n = (
  λ t vs e. λ z rest g. he_conditioned (inf (o_condition h (c_any (rw (on e g) at n)))),
  λ s vs e. λ z rest g. he_conditioned (inf (o_condition h (c_structure (rw (on e g) at n)))),
)

condition_names_hold : {i : InstanceOf} {x w : Sign} {ws : List Word} {all vs us : List Leaf} (m : Mark)
    → InstanceFront all i (leaf Open x 1 0 ∷ vs) → IsIds vs ws (leaf m w 1 0 ∷ us)
    → Then all (after_condition_names i ws m w) us
condition_names_hold Ident h n = he_condition_names h (id_more n)
condition_names_hold Colon h n = typed_condition h n
condition_names_hold _ h n = tt

placed_holds : {k : Word} {ws : List Word} {s : Span} {all us vs : List Leaf} (p : Placing)
    → PlacingFront all p us → IsAt (placing_argument p) us k ws s vs → Holds all (placed p k ws s) vs
placed_holds (of_factory i f) (pf_factory h) a = λ b vs e. he_want {vs = vs} (o_instance h (rw e at a)) (ah_first tt)
placed_holds (of_builder i f b) (pf_builder h) a = he_more (o_build h) (m_at a)

placing_holds : {all us : List Leaf} (p : Placing) (m : Mark) (w : Sign)
    → PlacingFront all p (placing_leaf p m w ∷ us) → Then all (after_placing p m w) us
placing_holds p Ident w h = placed_holds p h at_id
placing_holds p Open w h = λ k vs e. he_place_names (rw e at h) at_first
placing_holds p _ w h = tt

place_names_hold : {x : Sign} {k : Word} {ws : List Word} {all vs us : List Leaf} (p : Placing) (m : Mark) (w : Sign)
    → PlacingFront all p (leaf Open x 1 (placing_argument p) ∷ vs) → IsAtNames vs k ws (place_leaf ws m w ∷ us)
    → Then all (after_place_names p x.place k ws m w) us
place_names_hold p Ident w h a = he_place_names h (at_more a)
place_names_hold p Close w h a = placed_holds p h (at_ids a)
place_names_hold p _ w h a = tt

-- rows of tokens
taken_holds : (all us : List Leaf) (w : Sign) (d : ℕ) (f : Sign → State) (n m : Mark) (t : Bool) → same n m ≡ t
    → ((v : Sign) (vs : List Leaf) → leaf m w d 0 ∷ us ≡ leaf n v d 0 ∷ vs → Holds all (f v) vs)
    → Then all (taken t (f w)) us
taken_holds all us w d f n m true e h =
    h w us (ap (λ x. leaf x w d 0 ∷ us) (sym (same_mark n m e)))
taken_holds all us w d f n m false e h = tt

either_holds : (all us : List Leaf) (w : Sign) (d e : ℕ) (f g : Sign → State) (n o m : Mark) (t : Bool) → same n m ≡ t
    → ((v : Sign) (vs : List Leaf) → leaf m w (cond t d e) 0 ∷ us ≡ leaf n v d 0 ∷ vs → Holds all (f v) vs)
    → ((v : Sign) (vs : List Leaf) → leaf m w (cond t d e) 0 ∷ us ≡ leaf o v e 0 ∷ vs → Holds all (g v) vs)
    → Then all (cond t (Some (f w)) (taken (same o m) (g w))) us
either_holds all us w d e f g n o m true p h i =
    h w us (ap (λ x. leaf x w d 0 ∷ us) (sym (same_mark n m p)))
either_holds all us w d e f g n o m false p h i = taken_holds all us w e g o m (same o m) refl i

-- a term, or an argument, begins
want_holds : {k : Stack} {all vs us : List Leaf} (b : Before) (m : Mark) (w : Sign)
    → Opened all k vs → Ahead k b false vs (begun_leaf b k m w ∷ us) → Then all (term_begins b k m w) us
want_holds first Forall w o (ah_first p) = he_binders (bi_product o p)
want_holds first Fun w o (ah_first p) = he_binders (bi_function o p)
want_holds b Forall w o h = tt
want_holds b Fun w o h = tt
want_holds b m w o h = argument_holds m w o h (λ q. refl)

-- each step keeps what the state says
pub step_holds : (s : State) (m : Mark) (w : Sign) (all us : List Leaf) → Holds all s (read s m w ∷ us) → Then all (step s m w) us
step_holds (take d n f) m w all us h = taken_holds all us w d f n m (same n m) refl h
step_holds (either d n f e o g) m w all us h = either_holds all us w d e f g n o m (same n m) refl h.0 h.1
step_holds begin m w all us he_begin = begins_hold w us m
step_holds (done c) m w all us h = tt
step_holds (want b k) m w all us (he_want o h) = want_holds b m w o h
step_holds (have b a e k) m w all us (he_have o h i) = after_argument_holds e m w o h i
step_holds (more b k) m w all us (he_more o h) = after_carrier_holds m w o (ah_making h)
step_holds (bare_begun b x k) m w all us (he_bare o h) = bare_holds m o h
step_holds (universe_at b a x k) m w all us (he_universe_at o h i) = universe_holds b m w o h i
step_holds (projecting b a k) m w all us (he_projecting o h i) = projecting_holds m o h i
step_holds (binders b) m w all us (he_binders o) = first_holds m w o
step_holds (bares b xs) m w all us (he_bares o h) = bares_holds b m w o h
step_holds (groups b gs n) m w all us (he_groups o l) = groups_holds m w o l
step_holds (group_opened b gs n) m w all us (he_group_opened o l) = group_open_holds m o l
step_holds (group_names b gs n xs) m w all us (he_group_names o l h) = group_names_hold m o l h
step_holds (items l is) m w all us (he_items h i) = items_hold l m h i
step_holds (fields r fs) m w all us (he_fields h i) = fields_hold m h i
step_holds (conditioned i) m w all us (he_conditioned h) = conditions_hold m w h
step_holds (condition_names i ws) m w all us (he_condition_names h n) = condition_names_hold m h n
step_holds (placing p) m w all us (he_placing h) = placing_holds p m w h
step_holds (place_names p x k ws) m w all us (he_place_names h a) = place_names_hold p m w h a
