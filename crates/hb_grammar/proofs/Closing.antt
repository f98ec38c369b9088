-- What closes a term keeps what the states say.
use Rattle.std.proofs.Common.{ℕ, ◌+◌, Bool, List, [], ◌∷◌, ◌++◌, length, sym, subst, zero-add}
use Rattle.hb_raw.specs.declared.word.Word.{Word}
use Rattle.hb_raw.specs.Preterm.{Preterm, Group, typed}
use Rattle.hb_grammar.specs.declared.mark.Mark.{Mark}
use Rattle.hb_grammar.specs.declared.mark.Mark.TheVariants.{Open, Close, Unbrace, Colon, Becomes, Gives, Comma, Semicolon, End}
use Rattle.hb_grammar.specs.Leaf.{Sign, Leaf, leaf}
use Rattle.hb_grammar.specs.Part.{Part}
use Rattle.hb_grammar.specs.Grammar.{Bounds, IsNames, spine_part, IsTerm, t_app, t_arrow, t_forall, t_fun, b_typed, IsGroups, g_one, g_more, g_typed, p_head, p_more, IsArg, r_atom, a_bracket, a_cast, f_more, IsFields, f_last, m_more, stated, s_axiom, s_definition, s_record, s_instance, s_build, s_find}
use Rattle.hb_grammar.specs.Machine.{Before, filled, count, RecordOf, Stack, right, inside, casting, lone, group_type, body, axiom_type, definition_type, definition_body, field_type, instance_value, build_value, carrier_found, Binding, of_product, of_function, of_definition, depth, binding_depth, closing, record_ends, closed, closed_lone}
use Rattle.hb_grammar.proofs.Holds.{Ahead, ah_first, ah_behind, ah_alone, ah_making, Finished, fin_term, fin_found, fin_built, SoFar, sf_none, sf_some, li_some, RecordFront, rf, inf, Opened, o_right, o_inside, o_casting, o_lone, o_group, o_product, o_function, o_axiom, o_definition_type, o_definition, o_field, o_instance, o_build, o_found, Binds, bi_product, bi_function, he_done, he_want, he_have, he_groups, he_fields, Holds, Then}

-- a term of a frame
pub whole_term : {k : Stack} {b : Before} {a : Part} {e f : Bool} {vs ts us : List Leaf}
    → Ahead k b f vs ts → IsArg (depth k) f (count b) ts a e us → Finished k vs (spine_part (filled b a)) us
whole_term (ah_first p) h = fin_term p (t_app (p_head h))
whole_term (ah_behind p i) h = fin_term p (t_app (p_more i h))
whole_term ah_alone h = fin_found h
whole_term (ah_making i) h = fin_built (m_more i h)

pub record_sentence : {r : RecordOf} {fs : List (Word × Preterm)} {all ts us : List Leaf}
    → RecordFront all r ts → IsFields ts fs us → Holds all (record_ends r fs) us
record_sentence {fs = fs} {ts = ts} (rf h c n) fields_ =
    λ z rest e. he_done (s_record h c n (let P : List Leaf → Type 0 = λ x. IsFields ts fs x in subst P e fields_))

lone_holds : {b : Binding} {xs : Bounds} {y z : Sign} {p : Part} {all us vs rest : List Leaf} (m : Mark)
    → Binds all b us → IsNames (binding_depth b) us xs (leaf Colon y (binding_depth b) 0 ∷ vs)
    → IsTerm (binding_depth b) vs p (leaf m z (binding_depth b) 0 ∷ rest) → Then all (closed_lone b xs m p) rest
lone_holds {b = of_product x k} Comma o n h = he_want (o_product o (b_typed n h)) (ah_first tt)
lone_holds {b = of_function x k} Gives o n h = he_want (o_function o (b_typed n h)) (ah_first tt)
lone_holds {b = of_product x k} _ o n h = tt
lone_holds {b = of_function x k} _ o n h = tt
lone_holds {b = of_definition x c} _ o n h = tt

pub typed_group : {d n : ℕ} {x y z : Sign} {gs : List Group} {xs : Bounds} {p : Part} {ts ws vs rest : List Leaf}
    → SoFar d ts gs n (leaf Open x (d + 1) 0 ∷ ws) → IsNames (d + 1) ws xs (leaf Colon y (d + 1) 0 ∷ vs)
    → IsTerm (d + n + 1) vs p (leaf Close z (d + 1) 0 ∷ rest)
    → IsGroups d ts (gs ++ (typed xs p.term ∷ [])) (n + length xs) rest
typed_group {d = d} {xs = xs} {p = p} {ts = ts} {rest = rest} sf_none n h =
    let P : ℕ → Type 0 = λ m. IsGroups d ts (typed xs p.term ∷ []) m rest in
    subst P (sym (zero-add (length xs))) (g_one (g_typed n h))
typed_group (sf_some g) n h = g_more g (g_typed n h)

pub closed_holds : (k : Stack) (m : Mark) {p : Part} {z : Sign} {all vs us : List Leaf}
    → Opened all k vs → Finished k vs p (leaf m z (closing k) 0 ∷ us) → Then all (closed k m p z) us
closed_holds (right a k) m (o_right o pl i) (fin_term _ h) = closed_holds k m o (fin_term pl (t_arrow i h))
closed_holds (body (of_product x k) gs n) m (o_product (bi_product o pl) i) (fin_term _ h) = closed_holds k m o (fin_term pl (t_forall i h))
closed_holds (body (of_function x k) gs n) m (o_function (bi_function o pl) i) (fin_term _ h) = closed_holds k m o (fin_term pl (t_fun i h))
closed_holds (lone b xs) m (o_lone o q n) (fin_term _ h) = lone_holds m o n h
closed_holds (inside b x k) Close (o_inside o a) (fin_term _ h) = he_have o a (r_atom (a_bracket h))
closed_holds (inside b x k) Colon (o_inside o a) (fin_term _ h) = he_want (o_casting o a h) (ah_first tt)
closed_holds (casting b x t k) Close (o_casting o a i) (fin_term _ h) = he_have o a (r_atom (a_cast i h))
closed_holds (group_type b gs n xs) Close (o_group o g i) (fin_term _ h) = he_groups o (li_some (typed_group g i h))
closed_holds (axiom_type x n) End o_axiom (fin_term _ h) = he_done (s_axiom h)
closed_holds (definition_type x n gs c) Becomes (o_definition_type i) (fin_term _ h) = he_want (o_definition i (stated h)) (ah_first tt)
closed_holds (definition_body x n gs c t) End (o_definition i s) (fin_term _ h) = he_done (s_definition i s h)
closed_holds (field_type r fs f) Semicolon (o_field o i) (fin_term _ h) = he_fields o (f_more i h)
closed_holds (field_type r fs f) Unbrace (o_field o i) (fin_term _ h) = record_sentence o (f_last i h)
closed_holds (instance_value i f k ws) End (o_instance (inf o) a) (fin_term _ h) = he_done (s_instance o a h)
closed_holds (build_value i f k ws) End (o_build (inf o)) (fin_built h) = he_done (s_build o h)
closed_holds (build_value i f k ws) End o (fin_term pl h) = absurd pl
closed_holds (carrier_found x s) End o_found (fin_found h) = he_done (s_find h)
closed_holds (carrier_found x s) End o (fin_term pl h) = absurd pl
closed_holds (body (of_definition x n) gs c) m o h = tt
closed_holds (inside b x k) _ o h = tt
closed_holds (casting b x t k) _ o h = tt
closed_holds (group_type b gs n xs) _ o h = tt
closed_holds (axiom_type x n) _ o h = tt
closed_holds (definition_type x n gs c) _ o h = tt
closed_holds (definition_body x n gs c t) _ o h = tt
closed_holds (field_type r fs f) _ o h = tt
closed_holds (instance_value i f k ws) _ o h = tt
closed_holds (build_value i f k ws) _ o h = tt
closed_holds (carrier_found x s) _ o h = tt
