-- The reader goes through each sentence of the grammar.
use Rattle.std.proofs.Common.{◌≡◌, ℕ, Bool, false, List, [], ◌∷◌, ◌++◌, Option, Some, None, refl, ap, sym, subst}
use Rattle.hb_base.specs.declared.span.Span.{Span}
use Rattle.hb_raw.specs.declared.word.Word.{Word}
use Rattle.hb_raw.specs.declared.word.Item.{Item}
use Rattle.hb_raw.specs.Preterm.{Preterm, Group}
use Rattle.hb_raw.specs.Sentence.{instance, Sentence, sentence}
use Rattle.hb_grammar.specs.declared.mark.Mark.TheVariants.{Ident, Pair, Definition, Of, Hole, Brace, Unbrace, Colon, Becomes, Semicolon, Ampersand, End}
use Rattle.hb_grammar.specs.declared.mark.Second.TheVariants as second
use Rattle.hb_grammar.specs.Leaf.{Sign, Leaf, leaf, word, first_word}
use Rattle.hb_grammar.specs.Part.{Part}
use Rattle.hb_grammar.specs.Grammar.{Spine, with_argument, spine_part, IsGroups, g_one, g_more, IsCarrier, c_id, c_typed, item, IsItems, i_one, i_more, IsNeeds, no_needs, needs, IsOpenFields, f_none, f_more, IsFields, f_closed, f_last, IsIds, id_one, id_more, IsCondition, c_any, c_structure, IsAtNames, at_first, at_more, IsAt, at_id, at_ids, IsBuild, m_at, m_more, IsRecord, of_mixin, of_factory as a_factory, IsInstance, o_name, o_condition, IsParameters, no_parameters, parameters, IsStatement, unstated, stated, IsSentence, s_axiom, s_definition, s_record, s_builders, s_builders_of, s_end, s_structure, s_structure_and, s_instance, s_build, s_join, s_find, s_require, s_import, s_howto, s_about}
use Rattle.hb_grammar.specs.Machine.{first, making, RecordOf, InstanceOf, Stack, axiom_type, definition_type, definition_body, field_type, instance_value, build_value, carrier_found, Binding, of_definition, Listing, of_record, of_structure, Placing, of_factory, of_builder, State, begin, done, take, want, have, more, groups, items, fields, conditioned, condition_names, placing, place_names, binding_depth, item_begins, fields_begin, record_ends, carrier_begins, record_carried, builders_carried, placed, placing_argument, step, read}
use Rattle.std.proofs.Common.{zero-add}
use Rattle.hb_grammar.proofs.Leads.{Leads, stay, move, on_to, Starts, st_alone, st_making, st_placed, Filled, fi_bares, fi_groups, Groups, term, arg, group_lead, close_lead, Is, it_is}

carrier_lead : {us rest : List Leaf} {w : Word} → IsCarrier us w rest → (f : Word → State) → Leads (carrier_begins f) us (f w) rest
carrier_lead c_id f = move refl refl stay
carrier_lead c_typed f = move refl refl (move refl refl (move refl refl (move refl refl (move refl refl stay))))

-- one more item
and_lead : (l : Listing) (is : List Item) {y f c : Sign} {rest : List Leaf}
    → Leads (items l is) (leaf Ampersand y 0 0 ∷ (leaf Ident f 0 0 ∷ (leaf Ident c 0 0 ∷ rest))) (items l (is ++ (item f c ∷ []))) rest
and_lead (of_record b x n c) is = move refl refl (move refl refl (move refl refl stay))
and_lead (of_structure x n c) is = move refl refl (move refl refl (move refl refl stay))

items_lead : {us rest : List Leaf} {is : List Item} → IsItems us is rest → (l : Listing) → Leads (item_begins l []) us (items l is) rest
items_lead i_one l = move refl refl (move refl refl stay)
items_lead (i_more {is = is} h) l = on_to (items_lead h l) (and_lead l is)

needs_lead : {us rest : List Leaf} {is : List Item} {y : Sign} {b : Bool} {x : Span} {n c : Word} → IsNeeds us is (leaf Becomes y 0 0 ∷ rest)
    → Leads (record_carried b x n c) us (fields_begin (record { kind = b; start = x; name = n; carrier = c; items = is })) rest
needs_lead no_needs = move refl refl stay
needs_lead {b = b} {x = x} {n = n} {c = c} (needs h) = move refl refl (on_to (items_lead h (of_record b x n c)) (move refl refl stay))

field_lead : {r : RecordOf} {fs : List (Word × Preterm)} {f y : Sign} {us rest : List Leaf} {s : State}
    → Leads (want first (field_type r fs (word f))) us s rest
    → Leads (fields r fs) (leaf Ident f 0 0 ∷ (leaf Colon y 0 0 ∷ us)) s rest
field_lead h = move refl refl (move refl refl h)

open_fields_lead : {r : RecordOf} {us rest : List Leaf} {fs : List (Word × Preterm)} → IsOpenFields us fs rest
    → Leads (fields_begin r) us (fields r fs) rest
open_fields_lead f_none = move refl refl stay
open_fields_lead {r = r} (f_more {f = f} {fs = fs} h i) =
    let t = term i (field_type r fs (word f)) it_is in
    on_to (open_fields_lead h) (field_lead (on_to t.leads (close_lead Semicolon tt t.ready refl stay)))

fields_lead : {r : RecordOf} {us rest : List Leaf} {fs : List (Word × Preterm)} → IsFields us fs rest
    → Leads (fields_begin r) us (record_ends r fs) rest
fields_lead (f_closed h) = on_to (open_fields_lead h) (move refl refl stay)
fields_lead {r = r} (f_last {f = f} {fs = fs} h i) =
    let t = term i (field_type r fs (word f)) it_is in
    on_to (open_fields_lead h) (field_lead (on_to t.leads (close_lead Unbrace tt t.ready refl stay)))

ids_lead : {i : InstanceOf} {us rest : List Leaf} {ws : List Word} → IsIds us ws rest
    → Leads (take 1 Ident (λ w. condition_names i (word w ∷ []))) us (condition_names i ws) rest
ids_lead id_one = move refl refl stay
ids_lead (id_more h) = on_to (ids_lead h) (move refl refl stay)

condition_lead : {x : Span} {n : Option Word} {cs ds : List (Word × Option Word)} {us rest : List Leaf} → IsCondition us ds rest
    → Leads (conditioned (record { start = x; name = n; conditions = cs })) us (conditioned (record { start = x; name = n; conditions = cs ++ ds })) rest
condition_lead (c_any h) = move refl refl (on_to (ids_lead h) (move refl refl (move refl refl (move refl refl stay))))
condition_lead (c_structure h) = move refl refl (on_to (ids_lead h) (move refl refl (move refl refl (move refl refl stay))))

at_names_lead : {p : Placing} {x : Span} {us rest : List Leaf} {k : Word} {ws : List Word} → IsAtNames us k ws rest
    → Leads (take 1 Ident (λ k. place_names p x (word k) [])) us (place_names p x k ws) rest
at_names_lead at_first = move refl refl stay
at_names_lead (at_more h) = on_to (at_names_lead h) (move refl refl stay)

at_lead : {us rest : List Leaf} {k : Word} {ws : List Word} {s : Span} (p : Placing) → IsAt (placing_argument p) us k ws s rest
    → Leads (placing p) us (placed p k ws s) rest
at_lead p at_id = move refl refl stay
at_lead p (at_ids h) = move refl refl (on_to (at_names_lead h) (move refl refl stay))

-- a builder with its arguments so far
data Made : Stack → Spine → Bool → State → Type 0 where
  ma_placed : {k : Stack} {s : Spine} → Made k s false (more (making s) k)
  ma_more : {k : Stack} {s : Spine} {a : Part} {e : Bool} → Made k (with_argument s a) e (have (making s) a e k)

made_starts : {k : Stack} {s : Spine} {e : Bool} {t : State} → Made k s e t → Starts t (making s) e k
made_starts ma_placed = st_placed
made_starts ma_more = st_making

record Builds (i : InstanceOf) (us : List Leaf) (f k : Word) (ws : List Word) (e : Bool) (s : Spine) (rest : List Leaf) : Type 0 where
  state : State
  made : Made (build_value i f k ws) s e state
  leads : Leads (take 0 (Pair second.Build) (λ f. placing (of_builder i (first_word f) (word f)))) us state rest

build_lead : {us rest : List Leaf} {f k : Word} {ws : List Word} {e : Bool} {s : Spine} → IsBuild us f k ws e s rest
    → (i : InstanceOf) → Builds i us f k ws e s rest
build_lead (m_at {f = f} h) i =
    record { state = _; made = ma_placed; leads = move refl refl (at_lead (of_builder i (first_word f) (word f)) h) }
build_lead (m_more {g = g} {f = f} {k = k} {ws = ws} {s = s} {a = a} h j) i =
    let b = build_lead h i in
    record {
      state = have (making s) a g (build_value i f k ws);
      made = ma_more;
      leads = on_to b.leads (arg j (build_value i f k ws) (made_starts b.made) it_is it_is);
    }

made_ends : {i : InstanceOf} {f k : Word} {ws : List Word} {s : Spine} {e : Bool} {t : State} {z : Sign} {rest : List Leaf}
    → Made (build_value i f k ws) s e t
    → Leads t (leaf End z 0 0 ∷ rest) (done (sentence i.start (instance i.name i.conditions f k ws (spine_part s).term))) rest
made_ends ma_placed = move refl refl stay
made_ends ma_more = move refl refl stay

record_lead : {b : Bool} {ts us : List Leaf} {x n : Sign} → IsRecord b ts x n us
    → Leads begin ts (carrier_begins (record_carried b x.place (word n))) us
record_lead of_mixin = move refl refl (move refl refl (move refl refl stay))
record_lead a_factory = move refl refl (move refl refl (move refl refl stay))

instance_lead : {ts us : List Leaf} {x : Sign} {n : Option Word} {cs : List (Word × Option Word)} → IsInstance ts x n cs us
    → Leads begin ts (conditioned (record { start = x.place; name = n; conditions = cs })) us
instance_lead (o_name {m = Ident} p) = move refl refl (move refl refl (move refl refl stay))
instance_lead (o_name {m = Hole} p) = move refl refl (move refl refl (move refl refl stay))
instance_lead (o_name {m = _} p) = absurd p
instance_lead (o_condition h i) = on_to (instance_lead h) (condition_lead i)

parameters_lead : {ts rest : List Leaf} {gs : List Group} {n d : ℕ} → IsGroups d ts gs n rest
    → (b : Binding) → Is (binding_depth b) d → Groups b gs n (groups b [] 0) ts rest
parameters_lead (g_one {m = c} {g = g} h) b e =
    let j = group_lead h b e {gs = []} (fi_groups refl) in
    let P : ℕ → Type 0 = λ x. Filled b (g ∷ []) x j.state in
    record { state = j.state; filled = subst P (zero-add c) j.filled; leads = j.leads }
parameters_lead (g_more h i) b e =
    let g = parameters_lead h b e in
    let j = group_lead i b e g.filled in
    record { state = j.state; filled = j.filled; leads = on_to g.leads j.leads }

all_parameters : {ts rest : List Leaf} {gs : List Group} {n : ℕ} {x : Span} {w : Word} → IsParameters ts gs n rest
    → Groups (of_definition x w) gs n (groups (of_definition x w) [] 0) ts rest
all_parameters no_parameters = record { state = _; filled = fi_groups refl; leads = stay }
all_parameters {x = x} {w = w} (parameters h) = parameters_lead h (of_definition x w) it_is

becomes_step : {x : Span} {w : Word} {gs : List Group} {n : ℕ} {s : State} {y : Sign} → Filled (of_definition x w) gs n s
    → (step s Becomes y ≡ Some (want first (definition_body x w gs n None))) × (read s Becomes y ≡ leaf Becomes y 0 0)
becomes_step (fi_bares e f) = (cc, refl)
becomes_step {x = x} {w = w} {gs = gs} (fi_groups e) = (ap (λ m. Some (want first (definition_body x w gs m None))) (sym e), refl)

stated_step : {x : Span} {w : Word} {gs : List Group} {n : ℕ} {s : State} {y : Sign} → Filled (of_definition x w) gs n s
    → (step s Colon y ≡ Some (want first (definition_type x w gs n))) × (read s Colon y ≡ leaf Colon y 0 0)
stated_step (fi_bares e f) = (cc, refl)
stated_step {x = x} {w = w} {gs = gs} (fi_groups e) = (ap (λ m. Some (want first (definition_type x w gs m))) (sym e), refl)

statement_lead : {x : Span} {w : Word} {gs : List Group} {n : ℕ} {s : State} {ts rest : List Leaf} {t : Option Preterm}
    → IsStatement n ts t rest → Filled (of_definition x w) gs n s → Leads s ts (want first (definition_body x w gs n t)) rest
statement_lead (unstated {y = y}) f = let q = becomes_step {y = y} f in move q.0 q.1 stay
statement_lead {x = x} {w = w} {gs = gs} {n = n} (stated {x = c} h) f =
    let q = stated_step {y = c} f in
    let t = term h (definition_type x w gs n) it_is in
    move q.0 q.1 (on_to t.leads (close_lead Becomes tt t.ready refl stay))

structure_lead : {x d n y a c o : Sign} {us rest : List Leaf} {s : State}
    → Leads (item_begins (of_structure x.place (word n) (word c)) []) us s rest
    → Leads begin (leaf (Pair second.Structure) x 0 0 ∷ (leaf Definition d 0 0 ∷ (leaf Ident n 0 0 ∷ (leaf Becomes y 0 0
    ∷ (leaf Brace a 0 0 ∷ (leaf Ident c 0 0 ∷ (leaf Of o 0 0 ∷ us))))))) s rest
structure_lead h = move refl refl (move refl refl (move refl refl (move refl refl (move refl refl (move refl refl (move refl refl h))))))

-- from the beginning to the end of a sentence
pub sentence_lead : {ts rest : List Leaf} {c : Sentence} → IsSentence ts c rest → Leads begin ts (done c) rest
sentence_lead (s_axiom {x = x} {n = n} h) =
    let t = term h (axiom_type x.place (word n)) it_is in
    move refl refl (move refl refl (move refl refl (on_to t.leads (close_lead End tt t.ready refl stay))))
sentence_lead (s_definition {x = x} {n = n} {k = k} {gs = gs} {t = t} h i j) =
    let p = all_parameters {x = x.place} {w = word n} h in
    let b = term j (definition_body x.place (word n) gs k t) it_is in
    move refl refl (move refl refl (on_to p.leads (on_to (statement_lead i p.filled)
    (on_to b.leads (close_lead End tt b.ready refl stay)))))
sentence_lead (s_record {b = b} {x = x} {n = n} h c i f) =
    on_to (record_lead h) (on_to (carrier_lead c (record_carried b x.place (word n)))
    (on_to (needs_lead i) (on_to (fields_lead f) (move refl refl stay))))
sentence_lead (s_builders {x = x} h) =
    move refl refl (move refl refl (on_to (carrier_lead h (builders_carried x.place))
    (move refl refl (move refl refl (move refl refl (move refl refl (move refl refl (move refl refl (move refl refl stay)))))))))
sentence_lead (s_builders_of {x = x} h) =
    move refl refl (move refl refl (on_to (carrier_lead h (builders_carried x.place))
    (move refl refl (move refl refl (move refl refl (move refl refl stay))))))
sentence_lead s_end = move refl refl (move refl refl stay)
sentence_lead (s_structure {x = x} {n = n} {c = c} h) =
    structure_lead (on_to (items_lead h (of_structure x.place (word n) (word c))) (move refl refl (move refl refl stay)))
sentence_lead (s_structure_and {x = x} {n = n} {c = c} h) =
    structure_lead (on_to (items_lead h (of_structure x.place (word n) (word c))) (move refl refl (move refl refl (move refl refl stay))))
sentence_lead (s_instance {x = x} {f = f} {n = n} {cs = cs} {k = k} {ws = ws} h a i) =
    let o : InstanceOf = record { start = x.place; name = n; conditions = cs } in
    let t = term i (instance_value o (word f) k ws) it_is in
    on_to (instance_lead h) (move refl refl (move refl refl (on_to (at_lead (of_factory o (word f)) a)
    (move refl refl (on_to t.leads (close_lead End tt t.ready refl stay))))))
sentence_lead (s_build {x = x} {n = n} {cs = cs} h i) =
    let o : InstanceOf = record { start = x.place; name = n; conditions = cs } in
    let b = build_lead i o in
    on_to (instance_lead h) (move refl refl (on_to b.leads (made_ends b.made)))
sentence_lead s_join = move refl refl (move refl refl (move refl refl (move refl refl stay)))
sentence_lead (s_find {x = x} {s = s} h) =
    move refl refl (move refl refl (on_to (arg h (carrier_found x.place (word s)) st_alone it_is it_is) (move refl refl stay)))
sentence_lead s_require = move refl refl (move refl refl (move refl refl stay))
sentence_lead s_import = move refl refl (move refl refl (move refl refl (move refl refl stay)))
sentence_lead s_howto = move refl refl (move refl refl (move refl refl (move refl refl stay)))
sentence_lead s_about = move refl refl (move refl refl (move refl refl stay))
