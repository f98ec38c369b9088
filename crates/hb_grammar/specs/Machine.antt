-- The reader of sentences, token by token: it knows no fault but that there is no way on.
use Rattle.std.specs.Prelude.{ℕ, ◌+◌, Bool, true, false, cond, eqb, List, [], ◌∷◌, ◌++◌, length, map, Option, Some, None}
use Rattle.hb_base.specs.declared.name_id.NameId.{NameId}
use Rattle.hb_base.specs.declared.span.Span.{Span}
use Rattle.hb_raw.specs.declared.word.Word.{Word}
use Rattle.hb_raw.specs.declared.word.Item.{Item}
use Rattle.hb_raw.specs.Preterm.{Preterm, Group, untyped, typed, groups_of}
use Rattle.hb_raw.specs.Sentence.{Act, axiom_of, definition, builders, section_end, structure, instance, join, find, require, howto, about, Sentence, sentence}
use Rattle.hb_grammar.specs.declared.mark.Mark.{Mark}
use Rattle.hb_grammar.specs.declared.mark.Mark.TheVariants.{Ident, Pair, Axiom, Context, Definition, Import, Prop, Record, Require, Universe, Forall, Fun, Of, Hole, Number, Open, Close, Brace, Unbrace, Colon, Becomes, Gives, Arrow, Comma, Semicolon, Ampersand, At, Project, End, Other}
use Rattle.hb_grammar.specs.declared.mark.Second.{Second}
use Rattle.hb_grammar.specs.declared.mark.Second.TheVariants as second
use Rattle.hb_grammar.specs.Leaf.{Sign, Leaf, leaf, late, word, first_word, bound}
use Rattle.hb_grammar.specs.Part.{Part, name_part, bare_part, hole_part, prop_part, type_part, level_part, bracketed, cast_part, projected_part, arrow_part, product_part, function_part, joined}
use Rattle.hb_grammar.specs.Grammar.{Bounds, Spine, head_spine, with_argument, spine_part, arguments, item, conditions, carrier_part, record_act}

abbrev pub second_code : Second → ℕ
second_code second.Plain = 40
second_code second.Build = 41
second_code second.Carried = 42
second_code second.Mixin = 43
second_code second.Factory = 44
second_code second.Builders = 45
second_code second.End = 46
second_code second.Structure = 47
second_code second.Instance = 48
second_code second.Join = 49
second_code second.Find = 50
second_code second.Howto = 51
second_code second.About = 52

abbrev pub code : Mark → ℕ
code Ident = 0
code (Pair s) = second_code s
code Axiom = 1
code Context = 2
code Definition = 3
code Import = 4
code Prop = 5
code Record = 6
code Require = 7
code Universe = 8
code Forall = 9
code Fun = 10
code Of = 11
code Hole = 12
code Number = 13
code Open = 14
code Close = 15
code Brace = 16
code Unbrace = 17
code Colon = 18
code Becomes = 19
code Gives = 20
code Arrow = 21
code Comma = 22
code Semicolon = 23
code Ampersand = 24
code At = 25
code Project = 26
code End = 27
code Other = 28

abbrev pub same : Mark → Mark → Bool
same a b = eqb (code a) (code b)

-- what stands before the argument that is read: nothing, a function with arguments, nothing that
-- takes arguments, or the builder of an instance, which stands alone with its arguments
pub data Before : Type 0 where
  first : Before
  behind : Spine → Before
  alone : Before
  making : Spine → Before

abbrev pub filled : Before → Part → Spine
filled first a = head_spine a
filled (behind s) a = with_argument s a
filled alone a = head_spine a
filled (making s) a = with_argument s a

abbrev pub next : Before → Part → Before
next (making s) a = making (with_argument s a)
next b a = behind (filled b a)

abbrev pub count : Before → ℕ
count first = 0
count (behind s) = arguments s + 1
count alone = 0
count (making s) = arguments s + 1

-- a mixin or factory up to its fields
pub record RecordOf : Type 0 where
  pub kind : Bool
  pub start : Span
  pub name : Word
  pub carrier : Word
  pub items : List Item

-- an instance up to its factory
pub record InstanceOf : Type 0 where
  pub start : Span
  pub name : Option Word
  pub conditions : List (Word × Option Word)

-- what is open around a term, the innermost first, down to the sentence
mutual
  pub data Stack : Type 0 where
    -- behind `a ->`
    right : Part → Stack → Stack
    -- behind `f (` and `f (t :`
    inside : Before → Span → Stack → Stack
    casting : Before → Span → Part → Stack → Stack
    -- the type of a lone list of binders, of a group in its brackets, and what they bind
    lone : Binding → Bounds → Stack
    group_type : Binding → List Group → ℕ → Bounds → Stack
    body : Binding → List Group → ℕ → Stack
    axiom_type : Span → Word → Stack
    definition_type : Span → Word → List Group → ℕ → Stack
    definition_body : Span → Word → List Group → ℕ → Option Preterm → Stack
    field_type : RecordOf → List (Word × Preterm) → Word → Stack
    instance_value : InstanceOf → Word → Word → List Word → Stack
    build_value : InstanceOf → Word → Word → List Word → Stack
    carrier_found : Span → Word → Stack

  -- what has binders: `forall`, `fun`, or a Definition
  pub data Binding : Type 0 where
    of_product : Span → Stack → Binding
    of_function : Span → Stack → Binding
    of_definition : Span → Word → Binding

-- what has items: a mixin or factory, or a structure
pub data Listing : Type 0 where
  of_record : (kind : Bool) → (start : Span) → (name carrier : Word) → Listing
  of_structure : (start : Span) → (name carrier : Word) → Listing

-- what has a carrier with arguments: an instance with a factory, or with a builder
pub data Placing : Type 0 where
  of_factory : InstanceOf → Word → Placing
  -- the factory's word, and the whole
  of_builder : InstanceOf → Word → Word → Placing

pub data State : Type 0 where
  begin : State
  done : Sentence → State
  -- one token of a kind, at a nesting, or one of two
  take : ℕ → Mark → (Sign → State) → State
  either : ℕ → Mark → (Sign → State) → ℕ → Mark → (Sign → State) → State
  -- a term, or an argument, has to come
  want : Before → Stack → State
  -- an argument was read; whether it is a `Type` without a level
  have : Before → Part → Bool → Stack → State
  -- behind the carrier of a builder
  more : Before → Stack → State
  -- behind `@`; behind `Type @`; behind `.(`
  bare_begun : Before → Span → Stack → State
  universe_at : Before → Part → Span → Stack → State
  projecting : Before → Part → Stack → State
  -- binders: none so far, bare names, groups, and inside a group
  binders : Binding → State
  bares : Binding → Bounds → State
  groups : Binding → List Group → ℕ → State
  group_opened : Binding → List Group → ℕ → State
  group_names : Binding → List Group → ℕ → Bounds → State
  -- loops of commands
  items : Listing → List Item → State
  fields : RecordOf → List (Word × Preterm) → State
  conditioned : InstanceOf → State
  condition_names : InstanceOf → List Word → State
  placing : Placing → State
  place_names : Placing → Span → Word → List Word → State

abbrev mutual
  -- how many bound names, arrows and brackets are around a term
  pub depth : Stack → ℕ
  depth (right a k) = depth k + 1
  depth (inside b x k) = depth k + 1
  depth (casting b x t k) = depth k + 1
  depth (lone b xs) = binding_depth b
  depth (group_type b gs n xs) = binding_depth b + n + 1
  depth (body b gs n) = binding_depth b + n
  depth (definition_type x n gs c) = c
  depth (definition_body x n gs c t) = c
  depth _ = 0

  pub binding_depth : Binding → ℕ
  binding_depth (of_product x k) = depth k
  binding_depth (of_function x k) = depth k
  binding_depth (of_definition x n) = 0

abbrev mutual
  -- the nesting of what closes a term
  pub closing : Stack → ℕ
  closing (right a k) = closing k
  closing (inside b x k) = depth k + 1
  closing (casting b x t k) = depth k + 1
  closing (lone b xs) = binding_depth b
  closing (group_type b gs n xs) = binding_depth b + 1
  closing (body b gs n) = binding_closing b
  closing _ = 0

  pub binding_closing : Binding → ℕ
  binding_closing (of_product x k) = closing k
  binding_closing (of_function x k) = closing k
  binding_closing (of_definition x n) = 0

-- rows of tokens
abbrev pub finishes : Span → Act → State
finishes x a = take 0 End (λ _. done (sentence x a))

abbrev pub item_begins : Listing → List Item → State
item_begins l is = take 0 Ident (λ f. take 0 Ident (λ c. items l (is ++ (item f c ∷ []))))

abbrev pub fields_begin : RecordOf → State
fields_begin r = take 0 Brace (λ _. fields r [])

abbrev pub record_ends : RecordOf → List (Word × Preterm) → State
record_ends r fs = finishes r.start (record_act r.kind r.name r.carrier r.items fs)

abbrev pub carrier_begins : (Word → State) → State
carrier_begins f =
    either 0 Ident (λ w. f (word w))
    1 Open (λ _. take 1 Ident (λ w. take 1 Colon (λ _. take 1 Universe (λ _. take 1 Close (λ _. f (word w))))))

abbrev pub record_carried : Bool → Span → Word → Word → State
record_carried b x n c =
    either 0 Of (λ _. item_begins (of_record b x n c) [])
    0 Becomes (λ _. fields_begin (record { kind = b; start = x; name = n; carrier = c; items = [] }))

abbrev pub record_begins : Bool → Span → State
record_begins b x = take 0 Record (λ _. take 0 Ident (λ n. carrier_begins (record_carried b x (word n))))

abbrev pub builders_carried : Span → Word → State
builders_carried x c =
    either 1 Open (λ _. take 1 Ident (λ v. take 1 Colon (λ _. take 1 Ident (λ f. take 1 Ident (λ k. take 1 Close (λ _.
    finishes x (builders c (Some (word v)) (item f k))))))))
    0 Of (λ _. take 0 Ident (λ f. take 0 Ident (λ k. finishes x (builders c None (item f k)))))

abbrev pub structure_ends : Span → Word → Word → List Item → State
structure_ends x n c is = finishes x (structure n c is)

abbrev pub structure_begins : Span → State
structure_begins x =
    take 0 Definition (λ _. take 0 Ident (λ n. take 0 Becomes (λ _. take 0 Brace (λ _. take 0 Ident (λ c.
    take 0 Of (λ _. item_begins (of_structure x (word n) (word c)) []))))))

abbrev pub instance_named : Span → Option Word → State
instance_named x n = conditioned (record { start = x; name = n; conditions = [] })

abbrev pub instance_begins : Span → State
instance_begins x =
    take 0 Definition (λ _. either 0 Ident (λ n. instance_named x (Some (word n))) 0 Hole (λ n. instance_named x None))

abbrev pub with_condition : InstanceOf → List Word → Option Word → State
with_condition i ws s =
    conditioned (record { start = i.start; name = i.name; conditions = i.conditions ++ conditions ws s })

abbrev pub condition_typed : InstanceOf → List Word → State
condition_typed i ws =
    either 1 Universe (λ _. take 1 Close (λ _. with_condition i ws None))
    1 (Pair second.Carried) (λ s. take 1 Close (λ _. with_condition i ws (Some (first_word s))))

-- behind a carrier with its arguments
abbrev pub placed : Placing → Word → List Word → Span → State
placed (of_factory i f) k ws s = take 0 Becomes (λ _. want first (instance_value i f k ws))
placed (of_builder i f b) k ws s =
    more (making (with_argument (head_spine (name_part b)) (carrier_part k ws s))) (build_value i f k ws)

abbrev pub placing_argument : Placing → ℕ
placing_argument (of_factory i f) = 0
placing_argument (of_builder i f b) = 1

abbrev pub requires_begin : Span → State
requires_begin x =
    either 0 Ident (λ n. finishes x (require (word n)))
    0 Import (λ _. take 0 Ident (λ n. finishes x (require (word n))))

abbrev pub words_begin : Second → Span → Option State
words_begin second.Mixin x = Some (record_begins false x)
words_begin second.Factory x = Some (record_begins true x)
words_begin second.Builders x = Some (take 0 Context (λ _. carrier_begins (builders_carried x)))
words_begin second.End x = Some (finishes x section_end)
words_begin second.Structure x = Some (structure_begins x)
words_begin second.Instance x = Some (instance_begins x)
words_begin second.Join x = Some (take 0 Ident (λ a. take 0 Ident (λ b. finishes x (join (word a) (word b)))))
words_begin second.Find x = Some (take 0 Ident (λ s. want alone (carrier_found x (word s))))
words_begin second.Howto x = Some (take 0 Ident (λ a. take 0 Ident (λ b. finishes x (howto (word a) (word b)))))
words_begin second.About x = Some (take 0 Ident (λ n. finishes x (about (word n))))
words_begin _ x = None

-- the first word of a sentence
abbrev pub begins : Mark → Sign → Option State
begins Axiom x = Some (take 0 Ident (λ n. take 0 Colon (λ _. want first (axiom_type x.place (word n)))))
begins Definition x = Some (take 0 Ident (λ n. groups (of_definition x.place (word n)) [] 0))
begins Require x = Some (requires_begin x.place)
begins (Pair s) x = words_begin s x.place
begins _ x = None

-- the first token of an argument
abbrev pub argument : Before → Stack → Mark → Sign → Option State
argument b k Ident w = Some (have b (name_part (word w)) false k)
argument b k (Pair s) w = Some (have b (name_part (word w)) false k)
argument b k At w = Some (bare_begun b w.place k)
argument b k Hole w = Some (have b (hole_part w.place) false k)
argument b k Prop w = Some (have b (prop_part w.place) false k)
argument b k Universe w = Some (have b (type_part w.place) true k)
argument b k Open w = Some (want first (inside b w.place k))
argument b k _ w = None

-- the first token of a term
abbrev pub term_begins : Before → Stack → Mark → Sign → Option State
term_begins first k Forall x = Some (binders (of_product x.place k))
term_begins first k Fun x = Some (binders (of_function x.place k))
term_begins b k m w = argument b k m w

abbrev mutual
  -- the token behind a term
  pub closed : Stack → Mark → Part → Sign → Option State
  closed (right a k) m p z = closed k m (arrow_part a p) z
  closed (body b gs n) m p z = closed_body b gs m p z
  closed (lone b xs) m p z = closed_lone b xs m p
  closed (inside b x k) Close p z = Some (have b (bracketed x p z.place) false k)
  closed (inside b x k) Colon p z = Some (want first (casting b x p k))
  closed (casting b x t k) Close p z = Some (have b (cast_part x t p z.place) false k)
  closed (group_type b gs n xs) Close p z = Some (groups b (gs ++ (typed xs p.term ∷ [])) (n + length xs))
  closed (axiom_type x n) End p z = Some (done (sentence x (axiom_of n p.term)))
  closed (definition_type x n gs c) Becomes p z = Some (want first (definition_body x n gs c (Some p.term)))
  closed (definition_body x n gs c t) End p z =
      Some (done (sentence x (definition n (groups_of gs) t p.term)))
  closed (field_type r fs f) Semicolon p z = Some (fields r (fs ++ ((f, p.term) ∷ [])))
  closed (field_type r fs f) Unbrace p z = Some (record_ends r (fs ++ ((f, p.term) ∷ [])))
  closed (instance_value i f k ws) End p z =
      Some (done (sentence i.start (instance i.name i.conditions f k ws p.term)))
  closed (build_value i f k ws) End p z =
      Some (done (sentence i.start (instance i.name i.conditions f k ws p.term)))
  closed (carrier_found x s) End p z = Some (done (sentence x (find s p.term)))
  closed k m p z = None

  pub closed_body : Binding → List Group → Mark → Part → Sign → Option State
  closed_body (of_product x k) gs m p z = closed k m (product_part x gs p) z
  closed_body (of_function x k) gs m p z = closed k m (function_part x gs p) z
  closed_body (of_definition x n) gs m p z = None

  pub closed_lone : Binding → Bounds → Mark → Part → Option State
  closed_lone (of_product x k) xs Comma p =
      Some (want first (body (of_product x k) (typed xs p.term ∷ []) (length xs)))
  closed_lone (of_function x k) xs Gives p =
      Some (want first (body (of_function x k) (typed xs p.term ∷ []) (length xs)))
  closed_lone b xs m p = None

-- an arrow behind a term without one
abbrev pub arrowed : Before → Part → Stack → Option State
arrowed first a k = Some (want first (right (spine_part (filled first a)) k))
arrowed (behind s) a k = Some (want first (right (spine_part (filled (behind s) a)) k))
arrowed _ a k = None

-- the token behind an argument that isn't `.(`, `->` or an `@` behind `Type`
abbrev pub applied_or_closed : Before → Part → Stack → Mark → Sign → Option State
applied_or_closed alone a k Ident w = None
applied_or_closed alone a k (Pair s) w = None
applied_or_closed alone a k At w = None
applied_or_closed alone a k Hole w = None
applied_or_closed alone a k Prop w = None
applied_or_closed alone a k Universe w = None
applied_or_closed alone a k Open w = None
applied_or_closed b a k Ident w = argument (next b a) k Ident w
applied_or_closed b a k (Pair s) w = argument (next b a) k (Pair s) w
applied_or_closed b a k At w = argument (next b a) k At w
applied_or_closed b a k Hole w = argument (next b a) k Hole w
applied_or_closed b a k Prop w = argument (next b a) k Prop w
applied_or_closed b a k Universe w = argument (next b a) k Universe w
applied_or_closed b a k Open w = argument (next b a) k Open w
applied_or_closed b a k m w = closed k m (spine_part (filled b a)) w

abbrev pub after_argument : Before → Part → Bool → Stack → Mark → Sign → Option State
after_argument b a e k Project w = Some (projecting b a k)
after_argument b a e k Arrow w = arrowed b a k
after_argument b a true k At w = Some (universe_at b a w.place k)
after_argument b a e k m w = applied_or_closed b a k m w

abbrev pub after_carrier : Before → Stack → Mark → Sign → Option State
after_carrier (making s) k End w = closed k End (spine_part s) w
after_carrier (making s) k m w = argument (making s) k m w
after_carrier b k m w = None

abbrev pub bare_named : Before → Span → Stack → Mark → Sign → Option State
bare_named b x k Ident w = Some (have b (bare_part x (word w)) false k)
bare_named b x k (Pair s) w = Some (have b (bare_part x (word w)) false k)
bare_named b x k _ w = None

abbrev pub level_begins : Before → Part → Stack → State
level_begins b a k =
    take (depth k) Number (λ n. take (depth k) Unbrace (λ z. have b (level_part a n.value z.place) false k))

abbrev pub after_universe_at : Before → Part → Span → Stack → Mark → Sign → Option State
after_universe_at b a x k Brace w = Some (level_begins b a k)
after_universe_at alone a x k _ w = None
after_universe_at b a x k m w = bare_named (next b a) x k m w

abbrev pub projected_name : Before → Part → Stack → NameId → State
projected_name b a k n = take (depth k) Close (λ z. have b (projected_part a n z.place) false k)

abbrev pub projection_named : Before → Part → Stack → Mark → Sign → Option State
projection_named b a k Ident w = Some (projected_name b a k w.whole)
projection_named b a k (Pair s) w = Some (projected_name b a k w.whole)
projection_named b a k _ w = None

-- bare names as groups
abbrev pub bare_groups : Bounds → List Group
bare_groups xs = map (λ x. untyped (x ∷ [])) xs

abbrev pub first_binder : Binding → Mark → Sign → Option State
first_binder b Ident w = Some (bares b (bound Ident w ∷ []))
first_binder b Hole w = Some (bares b (bound Hole w ∷ []))
first_binder b Open w = Some (group_opened b [] 0)
first_binder b _ w = None

-- what ends a list of binders
abbrev pub bound_to : Binding → List Group → ℕ → Mark → Option State
bound_to (of_product x k) gs n Comma = Some (want first (body (of_product x k) gs n))
bound_to (of_function x k) gs n Gives = Some (want first (body (of_function x k) gs n))
bound_to (of_definition x c) gs n Colon = Some (want first (definition_type x c gs n))
bound_to (of_definition x c) gs n Becomes = Some (want first (definition_body x c gs n None))
bound_to b gs n _ = None

abbrev pub after_bares : Binding → Bounds → Mark → Sign → Option State
after_bares b xs Ident w = Some (bares b (xs ++ (bound Ident w ∷ [])))
after_bares b xs Hole w = Some (bares b (xs ++ (bound Hole w ∷ [])))
after_bares b xs Open w = Some (group_opened b (bare_groups xs) (length xs))
after_bares (of_product x k) xs Colon w = Some (want first (lone (of_product x k) xs))
after_bares (of_function x k) xs Colon w = Some (want first (lone (of_function x k) xs))
after_bares b xs m w = bound_to b (bare_groups xs) (length xs) m

abbrev pub after_groups : Binding → List Group → ℕ → Mark → Sign → Option State
after_groups b gs n Ident w = Some (groups b (gs ++ (untyped (bound Ident w ∷ []) ∷ [])) (n + 1))
after_groups b gs n Hole w = Some (groups b (gs ++ (untyped (bound Hole w ∷ []) ∷ [])) (n + 1))
after_groups b gs n Open w = Some (group_opened b gs n)
after_groups b gs n m w = bound_to b gs n m

abbrev pub after_group_open : Binding → List Group → ℕ → Mark → Sign → Option State
after_group_open b gs n Ident w = Some (group_names b gs n (bound Ident w ∷ []))
after_group_open b gs n Hole w = Some (group_names b gs n (bound Hole w ∷ []))
after_group_open b gs n _ w = None

abbrev pub after_group_names : Binding → List Group → ℕ → Bounds → Mark → Sign → Option State
after_group_names b gs n xs Ident w = Some (group_names b gs n (xs ++ (bound Ident w ∷ [])))
after_group_names b gs n xs Hole w = Some (group_names b gs n (xs ++ (bound Hole w ∷ [])))
after_group_names b gs n xs Colon w = Some (want first (group_type b gs n xs))
after_group_names b gs n xs _ w = None

abbrev pub after_items : Listing → List Item → Mark → Option State
after_items (of_record b x n c) is Ampersand = Some (item_begins (of_record b x n c) is)
after_items (of_record b x n c) is Becomes =
    Some (fields_begin (record { kind = b; start = x; name = n; carrier = c; items = is }))
after_items (of_structure x n c) is Ampersand =
    Some (either 0 Ident (λ f. take 0 Ident (λ k. items (of_structure x n c) (is ++ (item f k ∷ []))))
    0 Unbrace (λ _. structure_ends x n c is))
after_items (of_structure x n c) is Unbrace = Some (structure_ends x n c is)
after_items l is _ = None

abbrev pub after_fields : RecordOf → List (Word × Preterm) → Mark → Sign → Option State
after_fields r fs Ident f = Some (take 0 Colon (λ _. want first (field_type r fs (word f))))
after_fields r fs Unbrace z = Some (record_ends r fs)
after_fields r fs _ w = None

abbrev pub after_conditions : InstanceOf → Mark → Option State
after_conditions i Open = Some (take 1 Ident (λ w. condition_names i (word w ∷ [])))
after_conditions i Colon = Some (take 0 Ident (λ f. placing (of_factory i (word f))))
after_conditions i Becomes = Some (take 0 (Pair second.Build) (λ f. placing (of_builder i (first_word f) (word f))))
after_conditions i _ = None

abbrev pub after_condition_names : InstanceOf → List Word → Mark → Sign → Option State
after_condition_names i ws Ident w = Some (condition_names i (ws ++ (word w ∷ [])))
after_condition_names i ws Colon w = Some (condition_typed i ws)
after_condition_names i ws _ w = None

abbrev pub after_placing : Placing → Mark → Sign → Option State
after_placing p Ident k = Some (placed p (word k) [] k.place)
after_placing p Open x = Some (take 1 Ident (λ k. place_names p x.place (word k) []))
after_placing p _ w = None

abbrev pub after_place_names : Placing → Span → Word → List Word → Mark → Sign → Option State
after_place_names p x k ws Ident w = Some (place_names p x k (ws ++ (word w ∷ [])))
after_place_names p x k ws Close z = Some (placed p k ws (joined x z.place))
after_place_names p x k ws _ w = None

abbrev pub taken : Bool → State → Option State
taken true s = Some s
taken false s = None

-- the next token
abbrev pub step : State → Mark → Sign → Option State
step begin m w = begins m w
step (done c) m w = None
step (take d n f) m w = taken (same n m) (f w)
step (either d n f e o g) m w = cond (same n m) (Some (f w)) (taken (same o m) (g w))
step (want b k) m w = term_begins b k m w
step (have b a e k) m w = after_argument b a e k m w
step (more b k) m w = after_carrier b k m w
step (bare_begun b x k) m w = bare_named b x k m w
step (universe_at b a x k) m w = after_universe_at b a x k m w
step (projecting b a k) m w = projection_named b a k m w
step (binders b) m w = first_binder b m w
step (bares b xs) m w = after_bares b xs m w
step (groups b gs n) m w = after_groups b gs n m w
step (group_opened b gs n) m w = after_group_open b gs n m w
step (group_names b gs n xs) m w = after_group_names b gs n xs m w
step (items l is) m w = after_items l is m
step (fields r fs) m w = after_fields r fs m w
step (conditioned i) m w = after_conditions i m
step (condition_names i ws) m w = after_condition_names i ws m w
step (placing p) m w = after_placing p m w
step (place_names p x k ws) m w = after_place_names p x k ws m w

-- The nesting of the next token, and which argument it begins.
abbrev pub argument_leaf : Before → Stack → Mark → Sign → Leaf
argument_leaf b k Open w = leaf Open w (depth k + 1) (count b)
argument_leaf b k m w = leaf m w (depth k) (count b)

abbrev pub bracket_leaf : ℕ → Mark → Sign → Leaf
bracket_leaf d Open w = leaf Open w (d + 1) 0
bracket_leaf d m w = leaf m w d 0

abbrev pub begun_leaf : Before → Stack → Mark → Sign → Leaf
begun_leaf b k Forall w = leaf Forall w (depth k) 0
begun_leaf b k Fun w = leaf Fun w (depth k) 0
begun_leaf b k m w = argument_leaf b k m w

abbrev pub argument_or_close_leaf : Before → Stack → Mark → Sign → Leaf
argument_or_close_leaf b k Ident w = argument_leaf b k Ident w
argument_or_close_leaf b k (Pair s) w = argument_leaf b k (Pair s) w
argument_or_close_leaf b k At w = argument_leaf b k At w
argument_or_close_leaf b k Hole w = argument_leaf b k Hole w
argument_or_close_leaf b k Prop w = argument_leaf b k Prop w
argument_or_close_leaf b k Universe w = argument_leaf b k Universe w
argument_or_close_leaf b k Open w = argument_leaf b k Open w
argument_or_close_leaf b k m w = leaf m w (closing k) 0

abbrev pub behind_leaf : Before → Part → Bool → Stack → Mark → Sign → Leaf
behind_leaf b a e k Project w = leaf Project w (depth k) 0
behind_leaf b a e k Arrow w = leaf Arrow w (depth k) 0
behind_leaf b a true k At w = leaf At w (depth k) 0
behind_leaf b a e k m w = argument_or_close_leaf (next b a) k m w

abbrev pub universe_at_leaf : Before → Part → Stack → Mark → Sign → Leaf
universe_at_leaf b a k Brace w = leaf Brace w (depth k) 0
universe_at_leaf b a k m w = late m w (depth k) (count (next b a))

abbrev pub binding_leaf : Binding → Mark → Sign → Leaf
binding_leaf b Open w = leaf Open w (binding_depth b + 1) 0
binding_leaf b m w = leaf m w (binding_depth b) 0

abbrev pub placing_leaf : Placing → Mark → Sign → Leaf
placing_leaf p Open w = leaf Open w 1 (placing_argument p)
placing_leaf p m w = leaf m w 0 (placing_argument p)

abbrev pub place_leaf : List Word → Mark → Sign → Leaf
place_leaf ws Ident w = leaf Ident w 1 (length ws + 1)
place_leaf ws m w = leaf m w 1 0

abbrev pub read : State → Mark → Sign → Leaf
read begin m w = leaf m w 0 0
read (done c) m w = leaf m w 0 0
read (take d n f) m w = leaf m w d 0
read (either d n f e o g) m w = leaf m w (cond (same n m) d e) 0
read (want b k) m w = begun_leaf b k m w
read (have b a e k) m w = behind_leaf b a e k m w
read (more b k) m w = argument_or_close_leaf b k m w
read (bare_begun b x k) m w = leaf m w (depth k) 0
read (universe_at b a x k) m w = universe_at_leaf b a k m w
read (projecting b a k) m w = leaf m w (depth k) 0
read (binders b) m w = binding_leaf b m w
read (bares b xs) m w = binding_leaf b m w
read (groups b gs n) m w = binding_leaf b m w
read (group_opened b gs n) m w = leaf m w (binding_depth b + 1) 0
read (group_names b gs n xs) m w = leaf m w (binding_depth b + 1) 0
read (items l is) m w = leaf m w 0 0
read (fields r fs) m w = leaf m w 0 0
read (conditioned i) m w = bracket_leaf 0 m w
read (condition_names i ws) m w = leaf m w 1 0
read (placing p) m w = placing_leaf p m w
read (place_names p x k ws) m w = place_leaf ws m w
