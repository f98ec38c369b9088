-- The grammar of sources, by productions. A family says: the leaves begin with a thing, before
-- the rest. Nesting counts the bound names, arrows and brackets around a token.
use Rattle.std.specs.Prelude.{ℕ, ◌+◌, Bool, true, false, List, [], ◌∷◌, ◌++◌, length, map, Option, Some, None}
use Rattle.hb_base.specs.declared.name_id.NameId.{NameId}
use Rattle.hb_base.specs.declared.span.Span.{Span}
use Rattle.hb_raw.specs.declared.word.Word.{Word}
use Rattle.hb_raw.specs.declared.word.Item.{Item}
use Rattle.hb_raw.specs.Preterm.{Preterm, preterm, name, applied, preterms_of, Group, untyped, typed, groups_of}
use Rattle.hb_raw.specs.Sentence.{Act, axiom_of, definition, mixin, factory, builders, section_end, structure, instance, join, find, require, howto, about, Sentence, sentence}
use Rattle.hb_grammar.specs.declared.mark.Mark.{Mark}
use Rattle.hb_grammar.specs.declared.mark.Mark.TheVariants.{Ident, Pair, Axiom, Context, Definition, Import, Prop, Record, Require, Universe, Forall, Fun, Of, Hole, Number, Open, Close, Brace, Unbrace, Colon, Becomes, Gives, Arrow, Comma, Semicolon, Ampersand, At, Project, End}
use Rattle.hb_grammar.specs.declared.mark.Second.TheVariants as second
use Rattle.hb_grammar.specs.Leaf.{Sign, Leaf, leaf, late, word, first_word, IsName, IsBound, bound, named}
use Rattle.hb_grammar.specs.Part.{Part, joined, whole, name_part, bare_part, hole_part, prop_part, type_part, level_part, bracketed, cast_part, projected_part, arrow_part, product_part, function_part}

abbrev pub Bounds : Type 0
Bounds = List (Option NameId × Span)

-- bound { bound }
pub data IsNames (d : ℕ) : List Leaf → Bounds → List Leaf → Type 0 where
  n_one : {m : Mark} {w : Sign} {rest : List Leaf} → IsBound m → IsNames d (leaf m w d 0 ∷ rest) (bound m w ∷ []) rest
  n_more : {m : Mark} {w : Sign} {ts rest : List Leaf} {xs : Bounds}
      → IsNames d ts xs (leaf m w d 0 ∷ rest) → IsBound m → IsNames d ts (xs ++ (bound m w ∷ [])) rest

-- a function with the arguments so far, and the extent of them all
pub record Spine : Type 0 where
  pub head : Part
  pub args : List Preterm
  pub extent : Span

abbrev pub head_spine : Part → Spine
head_spine h = record { head = h; args = []; extent = h.extent }

-- the spine with one more argument
abbrev pub with_argument : Spine → Part → Spine
with_argument s a = record { head = s.head; args = s.args ++ (a.term ∷ []); extent = joined s.extent a.extent }

abbrev pub applied_part : Part → List Preterm → Span → Part
applied_part h [] s = h
applied_part h (t ∷ ts) s = whole s (applied h.term (preterms_of (t ∷ ts)))

abbrev pub spine_part : Spine → Part
spine_part s = applied_part s.head s.args s.extent

abbrev pub arguments : Spine → ℕ
arguments s = length s.args

mutual
  -- term = "forall" binders "," term | "fun" binders "=>" term | app [ "->" term ]
  pub data IsTerm : ℕ → List Leaf → Part → List Leaf → Type 0 where
    t_app : {d : ℕ} {e : Bool} {ts rest : List Leaf} {s : Spine} → IsApp d e ts s rest → IsTerm d ts (spine_part s) rest
    t_arrow : {d : ℕ} {e : Bool} {x : Sign} {ts us rest : List Leaf} {s : Spine} {b : Part}
        → IsApp d e ts s (leaf Arrow x d 0 ∷ us) → IsTerm (d + 1) us b rest
        → IsTerm d ts (arrow_part (spine_part s) b) rest
    t_forall : {d n : ℕ} {x y : Sign} {us vs rest : List Leaf} {gs : List Group} {b : Part}
        → IsBinders d us gs n (leaf Comma y d 0 ∷ vs) → IsTerm (d + n) vs b rest
        → IsTerm d (leaf Forall x d 0 ∷ us) (product_part x.place gs b) rest
    t_fun : {d n : ℕ} {x y : Sign} {us vs rest : List Leaf} {gs : List Group} {b : Part}
        → IsBinders d us gs n (leaf Gives y d 0 ∷ vs) → IsTerm (d + n) vs b rest
        → IsTerm d (leaf Fun x d 0 ∷ us) (function_part x.place gs b) rest

  -- binders = group { group } | bound { bound } ":" term, with the number of bound names
  pub data IsBinders : ℕ → List Leaf → List Group → ℕ → List Leaf → Type 0 where
    b_groups : {d n : ℕ} {ts rest : List Leaf} {gs : List Group} → IsGroups d ts gs n rest → IsBinders d ts gs n rest
    b_typed : {d : ℕ} {y : Sign} {ts us rest : List Leaf} {xs : Bounds} {t : Part}
        → IsNames d ts xs (leaf Colon y d 0 ∷ us) → IsTerm d us t rest
        → IsBinders d ts (typed xs t.term ∷ []) (length xs) rest

  pub data IsGroups : ℕ → List Leaf → List Group → ℕ → List Leaf → Type 0 where
    g_one : {d m : ℕ} {ts rest : List Leaf} {g : Group} → IsGroup d 0 ts g m rest → IsGroups d ts (g ∷ []) m rest
    g_more : {d n m : ℕ} {ts us rest : List Leaf} {gs : List Group} {g : Group}
        → IsGroups d ts gs n us → IsGroup d n us g m rest → IsGroups d ts (gs ++ (g ∷ [])) (n + m) rest

  -- group = bound | "(" bound { bound } ":" term ")", behind n bound names of its list
  pub data IsGroup : ℕ → ℕ → List Leaf → Group → ℕ → List Leaf → Type 0 where
    g_bare : {d n : ℕ} {m : Mark} {w : Sign} {rest : List Leaf} → IsBound m
        → IsGroup d n (leaf m w d 0 ∷ rest) (untyped (bound m w ∷ [])) 1 rest
    g_typed : {d n : ℕ} {x y z : Sign} {us vs rest : List Leaf} {xs : Bounds} {t : Part}
        → IsNames (d + 1) us xs (leaf Colon y (d + 1) 0 ∷ vs) → IsTerm (d + n + 1) vs t (leaf Close z (d + 1) 0 ∷ rest)
        → IsGroup d n (leaf Open x (d + 1) 0 ∷ us) (typed xs t.term) (length xs) rest

  -- app = arg { arg }; whether it ends in `Type` without a level
  pub data IsApp : ℕ → Bool → List Leaf → Spine → List Leaf → Type 0 where
    p_head : {d : ℕ} {e : Bool} {ts rest : List Leaf} {h : Part} → IsArg d false 0 ts h e rest → IsApp d e ts (head_spine h) rest
    p_more : {d : ℕ} {e f : Bool} {ts us rest : List Leaf} {s : Spine} {a : Part}
        → IsApp d e ts s us → IsArg d e (arguments s + 1) us a f rest → IsApp d f ts (with_argument s a) rest

  -- arg = atom { ".(" name ")" }, the nth argument, behind a `Type` without a level or not
  pub data IsArg : ℕ → Bool → ℕ → List Leaf → Part → Bool → List Leaf → Type 0 where
    r_atom : {d n : ℕ} {e f : Bool} {ts rest : List Leaf} {a : Part} → IsAtom d e n ts a f rest → IsArg d e n ts a f rest
    r_project : {d n : ℕ} {e f : Bool} {m : Mark} {x w z : Sign} {ts rest : List Leaf} {a : Part}
        → IsArg d e n ts a f (leaf Project x d 0 ∷ (leaf m w d 0 ∷ (leaf Close z d 0 ∷ rest))) → IsName m
        → IsArg d e n ts (projected_part a w.whole z.place) false rest

  -- atom = name | "@" name | "_" | "Prop" | "Type" [ "@" "{" number "}" ] | "(" term [ ":" term ] ")"
  pub data IsAtom : ℕ → Bool → ℕ → List Leaf → Part → Bool → List Leaf → Type 0 where
    a_name : {d n : ℕ} {e : Bool} {m : Mark} {w : Sign} {rest : List Leaf} → IsName m
        → IsAtom d e n (leaf m w d n ∷ rest) (name_part (word w)) false rest
    a_bare : {d n : ℕ} {m : Mark} {x w : Sign} {rest : List Leaf} → IsName m
        → IsAtom d false n (leaf At x d n ∷ (leaf m w d 0 ∷ rest)) (bare_part x.place (word w)) false rest
    -- behind `Type` only the name tells that the `@` began an argument
    a_late : {d n : ℕ} {m : Mark} {x w : Sign} {rest : List Leaf} → IsName m
        → IsAtom d true n (leaf At x d 0 ∷ (late m w d n ∷ rest)) (bare_part x.place (word w)) false rest
    a_hole : {d n : ℕ} {e : Bool} {w : Sign} {rest : List Leaf} → IsAtom d e n (leaf Hole w d n ∷ rest) (hole_part w.place) false rest
    a_prop : {d n : ℕ} {e : Bool} {w : Sign} {rest : List Leaf} → IsAtom d e n (leaf Prop w d n ∷ rest) (prop_part w.place) false rest
    a_type : {d n : ℕ} {e : Bool} {w : Sign} {rest : List Leaf} → IsAtom d e n (leaf Universe w d n ∷ rest) (type_part w.place) true rest
    a_level : {d n : ℕ} {e : Bool} {w x y k z : Sign} {rest : List Leaf}
        → IsAtom d e n (leaf Universe w d n ∷ (leaf At x d 0 ∷ (leaf Brace y d 0 ∷ (leaf Number k d 0 ∷ (leaf Unbrace z d 0 ∷ rest)))))
        (level_part (type_part w.place) k.value z.place) false rest
    a_bracket : {d n : ℕ} {e : Bool} {x z : Sign} {us rest : List Leaf} {t : Part}
        → IsTerm (d + 1) us t (leaf Close z (d + 1) 0 ∷ rest)
        → IsAtom d e n (leaf Open x (d + 1) n ∷ us) (bracketed x.place t z.place) false rest
    a_cast : {d n : ℕ} {e : Bool} {x y z : Sign} {us vs rest : List Leaf} {t u : Part}
        → IsTerm (d + 1) us t (leaf Colon y (d + 1) 0 ∷ vs) → IsTerm (d + 1) vs u (leaf Close z (d + 1) 0 ∷ rest)
        → IsAtom d e n (leaf Open x (d + 1) n ∷ us) (cast_part x.place t u z.place) false rest

-- carrier = id | "(" id ":" "Type" ")"
pub data IsCarrier : List Leaf → Word → List Leaf → Type 0 where
  c_id : {w : Sign} {rest : List Leaf} → IsCarrier (leaf Ident w 0 0 ∷ rest) (word w) rest
  c_typed : {x w y t z : Sign} {rest : List Leaf}
      → IsCarrier (leaf Open x 1 0 ∷ (leaf Ident w 1 0 ∷ (leaf Colon y 1 0 ∷ (leaf Universe t 1 0 ∷ (leaf Close z 1 0 ∷ rest))))) (word w) rest

abbrev pub item : Sign → Sign → Item
item f c = record { factory = word f; carrier = word c }

-- items = item { "&" item }, item = id id
pub data IsItems : List Leaf → List Item → List Leaf → Type 0 where
  i_one : {f c : Sign} {rest : List Leaf} → IsItems (leaf Ident f 0 0 ∷ (leaf Ident c 0 0 ∷ rest)) (item f c ∷ []) rest
  i_more : {y f c : Sign} {ts rest : List Leaf} {is : List Item}
      → IsItems ts is (leaf Ampersand y 0 0 ∷ (leaf Ident f 0 0 ∷ (leaf Ident c 0 0 ∷ rest)))
      → IsItems ts (is ++ (item f c ∷ [])) rest

-- [ "of" items ]
pub data IsNeeds : List Leaf → List Item → List Leaf → Type 0 where
  no_needs : {ts : List Leaf} → IsNeeds ts [] ts
  needs : {y : Sign} {us rest : List Leaf} {is : List Item} → IsItems us is rest → IsNeeds (leaf Of y 0 0 ∷ us) is rest

abbrev pub field : Sign → Part → Word × Preterm
field f t = (word f, t.term)

-- "{" { field ";" }: fields up to where one more may begin
pub data IsOpenFields : List Leaf → List (Word × Preterm) → List Leaf → Type 0 where
  f_none : {x : Sign} {us : List Leaf} → IsOpenFields (leaf Brace x 0 0 ∷ us) [] us
  f_more : {f y z : Sign} {ts us rest : List Leaf} {fs : List (Word × Preterm)} {t : Part}
      → IsOpenFields ts fs (leaf Ident f 0 0 ∷ (leaf Colon y 0 0 ∷ us)) → IsTerm 0 us t (leaf Semicolon z 0 0 ∷ rest)
      → IsOpenFields ts (fs ++ (field f t ∷ [])) rest

-- fields = "{" [ field { ";" field } [ ";" ] ] "}"
pub data IsFields : List Leaf → List (Word × Preterm) → List Leaf → Type 0 where
  f_closed : {z : Sign} {ts rest : List Leaf} {fs : List (Word × Preterm)}
      → IsOpenFields ts fs (leaf Unbrace z 0 0 ∷ rest) → IsFields ts fs rest
  f_last : {f y z : Sign} {ts us rest : List Leaf} {fs : List (Word × Preterm)} {t : Part}
      → IsOpenFields ts fs (leaf Ident f 0 0 ∷ (leaf Colon y 0 0 ∷ us)) → IsTerm 0 us t (leaf Unbrace z 0 0 ∷ rest)
      → IsFields ts (fs ++ (field f t ∷ [])) rest

-- id { id }, in brackets
pub data IsIds : List Leaf → List Word → List Leaf → Type 0 where
  id_one : {w : Sign} {rest : List Leaf} → IsIds (leaf Ident w 1 0 ∷ rest) (word w ∷ []) rest
  id_more : {w : Sign} {ts rest : List Leaf} {ws : List Word}
      → IsIds ts ws (leaf Ident w 1 0 ∷ rest) → IsIds ts (ws ++ (word w ∷ [])) rest

abbrev pub conditions : List Word → Option Word → List (Word × Option Word)
conditions ws s = map (λ w. (w, s)) ws

-- cond = "(" id { id } ":" ( "Type" | name ) ")", where the name is that of a structure's type
pub data IsCondition : List Leaf → List (Word × Option Word) → List Leaf → Type 0 where
  c_any : {x y t z : Sign} {us rest : List Leaf} {ws : List Word}
      → IsIds us ws (leaf Colon y 1 0 ∷ (leaf Universe t 1 0 ∷ (leaf Close z 1 0 ∷ rest)))
      → IsCondition (leaf Open x 1 0 ∷ us) (conditions ws None) rest
  c_structure : {x y s z : Sign} {us rest : List Leaf} {ws : List Word}
      → IsIds us ws (leaf Colon y 1 0 ∷ (leaf (Pair second.Carried) s 1 0 ∷ (leaf Close z 1 0 ∷ rest)))
      → IsCondition (leaf Open x 1 0 ∷ us) (conditions ws (Some (first_word s))) rest

-- a carrier with the names that it is applied to, which are its arguments
pub data IsAtNames : List Leaf → Word → List Word → List Leaf → Type 0 where
  at_first : {k : Sign} {rest : List Leaf} → IsAtNames (leaf Ident k 1 0 ∷ rest) (word k) [] rest
  at_more : {w : Sign} {ts rest : List Leaf} {k : Word} {ws : List Word}
      → IsAtNames ts k ws (leaf Ident w 1 (length ws + 1) ∷ rest) → IsAtNames ts k (ws ++ (word w ∷ [])) rest

-- at = id | "(" id { id } ")", as the nth argument, with its extent
pub data IsAt (n : ℕ) : List Leaf → Word → List Word → Span → List Leaf → Type 0 where
  at_id : {k : Sign} {rest : List Leaf} → IsAt n (leaf Ident k 0 n ∷ rest) (word k) [] k.place rest
  at_ids : {x z : Sign} {us rest : List Leaf} {k : Word} {ws : List Word}
      → IsAtNames us k ws (leaf Close z 1 0 ∷ rest)
      → IsAt n (leaf Open x 1 n ∷ us) k ws (joined x.place z.place) rest

abbrev pub last_word : Word → List Word → Word
last_word w [] = w
last_word w (v ∷ ws) = last_word v ws

abbrev pub word_term : Word → Preterm
word_term w = preterm w.span (name w.name)

-- the carrier as a term: a name, or a name with arguments
abbrev pub carrier_term : Word → List Word → Preterm
carrier_term k [] = word_term k
carrier_term k (w ∷ ws) =
    preterm (joined k.span (last_word w ws).span) (applied (word_term k) (preterms_of (map word_term (w ∷ ws))))

abbrev pub carrier_part : Word → List Word → Span → Part
carrier_part k ws s = record { term = carrier_term k ws; extent = s }

-- build at { arg }: the factory's word, the carrier with its arguments, and the value
pub data IsBuild : List Leaf → Word → Word → List Word → Bool → Spine → List Leaf → Type 0 where
  m_at : {f : Sign} {us rest : List Leaf} {k : Word} {ws : List Word} {s : Span}
      → IsAt 1 us k ws s rest
      → IsBuild (leaf (Pair second.Build) f 0 0 ∷ us) (first_word f) k ws false
      (with_argument (head_spine (name_part (word f))) (carrier_part k ws s)) rest
  m_more : {e g : Bool} {ts us rest : List Leaf} {f k : Word} {ws : List Word} {s : Spine} {a : Part}
      → IsBuild ts f k ws e s us → IsArg 0 e (arguments s + 1) us a g rest
      → IsBuild ts f k ws g (with_argument s a) rest

-- mixins and factories begin alike
pub data IsRecord : Bool → List Leaf → Sign → Sign → List Leaf → Type 0 where
  of_mixin : {x r n : Sign} {us : List Leaf}
      → IsRecord false (leaf (Pair second.Mixin) x 0 0 ∷ (leaf Record r 0 0 ∷ (leaf Ident n 0 0 ∷ us))) x n us
  of_factory : {x r n : Sign} {us : List Leaf}
      → IsRecord true (leaf (Pair second.Factory) x 0 0 ∷ (leaf Record r 0 0 ∷ (leaf Ident n 0 0 ∷ us))) x n us

abbrev pub record_act : Bool → Word → Word → List Item → List (Word × Preterm) → Act
record_act false = mixin
record_act true = factory

-- "HB.instance" "Definition" ( id | "_" ) { cond }
pub data IsInstance : List Leaf → Sign → Option Word → List (Word × Option Word) → List Leaf → Type 0 where
  o_name : {m : Mark} {x d n : Sign} {us : List Leaf} → IsBound m
      → IsInstance (leaf (Pair second.Instance) x 0 0 ∷ (leaf Definition d 0 0 ∷ (leaf m n 0 0 ∷ us))) x (named m n) [] us
  o_condition : {x : Sign} {ts us rest : List Leaf} {n : Option Word} {cs ds : List (Word × Option Word)}
      → IsInstance ts x n cs us → IsCondition us ds rest → IsInstance ts x n (cs ++ ds) rest

-- { group }
pub data IsParameters : List Leaf → List Group → ℕ → List Leaf → Type 0 where
  no_parameters : {ts : List Leaf} → IsParameters ts [] 0 ts
  parameters : {n : ℕ} {ts rest : List Leaf} {gs : List Group} → IsGroups 0 ts gs n rest → IsParameters ts gs n rest

-- [ ":" term ] ":=", under n bound names
pub data IsStatement (n : ℕ) : List Leaf → Option Preterm → List Leaf → Type 0 where
  unstated : {y : Sign} {us : List Leaf} → IsStatement n (leaf Becomes y 0 0 ∷ us) None us
  stated : {x y : Sign} {us rest : List Leaf} {t : Part}
      → IsTerm n us t (leaf Becomes y 0 0 ∷ rest) → IsStatement n (leaf Colon x 0 0 ∷ us) (Some t.term) rest

pub data IsSentence : List Leaf → Sentence → List Leaf → Type 0 where
  -- "Axiom" id ":" term end
  s_axiom : {x n y z : Sign} {us rest : List Leaf} {t : Part}
      → IsTerm 0 us t (leaf End z 0 0 ∷ rest)
      → IsSentence (leaf Axiom x 0 0 ∷ (leaf Ident n 0 0 ∷ (leaf Colon y 0 0 ∷ us)))
      (sentence x.place (axiom_of (word n) t.term)) rest
  -- "Definition" id { group } [ ":" term ] ":=" term end
  s_definition : {x n z : Sign} {k : ℕ} {us vs ws rest : List Leaf} {gs : List Group} {t : Option Preterm} {b : Part}
      → IsParameters us gs k vs → IsStatement k vs t ws → IsTerm k ws b (leaf End z 0 0 ∷ rest)
      → IsSentence (leaf Definition x 0 0 ∷ (leaf Ident n 0 0 ∷ us))
      (sentence x.place (definition (word n) (groups_of gs) t b.term)) rest
  -- ( "HB.mixin" | "HB.factory" ) "Record" id carrier [ "of" items ] ":=" fields end
  s_record : {b : Bool} {x n y z : Sign} {ts us vs ws rest : List Leaf} {c : Word} {is : List Item} {fs : List (Word × Preterm)}
      → IsRecord b ts x n us → IsCarrier us c vs → IsNeeds vs is (leaf Becomes y 0 0 ∷ ws)
      → IsFields ws fs (leaf End z 0 0 ∷ rest)
      → IsSentence ts (sentence x.place (record_act b (word n) c is fs)) rest
  -- "HB.builders" "Context" carrier ( "(" id ":" item ")" | "of" item ) end
  s_builders : {x y a v b f k c z : Sign} {us rest : List Leaf} {w : Word}
      → IsCarrier us w (leaf Open a 1 0 ∷ (leaf Ident v 1 0 ∷ (leaf Colon b 1 0 ∷ (leaf Ident f 1 0 ∷ (leaf Ident k 1 0
      ∷ (leaf Close c 1 0 ∷ (leaf End z 0 0 ∷ rest)))))))
      → IsSentence (leaf (Pair second.Builders) x 0 0 ∷ (leaf Context y 0 0 ∷ us))
      (sentence x.place (builders w (Some (word v)) (item f k))) rest
  s_builders_of : {x y a f k z : Sign} {us rest : List Leaf} {w : Word}
      → IsCarrier us w (leaf Of a 0 0 ∷ (leaf Ident f 0 0 ∷ (leaf Ident k 0 0 ∷ (leaf End z 0 0 ∷ rest))))
      → IsSentence (leaf (Pair second.Builders) x 0 0 ∷ (leaf Context y 0 0 ∷ us))
      (sentence x.place (builders w None (item f k))) rest
  -- "HB.end" end
  s_end : {x z : Sign} {rest : List Leaf}
      → IsSentence (leaf (Pair second.End) x 0 0 ∷ (leaf End z 0 0 ∷ rest)) (sentence x.place section_end) rest
  -- "HB.structure" "Definition" id ":=" "{" id "of" items [ "&" ] "}" end
  s_structure : {x d n y a c o b z : Sign} {us rest : List Leaf} {is : List Item}
      → IsItems us is (leaf Unbrace b 0 0 ∷ (leaf End z 0 0 ∷ rest))
      → IsSentence (leaf (Pair second.Structure) x 0 0 ∷ (leaf Definition d 0 0 ∷ (leaf Ident n 0 0 ∷ (leaf Becomes y 0 0
      ∷ (leaf Brace a 0 0 ∷ (leaf Ident c 0 0 ∷ (leaf Of o 0 0 ∷ us)))))))
      (sentence x.place (structure (word n) (word c) is)) rest
  s_structure_and : {x d n y a c o k b z : Sign} {us rest : List Leaf} {is : List Item}
      → IsItems us is (leaf Ampersand k 0 0 ∷ (leaf Unbrace b 0 0 ∷ (leaf End z 0 0 ∷ rest)))
      → IsSentence (leaf (Pair second.Structure) x 0 0 ∷ (leaf Definition d 0 0 ∷ (leaf Ident n 0 0 ∷ (leaf Becomes y 0 0
      ∷ (leaf Brace a 0 0 ∷ (leaf Ident c 0 0 ∷ (leaf Of o 0 0 ∷ us)))))))
      (sentence x.place (structure (word n) (word c) is)) rest
  -- an instance, ":" id at ":=" term end
  s_instance : {x y f b z : Sign} {ts us vs rest : List Leaf} {n : Option Word} {cs : List (Word × Option Word)}
      {k : Word} {ws : List Word} {s : Span} {t : Part}
      → IsInstance ts x n cs (leaf Colon y 0 0 ∷ (leaf Ident f 0 0 ∷ us)) → IsAt 0 us k ws s (leaf Becomes b 0 0 ∷ vs)
      → IsTerm 0 vs t (leaf End z 0 0 ∷ rest)
      → IsSentence ts (sentence x.place (instance n cs (word f) k ws t.term)) rest
  -- an instance, ":=" build at { arg } end
  s_build : {e : Bool} {x y z : Sign} {ts us rest : List Leaf} {n : Option Word} {cs : List (Word × Option Word)}
      {f k : Word} {ws : List Word} {s : Spine}
      → IsInstance ts x n cs (leaf Becomes y 0 0 ∷ us) → IsBuild us f k ws e s (leaf End z 0 0 ∷ rest)
      → IsSentence ts (sentence x.place (instance n cs f k ws (spine_part s).term)) rest
  -- "HB.join" id id end
  s_join : {x a b z : Sign} {rest : List Leaf}
      → IsSentence (leaf (Pair second.Join) x 0 0 ∷ (leaf Ident a 0 0 ∷ (leaf Ident b 0 0 ∷ (leaf End z 0 0 ∷ rest))))
      (sentence x.place (join (word a) (word b))) rest
  -- "HB.find" id arg end
  s_find : {e : Bool} {x s z : Sign} {us rest : List Leaf} {t : Part}
      → IsArg 0 false 0 us t e (leaf End z 0 0 ∷ rest)
      → IsSentence (leaf (Pair second.Find) x 0 0 ∷ (leaf Ident s 0 0 ∷ us)) (sentence x.place (find (word s) t.term)) rest
  -- "Require" [ "Import" ] id end
  s_require : {x n z : Sign} {rest : List Leaf}
      → IsSentence (leaf Require x 0 0 ∷ (leaf Ident n 0 0 ∷ (leaf End z 0 0 ∷ rest))) (sentence x.place (require (word n))) rest
  s_import : {x i n z : Sign} {rest : List Leaf}
      → IsSentence (leaf Require x 0 0 ∷ (leaf Import i 0 0 ∷ (leaf Ident n 0 0 ∷ (leaf End z 0 0 ∷ rest))))
      (sentence x.place (require (word n))) rest
  -- "HB.howto" id id end
  s_howto : {x s k z : Sign} {rest : List Leaf}
      → IsSentence (leaf (Pair second.Howto) x 0 0 ∷ (leaf Ident s 0 0 ∷ (leaf Ident k 0 0 ∷ (leaf End z 0 0 ∷ rest))))
      (sentence x.place (howto (word s) (word k))) rest
  -- "HB.about" id end
  s_about : {x n z : Sign} {rest : List Leaf}
      → IsSentence (leaf (Pair second.About) x 0 0 ∷ (leaf Ident n 0 0 ∷ (leaf End z 0 0 ∷ rest)))
      (sentence x.place (about (word n))) rest

-- file = { command }
pub data IsFile : List Leaf → List Sentence → List Leaf → Type 0 where
  file_none : {ts : List Leaf} → IsFile ts [] ts
  file_more : {ts us rest : List Leaf} {cs : List Sentence} {c : Sentence}
      → IsFile ts cs us → IsSentence us c rest → IsFile ts (cs ++ (c ∷ [])) rest
