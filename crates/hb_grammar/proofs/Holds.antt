-- What the reader's states say of the leaves that were read.
use Rattle.std.proofs.Common.{◌≡◌, ℕ, ◌+◌, Bool, true, false, List, [], ◌∷◌, Option, Some, None}
use Rattle.hb_base.specs.declared.span.Span.{Span}
use Rattle.hb_raw.specs.declared.word.Word.{Word}
use Rattle.hb_raw.specs.declared.word.Item.{Item}
use Rattle.hb_raw.specs.Preterm.{Preterm, Group}
use Rattle.hb_raw.specs.Sentence.{Sentence}
use Rattle.hb_grammar.specs.declared.mark.Mark.TheVariants.{Ident, Pair, Axiom, Definition, Forall, Fun, Of, Open, Brace, Colon, Becomes, Gives, Arrow, Comma, At, Project}
use Rattle.hb_grammar.specs.declared.mark.Second.TheVariants as second
use Rattle.hb_grammar.specs.Leaf.{Sign, Leaf, leaf, word, first_word}
use Rattle.hb_grammar.specs.Part.{Part}
use Rattle.hb_grammar.specs.Grammar.{Bounds, IsNames, Spine, spine_part, IsTerm, IsBinders, IsGroups, IsApp, IsArg, IsCarrier, IsItems, IsNeeds, IsOpenFields, IsIds, IsAtNames, IsAt, IsBuild, IsRecord, IsInstance, IsParameters, IsStatement, IsSentence}
use Rattle.hb_grammar.specs.Machine.{Before, first, behind, alone, making, count, RecordOf, InstanceOf, Stack, right, inside, casting, lone, group_type, body, axiom_type, definition_type, definition_body, field_type, instance_value, build_value, carrier_found, Binding, of_product, of_function, of_definition, Listing, of_record, of_structure, Placing, of_factory, of_builder, State, begin, done, take, either, want, have, more, bare_begun, universe_at, projecting, binders, bares, groups, group_opened, group_names, items, fields, conditioned, condition_names, placing, place_names, depth, binding_depth, placing_argument}

-- a frame around a term of the plain form
abbrev pub IsPlain : Stack → Type 0
IsPlain (build_value i f k ws) = ⊥
IsPlain (carrier_found x s) = ⊥
IsPlain _ = Unit {0}

-- what binds in a term
abbrev pub IsProducing : Binding → Type 0
IsProducing (of_definition x n) = ⊥
IsProducing _ = Unit {0}

-- what stands before an argument, from where the term began
pub data Ahead : Stack → Before → Bool → List Leaf → List Leaf → Type 0 where
  ah_first : {k : Stack} {vs : List Leaf} → IsPlain k → Ahead k first false vs vs
  ah_behind : {k : Stack} {e : Bool} {vs us : List Leaf} {s : Spine} → IsPlain k → IsApp (depth k) e vs s us → Ahead k (behind s) e vs us
  ah_alone : {x : Span} {s : Word} {vs : List Leaf} → Ahead (carrier_found x s) alone false vs vs
  ah_making : {i : InstanceOf} {f k : Word} {ws : List Word} {e : Bool} {vs us : List Leaf} {s : Spine}
      → IsBuild vs f k ws e s us → Ahead (build_value i f k ws) (making s) e vs us

-- a term that may be closed
pub data Finished : Stack → List Leaf → Part → List Leaf → Type 0 where
  fin_term : {k : Stack} {vs us : List Leaf} {p : Part} → IsPlain k → IsTerm (depth k) vs p us → Finished k vs p us
  fin_found : {x : Span} {s : Word} {e : Bool} {vs us : List Leaf} {p : Part} → IsArg 0 false 0 vs p e us → Finished (carrier_found x s) vs p us
  fin_built : {i : InstanceOf} {f k : Word} {ws : List Word} {e : Bool} {vs us : List Leaf} {s : Spine}
      → IsBuild vs f k ws e s us → Finished (build_value i f k ws) vs (spine_part s) us

pub data SoFar (d : ℕ) (ts : List Leaf) : List Group → ℕ → List Leaf → Type 0 where
  sf_none : SoFar d ts [] 0 ts
  sf_some : {n : ℕ} {gs : List Group} {us : List Leaf} → IsGroups d ts gs n us → SoFar d ts gs n us

-- the groups of a list of binders, of which only a Definition may have none
pub data Listed : Binding → List Leaf → List Group → ℕ → List Leaf → Type 0 where
  li_none : {x : Span} {n : Word} {ts : List Leaf} → Listed (of_definition x n) ts [] 0 ts
  li_some : {b : Binding} {n : ℕ} {gs : List Group} {ts us : List Leaf} → IsGroups (binding_depth b) ts gs n us → Listed b ts gs n us

pub data RecordFront : List Leaf → RecordOf → List Leaf → Type 0 where
  rf : {b : Bool} {x n y : Sign} {ts us vs ws : List Leaf} {c : Word} {is : List Item}
      → IsRecord b ts x n us → IsCarrier us c vs → IsNeeds vs is (leaf Becomes y 0 0 ∷ ws)
      → RecordFront ts (record { kind = b; start = x.place; name = word n; carrier = c; items = is }) ws

pub data InstanceFront : List Leaf → InstanceOf → List Leaf → Type 0 where
  inf : {x : Sign} {n : Option Word} {cs : List (Word × Option Word)} {ts us : List Leaf}
      → IsInstance ts x n cs us → InstanceFront ts (record { start = x.place; name = n; conditions = cs }) us

pub data ItemsFront : List Leaf → Listing → List Leaf → Type 0 where
  it_record : {b : Bool} {x n y : Sign} {ts us vs : List Leaf} {c : Word}
      → IsRecord b ts x n us → IsCarrier us c (leaf Of y 0 0 ∷ vs) → ItemsFront ts (of_record b x.place (word n) c) vs
  it_structure : {x d n y a c o : Sign} {us : List Leaf}
      → ItemsFront (leaf (Pair second.Structure) x 0 0 ∷ (leaf Definition d 0 0 ∷ (leaf Ident n 0 0 ∷ (leaf Becomes y 0 0
      ∷ (leaf Brace a 0 0 ∷ (leaf Ident c 0 0 ∷ (leaf Of o 0 0 ∷ us))))))) (of_structure x.place (word n) (word c)) us

pub data PlacingFront : List Leaf → Placing → List Leaf → Type 0 where
  pf_factory : {i : InstanceOf} {y f : Sign} {ts us : List Leaf}
      → InstanceFront ts i (leaf Colon y 0 0 ∷ (leaf Ident f 0 0 ∷ us)) → PlacingFront ts (of_factory i (word f)) us
  pf_builder : {i : InstanceOf} {y f : Sign} {ts us : List Leaf}
      → InstanceFront ts i (leaf Becomes y 0 0 ∷ (leaf (Pair second.Build) f 0 0 ∷ us)) → PlacingFront ts (of_builder i (first_word f) (word f)) us

mutual
  -- what is open around a term, from where its sentence began to where it begins
  pub data Opened : List Leaf → Stack → List Leaf → Type 0 where
    o_right : {k : Stack} {e : Bool} {x : Sign} {s : Spine} {all ts us : List Leaf}
        → Opened all k ts → IsPlain k → IsApp (depth k) e ts s (leaf Arrow x (depth k) 0 ∷ us)
        → Opened all (right (spine_part s) k) us
    o_inside : {b : Before} {k : Stack} {e : Bool} {x : Sign} {all ts us : List Leaf}
        → Opened all k ts → Ahead k b e ts (leaf Open x (depth k + 1) (count b) ∷ us) → Opened all (inside b x.place k) us
    o_casting : {b : Before} {k : Stack} {e : Bool} {x y : Sign} {t : Part} {all ts us vs : List Leaf}
        → Opened all k ts → Ahead k b e ts (leaf Open x (depth k + 1) (count b) ∷ us)
        → IsTerm (depth k + 1) us t (leaf Colon y (depth k + 1) 0 ∷ vs) → Opened all (casting b x.place t k) vs
    o_lone : {b : Binding} {y : Sign} {xs : Bounds} {all us vs : List Leaf}
        → Binds all b us → IsProducing b → IsNames (binding_depth b) us xs (leaf Colon y (binding_depth b) 0 ∷ vs) → Opened all (lone b xs) vs
    o_group : {b : Binding} {x y : Sign} {gs : List Group} {n : ℕ} {xs : Bounds} {all us ws vs : List Leaf}
        → Binds all b us → SoFar (binding_depth b) us gs n (leaf Open x (binding_depth b + 1) 0 ∷ ws)
        → IsNames (binding_depth b + 1) ws xs (leaf Colon y (binding_depth b + 1) 0 ∷ vs) → Opened all (group_type b gs n xs) vs
    o_product : {x : Span} {y : Sign} {k : Stack} {gs : List Group} {n : ℕ} {all us vs : List Leaf}
        → Binds all (of_product x k) us → IsBinders (depth k) us gs n (leaf Comma y (depth k) 0 ∷ vs)
        → Opened all (body (of_product x k) gs n) vs
    o_function : {x : Span} {y : Sign} {k : Stack} {gs : List Group} {n : ℕ} {all us vs : List Leaf}
        → Binds all (of_function x k) us → IsBinders (depth k) us gs n (leaf Gives y (depth k) 0 ∷ vs)
        → Opened all (body (of_function x k) gs n) vs
    o_axiom : {x n y : Sign} {us : List Leaf}
        → Opened (leaf Axiom x 0 0 ∷ (leaf Ident n 0 0 ∷ (leaf Colon y 0 0 ∷ us))) (axiom_type x.place (word n)) us
    o_definition_type : {x n y : Sign} {gs : List Group} {c : ℕ} {us vs : List Leaf}
        → IsParameters us gs c (leaf Colon y 0 0 ∷ vs)
        → Opened (leaf Definition x 0 0 ∷ (leaf Ident n 0 0 ∷ us)) (definition_type x.place (word n) gs c) vs
    o_definition : {x n : Sign} {gs : List Group} {c : ℕ} {t : Option Preterm} {us vs ws : List Leaf}
        → IsParameters us gs c vs → IsStatement c vs t ws
        → Opened (leaf Definition x 0 0 ∷ (leaf Ident n 0 0 ∷ us)) (definition_body x.place (word n) gs c t) ws
    o_field : {r : RecordOf} {fs : List (Word × Preterm)} {f y : Sign} {all ts us : List Leaf}
        → RecordFront all r ts → IsOpenFields ts fs (leaf Ident f 0 0 ∷ (leaf Colon y 0 0 ∷ us)) → Opened all (field_type r fs (word f)) us
    o_instance : {i : InstanceOf} {y f b : Sign} {k : Word} {ws : List Word} {s : Span} {all us vs : List Leaf}
        → InstanceFront all i (leaf Colon y 0 0 ∷ (leaf Ident f 0 0 ∷ us)) → IsAt 0 us k ws s (leaf Becomes b 0 0 ∷ vs)
        → Opened all (instance_value i (word f) k ws) vs
    o_build : {i : InstanceOf} {y : Sign} {f k : Word} {ws : List Word} {all us : List Leaf}
        → InstanceFront all i (leaf Becomes y 0 0 ∷ us) → Opened all (build_value i f k ws) us
    o_found : {x s : Sign} {us : List Leaf}
        → Opened (leaf (Pair second.Find) x 0 0 ∷ (leaf Ident s 0 0 ∷ us)) (carrier_found x.place (word s)) us

  pub data Binds : List Leaf → Binding → List Leaf → Type 0 where
    bi_product : {x : Sign} {k : Stack} {all us : List Leaf}
        → Opened all k (leaf Forall x (depth k) 0 ∷ us) → IsPlain k → Binds all (of_product x.place k) us
    bi_function : {x : Sign} {k : Stack} {all us : List Leaf}
        → Opened all k (leaf Fun x (depth k) 0 ∷ us) → IsPlain k → Binds all (of_function x.place k) us
    bi_definition : {x n : Sign} {us : List Leaf}
        → Binds (leaf Definition x 0 0 ∷ (leaf Ident n 0 0 ∷ us)) (of_definition x.place (word n)) us

-- a state other than a row of tokens, from where its sentence began
pub data Held : List Leaf → State → List Leaf → Type 0 where
  he_begin : {all : List Leaf} → Held all begin all
  he_done : {c : Sentence} {all us : List Leaf} → IsSentence all c us → Held all (done c) us
  he_want : {b : Before} {k : Stack} {all vs us : List Leaf} → Opened all k vs → Ahead k b false vs us → Held all (want b k) us
  he_have : {b : Before} {a : Part} {e f : Bool} {k : Stack} {all vs ts us : List Leaf}
      → Opened all k vs → Ahead k b f vs ts → IsArg (depth k) f (count b) ts a e us → Held all (have b a e k) us
  he_more : {i : InstanceOf} {f k : Word} {ws : List Word} {s : Spine} {all vs us : List Leaf}
      → Opened all (build_value i f k ws) vs → IsBuild vs f k ws false s us → Held all (more (making s) (build_value i f k ws)) us
  he_bare : {b : Before} {x : Sign} {k : Stack} {all vs us : List Leaf}
      → Opened all k vs → Ahead k b false vs (leaf At x (depth k) (count b) ∷ us) → Held all (bare_begun b x.place k) us
  he_universe_at : {b : Before} {a : Part} {x : Sign} {f : Bool} {k : Stack} {all vs ts us : List Leaf}
      → Opened all k vs → Ahead k b f vs ts → IsArg (depth k) f (count b) ts a true (leaf At x (depth k) 0 ∷ us)
      → Held all (universe_at b a x.place k) us
  he_projecting : {b : Before} {a : Part} {x : Sign} {e f : Bool} {k : Stack} {all vs ts us : List Leaf}
      → Opened all k vs → Ahead k b f vs ts → IsArg (depth k) f (count b) ts a e (leaf Project x (depth k) 0 ∷ us)
      → Held all (projecting b a k) us
  he_binders : {b : Binding} {all us : List Leaf} → Binds all b us → Held all (binders b) us
  he_bares : {b : Binding} {xs : Bounds} {all vs us : List Leaf}
      → Binds all b vs → IsNames (binding_depth b) vs xs us → Held all (bares b xs) us
  he_groups : {b : Binding} {gs : List Group} {n : ℕ} {all vs us : List Leaf}
      → Binds all b vs → Listed b vs gs n us → Held all (groups b gs n) us
  he_group_opened : {b : Binding} {gs : List Group} {n : ℕ} {x : Sign} {all vs us : List Leaf}
      → Binds all b vs → SoFar (binding_depth b) vs gs n (leaf Open x (binding_depth b + 1) 0 ∷ us) → Held all (group_opened b gs n) us
  he_group_names : {b : Binding} {gs : List Group} {n : ℕ} {x : Sign} {xs : Bounds} {all vs ws us : List Leaf}
      → Binds all b vs → SoFar (binding_depth b) vs gs n (leaf Open x (binding_depth b + 1) 0 ∷ ws)
      → IsNames (binding_depth b + 1) ws xs us → Held all (group_names b gs n xs) us
  he_items : {l : Listing} {is : List Item} {all vs us : List Leaf} → ItemsFront all l vs → IsItems vs is us → Held all (items l is) us
  he_fields : {r : RecordOf} {fs : List (Word × Preterm)} {all vs us : List Leaf}
      → RecordFront all r vs → IsOpenFields vs fs us → Held all (fields r fs) us
  he_conditioned : {i : InstanceOf} {all us : List Leaf} → InstanceFront all i us → Held all (conditioned i) us
  he_condition_names : {i : InstanceOf} {x : Sign} {ws : List Word} {all vs us : List Leaf}
      → InstanceFront all i (leaf Open x 1 0 ∷ vs) → IsIds vs ws us → Held all (condition_names i ws) us
  he_placing : {p : Placing} {all us : List Leaf} → PlacingFront all p us → Held all (placing p) us
  he_place_names : {p : Placing} {x : Sign} {k : Word} {ws : List Word} {all vs us : List Leaf}
      → PlacingFront all p (leaf Open x 1 (placing_argument p) ∷ vs) → IsAtNames vs k ws us → Held all (place_names p x.place k ws) us

-- a row of tokens says what comes behind each
abbrev pub Holds : List Leaf → State → List Leaf → Type 0
Holds all (take d m f) us = (w : Sign) (vs : List Leaf) → us ≡ leaf m w d 0 ∷ vs → Holds all (f w) vs
Holds all (either d m f e n g) us =
    ((w : Sign) (vs : List Leaf) → us ≡ leaf m w d 0 ∷ vs → Holds all (f w) vs)
    × ((w : Sign) (vs : List Leaf) → us ≡ leaf n w e 0 ∷ vs → Holds all (g w) vs)
Holds all s us = Held all s us

-- what is said after a step, if there is a way on
abbrev pub Then : List Leaf → Option State → List Leaf → Type 0
Then all None us = Unit {0}
Then all (Some s) us = Holds all s us
