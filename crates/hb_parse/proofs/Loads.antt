-- How often a number stands in what the reader is in the middle of.
use Rattle.std.proofs.Common.{◌≡◌, ℕ, ◌+◌, ◌<◌, Bool, true, false, List, [], ◌∷◌, ◌++◌, length, map, Option, Some, None, refl, arith}
use Rattle.std.proofs.Common.{◌*◌, inl, inr}
use Rattle.std.proofs.lemmas.Bool.{cases_lt}
use Rattle.std.specs.List.{sum_by}
use Rattle.std.proofs.lemmas.List.Sums.{sum_by-append}
use Rattle.hb_base.specs.declared.span.Span.{Span}
use Rattle.hb_raw.specs.declared.word.Word.{Word}
use Rattle.hb_raw.specs.Preterm.{Preterm, preterms_of, Group, untyped, groups_of}
use Rattle.hb_grammar.specs.Leaf.{Sign}
use Rattle.hb_grammar.specs.Part.{Part}
use Rattle.hb_grammar.specs.Grammar.{Bounds, Spine, spine_part, applied_part, conditions, word_term, carrier_term}
use Rattle.hb_grammar.specs.Machine.{Before, first, behind, alone, making, filled, next, RecordOf, InstanceOf, Stack, right, inside, casting, lone, group_type, body, axiom_type, definition_type, definition_body, field_type, instance_value, build_value, carrier_found, Binding, of_product, of_function, of_definition, Listing, of_record, of_structure, Placing, of_factory, of_builder, State, begin, done, take, either, want, have, more, bare_begun, universe_at, projecting, binders, bares, groups, group_opened, group_names, items, fields, conditioned, condition_names, placing, place_names, bare_groups}
use Rattle.hb_reader.specs.declared.need.Need.{Need}
use Rattle.hb_reader.specs.Needs.{row_need}
use Rattle.hb_parse.specs.Numbers.{number_uses}
use Rattle.hb_parse.specs.Uses.{bound_uses, term_uses, terms_uses, group_uses, groups_uses, word_uses, option_uses, item_uses, field_uses, binder_uses, sentence_uses}

-- both are zero, or neither
pub record Alike (a n : ℕ) : Type 0 where
  pub forth : 0 < a → 0 < n
  pub back : 0 < n → 0 < a

grown : {a n m : ℕ} (c : ℕ) → (0 < a → 0 < n) → m ≡ n + c → 0 < a + c → 0 < m
grown c f e p = elim (cases_lt 0 c) [ inl l ↦ omega arith | inr z ↦ let q = f (omega arith) in omega arith ]

-- b is a with c more uses, perhaps some of them twice
pub moved : {a n b m : ℕ} (c : ℕ) → Alike a n → (0 < b → 0 < a + c) → (0 < a + c → 0 < b) → m ≡ n + c → Alike b m
moved {n = n} {m = m} c h f g e = record {
  forth = λ p. grown c h.forth e (f p);
  back = λ p. let q : 0 < n + c = omega (arith, p, e) in g (grown c h.back refl q);
}

pub alike : {a n b m : ℕ} → Alike a n → (c : ℕ) → b ≡ a + c → m ≡ n + c → Alike b m
alike h c e f = moved c h (λ p. omega (arith, p, e)) (λ p. omega (arith, p, e)) f

module _ (i : ℕ) where
  abbrev pub words_load : List Word → ℕ
  words_load ws = sum_by (word_uses i) ws

  abbrev pub part_load : Part → ℕ
  part_load p = term_uses i p.term

  abbrev pub spine_load : Spine → ℕ
  spine_load s = part_load s.head + sum_by (term_uses i) s.args

  abbrev pub before_load : Before → ℕ
  before_load first = 0
  before_load (behind s) = spine_load s
  before_load alone = 0
  before_load (making s) = spine_load s

  abbrev pub record_load : RecordOf → ℕ
  record_load r = word_uses i r.name + word_uses i r.carrier + sum_by (item_uses i) r.items

  abbrev pub instance_load : InstanceOf → ℕ
  instance_load j = option_uses (word_uses i) j.name + sum_by (binder_uses i) j.conditions

  abbrev mutual
    pub stack_load : Stack → ℕ
    stack_load (right a k) = part_load a + stack_load k
    stack_load (inside b x k) = before_load b + stack_load k
    stack_load (casting b x t k) = before_load b + part_load t + stack_load k
    stack_load (lone b xs) = binding_load b + sum_by (bound_uses i) xs
    stack_load (group_type b gs n xs) = binding_load b + sum_by (group_uses i) gs + sum_by (bound_uses i) xs
    stack_load (body b gs n) = binding_load b + sum_by (group_uses i) gs
    stack_load (axiom_type x n) = word_uses i n
    stack_load (definition_type x n gs c) = word_uses i n + sum_by (group_uses i) gs
    stack_load (definition_body x n gs c t) = word_uses i n + sum_by (group_uses i) gs + option_uses (term_uses i) t
    stack_load (field_type r fs f) = record_load r + sum_by (field_uses i) fs + word_uses i f
    stack_load (instance_value j f k ws) = instance_load j + word_uses i f + word_uses i k + words_load ws
    stack_load (build_value j f k ws) = instance_load j + word_uses i f + word_uses i k + words_load ws
    stack_load (carrier_found x s) = word_uses i s

    pub binding_load : Binding → ℕ
    binding_load (of_product x k) = stack_load k
    binding_load (of_function x k) = stack_load k
    binding_load (of_definition x n) = word_uses i n

  abbrev pub listing_load : Listing → ℕ
  listing_load (of_record b x n c) = word_uses i n + word_uses i c
  listing_load (of_structure x n c) = word_uses i n + word_uses i c

  abbrev pub placing_load : Placing → ℕ
  placing_load (of_factory j f) = instance_load j + word_uses i f
  placing_load (of_builder j f b) = instance_load j + word_uses i f + word_uses i b

  -- how often the number stands in what is needed
  abbrev pub weight : Need → Sign → ℕ
  weight d w = number_uses i d w.whole w.first

  -- behind an argument; a `Type` without a level holds nothing
  abbrev pub HaveLoad : Before → Part → Bool → Stack → ℕ → Type 0
  HaveLoad b a true k n = (part_load a ≡ 0) × Alike (before_load b + part_load a + stack_load k) n
  HaveLoad b a false k n = Alike (before_load b + part_load a + stack_load k) n

  -- what the state holds is alike n; in a row of tokens, with what it needs of them
  abbrev pub Load : State → ℕ → Type 0
  Load begin n = Alike 0 n
  Load (done c) n = Alike (sentence_uses i c) n
  Load (take d m f) n = (w : Sign) → Load (f w) (n + weight (row_need m) w)
  Load (either d m f e o g) n =
      ((w : Sign) → Load (f w) (n + weight (row_need m) w)) × ((w : Sign) → Load (g w) (n + weight (row_need o) w))
  Load (want b k) n = Alike (before_load b + stack_load k) n
  Load (have b a e k) n = HaveLoad b a e k n
  Load (more b k) n = Alike (before_load b + stack_load k) n
  Load (bare_begun b x k) n = Alike (before_load b + stack_load k) n
  Load (universe_at b a x k) n = (part_load a ≡ 0) × Alike (before_load b + part_load a + stack_load k) n
  Load (projecting b a k) n = Alike (before_load b + part_load a + stack_load k) n
  Load (binders b) n = Alike (binding_load b) n
  Load (bares b xs) n = Alike (binding_load b + sum_by (bound_uses i) xs) n
  Load (groups b gs c) n = Alike (binding_load b + sum_by (group_uses i) gs) n
  Load (group_opened b gs c) n = Alike (binding_load b + sum_by (group_uses i) gs) n
  Load (group_names b gs c xs) n = Alike (binding_load b + sum_by (group_uses i) gs + sum_by (bound_uses i) xs) n
  Load (items l is) n = Alike (listing_load l + sum_by (item_uses i) is) n
  Load (fields r fs) n = Alike (record_load r + sum_by (field_uses i) fs) n
  Load (conditioned j) n = Alike (instance_load j) n
  Load (condition_names j ws) n = (0 < length ws) × Alike (instance_load j + words_load ws) n
  Load (placing p) n = Alike (placing_load p) n
  Load (place_names p x k ws) n = Alike (placing_load p + word_uses i k + words_load ws) n

  abbrev pub Loads : Option State → ℕ → Type 0
  Loads None n = Unit {0}
  Loads (Some s) n = Load s n

  -- lists
  pub push_load : {X : Type 0} (f : X → ℕ) (xs : List X) (x : X) → sum_by f (xs ++ (x ∷ [])) ≡ sum_by f xs + f x
  push_load f xs x = omega (arith, sum_by-append f xs (x ∷ []))

  pub cons_load : {X : Type 0} (f : X → ℕ) (x : X) (xs : List X) → sum_by f (x ∷ xs) ≡ f x + sum_by f xs
  cons_load f x xs =
      let e : sum_by f (x ∷ xs) ≡ sum_by f (x ∷ []) + sum_by f xs = sum_by-append f (x ∷ []) xs in omega (arith, e)

  pub terms_load : (ts : List Preterm) → terms_uses i (preterms_of ts) ≡ sum_by (term_uses i) ts
  terms_load [] = refl
  terms_load (t ∷ ts) = omega (arith, terms_load ts, cons_load (term_uses i) t ts)

  pub groups_load : (gs : List Group) → groups_uses i (groups_of gs) ≡ sum_by (group_uses i) gs
  groups_load [] = refl
  groups_load (g ∷ gs) = omega (arith, groups_load gs, cons_load (group_uses i) g gs)

  pub spine_part_load : (s : Spine) → part_load (spine_part s) ≡ spine_load s
  spine_part_load s = args s.head s.args s.extent
    where
      args : (h : Part) (ts : List Preterm) (x : Span) → part_load (applied_part h ts x) ≡ part_load h + sum_by (term_uses i) ts
      args h [] x = omega arith
      args h (t ∷ ts) x = omega (arith, terms_load (t ∷ ts))

  pub filled_load : (b : Before) (a : Part) → spine_load (filled b a) ≡ before_load b + part_load a
  filled_load first a = omega arith
  filled_load alone a = omega arith
  filled_load (behind s) a = omega (arith, push_load (term_uses i) s.args a.term)
  filled_load (making s) a = omega (arith, push_load (term_uses i) s.args a.term)

  pub next_load : (b : Before) (a : Part) → before_load (next b a) ≡ before_load b + part_load a
  next_load (making s) a = filled_load (making s) a
  next_load first a = filled_load first a
  next_load alone a = filled_load alone a
  next_load (behind s) a = filled_load (behind s) a

  pub bares_load : (xs : Bounds) → sum_by (group_uses i) (bare_groups xs) ≡ sum_by (bound_uses i) xs
  bares_load [] = refl
  bares_load (x ∷ xs) =
      omega (arith, bares_load xs, cons_load (group_uses i) (untyped (x ∷ [])) (bare_groups xs), cons_load (bound_uses i) x xs)

  -- conditions: the structure stands in each
  pub conditions_load : (ws : List Word) (s : Option Word) → sum_by (binder_uses i) (conditions ws s) ≡ words_load ws + length ws * option_uses (word_uses i) s
  conditions_load [] s = omega arith
  conditions_load (w ∷ ws) s =
      omega (arith, conditions_load ws s, cons_load (binder_uses i) (w, s) (conditions ws s), cons_load (word_uses i) w ws)

  word_terms_load : (ws : List Word) → sum_by (term_uses i) (map word_term ws) ≡ words_load ws
  word_terms_load [] = refl
  word_terms_load (w ∷ ws) =
      omega (arith, word_terms_load ws, cons_load (term_uses i) (word_term w) (map word_term ws), cons_load (word_uses i) w ws)

  pub carrier_load : (k : Word) (ws : List Word) → term_uses i (carrier_term k ws) ≡ word_uses i k + words_load ws
  carrier_load k [] = omega arith
  carrier_load k (w ∷ ws) = omega (arith, terms_load (map word_term (w ∷ ws)), word_terms_load (w ∷ ws))
