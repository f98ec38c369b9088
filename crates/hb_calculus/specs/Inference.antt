-- The inferred type of a term, and why a term has none: the typing rules read as a recipe, from left to
-- right, where each form that a rule asks of a type is the weak head form of an inferred type.
use Rattle.std.specs.Prelude.{◌≡◌, ℕ, ◌+◌, ◌<◌, ◌≤◌, ◌≢◌, max, List, [], ◌∷◌, length, Some, slice_get}
use Rattle.hb_tree.specs.Tree.{Tree, sort, rel, pi, lam, app, const, proj, lift, subst_at, apply}
use Rattle.hb_tree.specs.declared.leaves.Sort.{Sort}
use Rattle.hb_tree.specs.declared.leaves.Sort.TheVariants.{Prop, Level}
use Rattle.hb_tree.specs.declared.leaves.ConstId.{ConstId}
use Rattle.hb_tree.specs.declared.leaves.RecId.{RecId}
use Rattle.hb_calculus.specs.Declarations.{Decl, an_axiom, a_definition, a_record, Record, record_in, field_types}
use Rattle.hb_calculus.specs.Telescopes.{former, type_in, projection_type}
use Rattle.hb_calculus.specs.Conversion.{Below, Ordered}
use Rattle.hb_calculus.specs.Typing.{product_sort, extended}
use Rattle.hb_calculus.specs.Budget.{Budget}
use Rattle.hb_calculus.specs.Sequence.{IsNormalForm, IsHeadForm, Exceeds, HeadExceeds}

-- why there is no type; want of memory may end any inference
pub data Cause : Type 0 where
  no_memory : Cause
  not_function : (w : Tree) → Cause
  not_sort : (w : Tree) → Cause
  not_record : (w : Tree) → Cause
  not_convertible : (x y : Tree) → Cause
  level_too_high : Cause
  spent : (t : Tree) → Cause

-- w is the weak head form of t, and is reached within the budget
pub record HeadIs (E : List Decl) (L : Budget) (t w : Tree) : Type 0 where
  pub form : IsHeadForm E t w
  pub within : ¬ HeadExceeds E L t

-- the forms that rules ask for: a sort, a product, the record at the place r with all its parameters
abbrev pub IsSort : Tree → Type 0
IsSort w = (s : Sort) × (w ≡ sort s)

abbrev pub IsProduct : Tree → Type 0
IsProduct w = (a b : Tree) × (w ≡ pi a b)

abbrev pub IsRecord : List Decl → ℕ → Tree → Type 0
IsRecord E r w =
    (R : Record) × (qs : List Tree) × (record_in (slice_get E r) ≡ Some R) × (w ≡ apply (former r) qs) × (length qs ≡ length R.params)

-- why the ask for a form of the type t fails: it exceeds the budget, or has another form, which is kept
pub data NotOfForm (E : List Decl) (L : Budget) (IsForm : Tree → Type 0) (other : Tree → Cause) : Tree → Cause → Type 0 where
  form_memory : {t : Tree} → NotOfForm E L IsForm other t no_memory
  form_spent : {t : Tree} → HeadExceeds E L t → NotOfForm E L IsForm other t (spent t)
  form_other : {t w : Tree} {c : Cause} → HeadIs E L t w → ¬ IsForm w → c ≡ other w → NotOfForm E L IsForm other t c

-- why the ask whether the type t is below u fails: one exceeds the budget, the first such is kept, or the
-- normal forms, which are kept, are not in order
pub data NotBelow (E : List Decl) (L : Budget) : Tree → Tree → Cause → Type 0 where
  below_memory : {t u : Tree} → NotBelow E L t u no_memory
  below_spent : {t u : Tree} → Exceeds E L t → NotBelow E L t u (spent t)
  below_spent_second : {t u : Tree} → ¬ Exceeds E L t → Exceeds E L u → NotBelow E L t u (spent u)
  below_differ :
      {t u x y : Tree} → ¬ Exceeds E L t → ¬ Exceeds E L u → IsNormalForm E t x → IsNormalForm E u y
      → ¬ Ordered x y → NotBelow E L t u (not_convertible x y)

-- Under the types G of the variables the recipe gives the term this type.
pub data Infers (E : List Decl) (L : Budget) : List Tree → Tree → Tree → Type 0 where
  infers_prop : {G : List Tree} {u : Tree} → u ≡ sort (Level 0) → Infers E L G (sort Prop) u
  infers_level : {G : List Tree} {k : ℕ} {u : Tree} → k ≤ 62 → u ≡ sort (Level (k + 1)) → Infers E L G (sort (Level k)) u
  infers_variable : {G : List Tree} {v : ℕ} {t u : Tree} → slice_get G v ≡ Some t → u ≡ lift t (v + 1) 0 → Infers E L G (rel v) u
  infers_constant : {G : List Tree} {c : ConstId} {u : Tree} → type_in (slice_get E c.decl) c ≡ Some u → Infers E L G (const c) u
  infers_product :
      {G : List Tree} {a b A B u : Tree} {s s' : Sort} → Infers E L G a A → HeadIs E L A (sort s)
      → Infers E L (a ∷ G) b B → HeadIs E L B (sort s') → u ≡ sort (product_sort s s') → Infers E L G (pi a b) u
  infers_function :
      {G : List Tree} {a b A B : Tree} {s : Sort} → Infers E L G a A → HeadIs E L A (sort s)
      → Infers E L (a ∷ G) b B → Infers E L G (lam a b) (pi a B)
  infers_application :
      {G : List Tree} {f x F X a b u : Tree} → Infers E L G f F → HeadIs E L F (pi a b) → Infers E L G x X
      → Below E X a → u ≡ subst_at b x 0 → Infers E L G (app f x) u
  infers_projection :
      {G : List Tree} {r : RecId} {i : ℕ} {t T w F u : Tree} {R : Record} (qs : List Tree)
      → record_in (slice_get E r.0) ≡ Some R → Infers E L G t T → HeadIs E L T w → w ≡ apply (former r.0) qs
      → length qs ≡ length R.params → slice_get R.fields i ≡ Some F → u ≡ projection_type r F qs i t
      → Infers E L G (proj r i t) u

-- The recipe fails with the cause: at an ask, or a sort, before which all asks go on.
pub data Fails (E : List Decl) (L : Budget) : List Tree → Tree → Cause → Type 0 where
  fails_memory : {G : List Tree} {t : Tree} → Fails E L G t no_memory
  fails_level : {G : List Tree} {k : ℕ} → 62 < k → Fails E L G (sort (Level k)) level_too_high
  fails_domain : {G : List Tree} {a b : Tree} {c : Cause} → Fails E L G a c → Fails E L G (pi a b) c
  fails_domain_sort :
      {G : List Tree} {a b A : Tree} {c : Cause} → Infers E L G a A → NotOfForm E L IsSort not_sort A c
      → Fails E L G (pi a b) c
  fails_codomain :
      {G : List Tree} {a b A : Tree} {s : Sort} {c : Cause} → Infers E L G a A → HeadIs E L A (sort s)
      → Fails E L (a ∷ G) b c → Fails E L G (pi a b) c
  fails_codomain_sort :
      {G : List Tree} {a b A B : Tree} {s : Sort} {c : Cause} → Infers E L G a A → HeadIs E L A (sort s)
      → Infers E L (a ∷ G) b B → NotOfForm E L IsSort not_sort B c → Fails E L G (pi a b) c
  fails_binder : {G : List Tree} {a b : Tree} {c : Cause} → Fails E L G a c → Fails E L G (lam a b) c
  fails_binder_sort :
      {G : List Tree} {a b A : Tree} {c : Cause} → Infers E L G a A → NotOfForm E L IsSort not_sort A c
      → Fails E L G (lam a b) c
  fails_body :
      {G : List Tree} {a b A : Tree} {s : Sort} {c : Cause} → Infers E L G a A → HeadIs E L A (sort s)
      → Fails E L (a ∷ G) b c → Fails E L G (lam a b) c
  fails_function : {G : List Tree} {f x : Tree} {c : Cause} → Fails E L G f c → Fails E L G (app f x) c
  fails_function_product :
      {G : List Tree} {f x F : Tree} {c : Cause} → Infers E L G f F → NotOfForm E L IsProduct not_function F c
      → Fails E L G (app f x) c
  fails_argument :
      {G : List Tree} {f x F a b : Tree} {c : Cause} → Infers E L G f F → HeadIs E L F (pi a b)
      → Fails E L G x c → Fails E L G (app f x) c
  fails_argument_below :
      {G : List Tree} {f x F X a b : Tree} {c : Cause} → Infers E L G f F → HeadIs E L F (pi a b)
      → Infers E L G x X → NotBelow E L X a c → Fails E L G (app f x) c
  fails_projected : {G : List Tree} {r : RecId} {i : ℕ} {t : Tree} {c : Cause} → Fails E L G t c → Fails E L G (proj r i t) c
  fails_projected_record :
      {G : List Tree} {r : RecId} {i : ℕ} {t T : Tree} {c : Cause} → Infers E L G t T
      → NotOfForm E L (IsRecord E r.0) not_record T c → Fails E L G (proj r i t) c

-- the inferred type of t has this sort as its weak head form
pub record SortIs (E : List Decl) (L : Budget) (G : List Tree) (t : Tree) (s : Sort) : Type 0 where
  pub type_is : Tree
  pub infers : Infers E L G t type_is
  pub head : HeadIs E L type_is (sort s)

-- why t is no type
pub data NotType (E : List Decl) (L : Budget) (G : List Tree) : Tree → Cause → Type 0 where
  type_fails : {t : Tree} {c : Cause} → Fails E L G t c → NotType E L G t c
  type_sort : {t T : Tree} {c : Cause} → Infers E L G t T → NotOfForm E L IsSort not_sort T c → NotType E L G t c

-- t is checked against the type u: u is a type, and the inferred type of t is below it
pub record Checks (E : List Decl) (L : Budget) (G : List Tree) (t u : Tree) : Type 0 where
  pub sort_is : Sort
  pub is_type : SortIs E L G u sort_is
  pub type_is : Tree
  pub infers : Infers E L G t type_is
  pub below : Below E type_is u

-- why the check of t against u fails
pub data NotChecked (E : List Decl) (L : Budget) (G : List Tree) : Tree → Tree → Cause → Type 0 where
  check_type : {t u : Tree} {c : Cause} → NotType E L G u c → NotChecked E L G t u c
  check_term : {t u : Tree} {s : Sort} {c : Cause} → SortIs E L G u s → Fails E L G t c → NotChecked E L G t u c
  check_below :
      {t u T : Tree} {s : Sort} {c : Cause} → SortIs E L G u s → Infers E L G t T → NotBelow E L T u c
      → NotChecked E L G t u c

-- the sorts of types, each in the context of those before it
pub data SortsAre (E : List Decl) (L : Budget) : List Tree → List Tree → List Sort → Type 0 where
  sorts_end : {G : List Tree} → SortsAre E L G [] []
  sorts_next :
      {G rest : List Tree} {a : Tree} {s : Sort} {ss : List Sort} → SortIs E L G a s → SortsAre E L (a ∷ G) rest ss
      → SortsAre E L G (a ∷ rest) (s ∷ ss)

-- why one of them is no type, while all before it are
pub data NotTypes (E : List Decl) (L : Budget) : List Tree → List Tree → Cause → Type 0 where
  types_first : {G rest : List Tree} {a : Tree} {c : Cause} → NotType E L G a c → NotTypes E L G (a ∷ rest) c
  types_later :
      {G rest : List Tree} {a : Tree} {s : Sort} {c : Cause} → SortIs E L G a s → NotTypes E L (a ∷ G) rest c
      → NotTypes E L G (a ∷ rest) c

-- the least level of a record whose fields have these sorts: each is at most Type at it
abbrev pub least_level : List Sort → ℕ
least_level [] = 0
least_level (Prop ∷ ss) = least_level ss
least_level (Level k ∷ ss) = max k (least_level ss)

-- the declaration passes the asks of its own: an axiom's type, a definition's type and body, a record's
-- parameters, fields and level
pub data Accepts (E : List Decl) (L : Budget) : Decl → Type 0 where
  accepts_axiom : {n : ℕ} {t : Tree} {s : Sort} → SortIs E L [] t s → Accepts E L (an_axiom n t)
  accepts_definition : {n : ℕ} {t b : Tree} → Checks E L [] b t → Accepts E L (a_definition n t b)
  accepts_record :
      {n m k : ℕ} {ps : List Tree} {fs : List (ℕ × Tree)} (ss ss' : List Sort) → SortsAre E L [] ps ss
      → SortsAre E L (extended [] ps) (field_types fs) ss' → k ≡ least_level ss' → Accepts E L (a_record n m ps k fs)

-- why a declaration is refused by an ask
pub data Refuses (E : List Decl) (L : Budget) : Decl → Cause → Type 0 where
  refuses_axiom : {n : ℕ} {t : Tree} {c : Cause} → NotType E L [] t c → Refuses E L (an_axiom n t) c
  refuses_definition : {n : ℕ} {t b : Tree} {c : Cause} → NotChecked E L [] b t c → Refuses E L (a_definition n t b) c
  refuses_param :
      {n m k : ℕ} {ps : List Tree} {fs : List (ℕ × Tree)} {c : Cause} → NotTypes E L [] ps c
      → Refuses E L (a_record n m ps k fs) c
  refuses_field :
      {n m k : ℕ} {ps : List Tree} {fs : List (ℕ × Tree)} {c : Cause} (ss : List Sort) → SortsAre E L [] ps ss
      → NotTypes E L (extended [] ps) (field_types fs) c → Refuses E L (a_record n m ps k fs) c
  refuses_level :
      {n m k : ℕ} {ps : List Tree} {fs : List (ℕ × Tree)} {c : Cause} (ss ss' : List Sort) → SortsAre E L [] ps ss
      → SortsAre E L (extended [] ps) (field_types fs) ss' → k ≢ least_level ss'
      → c ≡ not_convertible (sort (Level (least_level ss'))) (sort (Level k)) → Refuses E L (a_record n m ps k fs) c
