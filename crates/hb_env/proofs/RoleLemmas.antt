-- What names stand for, in longer and shorter environments.
use Rattle.std.proofs.Common.{◌≡◌, ℕ, zero, suc, Bool, true, false, ◌==◌, ◌-◌, ◌⊎◌, inl, inr, List, [], ◌∷◌, ◌++◌, length, Option, Some, None, slice_get, refl, ap, sym, subst, ◌∙◌, arith}
use Rattle.std.proofs.lemmas.Bool.Decides.{nat_tests}
use Rattle.hb_calculus.specs.Declarations.{Decl, an_axiom, a_definition, a_record, names_of, names, field_names, IsIn}
use Rattle.hb_tree.specs.declared.leaves.ConstId.{ConstId}
use Rattle.hb_tree.specs.declared.leaves.RecId.{RecId}
use Rattle.hb_env.specs.declared.named.Named.{Named}
use Rattle.hb_env.specs.declared.named.Named.TheVariants.{Const, Proj}
use Rattle.hb_env.specs.Naming.{name_in, const_name, field_name}
use Rattle.hb_env.specs.Table.{role}
use Rattle.hb_env.proofs.NameLemmas.{in_left, in_right, in_at}

-- a declaration keeps its place in a longer environment, and the next one stands at the end
pub get_front : (E : List Decl) (d e : Decl) (i : ℕ) → slice_get E i ≡ Some e → slice_get (E ++ d ∷ []) i ≡ Some e
get_front [] d e i h = absurd (cc)
get_front (x ∷ E) d e zero h = h
get_front (x ∷ E) d e (suc i) h = get_front E d e i h

pub get_last : (E : List Decl) (d : Decl) → slice_get (E ++ d ∷ []) (length E) ≡ Some d
get_last [] d = refl
get_last (x ∷ E) d = get_last E d

-- what stands in a longer environment is the last, or stood before
pub get_back : (E : List Decl) (d e : Decl) (i : ℕ) → slice_get (E ++ d ∷ []) i ≡ Some e → (e ≡ d) ⊎ (slice_get E i ≡ Some e)
get_back [] d e zero h = inl (cc)
get_back [] d e (suc i) h = absurd (cc)
get_back (x ∷ E) d e zero h = inr h
get_back (x ∷ E) d e (suc i) h = get_back E d e i h

-- the name of a constant is a name of its declaration
const_is : (d : Decl) (c : ConstId) (b : Bool) (n : ℕ) → b ≡ c.maker → const_name (Some d) c ≡ Some n → IsIn n (names_of d)
const_is (an_axiom m t) c true n q h = absurd (let e : const_name (Some (an_axiom m t)) c ≡ None = rw (← q) refl in cc)
const_is (an_axiom m t) c false n q h = let e : const_name (Some (an_axiom m t)) c ≡ Some m = rw (← q) refl in inl (cc)
const_is (a_definition m t u) c true n q h = absurd (let e : const_name (Some (a_definition m t u)) c ≡ None = rw (← q) refl in cc)
const_is (a_definition m t u) c false n q h = let e : const_name (Some (a_definition m t u)) c ≡ Some m = rw (← q) refl in inl (cc)
const_is (a_record m k ps l fs) c true n q h = let e : const_name (Some (a_record m k ps l fs)) c ≡ Some k = rw (← q) refl in inr (inl (cc))
const_is (a_record m k ps l fs) c false n q h = let e : const_name (Some (a_record m k ps l fs)) c ≡ Some m = rw (← q) refl in inl (cc)

field_is : (d : Decl) (i n : ℕ) → field_name (Some d) i ≡ Some n → IsIn n (names_of d)
field_is (an_axiom m t) i n h = absurd (cc)
field_is (a_definition m t u) i n h = absurd (cc)
field_is (a_record m k ps l fs) i n h = inr (inr (in_at (field_names fs) i n h))

-- a name of a declaration is a name of the environment
in_names : (E : List Decl) (i : ℕ) (d : Decl) (n : ℕ) → slice_get E i ≡ Some d → IsIn n (names_of d) → IsIn n (names E)
in_names [] i d n h p = absurd (cc)
in_names (x ∷ E) zero d n h p = let e : x ≡ d = cc in in_left n (names_of x) (names E) (subst (λ (y : Decl). IsIn n (names_of y)) (sym e) p)
in_names (x ∷ E) (suc i) d n h p = in_right n (names_of x) (names E) (in_names E i d n h p)

-- what is declared at a place, if anything is
found : (o : Option Decl) → (o ≡ None) ⊎ ((d : Decl) × (o ≡ Some d))
found None = inl refl
found (Some d) = inr (d, refl)

const_found : (E : List Decl) (c : ConstId) (n : ℕ) → const_name (slice_get E c.decl) c ≡ Some n → (d : Decl) × (slice_get E c.decl ≡ Some d) × IsIn n (names_of d)
const_found E c n h = elim (found (slice_get E c.decl)) [
  | inl e ↦ absurd (let f : const_name None c ≡ Some n = subst (λ (o : Option Decl). const_name o c ≡ Some n) e h in cc)
  | inr p ↦ (p.0, p.1, const_is p.0 c c.maker n refl (subst (λ (o : Option Decl). const_name o c ≡ Some n) p.1 h))
]

field_found : (E : List Decl) (r : RecId) (i n : ℕ) → field_name (slice_get E r.0) i ≡ Some n → (d : Decl) × (slice_get E r.0 ≡ Some d) × IsIn n (names_of d)
field_found E r i n h = elim (found (slice_get E r.0)) [
  | inl e ↦ absurd (let f : field_name None i ≡ Some n = subst (λ (o : Option Decl). field_name o i ≡ Some n) e h in cc)
  | inr p ↦ (p.0, p.1, field_is p.0 i n (subst (λ (o : Option Decl). field_name o i ≡ Some n) p.1 h))
]

-- the name of what is declared is a name of the environment
pub name_is_in : (E : List Decl) (x : Named) (n : ℕ) → name_in E x ≡ Some n → IsIn n (names E)
name_is_in E (Const c) n h = let f = const_found E c n h in in_names E c.decl f.0 n f.1 f.2
name_is_in E (Proj r i) n h = let f = field_found E r i n h in in_names E r.0 f.0 n f.1 f.2

-- what is declared has its name in a longer environment
pub name_kept : (E : List Decl) (d : Decl) (x : Named) (n : ℕ) → name_in E x ≡ Some n → name_in (E ++ d ∷ []) x ≡ Some n
name_kept E d (Const c) n h =
    let f = const_found E c n h in
    ap (λ o. const_name o c) (get_front E d f.0 c.decl f.1 ∙ sym f.1) ∙ h
name_kept E d (Proj r i) n h =
    let f = field_found E r i n h in
    ap (λ o. field_name o i) (get_front E d f.0 r.0 f.1 ∙ sym f.1) ∙ h

-- and in a shorter one, if its name isn't one of the last declaration
pub name_back : (E : List Decl) (d : Decl) (x : Named) (n : ℕ) → name_in (E ++ d ∷ []) x ≡ Some n → ¬ IsIn n (names_of d) → name_in E x ≡ Some n
name_back E d (Const c) n h p =
    let f = const_found (E ++ d ∷ []) c n h in
    elim (get_back E d f.0 c.decl f.1) [
      | inl e ↦ absurd (p (subst (λ (y : Decl). IsIn n (names_of y)) e f.2))
      | inr e ↦ ap (λ o. const_name o c) (e ∙ sym f.1) ∙ h
    ]
name_back E d (Proj r i) n h p =
    let f = field_found (E ++ d ∷ []) r i n h in
    elim (get_back E d f.0 r.0 f.1) [
      | inl e ↦ absurd (p (subst (λ (y : Decl). IsIn n (names_of y)) e f.2))
      | inr e ↦ ap (λ o. field_name o i) (e ∙ sym f.1) ∙ h
    ]

-- name number i of a declaration is that of what it stands for
pub role_is : (E : List Decl) (at i : ℕ) (d : Decl) (n : ℕ) → slice_get E at ≡ Some d → slice_get (names_of d) i ≡ Some n → name_in E (role at i) ≡ Some n
role_is E at zero (an_axiom m t) n e h = rw e (cc)
role_is E at (suc i) (an_axiom m t) n e h = absurd (cc)
role_is E at zero (a_definition m t u) n e h = rw e (cc)
role_is E at (suc i) (a_definition m t u) n e h = absurd (cc)
role_is E at zero (a_record m k ps l fs) n e h = rw e (cc)
role_is E at (suc zero) (a_record m k ps l fs) n e h = rw e (cc)
role_is E at (suc (suc i)) (a_record m k ps l fs) n e h =
    let a : (suc (suc i) == 0) ≡ false = grind (arith, nat_tests) in
    let b : (suc (suc i) == 1) ≡ false = grind (arith, nat_tests) in
    let q : suc (suc i) - 2 ≡ i = omega arith in
    rw (a, b, e, q) h
