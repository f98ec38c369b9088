-- What is typed is scoped, and what is declared in a well formed environment is typed, scoped and closed.
use Rattle.std.proofs.Common.{◌≡◌, ◌∙◌, sym, refl, ap, subst, ℕ, zero, suc, ◌+◌, ◌≤◌, inl, inr, ⊎_elim, List, [], ◌∷◌, ◌++◌, length, append_assoc, append-nil, arith}
use Rattle.std.specs.Prelude.{Option, Some, None, slice_get, is_some}
use Rattle.std.proofs.lemmas.Option.{none-some, slice_get_within}
use Rattle.hb_tree.specs.Tree.{Tree, loose}
use Rattle.hb_tree.proofs.Neither.{neither}
use Rattle.hb_calculus.specs.Declarations.{Decl, an_axiom, a_definition, a_record, body_in, field_types, terms_of, names_of, names, IsIn, Distinct}
use Rattle.hb_calculus.specs.Scope.{IsScoped, AreScoped, IsScopedDecl, IsDeclared, AreDeclared, IsDeclaredEnv, AreBodiesClosed}
use Rattle.hb_calculus.specs.Typing.{HasType, of_prop, of_level, of_variable, of_constant, of_product, of_function, of_application, of_projection, reduced, weaker, AreTypes, AreTypesBelow, extended, IsTyped, AreTyped, WellFormed}
use Rattle.hb_calculus.proofs.Options.{Some-injective}
use Rattle.hb_calculus.proofs.Longer.{IsTyped-longer}

module _ (E : List Decl) where
  pub HasType-scoped : {G : List Tree} {t u : Tree} → HasType E G t u → IsScoped (length G) t
  HasType-scoped (of_prop e) = record { variables = omega arith; holes = refl }
  HasType-scoped (of_level h e) = record { variables = omega arith; holes = refl }
  HasType-scoped (of_variable {G = G} {v = v} {t = t} h e) =
      let k = slice_get_within G v t h in record { variables = omega arith; holes = refl }
  HasType-scoped (of_constant e) = record { variables = omega arith; holes = refl }
  HasType-scoped (of_product p q e) =
      let x = HasType-scoped p in
      let y = HasType-scoped q in
      let h = x.variables in
      let k = y.variables in
      record { variables = omega arith; holes = neither x.holes y.holes }
  HasType-scoped (of_function p q) =
      let x = HasType-scoped p in
      let y = HasType-scoped q in
      let h = x.variables in
      let k = y.variables in
      record { variables = omega arith; holes = neither x.holes y.holes }
  HasType-scoped (of_application p q b e) =
      let x = HasType-scoped p in
      let y = HasType-scoped q in
      let h = x.variables in
      let k = y.variables in
      record { variables = omega arith; holes = neither x.holes y.holes }
  HasType-scoped (of_projection qs e p w l h k) = let x = HasType-scoped p in record { variables = x.variables; holes = x.holes }
  HasType-scoped (reduced p s) = HasType-scoped p
  HasType-scoped (weaker p b q) = HasType-scoped p

  pub HasType-declared : {G : List Tree} {t u : Tree} → HasType E G t u → IsDeclared E t
  HasType-declared (of_prop e) = tt
  HasType-declared (of_level h e) = tt
  HasType-declared (of_variable h e) = tt
  HasType-declared (of_constant e) = ap is_some e
  HasType-declared (of_product p q e) = (HasType-declared p, HasType-declared q)
  HasType-declared (of_function p q) = (HasType-declared p, HasType-declared q)
  HasType-declared (of_application p q b e) = (HasType-declared p, HasType-declared q)
  HasType-declared (of_projection {i = i} {T = T} {R = R} qs e p w l h k) =
      ((R, e, slice_get_within R.fields i T h), HasType-declared p)
  HasType-declared (reduced p s) = HasType-declared p
  HasType-declared (weaker p b q) = HasType-declared p

  scoped-at : (n m : ℕ) (t : Tree) → n ≡ m → IsScoped n t → IsScoped m t
  scoped-at n m t e h = subst (λ k. IsScoped k t) e h

  pub AreTypes-scoped : (G ts : List Tree) (n : ℕ) → length G ≡ n → AreTypes E G ts → AreScoped n ts
  AreTypes-scoped G [] n e h = tt
  AreTypes-scoped G (t ∷ ts) n e h =
      (scoped-at _ n t e (HasType-scoped h.0.1), AreTypes-scoped (t ∷ G) ts (n + 1) (omega arith) h.1)

  pub AreTypesBelow-types : (k : ℕ) (G ts : List Tree) → AreTypesBelow E k G ts → AreTypes E G ts
  AreTypesBelow-types k G [] h = tt
  AreTypesBelow-types k G (t ∷ ts) h = ((h.0.0, h.0.1), AreTypesBelow-types k (t ∷ G) ts h.1)

  pub AreTypes-declared : (G ts : List Tree) → AreTypes E G ts → AreDeclared E ts
  AreTypes-declared G [] h = tt
  AreTypes-declared G (t ∷ ts) h = (HasType-declared h.0.1, AreTypes-declared (t ∷ G) ts h.1)

  -- types after types
  pub AreTypes-append : (G ts us : List Tree) → AreTypes E G ts → AreTypes E (extended G ts) us → AreTypes E G (ts ++ us)
  AreTypes-append G [] us h g = g
  AreTypes-append G (t ∷ ts) us h g = (h.0, AreTypes-append (t ∷ G) ts us h.1 g)

  -- the types of a record's parameters and fields
  record-types : (k : ℕ) (ps fs : List Tree) → AreTypes E [] ps → AreTypesBelow E k (extended [] ps) fs → AreTypes E [] (ps ++ fs)
  record-types k ps fs h g = AreTypes-append [] ps fs h (AreTypesBelow-types k (extended [] ps) fs g)

  pub IsTyped-scoped : (d : Decl) → IsTyped E d → IsScopedDecl d
  IsTyped-scoped (an_axiom n t) h = HasType-scoped h.1
  IsTyped-scoped (a_definition n t b) h = (HasType-scoped h.0.1, HasType-scoped h.1)
  IsTyped-scoped (a_record n m ps k fs) h =
      AreTypes-scoped [] (ps ++ field_types fs) 0 refl (record-types k ps (field_types fs) h.0 h.1)

  pub IsTyped-declared : (d : Decl) → IsTyped E d → AreDeclared E (terms_of d)
  IsTyped-declared (an_axiom n t) h = (HasType-declared h.1, tt)
  IsTyped-declared (a_definition n t b) h = (HasType-declared h.0.1, (HasType-declared h.1, tt))
  IsTyped-declared (a_record n m ps k fs) h =
      AreTypes-declared [] (ps ++ field_types fs) (record-types k ps (field_types fs) h.0 h.1)

-- each declaration of a typed list is typed in the whole
pub typed-at : (E ds : List Decl) (n : ℕ) (d : Decl) → AreTyped E ds → slice_get ds n ≡ Some d → IsTyped (E ++ ds) d
typed-at E [] n d h e = absurd (none-some d e)
typed-at E (x ∷ ds) zero d h e = subst (λ y. IsTyped (E ++ x ∷ ds) y) (Some-injective x d e) (IsTyped-longer E (x ∷ ds) x h.0)
typed-at E (x ∷ ds) (suc n) d h e =
    subst (λ Z. IsTyped Z d) (append_assoc E (x ∷ []) ds) (typed-at (E ++ x ∷ []) ds n d h.1 e)

module _ (E : List Decl) (w : WellFormed E) where
  pub well_formed-typed : (n : ℕ) (d : Decl) → slice_get E n ≡ Some d → IsTyped E d
  well_formed-typed n d e = typed-at [] E n d w.typed e

  pub well_formed-declared : IsDeclaredEnv E
  well_formed-declared n d e = IsTyped-declared E d (well_formed-typed n d e)

  pub well_formed-scoped : (n : ℕ) (d : Decl) → slice_get E n ≡ Some d → IsScopedDecl d
  well_formed-scoped n d e = IsTyped-scoped E d (well_formed-typed n d e)

  pub well_formed-closed : AreBodiesClosed E
  well_formed-closed n b h = go (slice_get E n) refl h
    where
      go : (o : Option Decl) → slice_get E n ≡ o → body_in o ≡ Some b → loose b ≤ 0
      go None e k = absurd (none-some b k)
      go (Some (an_axiom m t)) e k = absurd (none-some b k)
      go (Some (a_definition m t x)) e k =
          subst (λ y. loose y ≤ 0) (Some-injective x b k) ((well_formed-scoped n _ e).1.variables)
      go (Some (a_record m l ps j fs)) e k = absurd (none-some b k)

-- declarations at the end, and prefixes
pub AreTyped-push : (E ds : List Decl) (d : Decl) → AreTyped E ds → IsTyped (E ++ ds) d → AreTyped E (ds ++ d ∷ [])
AreTyped-push E [] d h g = (subst (λ Z. IsTyped Z d) (append-nil E) g, tt)
AreTyped-push E (x ∷ ds) d h g =
    (h.0, AreTyped-push (E ++ x ∷ []) ds d h.1 (subst (λ Z. IsTyped Z d) (sym (append_assoc E (x ∷ []) ds)) g))

pub AreTyped-prefix : (E ds es : List Decl) → AreTyped E (ds ++ es) → AreTyped E ds
AreTyped-prefix E [] es h = tt
AreTyped-prefix E (x ∷ ds) es h = (h.0, AreTyped-prefix (E ++ x ∷ []) ds es h.1)

pub names-append : (ds es : List Decl) → names (ds ++ es) ≡ names ds ++ names es
names-append [] es = refl
names-append (d ∷ ds) es = ap (λ ns. names_of d ++ ns) (names-append ds es) ∙ sym (append_assoc (names_of d) (names ds) (names es))

pub in-first : (n : ℕ) (xs ys : List ℕ) → IsIn n xs → IsIn n (xs ++ ys)
in-first n [] ys h = absurd h
in-first n (x ∷ xs) ys h = ⊎_elim (λ e. inl e) (λ k. inr (in-first n xs ys k)) h

pub Distinct-prefix : (xs ys : List ℕ) → Distinct (xs ++ ys) → Distinct xs
Distinct-prefix [] ys h = tt
Distinct-prefix (x ∷ xs) ys h = ((λ k. h.0 (in-first x xs ys k)), Distinct-prefix xs ys h.1)

pub well_formed-prefix : (E F : List Decl) → WellFormed (E ++ F) → WellFormed E
well_formed-prefix E F w =
    record {
      distinct = Distinct-prefix (names E) (names F) (subst (λ ns. Distinct ns) (names-append E F) w.distinct);
      typed = AreTyped-prefix [] E F w.typed;
    }

pub well_formed-push : (E : List Decl) (d : Decl) → WellFormed E → IsTyped E d → Distinct (names (E ++ d ∷ [])) → WellFormed (E ++ d ∷ [])
well_formed-push E d w h g = record { distinct = g; typed = AreTyped-push [] E d w.typed h }

pub well_formed-empty : WellFormed []
well_formed-empty = record { distinct = tt; typed = tt }
