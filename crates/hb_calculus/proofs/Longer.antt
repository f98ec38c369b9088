-- Derivations in an environment hold in every longer one.
use Rattle.std.proofs.Common.{◌≡◌, ◌∙◌, sym, refl, ℕ, zero, suc, List, [], ◌∷◌, ◌++◌}
use Rattle.std.specs.Prelude.{Option, Some, None, slice_get}
use Rattle.std.proofs.lemmas.Option.{none-some}
use Rattle.hb_tree.specs.Tree.{Tree}
use Rattle.hb_calculus.specs.Declarations.{Decl, an_axiom, a_definition, a_record, body_in, record_in, field_types}
use Rattle.hb_calculus.specs.Telescopes.{type_in}
use Rattle.hb_calculus.specs.Step.{Contracts, beta, delta, projection, Step, here, in_domain, in_codomain, in_binder, in_body, in_function, in_argument, in_projected, Steps, done, more}
use Rattle.hb_calculus.specs.Conversion.{EtaContracts, eta, record_eta, Convertible, same, back, chain, by_step, by_eta, of_pi, of_lam, of_app, of_proj, Below, equal, through, sorts, codomains}
use Rattle.hb_calculus.specs.Typing.{HasType, of_prop, of_level, of_variable, of_constant, of_product, of_function, of_application, of_projection, reduced, weaker, IsType, AreTypes, AreTypesBelow, IsTyped}

-- what a look-up finds, it finds in a longer list
pub found-longer :
    {A : Type 0} (g : Option Decl → Option A) → g None ≡ None → (E F : List Decl) (n : ℕ) (x : A)
    → g (slice_get E n) ≡ Some x → g (slice_get (E ++ F) n) ≡ Some x
found-longer g e [] F n x h = absurd (none-some x (sym e ∙ h))
found-longer g e (d ∷ ds) F zero x h = h
found-longer g e (d ∷ ds) F (suc n) x h = found-longer g e ds F n x h

module _ (E F : List Decl) where
  pub Contracts-longer : {t u : Tree} → Contracts E t u → Contracts (E ++ F) t u
  Contracts-longer (beta e) = beta e
  Contracts-longer (delta {c = c} {u = u} m e) = delta m (found-longer body_in refl E F c.decl u e)
  Contracts-longer (projection {r = r} {R = R} qs fs e p q h k) =
      projection qs fs (found-longer record_in refl E F r.0 R e) p q h k

  pub Step-longer : {t u : Tree} → Step E t u → Step (E ++ F) t u
  Step-longer (here s) = here (Contracts-longer s)
  Step-longer (in_domain s) = in_domain (Step-longer s)
  Step-longer (in_codomain s) = in_codomain (Step-longer s)
  Step-longer (in_binder s) = in_binder (Step-longer s)
  Step-longer (in_body s) = in_body (Step-longer s)
  Step-longer (in_function s) = in_function (Step-longer s)
  Step-longer (in_argument s) = in_argument (Step-longer s)
  Step-longer (in_projected s) = in_projected (Step-longer s)

  pub Steps-longer : {t u : Tree} → Steps E t u → Steps (E ++ F) t u
  Steps-longer done = done
  Steps-longer (more s r) = more (Step-longer s) (Steps-longer r)

  pub EtaContracts-longer : {t u : Tree} → EtaContracts E t u → EtaContracts (E ++ F) t u
  EtaContracts-longer (eta e) = eta e
  EtaContracts-longer (record_eta r {R = R} qs e p h k) = record_eta r qs (found-longer record_in refl E F r.0 R e) p h k

  pub Convertible-longer : {t u : Tree} → Convertible E t u → Convertible (E ++ F) t u
  Convertible-longer same = same
  Convertible-longer (back c) = back (Convertible-longer c)
  Convertible-longer (chain c d) = chain (Convertible-longer c) (Convertible-longer d)
  Convertible-longer (by_step s) = by_step (Step-longer s)
  Convertible-longer (by_eta s) = by_eta (EtaContracts-longer s)
  Convertible-longer (of_pi c d) = of_pi (Convertible-longer c) (Convertible-longer d)
  Convertible-longer (of_lam c d) = of_lam (Convertible-longer c) (Convertible-longer d)
  Convertible-longer (of_app c d) = of_app (Convertible-longer c) (Convertible-longer d)
  Convertible-longer (of_proj c) = of_proj (Convertible-longer c)

  pub Below-longer : {t u : Tree} → Below E t u → Below (E ++ F) t u
  Below-longer (equal c) = equal (Convertible-longer c)
  Below-longer (through p q) = through (Below-longer p) (Below-longer q)
  Below-longer (sorts h) = sorts h
  Below-longer (codomains c p) = codomains (Convertible-longer c) (Below-longer p)

  pub HasType-longer : {G : List Tree} {t u : Tree} → HasType E G t u → HasType (E ++ F) G t u
  HasType-longer (of_prop e) = of_prop e
  HasType-longer (of_level h e) = of_level h e
  HasType-longer (of_variable h e) = of_variable h e
  HasType-longer (of_constant {c = c} {u = u} e) =
      of_constant (found-longer (λ o. type_in o c) refl E F c.decl u e)
  HasType-longer (of_product p q e) = of_product (HasType-longer p) (HasType-longer q) e
  HasType-longer (of_function p q) = of_function (HasType-longer p) (HasType-longer q)
  HasType-longer (of_application p q b e) = of_application (HasType-longer p) (HasType-longer q) (Below-longer b) e
  HasType-longer (of_projection {r = r} {R = R} qs e p w l h k) =
      of_projection qs (found-longer record_in refl E F r.0 R e) (HasType-longer p) w l h k
  HasType-longer (reduced p s) = reduced (HasType-longer p) (Steps-longer s)
  HasType-longer (weaker p b q) = weaker (HasType-longer p) (Below-longer b) (HasType-longer q)

  pub IsType-longer : (G : List Tree) (t : Tree) → IsType E G t → IsType (E ++ F) G t
  IsType-longer G t p = (p.0, HasType-longer p.1)

  pub AreTypes-longer : (G ts : List Tree) → AreTypes E G ts → AreTypes (E ++ F) G ts
  AreTypes-longer G [] p = tt
  AreTypes-longer G (t ∷ ts) p = (IsType-longer G t p.0, AreTypes-longer (t ∷ G) ts p.1)

  pub AreTypesBelow-longer : (k : ℕ) (G ts : List Tree) → AreTypesBelow E k G ts → AreTypesBelow (E ++ F) k G ts
  AreTypesBelow-longer k G [] p = tt
  AreTypesBelow-longer k G (t ∷ ts) p =
      ((p.0.0, HasType-longer p.0.1, Below-longer p.0.2), AreTypesBelow-longer k (t ∷ G) ts p.1)

  pub IsTyped-longer : (d : Decl) → IsTyped E d → IsTyped (E ++ F) d
  IsTyped-longer (an_axiom n t) p = IsType-longer [] t p
  IsTyped-longer (a_definition n t b) p = (IsType-longer [] t p.0, HasType-longer p.1)
  IsTyped-longer (a_record n m ps k fs) p =
      (AreTypes-longer [] ps p.0, AreTypesBelow-longer k _ (field_types fs) p.1)
