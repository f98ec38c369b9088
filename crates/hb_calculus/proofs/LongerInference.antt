-- Inferred types hold in every longer environment, for terms that name only what is declared: a term that
-- doesn't can have a step more there.
use Rattle.std.proofs.Common.{◌≡◌, ◌∙◌, sym, refl, ap, ℕ, zero, suc, ◌+◌, Bool, true, false, cond, inl, inr, ⊎_elim, List, [], ◌∷◌, ◌++◌, length, arith}
use Rattle.std.specs.Prelude.{Option, Some, None, slice_get, is_some, option_map, option_and_then}
use Rattle.std.specs.Option.{option_or}
use Rattle.std.proofs.lemmas.Option.{none-some, slice_get_within}
use Rattle.hb_tree.specs.Tree.{Tree, sort, pi, app, const, proj, head_of, args_of}
use Rattle.hb_tree.specs.declared.leaves.ConstId.{ConstId}
use Rattle.hb_tree.specs.declared.leaves.Sort.{Sort}
use Rattle.hb_calculus.specs.Declarations.{Decl, an_axiom, a_definition, a_record, body_in, record_in, field_types}
use Rattle.hb_calculus.specs.Telescopes.{former, former_type, maker_type, type_in, projections}
use Rattle.hb_calculus.specs.Scope.{IsField, IsDeclared, AreDeclared, IsDeclaredEnv}
use Rattle.hb_calculus.specs.Budget.{Budget}
use Rattle.hb_calculus.specs.Contraction.{contract, field_of, head_step}
use Rattle.hb_calculus.specs.Sequence.{head_sequence, IsHeadForm, HeadExceeds}
use Rattle.hb_calculus.specs.Inference.{Infers, infers_prop, infers_level, infers_variable, infers_constant, infers_product, infers_function, infers_application, infers_projection, HeadIs, SortIs, Checks}
use Rattle.hb_calculus.proofs.Options.{Some-injective, cond-none, is-value}
use Rattle.hb_calculus.proofs.Longer.{found-longer, Below-longer}
use Rattle.hb_calculus.proofs.Sequences.{head_sequence-steps, head_form-steps}
use Rattle.hb_calculus.proofs.Declared.{declared-along, declared-lift, declared-subst, all-append, all-before, all-behind, all-at, declared-apply, applied-args, declared-filled, declared-products, declared-variables, declared-projections, declared-record, Steps-declared}

-- what a look-up finds makes the place the same in a longer list
same-place :
    {A : Type 0} (g : Option Decl → Option A) → g None ≡ None → (E F : List Decl) (n : ℕ) (x : A)
    → g (slice_get E n) ≡ Some x → slice_get (E ++ F) n ≡ slice_get E n
same-place g e [] F n x h = absurd (none-some x (sym e ∙ h))
same-place g e (d ∷ ds) F zero x h = refl
same-place g e (d ∷ ds) F (suc n) x h = same-place g e ds F n x h

module _ (E F : List Decl) where
  const-place : (c : ConstId) → IsDeclared E (const c) → slice_get (E ++ F) c.decl ≡ slice_get E c.decl
  const-place c h = let v = is-value _ h in same-place (λ o. type_in o c) refl E F c.decl v.0 v.1

  field-place : (r i : ℕ) → IsField E r i → slice_get (E ++ F) r ≡ slice_get E r
  field-place r i h = same-place record_in refl E F r h.0 h.1

  contract-longer : (t : Tree) → IsDeclared E t → contract (E ++ F) t ≡ contract E t
  contract-longer (const c) h = ap (λ o. cond c.maker None (body_in o)) (const-place c h)
  contract-longer (proj r i t) h = ap (λ o. field_of (record_in o) r.0 i (head_of t) (args_of t)) (field-place r.0 i h.0)
  contract-longer t h = refl

  head-longer : (t : Tree) → IsDeclared E t → head_step (E ++ F) t ≡ head_step E t
  head-longer (app f a) h = ap (λ o. option_or (contract E (app f a)) (option_map (λ x. app x a) o)) (head-longer f h.0)
  head-longer (proj r i t) h =
      λ j. option_or (contract-longer (proj r i t) h j) (option_map (λ x. proj r i x) (head-longer t h.1 j))
  head-longer (const c) h = contract-longer (const c) h
  head-longer t h = refl

module _ (E F : List Decl) (env : IsDeclaredEnv E) where
  head_sequence-declared : (n : ℕ) (t u : Tree) → IsDeclared E t → head_sequence E t n ≡ Some u → IsDeclared E u
  head_sequence-declared n t u h e = Steps-declared E env (head_sequence-steps E n t u e) h

  head_sequence-longer : (n : ℕ) (t : Tree) → IsDeclared E t → head_sequence (E ++ F) t n ≡ head_sequence E t n
  head_sequence-longer zero t h = refl
  head_sequence-longer (suc n) t h = go (head_sequence E t n) refl (head_sequence-longer n t h)
    where
      go : (o : Option Tree) → head_sequence E t n ≡ o → head_sequence (E ++ F) t n ≡ head_sequence E t n
          → head_sequence (E ++ F) t (suc n) ≡ head_sequence E t (suc n)
      go None e k =
          ap (option_and_then (head_step (E ++ F))) (k ∙ e) ∙ sym (ap (option_and_then (head_step E)) e)
      go (Some u) e k =
          ap (option_and_then (head_step (E ++ F))) (k ∙ e)
          ∙ head-longer E F u (head_sequence-declared n t u h e)
          ∙ sym (ap (option_and_then (head_step E)) e)

  IsHeadForm-longer : (t w : Tree) → IsDeclared E t → IsHeadForm E t w → IsHeadForm (E ++ F) t w
  IsHeadForm-longer t w h p =
      record {
        count = p.count;
        at = head_sequence-longer p.count t h ∙ p.at;
        no_more = head_sequence-longer (suc p.count) t h ∙ p.no_more;
      }

  HeadExceeds-shorter : (L : Budget) (t : Tree) → IsDeclared E t → HeadExceeds (E ++ F) L t → HeadExceeds E L t
  HeadExceeds-shorter L t h p =
      ⊎_elim
      (λ q. inl (q.0, sym (head_sequence-longer (suc L.steps) t h) ∙ q.1))
      (λ q. inr (q.0, q.1, sym (head_sequence-longer q.0 t h) ∙ q.2, q.3))
      p

  pub HeadIs-longer : (L : Budget) (t w : Tree) → IsDeclared E t → HeadIs E L t w → HeadIs (E ++ F) L t w
  HeadIs-longer L t w h p =
      record { form = IsHeadForm-longer t w h p.form; within = λ x. p.within (HeadExceeds-shorter L t h x) }

module _ (E : List Decl) (env : IsDeclaredEnv E) where
  declared-type : (c : ConstId) (u : Tree) → type_in (slice_get E c.decl) c ≡ Some u → IsDeclared E u
  declared-type c u h = go (slice_get E c.decl) refl h
    where
      plain : (t : Tree) → IsDeclared E t → cond c.maker None (Some t) ≡ Some u → IsDeclared E u
      plain t g k = declared-along E t u (Some-injective t u (cond-none c.maker (Some t) u k).1) g

      made : (n m : ℕ) (ps : List Tree) (k : ℕ) (fs : List (ℕ × Tree)) → slice_get E c.decl ≡ Some (a_record n m ps k fs)
          → IsDeclared E (maker_type c.decl (record { params = ps; level = k; fields = field_types fs }))
      made n m ps k fs e =
          declared-products E (ps ++ field_types fs) _
          (env c.decl _ e)
          (declared-apply E (former c.decl) _
          (ap (λ o. is_some (type_in o (record { decl = c.decl; maker = false }))) e)
          (declared-variables E (length ps) (length (field_types fs))))

      formed : (n m : ℕ) (ps : List Tree) (k : ℕ) (fs : List (ℕ × Tree)) → slice_get E c.decl ≡ Some (a_record n m ps k fs)
          → IsDeclared E (former_type (record { params = ps; level = k; fields = field_types fs }))
      formed n m ps k fs e = declared-products E ps _ (all-before E ps (field_types fs) (env c.decl _ e)) tt

      either : (b : Bool) (x y : Tree) → IsDeclared E x → IsDeclared E y → IsDeclared E (cond b x y)
      either true x y p q = p
      either false x y p q = q

      go : (o : Option Decl) → slice_get E c.decl ≡ o → type_in o c ≡ Some u → IsDeclared E u
      go None e k = absurd (none-some u k)
      go (Some (an_axiom n t)) e k = plain t (env c.decl _ e).0 k
      go (Some (a_definition n t b)) e k = plain t (env c.decl _ e).0 k
      go (Some (a_record n m ps j fs)) e k =
          declared-along E _ u (Some-injective _ u k) (either c.maker _ _ (made n m ps j fs e) (formed n m ps j fs e))

module _ (E : List Decl) (env : IsDeclaredEnv E) (L : Budget) where
  HeadIs-declared : (t w : Tree) → HeadIs E L t w → IsDeclared E t → IsDeclared E w
  HeadIs-declared t w p h = Steps-declared E env (head_form-steps E t w p.form) h

  pub Infers-declared : {G : List Tree} {t u : Tree} → Infers E L G t u → AreDeclared E G → IsDeclared E t → IsDeclared E u
  Infers-declared (infers_prop e) g h = declared-along E _ _ (sym e) tt
  Infers-declared (infers_level k e) g h = declared-along E _ _ (sym e) tt
  Infers-declared (infers_variable {G = G} {v = v} {t = t} f e) g h =
      declared-along E _ _ (sym e) (declared-lift E t (v + 1) 0 (all-at E G v t f g))
  Infers-declared (infers_constant {c = c} {u = u} e) g h = declared-type E env c u e
  Infers-declared (infers_product p k q l e) g h = declared-along E _ _ (sym e) tt
  Infers-declared (infers_function p k q) g h = (h.0, Infers-declared q (h.0, g) h.1)
  Infers-declared (infers_application {x = x} {F = A} {a = a} {b = b} p k q l e) g h =
      let w = HeadIs-declared A (pi a b) k (Infers-declared p g h.0) in
      declared-along E _ _ (sym e) (declared-subst E b x 0 w.1 h.1)
  Infers-declared (infers_projection {r = r} {i = i} {t = t} {T = T} {w = w} {F = A} {R = R} qs d p k f n s e) g h =
      let fit = slice_get_within R.fields i A s in
      let whole = HeadIs-declared T w k (Infers-declared p g h.1) in
      let args = applied-args E (former r.0) qs (declared-along E w _ f whole) in
      let field = all-at E R.fields i A s (all-behind E R.params R.fields (declared-record E env r.0 R d)) in
      declared-along E _ _
      (sym e)
      (declared-filled E A (qs ++ projections r 0 i t) field
      (all-append E qs _ args (declared-projections E r R 0 i t d (omega arith) h.1)))

module _ (E F : List Decl) (env : IsDeclaredEnv E) (L : Budget) where
  pub Infers-longer : {G : List Tree} {t u : Tree} → Infers E L G t u → AreDeclared E G → IsDeclared E t → Infers (E ++ F) L G t u
  Infers-longer (infers_prop e) g h = infers_prop e
  Infers-longer (infers_level k e) g h = infers_level k e
  Infers-longer (infers_variable f e) g h = infers_variable f e
  Infers-longer (infers_constant {c = c} {u = u} e) g h = infers_constant (found-longer (λ o. type_in o c) refl E F c.decl u e)
  Infers-longer (infers_product {a = a} {A = A} {B = B} {s = s} {s' = s'} p k q l e) g h =
      infers_product
      (Infers-longer p g h.0)
      (HeadIs-longer E F env L A (sort s) (Infers-declared E env L p g h.0) k)
      (Infers-longer q (h.0, g) h.1)
      (HeadIs-longer E F env L B (sort s') (Infers-declared E env L q (h.0, g) h.1) l)
      e
  Infers-longer (infers_function {a = a} {A = A} {s = s} p k q) g h =
      infers_function
      (Infers-longer p g h.0)
      (HeadIs-longer E F env L A (sort s) (Infers-declared E env L p g h.0) k)
      (Infers-longer q (h.0, g) h.1)
  Infers-longer (infers_application {F = A} {a = a} {b = b} p k q l e) g h =
      infers_application
      (Infers-longer p g h.0)
      (HeadIs-longer E F env L A (pi a b) (Infers-declared E env L p g h.0) k)
      (Infers-longer q g h.1)
      (Below-longer E F l)
      e
  Infers-longer (infers_projection {r = r} {T = T} {w = w} {R = R} qs d p k f n s e) g h =
      infers_projection
      qs
      (found-longer record_in refl E F r.0 R d)
      (Infers-longer p g h.1)
      (HeadIs-longer E F env L T w (Infers-declared E env L p g h.1) k)
      f
      n
      s
      e

  pub SortIs-longer : (G : List Tree) (t : Tree) (s : Sort) → SortIs E L G t s → AreDeclared E G → IsDeclared E t → SortIs (E ++ F) L G t s
  SortIs-longer G t s p g h =
      record {
        type_is = p.type_is;
        infers = Infers-longer p.infers g h;
        head = HeadIs-longer E F env L p.type_is (sort s) (Infers-declared E env L p.infers g h) p.head;
      }

  pub Checks-longer : (G : List Tree) (t u : Tree) → Checks E L G t u → AreDeclared E G → IsDeclared E t → IsDeclared E u → Checks (E ++ F) L G t u
  Checks-longer G t u p g h k =
      record {
        sort_is = p.sort_is;
        is_type = SortIs-longer G u p.sort_is p.is_type g k;
        type_is = p.type_is;
        infers = Infers-longer p.infers g h;
        below = Below-longer E F p.below;
      }
