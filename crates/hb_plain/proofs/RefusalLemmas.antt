-- Refusals of parts as refusals of a command.
use Rattle.std.proofs.Common.{◌≡◌, ℕ, ◌<◌, ◌≤◌, ◌⊎◌, inl, inr, List, [], ◌∷◌, length, Option, None, Some, Result, Ok, Err, IfErr, slice_index_or, refl, sym, ap, ◌∙◌, arith}
use Rattle.std.specs.Option.{option_map}
use Rattle.std.proofs.Math.ListN.{length-map}
use Rattle.hb_base.specs.declared.span.Span.{Span}
use Rattle.hb_calculus.specs.Budget.{Budget}
use Rattle.hb_calculus.specs.Declarations as calculus
use Rattle.hb_env.specs.declared.decl.Decl.{Decl}
use Rattle.hb_env.specs.declared.refusal.Refusal.{Refusal}
use Rattle.hb_env.specs.Plain.{plain, plains}
use Rattle.hb_step.specs.Adding.{AddFails}
use Rattle.hb_world.specs.Worlds.{opened}
use Rattle.hb_world.specs.declared.section.Section.{Section}
use Rattle.hb_plain.specs.Refusing.{NotAddedAt, kernel_refuses, no_memory}

-- what follows for the error of a result
pub if_err : {T E : Type 0} {P Q : E → Type 0} → (r : Result T E) → ((e : E) → P e → Q e) → IfErr r P → IfErr r Q
if_err (Ok v) f h = tt
if_err (Err e) f h = f e h

pub if_err_both :
    {T E : Type 0} {P Q R : E → Type 0} → (r : Result T E) → ((e : E) → P e → Q e → R e) → IfErr r P → IfErr r Q → IfErr r R
if_err_both (Ok v) f h g = tt
if_err_both (Err e) f h g = f e h g

-- a section is as open as what it stands for
pub still_open : (o : Option Section) → ¬ (o ≡ None) → ¬ (option_map opened o ≡ None)
still_open None h = λ e. h refl
still_open (Some s) h = λ e. absurd (cc)

pub still_none : (o : Option Section) → o ≡ None → option_map opened o ≡ None
still_none o e = ap (option_map opened) e

-- the one item of a list
pub one_item : {X : Type 0} (xs : List X) (x : X) → 1 ≤ length xs → length xs < 2 → x ≡ slice_index_or xs 0 x → xs ≡ x ∷ []
one_item [] x a b e = absurd (omega arith)
one_item (y ∷ []) x a b e = ap (λ z. z ∷ []) (sym e)
one_item (y ∷ z ∷ zs) x a b e = absurd (omega arith)

pub not_one_plain : (ds : List Decl) (n : ℕ) → ¬ ((length ds ≡ 1) × (n ≡ 1)) → ¬ ((length (plains ds) ≡ 1) × (n ≡ 1))
not_one_plain ds n h = λ p. h (sym (length-map ds plain) ∙ p.0, p.1)

-- the one declaration isn't added
pub not_added_one :
    (E : List calculus.Decl) (L : Budget) (ds : List calculus.Decl) (name ty body : Span) (d : calculus.Decl) (r : Refusal)
    → ds ≡ d ∷ [] → (r.span ≡ ty) ⊎ (r.span ≡ body) → AddFails E L d r.what → NotAddedAt E L ds name ty body r
not_added_one E L ds name ty body d r e p (inl m) = no_memory m
not_added_one E L ds name ty body d r e p (inr n) = kernel_refuses e n p
