-- Values that `clap` found.
use Rattle.std.proofs.Common.{◌≡◌, ℕ, Result, IfOk, List, [], true, Option, None, Some, refl, sym, subst}
use Rattle.std.specs.Prelude.{unwrap_or}
use Rattle.clap.specs.Words.{Text, is_simple, is_simple_and_free}
use Rattle.hb_words.specs.Commands.{row_app}
use Rattle.hb_words.specs.declared.row.Row.{Row}
use Rattle.hb_words.specs.declared.row.Row.TheVariants.{Compile, Save, Core, Refactor, Sample, Show, Certify, Verify}
use Rattle.hb_words.specs.Asked.{IsNumberOf}
use Rattle.hb_words.specs.Numbers.{IsNumber}

pub no_number : (o : Option Text) → o ≡ None → IsNumberOf o None
no_number None is = refl
no_number (Some t) is = absurd (some_is_there t is)
  where
    is_there : Option Text → Type 0
    is_there None = ⊥
    is_there (Some u) = Unit {0}

    some_is_there : (u : Text) → Some u ≡ None → ⊥
    some_is_there u same = subst is_there same tt

pub a_number : (o : Option Text) (t : Text) (n : ℕ) → o ≡ Some t → IsNumber t n → IsNumberOf o (Some n)
a_number o t n is h = subst (λ x. IsNumberOf x (Some n)) (sym is) h

pub row_is_simple : (row : Row) → is_simple (row_app row) ≡ true
row_is_simple Compile = refl
row_is_simple Save = refl
row_is_simple Core = refl
row_is_simple Refactor = refl
row_is_simple Sample = refl
row_is_simple Show = refl
row_is_simple Certify = refl
row_is_simple Verify = refl

pub row_is_free : (row : Row) → is_simple_and_free (row_app row) ≡ true
row_is_free Compile = refl
row_is_free Save = refl
row_is_free Core = refl
row_is_free Refactor = refl
row_is_free Sample = refl
row_is_free Show = refl
row_is_free Certify = refl
row_is_free Verify = refl

-- the values of an argument, where there are some and where there are none
pub some_values : {A E : Type 0} (f : A → List Text) (r : Result A E) (vs : List Text) (o : Option (List Text))
    → Some vs ≡ o → IfOk r (λ t. f t ≡ vs) → IfOk r (λ t. f t ≡ unwrap_or o [])
some_values f r vs o is h = subst (λ x. IfOk r (λ t. f t ≡ unwrap_or x [])) is h

pub no_values : (o : Option (List Text)) → None ≡ o → [] ≡ unwrap_or o []
no_values o is = subst (λ x. [] ≡ unwrap_or x []) is refl
