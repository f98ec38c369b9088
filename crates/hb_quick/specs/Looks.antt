-- What the parts of a look find.
use Rattle.std.specs.Prelude.{◌≡◌, ℕ, ◌+◌, ◌<◌, List, length, Some, slice_get}
use Rattle.hb_tree.specs.Tree.{Tree, app, proj, head_of, args_of}
use Rattle.hb_tree.specs.declared.leaves.RecId.{RecId}
use Rattle.hb_calculus.specs.Declarations.{Decl, Record, record_in}
use Rattle.hb_calculus.specs.Telescopes.{maker}
use Rattle.hb_calculus.specs.Conversion.{Convertible}

-- the maker of the record at the place r, with all parameters and its n fields, of which it has some
pub record IsFullMaker (E : List Decl) (t : Tree) (r : RecId) (n : ℕ) : Type 0 where
  pub R : Record
  pub declared : record_in (slice_get E r.0) ≡ Some R
  pub head : head_of t ≡ maker r.0
  pub arguments : length (args_of t) ≡ length R.params + length R.fields
  pub fields : n ≡ length R.fields
  pub some : 0 < n

-- the last n arguments of t are convertible with the first n projections of u
pub data AreProjections (E : List Decl) (r : RecId) (u : Tree) : ℕ → Tree → Type 0 where
  no_more : {n : ℕ} {t : Tree} → n ≡ 0 → AreProjections E r u n t
  one_more :
      {n m : ℕ} {t f a : Tree} → n ≡ m + 1 → t ≡ app f a → Convertible E a (proj r m u) → AreProjections E r u m f
      → AreProjections E r u n t

-- two terms that are convertible with the two terms a and b
pub record AreReached (E : List Decl) (a b : Tree) (p : Tree × Tree) : Type 0 where
  pub first : Convertible E a p.0
  pub second : Convertible E b p.1
