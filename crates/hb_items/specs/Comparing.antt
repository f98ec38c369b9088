-- Declarations of a library beside those that are made.
use Rattle.std.specs.Prelude.{◌≡◌, ℕ, ◌<◌, List, length, take, slice_get}
use Rattle.std.specs.Option.{unwrap_or}
use Rattle.hb_calculus.specs.Declarations.{Decl}
use Rattle.hb_env.specs.declared.entry.Places.{Places}
use Rattle.hb_env.specs.declared.refusal.Refusal.{Refusal}
use Rattle.hb_env.specs.declared.refusal.What.TheVariants.{BadLibrary}

-- the library isn't as its format says at this byte
abbrev pub bad_at : Places → ℕ → Refusal
bad_at p at = record { span = record { file = p.span.file; from = at; to = at }; what = BadLibrary }

-- the first byte of the declaration with this number
abbrev pub place_of : Places → ℕ → ℕ
place_of p i = unwrap_or (slice_get p.decls.items i) p.count

-- the lists differ first here, or in their lengths
pub record IsFirstOther (ds made : List Decl) (i : ℕ) : Type 0 where
  pub within : length ds ≡ length made → i < length ds
  pub before : length ds ≡ length made → take i ds ≡ take i made
  pub other : length ds ≡ length made → ¬ (slice_get ds i ≡ slice_get made i)

-- the declarations aren't those that are made, and this is the place: the count where their numbers differ, else the
-- first declaration that differs
pub data IsOther (p : Places) (ds made : List Decl) (at : ℕ) : Type 0 where
  other_count : ¬ (length ds ≡ length made) → at ≡ p.count → IsOther p ds made at
  other_decl :
      (i : ℕ) → length ds ≡ length made → i < length ds → take i ds ≡ take i made
      → ¬ (slice_get ds i ≡ slice_get made i) → at ≡ place_of p i → IsOther p ds made at
