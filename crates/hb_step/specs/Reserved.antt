-- Names that are kept for generated ones.
use Rattle.std.specs.Prelude.{ℕ, ◌==◌, Bool, false, List, [], ◌∷◌, Option, None, Some, codes, nat_eq, nat_le, ◌&&◌, ◌||◌}
use Rattle.std.specs.Str.{bytes_eq}
use Rattle.std.specs.List.{starts_with}

abbrev pub is_digit : ℕ → Bool
is_digit b = nat_le 48 b && nat_le b 57

-- digits, at least one
abbrev pub are_digits : List ℕ → Bool
are_digits [] = false
are_digits (b ∷ []) = is_digit b
are_digits (b ∷ c ∷ rest) = is_digit b && are_digits (c ∷ rest)

-- `_` and digits
abbrev pub is_numbered : List ℕ → Bool
is_numbered [] = false
is_numbered (b ∷ digits) = (b == 95) && are_digits digits

-- a name that is kept for generated ones: `HB_` with more, or `_` and digits
abbrev pub is_reserved : List ℕ → Bool
is_reserved name = starts_with nat_eq name (codes "HB_") || is_numbered name

-- the name of a mixin, factory, structure or field in which generated names end
abbrev pub is_reserved_part : List ℕ → Bool
is_reserved_part name =
    bytes_eq name (codes "type") || bytes_eq name (codes "sort") || bytes_eq name (codes "class")
    || bytes_eq name (codes "Pack") || bytes_eq name (codes "Class") || bytes_eq name (codes "axioms_")
    || bytes_eq name (codes "Build")

-- whether the name of this number is kept
abbrev pub is_kept : (List ℕ → Bool) → Option (List ℕ) → Bool
is_kept kept None = false
is_kept kept (Some text) = kept text
